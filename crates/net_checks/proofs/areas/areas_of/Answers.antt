use Rattle.std.proofs.Common.{rules, ℕ, ◌++◌, ◌∙◌}
use Rattle.std.specs.Prelude.{Ok}
use Rattle.std.specs.List.{filter_map}
use Rattle.std.proofs.lemmas.Iterator.{items_from_collect, YieldsList-from_slice}
use Rattle.std.proofs.lemmas.Iterator.Consumers.{YieldsList-from_filter_map, YieldsList-from_chain}
use Rattle.net_rules.specs.Routers.{line_area, face_area}
use Rattle.net_checks.proofs.areas.areas_of.Goals as goal

pub returns : goal.returns
returns c =
    items_from_collect {E = ℕ} (Ok c.in_ok-collect.field-0) c.in_ok-collect.ensures.ran
    (YieldsList-from_chain
    (YieldsList-from_filter_map _ _ (YieldsList-from_slice c.lines_of.result.now cc) (cc (c.filter_map-of_lines.ensures.closure)) (λ x r q k. search rules))
    (YieldsList-from_filter_map _ _ (YieldsList-from_slice c.slice.result.now cc) (cc (c.filter_map-of_faces.ensures.closure)) (λ x r q k. search rules)) (cc) (cc))
    ∙ (λ i. filter_map line_area (c.lines_of.ensures i) ++ filter_map face_area (c.slice.ensures.items i))
