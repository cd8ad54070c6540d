use Rattle.std.proofs.Common.{◌≡◌, List, ap, subst, ◌∙◌, sym}
use Rattle.std.specs.List.{flat_map}
use Rattle.net_rules.specs.Names.{names_at, file_names}
use Rattle.arc_base.specs.Lists.{AreDistinct}
use Rattle.net_rules.specs.Sites.{FullName, full_names}
use Rattle.net_rules.proofs.NameLists.{pieces_front, full_names-by_file}
use Rattle.arc_base.proofs.Items.{pieces_more, pieces_all}
use Rattle.net_rules.proofs.names.index_names.Goals as goal

pub add_file-requires : goal.add_file-requires
add_file-requires c =
    let whole : full_names c.args.configs.now ≡ flat_map file_names c.slice-config-items.result.now =
    full_names-by_file c.args.configs.now ∙ ap (flat_map file_names) (sym c.slice-config-items.ensures.items) in
    pieces_front (λ (x : FullName) (y : FullName). x ≡ y → ⊥) file_names (names_at c.loop-config.names.keys) c.slice-config-items.result.now c.loop-config.config-index
    c.config-item.result c.loop-config-test.true c.config-item.is c.loop-config.invariant (subst (λ (l : List FullName). AreDistinct l) whole c.requires)

pub loop-config-preserved : goal.loop-config-preserved
loop-config-preserved c =
    pieces_more file_names (names_at c.loop-config.names.keys) (names_at c.add_file.new.names.keys) c.slice-config-items.result.now c.loop-config.config-index
    c.config-item.result c.loop-config-test.true c.config-item.is c.loop-config.invariant c.in_ok-add_file.ensures

pub returns : goal.returns
returns c =
    pieces_all file_names (names_at c.loop-config.names.keys) c.slice-config-items.result.now c.loop-config.config-index c.loop-config-test.false c.loop-config.invariant ∙
    ap (flat_map file_names) c.slice-config-items.ensures.items ∙ sym (full_names-by_file c.args.configs.now)
