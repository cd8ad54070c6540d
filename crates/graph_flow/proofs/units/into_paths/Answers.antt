use Rattle.std.proofs.Common.{◌≡◌, ◌+◌, List, vec_len, ◌++◌, ◌∷◌, [], inl, inr, Some, None, sym, ap, ◌∙◌, subst, arith}
use Rattle.std.proofs.lemmas.List.{get_or_default, map_push}
use Rattle.arc_base.specs.declared.place.Link.{Link}
use Rattle.graph_flow.specs.declared.arcs.LinkRow2.{LinkRow2}
use Rattle.graph_flow.specs.declared.search.Search.{Search}
use Rattle.graph_flow.specs.Flows.{Units, unit_at}
use Rattle.graph_flow.specs.Answers.{rows_of}
use Rattle.graph_flow.proofs.Residuals.{none_or_some}
use Rattle.graph_flow.proofs.Extracts.{IsTaking, taking-skips, taking-takes, taking-ends, leaving-is, leaving-not}
use Rattle.graph_flow.proofs.units.into_paths.Goals as goal
use Rattle.graph_flow.proofs.units.into_paths.Goals.{in-Some+in_ok-path+in_ok-push, in_default}

pub loop-link-preserved : goal.loop-link-preserved
loop-link-preserved c = elim c.match-leaving_arc.branch [
  | in-Some+in_ok-path+in_ok-push w ↦
      let is = leaving-is c.args.s _ w.in-Some.first (sym w.in-Some.ensures) in
      let at : unit_at c.loop-link.units c.loop-link.link ≡ Some w.in-Some.first = get_or_default c.loop-link.units c.loop-link.link None _ (omega arith) ∙ is.0 in
      let number = c.loop-link.invariant.taking.flow.of_link c.loop-link.link w.in-Some.first at in
      let paths_are = w.paths-is ∙ w.in_ok-push.ensures.ok in
      let rows_are : rows_of c.match-leaving_arc.paths ≡ rows_of c.loop-link.paths ++ w.in_ok-path.path.links ∷ [] =
      ap rows_of paths_are ∙ map_push (λ (p : LinkRow2). p.links) c.loop-link.paths w.in_ok-path.path in
      let next : IsTaking c.args.g.now.arcs c.args.s c.args.t c.args.units.now w.take_path.new.units (rows_of c.loop-link.paths ++ w.in_ok-path.path.links ∷ []) (c.loop-link.link + 1) =
      taking-takes c.args.g.now.arcs c.args.s c.args.t c.args.units.now c.loop-link.units (rows_of c.loop-link.paths) c.loop-link.link w.in-Some.first w.in_ok-path.path.links w.take_path.new.units
      c.loop-link.invariant.taking number is.1 w.in_ok-path.ensures.path in
      record {
        taking = subst (λ (units : Units). IsTaking c.args.g.now.arcs c.args.s c.args.t c.args.units.now units (rows_of c.match-leaving_arc.paths) (c.loop-link.link + 1)) (sym w.units-is)
            (subst (λ (rows : List (List Link)). IsTaking c.args.g.now.arcs c.args.s c.args.t c.args.units.now w.take_path.new.units rows (c.loop-link.link + 1)) (sym rows_are) next);
        marks = ap (λ (x : Search). vec_len x.marks) w.search-is ∙ w.take_path.ensures.marks;
        queue = ap (λ (x : Search). vec_len x.queue) w.search-is ∙ w.take_path.ensures.queue;
      }
  | in_default w ↦
      let none : c.leaving_arc.result ≡ None = elim (none_or_some c.leaving_arc.result) [ inl e ↦ e | inr (x, e) ↦ absurd (w.in_default.not-Some x e) ] in
      let next : IsTaking c.args.g.now.arcs c.args.s c.args.t c.args.units.now c.loop-link.units (rows_of c.loop-link.paths) (c.loop-link.link + 1) =
      taking-skips c.args.g.now.arcs c.args.s c.args.t c.args.units.now c.loop-link.units (rows_of c.loop-link.paths) c.loop-link.link c.loop-link.invariant.taking
      (λ arc e from. leaving-not c.args.s _ arc (sym c.leaving_arc.ensures ∙ none) (get_or_default c.loop-link.units c.loop-link.link _ None (omega arith) ∙ e) from) in
      record {
        taking = subst (λ (units : Units). IsTaking c.args.g.now.arcs c.args.s c.args.t c.args.units.now units (rows_of c.match-leaving_arc.paths) (c.loop-link.link + 1)) (sym w.units-is)
            (subst (λ (paths : List LinkRow2). IsTaking c.args.g.now.arcs c.args.s c.args.t c.args.units.now c.loop-link.units (rows_of paths) (c.loop-link.link + 1)) (sym w.paths-is) next);
        marks = ap (λ (x : Search). vec_len x.marks) w.search-is ∙ c.loop-link.invariant.marks;
        queue = ap (λ (x : Search). vec_len x.queue) w.search-is ∙ c.loop-link.invariant.queue;
      }
]

pub returns-clause-paths : goal.returns-clause-paths
returns-clause-paths c =
    taking-ends c.args.g.now.arcs c.args.s c.args.t c.args.units.now c.loop-link.units (rows_of c.loop-link.paths) c.loop-link.link c.loop-link.invariant.taking (omega arith)
