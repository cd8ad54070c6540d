use Rattle.std.proofs.Common.{List, sym, ◌∙◌, subst}
use Rattle.std.specs.Prelude.{IsSome}
use Rattle.std.proofs.lemmas.Bool.{false≢true}
use Rattle.graph_flow.specs.declared.arcs.Arc.{Arc}
use Rattle.graph_flow.specs.Flows.{Units, unit_at}
use Rattle.graph_flow.specs.Marks.{IsSpread}
use Rattle.graph_flow.proofs.Marked.{seen-leads, leads-seen, residual-nothing}
use Rattle.graph_flow.proofs.needed.needed_links.Goals as goal

pub needed_units-requires-clause-spread : goal.needed_units-requires-clause-spread
needed_units-requires-clause-spread c =
    subst (λ (arcs : List Arc). IsSpread arcs c.args.s c.run.new.self.marks.items) (residual-nothing c.args.g.now.arcs) c.run.ensures.spread

pub returns-then-not-is_seen : goal.returns-then-not-is_seen
returns-then-not-is_seen c = λ led.
    let spread = subst (λ (arcs : List Arc). IsSpread arcs c.args.s c.run.new.self.marks.items) (residual-nothing c.args.g.now.arcs) c.run.ensures.spread in
    false≢true (sym (sym c.is_seen.ensures ∙ c.if-not-is_seen.true) ∙ leads-seen c.args.g.now.arcs c.args.s c.run.new.self.marks.items spread c.args.t led)

pub returns : goal.returns
returns c =
    let spread = subst (λ (arcs : List Arc). IsSpread arcs c.args.s c.run.new.self.marks.items) (residual-nothing c.args.g.now.arcs) c.run.ensures.spread in
    record {
      leads = seen-leads c.args.g.now.arcs c.args.s c.run.new.self.marks.items spread c.args.t (sym c.is_seen.ensures ∙ c.if-not-is_seen.false);
      rising = c.in_ok-links_of.ensures.rising;
      exact = λ link.
          let noted = c.in_ok-links_of.ensures.exact link in
          let needs = c.in_ok-needed.ensures.exact link in (
            λ has. needs.0 (subst (λ (units : Units). IsSome (unit_at units link.0)) c.deref.ensures.value (noted.0 has)),
            λ none. noted.1 (subst (λ (units : Units). IsSome (unit_at units link.0)) (sym c.deref.ensures.value) (needs.1 none)),
          );
    }
