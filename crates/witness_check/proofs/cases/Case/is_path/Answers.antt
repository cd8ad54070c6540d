use Rattle.std.proofs.Common.{rules, sym, ◌∙◌}
use Rattle.witness_check.proofs.Following.{told, any}
use Rattle.witness_check.specs.Trails.{AnyArc}
use Rattle.witness_check.proofs.cases.Case.is_path.Goals as goal

pub returns : goal.returns
returns c =
    let led = told c.args.self.now.net.now c.args.self.now.to AnyArc _ _ c.args.self.now.source.now.router.0 c.slice.result.now c.args.self.now.target.now.router.0
    c.leads.result c.leads.ensures.yes c.leads.ensures.no (λ rows k. tt) (λ rows k. search rules) in (
      λ t. let trail = led.0 t in record { arcs = trail.arcs; links = trail.over ∙ c.slice.ensures.items; leads = trail.leads },
      λ path. led.1 (record { arcs = path.arcs; over = path.links ∙ sym c.slice.ensures.items; leads = path.leads; each = any path.arcs }),
    )
