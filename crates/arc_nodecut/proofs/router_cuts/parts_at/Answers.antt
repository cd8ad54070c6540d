use Rattle.std.proofs.Common.{List, arith, sym, ◌∙◌, subst, ◌↔◌}
use Rattle.std.specs.Prelude.{All, IsTrue}
use Rattle.std.proofs.lemmas.Bool.{false≢true}
use Rattle.arc_base.specs.declared.place.Router.{Router}
use Rattle.witness_check.specs.Cases.{ends_in, EachRouted}
use Rattle.arc_nodecut.specs.CutParts.{StaysOn, IsOff}
use Rattle.arc_nodecut.proofs.Keeping.{parts_if}
use Rattle.arc_nodecut.proofs.router_cuts.parts_at.Goals as goal

pub returns : goal.returns
returns c =
    parts_if c.args.case.now.net.now (ends_in c.args.case.now) c.args.routers.now c.args.side.now (omega arith) (c.is_on.ensures.0 c.if-not-is_on.false)
    (λ on. false≢true (sym c.if-is_on.false ∙ c.is_on-2.ensures.1 on))
    (subst (λ (rs : List Router). All (IsOff c.args.side.now) rs) c.slice.ensures.items (c.are_off.ensures.0 c.if-not-are_off.false))
    c.all_stay_on.result
    (subst (λ (rs : List Router). IsTrue c.all_stay_on.result ↔ EachRouted c.args.case.now.net.now c.args.case.now.to (StaysOn rs c.args.side.now)) c.slice-2.ensures.items
    c.all_stay_on.ensures)
