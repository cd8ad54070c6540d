use Rattle.std.proofs.Common.{List, arith, refl, sym, ◌∙◌, subst, map}
use Rattle.std.specs.Prelude.{All}
use Rattle.std.specs.List.Sorted.{IsStrictlyIncreasing}
use Rattle.std.proofs.lemmas.Bool.{false≢true}
use Rattle.arc_base.specs.declared.place.Router.{Router}
use Rattle.witness_check.specs.Cases.{ends_in}
use Rattle.arc_nodecut.specs.CutParts.{IsInner}
use Rattle.arc_nodecut.proofs.Keeping.{cut_if, inner_of}
use Rattle.arc_nodecut.proofs.router_cuts.is_right_cut.Goals as goal

pub returns : goal.returns
returns c =
    cut_if c.args.case.now.net.now (ends_in c.args.case.now) c.args.routers.now c.args.side.now c.args.k c.args.case.now.whole c.args.case.now.whole refl
    (λ e. false≢true (sym c.if-is_local.false ∙ c.is_local.ensures.1 e))
    (subst (λ (rs : List Router). IsStrictlyIncreasing (map (λ (r : Router). r.0) rs)) c.slice.ensures.items (c.are_rising.ensures.0 c.if-not-are_rising.false))
    (subst (λ (rs : List Router). All (IsInner c.args.case.now.net.now (ends_in c.args.case.now)) rs) c.slice-2.ensures.items (c.are_inner.ensures.0 c.if-not-are_inner.false))
    (omega arith) (c.parts_at.ensures.0 c.if-not-parts_at.false) c.is_clear.result c.is_clear.ensures

pub returns-then-not-are_rising : goal.returns-then-not-are_rising
returns-then-not-are_rising c = (
  λ t. absurd (false≢true t),
  λ right. absurd (false≢true
      (sym c.if-not-are_rising.true ∙ c.are_rising.ensures.1 (subst (λ (rs : List Router). IsStrictlyIncreasing (map (λ (r : Router). r.0) rs)) (sym c.slice.ensures.items) right.rising))),
)

pub returns-then-not-are_inner : goal.returns-then-not-are_inner
returns-then-not-are_inner c = (
  λ t. absurd (false≢true t),
  λ right. absurd (false≢true
      (sym c.if-not-are_inner.true ∙ c.are_inner.ensures.1 (subst (λ (rs : List Router). All (IsInner c.args.case.now.net.now (ends_in c.args.case.now)) rs) (sym c.slice-2.ensures.items)
      (inner_of c.args.case.now.net.now (ends_in c.args.case.now) c.args.routers.now c.args.side.now c.args.k c.args.case.now.whole right)))),
)
