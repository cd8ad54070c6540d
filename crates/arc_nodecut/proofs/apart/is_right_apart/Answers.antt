use Rattle.std.proofs.Common.{◌≡◌, ◌+◌, length, List, arith, sym, ◌∙◌, subst}
use Rattle.std.specs.Prelude.{All, AllPairs}
use Rattle.std.proofs.lemmas.Bool.{false≢true}
use Rattle.net_model.specs.declared.verdicts.LinkPath.{LinkPath}
use Rattle.witness_check.specs.Cases.{ends_in}
use Rattle.arc_nodecut.specs.NodeWitnesses.{GoesBy}
use Rattle.arc_nodecut.specs.NodePaths.{GoesOff}
use Rattle.arc_nodecut.proofs.KeptOff.{apart_if, off_pairs}
use Rattle.arc_nodecut.proofs.apart.is_right_apart.Goals as goal

pub returns : goal.returns
returns c =
    let net = c.args.case.now.net.now in
    let ends = ends_in c.args.case.now in
    let count : length c.args.paths.now ≡ c.args.k + 1 = omega arith in
    apart_if net c.requires.valid ends c.args.paths.now c.args.k c.args.case.now.whole
    (λ e. false≢true (sym c.if-is_local.false ∙ c.is_local.ensures.1 e)) count
    (subst (λ (ps : List LinkPath). All (GoesBy net ends) ps) c.slice.ensures.items (c.all_go_by.ensures.0 c.if-not-all_go_by.false))
    (subst (λ (ps : List LinkPath). AllPairs (GoesOff net ends) ps) c.slice-2.ensures.items (c.are_apart.ensures.0 c.if-not-are_apart.false))
    c.is_served.result c.is_served.ensures

pub returns-then-not-all_go_by : goal.returns-then-not-all_go_by
returns-then-not-all_go_by c = (
  λ t. absurd (false≢true t),
  λ right. absurd (false≢true (sym c.if-not-all_go_by.true ∙ c.all_go_by.ensures.1
      (subst (λ (ps : List LinkPath). All (GoesBy c.args.case.now.net.now (ends_in c.args.case.now)) ps) (sym c.slice.ensures.items) right.each))),
)

pub returns-then-not-are_apart : goal.returns-then-not-are_apart
returns-then-not-are_apart c = (
  λ t. absurd (false≢true t),
  λ right. absurd (false≢true (sym c.if-not-are_apart.true ∙ c.are_apart.ensures.1
      (subst (λ (ps : List LinkPath). AllPairs (GoesOff c.args.case.now.net.now (ends_in c.args.case.now)) ps) (sym c.slice-2.ensures.items)
      (off_pairs c.args.case.now.net.now c.requires.valid (ends_in c.args.case.now) c.args.paths.now right.each right.disjoint)))),
)
