use Rattle.std.proofs.Common.{ℕ, get_or, refl, ◌∙◌, subst, arith, below_more}
use Rattle.std.proofs.lemmas.List.{get_or_default}
use Rattle.net_model.specs.declared.verdicts.LinkPath.{LinkPath}
use Rattle.witness_check.specs.Cases.{ends_in}
use Rattle.arc_nodecut.specs.NodeWitnesses.{GoesBy}
use Rattle.arc_nodecut.proofs.apart.all_go_by.Goals as goal

pub loop-path-preserved : goal.loop-path-preserved
loop-path-preserved c =
    below_more (λ (k : ℕ). (d : LinkPath) → GoesBy c.args.case.now.net.now (ends_in c.args.case.now) (get_or c.args.paths.now k d)) c.loop-path.path-index c.loop-path.invariant
    (λ d. subst (GoesBy c.args.case.now.net.now (ends_in c.args.case.now)) (c.path-item.is ∙ get_or_default c.args.paths.now c.loop-path.path-index c.path-item.result d (omega arith))
    (c.goes_by.ensures.0 c.if-not-goes_by.false))

pub returns : goal.returns
returns c = (λ t k d within. c.loop-path.invariant k (omega arith) d, λ all. refl)
