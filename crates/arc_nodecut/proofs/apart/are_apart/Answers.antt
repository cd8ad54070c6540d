use Rattle.std.proofs.Common.{refl, sym, ◌∙◌, arith}
use Rattle.std.specs.Prelude.{AllPairs}
use Rattle.std.proofs.lemmas.Bool.{false≢true}
use Rattle.witness_check.specs.Cases.{ends_in}
use Rattle.witness_check.proofs.Repeats.{pairs_first_at, pairs_on_at}
use Rattle.arc_nodecut.proofs.KeptOff.{pairs_end}
use Rattle.arc_nodecut.specs.NodePaths.{GoesOff}
use Rattle.arc_nodecut.proofs.apart.are_apart.Goals as goal

pub returns-then-not-keeps_off_all : goal.returns-then-not-keeps_off_all
returns-then-not-keeps_off_all c = (
  λ t. absurd (false≢true t),
  λ pairs. absurd (false≢true (sym c.if-not-keeps_off_all.true ∙ c.keeps_off_all.ensures.1
      (pairs_first_at (GoesOff c.args.case.now.net.now (ends_in c.args.case.now)) c.args.paths.now c.loop-place.place c.index-paths-place.result (omega arith) c.index-paths-place.is
      (c.loop-place.invariant.0 pairs)))),
)

pub loop-place-preserved : goal.loop-place-preserved
loop-place-preserved c =
    pairs_on_at (GoesOff c.args.case.now.net.now (ends_in c.args.case.now)) (AllPairs (GoesOff c.args.case.now.net.now (ends_in c.args.case.now)) c.args.paths.now)
    c.args.paths.now c.loop-place.place c.index-paths-place.result (omega arith) c.index-paths-place.is (c.keeps_off_all.ensures.0 c.if-not-keeps_off_all.false) c.loop-place.invariant

pub returns : goal.returns
returns c = (
  λ t. pairs_end (GoesOff c.args.case.now.net.now (ends_in c.args.case.now)) (AllPairs (GoesOff c.args.case.now.net.now (ends_in c.args.case.now)) c.args.paths.now)
      c.args.paths.now c.loop-place.place (omega arith) c.loop-place.invariant,
  λ pairs. refl,
)
