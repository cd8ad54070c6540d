use Rattle.std.proofs.Common.{refl, sym, ◌∙◌, arith}
use Rattle.std.specs.List.{flat_map}
use Rattle.std.proofs.lemmas.Bool.{false≢true}
use Rattle.witness_check.specs.Paths.{StandOnce}
use Rattle.witness_check.proofs.Repeats.{once_not_at, once_on_at, once_end}
use Rattle.witness_check.proofs.paths.stand_once.Goals as goal

pub returns-then-stands_again : goal.returns-then-stands_again
returns-then-stands_again c = (
  λ t. absurd (false≢true t),
  λ once. absurd (once_not_at c.args.links.now (flat_map (λ path. path.links) c.args.later.now) c.loop-place.place _ (omega arith)
      (c.stands_again.ensures.0 c.if-stands_again.true) (c.loop-place.invariant.0 once)),
)

pub loop-place-preserved : goal.loop-place-preserved
loop-place-preserved c =
    once_on_at (StandOnce c.args.links.now (flat_map (λ path. path.links) c.args.later.now)) c.args.links.now (flat_map (λ path. path.links) c.args.later.now) c.loop-place.place _ (omega arith)
    (λ at. false≢true (sym c.if-stands_again.false ∙ c.stands_again.ensures.1 at)) c.loop-place.invariant

pub returns : goal.returns
returns c = (
  λ t. once_end (StandOnce c.args.links.now (flat_map (λ path. path.links) c.args.later.now)) c.args.links.now (flat_map (λ path. path.links) c.args.later.now) c.loop-place.place
      (omega arith) c.loop-place.invariant,
  λ once. refl,
)
