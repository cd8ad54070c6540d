use Rattle.std.proofs.Common.{◌+◌, ◌-◌, List, length, take, drop, refl, sym, ◌∙◌, subst, arith}
use Rattle.std.specs.Prelude.{AllPairs}
use Rattle.std.specs.List.{flat_map}
use Rattle.std.proofs.lemmas.Bool.{false≢true}
use Rattle.arc_base.specs.declared.place.Link.{Link}
use Rattle.witness_check.specs.Paths.{AreApart, StandOnce}
use Rattle.witness_check.proofs.Repeats.{disjoint_first_at, disjoint_on_at, disjoint_end}
use Rattle.witness_check.proofs.paths.are_disjoint.Goals as goal

pub returns-then-not-stand_once : goal.returns-then-not-stand_once
returns-then-not-stand_once c = (
  λ t. absurd (false≢true t),
  λ pairs. absurd (false≢true (sym c.if-not-stand_once.true ∙ c.stand_once.ensures.1
      (subst (λ (ls : List Link). StandOnce ls (flat_map (λ path. path.links) (take (length c.args.paths.now - (c.loop-place.place + 1)) (drop (c.loop-place.place + 1) c.args.paths.now))))
      (sym c.slice.ensures.items) (disjoint_first_at c.args.paths.now c.loop-place.place c.index-paths-place.result (omega arith) c.index-paths-place.is (c.loop-place.invariant.0 pairs))))),
)

pub loop-place-preserved : goal.loop-place-preserved
loop-place-preserved c =
    disjoint_on_at (AllPairs AreApart (flat_map (λ path. path.links) c.args.paths.now)) c.args.paths.now c.loop-place.place c.index-paths-place.result (omega arith) c.index-paths-place.is
    (subst (λ (ls : List Link). StandOnce ls (flat_map (λ path. path.links) (take (length c.args.paths.now - (c.loop-place.place + 1)) (drop (c.loop-place.place + 1) c.args.paths.now))))
    c.slice.ensures.items (c.stand_once.ensures.0 c.if-not-stand_once.false)) c.loop-place.invariant

pub returns : goal.returns
returns c = (
  λ t. disjoint_end (AllPairs AreApart (flat_map (λ path. path.links) c.args.paths.now)) c.args.paths.now c.loop-place.place (omega arith) c.loop-place.invariant,
  λ pairs. refl,
)
