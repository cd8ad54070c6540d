use Rattle.std.proofs.Common.{◌≡◌, ℕ, List, subst}
use Rattle.std.specs.Prelude.{Contains}
use Rattle.std.specs.List.{flat_map}
use Rattle.std.proofs.lemmas.List.Filters.{dedup_is}
use Rattle.std.proofs.lemmas.List.Kept.{Contains-dedup_nat, Contains-from_dedup}
use Rattle.std.proofs.lemmas.List.Sorted.{Contains-permutation, IsPermutation-sym}
use Rattle.std.proofs.lemmas.Map.Keys.{IsStrictlyIncreasing-dedup}
use Rattle.arc_base.proofs.Items.{pieces_all}
use Rattle.traffic_classes.specs.ServiceParts.{inner_ends}
use Rattle.traffic_classes.proofs.ServiceTiles.{ends_are_cuts}
use Rattle.traffic_classes.proofs.service_leaves.cuts_inside.Goals as goal

pub returns-clause-rising : goal.returns-clause-rising
returns-clause-rising c =
    let is = dedup_is _ _ _ c.dedup.ensures.filtered in
    rw is (IsStrictlyIncreasing-dedup _ c.sort_unstable.ensures.sorted)

pub returns-clause-each : goal.returns-clause-each
returns-clause-each c =
    let is = dedup_is _ _ _ c.dedup.ensures.filtered in
    let moved = c.sort_unstable.ensures.permutation in
    let all : c.loop-mark.cuts.items ≡ flat_map (inner_ends c.args.whole.now) c.args.marks.now =
    pieces_all (inner_ends c.args.whole.now) c.loop-mark.cuts.items c.args.marks.now c.loop-mark.mark-index c.loop-mark-test.false c.loop-mark.invariant in
    λ x. (
      λ h. (ends_are_cuts c.args.marks.now c.args.whole.now x).0
          (subst (λ (l : List ℕ). Contains l x) all (Contains-permutation _ _ x (IsPermutation-sym _ _ moved) (Contains-from_dedup _ _ x (rw is at h)))),
      λ at. rw is (Contains-dedup_nat _ x (Contains-permutation _ _ x moved
          (rw all ((ends_are_cuts c.args.marks.now c.args.whole.now x).1 at)))),
    )
