-- Each verdict that is given shows few closed sides or paths.
use Rattle.std.proofs.Common.{◌≡◌, ℕ, ◌≤◌, inl, inr, List, [], ◌∷◌, length, map, ap, arith}
use Rattle.std.specs.Prelude.{All}
use Rattle.std.specs.List.{AllZip}
use Rattle.std.proofs.lemmas.Bool.Decides.{eqb_tells}
use Rattle.std.proofs.lemmas.List.{length-map}
use Rattle.std.proofs.lemmas.List.Elements.{All-nil, All-cons, All-head, All-tail}
use Rattle.net_model.specs.declared.policies.Class.{Class}
use Rattle.net_model.specs.declared.policies.Policy.{Policy}
use Rattle.net_model.specs.declared.policies.PolicyKind.{PolicyKind}
use Rattle.net_model.specs.declared.policies.PolicyKind.TheVariants.{Blocked, Through, Reach}
use Rattle.net_model.specs.declared.rows.Network.{Network}
use Rattle.net_model.specs.declared.verdicts.ClassSide.{ClassSide}
use Rattle.net_model.specs.declared.verdicts.LinkPath.{LinkPath}
use Rattle.net_model.specs.declared.verdicts.Verdict.{Verdict}
use Rattle.net_model.specs.declared.verdicts.Verdict.TheVariants.{Closed, Paths, Walk, Denied, Cut, Refused}
use Rattle.net_model.specs.Forwarding.{Ends, source_router, target_router}
use Rattle.net_model.specs.Packets.{subject}
use Rattle.net_model.specs.Witnesses.{IsRight, IsRightFor, IsRightPaths}
use Rattle.verdicts.specs.Fixed.{IsFixed, IsFixedFor}
use Rattle.net_model.specs.Policies.{HasFewFailures}
use Rattle.arc_repair.specs.Answers.{ShowsFew}

-- one side for each class
few_sides : (classes : List Class) (sides : List ClassSide) → length classes ≤ 4096 → map (λ s. s.class) sides ≡ classes → ShowsFew (Closed sides)
few_sides classes sides few in_order = omega (arith, few, ap length in_order, length-map sides (λ s. s.class))

-- one more path than links may fail, or none
few_paths : (net : Network) (ends : Ends) (k : ℕ) (whole : Class) (paths : List LinkPath) → k ≤ 16 → IsRightPaths net ends k whole paths → ShowsFew (Paths paths)
few_paths net ends k whole paths few right = elim (eqb_tells (source_router ends) (target_router ends)) [
  | inl same ↦ omega (arith, right.together same.1)
  | inr other ↦ omega (arith, few, right.apart other.1)
]

few_for : (net : Network) (ends others : Ends) (kind : PolicyKind) (whole : Class) (classes : List Class) (v : Verdict) → HasFewFailures kind → length classes ≤ 4096 →
    IsRightFor net ends kind whole v → IsFixedFor net others kind whole classes v → ShowsFew v
few_for net ends others kind whole classes (Walk class path) failures few right fixed = tt
few_for net ends others kind whole classes (Denied class) failures few right fixed = tt
few_for net ends others kind whole classes (Cut links side) failures few right fixed = tt
few_for net ends others kind whole classes (Refused p link) failures few right fixed = tt
few_for net ends others Blocked whole classes (Closed sides) failures few right fixed = few_sides classes sides few fixed.in_order
few_for net ends others Through whole classes (Closed sides) failures few right fixed = few_sides classes sides few fixed.in_order
few_for net ends others (Reach k) whole classes (Closed sides) failures few right fixed = absurd right
few_for net ends others Blocked whole classes (Paths paths) failures few right fixed = absurd right
few_for net ends others Through whole classes (Paths paths) failures few right fixed = absurd right
few_for net ends others (Reach k) whole classes (Paths paths) failures few right fixed = few_paths net ends k whole paths failures right

-- right verdicts that are given show few sides or paths
pub show_few : (net : Network) (all policies : List Policy) (verdicts : List Verdict) → All (λ policy. HasFewFailures policy.kind) policies →
    AllZip (IsRight net) policies verdicts → AllZip (IsFixed net all) policies verdicts → All ShowsFew verdicts
show_few net all [] [] failures right fixed = All-nil ShowsFew
show_few net all [] (v ∷ vs) failures right fixed = absurd right
show_few net all (p ∷ ps) [] failures right fixed = absurd right
show_few net all (p ∷ ps) (v ∷ vs) failures right fixed =
    let few : HasFewFailures p.kind = All-head (λ (q : Policy). HasFewFailures q.kind) p ps failures in
    let r : IsRight net p v = right.0 in
    let f : IsFixed net all p v = fixed.0 in
    All-cons ShowsFew v vs (few_for net r.ends f.ends p.kind (subject p) f.classes v few f.few r.right f.fixed)
    (show_few net all ps vs (All-tail (λ (q : Policy). HasFewFailures q.kind) p ps failures) right.1 fixed.1)
