-- The verdict at the place of a policy.
use Rattle.std.proofs.Common.{◌≡◌, ℕ, List, subst, sym}
use Rattle.std.specs.Prelude.{Option, Some, None, All, IsSomeAnd, slice_get}
use Rattle.std.proofs.lemmas.Option.{slice_get_within, get_or_from_slice_get}
use Rattle.net_model.specs.declared.policies.Policy.{Policy}
use Rattle.net_model.specs.declared.rows.Network.{Network}
use Rattle.net_model.specs.declared.verdicts.Verdict.{Verdict}
use Rattle.net_model.specs.Witnesses.{IsRight}
use Rattle.report_check.specs.Outcomes.{IsRightAt}

pub right_there : (net : Network) (policies : List Policy) (which : ℕ) (policy : Policy) (v : Verdict) → slice_get policies which ≡ Some policy → IsRight net policy v → IsRightAt net policies which v
right_there net policies which policy v is right = subst (λ (o : Option Policy). IsSomeAnd o (λ p. IsRight net p v)) (sym is) right

pub there_right : (net : Network) (policies : List Policy) (which : ℕ) (policy : Policy) (v : Verdict) → slice_get policies which ≡ Some policy → IsRightAt net policies which v → IsRight net policy v
there_right net policies which policy v is right = subst (λ (o : Option Policy). IsSomeAnd o (λ p. IsRight net p v)) is right

pub none_there : (net : Network) (policies : List Policy) (which : ℕ) (v : Verdict) → slice_get policies which ≡ None → IsRightAt net policies which v → ⊥
none_there net policies which v is right = subst (λ (o : Option Policy). IsSomeAnd o (λ p. IsRight net p v)) is right

pub all_there : (P : Policy → Type 0) (policies : List Policy) (which : ℕ) (policy : Policy) → slice_get policies which ≡ Some policy → All P policies → P policy
all_there P policies which policy is all =
    subst P (get_or_from_slice_get policies which policy policy is) (all which policy (slice_get_within policies which policy is))
