-- Policies that are rechecked one after another.
use Rattle.std.proofs.Common.{◌≡◌, ℕ, suc, ◌+◌, ◌<◌, inl, inr, List, [], ◌∷◌, ◌++◌, length, refl, sym, ◌∙◌, ap, subst, arith, length-append}
use Rattle.std.specs.Prelude.{Option, Some, None, IfSome, IsSomeAnd, slice_get}
use Rattle.std.proofs.lemmas.Bool.{cases_lt}
use Rattle.std.specs.List.{AllZip}
use Rattle.std.proofs.lemmas.Option.{same_Some, slice_get_within}
use Rattle.net_model.specs.declared.policies.Policy.{Policy}
use Rattle.net_model.specs.declared.rows.Network.{Network}
use Rattle.net_model.specs.declared.verdicts.Verdict.{Verdict}
use Rattle.net_model.specs.Witnesses.{IsRight}
use Rattle.arc_base.proofs.Zips.{AllZip-right}
use Rattle.arc_recheck.specs.declared.rechecking.Rechecked.{Rechecked}
use Rattle.arc_recheck.specs.Rechecks.{IsRechecked}
use Rattle.reach_commands.specs.RecheckRuns.{AreRechecked, IsRightOn}
use Rattle.reach_commands.proofs.AddedPolicy.{read_before, read_last}

-- the first `n` policies are rechecked
pub record AreRecheckedBelow (net : Network) (policies : List Policy) (held : List Verdict) (n : ℕ) (rechecked : List Rechecked) : Type 0 where
  pub count : length rechecked ≡ n
  pub each : (k : ℕ) (policy : Policy) → k < n → slice_get policies k ≡ Some policy → IsSomeAnd (slice_get rechecked k) (IsRechecked net policies policy (slice_get held k))

pub none_rechecked : (net : Network) (policies : List Policy) (held : List Verdict) (rechecked : List Rechecked) → rechecked ≡ [] → AreRecheckedBelow net policies held 0 rechecked
none_rechecked net policies held rechecked none =
    subst (AreRecheckedBelow net policies held 0) (sym none) (record { count = refl; each = λ k policy below at. absurd (omega (arith, below)) })

at_here : (net : Network) (policies : List Policy) (policy : Policy) (o : Option Policy) (old : Option Verdict) (r : Rechecked) → o ≡ Some policy → IfSome o (λ p. IsRechecked net policies p old r) →
    IsRechecked net policies policy old r
at_here net policies policy o old r at holds = subst (λ (x : Option Policy). IfSome x (λ p. IsRechecked net policies p old r)) at holds

module _ (net : Network) (policies : List Policy) (held : List Verdict) (n : ℕ) (rechecked more : List Rechecked) (r : Rechecked) (before : AreRecheckedBelow net policies held n rechecked)
    (made : more ≡ rechecked ++ r ∷ []) (next : IfSome (slice_get policies n) (λ p. IsRechecked net policies p (slice_get held n) r)) where
  each_of : (k : ℕ) (policy : Policy) → k < n + 1 → slice_get policies k ≡ Some policy → IsSomeAnd (slice_get (rechecked ++ r ∷ []) k) (IsRechecked net policies policy (slice_get held k))
  each_of k policy below at =
      elim (cases_lt k n) [
        | inl earlier ↦ subst (λ (o : Option Rechecked). IsSomeAnd o (IsRechecked net policies policy (slice_get held k)))
            (sym (read_before rechecked r k (omega (arith, earlier, before.count)))) (before.each k policy earlier at)
        | inr later ↦
            let last : k ≡ n = omega (arith, later, below) in
            let place : k ≡ length rechecked = omega (arith, last, before.count) in
            let right : IsRechecked net policies policy (slice_get held n) r =
            at_here net policies policy (slice_get policies n) (slice_get held n) r (ap (λ (i : ℕ). slice_get policies i) (sym last) ∙ at) next in
            subst (λ (o : Option Rechecked). IsSomeAnd o (IsRechecked net policies policy (slice_get held k)))
            (sym (ap (λ (i : ℕ). slice_get (rechecked ++ r ∷ []) i) place ∙ read_last rechecked r))
            (subst (λ (i : ℕ). IsRechecked net policies policy (slice_get held i) r) (sym last) right)
      ]

  pub one_more : AreRecheckedBelow net policies held (n + 1) more
  one_more =
      subst (AreRecheckedBelow net policies held (n + 1)) (sym made)
      (record { count = omega (arith, length-append rechecked (r ∷ []), before.count); each = each_of })

pub all_rechecked : (net : Network) (policies : List Policy) (held : List Verdict) (n : ℕ) (rechecked : List Rechecked) → n ≡ length policies → AreRecheckedBelow net policies held n rechecked →
    AreRechecked net policies held rechecked
all_rechecked net policies held n rechecked whole below = record {
  count = below.count ∙ whole;
  each = λ k policy at. below.each k policy (omega (arith, whole, slice_get_within policies k policy at)) at;
}

-- rechecked verdicts are right, place by place
all_right : (net : Network) (policies : List Policy) (rs : List Rechecked) → length rs ≡ length policies →
    ((k : ℕ) (policy : Policy) → slice_get policies k ≡ Some policy → IsSomeAnd (slice_get rs k) (IsRightOn net policy)) → AllZip (IsRightOn net) policies rs
all_right net [] [] count each = tt
all_right net [] (r ∷ rs) count each = absurd (omega (arith, count))
all_right net (policy ∷ policies) [] count each = absurd (omega (arith, count))
all_right net (policy ∷ policies) (r ∷ rs) count each =
    (each 0 policy refl, all_right net policies rs (omega (arith, count)) (λ k p at. each (suc k) p at))

right_of : (net : Network) (policies : List Policy) (policy : Policy) (old : Option Verdict) (o : Option Rechecked) →
    IsSomeAnd o (IsRechecked net policies policy old) → IsSomeAnd o (IsRightOn net policy)
right_of net policies policy old None h = absurd h
right_of net policies policy old (Some r) h = h.right

pub are_right : (net : Network) (policies : List Policy) (held : List Verdict) (rs : List Rechecked) → AreRechecked net policies held rs → AllZip (IsRightOn net) policies rs
are_right net policies held rs are =
    all_right net policies rs are.count (λ k policy at. right_of net policies policy (slice_get held k) (slice_get rs k) (are.each k policy at))

pub right_at : (net : Network) (policies : List Policy) (rs : List Rechecked) (k : ℕ) (policy : Policy) (r : Rechecked) → AllZip (IsRightOn net) policies rs →
    slice_get policies k ≡ Some policy → slice_get rs k ≡ Some r → IsRight net policy r.verdict
right_at net policies rs k policy r right at_policy at =
    let found = AllZip-right (IsRightOn net) policies rs right k policy at_policy in
    subst (λ (x : Rechecked). IsRight net policy x.verdict) (same_Some found.0 r (sym found.1 ∙ at)) found.2
