-- What right verdicts tally: how many policies are met, broken, and not clear.
use Rattle.std.proofs.Common.{◌≡◌, ◌∙◌, ℕ, ◌+◌, ◌<◌, inl, inr, Bool, true, false, cond, List, [], ◌∷◌, length, take, get_or, refl, sym, ap, subst, arith}
use Rattle.std.specs.Prelude.{count_by}
use Rattle.std.specs.List.{AllZip}
use Rattle.std.proofs.lemmas.Bool.{false≢true}
use Rattle.std.proofs.lemmas.List.Sums.{sum_by-cons, sum_by_more}
use Rattle.net_model.specs.declared.policies.Policy.{Policy}
use Rattle.net_model.specs.declared.policies.PolicyKind.{PolicyKind}
use Rattle.net_model.specs.declared.policies.PolicyKind.TheVariants.{Blocked, Through, Reach}
use Rattle.net_model.specs.declared.rows.Network.{Network}
use Rattle.net_model.specs.declared.verdicts.Verdict.{Verdict}
use Rattle.net_model.specs.declared.verdicts.Verdict.TheVariants.{Closed, Paths, Walk, Denied, Cut, Refused}
use Rattle.net_model.specs.Forwarding.{Ends}
use Rattle.net_model.specs.Packets.{subject}
use Rattle.net_model.specs.Policies.{IsClear, Meets, MeetsAs}
use Rattle.net_model.specs.Witnesses.{is_yes, IsRight, IsRightFor, is_no}
use Rattle.net_laws.specs.Laws.{HasOnePairOfEnds, RightVerdictsAreTrue, RightVerdictsDecide}
use Rattle.generate_commands.specs.declared.tallies.Tally.{Tally}
use Rattle.generate_commands.specs.Tallies.{HasSoMany, IsBroken, IsTally, IsUnclear, is_refused, one_more, tally_of}

-- ---- verdict by verdict

same_tally : (t u : Tally) → t.yes ≡ u.yes → t.no ≡ u.no → t.refused ≡ u.refused → t ≡ u
same_tally t u a b c =
    ap (λ (n : ℕ). record t { yes = n }) a
    ∙ ap (λ (n : ℕ). record t { yes = u.yes; no = n }) b
    ∙ ap (λ (n : ℕ). record t { yes = u.yes; no = u.no; refused = n }) c

pub one_verdict_more : (verdicts : List Verdict) (k : ℕ) (v : Verdict) → k < length verdicts → tally_of (take (k + 1) verdicts) ≡ one_more (tally_of (take k verdicts)) (get_or verdicts k v)
one_verdict_more verdicts k v within =
    same_tally (tally_of (take (k + 1) verdicts)) (one_more (tally_of (take k verdicts)) (get_or verdicts k v))
    (sum_by_more (λ x. cond (is_yes x) 1 0) verdicts k v within)
    (sum_by_more (λ x. cond (is_no x) 1 0) verdicts k v within)
    (sum_by_more (λ x. cond (is_refused x) 1 0) verdicts k v within)

-- ---- counts

module _ {X Y : Type 0} (P : X → Type 0) (is : Y → Bool) (R : X → Y → Type 0) (says : (x : X) (y : Y) → R x y → is y ≡ true → P x)
    (denies : (x : X) (y : Y) → R x y → is y ≡ false → P x → ⊥) where
  counted : (y : Y) (ys : List Y) (b : Bool) → is y ≡ b → count_by is (y ∷ ys) ≡ cond b 1 0 + count_by is ys
  counted y ys b e = sum_by-cons (λ z. cond (is z) 1 0) y ys ∙ ap (λ c. cond c 1 0 + count_by is ys) e

  pub so_many : (xs : List X) (ys : List Y) → AllZip R xs ys → HasSoMany P xs (count_by is ys)
  so_many [] [] h = refl
  so_many [] (y ∷ ys) h = absurd h
  so_many (x ∷ xs) [] h = absurd h
  so_many (x ∷ xs) (y ∷ ys) h = go (is y) refl (so_many xs ys h.1)
    where
      go : (b : Bool) → is y ≡ b → HasSoMany P xs (count_by is ys) → HasSoMany P (x ∷ xs) (count_by is (y ∷ ys))
      go true e rest = inl (says x y h.0 e, (count_by is ys, omega (arith, counted y ys true e), rest))
      go false e rest =
          let same : count_by is ys ≡ count_by is (y ∷ ys) = omega (arith, counted y ys false e) in
          inr (denies x y h.0 e, subst (λ n. HasSoMany P xs n) same rest)

-- ---- what each verdict says

module _ (net : Network) (decide : RightVerdictsDecide net) (are_true : RightVerdictsAreTrue net) (one : HasOnePairOfEnds net) where
  met : (policy : Policy) (v : Verdict) → IsRight net policy v → is_yes v ≡ true → Meets net policy
  met policy v right e = (decide policy v right).0 e

  not_met : (policy : Policy) (v : Verdict) → IsRight net policy v → is_yes v ≡ false → Meets net policy → ⊥
  not_met policy v right e meets = false≢true (sym e ∙ (decide policy v right).1 meets)

  unclear : (policy : Policy) (v : Verdict) → IsRight net policy v → is_refused v ≡ true → IsUnclear net policy
  unclear policy (Closed sides) right e = absurd (false≢true e)
  unclear policy (Paths paths) right e = absurd (false≢true e)
  unclear policy (Walk class path) right e = absurd (false≢true e)
  unclear policy (Denied class) right e = absurd (false≢true e)
  unclear policy (Cut links side) right e = absurd (false≢true e)
  unclear policy (Refused packet link) right e = go policy.kind refl right.right
    where
      go : (kind : PolicyKind) → policy.kind ≡ kind → IsRightFor net right.ends kind (subject policy) (Refused packet link) → IsUnclear net policy
      go Blocked is h = absurd h
      go Through is h = absurd h
      go (Reach k) is h = record {
        failures = k;
        kind = is;
        ends = right.ends;
        are_ends = right.are_ends;
        unclear = are_true policy (Refused packet link) right;
      }

  -- if a class is clear for the ends of the verdict, it is for those of the policy
  module _ (policy : Policy) (u : IsUnclear net policy) where
    not_clear : (ends : Ends) → ends ≡ u.ends → IsClear net ends (subject policy) → ⊥
    not_clear ends same clear = u.unclear (subst (λ (e : Ends). IsClear net e (subject policy)) same clear)

    as_reach : (v : Verdict) (right : IsRight net policy v) → IsRightFor net right.ends (Reach u.failures) (subject policy) v
    as_reach v right = subst (λ (kind : PolicyKind). IsRightFor net right.ends kind (subject policy) v) u.kind right.right

  clear : (policy : Policy) (v : Verdict) → IsRight net policy v → is_refused v ≡ false → IsUnclear net policy → ⊥
  clear policy (Closed sides) right e u = absurd (as_reach policy u (Closed sides) right)
  clear policy (Walk class path) right e u = absurd (as_reach policy u (Walk class path) right)
  clear policy (Paths paths) right e u =
      let P : PolicyKind → Type 0 = λ kind. MeetsAs net right.ends (subject policy) kind in
      not_clear policy u right.ends (one (subject policy) right.ends u.ends right.are_ends u.are_ends) (subst P u.kind (are_true policy (Paths paths) right)).0
  clear policy (Denied class) right e u =
      not_clear policy u right.ends (one (subject policy) right.ends u.ends right.are_ends u.are_ends) (are_true policy (Denied class) right).0
  clear policy (Cut links side) right e u =
      not_clear policy u right.ends (one (subject policy) right.ends u.ends right.are_ends u.are_ends) (are_true policy (Cut links side) right).0
  clear policy (Refused packet link) right e u = absurd (false≢true (sym e))

  broken : (policy : Policy) (v : Verdict) → IsRight net policy v → is_no v ≡ true → IsBroken net policy
  broken policy (Closed sides) right e = absurd (false≢true e)
  broken policy (Paths paths) right e = absurd (false≢true e)
  broken policy (Walk class path) right e = (not_met policy (Walk class path) right refl, clear policy (Walk class path) right refl)
  broken policy (Denied class) right e = (not_met policy (Denied class) right refl, clear policy (Denied class) right refl)
  broken policy (Cut links side) right e = (not_met policy (Cut links side) right refl, clear policy (Cut links side) right refl)
  broken policy (Refused packet link) right e = absurd (false≢true e)

  not_broken : (policy : Policy) (v : Verdict) → IsRight net policy v → is_no v ≡ false → IsBroken net policy → ⊥
  not_broken policy (Closed sides) right e b = b.0 (met policy (Closed sides) right refl)
  not_broken policy (Paths paths) right e b = b.0 (met policy (Paths paths) right refl)
  not_broken policy (Walk class path) right e b = absurd (false≢true (sym e))
  not_broken policy (Denied class) right e b = absurd (false≢true (sym e))
  not_broken policy (Cut links side) right e b = absurd (false≢true (sym e))
  not_broken policy (Refused packet link) right e b = b.1 (unclear policy (Refused packet link) right refl)

  -- right verdicts tally the policies that they are on
  pub tallied : (policies : List Policy) (verdicts : List Verdict) → AllZip (IsRight net) policies verdicts → IsTally net policies (tally_of verdicts)
  tallied policies verdicts right = record {
    yes = so_many (Meets net) is_yes (IsRight net) met not_met policies verdicts right;
    no = so_many (IsBroken net) is_no (IsRight net) broken not_broken policies verdicts right;
    refused = so_many (IsUnclear net) is_refused (IsRight net) unclear clear policies verdicts right;
  }
