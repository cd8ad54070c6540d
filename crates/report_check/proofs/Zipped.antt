-- The verdicts at the places of the policies are those of the policies one by one.
use Rattle.std.proofs.Common.{◌≡◌, ℕ, ◌+◌, List, [], ◌∷◌, ◌++◌, length, refl, sym, subst, arith}
use Rattle.std.specs.Prelude.{Option, Some, IsSomeAnd, slice_get}
use Rattle.std.specs.List.{AllZip}
use Rattle.std.proofs.lemmas.List.{length-append, append_assoc}
use Rattle.std.proofs.lemmas.Option.{slice_get_read}
use Rattle.std.proofs.Math.Seq.{get_or-append_seam}
use Rattle.net_model.specs.declared.policies.Policy.{Policy}
use Rattle.net_model.specs.declared.rows.Network.{Network}
use Rattle.net_model.specs.declared.verdicts.Verdict.{Verdict}
use Rattle.net_model.specs.Witnesses.{IsRight}
use Rattle.report_check.specs.Outcomes.{IsRightAt}
use Rattle.report_check.proofs.Rights.{AreRightFrom}

-- the policy after those that are done
next_policy : (done : List Policy) (policy : Policy) (todo : List Policy) → slice_get (done ++ policy ∷ todo) (length done) ≡ Some policy
next_policy done policy todo =
    slice_get_read (done ++ policy ∷ todo) (length (done ++ policy ∷ todo)) (length done) policy refl
    (omega (arith, length-append done (policy ∷ todo))) (sym (get_or-append_seam done policy todo policy))

one_more : (done : List Policy) (policy : Policy) → length (done ++ policy ∷ []) ≡ length done + 1
one_more done policy = length-append done (policy ∷ [])

right_at : (net : Network) (done : List Policy) (policy : Policy) (todo : List Policy) (v : Verdict) → IsRightAt net (done ++ policy ∷ todo) (length done) v → IsRight net policy v
right_at net done policy todo v h = subst (λ (o : Option Policy). IsSomeAnd o (λ p. IsRight net p v)) (next_policy done policy todo) h

at_right : (net : Network) (done : List Policy) (policy : Policy) (todo : List Policy) (v : Verdict) → IsRight net policy v → IsRightAt net (done ++ policy ∷ todo) (length done) v
at_right net done policy todo v h = subst (λ (o : Option Policy). IsSomeAnd o (λ p. IsRight net p v)) (sym (next_policy done policy todo)) h

-- the list and the place, with one more policy done
moved : (net : Network) (done : List Policy) (policy : Policy) (todo : List Policy) (vs : List Verdict) →
    AreRightFrom net (done ++ policy ∷ todo) (length done + 1) vs → AreRightFrom net ((done ++ policy ∷ []) ++ todo) (length (done ++ policy ∷ [])) vs
moved net done policy todo vs h =
    subst (λ (l : List Policy). AreRightFrom net l (length (done ++ policy ∷ [])) vs) (sym (append_assoc done (policy ∷ []) todo))
    (subst (λ (n : ℕ). AreRightFrom net (done ++ policy ∷ todo) n vs) (sym (one_more done policy)) h)

moved_back : (net : Network) (done : List Policy) (policy : Policy) (todo : List Policy) (vs : List Verdict) →
    AreRightFrom net ((done ++ policy ∷ []) ++ todo) (length (done ++ policy ∷ [])) vs → AreRightFrom net (done ++ policy ∷ todo) (length done + 1) vs
moved_back net done policy todo vs h =
    subst (λ (n : ℕ). AreRightFrom net (done ++ policy ∷ todo) n vs) (one_more done policy)
    (subst (λ (l : List Policy). AreRightFrom net l (length (done ++ policy ∷ [])) vs) (append_assoc done (policy ∷ []) todo) h)

rest_zip : (net : Network) (R : Policy → Verdict → Type 0) (done todo : List Policy) (vs : List Verdict) →
    AllZip R todo vs → AreRightFrom net (done ++ todo) (length done) vs → AllZip (IsRight net) todo vs
rest_zip net R done [] [] zip right = tt
rest_zip net R done [] (v ∷ vs) zip right = absurd zip
rest_zip net R done (policy ∷ todo) [] zip right = absurd zip
rest_zip net R done (policy ∷ todo) (v ∷ vs) zip right =
    (right_at net done policy todo v right.0, rest_zip net R (done ++ policy ∷ []) todo vs zip.1 (moved net done policy todo vs right.1))

rest_places : (net : Network) (done todo : List Policy) (vs : List Verdict) → AllZip (IsRight net) todo vs → AreRightFrom net (done ++ todo) (length done) vs
rest_places net done [] [] zip = tt
rest_places net done [] (v ∷ vs) zip = absurd zip
rest_places net done (policy ∷ todo) [] zip = absurd zip
rest_places net done (policy ∷ todo) (v ∷ vs) zip =
    (at_right net done policy todo v zip.0, moved_back net done policy todo vs (rest_places net (done ++ policy ∷ []) todo vs zip.1))

-- if each verdict has its policy, verdicts that are right at their places are right
pub right_zip : (net : Network) (R : Policy → Verdict → Type 0) (policies : List Policy) (vs : List Verdict) → AllZip R policies vs → AreRightFrom net policies 0 vs → AllZip (IsRight net) policies vs
right_zip net R policies vs zip right = rest_zip net R [] policies vs zip right

pub right_places : (net : Network) (policies : List Policy) (vs : List Verdict) → AllZip (IsRight net) policies vs → AreRightFrom net policies 0 vs
right_places net policies vs zip = rest_places net [] policies vs zip
