-- The first refusal of tries, one after another.
use Rattle.std.proofs.Common.{◌≡◌, inl, inr, List, [], ◌∷◌, ◌++◌, Result, Ok, Err, IsErrAnd, sym, subst}
use Rattle.net_doc.specs.declared.fault.Refusal.{Refusal}
use Rattle.net_doc.specs.declared.fault.NetFault.{NetFault}
use Rattle.net_doc.specs.declared.fault.NetFault.TheVariants.{Refused, Memory}
use Rattle.net_rules.specs.Reasons.{NoRefusal, Tried}
use Rattle.net_build.specs.Order.{Try, IsFirstOf, AreClear, AnswersTries}

module _ (Makes : Try → Refusal → Type 0) where
  -- a refusal of the first try is the first of all
  first_fails : {X Y : Type 0} (t : Try) (ts : List Try) (IsRight : X → Type 0) (IsGood : Y → Type 0) (fault : NetFault) →
      Tried (Makes t) IsRight (Err fault) → AnswersTries Makes (t ∷ ts) IsGood (Err fault)
  first_fails t ts IsRight IsGood (Refused r) first = inl first
  first_fails t ts IsRight IsGood Memory first = tt

  -- where the first try is clear, the others decide
  pub later_fails : {X : Type 0} (t : Try) (ts : List Try) (IsGood : X → Type 0) (fault : NetFault) → NoRefusal (Makes t) → AnswersTries Makes ts IsGood (Err fault) →
      AnswersTries Makes (t ∷ ts) IsGood (Err fault)
  later_fails t ts IsGood (Refused r) clear first = inr (clear, first)
  later_fails t ts IsGood Memory clear first = tt

  -- so they do, whatever their answer is
  pub later_decide : {X : Type 0} (t : Try) (ts : List Try) (IsGood : X → Type 0) (result : Result X NetFault) → NoRefusal (Makes t) →
      AnswersTries Makes ts IsGood result → AnswersTries Makes (t ∷ ts) IsGood result
  later_decide t ts IsGood (Ok x) clear said = ((clear, said.0), said.1)
  later_decide t ts IsGood (Err fault) clear said = later_fails t ts IsGood fault clear said

  pub one_decides : {X : Type 0} (t : Try) (IsGood : X → Type 0) (result : Result X NetFault) → Tried (Makes t) IsGood result → AnswersTries Makes (t ∷ []) IsGood result
  one_decides t IsGood (Ok x) said = ((said.0, tt), said.1)
  one_decides t IsGood (Err (Refused r)) said = inl said
  one_decides t IsGood (Err Memory) said = tt

  -- after tries that are clear, the others decide
  pub clear_before : {X : Type 0} (ts us : List Try) (IsGood : X → Type 0) (result : Result X NetFault) → AreClear Makes ts → AnswersTries Makes us IsGood result →
      AnswersTries Makes (ts ++ us) IsGood result
  clear_before [] us IsGood result clear said = said
  clear_before (t ∷ ts) us IsGood result clear said = later_decide t (ts ++ us) IsGood result clear.0 (clear_before ts us IsGood result clear.1 said)

  -- and the exit of a `?` returns the first refusal of the next try
  pub fails_after : {X Y : Type 0} (ts : List Try) (t : Try) (us : List Try) (IsRight : X → Type 0) (IsGood : Y → Type 0) (result : Result Y NetFault) (fault : NetFault) →
      IsErrAnd result (λ y. y ≡ fault) → AreClear Makes ts → Tried (Makes t) IsRight (Err fault) → AnswersTries Makes (ts ++ t ∷ us) IsGood result
  fails_after ts t us IsRight IsGood (Ok x) fault is clear said = absurd is
  fails_after ts t us IsRight IsGood (Err y) fault is clear said =
      subst (λ (z : NetFault). AnswersTries Makes (ts ++ t ∷ us) IsGood (Err z)) (sym is)
      (clear_before ts (t ∷ us) IsGood (Err fault) clear (first_fails t us IsRight IsGood fault said))

  -- a refusal of the first of more tries is that of all
  pub first_of_more : (ts us : List Try) (r : Refusal) → IsFirstOf Makes ts r → IsFirstOf Makes (ts ++ us) r
  first_of_more [] us r first = absurd first
  first_of_more (t ∷ ts) us r (inl first) = inl first
  first_of_more (t ∷ ts) us r (inr later) = inr (later.0, first_of_more ts us r later.1)

  pub more_fail : {X Y : Type 0} (ts us : List Try) (IsRight : X → Type 0) (IsGood : Y → Type 0) (fault : NetFault) → AnswersTries Makes ts IsRight (Err fault) →
      AnswersTries Makes (ts ++ us) IsGood (Err fault)
  more_fail ts us IsRight IsGood (Refused r) first = first_of_more ts us r first
  more_fail ts us IsRight IsGood Memory first = tt
