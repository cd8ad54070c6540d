-- Which edits are chosen, and what the condition of an edit is worth under a choice.
use Rattle.std.proofs.Common.{◌≡◌, ◌≢◌, ℕ, zero, suc, ◌<◌, ◌≤◌, inl, inr, Bool, true, false, cond, not, ◌⊎◌, Option, Some, None, List, [], ◌∷◌, length, get_or, refl, sym, ◌∙◌, ap, subst, arith}
use Rattle.std.specs.Prelude.{Contains, AllPairs, nat_lt}
use Rattle.std.specs.List.{position, position_or_len}
use Rattle.std.proofs.lemmas.Bool.{false≢true, cases_Bool, cases_lt, ltb-false}
use Rattle.std.proofs.lemmas.List.Quantifiers.{position-Some}
use Rattle.std.proofs.lemmas.List.Sums.{fails_before_first}
use Rattle.arc_base.proofs.Items.{Contains-head, Contains-tail, Contains-cases, Contains-none}
use Rattle.condition_formula.specs.Conditions.{comes_true}
use Rattle.condition_formula.specs.Laws.{chosen_in}
use Rattle.edit_list.specs.declared.edit_kinds.Edit.{Edit}
use Rattle.edit_list.specs.Prices.{chosen_of}
use Rattle.policy_encode.specs.Turning.{is_same_edit, place_of, condition_at, turned}
use Rattle.policy_encode.proofs.Same.{is_same_itself, is_same_true}

-- a chosen edit has a place whose flag says so
pub record IsChosenAt (list : List Edit) (flags : List Bool) (x : Edit) (place : ℕ) : Type 0 where
  pub within : place < length list
  pub is : get_or list place x ≡ x
  pub flag : chosen_in flags place ≡ true

later : (e : Edit) (es : List Edit) (f : Bool) (fs : List Bool) (x : Edit) → (k : ℕ) × IsChosenAt es fs x k → (k : ℕ) × IsChosenAt (e ∷ es) (f ∷ fs) x k
later e es f fs x (k, r) = (suc k, record { within = omega (arith, r.within); is = r.is; flag = r.flag })

pub from_chosen : (list : List Edit) (flags : List Bool) (x : Edit) → Contains (chosen_of list flags) x → (k : ℕ) × IsChosenAt list flags x k
from_chosen [] flags x h = absurd (Contains-none x h)
from_chosen (e ∷ es) [] x h = absurd (Contains-none x h)
from_chosen (e ∷ es) (true ∷ fs) x h = elim (Contains-cases e x (chosen_of es fs) h) [
  | inl same ↦ (0, record { within = omega arith; is = same; flag = refl })
  | inr rest ↦ later e es true fs x (from_chosen es fs x rest)
]
from_chosen (e ∷ es) (false ∷ fs) x h = later e es false fs x (from_chosen es fs x h)

to_tail : (f : Bool) (e x : Edit) (es : List Edit) (fs : List Bool) → Contains (chosen_of es fs) x → Contains (chosen_of (e ∷ es) (f ∷ fs)) x
to_tail true e x es fs h = Contains-tail e x (chosen_of es fs) h
to_tail false e x es fs h = h

pub to_chosen : (list : List Edit) (flags : List Bool) (x : Edit) (k : ℕ) → k < length list → get_or list k x ≡ x → chosen_in flags k ≡ true → Contains (chosen_of list flags) x
to_chosen [] flags x k l is t = absurd (omega (arith, l))
to_chosen (e ∷ es) [] x k l is t = absurd (false≢true t)
to_chosen (e ∷ es) (true ∷ fs) x zero l is t = subst (λ (y : Edit). Contains (e ∷ chosen_of es fs) y) is (Contains-head e (chosen_of es fs))
to_chosen (e ∷ es) (false ∷ fs) x zero l is t = absurd (false≢true t)
to_chosen (e ∷ es) (f ∷ fs) x (suc k) l is t = to_tail f e x es fs (to_chosen es fs x k (omega (arith, l)) is t)

-- an edit without a place is not in the list
some_none : (c : Bool) (k : ℕ) → c ≡ true → cond c (Some k) None ≡ None → ⊥
some_none true k e h = cc h
some_none false k e h = false≢true e

not_found : (p : Edit → Bool) (list : List Edit) → position p list ≡ None → length list ≤ position_or_len p list
not_found p list none = elim (cases_Bool (nat_lt (position_or_len p list) (length list))) [
  | inl t ↦ absurd (some_none (nat_lt (position_or_len p list) (length list)) (position_or_len p list) t none)
  | inr f ↦ ltb-false (position_or_len p list) (length list) f
]

pub no_place : (list : List Edit) (x : Edit) → place_of list x ≡ None → (k : ℕ) → k < length list → get_or list k x ≢ x
no_place list x none k l is =
    let past : length list ≤ position_or_len (is_same_edit x) list = not_found (is_same_edit x) list none in
    let fails = fails_before_first (is_same_edit x) list k x (omega (arith, l, past)) in
    false≢true (sym fails ∙ ap (is_same_edit x) is ∙ is_same_itself x)

pub some_place : (list : List Edit) (x : Edit) (k : ℕ) → place_of list x ≡ Some k → (k < length list) × (get_or list k x ≡ x)
some_place list x k found =
    let r = position-Some (is_same_edit x) list k x found in
    (r.0, sym (is_same_true x (get_or list k x) r.1))

-- in a list of different edits an edit has one place
pub one_place : (list : List Edit) → AllPairs (λ e f. e ≢ f) list → (x : Edit) (j k : ℕ) → j < length list → k < length list → get_or list j x ≡ x → get_or list k x ≡ x → j ≡ k
one_place list apart x j k l m at_j at_k = elim (cases_lt j k) [
  | inl less ↦ absurd (apart j k x less m (at_j ∙ sym at_k))
  | inr more ↦ elim (cases_lt k j) [
    | inl less ↦ absurd (apart k j x less l (at_k ∙ sym at_j))
    | inr same ↦ omega (arith, more, same)
  ]
]

module _ (list : List Edit) (apart : AllPairs (λ e f. e ≢ f) list) (flags : List Bool) (x : Edit) (answer : Bool) where
  at_true : (k : ℕ) → chosen_in flags k ≡ true → (b : Bool) → comes_true (chosen_in flags) (condition_at b (Some k)) ≡ not b
  at_true k t true = ap not t
  at_true k t false = t

  at_false : (k : ℕ) → chosen_in flags k ≡ false → (b : Bool) → comes_true (chosen_in flags) (condition_at b (Some k)) ≡ b
  at_false k t true = ap not t
  at_false k t false = t

  at_none : (b : Bool) → comes_true (chosen_in flags) (condition_at b None) ≡ b
  at_none true = refl
  at_none false = refl

  turns : Contains (chosen_of list flags) x → (o : Option ℕ) → place_of list x ≡ o → comes_true (chosen_in flags) (condition_at answer o) ≡ not answer
  turns chosen None none = let r = from_chosen list flags x chosen in absurd (no_place list x none r.0 (r.1).within (r.1).is)
  turns chosen (Some k) found =
      let r = from_chosen list flags x chosen in
      let p = some_place list x k found in
      let same : r.0 ≡ k = one_place list apart x r.0 k (r.1).within p.0 (r.1).is p.1 in
      at_true k (subst (λ (n : ℕ). chosen_in flags n ≡ true) same (r.1).flag) answer

  stays : (¬ Contains (chosen_of list flags) x) → (o : Option ℕ) → place_of list x ≡ o → comes_true (chosen_in flags) (condition_at answer o) ≡ answer
  stays none None found = at_none answer
  stays none (Some k) found = elim (cases_Bool (chosen_in flags k)) [
    | inl t ↦ let p = some_place list x k found in absurd (none (to_chosen list flags x k p.0 p.1 t))
    | inr f ↦ at_false k f answer
  ]

  -- where the edit is chosen the condition is the opposite of the answer
  pub chosen_turns : Contains (chosen_of list flags) x → comes_true (chosen_in flags) (turned list x answer) ≡ not answer
  chosen_turns chosen = turns chosen (place_of list x) refl

  -- and else it is the answer
  pub others_stay : (¬ Contains (chosen_of list flags) x) → comes_true (chosen_in flags) (turned list x answer) ≡ answer
  others_stay none = stays none (place_of list x) refl

-- an edit is chosen or not
pub either_chosen : (list : List Edit) (flags : List Bool) (x : Edit) → AllPairs (λ e f. e ≢ f) list → Contains (chosen_of list flags) x ⊎ (¬ Contains (chosen_of list flags) x)
either_chosen list flags x apart = by (place_of list x) refl
  where
    by : (o : Option ℕ) → place_of list x ≡ o → Contains (chosen_of list flags) x ⊎ (¬ Contains (chosen_of list flags) x)
    by None none = inr (λ h. let r = from_chosen list flags x h in no_place list x none r.0 (r.1).within (r.1).is)
    by (Some k) found = elim (cases_Bool (chosen_in flags k)) [
      | inl t ↦ let p = some_place list x k found in inl (to_chosen list flags x k p.0 p.1 t)
      | inr f ↦ inr (λ h.
          let r = from_chosen list flags x h in
          let p = some_place list x k found in
          let same : r.0 ≡ k = one_place list apart x r.0 k (r.1).within p.0 (r.1).is p.1 in
          false≢true (sym f ∙ subst (λ (n : ℕ). chosen_in flags n ≡ true) same (r.1).flag))
    ]
