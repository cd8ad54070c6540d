-- Each text of an edit is found at the first edit that has it.
use Rattle.std.proofs.Common.{◌≡◌, ◌∙◌, ℕ, ◌+◌, ◌<◌, Bool, true, false, cond, inl, inr, Option, Some, None, List, [], ◌∷◌, ◌++◌, length, length-append, get_or, take, map, ap, refl, subst, sym, arith}
use Rattle.std.specs.Prelude.{not, IfSome, IsSomeAnd, bytes_eq, is_some, nat_lt}
use Rattle.std.specs.List.{position, position_or_len, prefix_len}
use Rattle.std.specs.Option.{option_or}
use Rattle.std.proofs.lemmas.Bool.{cases_lt, cond-true, false≢true, lt-ltb}
use Rattle.std.proofs.lemmas.List.{get_or_append_left, length-map, length-take-le, map-append, take_more}
use Rattle.std.proofs.lemmas.List.Quantifiers.{position-Some}
use Rattle.std.proofs.lemmas.List.Sums.{fails_before_first}
use Rattle.std.proofs.lemmas.Option.{none-some, slice_get_cases}
use Rattle.std.proofs.lemmas.Slice.Eq.{bytes_eq-Decides}
use Rattle.net_model.specs.declared.rows.Network.{Network}
use Rattle.edit_list.specs.declared.edit_kinds.Edit.{Edit}
use Rattle.policy_report.specs.Edits.{edit_of, edit_text, IsTextAt}
use Rattle.policy_report.proofs.EditsFound.{position_is, position_none}
use Rattle.edit_reader.specs.declared.places.TextPlaces.{TextPlaces}
use Rattle.edit_reader.specs.Places.{place_of, AreBelow, FindsEdits}
use Rattle.edit_reader.proofs.Marked.{last_of, place_within}

-- the place of an item, if it passes
abbrev pub at_place : Bool → ℕ → Option ℕ
at_place passes place = cond passes (Some place) None

-- ---- the first place in a list with one more item

module _ {X : Type 0} (p : X → Bool) (xs : List X) (x : X) where
  none_before : (k : ℕ) (d : X) → position p xs ≡ None → k < length xs → p (get_or xs k d) ≡ false
  none_before k d none within =
      elim (cases_lt k (position_or_len p xs)) [
        | inl below ↦ fails_before_first p xs k d below
        | inr above ↦
            let there : nat_lt (position_or_len p xs) (length xs) ≡ true = lt-ltb (position_or_len p xs) (length xs) (omega (arith, above, within)) in
            absurd (none-some (position_or_len p xs) (sym none ∙ cond-true (nat_lt (position_or_len p xs) (length xs)) (Some (position_or_len p xs)) None there))
      ]

  before : (k : ℕ) (d : X) → k < length xs → get_or (xs ++ x ∷ []) k d ≡ get_or xs k d
  before k d within = get_or_append_left xs (x ∷ []) d k within

  one_more : length (xs ++ x ∷ []) ≡ length xs + 1
  one_more = length-append xs (x ∷ [])

  pushed : (o : Option ℕ) (passes : Bool) → position p xs ≡ o → p x ≡ passes → position p (xs ++ x ∷ []) ≡ option_or o (at_place passes (length xs))
  pushed (Some i) passes e is =
      let at = position-Some p xs i x e in
      position_is p (xs ++ x ∷ []) i x (omega (arith, at.0, one_more)) (λ k l. ap p (before k x (omega (arith, l, at.0))) ∙ at.2 k l) (ap p (before i x at.0) ∙ at.1)
  pushed None true e is = position_is p (xs ++ x ∷ []) (length xs) x (omega (arith, one_more)) (λ k l. ap p (before k x l) ∙ none_before k x e l) (ap p (last_of xs x x) ∙ is)
  pushed None false e is =
      position_none p (xs ++ x ∷ [])
      (λ k d l. elim (cases_lt k (length xs)) [
        | inl within ↦ ap p (before k d within) ∙ none_before k d e within
        | inr past ↦ let last : k ≡ length xs = omega (arith, l, past, one_more) in ap (λ (j : ℕ). p (get_or (xs ++ x ∷ []) j d)) last ∙ ap p (last_of xs x d) ∙ is
      ])

pub position_more : {X : Type 0} (p : X → Bool) (xs : List X) (k : ℕ) (x : X) → k < length xs → x ≡ get_or xs k x → position p (take (k + 1) xs) ≡ option_or (position p (take k xs)) (at_place (p x) k)
position_more p xs k x within is =
    ap (position p) (take_more xs k x within ∙ ap (λ (y : _). take k xs ++ y ∷ []) (sym is)) ∙ pushed p (take k xs) x (position p (take k xs)) (p x) refl refl ∙
    ap (λ (n : ℕ). option_or (position p (take k xs)) (at_place (p x) n)) (length-take-le k xs (omega arith))

-- ---- a text is noted

pub kept : (old : Option ℕ) (same : Bool) (place : ℕ) → (same ≡ true → is_some old ≡ true) → old ≡ option_or old (at_place same place)
kept None true place known = absurd (false≢true (known refl))
kept None false place known = refl
kept (Some p) same place known = refl

pub put : (old : Option ℕ) (same : Bool) (place : ℕ) → (same ≡ true → is_some old ≡ false) → cond same (Some place) old ≡ option_or old (at_place same place)
put None true place absent = refl
put None false place absent = refl
put (Some p) true place absent = absurd (false≢true (sym (absent refl)))
put (Some p) false place absent = refl

-- equal texts have one place
pub alike : (found : TextPlaces) (text other : List ℕ) (b : Bool) → is_some (place_of found text) ≡ b → bytes_eq text other ≡ true → is_some (place_of found other) ≡ b
alike found text other b is same = subst (λ (t : List ℕ). is_some (place_of found t) ≡ b) ((bytes_eq-Decides text other).0 same) is

-- ---- the texts of edits

pub texts_more : (net : Network) (edits : List Edit) (at : ℕ) (text : List ℕ) → at < length edits → IsTextAt net edits at text →
    map (edit_text net) (take (at + 1) edits) ≡ map (edit_text net) (take at edits) ++ text ∷ []
texts_more net edits at text within is =
    elim (slice_get_cases edits at).1 [
      | inl (edit, inside, there, here) ↦
          let text_is : text ≡ edit_text net edit = subst (λ (o : Option Edit). IsSomeAnd o (λ e. text ≡ edit_text net e)) there is in
          ap (map (edit_text net)) (take_more edits at edit within) ∙ map-append (edit_text net) (take at edits) (get_or edits at edit ∷ []) ∙
          ap (λ (t : List ℕ). map (edit_text net) (take at edits) ++ t ∷ []) (ap (edit_text net) here ∙ sym text_is)
      | inr (past, none) ↦ absurd (omega (arith, within, past))
    ]

mapped_len : {X Y : Type 0} (p : Y → Bool) (f : X → Y) (xs : List X) → prefix_len p (map f xs) ≡ prefix_len (λ x. p (f x)) xs
mapped_len p f [] = refl
mapped_len p f (x ∷ xs) = ap (λ (n : ℕ). cond (p (f x)) (1 + n) 0) (mapped_len p f xs)

mapped : {X Y : Type 0} (p : Y → Bool) (f : X → Y) (xs : List X) → position p (map f xs) ≡ position (λ x. p (f x)) xs
mapped p f xs =
    let n = mapped_len (λ y. not (p y)) f xs in
    let all = length-map xs f in
    λ i. cond (nat_lt (n i) (all i)) (Some (n i)) None

pub finds_edits : (net : Network) (edits : List Edit) (texts : List (List ℕ)) (found : TextPlaces) → texts ≡ map (edit_text net) edits →
    ((text : List ℕ) → place_of found text ≡ position (λ t. bytes_eq t text) texts) →
    FindsEdits net edits found
finds_edits net edits texts found are each text = each text ∙ ap (position (λ t. bytes_eq t text)) are ∙ mapped (λ t. bytes_eq t text) (edit_text net) edits

pub are_below : (net : Network) (edits : List Edit) (found : TextPlaces) (bound : ℕ) → bound ≡ length edits → FindsEdits net edits found → AreBelow bound found
are_below net edits found bound long finds text = subst (λ (o : Option ℕ). IfSome o (λ place. place < bound)) (sym (finds text)) (below (edit_of net edits text) refl)
  where
    below : (o : Option ℕ) → edit_of net edits text ≡ o → IfSome o (λ place. place < bound)
    below None e = tt
    below (Some place) e = omega (arith, place_within net edits text place e, long)
