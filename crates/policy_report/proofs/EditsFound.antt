-- An edit is found by its text, and by no other.
use Rattle.std.proofs.Common.{◌≡◌, ℕ, ◌+◌, ◌-◌, ◌<◌, ◌≤◌, nat_lt, Bool, true, false, cond, inl, inr, List, [], ◌∷◌, length, get_or, drop, refl, ap, sym, subst, ◌∙◌, arith, Option, Some, None}
use Rattle.std.specs.Prelude.{IsSomeAnd, option_map, slice_get, bytes_eq}
use Rattle.std.specs.List.{position, position_or_len}
use Rattle.std.proofs.NetLemmas.Options.{cond_some}
use Rattle.std.proofs.lemmas.Bool.{cond-true, cond-false, false_from_ne_true, le-ltb, lt-ltb, ltb-true}
use Rattle.std.proofs.lemmas.List.{get_or-drop, length-drop}
use Rattle.std.proofs.lemmas.List.Quantifiers.{position-Some}
use Rattle.std.proofs.lemmas.List.Sums.{position_or_len_is}
use Rattle.std.proofs.lemmas.Option.{slice_get_within, get_or_from_slice_get, slice_get_cases}
use Rattle.std.proofs.lemmas.Slice.Eq.{bytes_eq-Decides}
use Rattle.net_model.specs.declared.rows.Network.{Network}
use Rattle.edit_list.specs.declared.edit_kinds.Edit.{Edit}
use Rattle.policy_report.specs.Edits.{edit_text, edit_of, edit_from, IsTextAt, AreToldApart, EditTextsAreExact}

-- whether the edit has the text
abbrev pub has_text : Network → List ℕ → Edit → Bool
has_text net text edit = bytes_eq (edit_text net edit) text

-- the first that passes is at this place
pub position_is : {X : Type 0} (p : X → Bool) (xs : List X) (i : ℕ) (d : X) → i < length xs → ((k : ℕ) → k < i → p (get_or xs k d) ≡ false) → p (get_or xs i d) ≡ true → position p xs ≡ Some i
position_is p xs i d within before here =
    let is : position_or_len p xs ≡ i = position_or_len_is p xs i d (omega arith) before (λ l. here) in
    ap (λ (k : ℕ). cond (nat_lt k (length xs)) (Some k) None) is ∙ cond-true (nat_lt i (length xs)) (Some i) None (lt-ltb i (length xs) within)

-- where none passes there is no such place
pub position_none : {X : Type 0} (p : X → Bool) (xs : List X) → ((k : ℕ) (d : X) → k < length xs → p (get_or xs k d) ≡ false) → position p xs ≡ None
position_none p [] h = refl
position_none p (x ∷ xs) h =
    let size : ℕ = length (x ∷ xs) in
    let is : position_or_len p (x ∷ xs) ≡ size = position_or_len_is p (x ∷ xs) size x (omega arith) (λ k l. h k x l) (λ l. absurd (omega (arith, l))) in
    ap (λ (k : ℕ). cond (nat_lt k size) (Some k) None) is ∙ cond-false (nat_lt size size) (Some size) None (le-ltb size size (omega arith))

-- the edit at a place is the first with its text from any place before it
pub edit_found : (net : Network) (edits : List Edit) → AreToldApart net edits → (next at : ℕ) (edit : Edit) → next ≤ at → slice_get edits at ≡ Some edit →
    edit_from net edits next (edit_text net edit) ≡ Some at
edit_found net edits apart next at edit after there =
    let within : at < length edits = slice_get_within edits at edit there in
    let here : get_or edits at edit ≡ edit = get_or_from_slice_get edits at edit edit there in
    let p : Edit → Bool = has_text net (edit_text net edit) in
    let left : at - next < length (drop next edits) = omega (arith, length-drop next edits) in
    let before : (k : ℕ) → k < at - next → p (get_or (drop next edits) k edit) ≡ false = λ k l.
    ap p (get_or-drop next edits k edit) ∙
    false_from_ne_true _ (λ e. apart (next + k) at edit (omega arith) within
    ((bytes_eq-Decides _ _).0 e ∙ ap (edit_text net) (sym here))) in
    let itself : p (get_or (drop next edits) (at - next) edit) ≡ true =
    ap p (get_or-drop next edits (at - next) edit ∙ ap (λ k. get_or edits k edit) (omega arith) ∙ here) ∙ (bytes_eq-Decides (edit_text net edit) (edit_text net edit)).1 refl in
    ap (option_map (λ place. next + place)) (position_is p (drop next edits) (at - next) edit left before itself) ∙ ap Some (omega arith)

-- what is found has the text
found_text : (net : Network) (edits : List Edit) (text : List ℕ) (at : ℕ) → edit_of net edits text ≡ Some at → IsTextAt net edits at text
found_text net edits text at found =
    elim (slice_get_cases edits at).1 [
      | inl (edit, within, there, here) ↦
          let (inside, has, before) = position-Some (has_text net text) edits at edit found in
          subst (λ (o : Option Edit). IsSomeAnd o (λ e. text ≡ edit_text net e)) (sym there)
          (sym (ap (edit_text net) (sym here) ∙ (bytes_eq-Decides (edit_text net (get_or edits at edit)) text).0 has))
      | inr (past, none) ↦
          let (inside, is) = cond_some _ _ _ found in
          let within : position_or_len (has_text net text) edits < length edits = ltb-true _ _ inside in
          absurd (omega (arith, within, is))
    ]

text_found : (net : Network) (edits : List Edit) → AreToldApart net edits → (text : List ℕ) (at : ℕ) → IsTextAt net edits at text → edit_of net edits text ≡ Some at
text_found net edits apart text at is =
    elim (slice_get_cases edits at).1 [
      | inl (edit, within, there, here) ↦
          let text_is : text ≡ edit_text net edit = subst (λ (o : Option Edit). IsSomeAnd o (λ e. text ≡ edit_text net e)) there is in
          position_is (has_text net text) edits at edit within
          (λ k l. false_from_ne_true _ (λ e. apart k at edit l within
          ((bytes_eq-Decides (edit_text net (get_or edits k edit)) text).0 e ∙ text_is ∙ ap (edit_text net) (sym here))))
          ((bytes_eq-Decides (edit_text net (get_or edits at edit)) text).1 (ap (edit_text net) here ∙ sym text_is))
      | inr (past, none) ↦ absurd (subst (λ (o : Option Edit). IsSomeAnd o (λ e. text ≡ edit_text net e)) none is)
    ]

pub edit_texts_are_exact : EditTextsAreExact
edit_texts_are_exact net edits apart text at = (found_text net edits text at, text_found net edits apart text at)
