-- The rows of places, one place after another.
use Rattle.std.proofs.Common.{◌≡◌, ℕ, suc, ◌+◌, ◌<◌, Bool, true, false, cond, List, [], ◌∷◌, ◌++◌, length, get_or, map, filter, inl, inr, sym, ◌∙◌, ap, arith, length-set}
use Rattle.std.proofs.lemmas.Bool.Decides.{eqb_tells}
use Rattle.std.proofs.lemmas.List.{append-nil, ext_get_or, get_or-map, get_or-set_other, get_or-set_same, length-map}
use Rattle.std.proofs.lemmas.List.Elements.{filter-append}
use Rattle.condition_formula.specs.declared.network.Question.{Question}
use Rattle.condition_formula.specs.declared.pick.Pick.{Pick}
use Rattle.condition_formula.specs.declared.row.Row.{Row}
use Rattle.condition_formula.specs.Lists.{upto}
use Rattle.condition_formula.specs.Reaching.{arc_at}
use Rattle.condition_formula.specs.Writing.{number_of, picks, with_place}
use Rattle.condition_formula.proofs.Distinct.{length-upto, get_or-upto}

-- the places among the first that are picked for a number, as a row, and all such rows
abbrev pub first_row : Question → Pick → ℕ → ℕ → Row
first_row q pick most number = record { places = filter (λ (place : ℕ). picks pick number (arc_at q place)) (upto most) }

abbrev pub first_rows : Question → Pick → ℕ → ℕ → List Row
first_rows q pick count most = map (first_row q pick most) (upto count)

module _ {X : Type 0} (f : ℕ → X) (count : ℕ) where
  told_length : length (map f (upto count)) ≡ count
  told_length = length-map (upto count) f ∙ length-upto count

  told_at : (k : ℕ) (d : X) → k < count → get_or (map f (upto count)) k d ≡ f k
  told_at k d l = get_or-map f (upto count) k 0 d (omega (arith, length-upto count)) ∙ ap f (get_or-upto count k 0 l)

module _ (q : Question) (pick : Pick) (count place : ℕ) where
  abbrev none : Row
  none = record { places = [] }

  abbrev row : List ℕ → Row
  row places = record { places = places }

  more : (k : ℕ) → first_row q pick (place + 1) k ≡ row ((first_row q pick place k).places ++ cond (picks pick k (arc_at q place)) (place ∷ []) [])
  more k =
      let one : place + 1 ≡ suc place = omega arith in
      ap (λ (n : ℕ). first_row q pick n k) one ∙ ap row (filter-append (λ (p : ℕ). picks pick k (arc_at q p)) (upto place) (place ∷ []))

  -- the rows, with the next place in the row of its number
  abbrev placed : List Row
  placed = with_place (first_rows q pick count place) (number_of pick (arc_at q place)) place

  here : (k : ℕ) → k < count → picks pick k (arc_at q place) ≡ true → number_of pick (arc_at q place) ≡ k → get_or placed k none ≡ first_row q pick (place + 1) k
  here k l picked same =
      let rows = first_rows q pick count place in
      let long : k < length rows = omega (arith, l, told_length (first_row q pick place) count) in
      ap (λ (n : ℕ). get_or (with_place rows n place) k none) same ∙ get_or-set_same rows k (row ((get_or rows k none).places ++ place ∷ [])) none long ∙
      ap (λ (r : Row). row (r.places ++ place ∷ [])) (told_at (first_row q pick place) count k none l) ∙
      ap (λ (b : Bool). row ((first_row q pick place k).places ++ cond b (place ∷ []) [])) (sym picked) ∙ sym (more k)

  elsewhere : (k : ℕ) → k < count → picks pick k (arc_at q place) ≡ false → (number_of pick (arc_at q place) ≡ k → ⊥) → get_or placed k none ≡ first_row q pick (place + 1) k
  elsewhere k l left differ =
      let rows = first_rows q pick count place in
      let at = number_of pick (arc_at q place) in
      get_or-set_other rows at k (row ((get_or rows at none).places ++ place ∷ [])) none (λ same. differ (sym same)) ∙ told_at (first_row q pick place) count k none l ∙
      ap row (sym (append-nil (first_row q pick place k).places)) ∙
      ap (λ (b : Bool). row ((first_row q pick place k).places ++ cond b (place ∷ []) [])) (sym left) ∙ sym (more k)

  all_placed : placed ≡ first_rows q pick count (place + 1)
  all_placed =
      let rows = first_rows q pick count place in
      let long : length placed ≡ count = length-set rows (number_of pick (arc_at q place)) (row ((get_or rows (number_of pick (arc_at q place)) none).places ++ place ∷ []))
      ∙ told_length (first_row q pick place) count in
      ext_get_or none placed (first_rows q pick count (place + 1)) (long ∙ sym (told_length (first_row q pick (place + 1)) count)) (λ k l.
      let within : k < count = omega (arith, l, long) in
      (elim (eqb_tells (number_of pick (arc_at q place)) k) [ inl same ↦ here k within same.0 same.1 | inr other ↦ elsewhere k within other.0 other.1 ]) ∙
      sym (told_at (first_row q pick (place + 1)) count k none within))

-- the rows with one more place
pub rows-more : (q : Question) (pick : Pick) (count place number : ℕ) (now next : List Row) → number ≡ number_of pick (arc_at q place) →
    now ≡ first_rows q pick count place → next ≡ with_place now number place →
    next ≡ first_rows q pick count (place + 1)
rows-more q pick count place number now next is was put =
    put ∙ ap (λ (n : ℕ). with_place now n place) is ∙ ap (λ (rows : List Row). with_place rows (number_of pick (arc_at q place)) place) was ∙ all_placed q pick count place
