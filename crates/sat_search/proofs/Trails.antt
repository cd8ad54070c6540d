-- The entries of a trail, and the literals that they assign.
use Rattle.std.proofs.Common.{◌≡◌, ℕ, zero, suc, ◌+◌, ◌<◌, ◌≤◌, IsTrue, ◌⊎◌, inl, inr, List, [], ◌∷◌, length, take, slice_get, refl, ap, sym, ◌∙◌, arith, Some}
use Rattle.std.proofs.lemmas.Bool.{cases_lt, or_cases, or_left, or_right, false≢true}
use Rattle.std.proofs.lemmas.Option.{none-some, same_Some}
use Rattle.cnf_types.specs.declared.literal.Lit.{Lit}
use Rattle.cnf_types.specs.Literals.{negated, variable}
use Rattle.proof_check.specs.Propagation.{same}
use Rattle.sat_core.specs.Trails.{is_on}
use Rattle.sat_core.specs.declared.assigned.Assigned.{Assigned}
use Rattle.sat_search.specs.Passes.{IsSetWithin}
use Rattle.sat_search.proofs.Literals.{same-eq, eq-same, negated_apart, variable-negated}

-- the entry of a place assigns its literal
pub set-entry : (trail : List Assigned) (low high place : ℕ) (a : Assigned) (l : Lit) → low ≤ place → place < high → slice_get trail place ≡ Some a → a.lit ≡ l → IsSetWithin trail low high l
set-entry trail low high place a l from before at is = record { place = place; entry = a; from = from; before = before; at = at; literal = is }

set-later : (a : Assigned) (trail : List Assigned) (i : ℕ) (l : Lit) → IsSetWithin trail 0 i l → IsSetWithin (a ∷ trail) 0 (suc i) l
set-later a trail i l s = set-entry (a ∷ trail) 0 (suc i) (suc s.place) s.entry l (omega arith) (omega (arith, s.before)) s.at s.literal

-- a literal that the first entries assign
pub set-on : (trail : List Assigned) (i : ℕ) (l : Lit) → IsTrue (is_on (take i trail) l) → IsSetWithin trail 0 i l
set-on [] zero l h = absurd (false≢true h)
set-on [] (suc i) l h = absurd (false≢true h)
set-on (a ∷ trail) zero l h = absurd (false≢true h)
set-on (a ∷ trail) (suc i) l h = elim (or_cases (same a.lit l) (is_on (take i trail) l) h) [
  | inl here ↦ set-entry (a ∷ trail) 0 (suc i) 0 a l (omega arith) (omega arith) refl (same-eq a.lit l here)
  | inr there ↦ set-later a trail i l (set-on trail i l there)
]

set-on_all : (trail : List Assigned) (l : Lit) → IsTrue (is_on trail l) → IsSetWithin trail 0 (length trail) l
set-on_all [] l h = absurd (false≢true h)
set-on_all (a ∷ trail) l h = elim (or_cases (same a.lit l) (is_on trail l) h) [
  | inl here ↦ set-entry (a ∷ trail) 0 (suc (length trail)) 0 a l (omega arith) (omega arith) refl (same-eq a.lit l here)
  | inr there ↦ set-later a trail (length trail) l (set-on_all trail l there)
]

-- a literal that the trail assigns
pub on-set : (trail : List Assigned) (l : Lit) → IsTrue (is_on trail l) → IsSetWithin trail 0 (length trail) l
on-set trail l h = set-on_all trail l h

-- an entry's literal is on the trail
pub entry_on : (trail : List Assigned) (place : ℕ) (a : Assigned) (l : Lit) → slice_get trail place ≡ Some a → a.lit ≡ l → IsTrue (is_on trail l)
entry_on [] place a l at is = absurd (none-some a at)
entry_on (b ∷ trail) zero a l at is = or_left (same b.lit l) (is_on trail l) (eq-same b.lit l (ap (λ (x : Assigned). x.lit) (same_Some b a at) ∙ is))
entry_on (b ∷ trail) (suc place) a l at is = or_right (same b.lit l) (is_on trail l) (entry_on trail place a l at is)

-- and on each front of the trail that has the place
pub on_take : (trail : List Assigned) (high place : ℕ) (a : Assigned) → slice_get trail place ≡ Some a → place < high → IsTrue (is_on (take high trail) a.lit)
on_take [] high place a at low = absurd (none-some a at)
on_take (b ∷ trail) zero place a at low = absurd (omega arith)
on_take (b ∷ trail) (suc high) zero a at low = or_left (same b.lit a.lit) (is_on (take high trail) a.lit) (eq-same b.lit a.lit (ap (λ (x : Assigned). x.lit) (same_Some b a at)))
on_take (b ∷ trail) (suc high) (suc place) a at low = or_right (same b.lit a.lit) (is_on (take high trail) a.lit) (on_take trail high place a at (omega arith))

pub within_on : (trail : List Assigned) (low high : ℕ) (l : Lit) → IsSetWithin trail low high l → IsTrue (is_on trail l)
within_on trail low high l s = entry_on trail s.place s.entry l s.at s.literal

-- one place more or less
pub set_below : (trail : List Assigned) (i : ℕ) (a : Assigned) (l : Lit) → slice_get trail i ≡ Some a → IsSetWithin trail 0 (i + 1) l → (a.lit ≡ l) ⊎ IsSetWithin trail 0 i l
set_below trail i a l at s = elim (cases_lt s.place i) [
  | inl low ↦ inr (set-entry trail 0 i s.place s.entry l (omega arith) low s.at s.literal)
  | inr high ↦
      let place : s.place ≡ i = omega (arith, s.before, high) in
      let entry : a ≡ s.entry = same_Some a s.entry (sym at ∙ ap (slice_get trail) (sym place) ∙ s.at) in
      inl (ap (λ (x : Assigned). x.lit) entry ∙ s.literal)
]

pub set_above : (trail : List Assigned) (i high : ℕ) (l : Lit) → IsSetWithin trail (i + 1) high l → IsSetWithin trail i high l
set_above trail i high l s = set-entry trail i high s.place s.entry l (omega (arith, s.from)) s.before s.at s.literal

-- no variable is assigned twice
abbrev pub AreDistinct : List Assigned → Type 0
AreDistinct trail = (i j : ℕ) (a b : Assigned) → slice_get trail i ≡ Some a → slice_get trail j ≡ Some b → variable a.lit ≡ variable b.lit → i ≡ j

-- so literals of one variable stand at one place, and are one
pub one_place : (trail : List Assigned) (low high from to : ℕ) (l m : Lit) → AreDistinct trail →
    (s : IsSetWithin trail low high l) (t : IsSetWithin trail from to m) → variable l ≡ variable m → s.place ≡ t.place
one_place trail low high from to l m distinct s t e =
    distinct s.place t.place s.entry t.entry s.at t.at (ap variable s.literal ∙ e ∙ sym (ap variable t.literal))

pub one_literal : (trail : List Assigned) (low high from to : ℕ) (l m : Lit) → AreDistinct trail → IsSetWithin trail low high l → IsSetWithin trail from to m → variable l ≡ variable m → l ≡ m
one_literal trail low high from to l m distinct s t e =
    let place = one_place trail low high from to l m distinct s t e in
    let entry : s.entry ≡ t.entry = same_Some s.entry t.entry (sym s.at ∙ ap (slice_get trail) place ∙ t.at) in
    sym s.literal ∙ ap (λ (x : Assigned). x.lit) entry ∙ t.literal

-- a literal and its negation are not both assigned
pub not_both : (trail : List Assigned) (low high from to : ℕ) (l : Lit) → AreDistinct trail → IsSetWithin trail low high l → IsSetWithin trail from to (negated l) → ⊥
not_both trail low high from to l distinct s t =
    negated_apart l (sym (one_literal trail low high from to l (negated l) distinct s t (sym (variable-negated l))))

-- entries of separate parts have separate variables
pub parts_apart : (trail : List Assigned) (low at high : ℕ) (l m : Lit) → AreDistinct trail → IsSetWithin trail low at l → IsSetWithin trail at high m → variable l ≡ variable m → ⊥
parts_apart trail low at high l m distinct s t e =
    let place = one_place trail low at at high l m distinct s t e in
    absurd (omega (arith, place, s.before, t.from))
