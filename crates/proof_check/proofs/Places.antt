-- What stands at the places of clauses where literals are added, moved and cut off.
use Rattle.std.proofs.Common.{◌≡◌, ℕ, zero, suc, ◌+◌, ◌-◌, ◌<◌, ◌≤◌, max, List, [], ◌∷◌, ◌++◌, length, take, drop}
use Rattle.std.proofs.Common.{map, refl, ap, ap₂, sym, ◌∙◌, arith, All, Option, Some, None, cond, ◌==◌, ⊎_elim, length-append, length-drop, length-take-le}
use Rattle.std.specs.Prelude.{slice_set}
use Rattle.std.proofs.Math.Seq.{drop-append_seam}
use Rattle.std.proofs.Math.Seq.{paste}
use Rattle.std.proofs.lemmas.Bool.{cases_eq, cond-true, cond-false, eq-eqb, ne_eqb}
use Rattle.std.proofs.lemmas.List.{drop-append-le, drop-drop, take-append-drop, take-append-le, take_all, take_at, drop-set, take-set, map-append}
use Rattle.std.proofs.lemmas.List.Edits.{drop-paste}
use Rattle.std.proofs.lemmas.List.Elements.{All-head, All-tail, All-weaker}
use Rattle.cnf_types.specs.declared.literal.Lit.{Lit}
use Rattle.proof_check.specs.declared.tables.Place.{Place}
use Rattle.proof_check.specs.Places.{IsPlace, IsRising, clause_at, nowhere, size}

-- behind the literals of a clause more may follow
pub clause_before : (lits more : List Lit) (p : Place) → IsPlace (length lits) p → clause_at (lits ++ more) p ≡ clause_at lits p
clause_before lits more p h =
    let first : p.start ≤ p.stop - 1 = h.start in
    let last : p.stop ≤ length lits + 1 = h.stop in
    let begins : p.start ≤ length lits = omega arith in
    let ends : p.stop - 1 - p.start ≤ length (drop p.start lits) = omega (arith, length-drop p.start lits) in
    ap (λ c. cond (p.stop == 0) None (Some c)) (ap (take (p.stop - 1 - p.start)) (drop-append-le p.start lits more begins) ∙ take-append-le (p.stop - 1 - p.start) (drop p.start lits) more ends)

-- a clause within the first literals is that of these alone
pub clause_cut : (lits : List Lit) (n : ℕ) (p : Place) → n ≤ length lits → IsPlace n p → clause_at (take n lits) p ≡ clause_at lits p
clause_cut lits n p within h =
    let size : length (take n lits) ≡ n = length-take-le n lits within in
    let last : p.stop ≤ n + 1 = h.stop in
    let fits : IsPlace (length (take n lits)) p = record { start = h.start; stop = omega arith } in
    sym (clause_before (take n lits) (drop n lits) p fits) ∙ ap (λ ls. clause_at ls p) (take-append-drop n lits)

pub clause_front : (lits moved : List Lit) (n : ℕ) (p : Place) → n ≤ length lits → n ≤ length moved → take n moved ≡ take n lits → IsPlace n p → clause_at moved p ≡ clause_at lits p
clause_front lits moved n p a b same h = sym (clause_cut moved n p b h) ∙ ap (λ ls. clause_at ls p) same ∙ clause_cut lits n p a h

-- a clause from some literal on needs none before that
dropped_from : (lits moved : List Lit) (n k : ℕ) → n ≤ k → drop n moved ≡ drop n lits → drop k moved ≡ drop k lits
dropped_from lits moved n k le same =
    let at : n + (k - n) ≡ k = omega arith in
    sym (ap (λ j. drop j moved) at) ∙ sym (drop-drop (k - n) n moved) ∙ ap (drop (k - n)) same ∙ drop-drop (k - n) n lits ∙ ap (λ j. drop j lits) at

pub clause_back : (lits moved : List Lit) (n : ℕ) (p : Place) → drop n moved ≡ drop n lits → (0 < p.stop → n ≤ p.start) → clause_at moved p ≡ clause_at lits p
clause_back lits moved n p same h = ⊎_elim
    (λ (none : p.stop ≡ 0). cond-true _ _ _ (eq-eqb p.stop 0 none) ∙ sym (cond-true _ _ _ (eq-eqb p.stop 0 none)))
    (λ (some : p.stop ≡ 0 → ⊥). ap (λ ls. cond (p.stop == 0) None (Some (take (p.stop - 1 - p.start) ls))) (dropped_from lits moved n p.start (h (omega arith)) same))
    (cases_eq p.stop 0)

-- the clause whose literals are all that stand behind some
pub clause_pushed : (lits more all : List Lit) (start stop : ℕ) → all ≡ lits ++ more → start ≡ length lits → stop ≡ length all + 1 → clause_at all (record { start = start; stop = stop }) ≡ Some more
clause_pushed lits more all start stop all_is start_is stop_is =
    let size : length all ≡ length lits + length more = ap length all_is ∙ length-append lits more in
    let behind : drop start all ≡ more = rw (start_is, all_is) (drop-append_seam lits more) in
    let whole : take (stop - 1 - start) (drop start all) ≡ more = ap (take (stop - 1 - start)) behind ∙ take_all (stop - 1 - start) more (omega arith) in
    cond-false (stop == 0) None (Some (take (stop - 1 - start) (drop start all))) (ne_eqb stop 0 (λ e. omega arith)) ∙ ap Some whole

-- literals that are copied to the front
module _ (lits : List Lit) (p : Place) (end : ℕ) (fits : IsPlace (length lits) p) (before : end ≤ p.start) (some : 0 < p.stop) where
  abbrev pub count : ℕ
  count = p.stop - 1 - p.start

  abbrev pub moved : List Lit
  moved = paste lits end (drop p.start lits) count

  enough : count ≤ length (drop p.start lits)
  enough =
      let first : p.start ≤ p.stop - 1 = fits.start in
      let last : p.stop ≤ length lits + 1 = fits.stop in
      omega (arith, length-drop p.start lits)

  within : end ≤ length lits
  within =
      let first : p.start ≤ p.stop - 1 = fits.start in
      let last : p.stop ≤ length lits + 1 = fits.stop in
      omega arith

  pub moved_front : take end moved ≡ take end lits
  moved_front = take-append-le end (take end lits ++ take count (drop p.start lits)) (drop (end + count) lits)
      (omega (arith, length-append (take end lits) (take count (drop p.start lits)), length-take-le end lits within))
      ∙ take_at (take end lits) (take count (drop p.start lits)) end (length-take-le end lits within)

  pub moved_back : drop (end + count) moved ≡ drop (end + count) lits
  moved_back = drop-paste lits end (drop p.start lits) count within enough

-- the same clauses at all places
pub same_clauses : (f g : Place → Option (List Lit)) (n : ℕ) (ps : List Place) → All (IsPlace n) ps → ((p : Place) → IsPlace n p → f p ≡ g p) → map f ps ≡ map g ps
same_clauses f g n [] h same = refl
same_clauses f g n (p ∷ ps) h same =
    ap₂ (λ x xs. x ∷ xs) (same p (All-head (IsPlace n) p ps h)) (same_clauses f g n ps (All-tail (IsPlace n) p ps h) same)

pub same_behind : (f g : Place → Option (List Lit)) (from : ℕ) (ps : List Place) → IsRising from ps → ((p : Place) → (0 < p.stop → from ≤ p.start) → f p ≡ g p) → map f ps ≡ map g ps
same_behind f g from [] h same = refl
same_behind f g from (p ∷ ps) h same =
    ap₂ (λ x xs. x ∷ xs) (same p h.0) (same_behind f g (max from (p.stop - 1)) ps h.1 (λ q later. same q (λ some. let k : max from (p.stop - 1) ≤ q.start = later some in omega (arith, k))))

-- more literals leave the places as they are
pub more_places : (n m : ℕ) (ps : List Place) → n ≤ m → All (IsPlace n) ps → All (IsPlace m) ps
more_places n m ps more h = All-weaker (IsPlace n) (IsPlace m) (λ p k. let last : p.stop ≤ n + 1 = k.stop in record { start = k.start; stop = omega arith }) ps h

-- rising places
pub rising_lower : (from low : ℕ) (ps : List Place) → low ≤ from → IsRising from ps → IsRising low ps
rising_lower from low [] le h = tt
rising_lower from low (p ∷ ps) le h =
    (λ some. let k : from ≤ p.start = h.0 some in omega (arith, k), rising_lower (max from (p.stop - 1)) (max low (p.stop - 1)) ps (omega arith) h.1)

pub rising_push : (from n : ℕ) (ps : List Place) (p : Place) → from ≤ n → All (IsPlace n) ps → IsRising from ps → (0 < p.stop → n ≤ p.start) → IsRising from (ps ++ p ∷ [])
rising_push from n [] p le within h last = (λ some. let k : n ≤ p.start = last some in omega (arith, k), tt)
rising_push from n (q ∷ ps) p le within h last =
    let here : IsPlace n q = All-head (IsPlace n) q ps within in
    let stop : q.stop ≤ n + 1 = here.stop in
    (h.0, rising_push (max from (q.stop - 1)) n ps p (omega arith) (All-tail (IsPlace n) q ps within) h.1 last)

pub rising_without : (from : ℕ) (ps : List Place) (row : ℕ) → IsRising from ps → IsRising from (slice_set ps row nowhere)
rising_without from [] row h = tt
rising_without from (p ∷ ps) zero h = (λ some. absurd (let no : ⊥ = omega (arith, some) in no), rising_lower (max from (p.stop - 1)) (max from (0 - 1)) ps (omega arith) h.1)
rising_without from (p ∷ ps) (suc row) h = (h.0, rising_without (max from (p.stop - 1)) ps row h.1)

-- a clause that is moved to where those before it end does not end behind its old place
pub moved_end : (end : ℕ) (p : Place) → p.start ≤ p.stop - 1 → (0 < p.stop → end ≤ p.start) → end + size p ≤ max end (p.stop - 1)
moved_end end p first begins = ⊎_elim
    (λ (none : p.stop ≡ 0). let k : end + (p.stop - 1 - p.start) ≤ max end (p.stop - 1) = omega arith in k)
    (λ (some : p.stop ≡ 0 → ⊥). let before : end ≤ p.start = begins (omega arith) in let k : end + (p.stop - 1 - p.start) ≤ max end (p.stop - 1) = omega arith in k)
    (cases_eq p.stop 0)

-- one clause is moved, those before it and behind it are not
pub moved_clauses : (f g : Place → Option (List Lit)) (end from : ℕ) (ps : List Place) (row : ℕ) (p q : Place) → row < length ps →
    drop row ps ≡ p ∷ drop (row + 1) ps → All (IsPlace end) (take row ps) → IsRising from (drop (row + 1) ps) → ((r : Place) → IsPlace end r → g r ≡ f r) →
    g q ≡ f p → ((r : Place) → (0 < r.stop → from ≤ r.start) → g r ≡ f r) → map g (slice_set ps row q) ≡ map f ps
moved_clauses f g end from ps row p q within rest_is front back same here later =
    let rest : List Place = drop (row + 1) ps in
    let set_is : slice_set ps row q ≡ take row ps ++ q ∷ rest = sym (take-append-drop row (slice_set ps row q)) ∙ ap₂ (λ xs ys. xs ++ ys) (take-set ps row q) (drop-set ps row q within) in
    let old_is : ps ≡ take row ps ++ p ∷ rest = sym (take-append-drop row ps) ∙ ap (λ xs. take row ps ++ xs) rest_is in
    ap (map g) set_is ∙ map-append g (take row ps) (q ∷ rest)
    ∙ ap₂ (λ xs ys. xs ++ ys) (same_clauses g f end (take row ps) front same) (ap₂ (λ x xs. x ∷ xs) here (same_behind g f from rest back later))
    ∙ sym (map-append f (take row ps) (p ∷ rest)) ∙ sym (ap (map f) old_is)
