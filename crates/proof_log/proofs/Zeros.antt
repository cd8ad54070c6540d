-- Numbers cut at their zeros.
use Rattle.std.proofs.Common.{◌≡◌, ℕ, ◌+◌, ◌-◌, ◌<◌, ◌≤◌, ℤ, pos, Bool, true, false, List, [], ◌∷◌, ◌++◌}
use Rattle.std.proofs.Common.{length, take, drop, get_or, get_or-take, length-take, take-append-drop, refl, ap, sym, ◌∙◌, arith, All, cond, None, true≢false}
use Rattle.std.specs.List.{slice_split, onto_first}
use Rattle.std.proofs.lemmas.List.{drop_more, take_rest}
use Rattle.std.proofs.lemmas.List.Splits.{slice_split_at, slice_split_none}
use Rattle.std.proofs.lemmas.List.Elements.{All-from_get_or}
use Rattle.cnf_types.specs.Dimacs.{is_zero}
use Rattle.proof_log.specs.Reading.{add_of, drop_of}

-- no zero among the first ones
pub none_before : (zs : List ℤ) (i : ℕ) → i ≤ length zs → ((k : ℕ) → k < i → is_zero (get_or zs k (pos 0)) ≡ false) → All (λ z. is_zero z ≡ false) (take i zs)
none_before zs i within free =
    All-from_get_or (λ z. is_zero z ≡ false) (take i zs) (pos 0) (λ k h. let l : k < i = omega (arith, length-take i zs) in ap is_zero (get_or-take i zs k (pos 0) l) ∙ free k l)

pub cut_at : (zs : List ℤ) (i : ℕ) → i < length zs → ((k : ℕ) → k < i → is_zero (get_or zs k (pos 0)) ≡ false) → is_zero (get_or zs i (pos 0)) ≡ true →
    slice_split is_zero zs ≡ take i zs ∷ slice_split is_zero (take (length zs - (i + 1)) (drop (i + 1) zs))
cut_at zs i within free zero_here =
    let parts : zs ≡ take i zs ++ get_or zs i (pos 0) ∷ drop (i + 1) zs = sym (take-append-drop i zs) ∙ ap (λ r. take i zs ++ r) (drop_more zs i (pos 0) within) in
    ap (slice_split is_zero) parts ∙ slice_split_at is_zero (take i zs) (get_or zs i (pos 0)) (drop (i + 1) zs) (none_before zs i (omega arith) free) zero_here
    ∙ ap (λ r. take i zs ∷ slice_split is_zero r) (sym (take_rest zs (i + 1)))

pub uncut : (zs : List ℤ) → ((k : ℕ) → k < length zs → is_zero (get_or zs k (pos 0)) ≡ false) → slice_split is_zero zs ≡ zs ∷ []
uncut zs free = slice_split_none is_zero zs (All-from_get_or (λ z. is_zero z ≡ false) zs (pos 0) free)

-- the pieces of no number
abbrev pub just_empty : List (List ℤ) → Bool
just_empty [] = false
just_empty ([] ∷ []) = true
just_empty ([] ∷ p ∷ ps) = false
just_empty ((z ∷ zs) ∷ ps) = false

two_pieces : (b : Bool) (z : ℤ) (ps : List (List ℤ)) → just_empty ([] ∷ cond b ([] ∷ ps) (onto_first z ps)) ≡ false
two_pieces true z ps = refl
two_pieces false z [] = refl
two_pieces false z (p ∷ ps) = refl

two_pieces_at : (zs : List ℤ) → just_empty ([] ∷ slice_split is_zero zs) ≡ false
two_pieces_at [] = refl
two_pieces_at (z ∷ zs) = two_pieces (is_zero z) z (slice_split is_zero zs)

filled_first : (z : ℤ) (ps : List (List ℤ)) → just_empty (onto_first z ps) ≡ false
filled_first z [] = refl
filled_first z (p ∷ ps) = refl

not_empty_by : (b : Bool) (z : ℤ) (zs : List ℤ) → just_empty (cond b ([] ∷ slice_split is_zero zs) (onto_first z (slice_split is_zero zs))) ≡ false
not_empty_by true z zs = two_pieces_at zs
not_empty_by false z zs = filled_first z (slice_split is_zero zs)

pub not_empty : (zs : List ℤ) → (zs ≡ [] → ⊥) → just_empty (slice_split is_zero zs) ≡ false
not_empty [] h = absurd (h refl)
not_empty (z ∷ zs) h = not_empty_by (is_zero z) z zs

-- numbers after the last zero make no step
no_add : (id : ℤ) (lits hints : List ℤ) (ps : List (List ℤ)) → just_empty ps ≡ false → add_of id (lits ∷ hints ∷ ps) ≡ None
no_add id lits hints [] h = refl
no_add id lits hints ([] ∷ []) h = absurd (true≢false h)
no_add id lits hints ([] ∷ p ∷ ps) h = refl
no_add id lits hints ((z ∷ zs) ∷ ps) h = refl

pub no_add_at : (id : ℤ) (zs lits hints rest after : List ℤ) → slice_split is_zero zs ≡ lits ∷ slice_split is_zero rest →
    slice_split is_zero rest ≡ hints ∷ slice_split is_zero after → (after ≡ [] → ⊥) → add_of id (slice_split is_zero zs) ≡ None
no_add_at id zs lits hints rest after first second filled =
    ap (add_of id) (first ∙ ap (λ ps. lits ∷ ps) second) ∙ no_add id lits hints (slice_split is_zero after) (not_empty after filled)

no_drop : (num : ℤ) (ids : List ℤ) (ps : List (List ℤ)) → just_empty ps ≡ false → drop_of num (ids ∷ ps) ≡ None
no_drop num ids [] h = refl
no_drop num ids ([] ∷ []) h = absurd (true≢false h)
no_drop num ids ([] ∷ p ∷ ps) h = refl
no_drop num ids ((z ∷ zs) ∷ ps) h = refl

pub no_drop_at : (num : ℤ) (zs ids after : List ℤ) → slice_split is_zero zs ≡ ids ∷ slice_split is_zero after → (after ≡ [] → ⊥) → drop_of num (slice_split is_zero zs) ≡ None
no_drop_at num zs ids after first filled =
    ap (drop_of num) first ∙ no_drop num ids (slice_split is_zero after) (not_empty after filled)
