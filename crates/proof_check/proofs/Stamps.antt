-- Flags by their stamps.
use Rattle.std.proofs.Common.{◌≡◌, ℕ, suc, zero, ◌+◌, ◌≤◌, Bool, true, false, eqb, List, [], ◌∷◌, length, map, replicate, All, refl, ap, ◌∙◌, arith}
use Rattle.std.proofs.lemmas.Bool.{ne_eqb, eq-eqb}
use Rattle.std.proofs.lemmas.List.{map-set}
use Rattle.std.specs.Prelude.{slice_set}

-- the flags of these stamps
abbrev pub flags : ℕ → List ℕ → List Bool
flags current stamps = map (λ stamp. eqb stamp current) stamps

-- no stamp 0 is that of a flag
pub none_set : (count current : ℕ) → flags (suc current) (replicate count 0) ≡ replicate count false
none_set zero current = refl
none_set (suc count) current = ap (λ b. b ∷ flags (suc current) (replicate count 0)) (ne_eqb 0 (suc current) (λ e. omega (arith, e))) ∙ ap (λ rest. false ∷ rest) (none_set count current)

-- nor is one that came before
pub all_cleared : (current : ℕ) (stamps : List ℕ) → All (λ stamp. stamp ≤ current) stamps → flags (current + 1) stamps ≡ replicate (length stamps) false
all_cleared current [] before = refl
all_cleared current (stamp ∷ stamps) before =
    let here : stamp ≤ current = before 0 0 (omega arith) in
    ap (λ b. b ∷ flags (current + 1) stamps) (ne_eqb stamp (current + 1) (λ e. omega (arith, here, e)))
    ∙ ap (λ rest. false ∷ rest) (all_cleared current stamps (λ k d within. before (suc k) d (omega arith)))

-- a stamp that is the current one sets its flag
pub one_set : (current : ℕ) (stamps : List ℕ) (place : ℕ) → flags current (slice_set stamps place current) ≡ slice_set (flags current stamps) place true
one_set current stamps place = map-set (λ stamp. eqb stamp current) stamps place current ∙ ap (slice_set (flags current stamps) place) (eq-eqb current current refl)

-- there is a flag for each stamp
pub flag_count : (current : ℕ) (stamps : List ℕ) → length (flags current stamps) ≡ length stamps
flag_count current [] = refl
flag_count current (stamp ∷ stamps) = ap suc (flag_count current stamps)
