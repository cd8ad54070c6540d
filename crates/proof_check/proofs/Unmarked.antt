-- Where no flag is set and the set is empty, no literal is marked.
use Rattle.std.proofs.Common.{◌≡◌, ℕ, suc, zero, false, List, [], ◌∷◌, length, arith, replicate, slice_get, refl, ap, ◌∙◌}
use Rattle.std.specs.Prelude.{nat_eq}
use Rattle.std.specs.Option.{unwrap_or}
use Rattle.std.specs.List.{list_any}
use Rattle.cnf_types.specs.declared.literal.Lit.{Lit}
use Rattle.proof_check.specs.declared.left.Marks.{Marks}
use Rattle.proof_check.specs.Marks.{is_marked}

no_flag : (count place : ℕ) → unwrap_or (slice_get (replicate count false) place) false ≡ false
no_flag zero place = refl
no_flag (suc count) zero = refl
no_flag (suc count) (suc place) = no_flag count place

pub none_marked : (marks : Marks) (count : ℕ) → marks.near ≡ replicate count false → marks.far.keys ≡ [] → (m : Lit) → is_marked marks m ≡ false
none_marked marks count near far m =
    ap (λ flags. unwrap_or (slice_get flags m.code) (list_any (nat_eq m.code) marks.far.keys)) near ∙ ap (λ keys. unwrap_or
    (slice_get (replicate count false) m.code) (list_any (nat_eq m.code) keys)) far ∙ no_flag count m.code

-- a list of no length is empty
pub no_items : {X : Type 0} (xs : List X) → length xs ≡ 0 → xs ≡ []
no_items [] e = refl
no_items (x ∷ xs) e = absurd (let no : ⊥ = omega (arith, e) in no)
