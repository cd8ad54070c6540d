-- What the clauses of a sound core are like, by their places.
use Rattle.std.proofs.Common.{◌≡◌, ℕ, List, slice_get, refl, Option, Some, None, option_map}
use Rattle.std.proofs.lemmas.Option.{none-some, same_Some}
use Rattle.cnf_types.specs.declared.literal.Lit.{Lit}
use Rattle.sat_core.specs.declared.assigned.Held.{Held}
use Rattle.sat_core.specs.declared.numbered.Numbered.{Numbered}
use Rattle.sat_core.specs.Trails.{clause_at, id_at}

-- the clause at a place
pub record IsAt (clauses : List Numbered) (h : Held) : Type 0 where
  pub clause : Numbered
  pub at : slice_get clauses h.0 ≡ Some clause

pub found_lits : (clauses : List Numbered) (h : Held) (lits : List Lit) (o : Option Numbered) → slice_get clauses h.0 ≡ o →
    option_map (λ (c : Numbered). c.lits) o ≡ Some lits → (c : Numbered) × (slice_get clauses h.0 ≡ Some c) × (c.lits ≡ lits)
found_lits clauses h lits None at is = absurd (none-some lits is)
found_lits clauses h lits (Some c) at is = (c, at, same_Some c.lits lits is)

pub clause_found : (clauses : List Numbered) (h : Held) (lits : List Lit) → clause_at clauses h ≡ Some lits → (c : Numbered) × (slice_get clauses h.0 ≡ Some c) × (c.lits ≡ lits)
clause_found clauses h lits is = found_lits clauses h lits (slice_get clauses h.0) refl is

pub found_id : (clauses : List Numbered) (h : Held) (id : ℕ) (o : Option Numbered) → slice_get clauses h.0 ≡ o →
    option_map (λ (c : Numbered). c.id) o ≡ Some id → (c : Numbered) × (slice_get clauses h.0 ≡ Some c) × (c.id ≡ id)
found_id clauses h id None at is = absurd (none-some id is)
found_id clauses h id (Some c) at is = (c, at, same_Some c.id id is)

pub id_found : (clauses : List Numbered) (h : Held) (id : ℕ) → id_at clauses h ≡ Some id → (c : Numbered) × (slice_get clauses h.0 ≡ Some c) × (c.id ≡ id)
id_found clauses h id is = found_id clauses h id (slice_get clauses h.0) refl is
