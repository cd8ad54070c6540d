-- What the rows of the list say of its clauses.
use Rattle.std.proofs.Common.{◌≡◌, ℕ, ◌<◌, List, length, map, get_or, Option, Some, option_map, sym, ap, ◌∙◌, arith}
use Rattle.std.specs.List.{slice_get}
use Rattle.std.proofs.lemmas.Option.{slice_get-map, slice_get-get_or, slice_get_within}
use Rattle.clause_pool.specs.declared.place.Place.{Place}
use Rattle.sat_core.specs.declared.numbered.Numbered.{Numbered}
use Rattle.sat_core.specs.declared.rows.Row.{Row}
use Rattle.sat_core.specs.declared.rows.Row.TheVariants.{Watched, Beside}
use Rattle.sat_core.specs.declared.store.Store.TheInside.{Inside}
use Rattle.sat_core.specs.Stores.{Stored, place_in, shown}
use Rattle.sat_core.specs.Kept.{IsKeptStore, stored}
use Rattle.sat_core.proofs.Removed.{no_clause}

-- the id of a row
abbrev pub id_in : Row → ℕ
id_in (Watched id place) = id
id_in (Beside n) = n.id

pub row-at : (xs : List Row) (k : ℕ) (r d : Row) → k < length xs → r ≡ get_or xs k d → slice_get xs k ≡ Some r
row-at xs k r d within is = slice_get-get_or xs k d within ∙ ap (λ (x : Row). Some x) (sym is)

-- the clause of a row
pub clause-of : (s : Inside) (k : ℕ) (r : Row) → IsKeptStore s → slice_get s.rows.items k ≡ Some r → (c : Numbered) × (slice_get s.added.clauses k ≡ Some c) × (shown r c.lits ≡ c)
clause-of s k r kept at =
    let c : Numbered = get_or s.added.clauses k no_clause in
    let there : slice_get s.added.clauses k ≡ Some c = slice_get-get_or s.added.clauses k no_clause (omega (arith, slice_get_within s.rows.items k r at, kept.size)) in
    (c, there, kept.rows k r c at there)

shown-id : (r : Row) (c : Numbered) → shown r c.lits ≡ c → id_in r ≡ c.id
shown-id (Watched id place) c e = ap (λ (n : Numbered). n.id) e
shown-id (Beside n) c e = ap (λ (n : Numbered). n.id) e

pub id-of : (s : Inside) (k : ℕ) (r : Row) → IsKeptStore s → slice_get s.rows.items k ≡ Some r → option_map (λ (c : Numbered). c.id) (slice_get s.added.clauses k) ≡ Some (id_in r)
id-of s k r kept at =
    let (c, there, is) = clause-of s k r kept at in
    ap (λ (o : Option Numbered). option_map (λ (n : Numbered). n.id) o) there ∙ ap (λ (n : ℕ). Some n) (sym (shown-id r c is))

pub place-of-row : (xs : List Row) (k : ℕ) (r : Row) → slice_get xs k ≡ Some r → slice_get (map place_in xs) k ≡ Some (place_in r)
place-of-row xs k r at = slice_get-map place_in xs k ∙ ap (λ (o : Option Row). option_map place_in o) at

-- the place in the pool that the list gives a clause
pub place-is : (s : Inside) (now : Stored) (k : ℕ) (r d : Row) (id : ℕ) (p : Place) → stored s ≡ now → k < length s.rows.items → r ≡ get_or s.rows.items k d →
    r ≡ Watched id p → slice_get now.places k ≡ Some (Some p)
place-is s now k r d id p view within at is =
    ap (λ (t : Stored). slice_get t.places k) (sym view) ∙ place-of-row s.rows.items k r (row-at s.rows.items k r d within at) ∙ ap (λ (x : Row). Some (place_in x)) is
