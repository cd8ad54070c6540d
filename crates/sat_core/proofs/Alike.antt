-- Clauses with the same literals, and what the pool keeps of a clause of the list.
use Rattle.std.proofs.Common.{◌≡◌, ◌≢◌, ℕ, inl, inr, List, All, Option, Some, IsSomeAnd, option_map, refl, sym, ap, ◌∙◌, subst, IsTrue}
use Rattle.std.specs.List.{slice_get}
use Rattle.std.proofs.lemmas.List.Elements.{All-contains}
use Rattle.arc_base.proofs.Items.{All-from}
use Rattle.cnf_types.specs.declared.literal.Lit.{Lit}
use Rattle.cnf_types.specs.Literals.{negated}
use Rattle.clause_pool.specs.declared.place.Place.{Place}
use Rattle.clause_pool.specs.Pools.{Entry, State, clause_at as clause_in}
use Rattle.clause_pool.proofs.Sound.{and-some, some-and}
use Rattle.sat_core.specs.declared.numbered.Numbered.{Numbered}
use Rattle.sat_core.specs.declared.assigned.Assigned.{Assigned}
use Rattle.sat_core.specs.declared.assigned.Held.{Held}
use Rattle.sat_core.specs.declared.examining.Finding.{Finding}
use Rattle.sat_core.specs.declared.examining.Finding.TheVariants.{Rests, Unit as Implied, Falsified}
use Rattle.sat_core.specs.Trails.{clause_at, is_on}
use Rattle.sat_core.specs.Rest.{RestsOn}
use Rattle.sat_core.specs.Progressing.{IsFinding}
use Rattle.sat_core.specs.Watches.{AreSame, IsLinked}
use Rattle.sat_core.specs.Placed.{AreAlike, IsPlaced}
use Rattle.sat_core.proofs.Linking.{in-list}
use Rattle.sat_core.proofs.Settling.{rests-here}

pub alike-self : (lits : List Lit) → AreAlike lits lits
alike-self lits = record { size = refl; there = λ l h. h; back = λ l h. h }

pub alike-same : (a b : List Lit) → AreSame a b → AreAlike a b
alike-same a b s = record { size = s.size; there = s.there; back = s.back }

-- what holds of each literal
pub alike-all : (P : Lit → Type 0) (a b : List Lit) → AreAlike a b → All P a → All P b
alike-all P a b s all = All-from P b (λ l h. All-contains P a l all (s.back l h))

pub alike-back : (P : Lit → Type 0) (a b : List Lit) → AreAlike a b → All P b → All P a
alike-back P a b s all = All-from P a (λ l h. All-contains P b l all (s.there l h))

pub alike-rests : (entries : List Assigned) (a b : List Lit) → AreAlike a b → RestsOn (is_on entries) b → RestsOn (is_on entries) a
alike-rests entries a b s (inl (k, l, within, at, on)) = rests-here entries a l (s.back l (k, within, at)) on
alike-rests entries a b s (inr two) = inr (record {
  one = two.one;
  other = two.other;
  one_held = s.back two.one two.one_held;
  other_held = s.back two.other two.other_held;
  different = two.different;
  one_unset = two.one_unset;
  other_unset = two.other_unset;
})

-- what was found of a clause is true of one with the same literals
pub alike-finding : (entries : List Assigned) (a b : List Lit) (f : Finding) → AreAlike a b → IsFinding entries b f → IsFinding entries a f
alike-finding entries a b Rests s h = alike-rests entries a b s h
alike-finding entries a b (Implied l) s h = (h.0, record { held = s.back l h.1.held; others = alike-back (λ m. m ≢ l → IsTrue (is_on entries (negated m))) a b s h.1.others })
alike-finding entries a b Falsified s h = alike-back (λ m. IsTrue (is_on entries (negated m))) a b s h

-- the clause of the list at a place of it, of which these are the literals
pub record Told (clauses : List Numbered) (held : Held) (of : List Lit) : Type 0 where
  pub lits : List Lit
  pub is : clause_at clauses held ≡ Some lits
  pub alike : AreAlike lits of

pub told : (clauses : List Numbered) (held : Held) (of : List Lit) → IsSomeAnd (clause_at clauses held) (λ lits. AreAlike lits of) → Told clauses held of
told clauses held of h =
    let f = and-some (clause_at clauses held) (λ (lits : List Lit). AreAlike lits of) h in
    record { lits = f.value; is = f.is; alike = f.holds }

-- a clause that is kept in the pool
pub placed-lits : (clauses : List Numbered) (places : List (Option Place)) (pool : State) (held : Held) (p : Place) (of : List Lit) →
    IsLinked pool.vars clauses pool → IsPlaced (record { clauses = clauses; places = places }) pool → slice_get places held.0 ≡ Some (Some p) →
    ((e : Entry) → clause_in pool p ≡ Some e → of ≡ e.lits) → IsSomeAnd (clause_at clauses held) (λ lits. AreAlike lits of)
placed-lits clauses places pool held p of linked placed at is =
    let f = and-some (clause_in pool p) (λ (e : Entry). e.id ≡ held.0) (placed.live held.0 p at) in
    let (n, there, same) = in-list pool.vars clauses pool p f.value linked f.is in
    some-and (clause_at clauses held) n.lits (λ (lits : List Lit). AreAlike lits of)
    (ap (λ (o : Option Numbered). option_map (λ (c : Numbered). c.lits) o) (ap (λ (k : ℕ). slice_get clauses k) (sym f.holds) ∙ there))
    (subst (λ (ls : List Lit). AreAlike n.lits ls) (sym (is f.value f.is)) (alike-same n.lits f.value.lits same))
