-- What a conflict teaches: the first and the last step of its pass.
use Rattle.std.proofs.Common.{◌≡◌, ℕ, ◌+◌, ◌*◌, ℤ, pos, Bool, false, IsFalse, List, [], ◌∷◌, ◌++◌, length}
use Rattle.std.proofs.Common.{reverse, get_or, All, refl, ap, sym, ◌∙◌, subst, arith, Option, Some, None, IsSomeAnd, IfSome, option_map}
use Rattle.std.specs.Option.{option_to_list}
use Rattle.std.proofs.lemmas.Bool.{false≢true, or_left}
use Rattle.cnf_types.specs.declared.literal.Lit.{Lit}
use Rattle.cnf_types.specs.Literals.{variable}
use Rattle.proof_check.specs.Propagation.{same, is_among}
use Rattle.proof_check.specs.Knowledge.{is_empty_clause}
use Rattle.sat_core.specs.declared.assigned.Held.{Held}
use Rattle.sat_core.specs.declared.numbered.Numbered.{Numbered}
use Rattle.sat_core.specs.Trails.{clause_at, IsOf, IsFalsified}
use Rattle.sat_core.specs.States.{State, IsSound}
use Rattle.clean_logs.specs.Lemmas.{IsNew}
use Rattle.sat_search.specs.Live.{clause_in}
use Rattle.sat_search.specs.Passes.{is_marked, open_in, hint_at, IsJoined, IsPass}
use Rattle.sat_search.specs.Searches.{IsLearnt}
use Rattle.sat_search.proofs.Literals.{eq-same, variable-negated}
use Rattle.sat_search.proofs.Among.{among_at}
use Rattle.sat_search.proofs.Clauses.{clause_found}
use Rattle.sat_search.proofs.Visiting.{in_range}
use Rattle.sat_search.proofs.Learnt.{pass_begins, end_shown, end_new}

some-clause : (o : Option (List Lit)) {P Q : List Lit → Type 0} → IsSomeAnd o P → IfSome o Q → (ls : List Lit) × (o ≡ Some ls) × P ls × Q ls
some-clause None p q = absurd p
some-clause (Some ls) p q = (ls, refl, p, q)

-- the pass begins with the clause of the conflict
pub conflict_pass : (s : State) → IsSound s → (h : Held) (none flags : List Bool) (first current : ℕ) (start hints : List ℤ) (lits : List Lit) →
    ((m : Lit) → is_marked none m ≡ false) → IsSomeAnd (clause_at s.clauses h) (IsFalsified s.trail) → IfSome (clause_at s.clauses h) (IsJoined s.trail none flags) →
    length flags ≡ 2 * s.vars + 2 → current ≡ open_in s.level s.trail flags → start ≡ [] → hints ≡ start ++ option_to_list (hint_at s.clauses h) → lits ≡ [] →
    first ≡ length s.trail → IsPass s first flags lits (reverse hints) current
conflict_pass s sound h none flags first current start hints lits unmarked conflict joins size counted start_is hints_are lits_are first_is =
    let both = some-clause (clause_at s.clauses h) conflict joins in
    let c = clause_found s.clauses h both.0 both.1 in
    let falsified = subst (λ (ls : List Lit). IsFalsified s.trail ls) (sym c.2) both.2 in
    let joined = subst (λ (ls : List Lit). IsJoined s.trail none flags ls) (sym c.2) both.3 in
    let begins = pass_begins s sound none flags unmarked h.0 c.0 c.1 falsified joined current size counted in
    let hint_is : hint_at s.clauses h ≡ Some (pos c.0.id) = ap (λ (o : Option Numbered). option_map pos (option_map (λ (d : Numbered). d.id) o)) c.1 in
    let is : reverse hints ≡ pos c.0.id ∷ [] = ap reverse (hints_are ∙ ap (λ (hs : List ℤ). hs ++ option_to_list (hint_at s.clauses h)) start_is ∙ ap (λ (o : Option ℤ). option_to_list o) hint_is) in
    subst (λ (n : ℕ). IsPass s n flags lits (reverse hints) current) (sym first_is)
    (subst (λ (ls : List Lit). IsPass s (length s.trail) flags ls (reverse hints) current) (sym lits_are)
    (subst (λ (hs : List ℤ). IsPass s (length s.trail) flags [] hs current) (sym is) begins))

new_where : (s : State) (sound : IsSound s) (flags : List Bool) (lits : List Lit) (hints : List ℤ) (current : ℕ) → IsPass s 0 flags lits hints current →
    IsFalse (is_empty_clause lits) → IsNew (clause_in s.clauses) lits hints
new_where s sound flags [] hints current pass filled = absurd (false≢true (sym filled))
new_where s sound flags (l ∷ ls) hints current pass filled = end_new s sound flags (l ∷ ls) hints current pass l (or_left (same l l) (is_among ls l) (eq-same l l refl))

range_where : (s : State) (sound : IsSound s) (flags : List Bool) (lits : List Lit) (hints : List ℤ) (current : ℕ) → IsPass s 0 flags lits hints current → All (IsOf s.vars) lits
range_where s sound flags lits hints current pass k d low =
    let m : Lit = get_or lits k d in
    let set = pass.settled m (among_at lits k d m low refl) in
    let range : IsOf s.vars set.entry.lit = in_range s sound set.place set.entry set.at in
    let var : variable set.entry.lit ≡ variable m = ap variable set.literal ∙ variable-negated m in
    record { least = omega (arith, range.least, var); most = omega (arith, range.most, var) }

-- what it ends with is learnt
pub pass_learnt : (s : State) → IsSound s → (first : ℕ) (flags : List Bool) (lits : List Lit) (hints turned : List ℤ) (current : ℕ) →
    IsPass s first flags lits (reverse hints) current → first ≡ 0 → turned ≡ reverse hints → IsLearnt (clause_in s.clauses) s.vars lits turned
pass_learnt s sound first flags lits hints turned current pass first_is turned_is =
    let at_start : IsPass s 0 flags lits (reverse hints) current = subst (λ (n : ℕ). IsPass s n flags lits (reverse hints) current) first_is pass in
    let ended : IsPass s 0 flags lits turned current = subst (λ (hs : List ℤ). IsPass s 0 flags lits hs current) (sym turned_is) at_start in
    record {
      shown = end_shown s sound flags lits turned current ended;
      live = ended.live;
      new = new_where s sound flags lits turned current ended;
      range = range_where s sound flags lits turned current ended;
      small = sound.small;
    }
