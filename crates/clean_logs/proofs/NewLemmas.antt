-- What holds of a new clause: its variables are the formula's, and no live clause has just its literals.
use Rattle.std.proofs.Common.{◌≡◌, ◌≢◌, ℕ, ◌<◌, ◌≤◌, ◌⊎◌, ℤ, pos, Bool, true, false, not, ◌&&◌, ◌||◌, IsTrue, IsFalse, List}
use Rattle.std.proofs.Common.{[], ◌∷◌, All, Any, Contains, Option, Some, refl, sym, ap, ◌∙◌, subst, arith, inl, inr, ⊎_elim, get_or, length}
use Rattle.std.proofs.lemmas.Bool.{cases_Bool, false≢true, or_cases, and_parts}
use Rattle.std.proofs.lemmas.List.{get_or_default}
use Rattle.std.proofs.lemmas.List.Elements.{All-contains}
use Rattle.cnf_types.specs.declared.literal.Lit.{Lit}
use Rattle.cnf_types.specs.Literals.{negated, variable}
use Rattle.proof_check.specs.Propagation.{same, is_among}
use Rattle.sat_core.specs.Trails.{IsUnset}
use Rattle.sat_core.specs.Rest.{HasTwoUnset, RestsOn}
use Rattle.clean_logs.specs.Lemmas.{HasDifferentVariables, FindsMore, resolvent, ClashesAt, Makes, IsMadeBy, IsNew}
use Rattle.clean_logs.specs.Lemmas.Makes.{last, resolved}
use Rattle.clean_logs.specs.Laws.{IsWithin}
use Rattle.clean_logs.proofs.Codes.{contains_among, among_contains, same_literal, same-itself}

-- the variables of every live clause are from 1 to vars
abbrev pub LiveWithin : (ℕ → Option (List Lit)) → ℕ → Type 0
LiveWithin clause vars = (id : ℕ) (lits : List Lit) → clause id ≡ Some lits → IsWithin vars lits

-- those of a set of literals are
abbrev pub SetWithin : (Lit → Bool) → ℕ → Type 0
SetWithin set vars = (l : Lit) → set l ≡ true → (1 ≤ variable l) × (variable l ≤ vars)

clause_within : (vars : ℕ) (lits : List Lit) → IsWithin vars lits → SetWithin (is_among lits) vars
clause_within vars lits within l e = All-contains (λ m. (1 ≤ variable m) × (variable m ≤ vars)) lits l within (contains_among lits l e)

resolvent_within : (vars : ℕ) (so_far : Lit → Bool) (p : Lit) (lits : List Lit) → SetWithin so_far vars → IsWithin vars lits → SetWithin (resolvent so_far p lits) vars
resolvent_within vars so_far p lits first other l e = ⊎_elim
    (λ (h : so_far l && not (same p l) ≡ true). first l (and_parts (so_far l) (not (same p l)) h).0)
    (λ (h : is_among lits l && not (same (negated p) l) ≡ true). clause_within vars lits other l (and_parts (is_among lits l) (not (same (negated p) l)) h).0)
    (or_cases (so_far l && not (same p l)) (is_among lits l && not (same (negated p) l)) e)

-- resolution makes no variable
made_within : (clause : ℕ → Option (List Lit)) (vars : ℕ) → LiveWithin clause vars → (hints : List ℤ) (made : Lit → Bool) → Makes clause hints made → SetWithin made vars
made_within clause vars live _ _ (last {id} {lits} is) = clause_within vars lits (live id lits is)
made_within clause vars live _ _ (resolved {id} {lits} {hints} {so_far} {p} before is clash) =
    resolvent_within vars so_far p lits (made_within clause vars live hints so_far before) (live id lits is)

at_its_place : (lits : List Lit) (k : ℕ) (d : Lit) → k < length lits → get_or lits k (get_or lits k d) ≡ get_or lits k d
at_its_place lits k d below = get_or_default lits k (get_or lits k d) d below

pub new_within : (clause : ℕ → Option (List Lit)) (vars : ℕ) → LiveWithin clause vars → (lits : List Lit) (hints : List ℤ) → IsNew clause lits hints → IsWithin vars lits
new_within clause vars live lits hints new k d below =
    let chain : IsMadeBy clause hints lits = new.chain in
    let l : Lit = get_or lits k d in
    made_within clause vars live hints chain.made chain.makes l (chain.same_literals l ∙ among_contains lits l (k, below, at_its_place lits k d below))

true_and_false : (b : Bool) → b ≡ true → b ≡ false → ⊥
true_and_false b t f = false≢true (sym f ∙ t)

same_or_not : (l m : Lit) → (l ≡ m) ⊎ (l ≢ m)
same_or_not l m = elim (cases_Bool (same l m)) [
  | inl e ↦ inl (same_literal l m e)
  | inr e ↦ inr (λ (is : l ≡ m). true_and_false (same l m) (subst (λ x. same l x ≡ true) is (same-itself l)) e)
]

module _ (clause : ℕ → Option (List Lit)) (lits : List Lit) (finds : FindsMore clause lits) where
  -- none of its literals is in the set
  none_true : (l : Lit) → Contains lits l → finds.set l ≡ true → ⊥
  none_true l held e = elim (same_or_not l finds.left) [
    | inl is ↦ true_and_false (finds.set finds.left) (subst (λ m. finds.set m ≡ true) is e) finds.left_unset.not_true
    | inr other ↦ true_and_false (finds.set (negated l)) (finds.others l held other) (finds.consistent l e)
  ]

  -- and only one is unset
  one_unset : (l : Lit) → Contains lits l → IsUnset finds.set l → l ≡ finds.left
  one_unset l held unset = elim (same_or_not l finds.left) [
    | inl is ↦ is
    | inr other ↦ absurd (true_and_false (finds.set (negated l)) (finds.others l held other) unset.not_false)
  ]

  -- so no live clause has only literals of it
  pub no_subset : (id : ℕ) (live : List Lit) → clause id ≡ Some live → ((l : Lit) → Contains live l → Contains lits l) → ⊥
  no_subset id live is within = elim (finds.at_rest id live is) [
    | inl some ↦ none_true some.1 (within some.1 (some.0, some.2, some.3)) some.4
    | inr two ↦ two.different (one_unset two.one (within two.one two.one_held) two.one_unset ∙ sym (one_unset two.other (within two.other two.other_held) two.other_unset))
  ]
