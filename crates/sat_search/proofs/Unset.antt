-- The variables that a trail leaves unset are in the heap.
use Rattle.std.proofs.Common.{◌≡◌, ◌≢◌, ℕ, zero, suc, ◌<◌, ◌≤◌, ◌↔◌, inl, inr, Bool, true, false, cond, IsTrue}
use Rattle.std.proofs.Common.{List, [], ◌∷◌, map, slice_get, get_or, All, Contains, ap, sym, ◌∙◌, subst, arith, ltb, Some}
use Rattle.std.proofs.lemmas.Bool.{cases_eq, cases_lt, lt-ltb, or_cases, or_left, or_right}
use Rattle.std.proofs.lemmas.Option.{none-some, same_Some}
use Rattle.std.proofs.lemmas.List.Elements.{All-contains, Contains-get_or, Contains-append_right}
use Rattle.cnf_types.specs.declared.literal.Lit.{Lit}
use Rattle.cnf_types.specs.Literals.{literal, variable}
use Rattle.proof_log.specs.declared.steps.Step.{Step}
use Rattle.sat_core.specs.declared.assigned.Assigned.{Assigned}
use Rattle.sat_core.specs.States.{State}
use Rattle.sat_core.specs.Trails.{is_on, up_to}
use Rattle.variable_heap.specs.Heaps.{HaveSame, IsTaken}
use Rattle.sat_search.specs.declared.order.Order.{Order}
use Rattle.sat_search.specs.Dropping.{Drops}
use Rattle.sat_search.specs.Orders.{IsFresh, IsMostActive, IsReleased, above, is_set, KeepsTrue, HoldsUnset}
use Rattle.sat_search.proofs.Models.{variable-of}
use Rattle.sat_search.proofs.Sound.{up_to_on}
use Rattle.sat_search.proofs.Trails.{on-set}

-- a variable that is set has a literal that is true
set_as : (trail : List Assigned) (var : ℕ) → IsTrue (is_set trail var) → (b : Bool) × IsTrue (is_on trail (literal var b))
set_as trail var set = elim (or_cases (is_on trail (literal var true)) (is_on trail (literal var false)) set) [
  | inl own ↦ (true, own)
  | inr negation ↦ (false, negation)
]

-- and is set by each of its literals
set_by : (trail : List Assigned) (var : ℕ) (b : Bool) → IsTrue (is_on trail (literal var b)) → IsTrue (is_set trail var)
set_by trail var true on = or_left (is_on trail (literal var true)) (is_on trail (literal var false)) on
set_by trail var false on = or_right (is_on trail (literal var true)) (is_on trail (literal var false)) on

-- it stays set where what is true stays so
still_set : (old new : List Assigned) (var : ℕ) → KeepsTrue old new → IsTrue (is_set old var) → IsTrue (is_set new var)
still_set old new var keeps set = let s = set_as old var set in set_by new var s.0 (keeps (literal var s.0) s.1)

-- ---- the heap holds what is unset

-- at first it holds all
pub fresh_waits : (vars : ℕ) (trail : List Assigned) (order : Order) → IsFresh vars order → HoldsUnset vars trail order
fresh_waits vars trail order fresh var least most = inr ((fresh.waiting var).1 (least, most))

-- more variables may be set
pub waits_on : (s now : State) (order : Order) → HoldsUnset s.vars s.trail order → now.vars ≡ s.vars → KeepsTrue s.trail now.trail → HoldsUnset now.vars now.trail order
waits_on s now order waiting vars keeps var least most = elim (waiting var least (omega (arith, vars, most))) [
  | inl set ↦ inl (still_set s.trail now.trail var keeps set)
  | inr held ↦ inr held
]

-- and one that is set leaves
pub waits_without : (s now : State) (was order : Order) (first : ℕ) → HoldsUnset s.vars s.trail was → now.vars ≡ s.vars → KeepsTrue s.trail now.trail →
    ((w : ℕ) → Contains order.heap.vars w ↔ (Contains was.heap.vars w × (w ≢ first))) → IsTrue (is_set now.trail first) → HoldsUnset now.vars now.trail order
waits_without s now was order first waiting vars keeps gone done var least most = elim (waits_on s now was waiting vars keeps var least most) [
  | inl set ↦ inl set
  | inr held ↦ elim (cases_eq var first) [
    | inl this ↦ inl (subst (λ (v : ℕ). IsTrue (is_set now.trail v)) (sym this) done)
    | inr other ↦ inr ((gone var).1 (held, other))
  ]
]

-- the one that leaves is as active as any that stays
pub active_first : (was order : Order) (activity : List ℕ) (first : ℕ) → activity ≡ order.activity.items → IsTaken activity was.heap order.heap first → IsMostActive order first
active_first was order activity first is taken = subst (λ (ns : List ℕ). All (λ w. get_or ns w 0 ≤ get_or ns first 0) order.heap.vars) is
    (λ k d low. All-contains (λ w. get_or activity w 0 ≤ get_or activity first 0) was.heap.vars (get_or order.heap.vars k d) taken.most
    ((taken.gone (get_or order.heap.vars k d)).0 (Contains-get_or order.heap.vars k d low)).0)

-- the heap may have the same variables in another order
pub waits_same : (vars : ℕ) (trail : List Assigned) (old new : Order) → HoldsUnset vars trail old → HaveSame old.heap.vars new.heap.vars → HoldsUnset vars trail new
waits_same vars trail old new waiting same var least most = elim (waiting var least most) [
  | inl set ↦ inl set
  | inr held ↦ inr ((same var).0 held)
]

-- clauses may be forgotten
pub waits_dropped : (s now : State) (old new : List Step) (was order : Order) → HoldsUnset s.vars s.trail was → Drops s old now new → order ≡ was → HoldsUnset now.vars now.trail order
waits_dropped s now old new was order waiting drops same =
    subst (λ (o : Order). HoldsUnset now.vars now.trail o) (sym same) (waits_on s now was waiting drops.forgets.vars drops.forgets.trail)

-- ---- levels are taken back

-- one entry more
above-more : (b : Assigned) (rest : List Assigned) (c : Bool) (var : ℕ) → Contains (map (λ e. variable e.lit) rest) var → Contains (map (λ e. variable e.lit) (cond c (b ∷ rest) rest)) var
above-more b rest true var held = Contains-append_right (variable b.lit ∷ []) (map (λ e. variable e.lit) rest) var held
above-more b rest false var held = held

-- the variable of an entry above a level is one of those of these entries
above_holds : (trail : List Assigned) (level place : ℕ) (a : Assigned) → slice_get trail place ≡ Some a → level < a.level → Contains (map (λ e. variable e.lit) (above trail level)) (variable a.lit)
above_holds [] level place a at high = absurd (none-some a at)
above_holds (b ∷ trail) level zero a at high =
    let is : b ≡ a = same_Some b a at in
    let kept : ltb level b.level ≡ true = lt-ltb level b.level (omega (arith, high, ap (λ (x : Assigned). x.level) is)) in
    subst (λ (c : Bool). Contains (map (λ e. variable e.lit) (cond c (b ∷ above trail level) (above trail level))) (variable a.lit)) (sym kept)
    (0, omega arith, ap (λ (x : Assigned). variable x.lit) is)
above_holds (b ∷ trail) level (suc place) a at high =
    above-more b (above trail level) (ltb level b.level) (variable a.lit) (above_holds trail level place a at high)

-- the variables of the entries that are taken back are in the heap again
pub waits_released : (vars level : ℕ) (trail : List Assigned) (old new : Order) → IsReleased (above trail level) old new → HoldsUnset vars trail old → HoldsUnset vars (up_to trail level) new
waits_released vars level trail old new released waiting var least most = elim (waiting var least most) [
  | inl set ↦
      let s = set_as trail var set in
      let e = on-set trail (literal var s.0) s.1 in
      elim (cases_lt level e.entry.level) [
        | inl high ↦ inr ((released.waiting var).1
            (inr (subst (Contains (map (λ a. variable a.lit) (above trail level))) (ap variable e.literal ∙ variable-of var s.0) (above_holds trail level e.place e.entry e.at high))))
        | inr low ↦ inl (set_by (up_to trail level) var s.0 (subst (λ (m : Lit). IsTrue (is_on (up_to trail level) m)) e.literal (up_to_on trail level e.place e.entry e.at low)))
      ]
  | inr held ↦ inr ((released.waiting var).1 (inl held))
]
