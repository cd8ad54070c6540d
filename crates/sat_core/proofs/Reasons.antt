-- Which clauses are reasons.
use Rattle.std.proofs.Common.{◌≡◌, ◌≢◌, ℕ, suc, ◌<◌, ◌==◌, Bool, true, false, cond, List, [], ◌∷◌, length, get_or, take, Option, Some, IfSome, IsSomeAnd, refl, ap, ◌∙◌, subst, arith}
use Rattle.std.specs.List.{Any}
use Rattle.std.specs.Option.{option_and_then}
use Rattle.arc_base.proofs.Items.{All-from}
use Rattle.cnf_types.specs.declared.literal.Lit.{Lit}
use Rattle.cnf_types.specs.Literals.{variable}
use Rattle.sat_core.specs.declared.numbered.Numbered.{Numbered}
use Rattle.sat_core.specs.declared.assigned.Assigned.{Assigned}
use Rattle.sat_core.specs.declared.assigned.Held.{Held}
use Rattle.sat_core.specs.Trails.{IsTrail, HasReason, Implies, MayFollow, clause_at, entry_of}
use Rattle.sat_core.specs.Forgotten.{IsNoReason}
use Rattle.sat_core.proofs.Fronts.{each-at}
use Rattle.sat_core.proofs.Places.{entry-at}
use Rattle.sat_core.proofs.Sound.{stands}

-- the reason of a variable's entry is one of an entry
pub any-reason : (trail : List Assigned) (var : ℕ) (held : Held) → option_and_then (λ (e : Assigned). e.reason) (entry_of trail var) ≡ Some held → Any (λ e. e.reason ≡ Some held) trail
any-reason [] var held h = cc
any-reason (x ∷ xs) var held h =
    let later : option_and_then (λ (e : Assigned). e.reason) (entry_of xs var) ≡ Some held → Any (λ e. e.reason ≡ Some held) (x ∷ xs) = λ k. let (n, y, within, at, is) =
    any-reason xs var held k in (suc n, y, omega (arith, within), at, is) in
    let cases : (b : Bool) → option_and_then (λ (e : Assigned). e.reason) (cond b (Some x) (entry_of xs var)) ≡ Some held → Any (λ e. e.reason ≡ Some held) (x ∷ xs) =
    λ b. elim b as (λ b. option_and_then (λ (e : Assigned). e.reason) (cond b (Some x) (entry_of xs var)) ≡ Some held → Any (λ e. e.reason ≡ Some held) (x ∷ xs)) [
      | true ↦ λ k. (0, x, omega arith, refl, k)
      | false ↦ later
    ] in
    cases (variable x.lit == var) h

held-there : (before : List Assigned) (e : Assigned) (clauses : List Numbered) (held : Held) (lits : List Lit) → HasReason clauses before e →
    e.reason ≡ Some held → clause_at clauses held ≡ Some lits → Implies before lits e.lit
held-there before e clauses held lits reason is there =
    let one = subst (λ (o : Option Held). IfSome o (λ h. IsSomeAnd (clause_at clauses h) (λ ls. Implies before ls e.lit))) is reason in
    let two = subst (λ (o : Option (List Lit)). IsSomeAnd o (λ ls. Implies before ls e.lit)) there one in
    two

-- where no literal's variable has the clause for its reason, it is no reason
pub no-reason : (clauses : List Numbered) (vars : ℕ) (trail : List Assigned) (level : ℕ) (held : Held) (lits : List Lit) → IsTrail clauses vars trail level → clause_at clauses held ≡ Some lits →
    ((k : ℕ) (d : Lit) → k < length lits → option_and_then (λ (e : Assigned). e.reason) (entry_of trail (variable (get_or lits k d))) ≢ Some held) → IsNoReason trail held
no-reason clauses vars trail level held lits is_trail there none = All-from (λ (e : Assigned). e.reason ≢ Some held) trail (λ e (i, within, at) same.
    let follows : MayFollow clauses vars (take i trail) e = subst (λ (x : Assigned). MayFollow clauses vars (take i trail) x) at (each-at (MayFollow clauses vars) trail i e is_trail.entries within) in
    let implies = held-there (take i trail) e clauses held lits follows.reason same there in
    let (k, inside, lit_at) = implies.held in
    let found : entry_of trail (variable e.lit) ≡ Some e = subst (λ (x : Assigned). entry_of trail (variable x.lit) ≡ Some x) at
    (entry-at vars trail i e (stands clauses vars trail is_trail.entries) within) in
    none k e.lit inside (ap (λ (l : Lit). option_and_then (λ (x : Assigned). x.reason) (entry_of trail (variable l))) lit_at ∙ ap (option_and_then (λ (x : Assigned). x.reason)) found ∙ same))
