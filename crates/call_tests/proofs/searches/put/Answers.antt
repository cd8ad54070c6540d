use Rattle.std.proofs.Common.{◌≢◌, ◌∙◌, ◌+◌, ◌≤◌, max, [], ◌∷◌, All, ap, sym, subst, arith}
use Rattle.std.proofs.lemmas.List.Elements.{All-append, All-cons, All-nil, All-weaker}
use Rattle.sat_core.specs.declared.numbered.Numbered.{Numbered}
use Rattle.sat_core.specs.States.{State}
use Rattle.call_tests.proofs.searches.put.Goals as goal

pub add-requires-clause-fresh : goal.add-requires-clause-fresh
add-requires-clause-fresh c =
    All-weaker (λ (d : Numbered). d.id ≤ c.args.core.now.last_id) (λ d. d.id ≢ c.last_id-id.result + 1) (λ d h e. omega (arith, h, e, c.last_id-id.ensures)) c.args.core.now.clauses c.requires.known

pub returns-clause-level : goal.returns-clause-level
returns-clause-level c = ap (λ (s : State). s.level) c.in_ok-add.ensures.ok ∙ c.requires.level

pub returns-clause-vars : goal.returns-clause-vars
returns-clause-vars c = ap (λ (s : State). s.vars) c.in_ok-add.ensures.ok

pub returns-clause-last_id : goal.returns-clause-last_id
returns-clause-last_id c = omega (arith, ap (λ (s : State). s.last_id) c.in_ok-add.ensures.ok, c.last_id-id.ensures)

pub returns-clause-known : goal.returns-clause-known
returns-clause-known c =
    let s = c.args.core.now in
    let id = c.last_id-id.result + 1 in
    let Known : Numbered → Type 0 = λ d. d.id ≤ max s.last_id id in
    let one : Numbered = record { id = id; lits = c.args.lits.now } in
    subst (λ (t : State). All (λ d. d.id ≤ t.last_id) t.clauses) (sym c.in_ok-add.ensures.ok)
    (All-append Known s.clauses (one ∷ []) (All-weaker (λ (d : Numbered). d.id ≤ s.last_id) Known (λ d h. omega (arith, h)) s.clauses c.requires.known)
    (All-cons Known one [] (omega arith) (All-nil Known)))
