use Rattle.std.proofs.Common.{rules, ◌≡◌, List, Option, Some, IfSome, refl, sym, subst}
use Rattle.std.proofs.lemmas.List.{take_all}
use Rattle.cnf_types.specs.declared.literal.Lit.{Lit}
use Rattle.sat_core.specs.Trails.{clause_at}
use Rattle.sat_core.proofs.Alike.{told}
use Rattle.sat_search.specs.Passes.{IsJoined}
use Rattle.sat_search.proofs.Marking.{joined_alike, joined_next}
use Rattle.sat_search.proofs.lesson.Lesson.join.Goals as goal

pub loop-lit-preserved : goal.loop-lit-preserved
loop-lit-preserved c = record {
  joined = joined_next c.args.core.now.trail c.args.marks.now c.loop-lit.marks c.meet.new.marks c.clause-lits.result.now c.loop-lit.lit-index
      (record { code = 0 }) _ c.loop-lit-test.true refl c.loop-lit.invariant.joined c.in_ok-meet.ensures.joined;
  counted = search rules;
  met = search rules;
  size = search rules;
  lits = search rules;
  hints = search rules;
}

pub returns-clause-joined : goal.returns-clause-joined
returns-clause-joined c =
    let t = told c.args.core.now.clauses c.args.held c.clause-lits.result.now c.clause-lits.ensures.lits in
    if-found (clause_at c.args.core.now.clauses c.args.held) t.lits (IsJoined c.args.core.now.trail c.args.marks.now c.loop-lit.marks) t.is
    (joined_alike c.args.core.now.trail c.args.marks.now c.loop-lit.marks t.lits c.clause-lits.result.now t.alike
    (subst (λ (ls : List Lit). IsJoined c.args.core.now.trail c.args.marks.now c.loop-lit.marks ls)
    (take_all c.loop-lit.lit-index c.clause-lits.result.now c.loop-lit-test.false) c.loop-lit.invariant.joined))
  where
    if-found : (o : Option (List Lit)) (x : List Lit) (P : List Lit → Type 0) → o ≡ Some x → P x → IfSome o P
    if-found o x P e h = subst (λ (p : Option (List Lit)). IfSome p P) (sym e) h
