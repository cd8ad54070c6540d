use Rattle.std.proofs.Common.{◌≡◌, ◌≤◌, List, [], All, None, sym, ap, subst, arith}
use Rattle.std.proofs.lemmas.List.Elements.{All-nil}
use Rattle.cnf_types.specs.declared.clauses.Formula.{Formula}
use Rattle.proof_log.specs.declared.steps.Step.{Step}
use Rattle.proof_log.specs.Texts.{HasLine}
use Rattle.proof_check.specs.Knowledge.{start}
use Rattle.proof_check.specs.Logs.{after_all, IsAccepted}
use Rattle.clean_logs.specs.CleanLogs.{IsClean}
use Rattle.sat_core.specs.States.{State}
use Rattle.sat_search.specs.Searches.{Knows}
use Rattle.sat_search.specs.Cores.{core_of}
use Rattle.sat_search.proofs.Numbering.{ids_are_positive}
use Rattle.sat_search.proofs.FormulaClauses.{live_are}
use Rattle.cnf_commands.proofs.FoundBySearch.{all_appended, is_found}
use Rattle.cnf_commands.proofs.solving.search_formula.Goals as goal

-- the core knows the formula
knows : (f : Formula) (s : State) → s ≡ core_of f → Knows (start f None []) s
knows f s is = subst (Knows (start f None [])) (sym is) (record { clauses = live_are f.clauses; last = omega arith })

knows_after : (f : Formula) (s : State) (steps : List Step) → s ≡ core_of f → steps ≡ [] → Knows (after_all (start f None []) steps) s
knows_after f s steps is empty = subst (λ (l : List Step). Knows (after_all (start f None []) l) s) (sym empty) (knows f s is)

pub search_first-requires-clause-numbers : goal.search_first-requires-clause-numbers
search_first-requires-clause-numbers g c = omega (arith, ap (λ (s : State). s.last_id) c.in_ok-core.ensures.core, c.in_ok-core.ensures.few, c.requires.most)

pub returns-clause-log : goal.returns-clause-log
returns-clause-log g c =
    let f = c.args.formula.now in
    let ensures = c.in_ok-found.ensures in
    let positive = subst (λ (s : State). All (λ d. 1 ≤ d.id) s.clauses) (sym c.in_ok-core.ensures.core) (ids_are_positive f.clauses) in
    record {
      accepted = all_appended (IsAccepted (start f None [])) c.make.result c.search_first.new.log.steps _ c.make.ensures ensures.keeps
          (ensures.accepted (start f None []) (knows f c.in_ok-core.core c.in_ok-core.ensures.core));
      has_lines = ensures.lines positive (subst (All HasLine) (sym c.make.ensures) (All-nil HasLine));
    }

pub returns-clause-found : goal.returns-clause-found
returns-clause-found g c =
    let f = c.args.formula.now in
    let core = c.in_ok-core.ensures.core in
    let ensures = c.in_ok-found.ensures in
    let accepted = all_appended (IsAccepted (start f None [])) c.make.result c.search_first.new.log.steps _ c.make.ensures ensures.keeps
    (ensures.accepted (start f None []) (knows f c.in_ok-core.core core)) in
    let spent = ensures.spent f None [] (knows_after f c.in_ok-core.core c.make.result core c.make.ensures) (subst (IsClean f None []) (sym c.make.ensures) tt) in
    let clean = ensures.clean f None [] (knows_after f c.in_ok-core.core c.make.result core c.make.ensures) (subst (IsClean f None []) (sym c.make.ensures) tt) in
    is_found f c.args.limit c.search_first.new.log c.in_ok-found.found c.in_ok-core.core c.search_first.new.core c.make.result core c.make.ensures ensures.model ensures.others
    ensures.vars ensures.refuting spent clean accepted
