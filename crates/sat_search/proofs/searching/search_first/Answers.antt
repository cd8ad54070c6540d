use Rattle.std.proofs.Common.{◌≡◌, ℕ, ◌+◌, List, [], IfOk, ap}
use Rattle.proof_log.specs.declared.steps.Step.{Step}
use Rattle.proof_check.specs.Knowledge.{Knowledge}
use Rattle.proof_check.specs.Logs.{after_all}
use Rattle.sat_core.specs.States.{State}
use Rattle.clean_logs.specs.CleanLogs.{IsClean, added_by, additions}
use Rattle.sat_search.specs.Live.{clause_in}
use Rattle.sat_search.specs.Searches.{appended, live_after, GoesOn, IfModel, KeepsOthers, Knows, Searched}
use Rattle.sat_search.proofs.Outcomes.{log_ids, log_old, log_accepted, log_hints, log_lines, refuted_exactly, refuting_then}
use Rattle.sat_search.proofs.Outcomes.{model_then, spent_then, is_model_then, follows_knows, follows_clean, follows_others, searched_back}
use Rattle.sat_search.proofs.searching.search_first.Given as given
use Rattle.sat_search.proofs.searching.search_first.Goals as goal

-- the search, and then back at level 0
ran : (g : given.Over) (c : goal.After-back_to g) →
    Searched c.args.core.now c.args.log.now.steps c.args.limit c.back_to.new.self c.run-found.new.log.steps c.run-found.result
ran g c = searched_back c.args.core.now c.args.log.now.steps c.args.limit c.run-found.new.core c.back_to.new.self c.run-found.new.log.steps c.run-found.result
    c.run-found.ensures c.back_to.ensures

-- what is so of each state that goes on is so after a model
after_model : (P : State → List Step → Type 0) (g : given.Over) (c : goal.After-back_to g) →
    (GoesOn c.args.core.now c.args.log.now.steps c.back_to.new.self c.run-found.new.log.steps → P c.back_to.new.self c.run-found.new.log.steps) →
    IfOk c.run-found.result (λ found. IfModel found (λ values. P c.back_to.new.self c.run-found.new.log.steps))
after_model P g c then =
    model_then P c.args.core.now c.args.log.now.steps c.args.limit c.back_to.new.self c.run-found.new.log.steps c.run-found.result then (ran g c)

pub returns-clause-ids : goal.returns-clause-ids
returns-clause-ids g c = log_ids c.args.core.now c.args.log.now.steps c.run-found.new.log.steps (ran g c).log

pub returns-clause-dropped : goal.returns-clause-dropped
returns-clause-dropped g c = log_old c.args.core.now c.args.log.now.steps c.run-found.new.log.steps (ran g c).log

pub returns-clause-in_time : goal.returns-clause-in_time
returns-clause-in_time g c = (ran g c).log.in_time

pub returns-clause-halves : goal.returns-clause-halves
returns-clause-halves g c = (ran g c).log.halves

pub returns-clause-few_drops : goal.returns-clause-few_drops
returns-clause-few_drops g c = (ran g c).log.few

pub returns-clause-accepted : goal.returns-clause-accepted
returns-clause-accepted g c = log_accepted c.args.core.now c.args.log.now.steps c.run-found.new.log.steps (ran g c).log

pub returns-clause-hints : goal.returns-clause-hints
returns-clause-hints g c = log_hints c.args.core.now c.args.log.now.steps c.run-found.new.log.steps (ran g c).log

pub returns-clause-lines : goal.returns-clause-lines
returns-clause-lines g c = log_lines c.args.core.now c.args.log.now.steps c.run-found.new.log.steps (ran g c).log c.args.limit (ran g c).most c.requires.numbers

pub returns-clause-refuted : goal.returns-clause-refuted
returns-clause-refuted g c = refuted_exactly c.args.core.now c.args.log.now.steps c.args.limit c.back_to.new.self c.run-found.new.log.steps c.run-found.result (ran g c)

pub returns-clause-refuting : goal.returns-clause-refuting
returns-clause-refuting g c = refuting_then c.args.core.now c.args.log.now.steps c.args.limit c.back_to.new.self c.run-found.new.log.steps c.run-found.result (ran g c)

pub returns-clause-model : goal.returns-clause-model
returns-clause-model g c = is_model_then c.args.core.now c.args.log.now.steps c.args.limit c.back_to.new.self c.run-found.new.log.steps c.run-found.result (ran g c)

pub returns-clause-clauses : goal.returns-clause-clauses
returns-clause-clauses g c = after_model (λ n steps. (id : ℕ) → clause_in n.clauses id ≡ live_after (clause_in c.args.core.now.clauses) (appended c.args.log.now.steps steps) id) g c
    (λ follows. follows.clauses)

pub returns-clause-others : goal.returns-clause-others
returns-clause-others g c = after_model (λ n steps. KeepsOthers (added_by [] c.args.log.now.steps) c.args.core.now.clauses n.clauses) g c
    (follows_others c.args.core.now c.args.log.now.steps c.back_to.new.self c.run-found.new.log.steps)

pub returns-clause-knows : goal.returns-clause-knows
returns-clause-knows g c = after_model (λ n steps. (k : Knowledge) → Knows k c.args.core.now → Knows (after_all k (appended c.args.log.now.steps steps)) n) g c
    (follows_knows c.args.core.now c.args.log.now.steps c.back_to.new.self c.run-found.new.log.steps)

pub returns-clause-last_id : goal.returns-clause-last_id
returns-clause-last_id g c = after_model (λ n steps. n.last_id ≡ c.args.core.now.last_id + additions (appended c.args.log.now.steps steps)) g c (λ follows. follows.last)

pub returns-clause-level : goal.returns-clause-level
returns-clause-level g c = ap (λ (x : State). x.level) c.back_to.ensures

pub returns-clause-vars : goal.returns-clause-vars
returns-clause-vars g c = after_model (λ n steps. n.vars ≡ c.args.core.now.vars) g c (λ follows. follows.vars)

pub returns-clause-clean : goal.returns-clause-clean
returns-clause-clean g c = λ f least tops knows clean. after_model (λ n steps. IsClean f least tops steps) g c
    (λ follows. follows_clean c.args.core.now c.args.log.now.steps c.back_to.new.self c.run-found.new.log.steps follows f least tops knows clean)

pub returns-clause-spent : goal.returns-clause-spent
returns-clause-spent g c = spent_then c.args.core.now c.args.log.now.steps c.args.limit c.back_to.new.self c.run-found.new.log.steps c.run-found.result (ran g c)
