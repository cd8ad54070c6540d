-- The clauses of a search, from what it leaves.
use Rattle.std.proofs.Common.{◌≡◌, ℕ, ◌+◌, ◌<◌, ◌≤◌, ◌^◌, Bool, IsTrue, ◌↔◌, List, [], ◌++◌, All, refl, ap, sym, ◌∙◌, subst, arith, Option, Result, Ok, Err, IsErr, IfOk}
use Rattle.std.specs.List.{list_any}
use Rattle.std.proofs.lemmas.Bool.{or_right, false≢true}
use Rattle.std.proofs.lemmas.List.Folds.{list_any-append}
use Rattle.std.proofs.lemmas.List.Elements.{All-append, All-nil, All-same}
use Rattle.arc_base.specs.declared.memory.Memory.{Memory}
use Rattle.cnf_types.specs.declared.literal.Lit.{Lit}
use Rattle.cnf_types.specs.declared.clauses.Formula.{Formula}
use Rattle.proof_log.specs.declared.steps.Step.{Step}
use Rattle.proof_log.specs.Texts.{HasLine, IsId}
use Rattle.proof_check.specs.Knowledge.{Knowledge, start}
use Rattle.proof_check.specs.Logs.{after_all, IsAccepted, IsRefuting, adds_empty}
use Rattle.sat_core.specs.States.{State, at_level}
use Rattle.clean_logs.specs.CleanLogs.{IsClean, IsCleanAfter, IsSpent, added_by, dropped_by, additions}
use Rattle.sat_search.specs.declared.found.Found.{Found}
use Rattle.sat_search.specs.declared.found.Found.TheVariants.{Model, Refuted, Budget}
use Rattle.sat_search.specs.Live.{clause_in}
use Rattle.sat_search.specs.Searches.{appended, ends_empty, AddsFrom, DropsOld, HasLiveHints, KeepsOthers, Knows, IfModel, IsModelOf, HasLearnt, GoesOn, Ends, Searched}
use Rattle.sat_search.proofs.Following.{log_additions}
use Rattle.sat_search.proofs.Lives.{ids_from, learnt_ids, learnt_old, learnt_others}
use Rattle.sat_search.proofs.Promises.{KnowsAll, learnt_accepted, learnt_live, learnt_knows, learnt_clean, clean_append, learnt_lines, added_lines, ends_any, none_ends}

knows_all : (k : Knowledge) (s : State) → Knows k s → KnowsAll k (clause_in s.clauses) s.last_id
knows_all k s knows = record { same = knows.clauses; most = knows.last }

-- the log as it grows
module _ (s : State) (old new : List Step) (log : HasLearnt s old new) where
  abbrev more : List Step
  more = appended old new

  pub log_ids : AddsFrom s.last_id (appended old new)
  log_ids = learnt_ids s.vars (clause_in s.clauses) s.last_id (added_by [] old) (dropped_by 0 old) more log.learnt

  pub log_old : DropsOld (added_by [] old) (dropped_by 0 old) (appended old new)
  log_old = learnt_old s.vars (clause_in s.clauses) s.last_id (added_by [] old) (dropped_by 0 old) more log.learnt

  pub log_accepted : (k : Knowledge) → Knows k s → IsAccepted k (appended old new)
  log_accepted k knows = learnt_accepted s.vars (clause_in s.clauses) s.last_id (added_by [] old) (dropped_by 0 old) more k log.learnt (knows_all k s knows)

  pub log_hints : (k : Knowledge) → Knows k s → HasLiveHints k (appended old new)
  log_hints k knows = learnt_live s.vars (clause_in s.clauses) s.last_id (added_by [] old) (dropped_by 0 old) more k log.learnt (knows_all k s knows)

  pub log_lines : (limit : ℕ) → additions new ≤ limit → s.last_id + limit < 2 ^ 63 → All (λ c. 1 ≤ c.id) s.clauses → All HasLine old → All HasLine new
  log_lines limit most few least lines =
      All-same HasLine new (old ++ appended old new) log.grown (All-append HasLine old (appended old new) lines
      (learnt_lines s.vars (clause_in s.clauses) s.last_id (added_by [] old) (dropped_by 0 old) more log.learnt (ids_from s.clauses least) (added_lines [] old (All-nil IsId) lines)
      (omega (arith, log_additions s old new log, most, few))))

  pub log_refuting : IsTrue (ends_empty (appended old new)) → IsRefuting new
  log_refuting empty =
      ap (list_any adds_empty) log.grown ∙ list_any-append adds_empty old (appended old new) ∙ or_right (list_any adds_empty old) (list_any adds_empty
      (appended old new)) (ends_any (appended old new) empty)

module _ (s : State) (old : List Step) (now : State) (new : List Step) (follows : GoesOn s old now new) where
  pub follows_knows : (k : Knowledge) → Knows k s → Knows (after_all k (appended old new)) now
  follows_knows k knows =
      let after = learnt_knows s.vars (clause_in s.clauses) s.last_id (added_by [] old) (dropped_by 0 old) (appended old new) k follows.log.learnt (knows_all k s knows) in
      record { clauses = λ j. after.same j ∙ sym (follows.clauses j); last = omega (arith, after.most, follows.last) }

  pub follows_clean : (f : Formula) (least : Option ℕ) (tops : List Lit) → Knows (after_all (start f least tops) old) s → IsClean f least tops old → IsClean f least tops new
  follows_clean f least tops knows clean =
      subst (λ (steps : List Step). IsCleanAfter (start f least tops) [] 0 steps) (sym follows.log.grown)
      (clean_append old (appended old new) (start f least tops) [] 0 clean
      (learnt_clean s.vars (clause_in s.clauses) s.last_id (added_by [] old) (dropped_by 0 old) (appended old new) (after_all (start f least tops) old) follows.log.learnt
      (knows_all (after_all (start f least tops) old) s knows) follows.filled))

  pub follows_others : KeepsOthers (added_by [] old) s.clauses now.clauses
  follows_others id lits is other = follows.clauses id ∙ learnt_others s.vars (clause_in s.clauses) s.last_id (added_by [] old) (dropped_by 0 old)
      (appended old new) id lits follows.log.learnt is other

  pub follows_not_empty : IsTrue (ends_empty (appended old new)) → ⊥
  follows_not_empty empty = none_ends (appended old new) follows.filled empty

  pub follows_back : GoesOn s old (at_level now 0) new
  follows_back = record { log = follows.log; vars = follows.vars; clauses = follows.clauses; last = follows.last; filled = follows.filled }

model_back : (now : State) (values : List Bool) → IsModelOf now values → IsModelOf (at_level now 0) values
model_back now values model = record { size = model.size; satisfied = model.satisfied }

-- going back to level 0 changes nothing that is said of the state
ends-back : (s : State) (old : List Step) (limit : ℕ) (now : State) (new : List Step) (r : Result Found Memory) → Ends s old limit now new r → Ends s old limit (at_level now 0) new r
ends-back s old limit now new (Ok (Model values)) ends = (follows_back s old now new ends.0, model_back now values ends.1)
ends-back s old limit now new (Ok Refuted) ends = ends
ends-back s old limit now new (Ok Budget) ends = (follows_back s old now new ends.0, ends.1)
ends-back s old limit now new (Err memory) ends = tt

pub searched_back : (s : State) (old : List Step) (limit : ℕ) (now back : State) (new : List Step) (r : Result Found Memory) → Searched s old limit now new r →
    back ≡ at_level now 0 → Searched s old limit back new r
searched_back s old limit now back new r ran is =
    subst (λ (b : State). Searched s old limit b new r) (sym is) (record { log = ran.log; most = ran.most; ends = ends-back s old limit now new r ran.ends })

-- an error says nothing of the state
pub ends_err : (s : State) (old : List Step) (limit : ℕ) (now : State) (new : List Step) (r : Result Found Memory) → IsErr r → Ends s old limit now new r
ends_err s old limit now new (Ok found) err = absurd (false≢true err)
ends_err s old limit now new (Err memory) err = tt

model-not : (values : List Bool) → Model values ≡ Refuted → ⊥
model-not values e = cc

budget-not : Budget ≡ Refuted → ⊥
budget-not e = cc

model-budget : (values : List Bool) → Model values ≡ Budget → ⊥
model-budget values e = cc

refuted-budget : Refuted ≡ Budget → ⊥
refuted-budget e = cc

-- answer by answer
pub refuted_exactly : (s : State) (old : List Step) (limit : ℕ) (now : State) (new : List Step) (r : Result Found Memory) → Searched s old limit now new r →
    IfOk r (λ found. (found ≡ Refuted) ↔ IsTrue (ends_empty (appended old new)))
refuted_exactly s old limit now new (Ok (Model values)) ran = (λ e. absurd (model-not values e), λ empty. absurd (follows_not_empty s old now new ran.ends.0 empty))
refuted_exactly s old limit now new (Ok Refuted) ran = (λ e. ran.ends, λ empty. refl)
refuted_exactly s old limit now new (Ok Budget) ran = (λ e. absurd (budget-not e), λ empty. absurd (follows_not_empty s old now new ran.ends.0 empty))
refuted_exactly s old limit now new (Err memory) ran = tt

pub refuting_then : (s : State) (old : List Step) (limit : ℕ) (now : State) (new : List Step) (r : Result Found Memory) → Searched s old limit now new r →
    IfOk r (λ found. found ≡ Refuted → IsRefuting new)
refuting_then s old limit now new (Ok (Model values)) ran = λ e. absurd (model-not values e)
refuting_then s old limit now new (Ok Refuted) ran = λ e. log_refuting s old new ran.log ran.ends
refuting_then s old limit now new (Ok Budget) ran = λ e. absurd (budget-not e)
refuting_then s old limit now new (Err memory) ran = tt

pub spent_then : (s : State) (old : List Step) (limit : ℕ) (now : State) (new : List Step) (r : Result Found Memory) → Searched s old limit now new r →
    (f : Formula) (least : Option ℕ) (tops : List Lit) → Knows (after_all (start f least tops) old) s → IsClean f least tops old →
    IfOk r (λ found. found ≡ Budget → IsSpent f least tops limit new)
spent_then s old limit now new (Ok (Model values)) ran f least tops knows clean = λ e. absurd (model-budget values e)
spent_then s old limit now new (Ok Refuted) ran f least tops knows clean = λ e. absurd (refuted-budget e)
spent_then s old limit now new (Ok Budget) ran f least tops knows clean = λ e. (follows_clean s old now new ran.ends.0 f least tops knows clean, ran.ends.1)
spent_then s old limit now new (Err memory) ran f least tops knows clean = tt

-- what is so of each state that goes on is so after a model
pub model_then : (P : State → List Step → Type 0) (s : State) (old : List Step) (limit : ℕ) (now : State) (new : List Step) (r : Result Found Memory) →
    (GoesOn s old now new → P now new) → Searched s old limit now new r → IfOk r (λ found. IfModel found (λ values. P now new))
model_then P s old limit now new (Ok (Model values)) then ran = then ran.ends.0
model_then P s old limit now new (Ok Refuted) then ran = tt
model_then P s old limit now new (Ok Budget) then ran = tt
model_then P s old limit now new (Err memory) then ran = tt

pub is_model_then : (s : State) (old : List Step) (limit : ℕ) (now : State) (new : List Step) (r : Result Found Memory) → Searched s old limit now new r →
    IfOk r (λ found. IfModel found (IsModelOf now))
is_model_then s old limit now new (Ok (Model values)) ran = ran.ends.1
is_model_then s old limit now new (Ok Refuted) ran = tt
is_model_then s old limit now new (Ok Budget) ran = tt
is_model_then s old limit now new (Err memory) ran = tt
