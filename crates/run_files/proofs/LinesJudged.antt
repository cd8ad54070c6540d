-- What judging the lines of a file leads to.
use Rattle.std.proofs.Common.{◌≡◌, ℕ, List, inl, inr}
use Rattle.std.specs.Prelude.{Option, Some, None, IfSome, Result, Ok, Err}
use Rattle.arc_outside.specs.Files.{Files}
use Rattle.arc_base.specs.TextLines.{lines}
use Rattle.run_files.specs.declared.outcome.FileRefusal.{FileRefusal}
use Rattle.run_files.specs.declared.outcome.Stop.{Stop}
use Rattle.run_files.specs.declared.outcome.Stop.TheVariants as stops
use Rattle.run_files.specs.Answers.{Gives}
use Rattle.run_files.specs.LineJudges.{JudgesText, LeadsOn}
use Rattle.run_files.specs.Refusals.{bytes_at, read_refusal}

module _ {J O : Type 0} (LeadsTo : J → List (List ℕ) → O → Type 0) (Refuses : J → List (List ℕ) → FileRefusal → Type 0) where
  pub from_here : (judge : J) (ls : List (List ℕ)) → LeadsOn LeadsTo Refuses judge ls ls judge
  from_here judge ls = record { outcomes = λ o is. is; refusals = λ r is. is }

  pub leads_on : (judge then' next : J) (all ls rest : List (List ℕ)) → LeadsOn LeadsTo Refuses judge all ls then' →
      LeadsOn LeadsTo Refuses then' ls rest next → LeadsOn LeadsTo Refuses judge all rest next
  leads_on judge then' next all ls rest before after = record {
    outcomes = λ o is. before.outcomes o (after.outcomes o is);
    refusals = λ r is. before.refusals r (after.refusals r is);
  }

  module _ (limit : ℕ) (name : List ℕ) (judge next : J) (rest : List (List ℕ)) (files : Files) (on : LeadsOn LeadsTo Refuses judge (lines (bytes_at files name)) rest next) where
    -- the judge stops
    pub stopped : {X : Type 0} (IsRight : X → Type 0) (stop : Stop) → Gives (Refuses next rest) IsRight (Err stop) → JudgesText (LeadsTo judge) (Refuses judge) limit files name (Err stop)
    stopped IsRight (stops.Refused r) is = inr (on.refusals r is)
    stopped IsRight stops.Memory is = tt
    stopped IsRight stops.Failed is = tt

-- what judging the text of a file tells, in words of one's own
module _ {O : Type 0} (LeadsTo : List (List ℕ) → O → Type 0) (Refuses : List (List ℕ) → FileRefusal → Type 0) (limit : ℕ) (name : List ℕ) (IsRefusal : Files → FileRefusal → Type 0)
    (IsRight : Files → O → Type 0)
    (of_file : (files : Files) (r : FileRefusal) → read_refusal limit files name ≡ Some r → IsRefusal files r)
    (of_judge : (files : Files) (r : FileRefusal) → Refuses (lines (bytes_at files name)) r → IsRefusal files r)
    (right : (files : Files) (o : O) → LeadsTo (lines (bytes_at files name)) o → IsRight files o) where
  judged_here : (files : Files) (result : Result O Stop) → JudgesText LeadsTo Refuses limit files name result → Gives (IsRefusal files) (IsRight files) result
  judged_here files (Ok o) is = right files o is
  judged_here files (Err (stops.Refused r)) (inl late) = of_file files r late
  judged_here files (Err (stops.Refused r)) (inr refused) = of_judge files r refused
  judged_here files (Err stops.Memory) is = tt
  judged_here files (Err stops.Failed) is = tt

  pub text_judged : (held : Option Files) (result : Result O Stop) → IfSome held (λ files. JudgesText LeadsTo Refuses limit files name result) →
      IfSome held (λ files. Gives (IsRefusal files) (IsRight files) result)
  text_judged None result is = tt
  text_judged (Some files) result is = judged_here files result is
