-- What the lines of a repair lead to.
use Rattle.std.proofs.Common.{◌≡◌, ℕ, Bool, inl, inr, List, ◌∷◌, refl, sym, subst}
use Rattle.std.specs.Prelude.{MatchBool, Result, Ok, Err}
use Rattle.arc_base.specs.declared.certificate.CertKind.TheVariants as kinds
use Rattle.net_model.specs.declared.policies.Document.{Document}
use Rattle.net_model.specs.declared.rows.Network.{Network}
use Rattle.net_model.specs.declared.verdicts.Verdict as verdicts
use Rattle.edit_list.specs.declared.edit_kinds.Edit as edits
use Rattle.price_descent.specs.Outcomes.{least_below}
use Rattle.proof_check.specs.Knowledge.{Knowledge, start}
use Rattle.proof_check.specs.View.{known}
use Rattle.policy_report.specs.declared.got.Got.{Got}
use Rattle.policy_report.specs.declared.got.Got.TheVariants.{More, Head, Verdict, Edit, Step, End}
use Rattle.policy_report.specs.declared.got.CertFault.{CertFault}
use Rattle.report_check.specs.declared.outcome.Outcome.{Outcome}
use Rattle.report_check.specs.declared.outcome.Outcome.TheVariants.{Rejected}
use Rattle.report_check.specs.Outcomes.{IsRightAt}
use Rattle.arc_repair.specs.Claims.{is_above_zero}
use Rattle.repair_check.specs.declared.phases.Blocks.{Blocks}
use Rattle.repair_check.specs.declared.phases.Next.{Next}
use Rattle.repair_check.specs.declared.phases.Next.TheVariants.{Line, Done}
use Rattle.repair_check.specs.declared.phases.Phase.{Phase}
use Rattle.repair_check.specs.declared.phases.Phase.TheVariants as phases
use Rattle.repair_check.specs.declared.phases.RepairClaim.{RepairClaim}
use Rattle.repair_check.specs.Outcomes.{ReaderAnswers, IsBlocksOutcome, IsEditsEnd, IsEditsOutcome, rejected}
use Rattle.repair_check.specs.Phases.{EndsEdits, IsBlocksLeft, IsMispricedClaim, IsOpened, LeadsTo}

module _ (net : Network) (doc : Document) (list : List edits.Edit) where
  -- what an equal answer leads to
  pub told_so : (phase : Phase) (number : ℕ) (told other : Result Got CertFault) (next : Next) → told ≡ other → LeadsTo net doc list phase number other next →
      LeadsTo net doc list phase number told next
  told_so phase number told other next e h = subst (λ (t : Result Got CertFault). LeadsTo net doc list phase number t next) (sym e) h

  pub phase_so : (phase other : Phase) (number : ℕ) (told : Result Got CertFault) (next : Next) → phase ≡ other → LeadsTo net doc list other number told next →
      LeadsTo net doc list phase number told next
  phase_so phase other number told next e h = subst (λ (p : Phase). LeadsTo net doc list p number told next) (sym e) h

  -- a verdict that is not right leads to a rejection
  pub wrong_leads : (blocks : Blocks) (number which : ℕ) (v : verdicts.Verdict) (next : Next) → next ≡ Done (rejected blocks.first kinds.Witness) → (IsRightAt blocks.now doc.policies which v → ⊥) →
      LeadsTo net doc list (phases.Blocks blocks) number (Ok (Verdict which v)) next
  wrong_leads blocks number which v next e wrong =
      subst (LeadsTo net doc list (phases.Blocks blocks) number (Ok (Verdict which v))) (sym e) (record { outcome = λ rest. inr (wrong, refl); at = λ all rest h. h })

  -- a line that is not an edit is judged once the edits have ended
  ends_there : (price bound : ℕ) (flags : List Bool) (number : ℕ) (told : Result Got CertFault) (rest : ReaderAnswers) (o : Outcome) → EndsEdits told →
      IsEditsEnd net doc list price bound flags number (told ∷ rest) o → IsEditsOutcome net doc list price bound flags number (told ∷ rest) o
  ends_there price bound flags number (Ok (Edit place)) rest o ends h = absurd ends
  ends_there price bound flags number (Ok More) rest o ends h = h
  ends_there price bound flags number (Ok (Head form)) rest o ends h = h
  ends_there price bound flags number (Ok (Verdict which v)) rest o ends h = h
  ends_there price bound flags number (Ok (Step s)) rest o ends h = h
  ends_there price bound flags number (Ok End) rest o ends h = h
  ends_there price bound flags number (Err fault) rest o ends h =
      subst (λ (b : Bool). MatchBool b (o ≡ Rejected fault) (IsEditsEnd net doc list price bound flags number (Err fault ∷ rest) o)) (sym ends) h

  module _ (claim : RepairClaim) (number : ℕ) (told : Result Got CertFault) (ends : EndsEdits told) where
    -- a wrong price leads to a rejection
    pub mispriced_leads : (next : Next) → next ≡ Done (rejected 2 kinds.Price) → IsMispricedClaim doc list claim → LeadsTo net doc list (phases.Edits claim) number told next
    mispriced_leads next e wrong =
        subst (LeadsTo net doc list (phases.Edits claim) number told) (sym e)
        (record { outcome = λ rest. ends_there claim.price claim.bound claim.chosen.items number told rest (rejected 2 kinds.Price) ends (inl (wrong, refl)); at = λ all rest h. h })

    -- if the price is right, the line is judged after the edits
    module _ (blocks : Blocks) (opened : IsOpened net doc list claim number blocks) where
      after_edits : (rest : ReaderAnswers) (o : Outcome) → IsBlocksLeft doc blocks number (told ∷ rest) o →
          IsEditsOutcome net doc list claim.price claim.bound claim.chosen.items number (told ∷ rest) o
      after_edits rest o h =
          let knows : known blocks.checker ≡ start opened.ready.formula (least_below claim.price) opened.ready.tops = opened.ready.knows in
          let one = subst (λ (n : Bool). IsBlocksOutcome blocks.now doc.policies n (known blocks.checker) blocks.judged blocks.first number (told ∷ rest) o) opened.needs h in
          let two = subst (λ (k : Knowledge). IsBlocksOutcome blocks.now doc.policies (is_above_zero claim.price) k blocks.judged blocks.first number (told ∷ rest) o) knows one in
          let three = subst (λ (j : ℕ). IsBlocksOutcome blocks.now doc.policies (is_above_zero claim.price)
          (start opened.ready.formula (least_below claim.price) opened.ready.tops) j blocks.first number (told ∷ rest) o) opened.judged two in
          let four = subst (λ (f : ℕ). IsBlocksOutcome blocks.now doc.policies (is_above_zero claim.price)
          (start opened.ready.formula (least_below claim.price) opened.ready.tops) 0 f number (told ∷ rest) o) opened.first three in
          ends_there claim.price claim.bound claim.chosen.items number told rest o ends
          (inr (record {
            priced = opened.priced;
            now = blocks.now;
            is_after = opened.is_after;
            formula = opened.ready.formula;
            tops = opened.ready.tops;
            is_formula = opened.ready.is_formula;
            outcome = four;
          }))

      pub opened_leads : (next : Next) → LeadsTo net doc list (phases.Blocks blocks) number told next → LeadsTo net doc list (phases.Edits claim) number told next
      opened_leads (Line next) g = record { going = g.going; outcome = λ rest o h. after_edits rest o (g.outcome rest o h); at = g.at }
      opened_leads (Done o) s = record { outcome = λ rest. after_edits rest o (s.outcome rest); at = s.at }
