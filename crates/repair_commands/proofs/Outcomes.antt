-- What an answer of a repair shows, and what the status of a command that repairs says.
use Rattle.std.proofs.Common.{◌≡◌, ℕ, ◌<◌, inl, inr, Bool, Option, Some, List, [], refl, subst, arith}
use Rattle.arc_outside.specs.Files.{Files}
use Rattle.net_model.specs.declared.policies.Document.{Document}
use Rattle.net_model.specs.declared.rows.Network.{Network}
use Rattle.net_model.specs.declared.verdicts.Verdict.{Verdict}
use Rattle.net_model.specs.Validity.{IsValid}
use Rattle.net_build.specs.declared.built.Built.{Built}
use Rattle.edit_list.specs.declared.claims.Claim.{Claim}
use Rattle.edit_list.specs.declared.claims.Claim.TheVariants.{Repaired, NoRepair}
use Rattle.edit_list.specs.declared.edit_kinds.Edit.{Edit}
use Rattle.edit_list.specs.Prices.{chosen_of, price_of_flags}
use Rattle.edit_list.proofs.OneEditList.{edit_lists_are_one}
use Rattle.line_patcher.specs.Patches.{ArePatched}
use Rattle.proof_log.specs.declared.steps.Log.{Log}
use Rattle.policy_report.specs.Certificates.{budget_text, certificate_text}
use Rattle.arc_repair.specs.declared.answer.Answer.{Answer}
use Rattle.arc_repair.specs.declared.answer.Answer.TheVariants.{Done as Claimed, Budget}
use Rattle.arc_repair.specs.Repairs.{Mends}
use Rattle.file_copies.specs.Changes.{IsEditable}
use Rattle.file_copies.proofs.Patched.{patches_have_the_network}
use Rattle.repair_commands.specs.Outcomes.{HasRepair, HasNoRepair, HoldsCertificate, IsRepairable, ShowsCheapest, ShowsNone, ShowsSpent, TellsOutcome}
use Rattle.repair_commands.specs.Repairs.{IsAnswered}
use Rattle.repair_commands.proofs.Broken.{met_by_none}

-- ---- what is shown

module _ (bound conflicts : ℕ) (doc : Document) (built : Built) (files : List (List ℕ)) (list : List Edit) (editable : IsEditable doc built files) where
  abbrev Answered : Answer → Type 0
  Answered answer = IsAnswered bound conflicts built.net doc list answer

  pub can_be : (answer : Answer) → Answered answer → IsRepairable bound built.net doc list
  can_be answer is = record { edits = is.edits; limits = is.limits }

  pub certified : (claim : Claim) (log : Log) (proof : Option (List ℕ)) → Answered (Claimed claim log) → proof ≡ Some (certificate_text built.net doc list claim log)
      → HoldsCertificate conflicts built.net doc list claim proof
  certified claim log proof is written = record { log = log; certificate = is.is_answer.certificate; lines = is.lines; within = is.within; written = written }

  abbrev pub shows_cheapest : (price : ℕ) (flags : List Bool) (verdicts : List Verdict) (log : Log) (new : List (List ℕ)) (proof : Option (List ℕ)) →
      Answered (Claimed (Repaired price bound flags verdicts) log)
      → ArePatched built (chosen_of list flags) files new → proof ≡ Some (certificate_text built.net doc list (Repaired price bound flags verdicts) log)
      → ShowsCheapest bound conflicts doc built files proof
  shows_cheapest price flags verdicts log new proof is patched written =
      let claimed = is.is_answer.is_true in
      let mends = claimed.mends in
      record {
        list = list;
        repairable = can_be (Claimed (Repaired price bound flags verdicts) log) is;
        flags = flags;
        price = price;
        costs = claimed.right.costs;
        affordable = claimed.right.affordable;
        least = claimed.least;
        repaired = mends.after;
        is_after = mends.is_after;
        meets = mends.meets;
        new = new;
        patched = patched;
        read_again = patches_have_the_network doc built files new list flags mends.after editable is.edits is.limits.edits patched mends.is_after;
        verdicts = verdicts;
        certified = certified (Repaired price bound flags verdicts) log proof is written;
      }

  pub has_repair : (price : ℕ) (flags : List Bool) (verdicts : List Verdict) (log : Log) → Answered (Claimed (Repaired price bound flags verdicts) log) → HasRepair bound built.net doc
  has_repair price flags verdicts log is =
      let claimed = is.is_answer.is_true in
      record {
        list = list;
        repairable = can_be (Claimed (Repaired price bound flags verdicts) log) is;
        flags = flags;
        mends = claimed.mends;
        affordable = omega (arith, claimed.right.costs, claimed.right.affordable);
      }

  pub shows_none : (log : Log) (proof : Option (List ℕ)) → Answered (Claimed (NoRepair bound) log) → proof ≡ Some (certificate_text built.net doc list (NoRepair bound) log)
      → ShowsNone bound conflicts built.net doc proof
  shows_none log proof is written = record {
    none = record { list = list; repairable = can_be (Claimed (NoRepair bound) log) is; none = is.is_answer.is_true };
    certified = certified (NoRepair bound) log proof is written;
  }

  pub shows_spent : (log : Log) (proof : Option (List ℕ)) → Answered (Budget log) → proof ≡ Some (budget_text conflicts bound log) → ShowsSpent bound conflicts built.net doc proof
  shows_spent log proof is written = record {
    list = list;
    repairable = can_be (Budget log) is;
    log = log;
    spent = is.is_answer;
    lines = is.lines;
    written = written;
    broken = λ meets. is.untouched (met_by_none [] 2048 doc files built.net list editable.is_built.network editable.fit.valid meets);
  }

-- there is not both a repair and none
pub not_both : (bound : ℕ) (net : Network) (doc : Document) → IsValid net → HasRepair bound net doc → HasNoRepair bound net doc → ⊥
not_both bound net doc valid can cannot =
    let same : cannot.list ≡ can.list = edit_lists_are_one net doc cannot.list can.list valid cannot.repairable.edits can.repairable.edits in
    let P : List Edit → Type 0 = λ list. (flags : List Bool) → Mends net doc list flags → bound < price_of_flags doc list flags in
    absurd (omega (arith, subst P same cannot.none can.flags can.mends, can.affordable))

-- ---- what the status says

module _ {Cheapest NoneThere Spent Refused Can Cannot : Type 0} (before after : Files) (status : ℕ) where
  pub tells_cheapest : status ≡ 0 → Cheapest → (Refused → ⊥) → (Cannot → ⊥) → TellsOutcome Cheapest NoneThere Spent Refused Can Cannot status before after
  tells_cheapest zero' is never can = record {
    repaired = λ e. is;
    none = λ e. absurd (omega (arith, zero', e));
    undecided = λ e. absurd (omega (arith, zero', e));
    refused_exactly = (λ e. absurd (omega (arith, zero', e)), λ r. absurd (never r));
    nothing_written = λ e. absurd (omega (arith, zero', e));
    zero_or_three = λ c. inl zero';
    two_or_three = λ cannot. absurd (can cannot);
    nothing_else = inl zero';
  }

  pub tells_none : status ≡ 2 → NoneThere → (Refused → ⊥) → (Can → ⊥) → TellsOutcome Cheapest NoneThere Spent Refused Can Cannot status before after
  tells_none two is never cannot = record {
    repaired = λ e. absurd (omega (arith, two, e));
    none = λ e. is;
    undecided = λ e. absurd (omega (arith, two, e));
    refused_exactly = (λ e. absurd (omega (arith, two, e)), λ r. absurd (never r));
    nothing_written = λ e. absurd (omega (arith, two, e));
    zero_or_three = λ can. absurd (cannot can);
    two_or_three = λ c. inl two;
    nothing_else = inr (inl two);
  }

  pub tells_spent : status ≡ 3 → Spent → (Refused → ⊥) → TellsOutcome Cheapest NoneThere Spent Refused Can Cannot status before after
  tells_spent three is never = record {
    repaired = λ e. absurd (omega (arith, three, e));
    none = λ e. absurd (omega (arith, three, e));
    undecided = λ e. is;
    refused_exactly = (λ e. absurd (omega (arith, three, e)), λ r. absurd (never r));
    nothing_written = λ e. absurd (omega (arith, three, e));
    zero_or_three = λ can. inr three;
    two_or_three = λ cannot. inr three;
    nothing_else = inr (inr (inl three));
  }

-- the status of a refusal
pub tells_refused : {Cheapest NoneThere Spent Refused Can Cannot : Type 0} (files : Files) → Refused → (Can → ⊥) → (Cannot → ⊥) → TellsOutcome Cheapest NoneThere Spent Refused Can Cannot 5 files files
tells_refused files refused can cannot = record {
  repaired = λ e. absurd (omega arith);
  none = λ e. absurd (omega arith);
  undecided = λ e. absurd (omega arith);
  refused_exactly = (λ e. refused, λ r. refl);
  nothing_written = λ e. refl;
  zero_or_three = λ c. absurd (can c);
  two_or_three = λ c. absurd (cannot c);
  nothing_else = inr (inr (inr refl));
}
