-- The line of the answer, and the formula that is counted there.
use Rattle.std.proofs.Common.{◌≡◌, ℕ, ◌+◌, ◌≤◌, Bool, false, refl, inl, inr, Option, Some, List, ◌∷◌, length, sym, ◌∙◌, ap, subst}
use Rattle.std.specs.Prelude.{Ok, Vec}
use Rattle.std.specs.declared.alloc.Global.{Global}
use Rattle.net_model.specs.declared.policies.Document.{Document}
use Rattle.net_model.specs.declared.rows.Network.{Network}
use Rattle.edit_list.specs.declared.edit_kinds.Edit.{Edit}
use Rattle.edit_list.specs.declared.edit_kinds.EditFault.{EditFault}
use Rattle.edit_list.specs.declared.edit_kinds.EditFault.TheVariants.{Limit, Memory}
use Rattle.edit_list.specs.Prices.{none_of}
use Rattle.policy_encode.specs.Formulas.{IsFaultOfFormula, IsWithin}
use Rattle.proof_check.specs.declared.checker.Checker.{Checker}
use Rattle.proof_check.specs.Knowledge.{Knowledge}
use Rattle.policy_report.specs.declared.got.Got.TheVariants.{Head, More}
use Rattle.policy_report.specs.declared.got.CertForm.{CertForm}
use Rattle.policy_report.specs.declared.got.CertForm.TheVariants.{Repaired, NoRepair}
use Rattle.std.proofs.lemmas.List.{length-map}
use Rattle.repair_check.specs.declared.phases.Phase.TheVariants as phases
use Rattle.repair_check.specs.Certifies.{CountsBound, HasBound, IsCounted}
use Rattle.repair_check.specs.Outcomes.{ReaderAnswers, IsEditsOutcome, IsReadyOutcome}
use Rattle.repair_check.specs.Phases.{Goes, IsFaultAt, IsReady, IsReadyWithin}

-- an answer names one bound
bound_of_repair : (price bound other : ℕ) → HasBound other (Repaired price bound) → other ≡ bound
bound_of_repair price bound other (inl h) = let e = h.1 in cc
bound_of_repair price bound other (inr e) = absurd (cc)

bound_of_none : (bound other : ℕ) → HasBound other (NoRepair bound) → other ≡ bound
bound_of_none bound other (inl h) = let e = h.1 in absurd (cc)
bound_of_none bound other (inr e) = cc

one_bound : (form : CertForm) (bound other : ℕ) → HasBound bound form → HasBound other form → other ≡ bound
one_bound form bound other (inl h) is = bound_of_repair h.0 bound other (subst (HasBound other) h.1 is)
one_bound form bound other (inr e) is = bound_of_none bound other (subst (HasBound other) e is)

same_form : (form other : CertForm) (rest others : ReaderAnswers) → Ok More ∷ Ok (Head form) ∷ rest ≡ Ok More ∷ Ok (Head other) ∷ others → other ≡ form
same_form form other rest others e = cc

-- the formula is counted for one bound
pub counted_once : (told : ReaderAnswers) (m n : ℕ) → CountsBound told m → CountsBound told n → m ≡ n
counted_once told m n a b =
    let forms : a.form ≡ b.form = same_form b.form a.form b.rest a.rest (sym b.begins ∙ a.begins) in
    one_bound b.form n m b.has_bound (subst (HasBound m) forms a.has_bound)

module _ (net : Network) (doc : Document) (list : List Edit) where
  -- if the formula of the answer's bound is within its limits, it is counted
  pub counted : (form : CertForm) (bound : ℕ) (all rest : ReaderAnswers) → HasBound bound form → (bound ≤ 512 → IsWithin net doc list bound) →
      all ≡ Ok More ∷ Ok (Head form) ∷ rest → IsCounted net doc list all
  counted form bound all rest has within e other counts =
      let form_is : counts.form ≡ form = same_form form counts.form rest counts.rest (sym e ∙ counts.begins) in
      let same : other ≡ bound = one_bound form bound other has (subst (HasBound other) form_is counts.has_bound) in
      let few : bound ≤ 512 = subst (λ (b : ℕ). b ≤ 512) same counts.few in
      subst (λ (b : ℕ). IsWithin net doc list b) (sym same) (within few)

  -- a fault of the formula is one of counting it
  pub fault_there : (form : CertForm) (bound : ℕ) (fault : EditFault) → HasBound bound form → bound ≤ 512 → IsFaultOfFormula net doc list bound fault →
      IsFaultAt net doc list phases.Answer (Ok (Head form)) fault
  fault_there form bound (Limit what count) has few wrong all rest e = (bound, record { few = few; form = form; has_bound = has; rest = rest; begins = e }, wrong)
  fault_there form bound Memory has few wrong all rest e = tt

  -- the answer that there is a repair leads to its edits
  pub repair_begun : (price bound number : ℕ) (flags : Vec Bool Global) (log : Option Checker) → flags.items ≡ none_of list →
      IsReadyWithin net doc list price bound log → (bound ≤ 512 → IsWithin net doc list bound) →
      Goes net doc list phases.Answer number (Ok (Head (Repaired price bound))) (phases.Edits (record { price = price; bound = bound; chosen = flags; log = log }))
  repair_begun price bound number flags log none ready within = record {
    going = record { flags = ap length none ∙ length-map list (λ e. false); ready = ready };
    outcome = λ rest o h. subst (λ (f : List Bool). IsEditsOutcome net doc list price bound f (number + 1) rest o) none h;
    at = λ all rest e. counted (Repaired price bound) bound all rest (inl (price, refl)) within e;
  }

  -- the answer that there is no repair leads to its log
  pub none_begun : (bound number : ℕ) (checker : Checker) → IsReady net doc list bound (Some bound) checker → IsWithin net doc list bound →
      Goes net doc list phases.Answer number (Ok (Head (NoRepair bound))) (phases.Ready checker)
  none_begun bound number checker ready within = record {
    going = tt;
    outcome = λ rest o h. inr (record {
      few = ready.few;
      formula = ready.formula;
      tops = ready.tops;
      is_formula = ready.is_formula;
      outcome = subst (λ (k : Knowledge). IsReadyOutcome k (number + 1) rest o) ready.knows h;
    });
    at = λ all rest e. counted (NoRepair bound) bound all rest (inr refl) (λ few. within) e;
  }
