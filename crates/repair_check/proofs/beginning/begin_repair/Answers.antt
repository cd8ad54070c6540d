use Rattle.std.proofs.Common.{◌≡◌, ◌∙◌, ℕ, Option, inl, refl, ap, sym, subst, arith}
use Rattle.std.proofs.lemmas.Result.{err_from_is_err_and}
use Rattle.proof_check.specs.declared.checker.Checker.{Checker}
use Rattle.policy_report.specs.declared.got.CertForm.TheVariants.{Repaired}
use Rattle.edit_list.specs.Prices.{none_of}
use Rattle.repair_check.specs.Phases.{IsReady, IsReadyWithin}
use Rattle.repair_check.proofs.Counted.{fault_there, repair_begun}
use Rattle.repair_check.proofs.beginning.begin_repair.Goals.{then-bound-le-PRICE_LIMIT+in_ok-ready, else-bound-le-PRICE_LIMIT}
use Rattle.repair_check.proofs.beginning.begin_repair.Goals as goal

pub returns-in_err-ready-clause-fault : goal.returns-in_err-ready-clause-fault
returns-in_err-ready-clause-fault c =
    let p = err_from_is_err_and c.from_residual.result c.from_residual.ensures.1 in
    rw (p.1, p.2)
    (fault_there c.args.net.now c.args.doc.now c.args.list.now (Repaired c.args.price c.args.bound) c.args.bound c.in_err-ready.field-0.0 (inl (c.args.price, refl))
    (omega arith) c.in_err-ready.ensures.fault)

pub returns-clause-leads : goal.returns-clause-leads
returns-clause-leads c =
    let none : c.in_ok-chosen.chosen.items ≡ none_of c.args.list.now = c.in_ok-chosen.ensures ∙ ap none_of c.slice.ensures.items in
    let P : Option Checker → Type 0 = λ log. IsReadyWithin c.args.net.now c.args.doc.now c.args.list.now c.args.price c.args.bound log in
    elim c.if-bound-le-PRICE_LIMIT.branch [
      | then-bound-le-PRICE_LIMIT+in_ok-ready w ↦
          let Q : Option ℕ → Type 0 = λ least. IsReady c.args.net.now c.args.doc.now c.args.list.now c.args.bound least w.in_ok-ready.field-0 in
          repair_begun c.args.net.now c.args.doc.now c.args.list.now c.args.price c.args.bound c.args.number c.in_ok-chosen.chosen c.if-bound-le-PRICE_LIMIT.log none
          (subst P (sym w.log-is) (subst Q w.least_below.ensures w.in_ok-ready.ensures.ready)) (λ few. w.in_ok-ready.ensures.limits)
      | else-bound-le-PRICE_LIMIT w ↦
          repair_begun c.args.net.now c.args.doc.now c.args.list.now c.args.price c.args.bound c.args.number c.in_ok-chosen.chosen c.if-bound-le-PRICE_LIMIT.log none
          (subst P (sym w.log-is) w.if-bound-le-PRICE_LIMIT.false) (λ few. absurd (omega (arith, few, w.if-bound-le-PRICE_LIMIT.false)))
    ]
