use Rattle.std.proofs.Common.{◌≡◌, ℕ, zero, suc, Option, inl, inr, refl, sym, ◌∙◌, subst, nat_lt, arith}
use Rattle.std.proofs.lemmas.Bool.{lt-ltb}
use Rattle.edit_list.specs.After.{IsAfter}
use Rattle.edit_list.specs.Prices.{chosen_of, price_of_flags}
use Rattle.price_descent.specs.Outcomes.{least_below}
use Rattle.proof_check.specs.declared.checker.Checker.{Checker}
use Rattle.arc_repair.specs.Claims.{is_above_zero}
use Rattle.repair_check.specs.Phases.{IsMispricedClaim, IsReady, IsReadyWithin}
use Rattle.repair_check.proofs.beginning.end_edits.Goals as goal

above-zero : (price : ℕ) → nat_lt 0 price ≡ is_above_zero price
above-zero zero = refl
above-zero (suc price) = lt-ltb 0 (suc price) (omega arith)

pub returns-clause-opened : goal.returns-clause-opened
returns-clause-opened c =
    let Within : Option Checker → Type 0 = λ log. IsReadyWithin c.args.net.now c.args.doc.now c.args.list.now c.args.claim.price c.args.claim.bound log in
    let ready : IsReady c.args.net.now c.args.doc.now c.args.list.now c.args.claim.bound (least_below c.args.claim.price) c.in-Some.checker = subst Within c.in-Some.is c.requires.claim.ready in
    record {
      priced = λ (bad : IsMispricedClaim c.args.doc.now c.args.list.now c.args.claim).
          elim bad [
            | inl different ↦ different
                (subst (λ flags. price_of_flags c.args.doc.now c.args.list.now flags ≡ c.args.claim.price) c.as_slice.ensures.value
                (sym c.price-cost.ensures ∙ (c.if-cost-from.false ∙ c.from.ensures)))
            | inr (inl low) ↦ omega (arith, low, c.if-claimed-bound.false)
            | inr (inr high) ↦ omega (arith, high, ready.few)
          ];
      is_after = subst (λ flags. IsAfter c.args.net.now (chosen_of c.args.list.now flags) c.in_ok-now.now) c.as_slice-2.ensures.value c.in_ok-now.ensures.after;
      ready = ready;
      needs = above-zero c.args.claim.price;
      judged = refl;
      first = refl;
    }

pub returns-clause-judgeable : goal.returns-clause-judgeable
returns-clause-judgeable c = record {
  valid = c.in_ok-now.ensures.valid;
  ends = λ k d within. c.edits_keep_classes.ensures.ends c.args.net.now c.in_ok-now.now (chosen_of c.args.list.now c.as_slice-2.result.now) c.in_ok-now.ensures.after _
      (c.requires.judgeable.ends k d within);
}
