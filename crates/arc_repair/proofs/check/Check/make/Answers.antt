use Rattle.std.proofs.Common.{◌≡◌, ◌∙◌, ℕ, Option, inl, List, ap, subst, arith}
use Rattle.std.proofs.lemmas.Result.{err_from_is_err_and}
use Rattle.edit_list.specs.declared.edit_kinds.Edit.{Edit}
use Rattle.policy_encode.specs.Formulas.{IsFaultOfFormula, IsRepairFormula, IsWithin}
use Rattle.proof_check.specs.Knowledge.{start}
use Rattle.arc_repair.specs.Answers.{IsRepairFault}
use Rattle.arc_repair.specs.Checks.{ClaimKeepsLimits, IsBegun, IsDefect}
use Rattle.arc_repair.specs.Claims.{claim_bound}
use Rattle.arc_repair.proofs.ClaimDefects.{beyond, flags_of, none_wrong, this_wrong}
use Rattle.arc_repair.proofs.Glue.{formula_fault, of_each, out_of_memory}
use Rattle.arc_repair.proofs.check.Check.make.Goals as goal

pub returns-then-bound-gt-PRICE_LIMIT-clause-made : goal.returns-then-bound-gt-PRICE_LIMIT-clause-made
returns-then-bound-gt-PRICE_LIMIT-clause-made c = λ other others. beyond c.args.net.now c.args.doc.now other c.args.claim.now (omega (arith, c.bound_of-bound.ensures, c.if-bound-gt-PRICE_LIMIT.true))

pub returns-then-bound-gt-PRICE_LIMIT-clause-limits : goal.returns-then-bound-gt-PRICE_LIMIT-clause-limits
returns-then-bound-gt-PRICE_LIMIT-clause-limits c =
    of_each c.edit_lists_are_one.ensures c.args.net.now c.args.doc.now c.in_ok-list.list c.requires.valid c.in_ok-list.ensures.edits
    (λ (list : List Edit). ClaimKeepsLimits c.args.net.now c.args.doc.now list c.args.claim.now)
    (record {
      classes = c.in_ok-list.ensures.few_classes;
      edits = c.in_ok-list.ensures.few;
      formula = λ low. absurd (omega (arith, c.bound_of-bound.ensures, c.if-bound-gt-PRICE_LIMIT.true, low));
    })

pub encode-requires-clause-failures : goal.encode-requires-clause-failures
encode-requires-clause-failures c = c.requires.failures

pub returns-in_err-list-clause-fault : goal.returns-in_err-list-clause-fault
returns-in_err-list-clause-fault c =
    let p = err_from_is_err_and c.from_residual.result c.from_residual.ensures.1 in
    let limit : IsRepairFault c.args.net.now c.args.doc.now (claim_bound c.args.claim.now) c.in_err-list.field-0.0 = inl c.in_err-list.ensures.limit in
    rw (p.1, p.2) limit

pub returns-in_err-encoded-clause-fault : goal.returns-in_err-encoded-clause-fault
returns-in_err-encoded-clause-fault c =
    let p = err_from_is_err_and c.from_residual-in_err-encoded.result c.from_residual-in_err-encoded.ensures.1 in
    let fault : IsFaultOfFormula c.args.net.now c.args.doc.now c.in_ok-list.list (claim_bound c.args.claim.now) c.in_err-encoded.field-0.0 =
    subst (λ (bound : ℕ). IsFaultOfFormula c.args.net.now c.args.doc.now c.in_ok-list.list bound c.in_err-encoded.field-0.0) c.bound_of-bound.ensures c.in_err-encoded.ensures.fault in
    rw (p.1, p.2)
    (formula_fault c.args.net.now c.args.doc.now c.in_ok-list.list c.in_ok-list.ensures.edits
    (claim_bound c.args.claim.now) c.in_err-encoded.field-0.0 c.in_ok-list.ensures.few_classes c.in_ok-list.ensures.few fault)

pub returns-in_err-kind-clause-fault : goal.returns-in_err-kind-clause-fault
returns-in_err-kind-clause-fault c =
    let p = err_from_is_err_and c.from_residual-in_err-kind.result c.from_residual-in_err-kind.ensures.1 in
    rw (p.1, p.2) (out_of_memory c.args.net.now c.args.doc.now (claim_bound c.args.claim.now))

pub returns-in_err-make-clause-fault : goal.returns-in_err-make-clause-fault
returns-in_err-make-clause-fault c =
    let p = err_from_is_err_and c.from_residual-in_err-make.result c.from_residual-in_err-make.ensures.1 in
    rw (p.1, p.2) (out_of_memory c.args.net.now c.args.doc.now (claim_bound c.args.claim.now))

pub defect-requires-clause-flags : goal.defect-requires-clause-flags
defect-requires-clause-flags c = flags_of c.args.net.now c.args.doc.now c.in_ok-list.list c.args.claim.now c.in_ok-list.ensures.edits c.requires.flags

pub returns-in-Some-clause-made : goal.returns-in-Some-clause-made
returns-in-Some-clause-made c =
    of_each c.edit_lists_are_one.ensures c.args.net.now c.args.doc.now c.in_ok-list.list c.requires.valid c.in_ok-list.ensures.edits
    (λ (list : List Edit). IsDefect c.args.net.now c.args.doc.now list c.args.claim.now c.in-Some.kind)
    (this_wrong c.args.net.now c.args.doc.now c.in_ok-list.list c.args.claim.now c.in_ok-kind.field-0 c.in-Some.kind c.in-Some.is c.in_ok-kind.ensures)

pub returns-in-Some-clause-limits : goal.returns-in-Some-clause-limits
returns-in-Some-clause-limits c =
    of_each c.edit_lists_are_one.ensures c.args.net.now c.args.doc.now c.in_ok-list.list c.requires.valid c.in_ok-list.ensures.edits
    (λ (list : List Edit). ClaimKeepsLimits c.args.net.now c.args.doc.now list c.args.claim.now)
    (record {
      classes = c.in_ok-list.ensures.few_classes;
      edits = c.in_ok-list.ensures.few;
      formula = λ low. subst (λ (bound : ℕ). IsWithin c.args.net.now c.args.doc.now c.in_ok-list.list bound) c.bound_of-bound.ensures c.in_ok-encoded.ensures.limits;
    })

pub returns-clause-made : goal.returns-clause-made
returns-clause-made c =
    let same : c.bound_of-bound.result ≡ claim_bound c.args.claim.now = c.bound_of-bound.ensures in
    of_each c.edit_lists_are_one.ensures c.args.net.now c.args.doc.now c.in_ok-list.list c.requires.valid c.in_ok-list.ensures.edits
    (λ (list : List Edit). IsBegun c.args.net.now c.args.doc.now list c.args.claim.now (record { checker = c.in_ok-make.field-0; needs_refutation = c.needs_refutation.result }))
    (record {
      right = none_wrong c.args.net.now c.args.doc.now c.in_ok-list.list c.args.claim.now c.in_ok-kind.field-0 (λ kind. c.in_default.not-Some kind) c.in_ok-kind.ensures;
      formula = c.in_ok-encoded.encoded.formula;
      tops = c.in_ok-encoded.encoded.tops;
      is_formula = subst (λ (bound : ℕ). IsRepairFormula c.args.net.now c.args.doc.now c.in_ok-list.list bound c.in_ok-encoded.encoded.formula c.in_ok-encoded.encoded.tops)
          same c.in_ok-encoded.ensures.formula;
      knows = c.in_ok-make.ensures ∙ ap (λ (least : Option ℕ). start c.in_ok-encoded.encoded.formula least c.in_ok-encoded.encoded.tops) c.least_bound-least.ensures;
      needs = c.needs_refutation.ensures;
    })

pub returns-clause-limits : goal.returns-clause-limits
returns-clause-limits c =
    of_each c.edit_lists_are_one.ensures c.args.net.now c.args.doc.now c.in_ok-list.list c.requires.valid c.in_ok-list.ensures.edits
    (λ (list : List Edit). ClaimKeepsLimits c.args.net.now c.args.doc.now list c.args.claim.now)
    (record {
      classes = c.in_ok-list.ensures.few_classes;
      edits = c.in_ok-list.ensures.few;
      formula = λ low. subst (λ (bound : ℕ). IsWithin c.args.net.now c.args.doc.now c.in_ok-list.list bound) c.bound_of-bound.ensures c.in_ok-encoded.ensures.limits;
    })
