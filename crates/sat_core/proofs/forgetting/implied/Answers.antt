use Rattle.std.proofs.Common.{◌≡◌, ℕ, inl, inr, get_or, sym, ap, ◌∙◌, arith}
use Rattle.std.specs.Option.{option_and_then}
use Rattle.std.proofs.lemmas.Bool.{cases_lt}
use Rattle.std.proofs.lemmas.List.{get_or_default}
use Rattle.cnf_types.specs.declared.literal.Lit.{Lit}
use Rattle.cnf_types.specs.Literals.{variable}
use Rattle.sat_core.specs.declared.assigned.Assigned.{Assigned}
use Rattle.sat_core.specs.Trails.{entry_of}
use Rattle.sat_core.proofs.Reasons.{any-reason}
use Rattle.sat_core.proofs.forgetting.implied.Goals as goal

pub returns-then-is_for-clause-yes : goal.returns-then-is_for-clause-yes
returns-then-is_for-clause-yes c = λ _. any-reason c.args.trail.now.entries c.var.result c.args.held
    (ap (option_and_then (λ (e : Assigned). e.reason)) (sym c.entry.ensures) ∙ c.is_for.ensures.yes c.if-is_for.true)

pub loop-lit-preserved : goal.loop-lit-preserved
loop-lit-preserved c = λ k d l.
    let lits = c.args.lits.now in
    let at : ℕ = c.loop-lit.lit-index in
    elim (cases_lt k at) [
      | inl before ↦ c.loop-lit.invariant k d before
      | inr last ↦
          let same : k ≡ at = omega arith in
          let lit_is : get_or lits k d ≡ get_or lits at (record { code = 0 }) = ap (λ (n : ℕ). get_or lits n d) same ∙ get_or_default lits at d (record { code = 0 }) c.loop-lit-test.true in
          λ e. c.is_for.ensures.no c.if-is_for.false
          (ap (option_and_then (λ (x : Assigned). x.reason)) (c.entry.ensures
          ∙ ap (λ (v : ℕ). entry_of c.args.trail.now.entries v) (c.var.ensures ∙ ap (λ (l : Lit). variable l) (sym lit_is))) ∙ e)
    ]

pub returns-clause-no : goal.returns-clause-no
returns-clause-no c = λ _ k d within. c.loop-lit.invariant k d (omega (arith, within, c.loop-lit-test.false))
