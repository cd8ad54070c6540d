-- A count that rises where something is told.
use Rattle.std.proofs.Common.{◌≡◌, ℕ, ◌∙◌, arith}
use Rattle.arc_outside.specs.Causes.{RoseWhere}

-- it stood until a call, and both tell the same
pub carried : {Then Now : Type 0} (first before after : ℕ) → RoseWhere Then before after → before ≡ first → (Now → Then) → (Then → Now) → RoseWhere Now first after
carried first before after h stood then now = record {
  later = omega (arith, h.later);
  once = omega (arith, h.once);
  rose = λ told. let rose = h.rose (then told) in omega (arith, rose);
  only = λ untold. h.only (λ told. untold (now told)) ∙ stood;
}

-- it stood over a call that does not tell
pub stood : {Told : Type 0} (before after : ℕ) → after ≡ before → (Told → ⊥) → RoseWhere Told before after
stood before after same untold = record {
  later = omega arith;
  once = omega arith;
  rose = λ told. absurd (untold told);
  only = λ none. same;
}
