use Rattle.std.proofs.Common.{◌≡◌, ◌==◌, false, cond, get_or, take}
use Rattle.std.specs.List.{list_any}
use Rattle.cnf_types.specs.declared.literal.Lit.{Lit}
use Rattle.sat_core.proofs.marks.set.Given as goal

abbrev pub invariant-loop-lit : goal.invariant-loop-lit
invariant-loop-lit l = (m : Lit) → get_or l.marks m.code false ≡ cond (list_any (λ (x : Lit). x.code == m.code) (take l.lit-index l.lits)) l.mark (get_or l.initial.marks m.code false)
