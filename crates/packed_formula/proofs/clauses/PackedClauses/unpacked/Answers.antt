use Rattle.std.proofs.Common.{◌∷◌, ◌++◌, [], List, take, ap, ap₂, sym, ◌∙◌}
use Rattle.std.proofs.lemmas.List.{take_more}
use Rattle.std.proofs.lemmas.Option.{get_or_from_slice_get, slice_get_within}
use Rattle.cnf_types.specs.declared.literal.Lit.{Lit}
use Rattle.cnf_types.specs.declared.clauses.Clause.{Clause}
use Rattle.packed_formula.proofs.clauses.PackedClauses.unpacked.Goals as goal

pub loop-at-preserved : goal.loop-at-preserved
loop-at-preserved c =
    let whole = c.args.self.now in
    let at = c.loop-at.at in
    let here : Clause = record { lits = c.lits.result.now } in
    let own = c.in_ok-lits.ensures.ok ∙ c.in_ok-from_slice.ensures.items in
    c.in_ok-push.ensures.ok ∙ ap₂ (λ (cs : List Clause) (ls : List Lit). let d : Clause = record { lits = ls } in cs ++ d ∷ []) c.loop-at.invariant own
    ∙ ap (λ (d : Clause). take at whole ++ d ∷ []) (sym (get_or_from_slice_get whole at here here c.lits.ensures.clause))
    ∙ sym (take_more whole at here (slice_get_within whole at here c.lits.ensures.clause))
