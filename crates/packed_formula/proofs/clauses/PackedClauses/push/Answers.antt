use Rattle.std.proofs.Common.{◌≡◌, ◌+◌, ◌∷◌, ◌++◌, [], length, ap, ap₂, ◌∙◌, arith, length-append}
use Rattle.std.proofs.lemmas.List.{map_push, length_push}
use Rattle.std.proofs.lemmas.List.Elements.{All-push}
use Rattle.packed_formula.specs.declared.clauses.Span.{Span}
use Rattle.packed_formula.specs.Packed.{IsSpan, clause_at}
use Rattle.packed_formula.proofs.Spans.{clause_pushed, clauses_before, more_spans}
use Rattle.packed_formula.proofs.clauses.PackedClauses.push.Goals as goal

pub invariant_of-self-in-Ok : goal.invariant_of-self-in-Ok
invariant_of-self-in-Ok c =
    let old = c.self.inside.lits.items in
    let ps = c.self.inside.spans.items in
    let packed = c.self.invariant in
    let p : Span = record { start = c.len-start.result; stop = c.len-stop.result } in
    let all : c.extend_from_slice.new.self.items ≡ old ++ c.args.clause.now = c.in_ok-extend_from_slice.ensures.items in
    let more : length (old ++ c.args.clause.now) ≡ length old + length c.args.clause.now = length-append old c.args.clause.now in
    let count : c.len-stop.result ≡ length (old ++ c.args.clause.now) = omega (arith, ap length all) in
    let first : c.len-start.result ≡ length old = omega arith in
    let rows = length_push ps p in
    rw (c.in-Ok.ensures.items, all) (record {
      within = All-push (IsSpan (length (old ++ c.args.clause.now))) ps p (more_spans (length old) (length (old ++ c.args.clause.now)) ps (omega arith) packed.within)
          (record { start = omega arith; stop = omega arith });
      few_lits = omega arith;
      few = omega (arith, rows);
    })

pub returns-in-Ok-clause-ok : goal.returns-in-Ok-clause-ok
returns-in-Ok-clause-ok c =
    let old = c.self.inside.lits.items in
    let ps = c.self.inside.spans.items in
    let all = c.extend_from_slice.new.self.items in
    let p : Span = record { start = c.len-start.result; stop = c.len-stop.result } in
    let grown : all ≡ old ++ c.args.clause.now = c.in_ok-extend_from_slice.ensures.items in
    let count : c.len-stop.result ≡ length (old ++ c.args.clause.now) = omega (arith, ap length grown) in
    let first : c.len-start.result ≡ length old = omega arith in
    rw (c.in-Ok.ensures.items, grown) (map_push (clause_at (old ++ c.args.clause.now)) ps p
    ∙ ap₂ (λ xs x. xs ++ x ∷ []) (clauses_before old c.args.clause.now ps c.self.invariant.within ∙ c.self.view_is) (clause_pushed old c.args.clause.now p first count))
