use Rattle.std.proofs.Common.{◌∙◌, length, ap, sym, refl}
use Rattle.std.proofs.lemmas.Result.{err_from_is_err_and}
use Rattle.std.proofs.lemmas.Bool.{false≢true}
use Rattle.verify_commands.specs.Traces.{down_flags}
use Rattle.verify_commands.proofs.Traced.{ends_refused, input_of, input_stopped, traced, has_hosts, flags_from, trace_from}
use Rattle.verify_commands.proofs.DownFlags.{length_flags}
use Rattle.verify_commands.proofs.tracing.trace.Goals as goal

pub returns-in_err-input-clause-answer : goal.returns-in_err-input-clause-answer
returns-in_err-input-clause-answer g c =
    let p = err_from_is_err_and c.from_residual.result c.from_residual.ensures.1 in
    rw (p.1, p.2) (input_stopped (g.S.Store.held c.args.store.now) c.args.words.now c.slice.result.now c.in_err-input.field-0.0 c.slice.ensures.items c.in_err-input.ensures.told)

pub returns-then-not-has_endpoints-clause-answer : goal.returns-then-not-has_endpoints-clause-answer
returns-then-not-has_endpoints-clause-answer g c =
    ends_refused (g.S.Store.held c.args.store.now) c.args.words.now c.in_ok-input.input c.refused.result (input_of (g.S.Store.held c.args.store.now)
    c.args.words.now c.slice.result.now c.in_ok-input.input c.slice.ensures.items c.in_ok-input.ensures.told)
    (λ ends. false≢true (sym c.if-not-has_endpoints.true ∙ c.has_endpoints.ensures.1 ends)) c.refused.ensures

pub trace_text-requires-clause-flags : goal.trace_text-requires-clause-flags
trace_text-requires-clause-flags g c =
    ap length (c.as_slice.ensures.value ∙ c.in_ok-down.ensures) ∙ length_flags c.len.result c.slice-2.result.now ∙ c.len.ensures

pub trace_text-requires-clause-from : goal.trace_text-requires-clause-from
trace_text-requires-clause-from g c = (has_hosts c.in_ok-input.input.net c.args.words.now.from c.args.words.now.to (c.has_endpoints.ensures.0 c.if-not-has_endpoints.false)).0

pub trace_text-requires-clause-to : goal.trace_text-requires-clause-to
trace_text-requires-clause-to g c = (has_hosts c.in_ok-input.input.net c.args.words.now.from c.args.words.now.to (c.has_endpoints.ensures.0 c.if-not-has_endpoints.false)).1

pub returns-clause-answer : goal.returns-clause-answer
returns-clause-answer g c =
    let links = length c.in_ok-input.input.net.links in
    let flags = flags_from c.as_slice.result.now c.in_ok-down.down.items links c.len.result c.args.words.now.down c.slice-2.result.now c.as_slice.ensures.value c.in_ok-down.ensures
    c.len.ensures c.slice-2.ensures.items in
    traced (g.S.Store.held c.args.store.now) c.args.words.now c.in_ok-input.input (record { text = c.of.result; writes = c.make.result; status = 0 })
    (input_of (g.S.Store.held c.args.store.now) c.args.words.now c.slice.result.now c.in_ok-input.input c.slice.ensures.items c.in_ok-input.ensures.told) c.in_ok-input.ensures.fit
    (c.has_endpoints.ensures.0 c.if-not-has_endpoints.false)
    (trace_from c.in_ok-input.input.net c.as_slice.result.now (down_flags links c.args.words.now.down) c.args.words.now.from c.args.words.now.to c.in_ok-text.text.items c.of.result
    flags c.of.ensures c.in_ok-text.ensures)
    c.make.ensures refl
