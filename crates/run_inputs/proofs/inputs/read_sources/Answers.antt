use Rattle.std.proofs.Common.{ℕ, rules, subst}
use Rattle.net_build.specs.Networks.{IsBuiltWithin, IsFirstRefusalWithin}
use Rattle.run_inputs.specs.Inputs.{AreSources}
use Rattle.run_inputs.proofs.FilesRead.{network_refused, sources_read}
use Rattle.run_inputs.proofs.inputs.read_sources.Goals as goal

pub returns-in-Ok-clause-fit : goal.returns-in-Ok-clause-fit
returns-in-Ok-clause-fit g c = record {
  valid = c.in-Ok.ensures.valid;
  ends = c.in-Ok.ensures.ends;
  failures = c.requires.few_failures;
}

pub returns-in-Ok-clause-told : goal.returns-in-Ok-clause-told
returns-in-Ok-clause-told g c =
    let P : ℕ → Type 0 = λ most. IsBuiltWithin c.args.down.now most c.args.doc.now c.in_ok-files.files c.in-Ok.built in
    sources_read c.args.limits c.args.down.now (g.S.Store.held c.args.store.now) c.args.name.now c.args.doc.now c.slice.result.now c.in_ok-files.files c.in-Ok.built
    c.in_ok-files.ensures.told c.slice.ensures.items (subst P c.entries.ensures.value c.in-Ok.ensures.answer)

pub returns-in-Err-Refused-clause-told : goal.returns-in-Err-Refused-clause-told
returns-in-Err-Refused-clause-told g c =
    let P : ℕ → Type 0 = λ most. IsFirstRefusalWithin c.args.down.now most c.args.doc.now c.in_ok-files.files c.in-Err-Refused.refusal in
    let refused : IsFirstRefusalWithin c.args.down.now c.entries.result c.args.doc.now c.in_ok-files.files c.in-Err-Refused.refusal = search rules in
    network_refused (λ files. AreSources c.args.limits c.args.down.now c.args.name.now c.args.doc.now files) c.args.limits c.args.down.now
    (g.S.Store.held c.args.store.now) c.args.name.now c.args.doc.now c.slice.result.now _ c.in-Err-Refused.refusal c.named.result
    c.in_ok-files.ensures.told c.slice.ensures.items (subst P c.entries.ensures.value refused) c.named.ensures
