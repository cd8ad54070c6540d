use Rattle.std.proofs.Common.{ℕ, rules, subst}
use Rattle.arc_outside.specs.Files.{Files}
use Rattle.net_build.specs.Networks.{IsNetworkWithin, IsFirstRefusalWithin}
use Rattle.run_inputs.specs.declared.inputs.Input.{Input}
use Rattle.run_inputs.specs.Inputs.{HoldsInput}
use Rattle.run_inputs.proofs.FilesRead.{network_refused, files_read}
use Rattle.run_inputs.proofs.inputs.read_files.Goals as goal

pub returns-in-Ok-clause-fit : goal.returns-in-Ok-clause-fit
returns-in-Ok-clause-fit g c = record {
  valid = c.in-Ok.ensures.valid;
  ends = c.in-Ok.ensures.ends;
  failures = c.requires.few_failures;
}

pub returns-in-Ok-clause-told : goal.returns-in-Ok-clause-told
returns-in-Ok-clause-told g c =
    let P : ℕ → Type 0 = λ most. IsNetworkWithin c.args.down.now most c.args.doc c.in_ok-files.files c.in-Ok.net in
    files_read c.args.limits c.args.down.now (g.S.Store.held c.args.store.now) c.args.name.now c.args.doc c.slice.result.now c.in_ok-files.files c.in-Ok.net
    c.in_ok-files.ensures.told c.slice.ensures.items (subst P c.entries.ensures.value c.in-Ok.ensures.answer)

pub returns-in-Err-Refused-clause-told : goal.returns-in-Err-Refused-clause-told
returns-in-Err-Refused-clause-told g c =
    let P : ℕ → Type 0 = λ most. IsFirstRefusalWithin c.args.down.now most c.args.doc c.in_ok-files.files c.in-Err-Refused.refusal in
    let refused : IsFirstRefusalWithin c.args.down.now c.entries.result c.args.doc c.in_ok-files.files c.in-Err-Refused.refusal = search rules in
    network_refused (λ (files : Files) (input : Input). HoldsInput c.args.limits c.args.down.now c.args.name.now files input.doc input.net) c.args.limits c.args.down.now
    (g.S.Store.held c.args.store.now) c.args.name.now c.args.doc c.slice.result.now _ c.in-Err-Refused.refusal c.named.result
    c.in_ok-files.ensures.told c.slice.ensures.items (subst P c.entries.ensures.value refused) c.named.ensures
