use Rattle.std.proofs.Common.{◌≡◌, ℕ, inl, inr, None, List, Err, subst, arith}
use Rattle.std.specs.List.{AllZip}
use Rattle.std.proofs.lemmas.Result.{err_from_is_err_and}
use Rattle.net_doc.specs.declared.fault.NetFault.{NetFault}
use Rattle.net_doc.specs.declared.fault.NetFault.TheVariants.{Refused, Memory}
use Rattle.net_model.specs.declared.policies.Document.{Document}
use Rattle.ios_config.specs.declared.settings.Config.{Config}
use Rattle.net_build.specs.Networks.{HasSettings, ReadsConfigs, Assembles, FindsWithin}
use Rattle.net_build.proofs.NetworkTried.{all_have_ends}
use Rattle.net_build.proofs.OneAnswer.{all_well_formed}
use Rattle.net_build.proofs.AskingMore.{no_number_above}
use Rattle.net_rules.specs.Linking.{first_above}
use Rattle.net_rules.specs.Rows.{IsLinkRow}
use Rattle.net_rules.specs.Sites.{full_names}
use Rattle.arc_base.proofs.Zips.{AllZip-length}
use Rattle.net_build.proofs.networks.network_alone.Goals as goal

-- a refusal of a file by itself
of_file : (down : List ℕ) (most : ℕ) (doc : Document) (files : List (List ℕ)) (fault : NetFault) → ReadsConfigs files (Err fault) → FindsWithin down most doc files (Err fault)
of_file down most doc files (Refused r) first = inl first
of_file down most doc files Memory first = tt

-- a refusal of what the files have together
of_tries : (down : List ℕ) (most : ℕ) (doc : Document) (files : List (List ℕ)) (configs : List Config) → AllZip HasSettings files configs → (fault : NetFault) →
    Assembles down most doc configs (Err fault) → FindsWithin down most doc files (Err fault)
of_tries down most doc files configs said (Refused r) first = inr (record { configs = configs; said = said; first = first })
of_tries down most doc files configs said Memory first = tt

pub assemble-requires-clause-few : goal.assemble-requires-clause-few
assemble-requires-clause-few c =
    omega (arith, AllZip-length HasSettings c.args.files.now c.in_ok-configs.configs c.in_ok-configs.ensures, c.requires.count, c.requires.routers)

pub assemble-requires-clause-well_formed : goal.assemble-requires-clause-well_formed
assemble-requires-clause-well_formed c = all_well_formed c.args.files.now c.in_ok-configs.configs c.in_ok-configs.ensures

pub returns-in_err-configs-clause-answer : goal.returns-in_err-configs-clause-answer
returns-in_err-configs-clause-answer c =
    let p = err_from_is_err_and c.from_residual.result c.from_residual.ensures.1 in
    rw (p.1, p.2) (of_file c.args.down.now c.args.most_entries c.args.doc.now c.args.files.now c.in_err-configs.field-0.0 c.in_err-configs.ensures)

pub returns-in_err-net-clause-answer : goal.returns-in_err-net-clause-answer
returns-in_err-net-clause-answer c =
    let p = err_from_is_err_and c.from_residual-in_err-net.result c.from_residual-in_err-net.ensures.1 in
    rw (p.1, p.2) (of_tries c.args.down.now c.args.most_entries c.args.doc.now c.args.files.now c.in_ok-configs.configs c.in_ok-configs.ensures c.in_err-net.field-0.0 c.in_err-net.ensures.answer)

pub returns-clause-answer : goal.returns-clause-answer
returns-clause-answer c = record {
  configs = c.in_ok-configs.configs;
  said = c.in_ok-configs.ensures;
  rows = c.in_ok-net.ensures.answer.1;
  clear = c.in_ok-net.ensures.answer.0;
}

pub returns-clause-valid : goal.returns-clause-valid
returns-clause-valid c = c.in_ok-net.ensures.valid

pub returns-clause-ends : goal.returns-clause-ends
returns-clause-ends c = all_have_ends c.in_ok-net.net c.in_ok-net.ensures.valid c.args.doc.now.policies c.in_ok-net.ensures.ends

pub returns-clause-down : goal.returns-clause-down
returns-clause-down c =
    let doc = c.args.doc.now in
    let links = AllZip-length (IsLinkRow (full_names c.in_ok-configs.configs)) doc.links c.in_ok-net.net.links c.in_ok-net.ensures.answer.1.base.links in
    subst (λ (n : ℕ). first_above n c.args.down.now ≡ None) links (no_number_above doc c.args.down.now c.in_ok-net.ensures.answer.0.1.1.1.1.1.0)
