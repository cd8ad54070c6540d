use Rattle.std.proofs.Common.{◌+◌, List, subst}
use Rattle.arc_base.specs.declared.refusal.Kind.TheVariants as kinds
use Rattle.net_doc.specs.declared.fault.Refusal.{Refusal}
use Rattle.ios_config.specs.declared.settings.Config.{Config}
use Rattle.net_rules.specs.Reasons.{NoRefusal, IsEarliest}
use Rattle.net_rules.specs.Routers.{RefusesProtocol, HasNoOwnProcess}
use Rattle.net_rules.proofs.Firsts.{tried_refused, first_found, clear_more, clear_all}
use Rattle.net_checks.proofs.OwnProcesses.{least_wrong, none_wrong}
use Rattle.net_checks.proofs.routers.try_processes.Goals as goal

pub returns-in-Some : goal.returns-in-Some
returns-in-Some c =
    let items : List Config = c.slice-config-items.result.now in
    let r : Refusal = record { file = c.loop-place.place + 1; number = c.in-Some.line; kind = kinds.Protocol } in
    tried_refused (RefusesProtocol c.args.configs.now) (λ (done : Unit {0}). Unit {0}) c.in_file.result r c.in_file.ensures
    (subst (λ (configs : List Config). IsEarliest (RefusesProtocol configs) r) c.slice-config-items.ensures.items
    (first_found kinds.Protocol (HasNoOwnProcess items) items c.loop-place.place c.config-item.result c.in-Some.line c.loop-place-test.true c.config-item.is c.loop-place.invariant
    (least_wrong items c.args.configs.now c.protocol_of-protocol.result c.slice-config-items.ensures.items c.protocol_of-protocol.ensures c.loop-place.place c.config-item.result
    c.in-Some.line c.in-Some.ensures)))

pub loop-place-preserved : goal.loop-place-preserved
loop-place-preserved c =
    let items : List Config = c.slice-config-items.result.now in
    clear_more kinds.Protocol (HasNoOwnProcess items) items c.loop-place.place c.config-item.result c.loop-place-test.true c.config-item.is c.loop-place.invariant
    (none_wrong items c.args.configs.now c.protocol_of-protocol.result c.slice-config-items.ensures.items c.protocol_of-protocol.ensures c.loop-place.place c.config-item.result c.in_default.ensures)

pub returns : goal.returns
returns c =
    let items : List Config = c.slice-config-items.result.now in (
      subst (λ (configs : List Config). NoRefusal (RefusesProtocol configs)) c.slice-config-items.ensures.items
          (clear_all kinds.Protocol (HasNoOwnProcess items) items c.loop-place.place c.loop-place-test.false c.loop-place.invariant),
      tt,
    )
