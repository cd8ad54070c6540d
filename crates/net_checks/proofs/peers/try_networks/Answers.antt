use Rattle.std.proofs.Common.{ℕ, ◌+◌, List, Option, subst}
use Rattle.std.specs.Prelude.{Any}
use Rattle.arc_base.specs.declared.refusal.Kind.TheVariants as kinds
use Rattle.net_doc.specs.declared.fault.Refusal.{Refusal}
use Rattle.ios_config.specs.declared.settings.Config.{Config}
use Rattle.net_rules.specs.Forms.{IsWellFormed}
use Rattle.net_rules.specs.Settings.{lines_of}
use Rattle.ios_config.specs.Least.{FindsLeast}
use Rattle.net_rules.specs.Reasons.{NoRefusal, IsEarliest}
use Rattle.net_rules.specs.Peers.{RefusesNetwork, TellsUnconnected}
use Rattle.net_rules.proofs.Firsts.{tried_refused, first_found, clear_more, clear_all}
use Rattle.net_checks.proofs.Grown.{never_some}
use Rattle.net_checks.proofs.PeersEnds.{item_of_all}
use Rattle.net_checks.proofs.peers.try_networks.Goals as goal

abbrev Offends : ℕ → Config → ℕ → Type 0
Offends place config line = Any (TellsUnconnected config line) (lines_of config)

pub unconnected-requires : goal.unconnected-requires
unconnected-requires c =
    item_of_all IsWellFormed c.slice-config-items.result.now c.args.configs.now c.loop-place.place c.config-item.result c.loop-place-test.true c.config-item.is
    c.slice-config-items.ensures.items c.requires.well_formed

pub returns-in-Some : goal.returns-in-Some
returns-in-Some c =
    let items : List Config = c.slice-config-items.result.now in
    let r : Refusal = record { file = c.loop-place.place + 1; number = c.in-Some.line; kind = kinds.NetworkNotConnected } in
    let found = subst (λ (o : Option ℕ). FindsLeast (Offends c.loop-place.place c.config-item.result) o) c.in-Some.is c.in_ok-line.ensures in
    tried_refused (RefusesNetwork c.args.configs.now) (λ (done : Unit {0}). Unit {0}) c.in_file.result r c.in_file.ensures
    (subst (λ (configs : List Config). IsEarliest (RefusesNetwork configs) r) c.slice-config-items.ensures.items
    (first_found kinds.NetworkNotConnected Offends items c.loop-place.place c.config-item.result c.in-Some.line c.loop-place-test.true c.config-item.is c.loop-place.invariant found))

pub loop-place-preserved : goal.loop-place-preserved
loop-place-preserved c =
    let none = subst (λ (o : Option ℕ). FindsLeast (Offends c.loop-place.place c.config-item.result) o) (never_some c.in_ok-line.field-0 (λ line. c.in_default.not-Some line)) c.in_ok-line.ensures in
    clear_more kinds.NetworkNotConnected Offends c.slice-config-items.result.now c.loop-place.place c.config-item.result c.loop-place-test.true c.config-item.is c.loop-place.invariant none

pub returns : goal.returns
returns c =
    let items : List Config = c.slice-config-items.result.now in (
      subst (λ (configs : List Config). NoRefusal (RefusesNetwork configs)) c.slice-config-items.ensures.items
          (clear_all kinds.NetworkNotConnected Offends items c.loop-place.place c.loop-place-test.false c.loop-place.invariant),
      tt,
    )
