use Rattle.std.proofs.Common.{ℕ, ◌+◌, List, Option, subst}
use Rattle.std.specs.Prelude.{Any}
use Rattle.arc_base.specs.declared.refusal.Kind.TheVariants as kinds
use Rattle.net_doc.specs.declared.fault.Refusal.{Refusal}
use Rattle.ios_config.specs.declared.settings.Config.{Config}
use Rattle.net_rules.specs.Settings.{lines_of}
use Rattle.ios_config.specs.Least.{FindsLeast}
use Rattle.net_rules.specs.Reasons.{IsEarliest, NoRefusal, InFiles}
use Rattle.net_rules.specs.Peers.{NamesOther}
use Rattle.net_checks.specs.FarEnds.{IsReached}
use Rattle.net_rules.proofs.Firsts.{tried_refused, first_found, clear_more, clear_all}
use Rattle.net_checks.proofs.peers.try_known.Goals as goal

abbrev Offends : List (ℕ × ℕ) → ℕ → Config → ℕ → Type 0
Offends ends place config line = Any (NamesOther (IsReached ends place config) line) (lines_of config)

pub returns-in-Some : goal.returns-in-Some
returns-in-Some c =
    let ends : List (ℕ × ℕ) = c.args.ends.now.keys in
    let items : List Config = c.slice-config-items.result.now in
    let r : Refusal = record { file = c.loop-place.place + 1; number = c.in-Some.line; kind = kinds.NeighborUnknown } in
    let found = subst (λ (o : Option ℕ). FindsLeast (Offends ends c.loop-place.place c.config-item.result) o) c.in-Some.is c.in_ok-line.ensures in
    tried_refused (InFiles kinds.NeighborUnknown (Offends ends) c.args.configs.now) (λ (done : Unit {0}). Unit {0}) c.in_file.result r c.in_file.ensures
    (subst (λ (configs : List Config). IsEarliest (InFiles kinds.NeighborUnknown (Offends ends) configs) r) c.slice-config-items.ensures.items
    (first_found kinds.NeighborUnknown (Offends ends) items c.loop-place.place c.config-item.result c.in-Some.line c.loop-place-test.true c.config-item.is c.loop-place.invariant found))

pub loop-place-preserved : goal.loop-place-preserved
loop-place-preserved c =
    let ends : List (ℕ × ℕ) = c.args.ends.now.keys in
    let none = subst (λ (o : Option ℕ). FindsLeast (Offends ends c.loop-place.place c.config-item.result) o) c.in-None.is c.in_ok-line.ensures in
    clear_more kinds.NeighborUnknown (Offends ends) c.slice-config-items.result.now c.loop-place.place c.config-item.result c.loop-place-test.true c.config-item.is c.loop-place.invariant none

pub returns : goal.returns
returns c =
    let ends : List (ℕ × ℕ) = c.args.ends.now.keys in
    let items : List Config = c.slice-config-items.result.now in (
      subst (λ (configs : List Config). NoRefusal (InFiles kinds.NeighborUnknown (Offends ends) configs)) c.slice-config-items.ensures.items
          (clear_all kinds.NeighborUnknown (Offends ends) items c.loop-place.place c.loop-place-test.false c.loop-place.invariant),
      tt,
    )
