use Rattle.std.proofs.Common.{ℕ, ◌+◌, List, Option, Some, None, subst, map}
use Rattle.arc_base.specs.declared.refusal.Kind.TheVariants as kinds
use Rattle.net_doc.specs.declared.fault.Refusal.{Refusal}
use Rattle.ios_config.specs.declared.settings.Config.{Config}
use Rattle.net_rules.specs.Reasons.{NoRefusal, IsEarliest}
use Rattle.net_rules.specs.Routers.{RefusesHostname, HasNoOwnName}
use Rattle.net_rules.proofs.Firsts.{tried_refused, first_found, clear_more, clear_all}
use denote.Ref.{Bor}
use Rattle.net_rules.proofs.Named.{AddsName, names_more, named_more, own_name, other_name}
use Rattle.net_checks.proofs.Grown.{never_some}
use Rattle.net_checks.proofs.routers.try_hostnames.Goals as goal

abbrev text : Bor (List ℕ) → List ℕ
text key = key.now

pub returns-in-Some : goal.returns-in-Some
returns-in-Some c =
    let items : List Config = c.slice-config-items.result.now in
    let r : Refusal = record { file = c.loop-place.place + 1; number = c.in-Some.line; kind = kinds.Hostname } in
    let found : AddsName (map text c.loop-place.names.keys) (map text c.add_hostname.new.names.keys) c.config-item.result.hostname (Some c.in-Some.line) =
    subst (λ (o : Option ℕ). AddsName (map text c.loop-place.names.keys) (map text c.add_hostname.new.names.keys) c.config-item.result.hostname o) c.in-Some.is c.in_ok-line.ensures in
    let bad = other_name items c.loop-place.place c.config-item.result c.loop-place-test.true c.config-item.is (map text c.loop-place.names.keys)
    (map text c.add_hostname.new.names.keys) c.loop-place.invariant.names c.loop-place.invariant.named c.in-Some.line found in
    tried_refused (RefusesHostname c.args.configs.now) (λ (done : Unit {0}). Unit {0}) c.in_file.result r c.in_file.ensures
    (subst (λ (configs : List Config). IsEarliest (RefusesHostname configs) r) c.slice-config-items.ensures.items
    (first_found kinds.Hostname (HasNoOwnName items) items c.loop-place.place c.config-item.result c.in-Some.line c.loop-place-test.true c.config-item.is c.loop-place.invariant.clear bad))

pub loop-place-preserved : goal.loop-place-preserved
loop-place-preserved c =
    let items : List Config = c.slice-config-items.result.now in
    let adds : AddsName (map text c.loop-place.names.keys) (map text c.add_hostname.new.names.keys) c.config-item.result.hostname None =
    subst (λ (o : Option ℕ). AddsName (map text c.loop-place.names.keys) (map text c.add_hostname.new.names.keys) c.config-item.result.hostname o) (never_some c.in_ok-line.field-0 (λ line. c.in_default.not-Some line)) c.in_ok-line.ensures in
    record {
      names = names_more items c.loop-place.place c.config-item.result c.loop-place-test.true c.config-item.is (map text c.loop-place.names.keys)
          (map text c.add_hostname.new.names.keys) c.loop-place.invariant.names c.loop-place.invariant.named adds;
      named = named_more items c.loop-place.place c.config-item.result c.loop-place-test.true c.config-item.is (map text c.loop-place.names.keys)
          (map text c.add_hostname.new.names.keys) c.loop-place.invariant.names c.loop-place.invariant.named adds;
      clear = clear_more kinds.Hostname (HasNoOwnName items) items c.loop-place.place c.config-item.result c.loop-place-test.true c.config-item.is c.loop-place.invariant.clear
          (own_name items c.loop-place.place c.config-item.result c.loop-place-test.true c.config-item.is (map text c.loop-place.names.keys)
          (map text c.add_hostname.new.names.keys) c.loop-place.invariant.names c.loop-place.invariant.named adds);
    }

pub returns : goal.returns
returns c =
    let items : List Config = c.slice-config-items.result.now in (
      subst (λ (configs : List Config). NoRefusal (RefusesHostname configs)) c.slice-config-items.ensures.items
          (clear_all kinds.Hostname (HasNoOwnName items) items c.loop-place.place c.loop-place-test.false c.loop-place.invariant.clear),
      tt,
    )
