use Rattle.std.proofs.Common.{ℕ, ◌+◌, List, Option, Some, None, subst}
use Rattle.arc_base.specs.declared.refusal.Kind.TheVariants as kinds
use Rattle.net_doc.specs.declared.fault.Refusal.{Refusal}
use Rattle.ios_config.specs.declared.settings.Config.{Config}
use Rattle.ios_config.specs.declared.settings.Given.{Given}
use Rattle.net_rules.specs.Reasons.{NoRefusal, IsEarliest}
use Rattle.net_rules.specs.Reasons.{InFiles}
use Rattle.net_rules.specs.Routers.{GivesNumber, Repeats}
use Rattle.net_rules.specs.Linking.{router_id_of}
use Rattle.net_rules.proofs.Firsts.{tried_refused, first_found, clear_more, clear_all}
use Rattle.net_checks.specs.Growing.{AddsGiven}
use Rattle.net_checks.proofs.Grown.{never_some, held_more, holds_more}
use Rattle.net_checks.proofs.Repeated.{own_number, other_number}
use Rattle.net_checks.proofs.adjacency.try_router_ids.Goals as goal

pub returns-in-Some : goal.returns-in-Some
returns-in-Some c =
    let items : List Config = c.slice-config-items.result.now in
    let r : Refusal = record { file = c.loop-place.place + 1; number = c.in-Some.line; kind = kinds.AdjacencyForm } in
    let found : AddsGiven c.loop-place.ids.keys c.add_given.new.numbers.keys (router_id_of c.config-item.result) (Some c.in-Some.line) =
    subst (λ (number : Option (Given ℕ)). AddsGiven c.loop-place.ids.keys c.add_given.new.numbers.keys number (Some c.in-Some.line)) c.router_id_of.ensures
    (subst (λ (o : Option ℕ). AddsGiven c.loop-place.ids.keys c.add_given.new.numbers.keys c.router_id_of.result o) c.in-Some.is c.in_ok-line.ensures) in
    let bad = other_number router_id_of items c.loop-place.place c.config-item.result c.loop-place.ids.keys c.add_given.new.numbers.keys c.loop-place.invariant.held
    c.loop-place.invariant.holds c.in-Some.line found in
    tried_refused (InFiles kinds.AdjacencyForm (Repeats router_id_of c.args.configs.now) c.args.configs.now) (λ (done : Unit {0}). Unit {0}) c.in_file.result r c.in_file.ensures
    (subst (λ (configs : List Config). IsEarliest (InFiles kinds.AdjacencyForm (Repeats router_id_of configs) configs) r) c.slice-config-items.ensures.items
    (first_found kinds.AdjacencyForm (Repeats router_id_of items) items c.loop-place.place c.config-item.result c.in-Some.line c.loop-place-test.true c.config-item.is
    c.loop-place.invariant.clear bad))

pub loop-place-preserved : goal.loop-place-preserved
loop-place-preserved c =
    let items : List Config = c.slice-config-items.result.now in
    let adds : AddsGiven c.loop-place.ids.keys c.add_given.new.numbers.keys (router_id_of c.config-item.result) None =
    subst (λ (number : Option (Given ℕ)). AddsGiven c.loop-place.ids.keys c.add_given.new.numbers.keys number None) c.router_id_of.ensures
    (subst (λ (o : Option ℕ). AddsGiven c.loop-place.ids.keys c.add_given.new.numbers.keys c.router_id_of.result o) (never_some c.in_ok-line.field-0 (λ line. c.in_default.not-Some line)) c.in_ok-line.ensures) in
    record {
      held = held_more (GivesNumber router_id_of) items c.loop-place.place c.config-item.result c.loop-place-test.true c.config-item.is c.loop-place.ids.keys c.add_given.new.numbers.keys
          c.loop-place.invariant.held adds.1;
      holds = holds_more (GivesNumber router_id_of) items c.loop-place.place c.config-item.result c.loop-place-test.true c.config-item.is c.loop-place.ids.keys c.add_given.new.numbers.keys
          c.loop-place.invariant.holds adds.2 adds.3;
      clear = clear_more kinds.AdjacencyForm (Repeats router_id_of items) items c.loop-place.place c.config-item.result c.loop-place-test.true c.config-item.is
          c.loop-place.invariant.clear
          (own_number router_id_of items c.loop-place.place c.config-item.result c.loop-place.ids.keys c.add_given.new.numbers.keys c.loop-place.invariant.held c.loop-place.invariant.holds adds);
    }

pub returns : goal.returns
returns c =
    let items : List Config = c.slice-config-items.result.now in (
      subst (λ (configs : List Config). NoRefusal (InFiles kinds.AdjacencyForm (Repeats router_id_of configs) configs)) c.slice-config-items.ensures.items
          (clear_all kinds.AdjacencyForm (Repeats router_id_of items) items c.loop-place.place c.loop-place-test.false c.loop-place.invariant.clear),
      tt,
    )
