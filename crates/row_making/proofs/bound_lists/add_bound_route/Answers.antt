use Rattle.std.proofs.Common.{◌≡◌, ℕ, List, [], ◌∷◌, refl, sym, ◌∙◌, ap, subst, nat_eq}
use Rattle.std.specs.Prelude.{Contains, option_map}
use Rattle.std.specs.Map.Iter.{deref}
use Rattle.std.proofs.lemmas.Map.Iter.{rest_more, rest_all}
use denote.Ref.{Bor}
use Rattle.indexmap.specs.IndexMap.{values, get}
use Rattle.ios_words.specs.declared.commands.Command.{Command}
use Rattle.ios_config.specs.declared.settings.Given.{Given}
use Rattle.net_rules.specs.Settings.{lines_of}
use Rattle.net_rules.specs.Neighbors.{filter_of}
use Rattle.net_rules.specs.Lists.{IsBoundRouteList}
use Rattle.arc_base.specs.NameForms.{texts_at}
use Rattle.row_making.proofs.ListsNames.{adds_same, adds_inserted, left_start, left_more, left_none}
use Rattle.row_making.proofs.ListsTables.{at_some_key, from_some_key}
use Rattle.row_making.proofs.bound_lists.add_bound_route.Goals as goal

pub loop-list-init : goal.loop-list-init
loop-list-init c = left_start (texts_at c.into_iter-list-iterator.result) c.args.names.now.keys (texts_at c.into_iter-list-iterator.result) refl

pub loop-list-preserved : goal.loop-list-preserved
loop-list-preserved c =
    let list : Bor (List ℕ) = c.in-Some.list.now in
    let is : c.loop-list.list-iterator ≡ list ∷ c.next.new.self = rest_more deref c.loop-list.list-iterator c.next.new.self c.next.result c.in-Some.list c.in-Some.is c.next.ensures.steps in
    left_more (texts_at c.into_iter-list-iterator.result) c.args.names.now.keys c.loop-list.names.keys c.insert.new.self.keys list.now (texts_at c.loop-list.list-iterator) (texts_at c.next.new.self)
    (ap texts_at is) c.loop-list.invariant (adds_inserted c.loop-list.names.keys c.insert.new.self.keys list c.in_ok-insert.ensures.keys)

pub returns : goal.returns
returns c =
    let said : (peer : ℕ) → filter_of (lines_of c.args.config.now) peer ≡ option_map (λ (n : Bor (List ℕ)). n.now) (get nat_eq c.in_ok-filters.filters peer) =
    λ peer. ap (λ (lines : List (Given Command)). filter_of lines peer) (sym c.lines_of.ensures) ∙ sym (c.in_ok-filters.ensures.filters peer) in
    let none : c.loop-list.list-iterator ≡ [] = rest_all deref c.loop-list.list-iterator c.next.new.self c.next.result c.in-None.is c.next.ensures.steps in
    let start : c.into_iter-list-iterator.result ≡ values c.in_ok-filters.filters = c.into_iter-list-iterator.ensures.into_iter_gives ∙ c.values-list-items.ensures.rest in
    adds_same (λ (name : List ℕ). Contains (texts_at c.into_iter-list-iterator.result) name) (IsBoundRouteList c.args.config.now) c.args.names.now.keys c.loop-list.names.keys
    (λ name h.
    let found = at_some_key c.in_ok-filters.filters.entries c.in_ok-filters.ensures.unique name (subst (λ (l : List (Bor (List ℕ))). Contains (texts_at l) name) start h) in
    (found.0, said found.0 ∙ found.1))
    (λ name h. subst (λ (l : List (Bor (List ℕ))). Contains (texts_at l) name) (sym start)
    (from_some_key c.in_ok-filters.filters.entries c.in_ok-filters.ensures.unique name h.0 (sym (said h.0) ∙ h.1)))
    (left_none (texts_at c.into_iter-list-iterator.result) c.args.names.now.keys c.loop-list.names.keys (texts_at c.loop-list.list-iterator) (ap texts_at none) c.loop-list.invariant)
