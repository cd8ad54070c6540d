use Rattle.std.proofs.Common.{◌≡◌, ◌⊎◌, ℕ, List, sym, ◌∙◌, subst}
use Rattle.std.specs.Prelude.{Any, AllPairs}
use Rattle.std.proofs.lemmas.Result.{IfOk-weaker}
use denote.Ref.{Bor}
use Rattle.ios_config.specs.declared.settings.ListText.{ListText}
use Rattle.arc_base.specs.NameForms.{IsNameBefore, texts_at}
use Rattle.net_rules.specs.Lists.{IsBoundPacketList, IsBoundRouteList, IsListName, AreListNames}
use Rattle.row_making.proofs.ListsNames.{adds_then, just_added}
use Rattle.row_making.proofs.lists.list_names.Goals as goal

pub returns : goal.returns
returns c =
    let start : List (Bor (List ℕ)) = c.new-names.result.keys in
    let defined : List (Bor (List ℕ)) = c.add_defined.new.names.keys in
    let packets : List (Bor (List ℕ)) = c.add_bound_packet.new.names.keys in
    let whole : List (Bor (List ℕ)) = c.add_bound_route.new.names.keys in
    let HasName : List ℕ → Type 0 = λ name. Any (λ (l : ListText). l.name ≡ name) c.args.config.now.lists in
    let Bound : List ℕ → Type 0 = λ name. IsBoundPacketList c.args.config.now name ⊎ IsBoundRouteList c.args.config.now name in
    let adds = adds_then HasName Bound start defined whole c.in_ok-add_defined.ensures
    (adds_then (IsBoundPacketList c.args.config.now) (IsBoundRouteList c.args.config.now) defined packets whole c.in_ok-add_bound_packet.ensures c.in_ok-add_bound_route.ensures) in
    let all : AreListNames c.args.config.now (texts_at whole) =
    just_added (IsListName c.args.config.now) start whole c.new-names.ensures.empty adds (subst (AllPairs IsNameBefore) c.in_ok-listed.ensures.names c.in_ok-listed.ensures.order) in
    IfOk-weaker c.of.result (λ (list : List (List ℕ)). list ≡ c.in_ok-listed.field-0.items) (AreListNames c.args.config.now)
    (λ list is. subst (AreListNames c.args.config.now) (sym (is ∙ c.in_ok-listed.ensures.names)) all) c.of.ensures.ok
