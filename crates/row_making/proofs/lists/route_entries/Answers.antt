use Rattle.std.proofs.Common.{rules, ℕ, List, ap, ◌∙◌, ◌≡◌}
use Rattle.std.specs.Prelude.{Ok}
use Rattle.std.specs.List.{filter_map}
use Rattle.std.proofs.lemmas.Iterator.{items_from_collect, YieldsList-from_slice}
use Rattle.std.proofs.lemmas.Iterator.Consumers.{YieldsList-from_filter_map}
use Rattle.std.proofs.lemmas.Result.{IfOk-weaker}
use Rattle.ios_words.specs.declared.commands.Command.{Command}
use Rattle.ios_config.specs.declared.settings.Given.{Given}
use Rattle.net_model.specs.declared.lists.RouteEntry.{RouteEntry}
use Rattle.net_rules.specs.Lists.{route_entry, route_entries}
use Rattle.row_making.proofs.lists.route_entries.Goals as goal

pub returns : goal.returns
returns c =
    IfOk-weaker c.of.result (λ (entries : List RouteEntry). entries ≡ c.in_ok-collect.field-0.items) (λ (entries : List RouteEntry). entries ≡ route_entries c.args.list.now)
    (λ entries is.
    is
    ∙ items_from_collect {E = ℕ} (Ok c.in_ok-collect.field-0) c.in_ok-collect.ensures.ran
    (YieldsList-from_filter_map _ _ (YieldsList-from_slice c.slice.result.now cc) c.filter_map.ensures.closure (λ x r q k. search rules))
    ∙ ap (filter_map (λ (g : Given Command). route_entry g.value)) c.slice.ensures.items)
    c.of.ensures.ok
