-- Host networks of which a network answers the same have one table of routed arcs.
use Rattle.std.proofs.Common.{◌≡◌, ℕ, Bool, true, false, Option, Some, None, List, IsTrue, refl, sym, ◌∙◌}
use Rattle.std.specs.Prelude.{slice_get, IsSomeAnd}
use Rattle.std.proofs.lemmas.List.Elements.{All-contains, All-weaker}
use Rattle.arc_base.specs.declared.place.ListId.{ListId}
use Rattle.arc_base.specs.declared.prefix.Prefix.{Prefix}
use Rattle.net_model.specs.declared.lists.RouteList.{RouteList}
use Rattle.net_model.specs.declared.rows.Network.{Network}
use Rattle.net_model.specs.declared.rows.SessionRow.{SessionRow}
use Rattle.net_model.specs.declared.tables.RoutedLink.{RoutedLink}
use Rattle.net_model.specs.Lists.{route_permits}
use Rattle.net_model.specs.Routing.{Arc, IsRouted, IsRoutedLink, RouteListPermits, FilterPermits, session_at, tail_face}
use Rattle.net_model.specs.Tables.{AreRoutedLinks}
use Rattle.net_model.proofs.Readings.{item_at_place}
use Rattle.class_graph.specs.LastGraphs.{AreAlike}

module _ (net : Network) (one other : Prefix) (alike : AreAlike net one other) where
  list_too : (o : Option RouteList) (place : ℕ) → slice_get net.route_lists place ≡ o →
      IsSomeAnd o (λ l. IsTrue (route_permits l.entries one)) → IsSomeAnd o (λ l. IsTrue (route_permits l.entries other))
  list_too None place at h = h
  list_too (Some l) place at h =
      sym (All-contains (λ (m : RouteList). route_permits m.entries one ≡ route_permits m.entries other) net.route_lists l alike.lists (item_at_place net.route_lists place l at)) ∙ h

  permits_too : (filter : Option ListId) → RouteListPermits net filter one → RouteListPermits net filter other
  permits_too None h = h
  permits_too (Some id) h = list_too (slice_get net.route_lists id.0) id.0 refl h

  filter_too : (session : Option SessionRow) → FilterPermits net session one → FilterPermits net session other
  filter_too None h = h
  filter_too (Some s) h = permits_too s.filter h

  arc_too : (arc : Arc) → IsRouted net one arc → IsRouted net other arc
  arc_too arc routed = record {
    told = alike.told.0 routed.told;
    carries = record {
      able_tail = routed.carries.able_tail;
      able_head = routed.carries.able_head;
      open_tail = routed.carries.open_tail;
      open_head = routed.carries.open_head;
      filter = filter_too (session_at net (tail_face arc)) routed.carries.filter;
    };
  }

  link_too : (link : ℕ) (from_a : Bool) → IsRoutedLink net link from_a one → IsRoutedLink net link from_a other
  link_too link from_a routed = record {
    arc = routed.arc;
    link_is = routed.link_is;
    direction = routed.direction;
    is_arc = routed.is_arc;
    routed = arc_too routed.arc routed.routed;
  }

alike_back : (net : Network) (one other : Prefix) → AreAlike net one other → AreAlike net other one
alike_back net one other alike = record {
  told = (alike.told.1, alike.told.0);
  lists = All-weaker (λ (m : RouteList). route_permits m.entries one ≡ route_permits m.entries other) (λ (m : RouteList). route_permits m.entries other ≡ route_permits m.entries one)
      (λ m same. sym same) net.route_lists alike.lists;
}

pub same_table : (net : Network) (one other : Prefix) (table : List RoutedLink) → AreAlike net one other → AreRoutedLinks net one table → AreRoutedLinks net other table
same_table net one other table alike are = record {
  whole = are.whole;
  each = λ link flags at.
      let tells = are.each link flags at in
      let back : AreAlike net other one = alike_back net one other alike in (
        (λ h. link_too net one other alike link true (tells.0.0 h), λ h. tells.0.1 (link_too net other one back link true h)),
        (λ h. link_too net one other alike link false (tells.1.0 h), λ h. tells.1.1 (link_too net other one back link false h)),
      );
}
