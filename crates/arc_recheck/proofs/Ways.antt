-- Routes of the network and ways of its graphs.
use Rattle.std.proofs.Common.{◌≡◌, ◌≢◌, ℕ, ◌<◌, ◌↔◌, Bool, true, false, Option, Some, None, List, [], ◌∷◌, length, refl, sym, ap, ◌∙◌, subst}
use Rattle.std.specs.Prelude.{Contains, IsFalse, ◌||◌, ◌==◌, not}
use Rattle.std.specs.List.{AllByRecursion}
use Rattle.std.proofs.lemmas.Bool.{false≢true, ne_eqb, eq-eqb}
use Rattle.std.proofs.lemmas.Option.{slice_get_within}
use Rattle.arc_base.specs.declared.place.Link.{Link}
use Rattle.arc_base.specs.declared.prefix.Prefix.{Prefix}
use Rattle.arc_base.proofs.Items.{from_map}
use Rattle.graph_flow.specs.declared.arcs.Arc as shown
use Rattle.graph_flow.specs.Paths as graphs
use Rattle.graph_flow.specs.Needed as needs
use Rattle.graph_flow.proofs.Lists.{filter-from}
use Rattle.graph_flow.proofs.Ways.{Path-members}
use Rattle.graph_flow.proofs.Needs.{left, left-other, on-path}
use Rattle.net_model.specs.declared.rows.Network.{Network}
use Rattle.net_model.specs.Routing.{Arc, IsUsable, head_router}
use Rattle.net_model.specs.Forwarding.{Ends, source_router, target_router}
use Rattle.net_model.specs.Witnesses.{Path}
use Rattle.class_graph.specs.Graphs.{IsGraphOf, IsAnyArc, IsShown}
use Rattle.class_graph.specs.Hosts.{IsHostPair}
use Rattle.class_graph.specs.declared.hosts.HostPair.{HostPair}
use Rattle.class_graph.specs.declared.hosts.End.{End}
use Rattle.verdicts.proofs.Ways.{Arcs, arcs_of, shown_arc}
use Rattle.net_laws.specs.Breaking.{no_link}
use Rattle.net_laws.specs.Routes.{just, Route, HasRoute}
use Rattle.arc_recheck.specs.Needed.{IsNeededAnswer}

-- a path of arcs that are left is a route
pub route_of_path : (net : Network) (to : Prefix) (failed : ℕ → Bool) (arcs : List Arc) (u v : ℕ) → Path net to u arcs v →
    AllByRecursion (λ arc. IsFalse (failed arc.link)) arcs → Route net to failed u arcs v
route_of_path net to failed [] u v path left = path
route_of_path net to failed (arc ∷ arcs) u v path left =
    (record { is_arc = path.0; routed = path.1; left = left.0 }, path.2, route_of_path net to failed arcs (head_router arc) v path.3 left.1)

-- a route is a way of the graph that has its arcs
pub way_of_route : (net : Network) (to : Prefix) (failed : ℕ → Bool) (P : Arc → Type 0) (g : graphs.Digraph) → IsGraphOf net to P g →
    ((arc : Arc) → IsUsable net to failed arc → P arc) → (arcs : List Arc) (u v : ℕ) → Route net to failed u arcs v → graphs.Leads g.arcs u v
way_of_route net to failed P g is fits [] u v route = ([], route)
way_of_route net to failed P g is fits (arc ∷ arcs) u v route =
    let one : Contains g.arcs (shown_arc net arc) = (is.arcs (shown_arc net arc)).1 (record {
      arc = arc;
      is_arc = route.0.is_arc;
      routed = route.0.routed;
      fits = fits arc route.0;
      shows = record { link = refl; tail = refl; head = refl; cost_is = refl };
    }) in
    let rest : graphs.Leads g.arcs (head_router arc) v = way_of_route net to failed P g is fits arcs (head_router arc) v route.2 in
    (shown_arc net arc ∷ rest.0, (one, route.1, rest.1))

-- the arc is left once this link has failed
abbrev IsLeft : Link → Arc → Type 0
IsLeft link arc = IsFalse (just link arc.link)

-- the graph of the arcs that are left leads to the target exactly where a route is left
pub leads_by_routes : (net : Network) (ends : Ends) (link : Link) (g : graphs.Digraph) → IsGraphOf net ends.to (IsLeft link) g →
    graphs.Leads g.arcs (source_router ends) (target_router ends) ↔ HasRoute net ends (just link)
leads_by_routes net ends link g is = (
  λ led.
      (let found : Arcs net ends.to (IsLeft link) (source_router ends) led.0 (target_router ends) =
      arcs_of net ends.to (IsLeft link) g is led.0 (source_router ends) (target_router ends) led.1 in
      (found.arcs, route_of_path net ends.to (just link) found.arcs (source_router ends) (target_router ends) found.leads found.fit)),
  λ route. way_of_route net ends.to (just link) (IsLeft link) g is (λ arc usable. usable.left) route.0 (source_router ends) (target_router ends) route.1,
)

-- the same at the routers of a pair
pub leads_at_pair : (net : Network) (ends : Ends) (pair : HostPair) → IsHostPair net ends pair → (link : Link) (g : graphs.Digraph) → IsGraphOf net pair.to (IsLeft link) g →
    graphs.Leads g.arcs pair.source.router.0 pair.target.router.0 ↔ HasRoute net ends (just link)
leads_at_pair net ends pair is link g graph =
    let of_ends : IsGraphOf net ends.to (IsLeft link) g = subst (λ (to : Prefix). IsGraphOf net to (IsLeft link) g) is.to graph in
    let source : pair.source.router.0 ≡ source_router ends = ap (λ (e : End). e.router.0) is.source in
    let target : pair.target.router.0 ≡ target_router ends = ap (λ (e : End). e.router.0) is.target in
    subst (λ (s : ℕ). graphs.Leads g.arcs s pair.target.router.0 ↔ HasRoute net ends (just link)) (sym source)
    (subst (λ (t : ℕ). graphs.Leads g.arcs (source_router ends) t ↔ HasRoute net ends (just link)) (sym target) (leads_by_routes net ends link g of_ends))

-- a failed link is another than one that is left
pub just_is : (link : Link) (m : ℕ) → link.0 ≢ m → just link m ≡ false
just_is link m apart = ap (λ (b : Bool). b || false) (ne_eqb link.0 m apart)

pub just_own : (link : Link) (m : ℕ) → link.0 ≡ m → just link m ≡ true
just_own link m same = ap (λ (b : Bool). b || false) (eq-eqb link.0 m same)

all_up : (arcs : List Arc) → AllByRecursion (λ arc. IsFalse (no_link arc.link)) arcs
all_up [] = tt
all_up (arc ∷ arcs) = (refl, all_up arcs)

-- the graph of all routed arcs leads to the target where there is a route
pub leads_by_route : (net : Network) (ends : Ends) (pair : HostPair) → IsHostPair net ends pair → (g : graphs.Digraph) → IsGraphOf net pair.to IsAnyArc g →
    HasRoute net ends no_link → graphs.Leads g.arcs pair.source.router.0 pair.target.router.0
leads_by_route net ends pair is g graph route =
    let of_ends : IsGraphOf net ends.to IsAnyArc g = subst (λ (to : Prefix). IsGraphOf net to IsAnyArc g) is.to graph in
    let source : pair.source.router.0 ≡ source_router ends = ap (λ (e : End). e.router.0) is.source in
    let target : pair.target.router.0 ≡ target_router ends = ap (λ (e : End). e.router.0) is.target in
    subst (λ (s : ℕ). graphs.Leads g.arcs s pair.target.router.0) (sym source)
    (subst (λ (t : ℕ). graphs.Leads g.arcs (source_router ends) t) (sym target)
    (way_of_route net ends.to no_link IsAnyArc g of_ends (λ arc usable. tt) route.0 (source_router ends) (target_router ends) route.1))

-- the graph without the arcs of a link is that of the arcs that are left
left_graph : (net : Network) (to : Prefix) (link : Link) (g : graphs.Digraph) → IsGraphOf net to IsAnyArc g →
    IsGraphOf net to (IsLeft link) (record { nodes = g.nodes; arcs = needs.without g.arcs link })
left_graph net to link g graph = record {
  nodes = graph.nodes;
  arcs = λ a. (
    λ m. let any : IsShown net to IsAnyArc a = (graph.arcs a).0 (filter-from (λ b. not (b.link.0 == link.0)) g.arcs a m) in
        record {
          arc = any.arc;
          is_arc = any.is_arc;
          routed = any.routed;
          fits = just_is link any.arc.link (λ e. left-other g.arcs link a m (any.shows.link ∙ sym e));
          shows = any.shows;
        },
    λ one. left g.arcs link a ((graph.arcs a).1 (record { arc = one.arc; is_arc = one.is_arc; routed = one.routed; fits = tt; shows = one.shows }))
        (λ e. false≢true (sym one.fits ∙ just_own link one.arc.link (sym e ∙ one.shows.link))),
  );
}

module _ (net : Network) (ends : Ends) (pair : HostPair) (is : IsHostPair net ends pair) (g : graphs.Digraph) (graph : IsGraphOf net pair.to IsAnyArc g) where
  -- a way of the graph is a route with all links up
  route_of_way : graphs.Leads g.arcs pair.source.router.0 pair.target.router.0 → HasRoute net ends no_link
  route_of_way led =
      let source : pair.source.router.0 ≡ source_router ends = ap (λ (e : End). e.router.0) is.source in
      let target : pair.target.router.0 ≡ target_router ends = ap (λ (e : End). e.router.0) is.target in
      let way : graphs.Leads g.arcs (source_router ends) (target_router ends) =
      subst (λ (s : ℕ). graphs.Leads g.arcs s (target_router ends)) source (subst (λ (t : ℕ). graphs.Leads g.arcs pair.source.router.0 t) target led) in
      let found : Arcs net ends.to IsAnyArc (source_router ends) way.0 (target_router ends) =
      arcs_of net ends.to IsAnyArc g (subst (λ (to : Prefix). IsGraphOf net to IsAnyArc g) is.to graph) way.0 (source_router ends) (target_router ends) way.1 in
      (found.arcs, route_of_path net ends.to no_link found.arcs (source_router ends) (target_router ends) found.leads (all_up found.arcs))

  -- a link of a way is one of the network
  of_network : (link : Link) → graphs.Leads g.arcs pair.source.router.0 pair.target.router.0 → needs.IsNeeded g.arcs pair.source.router.0 pair.target.router.0 link → link.0 < length net.links
  of_network link led needed =
      let on = from_map (λ (a : shown.Arc). a.link) led.0 link (on-path g.arcs link pair.source.router.0 pair.target.router.0 led.0 led.1 needed) in
      let any : IsShown net pair.to IsAnyArc on.0 =
      (graph.arcs on.0).0 (Path-members g.arcs pair.source.router.0 pair.target.router.0 led.0 led.1 on.0 on.1) in
      subst (λ (n : ℕ). n < length net.links) (sym any.shows.link ∙ ap (λ (k : Link). k.0) on.2) (slice_get_within net.links any.arc.link any.arc.row any.is_arc.link)

  pub answered : (found : Option (List Link)) → needs.IsNeededAnswer g.arcs pair.source.router.0 pair.target.router.0 found → IsNeededAnswer net ends found
  answered None none = λ route. none (leads_by_route net ends pair is g graph route)
  answered (Some links) are = record {
    route = route_of_way are.leads;
    rising = are.rising;
    exact = λ link.
        let by_routes = leads_at_pair net ends pair is link (record { nodes = g.nodes; arcs = needs.without g.arcs link }) (left_graph net pair.to link g graph) in (
          λ has. let needed : needs.IsNeeded g.arcs pair.source.router.0 pair.target.router.0 link = (are.exact link).0 has in
              (of_network link are.leads needed, λ route. needed (by_routes.1 route)),
          λ low. (are.exact link).1 (λ led. low.1 (by_routes.0 led)),
        );
  }
