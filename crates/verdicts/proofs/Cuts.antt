-- Paths and cuts of the graph of routed arcs as those of the network.
use Rattle.std.proofs.Common.{◌≡◌, ℕ, ◌+◌, ◌<◌, Bool, true, false, List, length, get_or, IsTrue, refl, sym, ap, ◌∙◌, subst, arith}
use Rattle.std.specs.Prelude.{All, Contains, IsFalse}
use Rattle.std.proofs.lemmas.Bool.{false≢true}
use Rattle.std.proofs.lemmas.List.{length-map}
use Rattle.std.proofs.lemmas.List.Elements.{All-contains, All-map, Contains-get_or}
use Rattle.arc_base.specs.declared.place.Link.{Link}
use Rattle.arc_base.specs.declared.prefix.Prefix.{Prefix}
use Rattle.arc_base.specs.Lists.{AreDistinct}
use Rattle.graph_flow.specs.declared.arcs.Arc as shown
use Rattle.graph_flow.specs.declared.arcs.LinkRow2.{LinkRow2}
use Rattle.graph_flow.specs.Paths as graphs
use Rattle.graph_flow.specs.Sides as cuts
use Rattle.graph_flow.specs.Flows.{flagged}
use Rattle.graph_flow.specs.Answers.{rows_of, AreInLinkOrder}
use Rattle.net_model.specs.declared.rows.Network.{Network}
use Rattle.net_model.specs.declared.verdicts.LinkPath.{LinkPath}
use Rattle.net_model.specs.Routing.{Arc, head_router}
use Rattle.net_model.specs.Forwarding.{Ends, source_router, target_router}
use Rattle.net_model.specs.Witnesses.{IsOn, IsPath, LeavesSide}
use Rattle.class_graph.specs.Graphs.{IsShown, IsGraphOf, IsAnyArc}
use Rattle.verdicts.specs.Fixed.{IsSeparator}
use Rattle.verdicts.specs.Reaching.{AreGoodPaths, IsGoodCut, paths_of}
use Rattle.verdicts.proofs.Lists.{all_of_map, links_same, all_links_same}
use Rattle.verdicts.proofs.Ways.{shown_arc}
use Rattle.verdicts.proofs.Walks.{Found, found_path}

-- link-disjoint paths of the graph are good paths of the network
pub good_paths : (net : Network) (ends : Ends) (g : graphs.Digraph) → IsGraphOf net ends.to IsAnyArc g → (s t many : ℕ) → s ≡ source_router ends → t ≡ target_router ends →
    (rows : List LinkRow2) → graphs.AreDisjointPaths g.arcs s t many (rows_of rows) → AreInLinkOrder (rows_of rows) → AreGoodPaths net ends many (paths_of rows)
good_paths net ends g is s t many from there rows paths order =
    let path_of : LinkRow2 → LinkPath = λ row. record { links = row.links } in
    let each : All (λ (row : LinkRow2). graphs.IsArcPath g.arcs s row.links t) rows =
    all_of_map (λ (row : LinkRow2). row.links) (λ (links : List Link). graphs.IsArcPath g.arcs s links t) rows paths.each in
    record {
      count = length-map rows path_of ∙ sym (length-map rows (λ (row : LinkRow2). row.links)) ∙ paths.count;
      are_paths = All-map (IsPath net ends) path_of rows
          (λ k d low. (let found : Found net ends IsAnyArc (path_of (get_or rows k d)) =
          found_path net ends IsAnyArc g is s t from there (get_or rows k d).links (each k d low) in
          found.is_path));
      once = subst AreDistinct (all_links_same rows) paths.disjoint;
      in_order = subst AreInLinkOrder (sym (links_same rows)) order;
    }

is_off : (b : Bool) → (¬ IsTrue b) → IsFalse b
is_off true h = absurd (h refl)
is_off false h = refl

link_is : (l : ℕ) (link : Link) → l ≡ link.0 → ◌≡◌ {A = Link} (record { 0 = l }) link
link_is l link same = let link_of : ℕ → Link = λ n. record { 0 = n } in ap link_of same

any_shown : (net : Network) (to : Prefix) (g : graphs.Digraph) → IsGraphOf net to IsAnyArc g → (side : List Bool) (arc : Arc) → LeavesSide net to side arc → Contains g.arcs (shown_arc net arc)
any_shown net to g is side arc leaves = (is.arcs (shown_arc net arc)).1 (record {
  arc = arc;
  is_arc = leaves.is_arc;
  routed = leaves.routed;
  fits = tt;
  shows = record { link = refl; tail = refl; head = refl; cost_is = refl };
})

-- an arc of the graph that leaves a side is one of the network
leaves_of : (net : Network) (to : Prefix) (g : graphs.Digraph) → IsGraphOf net to IsAnyArc g → (side : List Bool) (a : shown.Arc) → Contains g.arcs a →
    cuts.LeadsOut (flagged side) a → (arc : Arc) × (arc.link ≡ a.link.0) × LeavesSide net to side arc
leaves_of net to g is side a one leaves =
    let shows : IsShown net to IsAnyArc a = (is.arcs a).0 one in (
      shows.arc,
      sym shows.shows.link,
      record {
        is_arc = shows.is_arc;
        routed = shows.routed;
        tail = subst (IsOn side) shows.shows.tail leaves.from_inside;
        head = λ on. false≢true (sym leaves.to_outside ∙ subst (IsOn side) (sym shows.shows.head) on);
      },
    )

leaves_shown : (net : Network) (to : Prefix) (side : List Bool) (arc : Arc) → LeavesSide net to side arc → cuts.LeadsOut (flagged side) (shown_arc net arc)
leaves_shown net to side arc leaves = record { from_inside = leaves.tail; to_outside = is_off (flagged side (head_router arc)) leaves.head }

-- the links that are left over in the graph separate the ends in the network
pub separator_of : (net : Network) (ends : Ends) (g : graphs.Digraph) → IsGraphOf net ends.to IsAnyArc g → (links : List Link) (side : List Bool) →
    cuts.Separates (source_router ends) (target_router ends) (flagged side) → cuts.AreLeftOver g.arcs (flagged side) links → IsSeparator net ends links side
separator_of net ends g is links side separates left = record {
  source = separates.source;
  target = λ on. false≢true (sym separates.target ∙ on);
  rising = left.rising;
  cut = λ l. (
    λ has. (
        let over : cuts.IsLeftOver g.arcs (flagged side) l = All-contains (cuts.IsLeftOver g.arcs (flagged side)) links l left.only has in
        let found = leaves_of net ends.to g is side over.arc over.is_arc over.leaves in
        (found.0, found.1 ∙ ap (λ (k : Link). k.0) over.of_link, found.2)),
    λ one. (
        let here : Contains links (shown_arc net (one.0)).link =
        left.each (shown_arc net (one.0)) (any_shown net ends.to g is side (one.0) (one.2)) (leaves_shown net ends.to side (one.0) (one.2)) in
        subst (Contains links) (link_is (one.0).link l (one.1)) here),
  );
}

-- and the other way round
pub separates_of : (net : Network) (ends : Ends) (links : List Link) (side : List Bool) → IsSeparator net ends links side →
    cuts.Separates (source_router ends) (target_router ends) (flagged side)
separates_of net ends links side is = record { source = is.source; target = is_off (flagged side (target_router ends)) is.target }

pub left_over_of : (net : Network) (ends : Ends) (g : graphs.Digraph) → IsGraphOf net ends.to IsAnyArc g → (links : List Link) (side : List Bool) →
    IsSeparator net ends links side → cuts.AreLeftOver g.arcs (flagged side) links
left_over_of net ends g is links side separator = record {
  only = λ k d low. (
      let one = (separator.cut (get_or links k d)).0 (Contains-get_or links k d low) in
      record {
        arc = shown_arc net (one.0);
        is_arc = any_shown net ends.to g is side (one.0) (one.2);
        leaves = leaves_shown net ends.to side (one.0) (one.2);
        of_link = link_is (one.0).link (get_or links k d) (one.1);
      });
  each = λ a one leaves. (separator.cut a.link).1 (leaves_of net ends.to g is side a one leaves);
  rising = separator.rising;
}

-- the least side of the graph is a good cut of the network
pub good_cut : (net : Network) (ends : Ends) (g : graphs.Digraph) → IsGraphOf net ends.to IsAnyArc g → (s t k : ℕ) → s ≡ source_router ends → t ≡ target_router ends →
    (links : List Link) (side : List Bool) → cuts.IsLeastSide g.arcs s t (flagged side) links → length links < k + 1 → length side ≡ g.nodes → IsGoodCut net ends k links side
good_cut net ends g is s t k from there links side cut few flags =
    let parted : cuts.Separates (source_router ends) (target_router ends) (flagged side) =
    subst (λ (v : ℕ). cuts.Separates (source_router ends) v (flagged side)) there
    (subst (λ (u : ℕ). cuts.Separates u t (flagged side)) from cut.separates) in
    record {
      flags = flags ∙ is.nodes;
      separates = separator_of net ends g is links side parted cut.left_over;
      few = omega (arith, few);
      fewest = λ others other separator. cut.fewest (flagged other) others
          (subst (λ (u : ℕ). cuts.Separates u t (flagged other)) (sym from)
          (subst (λ (v : ℕ). cuts.Separates (source_router ends) v (flagged other)) (sym there) (separates_of net ends others other separator)))
          (left_over_of net ends g is others other separator);
      least = λ others other separator no_more router on. cut.least (flagged other) others
          (subst (λ (u : ℕ). cuts.Separates u t (flagged other)) (sym from)
          (subst (λ (v : ℕ). cuts.Separates (source_router ends) v (flagged other)) (sym there) (separates_of net ends others other separator)))
          (left_over_of net ends g is others other separator) no_more router on;
    }
