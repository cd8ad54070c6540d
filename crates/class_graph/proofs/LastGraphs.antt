-- Host networks for which the same arcs are routed have one graph.
use Rattle.std.proofs.Common.{◌≡◌, ℕ, ◌+◌, ◌<◌, inl, inr, Bool, false, IsTrue, Option, Some, None, List, length, get_or, refl, sym, ◌∙◌, ap, subst, arith}
use Rattle.std.specs.Prelude.{IsSome, IsSomeAnd, IfSome, slice_get}
use Rattle.std.proofs.lemmas.Bool.{cases_lt, false≢true}
use Rattle.std.proofs.lemmas.List.{get_or_default}
use Rattle.std.proofs.lemmas.Option.{slice_get_within, slice_get-get_or}
use Rattle.arc_base.specs.declared.prefix.Prefix.{Prefix}
use Rattle.graph_flow.specs.declared.arcs.Arc as graphs
use Rattle.graph_flow.specs.Paths.{Digraph}
use Rattle.net_model.specs.declared.rows.Network.{Network}
use Rattle.net_model.specs.declared.tables.RoutedLink.{RoutedLink}
use Rattle.net_model.specs.Routing.{Arc, IsArc, IsRouted, IsRoutedLink}
use Rattle.net_model.specs.Tables.{AreRoutedLinks}
use Rattle.net_model.proofs.Arcs.{IsArc-unique}
use Rattle.class_graph.specs.Building.{flag}
use Rattle.class_graph.specs.Graphs.{IsShown, IsGraphOf, IsAnyArc}
use Rattle.class_graph.specs.Listed.{AreListed}
use Rattle.class_graph.proofs.NetworkArcs.{flag_tells}
use Rattle.class_graph.specs.declared.last_graph.LastGraph.{LastGraph}
use Rattle.class_graph.specs.LastGraphs.{IsGraphOfTable}

-- one more row of two tables
pub more_same : (one other : List RoutedLink) (n : ℕ) (x y : RoutedLink) → n < length one → n < length other → get_or one n x ≡ get_or other n y →
    ((k : ℕ) → k < n → (d : RoutedLink) → get_or one k d ≡ get_or other k d) → (k : ℕ) → k < n + 1 → (d : RoutedLink) → get_or one k d ≡ get_or other k d
more_same one other n x y in_one in_other same before k less d = elim (cases_lt k n) [
  | inl earlier ↦ before k earlier d
  | inr last ↦
      let here : k ≡ n = omega (arith, less, last) in
      ap (λ (m : ℕ). get_or one m d) here ∙ get_or_default one n d x in_one ∙ same ∙ get_or_default other n y d in_other ∙ sym (ap (λ (m : ℕ). get_or other m d) here)
]

none_routed : RoutedLink
none_routed = record { from_a = false; from_b = false }

module _ (net : Network) (one other : Prefix) (table : List RoutedLink) (there : AreRoutedLinks net one table) (here : AreRoutedLinks net other table) where
  routed_too : (arc : Arc) → IsArc net arc → IsRouted net one arc → IsRouted net other arc
  routed_too arc is_arc routed =
      let flags : RoutedLink = get_or table arc.link none_routed in
      let inside : arc.link < length net.links = slice_get_within net.links arc.link arc.row is_arc.link in
      let within : arc.link < length table = omega (arith, inside, there.whole) in
      let at_link : slice_get table arc.link ≡ Some flags = slice_get-get_or table arc.link none_routed within in
      let up : IsTrue (flag flags arc.from_a) =
      (flag_tells net arc.link one flags (there.each arc.link flags at_link) arc.from_a).1 (record { arc = arc; link_is = refl; direction = refl; is_arc = is_arc; routed = routed }) in
      let found : IsRoutedLink net arc.link arc.from_a other = (flag_tells net arc.link other flags (here.each arc.link flags at_link) arc.from_a).0 up in
      subst (λ (a : Arc). IsRouted net other a) (IsArc-unique net found.arc arc found.is_arc is_arc found.link_is found.direction) found.routed

  shown_too : (a : graphs.Arc) → IsShown net one IsAnyArc a → IsShown net other IsAnyArc a
  shown_too a shown = record { arc = shown.arc; is_arc = shown.is_arc; routed = routed_too shown.arc shown.is_arc shown.routed; fits = tt; shows = shown.shows }

same_graph : (net : Network) (one other : Prefix) (table : List RoutedLink) (g : Digraph) → AreRoutedLinks net one table → AreRoutedLinks net other table → IsGraphOf net one IsAnyArc g →
    IsGraphOf net other IsAnyArc g
same_graph net one other table g there here is = record {
  nodes = is.nodes;
  arcs = λ a. (
    λ h. shown_too net one other table there here a ((is.arcs a).0 h),
    λ shown. (is.arcs a).1 (shown_too net other one table here there a shown),
  );
}

-- the graph that was built for one of them serves another
pub serving : (net : Network) (to : Prefix) (table : List RoutedLink) (last : Option LastGraph) → AreRoutedLinks net to table →
    IfSome last (IsGraphOfTable net) → IsSomeAnd last (λ l. l.routed ≡ table) →
    IsSomeAnd last (λ l. IsGraphOf net to IsAnyArc l.graph)
serving net to table None are is same = absurd same
serving net to table (Some last) are is same =
    same_graph net last.to to last.routed last.graph is.table (subst (λ (links : List RoutedLink). AreRoutedLinks net to links) (sym same) are) is.graph

pub some_graph : (net : Network) (to : Prefix) (last : Option LastGraph) → IsSomeAnd last (λ l. IsGraphOf net to IsAnyArc l.graph) → IsSome last
some_graph net to None is = absurd is
some_graph net to (Some last) is = refl

pub graph_of : (net : Network) (to : Prefix) (last : Option LastGraph) (g : Digraph) → IsSomeAnd last (λ l. IsGraphOf net to IsAnyArc l.graph) →
    IfSome last (λ l. g ≡ l.graph) → IsGraphOf net to IsAnyArc g
graph_of net to None g is same = absurd is
graph_of net to (Some last) g is same = subst (λ (h : Digraph). IsGraphOf net to IsAnyArc h) (sym same) is

pub listed_of : (net : Network) (last : Option LastGraph) (listed : List Bool) → IfSome last (IsGraphOfTable net) → IsSome last → IfSome last (λ l. listed ≡ l.listed) →
    AreListed net listed
listed_of net None listed are some same = absurd (false≢true some)
listed_of net (Some last) listed are some same = subst (λ (table : List Bool). AreListed net table) (sym same) are.listed
