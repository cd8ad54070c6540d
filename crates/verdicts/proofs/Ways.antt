-- The network's arcs that a way of a graph's arcs stands for.
use Rattle.std.proofs.Common.{◌≡◌, ℕ, List, [], ◌∷◌, ◌++◌, map, refl, sym, ap, ◌∙◌, subst}
use Rattle.std.specs.Prelude.{Contains}
use Rattle.std.specs.List.{AllByRecursion}
use Rattle.arc_base.specs.declared.place.Link.{Link}
use Rattle.arc_base.specs.declared.prefix.Prefix.{Prefix}
use Rattle.graph_flow.specs.declared.arcs.Arc as shown
use Rattle.graph_flow.specs.Paths as graphs
use Rattle.net_model.specs.declared.rows.Network.{Network}
use Rattle.net_model.specs.Routing.{Arc, head_router, cost}
use Rattle.net_model.specs.Witnesses.{Path, links_of}
use Rattle.class_graph.specs.Graphs.{IsShown, IsGraphOf}

pub record Arcs (net : Network) (to : Prefix) (P : Arc → Type 0) (u : ℕ) (way : List shown.Arc) (v : ℕ) : Type 0 where
  pub arcs : List Arc
  pub links : links_of arcs ≡ graphs.links_of way
  pub heads : map head_router arcs ≡ map (λ (a : shown.Arc). a.head) way
  pub leads : Path net to u arcs v
  pub fit : AllByRecursion P arcs

link_from : (l : ℕ) (link : Link) → link.0 ≡ l → ◌≡◌ {A = Link} (record { 0 = l }) link
link_from l link same = let link_of : ℕ → Link = λ n. record { 0 = n } in ap link_of (sym same)

pub arcs_of : (net : Network) (to : Prefix) (P : Arc → Type 0) (g : graphs.Digraph) → IsGraphOf net to P g → (way : List shown.Arc) (u v : ℕ) →
    graphs.ArcPath g.arcs u way v → Arcs net to P u way v
arcs_of net to P g is [] u v path = record { arcs = []; links = refl; heads = refl; leads = path; fit = tt }
arcs_of net to P g is (a ∷ way) u v path =
    let one : IsShown net to P a = (is.arcs a).0 (path.0) in
    let rest : Arcs net to P a.head way v = arcs_of net to P g is way a.head v (path.2) in
    let link : Link = record { 0 = one.arc.link } in
    record {
      arcs = one.arc ∷ rest.arcs;
      links = ap (λ (ls : List Link). link ∷ ls) rest.links ∙ ap (λ (l : Link). l ∷ graphs.links_of way) (link_from one.arc.link a.link one.shows.link);
      heads = ap (λ (us : List ℕ). head_router one.arc ∷ us) rest.heads ∙ ap (λ (w : ℕ). w ∷ map (λ (b : shown.Arc). b.head) way) (sym one.shows.head);
      leads = (one.is_arc, one.routed, sym one.shows.tail ∙ path.1, subst (λ (w : ℕ). Path net to w rest.arcs v) one.shows.head rest.leads);
      fit = (one.fits, rest.fit);
    }

pub all_as : (P Q : Arc → Type 0) → ((arc : Arc) → P arc → Q arc) → (arcs : List Arc) → AllByRecursion P arcs → AllByRecursion Q arcs
all_as P Q f [] h = tt
all_as P Q f (arc ∷ arcs) h = (f arc (h.0), all_as P Q f arcs (h.1))

-- a way goes on over one more arc
pub one_further : (arcs : List shown.Arc) (way : List shown.Arc) (u : ℕ) (a : shown.Arc) → graphs.ArcPath arcs u way a.tail → Contains arcs a →
    graphs.ArcPath arcs u (way ++ a ∷ []) a.head
one_further arcs [] u a path one = (one, sym path, refl)
one_further arcs (b ∷ way) u a path one = (path.0, path.1, one_further arcs way b.head a (path.2) one)

-- the arc of the graph that stands for one of the network
abbrev pub shown_arc : Network → Arc → shown.Arc
shown_arc net arc = record { link = record { 0 = arc.link }; tail = arc.tail.router.0; head = arc.head.router.0; cost = cost net arc }
