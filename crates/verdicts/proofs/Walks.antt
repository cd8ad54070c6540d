-- The walk that a path to the target is.
use Rattle.std.proofs.Common.{◌≡◌, ◌≢◌, ℕ, List, ◌∷◌, map, IsTrue, sym, ap, ◌∙◌, subst}
use Rattle.std.specs.Prelude.{AllPairs}
use Rattle.std.specs.List.{AllByRecursion}
use Rattle.arc_base.specs.declared.place.Link.{Link}
use Rattle.graph_flow.specs.Paths as graphs
use Rattle.net_model.specs.declared.policies.Class.{Class}
use Rattle.net_model.specs.declared.policies.PolicyKind.{PolicyKind}
use Rattle.net_model.specs.declared.policies.PolicyKind.TheVariants.{Blocked, Through, Reach}
use Rattle.net_model.specs.declared.rows.Network.{Network}
use Rattle.net_model.specs.declared.verdicts.LinkPath.{LinkPath}
use Rattle.net_model.specs.Packets.{LiesIn}
use Rattle.net_model.specs.Routing.{Arc, head_router}
use Rattle.net_model.specs.Forwarding.{Ends, ArcPermits, source_router, target_router, ArcPermitsEach}
use Rattle.net_model.specs.Witnesses.{Path, routers_of, IsPath, IsRightWalk, MayBreak}
use Rattle.class_graph.specs.Graphs.{IsGraphOf, Fits, IsClassGraph}
use Rattle.class_graph.specs.declared.building.ClassGraph.{ClassGraph}
use Rattle.verdicts.specs.Judged.{mode_of}
use Rattle.verdicts.proofs.Ways.{Arcs, arcs_of, all_as}

pub lies_in_itself : (class : Class) → LiesIn class class
lies_in_itself class = (λ address h. h, λ address h. h, λ service h. h)

pub fits_permits : (kind : PolicyKind) (net : Network) (class : Class) (arc : Arc) → Fits (mode_of kind) net class arc → ArcPermitsEach net class arc
fits_permits Blocked net class arc h = h
fits_permits Through net class arc h = h.0
fits_permits (Reach k) net class arc h = h

pub fits_breaks : (kind : PolicyKind) (net : Network) (class : Class) (arc : Arc) → Fits (mode_of kind) net class arc → MayBreak kind arc
fits_breaks Blocked net class arc h = tt
fits_breaks Through net class arc h = h.1
fits_breaks (Reach k) net class arc h = tt

pub fits_by : (kind : PolicyKind) (net : Network) (class : Class) (arc : Arc) → ArcPermitsEach net class arc → MayBreak kind arc → Fits (mode_of kind) net class arc
fits_by Blocked net class arc permits may = permits
fits_by Through net class arc permits may = (permits, may)
fits_by (Reach k) net class arc permits may = permits

-- a path of the graph with its arcs of the network
pub record Found (net : Network) (ends : Ends) (P : Arc → Type 0) (path : LinkPath) : Type 0 where
  pub is_path : IsPath net ends path
  pub once : AllPairs (λ (u v : ℕ). u ≢ v) (routers_of (source_router ends) is_path.arcs)
  pub fit : AllByRecursion P is_path.arcs

pub found_path : (net : Network) (ends : Ends) (P : Arc → Type 0) (g : graphs.Digraph) → IsGraphOf net ends.to P g → (s t : ℕ) → s ≡ source_router ends → t ≡ target_router ends →
    (links : List Link) → graphs.IsArcPath g.arcs s links t → Found net ends P (record { links = links })
found_path net ends P g is s t from there links path =
    let found : Arcs net ends.to P s path.way t = arcs_of net ends.to P g is path.way s t path.leads in
    let to_target : Path net ends.to s found.arcs (target_router ends) = subst (Path net ends.to s found.arcs) there found.leads in
    let routers : graphs.nodes_of s path.way ≡ routers_of (source_router ends) found.arcs =
    ap (λ (us : List ℕ). s ∷ us) (sym found.heads) ∙ ap (λ (u : ℕ). u ∷ map head_router found.arcs) from in
    record {
      is_path = record {
        arcs = found.arcs;
        links = found.links ∙ path.of_links;
        leads = subst (λ (u : ℕ). Path net ends.to u found.arcs (target_router ends)) from to_target;
      };
      once = subst (AllPairs (λ (u v : ℕ). u ≢ v)) routers path.once;
      fit = found.fit;
    }

-- a path from the source to the target is a right walk of the class
pub right_walk : (net : Network) (ends : Ends) (kind : PolicyKind) (class : Class) (graph : ClassGraph) (links : List Link) →
    IsClassGraph net ends class (mode_of kind) graph → IsTrue graph.enters → IsTrue graph.leaves →
    graphs.IsArcPath graph.graph.arcs graph.source.0 links graph.target.0 → IsRightWalk net ends kind class class (record { links = links })
right_walk net ends kind class graph links is enters leaves path =
    let found : Found net ends (Fits (mode_of kind) net class) (record { links = links }) =
    found_path net ends (Fits (mode_of kind) net class) graph.graph is.arcs graph.source.0 graph.target.0 is.source is.target links path in
    record {
      part = lies_in_itself class;
      path = found.is_path;
      once = found.once;
      enters = is.enters.0 enters;
      permitted = λ p of_p. all_as (Fits (mode_of kind) net class) (λ (arc : Arc). ArcPermits net arc p) (λ arc fits. fits_permits kind net class arc fits p of_p) found.is_path.arcs found.fit;
      leaves = is.leaves.0 leaves;
      breaks = all_as (Fits (mode_of kind) net class) (MayBreak kind) (λ arc fits. fits_breaks kind net class arc fits) found.is_path.arcs found.fit;
    }
