-- What a closure from the source of a class's graph reaches.
use Rattle.std.proofs.Common.{◌≡◌, ◌<◌, length, ap, arith}
use Rattle.graph_flow.specs.Paths.{Digraph}
use Rattle.net_model.specs.declared.policies.Class.{Class}
use Rattle.net_model.specs.declared.rows.Network.{Network}
use Rattle.net_model.specs.Forwarding.{Ends, source_router, target_router}
use Rattle.net_model.specs.Validity.{IsValid}
use Rattle.class_graph.specs.declared.building.ClassGraph.{ClassGraph}
use Rattle.class_graph.specs.declared.hosts.End.{End}
use Rattle.class_graph.specs.declared.hosts.HostPair.{HostPair}
use Rattle.class_graph.specs.declared.modes.Mode.{Mode}
use Rattle.class_graph.specs.Graphs.{IsClassGraph}
use Rattle.class_graph.specs.Hosts.{IsHostPair}
use Rattle.verdicts.proofs.ClosedSides.{end_within}

pub source_node : (net : Network) → IsValid net → (ends : Ends) (pair : HostPair) → IsHostPair net ends pair → (class : Class) (mode : Mode) (graph : ClassGraph) →
    IsClassGraph net ends class mode graph → graph.source.0 < graph.graph.nodes
source_node net valid ends pair is class mode graph is_graph =
    let within : source_router ends < length net.routers = end_within net valid ends.source is.from_here in
    omega (arith, within, is_graph.source, is_graph.arcs.nodes)

pub target_node : (net : Network) → IsValid net → (ends : Ends) (pair : HostPair) → IsHostPair net ends pair → (class : Class) (mode : Mode) (graph : ClassGraph) →
    IsClassGraph net ends class mode graph → graph.target.0 < graph.graph.nodes
target_node net valid ends pair is class mode graph is_graph =
    let within : target_router ends < length net.routers = end_within net valid ends.target is.to_there in
    omega (arith, within, is_graph.target, is_graph.arcs.nodes)

pub pair_source : (net : Network) → IsValid net → (ends : Ends) (pair : HostPair) → IsHostPair net ends pair → (g : Digraph) → g.nodes ≡ length net.routers → pair.source.router.0 < g.nodes
pair_source net valid ends pair is g nodes =
    let within : source_router ends < length net.routers = end_within net valid ends.source is.from_here in
    omega (arith, within, ap (λ (e : End). e.router.0) is.source, nodes)

pub pair_target : (net : Network) → IsValid net → (ends : Ends) (pair : HostPair) → IsHostPair net ends pair → (g : Digraph) → g.nodes ≡ length net.routers → pair.target.router.0 < g.nodes
pair_target net valid ends pair is g nodes =
    let within : target_router ends < length net.routers = end_within net valid ends.target is.to_there in
    omega (arith, within, ap (λ (e : End). e.router.0) is.target, nodes)
