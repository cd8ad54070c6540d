-- The graph of a class between two host networks.
use Rattle.std.proofs.Common.{◌≡◌, ◌↔◌, Bool, List, IsTrue, ap, ◌∙◌, subst}
use Rattle.arc_base.specs.declared.prefix.Prefix.{Prefix}
use Rattle.arc_base.specs.declared.place.Router.{Router}
use Rattle.net_model.specs.declared.policies.Class.{Class}
use Rattle.net_model.specs.declared.rows.Network.{Network}
use Rattle.net_model.specs.Forwarding.{Ends, ArcPermitsEach}
use Rattle.net_model.specs.Packets.{first_packet}
use Rattle.net_model.specs.Witnesses.{IsUniformFor}
use Rattle.class_graph.specs.declared.building.ClassGraph.{ClassGraph}
use Rattle.class_graph.specs.declared.hosts.End.{End}
use Rattle.class_graph.specs.declared.hosts.HostPair.{HostPair}
use Rattle.class_graph.specs.declared.modes.Mode.{Mode}
use Rattle.class_graph.specs.Answers.{answers_to, ArcAllows}
use Rattle.class_graph.specs.Building.{Answered}
use Rattle.class_graph.specs.Graphs.{IsGraphOf, Fits, IsClassGraph}
use Rattle.class_graph.specs.Hosts.{IsHostPair, IsOpenTo, end_in, end_out}
use Rattle.class_graph.proofs.Alike.{arc_allows_is, open_is, may_use_by}
use Rattle.class_graph.proofs.Growing.{graph_as}

pub class_graph_of : (net : Network) (class : Class) → IsUniformFor net class → (pair : HostPair) (answers : List Bool) → answers ≡ answers_to net (first_packet class) →
    (mode : Mode) (graph : ClassGraph) → graph.source ≡ pair.source.router → graph.target ≡ pair.target.router →
    IsTrue graph.enters ↔ IsOpenTo answers pair.source → IsTrue graph.leaves ↔ IsOpenTo answers pair.target →
    IsGraphOf net pair.to (Answered mode answers) graph.graph → (ends : Ends) → IsHostPair net ends pair → IsClassGraph net ends class mode graph
class_graph_of net class uniform pair answers answered mode graph source target enters leaves arcs ends is =
    let first_answers : List Bool = answers_to net (first_packet class) in
    let opens_in = open_is net class uniform ends.source.up ends.source.list_in in
    let opens_out = open_is net class uniform ends.target.up ends.target.list_out in
    let here : IsTrue graph.enters ↔ IsOpenTo first_answers (end_in ends.source) =
    subst (λ (end : End). IsTrue graph.enters ↔ IsOpenTo first_answers end) is.source
    (subst (λ (a : List Bool). IsTrue graph.enters ↔ IsOpenTo a pair.source) answered enters) in
    let there : IsTrue graph.leaves ↔ IsOpenTo first_answers (end_out ends.target) =
    subst (λ (end : End). IsTrue graph.leaves ↔ IsOpenTo first_answers end) is.target
    (subst (λ (a : List Bool). IsTrue graph.leaves ↔ IsOpenTo a pair.target) answered leaves) in
    let made : IsGraphOf net ends.to (Answered mode first_answers) graph.graph =
    subst (λ (to : Prefix). IsGraphOf net to (Answered mode first_answers) graph.graph) is.to
    (subst (λ (a : List Bool). IsGraphOf net pair.to (Answered mode a) graph.graph) answered arcs) in
    record {
      source = ap (λ (r : Router). r.0) source ∙ ap (λ (end : End). end.router.0) is.source;
      target = ap (λ (r : Router). r.0) target ∙ ap (λ (end : End). end.router.0) is.target;
      enters = (λ on. opens_in.0 (here.0 on), λ all. here.1 (opens_in.1 all));
      leaves = (λ on. opens_out.0 (there.0 on), λ all. there.1 (opens_out.1 all));
      arcs = graph_as net ends.to (Answered mode first_answers) (Fits mode net class) graph.graph
          (λ arc. may_use_by mode (ArcAllows first_answers arc) (ArcPermitsEach net class arc) arc.row.waypoint (arc_allows_is net class uniform arc).0)
          (λ arc. may_use_by mode (ArcPermitsEach net class arc) (ArcAllows first_answers arc) arc.row.waypoint (arc_allows_is net class uniform arc).1)
          made;
    }
