use Rattle.std.proofs.Common.{◌≡◌, ◌<◌, length, sym, ◌∙◌, subst, arith}
use Rattle.std.proofs.lemmas.Bool.{false≢true}
use Rattle.class_graph.specs.declared.modes.Mode.{Mode}
use Rattle.class_graph.specs.Graphs.{IsClassGraph}
use Rattle.class_graph.specs.Parts.{part_of}
use Rattle.verdicts.proofs.ClosedSides.{least_closed}
use Rattle.verdicts.proofs.Walks.{right_walk}
use Rattle.verdicts.proofs.Reached.{source_node, target_node}
use Rattle.verdicts.proofs.blocking.judge_class.Goals as goal

pub reached_from_source-requires : goal.reached_from_source-requires
reached_from_source-requires c =
    source_node c.args.net.now c.requires.valid c.requires.pair.0 c.args.pair.now c.requires.pair.1 c.args.class c.mode_of.result (part_of c.args.graph.now c.in_ok-part.part)
    (c.in_ok-part.ensures c.requires.pair.0 c.args.graph.now c.requires.pair.1 c.requires.graph)

pub is_delivered-requires : goal.is_delivered-requires
is_delivered-requires c =
    let within : c.in_ok-part.part.target.0 < c.args.graph.now.nodes =
    target_node c.args.net.now c.requires.valid c.requires.pair.0 c.args.pair.now c.requires.pair.1 c.args.class c.mode_of.result (part_of c.args.graph.now c.in_ok-part.part)
    (c.in_ok-part.ensures c.requires.pair.0 c.args.graph.now c.requires.pair.1 c.requires.graph) in
    let room : length c.in_ok-closure.closure ≡ c.args.graph.now.nodes = c.in_ok-closure.ensures.room in
    omega (arith, within, room)

pub side_of-requires : goal.side_of-requires
side_of-requires c =
    let room : length c.in_ok-closure.closure ≡ c.args.graph.now.nodes = c.in_ok-closure.ensures.room in
    omega (arith, room, c.requires.graph.nodes)

pub returns-then-is_delivered : goal.returns-then-is_delivered
returns-then-is_delivered c = λ ends is.
    let delivered = c.is_delivered.ensures.0 c.if-is_delivered.true in
    let led = c.in_ok-closure.ensures.paths c.in_ok-part.part.target.0 c.in_ok-path.path.links c.in_ok-path.ensures in
    right_walk c.args.net.now ends c.args.kind c.args.class (part_of c.args.graph.now c.in_ok-part.part) c.in_ok-path.path.links
    (subst (λ (m : Mode). IsClassGraph c.args.net.now ends c.args.class m (part_of c.args.graph.now c.in_ok-part.part)) c.mode_of.ensures
    (c.in_ok-part.ensures ends c.args.graph.now is c.requires.graph))
    (led.0) (delivered.0) (led.1)

pub returns : goal.returns
returns c = λ ends is.
    least_closed c.args.net.now c.requires.valid ends is.from_here c.args.kind c.args.class c.requires.uniform (part_of c.args.graph.now c.in_ok-part.part)
    (subst (λ (m : Mode). IsClassGraph c.args.net.now ends c.args.class m (part_of c.args.graph.now c.in_ok-part.part)) c.mode_of.ensures
    (c.in_ok-part.ensures ends c.args.graph.now is c.requires.graph))
    c.in_ok-closure.closure c.in_ok-closure.ensures
    (λ leaves some. false≢true (sym c.if-is_delivered.false ∙ c.is_delivered.ensures.1 (leaves, some)))
    c.in_ok-side.side c.in_ok-side.ensures
