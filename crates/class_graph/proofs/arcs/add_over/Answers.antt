use Rattle.std.proofs.lemmas.List.Elements.{Contains-get_or}
use Rattle.class_graph.specs.Building.{Answered}
use Rattle.class_graph.proofs.Growing.{joins_of, share_of, grown_by, grown_by_none}
use Rattle.class_graph.proofs.arcs.add_over.Goals as goal

pub arc-requires-clause-joins : goal.arc-requires-clause-joins
arc-requires-clause-joins c =
    joins_of c.args.net.now c.requires.valid c.args.graph.now c.requires.below.nodes c.in-Some.ensures.some.arc c.in-Some.ensures.some.taken.is_arc c.in-Some.arc c.in-Some.ensures.some.shows

pub arc-requires-clause-share : goal.arc-requires-clause-share
arc-requires-clause-share c = λ k d low.
    share_of c.args.net.now c.args.pair.now.to (Answered c.args.mode c.args.answers.now) c.args.link.0 c.args.from_a _ c.in-Some.arc
    ((c.requires.below.arcs _).0 (Contains-get_or c.args.graph.now.arcs k d low)) c.in-Some.ensures.some

pub returns-in_ok-arc : goal.returns-in_ok-arc
returns-in_ok-arc c =
    grown_by c.args.net.now c.args.pair.now.to (Answered c.args.mode c.args.answers.now) c.args.link.0 c.args.from_a c.in-Some.arc c.args.graph.now c.arc.new.self
    c.requires.below c.in-Some.ensures.some c.in_ok-arc.ensures.ok

pub returns-in_default : goal.returns-in_default
returns-in_default c =
    grown_by_none c.args.net.now c.args.pair.now.to (Answered c.args.mode c.args.answers.now) c.args.link.0 c.args.from_a c.args.graph.now
    c.requires.below c.in_default.ensures.none
