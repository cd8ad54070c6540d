use Rattle.std.proofs.Common.{Option, subst, refl}
use Rattle.std.specs.Prelude.{IsSomeAnd}
use Rattle.arc_base.specs.Addresses.{IsInside}
use Rattle.arc_base.specs.declared.prefix.Prefix.{Prefix}
use Rattle.net_model.proofs.Hosts.{source_face, target_face}
use Rattle.class_graph.proofs.hosts.host_pair.Goals as goal

pub host_face-source-requires : goal.host_face-source-requires
host_face-source-requires c = (c.requires.ends.ends.source, source_face c.args.net.now c.args.class c.requires.ends.ends c.requires.ends.are_ends)

pub host_face-target-requires : goal.host_face-target-requires
host_face-target-requires c = (c.requires.ends.ends.target, target_face c.args.net.now c.args.class c.requires.ends.ends c.requires.ends.are_ends)

pub returns : goal.returns
returns c = record {
  ends = record { source = c.host_face-source.result.now; target = c.host_face-target.result.now; to = c.in-Some.to };
  are_ends = record {
    source = c.host_face-source.ensures.is_face;
    from = c.host_face-source.ensures.lies;
    target = c.host_face-target.ensures.is_face;
    host = c.in-Some.is;
    to = subst (λ (o : Option Prefix). IsSomeAnd o (IsInside c.args.class.to)) c.in-Some.is c.host_face-target.ensures.lies;
  };
  is_pair = record {
    from_here = c.host_face-source.ensures.is_face;
    to_there = c.host_face-target.ensures.is_face;
    source = refl;
    target = refl;
    to = refl;
    routed = c.in_ok-routed.ensures;
  };
}
