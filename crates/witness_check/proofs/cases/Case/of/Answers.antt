use Rattle.std.proofs.Common.{Option, subst}
use Rattle.std.specs.Prelude.{IsSomeAnd}
use Rattle.arc_base.specs.Addresses.{IsInside}
use Rattle.arc_base.specs.declared.prefix.Prefix.{Prefix}
use Rattle.net_model.specs.Packets.{subject}
use Rattle.net_model.proofs.Hosts.{source_face, target_face}
use Rattle.witness_check.proofs.cases.Case.of.Goals as goal

pub host_face-source-requires : goal.host_face-source-requires
host_face-source-requires c = (c.requires.ends.source, source_face c.args.net.now (subject c.args.policy.now) c.requires.ends c.requires.are_ends)

pub host_face-target-requires : goal.host_face-target-requires
host_face-target-requires c = (c.requires.ends.target, target_face c.args.net.now (subject c.args.policy.now) c.requires.ends c.requires.are_ends)

pub returns-clause-ends : goal.returns-clause-ends
returns-clause-ends c = record {
  source = c.host_face-source.ensures.is_face;
  from = c.host_face-source.ensures.lies;
  target = c.host_face-target.ensures.is_face;
  host = c.in-Some.is;
  to = subst (λ (o : Option Prefix). IsSomeAnd o (IsInside c.args.policy.now.to)) c.in-Some.is c.host_face-target.ensures.lies;
}
