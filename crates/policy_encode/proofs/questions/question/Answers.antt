use Rattle.std.proofs.Common.{sym}
use Rattle.net_model.specs.Packets.{subject}
use Rattle.net_model.proofs.Hosts.{target_face}
use Rattle.policy_encode.proofs.Making.{host_row, same_question}
use Rattle.policy_encode.proofs.questions.question.Goals as goal

pub host_place-target-requires : goal.host_place-target-requires
host_place-target-requires c = (c.requires.ends.ends.target, target_face c.args.net.now (subject c.args.policy.now) c.requires.ends.ends c.requires.ends.are_ends)

pub returns : goal.returns
returns c = λ list is. record {
  source = c.host_place-source.result;
  target = c.host_place-target.result;
  to = c.in-Some-host.to;
  classes = c.in_ok-classes.classes;
  source_is = record {
    face = c.in-Some.source_row.now;
    at_place = sym c.in-Some.ensures.item;
    lies =
        host_row c.args.net.now c.args.policy.now.from c.host_place-source.result.0 c.in-Some.source_row.now c.host_place-source.ensures (sym c.in-Some.ensures.item);
  };
  target_is = record {
    face = c.in-Some-get.target_row.now;
    at_place = sym c.in-Some-get.ensures.item;
    lies =
        host_row c.args.net.now c.args.policy.now.to c.host_place-target.result.0 c.in-Some-get.target_row.now c.host_place-target.ensures (sym c.in-Some-get.ensures.item);
  };
  to_is = c.in-Some-host.is;
  classes_are = c.in_ok-classes.ensures.classes c.args.net.now c.args.doc.now.policies c.requires.marks;
  is = same_question _ _ _ _ _ _ _ _ c.demand_of.ensures (c.in_ok-arcs.ensures list is) (c.in_ok-ends.ensures list is);
}
