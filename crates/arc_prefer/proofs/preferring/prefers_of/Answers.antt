use Rattle.std.proofs.Common.{List, sym, subst}
use Rattle.std.specs.Prelude.{All}
use Rattle.net_model.specs.declared.policies.Class.{Class}
use Rattle.net_model.specs.declared.rows.Network.{Network}
use Rattle.net_model.specs.Packets.{LiesIn, subject}
use Rattle.net_model.specs.Forwarding.{target_router}
use Rattle.net_model.specs.Witnesses.{IsUniformFor}
use Rattle.witness_check.specs.Cases.{ends_in}
use Rattle.arc_prefer.proofs.Unfailed.{target_owns}
use Rattle.arc_prefer.proofs.Firsts.{ready_of, right_answer, first_answer}
use Rattle.arc_prefer.proofs.preferring.prefers_of.Goals as goal

pub stable_labels-requires-clause-host : goal.stable_labels-requires-clause-host
stable_labels-requires-clause-host c =
    (target_router (ends_in c.of-case.result), target_owns c.args.net.now (subject c.args.policy.now) (ends_in c.of-case.result) c.of-case.ensures.ends)

pub first_fault-requires-clause-ready : goal.first_fault-requires-clause-ready
first_fault-requires-clause-ready c =
    ready_of (record { case = c.of-case.result; labels = c.slice.result }) c.args.net.now
    (subject c.args.policy.now) c.of-case.ensures.net c.of-case.ensures.whole c.requires.valid c.of-case.ensures.ends c.of-case.ensures.told
    c.in_ok-labels.labels c.slice.ensures.items
    (c.in_ok-labels.ensures (target_router (ends_in c.of-case.result)) (target_owns c.args.net.now (subject c.args.policy.now) (ends_in c.of-case.result) c.of-case.ensures.ends))

pub first_fault-requires-clause-parts : goal.first_fault-requires-clause-parts
first_fault-requires-clause-parts c =
    subst (λ (cs : List Class). All (λ x. LiesIn x c.of-case.result.whole) cs) (sym c.slice-2.ensures.items)
    (subst (λ (w : Class). All (λ x. LiesIn x w) c.args.parts.now) (sym c.of-case.ensures.whole)
    c.requires.parts.parts)

pub first_fault-requires-clause-uniform : goal.first_fault-requires-clause-uniform
first_fault-requires-clause-uniform c =
    subst (λ (cs : List Class). All (IsUniformFor c.of-case.result.net.now) cs) (sym c.slice-2.ensures.items)
    (subst (λ (n : Network). All (IsUniformFor n) c.args.parts.now) (sym c.of-case.ensures.net)
    c.requires.parts.uniform)

pub returns-clause-right : goal.returns-clause-right
returns-clause-right c =
    right_answer c.args.net.now c.args.policy.now (record { case = c.of-case.result; labels = c.slice.result }) c.of-case.ensures.net c.of-case.ensures.whole c.of-case.ensures.ends
    c.in_ok-labels.labels c.slice.ensures.items
    (c.in_ok-labels.ensures (target_router (ends_in c.of-case.result)) (target_owns c.args.net.now (subject c.args.policy.now) (ends_in c.of-case.result) c.of-case.ensures.ends))
    c.args.parts.now c.slice-2.result.now c.slice-2.ensures.items
    c.requires.parts
    c.args.wanted.now c.slice-3.result.now c.slice-3.ensures.items c.in_ok-fault.fault c.in_ok-fault.ensures

pub returns-clause-first : goal.returns-clause-first
returns-clause-first c =
    first_answer c.args.net.now c.args.policies.now c.args.policy.now (record { case = c.of-case.result; labels = c.slice.result }) c.of-case.ensures.net c.of-case.ensures.ends
    c.args.parts.now c.slice-2.result.now c.slice-2.ensures.items
    c.requires.classes
    c.args.wanted.now c.slice-3.result.now c.slice-3.ensures.items c.in_ok-fault.fault c.in_ok-fault.ensures
