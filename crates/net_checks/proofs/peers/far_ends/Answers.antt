use Rattle.std.proofs.Common.{List, get_or, subst, ◌∙◌, ◌↔◌, false}
use Rattle.std.specs.Prelude.{Any, Contains}
use Rattle.std.proofs.lemmas.List.{get_or_default, take_all}
use Rattle.net_model.specs.declared.rows.LinkRow.{LinkRow}
use Rattle.net_checks.specs.FarEnds.{LinkLeadsTo}
use Rattle.net_checks.proofs.PeersEnds.{ends_more}
use Rattle.net_checks.proofs.peers.far_ends.Goals as goal

no_link : LinkRow
no_link = record { a = record { 0 = 0 }; b = record { 0 = 0 }; waypoint = false }

pub loop-link-preserved : goal.loop-link-preserved
unfolding no_link
loop-link-preserved c =
    let items : List LinkRow = c.slice-link-items.result.now in
    let link : LinkRow = get_or items c.loop-link.link-index no_link in
    ends_more c.args.net.now.faces items c.loop-link.link-index link c.loop-link-test.true (get_or_default items c.loop-link.link-index no_link link c.loop-link-test.true)
    c.loop-link.ends.keys c.add_far_end.new.ends.keys c.add_far_end-in-loop-link.new.ends.keys c.loop-link.invariant c.in_ok-add_far_end.ensures c.in_ok-add_far_end-2.ensures

pub returns : goal.returns
returns c = λ pair.
    subst (λ (links : List LinkRow). Contains c.loop-link.ends.keys pair ↔ Any (LinkLeadsTo c.args.net.now.faces pair) links)
    (take_all c.loop-link.link-index c.slice-link-items.result.now c.loop-link-test.false ∙ c.slice-link-items.ensures.items) (c.loop-link.invariant pair)
