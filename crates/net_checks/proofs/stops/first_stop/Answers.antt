use Rattle.std.proofs.Common.{◌+◌, List, Option, get_or, take, sym, ap, subst, ◌∙◌, false}
use Rattle.std.proofs.lemmas.List.{get_or_default, take_all}
use Rattle.net_doc.specs.declared.fault.Refusal.{Refusal}
use Rattle.net_model.specs.declared.rows.LinkRow.{LinkRow}
use Rattle.net_checks.specs.Stopping.{FindsFirst, StopsAtSome, earlier}
use Rattle.net_checks.proofs.StopsFirst.{stops_more}
use Rattle.net_checks.proofs.stops.first_stop.Goals as goal

no_link : LinkRow
no_link = record { a = record { 0 = 0 }; b = record { 0 = 0 }; waypoint = false }

pub loop-link-preserved : goal.loop-link-preserved
unfolding no_link
loop-link-preserved c =
    let items : List LinkRow = c.slice-link-items.result.now in
    let link : LinkRow = get_or items c.loop-link.link-index no_link in
    subst (λ (found : Option Refusal). FindsFirst (StopsAtSome c.args.net.now c.args.configs.now (take (c.loop-link.link-index + 1) items)) found)
    (sym (c.earlier-first.ensures ∙ ap (earlier c.loop-link.first) c.earlier.ensures))
    (stops_more c.args.net.now c.args.configs.now items c.loop-link.link-index link c.loop-link.first c.stopped-ahead.result c.stopped-back.result c.loop-link-test.true
    (get_or_default items c.loop-link.link-index no_link link c.loop-link-test.true) c.loop-link.invariant c.stopped-ahead.ensures c.stopped-back.ensures)

pub returns : goal.returns
returns c =
    subst (λ (links : List LinkRow). FindsFirst (StopsAtSome c.args.net.now c.args.configs.now links) c.loop-link.first)
    (take_all c.loop-link.link-index c.slice-link-items.result.now c.loop-link-test.false ∙ c.slice-link-items.ensures.items) c.loop-link.invariant
