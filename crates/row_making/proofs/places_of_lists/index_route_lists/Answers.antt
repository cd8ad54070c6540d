use Rattle.std.proofs.Common.{arith}
use Rattle.net_rules.specs.Lists.{route_list_key}
use Rattle.row_making.proofs.NamesKeys.{index_more, index_all, index_long}
use Rattle.row_making.proofs.places_of_lists.index_route_lists.Goals as goal

pub loop-list-preserved : goal.loop-list-preserved
loop-list-preserved c =
    index_more route_list_key c.args.lists.now c.slice-list-items.result.now c.slice-list-items.ensures.items c.loop-list.list-index c.loop-list.index.keys c.loop-list.invariant
    c.requires c.insert_full.new.self.keys c.list-item.result (c.list-item.result.router.0, c.bytes.result) c.loop-list-test.true c.list-item.is
    (λ i. (c.list-item.result.router.0, c.bytes.ensures i)) c.in_ok-insert_full.ensures.keys

pub returns-clause-keys : goal.returns-clause-keys
returns-clause-keys c =
    index_all route_list_key c.args.lists.now c.slice-list-items.result.now c.slice-list-items.ensures.items c.loop-list.list-index c.loop-list.index.keys c.loop-list.invariant c.loop-list-test.false

pub returns-clause-few : goal.returns-clause-few
returns-clause-few c = omega (
  arith,
  index_long route_list_key c.args.lists.now c.slice-list-items.result.now c.slice-list-items.ensures.items c.loop-list.list-index c.loop-list.index.keys c.loop-list.invariant c.loop-list-test.false,
  c.slice-list-items.ensures.limit,
)
