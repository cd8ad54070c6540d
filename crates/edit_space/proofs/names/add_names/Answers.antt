use Rattle.arc_base.specs.NameForms.{texts_at}
use Rattle.edit_space.proofs.NameSets.{joined_none, joined_more, joined_all}
use Rattle.edit_space.proofs.names.add_names.Goals as goal

pub loop-name-init : goal.loop-name-init
loop-name-init c = joined_none (texts_at c.args.set.now.keys)

pub loop-name-preserved : goal.loop-name-preserved
loop-name-preserved c =
    joined_more (texts_at c.args.set.now.keys) c.slice-name-items.result.now c.loop-name.name-index c.name-item.result c.loop-name.set.keys
    c.insert.new.self.keys c.bytes.result c.loop-name-test.true c.name-item.is
    c.bytes.ensures c.in_ok-insert.ensures.keys c.loop-name.invariant

pub returns : goal.returns
returns c =
    joined_all (texts_at c.args.set.now.keys) c.slice-name-items.result.now c.args.names.now c.loop-name.name-index (texts_at c.loop-name.set.keys)
    c.loop-name-test.false c.slice-name-items.ensures.items c.loop-name.invariant
