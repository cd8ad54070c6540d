use Rattle.condition_formula.proofs.Rows.{rows-more}
use Rattle.condition_formula.proofs.index.rows.Goals as goal

pub loop-place-preserved : goal.loop-place-preserved
loop-place-preserved c =
    rows-more c.args.q.now c.args.pick c.args.count c.loop-place.place c.number_at.result c.loop-place.rows.items c.add_place.new.rows.items c.number_at.ensures
    c.loop-place.invariant c.in_ok-add_place.ensures
