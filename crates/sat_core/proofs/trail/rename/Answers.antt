use Rattle.std.proofs.Common.{ℕ, ◌<◌, List, length, set, get_or, Option, None, ap, ◌∙◌, arith}
use Rattle.sat_core.specs.declared.assigned.Assigned.{Assigned}
use Rattle.sat_core.specs.declared.assigned.Held.{Held}
use Rattle.sat_core.specs.Forgotten.{moved_entry}
use Rattle.sat_core.proofs.Moved.{mixed-step, mixed-length, mixed-all}
use Rattle.sat_core.proofs.trail.rename.Goals as goal

abbrev none : Assigned
none = record { lit = record { code = 0 }; level = 0; reason = None }

pub loop-place-preserved : goal.loop-place-preserved
loop-place-preserved c =
    let f = moved_entry c.args.last c.args.at in
    let xs = c.args.entries.now in
    let es = c.loop-place.entries in
    let k : ℕ = c.loop-place.place in
    let x : Assigned = get_or es k none in
    let within : k < length xs = omega (arith, c.loop-place-test.true, ap length c.loop-place.invariant, mixed-length f k xs) in
    ap (λ (r : Option Held). set es k (record { lit = x.lit; level = x.level; reason = r })) c.moved.ensures
    ∙ ap (λ (ys : List Assigned). set ys k (f (get_or ys k none))) c.loop-place.invariant ∙ mixed-step f xs k none within

pub returns : goal.returns
returns c = c.loop-place.invariant ∙ mixed-all (moved_entry c.args.last c.args.at) c.args.entries.now c.loop-place.place
    (omega (arith, c.loop-place-test.false, ap length c.loop-place.invariant, mixed-length (moved_entry c.args.last c.args.at) c.loop-place.place c.args.entries.now))
