use Rattle.std.proofs.Common.{◌≡◌, ℕ, List, length, take, drop, ap, ◌∙◌, arith}
use Rattle.std.proofs.lemmas.List.{take_at, take-take}
use Rattle.arc_outside.proofs.WholeReads.{told_in_view}
use Rattle.arc_outside.proofs.window.Window.refill.Goals as goal

pub returns-clause-told : goal.returns-clause-told
returns-clause-told g c =
    let whole : length c.read_at.new.buf ≡ c.take_room.new.bytes.len = omega (arith, c.read_at.auto.buf, c.as_mut_slice.ensures.len) in
    told_in_view c.args.name.now (g.S.Store.held c.args.store.now) c.args.place c.in_ok-n.n c.read_at.new.buf _
    (ap (λ (l : List ℕ). take c.in_ok-n.n (take c.in_ok-n.n l)) (take_at c.read_at.new.buf (drop (length c.read_at.new.buf) c.take_room.new.bytes.items) c.take_room.new.bytes.len whole)
    ∙ take-take c.in_ok-n.n c.in_ok-n.n c.read_at.new.buf (omega arith))
    c.in_ok-n.ensures.told
