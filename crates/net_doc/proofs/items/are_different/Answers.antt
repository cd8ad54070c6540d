use Rattle.std.proofs.Common.{◌≡◌, ◌<◌, length, bytes_eq, false, ◌∙◌, sym, arith}
use Rattle.std.specs.List.{list_any}
use Rattle.net_doc.proofs.Names.{seen_new, seen_twice, not_true, not_false}
use Rattle.net_doc.proofs.items.are_different.Goals as goal

pub returns-then-not-branch : goal.returns-then-not-branch
returns-then-not-branch c =
    let within : c.loop-name.name-index < length c.args.names.now = omega arith in
    seen_twice c.args.names.now c.loop-name.name-index c.name-item.result c.loop-name.seen.keys c.bytes.result within
    (c.bytes.ensures ∙ c.name-item.is) c.loop-name.invariant.seen
    (not_false _ (sym c.in_ok-insert.ensures.added ∙ c.if-not-branch.true))

pub loop-name-preserved : goal.loop-name-preserved
loop-name-preserved c =
    let within : c.loop-name.name-index < length c.args.names.now = omega arith in
    let new : list_any (λ k. bytes_eq c.bytes.result.now k.now) c.loop-name.seen.keys ≡ false =
    not_true _ (sym c.in_ok-insert.ensures.added ∙ c.if-not-branch.false) in
    let (seen, different) =
    seen_new c.args.names.now c.loop-name.name-index c.name-item.result c.loop-name.seen.keys c.insert.new.self.keys c.bytes.result within
    (c.bytes.ensures ∙ c.name-item.is) c.loop-name.invariant.seen c.loop-name.invariant.different new c.in_ok-insert.ensures.keys in
    record { seen = seen; different = different }
