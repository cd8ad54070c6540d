use Rattle.arc_base.proofs.PrefixTexts.{read_parts}
use Rattle.arc_base.proofs.prefix_text.read_prefix.Goals as goal

pub returns : goal.returns
returns c =
    read_parts c.args.text.now c.in_ok-addr.addr.now c.in_ok-addr.len.now _ _ _ c.in_ok-addr.ensures c.in_ok-addr-2.ensures c.in_ok-len.ensures c.new.ensures.valid c.new.ensures.value
