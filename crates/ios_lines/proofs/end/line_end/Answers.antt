use Rattle.std.proofs.Common.{refl}
use Rattle.ios_lines.proofs.Ends.{no_feed_from, whole_line}
use Rattle.ios_lines.proofs.end.line_end.Goals as goal

pub feed_end-requires-clause-first : goal.feed_end-requires-clause-first
feed_end-requires-clause-first c = no_feed_from c.args.bytes.now _ c.args.from c.in-Some.len refl c.in-Some.ensures.0.before

pub returns-in-None : goal.returns-in-None
returns-in-None c = whole_line c.args.bytes.now _ c.args.from c.requires refl c.in-None.ensures
