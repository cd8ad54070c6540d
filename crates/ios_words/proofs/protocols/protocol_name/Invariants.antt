use Rattle.std.proofs.Common.{◌≡◌, map, drop}
use Rattle.ios_words.specs.NameRows.{row_of, name_at}
use Rattle.ios_words.specs.Services.{protocol_names}
use Rattle.ios_words.proofs.protocols.protocol_name.Given as goal

abbrev pub invariant-loop-row : goal.invariant-loop-row
invariant-loop-row l = name_at protocol_names l.fn.number ≡ name_at (map row_of (drop l.row-index l.row-items)) l.number
