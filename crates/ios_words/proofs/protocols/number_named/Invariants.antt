use Rattle.std.proofs.Common.{◌≡◌, map, drop}
use Rattle.ios_words.specs.NameRows.{row_of}
use Rattle.ios_words.specs.Services.{number_named}
use Rattle.ios_words.proofs.protocols.number_named.Given as goal

abbrev pub invariant-loop-row : goal.invariant-loop-row
invariant-loop-row l = number_named (map row_of l.fn.rows) l.fn.word ≡ number_named (map row_of (drop l.row-index l.rows)) l.word
