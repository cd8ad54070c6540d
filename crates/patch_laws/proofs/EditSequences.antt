-- The words of a prefix list's line that has a number.
use Rattle.std.proofs.Common.{ℕ, false, Some, List}
use Rattle.ios_words.specs.declared.commands.Command.TheVariants as commands
use Rattle.ios_words.specs.declared.commands.RouteText.{RouteText}
use Rattle.ios_words.specs.declared.kinds.BlockKind.TheVariants as kinds
use Rattle.ios_words.specs.Commands.{ReadBy}
use Rattle.ios_words.specs.Language.{rows}
use Rattle.ios_words.proofs.Sequences.{numbered-sequence}
use Rattle.patch_laws.specs.EntrySites.{IsSequenced}

pub sequences : (ws : List (List ℕ)) (list : List ℕ) (n : ℕ) (entry : RouteText) → ReadBy false ws (rows kinds.Top) (commands.PrefixLine list (Some n) entry) → IsSequenced ws
sequences ws list n entry reads = let s = numbered-sequence ws list n entry reads in record { name = s.name; word = s.word; rest = s.rest; are = s.are }
