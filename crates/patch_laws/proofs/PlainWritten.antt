-- The plain line of a command is read as the command where edits put it.
use Rattle.std.proofs.Common.{◌≡◌, ◌⊎◌, ℕ, ◌<◌, List, Option, length, refl, sym, subst}
use Rattle.arc_base.specs.Words.{words}
use Rattle.ios_lines.specs.Kinds.{IsSingle}
use Rattle.ios_words.specs.declared.commands.Command.{Command}
use Rattle.ios_words.specs.declared.commands.Command.TheVariants as commands
use Rattle.ios_words.specs.declared.commands.PacketText.{PacketText}
use Rattle.ios_words.specs.declared.kinds.BlockKind.{BlockKind}
use Rattle.ios_words.specs.declared.kinds.BlockKind.TheVariants as kinds
use Rattle.ios_words.specs.Commands.{is_extended_block, ReadBy}
use Rattle.ios_words.specs.Language.{rows}
use Rattle.ios_words.specs.Plain.{plain_line, IsReadBack}
use Rattle.ios_config.specs.Groups.{Lines, PrefixLines, part_in}
use Rattle.line_edit_laws.specs.Sites.{written, IsSingleLine, IsBlockLine}
use Rattle.patch_laws.specs.Fits.{IsFit}

pub plain-fit : (within : BlockKind) (command : Command) → IsReadBack within command → 0 < length (plain_line within command) → IsFit (plain_line within command)
plain-fit within command line some = record { free = line.written.free; no_return = line.written.no_return; some = some }

pub plain-reads : (within : BlockKind) (command : Command) → IsReadBack within command → ReadBy (is_extended_block within) (words (plain_line within command)) (rows within) command
plain-reads within command line = subst (λ (ws : List (List ℕ)). ReadBy (is_extended_block within) ws (rows within) command) (sym line.written.words) line.reads

-- a line of a list, and one of a packet list's block
pub plain-single : (name : List ℕ) (command : Command) → IsReadBack kinds.Top command → IsSingle (plain_line kinds.Top command) →
    (part_in 0 command ≡ Lines name) ⊎ (part_in 0 command ≡ PrefixLines name) → IsSingleLine (written kinds.Top command)
plain-single name command line single part = record { single = single; reads = plain-reads kinds.Top command line; name = name; part = part }

pub plain-entry : (order : Option ℕ) (entry : PacketText) → IsReadBack kinds.Extended (commands.Entry order entry) → IsBlockLine kinds.Extended (written kinds.Extended (commands.Entry order entry))
plain-entry order entry line = record { inner = line.kind; reads = plain-reads kinds.Extended (commands.Entry order entry) line; part = λ block. refl }
