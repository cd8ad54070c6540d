-- The lines of lists that are written as lines.
use Rattle.std.specs.Prelude.{◌≡◌, ◌≢◌, ℕ, Bool, true, false, Option, List, codes, IsTrue}
use Rattle.ios_lines.specs.Kinds.{opens_block}
use Rattle.ios_words.specs.declared.commands.Command.{Command}
use Rattle.ios_words.specs.declared.commands.Command.TheVariants as commands
use Rattle.ios_words.specs.declared.commands.RouteText.{RouteText}
use Rattle.ios_words.specs.declared.kinds.BlockKind.{BlockKind}
use Rattle.ios_words.specs.declared.kinds.BlockKind.TheVariants as kinds
use Rattle.ios_words.specs.Commands.{ReadBy, is_extended_block}
use Rattle.ios_words.specs.Language.{rows}

-- whether the command is a line of a list that is written as lines
abbrev pub is_list_line : Command → Bool
is_list_line (commands.ListLine name entry) = true
is_list_line (commands.PrefixLine name order entry) = true
is_list_line _ = false

-- such lines are read outside blocks alone, and their words open none
abbrev pub ListLinesAreTopLines : Type 0
ListLinesAreTopLines =
    (within : BlockKind) (ws : List (List ℕ)) (command : Command) →
    ReadBy (is_extended_block within) ws (rows within) command →
    IsTrue (is_list_line command) → (within ≡ kinds.Top) × (opens_block ws ≡ false)

-- no prefix list is named as the word of an inert row
abbrev pub PrefixListsHaveOtherNames : Type 0
PrefixListsHaveOtherNames =
    (ws : List (List ℕ)) (list : List ℕ) (order : Option ℕ) (entry : RouteText) →
    ReadBy false ws (rows kinds.Top) (commands.PrefixLine list order entry) →
    list ≢ codes "sequence-number"
