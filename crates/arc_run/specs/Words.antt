-- What is printed if the words match no command.
use Rattle.std.specs.Prelude.{ℕ, List, ◌++◌, codes}
use Rattle.std.specs.List.{join_by}
use Rattle.command_words.specs.Commands.{Form, forms}

-- the names of these commands, separated by bars
abbrev pub joined_names : List Form → List ℕ
joined_names = join_by (λ form. form.name) (codes "|")

-- the usage line, with all commands in the order of their table
unfoldable pub usage : List ℕ
usage = codes "usage: arcv " ++ joined_names forms ++ codes "\n"
