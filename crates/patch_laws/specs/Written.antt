-- Commands with the lines that edits write of them.
use Rattle.ios_words.specs.declared.commands.Command.{Command}
use Rattle.line_patcher.specs.Written.{line_of}
use Rattle.line_edit_laws.specs.Sites.{Written}

-- a command with its line
abbrev pub written_of : Command → Written
written_of command = record { line = line_of command; command = command }
