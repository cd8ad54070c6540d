-- The groups of a file's commands with one command more among them.
use Rattle.std.specs.Prelude.{◌≡◌, ◌⊎◌, ℕ, Bool, true, false, List, [], ◌∷◌, ◌++◌}
use Rattle.std.specs.Prelude.{map}
use Rattle.std.specs.List.{list_any}
use Rattle.ios_lines.specs.Changes.{moved}
use Rattle.ios_config.specs.declared.commands.FileCommand.{FileCommand}
use Rattle.ios_config.specs.Groups.{Part, Block, Lines, PrefixLines, is_same, part_of, distinct}
use Rattle.ios_config.specs.Groups.{members, groups}
use Rattle.ios_config.specs.Inserted.{command_moved}

-- the part with its number moved
abbrev pub part_moved : ℕ → Part → Part
part_moved place (Block head) = Block (moved place head)
part_moved place (Lines name) = Lines name
part_moved place (PrefixLines name) = PrefixLines name

-- the commands before and after, with their numbers moved, and one between them
abbrev pub between : ℕ → List FileCommand → FileCommand → List FileCommand → List FileCommand
between place front c back = map (command_moved place) front ++ c ∷ map (command_moved place) back

-- the commands of a part, with one more where it is the part of that one
abbrev pub members_with : ℕ → List FileCommand → FileCommand → List FileCommand → Part →
    Bool → List FileCommand
members_with place front c back part true = between place (members front part) c (members back part)
members_with place front c back part false =
    map (command_moved place) (members (front ++ back) part)

-- the part is that of a command of the front, or of the first command behind it
abbrev pub StandsBeside : Part → List FileCommand → List FileCommand → Type 0
StandsBeside part front back =
    (list_any (is_same part) (map part_of front) ≡ true) ⊎
    ((next : FileCommand) × (rest : List FileCommand) × (back ≡ next ∷ rest) ×
    (part_of next ≡ part))

-- where the part of the new command is that of an earlier one or of the next one, the command joins
-- the group of its part, and the groups stay except for their numbers
abbrev pub ACommandJoinsItsGroup : Type 0
ACommandJoinsItsGroup =
    (place : ℕ) (front : List FileCommand) (c : FileCommand) (back : List FileCommand)
    (part : Part) → part_of c ≡ part_moved place part → StandsBeside part front back →
    groups (between place front c back)
    ≡ map (λ p. members_with place front c back p (is_same p part))
    (distinct (map part_of (front ++ back)))

-- the groups with one more of a new command alone, somewhere among them
pub record HasNewGroup (place : ℕ) (commands more : List FileCommand)
    (c : FileCommand) : Type 0 where
  pub before : List (List FileCommand)
  pub after : List (List FileCommand)
  pub old : map (map (command_moved place)) (groups commands) ≡ before ++ after
  pub new : groups more ≡ before ++ (c ∷ []) ∷ after

-- where no other command is of the new one's part, it is a group of its own
abbrev pub ACommandBeginsItsGroup : Type 0
ACommandBeginsItsGroup =
    (place : ℕ) (front : List FileCommand) (c : FileCommand) (back : List FileCommand) →
    list_any (is_same (part_of c)) (map part_of (map (command_moved place) (front ++ back)))
    ≡ false → HasNewGroup place (front ++ back) (between place front c back) c
