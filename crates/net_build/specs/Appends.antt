-- What one more line at the end of a process changes.
use Rattle.std.specs.Prelude.{◌≡◌, ℕ, ◌==◌, Bool, List, [], ◌∷◌, ◌++◌, Option, Some, if◌then◌else◌}
use Rattle.std.specs.Option.{option_or}
use Rattle.std.specs.Str.{bytes_eq}
use Rattle.ios_words.specs.declared.commands.Command.{Command}
use Rattle.ios_words.specs.declared.commands.Command.TheVariants as commands
use Rattle.ios_config.specs.declared.settings.Given.{Given}
use Rattle.net_model.specs.declared.rows.Protocol.TheVariants.{Ospf}
use Rattle.net_rules.specs.Settings.{last_said, is_passive}
use Rattle.net_rules.specs.Neighbors.{is_down, filter_of}

-- the command, given at this line
abbrev pub line_of : ℕ → Command → Given Command
line_of line command = record { value = command; line = line }

-- the last line that says something of the matter counts: the new line if it does, else what
-- counted before it
abbrev pub TheLastLineCounts : {X : Type 0} → (Command → Option X) → Type 0
TheLastLineCounts says =
    (lines : List (Given Command)) (g : Given Command) →
    last_said says (lines ++ g ∷ []) ≡ option_or (says g.value) (last_said says lines)

-- a line about a passive interface, at the end, decides for that interface and changes no other
abbrev pub APassiveLineCounts : Type 0
APassiveLineCounts =
    (lines : List (Given Command)) (line : ℕ) (passive : Bool) (face name : List ℕ) →
    is_passive Ospf (lines ++ line_of line (commands.Passive passive (Some face)) ∷ []) name
    ≡ (if bytes_eq face name then passive else is_passive Ospf lines name)

-- a line that shuts a neighbour down or not, at the end, decides for that neighbour and changes no
-- other
abbrev pub ANeighborLineCounts : Type 0
ANeighborLineCounts =
    (lines : List (Given Command)) (line peer other : ℕ) (down : Bool) →
    is_down (lines ++ line_of line (commands.NeighborDown peer down) ∷ []) other
    ≡ (if peer == other then down else is_down lines other)

-- a line that binds a list to a neighbour, at the end, gives that neighbour the list and changes no
-- other
abbrev pub ABindingLineCounts : Type 0
ABindingLineCounts =
    (lines : List (Given Command)) (line peer other : ℕ) (name : List ℕ) →
    filter_of (lines ++ line_of line (commands.NeighborList peer name) ∷ []) other
    ≡ (if peer == other then Some name else filter_of lines other)
