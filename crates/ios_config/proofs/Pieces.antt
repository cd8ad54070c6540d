-- What loops over groups and commands make, one more at a time.
use Rattle.std.proofs.Common.{◌≡◌, ℕ, ◌+◌, ◌<◌, List, [], ◌∷◌, ◌++◌, length, get_or, take, map, sym, ◌∙◌, ap, Option, Some, None, true, false, if◌then◌else◌}
use denote.Ref.{Bor}
use Rattle.ios_config.specs.declared.commands.FileCommand.{FileCommand}
use Rattle.ios_words.specs.declared.commands.Command.{Command}
use Rattle.ios_config.specs.declared.settings.Given.{Given}
use Rattle.ios_config.specs.Texts.{entries, given, is_entry}
use Rattle.ios_config.specs.Seen.{commands_seen}
use Rattle.std.specs.List.{cons_option}
use Rattle.std.proofs.lemmas.List.{map_more, append-nil}
use Rattle.std.proofs.lemmas.List.Elements.{filter_map-append}

-- one more item of a map
pub map_to_more : {X Y : Type 0} (g : X → Y) (xs : List X) (i : ℕ) (x : X) → i < length xs → x ≡ get_or xs i x →
    map g (take (i + 1) xs) ≡ map g (take i xs) ++ g x ∷ []
map_to_more g xs i x h e = map_more g xs i x h ∙ ap (λ y. map g (take i xs) ++ g y ∷ []) (sym e)

-- one more command that a reference leads to
pub seen_more : (xs : List (Bor FileCommand)) (i : ℕ) (x : Bor FileCommand) → i < length xs → x ≡ get_or xs i x →
    commands_seen (take (i + 1) xs) ≡ commands_seen (take i xs) ++ x.now ∷ []
seen_more xs i x h e = map_to_more (λ (c : Bor FileCommand). c.now) xs i x h e

-- the entry that a command is, if it is one
abbrev pub entry_if : FileCommand → Option (Given Command)
entry_if c = if is_entry c.command then Some (given c) else None

-- one more command that is an entry, or that is none
pub entries_more : (xs : List (Bor FileCommand)) (i : ℕ) (x : Bor FileCommand) → i < length xs → x ≡ get_or xs i x → is_entry x.now.command ≡ true →
    entries (commands_seen (take (i + 1) xs)) ≡ entries (commands_seen (take i xs)) ++ given x.now ∷ []
entries_more xs i x h e is =
    ap entries (seen_more xs i x h e) ∙ filter_map-append entry_if (commands_seen (take i xs)) (x.now ∷ []) ∙
    ap (λ b. entries (commands_seen (take i xs)) ++ cons_option (if b then Some (given x.now) else None) []) is

pub entries_same : (xs : List (Bor FileCommand)) (i : ℕ) (x : Bor FileCommand) → i < length xs → x ≡ get_or xs i x → is_entry x.now.command ≡ false →
    entries (commands_seen (take (i + 1) xs)) ≡ entries (commands_seen (take i xs))
entries_same xs i x h e is =
    ap entries (seen_more xs i x h e) ∙ filter_map-append entry_if (commands_seen (take i xs)) (x.now ∷ []) ∙
    ap (λ b. entries (commands_seen (take i xs)) ++ cons_option (if b then Some (given x.now) else None) []) is ∙ append-nil (entries (commands_seen (take i xs)))
