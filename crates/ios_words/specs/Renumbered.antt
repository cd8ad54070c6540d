-- Entries whose numbers change.
use Rattle.std.specs.Prelude.{◌≡◌, ℕ, true, false, List, ◌∷◌, codes, decimal, Some}
use Rattle.ios_words.specs.declared.commands.Command.TheVariants.{Entry, PrefixLine}
use Rattle.ios_words.specs.declared.commands.PacketText.{PacketText}
use Rattle.ios_words.specs.declared.commands.RouteText.{RouteText}
use Rattle.ios_words.specs.declared.kinds.BlockKind.TheVariants as blocks
use Rattle.ios_words.specs.Commands.{ReadBy}
use Rattle.ios_words.specs.Forms.{IsOrder}
use Rattle.ios_words.specs.Language.{rows}

-- an entry of an extended list's block whose number is another is that entry with the other number
abbrev pub EntriesMayBeRenumbered : Type 0
EntriesMayBeRenumbered =
    (word : List ℕ) (ws : List (List ℕ)) (n m : ℕ) (entry : PacketText) →
    ReadBy true (word ∷ ws) (rows blocks.Extended) (Entry (Some n) entry) →
    IsOrder 2147483647 (Some m) →
    ReadBy true (decimal m ∷ ws) (rows blocks.Extended) (Entry (Some m) entry)

-- and so is the line of a prefix list that has a number
abbrev pub PrefixLinesMayBeRenumbered : Type 0
PrefixLinesMayBeRenumbered =
    (name word list : List ℕ) (ws : List (List ℕ)) (n m : ℕ) (entry : RouteText) →
    ReadBy false (codes "ip" ∷ codes "prefix-list" ∷ name ∷ codes "seq" ∷ word ∷ ws)
    (rows blocks.Top) (PrefixLine list (Some n) entry) → IsOrder 4294967294 (Some m) →
    ReadBy false (codes "ip" ∷ codes "prefix-list" ∷ name ∷ codes "seq" ∷ decimal m ∷ ws)
    (rows blocks.Top) (PrefixLine list (Some m) entry)

-- the words of a prefix list's line that has a number: it is the fifth
pub record HasSequence (ws : List (List ℕ)) : Type 0 where
  pub name : List ℕ
  pub word : List ℕ
  pub rest : List (List ℕ)
  pub are : ws ≡ codes "ip" ∷ codes "prefix-list" ∷ name ∷ codes "seq" ∷ word ∷ rest

-- what is read as such a line has these words
abbrev pub NumberedLinesHaveSequences : Type 0
NumberedLinesHaveSequences =
    (ws : List (List ℕ)) (list : List ℕ) (n : ℕ) (entry : RouteText) →
    ReadBy false ws (rows blocks.Top) (PrefixLine list (Some n) entry) → HasSequence ws
