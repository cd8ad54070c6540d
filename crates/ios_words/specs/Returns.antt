-- Lines that end with a carriage return.
use Rattle.std.specs.Prelude.{◌≡◌, ℕ, ◌⊎◌, Bool, true, false, List, [], ◌∷◌, ◌++◌}
use Rattle.arc_base.specs.Words.{words}
use Rattle.ios_words.specs.declared.commands.Command.{Command}
use Rattle.ios_words.specs.declared.commands.Command.TheVariants.{Interface, RouterOspf, RouterBgp}
use Rattle.ios_words.specs.declared.commands.Command.TheVariants.{Inert}
use Rattle.ios_words.specs.declared.kinds.BlockKind.{BlockKind}
use Rattle.ios_words.specs.declared.kinds.BlockKind.TheVariants as kinds
use Rattle.ios_words.specs.Commands.{ReadBy}
use Rattle.ios_words.specs.Language.{rows}

-- the blocks of interfaces and processes
abbrev pub IsOfFaceOrProcess : BlockKind → Type 0
IsOfFaceOrProcess within =
    (within ≡ kinds.Interface) ⊎ ((within ≡ kinds.Ospf) ⊎ (within ≡ kinds.Bgp))

-- a line of such a block that ends with a carriage return says nothing, and no less without it
abbrev pub ReturnsSayNothing : Type 0
ReturnsSayNothing =
    (within : BlockKind) → IsOfFaceOrProcess within →
    (line : List ℕ) (command : Command) →
    ReadBy false (words (line ++ 13 ∷ [])) (rows within) command →
    ReadBy false (words line) (rows within) command × (command ≡ Inert)

-- whether a command heads the block of an interface or of a process
abbrev pub heads_face_or_process : Command → Bool
heads_face_or_process (Interface name) = true
heads_face_or_process (RouterOspf number) = true
heads_face_or_process (RouterBgp number) = true
heads_face_or_process _ = false

-- no line that ends with a carriage return heads such a block
abbrev pub HeadsHaveNoReturn : Type 0
HeadsHaveNoReturn =
    (line : List ℕ) (command : Command) →
    ReadBy false (words (line ++ 13 ∷ [])) (rows kinds.Top) command →
    heads_face_or_process command ≡ false
