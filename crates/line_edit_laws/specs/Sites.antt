-- What edits add at the command lines of a file, and the commands of the file with them. The
-- numbers of blocks are those of the old file, and greater ones are those of new blocks.
use Rattle.std.specs.Prelude.{◌≡◌, ◌≢◌, ℕ, ◌+◌, ◌<◌, ◌==◌, ◌⊎◌, false, List, [], ◌∷◌, ◌++◌, map}
use Rattle.std.specs.Prelude.{Contains, MatchBool, if◌then◌else◌}
use Rattle.std.specs.List.{AllByRecursion, flat_map}
use Rattle.ios_lines.specs.Kinds.{kind, IsInner, IsHead, IsSingle, IsClosing}
use Rattle.arc_base.specs.Words.{words}
use Rattle.ios_words.specs.declared.kinds.BlockKind.{BlockKind}
use Rattle.ios_words.specs.declared.kinds.BlockKind.TheVariants as kinds
use Rattle.ios_words.specs.declared.commands.Command.{Command}
use Rattle.ios_words.specs.Commands.{is_extended_block, ReadBy}
use Rattle.ios_words.specs.Language.{rows}
use Rattle.ios_words.specs.Plain.{plain_line}
use Rattle.ios_config.specs.declared.commands.FileCommand.{FileCommand}
use Rattle.ios_config.specs.Commands.{opened_by}
use Rattle.ios_config.specs.Groups.{Block, Lines, PrefixLines, is_same, part_in, part_of}

-- a line with the command that it says
pub record Written : Type 0 where
  pub line : List ℕ
  pub command : Command

-- a command with its plain line in a block of this kind
abbrev pub written : BlockKind → Command → Written
written within command = record { line = plain_line within command; command = command }

-- what is added before a top line: a line of a list that is written as lines, or a block with a
-- line that closes it
pub data Chunk : Type 0 where
  Single : (w : Written) → Chunk
  NewBlock : (key : ℕ) (head : Written) (rest : List Written) (close : List ℕ) → Chunk

-- what a command line becomes: chunks and lines of its block before it, its bytes and command, and
-- lines of its block after it
pub record Site : Type 0 where
  pub tops : List Chunk
  pub entries : List Written
  pub line : List ℕ
  pub command : Command
  pub after : List Written

abbrev pub bytes_of : List Written → List (List ℕ)
bytes_of ws = map (λ w. w.line) ws

abbrev pub chunk_lines : Chunk → List (List ℕ)
chunk_lines (Single w) = w.line ∷ []
chunk_lines (NewBlock key head rest close) = head.line ∷ (bytes_of rest ++ close ∷ [])

-- the lines of a site
abbrev pub site_lines : Site → List (List ℕ)
site_lines s = flat_map chunk_lines s.tops ++ (bytes_of s.entries ++ (s.line ∷ bytes_of s.after))

-- the command of a written line in a block
abbrev pub in_block : ℕ → Written → FileCommand
in_block block w = record { line = 0; block = block; command = w.command }

abbrev pub chunk_commands : Chunk → List FileCommand
chunk_commands (Single w) = in_block 0 w ∷ []
chunk_commands (NewBlock key head rest close) = in_block key head ∷ map (in_block key) rest

-- a line with another command
abbrev pub says_other : FileCommand → Command → FileCommand
says_other c command = record { line = c.line; block = c.block; command = command }

-- the commands of a site from the old command's place on
abbrev pub own_commands : FileCommand → Site → List FileCommand
own_commands c s =
    map (in_block c.block) s.entries ++ (says_other c s.command ∷ map (in_block c.block) s.after)

-- the commands of a site
abbrev pub site_commands : FileCommand → Site → List FileCommand
site_commands c s = flat_map chunk_commands s.tops ++ own_commands c s

-- the lines of a file with sites for its commands, and the commands of it
abbrev pub new_lines : (FileCommand → Site) → ℕ → List (List ℕ) → List FileCommand → List (List ℕ)
new_lines put n [] cs = []
new_lines put n (l ∷ ls) [] = l ∷ ls
new_lines put n (l ∷ ls) (c ∷ cs) =
    if c.line == n then site_lines (put c) ++ new_lines put (n + 1) ls cs
    else l ∷ new_lines put (n + 1) ls (c ∷ cs)

abbrev pub new_commands : (FileCommand → Site) → List FileCommand → List FileCommand
new_commands put cs = flat_map (λ c. site_commands c (put c)) cs

-- the written line is one of the command's block, and is read there as its command
pub record IsInnerOf (cs : List FileCommand) (c : FileCommand) (w : Written) : Type 0 where
  pub within : BlockKind
  pub head : FileCommand
  pub among : Contains cs head
  pub number : head.line ≡ c.block
  pub some : c.block ≢ 0
  pub opens : opened_by head.command ≡ within
  pub known : within ≢ kinds.Inert
  pub inner : IsInner w.line
  pub reads : ReadBy (is_extended_block within) (words w.line) (rows within) w.command
  pub part : part_in c.block w.command ≡ Block c.block

-- the same before a command that heads no block
pub record IsEntryOf (cs : List FileCommand) (c : FileCommand) (w : Written) : Type 0 where
  pub is_inner : IsInnerOf cs c w
  pub no_head : c.block ≢ c.line

-- the written line is one of a list that is written as lines
pub record IsSingleLine (w : Written) : Type 0 where
  pub single : IsSingle w.line
  pub reads : ReadBy false (words w.line) (rows kinds.Top) w.command
  pub name : List ℕ
  pub part : (part_in 0 w.command ≡ Lines name) ⊎ (part_in 0 w.command ≡ PrefixLines name)

-- the written line is one of a new block
pub record IsBlockLine (within : BlockKind) (w : Written) : Type 0 where
  pub inner : IsInner w.line
  pub reads : ReadBy (is_extended_block within) (words w.line) (rows within) w.command
  pub part : (block : ℕ) → part_in block w.command ≡ Block block

-- the lines are a new block before the line of this number; its number here is that of no later
-- command
pub record IsNewBlock (number : ℕ) (later : List FileCommand) (key : ℕ) (head : Written)
    (rest : List Written) (close : List ℕ) : Type 0 where
  pub heads : IsHead head.line
  pub reads : ReadBy false (words head.line) (rows kinds.Top) head.command
  pub within : BlockKind
  pub opens : opened_by head.command ≡ within
  pub known : within ≢ kinds.Inert
  pub lines : AllByRecursion (IsBlockLine within) rest
  pub closes : IsClosing close
  pub high : number < key
  pub fresh : AllByRecursion (λ v. is_same (Block key) (part_of v) ≡ false) later

abbrev pub IsChunk : ℕ → List FileCommand → Chunk → Type 0
IsChunk number later (Single w) = IsSingleLine w
IsChunk number later (NewBlock key head rest close) = IsNewBlock number later key head rest close

abbrev pub AreChunks : ℕ → List FileCommand → List Chunk → Type 0
AreChunks number later [] = Unit {0}
AreChunks number later (t ∷ ts) =
    IsChunk number (flat_map chunk_commands ts ++ later) t × AreChunks number later ts

-- the command is in a block of this kind
pub record IsOfBlock (cs : List FileCommand) (c : FileCommand) (within : BlockKind) : Type 0 where
  pub head : FileCommand
  pub among : Contains cs head
  pub number : head.line ≡ c.block
  pub some : c.block ≢ 0
  pub opens : opened_by head.command ≡ within
  pub known : within ≢ kinds.Inert

-- the line of a command that heads no block is another of its kind, and is read where the old one
-- is read as the command
pub record IsRewrittenFor (cs : List FileCommand) (c : FileCommand) (line : List ℕ)
    (s : Site) : Type 0 where
  pub no_head : c.block ≢ c.line
  pub alike : kind line ≡ kind s.line
  pub within : BlockKind
  pub stands : ((c.block ≡ 0) × (within ≡ kinds.Top)) ⊎ IsOfBlock cs c within
  pub reads : ReadBy (is_extended_block within) (words line) (rows within) c.command →
      ReadBy (is_extended_block within) (words s.line) (rows within) s.command
  pub part : part_in c.block s.command ≡ part_of c

-- what a site asks of a command of this line, before these later commands
pub record IsGood (cs : List FileCommand) (c : FileCommand) (line : List ℕ) (s : Site)
    (later : List FileCommand) : Type 0 where
  pub after : AllByRecursion (IsInnerOf cs c) s.after
  pub entries : AllByRecursion (IsEntryOf cs c) s.entries
  pub tops : (s.tops ≡ []) ⊎ ((s.entries ≡ []) × ((c.block ≡ 0) ⊎ (c.block ≡ c.line)) ×
      AreChunks c.line (own_commands c s ++ later) s.tops)
  pub written : ((s.line ≡ line) × (s.command ≡ c.command)) ⊎ IsRewrittenFor cs c line s

-- all sites are good, where the lines from a number on have these commands
abbrev pub AreGood : List FileCommand → (FileCommand → Site) → ℕ → List (List ℕ) →
    List FileCommand → Type 0
AreGood cs put n [] ds = Unit {0}
AreGood cs put n (l ∷ ls) [] = Unit {0}
AreGood cs put n (l ∷ ls) (c ∷ ds) =
    MatchBool (c.line == n)
    (IsGood cs c l (put c) (new_commands put ds) × AreGood cs put (n + 1) ls ds)
    (AreGood cs put (n + 1) ls (c ∷ ds))
