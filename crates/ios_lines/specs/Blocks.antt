-- Blocks: a top line and the lines that belong to it.
use Rattle.std.specs.Prelude.{◌≡◌, ℕ, zero, suc, ◌<◌, ◌≤◌, List, length, take, None, IsSome}
use Rattle.std.specs.Prelude.{IsFalse}
use Rattle.ios_lines.specs.declared.kind.Kind.{Kind}
use Rattle.ios_lines.specs.declared.kind.Kind.TheVariants.{Inner, Head}
use Rattle.ios_lines.specs.Kinds.{kind_at, closes, open_banner}

-- a line opens a block, and no later line of the first `count` closes it
pub record Heads (kinds : ℕ → Kind) (count head : ℕ) : Type 0 where
  pub before : head < count
  pub opens : kinds head ≡ Head
  pub unclosed : (place : ℕ) → head < place → place < count → IsFalse (closes (kinds place))

-- the block that is open after the first `count` lines is that of the line of this number, or there
-- is none and the number is 0
abbrev pub IsOpenBlock : (ℕ → Kind) → ℕ → ℕ → Type 0
IsOpenBlock kinds count zero = (head : ℕ) → ¬ Heads kinds count head
IsOpenBlock kinds count (suc head) = Heads kinds count head

-- the line at a place ought to belong to a block, and none is open before it
pub record IsOrphan (lines : List (List ℕ)) (place : ℕ) : Type 0 where
  pub within : place < length lines
  pub inner : kind_at lines place ≡ Inner
  pub alone : IsOpenBlock (kind_at lines) place 0

-- the line of this number is the first such line
abbrev pub IsFirstOrphan : List (List ℕ) → ℕ → Type 0
IsFirstOrphan lines zero = ⊥
IsFirstOrphan lines (suc place) =
    IsOrphan lines place × ((earlier : ℕ) → earlier < place → ¬ IsOrphan lines earlier)

-- the line at a place begins a banner that is open after it and after each later one of the first
-- `count` lines
pub record Unclosed (lines : List (List ℕ)) (count place : ℕ) : Type 0 where
  pub within : place < count
  pub new : open_banner (take place lines) ≡ None
  pub stays : (later : ℕ) → place < later → later ≤ count → IsSome (open_banner (take later lines))

-- the line of this number begins such a banner
abbrev pub IsUnclosed : List (List ℕ) → ℕ → ℕ → Type 0
IsUnclosed lines count zero = ⊥
IsUnclosed lines count (suc place) = Unclosed lines count place
