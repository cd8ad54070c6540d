-- What each line of a router file is. A top line begins with no blank; other lines belong to the
-- block of one.
use Rattle.std.specs.Prelude.{◌≡◌, ℕ, ◌==◌, Bool, true, false, if◌then◌else◌, List, [], ◌∷◌, take}
use Rattle.std.specs.Prelude.{fold, codes, Option, Some, None, slice_index_or}
use Rattle.std.specs.List.{starts_with, list_any}
use Rattle.std.specs.Str.{bytes_eq}
use Rattle.ios_lines.specs.declared.banner.Delimiter.{Delimiter}
use Rattle.ios_lines.specs.declared.kind.Kind.{Kind}
use Rattle.ios_lines.specs.declared.kind.Kind.TheVariants.{Blank, Comment, Remark, Inner, Single}
use Rattle.ios_lines.specs.declared.kind.Kind.TheVariants.{Head, Banner}
use Rattle.ios_lines.specs.Banners.{banner_text, begun, stands}
use Rattle.arc_base.specs.Words.{is_blank, words}

-- the line begins with a blank
abbrev pub is_indented : List ℕ → Bool
is_indented [] = false
is_indented (b ∷ line) = is_blank b

-- the word begins with an exclamation mark
abbrev pub is_mark : List ℕ → Bool
is_mark [] = false
is_mark (b ∷ word) = b == 33

-- the words that a top line begins with where it opens no block
abbrev pub single_heads : List (List (List ℕ))
single_heads =
    (codes "hostname" ∷ []) ∷ (codes "access-list" ∷ []) ∷
    (codes "ip" ∷ codes "prefix-list" ∷ []) ∷ []

-- a line with these words opens a block, where it is a top line and no banner
abbrev pub opens_block : List (List ℕ) → Bool
opens_block line =
    if list_any (λ head. starts_with bytes_eq line head) single_heads then false else true

-- a top line with these words begins a banner
abbrev pub is_banner : List (List ℕ) → Bool
is_banner line = starts_with bytes_eq line (codes "banner" ∷ [])

-- what a top line with these words is
abbrev pub top_kind : List (List ℕ) → Kind
top_kind line = if is_banner line then Banner else (if opens_block line then Head else Single)

-- what a line with these words is, indented or not, where no banner is open
abbrev pub words_kind : Bool → List (List ℕ) → Kind
words_kind indented [] = Blank
words_kind true (word ∷ rest) = if is_mark word then Remark else Inner
words_kind false (word ∷ rest) = if is_mark word then Comment else top_kind (word ∷ rest)

-- what a line is where no banner is open
abbrev pub kind : List ℕ → Kind
kind line = words_kind (is_indented line) (words line)

-- what ends the banner that a line of this kind begins and does not end
abbrev pub opened : Kind → List ℕ → Option Delimiter
opened Banner line = begun (banner_text line)
opened _ line = None

-- what ends the banner that is open after a line, from that before it
abbrev pub after_line : Option Delimiter → List ℕ → Option Delimiter
after_line None line = opened (kind line) line
after_line (Some delimiter) line = if stands delimiter line then None else Some delimiter

-- what ends the banner that is open after these lines, if one is
abbrev pub open_banner : List (List ℕ) → Option Delimiter
open_banner lines = fold after_line None lines

-- what a line is where this banner is open before it, or none
abbrev pub kind_within : Option Delimiter → List ℕ → Kind
kind_within None line = kind line
kind_within (Some delimiter) line = Banner

-- what the line at a place is
abbrev pub kind_at : List (List ℕ) → ℕ → Kind
kind_at lines place = kind_within (open_banner (take place lines)) (slice_index_or lines place [])

-- a line of this kind closes the open block; the lines of a banner after its first find none open
abbrev pub closes : Kind → Bool
closes Blank = false
closes Comment = true
closes Remark = false
closes Inner = false
closes Single = true
closes Head = true
closes Banner = true

-- a line of this kind heads a block
abbrev pub is_head : Kind → Bool
is_head Head = true
is_head _ = false

-- a line of this kind says nothing: it is blank, a comment or a banner's
abbrev pub is_inert : Kind → Bool
is_inert Blank = true
is_inert Comment = true
is_inert Remark = true
is_inert Inner = false
is_inert Single = false
is_inert Head = false
is_inert Banner = true

-- where no banner is open, the line belongs to a block; heads one; is a top line that opens none;
-- is a comment that closes one
abbrev pub IsInner : List ℕ → Type 0
IsInner line = kind line ≡ Inner

abbrev pub IsHead : List ℕ → Type 0
IsHead line = kind line ≡ Head

abbrev pub IsSingle : List ℕ → Type 0
IsSingle line = kind line ≡ Single

abbrev pub IsClosing : List ℕ → Type 0
IsClosing line = kind line ≡ Comment
