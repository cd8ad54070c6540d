-- The numbers of a list's entries.
use Rattle.std.specs.Prelude.{◌≡◌, ℕ, ◌+◌, nat_lt, Bool, true, false, List, Any, slice_get, Option}
use Rattle.std.specs.Prelude.{Some, None}
use Rattle.ios_words.specs.declared.commands.Command.{Command}
use Rattle.ios_config.specs.declared.settings.Given.{Given}
use Rattle.ios_config.specs.declared.settings.ListText.{ListText}
use Rattle.ios_config.specs.Least.{IsLeast}
use Rattle.ios_config.specs.Texts.{entry_number}

-- whether the second number may follow the first: it is greater, or neither entry has one
abbrev pub rises : Option ℕ → Option ℕ → Bool
rises None None = true
rises (Some a) (Some b) = nat_lt a b
rises _ _ = false

-- the entry of this line may not follow the one before it
pub record FallsAt (entries : List (Given Command)) (line : ℕ) : Type 0 where
  pub place : ℕ
  pub earlier : Given Command
  pub at_place : slice_get entries place ≡ Some earlier
  pub later : Given Command
  pub at_next : slice_get entries (place + 1) ≡ Some later
  pub falls : rises (entry_number earlier.value) (entry_number later.value) ≡ false
  pub is_line : later.line ≡ line

-- the same in some list
abbrev pub IsNotRising : List ListText → ℕ → Type 0
IsNotRising lists line = Any (λ list. FallsAt list.entries line) lists

-- each entry may follow the one before it in its list
abbrev pub NumbersRise : List ListText → Type 0
NumbersRise lists = (line : ℕ) → ¬ IsNotRising lists line

-- the first line whose entry may not
abbrev pub IsFirstNotRising : List ListText → ℕ → Type 0
IsFirstNotRising lists line = IsLeast (IsNotRising lists) line
