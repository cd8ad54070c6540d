-- Laws over the definitions alone.
use Rattle.std.specs.Prelude.{◌≡◌, ℕ, List}
use Rattle.ios_lines.specs.declared.line.Lines.{Lines}
use Rattle.ios_config.specs.declared.settings.Config.{Config}
use Rattle.arc_base.specs.declared.refusal.Kind.{Kind}
use Rattle.ios_config.specs.Configs.{IsConfigOf, IsRefused}

-- the lines of a text give at most one configuration
abbrev pub HasOneConfig : Type 0
HasOneConfig =
    (text : List ℕ) (lines : Lines) (config other : Config) → IsConfigOf text lines config →
    IsConfigOf text lines other → config ≡ other

-- a file is refused for at most one reason
abbrev pub HasOneRefusal : Type 0
HasOneRefusal =
    (text : List ℕ) (lines : Lines) (number other : ℕ) (kind last : Kind) →
    IsRefused text lines number kind →
    IsRefused text lines other last → (number ≡ other) × (kind ≡ last)

-- and it has no settings then
abbrev pub HasNoConfigWhereRefused : Type 0
HasNoConfigWhereRefused =
    (text : List ℕ) (lines : Lines) (config : Config) (number : ℕ) (kind : Kind) →
    IsConfigOf text lines config → IsRefused text lines number kind → ⊥
