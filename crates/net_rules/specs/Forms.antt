-- The forms of what a router file says: names of their form, numbers in their ranges, and no
-- interface twice.
use Rattle.std.specs.Prelude.{◌≢◌, ◌≤◌, IfSome, All, AllPairs}
use Rattle.arc_base.specs.NameForms.{IsName, IsFaceName}
use Rattle.ios_words.specs.declared.commands.Command.{Command}
use Rattle.ios_words.specs.declared.commands.Command.TheVariants as commands
use Rattle.ios_config.specs.declared.settings.Config.{Config}
use Rattle.ios_config.specs.declared.settings.FaceText.{FaceText}
use Rattle.net_rules.specs.Settings.{lines_of}

-- the interface has a name of a known kind, a mask of 1 to 32 ones, and a bandwidth and a cost in
-- their ranges
pub record IsWellFormedFace (face : FaceText) : Type 0 where
  pub name : IsFaceName face.name
  pub mask_low : IfSome face.mask_len (λ g. 1 ≤ g.value)
  pub mask_high : IfSome face.mask_len (λ g. g.value ≤ 32)
  pub bandwidth : IfSome face.bandwidth (λ g. 1 ≤ g.value)
  pub cost_low : IfSome face.cost (λ g. 1 ≤ g.value)
  pub cost_high : IfSome face.cost (λ g. g.value ≤ 65535)
  pub list_in : IfSome face.list_in (λ g. IsName g.value)
  pub list_out : IfSome face.list_out (λ g. IsName g.value)

-- the name of the list that the command binds at a neighbour has its form
abbrev pub BindsName : Command → Type 0
BindsName (commands.NeighborList peer list) = IsName list
BindsName other = Unit {0}

-- the names have their forms, each interface is well formed, and no two have one name
pub record IsWellFormed (config : Config) : Type 0 where
  pub hostname : IfSome config.hostname (λ s. IsName s.name)
  pub faces : All IsWellFormedFace config.faces
  pub faces_differ : AllPairs (λ f g. f.name ≢ g.name) config.faces
  pub lines : All (λ g. BindsName g.value) (lines_of config)
