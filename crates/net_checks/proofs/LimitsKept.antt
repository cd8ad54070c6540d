-- The routers before a place keep the limits.
use Rattle.std.proofs.Common.{◌≡◌, ℕ, ◌<◌, ◌≤◌, Some, None, List, length}
use Rattle.std.specs.Prelude.{slice_get}
use Rattle.ios_config.specs.declared.settings.Config.{Config}
use Rattle.net_rules.specs.Limits.{long_list}

-- the routers before the place have few interfaces
abbrev pub FewFacesTo : List Config → ℕ → Type 0
FewFacesTo configs n = (place : ℕ) (config : Config) → place < n → slice_get configs place ≡ Some config → length config.faces ≤ 256

-- the routers before the place have no long list
abbrev pub ShortListsTo : ℕ → List Config → ℕ → Type 0
ShortListsTo most configs n = (place : ℕ) (config : Config) → place < n → slice_get configs place ≡ Some config → long_list most config ≡ None
