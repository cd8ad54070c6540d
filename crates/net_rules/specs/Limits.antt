-- The limits of what a router file counts.
use Rattle.std.specs.Prelude.{◌≡◌, ℕ, ◌+◌, ◌<◌, Option, Some, List, slice_get, length, find, nat_lt}
use Rattle.arc_base.specs.declared.limits.TheConstants.{INTERFACE_LIMIT}
use Rattle.arc_base.specs.declared.refusal.Kind.TheVariants as kinds
use Rattle.arc_base.specs.declared.refusal.LimitKind.TheVariants as limits
use Rattle.net_doc.specs.declared.fault.Refusal.{Refusal}
use Rattle.ios_config.specs.declared.settings.Config.{Config}
use Rattle.ios_config.specs.declared.settings.ListText.{ListText}

-- a router with more than INTERFACE_LIMIT interfaces
pub record RefusesInterfaces (configs : List Config) (r : Refusal) : Type 0 where
  pub place : ℕ
  pub config : Config
  pub at_place : slice_get configs place ≡ Some config
  pub many : INTERFACE_LIMIT < length config.faces
  pub told : r ≡ record {
    file = place + 1;
    number = 0;
    kind = kinds.Limit limits.Interfaces (length config.faces);
  }

-- the first list of the file with more than `most` entries
abbrev pub long_list : ℕ → Config → Option ListText
long_list most config = find (λ list. nat_lt most (length list.entries)) config.lists

-- a router whose file has such a list
pub record RefusesEntries (most : ℕ) (configs : List Config) (r : Refusal) : Type 0 where
  pub place : ℕ
  pub config : Config
  pub at_place : slice_get configs place ≡ Some config
  pub list : ListText
  pub first : long_list most config ≡ Some list
  pub told : r ≡ record {
    file = place + 1;
    number = 0;
    kind = kinds.Limit limits.Entries (length list.entries);
  }
