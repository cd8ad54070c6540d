-- What one more command of a block does to the settings of its interface.
use Rattle.std.specs.Prelude.{◌≡◌, ℕ, Option, Some, None}
use Rattle.ios_config.specs.declared.commands.FileCommand.{FileCommand}
use Rattle.ios_config.specs.declared.settings.Given.{Given}
use Rattle.ios_config.specs.declared.settings.FaceText.{FaceText}
use Rattle.ios_config.specs.Values.{given_at, address, mask_length, shut_down, bandwidth, ospf_cost}
use Rattle.ios_config.specs.Values.{ospf_area, point_to_point, inbound, outbound}

-- the value that this line sets, or the one before where it sets none
abbrev pub replaced : {V : Type 0} → ℕ → Option (Option V) → Option (Given V) → Option (Given V)
replaced line None before = before
replaced line (Some said) before = given_at line (Some said)

-- each setting is what the command says of it, or as it was before
pub record SaysMore (c : FileCommand) (old new : FaceText) : Type 0 where
  pub name : new.name ≡ old.name
  pub head : new.head ≡ old.head
  pub last : new.last ≡ c.line
  pub addr : new.addr ≡ replaced c.line (address c.command) old.addr
  pub mask_len : new.mask_len ≡ replaced c.line (mask_length c.command) old.mask_len
  pub shut : new.shut ≡ replaced c.line (shut_down c.command) old.shut
  pub bandwidth : new.bandwidth ≡ replaced c.line (bandwidth c.command) old.bandwidth
  pub cost : new.cost ≡ replaced c.line (ospf_cost c.command) old.cost
  pub area : new.area ≡ replaced c.line (ospf_area c.command) old.area
  pub point : new.point ≡ replaced c.line (point_to_point c.command) old.point
  pub list_in : new.list_in ≡ replaced c.line (inbound c.command) old.list_in
  pub list_out : new.list_out ≡ replaced c.line (outbound c.command) old.list_out
