use Rattle.std.proofs.Common.{Some, ap, ◌∙◌}
use Rattle.arc_base.proofs.AddressTexts.{bits-address_of, none-address_of}
use Rattle.arc_base.proofs.prefix_text.read_address.Goals as goal

pub returns-in-Ok : goal.returns-in-Ok
returns-in-Ok c = ap Some c.to_bits.ensures ∙ bits-address_of _ _ c.in-Ok.ensures

pub returns-in-Err : goal.returns-in-Err
returns-in-Err c = none-address_of _ c.in-Err.ensures
