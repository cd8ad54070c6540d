-- Each class has a packet.
use Rattle.arc_base.proofs.Agreement.{Holds-first}
use Rattle.net_model.specs.declared.policies.Class.{Class}
use Rattle.net_model.specs.Packets.{IsOfClass, first_packet}
use Rattle.net_model.proofs.ServiceRanges.{first-serves}

pub first_is_of : (class : Class) → IsOfClass class (first_packet class)
first_is_of class = (Holds-first class.from, Holds-first class.to, first-serves class.service)
