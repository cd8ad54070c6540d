-- What answers a packet list gives to the packets of a class.
use Rattle.std.specs.Prelude.{◌≡◌, ℕ, Bool, IsTrue, Some, List, slice_get, drop}
use Rattle.net_model.specs.declared.lists.Packet.{Packet}
use Rattle.net_model.specs.declared.lists.PacketEntry.{PacketEntry}
use Rattle.net_model.specs.declared.policies.Class.{Class}
use Rattle.net_model.specs.Lists.{permits}
use Rattle.net_model.specs.Packets.{IsOfClass}
use Rattle.witness_check.specs.declared.answers.Share.{Share}
use Rattle.witness_check.specs.declared.answers.Share.TheVariants.{Never, Always, Open}
use Rattle.witness_check.specs.Boxes.{entry_class, splits}

-- each packet of the class gets this answer
abbrev pub EachGets : List PacketEntry → Bool → Class → Type 0
EachGets entries answer class = (p : Packet) → IsOfClass class p → permits entries p ≡ answer

-- no packet of the class gets this answer
abbrev pub NoneGets : List PacketEntry → Bool → Class → Type 0
NoneGets entries answer class = (p : Packet) → IsOfClass class p → permits entries p ≡ answer → ⊥

-- no packet of the class gets this answer from the one list and that answer from the other
abbrev pub NoneGetsBoth : List PacketEntry → Bool → List PacketEntry → Bool → Class → Type 0
NoneGetsBoth one this other that class =
    (p : Packet) → IsOfClass class p → permits one p ≡ this → permits other p ≡ that → ⊥

-- the entries before this place count for no packet of the class, and the entry at it splits the
-- class
pub record IsOpenAt (entries : List PacketEntry) (class : Class) (place : ℕ) : Type 0 where
  pub entry : PacketEntry
  pub at_place : slice_get entries place ≡ Some entry
  pub splitting : IsTrue (splits class (entry_class entry))
  pub rest : (p : Packet) → IsOfClass class p → permits entries p ≡ permits (drop place entries) p

-- the share is that of the class's packets that get the answer
abbrev pub IsShare : List PacketEntry → Bool → Class → Share → Type 0
IsShare entries answer class Never = NoneGets entries answer class
IsShare entries answer class Always = EachGets entries answer class
IsShare entries answer class (Open place) = IsOpenAt entries class place
