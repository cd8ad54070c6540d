-- Which classes of a list enter and leave, and the first that does not.
use Rattle.std.specs.Prelude.{◌≡◌, ℕ, ◌<◌, Some, List, slice_get}
use Rattle.net_model.specs.declared.lists.Packet.{Packet}
use Rattle.net_model.specs.declared.policies.Class.{Class}
use Rattle.net_model.specs.declared.rows.Network.{Network}
use Rattle.net_model.specs.Packets.{IsOfClass}
use Rattle.net_model.specs.Forwarding.{Ends, Enters, Leaves}

-- the class is one of the list, and this holds of each class before it
pub record IsFirstAfter (Before : Class → Type 0) (classes : List Class)
    (class : Class) : Type 0 where
  pub place : ℕ
  pub at_place : slice_get classes place ≡ Some class
  pub before : (k : ℕ) (c : Class) → k < place → slice_get classes k ≡ Some c → Before c

-- each packet of the class enters and leaves
abbrev pub EachPasses : Network → Ends → Class → Type 0
EachPasses net ends class = (p : Packet) → IsOfClass class p → Enters net ends p × Leaves net ends p

-- each packet of the first n classes enters and leaves
abbrev pub AllPass : Network → Ends → List Class → ℕ → Type 0
AllPass net ends classes n =
    (k : ℕ) (c : Class) → k < n → slice_get classes k ≡ Some c → EachPasses net ends c

-- the class is the first with a packet that does not enter or does not leave
pub record IsFirstKeptOut (net : Network) (ends : Ends) (classes : List Class)
    (class : Class) : Type 0 where
  pub is_first : IsFirstAfter (EachPasses net ends) classes class
  pub kept_out : ¬ EachPasses net ends class
