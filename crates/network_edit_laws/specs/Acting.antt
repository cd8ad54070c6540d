-- Laws of existing lists: what a list with entries of edits at its front answers wherever it is
-- bound.
use Rattle.std.specs.Prelude.{◌≡◌, ◌↔◌, ℕ, Bool, Option, Some, List, Contains, slice_get}
use Rattle.arc_base.specs.declared.place.ListId.{ListId}
use Rattle.arc_base.specs.declared.prefix.Prefix.{Prefix}
use Rattle.net_model.specs.declared.lists.Packet.{Packet}
use Rattle.net_model.specs.declared.policies.Class.{Class}
use Rattle.net_model.specs.declared.policies.Document.{Document}
use Rattle.net_model.specs.declared.rows.FaceRow.{FaceRow}
use Rattle.net_model.specs.declared.rows.SessionRow.{SessionRow}
use Rattle.net_model.specs.declared.rows.Network.{Network}
use Rattle.net_model.specs.Forwarding.{ListPermits}
use Rattle.net_model.specs.Packets.{IsOfClass}
use Rattle.net_model.specs.Routing.{RouteListPermits}
use Rattle.net_model.specs.Validity.{IsValid}
use Rattle.edit_list.specs.declared.edit_kinds.Edit.{Edit}
use Rattle.edit_list.specs.declared.edit_kinds.Edit.TheVariants as edits
use Rattle.edit_list.specs.After.{IsAfter}
use Rattle.edit_list.specs.EditLists.{AreEdits}
use Rattle.edit_list.specs.Prices.{chosen_of}

-- some of the edits add an entry to the packet list for a class of the packet
abbrev pub NamesPacket : List Edit → ListId → Packet → Type 0
NamesPacket chosen list p =
    (class : Class) × Contains chosen (edits.PacketList list class) × IsOfClass class p

-- where this packet list was bound, the list that is bound after the edits answers the opposite for
-- the packets that they name, and as before for all others
pub record ActsOnPackets (net : Network) (chosen : List Edit) (after : Network) (was : ListId)
    (now : Option ListId) : Type 0 where
  pub turned : (p : Packet) → NamesPacket chosen was p →
      ListPermits after now p ↔ (¬ ListPermits net (Some was) p)
  pub kept : (p : Packet) → (¬ NamesPacket chosen was p) →
      ListPermits after now p ↔ ListPermits net (Some was) p

-- where this route list was bound, the list that is bound after the edits answers the opposite for
-- the prefixes that they name, and as before for all others
pub record ActsOnPrefixes (net : Network) (chosen : List Edit) (after : Network) (was : ListId)
    (now : Option ListId) : Type 0 where
  pub turned : (to : Prefix) → Contains chosen (edits.RouteList was to) →
      RouteListPermits after now to ↔ (¬ RouteListPermits net (Some was) to)
  pub kept : (to : Prefix) → (¬ Contains chosen (edits.RouteList was to)) →
      RouteListPermits after now to ↔ RouteListPermits net (Some was) to

-- each packet list that is bound at an interface, inbound or outbound, acts there with the entries
-- that some edits for the document add to it
abbrev pub PacketListsActWhereverBound : Type 0
PacketListsActWhereverBound =
    (net : Network) (doc : Document) (list : List Edit) (flags : List Bool) (after : Network) →
    IsValid net → AreEdits net doc list → IsAfter net (chosen_of list flags) after →
    (place : ℕ) (was now : FaceRow) → slice_get net.faces place ≡ Some was →
    slice_get after.faces place ≡ Some now → (id : ListId) →
    ((was.list_in ≡ Some id → ActsOnPackets net (chosen_of list flags) after id now.list_in)
    × (was.list_out ≡ Some id → ActsOnPackets net (chosen_of list flags) after id now.list_out))

-- each route list that is bound at a session acts there with the entries that some edits for the
-- document add to it
abbrev pub RouteListsActWhereverBound : Type 0
RouteListsActWhereverBound =
    (net : Network) (doc : Document) (list : List Edit) (flags : List Bool) (after : Network) →
    IsValid net → AreEdits net doc list → IsAfter net (chosen_of list flags) after →
    (place : ℕ) (was now : SessionRow) → slice_get net.sessions place ≡ Some was →
    slice_get after.sessions place ≡ Some now →
    (id : ListId) → was.filter ≡ Some id →
    ActsOnPrefixes net (chosen_of list flags) after id now.filter
