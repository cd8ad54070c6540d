-- The entries of the packet lists after edits: those that there were, one for a class of the document, or the last of a new list.
use Rattle.std.proofs.Common.{◌≡◌, ℕ, ◌⊎◌, inl, inr, Bool, false, Some, List, [], ◌∷◌, map, refl, subst}
use Rattle.std.specs.Prelude.{Contains, slice_get}
use Rattle.std.proofs.lemmas.List.Elements.{Contains-append_right, Contains-append_cases}
use Rattle.arc_base.proofs.Items.{from_map, Contains-cases, Contains-none}
use Rattle.arc_base.specs.declared.place.Face.{Face}
use Rattle.net_model.specs.declared.lists.PacketEntry.{PacketEntry}
use Rattle.net_model.specs.declared.lists.PacketList.{PacketList}
use Rattle.net_model.specs.declared.policies.Class.{Class}
use Rattle.net_model.specs.declared.policies.Document.{Document}
use Rattle.net_model.specs.declared.rows.Network.{Network}
use Rattle.net_model.proofs.Readings.{place_of_item, item_at_place}
use Rattle.edit_list.specs.declared.edit_kinds.Edit.{Edit}
use Rattle.edit_list.specs.After.{class_entry, every_packet, opposite_packet_entry, with_classes, new_packet_entries, edited_packet_list, IsPacketListAfter, IsAfter}
use Rattle.edit_list.specs.Changes.{list_classes, new_classes}
use Rattle.edit_list.specs.EditLists.{AreEdits}
use Rattle.edit_list.specs.Prices.{chosen_of}
use Rattle.network_edit_laws.proofs.Listed.{class_put, chosen_listed, class_of_list, class_of_new, class_listed}

-- the entry stands in a packet list of the network
pub record IsEntry (net : Network) (e : PacketEntry) : Type 0 where
  pub list : PacketList
  pub one : Contains net.packet_lists list
  pub there : Contains list.entries e

-- the entry is for one of the classes
pub record IsForClass (classes : List Class) (e : PacketEntry) : Type 0 where
  pub class : Class
  pub one : Contains classes class
  pub permit : Bool
  pub same : class_entry permit class ≡ e

module _ (net after : Network) (doc : Document) (list : List Edit) (flags : List Bool) (are : AreEdits net doc list) (is : IsAfter net (chosen_of list flags) after) where
  abbrev Was : PacketEntry → Type 0
  Was e = IsEntry net e ⊎ (IsForClass are.classes e ⊎ (every_packet ≡ e))

  class_there : (c : Class) → (e : Edit) × Contains (chosen_of list flags) e × (class_put e ≡ Some c) → Contains are.classes c
  class_there c (e, one, puts) = class_listed net are.destinations are.classes e c (subst (λ (l : List Edit). Contains l e) are.all (chosen_listed list flags e one)) puts

  edited_entry : (place : ℕ) (was : PacketList) (e : PacketEntry) → slice_get net.packet_lists place ≡ Some was →
      Contains (with_classes was.entries (list_classes (chosen_of list flags) place)) e → Was e
  edited_entry place was e at there =
      elim (Contains-append_cases (map (opposite_packet_entry was.entries) (list_classes (chosen_of list flags) place)) was.entries e there) [
        | inl new ↦
            let from = from_map (opposite_packet_entry was.entries) (list_classes (chosen_of list flags) place) e new in
            inr (inl (record {
              class = from.0;
              one = class_there from.0 (class_of_list (chosen_of list flags) place from.0 from.1);
              permit = (opposite_packet_entry was.entries from.0).permit;
              same = from.2;
            }))
        | inr old ↦ inl (record { list = was; one = item_at_place net.packet_lists place was at; there = old })
      ]

  new_entry : (face : Face) (e : PacketEntry) → Contains (new_packet_entries (new_classes (chosen_of list flags) face.0)) e → Was e
  new_entry face e there =
      elim (Contains-append_cases (map (class_entry false) (new_classes (chosen_of list flags) face.0)) (every_packet ∷ []) e there) [
        | inl new ↦
            let from = from_map (class_entry false) (new_classes (chosen_of list flags) face.0) e new in
            inr (inl (record { class = from.0; one = class_there from.0 (class_of_new (chosen_of list flags) face.0 from.0 from.1); permit = false; same = from.2 }))
        | inr last ↦ elim (Contains-cases every_packet e [] last) [
          | inl same ↦ inr (inr same)
          | inr none ↦ absurd (Contains-none e none)
        ]
      ]

  of_list : (l : PacketList) (e : PacketEntry) → IsPacketListAfter net (chosen_of list flags) l → Contains l.entries e → Was e
  of_list l e (inl (place, was, at, same)) there = edited_entry place was e at (subst (λ (m : PacketList). Contains m.entries e) same there)
  of_list l e (inr (face, new)) there = new_entry face e (subst (λ (es : List PacketEntry). Contains es e) new.entries there)

  -- an entry after the edits is one that there was, one for a class, or the last of a new list
  pub entry_was : (e : PacketEntry) → IsEntry after e → IsEntry net e ⊎ (IsForClass are.classes e ⊎ (every_packet ≡ e))
  entry_was e now = of_list now.list e ((is.packet_lists now.list).0 now.one) now.there

  -- and each that there was is still there
  pub entry_stays : (e : PacketEntry) → IsEntry net e → IsEntry after e
  entry_stays e was =
      let place = place_of_item net.packet_lists was.list was.one in
      record {
        list = edited_packet_list (chosen_of list flags) place.0 was.list;
        one = (is.packet_lists (edited_packet_list (chosen_of list flags) place.0 was.list)).1 (inl (place.0, was.list, place.1, refl));
        there = Contains-append_right (map (opposite_packet_entry was.list.entries) (list_classes (chosen_of list flags) place.0)) was.list.entries e was.there;
      }
