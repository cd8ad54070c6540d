-- Edits put entries into packet lists only for classes that one entry can say.
use Rattle.std.proofs.Common.{◌≡◌, ℕ, Bool, List, [], ap, subst, Contains, IsTrue}
use Rattle.std.proofs.lemmas.List.Elements.{All-contains}
use Rattle.arc_base.proofs.Items.{Contains-none}
use Rattle.net_model.specs.declared.policies.Class.{Class}
use Rattle.net_model.specs.declared.policies.Document.{Document}
use Rattle.net_model.specs.declared.rows.Network.{Network}
use Rattle.edit_list.specs.declared.edit_kinds.Edit.{Edit}
use Rattle.edit_list.specs.Changes.{list_classes, new_classes, new_packet_change, packet_list_change}
use Rattle.edit_list.specs.EditLists.{AreEdits}
use Rattle.arc_base.specs.Numbered.{of_number}
use Rattle.edit_list.specs.Prices.{chosen_of}
use Rattle.edit_list.specs.Writable.{is_writable}
use Rattle.network_edit_laws.proofs.Listed.{chosen_classes_are_writable}
use Rattle.settings_edit_laws.proofs.Pairs.{picks_nothing}
use Rattle.patch_laws.specs.Sessions.{AreSessions}

-- one entry can say each class that the edits put into a list
pub record AreSaid (chosen : List Edit) : Type 0 where
  pub lists : (id : ℕ) (class : Class) → Contains (list_classes chosen id) class → IsTrue (is_writable class.service)
  pub new : (face : ℕ) (class : Class) → Contains (new_classes chosen face) class → IsTrue (is_writable class.service)

-- the edits chosen from those of a network are such
pub edits-said : (net : Network) (doc : Document) (list : List Edit) (flags : List Bool) → AreEdits net doc list → AreSaid (chosen_of list flags)
edits-said net doc list flags are = record {
  lists = λ id class there. All-contains (λ (c : Class). IsTrue (is_writable c.service)) (list_classes (chosen_of list flags) id) class (chosen_classes_are_writable net doc list flags are id).0 there;
  new = λ face class there. All-contains (λ (c : Class). IsTrue (is_writable c.service)) (new_classes (chosen_of list flags) face) class
      (chosen_classes_are_writable net doc list flags are face).1 there;
}

-- edits that turn sessions put nothing into lists
pub no-classes : (chosen : List Edit) → AreSessions chosen → (id : ℕ) → list_classes chosen id ≡ []
no-classes chosen only id = ap (of_number id) (picks_nothing packet_list_change chosen (λ e there. let s = only e there in ap packet_list_change s.1))

no-new-classes : (chosen : List Edit) → AreSessions chosen → (face : ℕ) → new_classes chosen face ≡ []
no-new-classes chosen only face = ap (of_number face) (picks_nothing new_packet_change chosen (λ e there. let s = only e there in ap new_packet_change s.1))

pub sessions-said : (chosen : List Edit) → AreSessions chosen → AreSaid chosen
sessions-said chosen only = record {
  lists = λ id class there. absurd (Contains-none class (subst (λ (cs : List Class). Contains cs class) (no-classes chosen only id) there));
  new = λ face class there. absurd (Contains-none class (subst (λ (cs : List Class). Contains cs class) (no-new-classes chosen only face) there));
}
