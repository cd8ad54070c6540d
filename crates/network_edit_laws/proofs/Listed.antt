-- Chosen edits are edits of the list, and what they put into lists are destinations and classes of the document.
use Rattle.std.proofs.Common.{◌≡◌, ℕ, ◌==◌, inl, inr, Bool, true, false, Option, Some, None, List, [], ◌∷◌, refl, ap, subst, if◌then◌else◌}
use Rattle.std.specs.Prelude.{Contains, IsTrue}
use Rattle.std.specs.List.{filter_map, zip}
use Rattle.std.proofs.lemmas.Option.{none-some, same_Some}
use Rattle.arc_base.proofs.Items.{All-from, Contains-head, Contains-tail, Contains-cases, Contains-none, from_filter}
use Rattle.arc_base.specs.declared.prefix.Prefix.{Prefix}
use Rattle.net_model.specs.declared.policies.Class.{Class}
use Rattle.net_model.specs.declared.policies.Document.{Document}
use Rattle.net_model.specs.declared.rows.Network.{Network}
use Rattle.edit_list.specs.declared.edit_kinds.Edit.{Edit}
use Rattle.edit_list.specs.declared.edit_kinds.Edit.TheVariants as edits
use Rattle.edit_list.specs.Changes.{packet_list_change, new_packet_change, list_classes, new_classes}
use Rattle.edit_list.specs.EditLists.{all_edits, writable_classes, AreEdits}
use Rattle.network_edit_laws.specs.Laws.{PacketEditsAreWritable, ChosenClassesAreWritable}
use Rattle.arc_base.specs.Numbered.{if_number, of_number}
use Rattle.edit_list.specs.Prices.{if_chosen, chosen_of}
use Rattle.edit_list.specs.Writable.{is_writable}
use Rattle.edit_list.proofs.EditsFrom.{IsFrom, edit_from}
use Rattle.edit_list.proofs.NewListFacts.{picked_from}

zip_first : {X Y : Type 0} (xs : List X) (ys : List Y) (p : X × Y) → Contains (zip xs ys) p → Contains xs p.0
zip_first [] ys p there = absurd (Contains-none p there)
zip_first (x ∷ xs) [] p there = absurd (Contains-none p there)
zip_first {X} {Y} (x ∷ xs) (y ∷ ys) p there = elim (Contains-cases (x, y) p (zip xs ys) there) [
  | inl same ↦ subst (λ (z : X). Contains (x ∷ xs) z) (ap (λ (q : X × Y). q.0) same) (Contains-head x xs)
  | inr later ↦ Contains-tail x p.0 xs (zip_first xs ys p later)
]

-- a chosen edit is one of the list
pub chosen_listed : (list : List Edit) (flags : List Bool) (e : Edit) → Contains (chosen_of list flags) e → Contains list e
chosen_listed list flags e there =
    let from = picked_from if_chosen (zip list flags) e there in
    subst (λ (x : Edit). Contains list x) (by from.0.0 from.0.1 from.2) (zip_first list flags from.0 from.1)
  where
    by : (x : Edit) (b : Bool) → (if b then Some x else None) ≡ Some e → x ≡ e
    by x true h = same_Some x e h
    by x false h = absurd (none-some e h)

-- a thing of a number is among the things, with that number
numbered_there : {X : Type 0} (number : ℕ) (things : List (ℕ × X)) (x : X) → Contains (of_number number things) x → (n : ℕ) × Contains things (n, x)
numbered_there {X} number things x there =
    let from = picked_from (if_number number) things x there in
    (from.0.0, subst (λ (y : X). Contains things (from.0.0, y)) (by (from.0.0 == number) from.0.1 from.2) from.1)
  where
    by : (b : Bool) (y : X) → (if b then Some y else None) ≡ Some x → y ≡ x
    by true y h = same_Some y x h
    by false y h = absurd (none-some x h)

-- the class of an entry that the edit puts into a list
abbrev pub class_put : Edit → Option Class
class_put (edits.Session face) = None
class_put (edits.RouteList list prefix) = None
class_put (edits.RouteNew face prefix) = None
class_put (edits.PacketList list class) = Some class
class_put (edits.PacketNew face class) = Some class

listed_class : (e : Edit) (n : ℕ) (c : Class) → packet_list_change e ≡ Some (n, c) → class_put e ≡ Some c
listed_class (edits.PacketList list class) n c h = ap (λ (p : ℕ × Class). Some p.1) (same_Some (list.0, class) (n, c) h)
listed_class other n c h = absurd (none-some (n, c) h)

new_class : (e : Edit) (n : ℕ) (c : Class) → new_packet_change e ≡ Some (n, c) → class_put e ≡ Some c
new_class (edits.PacketNew face class) n c h = ap (λ (p : ℕ × Class). Some p.1) (same_Some (face.0, class) (n, c) h)
new_class other n c h = absurd (none-some (n, c) h)

module _ (chosen : List Edit) (place : ℕ) where
  pub class_of_list : (c : Class) → Contains (list_classes chosen place) c → (e : Edit) × Contains chosen e × (class_put e ≡ Some c)
  class_of_list c there =
      let n = numbered_there place (filter_map packet_list_change chosen) c there in
      let from = picked_from packet_list_change chosen (n.0, c) n.1 in
      (from.0, from.1, listed_class from.0 n.0 c from.2)

  pub class_of_new : (c : Class) → Contains (new_classes chosen place) c → (e : Edit) × Contains chosen e × (class_put e ≡ Some c)
  class_of_new c there =
      let n = numbered_there place (filter_map new_packet_change chosen) c there in
      let from = picked_from new_packet_change chosen (n.0, c) n.1 in
      (from.0, from.1, new_class from.0 n.0 c from.2)

-- the classes that edits put into lists are those of the document for which one entry can speak
module _ (net : Network) (destinations : List Prefix) (classes : List Class) where
  class_from : (e : Edit) (c : Class) → IsFrom net destinations classes e → class_put e ≡ Some c → Contains (writable_classes classes) c
  class_from (edits.PacketList list d) c from puts = subst (λ (x : Class). Contains (writable_classes classes) x) (same_Some d c puts) from.1
  class_from (edits.PacketNew face d) c from puts = subst (λ (x : Class). Contains (writable_classes classes) x) (same_Some d c puts) from.1
  class_from other c from puts = absurd (none-some c puts)

  pub class_listed : (e : Edit) (c : Class) → Contains (all_edits net destinations classes) e → class_put e ≡ Some c → Contains classes c
  class_listed e c there puts = (from_filter (λ (class : Class). is_writable class.service) classes c (class_from e c (edit_from net destinations classes e there) puts)).0

  -- it can be written
  pub class_writable : (e : Edit) (c : Class) → Contains (all_edits net destinations classes) e → class_put e ≡ Some c → IsTrue (is_writable c.service)
  class_writable e c there puts = (from_filter (λ (class : Class). is_writable class.service) classes c (class_from e c (edit_from net destinations classes e there) puts)).1

-- what the edits of a network for a document put into lists can be written
module _ (net : Network) (doc : Document) (list : List Edit) (are : AreEdits net doc list) where
  put_writable : (e : Edit) (class : Class) → Contains list e → class_put e ≡ Some class → IsTrue (is_writable class.service)
  put_writable e class there = class_writable net are.destinations are.classes e class (subst (λ (l : List Edit). Contains l e) are.all there)

  chosen_writable : (flags : List Bool) (class : Class) → (e : Edit) × Contains (chosen_of list flags) e × (class_put e ≡ Some class) → IsTrue (is_writable class.service)
  chosen_writable flags class (e, one, puts) = put_writable e class (chosen_listed list flags e one) puts

pub packet_edits_are_writable : PacketEditsAreWritable
packet_edits_are_writable net doc list are class = (
  λ at there. put_writable net doc list are (edits.PacketList at class) class there refl,
  λ face there. put_writable net doc list are (edits.PacketNew face class) class there refl,
)

pub chosen_classes_are_writable : ChosenClassesAreWritable
chosen_classes_are_writable net doc list flags are place = (
  All-from (λ (class : Class). IsTrue (is_writable class.service)) (list_classes (chosen_of list flags) place)
      (λ class there. chosen_writable net doc list are flags class (class_of_list (chosen_of list flags) place class there)),
  All-from (λ (class : Class). IsTrue (is_writable class.service)) (new_classes (chosen_of list flags) place)
      (λ class there. chosen_writable net doc list are flags class (class_of_new (chosen_of list flags) place class there)),
)
