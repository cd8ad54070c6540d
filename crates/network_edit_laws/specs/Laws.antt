-- Laws of edits, in the words of packets and prefixes.
use Rattle.std.specs.Prelude.{◌≡◌, ℕ, Bool, not, IsTrue, List, [], AllPairs, Contains, All}
use Rattle.arc_base.specs.declared.place.Face.{Face}
use Rattle.arc_base.specs.declared.place.ListId.{ListId}
use Rattle.arc_base.specs.declared.prefix.Prefix.{Prefix}
use Rattle.net_model.specs.declared.lists.Packet.{Packet}
use Rattle.net_model.specs.declared.lists.PacketEntry.{PacketEntry}
use Rattle.net_model.specs.declared.lists.RouteEntry.{RouteEntry}
use Rattle.net_model.specs.declared.policies.Class.{Class}
use Rattle.net_model.specs.declared.policies.Document.{Document}
use Rattle.net_model.specs.declared.policies.Weights.{Weights}
use Rattle.net_model.specs.declared.rows.Network.{Network}
use Rattle.net_model.specs.Lists.{permits, route_permits}
use Rattle.net_model.specs.Packets.{IsOfClass}
use Rattle.net_model.specs.Validity.{IsValid}
use Rattle.net_model.specs.Witnesses.{IsUniform}
use Rattle.edit_list.specs.declared.edit_kinds.Edit.{Edit}
use Rattle.edit_list.specs.declared.edit_kinds.Edit.TheVariants as edits
use Rattle.edit_list.specs.Changes.{list_classes, new_classes}
use Rattle.edit_list.specs.EditLists.{AreEdits}
use Rattle.edit_list.specs.Ordered.{IsKeyBefore}
use Rattle.arc_base.specs.NameForms.{IsNameBefore}
use Rattle.edit_list.specs.After.{with_prefixes, with_classes, IsAfter}
use Rattle.edit_list.specs.Prices.{price_of, chosen_of}
use Rattle.edit_list.specs.Writable.{is_writable}

-- a packet list that is uniform on classes that share no packet answers the opposite, with entries
-- for them at its front, to each packet of one of them
abbrev pub ClassesTurn : Type 0
ClassesTurn =
    (entries : List PacketEntry) (classes : List Class) → All (IsUniform entries) classes →
    (class : Class) → Contains classes class →
    (p : Packet) → IsOfClass class p →
    permits (with_classes entries classes) p ≡ not (permits entries p)

-- and as before to every other packet
abbrev pub OthersStay : Type 0
OthersStay =
    (entries : List PacketEntry) (classes : List Class) →
    (p : Packet) → ((class : Class) → Contains classes class → ¬ IsOfClass class p) →
    permits (with_classes entries classes) p ≡ permits entries p

-- a route list with entries for prefixes at its front answers the opposite to each of them
abbrev pub PrefixesTurn : Type 0
PrefixesTurn =
    (entries : List RouteEntry) (prefixes : List Prefix) (prefix : Prefix) →
    Contains prefixes prefix →
    route_permits (with_prefixes entries prefixes) prefix ≡ not (route_permits entries prefix)

-- and as before to every other prefix
abbrev pub OtherPrefixesStay : Type 0
OtherPrefixesStay =
    (entries : List RouteEntry) (prefixes : List Prefix) (prefix : Prefix) →
    ¬ Contains prefixes prefix →
    route_permits (with_prefixes entries prefixes) prefix ≡ route_permits entries prefix

-- no edits at all leave a valid network as it is, if its names and its lists are in their order
abbrev pub NoEditsChangeNothing : Type 0
NoEditsChangeNothing =
    (net : Network) → IsValid net → All (λ router. AllPairs IsNameBefore router.names) net.routers →
    AllPairs (λ l m. IsKeyBefore (l.router.0, l.name) (m.router.0, m.name)) net.packet_lists →
    AllPairs (λ l m. IsKeyBefore (l.router.0, l.name) (m.router.0, m.name)) net.route_lists →
    IsAfter net [] net

-- and no edits cost nothing
abbrev pub NoEditsCostNothing : Type 0
NoEditsCostNothing = (weights : Weights) → price_of weights [] ≡ 0

-- each packet edit in the list of edits is for a class for which one entry can speak
abbrev pub PacketEditsAreWritable : Type 0
PacketEditsAreWritable =
    (net : Network) (doc : Document) (list : List Edit) → AreEdits net doc list → (class : Class) →
    ((at : ListId) → Contains list (edits.PacketList at class) →
    IsTrue (is_writable class.service)) ×
    ((face : Face) → Contains list (edits.PacketNew face class) →
    IsTrue (is_writable class.service))

-- so each class that chosen edits add to a list, an existing or a new one, is one that one entry
-- can write
abbrev pub ChosenClassesAreWritable : Type 0
ChosenClassesAreWritable =
    (net : Network) (doc : Document) (list : List Edit) (flags : List Bool) →
    AreEdits net doc list → (place : ℕ) →
    All (λ class. IsTrue (is_writable class.service)) (list_classes (chosen_of list flags) place) ×
    All (λ class. IsTrue (is_writable class.service)) (new_classes (chosen_of list flags) place)
