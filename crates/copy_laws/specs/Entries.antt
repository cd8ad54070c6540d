-- Lists of a copy whose entries were widened, left out or added.
use Rattle.std.specs.Prelude.{◌≡◌, ◌≢◌, ℕ, Bool, true, false, ◌&&◌, IsTrue, IsFalse, Option, Some}
use Rattle.std.specs.Prelude.{IfSome, IsSomeAnd, List, [], ◌∷◌, map, cond, slice_get}
use Rattle.std.specs.List.{find}
use Rattle.std.specs.Option.{option_map_or}
use Rattle.arc_base.specs.declared.place.ListId.{ListId}
use Rattle.net_model.specs.declared.lists.PacketEntry.{PacketEntry}
use Rattle.net_model.specs.declared.lists.PacketList.{PacketList}
use Rattle.net_model.specs.declared.policies.Policy.{Policy}
use Rattle.net_model.specs.declared.rows.FaceRow.{FaceRow}
use Rattle.net_model.specs.declared.rows.Network.{Network}
use Rattle.net_model.specs.Lists.{matches, permits}
use Rattle.net_model.specs.Policies.{Meets}
use Rattle.copy_laws.specs.Passing.{DifferInLists, IsBarring, IsReach, RealPacket, RealNetwork}
use Rattle.copy_laws.specs.Passing.{MeetsReally, PermitsMoreReally, PermitsFewerReally}

-- an entry with a further condition, as `established`, a source port or an ICMP type: the entry
-- without it, and which packets meet it
pub record CloseEntry : Type 0 where
  pub entry : PacketEntry
  pub only : RealPacket → Bool

-- whether the entry with its condition matches the packet
abbrev pub close_matches : RealPacket → CloseEntry → Bool
close_matches x e = matches x.seen e.entry && e.only x

-- whether the list of such entries permits the packet: the answer of its first entry that matches,
-- and no where none does
abbrev pub close_permits : List CloseEntry → RealPacket → Bool
close_permits entries x = option_map_or (λ e. e.entry.permit) (find (close_matches x) entries) false

-- an entry of the model as one with a condition that each packet meets
abbrev pub plain : PacketEntry → CloseEntry
plain entry = record { entry = entry; only = λ x. true }

-- each packet that the one entry matches, the other does
abbrev pub IsWithin : CloseEntry → CloseEntry → Type 0
IsWithin e f = (x : RealPacket) → IsTrue (close_matches x e) → IsTrue (close_matches x f)

-- The second list is the first one with entries changed so that more packets pass. An entry that
-- stays as it is is widened, or narrowed, to itself.
pub data PassesMore : List CloseEntry → List CloseEntry → Type 0 where
  -- at the end
  done : PassesMore [] []
  -- a permit is widened
  widened : {e f : CloseEntry} {es fs : List CloseEntry} → IsTrue e.entry.permit →
      IsTrue f.entry.permit → IsWithin e f → PassesMore es fs → PassesMore (e ∷ es) (f ∷ fs)
  -- a permit is added
  added : {f : CloseEntry} {es fs : List CloseEntry} → IsTrue f.entry.permit →
      PassesMore es fs → PassesMore es (f ∷ fs)
  -- a deny is narrowed
  narrowed : {e f : CloseEntry} {es fs : List CloseEntry} → IsFalse e.entry.permit →
      IsFalse f.entry.permit → IsWithin f e → PassesMore es fs → PassesMore (e ∷ es) (f ∷ fs)
  -- a deny is left out
  left_out : {e : CloseEntry} {es fs : List CloseEntry} → IsFalse e.entry.permit →
      PassesMore es fs → PassesMore (e ∷ es) fs

-- The second list is the first one with entries changed so that fewer packets pass.
pub data PassesFewer : List CloseEntry → List CloseEntry → Type 0 where
  -- at the end
  done : PassesFewer [] []
  -- a permit is narrowed
  narrowed : {e f : CloseEntry} {es fs : List CloseEntry} → IsTrue e.entry.permit →
      IsTrue f.entry.permit → IsWithin f e → PassesFewer es fs → PassesFewer (e ∷ es) (f ∷ fs)
  -- a permit is left out
  left_out : {e : CloseEntry} {es fs : List CloseEntry} → IsTrue e.entry.permit →
      PassesFewer es fs → PassesFewer (e ∷ es) fs
  -- a deny is widened
  widened : {e f : CloseEntry} {es fs : List CloseEntry} → IsFalse e.entry.permit →
      IsFalse f.entry.permit → IsWithin e f → PassesFewer es fs → PassesFewer (e ∷ es) (f ∷ fs)
  -- a deny is added
  added : {f : CloseEntry} {es fs : List CloseEntry} → IsFalse f.entry.permit →
      PassesFewer es fs → PassesFewer es (f ∷ fs)

-- with entries changed so that more pass, a list permits each packet that it permitted before
abbrev pub MorePass : Type 0
MorePass =
    (real copy : List CloseEntry) → PassesMore real copy →
    (x : RealPacket) → IsTrue (close_permits real x) → IsTrue (close_permits copy x)

-- with entries changed so that fewer pass, it permits no others
abbrev pub FewerPass : Type 0
FewerPass =
    (real copy : List CloseEntry) → PassesFewer real copy →
    (x : RealPacket) → IsTrue (close_permits copy x) → IsTrue (close_permits real x)

-- a condition only narrows an entry: widened, it matches all packets that the model's entry matches
abbrev pub ConditionsNarrow : Type 0
ConditionsNarrow = (e : CloseEntry) → IsWithin e (plain e.entry)

-- entries without a condition are those of the model
abbrev pub PlainIsModel : Type 0
PlainIsModel =
    (entries : List PacketEntry) (x : RealPacket) →
    close_permits (map plain entries) x ≡ permits entries x.seen

-- the entries that act on the packet: those whose condition it meets
abbrev pub acting : List CloseEntry → RealPacket → List PacketEntry
acting [] x = []
acting (e ∷ es) x = cond (e.only x) (e.entry ∷ acting es x) (acting es x)

-- such a list does with a packet what the list of the model does that has the entries that act on
-- it
abbrev pub ActingDecides : Type 0
ActingDecides =
    (entries : List CloseEntry) (x : RealPacket) →
    close_permits entries x ≡ permits (acting entries x) x.seen

-- whether packets pass an interface where a list with these entries is bound: a list without
-- entries is not defined, and all pass
abbrev pub bound_permits : List CloseEntry → RealPacket → Bool
bound_permits [] x = true
bound_permits (e ∷ es) x = close_permits (e ∷ es) x

-- where the router has entries in the list, more pass where it is bound, even if the copy has none
-- left
abbrev pub MorePassBound : Type 0
MorePassBound =
    (real copy : List CloseEntry) → PassesMore real copy → real ≢ [] →
    (x : RealPacket) → IsTrue (bound_permits real x) → IsTrue (bound_permits copy x)

-- where the copy has entries left in the list, fewer pass
abbrev pub FewerPassBound : Type 0
FewerPassBound =
    (real copy : List CloseEntry) → PassesFewer real copy → copy ≢ [] →
    (x : RealPacket) → IsTrue (bound_permits copy x) → IsTrue (bound_permits real x)

-- but the last entry may not be left out: of a list of one permit nothing is left where fewer are
-- to pass, and then a packet passes that the entry does not match and the router drops
abbrev pub LastEntryCounts : Type 0
LastEntryCounts =
    (e : CloseEntry) (x : RealPacket) → IsTrue e.entry.permit → IsFalse (close_matches x e) →
    PassesFewer (e ∷ []) [] × IsTrue (bound_permits [] x) × IsFalse (bound_permits (e ∷ []) x)

-- nor may a permit be added to a list that has no entries: then a packet is dropped that the entry
-- does not match and the router passes
abbrev pub FirstEntryCounts : Type 0
FirstEntryCounts =
    (e : CloseEntry) (x : RealPacket) → IsTrue e.entry.permit → IsFalse (close_matches x e) →
    PassesMore [] (e ∷ []) × IsTrue (bound_permits [] x) × IsFalse (bound_permits (e ∷ []) x)

-- a packet list of a network with the conditions of its entries; one without entries is not
-- defined, and no network has it
pub record CloseList : Type 0 where
  pub row : PacketList
  pub entries : List CloseEntry

-- the list as it acts on the packet
abbrev pub acting_list : RealPacket → CloseList → PacketList
acting_list x list = record list.row { entries = acting list.entries x }

-- the network as it is, whose packet lists have these entries
abbrev pub with_lists : Network → List CloseList → RealNetwork
with_lists net lists x = record net { packet_lists = map (acting_list x) lists }

-- where the router has this list, the copy has this one, made of it by changes of entries
pub record IsMadeOf (lists : List CloseList) (copy : Network)
    (Made : List CloseEntry → List CloseEntry → Type 0) (was now : ListId) : Type 0 where
  pub list : CloseList
  pub list_is : slice_get lists was.0 ≡ Some list
  pub made : PacketList
  pub made_is : slice_get copy.packet_lists now.0 ≡ Some made
  pub changes : Made list.entries (map plain made.entries)

-- the copy has no list here, or one made of the router's by changes with which more packets pass
abbrev pub HasWider : List CloseList → Network → Option ListId → Option ListId → Type 0
HasWider lists copy was now =
    IfSome now (λ id. IsSomeAnd was (λ old. IsMadeOf lists copy PassesMore old id))

-- the router has no list here, or the copy has one made of it by changes with which fewer pass
abbrev pub HasNarrower : List CloseList → Network → Option ListId → Option ListId → Type 0
HasNarrower lists copy was now =
    IfSome was (λ old. IsSomeAnd now (λ id. IsMadeOf lists copy PassesFewer old id))

-- this is so of the lists inbound and outbound at each interface
abbrev pub EachFace : Network → Network → (Option ListId → Option ListId → Type 0) → Type 0
EachFace net copy Related =
    (place : ℕ) (f g : FaceRow) → slice_get net.faces place ≡ Some f →
    slice_get copy.faces place ≡ Some g →
    Related f.list_in g.list_in × Related f.list_out g.list_out

-- a copy whose lists are made of the routers' by widening or adding permits and narrowing or
-- leaving out denies permits each packet wherever the network as it is does
abbrev pub WiderListsPermitMore : Type 0
WiderListsPermitMore =
    (net copy : Network) (lists : List CloseList) → DifferInLists net copy →
    EachFace net copy (HasWider lists copy) → PermitsMoreReally (with_lists net lists) copy

-- and one whose lists are made the other way round permits a packet only where the network does
abbrev pub NarrowerListsPermitFewer : Type 0
NarrowerListsPermitFewer =
    (net copy : Network) (lists : List CloseList) → DifferInLists net copy →
    EachFace net copy (HasNarrower lists copy) → PermitsFewerReally (with_lists net lists) copy

-- so a yes of blocked or through over a copy of the first sort is true of the network as it is
abbrev pub WiderListsKeepBarred : Type 0
WiderListsKeepBarred =
    (net copy : Network) (lists : List CloseList) → DifferInLists net copy →
    EachFace net copy (HasWider lists copy) →
    (policy : Policy) → IsBarring policy.kind → Meets copy policy →
    MeetsReally (with_lists net lists) policy

-- and a yes of reach over one of the second
abbrev pub NarrowerListsKeepReach : Type 0
NarrowerListsKeepReach =
    (net copy : Network) (lists : List CloseList) → DifferInLists net copy →
    EachFace net copy (HasNarrower lists copy) →
    (policy : Policy) → IsReach policy.kind → Meets copy policy →
    MeetsReally (with_lists net lists) policy
