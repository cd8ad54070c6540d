-- No list stops the routing protocol after the edits that did not before: the packets that edits deny come from host networks, and the protocol's
-- own packets come from the interfaces of links.
use Rattle.std.proofs.Common.{◌≡◌, ◌≢◌, ℕ, ◌+◌, ◌^◌, ◌<◌, ◌==◌, ◌&&◌, inl, inr, Bool, true, false, cond, Option, Some, None, List, [], ◌∷◌, map, refl, sym, ◌∙◌, ap, subst, arith, IsTrue, find}
use Rattle.std.specs.Prelude.{Contains, IfSome, IsSomeAnd, MatchBool, is_some, slice_get, option_map}
use Rattle.std.specs.Option.{option_map_or}
use Rattle.std.proofs.lemmas.Bool.{eqb-true, false≢true, and_parts, and_from, false_from_ne_true}
use Rattle.std.proofs.lemmas.Option.{none-some, same_Some}
use Rattle.arc_base.specs.Addresses.{IsInside, Holds, holds, AreDisjoint, size}
use Rattle.arc_base.specs.declared.place.Face.{Face}
use Rattle.arc_base.specs.declared.place.ListId.{ListId}
use Rattle.arc_base.specs.declared.prefix.Prefix.{Prefix}
use Rattle.arc_base.specs.declared.refusal.Kind.TheVariants as kinds
use Rattle.arc_base.proofs.Items.{Contains-head, Contains-tail, Contains-cases, Contains-none}
use Rattle.net_model.specs.declared.lists.Packet.{Packet}
use Rattle.net_model.specs.declared.lists.PacketEntry.{PacketEntry}
use Rattle.net_model.specs.declared.lists.PacketList.{PacketList}
use Rattle.net_model.specs.declared.policies.Class.{Class}
use Rattle.net_model.specs.declared.policies.Document.{Document}
use Rattle.net_model.specs.declared.rows.FaceRow.{FaceRow}
use Rattle.net_model.specs.declared.rows.LinkRow.{LinkRow}
use Rattle.net_model.specs.declared.rows.RouterRow.{RouterRow}
use Rattle.net_model.specs.declared.rows.SessionRow.{SessionRow}
use Rattle.net_model.specs.declared.rows.Network.{Network}
use Rattle.net_model.specs.declared.rows.Protocol.{Protocol}
use Rattle.net_model.specs.declared.rows.Protocol.TheVariants.{Ospf, Bgp}
use Rattle.net_model.specs.declared.services.Service.{Service}
use Rattle.net_model.specs.Forwarding.{HasHost}
use Rattle.net_model.specs.Lists.{matches, permits}
use Rattle.net_model.specs.Packets.{IsOfClass}
use Rattle.net_model.specs.Services.{Serves, serves, whole_service}
use Rattle.net_model.specs.Routing.{Arc, IsArc, IsAbleEnd, TakesPart, Names, session_at, tail_end, tail_face, head_face}
use Rattle.net_model.specs.Validity.{EndsAt, IsLinkEnd, AreApart}
use Rattle.net_model.proofs.Readings.{item_at_place, place_of_item}
use Rattle.net_model.proofs.ServiceRanges.{bounds, serve}
use Rattle.ios_config.specs.declared.settings.Config.{Config}
use Rattle.net_rules.specs.Lists.{IsPlaceAmong, packet_list_key}
use Rattle.net_rules.specs.Reasons.{NoRefusal}
use Rattle.net_rules.specs.Rows.{AreRows, IsSubnet}
use Rattle.net_rules.specs.Settings.{value, address_of}
use Rattle.net_rules.specs.Sites.{Site}
use Rattle.net_rules.specs.Stops.{IsAble, IsNeeded, targets, session_services, Denies, StopsPackets, RefusesListStopsSession}
use Rattle.traffic_classes.proofs.Ranges.{range_holds, holds_range, ends_below}
use Rattle.edit_list.specs.declared.edit_kinds.Edit.{Edit}
use Rattle.edit_list.specs.declared.edit_kinds.Edit.TheVariants as edits
use Rattle.edit_list.specs.Changes.{list_classes, new_classes}
use Rattle.arc_base.specs.Numbered.{is_empty}
use Rattle.edit_list.specs.After.{IsAfter, IsFaceAfter, IsSessionAfter, IsRouterAfter, StaysBound, PacketListMoves}
use Rattle.edit_list.specs.After.{IsNewPacketList, edited_packet_list, with_classes, class_entry, new_packet_entries, any, every_packet}
use Rattle.edit_list.proofs.RowFacts.{row_was}
use Rattle.network_edit_laws.proofs.Turning.{staying_packets}
use Rattle.ios_config.specs.declared.settings.Given.{Given}
use Rattle.settings_edit_laws.proofs.Edited.{AreEdited, face_site, packet_edit_of}
use Rattle.settings_edit_laws.proofs.Pairs.{any_of, of_any}
use Rattle.network_edit_laws.proofs.Changed.{packet_list_in}
use Rattle.settings_edit_laws.proofs.SessionFacts.{session_there, find_in}
use Rattle.settings_edit_laws.proofs.Sites.{given_of_value}

-- an address of a prefix is one of 32 bits, and the prefix of all addresses holds each of these
held_small : (p : Prefix) (a : ℕ) → Holds p a → a < 2 ^ 32
held_small p a held = omega (arith, (range_holds p a held).1, ends_below p)

any_holds : (a : ℕ) → a < 2 ^ 32 → Holds any a
any_holds a low =
    let whole : size any ≡ 2 ^ 32 = refl in
    holds_range any a (omega arith) (omega (arith, low, whole))

-- the packet's addresses are of 32 bits, and its service of 24
record IsSmall (p : Packet) : Type 0 where
  from : p.from < 2 ^ 32
  to : p.to < 2 ^ 32
  service : p.service < 2 ^ 24

every_matches : (p : Packet) → IsSmall p → matches p every_packet ≡ true
every_matches p small =
    let service : p.service < 2 ^ 24 = small.service in
    and_from (holds any p.from && holds any p.to) (serves whole_service p.service)
    (and_from (holds any p.from) (holds any p.to) (any_holds p.from small.from) (any_holds p.to small.to)) (serve whole_service p.service (omega arith) (omega (arith, service)))

-- a new list permits each packet that is of none of its classes
new_list_permits : (classes : List Class) (p : Packet) → IsSmall p → ((class : Class) → Contains classes class → ¬ IsOfClass class p) → permits (new_packet_entries classes) p ≡ true
new_list_permits [] p small none = ap (λ b. option_map_or (λ (e : PacketEntry). e.permit) (cond b (Some every_packet) None) false) (every_matches p small)
new_list_permits (c ∷ cs) p small none =
    ap (λ b. option_map_or (λ (e : PacketEntry). e.permit) (cond b (Some (class_entry false c)) (find (matches p) (new_packet_entries cs))) false)
    (false_from_ne_true (matches p (class_entry false c)) (λ hit.
    let all = and_parts (holds c.from p.from && holds c.to p.to) (serves c.service p.service) hit in
    let ends = and_parts (holds c.from p.from) (holds c.to p.to) all.0 in
    none c (Contains-head c cs) (ends.0, ends.1, all.1))) ∙
    new_list_permits cs p small (λ d there. none d (Contains-tail c d cs there))

-- the addresses to which the protocol's packets go are of 32 bits
target_small : (p : Protocol) (own : ℕ) → own < 2 ^ 32 → (to : ℕ) → Contains (targets p own) to → to < 2 ^ 32
target_small Bgp own low to there = elim (Contains-cases own to [] there) [ inl same ↦ omega (arith, same, low) | inr later ↦ absurd (Contains-none to later) ]
target_small Ospf own low to there = elim (Contains-cases 3758096389 to (3758096390 ∷ own ∷ []) there) [
  | inl same ↦ omega (arith, same)
  | inr later ↦ elim (Contains-cases 3758096390 to (own ∷ []) later) [
    | inl same ↦ omega (arith, same)
    | inr last ↦ elim (Contains-cases own to [] last) [ inl same ↦ omega (arith, same, low) | inr none ↦ absurd (Contains-none to none) ]
  ]
]

-- a packet that the protocol needs between such addresses is small
needed_small : (protocol : Protocol) (from own : ℕ) (p : Packet) → from < 2 ^ 32 → own < 2 ^ 32 → IsNeeded protocol from own p → IsSmall p
needed_small protocol from own p from_low own_low needed =
    let range = of_any (λ (s : Service). Serves s p.service) (session_services protocol) needed.service in
    let most = (bounds range.0 p.service range.2).1 in
    record {
      from = omega (arith, needed.source, from_low);
      to = target_small protocol own own_low p.to needed.target;
      service = omega (arith, most, range.0.in_range);
    }

-- an edit that puts an entry for the class in front of the list
list_edit_there : (chosen : List Edit) (place : ℕ) (class : Class) → Contains (list_classes chosen place) class → (list : ListId) × Contains chosen (edits.PacketList list class)
list_edit_there chosen place class there = (record { 0 = place }, packet_list_in chosen (record { 0 = place }) class there)

module _ (doc : Document) (net : Network) (old new : List Config) (chosen : List Edit) (g : AreEdited doc net old new chosen) (after : Network) (is : IsAfter net chosen after)
    (one : (other : Network) → AreRows doc new other → other ≡ after) where
  -- the address of an interface lies in its subnet
  own_subnet : (k : ℕ) (row : FaceRow) (a : ℕ) → slice_get net.faces k ≡ Some row → row.addr ≡ Some a → (q : Prefix) × (row.subnet ≡ Some q) × Holds q a
  own_subnet k row a at addr =
      let s = face_site doc net old new chosen g k row at in
      by (address_of s.0.face) (sym s.2.addr ∙ addr) row.subnet refl s.2.subnet
    where
      by : (o : Option (ℕ × ℕ)) → option_map (λ (x : ℕ × ℕ). x.0) o ≡ Some a → (n : Option Prefix) → row.subnet ≡ n → IsSubnet o n → (q : Prefix) × (row.subnet ≡ Some q) × Holds q a
      by None e n is_n h = absurd (none-some a e)
      by (Some x) e None is_n h = absurd h
      by (Some x) e (Some q) is_n h = (q, is_n, subst (λ (b : ℕ). Holds q b) (same_Some x.0 a e) h.1)

  -- no link's end has an address in a host network
  not_in_host : (p : Prefix) → HasHost net p → (k : ℕ) (row : FaceRow) (a : ℕ) → slice_get net.faces k ≡ Some row → IsLinkEnd net k → row.addr ≡ Some a → Holds p a → ⊥
  not_in_host p (face, h) k row a at is_end addr held = by face.host refl h.lies
    where
      place : (j : ℕ) × (slice_get net.faces j ≡ Some face)
      place = place_of_item net.faces face h.is_face

      own : (q : Prefix) × (row.subnet ≡ Some q) × Holds q a
      own = own_subnet k row a at addr

      apart_not : (s : Prefix) → face.subnet ≡ Some s → Holds s a → AreApart face row → ⊥
      apart_not s is_s in_s apart = disjoint a in_s own.2
        where
          disjoint : AreDisjoint s own.0
          disjoint = subst (λ (o : Option Prefix). IfSome o (AreDisjoint s)) own.1 (subst (λ (o : Option Prefix). IfSome o (λ p. IfSome row.subnet (AreDisjoint p))) is_s apart)

      of_host : (host : Prefix) → IsInside p host → (¬ IsLinkEnd net place.0) × (s : Prefix) × (face.subnet ≡ Some s) × IsInside host s → ⊥
      of_host host inside valid_host =
          let differ : place.0 ≢ k = λ same. valid_host.0 (subst (λ (i : ℕ). IsLinkEnd net i) (sym same) is_end) in
          elim (g.valid.subnets place.0 k face row place.1 at differ) [
            | inl linked ↦ let l = of_any (λ (link : LinkRow). EndsAt link place.0 × EndsAt link k) net.links linked in valid_host.0
                (any_of (λ (link : LinkRow). EndsAt link place.0) net.links l.0 l.1 l.2.0)
            | inr apart ↦ apart_not valid_host.1 valid_host.2 (valid_host.3 a (inside a held)) apart
          ]

      by : (o : Option Prefix) → face.host ≡ o → IsSomeAnd o (IsInside p) → ⊥
      by None e lies = lies
      by (Some host) e lies =
          of_host host lies (subst (λ (o : Option Prefix). IfSome o (λ q. (¬ IsLinkEnd net place.0) × (s : Prefix) × (face.subnet ≡ Some s) × IsInside q s)) e
          (g.valid.faces place.0 face place.1).host)

  module _ (arc : Arc) (is_arc : IsArc after arc) (able : IsAble after arc) (stops : StopsPackets after arc.tail arc.head) where
    tail_was : (was : FaceRow) × (slice_get net.faces (tail_face arc).0 ≡ Some was) × IsFaceAfter net chosen after (tail_face arc).0 was arc.tail
    tail_was = row_was (IsFaceAfter net chosen after) net.faces after.faces is.faces (tail_face arc).0 arc.tail is_arc.tail

    head_was : (was : FaceRow) × (slice_get net.faces (head_face arc).0 ≡ Some was) × IsFaceAfter net chosen after (head_face arc).0 was arc.head
    head_was = row_was (IsFaceAfter net chosen after) net.faces after.faces is.faces (head_face arc).0 arc.head is_arc.head

    abbrev arc_was : Arc
    arc_was = record { link = arc.link; from_a = arc.from_a; row = arc.row; tail = tail_was.0; head = head_was.0 }

    link_was : slice_get net.links arc.link ≡ Some arc.row
    link_was = ap (λ (ls : List LinkRow). slice_get ls arc.link) (sym is.links) ∙ is_arc.link

    is_arc_was : IsArc net arc_was
    is_arc_was = record { link = link_was; tail = tail_was.1; head = head_was.1 }

    tail_is_end : IsLinkEnd net (tail_face arc).0
    tail_is_end = any_of (λ (link : LinkRow). EndsAt link (tail_face arc).0) net.links arc.row (item_at_place net.links arc.link arc.row link_was) (by arc.from_a)
      where
        by : (from : Bool) → EndsAt arc.row (tail_end arc.row from).0
        by true = inl refl
        by false = inr refl

    router_was : (k asn : ℕ) → IsSomeAnd (slice_get after.routers k) (λ r. asn ≡ r.asn) → IsSomeAnd (slice_get net.routers k) (λ r. asn ≡ r.asn)
    router_was k asn h = by (slice_get after.routers k) refl h
      where
        by : (o : Option RouterRow) → slice_get after.routers k ≡ o → IsSomeAnd o (λ r. asn ≡ r.asn) → IsSomeAnd (slice_get net.routers k) (λ r. asn ≡ r.asn)
        by None e p = absurd p
        by (Some now) e p =
            let was = row_was (IsRouterAfter net chosen) net.routers after.routers is.routers k now e in
            subst (λ (o : Option RouterRow). IsSomeAnd o (λ r. asn ≡ r.asn)) (sym was.1) (p ∙ was.2.asn)

    able_end_was : (face : Face) (near near_was far far_was : FaceRow) (i j : ℕ) → IsFaceAfter net chosen after i near_was near → IsFaceAfter net chosen after j far_was far →
        IsAbleEnd after (session_at after face) near far → IsAbleEnd net (session_at net face) near_was far_was
    able_end_was face near near_was far far_was i j n f a = record {
      up = subst (λ (b : Bool). IsTrue b) (ap (λ (x : FaceRow). x.up) n.same) a.up;
      addressed = ap is_some (sym (ap (λ (x : FaceRow). x.addr) n.same)) ∙ a.addressed;
      takes_part = part net.protocol refl (subst (λ (p : Protocol). TakesPart p after (session_at after face) near far) is.protocol a.takes_part);
    }
      where
        session_part : (o : Option SessionRow) → session_at after face ≡ o → IsSomeAnd o (λ s. Names after s far) → IsSomeAnd (session_at net face) (λ s. Names net s far_was)
        session_part None e h = absurd h
        session_part (Some s) e h =
            let found = find_in (λ (t : SessionRow). t.face.0 == face.0) after.sessions s e in
            let place = place_of_item after.sessions s found.0 in
            let was = row_was (IsSessionAfter net chosen after) net.sessions after.sessions is.sessions place.0 s place.1 in
            let same_face : s.face.0 ≡ was.0.face.0 = ap (λ (t : SessionRow). t.face.0) was.2.same in
            let there : session_at net face ≡ Some was.0 = session_there net g.valid face was.0 (item_at_place net.sessions place.0 was.0 was.1) (sym same_face ∙ eqb-true s.face.0 face.0 found.1) in
            let remote : s.remote ≡ was.0.remote = ap (λ (t : SessionRow). t.remote) was.2.same in
            let router : far.router.0 ≡ far_was.router.0 = ap (λ (x : FaceRow). x.router.0) f.same in
            let named : Names net was.0 far_was = (
              ap (λ (x : FaceRow). x.addr) (sym f.same) ∙ h.0 ∙ ap (λ (t : SessionRow). Some t.peer) was.2.same,
              subst (λ (asn : ℕ). IsSomeAnd (slice_get net.routers far_was.router.0) (λ r. asn ≡ r.asn)) remote
                  (subst (λ (k : ℕ). IsSomeAnd (slice_get net.routers k) (λ r. s.remote ≡ r.asn)) router (router_was far.router.0 s.remote h.1)),
            ) in
            subst (λ (o : Option SessionRow). IsSomeAnd o (λ t. Names net t far_was)) (sym there) named

        part : (p : Protocol) → net.protocol ≡ p → TakesPart net.protocol after (session_at after face) near far → TakesPart net.protocol net (session_at net face) near_was far_was
        part Ospf e h = subst (λ (p : Protocol). TakesPart p net (session_at net face) near_was far_was) (sym e)
            (subst (λ (b : Bool). IsTrue b) (ap (λ (x : FaceRow). x.enabled) n.same) (subst (λ (p : Protocol). TakesPart p after (session_at after face) near far) e h))
        part Bgp e h = subst (λ (p : Protocol). TakesPart p net (session_at net face) near_was far_was) (sym e)
            (session_part (session_at after face) refl (subst (λ (p : Protocol). TakesPart p after (session_at after face) near far) e h))

    able_was : IsAble net arc_was
    able_was = record {
      tail = able_end_was (tail_face arc) arc.tail tail_was.0 arc.head head_was.0 (tail_face arc).0 (head_face arc).0 tail_was.2 head_was.2 able.tail;
      head = able_end_was (head_face arc) arc.head head_was.0 arc.tail tail_was.0 (head_face arc).0 (tail_face arc).0 head_was.2 tail_was.2 able.head;
    }

    from_was : tail_was.0.addr ≡ Some stops.from
    from_was = sym (ap (λ (x : FaceRow). x.addr) tail_was.2.same) ∙ stops.from_is

    own_was : head_was.0.addr ≡ Some stops.own
    own_was = sym (ap (λ (x : FaceRow). x.addr) head_was.2.same) ∙ stops.own_is

    from_small : stops.from < 2 ^ 32
    from_small = let q = own_subnet (tail_face arc).0 tail_was.0 stops.from tail_was.1 from_was in held_small q.0 stops.from q.2

    own_small : stops.own < 2 ^ 32
    own_small = let q = own_subnet (head_face arc).0 head_was.0 stops.own head_was.1 own_was in held_small q.0 stops.own q.2

    -- a class of the edits has no packet of the protocol
    of_no_class : (class : Class) → HasHost net class.from → (p : Packet) → p.from ≡ stops.from → ¬ IsOfClass class p
    of_no_class class host p source of =
        not_in_host class.from host (tail_face arc).0 tail_was.0 stops.from tail_was.1 tail_is_end from_was (subst (λ (a : ℕ). Holds class.from a) source of.0)

    abbrev DeniesAt : ListId → Type 0
    DeniesAt id = IsSomeAnd (slice_get net.packet_lists id.0) (λ list. Denies net.protocol list.entries stops.from stops.own)

    denies_was : (id now : ListId) → PacketListMoves net chosen after id now →
        IsSomeAnd (slice_get after.packet_lists now.0) (λ list. Denies after.protocol list.entries stops.from stops.own) → DeniesAt id
    denies_was id now moves denies = by (slice_get net.packet_lists id.0) refl moves
      where
        same_answer : (list : PacketList) (p : Packet) → p.from ≡ stops.from → permits (with_classes list.entries (list_classes chosen id.0)) p ≡ permits list.entries p
        same_answer list p source = staying_packets list.entries (list_classes chosen id.0) p (λ class there.
            let e = list_edit_there chosen id.0 class there in
            of_no_class class (g.fits (edits.PacketList e.0 class) e.1) p source)

        by : (o : Option PacketList) → slice_get net.packet_lists id.0 ≡ o →
            IsSomeAnd o (λ list. slice_get after.packet_lists now.0 ≡ Some (edited_packet_list chosen id.0 list)) →
            IsSomeAnd (slice_get net.packet_lists id.0) (λ list. Denies net.protocol list.entries stops.from stops.own)
        by None e h = absurd h
        by (Some list) e h =
            let now_denies : Denies after.protocol (with_classes list.entries (list_classes chosen id.0)) stops.from stops.own =
            subst (λ (o : Option PacketList). IsSomeAnd o (λ l. Denies after.protocol l.entries stops.from stops.own)) h denies in
            let (p, needed, denied) = now_denies in
            subst (λ (o : Option PacketList). IsSomeAnd o (λ l. Denies net.protocol l.entries stops.from stops.own)) (sym e)
            (p, subst (λ (protocol : Protocol). IsNeeded protocol stops.from stops.own p) is.protocol needed, sym (same_answer list p needed.source) ∙ denied)

    new_denies_none : (now : ListId) → IsSomeAnd (slice_get after.packet_lists now.0) (IsNewPacketList net chosen (record { 0 = (head_face arc).0 })) →
        IsSomeAnd (slice_get after.packet_lists now.0) (λ list. Denies after.protocol list.entries stops.from stops.own) → ⊥
    new_denies_none now made denies = by (slice_get after.packet_lists now.0) made denies
      where
        by : (o : Option PacketList) → IsSomeAnd o (IsNewPacketList net chosen (record { 0 = (head_face arc).0 })) → IsSomeAnd o (λ list. Denies after.protocol list.entries stops.from stops.own) → ⊥
        by None m h = h
        by (Some list) m h =
            let (p, needed, denied) = h in
            let permitted : permits list.entries p ≡ true =
            ap (λ (es : List PacketEntry). permits es p) m.entries ∙
            new_list_permits (new_classes chosen (head_face arc).0) p (needed_small after.protocol stops.from stops.own p from_small own_small needed) (λ class there.
            let e = packet_edit_of chosen (head_face arc).0 class there in
            of_no_class class (g.fits (edits.PacketNew e.0 class) e.1).0 p needed.source) in
            false≢true (sym denied ∙ permitted)

    -- so the list that was bound stopped the protocol before
    record StopsBefore : Type 0 where
      id : ListId
      bound : head_was.0.list_in ≡ Some id
      denies : DeniesAt id

    stops_before : StopsBefore
    stops_before = by arc.head.list_in refl stops.denies head_was.0.list_in refl (is_empty (new_classes chosen (head_face arc).0)) refl head_was.2.list_in
      where
        by : (n : Option ListId) → arc.head.list_in ≡ n → IsSomeAnd n (λ id. IsSomeAnd (slice_get after.packet_lists id.0) (λ list. Denies after.protocol list.entries stops.from stops.own)) →
            (w : Option ListId) → head_was.0.list_in ≡ w → (b : Bool) → is_empty (new_classes chosen (head_face arc).0) ≡ b →
            MatchBool (is_empty (new_classes chosen (head_face arc).0)) (StaysBound (PacketListMoves net chosen after) head_was.0.list_in arc.head.list_in)
            (IsSomeAnd arc.head.list_in (λ id. IsSomeAnd (slice_get after.packet_lists id.0) (IsNewPacketList net chosen (record { 0 = (head_face arc).0 })))) → StopsBefore
        by None en denies w ew b eb h = absurd denies
        by (Some now) en denies w ew false eb h =
            let made : IsSomeAnd arc.head.list_in (λ id. IsSomeAnd (slice_get after.packet_lists id.0) (IsNewPacketList net chosen (record { 0 = (head_face arc).0 }))) =
            subst (λ (c : Bool). MatchBool c (StaysBound (PacketListMoves net chosen after) head_was.0.list_in arc.head.list_in)
            (IsSomeAnd arc.head.list_in (λ id. IsSomeAnd (slice_get after.packet_lists id.0) (IsNewPacketList net chosen (record { 0 = (head_face arc).0 }))))) eb h in
            absurd (new_denies_none now
            (subst (λ (o : Option ListId). IsSomeAnd o (λ id. IsSomeAnd (slice_get after.packet_lists id.0) (IsNewPacketList net chosen (record { 0 = (head_face arc).0 })))) en made) denies)
        by (Some now) en denies w ew true eb h =
            let stays : StaysBound (PacketListMoves net chosen after) head_was.0.list_in arc.head.list_in =
            subst (λ (c : Bool). MatchBool c (StaysBound (PacketListMoves net chosen after) head_was.0.list_in arc.head.list_in)
            (IsSomeAnd arc.head.list_in (λ id. IsSomeAnd (slice_get after.packet_lists id.0) (IsNewPacketList net chosen (record { 0 = (head_face arc).0 }))))) eb h in
            inner w ew (subst (λ (o : Option ListId). StaysBound (PacketListMoves net chosen after) o (Some now)) ew
            (subst (λ (o : Option ListId). StaysBound (PacketListMoves net chosen after) head_was.0.list_in o) en stays))
          where
            inner : (w : Option ListId) → head_was.0.list_in ≡ w → StaysBound (PacketListMoves net chosen after) w (Some now) → StopsBefore
            inner None ew h = absurd (none-some now (sym h))
            inner (Some id) ew h = record { id = id; bound = ew; denies = denies_was id now h denies }

    stops_was : StopsPackets net tail_was.0 head_was.0
    stops_was = record {
      from = stops.from;
      from_is = from_was;
      own = stops.own;
      own_is = own_was;
      denies = subst (λ (o : Option ListId). IsSomeAnd o (λ id. IsSomeAnd (slice_get net.packet_lists id.0) (λ list. Denies net.protocol list.entries stops.from stops.own)))
          (sym stops_before.bound) stops_before.denies;
    }

    refused_before : NoRefusal (RefusesListStopsSession doc old) → ⊥
    refused_before clear =
        let s = face_site doc net old new chosen g (head_face arc).0 head_was.0 head_was.1 in
        let line = bound_line s.0 (value s.0.face.list_in) refl
        (subst (λ (o : Option ListId). IsPlaceAmong (map packet_list_key net.packet_lists) s.0.router (value s.0.face.list_in) o) stops_before.bound s.2.list_in) in
        clear (record { file = s.0.router + 1; number = line.0.line; kind = kinds.ListStopsSession }) (record {
          net = net;
          rows = g.rows;
          arc = arc_was;
          is_arc = is_arc_was;
          able = able_was;
          stops = stops_was;
          site = s.0;
          at_head = s.1;
          line = line.0.line;
          binds = subst (λ (o : Option (Given (List ℕ))). IsSomeAnd o (λ x. x.line ≡ line.0.line)) (sym line.1) refl;
          told = refl;
        })
      where
        bound_line : (s : Site) (o : Option (List ℕ)) → value s.face.list_in ≡ o →
            IsPlaceAmong (map packet_list_key net.packet_lists) s.router o (Some stops_before.id) → (x : Given (List ℕ)) × (s.face.list_in ≡ Some x)
        bound_line s None e h = absurd h
        bound_line s (Some name) e h = let v = given_of_value s.face.list_in name e in (v.0, v.1)

  pub clear_stops : NoRefusal (RefusesListStopsSession doc old) → NoRefusal (RefusesListStopsSession doc new)
  clear_stops clear r bad =
      let same = one bad.net bad.rows in
      refused_before bad.arc (subst (λ (n : Network). IsArc n bad.arc) same bad.is_arc) (subst (λ (n : Network). IsAble n bad.arc) same bad.able)
      (subst (λ (n : Network). StopsPackets n bad.arc.tail bad.arc.head) same bad.stops) clear
