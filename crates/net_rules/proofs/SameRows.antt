-- The rows of a document and its files are determined.
use Rattle.std.proofs.Common.{◌≡◌, ℕ, ◌-◌, ◌*◌, ◌/◌, ◌^◌, ◌⊎◌, inl, inr, Bool, true, false, ◌&&◌, Option, Some, None, List, [], ◌∷◌, refl, sym, ◌∙◌, ap, subst, arith, Decides, nat_eq, IsTrue, ◌↔◌}
use Rattle.std.specs.Prelude.{Contains, IsSomeAnd, map}
use Rattle.std.specs.List.{AllZip, list_any}
use Rattle.std.specs.Cmp.Lexicographic.{pointwise}
use Rattle.std.proofs.Math.Pow.{pow_pos}
use Rattle.std.proofs.lemmas.Bool.{eqb-true, false≢true}
use Rattle.std.proofs.lemmas.Bool.Decides.{Decides-and, same_from_decides}
use Rattle.std.proofs.lemmas.Slice.Eq.{bytes_eq-Decides}
use Rattle.std.proofs.lemmas.List.{map-id}
use Rattle.arc_base.specs.Addresses.{Holds}
use Rattle.arc_base.specs.declared.place.ListId.{ListId}
use Rattle.arc_base.specs.declared.prefix.Prefix.{Prefix}
use Rattle.arc_base.proofs.SamePrefix.{same_prefix}
use Rattle.net_model.specs.declared.lists.PacketList.{PacketList}
use Rattle.net_model.specs.declared.policies.Document.{Document}
use Rattle.net_model.specs.declared.policies.LinkText.{LinkText}
use Rattle.net_model.specs.declared.rows.FaceRow.{FaceRow}
use Rattle.net_model.specs.declared.rows.LinkRow.{LinkRow}
use Rattle.net_model.specs.declared.rows.RouterRow.{RouterRow}
use Rattle.net_model.specs.declared.rows.Network.{Network}
use Rattle.net_model.specs.declared.rows.Protocol.{Protocol}
use Rattle.ios_config.specs.declared.settings.Config.{Config}
use Rattle.arc_base.specs.Lists.{AreDistinct}
use Rattle.net_rules.specs.Settings.{IsPrefixAt, lines_of, value}
use Rattle.net_rules.specs.Sites.{Site, FullName, sites, full_name, full_names, a_end, b_end, ends_of}
use Rattle.arc_base.specs.NameForms.{IsNameBefore}
use Rattle.net_rules.specs.Lists.{IsPlaceAmong, IsListName, IsPacketListRow, IsRouteListRow, packet_list_key}
use Rattle.net_rules.specs.Rows.{IsRouterRow, IsSubnet, TellsHost, IsFaceRow, IsLinkRow, AreBaseRows}
use Rattle.net_rules.proofs.Distinct.{Contains-at, one_place}
use Rattle.net_rules.proofs.InOrder.{ordered_once, names_one_way, pairs_one_way}
use Rattle.ios_config.proofs.StandLists.{any_seen}
use Rattle.net_rules.proofs.ListKeys.{packet_keys_differ}

-- a list contains a name or not
abbrev same_name : FullName → FullName → Bool
same_name x y = pointwise nat_eq x.0 y.0 && pointwise nat_eq x.1 y.1

same_name-Decides : (x y : FullName) → Decides (same_name x y) (x ≡ y)
same_name-Decides x y =
    let d : Decides (same_name x y) ((x.0 ≡ y.0) × (x.1 ≡ y.1)) =
    Decides-and (pointwise nat_eq x.0 y.0) (pointwise nat_eq x.1 y.1) (bytes_eq-Decides x.0 y.0) (bytes_eq-Decides x.1 y.1) in
    (λ t i. ((d.0 t).0 i, (d.0 t).1 i), λ e. d.1 (ap (λ (n : FullName). n.0) e, ap (λ (n : FullName). n.1) e))

decided : (r : Bool) (P : Type 0) → Decides r P → P ⊎ (P → ⊥)
decided true P d = inl (d.0 refl)
decided false P d = inr (λ p. false≢true (d.1 p))

pub in_or_not : (names : List FullName) (x : FullName) → Contains names x ⊎ (Contains names x → ⊥)
in_or_not names x =
    let d : Decides (list_any (same_name x) names) (Contains (map (λ (n : FullName). n) names) x) = any_seen same_name (λ (n : FullName). n) same_name-Decides names x in
    decided (list_any (same_name x) names) (Contains names x)
    (subst (λ (l : List FullName). Decides (list_any (same_name x) names) (Contains l x)) (map-id names) d)

-- one prefix of a length holds an address
block_start : (p : Prefix) (a : ℕ) → Holds p a → p.addr ≡ 2 ^ (32 - p.len) * (a / 2 ^ (32 - p.len))
block_start p a h =
    let same : a / 2 ^ (32 - p.len) ≡ p.addr / 2 ^ (32 - p.len) = eqb-true _ _ h in
    let block : 2 ^ (32 - p.len) * (a / 2 ^ (32 - p.len)) ≡ 2 ^ (32 - p.len) * (p.addr / 2 ^ (32 - p.len)) = ap (λ x. 2 ^ (32 - p.len) * x) same in
    omega (arith, pow_pos (32 - p.len), p.clear, block)

pub one_prefix : (address len : ℕ) (p q : Prefix) → IsPrefixAt address len p → IsPrefixAt address len q → p ≡ q
one_prefix address len p q of_p of_q =
    let long : p.len ≡ q.len = of_p.0 ∙ sym of_q.0 in
    same_prefix p q (block_start p address of_p.1 ∙ ap (λ n. 2 ^ (32 - n) * (address / 2 ^ (32 - n))) long ∙ sym (block_start q address of_q.1)) long

one_some_prefix : (address len : ℕ) (o r : Option Prefix) → IsSomeAnd o (IsPrefixAt address len) → IsSomeAnd r (IsPrefixAt address len) → o ≡ r
one_some_prefix address len None r h k = absurd h
one_some_prefix address len (Some p) None h k = absurd k
one_some_prefix address len (Some p) (Some q) h k = ap Some (one_prefix address len p q h k)

pub one_subnet : (address : Option (ℕ × ℕ)) (o r : Option Prefix) → IsSubnet address o → IsSubnet address r → o ≡ r
one_subnet None o r h k = h ∙ sym k
one_subnet (Some a) o r h k = one_some_prefix a.0 a.1 o r h k

-- a list that is bound has one place
pub one_list_place : (keys : List (ℕ × List ℕ)) → AreDistinct keys → (router : ℕ) (bound : Option (List ℕ)) (o r : Option ListId) →
    IsPlaceAmong keys router bound o → IsPlaceAmong keys router bound r → o ≡ r
one_list_place keys distinct router bound None None h k = refl
one_list_place keys distinct router None None (Some id) h k = absurd k
one_list_place keys distinct router None (Some id) r h k = absurd h
one_list_place keys distinct router (Some name) None (Some id) h k = absurd (h (Contains-at keys id.0 (router, name) k))
one_list_place keys distinct router (Some name) (Some id) None h k = absurd (k (Contains-at keys id.0 (router, name) h))
one_list_place keys distinct router (Some name) (Some id) (Some other) h k =
    let same : id.0 ≡ other.0 = one_place keys id.0 other.0 (router, name) distinct h k in
    λ i. Some (record { 0 = same i })

-- a file and an interface have one row
pub one_face_row : (protocol : Protocol) (ends : List FullName) (keys : List (ℕ × List ℕ)) → AreDistinct keys → (site : Site) (f g : FaceRow) →
    IsFaceRow protocol ends keys site f → IsFaceRow protocol ends keys site g → f ≡ g
one_face_row protocol ends keys distinct site f g p q =
    let host : f.host ≡ g.host = elim (in_or_not ends (full_name site)) [
      | inl is_end ↦ p.host.at_end is_end ∙ sym (q.host.at_end is_end)
      | inr no_end ↦ one_subnet _ f.host g.host (p.host.elsewhere no_end) (q.host.elsewhere no_end)
    ] in
    let enabled : f.enabled ≡ g.enabled = same_from_decides f.enabled g.enabled p.enabled q.enabled in
    let tells : IsTrue f.told ↔ TellsHost protocol (lines_of site.config) g.host g.enabled =
    subst (λ (b : Bool). IsTrue f.told ↔ TellsHost protocol (lines_of site.config) g.host b) enabled
    (subst (λ (o : Option Prefix). IsTrue f.told ↔ TellsHost protocol (lines_of site.config) o f.enabled) host p.told) in
    let told : f.told ≡ g.told = same_from_decides f.told g.told tells q.told in
    let subnet : f.subnet ≡ g.subnet = one_subnet _ f.subnet g.subnet p.subnet q.subnet in
    let router : f.router.0 ≡ g.router.0 = p.router ∙ sym q.router in
    let name : f.name ≡ g.name = p.name ∙ sym q.name in
    let addr : f.addr ≡ g.addr = p.addr ∙ sym q.addr in
    let up : f.up ≡ g.up = p.up ∙ sym q.up in
    let passive : f.passive ≡ g.passive = p.passive ∙ sym q.passive in
    let cost : f.cost ≡ g.cost = p.cost ∙ sym q.cost in
    let bound_in : f.bound_in ≡ g.bound_in = p.bound_in ∙ sym q.bound_in in
    let list_in : f.list_in ≡ g.list_in = one_list_place keys distinct site.router (value site.face.list_in) f.list_in g.list_in p.list_in q.list_in in
    let list_out : f.list_out ≡ g.list_out = one_list_place keys distinct site.router (value site.face.list_out) f.list_out g.list_out p.list_out q.list_out in
    λ i. record {
      router = record { 0 = router i };
      name = name i;
      addr = addr i;
      subnet = subnet i;
      host = host i;
      up = up i;
      enabled = enabled i;
      told = told i;
      passive = passive i;
      cost = cost i;
      bound_in = bound_in i;
      list_in = list_in i;
      list_out = list_out i;
    }

-- a file has one row for its router
one_router_row : (protocol : Protocol) (config : Config) (r s : RouterRow) → IsRouterRow protocol config r → IsRouterRow protocol config s → r ≡ s
one_router_row protocol config r s p q =
    let name : r.name ≡ s.name = p.name ∙ sym q.name in
    let asn : r.asn ≡ s.asn = p.asn ∙ sym q.asn in
    let names : r.names ≡ s.names = ordered_once IsNameBefore (IsListName config) (λ x y in_x in_y. names_one_way x y) r.names s.names p.names q.names in
    λ i. record { name = name i; asn = asn i; names = names i }

-- a link of distinct names has one row
one_link_row : (names : List FullName) → AreDistinct names → (link : LinkText) (l m : LinkRow) → IsLinkRow names link l → IsLinkRow names link m → l ≡ m
one_link_row names distinct link l m p q =
    let a : l.a.0 ≡ m.a.0 = one_place names l.a.0 m.a.0 (a_end link) distinct p.a q.a in
    let b : l.b.0 ≡ m.b.0 = one_place names l.b.0 m.b.0 (b_end link) distinct p.b q.b in
    let waypoint : l.waypoint ≡ m.waypoint = p.waypoint ∙ sym q.waypoint in
    λ i. record { a = record { 0 = a i }; b = record { 0 = b i }; waypoint = waypoint i }

pub one_partner : {X Y : Type 0} (R : X → Y → Type 0) → ((x : X) (y z : Y) → R x y → R x z → y ≡ z) → (xs : List X) (ys zs : List Y) → AllZip R xs ys → AllZip R xs zs → ys ≡ zs
one_partner R one [] [] [] h k = refl
one_partner R one [] [] (z ∷ zs) h k = absurd k
one_partner R one [] (y ∷ ys) zs h k = absurd h
one_partner R one (x ∷ xs) [] zs h k = absurd h
one_partner R one (x ∷ xs) (y ∷ ys) [] h k = absurd k
one_partner R one (x ∷ xs) (y ∷ ys) (z ∷ zs) h k = λ i. one x y z h.0 k.0 i ∷ one_partner R one xs ys zs h.1 k.1 i

-- the rows but the sessions are determined
pub record AreSameRows (n m : Network) : Type 0 where
  pub protocol : n.protocol ≡ m.protocol
  pub routers : n.routers ≡ m.routers
  pub faces : n.faces ≡ m.faces
  pub links : n.links ≡ m.links
  pub packet_lists : n.packet_lists ≡ m.packet_lists
  pub route_lists : n.route_lists ≡ m.route_lists

pub same_base_rows : (doc : Document) (configs : List Config) → AreDistinct (full_names configs) → (n m : Network) → AreBaseRows doc configs n → AreBaseRows doc configs m → AreSameRows n m
same_base_rows doc configs distinct n m p q =
    let protocol : n.protocol ≡ m.protocol = p.protocol ∙ sym q.protocol in
    let packet_lists : n.packet_lists ≡ m.packet_lists = ordered_once _ (IsPacketListRow configs)
    (λ l r in_l in_r. pairs_one_way IsNameBefore names_one_way (l.router.0, l.name) (r.router.0, r.name)) n.packet_lists m.packet_lists p.packet_lists q.packet_lists in
    let route_lists : n.route_lists ≡ m.route_lists = ordered_once _ (IsRouteListRow configs)
    (λ l r in_l in_r. pairs_one_way IsNameBefore names_one_way (l.router.0, l.name) (r.router.0, r.name)) n.route_lists m.route_lists p.route_lists q.route_lists in
    let keys : List (ℕ × List ℕ) = map packet_list_key m.packet_lists in
    let n_faces : AllZip (IsFaceRow m.protocol (ends_of doc.links) keys) (sites configs) n.faces =
    subst (λ (o : Protocol). AllZip (IsFaceRow o (ends_of doc.links) keys) (sites configs) n.faces) protocol
    (subst (λ (l : List PacketList). AllZip (IsFaceRow n.protocol (ends_of doc.links) (map packet_list_key l)) (sites configs) n.faces) packet_lists p.faces) in
    let n_routers : AllZip (IsRouterRow m.protocol) configs n.routers = subst (λ (o : Protocol). AllZip (IsRouterRow o) configs n.routers) protocol p.routers in
    record {
      protocol = protocol;
      routers = one_partner (IsRouterRow m.protocol) (one_router_row m.protocol) configs n.routers m.routers n_routers q.routers;
      faces = one_partner (IsFaceRow m.protocol (ends_of doc.links) keys) (one_face_row m.protocol (ends_of doc.links) keys (packet_keys_differ configs m.packet_lists q.packet_lists))
          (sites configs) n.faces m.faces n_faces q.faces;
      links = one_partner (IsLinkRow (full_names configs)) (one_link_row (full_names configs) distinct) doc.links n.links m.links p.links q.links;
      packet_lists = packet_lists;
      route_lists = route_lists;
    }
