-- An entry at the front of a list turns the answer for what it matches, and for nothing else.
use Rattle.std.proofs.Common.{◌≡◌, ◌≤◌, inl, inr, ◌&&◌, Bool, true, false, cond, not, Option, Some, List, [], ◌∷◌, ◌++◌, map, refl, sym, ◌∙◌, ap, subst, arith}
use Rattle.std.specs.Prelude.{All, Contains, nat_le}
use Rattle.std.specs.List.{find}
use Rattle.std.specs.Option.{option_map_or}
use Rattle.std.proofs.lemmas.Bool.{false≢true, and_parts, and_from, leb-true, le-leb, false_from_ne_true}
use Rattle.std.proofs.lemmas.List.Elements.{All-contains}
use Rattle.arc_base.specs.Addresses.{holds, inside}
use Rattle.arc_base.specs.declared.prefix.Prefix.{Prefix}
use Rattle.arc_base.proofs.Agreement.{Holds-first}
use Rattle.arc_base.proofs.Items.{Contains-head, Contains-tail, Contains-cases, Contains-none, All-from}
use Rattle.net_model.specs.declared.lists.Packet.{Packet}
use Rattle.net_model.specs.declared.lists.PacketEntry.{PacketEntry}
use Rattle.net_model.specs.declared.lists.RouteEntry.{RouteEntry}
use Rattle.net_model.specs.declared.policies.Class.{Class}
use Rattle.net_model.specs.Lists.{matches, permits, route_matches, route_permits}
use Rattle.net_model.specs.Services.{serves}
use Rattle.net_model.specs.Packets.{IsOfClass, first_packet}
use Rattle.net_model.specs.Witnesses.{IsUniform}
use Rattle.net_model.proofs.Packets.{first_is_of}
use Rattle.traffic_classes.proofs.Ranges.{same_length}
use Rattle.edit_list.specs.After.{exact_entry, opposite_packet_entry, opposite_route_entry}
use Rattle.network_edit_laws.specs.Laws.{ClassesTurn, OthersStay, PrefixesTurn, OtherPrefixesStay}

-- the answer of the entry that is found
abbrev pub packet_answer : Option PacketEntry → Bool
packet_answer o = option_map_or (λ (e : PacketEntry). e.permit) o false

abbrev pub route_answer : Option RouteEntry → Bool
route_answer o = option_map_or (λ (e : RouteEntry). e.permit) o false

packet_hit : (e : PacketEntry) (b : Bool) (o : Option PacketEntry) → b ≡ true → packet_answer (cond b (Some e) o) ≡ e.permit
packet_hit e b o is = ap (λ c. packet_answer (cond c (Some e) o)) is

packet_miss : (e : PacketEntry) (b : Bool) (o : Option PacketEntry) → b ≡ false → packet_answer (cond b (Some e) o) ≡ packet_answer o
packet_miss e b o is = ap (λ c. packet_answer (cond c (Some e) o)) is

route_hit : (e : RouteEntry) (b : Bool) (o : Option RouteEntry) → b ≡ true → route_answer (cond b (Some e) o) ≡ e.permit
route_hit e b o is = ap (λ c. route_answer (cond c (Some e) o)) is

route_miss : (e : RouteEntry) (b : Bool) (o : Option RouteEntry) → b ≡ false → route_answer (cond b (Some e) o) ≡ route_answer o
route_miss e b o is = ap (λ c. route_answer (cond c (Some e) o)) is

module _ (base : List PacketEntry) (p : Packet) where
  of_class : (class : Class) → matches p (opposite_packet_entry base class) ≡ true → IsOfClass class p
  of_class class hit =
      let all = and_parts (holds class.from p.from && holds class.to p.to) (serves class.service p.service) hit in
      let both = and_parts (holds class.from p.from) (holds class.to p.to) all.0 in
      (both.0, both.1, all.1)

  class_of : (class : Class) → IsOfClass class p → matches p (opposite_packet_entry base class) ≡ true
  class_of class of_p =
      and_from (holds class.from p.from && holds class.to p.to) (serves class.service p.service)
      (and_from (holds class.from p.from) (holds class.to p.to) of_p.0 of_p.1) of_p.2

  others_stay : (classes : List Class) → ((class : Class) → Contains classes class → ¬ IsOfClass class p) → permits (map (opposite_packet_entry base) classes ++ base) p ≡ permits base p
  others_stay [] none = refl
  others_stay (c ∷ cs) none =
      packet_miss (opposite_packet_entry base c) (matches p (opposite_packet_entry base c)) (find (matches p) (map (opposite_packet_entry base) cs ++ base))
      (false_from_ne_true (matches p (opposite_packet_entry base c)) (λ hit. none c (Contains-head c cs) (of_class c hit))) ∙
      others_stay cs (λ d there. none d (Contains-tail c d cs there))

  classes_turn : (classes : List Class) → All (IsUniform base) classes → (class : Class) → Contains classes class → IsOfClass class p →
      permits (map (opposite_packet_entry base) classes ++ base) p ≡ not (permits base p)
  classes_turn [] uniform class there of_p = absurd (Contains-none class there)
  classes_turn (c ∷ cs) uniform class there of_p = by (λ after. classes_turn cs rest class after of_p) (matches p (opposite_packet_entry base c)) refl
    where
      here : IsUniform base c
      here = All-contains (IsUniform base) (c ∷ cs) c uniform (Contains-head c cs)

      rest : All (IsUniform base) cs
      rest = All-from (IsUniform base) cs (λ d in_cs. All-contains (IsUniform base) (c ∷ cs) d uniform (Contains-tail c d cs in_cs))

      later : matches p (opposite_packet_entry base c) ≡ false → Contains cs class
      later miss = elim (Contains-cases c class cs there) [
        | inl same ↦ absurd (false≢true (sym miss ∙ class_of c (subst (λ (d : Class). IsOfClass d p) (sym same) of_p)))
        | inr after ↦ after
      ]

      by : (Contains cs class → permits (map (opposite_packet_entry base) cs ++ base) p ≡ not (permits base p)) → (b : Bool) →
          matches p (opposite_packet_entry base c) ≡ b → permits (map (opposite_packet_entry base) (c ∷ cs) ++ base) p ≡ not (permits base p)
      by more true hit =
          packet_hit (opposite_packet_entry base c) (matches p (opposite_packet_entry base c)) (find (matches p) (map (opposite_packet_entry base) cs ++ base)) hit ∙
          ap not (here (first_packet c) p (first_is_of c) (of_class c hit))
      by more false miss =
          packet_miss (opposite_packet_entry base c) (matches p (opposite_packet_entry base c)) (find (matches p) (map (opposite_packet_entry base) cs ++ base)) miss ∙
          more (later miss)

-- an entry for exactly a prefix matches it, and no other
pub exactly : (permit : Bool) (p q : Prefix) → route_matches p (exact_entry permit q) ≡ true → p ≡ q
exactly permit p q hit =
    let high = and_parts (inside p q && nat_le q.len p.len) (nat_le p.len q.len) hit in
    let low = and_parts (inside p q) (nat_le q.len p.len) high.0 in
    let in_q = and_parts (nat_le q.len p.len) (holds q p.addr) low.0 in
    let longer : q.len ≤ p.len = leb-true q.len p.len low.1 in
    let shorter : p.len ≤ q.len = leb-true p.len q.len high.1 in
    same_length p q p.addr (omega (arith, longer, shorter)) (Holds-first p) in_q.1

pub itself : (permit : Bool) (p : Prefix) → route_matches p (exact_entry permit p) ≡ true
itself permit p =
    let whole : p.len ≤ p.len = omega arith in
    let long : nat_le p.len p.len ≡ true = le-leb p.len p.len whole in
    and_from (inside p p && nat_le p.len p.len) (nat_le p.len p.len) (and_from (inside p p) (nat_le p.len p.len) (and_from (nat_le p.len p.len) (holds p p.addr) long (Holds-first p)) long) long

module _ (base : List RouteEntry) (p : Prefix) where
  other_prefixes_stay : (prefixes : List Prefix) → ¬ Contains prefixes p → route_permits (map (opposite_route_entry base) prefixes ++ base) p ≡ route_permits base p
  other_prefixes_stay [] none = refl
  other_prefixes_stay (q ∷ qs) none =
      route_miss (opposite_route_entry base q) (route_matches p (opposite_route_entry base q)) (find (route_matches p) (map (opposite_route_entry base) qs ++ base))
      (false_from_ne_true (route_matches p (opposite_route_entry base q))
      (λ hit. none (subst (λ (r : Prefix). Contains (q ∷ qs) r) (sym (exactly (not (route_permits base q)) p q hit)) (Contains-head q qs)))) ∙
      other_prefixes_stay qs (λ there. none (Contains-tail q p qs there))

  prefixes_turn : (prefixes : List Prefix) → Contains prefixes p → route_permits (map (opposite_route_entry base) prefixes ++ base) p ≡ not (route_permits base p)
  prefixes_turn [] there = absurd (Contains-none p there)
  prefixes_turn (q ∷ qs) there = by (λ after. prefixes_turn qs after) (route_matches p (opposite_route_entry base q)) refl
    where
      later : route_matches p (opposite_route_entry base q) ≡ false → Contains qs p
      later miss = elim (Contains-cases q p qs there) [
        | inl same ↦ absurd (false≢true (sym miss ∙ subst (λ (r : Prefix). route_matches p (opposite_route_entry base r) ≡ true) (sym same) (itself (not (route_permits base p)) p)))
        | inr after ↦ after
      ]

      by : (Contains qs p → route_permits (map (opposite_route_entry base) qs ++ base) p ≡ not (route_permits base p)) → (b : Bool) →
          route_matches p (opposite_route_entry base q) ≡ b → route_permits (map (opposite_route_entry base) (q ∷ qs) ++ base) p ≡ not (route_permits base p)
      by more true hit =
          route_hit (opposite_route_entry base q) (route_matches p (opposite_route_entry base q)) (find (route_matches p) (map (opposite_route_entry base) qs ++ base)) hit ∙
          ap (λ (r : Prefix). not (route_permits base r)) (sym (exactly (not (route_permits base q)) p q hit))
      by more false miss =
          route_miss (opposite_route_entry base q) (route_matches p (opposite_route_entry base q)) (find (route_matches p) (map (opposite_route_entry base) qs ++ base)) miss ∙
          more (later miss)

pub turning_classes : ClassesTurn
turning_classes entries classes uniform class there p of_p = classes_turn entries p classes uniform class there of_p

pub staying_packets : OthersStay
staying_packets entries classes p none = others_stay entries p classes none

pub turning_prefixes : PrefixesTurn
turning_prefixes entries prefixes prefix there = prefixes_turn entries prefix prefixes there

pub staying_prefixes : OtherPrefixesStay
staying_prefixes entries prefixes prefix none = other_prefixes_stay entries prefix prefixes none
