-- What new lists answer: they deny what their entries are for, and permit all else.
use Rattle.std.proofs.Common.{◌≡◌, ℕ, ◌<◌, ◌≤◌, ◌^◌, ◌&&◌, Bool, true, false, cond, inl, inr, Option, Some, None, List, [], ◌∷◌, sym, ◌∙◌, ap, subst, arith}
use Rattle.std.specs.Prelude.{Contains, nat_le}
use Rattle.std.specs.List.{find}
use Rattle.std.proofs.lemmas.Bool.{false≢true, cases_Bool, and_parts, and_from, le-leb}
use Rattle.arc_base.specs.Addresses.{holds, inside, Holds}
use Rattle.arc_base.specs.declared.prefix.Prefix.{Prefix}
use Rattle.arc_base.proofs.Agreement.{IsInside-shorter}
use Rattle.arc_base.proofs.Items.{Contains-head, Contains-tail, Contains-cases, Contains-none}
use Rattle.net_model.specs.declared.lists.Packet.{Packet}
use Rattle.net_model.specs.declared.lists.PacketEntry.{PacketEntry}
use Rattle.net_model.specs.declared.lists.RouteEntry.{RouteEntry}
use Rattle.net_model.specs.declared.policies.Class.{Class}
use Rattle.net_model.specs.Lists.{matches, permits, route_matches, route_permits}
use Rattle.net_model.specs.declared.services.Service.{Service}
use Rattle.net_model.specs.Services.{serves, Serves, whole_service}
use Rattle.net_model.specs.Packets.{IsOfClass}
use Rattle.net_model.proofs.ServiceRanges.{bounds, serve}
use Rattle.traffic_classes.proofs.Ranges.{holds_range}
use Rattle.edit_list.specs.After.{any, every_packet, class_entry, exact_entry, new_packet_entries, new_route_entries}
use Rattle.network_edit_laws.proofs.Turning.{exactly, itself, packet_answer, route_answer}

packet_step : (e : PacketEntry) (b c : Bool) (o : Option PacketEntry) → b ≡ c → packet_answer (cond b (Some e) o) ≡ packet_answer (cond c (Some e) o)
packet_step e b c o same = ap (λ d. packet_answer (cond d (Some e) o)) same

route_step : (e : RouteEntry) (b c : Bool) (o : Option RouteEntry) → b ≡ c → route_answer (cond b (Some e) o) ≡ route_answer (cond c (Some e) o)
route_step e b c o same = ap (λ d. route_answer (cond d (Some e) o)) same

in_any : (p : Prefix) → Holds any p.addr
in_any p = let low : p.addr < 2 ^ 32 = p.in_range in holds_range any p.addr (omega arith) (omega (arith, low))

-- an address of a prefix is one of all
all_in_any : (p : Prefix) (a : ℕ) → Holds p a → Holds any a
all_in_any p a h = IsInside-shorter p any (omega arith) (in_any p) a h

-- a service of a range is one of all
one_of_all : (s : Service) (n : ℕ) → Serves s n → Serves whole_service n
one_of_all s n h = let top : s.high < 2 ^ 24 = s.in_range in serve whole_service n (omega arith) (omega (arith, top, (bounds s n h).1))

module _ (p : Packet) where
  match_of : (class : Class) → IsOfClass class p → matches p (class_entry false class) ≡ true
  match_of class of_p =
      and_from (holds class.from p.from && holds class.to p.to) (serves class.service p.service)
      (and_from (holds class.from p.from) (holds class.to p.to) of_p.0 of_p.1) of_p.2

  of_match : (class : Class) → matches p (class_entry false class) ≡ true → IsOfClass class p
  of_match class hit =
      let all = and_parts (holds class.from p.from && holds class.to p.to) (serves class.service p.service) hit in
      let both = and_parts (holds class.from p.from) (holds class.to p.to) all.0 in
      (both.0, both.1, all.1)

  last_permits : (class : Class) → IsOfClass class p → permits (every_packet ∷ []) p ≡ true
  last_permits class of_p =
      packet_step every_packet (matches p every_packet) true None
      (and_from (holds any p.from && holds any p.to) (serves whole_service p.service)
      (and_from (holds any p.from) (holds any p.to) (all_in_any class.from p.from of_p.0) (all_in_any class.to p.to of_p.1))
      (one_of_all class.service p.service of_p.2))

  -- a packet of none of the classes is permitted, if it has addresses and a service at all
  pub new_permits : (whole : Class) → IsOfClass whole p → (classes : List Class) → ((class : Class) → Contains classes class → ¬ IsOfClass class p) → permits (new_packet_entries classes) p ≡ true
  new_permits whole of_p [] none = last_permits whole of_p
  new_permits whole of_p (c ∷ cs) none = elim (cases_Bool (matches p (class_entry false c))) [
    | inl hit ↦ absurd (none c (Contains-head c cs) (of_match c hit))
    | inr miss ↦
        packet_step (class_entry false c) (matches p (class_entry false c)) false (find (matches p) (new_packet_entries cs)) miss ∙
        new_permits whole of_p cs (λ d there. none d (Contains-tail c d cs there))
  ]

  -- a packet of one of them is denied
  pub new_denies : (classes : List Class) (class : Class) → Contains classes class → IsOfClass class p → permits (new_packet_entries classes) p ≡ false
  new_denies [] class there of_p = absurd (Contains-none class there)
  new_denies (c ∷ cs) class there of_p = elim (cases_Bool (matches p (class_entry false c))) [
    | inl hit ↦ packet_step (class_entry false c) (matches p (class_entry false c)) true (find (matches p) (new_packet_entries cs)) hit
    | inr miss ↦
        packet_step (class_entry false c) (matches p (class_entry false c)) false (find (matches p) (new_packet_entries cs)) miss ∙
        elim (Contains-cases c class cs there) [
          | inl same ↦ absurd (false≢true (sym miss ∙ match_of c (subst (λ (d : Class). IsOfClass d p) (sym same) of_p)))
          | inr later ↦ new_denies cs class later of_p
        ]
  ]

module _ (p : Prefix) where
  last_takes : route_permits (record { permit = true; prefix = any; low = 0; high = 32 } ∷ []) p ≡ true
  last_takes =
      let short : p.len ≤ 32 = p.length in
      let low : nat_le 0 p.len ≡ true = le-leb 0 p.len (omega arith) in
      let high : nat_le p.len 32 ≡ true = le-leb p.len 32 short in
      route_step (record { permit = true; prefix = any; low = 0; high = 32 }) (route_matches p (record { permit = true; prefix = any; low = 0; high = 32 })) true None
      (and_from (inside p any && nat_le 0 p.len) (nat_le p.len 32) (and_from (inside p any) (nat_le 0 p.len) (and_from (nat_le 0 p.len) (holds any p.addr) low (in_any p)) low) high)

  -- a prefix without an entry is taken
  pub new_takes : (prefixes : List Prefix) → ¬ Contains prefixes p → route_permits (new_route_entries prefixes) p ≡ true
  new_takes [] none = last_takes
  new_takes (q ∷ qs) none = elim (cases_Bool (route_matches p (exact_entry false q))) [
    | inl hit ↦ absurd (none (subst (λ (r : Prefix). Contains (q ∷ qs) r) (sym (exactly false p q hit)) (Contains-head q qs)))
    | inr miss ↦
        route_step (exact_entry false q) (route_matches p (exact_entry false q)) false (find (route_matches p) (new_route_entries qs)) miss ∙
        new_takes qs (λ there. none (Contains-tail q p qs there))
  ]

  -- one with an entry is not
  pub new_refuses : (prefixes : List Prefix) → Contains prefixes p → route_permits (new_route_entries prefixes) p ≡ false
  new_refuses [] there = absurd (Contains-none p there)
  new_refuses (q ∷ qs) there = elim (cases_Bool (route_matches p (exact_entry false q))) [
    | inl hit ↦ route_step (exact_entry false q) (route_matches p (exact_entry false q)) true (find (route_matches p) (new_route_entries qs)) hit
    | inr miss ↦
        route_step (exact_entry false q) (route_matches p (exact_entry false q)) false (find (route_matches p) (new_route_entries qs)) miss ∙
        elim (Contains-cases q p qs there) [
          | inl same ↦ absurd (false≢true (sym miss ∙ subst (λ (r : Prefix). route_matches p (exact_entry false r) ≡ true) (sym same) (itself false p)))
          | inr later ↦ new_refuses qs later
        ]
  ]
