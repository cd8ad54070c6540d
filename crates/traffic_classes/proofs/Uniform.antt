-- A list gives one answer to all packets of a class that none of its entries splits.
use Rattle.std.proofs.Common.{◌≡◌, ℕ, ◌&&◌, inl, inr, Bool, true, false, cond, Option, Some, List, [], ◌∷◌, IsTrue, refl, sym, ◌∙◌, ap}
use Rattle.std.specs.Prelude.{Contains, map}
use Rattle.std.specs.List.{find, flat_map}
use Rattle.std.specs.Option.{option_map_or}
use Rattle.std.proofs.lemmas.Bool.{false≢true}
use Rattle.std.proofs.lemmas.List.Elements.{Contains-append_left}
use Rattle.arc_base.specs.Addresses.{holds, Holds}
use Rattle.arc_base.specs.declared.prefix.Prefix.{Prefix}
use Rattle.net_model.specs.declared.lists.Packet.{Packet}
use Rattle.net_model.specs.declared.lists.PacketEntry.{PacketEntry}
use Rattle.net_model.specs.declared.lists.PacketList.{PacketList}
use Rattle.net_model.specs.declared.policies.Class.{Class}
use Rattle.net_model.specs.declared.policies.Policy.{Policy}
use Rattle.net_model.specs.declared.rows.Network.{Network}
use Rattle.net_model.specs.declared.services.Service.{Service}
use Rattle.net_model.specs.Services.{serves}
use Rattle.net_model.specs.Lists.{matches, permits}
use Rattle.net_model.specs.Packets.{IsOfClass}
use Rattle.net_model.specs.Witnesses.{IsUniform, IsUniformFor}
use Rattle.traffic_classes.specs.Leaves.{IsSplit}
use Rattle.traffic_classes.specs.ServiceLeaves.{IsCut}
use Rattle.traffic_classes.specs.Classes.{source_marks, destination_marks, service_marks, marks_of}
use Rattle.arc_base.proofs.Items.{Contains-head, Contains-tail, Contains-map, Contains-piece, All-from}
use Rattle.traffic_classes.proofs.Ranges.{nested}
use Rattle.traffic_classes.proofs.ServiceCuts.{serves_alike}

same_test : (b c : Bool) → (IsTrue b → IsTrue c) → (IsTrue c → IsTrue b) → b ≡ c
same_test true true f g = refl
same_test true false f g = absurd (false≢true (f refl))
same_test false true f g = absurd (false≢true (g refl))
same_test false false f g = refl

-- a mark that does not lie strictly inside a prefix holds all of its addresses, or none
holds_on : (marks : List Prefix) (mark p : Prefix) → Contains marks mark → ¬ IsSplit marks p → (a b : ℕ) → Holds p a → Holds p b → Holds mark a → Holds mark b
holds_on marks mark p there unsplit a b in_a in_b h =
    elim (nested p mark a in_a h) [
      | inl inside ↦ inside b in_b
      | inr strict ↦ absurd (unsplit (record { mark = mark; one = there; inside = strict }))
    ]

pub holds_alike : (marks : List Prefix) (mark p : Prefix) → Contains marks mark → ¬ IsSplit marks p → (a b : ℕ) → Holds p a → Holds p b → holds mark a ≡ holds mark b
holds_alike marks mark p there unsplit a b in_a in_b =
    same_test (holds mark a) (holds mark b) (holds_on marks mark p there unsplit a b in_a in_b) (holds_on marks mark p there unsplit b a in_b in_a)

one_more : (e : PacketEntry) (b c : Bool) → b ≡ c → (x y : Option PacketEntry) → option_map_or (λ (z : PacketEntry). z.permit) x false ≡ option_map_or (λ (z : PacketEntry). z.permit) y false →
    option_map_or (λ (z : PacketEntry). z.permit) (cond b (Some e) x) false ≡ option_map_or (λ (z : PacketEntry). z.permit) (cond c (Some e) y) false
one_more e true true same x y h = refl
one_more e true false same x y h = absurd (false≢true (sym same))
one_more e false true same x y h = absurd (false≢true same)
one_more e false false same x y h = h

abbrev froms : PacketList → List Prefix
froms l = map (λ (e : PacketEntry). e.from) l.entries

abbrev tos : PacketList → List Prefix
tos l = map (λ (e : PacketEntry). e.to) l.entries

abbrev pub entry_services : PacketList → List Service
entry_services l = flat_map (λ (e : PacketEntry). marks_of e.service) l.entries

-- a range is the first of the marks that it gives
pub own_mark : (s : Service) → Contains (marks_of s) s
own_mark s = Contains-head s _

module _ (sources destinations : List Prefix) (services : List Service) (class : Class) (from : ¬ IsSplit sources class.from) (to : ¬ IsSplit destinations class.to)
    (of_services : ¬ IsCut services class.service) (p q : Packet) (of_p : IsOfClass class p) (of_q : IsOfClass class q) where
  match_alike : (e : PacketEntry) → Contains sources e.from → Contains destinations e.to → Contains services e.service → matches p e ≡ matches q e
  match_alike e in_from in_to in_services =
      ap (λ (b : Bool). (b && holds e.to p.to) && serves e.service p.service) (holds_alike sources e.from class.from in_from from p.from q.from (of_p.0) (of_q.0)) ∙
      ap (λ (b : Bool). (holds e.from q.from && b) && serves e.service p.service) (holds_alike destinations e.to class.to in_to to p.to q.to (of_p.1) (of_q.1)) ∙
      ap (λ (b : Bool). (holds e.from q.from && holds e.to q.to) && b) (serves_alike services e.service class.service in_services of_services p.service q.service (of_p.2) (of_q.2))

  pub found_alike : (es : List PacketEntry) → ((e : PacketEntry) → Contains es e → Contains sources e.from × Contains destinations e.to × Contains services e.service) → permits es p ≡ permits es q
  found_alike [] h = refl
  found_alike (e ∷ es) h =
      let here = h e (Contains-head e es) in
      one_more e (matches p e) (matches q e) (match_alike e here.0 here.1 here.2) (find (matches p) es) (find (matches q) es)
      (found_alike es (λ x k. h x (Contains-tail e x es k)))

-- each packet list is uniform on a class that no mark splits
pub uniform_on : (net : Network) (policies : List Policy) (class : Class) → ¬ IsSplit (source_marks net policies) class.from → ¬ IsSplit (destination_marks net policies) class.to →
    ¬ IsCut (service_marks net policies) class.service → IsUniformFor net class
uniform_on net policies class from to of_services =
    All-from (λ (l : PacketList). IsUniform l.entries class) net.packet_lists
    (λ l in_lists p q of_p of_q. found_alike (source_marks net policies) (destination_marks net policies) (service_marks net policies) class from to of_services p q of_p of_q l.entries
    (λ e in_entries. (
      Contains-append_left (flat_map froms net.packet_lists) (map (λ (y : Policy). y.from) policies) e.from
          (Contains-piece froms net.packet_lists l e.from in_lists (Contains-map (λ (x : PacketEntry). x.from) l.entries e in_entries)),
      Contains-append_left (flat_map tos net.packet_lists) (map (λ (y : Policy). y.to) policies) e.to
          (Contains-piece tos net.packet_lists l e.to in_lists (Contains-map (λ (x : PacketEntry). x.to) l.entries e in_entries)),
      Contains-append_left (flat_map entry_services net.packet_lists) (flat_map (λ (y : Policy). marks_of y.service) policies) e.service
          (Contains-piece entry_services net.packet_lists l e.service in_lists
          (Contains-piece (λ (x : PacketEntry). marks_of x.service) l.entries e e.service in_entries (own_mark e.service))),
    )))
