-- The truth values of `Decided` are right: each is true exactly where the fact of `Routing` holds.
use Rattle.std.proofs.Common.{◌≡◌, ℕ, ◌==◌, ◌↔◌, ◌&&◌, Bool, true, false, not, Option, Some, None, refl, ap}
use Rattle.std.specs.Prelude.{Any, IfSome, IsFalse, IsSome, IsSomeAnd, is_some, slice_get}
use Rattle.std.specs.Option.{option_map_or}
use Rattle.std.proofs.lemmas.Bool.{false≢true, eqb-true, eq-eqb, and_parts, and_from, not-true, not_from_false}
use Rattle.std.proofs.lemmas.List.Folds.{Any-from_list_any, list_any-from_Any}
use Rattle.std.proofs.lemmas.Option.{none-some, same_Some}
use Rattle.arc_base.specs.declared.prefix.Prefix.{Prefix}
use Rattle.arc_base.proofs.SamePrefix.{same_prefix}
use Rattle.net_model.specs.declared.rows.FaceRow.{FaceRow}
use Rattle.net_model.specs.declared.rows.RouterRow.{RouterRow}
use Rattle.net_model.specs.declared.rows.SessionRow.{SessionRow}
use Rattle.net_model.specs.declared.rows.Protocol.{Protocol}
use Rattle.net_model.specs.declared.rows.Protocol.TheVariants.{Ospf, Bgp}
use Rattle.net_model.specs.declared.rows.Network.{Network}
use Rattle.net_model.specs.Decided.{names, takes_part, is_able_end, is_open, tells, is_told}
use Rattle.net_model.specs.Routing.{Names, TakesPart, IsAbleEnd, IsOpen, Advertises}

both_right : (a b : Bool) (P Q : Type 0) → ((a ≡ true) ↔ P) → ((b ≡ true) ↔ Q) → ((a && b) ≡ true) ↔ (P × Q)
both_right a b P Q p q = (λ h. let r = and_parts a b h in (p.0 r.0, q.0 r.1), λ h. and_from a b (p.1 h.0) (q.1 h.1))

equal_right : (m n : ℕ) → ((m == n) ≡ true) ↔ (m ≡ n)
equal_right m n = (eqb-true m n, eq-eqb m n)

number_right : (o : Option ℕ) (n : ℕ) → (option_map_or (λ a. a == n) o false ≡ true) ↔ (o ≡ Some n)
number_right None n = (λ h. absurd (false≢true h), λ e. absurd (none-some n e))
number_right (Some a) n = (λ h. ap Some (eqb-true a n h), λ e. eq-eqb a n (same_Some a n e))

some_right : {X : Type 0} (o : Option X) → (is_some o ≡ true) ↔ IsSome o
some_right None = (λ h. h, λ h. h)
some_right (Some x) = (λ h. h, λ h. h)

-- a test of what is there
there_right : {X : Type 0} (f : X → Bool) (P : X → Type 0) → ((x : X) → (f x ≡ true) ↔ P x) → (o : Option X) → (option_map_or f o false ≡ true) ↔ IsSomeAnd o P
there_right f P each None = (λ h. absurd (false≢true h), λ h. absurd h)
there_right f P each (Some x) = each x

names_right : (net : Network) (s : SessionRow) (far : FaceRow) → (names net s far ≡ true) ↔ Names net s far
names_right net s far =
    let R : RouterRow → Type 0 = λ r. s.remote ≡ r.asn in
    both_right (option_map_or (λ a. a == s.peer) far.addr false) (option_map_or (λ (r : RouterRow). s.remote == r.asn) (slice_get net.routers far.router.0) false)
    (far.addr ≡ Some s.peer) (IsSomeAnd (slice_get net.routers far.router.0) R) (number_right far.addr s.peer)
    (there_right (λ (r : RouterRow). s.remote == r.asn) R (λ r. equal_right s.remote r.asn) (slice_get net.routers far.router.0))

part_right : (q : Protocol) (net : Network) (session : Option SessionRow) (near far : FaceRow) → (takes_part q net session near far ≡ true) ↔ TakesPart q net session near far
part_right Ospf net session near far = (λ h. h, λ h. h)
part_right Bgp net session near far = there_right (λ (s : SessionRow). names net s far) (λ (s : SessionRow). Names net s far) (λ s. names_right net s far) session

pub able_right : (net : Network) (session : Option SessionRow) (near far : FaceRow) → (is_able_end net session near far ≡ true) ↔ IsAbleEnd net session near far
able_right net session near far =
    let both = both_right (near.up && is_some near.addr) (takes_part net.protocol net session near far) ((near.up ≡ true) × IsSome near.addr) (TakesPart net.protocol net session near far)
    (both_right near.up (is_some near.addr) (near.up ≡ true) (IsSome near.addr) (λ h. h, λ h. h) (some_right near.addr)) (part_right net.protocol net session near far) in (
      λ h. let r = both.0 h in record { up = r.0.0; addressed = r.0.1; takes_part = r.1 },
      λ h. both.1 ((h.up, h.addressed), h.takes_part),
    )

not_down_right : (session : Option SessionRow) → (option_map_or (λ (s : SessionRow). not s.down) session true ≡ true) ↔ IfSome session (λ s. IsFalse s.down)
not_down_right None = (λ h. tt, λ h. refl)
not_down_right (Some s) = (not-true s.down, not_from_false s.down)

pub open_right : (session : Option SessionRow) (face : FaceRow) → (is_open session face ≡ true) ↔ IsOpen session face
open_right session face =
    let both = both_right (not face.passive) (option_map_or (λ (s : SessionRow). not s.down) session true) (IsFalse face.passive) (IfSome session (λ (s : SessionRow). IsFalse s.down))
    (not-true face.passive, not_from_false face.passive) (not_down_right session) in (
      λ h. let r = both.0 h in record { active = r.0; not_down = r.1 },
      λ h. both.1 (h.active, h.not_down),
    )

host_right : (to : Prefix) (o : Option Prefix) → (option_map_or (λ (host : Prefix). host.addr == to.addr && host.len == to.len) o false ≡ true) ↔ (o ≡ Some to)
host_right to None = (λ h. absurd (false≢true h), λ e. absurd (none-some to e))
host_right to (Some host) =
    let both = both_right (host.addr == to.addr) (host.len == to.len) (host.addr ≡ to.addr) (host.len ≡ to.len) (equal_right host.addr to.addr) (equal_right host.len to.len) in (
      λ h. let r = both.0 h in ap Some (same_prefix host to r.0 r.1),
      λ e. let same : host ≡ to = same_Some host to e in both.1 (ap (λ (p : Prefix). p.addr) same, ap (λ (p : Prefix). p.len) same),
    )

tells_right : (to : Prefix) (face : FaceRow) → (tells to face ≡ true) ↔ Advertises to face
tells_right to face =
    let host = option_map_or (λ (h : Prefix). h.addr == to.addr && h.len == to.len) face.host false in
    let both = both_right (host && face.told) face.up ((face.host ≡ Some to) × (face.told ≡ true)) (face.up ≡ true)
    (both_right host face.told (face.host ≡ Some to) (face.told ≡ true) (host_right to face.host) (λ h. h, λ h. h)) (λ h. h, λ h. h) in (
      λ h. let r = both.0 h in record { host = r.0.0; told = r.0.1; up = r.1 },
      λ h. both.1 ((h.host, h.told), h.up),
    )

pub told_right : (net : Network) (to : Prefix) → (is_told net to ≡ true) ↔ Any (Advertises to) net.faces
told_right net to = (
  λ h. let r = Any-from_list_any (tells to) net.faces h in (r.0, r.1, r.2, r.3, (tells_right to r.1).0 r.4),
  λ r. list_any-from_Any (tells to) net.faces (r.0, r.1, r.2, r.3, (tells_right to r.1).1 r.4),
)
