-- The network of two routers is valid.
use Rattle.std.proofs.Common.{◌≡◌, ℕ, zero, suc, ◌≢◌, ◌⊎◌, ⊎_elim, inl, inr, Option, Some, None, List, [], get_or, refl, sym, ap, subst, arith}
use Rattle.std.specs.Prelude.{AllPairs, codes, slice_get, is_some, ◌==◌}
use Rattle.std.proofs.lemmas.Bool.{false≢true}
use Rattle.std.proofs.lemmas.List.Elements.{All-from_recursion, All-nil}
use Rattle.std.proofs.lemmas.List.Sums.{count_by-le-length}
use Rattle.std.proofs.lemmas.Option.{same_Some}
use Rattle.arc_base.specs.Addresses.{AreDisjoint}
use Rattle.arc_base.specs.declared.prefix.Prefix.{Prefix}
use Rattle.arc_base.proofs.Agreement.{AreDisjoint-firsts}
use Rattle.net_model.specs.declared.lists.PacketList.{PacketList}
use Rattle.net_model.specs.declared.lists.RouteList.{RouteList}
use Rattle.net_model.specs.declared.rows.FaceRow.{FaceRow}
use Rattle.net_model.specs.declared.rows.LinkRow.{LinkRow}
use Rattle.net_model.specs.declared.rows.RouterRow.{RouterRow}
use Rattle.net_model.specs.Validity.{AreLinksApart, AreSessionsApart, IsValidSession, IsValidPacketList, IsValidRouteList, IsValidFace, IsValidLink, IsLinkEnd, EndsAt, AreLinked, AreApart}
use Rattle.arc_base.specs.NameForms.{IsFaceName, IsName}
use Rattle.arc_base.proofs.Items.{AllPairs-none, AllPairs-single}
use Rattle.net_laws.specs.Examples.{two_routers, users_1, users_2, between, end_1, end_2, owner_2, owner_1, the_link, ExampleIsValid}

-- the link ends at no interface but its two
only_ends : (k : ℕ) → (1 ≡ k → ⊥) → (3 ≡ k → ⊥) → IsLinkEnd two_routers k → ⊥
only_ends k n m (zero, x, within, e, h) = ⊎_elim n m (subst (λ (l : LinkRow). EndsAt l k) (sym e) h)
only_ends k n m (suc i, x, within, e, h) = absurd (omega (arith, within))

named_0 : IsFaceName (codes "GigabitEthernet0/0")
named_0 = record { kind = codes "GigabitEthernet"; unit = codes "0/0"; known = (2, omega arith, refl); numbers = (refl, inr (refl, refl)); joined = refl; few = omega arith }

named_1 : IsFaceName (codes "GigabitEthernet0/1")
named_1 = record { kind = codes "GigabitEthernet"; unit = codes "0/1"; known = (2, omega arith, refl); numbers = (refl, inr (refl, refl)); joined = refl; few = omega arith }

valid_0 : IsValidFace two_routers 0 owner_1
valid_0 = record {
  router = omega arith;
  list_in = tt;
  list_out = tt;
  host = (only_ends 0 (λ e. omega arith) (λ e. omega arith), users_1, refl, λ a h. h);
  cost_low = omega arith;
  cost_high = omega arith;
  name = named_0;
}

valid_1 : IsValidFace two_routers 1 end_1
valid_1 = record { router = omega arith; list_in = tt; list_out = tt; host = tt; cost_low = omega arith; cost_high = omega arith; name = named_1 }

valid_2 : IsValidFace two_routers 2 owner_2
valid_2 = record {
  router = omega arith;
  list_in = tt;
  list_out = tt;
  host = (only_ends 2 (λ e. omega arith) (λ e. omega arith), users_2, refl, λ a h. h);
  cost_low = omega arith;
  cost_high = omega arith;
  name = named_0;
}

valid_3 : IsValidFace two_routers 3 end_2
valid_3 = record { router = omega arith; list_in = tt; list_out = tt; host = tt; cost_low = omega arith; cost_high = omega arith; name = named_1 }

faces : (place : ℕ) (face : FaceRow) → slice_get two_routers.faces place ≡ Some face → IsValidFace two_routers place face
faces zero f e = subst (IsValidFace two_routers 0) (same_Some owner_1 f e) valid_0
faces (suc zero) f e = subst (IsValidFace two_routers 1) (same_Some end_1 f e) valid_1
faces (suc (suc zero)) f e = subst (IsValidFace two_routers 2) (same_Some owner_2 f e) valid_2
faces (suc (suc (suc zero))) f e = subst (IsValidFace two_routers 3) (same_Some end_2 f e) valid_3
faces (suc (suc (suc (suc k)))) f e = absurd (false≢true (ap is_some e))

links : (place : ℕ) (link : LinkRow) → slice_get two_routers.links place ≡ Some link → IsValidLink two_routers link
links zero l e =
    let valid : IsValidLink two_routers the_link = record { a = end_1; b = end_2; a_is = refl; b_is = refl; routers = λ q. omega arith } in
    subst (IsValidLink two_routers) (same_Some the_link l e) valid
links (suc k) l e = absurd (false≢true (ap is_some e))

apart_12 : AreDisjoint users_1 users_2
apart_12 = AreDisjoint-firsts users_1 users_2 false≢true false≢true

apart_1 : AreDisjoint users_1 between
apart_1 = AreDisjoint-firsts users_1 between false≢true false≢true

apart_2 : AreDisjoint users_2 between
apart_2 = AreDisjoint-firsts users_2 between false≢true false≢true

turn : (p q : Prefix) → AreDisjoint p q → AreDisjoint q p
turn p q h a x y = h a y x

-- what is said of two rows holds of what is read
of_rows : (f g x y : FaceRow) → AreApart f g → ◌≡◌ {A = Option FaceRow} (Some f) (Some x) → ◌≡◌ {A = Option FaceRow} (Some g) (Some y) → AreApart x y
of_rows f g x y h e q = subst (λ (z : FaceRow). AreApart x z) (same_Some g y q) (subst (λ (z : FaceRow). AreApart z g) (same_Some f x e) h)

joined_13 : AreLinked two_routers 1 3
joined_13 = (0, the_link, omega arith, refl, (inl refl, inr refl))

joined_31 : AreLinked two_routers 3 1
joined_31 = (0, the_link, omega arith, refl, (inr refl, inl refl))

past : {A : Type 0} (x : FaceRow) → ◌≡◌ {A = Option FaceRow} None (Some x) → A
past x e = absurd (false≢true (ap is_some e))

subnets : (i j : ℕ) (f g : FaceRow) → slice_get two_routers.faces i ≡ Some f → slice_get two_routers.faces j ≡ Some g → i ≢ j → AreLinked two_routers i j ⊎ AreApart f g
subnets zero zero f g e q n = absurd (n refl)
subnets zero (suc zero) f g e q n = inr (of_rows owner_1 end_1 f g apart_1 e q)
subnets zero (suc (suc zero)) f g e q n = inr (of_rows owner_1 owner_2 f g apart_12 e q)
subnets zero (suc (suc (suc zero))) f g e q n = inr (of_rows owner_1 end_2 f g apart_1 e q)
subnets zero (suc (suc (suc (suc j)))) f g e q n = past g q
subnets (suc zero) zero f g e q n = inr (of_rows end_1 owner_1 f g (turn users_1 between apart_1) e q)
subnets (suc zero) (suc zero) f g e q n = absurd (n refl)
subnets (suc zero) (suc (suc zero)) f g e q n = inr (of_rows end_1 owner_2 f g (turn users_2 between apart_2) e q)
subnets (suc zero) (suc (suc (suc zero))) f g e q n = inl joined_13
subnets (suc zero) (suc (suc (suc (suc j)))) f g e q n = past g q
subnets (suc (suc zero)) zero f g e q n = inr (of_rows owner_2 owner_1 f g (turn users_1 users_2 apart_12) e q)
subnets (suc (suc zero)) (suc zero) f g e q n = inr (of_rows owner_2 end_1 f g apart_2 e q)
subnets (suc (suc zero)) (suc (suc zero)) f g e q n = absurd (n refl)
subnets (suc (suc zero)) (suc (suc (suc zero))) f g e q n = inr (of_rows owner_2 end_2 f g apart_2 e q)
subnets (suc (suc zero)) (suc (suc (suc (suc j)))) f g e q n = past g q
subnets (suc (suc (suc zero))) zero f g e q n = inr (of_rows end_2 owner_1 f g (turn users_1 between apart_1) e q)
subnets (suc (suc (suc zero))) (suc zero) f g e q n = inl joined_31
subnets (suc (suc (suc zero))) (suc (suc zero)) f g e q n = inr (of_rows end_2 owner_2 f g (turn users_2 between apart_2) e q)
subnets (suc (suc (suc zero))) (suc (suc (suc zero))) f g e q n = absurd (n refl)
subnets (suc (suc (suc zero))) (suc (suc (suc (suc j)))) f g e q n = past g q
subnets (suc (suc (suc (suc i)))) j f g e q n = past f e

named_apart : (k : ℕ) (xs ys : List ℕ) → (get_or xs k 0 ≡ get_or ys k 0 → ⊥) → xs ≢ ys
named_apart k xs ys n e = n (ap (λ (zs : List ℕ). get_or zs k 0) e)

name_1 : IsName (codes "r1")
name_1 = record { some = omega arith; few = omega arith; bytes = (refl, (refl, tt)) }

name_2 : IsName (codes "r2")
name_2 = record { some = omega arith; few = omega arith; bytes = (refl, (refl, tt)) }

last_differs : codes "GigabitEthernet0/0" ≢ codes "GigabitEthernet0/1"
last_differs = named_apart 17 (codes "GigabitEthernet0/0") (codes "GigabitEthernet0/1") (λ e. omega (arith, e))

abbrev pub RoutersDiffer : RouterRow → RouterRow → Type 0
RoutersDiffer r s = r.name ≢ s.name

abbrev pub FacesDiffer : FaceRow → FaceRow → Type 0
FacesDiffer f g = f.router.0 ≡ g.router.0 → f.name ≢ g.name

routers_apart : AllPairs RoutersDiffer two_routers.routers
routers_apart i zero d l m = absurd (omega (arith, l))
routers_apart zero (suc zero) d l m = named_apart 1 (codes "r1") (codes "r2") (λ e. omega (arith, e))
routers_apart (suc i) (suc zero) d l m = absurd (omega (arith, l))
routers_apart i (suc (suc j)) d l m = absurd (omega (arith, m))

faces_apart : AllPairs FacesDiffer two_routers.faces
faces_apart i zero d l m = absurd (omega (arith, l))
faces_apart zero (suc zero) d l m = λ r. last_differs
faces_apart (suc i) (suc zero) d l m = absurd (omega (arith, l))
faces_apart zero (suc (suc zero)) d l m = λ r. absurd (omega (arith, r))
faces_apart (suc zero) (suc (suc zero)) d l m = λ r. absurd (omega (arith, r))
faces_apart (suc (suc i)) (suc (suc zero)) d l m = absurd (omega (arith, l))
faces_apart zero (suc (suc (suc zero))) d l m = λ r. absurd (omega (arith, r))
faces_apart (suc zero) (suc (suc (suc zero))) d l m = λ r. absurd (omega (arith, r))
faces_apart (suc (suc zero)) (suc (suc (suc zero))) d l m = λ r. last_differs
faces_apart (suc (suc (suc i))) (suc (suc (suc zero))) d l m = absurd (omega (arith, l))
faces_apart i (suc (suc (suc (suc j)))) d l m = absurd (omega (arith, m))

pub example_is_valid : ExampleIsValid
example_is_valid = record {
  faces = faces;
  links = links;
  links_apart = AllPairs-single AreLinksApart the_link;
  sessions = All-nil (IsValidSession two_routers);
  sessions_apart = AllPairs-none (AreSessionsApart two_routers);
  subnets = subnets;
  few_routers = omega arith;
  few_links = omega arith;
  few_faces = λ router. omega (arith, count_by-le-length (λ (face : FaceRow). face.router.0 == router) two_routers.faces);
  router_names = All-from_recursion (λ (r : RouterRow). IsName r.name) two_routers.routers (name_1, (name_2, tt));
  routers_named_apart = routers_apart;
  faces_named_apart = faces_apart;
  packet_lists = All-nil (IsValidPacketList two_routers);
  packet_lists_named_apart = AllPairs-none (λ (l : PacketList) (m : PacketList). l.router.0 ≡ m.router.0 → l.name ≢ m.name);
  route_lists = All-nil (IsValidRouteList two_routers);
  route_lists_named_apart = AllPairs-none (λ (l : RouteList) (m : RouteList). l.router.0 ≡ m.router.0 → l.name ≢ m.name);
  protocol = refl;
}
