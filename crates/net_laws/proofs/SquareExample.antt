-- The square: its arcs, its stable distances with all links up, and its two right verdicts.
use Rattle.std.proofs.Common.{◌≡◌, ℕ, zero, suc, ◌+◌, ◌<◌, ◌≤◌, ◌≢◌, Bool, true, false, Some, List, [], ◌∷◌, ◌∙◌, Option, refl, sym, ap, subst, arith}
use Rattle.std.specs.Prelude.{All, AllPairs, Any, slice_get, is_some, unwrap_or, IsTrue, ◌&&◌, if◌then◌else◌}
use Rattle.std.proofs.lemmas.Bool.{false≢true}
use Rattle.std.proofs.lemmas.List.Kept.{AllPairs-cons}
use Rattle.std.specs.List.{find}
use Rattle.std.specs.Option.{option_map_or}
use Rattle.arc_base.specs.Addresses.{holds}
use Rattle.net_model.specs.declared.lists.Packet.{Packet}
use Rattle.net_model.specs.declared.lists.PacketEntry.{PacketEntry}
use Rattle.net_model.specs.declared.rows.FaceRow.{FaceRow}
use Rattle.net_model.specs.Lists.{matches, permits}
use Rattle.net_model.specs.Services.{serves, whole_service}
use Rattle.net_model.specs.Packets.{IsOfClass}
use Rattle.net_model.specs.declared.policies.PolicyKind.TheVariants.{Blocked}
use Rattle.net_model.specs.Witnesses.{IsRightWalk}
use Rattle.net_laws.proofs.RightWalks.{right_walks_unblock}
use Rattle.net_model.specs.Routing.{Arc, IsArc, IsRouted, IsUsable, Offers, IsLeastOffer, Advertises, cost, tail_router, head_router}
use Rattle.net_model.specs.Forwarding.{AreEnds, Attains, ListPermits, Walk}
use Rattle.net_model.proofs.Arcs.{IsArc-unique}
use Rattle.net_laws.specs.Examples.{users_1}
use Rattle.net_laws.specs.Square.{square, users_4, everyone, owner_4, link, end_1a, end_1b, end_2a, end_2b, end_3a, end_3b, end_4a}
use Rattle.net_laws.specs.Square.{end_4b, across, ends, list_101, over_3_and_4, length_of, distances, SquareDistancesAreStable, SquareDeliversNone, SquareIsNotBlocked, SquareWalkIsRight}
use Rattle.net_laws.specs.Square.{SquareRefusalIsRight}

-- the arc of each link in each direction
abbrev pub arc : ℕ → Bool → Arc
arc zero true = record { link = 0; from_a = true; row = link 1 4; tail = end_1a; head = end_1b }
arc zero false = record { link = 0; from_a = false; row = link 1 4; tail = end_1b; head = end_1a }
arc (suc zero) true = record { link = 1; from_a = true; row = link 5 10; tail = end_2a; head = end_2b }
arc (suc zero) false = record { link = 1; from_a = false; row = link 5 10; tail = end_2b; head = end_2a }
arc (suc (suc zero)) true = record { link = 2; from_a = true; row = link 2 7; tail = end_3a; head = end_3b }
arc (suc (suc zero)) false = record { link = 2; from_a = false; row = link 2 7; tail = end_3b; head = end_3a }
arc (suc (suc (suc k))) true = record { link = 3; from_a = true; row = link 8 11; tail = end_4a; head = end_4b }
arc (suc (suc (suc k))) false = record { link = 3; from_a = false; row = link 8 11; tail = end_4b; head = end_4a }

is_arc : (k : ℕ) (f : Bool) → IsArc square (arc k f)
is_arc zero true = record { link = refl; tail = refl; head = refl }
is_arc zero false = record { link = refl; tail = refl; head = refl }
is_arc (suc zero) true = record { link = refl; tail = refl; head = refl }
is_arc (suc zero) false = record { link = refl; tail = refl; head = refl }
is_arc (suc (suc zero)) true = record { link = refl; tail = refl; head = refl }
is_arc (suc (suc zero)) false = record { link = refl; tail = refl; head = refl }
is_arc (suc (suc (suc k))) true = record { link = refl; tail = refl; head = refl }
is_arc (suc (suc (suc k))) false = record { link = refl; tail = refl; head = refl }

told : Any (Advertises users_4) square.faces
told = (9, owner_4, omega arith, refl, record { host = refl; told = refl; up = refl })

routed : (k : ℕ) → IsRouted square users_4 (arc k true)
routed zero = record {
  told = told;
  carries =
      record {
        able_tail = record { up = refl; addressed = refl; takes_part = refl };
        able_head = record { up = refl; addressed = refl; takes_part = refl };
        open_tail =
            record { active = refl; not_down = tt };
        open_head = record { active = refl; not_down = tt };
        filter = tt;
      };
}
routed (suc zero) = record {
  told = told;
  carries =
      record {
        able_tail = record { up = refl; addressed = refl; takes_part = refl };
        able_head = record { up = refl; addressed = refl; takes_part = refl };
        open_tail =
            record { active = refl; not_down = tt };
        open_head = record { active = refl; not_down = tt };
        filter = tt;
      };
}
routed (suc (suc zero)) =
    record {
      told = told;
      carries =
          record {
            able_tail = record { up = refl; addressed = refl; takes_part = refl };
            able_head = record { up = refl; addressed = refl; takes_part = refl };
            open_tail =
                record { active = refl; not_down = tt };
            open_head = record { active = refl; not_down = tt };
            filter = tt;
          };
    }
routed (suc (suc (suc k))) =
    record {
      told = told;
      carries =
          record {
            able_tail = record { up = refl; addressed = refl; takes_part = refl };
            able_head = record { up = refl; addressed = refl; takes_part = refl };
            open_tail =
                record { active = refl; not_down = tt };
            open_head = record { active = refl; not_down = tt };
            filter = tt;
          };
    }

-- an arc is no shorter than the distances at its ends differ
abbrev pub IsNoShortcut : Arc → Type 0
IsNoShortcut a = length_of (tail_router a) ≤ cost square a + length_of (head_router a)

-- what holds of the eight arcs holds of each arc of the square
on_square : (P : Arc → Type 0) (k : ℕ) (f : Bool) (b : Arc) → IsArc square b → b.link ≡ (arc k f).link → b.from_a ≡ (arc k f).from_a → P (arc k f) → P b
on_square P k f b is l e h = subst P (IsArc-unique square (arc k f) b (is_arc k f) is (sym l) (sym e)) h

-- it holds of both arcs of each of the four links
pub record OfAll (P : Arc → Type 0) : Type 0 where
  pub first : P (arc 0 true) × P (arc 0 false)
  pub second : P (arc 1 true) × P (arc 1 false)
  pub third : P (arc 2 true) × P (arc 2 false)
  pub fourth : P (arc 3 true) × P (arc 3 false)

at : (P : Arc → Type 0) → OfAll P → (k : ℕ) (f : Bool) (b : Arc) → IsArc square b → b.link ≡ k → b.from_a ≡ f → P b
at P all zero true b is l e = on_square P 0 true b is l e all.first.0
at P all zero false b is l e = on_square P 0 false b is l e all.first.1
at P all (suc zero) true b is l e = on_square P 1 true b is l e all.second.0
at P all (suc zero) false b is l e = on_square P 1 false b is l e all.second.1
at P all (suc (suc zero)) true b is l e = on_square P 2 true b is l e all.third.0
at P all (suc (suc zero)) false b is l e = on_square P 2 false b is l e all.third.1
at P all (suc (suc (suc zero))) true b is l e = on_square P 3 true b is l e all.fourth.0
at P all (suc (suc (suc zero))) false b is l e = on_square P 3 false b is l e all.fourth.1
at P all (suc (suc (suc (suc k)))) f b is l e =
    absurd (false≢true (ap is_some (subst (λ (n : ℕ). slice_get square.links n ≡ Some b.row) l is.link)))

no_shortcuts : OfAll IsNoShortcut
no_shortcuts = record {
  first = (omega arith, omega arith);
  second = (omega arith, omega arith);
  third = (omega arith, omega arith);
  fourth = (omega arith, omega arith);
}

-- the first router sends to the second, and that one over the end with the list
abbrev pub GoesTo : Arc → Type 0
GoesTo a = length_of (tail_router a) ≡ cost square a + length_of (head_router a) → (tail_router a ≡ 0 → head_router a ≡ 1) × (tail_router a ≡ 1 → a.head ≡ end_2b)

goes_to : OfAll GoesTo
goes_to = record {
  first = (λ e. (λ t. refl, λ t. absurd (omega (arith, t))), λ e. absurd (omega (arith, e)));
  second = (λ e. (λ t. absurd (omega (arith, t)), λ t. refl), λ e. absurd (omega (arith, e)));
  third = (λ e. absurd (omega (arith, e)), λ e. absurd (omega (arith, e)));
  fourth = (λ e. (λ t. absurd (omega (arith, t)), λ t. absurd (omega (arith, t))), λ e. absurd (omega (arith, e)));
}

no_less : (t c h rest u n : ℕ) → t ≤ c + h → h ≡ rest → n ≡ c + rest → t ≡ u → u ≤ n
no_less t c h rest u n short e sum same = omega arith

at_least : (u n : ℕ) → Offers square users_4 (λ link. false) distances u n → length_of u ≤ n
at_least u n o =
    no_less (length_of (tail_router o.arc)) (cost square o.arc) (length_of (head_router o.arc)) o.rest (length_of u) n
    (at IsNoShortcut no_shortcuts o.arc.link o.arc.from_a o.arc o.usable.is_arc refl refl) (ap (λ (d : Option ℕ). unwrap_or d 0) o.head) o.sum (ap length_of o.tail)

usable : (k : ℕ) → IsUsable square users_4 (λ link. false) (arc k true)
usable k = record { is_arc = is_arc k true; routed = routed k; left = refl }

elsewhere : (u : ℕ) → u < 4 → u ≢ 3 → IsLeastOffer square users_4 (λ link. false) distances u (distances u)
elsewhere zero within apart = (record { arc = arc 0 true; usable = usable 0; tail = refl; rest = 1; head = refl; sum = refl }, at_least 0)
elsewhere (suc zero) within apart = (record { arc = arc 1 true; usable = usable 1; tail = refl; rest = 0; head = refl; sum = refl }, at_least 1)
elsewhere (suc (suc zero)) within apart = (record { arc = arc 3 true; usable = usable 3; tail = refl; rest = 0; head = refl; sum = refl }, at_least 2)
elsewhere (suc (suc (suc zero))) within apart = absurd (apart refl)
elsewhere (suc (suc (suc (suc u)))) within apart = absurd (omega (arith, within))

pub square_distances_are_stable : SquareDistancesAreStable
square_distances_are_stable = record { at_owner = refl; elsewhere = elsewhere }

are_ends : AreEnds square across ends
are_ends = record { source = (0, omega arith, refl); from = λ a h. h; target = (9, omega arith, refl); host = refl; to = λ a h. h }

two : {X : Type 0} (P : X → Type 0) (x y : X) → P x → P y → All P (x ∷ y ∷ [])
two P x y p q zero d l = p
two P x y p q (suc zero) d l = q
two P x y p q (suc (suc k)) d l = absurd (omega (arith, l))

pair : {X : Type 0} (R : X → X → Type 0) (x y : X) → R x y → AllPairs R (x ∷ y ∷ [])
pair R x y r zero zero d m l = absurd (omega (arith, m))
pair R x y r zero (suc zero) d m l = r
pair R x y r zero (suc (suc j)) d m l = absurd (omega (arith, l))
pair R x y r (suc i) j d m l = absurd (omega (arith, m, l))

right_walk : IsRightWalk square ends Blocked across across over_3_and_4
right_walk = record {
  part = (λ a h. h, λ a h. h, λ s h. h);
  path = record {
    arcs = arc 2 true ∷ arc 3 true ∷ [];
    links = refl;
    leads = (is_arc 2 true, routed 2, refl, (is_arc 3 true, routed 3, refl, refl));
  };
  once = AllPairs-cons (λ (u : ℕ) (v : ℕ). u ≢ v) 0 (2 ∷ 3 ∷ [])
      (two (λ (v : ℕ). 0 ≢ v) 2 3 (λ e. omega (arith, e)) (λ e. omega (arith, e))) (pair (λ (u : ℕ) (v : ℕ). u ≢ v) 2 3 (λ e. omega (arith, e)));
  enters = λ p of. (refl, tt);
  permitted = λ p of. ((tt, tt), ((tt, tt), tt));
  leaves = λ p of. (refl, tt);
  breaks = (tt, (tt, tt));
}

pub square_walk_is_right : SquareWalkIsRight
square_walk_is_right = record { ends = ends; are_ends = are_ends; right = right_walk }

pub square_refusal_is_right : SquareRefusalIsRight
square_refusal_is_right = record {
  ends = ends;
  are_ends = are_ends;
  right = record {
    apart = λ e. omega (arith, e);
    packet = (refl, refl, refl);
    arc = arc 1 true;
    of_link = refl;
    is_arc = is_arc 1 true;
    routed = routed 1;
    denied = λ h. false≢true h.1;
  };
}

-- where an arc on a shortest way goes
taken : (b : Arc) → Attains square users_4 (λ link. false) distances b → GoesTo b → (tail_router b ≡ 0 → head_router b ≡ 1) × (tail_router b ≡ 1 → b.head ≡ end_2b)
taken b a goes =
    let value : Option ℕ → ℕ = λ d. unwrap_or d 0 in
    let head : length_of (head_router b) ≡ a.rest = ap value a.head in
    let tail : length_of (tail_router b) ≡ cost square b + a.rest = ap value a.tail in
    goes (omega (arith, head, tail))

next : (b : Arc) → Attains square users_4 (λ link. false) distances b → (tail_router b ≡ 0 → head_router b ≡ 1) × (tail_router b ≡ 1 → b.head ≡ end_2b)
next b a = taken b a (at GoesTo goes_to b.link b.from_a b a.usable.is_arc refl refl)

-- the list denies them
denied : (p : Packet) → IsOfClass across p → permits list_101.entries p ≡ false
denied p of =
    let both : (holds users_1 p.from && holds users_4 p.to && serves whole_service p.service) ≡ true =
    ap (λ (b : Bool). b && holds users_4 p.to && serves whole_service p.service) of.0
    ∙ ap (λ (b : Bool). b && serves whole_service p.service) of.1 ∙ of.2 in
    ap (λ (b : Bool). option_map_or (λ (e : PacketEntry). e.permit)
    (if b then Some (record { permit = false; from = users_1; to = users_4; service = whole_service }) else find (matches p)
    (record { permit = true; from = everyone; to = everyone; service = whole_service } ∷ [])) false) both

walks_nowhere : (p : Packet) → IsOfClass across p → (arcs : List Arc) → Walk square users_4 (λ link. false) distances p 0 arcs 3 → ⊥
walks_nowhere p of [] w = omega (arith, w)
walks_nowhere p of (a ∷ []) w =
    let to : head_router a ≡ 1 = (next a w.1).0 w.0 in
    omega (arith, to, w.3)
walks_nowhere p of (a ∷ b ∷ arcs) w =
    let to : head_router a ≡ 1 = (next a w.1).0 w.0 in
    let on : b.head ≡ end_2b = (next b w.3.1).1 (w.3.0 ∙ to) in
    let permitted : IsTrue (permits list_101.entries p) = subst (λ (f : FaceRow). ListPermits square f.list_in p) on w.3.2.1 in
    false≢true (sym (denied p of) ∙ permitted)

pub square_delivers_none : SquareDeliversNone
square_delivers_none p of arcs h = walks_nowhere p of arcs h.walk

pub square_is_not_blocked : SquareIsNotBlocked
square_is_not_blocked = right_walks_unblock square ends across across over_3_and_4 right_walk
