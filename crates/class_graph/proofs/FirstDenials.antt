-- The first denial of a list of classes, as a walk through the list finds it.
use Rattle.std.proofs.Common.{◌≡◌, ◌≢◌, ℕ, ◌+◌, ◌<◌, ◌≤◌, Bool, true, false, Option, Some, None, List, length, refl, sym, ◌∙◌, subst, inl, inr, arith}
use Rattle.std.specs.Prelude.{if◌then◌else◌, nat_le, slice_get, MatchOption, All, Contains}
use Rattle.std.proofs.lemmas.Bool.{false≢true}
use Rattle.std.proofs.lemmas.Bool.Decides.{leb_tells}
use Rattle.std.proofs.lemmas.List.Elements.{All-contains}
use Rattle.std.proofs.lemmas.Option.{slice_get_within}
use Rattle.arc_base.specs.declared.place.Link.{Link}
use Rattle.arc_base.specs.declared.prefix.Prefix.{Prefix}
use Rattle.net_model.specs.declared.lists.Packet.{Packet}
use Rattle.net_model.specs.declared.policies.Class.{Class}
use Rattle.net_model.specs.declared.rows.Network.{Network}
use Rattle.net_model.specs.Packets.{IsOfClass, LiesIn, first_packet}
use Rattle.net_model.specs.Forwarding.{Ends, source_router, target_router}
use Rattle.net_model.specs.Witnesses.{IsRightRefused}
use Rattle.net_model.proofs.Packets.{first_is_of}
use Rattle.net_model.proofs.Readings.{item_at_place}
use Rattle.class_graph.specs.Denials.{IsDeniedOn, IsDeniedNowhere, IsLeastDenied}
use Rattle.class_graph.proofs.Passing.{one_more_class}
use Rattle.class_graph.specs.declared.first_denials.Denial.{Denial}
use Rattle.class_graph.specs.FirstDenials.{IsLowestDenial, IsFirstDenial, lower_of}

old_stays : (net : Network) (to : Prefix) (classes : List Class) (n : ℕ) (class : Class) → slice_get classes n ≡ Some class → (d : Denial) → IsLowestDenial net to classes n d →
    ((link : ℕ) → link < d.link.0 → ¬ IsDeniedOn net to class link) → IsLowestDenial net to classes (n + 1) d
old_stays net to classes n class at d old high = record {
  is_first = old.is_first;
  early = omega (arith, old.early);
  denied = old.denied;
  lower = one_more_class (λ (c : Class). (link : ℕ) → link < d.link.0 → ¬ IsDeniedOn net to c link) classes n class at old.lower high;
}

new_first : (net : Network) (to : Prefix) (classes : List Class) (n : ℕ) (class : Class) → slice_get classes n ≡ Some class → (link : Link) → IsLeastDenied net to class link.0 →
    ((k : ℕ) (c : Class) → k < n → slice_get classes k ≡ Some c → (l : ℕ) → l < link.0 + 1 → ¬ IsDeniedOn net to c l) →
    IsLowestDenial net to classes (n + 1) (record { link = link; class = class })
new_first net to classes n class at link least before = record {
  is_first = record { place = n; at_place = at; before = λ k c low at_k. before k c low at_k link.0 (omega arith) };
  early = omega arith;
  denied = least.denied;
  lower = one_more_class (λ (c : Class). (l : ℕ) → l < link.0 → ¬ IsDeniedOn net to c l) classes n class at
      (λ k c low at_k l below. before k c low at_k l (omega arith)) least.least;
}

choose : (net : Network) (to : Prefix) (classes : List Class) (n : ℕ) (class : Class) → slice_get classes n ≡ Some class → (d : Denial) → IsLowestDenial net to classes n d →
    (link : Link) → IsLeastDenied net to class link.0 → (test : Bool) → nat_le d.link.0 link.0 ≡ test →
    IsFirstDenial net to classes (n + 1) (if test then Some d else Some (record { link = link; class = class }))
choose net to classes n class at d old link least true is = elim (leb_tells d.link.0 link.0) [
  | inl low ↦ old_stays net to classes n class at d old (λ l below. least.least l (omega (arith, low.1)))
  | inr high ↦ absurd (false≢true (sym (high.0) ∙ is))
]
choose net to classes n class at d old link least false is = elim (leb_tells d.link.0 link.0) [
  | inl low ↦ absurd (false≢true (sym is ∙ low.0))
  | inr high ↦ new_first net to classes n class at link least (λ k c low at_k l below. old.lower k c low at_k l (omega (arith, high.1)))
]

-- the first denial of the classes so far and the next one
pub first_denial_more : (net : Network) (to : Prefix) (classes : List Class) (n : ℕ) (class : Class) → slice_get classes n ≡ Some class →
    (best : Option Denial) → IsFirstDenial net to classes n best →
    (found : Option Link) → MatchOption found (IsDeniedNowhere net to class) (λ link. IsLeastDenied net to class link.0) →
    IsFirstDenial net to classes (n + 1) (lower_of best found class)
first_denial_more net to classes n class at None before None nowhere = one_more_class (IsDeniedNowhere net to) classes n class at before nowhere
first_denial_more net to classes n class at (Some d) old None nowhere = old_stays net to classes n class at d old (λ link low. nowhere link)
first_denial_more net to classes n class at None before (Some link) least =
    new_first net to classes n class at link least (λ k c low at_k l below. before k c low at_k l)
first_denial_more net to classes n class at (Some d) old (Some link) least = choose net to classes n class at d old link least (nat_le d.link.0 link.0) refl

all_of_them : (net : Network) (to : Prefix) (items : List Class) (n : ℕ) → length items ≤ n → (best : Option Denial) →
    IsFirstDenial net to items n best → IsFirstDenial net to items (length items) best
all_of_them net to items n end None none = λ k c low at. none k c (omega arith) at
all_of_them net to items n end (Some d) is = record {
  is_first = is.is_first;
  early = slice_get_within items is.is_first.place d.class is.is_first.at_place;
  denied = is.denied;
  lower = λ k c low at. is.lower k c (omega arith) at;
}

-- past the last class, all of them
pub denial_at_end : (net : Network) (to : Prefix) (items classes : List Class) → items ≡ classes → (n : ℕ) → length items ≤ n → (best : Option Denial) →
    IsFirstDenial net to items n best → IsFirstDenial net to classes (length classes) best
denial_at_end net to items classes same n end best is = subst (λ (cs : List Class). IsFirstDenial net to cs (length cs) best) same (all_of_them net to items n end best is)

-- the first denial of classes of a whole is a right refusal of it
pub right_refusal : (net : Network) (ends : Ends) (whole : Class) (classes : List Class) → All (λ (c : Class). LiesIn c whole) classes → source_router ends ≢ target_router ends → (d : Denial) →
    IsLowestDenial net ends.to classes (length classes) d → (p : Packet) → p ≡ first_packet d.class → IsRightRefused net ends whole p d.link
right_refusal net ends whole classes parts apart d denial p packet =
    let one : Contains classes d.class = item_at_place classes denial.is_first.place d.class denial.is_first.at_place in
    let part : LiesIn d.class whole = All-contains (λ (c : Class). LiesIn c whole) classes d.class parts one in
    let of_class : IsOfClass d.class p = subst (IsOfClass d.class) (sym packet) (first_is_of d.class) in
    record {
      apart = apart;
      packet = (part.0 p.from of_class.0, part.1 p.to of_class.1, part.2 p.service of_class.2);
      arc = denial.denied.arc;
      of_link = denial.denied.of_link;
      is_arc = denial.denied.is_arc;
      routed = denial.denied.routed;
      denied = denial.denied.denied p of_class;
    }
