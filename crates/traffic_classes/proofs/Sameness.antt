-- The test of two classes for the same numbers decides whether they are the same, and a set of these numbers tells which classes are there.
use Rattle.std.proofs.Common.{◌≡◌, ◌&&◌, ◌||◌, not, Bool, true, false, List, [], ◌∷◌, ◌++◌, map, if◌then◌else◌, nat_eq, Decides, refl, sym, ◌∙◌, ap}
use Rattle.std.specs.List.{list_any}
use Rattle.std.specs.Cmp.{IsEquivalence}
use Rattle.std.proofs.lemmas.Bool.{false≢true}
use Rattle.std.proofs.lemmas.Bool.Decides.{Decides-and, Decides-eqb}
use Rattle.arc_base.proofs.SamePrefix.{same_prefix}
use Rattle.net_model.specs.declared.policies.Class.{Class}
use Rattle.net_model.proofs.SameService.{same_service}
use Rattle.traffic_classes.specs.AllClasses.{Key, key_of, same_class_key, is_same_class, with_class}

abbrev Numbers : Class → Class → Type 0
Numbers c d = (((((c.from.addr ≡ d.from.addr) × (c.from.len ≡ d.from.len)) × (c.to.addr ≡ d.to.addr)) × (c.to.len ≡ d.to.len)) ×
    (c.service.low ≡ d.service.low)) × (c.service.high ≡ d.service.high)

ends-Decides : (c d : Class) → Decides (((nat_eq c.from.addr d.from.addr && nat_eq c.from.len d.from.len) && nat_eq c.to.addr d.to.addr) && nat_eq c.to.len d.to.len)
    ((((c.from.addr ≡ d.from.addr) × (c.from.len ≡ d.from.len)) × (c.to.addr ≡ d.to.addr)) × (c.to.len ≡ d.to.len))
ends-Decides c d =
    Decides-and ((nat_eq c.from.addr d.from.addr && nat_eq c.from.len d.from.len) && nat_eq c.to.addr d.to.addr) (nat_eq c.to.len d.to.len)
    (Decides-and (nat_eq c.from.addr d.from.addr && nat_eq c.from.len d.from.len) (nat_eq c.to.addr d.to.addr)
    (Decides-and (nat_eq c.from.addr d.from.addr) (nat_eq c.from.len d.from.len) (Decides-eqb c.from.addr d.from.addr) (Decides-eqb c.from.len d.from.len))
    (Decides-eqb c.to.addr d.to.addr))
    (Decides-eqb c.to.len d.to.len)

numbers-Decides : (c d : Class) → Decides (is_same_class c d) (Numbers c d)
numbers-Decides c d =
    Decides-and ((((nat_eq c.from.addr d.from.addr && nat_eq c.from.len d.from.len) && nat_eq c.to.addr d.to.addr) && nat_eq c.to.len d.to.len) &&
    nat_eq c.service.low d.service.low) (nat_eq c.service.high d.service.high)
    (Decides-and (((nat_eq c.from.addr d.from.addr && nat_eq c.from.len d.from.len) && nat_eq c.to.addr d.to.addr) && nat_eq c.to.len d.to.len)
    (nat_eq c.service.low d.service.low) (ends-Decides c d) (Decides-eqb c.service.low d.service.low))
    (Decides-eqb c.service.high d.service.high)

same_class : (c d : Class) → Numbers c d → c ≡ d
same_class c d n =
    let ends = n.0.0 in
    let from : c.from ≡ d.from = same_prefix c.from d.from ends.0.0.0 ends.0.0.1 in
    let to : c.to ≡ d.to = same_prefix c.to d.to ends.0.1 ends.1 in
    let service : c.service ≡ d.service = same_service c.service d.service n.0.1 n.1 in
    λ i. record { from = from i; to = to i; service = service i }

-- the test is right
pub is_same-Decides : (c d : Class) → Decides (is_same_class c d) (c ≡ d)
is_same-Decides c d = (
  λ t. same_class c d ((numbers-Decides c d).0 t),
  λ e. (numbers-Decides c d).1 (
    (
      (((ap (λ (x : Class). x.from.addr) e, ap (λ (x : Class). x.from.len) e), ap (λ (x : Class). x.to.addr) e), ap (λ (x : Class). x.to.len) e),
      ap (λ (x : Class). x.service.low) e,
    ),
    ap (λ (x : Class). x.service.high) e,
  ),
)

-- two tests that are true alike are the same
pub alike : (b c : Bool) → (b ≡ true → c ≡ true) → (c ≡ true → b ≡ true) → b ≡ c
alike true true f g = refl
alike true false f g = absurd (false≢true (f refl))
alike false true f g = absurd (false≢true (g refl))
alike false false f g = refl

pub is_same-IsEquivalence : IsEquivalence is_same_class
is_same-IsEquivalence = record {
  refl = λ c. (is_same-Decides c c).1 refl;
  symm = λ c d. alike (is_same_class c d) (is_same_class d c) (λ t. (is_same-Decides d c).1 (sym ((is_same-Decides c d).0 t))) (λ t. (is_same-Decides c d).1 (sym ((is_same-Decides d c).0 t)));
  congr = λ c d e t. ap (λ (x : Class). is_same_class x e) ((is_same-Decides c d).0 t);
}

any_mapped : (k : Key) (cs : List Class) → list_any (same_class_key k) (map key_of cs) ≡ list_any (λ c. same_class_key k (key_of c)) cs
any_mapped k [] = refl
any_mapped k (c ∷ cs) = ap (λ b. same_class_key k (key_of c) || b) (any_mapped k cs)

seen_alike : (cs : List Class) (c : Class) (ks : List Key) (k : Key) → ks ≡ map key_of cs → k ≡ key_of c → list_any (same_class_key k) ks ≡ list_any (is_same_class c) cs
seen_alike cs c ks k e f = ap (λ (l : List Key). list_any (same_class_key k) l) e ∙ any_mapped k cs ∙ ap (λ (x : Key). list_any (λ (d : Class). same_class_key x (key_of d)) cs) f

by_test : (b : Bool) {X : Type 0} (x y : X) → not b ≡ true → (if b then x else y) ≡ y
by_test true x y e = absurd (false≢true e)
by_test false x y e = refl

by_other : (b : Bool) {X : Type 0} (x y : X) → not b ≡ false → (if b then x else y) ≡ x
by_other true x y e = refl
by_other false x y e = absurd (false≢true (sym e))

-- a class whose numbers are new goes last
pub added_new : (cs : List Class) (c : Class) (ks : List Key) (k : Key) (new : Bool) → ks ≡ map key_of cs → k ≡ key_of c →
    new ≡ not (list_any (same_class_key k) ks) → new ≡ true → cs ++ c ∷ [] ≡ with_class cs c
added_new cs c ks k new e f said yes_new =
    sym (by_test (list_any (is_same_class c) cs) cs (cs ++ c ∷ []) (ap not (sym (seen_alike cs c ks k e f)) ∙ sym said ∙ yes_new))

-- one whose numbers are there is there
pub kept_old : (cs : List Class) (c : Class) (ks : List Key) (k : Key) (new : Bool) → ks ≡ map key_of cs → k ≡ key_of c →
    new ≡ not (list_any (same_class_key k) ks) → new ≡ false → cs ≡ with_class cs c
kept_old cs c ks k new e f said old =
    sym (by_other (list_any (is_same_class c) cs) cs (cs ++ c ∷ []) (ap not (sym (seen_alike cs c ks k e f)) ∙ sym said ∙ old))
