-- All triples of a list of sources, one of destinations and one of services, as classes.
use Rattle.std.proofs.Common.{◌≡◌, ℕ, suc, ◌+◌, ◌*◌, List, [], ◌∷◌, length, sym, ◌∙◌, ap, subst, arith}
use Rattle.std.specs.Prelude.{Contains, AllPairs, sum_by}
use Rattle.std.proofs.lemmas.List.{length-map, length-append}
use Rattle.std.proofs.lemmas.List.Sums.{sum_by-append, sum_by-cons}
use Rattle.arc_base.specs.Addresses.{size, Holds, AreDisjoint}
use Rattle.arc_base.specs.declared.prefix.Prefix.{Prefix}
use Rattle.net_model.specs.declared.policies.Class.{Class}
use Rattle.net_model.specs.declared.services.Service.{Service}
use Rattle.net_model.specs.Packets.{ShareNoPacket, packets}
use Rattle.net_model.specs.Services.{services, Serves}
use Rattle.traffic_classes.specs.Classes.{classes_between, classes_from, all_triples}
use Rattle.arc_base.proofs.Items.{Contains-map, from_map, Contains-piece, from_piece, AllPairs-map, AllPairs-append, AllPairs-rest, AllPairs-first, AllPairs-none}

-- no service is in both ranges
abbrev pub AreApart : Service → Service → Type 0
AreApart s t = (n : ℕ) → Serves s n → Serves t n → ⊥

abbrev pub triple : Prefix → Prefix → Service → Class
triple s d v = record { from = s; to = d; service = v }

length-from : (s : Prefix) (ds : List Prefix) (vs : List Service) → length (classes_from ds vs s) ≡ length ds * length vs
length-from s [] vs = omega arith
length-from s (d ∷ ds) vs =
    omega (arith, length-append (classes_between vs s d) (classes_from ds vs s), length-map vs (triple s d), length-from s ds vs)

spread : (a b c : ℕ) → a * b + a * c ≡ a * (b + c)
spread a b c = omega arith

gather : (a b c : ℕ) → a * c + b * c ≡ (a + b) * c
gather a b c = omega arith

regroup : (a b c : ℕ) → a * (b * c) ≡ a * b * c
regroup a b c = omega arith

products : (s : Prefix) (ss ds : List Prefix) (vs : List Service) → length (all_triples (s ∷ ss) ds vs) ≡ length ds * length vs + length (all_triples ss ds vs)
products s ss ds vs = length-append (classes_from ds vs s) (all_triples ss ds vs) ∙ ap (λ (n : ℕ). n + length (all_triples ss ds vs)) (length-from s ds vs)

one_times : (a b : ℕ) → b + a * b ≡ suc a * b
one_times a b = omega arith

pub length-triples : (ss ds : List Prefix) (vs : List Service) → length (all_triples ss ds vs) ≡ length ss * length ds * length vs
length-triples [] ds vs = omega arith
length-triples (s ∷ ss) ds vs =
    products s ss ds vs ∙ ap (λ (n : ℕ). length ds * length vs + n) (length-triples ss ds vs ∙ sym (regroup (length ss) (length ds) (length vs))) ∙
    one_times (length ss) (length ds * length vs) ∙ regroup (length (s ∷ ss)) (length ds) (length vs)

-- a triple is made of a source, a destination and a service
of_from : (ds : List Prefix) (vs : List Service) (s : Prefix) (c : Class) → Contains (classes_from ds vs s) c → (s ≡ c.from) × Contains ds c.to × Contains vs c.service
of_from ds vs s c h =
    let d = from_piece (classes_between vs s) ds c h in
    let v = from_map (triple s d.0) vs c d.2 in (
      ap (λ (x : Class). x.from) v.2,
      subst (λ (p : Prefix). Contains ds p) (ap (λ (x : Class). x.to) v.2) d.1,
      subst (λ (p : Service). Contains vs p) (ap (λ (x : Class). x.service) v.2) v.1,
    )

pub of_triples : (ss ds : List Prefix) (vs : List Service) (c : Class) → Contains (all_triples ss ds vs) c → Contains ss c.from × Contains ds c.to × Contains vs c.service
of_triples ss ds vs c h =
    let s = from_piece (classes_from ds vs) ss c h in
    let r = of_from ds vs s.0 c s.2 in
    (subst (λ (p : Prefix). Contains ss p) r.0 s.1, r.1, r.2)

pub in_triples : (ss ds : List Prefix) (vs : List Service) (s d : Prefix) (v : Service) → Contains ss s → Contains ds d → Contains vs v →
    Contains (all_triples ss ds vs) (triple s d v)
in_triples ss ds vs s d v h k l =
    Contains-piece (classes_from ds vs) ss s (triple s d v) h
    (Contains-piece (classes_between vs s) ds d (triple s d v) k (Contains-map (triple s d) vs v l))

-- a product of sums
sum_between : (s d : Prefix) (vs : List Service) → sum_by packets (classes_between vs s d) ≡ size s * size d * sum_by services vs
sum_between s d [] = omega arith
sum_between s d (v ∷ vs) =
    sum_by-cons packets (triple s d v) (classes_between vs s d) ∙ ap (λ (x : ℕ). size s * size d * services v + x) (sum_between s d vs) ∙
    spread (size s * size d) (services v) (sum_by services vs) ∙ ap (λ (x : ℕ). size s * size d * x) (sym (sum_by-cons services v vs))

sum_from : (s : Prefix) (ds : List Prefix) (vs : List Service) → sum_by packets (classes_from ds vs s) ≡ size s * sum_by size ds * sum_by services vs
sum_from s [] vs = omega arith
sum_from s (d ∷ ds) vs =
    sum_by-append packets (classes_between vs s d) (classes_from ds vs s) ∙
    ap (λ (x : ℕ). x + sum_by packets (classes_from ds vs s)) (sum_between s d vs) ∙
    ap (λ (x : ℕ). size s * size d * sum_by services vs + x) (sum_from s ds vs) ∙
    gather (size s * size d) (size s * sum_by size ds) (sum_by services vs) ∙
    ap (λ (x : ℕ). x * sum_by services vs) (spread (size s) (size d) (sum_by size ds) ∙ ap (λ (x : ℕ). size s * x) (sym (sum_by-cons size d ds)))

pub sum_triples : (ss ds : List Prefix) (vs : List Service) → sum_by packets (all_triples ss ds vs) ≡ sum_by size ss * sum_by size ds * sum_by services vs
sum_triples [] ds vs = omega arith
sum_triples (s ∷ ss) ds vs =
    sum_by-append packets (classes_from ds vs s) (all_triples ss ds vs) ∙
    ap (λ (x : ℕ). x + sum_by packets (all_triples ss ds vs)) (sum_from s ds vs) ∙
    ap (λ (x : ℕ). size s * sum_by size ds * sum_by services vs + x) (sum_triples ss ds vs) ∙
    gather (size s * sum_by size ds) (sum_by size ss * sum_by size ds) (sum_by services vs) ∙
    ap (λ (x : ℕ). x * sum_by services vs) (gather (size s) (sum_by size ss) (sum_by size ds) ∙ ap (λ (x : ℕ). x * sum_by size ds) (sym (sum_by-cons size s ss)))

-- triples of disjoint sources, disjoint destinations and ranges of services that are apart share no packet
disjoint_from : (s : Prefix) (ds : List Prefix) (vs : List Service) → AllPairs AreDisjoint ds → AllPairs AreApart vs → AllPairs ShareNoPacket (classes_from ds vs s)
disjoint_from s [] vs two three = AllPairs-none ShareNoPacket
disjoint_from s (d ∷ ds) vs two three =
    AllPairs-append ShareNoPacket (classes_between vs s d) (classes_from ds vs s)
    (AllPairs-map ShareNoPacket (triple s d) vs (λ i j v l m p h k. three i j v l m p.service h.2 k.2))
    (disjoint_from s ds vs (AllPairs-rest AreDisjoint d ds two) three)
    (λ c e in_c in_e p h k.
    let first = from_map (triple s d) vs c in_c in
    let from_d : d ≡ c.to = ap (λ (x : Class). x.to) first.2 in
    let other : Contains ds e.to = (of_from ds vs s e in_e).1 in
    AllPairs-first AreDisjoint d e.to ds two other p.to (subst (λ (q : Prefix). Holds q p.to) (sym from_d) h.1) k.1)

pub disjoint_triples : (ss ds : List Prefix) (vs : List Service) → AllPairs AreDisjoint ss → AllPairs AreDisjoint ds → AllPairs AreApart vs →
    AllPairs ShareNoPacket (all_triples ss ds vs)
disjoint_triples [] ds vs one two three = AllPairs-none ShareNoPacket
disjoint_triples (s ∷ ss) ds vs one two three =
    AllPairs-append ShareNoPacket (classes_from ds vs s) (all_triples ss ds vs)
    (disjoint_from s ds vs two three)
    (disjoint_triples ss ds vs (AllPairs-rest AreDisjoint s ss one) two three)
    (λ c d in_c in_d p h k.
    let from_s : s ≡ c.from = (of_from ds vs s c in_c).0 in
    let other : Contains ss d.from = (of_triples ss ds vs d in_d).0 in
    AllPairs-first AreDisjoint s d.from ss one other p.from (subst (λ (q : Prefix). Holds q p.from) (sym from_s) h.0) k.0)
