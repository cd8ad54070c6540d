-- Routers by their names: in a valid network a name is that of one router at most.
use Rattle.std.proofs.Common.{◌≡◌, ℕ, zero, suc, ◌+◌, ◌<◌, ◌≤◌, ◌⊎◌, inl, inr, List, [], ◌∷◌, length, get_or, refl, sym, ◌∙◌, ap, subst, arith}
use Rattle.std.specs.Prelude.{Option, Some, None, Err, IfSome, MatchOption, slice_get}
use Rattle.std.proofs.lemmas.Bool.{cases_lt}
use Rattle.std.proofs.lemmas.Option.{slice_get_within, get_or_from_slice_get}
use Rattle.arc_base.specs.declared.place.Router.{Router}
use Rattle.arc_base.specs.declared.refusal.Kind.TheVariants.{UnknownRouter}
use Rattle.net_model.specs.declared.rows.RouterRow.{RouterRow}
use Rattle.net_model.specs.declared.rows.Network.{Network}
use Rattle.net_model.specs.Validity.{IsValid}
use Rattle.net_rules.proofs.Distinct.{item_at}
use Rattle.run_files.specs.declared.outcome.Stop.{Stop}
use Rattle.run_files.specs.declared.outcome.Stop.TheVariants as stops
use Rattle.run_files.specs.Refusals.{refusal_of}
use Rattle.reach_commands.specs.PreferRuns.{IsNamed, NamesNoRouter, AreNamed, IsFirstUnknown, FindsRouters}

-- the row of a router that has a name
row_of : (o : Option RouterRow) (name : List ℕ) → MatchOption o ⊥ (λ row. row.name ≡ name) → (row : RouterRow) × (o ≡ Some row) × (row.name ≡ name)
row_of None name h = absurd h
row_of (Some row) name h = (row, refl, h)

module _ (net : Network) (valid : IsValid net) where
  not_before : (name : List ℕ) (a b : Router) → IsNamed net name a → IsNamed net name b → a.0 < b.0 → ⊥
  not_before name a b at_a at_b less =
      let row_a = row_of (slice_get net.routers a.0) name at_a in
      let row_b = row_of (slice_get net.routers b.0) name at_b in
      let read_a : get_or net.routers a.0 row_a.0 ≡ row_a.0 = get_or_from_slice_get net.routers a.0 row_a.0 row_a.0 row_a.1 in
      let read_b : get_or net.routers b.0 row_a.0 ≡ row_b.0 = get_or_from_slice_get net.routers b.0 row_b.0 row_a.0 row_b.1 in
      valid.routers_named_apart a.0 b.0 row_a.0 less (slice_get_within net.routers b.0 row_b.0 row_b.1)
      (ap (λ (r : RouterRow). r.name) read_a ∙ row_a.2 ∙ sym row_b.2 ∙ ap (λ (r : RouterRow). r.name) (sym read_b))

  one_router : (name : List ℕ) (a b : Router) → IsNamed net name a → IsNamed net name b → a ≡ b
  one_router name a b at_a at_b =
      elim (cases_lt a.0 b.0) [
        | inl less ↦ absurd (not_before name a b at_a at_b less)
        | inr more ↦ elim (cases_lt b.0 a.0) [
          | inl less ↦ absurd (not_before name b a at_b at_a less)
          | inr same ↦ let e : a.0 ≡ b.0 = omega (arith, more, same) in ap (λ (n : ℕ). let r : Router = record { 0 = n } in r) e
        ]
      ]

  pub one_list : (names : List (List ℕ)) (xs ys : List Router) → AreNamed net names xs → AreNamed net names ys → xs ≡ ys
  one_list [] [] [] one other = refl
  one_list [] [] (y ∷ ys) one other = absurd other
  one_list [] (x ∷ xs) ys one other = absurd one
  one_list (name ∷ names) [] ys one other = absurd one
  one_list (name ∷ names) (x ∷ xs) [] one other = absurd other
  one_list (name ∷ names) (x ∷ xs) (y ∷ ys) one other =
      ap (λ (z : Router). z ∷ xs) (one_router name x y one.0 other.0) ∙ ap (λ (zs : List Router). y ∷ zs) (one_list names xs ys one.1 other.1)

-- if each name is that of a router, none is unknown
named_at : (net : Network) (names : List (List ℕ)) (wanted : List Router) (k : ℕ) (name : List ℕ) → AreNamed net names wanted → slice_get names k ≡ Some name →
    (router : Router) × IsNamed net name router
named_at net [] wanted k name named at = absurd (cc)
named_at net (first ∷ names) [] k name named at = absurd named
named_at net (first ∷ names) (x ∷ xs) zero name named at =
    let same : first ≡ name = cc in (x, subst (λ (n : List ℕ). IsNamed net n x) same named.0)
named_at net (first ∷ names) (x ∷ xs) (suc k) name named at = named_at net names xs k name named.1 at

pub known_or_unknown : (net : Network) (names : List (List ℕ)) (wanted : List Router) (place : ℕ) → AreNamed net names wanted → IsFirstUnknown net names place → ⊥
known_or_unknown net names wanted place named first =
    let found = named_at net names wanted place first.name named first.at_place in
    first.unknown found.0 found.1

-- at most one name is the first that no router has
not_later : (net : Network) (names : List (List ℕ)) (place other : ℕ) → IsFirstUnknown net names place → IsFirstUnknown net names other → place < other → ⊥
not_later net names place other first second low =
    let found = second.before place first.name low first.at_place in
    first.unknown found.0 found.1

pub one_unknown : (net : Network) (names : List (List ℕ)) (place other : ℕ) → IsFirstUnknown net names place → IsFirstUnknown net names other → place ≡ other
one_unknown net names place other first second =
    elim (cases_lt place other) [
      | inl low ↦ absurd (not_later net names place other first second low)
      | inr high ↦ elim (cases_lt other place) [
        | inl low ↦ absurd (not_later net names other place second first low)
        | inr same ↦ omega (arith, high, same)
      ]
    ]

-- a name that no router has is unknown
pub unknown_if : (net : Network) (name : List ℕ) (n : ℕ) → length net.routers ≤ n → ((k : ℕ) → k < n → ¬ IsNamed net name (record { 0 = k })) → NamesNoRouter net name
unknown_if net name n all none router named =
    elim (cases_lt router.0 n) [
      | inl below ↦ none router.0 below named
      | inr past ↦
          let row = row_of (slice_get net.routers router.0) name named in
          absurd (omega (arith, slice_get_within net.routers router.0 row.0 row.1, past, all))
    ]

-- the names whose routers are found, with one more
pub known_more : (net : Network) (names : List (List ℕ)) (place : ℕ) (router : Router) → IfSome (slice_get names place) (λ name. IsNamed net name router) →
    ((k : ℕ) (name : List ℕ) → k < place → slice_get names k ≡ Some name → (r : Router) × IsNamed net name r) →
    (k : ℕ) (name : List ℕ) → k < place + 1 → slice_get names k ≡ Some name → (r : Router) × IsNamed net name r
known_more net names place router next before k name below at =
    elim (cases_lt k place) [
      | inl earlier ↦ before k name earlier at
      | inr later ↦
          let same : k ≡ place = omega (arith, later, below) in
          (router, subst (λ (o : Option (List ℕ)). IfSome o (λ n. IsNamed net n router)) (ap (λ (i : ℕ). slice_get names i) (sym same) ∙ at) next)
    ]

-- the refusal of a name that no router has
pub unknown_refused : (document : List ℕ) (net : Network) (names : List (List ℕ)) (place : ℕ) (stop : Stop) → place < length names → IfSome (slice_get names place) (NamesNoRouter net) →
    ((k : ℕ) (name : List ℕ) → k < place → slice_get names k ≡ Some name → (r : Router) × IsNamed net name r) →
    (stop ≡ stops.Memory) ⊎ (stop ≡ stops.Refused (refusal_of document (place + 1) UnknownRouter)) → FindsRouters document net names (Err stop)
unknown_refused document net names place stop within unknown before (inl memory) = subst (λ (s : Stop). FindsRouters document net names (Err s)) (sym memory) tt
unknown_refused document net names place stop within unknown before (inr is) =
    let here : (x : List ℕ) × (slice_get names place ≡ Some x) = item_at names place within in
    let first : IsFirstUnknown net names place = record {
      name = here.0;
      at_place = here.1;
      unknown = subst (λ (o : Option (List ℕ)). IfSome o (NamesNoRouter net)) here.1 unknown;
      before = before;
    } in
    subst (λ (s : Stop). FindsRouters document net names (Err s)) (sym is) (place, first, refl)
