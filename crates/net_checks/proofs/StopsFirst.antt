-- The first of the refusals that are found one after another.
use Rattle.std.proofs.Common.{◌≡◌, ℕ, ◌+◌, ◌<◌, ◌⊎◌, inl, inr, Option, Some, None, List, [], length, get_or}
use Rattle.std.proofs.Common.{take, refl, sym, ◌∙◌, subst, arith, Bool, true, false, ◌&&◌, Decides, nat_lt, nat_eq, if◌then◌else◌}
use Rattle.std.specs.Prelude.{Any}
use Rattle.std.proofs.lemmas.Bool.{cases_lt, false≢true}
use Rattle.std.proofs.lemmas.Bool.Decides.{Decides-and, Decides-or, Decides-eqb, Decides-ltb}
use Rattle.net_doc.specs.declared.fault.Refusal.{Refusal}
use Rattle.net_model.specs.declared.rows.LinkRow.{LinkRow}
use Rattle.net_model.specs.declared.rows.Network.{Network}
use Rattle.ios_config.specs.declared.settings.Config.{Config}
use Rattle.net_rules.specs.Reasons.{IsBefore}
use Rattle.net_checks.specs.FarEnds.{FindsOnly}
use Rattle.net_checks.specs.Stopping.{StopsAt, StopsAtSome, FindsFirst, is_before, earlier}
use Rattle.net_rules.proofs.Anys.{Any-before, Any-now, Any-either}

before-Decides : (r s : Refusal) → Decides (is_before r s) (IsBefore r s)
before-Decides r s =
    Decides-or (nat_lt r.file s.file) (nat_eq r.file s.file && nat_lt r.number s.number) (Decides-ltb r.file s.file)
    (Decides-and (nat_eq r.file s.file) (nat_lt r.number s.number) (Decides-eqb r.file s.file) (Decides-ltb r.number s.number))

never_itself : (r : Refusal) → ¬ IsBefore r r
never_itself r (inl h) = omega (arith, h)
never_itself r (inr h) = omega (arith, h.1)

-- what is before x is before y, or y is before x
before_either : (o y x : Refusal) → ¬ IsBefore o y → ¬ IsBefore y x → ¬ IsBefore o x
before_either o y x no_o no_y (inl h) = elim (cases_lt o.file y.file) [
  | inl below ↦ no_o (inl below)
  | inr above ↦ no_y (inl (omega (arith, h, above)))
]
before_either o y x no_o no_y (inr h) = elim (cases_lt o.file y.file) [
  | inl below ↦ no_o (inl below)
  | inr above ↦ elim (cases_lt y.file x.file) [
    | inl lower ↦ no_y (inl lower)
    | inr upper ↦ elim (cases_lt o.number y.number) [
      | inl less ↦ no_o (inr (omega (arith, h.0, above, upper), less))
      | inr more ↦ no_y (inr (omega (arith, h.0, above, upper), omega (arith, h.1, more)))
    ]
  ]
]

before_turn : (o x y : Refusal) → ¬ IsBefore o x → IsBefore y x → ¬ IsBefore o y
before_turn o x y no_o before = before_either o x y no_o (after x y before)
  where
    after : (x y : Refusal) → IsBefore y x → ¬ IsBefore x y
    after x y (inl h) (inl k) = omega (arith, h, k)
    after x y (inl h) (inr k) = omega (arith, h, k.0)
    after x y (inr h) (inl k) = omega (arith, h.0, k)
    after x y (inr h) (inr k) = omega (arith, h.1, k.1)

-- the only refusal is the first
pub only_first : (P : Refusal → Type 0) (found : Option Refusal) → FindsOnly P found → FindsFirst P found
only_first P None none = none
only_first P (Some x) only = record { made = only.0; first = λ other bad. subst (λ (r : Refusal). ¬ IsBefore r x) (only.1 other bad) (never_itself x) }

pub first_of_same : (P Q : Refusal → Type 0) (found : Option Refusal) → ((r : Refusal) → P r → Q r) → ((r : Refusal) → Q r → P r) → FindsFirst P found → FindsFirst Q found
first_of_same P Q None to from none = λ r bad. none r (from r bad)
first_of_same P Q (Some x) to from first = record { made = to x first.made; first = λ other bad. first.first other (from other bad) }

module _ (P Q : Refusal → Type 0) where
  abbrev pub Either : Refusal → Type 0
  Either r = P r ⊎ Q r

  neither : ((r : Refusal) → ¬ P r) → ((r : Refusal) → ¬ Q r) → (r : Refusal) → ¬ Either r
  neither p q r (inl h) = p r h
  neither p q r (inr h) = q r h

  first_in : (x : Refusal) → ((r : Refusal) → P r → ¬ IsBefore r x) → ((r : Refusal) → Q r → ¬ IsBefore r x) → (r : Refusal) → Either r → ¬ IsBefore r x
  first_in x p q r (inl h) = p r h
  first_in x p q r (inr h) = q r h

  -- the first of two
  pub first_either : (a b : Option Refusal) → FindsFirst P a → FindsFirst Q b → FindsFirst Either (earlier a b)
  first_either None None p q = neither p q
  first_either None (Some y) p q = record { made = inr q.made; first = first_in y (λ r h. absurd (p r h)) q.first }
  first_either (Some x) None p q = record { made = inl p.made; first = first_in x p.first (λ r h. absurd (q r h)) }
  first_either (Some x) (Some y) p q = by (is_before y x) refl
    where
      by : (b : Bool) → is_before y x ≡ b → FindsFirst Either (if b then Some y else Some x)
      by true e = record { made = inr q.made; first = first_in y (λ r h. before_turn r x y (p.first r h) ((before-Decides y x).0 e)) q.first }
      by false e = record { made = inl p.made; first = first_in x p.first (λ r h. before_either r y x (q.first r h) (λ before. false≢true (sym e ∙ (before-Decides y x).1 before))) }

-- one more link
module _ (net : Network) (configs : List Config) (links : List LinkRow) where
  pub stops_more : (n : ℕ) (link : LinkRow) (found ahead back : Option Refusal) → n < length links → link ≡ get_or links n link → FindsFirst (StopsAtSome net configs (take n links)) found →
      FindsOnly (StopsAt net configs link true) ahead → FindsOnly (StopsAt net configs link false) back → FindsFirst (StopsAtSome net configs (take (n + 1) links)) (earlier found (earlier ahead back))
  stops_more n link found ahead back within is before here there =
      first_of_same (Either Before (Either Ahead Back)) (StopsAtSome net configs (take (n + 1) links)) (earlier found (earlier ahead back)) to from
      (first_either Before (Either Ahead Back) found (earlier ahead back) before
      (first_either Ahead Back ahead back (only_first Ahead ahead here) (only_first Back back there)))
    where
      Before : Refusal → Type 0
      Before = StopsAtSome net configs (take n links)

      Ahead : Refusal → Type 0
      Ahead = StopsAt net configs link true

      Back : Refusal → Type 0
      Back = StopsAt net configs link false

      At : Refusal → LinkRow → Type 0
      At r = λ link. (from_a : Bool) × StopsAt net configs link from_a r

      to : (r : Refusal) → Either Before (Either Ahead Back) r → StopsAtSome net configs (take (n + 1) links) r
      to r (inl h) = Any-before (At r) links n link within is h
      to r (inr (inl h)) = Any-now (At r) links n link within is (true, h)
      to r (inr (inr h)) = Any-now (At r) links n link within is (false, h)

      from : (r : Refusal) → StopsAtSome net configs (take (n + 1) links) r → Either Before (Either Ahead Back) r
      from r h = by (Any-either (At r) links n link within is h)
        where
          by : Any (At r) (take n links) ⊎ At r link → Either Before (Either Ahead Back) r
          by (inl h) = inl h
          by (inr (true, h)) = inr (inl h)
          by (inr (false, h)) = inr (inr h)
