-- Lists that grow by the places at which a table holds something.
use Rattle.std.proofs.Common.{◌≡◌, ℕ, ◌+◌, ◌<◌, ◌↔◌, ◌⊎◌, inl, inr, IsSome, List, [], ◌∷◌, ◌++◌, None, sym, ap, ◌∙◌, subst, arith}
use Rattle.std.specs.Prelude.{Contains, AllPairs, is_some}
use Rattle.std.proofs.lemmas.Bool.{cases_lt, false≢true}
use Rattle.std.proofs.lemmas.List.Elements.{Contains-append_left, Contains-append_right, Contains-append_cases}
use Rattle.arc_base.specs.declared.place.Link.{Link}
use Rattle.graph_flow.specs.Flows.{Units, unit_at}
use Rattle.graph_flow.proofs.Lists.{AllPairs-nil, AllPairs-cons, AllPairs-append, All-from_members, Contains-here, Contains-none, Contains-cases}
use Rattle.graph_flow.proofs.Residuals.{same_link}

abbrev Lower : Link → Link → Type 0
Lower k l = k.0 < l.0

-- the links below the number are in rising order exactly those at whose places the table holds something
pub record AreBelow (units : Units) (n : ℕ) (links : List Link) : Type 0 where
  pub rising : AllPairs Lower links
  pub exact : (link : Link) → Contains links link ↔ ((link.0 < n) × IsSome (unit_at units link.0))

below_or_at : (n m : ℕ) → m < n + 1 → (m < n) ⊎ (m ≡ n)
below_or_at n m low = elim (cases_lt m n) [ inl below ↦ inl below | inr above ↦ inr (omega arith) ]

only : (link m : Link) → Contains (link ∷ []) m → link ≡ m
only link m has = elim (Contains-cases link [] m has) [ inl e ↦ e | inr n ↦ absurd (Contains-none m n) ]

-- the table holds something at the next place
pub one-more : (units : Units) (n : ℕ) (links new : List Link) (link : Link) → link.0 ≡ n → IsSome (unit_at units n) → new ≡ links ++ link ∷ [] →
    AreBelow units n links → AreBelow units (n + 1) new
one-more units n links new link at some grown is =
    subst (AreBelow units (n + 1)) (sym grown) (record {
      rising = AllPairs-append Lower links (link ∷ []) is.rising
          (AllPairs-cons Lower link [] (All-from_members (Lower link) [] (λ m has. absurd (Contains-none m has))) (AllPairs-nil Lower))
          (λ k l has here. let below : k.0 < n = ((is.exact k).0 has).0 in let same : link.0 ≡ l.0 = ap (λ (x : Link). x.0) (only link l here) in omega (arith, below, same, at));
      exact = λ m. (
        λ has. elim (Contains-append_cases links (link ∷ []) m has) [
          | inl before ↦ let below : m.0 < n = ((is.exact m).0 before).0 in (omega (arith, below), ((is.exact m).0 before).1)
          | inr here ↦
              let same : n ≡ m.0 = sym at ∙ ap (λ (x : Link). x.0) (only link m here) in
              (omega (arith, same), subst (λ (k : ℕ). IsSome (unit_at units k)) same some)
        ],
        λ low. elim (below_or_at n m.0 low.0) [
          | inl below ↦ Contains-append_left links (link ∷ []) m ((is.exact m).1 (below, low.1))
          | inr here ↦ Contains-append_right links (link ∷ []) m (subst (Contains (link ∷ [])) (same_link link m (at ∙ sym here)) (Contains-here link []))
        ],
      );
    })

-- or nothing
pub no-more : (units : Units) (n : ℕ) (links : List Link) → unit_at units n ≡ None → AreBelow units n links → AreBelow units (n + 1) links
no-more units n links none is = record {
  rising = is.rising;
  exact = λ m. (
    λ has. let below : m.0 < n = ((is.exact m).0 has).0 in (omega (arith, below), ((is.exact m).0 has).1),
    λ low. elim (below_or_at n m.0 low.0) [
      | inl below ↦ (is.exact m).1 (below, low.1)
      | inr here ↦ absurd (false≢true (sym (ap is_some (ap (λ (k : ℕ). unit_at units k) here ∙ none)) ∙ low.1))
    ],
  );
}
