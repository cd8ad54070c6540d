-- Lists whose items are all different.
use Rattle.std.proofs.Common.{◌≡◌, ◌≢◌, ℕ, ◌+◌, ◌||◌, ◌⊎◌, inl, inr, Bool, true, false, cond, List, [], ◌∷◌, ◌++◌, length, get_or, map, refl, sym, subst, ap, ◌∙◌, arith, Some}
use Rattle.std.specs.Prelude.{AllPairs, Contains, fold}
use Rattle.std.specs.List.{flat_map, list_any, range_with_len}
use Rattle.std.proofs.NetLemmas.Options.{cond_some}
use Rattle.std.proofs.lemmas.Bool.{cases_lt, eqb-true, false≢true}
use Rattle.std.proofs.lemmas.List.{get_or_default}
use Rattle.std.proofs.lemmas.List.FromFn.{length-range_with_len, get_or-range_with_len}
use Rattle.arc_base.proofs.Items.{Contains-head, Contains-tail, Contains-cases, Contains-none, from_piece, AllPairs-append}
use Rattle.arc_base.proofs.Items.{AllPairs-rest, AllPairs-first, AllPairs-among, AllPairs-map, AllPairs-none, AllPairs-single}
use Rattle.arc_base.specs.Lists.{AreDistinct}
use Rattle.arc_base.specs.Numbered.{if_number, of_number, by_number}
use Rattle.net_model.specs.declared.rows.Network.{Network}
use Rattle.net_model.specs.declared.rows.SessionRow.{SessionRow}
use Rattle.net_model.specs.Validity.{IsValid, AreSessionsApart}
use Rattle.edit_list.proofs.NewListFacts.{picked_from, pairs_picked}

-- an item of a list of one
pub only_item : {X : Type 0} (x y : X) → Contains (x ∷ []) y → x ≡ y
only_item x y h = elim (Contains-cases x y [] h) [ inl same ↦ same | inr later ↦ absurd (Contains-none y later) ]

-- two different items of the list, in one order or the other
pub apart_of : {X : Type 0} (R : X → X → Type 0) (xs : List X) → AllPairs R xs → (x y : X) → Contains xs x → Contains xs y → (x ≢ y) → R x y ⊎ R y x
apart_of {X} R xs pairs x y (j, l, e) (k, m, f) differ =
    let g : get_or xs k x ≡ y = get_or_default xs k x y m ∙ f in
    elim (cases_lt j k) [
      | inl less ↦ inl (subst (λ (b : X). R x b) g (subst (λ (a : X). R a (get_or xs k x)) e (pairs j k x less m)))
      | inr more ↦ elim (cases_lt k j) [
        | inl less ↦ inr (subst (λ (b : X). R y b) e (subst (λ (a : X). R a (get_or xs j x)) g (pairs k j x less l)))
        | inr same ↦ let q : j ≡ k = omega arith in absurd (differ (sym e ∙ ap (λ n. get_or xs n x) q ∙ g))
      ]
    ]

-- items that have the same, where the items differ in it, are the same
alike_of : {X : Type 0} (f : X → ℕ) (xs : List X) → AllPairs (λ (x : X) (y : X). f x ≢ f y) xs → (x y : X) → Contains xs x → Contains xs y → f x ≡ f y → x ≡ y
alike_of {X} f xs pairs x y (j, l, e) (k, m, g) same =
    let at_k : get_or xs k x ≡ y = get_or_default xs k x y m ∙ g in
    elim (cases_lt j k) [
      | inl less ↦ absurd (pairs j k x less m (ap f e ∙ same ∙ sym (ap f at_k)))
      | inr more ↦ elim (cases_lt k j) [
        | inl less ↦ absurd (pairs k j x less l (ap f at_k ∙ sym same ∙ sym (ap f e)))
        | inr last ↦ let q : j ≡ k = omega arith in sym e ∙ ap (λ n. get_or xs n x) q ∙ at_k
      ]
    ]

-- an interface has one session
pub one_session : (net : Network) → IsValid net → (s t : SessionRow) → Contains net.sessions s → Contains net.sessions t → s.face.0 ≡ t.face.0 → s ≡ t
one_session net valid s t in_s in_t same =
    alike_of (λ (x : SessionRow). x.face.0) net.sessions
    (AllPairs-among (AreSessionsApart net) (λ (x : SessionRow) (y : SessionRow). x.face.0 ≢ y.face.0) net.sessions (λ x y in_x in_y differ. differ.0) valid.sessions_apart)
    s t in_s in_t same

-- what holds of the items of pieces, and between the pieces, holds of all of them
pub pieces_apart : {X Y : Type 0} (R : Y → Y → Type 0) (f : X → List Y) (xs : List X) → AllPairs (λ x y. (a b : Y) → Contains (f x) a → Contains (f y) b → R a b) xs →
    ((x : X) → Contains xs x → AllPairs R (f x)) → AllPairs R (flat_map f xs)
pieces_apart R f [] pairs each = AllPairs-none R
pieces_apart {X} {Y} R f (x ∷ xs) pairs each =
    let B : X → X → Type 0 = λ x y. (a b : Y) → Contains (f x) a → Contains (f y) b → R a b in
    AllPairs-append R (f x) (flat_map f xs) (each x (Contains-head x xs))
    (pieces_apart R f xs (AllPairs-rest B x xs pairs) (λ y there. each y (Contains-tail x y xs there)))
    (λ a b in_a in_b. let r = from_piece f xs b in_b in AllPairs-first B x r.0 xs pairs r.1 a b in_a r.2)

-- a map that takes no two things to one
pub map_apart : {X Y : Type 0} (f : X → Y) → ((x y : X) → f x ≡ f y → x ≡ y) → (xs : List X) → AreDistinct xs → AreDistinct (map f xs)
map_apart f one xs different =
    AllPairs-map (λ a b. a ≢ b) f xs (AllPairs-among (λ x y. x ≢ y) (λ x y. f x ≢ f y) xs (λ x y in_x in_y differ e. differ (one x y e)) different)

-- a thing that has the number
pub number_told : {X : Type 0} (n : ℕ) (thing : ℕ × X) (x : X) → if_number n thing ≡ Some x → (thing.0 ≡ n) × (thing.1 ≡ x)
number_told n thing x e = let (test, same) = cond_some _ _ _ e in (eqb-true _ _ test, same)

-- things put in order by their numbers
pub numbers_apart : {X : Type 0} (count : ℕ) (things : List (ℕ × X)) → AllPairs (λ t u. t.1 ≢ u.1) things → AreDistinct (by_number count things)
numbers_apart {X} count things apart =
    pieces_apart (λ (x : X) (y : X). x ≢ y) (λ n. of_number n things) (range_with_len 0 count)
    (λ i j d l m a b in_a in_b same.
    let short : length (range_with_len 0 count) ≡ count = length-range_with_len 0 count in
    let at_i : get_or (range_with_len 0 count) i d ≡ 0 + i = get_or-range_with_len 0 count i d (omega arith) in
    let at_j : get_or (range_with_len 0 count) j d ≡ 0 + j = get_or-range_with_len 0 count j d (omega arith) in
    let (t, in_t, told_t) = picked_from (if_number (get_or (range_with_len 0 count) i d)) things a in_a in
    let (u, in_u, told_u) = picked_from (if_number (get_or (range_with_len 0 count) j d)) things b in_b in
    let (number_t, is_a) = number_told _ t a told_t in
    let (number_u, is_b) = number_told _ u b told_u in
    let differ : t ≢ u = λ e. let k : t.0 ≡ u.0 = ap (λ (p : ℕ × X). p.0) e in omega (arith, k, number_t, number_u, at_i, at_j, l) in
    elim (apart_of (λ (v : ℕ × X) (w : ℕ × X). v.1 ≢ w.1) things apart t u in_t in_u differ) [
      | inl other ↦ other (is_a ∙ same ∙ sym is_b)
      | inr other ↦ other (is_b ∙ sym same ∙ sym is_a)
    ])
    (λ n there.
    pairs_picked (λ (t : ℕ × X) (u : ℕ × X). t.1 ≢ u.1) (λ (a : X) (b : X). a ≢ b) (if_number n) things
    (λ t u a b differ told_t told_u same. differ ((number_told n t a told_t).1 ∙ same ∙ sym (number_told n u b told_u).1)) apart)

-- where none passes, this one does not
none_passes : {X : Type 0} (p : X → Bool) (xs : List X) (a : X) → list_any p xs ≡ false → Contains xs a → p a ≡ false
none_passes p [] a e there = absurd (Contains-none a there)
none_passes {X} p (x ∷ xs) a e there =
    let both = neither (p x) (list_any p xs) e in
    elim (Contains-cases x a xs there) [
      | inl same ↦ subst (λ (z : X). p z ≡ false) same both.0
      | inr later ↦ none_passes p xs a both.1 later
    ]
  where
    neither : (b c : Bool) → (b || c) ≡ false → (b ≡ false) × (c ≡ false)
    neither true c e = absurd (false≢true (sym e))
    neither false c e = (refl, e)

-- things that are put at the end where they are not there yet
pub once_apart : {X : Type 0} (same : X → X → Bool) → ((x : X) → same x x ≡ true) → (xs done : List X) → AreDistinct done →
    AreDistinct (fold (λ all x. cond (list_any (same x) all) all (all ++ x ∷ [])) done xs)
once_apart same itself [] done different = different
once_apart {X} same itself (x ∷ xs) done different = once_apart same itself xs (cond (list_any (same x) done) done (done ++ x ∷ [])) (by (list_any (same x) done) refl)
  where
    by : (b : Bool) → list_any (same x) done ≡ b → AreDistinct (cond b done (done ++ x ∷ []))
    by true e = different
    by false e =
        AllPairs-append (λ a b. a ≢ b) done (x ∷ []) different (AllPairs-single (λ a b. a ≢ b) x)
        (λ a b in_a in_b e₁.
        let is : x ≡ a = only_item x b in_b ∙ sym e₁ in
        false≢true (sym (none_passes (same x) done a e in_a) ∙ subst (λ (z : X). same x z ≡ true) is (itself x)))
