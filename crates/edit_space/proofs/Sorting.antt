-- Lists put in order by insertion, as definitions do it.
use Rattle.std.proofs.Common.{◌≡◌, ◌⊎◌, inl, inr, List, [], ◌∷◌, refl, sym, ◌∙◌, ap, subst}
use Rattle.std.specs.Prelude.{AllPairs, Contains}
use Rattle.std.specs.Cmp.{IsTotalOrder}
use Rattle.std.specs.Ordering.{ordering_reverse}
use Rattle.std.specs.declared.cmp.Ordering.{Ordering}
use Rattle.std.specs.declared.cmp.Ordering.TheVariants.{Less, Equal, Greater}
use Rattle.arc_base.proofs.Items.{Contains-head, Contains-tail, Contains-cases, Contains-none, AllPairs-append, AllPairs-first, AllPairs-rest, AllPairs-none, AllPairs-single}

-- items that differ in something are the same where it is the same
pub same_by : {X K : Type 0} (f : X → K) (xs : List X) → AllPairs (λ x y. f x ≡ f y → ⊥) xs → (x y : X) → Contains xs x → Contains xs y → f x ≡ f y → x ≡ y
same_by f [] apart x y in_x in_y same = absurd (Contains-none x in_x)
same_by {X} {K} f (z ∷ xs) apart x y in_x in_y same = elim (Contains-cases z x xs in_x) [
  | inl first ↦ elim (Contains-cases z y xs in_y) [
    | inl second ↦ sym first ∙ second
    | inr later ↦ absurd (AllPairs-first (λ x y. f x ≡ f y → ⊥) z y xs apart later (ap f first ∙ same))
  ]
  | inr later ↦ elim (Contains-cases z y xs in_y) [
    | inl second ↦ absurd (AllPairs-first (λ x y. f x ≡ f y → ⊥) z x xs apart later (ap f second ∙ sym same))
    | inr also ↦ same_by f xs (AllPairs-rest (λ x y. f x ≡ f y → ⊥) z xs apart) x y later also same
  ]
]

module _ {X K : Type 0} (key : X → K) (cmp : K → K → Ordering) (total : IsTotalOrder cmp) where
  abbrev pub Before : X → X → Type 0
  Before x y = cmp (key x) (key y) ≡ Less

  abbrev put : Ordering → X → X → List X → List X → List X
  put Less x y ys more = x ∷ (y ∷ ys)
  put Equal x y ys more = y ∷ ys
  put Greater x y ys more = y ∷ more

  abbrev insert : X → List X → List X
  insert x [] = x ∷ []
  insert x (y ∷ ys) = put (cmp (key x) (key y)) x y ys (insert x ys)

  -- the list in order, each key once
  abbrev pub sort : List X → List X
  sort [] = []
  sort (x ∷ xs) = insert x (sort xs)

  from_insert : (x : X) (ys : List X) (z : X) → Contains (insert x ys) z → (x ≡ z) ⊎ Contains ys z
  from_insert x [] z there = Contains-cases x z [] there
  from_insert x (y ∷ ys) z there = by (cmp (key x) (key y)) (from_insert x ys z) there
    where
      by : (o : Ordering) → (Contains (insert x ys) z → (x ≡ z) ⊎ Contains ys z) → Contains (put o x y ys (insert x ys)) z → (x ≡ z) ⊎ Contains (y ∷ ys) z
      by Less rest h = Contains-cases x z (y ∷ ys) h
      by Equal rest h = inr h
      by Greater rest h = elim (Contains-cases y z (insert x ys) h) [
        | inl same ↦ inr (subst (λ w. Contains (y ∷ ys) w) same (Contains-head y ys))
        | inr later ↦ elim (rest later) [ inl same ↦ inl same | inr old ↦ inr (Contains-tail y z ys old) ]
      ]

  stays : (x : X) (ys : List X) (z : X) → Contains ys z → Contains (insert x ys) z
  stays x [] z there = absurd (Contains-none z there)
  stays x (y ∷ ys) z there = by (cmp (key x) (key y)) (stays x ys z)
    where
      by : (o : Ordering) → (Contains ys z → Contains (insert x ys) z) → Contains (put o x y ys (insert x ys)) z
      by Less rest = Contains-tail x z (y ∷ ys) there
      by Equal rest = there
      by Greater rest = elim (Contains-cases y z ys there) [
        | inl same ↦ subst (λ w. Contains (y ∷ insert x ys) w) same (Contains-head y (insert x ys))
        | inr later ↦ Contains-tail y z (insert x ys) (rest later)
      ]

  inserted : (x : X) (ys : List X) → ((y : X) → Contains ys y → cmp (key x) (key y) ≡ Equal → x ≡ y) → Contains (insert x ys) x
  inserted x [] exact = Contains-head x []
  inserted x (y ∷ ys) exact = by (cmp (key x) (key y)) refl (inserted x ys (λ w in_w. exact w (Contains-tail y w ys in_w)))
    where
      by : (o : Ordering) → cmp (key x) (key y) ≡ o → Contains (insert x ys) x → Contains (put o x y ys (insert x ys)) x
      by Less e rest = Contains-head x (y ∷ ys)
      by Equal e rest = subst (λ w. Contains (y ∷ ys) w) (sym (exact y (Contains-head y ys) e)) (Contains-head y ys)
      by Greater e rest = Contains-tail y x (insert x ys) rest

  in_order_with : (x : X) (ys : List X) → AllPairs Before ys → AllPairs Before (insert x ys)
  in_order_with x [] order = AllPairs-single Before x
  in_order_with x (y ∷ ys) order = by (cmp (key x) (key y)) refl (in_order_with x ys (AllPairs-rest Before y ys order))
    where
      behind : cmp (key x) (key y) ≡ Less → (u v : X) → Contains (x ∷ []) u → Contains (y ∷ ys) v → Before u v
      behind e u v in_u in_v =
          let first : x ≡ u = elim (Contains-cases x u [] in_u) [ inl q ↦ q | inr q ↦ absurd (Contains-none u q) ] in
          subst (λ w. Before w v) first (elim (Contains-cases y v ys in_v) [
            | inl same ↦ subst (λ w. Before x w) same e
            | inr later ↦ total.trans (key x) (key y) (key v) e (AllPairs-first Before y v ys order later)
          ])

      front : cmp (key x) (key y) ≡ Greater → (u v : X) → Contains (y ∷ []) u → Contains (insert x ys) v → Before u v
      front e u v in_u in_v =
          let first : y ≡ u = elim (Contains-cases y u [] in_u) [ inl q ↦ q | inr q ↦ absurd (Contains-none u q) ] in
          subst (λ w. Before w v) first (elim (from_insert x ys v in_v) [
            | inl same ↦ subst (λ w. Before y w) same (total.antisymm (key y) (key x) ∙ ap ordering_reverse e)
            | inr old ↦ AllPairs-first Before y v ys order old
          ])

      by : (o : Ordering) → cmp (key x) (key y) ≡ o → AllPairs Before (insert x ys) → AllPairs Before (put o x y ys (insert x ys))
      by Less e rest = AllPairs-append Before (x ∷ []) (y ∷ ys) (AllPairs-single Before x) order (behind e)
      by Equal e rest = order
      by Greater e rest = AllPairs-append Before (y ∷ []) (insert x ys) (AllPairs-single Before y) rest (front e)

  pub sorted : (xs : List X) → AllPairs Before (sort xs)
  sorted [] = AllPairs-none Before
  sorted (x ∷ xs) = in_order_with x (sort xs) (sorted xs)

  pub from_sort : (xs : List X) (z : X) → Contains (sort xs) z → Contains xs z
  from_sort [] z there = there
  from_sort (x ∷ xs) z there = elim (from_insert x (sort xs) z there) [
    | inl same ↦ subst (λ w. Contains (x ∷ xs) w) same (Contains-head x xs)
    | inr later ↦ Contains-tail x z xs (from_sort xs z later)
  ]

  pub to_sort : (xs : List X) → ((x y : X) → Contains xs x → Contains xs y → cmp (key x) (key y) ≡ Equal → x ≡ y) → (z : X) → Contains xs z → Contains (sort xs) z
  to_sort [] exact z there = there
  to_sort (x ∷ xs) exact z there = elim (Contains-cases x z xs there) [
    | inl same ↦ subst (λ w. Contains (insert x (sort xs)) w) same (inserted x (sort xs) (λ y in_y. exact x y (Contains-head x xs) (Contains-tail x y xs (from_sort xs y in_y))))
    | inr later ↦ stays x (sort xs) z (to_sort xs (λ a b in_a in_b. exact a b (Contains-tail x a xs in_a) (Contains-tail x b xs in_b)) z later)
  ]
