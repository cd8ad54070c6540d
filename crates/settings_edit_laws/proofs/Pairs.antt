-- Lists that go together, and the last things that are picked of a list.
use Rattle.std.proofs.Common.{◌≡◌, ℕ, zero, suc, ◌⊎◌, inl, inr, true, Option, Some, None, List, [], ◌∷◌, ◌++◌, length, map, refl, sym, ◌∙◌, ap, subst, arith}
use Rattle.std.specs.Prelude.{Any, Contains, slice_get, is_some, option_and_then}
use Rattle.std.specs.List.{AllZip, filter_map, last_or, cons_option}
use Rattle.std.proofs.lemmas.Option.{none-some, same_Some}
use Rattle.arc_base.proofs.Items.{Contains-head, Contains-tail, Contains-none}

abbrev rest : {X : Type 0} → List X → List X
rest [] = []
rest (x ∷ xs) = xs

abbrev first : {X : Type 0} → List X → Option X
first [] = None
first (x ∷ xs) = Some x

-- what is picked of what is picked
pub picked_twice : {X Y Z : Type 0} (h : Y → Option Z) (g : X → Option Y) (k : X → Option Z) → ((x : X) → option_and_then h (g x) ≡ k x) → (xs : List X) →
    filter_map h (filter_map g xs) ≡ filter_map k xs
picked_twice h g k same [] = refl
picked_twice {X} {Y} {Z} h g k same (x ∷ xs) = by (g x) ∙ ap (λ o. cons_option o (filter_map h (filter_map g xs))) (same x) ∙ ap (cons_option (k x)) (picked_twice h g k same xs)
  where
    by : (o : Option Y) → filter_map h (cons_option o (filter_map g xs)) ≡ cons_option (option_and_then h o) (filter_map h (filter_map g xs))
    by None = refl
    by (Some y) = refl

-- two lists that are the same after maps go together
pub maps_agree : {X Y Z W : Type 0} (f : Y → Z) (g : W → Z) (h : X → W) (xs : List X) (ys : List Y) → map f ys ≡ map g (map h xs) → AllZip (λ x y. f y ≡ g (h x)) xs ys
maps_agree f g h [] [] e = tt
maps_agree f g h [] (y ∷ ys) e = absurd (none-some (f y) (sym (ap first e)))
maps_agree f g h (x ∷ xs) [] e = absurd (none-some (g (h x)) (ap first e))
maps_agree f g h (x ∷ xs) (y ∷ ys) e = (same_Some (f y) (g (h x)) (ap first e), maps_agree f g h xs ys (ap rest e))

pub zip_length : {X Y : Type 0} (R : X → Y → Type 0) (xs : List X) (ys : List Y) → AllZip R xs ys → length ys ≡ length xs
zip_length R [] [] h = refl
zip_length R (x ∷ xs) (y ∷ ys) h = ap suc (zip_length R xs ys h.1)
zip_length R xs ys h = absurd h

pub zip_maps : {X Y Z W : Type 0} (R : Z → W → Type 0) (f : X → Z) (g : Y → W) (xs : List X) (ys : List Y) → AllZip (λ x y. R (f x) (g y)) xs ys → AllZip R (map f xs) (map g ys)
zip_maps R f g [] [] h = tt
zip_maps R f g (x ∷ xs) (y ∷ ys) h = (h.0, zip_maps R f g xs ys h.1)
zip_maps R f g xs ys h = absurd h

pub zip_weaker : {X Y : Type 0} (R S : X → Y → Type 0) (xs : List X) (ys : List Y) → ((x : X) (y : Y) → R x y → S x y) → AllZip R xs ys → AllZip S xs ys
zip_weaker R S [] [] f h = tt
zip_weaker R S (x ∷ xs) (y ∷ ys) f h = (f x y h.0, zip_weaker R S xs ys f h.1)
zip_weaker R S xs ys f h = absurd h

-- a relation of all items at one place makes lists go together
pub zip_from : {X Y : Type 0} (R : X → Y → Type 0) (xs : List X) (ys : List Y) → length ys ≡ length xs →
    ((k : ℕ) (x : X) (y : Y) → slice_get xs k ≡ Some x → slice_get ys k ≡ Some y → R x y) → AllZip R xs ys
zip_from R [] [] e h = tt
zip_from R (x ∷ xs) (y ∷ ys) e h = (h zero x y refl refl, zip_from R xs ys (omega (arith, e)) (λ k z w a b. h (suc k) z w a b))
zip_from R xs ys e h = absurd (omega (arith, e))

-- the last item of two lists
pub last_append : {X : Type 0} (o : Option X) (xs ys : List X) → last_or o (xs ++ ys) ≡ last_or (last_or o xs) ys
last_append o [] ys = refl
last_append o (x ∷ xs) ys = last_append (Some x) xs ys

-- what is picked of the values that lines give
pub picked_of_values : {X Y Z : Type 0} (f : X → Y) (h : Y → Option Z) (xs : List X) → filter_map (λ x. h (f x)) xs ≡ filter_map h (map f xs)
picked_of_values f h [] = refl
picked_of_values f h (x ∷ xs) = ap (λ l. cons_option (h (f x)) l) (picked_of_values f h xs)

-- nothing is picked where nothing is seen
pub picks_nothing : {X Y : Type 0} (h : X → Option Y) (xs : List X) → ((x : X) → Contains xs x → h x ≡ None) → filter_map h xs ≡ []
picks_nothing h [] none = refl
picks_nothing h (x ∷ xs) none =
    ap (λ o. cons_option o (filter_map h xs)) (none x (Contains-head x xs)) ∙ picks_nothing h xs (λ y there. none y (Contains-tail x y xs there))

-- the last item is one of them
pub last_is_in : {X : Type 0} (o : Option X) (xs : List X) (x : X) → last_or o xs ≡ Some x → (o ≡ Some x) ⊎ Contains xs x
last_is_in o [] x e = inl e
last_is_in o (y ∷ xs) x e = elim (last_is_in (Some y) xs x e) [
  | inl here ↦ inr (subst (λ z. Contains (y ∷ xs) z) (same_Some y x here) (Contains-head y xs))
  | inr later ↦ inr (Contains-tail y x xs later)
]

pub nothing_in : {X : Type 0} (xs : List X) → ((x : X) → Contains xs x → ⊥) → xs ≡ []
nothing_in [] none = refl
nothing_in (x ∷ xs) none = absurd (none x (Contains-head x xs))

-- where all are one, it is that
pub last_is_one : {X : Type 0} (o : Option X) (xs : List X) (x : X) → Contains xs x → ((y : X) → Contains xs y → y ≡ x) → last_or o xs ≡ Some x
last_is_one o [] x there one = absurd (Contains-none x there)
last_is_one o (y ∷ []) x there one = ap Some (one y (Contains-head y []))
last_is_one o (y ∷ z ∷ xs) x there one =
    last_is_one (Some y) (z ∷ xs) x (subst (λ w. Contains (z ∷ xs) w) (one z (Contains-tail y z (z ∷ xs) (Contains-head z xs))) (Contains-head z xs))
    (λ w later. one w (Contains-tail y w (z ∷ xs) later))

pub any_of : {X : Type 0} (P : X → Type 0) (xs : List X) (x : X) → Contains xs x → P x → Any P xs
any_of P xs x (k, l, e) p = (k, x, l, e, p)

pub of_any : {X : Type 0} (P : X → Type 0) (xs : List X) → Any P xs → (x : X) × Contains xs x × P x
of_any P xs (k, x, l, e, p) = (x, (k, l, e), p)

-- where something is given, it has a value
pub given_is_some : {V : Type 0} (o : Option V) (v : V) → o ≡ Some v → is_some o ≡ true
given_is_some o v e = ap is_some e
