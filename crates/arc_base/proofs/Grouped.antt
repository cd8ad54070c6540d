-- Things put together by their numbers, one after another.
use Rattle.std.proofs.Common.{◌≡◌, ◌≢◌, ℕ, ◌+◌, ◌<◌, ◌≤◌, ◌==◌, ◌||◌, Bool, true, false, Option, Some, None, List, []}
use Rattle.std.proofs.Common.{◌∷◌, ◌++◌, length, get_or, set, take, map, replicate, refl, sym, not, unwrap_or, ◌∙◌, ap, arith, length-set, if◌then◌else◌}
use Rattle.std.specs.List.{filter_map, cons_option, list_any, flat_map, range_with_len}
use Rattle.std.proofs.lemmas.Bool.{eqb-true, eqb-false, false≢true}
use Rattle.std.proofs.lemmas.List.{append-nil, take_more, get_or-set_same, get_or-set_other, take_all, length-replicate, get_or-replicate}
use Rattle.std.proofs.lemmas.List.Elements.{filter_map-append}
use Rattle.std.proofs.lemmas.List.Folds.{list_any_more, flat_map-map}
use Rattle.std.proofs.lemmas.List.FromFn.{fill_by_all, get_or-map-range_with_len, length-map-range_with_len, map-range_with_len_more}
use Rattle.std.specs.Prelude.{slice_get}
use Rattle.std.proofs.lemmas.Option.{slice_get-get_or}
use Rattle.arc_base.specs.Numbered.{if_number, of_number, by_number, is_empty, IsTableOf}

-- what is picked of one item more
pub picked_more : {X Y : Type 0} (h : X → Option Y) (xs : List X) (n : ℕ) (x : X) → n < length xs → x ≡ get_or xs n x →
    filter_map h (take (n + 1) xs) ≡ filter_map h (take n xs) ++ cons_option (h x) []
picked_more h xs n x within is = ap (filter_map h) (take_more xs n x within ∙ ap (λ y. take n xs ++ y ∷ []) (sym is)) ∙ filter_map-append h (take n xs) (x ∷ [])

module _ {X : Type 0} (f : ℕ → X) (count at : ℕ) (y d : X) where
  -- a list of what a function gives, with another item at one place
  pub told_set : (g : ℕ → X) → ((k : ℕ) → k < count → at ≡ k → g k ≡ y) → ((k : ℕ) → k < count → at ≢ k → g k ≡ f k) →
      set (map f (range_with_len 0 count)) at y ≡ map g (range_with_len 0 count)
  told_set g here elsewhere =
      fill_by_all g (set (map f (range_with_len 0 count)) at y) count d
      (length-set (map f (range_with_len 0 count)) at y ∙ length-map-range_with_len f 0 count) each
    where
      by : (k : ℕ) → k < count → (b : Bool) → (at == k) ≡ b → get_or (set (map f (range_with_len 0 count)) at y) k d ≡ g k
      by k l true e =
          let same : at ≡ k = eqb-true at k e in
          let long : at < length (map f (range_with_len 0 count)) = omega (arith, length-map-range_with_len f 0 count) in
          ap (λ n. get_or (set (map f (range_with_len 0 count)) at y) n d) (sym same) ∙ get_or-set_same (map f (range_with_len 0 count)) at y d long ∙ sym (here k l same)
      by k l false e =
          get_or-set_other (map f (range_with_len 0 count)) at k y d (λ q. eqb-false at k e (sym q)) ∙
          get_or-map-range_with_len f 0 count k k d l (omega arith) ∙ sym (elsewhere k l (eqb-false at k e))

      each : (k : ℕ) → k < count → get_or (set (map f (range_with_len 0 count)) at y) k d ≡ g k
      each k l = by k l (at == k) refl

-- one thing more, put into its group
pub grouped_more : {X : Type 0} (count : ℕ) (things : List (ℕ × X)) (i number : ℕ) (x : X) (now next : List (List X)) → i < length things → (number, x) ≡ get_or things i (number, x) →
    now ≡ map (λ k. of_number k (take i things)) (range_with_len 0 count) → next ≡ set now number (get_or now number [] ++ x ∷ []) →
    next ≡ map (λ k. of_number k (take (i + 1) things)) (range_with_len 0 count)
grouped_more {X} count things i number x now next within is was put =
    put ∙ ap (λ l. set l number (get_or l number [] ++ x ∷ [])) was ∙
    told_set (λ k. of_number k (take i things)) count number (get_or (map (λ k. of_number k (take i things)) (range_with_len 0 count)) number [] ++ x ∷ []) []
    (λ k. of_number k (take (i + 1) things)) here elsewhere
  where
    more : (k : ℕ) → of_number k (take (i + 1) things) ≡ of_number k (take i things) ++ cons_option (if_number k (number, x)) []
    more k = picked_more (if_number k) things i (number, x) within is

    by : (k : ℕ) (b : Bool) → (number == k) ≡ b → (c : Bool) → c ≡ b → cons_option (if (number == k) then Some x else None) [] ≡ cons_option (if c then Some x else None) []
    by k b e c f = ap (λ t. cons_option (if t then Some x else None) []) (e ∙ sym f)

    here : (k : ℕ) → k < count → number ≡ k → of_number k (take (i + 1) things) ≡ get_or (map (λ k. of_number k (take i things)) (range_with_len 0 count)) number [] ++ x ∷ []
    here k l same =
        let test : (number == k) ≡ true = grind arith in
        more k ∙ ap (λ t. of_number k (take i things) ++ t) (by k true test true refl) ∙
        ap (λ l. l ++ x ∷ []) (sym (get_or-map-range_with_len (λ k. of_number k (take i things)) 0 count number k [] (omega (arith, same, l)) (omega (arith, same))))

    elsewhere : (k : ℕ) → k < count → number ≢ k → of_number k (take (i + 1) things) ≡ of_number k (take i things)
    elsewhere k l differ = none (number == k) refl
      where
        none : (b : Bool) → (number == k) ≡ b → of_number k (take (i + 1) things) ≡ of_number k (take i things)
        none true e = absurd (differ (eqb-true number k e))
        none false e = more k ∙ ap (λ t. of_number k (take i things) ++ t) (by k false e false refl) ∙ append-nil (of_number k (take i things))

-- one number more, marked
pub marked_more : (count : ℕ) (numbers : List ℕ) (i number : ℕ) (now next : List Bool) → i < length numbers → number ≡ get_or numbers i number →
    now ≡ map (λ k. list_any (λ n. n == k) (take i numbers)) (range_with_len 0 count) → next ≡ set now number true →
    next ≡ map (λ k. list_any (λ n. n == k) (take (i + 1) numbers)) (range_with_len 0 count)
marked_more count numbers i number now next within is was put =
    put ∙ ap (λ l. set l number true) was ∙
    told_set (λ k. list_any (λ n. n == k) (take i numbers)) count number true true (λ k. list_any (λ n. n == k) (take (i + 1) numbers)) here elsewhere
  where
    more : (k : ℕ) → list_any (λ n. n == k) (take (i + 1) numbers) ≡ (list_any (λ n. n == k) (take i numbers) || (number == k))
    more k = list_any_more (λ n. n == k) numbers i number within ∙ ap (λ m. list_any (λ n. n == k) (take i numbers) || (m == k)) (sym is)

    or_true : (b : Bool) → (b || true) ≡ true
    or_true true = refl
    or_true false = refl

    or_false : (b : Bool) → (b || false) ≡ b
    or_false true = refl
    or_false false = refl

    here : (k : ℕ) → k < count → number ≡ k → list_any (λ n. n == k) (take (i + 1) numbers) ≡ true
    here k l same =
        let test : (number == k) ≡ true = grind arith in
        more k ∙ ap (λ b. list_any (λ n. n == k) (take i numbers) || b) test ∙ or_true (list_any (λ n. n == k) (take i numbers))

    elsewhere : (k : ℕ) → k < count → number ≢ k → list_any (λ n. n == k) (take (i + 1) numbers) ≡ list_any (λ n. n == k) (take i numbers)
    elsewhere k l differ = none (number == k) refl
      where
        none : (b : Bool) → (number == k) ≡ b → list_any (λ n. n == k) (take (i + 1) numbers) ≡ list_any (λ n. n == k) (take i numbers)
        none true e = absurd (differ (eqb-true number k e))
        none false e = more k ∙ ap (λ b. list_any (λ n. n == k) (take i numbers) || b) e ∙ or_false (list_any (λ n. n == k) (take i numbers))

-- one empty group more
pub empties_more : {X : Type 0} (n : ℕ) (now next : List (List X)) (x : List X) → x ≡ [] → now ≡ map (λ k. []) (range_with_len 0 n) → next ≡ now ++ x ∷ [] →
    next ≡ map (λ k. []) (range_with_len 0 (n + 1))
empties_more {X} n now next x none was grown =
    let f : ℕ → List X = λ k. [] in
    grown ∙ ap (λ l. l ++ x ∷ []) was ∙ ap (λ y. map f (range_with_len 0 n) ++ y ∷ []) none ∙ sym (map-range_with_len_more f 0 n n (omega arith))

-- all numbers below the count
pub told_all : {X : Type 0} (f : ℕ → X) (xs : List X) (n m : ℕ) → n ≤ m → m ≤ n → xs ≡ map f (range_with_len 0 n) → IsTableOf m f xs
told_all f xs n m below above told = let same : n ≡ m = omega arith in told ∙ ap (λ k. map f (range_with_len 0 k)) same

-- where all things are in groups
pub grouped_all : {X : Type 0} (count i : ℕ) (things : List (ℕ × X)) (groups : List (List X)) → length things ≤ i → groups ≡ map (λ k. of_number k (take i things)) (range_with_len 0 count) →
    IsTableOf count (λ k. of_number k things) groups
grouped_all {X} count i things groups past told = told ∙ ap (λ (l : List (ℕ × X)). map (λ k. of_number k l) (range_with_len 0 count)) (take_all i things past)

-- groups, one after another
pub joined_groups : {X : Type 0} (count i : ℕ) (things : List (ℕ × X)) (groups : List (List X)) (joined : List X) → IsTableOf count (λ k. of_number k things) groups → length groups ≤ i →
    joined ≡ flat_map (λ group. group) (take i groups) → joined ≡ by_number count things
joined_groups {X} count i things groups joined told past is =
    is ∙ ap (flat_map (λ (group : List X). group)) (take_all i groups past ∙ told) ∙ flat_map-map (λ (group : List X). group) (λ k. of_number k things) (range_with_len 0 count)

-- before any number is marked
pub marked_none : (count : ℕ) (flags : List Bool) → flags ≡ replicate count false → flags ≡ map (λ k. list_any (λ n. n == k) []) (range_with_len 0 count)
marked_none count flags are =
    fill_by_all (λ k. list_any (λ n. n == k) []) flags count false (ap length are ∙ length-replicate count false)
    (λ k l. ap (λ x. get_or x k false) are ∙ get_or-replicate count k false false l)

-- where all numbers are marked
pub marked_all : (count i : ℕ) (numbers : List ℕ) (flags : List Bool) → length numbers ≤ i → flags ≡ map (λ k. list_any (λ n. n == k) (take i numbers)) (range_with_len 0 count) →
    IsTableOf count (λ k. list_any (λ n. n == k) numbers) flags
marked_all count i numbers flags past told = told ∙ ap (λ (l : List ℕ). map (λ k. list_any (λ n. n == k) l) (range_with_len 0 count)) (take_all i numbers past)

-- what is told of a place
pub told_at : {X : Type 0} (f : ℕ → X) (count k : ℕ) (xs : List X) → IsTableOf count f xs → k < count → slice_get xs k ≡ Some (f k)
told_at f count k xs told l =
    let within : k < length xs = omega (arith, ap length told, length-map-range_with_len f 0 count, l) in
    slice_get-get_or xs k (f k) within ∙ ap Some (ap (λ ys. get_or ys k (f k)) told ∙ get_or-map-range_with_len f 0 count k k (f k) l (omega arith))

-- a thing that is picked unless a list is empty
pub picked_unless_empty : {X Y : Type 0} (groups : List (List X)) (f : ℕ → List X) (count k : ℕ) (filled b : Bool) (o : Option Y) → IsTableOf count f groups →
    k < count → filled ≡ not (is_empty (unwrap_or (slice_get groups k) [])) →
    filled ≡ b → (if b then o else None) ≡ (if is_empty (f k) then None else o)
picked_unless_empty {X} {Y} groups f count k filled b o told l are is = by (is_empty (f k)) refl b refl
  where
    same : filled ≡ not (is_empty (f k))
    same = are ∙ ap (λ x. not (is_empty (unwrap_or x []))) (told_at f count k groups told l)

    by : (e : Bool) → is_empty (f k) ≡ e → (c : Bool) → b ≡ c → (if b then o else None) ≡ (if is_empty (f k) then None else o)
    by true p true q = absurd (false≢true (sym (same ∙ ap not p) ∙ is ∙ q))
    by true p false q = ap (λ t. if t then o else None) q ∙ sym (ap (λ t. if t then None else o) p)
    by false p true q = ap (λ t. if t then o else None) q ∙ sym (ap (λ t. if t then None else o) p)
    by false p false q = absurd (false≢true (sym (is ∙ q) ∙ same ∙ ap not p))

-- the things of a group, as the table of groups has them
pub things_told : {X : Type 0} (groups : List (List X)) (f : ℕ → List X) (count k : ℕ) (things : List X) → IsTableOf count f groups → k < count →
    things ≡ unwrap_or (slice_get groups k) [] → things ≡ f k
things_told groups f count k things told l are = are ∙ ap (λ o. unwrap_or o []) (told_at f count k groups told l)

-- whether a group has things, as the table of groups tells
pub filled_told : {X : Type 0} (groups : List (List X)) (f : ℕ → List X) (count k : ℕ) (filled : Bool) → IsTableOf count f groups → k < count →
    filled ≡ not (is_empty (unwrap_or (slice_get groups k) [])) → filled ≡ not (is_empty (f k))
filled_told groups f count k filled told l are = are ∙ ap (λ o. not (is_empty (unwrap_or o []))) (told_at f count k groups told l)

pub told_within : {X : Type 0} (f : ℕ → X) (count k : ℕ) (xs : List X) → IsTableOf count f xs → k < count → k < length xs
told_within f count k xs told l = omega (arith, ap length told, length-map-range_with_len f 0 count, l)

pub told_or : {X : Type 0} (f : ℕ → X) (count k : ℕ) (xs : List X) (d : X) → IsTableOf count f xs → k < count → get_or xs k d ≡ f k
told_or f count k xs d told l = ap (λ ys. get_or ys k d) told ∙ get_or-map-range_with_len f 0 count k k d l (omega arith)
