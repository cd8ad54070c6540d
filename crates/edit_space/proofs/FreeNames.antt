-- The names for new lists: they are found, they differ, and they have the form of names.
use Rattle.std.proofs.Common.{◌≡◌, ◌≢◌, ℕ, ◌+◌, ◌%◌, ◌^◌, ◌<◌, ◌≤◌, ◌||◌, Bool, true, false, not, List, [], ◌∷◌, ◌++◌, length, get_or, take}
use Rattle.std.proofs.Common.{map, filter, cond, refl, sym, ◌∙◌, ap, subst, arith, codes, decimal, IsTrue, le-leb, length-append, drop, take-append-drop, ◌==◌, ◌&&◌, nat_le, get_or-take}
use Rattle.std.specs.Prelude.{Contains, AllPairs}
use Rattle.std.specs.List.{range_with_len, AllByRecursion}
use Rattle.std.specs.Char.{is_ascii_digit}
use Rattle.std.specs.Cmp.Lexicographic.{nat_list_eq_equiv}
use Rattle.std.proofs.lemmas.Fmt.{decimal_injective, decimal_by_steps, length-decimal-le}
use Rattle.std.proofs.lemmas.List.{append_cancel_left, append-nil, take_all, take_at, length-take}
use Rattle.std.proofs.lemmas.Bool.{false≢true}
use Rattle.std.proofs.lemmas.List.Elements.{Contains-append_left, filter_more, filter-append}
use Rattle.std.proofs.lemmas.List.Filters.{length-filter_both}
use Rattle.std.proofs.lemmas.List.FromFn.{get_or-map-range_with_len, length-map-range_with_len, get_or-range_with_len, length-range_with_len}
use Rattle.std.proofs.lemmas.List.Kept.{AllPairs-filter}
use Rattle.std.proofs.lemmas.Map.Made.{length-le_from_is_member, IsDistinct-from_AllPairs}
use Rattle.std.proofs.lemmas.Slice.Eq.{bytes_eq-Decides}
use Rattle.arc_base.proofs.Items.{from_filter, from_map}
use Rattle.arc_base.specs.NameForms.{IsName, is_name_byte}
use Rattle.arc_base.proofs.Zips.{AllByRecursion-append}
use Rattle.edit_list.specs.NewLists.{new_name, is_name_among, free_names}
use Rattle.edit_space.proofs.NameSets.{is_among_them, among_them}

-- names with different numbers differ
name_differs : (m n : ℕ) → m < 2 ^ 64 → n < 2 ^ 64 → new_name m ≡ new_name n → m ≡ n
name_differs m n l k e = decimal_injective m n l k (append_cancel_left (codes "ARC-") (decimal m) (decimal n) e)

abbrev candidates : ℕ → List (List ℕ)
candidates count = map new_name (range_with_len 1 count)

candidate_at : (count i : ℕ) (d : List ℕ) → i < count → get_or (candidates count) i d ≡ new_name (1 + i)
candidate_at count i d l = get_or-map-range_with_len new_name 1 count i (1 + i) d l refl

pub candidates_apart : (count : ℕ) → count < 2 ^ 63 → AllPairs (λ x y. x ≢ y) (candidates count)
candidates_apart count small i j d l m e =
    let within : j < count = omega (arith, m, length-map-range_with_len new_name 1 count) in
    let first : i < count = omega arith in
    let same : 1 + i ≡ 1 + j = name_differs (1 + i) (1 + j) (omega (arith, first, small)) (omega (arith, within, small)) (sym (candidate_at count i d first) ∙ e ∙ candidate_at count j d within) in
    omega (arith, same, l)

few_taken : (names : List (List ℕ)) (count : ℕ) → count < 2 ^ 63 → length (filter (is_name_among names) (candidates count)) ≤ length names
few_taken names count small =
    length-le_from_is_member nat_list_eq_equiv (filter (is_name_among names) (candidates count)) names
    (IsDistinct-from_AllPairs bytes_eq-Decides (filter (is_name_among names) (candidates count))
    (AllPairs-filter (λ x y. x ≢ y) (is_name_among names) (candidates count) (candidates_apart count small)))
    (λ q h. (from_filter (is_name_among names) (candidates count) q (is_among_them (filter (is_name_among names) (candidates count)) q h)).1)

not_not : (b : Bool) → b ≡ not (not b)
not_not true = refl
not_not false = refl

-- so many free names are found
pub free_names_found : (names : List (List ℕ)) (count : ℕ) → length names + count < 2 ^ 63 → length (free_names names count) ≡ count
free_names_found names count small =
    let free : List (List ℕ) = filter (λ name. not (is_name_among names name)) (candidates (length names + count)) in
    let both : length free + length (filter (is_name_among names) (candidates (length names + count))) ≡ length (candidates (length names + count)) =
    length-filter_both (λ name. not (is_name_among names name)) (is_name_among names) (λ x. not_not (is_name_among names x)) (candidates (length names + count)) in
    let enough : count ≤ length free = omega (arith, both, few_taken names (length names + count) small, length-map-range_with_len new_name 1 (length names + count)) in
    length-take count free ∙ omega (arith, enough)

-- a digit may stand in a name
digit_in_name : (b : ℕ) → 48 ≤ b → b ≤ 57 → is_name_byte b ≡ true
digit_in_name b low high =
    let digit : is_ascii_digit b ≡ true = grind (arith, le-leb) in
    ap (λ t. t || (nat_le 65 b && nat_le b 90) || (nat_le 97 b && nat_le b 122) || (b == 45) || (b == 95) || (b == 46)) digit

abbrev MayStand : List ℕ → Type 0
MayStand bytes = AllByRecursion (λ b. IsTrue (is_name_byte b)) bytes

decimal_in_name : (n : ℕ) → n < 2 ^ 64 → MayStand (decimal n)
decimal_in_name n small =
    decimal_by_steps (λ k ds. MayStand ds) (λ k l. (digit_in_name (48 + k) (omega arith) (omega (arith, l)), tt))
    (λ k ds l before. AllByRecursion-append (λ b. IsTrue (is_name_byte b)) ds ((48 + k % 10) ∷ []) before (digit_in_name (48 + k % 10) (omega arith) (omega (arith, digit_below k)), tt)) n small
  where
    digit_below : (k : ℕ) → k % 10 < 10
    digit_below k = omega arith

-- a name for a new list has the form of a name
pub new_name_is_name : (n : ℕ) → n < 2 ^ 60 → IsName (new_name n)
new_name_is_name n small =
    let big : n < 2 ^ 64 = omega (arith, small) in
    let short : length (decimal n) ≤ 20 = length-decimal-le 20 n (omega arith) (omega (arith, small)) big in
    record {
      some = omega (arith, length-append (codes "ARC-") (decimal n));
      few = omega (arith, length-append (codes "ARC-") (decimal n), short);
      bytes = AllByRecursion-append (λ b. IsTrue (is_name_byte b)) (codes "ARC-") (decimal n) (refl, (refl, (refl, (refl, tt)))) (decimal_in_name n big);
    }

candidate_is_name : (count : ℕ) (name : List ℕ) → count < 2 ^ 59 → Contains (candidates count) name → IsName name
candidate_is_name count name small there =
    let from : (n : ℕ) × Contains (range_with_len 1 count) n × (new_name n ≡ name) = from_map new_name (range_with_len 1 count) name there in
    subst IsName from.2 (new_name_is_name from.0 (below from.0 from.1))
  where
    below : (n : ℕ) → Contains (range_with_len 1 count) n → n < 2 ^ 60
    below n (k, l, e) =
        let within : k < count = omega (arith, l, length-range_with_len 1 count) in
        let is : n ≡ 1 + k = sym e ∙ get_or-range_with_len 1 count k n within in
        omega (arith, is, within, small)

in_take : (n : ℕ) (xs : List (List ℕ)) (x : List ℕ) → Contains (take n xs) x → Contains xs x
in_take n xs x h = subst (λ (l : List (List ℕ)). Contains l x) (take-append-drop n xs) (Contains-append_left (take n xs) (drop n xs) x h)

-- a free name is none of the names, and has the form of a name
pub free_name_is_new : (names : List (List ℕ)) (count : ℕ) (name : List ℕ) → length names + count < 2 ^ 59 → Contains (free_names names count) name → (¬ Contains names name) × IsName name
free_name_is_new names count name small there =
    let free : List ℕ → Bool = λ n. not (is_name_among names n) in
    let picked = from_filter free (candidates (length names + count)) name (in_take count (filter free (candidates (length names + count))) name there) in
    (λ h. lacks (is_name_among names name) (among_them names name h) picked.1, candidate_is_name (length names + count) name small picked.0)
  where
    lacks : (b : Bool) → b ≡ true → IsTrue (not b) → ⊥
    lacks true e h = false≢true h
    lacks false e h = false≢true e

-- free names differ
pub free_names_apart : (names : List (List ℕ)) (count : ℕ) → length names + count < 2 ^ 63 → AllPairs (λ x y. x ≢ y) (free_names names count)
free_names_apart names count small i j d l m =
    let free : List (List ℕ) = filter (λ name. not (is_name_among names name)) (candidates (length names + count)) in
    let apart : AllPairs (λ x y. x ≢ y) free =
    AllPairs-filter (λ x y. x ≢ y) (λ name. not (is_name_among names name)) (candidates (length names + count)) (candidates_apart (length names + count) small) in
    let within : j < length free = omega (arith, m, length-take count free) in
    let counted : j < count = omega (arith, m, length-take count free) in
    subst (λ (y : List ℕ). get_or (take count free) i d ≢ y) (sym (get_or-take count free j d counted))
    (subst (λ (x : List ℕ). x ≢ get_or free j d) (sym (get_or-take count free i d (omega (arith, l, counted)))) (apart i j d l within))

-- one candidate more: it is taken, or it is free
module _ (names : List (List ℕ)) (xs : List (List ℕ)) (i : ℕ) (name : List ℕ) (within : i < length xs) (is : name ≡ get_or xs i name) where
  abbrev free : List ℕ → Bool
  free n = not (is_name_among names n)

  candidate : (b : Bool) → is_name_among names name ≡ b → filter free (take (i + 1) xs) ≡ filter free (take i xs) ++ cond (not b) (name ∷ []) []
  candidate b e =
      filter_more free xs i name within ∙ ap (λ x. filter free (take i xs) ++ cond (free x) (x ∷ []) []) (sym is) ∙
      ap (λ t. filter free (take i xs) ++ cond (not t) (name ∷ []) []) e

  pub candidate_taken : (now : List (List ℕ)) → is_name_among names name ≡ true → now ≡ filter free (take i xs) → now ≡ filter free (take (i + 1) xs)
  candidate_taken now e was = was ∙ sym (append-nil (filter free (take i xs))) ∙ sym (candidate true e)

  pub candidate_free : (now next : List (List ℕ)) → is_name_among names name ≡ false → now ≡ filter free (take i xs) → next ≡ now ++ name ∷ [] → next ≡ filter free (take (i + 1) xs)
  candidate_free now next e was grown = grown ∙ ap (λ l. l ++ name ∷ []) was ∙ sym (candidate false e)

-- all candidates were tried
pub all_tried : (free : List ℕ → Bool) (xs : List (List ℕ)) (i count : ℕ) (now : List (List ℕ)) → length xs ≤ i → now ≡ filter free (take i xs) → length now ≤ count → now ≡ take count (filter free xs)
all_tried free xs i count now past is few =
    let all : now ≡ filter free xs = is ∙ ap (filter free) (take_all i xs past) in
    all ∙ sym (take_all count (filter free xs) (omega (arith, ap length all, few)))

-- enough of them were found
pub enough_found : (free : List ℕ → Bool) (xs : List (List ℕ)) (i count : ℕ) (now : List (List ℕ)) → now ≡ filter free (take i xs) → length now ≡ count → now ≡ take count (filter free xs)
enough_found free xs i count now is enough =
    let split : filter free xs ≡ filter free (take i xs) ++ filter free (drop i xs) = ap (filter free) (sym (take-append-drop i xs)) ∙ filter-append free (take i xs) (drop i xs) in
    is ∙ sym (take_at (filter free (take i xs)) (filter free (drop i xs)) count (ap length (sym is) ∙ enough)) ∙ ap (take count) (sym split)
