-- The new lists of routers and their names, one after another.
use Rattle.std.proofs.Common.{◌≡◌, ◌≢◌, ℕ, ◌+◌, ◌<◌, ◌≤◌, ◌^◌, ◌==◌, inl, inr, Bool, true, false, Some, None, List, [], ◌∷◌}
use Rattle.std.proofs.Common.{◌++◌, length, get_or, set, take, drop, map, replicate, refl, sym, ◌∙◌, ap, subst, arith, length-append, length-take, take-append-drop, if◌then◌else◌, unwrap_or}
use Rattle.std.specs.Prelude.{slice_get, slice_index_or, slice_index}
use Rattle.std.specs.List.{cons_option, range_with_len}
use Rattle.std.specs.Option.{option_map_or}
use Rattle.std.proofs.lemmas.Bool.{eqb-true, cases_lt}
use Rattle.std.proofs.lemmas.List.{append_assoc, take_more, get_or_at, length-replicate, get_or-replicate, get_or_append_left, take_all}
use Rattle.std.proofs.lemmas.List.Elements.{filter_map-append}
use Rattle.std.proofs.lemmas.List.FromFn.{fill_by_all, get_or-map-range_with_len, length-map-range_with_len, map-range_with_len_more}
use Rattle.std.proofs.lemmas.Option.{slice_get-get_or, get_or_from_slice_get, slice_get_within, none-some}
use Rattle.net_model.specs.declared.rows.RouterRow.{RouterRow}
use Rattle.net_model.specs.declared.rows.Network.{Network}
use Rattle.net_model.proofs.Grown.{holds_of_more}
use Rattle.edit_list.specs.declared.list_kinds.NewList.{NewList}
use Rattle.edit_space.specs.declared.new_lists.Named.{Named}
use Rattle.edit_list.specs.NewLists.{free_names, names_of}
use Rattle.arc_base.specs.Numbered.{if_number, of_number, IsTableOf, EachRow}
use Rattle.edit_space.specs.Working.{AreNewNames, IsNamed, HasNext}
use Rattle.arc_base.proofs.Grouped.{picked_more, told_set, told_at}

-- the things with the number of one of them: those before it, it, and those behind
pub of_its_number : {X : Type 0} (things : List (ℕ × X)) (i : ℕ) (x : ℕ × X) → i < length things → x ≡ get_or things i x →
    of_number x.0 things ≡ of_number x.0 (take i things) ++ x.1 ∷ of_number x.0 (drop (i + 1) things)
of_its_number {X} things i x within is =
    ap (of_number x.0) (sym (take-append-drop (i + 1) things)) ∙ filter_map-append (if_number x.0) (take (i + 1) things) (drop (i + 1) things) ∙
    ap (λ l. l ++ of_number x.0 (drop (i + 1) things)) (picked_more (if_number x.0) things i x within is
    ∙ ap (λ b. of_number x.0 (take i things) ++ cons_option (if b then Some x.1 else None) []) test) ∙
    append_assoc (of_number x.0 (take i things)) (x.1 ∷ []) (of_number x.0 (drop (i + 1) things))
  where
    test : (x.0 == x.0) ≡ true
    test = grind arith

-- how many lists of each router are named
abbrev pub counts : List (ℕ × NewList) → ℕ → ℕ
counts lists router = length (of_number router lists)

pub none_named : (count : ℕ) (used : List ℕ) → used ≡ replicate count 0 → used ≡ map (counts []) (range_with_len 0 count)
none_named count used are =
    fill_by_all (counts []) used count 0 (ap length are ∙ length-replicate count 0) (λ k l. ap (λ x. get_or x k 0) are ∙ get_or-replicate count k 0 0 l)

pub used_more : (count : ℕ) (lists : List (ℕ × NewList)) (i : ℕ) (list : ℕ × NewList) (now next : List ℕ) → i < length lists → list ≡ get_or lists i list → list.0 < count →
    now ≡ map (counts (take i lists)) (range_with_len 0 count) → next ≡ set now list.0 (slice_index now list.0 + 1) → next ≡ map (counts (take (i + 1) lists)) (range_with_len 0 count)
used_more count lists i list now next within is low was put =
    put ∙ ap (λ l. set l list.0 (slice_index l list.0 + 1)) was ∙
    told_set (counts (take i lists)) count list.0 (get_or (map (counts (take i lists)) (range_with_len 0 count)) list.0 0 + 1) 0 (counts (take (i + 1) lists)) here elsewhere
  where
    more : (k : ℕ) → counts (take (i + 1) lists) k ≡ counts (take i lists) k + length (cons_option (if_number k list) [])
    more k = ap length (picked_more (if_number k) lists i list within is) ∙ length-append (of_number k (take i lists)) (cons_option (if_number k list) [])

    here : (k : ℕ) → k < count → list.0 ≡ k → counts (take (i + 1) lists) k ≡ get_or (map (counts (take i lists)) (range_with_len 0 count)) list.0 0 + 1
    here k l same =
        let test : (list.0 == k) ≡ true = grind arith in
        more k ∙ ap (λ b. counts (take i lists) k + length (cons_option (if b then Some list.1 else None) [])) test ∙
        ap (λ n. n + 1) (sym (get_or-map-range_with_len (counts (take i lists)) 0 count list.0 k 0 low (omega (arith, same))))

    elsewhere : (k : ℕ) → k < count → list.0 ≢ k → counts (take (i + 1) lists) k ≡ counts (take i lists) k
    elsewhere k l differ = none (list.0 == k) refl
      where
        none : (b : Bool) → (list.0 == k) ≡ b → counts (take (i + 1) lists) k ≡ counts (take i lists) k
        none true e = absurd (differ (eqb-true list.0 k e))
        none false e = more k ∙ ap (λ b. counts (take i lists) k + length (cons_option (if b then Some list.1 else None) [])) e ∙ omega arith

-- each router has a name left for its next list
pub has_next : (net : Network) (lists : List (ℕ × NewList)) (names : List (List (List ℕ))) (i : ℕ) (list : ℕ × NewList) (used : List ℕ) → i < length lists → list ≡ get_or lists i list →
    list.0 < length net.routers → AreNewNames net lists names → used ≡ map (counts (take i lists)) (range_with_len 0 (length net.routers)) → HasNext names used list.0
has_next net lists names i list used within is low are told = record {
  within = omega (arith, low, ap length told, length-map-range_with_len (counts (take i lists)) 0 (length net.routers));
  named = omega (arith, low, ap length are.told, length-map-range_with_len (λ r. free_names (names_of net r) (length (of_number r lists))) 0 (length net.routers));
  left = omega (arith, are.counted list.0 low, at_router, split);
}
  where
    at_router : slice_index used list.0 ≡ counts (take i lists) list.0
    at_router = ap (λ l. get_or l list.0 0) told ∙ get_or-map-range_with_len (counts (take i lists)) 0 (length net.routers) list.0 list.0 0 low (omega arith)

    split : length (of_number list.0 lists) ≡ counts (take i lists) list.0 + length (list.1 ∷ of_number list.0 (drop (i + 1) lists))
    split = ap length (of_its_number lists i list within is) ∙ length-append (of_number list.0 (take i lists)) (list.1 ∷ of_number list.0 (drop (i + 1) lists))

-- the list has the name that was taken
pub is_named : (net : Network) (lists : List (ℕ × NewList)) (names : List (List (List ℕ))) (i : ℕ) (list : ℕ × NewList) (used : List ℕ) (name : List ℕ) (named : Named) →
    i < length lists → list ≡ get_or lists i list →
    list.0 < length net.routers → used ≡ map (counts (take i lists)) (range_with_len 0 (length net.routers)) → slice_get (slice_index_or names list.0 []) (slice_index used list.0) ≡ Some name →
    named ≡ record { router = list.0; list = list.1; name = name } → IsNamed lists names list named
is_named net lists names i list used name named within is low told taken made = record {
  same_router = ap (λ (n : Named). n.router) made;
  same_list = ap (λ (n : Named). n.list) made;
  place = counts (take i lists) list.0;
  list_is = at_place;
  name_is = ap (slice_get (slice_index_or names list.0 [])) (sym at_router) ∙ taken ∙ ap (λ (n : Named). Some n.name) (sym made);
}
  where
    at_router : slice_index used list.0 ≡ counts (take i lists) list.0
    at_router = ap (λ l. get_or l list.0 0) told ∙ get_or-map-range_with_len (counts (take i lists)) 0 (length net.routers) list.0 list.0 0 low (omega arith)

    parts : of_number list.0 lists ≡ of_number list.0 (take i lists) ++ list.1 ∷ of_number list.0 (drop (i + 1) lists)
    parts = of_its_number lists i list within is

    long : counts (take i lists) list.0 < length (of_number list.0 lists)
    long = omega (arith, ap length parts, length-append (of_number list.0 (take i lists)) (list.1 ∷ of_number list.0 (drop (i + 1) lists)))

    at_place : slice_get (of_number list.0 lists) (counts (take i lists) list.0) ≡ Some list.1
    at_place =
        slice_get-get_or (of_number list.0 lists) (counts (take i lists) list.0) list.1 long ∙
        ap Some (ap (λ l. get_or l (counts (take i lists) list.0) list.1) parts
        ∙ get_or_at (of_number list.0 (take i lists)) list.1 (of_number list.0 (drop (i + 1) lists)) list.1 (counts (take i lists) list.0) refl)

-- one row more
pub rows_more : {X Y : Type 0} (R : ℕ → X → Y → Type 0) (xs : List X) (i : ℕ) (x : X) (now next : List Y) (y : Y) → i < length xs → x ≡ get_or xs i x → R i x y → next ≡ now ++ y ∷ [] →
    EachRow R (take i xs) now → EachRow R (take (i + 1) xs) next
rows_more {X} {Y} R xs i x now next y within is one grown was =
    let more : take (i + 1) xs ≡ take i xs ++ x ∷ [] = take_more xs i x within ∙ ap (λ z. take i xs ++ z ∷ []) (sym is) in
    let counted : length (take i xs) ≡ i = omega (arith, length-take i xs, within) in
    record {
      whole = omega (arith, ap length grown, length-append now (y ∷ []), ap length more, length-append (take i xs) (x ∷ []), was.whole);
      each = λ k z w at_z at_w.
          holds_of_more (λ n v. (u : X) → slice_get (take (i + 1) xs) n ≡ Some u → R n u v) now next y i grown (was.whole ∙ counted) (before more counted)
          (λ u at_u. last more counted u at_u) k w at_w z at_z;
    }
  where
    front : (us vs : List X) (k : ℕ) (u : X) → k < length us → slice_get (us ++ vs) k ≡ Some u → slice_get us k ≡ Some u
    front us vs k u low at = slice_get-get_or us k u low ∙ ap Some (sym (get_or_append_left us vs u k low) ∙ get_or_from_slice_get (us ++ vs) k u u at)

    before : take (i + 1) xs ≡ take i xs ++ x ∷ [] → length (take i xs) ≡ i → (k : ℕ) (v : Y) → slice_get now k ≡ Some v → (u : X) → slice_get (take (i + 1) xs) k ≡ Some u → R k u v
    before more counted k v at_v u at_u =
        let low : k < length (take i xs) = omega (arith, slice_get_within now k v at_v, was.whole) in
        was.each k u v (front (take i xs) (x ∷ []) k u low (ap (λ l. slice_get l k) (sym more) ∙ at_u)) at_v

    last : take (i + 1) xs ≡ take i xs ++ x ∷ [] → length (take i xs) ≡ i → (u : X) → slice_get (take (i + 1) xs) i ≡ Some u → R i u y
    last more counted u at_u =
        let here : get_or (take i xs ++ x ∷ []) i u ≡ x = get_or_at (take i xs) x [] u i counted in
        subst (λ (v : X). R i v y) (sym here ∙ get_or_from_slice_get (take i xs ++ x ∷ []) i u u (ap (λ l. slice_get l i) (sym more) ∙ at_u)) one

pub no_rows : {X Y : Type 0} (R : ℕ → X → Y → Type 0) (ys : List Y) → ys ≡ [] → EachRow R [] ys
no_rows R ys none = record { whole = ap length none; each = λ k x y at_x at_y. absurd (none-some x at_x) }

pub all_rows : {X Y : Type 0} (R : ℕ → X → Y → Type 0) (xs zs : List X) (i : ℕ) (ys : List Y) → length xs ≤ i → xs ≡ zs → EachRow R (take i xs) ys → EachRow R zs ys
all_rows {X} R xs zs i ys past same rows = subst (λ (l : List X). EachRow R l ys) (take_all i xs past ∙ same) rows

-- one router's names more
pub new_names_more : (net : Network) (lists : List (ℕ × NewList)) (i : ℕ) (router : RouterRow) (count : ℕ) (now next : List (List (List ℕ))) (free : List (List ℕ)) →
    i < length net.routers → router ≡ get_or net.routers i router →
    count ≡ length (of_number i lists) → free ≡ free_names router.names count →
    now ≡ map (λ r. free_names (names_of net r) (length (of_number r lists))) (range_with_len 0 i) → next ≡ now ++ free ∷ [] →
    next ≡ map (λ r. free_names (names_of net r) (length (of_number r lists))) (range_with_len 0 (i + 1))
new_names_more net lists i router count now next free within is counted are was grown =
    let f : ℕ → List (List ℕ) = λ r. free_names (names_of net r) (length (of_number r lists)) in
    let row : slice_get net.routers i ≡ Some router = slice_get-get_or net.routers i router within ∙ ap Some (sym is) in
    let names : names_of net i ≡ router.names = ap (λ o. option_map_or (λ (r : RouterRow). r.names) o []) row in
    let one : free ≡ f i = are ∙ ap (λ l. free_names l count) (sym names) ∙ ap (free_names (names_of net i)) counted in
    grown ∙ ap (λ l. l ++ free ∷ []) was ∙ ap (λ l. map f (range_with_len 0 i) ++ l ∷ []) one ∙ sym (map-range_with_len_more f 0 i i (omega arith))

-- an index is told at each place, and the number of its names is
pub counted_more : (names next : List (List (List ℕ))) (lists : List (ℕ × NewList)) (i : ℕ) (free : List (List ℕ)) → length names ≡ i →
    next ≡ names ++ free ∷ [] → length free ≡ length (of_number i lists) →
    ((r : ℕ) → r < i → length (get_or names r []) ≡ length (of_number r lists)) → (r : ℕ) → r < i + 1 → length (get_or next r []) ≡ length (of_number r lists)
counted_more names next lists i free size grown counted was r low =
    elim (cases_lt r i) [
      | inl before ↦ ap length (ap (λ l. get_or l r []) grown ∙ get_or_append_left names (free ∷ []) [] r (omega (arith, before, size))) ∙ was r before
      | inr not_before ↦
          let same : r ≡ i = omega (arith, low, not_before) in
          ap length (ap (λ l. get_or l r []) grown ∙ ap (λ n. get_or (names ++ free ∷ []) n []) same ∙ get_or_at names free [] [] i size) ∙ counted ∙ ap (λ n. length (of_number n lists)) (sym same)
    ]

pub few_more : (net : Network) (i : ℕ) (router : RouterRow) → i < length net.routers → router ≡ get_or net.routers i router → length router.names < 2 ^ 32 →
    ((r : ℕ) → r < i → length (names_of net r) < 2 ^ 32) →
    (r : ℕ) → r < i + 1 → length (names_of net r) < 2 ^ 32
few_more net i router within is few was r low =
    elim (cases_lt r i) [
      | inl before ↦ was r before
      | inr not_before ↦
          let same : r ≡ i = omega (arith, low, not_before) in
          let row : slice_get net.routers r ≡ Some router = ap (slice_get net.routers) same ∙ slice_get-get_or net.routers i router within ∙ ap Some (sym is) in
          let names : names_of net r ≡ router.names = ap (λ o. option_map_or (λ (x : RouterRow). x.names) o []) row in
          omega (arith, ap length names, few)
    ]

-- the new lists of a router, as the table of them has them
pub group_of : (lists : List (ℕ × NewList)) (groups : List (List NewList)) (n i : ℕ) (things : List NewList) → IsTableOf n (λ k. of_number k lists) groups →
    i < n → things ≡ unwrap_or (slice_get groups i) [] → things ≡ of_number i lists
group_of lists groups n i things told within is = is ∙ ap (λ o. unwrap_or o []) (told_at (λ k. of_number k lists) n i groups told within)
