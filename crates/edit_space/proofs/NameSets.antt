-- Names in a set, which holds them by reference and in byte order.
use Rattle.std.proofs.Common.{◌≡◌, ℕ, ◌+◌, ◌<◌, ◌≤◌, ◌⊎◌, ◌↔◌, inl, inr, ◌||◌, Bool, true, false, List, [], ◌∷◌, ◌++◌, length, get_or, take, map, refl, sym, ◌∙◌, ap, subst, arith, ◌-◌}
use Rattle.std.specs.Prelude.{Contains, AllPairs, bytes_eq}
use Rattle.std.specs.List.{list_any, range_with_len}
use Rattle.std.specs.Cmp.Lexicographic.{slice_cmp}
use Rattle.std.specs.Ordering.{nat_cmp, match_ordering, ordering_then, is_eq}
use Rattle.std.specs.declared.cmp.Ordering.{Ordering}
use Rattle.std.specs.declared.cmp.Ordering.TheVariants.{Less, Equal, Greater}
use Rattle.std.specs.List.Sorted.{IsStrictlySortedBy}
use Rattle.std.specs.BTreeSet.{insert_key}
use Rattle.std.specs.BTreeMap.{is_at}
use Rattle.std.proofs.lemmas.Bool.{false≢true}
use Rattle.std.proofs.lemmas.List.{take_more, take_all, append-nil}
use Rattle.std.proofs.lemmas.List.FromFn.{map-range_with_len_more}
use Rattle.std.proofs.lemmas.List.Elements.{Contains-append_left, Contains-push, Contains-push_cases}
use Rattle.std.proofs.lemmas.Map.Keys.{Less-from_sorted}
use Rattle.std.proofs.lemmas.Map.Lookups.{exact_bytes}
use Rattle.std.proofs.lemmas.Slice.Eq.{bytes_eq-Decides}
use denote.Ref.{Bor}
use Rattle.arc_base.proofs.Items.{Contains-head, Contains-tail, Contains-cases, Contains-none, AllPairs-map}
use Rattle.edit_list.specs.NewLists.{new_name, is_name_among}
use Rattle.arc_base.specs.NameForms.{IsNameBefore, texts_at}
use Rattle.edit_space.specs.Working.{AreJoined}

abbrev pub text_order : Bor (List ℕ) → Bor (List ℕ) → Ordering
text_order x y = slice_cmp nat_cmp x.now y.now

-- a name in front of others
holds_head : (k : Bor (List ℕ)) (ks : List (Bor (List ℕ))) (name : List ℕ) → Contains (texts_at (k ∷ ks)) name ↔ (Contains (texts_at ks) name ⊎ (k.now ≡ name))
holds_head k ks name = (to, from)
  where
    to : Contains (texts_at (k ∷ ks)) name → Contains (texts_at ks) name ⊎ (k.now ≡ name)
    to h = elim (Contains-cases k.now name (texts_at ks) h) [
      | inl e ↦ inr e
      | inr later ↦ inl later
    ]

    from : Contains (texts_at ks) name ⊎ (k.now ≡ name) → Contains (texts_at (k ∷ ks)) name
    from (inl h) = Contains-tail k.now name (texts_at ks) h
    from (inr e) = subst (λ (n : List ℕ). Contains (k.now ∷ texts_at ks) n) e (Contains-head k.now (texts_at ks))

-- a name that goes in, unless it is there
pub holds_key : (ks : List (Bor (List ℕ))) (k : Bor (List ℕ)) (name : List ℕ) → Contains (texts_at (insert_key text_order ks k)) name ↔ (Contains (texts_at ks) name ⊎ (k.now ≡ name))
holds_key [] k name = holds_head k [] name
holds_key (x ∷ xs) k name = by (text_order k x) refl (holds_key xs k name)
  where
    there : (k.now ≡ x.now) → Contains (texts_at (x ∷ xs)) name ⊎ (k.now ≡ name) → Contains (texts_at (x ∷ xs)) name
    there same (inl h) = h
    there same (inr e) = subst (λ (n : List ℕ). Contains (x.now ∷ texts_at xs) n) (sym same ∙ e) (Contains-head x.now (texts_at xs))

    under_to : Contains (texts_at (insert_key text_order xs k)) name ↔ (Contains (texts_at xs) name ⊎ (k.now ≡ name)) →
        Contains (x.now ∷ texts_at (insert_key text_order xs k)) name → Contains (texts_at (x ∷ xs)) name ⊎ (k.now ≡ name)
    under_to rest h = elim (Contains-cases x.now name (texts_at (insert_key text_order xs k)) h) [
      | inl e ↦ inl (subst (λ (n : List ℕ). Contains (x.now ∷ texts_at xs) n) e (Contains-head x.now (texts_at xs)))
      | inr later ↦ elim (rest.0 later) [ inl old ↦ inl (Contains-tail x.now name (texts_at xs) old) | inr now ↦ inr now ]
    ]

    under_from : Contains (texts_at (insert_key text_order xs k)) name ↔ (Contains (texts_at xs) name ⊎ (k.now ≡ name)) →
        Contains (texts_at (x ∷ xs)) name ⊎ (k.now ≡ name) → Contains (x.now ∷ texts_at (insert_key text_order xs k)) name
    under_from rest (inl h) = elim (Contains-cases x.now name (texts_at xs) h) [
      | inl e ↦ subst (λ (n : List ℕ). Contains (x.now ∷ texts_at (insert_key text_order xs k)) n) e (Contains-head x.now (texts_at (insert_key text_order xs k)))
      | inr later ↦ Contains-tail x.now name (texts_at (insert_key text_order xs k)) (rest.1 (inl later))
    ]
    under_from rest (inr e) = Contains-tail x.now name (texts_at (insert_key text_order xs k)) (rest.1 (inr e))

    by : (o : Ordering) → text_order k x ≡ o → Contains (texts_at (insert_key text_order xs k)) name ↔ (Contains (texts_at xs) name ⊎ (k.now ≡ name)) →
        Contains (texts_at (match_ordering o (k ∷ x ∷ xs) (x ∷ xs) (x ∷ insert_key text_order xs k))) name ↔ (Contains (texts_at (x ∷ xs)) name ⊎ (k.now ≡ name))
    by Less e rest = holds_head k (x ∷ xs) name
    by Equal e rest = (λ h. inl h, there (exact_bytes k.now x.now e))
    by Greater e rest = (under_to rest, under_from rest)

-- before any name is added
pub joined_none : (ks : List (List ℕ)) → AreJoined ks [] ks
joined_none ks name = (λ h. inl h, from)
  where
    from : Contains ks name ⊎ Contains [] name → Contains ks name
    from (inl h) = h
    from (inr h) = absurd (Contains-none name h)

-- one name more
pub joined_more : (old : List (List ℕ)) (names : List (List ℕ)) (i : ℕ) (name : List ℕ) (now next : List (Bor (List ℕ))) (key : Bor (List ℕ)) → i < length names → name ≡ get_or names i name →
    key.now ≡ name → next ≡ insert_key text_order now key → AreJoined old (take i names) (texts_at now) → AreJoined old (take (i + 1) names) (texts_at next)
joined_more old names i name now next key within is said grown was n = (to, from)
  where
    more : take (i + 1) names ≡ take i names ++ name ∷ []
    more = take_more names i name within ∙ ap (λ m. take i names ++ m ∷ []) (sym is)

    last : key.now ≡ n → Contains (take (i + 1) names) n
    last e = subst (λ (l : List (List ℕ)). Contains l n) (sym more) (subst (λ (m : List ℕ). Contains (take i names ++ name ∷ []) m) (sym said ∙ e) (Contains-push (take i names) name))

    front : Contains (take i names) n → Contains (take (i + 1) names) n
    front h = subst (λ (l : List (List ℕ)). Contains l n) (sym more) (Contains-append_left (take i names) (name ∷ []) n h)

    parts : Contains (take (i + 1) names) n → Contains (take i names) n ⊎ (name ≡ n)
    parts h = Contains-push_cases (take i names) name n (subst (λ (l : List (List ℕ)). Contains l n) more h)

    to : Contains (texts_at next) n → Contains old n ⊎ Contains (take (i + 1) names) n
    to h = elim ((holds_key now key n).0 (subst (λ (l : List (Bor (List ℕ))). Contains (texts_at l) n) grown h)) [
      | inl before ↦ elim ((was n).0 before) [ inl first ↦ inl first | inr some ↦ inr (front some) ]
      | inr e ↦ inr (last e)
    ]

    in_now : Contains (texts_at now) n ⊎ (key.now ≡ n) → Contains (texts_at next) n
    in_now h = subst (λ (l : List (Bor (List ℕ))). Contains (texts_at l) n) (sym grown) ((holds_key now key n).1 h)

    from : Contains old n ⊎ Contains (take (i + 1) names) n → Contains (texts_at next) n
    from (inl h) = in_now (inl ((was n).1 (inl h)))
    from (inr h) = elim (parts h) [ inl before ↦ in_now (inl ((was n).1 (inr before))) | inr e ↦ in_now (inr (said ∙ e)) ]

pub joined_all : (old names more : List (List ℕ)) (i : ℕ) (now : List (List ℕ)) → length names ≤ i → names ≡ more → AreJoined old (take i names) now → AreJoined old more now
joined_all old names more i now past same joined = subst (λ (l : List (List ℕ)). AreJoined old l now) (take_all i names past ∙ same) joined

-- two additions to an empty set
pub joined_both : (empty names more first both : List (List ℕ)) → empty ≡ [] → AreJoined empty names first → AreJoined first more both → AreJoined names more both
joined_both empty names more first both none one two n = (to, from)
  where
    no_name : Contains empty n → ⊥
    no_name h = Contains-none n (subst (λ (l : List (List ℕ)). Contains l n) none h)

    first_from : Contains first n → Contains names n
    first_from h = elim ((one n).0 h) [ inl nothing ↦ absurd (no_name nothing) | inr there ↦ there ]

    to : Contains both n → Contains names n ⊎ Contains more n
    to h = elim ((two n).0 h) [ inl before ↦ inl (first_from before) | inr now ↦ inr now ]

    from : Contains names n ⊎ Contains more n → Contains both n
    from (inl h) = (two n).1 (inl ((one n).1 (inr h)))
    from (inr h) = (two n).1 (inr h)

-- the names in a set that was empty
pub joined_first : (empty names first : List (List ℕ)) → empty ≡ [] → AreJoined empty names first → (n : List ℕ) → Contains first n ↔ Contains names n
joined_first empty names first none one n = (to, λ h. (one n).1 (inr h))
  where
    to : Contains first n → Contains names n
    to h = elim ((one n).0 h) [ inl nothing ↦ absurd (Contains-none n (subst (λ (l : List (List ℕ)). Contains l n) none nothing)) | inr there ↦ there ]

-- the keys are in byte order
pub in_byte_order : (ks : List (Bor (List ℕ))) → IsStrictlySortedBy text_order ks → AllPairs IsNameBefore (texts_at ks)
in_byte_order ks sorted = AllPairs-map IsNameBefore (λ (key : Bor (List ℕ)). key.now) ks (λ i j d l m. Less-from_sorted text_order ks i j d sorted l m)

-- no name comes before itself
compare_same : (n : ℕ) → nat_cmp n n ≡ Equal
compare_same n = grind arith

pub equal_to_itself : (name : List ℕ) → slice_cmp nat_cmp name name ≡ Equal
equal_to_itself [] = refl
equal_to_itself (n ∷ name) = ap (λ (o : Ordering). ordering_then o (slice_cmp nat_cmp name name)) (compare_same n) ∙ equal_to_itself name

-- whether a set has a name
is_equal : (o : Ordering) → is_eq o ≡ true → o ≡ Equal
is_equal Less e = absurd (false≢true e)
is_equal Equal e = refl
is_equal Greater e = absurd (false≢true e)

found_name : (ks : List (Bor (List ℕ))) (k : Bor (List ℕ)) → list_any (is_at (text_order k)) ks ≡ true → Contains (texts_at ks) k.now
found_name [] k e = absurd (false≢true e)
found_name (x ∷ xs) k e = by (is_at (text_order k) x) refl (λ rest. found_name xs k rest) e
  where
    by : (b : Bool) → is_at (text_order k) x ≡ b → (list_any (is_at (text_order k)) xs ≡ true → Contains (texts_at xs) k.now) →
        list_any (is_at (text_order k)) (x ∷ xs) ≡ true → Contains (texts_at (x ∷ xs)) k.now
    by true f later e =
        let same : k.now ≡ x.now = exact_bytes k.now x.now (is_equal (text_order k x) f) in
        subst (λ (n : List ℕ). Contains (x.now ∷ texts_at xs) n) (sym same) (Contains-head x.now (texts_at xs))
    by false f later e = Contains-tail x.now k.now (texts_at xs) (later (sym (ap (λ b. b || list_any (is_at (text_order k)) xs) f) ∙ e))

finds_name : (ks : List (Bor (List ℕ))) (k : Bor (List ℕ)) → Contains (texts_at ks) k.now → list_any (is_at (text_order k)) ks ≡ true
finds_name [] k h = absurd (Contains-none k.now h)
finds_name (x ∷ xs) k h = elim (Contains-cases x.now k.now (texts_at xs) h) [
  | inl same ↦
      let first : is_at (text_order k) x ≡ true = ap is_eq (ap (λ (n : List ℕ). slice_cmp nat_cmp k.now n) same ∙ equal_to_itself k.now) in
      ap (λ b. b || list_any (is_at (text_order k)) xs) first
  | inr later ↦ ap (λ b. is_at (text_order k) x || b) (finds_name xs k later) ∙ always (is_at (text_order k) x)
]
  where
    always : (b : Bool) → (b || true) ≡ true
    always true = refl
    always false = refl

pub is_among_them : (names : List (List ℕ)) (n : List ℕ) → is_name_among names n ≡ true → Contains names n
is_among_them [] n e = absurd (false≢true e)
is_among_them (x ∷ xs) n e = by (bytes_eq n x) refl (λ rest. is_among_them xs n rest) e
  where
    by : (b : Bool) → bytes_eq n x ≡ b → (is_name_among xs n ≡ true → Contains xs n) → is_name_among (x ∷ xs) n ≡ true → Contains (x ∷ xs) n
    by true f later e = subst (λ (m : List ℕ). Contains (x ∷ xs) m) (sym ((bytes_eq-Decides n x).0 f)) (Contains-head x xs)
    by false f later e = Contains-tail x n xs (later (sym (ap (λ b. b || is_name_among xs n) f) ∙ e))

pub among_them : (names : List (List ℕ)) (n : List ℕ) → Contains names n → is_name_among names n ≡ true
among_them [] n h = absurd (Contains-none n h)
among_them (x ∷ xs) n h = elim (Contains-cases x n xs h) [
  | inl same ↦ ap (λ b. b || is_name_among xs n) ((bytes_eq-Decides n x).1 (sym same))
  | inr later ↦ ap (λ b. bytes_eq n x || b) (among_them xs n later) ∙ always (bytes_eq n x)
]
  where
    always : (b : Bool) → (b || true) ≡ true
    always true = refl
    always false = refl

-- the set answers whether the name is one of the names
pub taken_is_among : (ks : List (Bor (List ℕ))) (names : List (List ℕ)) (k : Bor (List ℕ)) → ((n : List ℕ) → Contains (texts_at ks) n ↔ Contains names n) →
    list_any (is_at (text_order k)) ks ≡ is_name_among names k.now
taken_is_among ks names k same = by (list_any (is_at (text_order k)) ks) refl (is_name_among names k.now) refl
  where
    by : (b : Bool) → list_any (is_at (text_order k)) ks ≡ b → (c : Bool) → is_name_among names k.now ≡ c → list_any (is_at (text_order k)) ks ≡ is_name_among names k.now
    by true e c f = e ∙ sym (among_them names k.now ((same k.now).0 (found_name ks k e)))
    by false e true f = absurd (false≢true (sym e ∙ finds_name ks k ((same k.now).1 (is_among_them names k.now f))))
    by false e false f = e ∙ sym f

pub listed_all : (listed all : List (List ℕ)) (rest : List (Bor (List ℕ))) → rest ≡ [] → listed ++ texts_at rest ≡ all → listed ≡ all
listed_all listed all rest none was = sym (append-nil listed) ∙ ap (λ l. listed ++ texts_at l) (sym none) ∙ was

-- one name more for new lists
pub first_names_more : (n : ℕ) (now next : List (List ℕ)) (name : List ℕ) → 1 ≤ n → name ≡ new_name n → now ≡ map new_name (range_with_len 1 (n - 1)) →
    next ≡ now ++ name ∷ [] → next ≡ map new_name (range_with_len 1 (n + 1 - 1))
first_names_more n now next name low is was grown =
    let one : n + 1 - 1 ≡ n - 1 + 1 = omega arith in
    grown ∙ ap (λ l. l ++ name ∷ []) was ∙ ap (λ m. map new_name (range_with_len 1 (n - 1)) ++ m ∷ []) is ∙
    sym (map-range_with_len_more new_name 1 (n - 1) n (omega (arith, low))) ∙ ap (λ k. map new_name (range_with_len 1 k)) (sym one)
