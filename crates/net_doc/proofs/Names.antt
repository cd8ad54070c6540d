-- Lists of names: which names are among them, and that none stands twice.
use Rattle.std.proofs.Common.{◌≡◌, ◌≢◌, ℕ, ◌&&◌, ◌||◌, Bool, true, false, not, List, [], ◌∷◌, ◌++◌, ◌+◌, ◌<◌, length, get_or, cond}
use Rattle.std.proofs.Common.{take, drop, take-append-drop, map, String, Global, Bor, string_bytes, bytes_eq, true≢false, ◌⊎◌, inl, inr, refl, sym, ap, ◌∙◌, arith}
use Rattle.std.proofs.lemmas.Bool.{and_parts, and_from, and_left, and_right}
use Rattle.std.proofs.lemmas.Bool.Decides.{same_from_decides}
use Rattle.std.proofs.lemmas.Grind.{take_at_read}
use Rattle.std.proofs.lemmas.List.Elements.{All-from_recursion}
use Rattle.std.proofs.lemmas.List.Kept.{AllPairs-cons}
use Rattle.std.proofs.lemmas.Slice.Eq.{bytes_eq-Decides}
use Rattle.std.specs.List.{list_any, list_all, AllByRecursion, AllPairs}
use Rattle.std.specs.Map.{keys_of}
use Rattle.serde_json.specs.View.{members_view}
use Rattle.serde_json.specs.declared.value.Value.{Value}
use Rattle.net_doc.specs.Members.{are_among}
use Rattle.net_doc.specs.Documents.{are_different}

-- a test of each element's image
pub list_any-map : {A B : Type 0} (f : A → B) (p : B → Bool) (xs : List A) → list_any p (map f xs) ≡ list_any (λ x. p (f x)) xs
list_any-map f p [] = refl
list_any-map f p (x ∷ xs) = ap (λ b. p (f x) || b) (list_any-map f p xs)

-- the members of an object by their keys
pub are_among-keys : (names : List (List ℕ)) (es : List (String Global × Value)) →
    are_among names (members_view es) ≡ list_all (λ k. list_any (λ known. bytes_eq known (string_bytes k)) names) (keys_of es)
are_among-keys names [] = refl
are_among-keys names (e ∷ es) = ap (λ b. list_any (λ known. bytes_eq known (string_bytes e.0)) names && b) (are_among-keys names es)

-- one key after another is tested
pub tested_true : {K : Type 0} (p : K → Bool) (whole : Bool) (s t : List K) (k : K) → whole ≡ list_all p s → s ≡ k ∷ t → p k ≡ true → whole ≡ list_all p t
tested_true p whole s t k so_far split passes = so_far ∙ ap (list_all p) split ∙ ap (λ b. b && list_all p t) passes

pub tested_false : {K : Type 0} (p : K → Bool) (whole : Bool) (s t : List K) (k : K) → whole ≡ list_all p s → s ≡ k ∷ t → p k ≡ false → false ≡ whole
tested_false p whole s t k so_far split fails = sym (so_far ∙ ap (list_all p) split ∙ ap (λ b. b && list_all p t) fails)

-- a test of joined lists
list_any-append : {A : Type 0} (p : A → Bool) (xs ys : List A) → list_any p (xs ++ ys) ≡ list_any p xs || list_any p ys
list_any-append p [] ys = refl
list_any-append p (x ∷ xs) ys = ap (λ b. p x || b) (list_any-append p xs ys) ∙ or_or (p x) (list_any p xs) (list_any p ys)
  where
    or_or : (a b c : Bool) → (a || (b || c)) ≡ ((a || b) || c)
    or_or true b c = refl
    or_or false b c = refl

both_apart : (a b d e : Bool) → (not (a || (b || false)) && (d && not e)) ≡ ((not a && d) && not (b || e))
both_apart true b d e = refl
both_apart false true true e = refl
both_apart false true false e = refl
both_apart false false true e = refl
both_apart false false false e = refl

bytes_eq-flip : (x y : List ℕ) → bytes_eq x y ≡ bytes_eq y x
bytes_eq-flip x y =
    same_from_decides (bytes_eq x y) (bytes_eq y x) (bytes_eq-Decides x y)
    (λ e. sym ((bytes_eq-Decides y x).0 e), λ e. (bytes_eq-Decides y x).1 (sym e))

-- one name more, put at the end
are_different-last : (xs : List (List ℕ)) (y : List ℕ) → are_different (xs ++ y ∷ []) ≡ are_different xs && not (list_any (bytes_eq y) xs)
are_different-last [] y = refl
are_different-last (x ∷ xs) y =
    ap (λ b. not b && are_different (xs ++ y ∷ [])) (list_any-append (bytes_eq x) xs (y ∷ []))
    ∙ ap (λ b. not (list_any (bytes_eq x) xs || (bytes_eq x y || false)) && b) (are_different-last xs y)
    ∙ both_apart (list_any (bytes_eq x) xs) (bytes_eq x y) (are_different xs) (list_any (bytes_eq y) xs)
    ∙ ap (λ b. (not (list_any (bytes_eq x) xs) && are_different xs) && not (b || list_any (bytes_eq y) xs)) (bytes_eq-flip x y)

and_cases : (a d : Bool) → (not a && d) ≡ false → (a ≡ true) ⊎ (d ≡ false)
and_cases true d e = inl refl
and_cases false d e = inr e

-- where a name stands twice, so it does with more names after it
pub are_different-front : (xs ys : List (List ℕ)) → are_different xs ≡ false → are_different (xs ++ ys) ≡ false
are_different-front [] ys e = absurd (true≢false e)
are_different-front (x ∷ xs) ys e =
    elim (and_cases _ _ e) [
      | inl twice ↦ and_left _ _ (ap not (list_any-append (bytes_eq x) xs ys ∙ ap (λ b. b || list_any (bytes_eq x) ys) twice))
      | inr later ↦ and_right _ _ (are_different-front xs ys later)
    ]

-- different names are different in pairs
different_from : (x : List ℕ) (xs : List (List ℕ)) → list_any (bytes_eq x) xs ≡ false → AllByRecursion (λ y. x ≢ y) xs
different_from x [] e = tt
different_from x (y ∷ ys) e =
    let (first, rest) = or_parts _ _ e in
    (λ same. true≢false (sym ((bytes_eq-Decides x y).1 same) ∙ first), different_from x ys rest)
  where
    or_parts : (a b : Bool) → (a || b) ≡ false → (a ≡ false) × (b ≡ false)
    or_parts true b h = absurd (true≢false h)
    or_parts false b h = (refl, h)

pub not_true : (b : Bool) → not b ≡ true → b ≡ false
not_true true e = absurd (true≢false (sym e))
not_true false e = refl

pub not_false : (b : Bool) → not b ≡ false → b ≡ true
not_false true e = refl
not_false false e = absurd (true≢false e)

pub AllPairs-different : (xs : List (List ℕ)) → are_different xs ≡ true → AllPairs (λ x y. x ≢ y) xs
AllPairs-different [] e = λ i j d below within. absurd (omega arith)
AllPairs-different (x ∷ xs) e =
    let (first, rest) = and_parts _ _ e in
    AllPairs-cons (λ y z. y ≢ z) x xs (All-from_recursion (λ y. x ≢ y) xs (different_from x xs (not_true _ first))) (AllPairs-different xs rest)

-- what the set of the names so far says of the next name
seen_before : (names : List (List ℕ)) (i : ℕ) (keys : List (Bor (List ℕ))) (key : Bor (List ℕ)) → map (λ k. k.now) keys ≡ take i names
    → list_any (λ k. bytes_eq key.now k.now) keys ≡ list_any (bytes_eq key.now) (take i names)
seen_before names i keys key are = sym (list_any-map (λ k. k.now) (bytes_eq key.now) keys) ∙ ap (list_any (bytes_eq key.now)) are

map_last : (keys : List (Bor (List ℕ))) (key : Bor (List ℕ)) → map (λ k. k.now) (keys ++ key ∷ []) ≡ map (λ k. k.now) keys ++ key.now ∷ []
map_last [] key = refl
map_last (k ∷ keys) key = ap (λ t. k.now ∷ t) (map_last keys key)

pub seen_new : (names : List (List ℕ)) (i : ℕ) (d : List ℕ) (keys after : List (Bor (List ℕ))) (key : Bor (List ℕ)) → i < length names → key.now ≡ get_or names i d
    → map (λ k. k.now) keys ≡ take i names → are_different (take i names) ≡ true → list_any (λ k. bytes_eq key.now k.now) keys ≡ false
    → after ≡ cond (list_any (λ k. bytes_eq key.now k.now) keys) keys (keys ++ key ∷ [])
    → (map (λ k. k.now) after ≡ take (i + 1) names) × (are_different (take (i + 1) names) ≡ true)
seen_new names i d keys after key within is are different new insert =
    let more : take i names ++ key.now ∷ [] ≡ take (i + 1) names =
    ap (λ name. take i names ++ name ∷ []) is ∙ sym (take_at_read names i d within).1 in
    let apart : are_different (take i names ++ key.now ∷ []) ≡ true =
    are_different-last (take i names) key.now ∙ and_from _ _ different (ap not (sym (seen_before names i keys key are) ∙ new)) in
    let added : after ≡ keys ++ key ∷ [] = insert ∙ ap (λ b. cond b keys (keys ++ key ∷ [])) new in
    (ap (map (λ k. k.now)) added ∙ map_last keys key ∙ ap (λ t. t ++ key.now ∷ []) are ∙ more, ap are_different (sym more) ∙ apart)

pub seen_twice : (names : List (List ℕ)) (i : ℕ) (d : List ℕ) (keys : List (Bor (List ℕ))) (key : Bor (List ℕ)) → i < length names → key.now ≡ get_or names i d
    → map (λ k. k.now) keys ≡ take i names → list_any (λ k. bytes_eq key.now k.now) keys ≡ true → false ≡ are_different names
seen_twice names i d keys key within is are twice =
    let more : take i names ++ key.now ∷ [] ≡ take (i + 1) names =
    ap (λ name. take i names ++ name ∷ []) is ∙ sym (take_at_read names i d within).1 in
    let same : are_different (take (i + 1) names) ≡ false =
    ap are_different (sym more) ∙ are_different-last (take i names) key.now ∙ and_right _ _ (ap not (sym (seen_before names i keys key are) ∙ twice)) in
    sym (ap are_different (sym (take-append-drop (i + 1) names)) ∙ are_different-front (take (i + 1) names) (drop (i + 1) names) same)
