-- Lists that grow by a piece for each item of another.
use Rattle.std.proofs.Common.{◌≡◌, ℕ, ◌+◌, ◌<◌, ◌≤◌, List, [], ◌∷◌, ◌++◌, length, length-take-le, get_or, take, map, sym, ◌∙◌, ap, subst, arith, append_assoc, Result, OnOk}
use Rattle.std.specs.List.{filter_map, flat_map, cons_option, enumerate_from, zip}
use Rattle.std.specs.Prelude.{Option}
use Rattle.std.proofs.lemmas.List.{append-nil, take_more, take_all, map-append}
use Rattle.std.proofs.lemmas.List.Concat.{flat_map-append}
use Rattle.std.proofs.lemmas.Simd.{map-map}
use Rattle.arc_base.proofs.Grouped.{picked_more}
use Rattle.edit_list.proofs.PriceSteps.{pair_at, pairs_length}

-- what a list has after what it had before, with a piece more
pub grown : {X : Type 0} (old a b piece now next : List X) → now ≡ old ++ a → next ≡ now ++ piece → b ≡ a ++ piece → next ≡ old ++ b
grown old a b piece now next was put more = put ∙ ap (λ l. l ++ piece) was ∙ append_assoc old a piece ∙ ap (λ l. old ++ l) (sym more)

-- items with their numbers, and one more
numbered_append : {X : Type 0} (n : ℕ) (xs : List X) (x : X) → enumerate_from n (xs ++ x ∷ []) ≡ enumerate_from n xs ++ (n + length xs, x) ∷ []
numbered_append n [] x = let e : n ≡ n + 0 = omega arith in ap (λ k. (k, x) ∷ []) e
numbered_append n (y ∷ xs) x =
    let e : n + 1 + length xs ≡ n + length (y ∷ xs) = omega arith in
    ap (λ l. (n, y) ∷ l) (numbered_append (n + 1) xs x ∙ ap (λ k. enumerate_from (n + 1) xs ++ (k, x) ∷ []) e)

counted_more : {X : Type 0} (xs : List X) (i : ℕ) (x : X) → i < length xs → x ≡ get_or xs i x → enumerate_from 1 (take (i + 1) xs) ≡ enumerate_from 1 (take i xs) ++ (i + 1, x) ∷ []
counted_more xs i x within is =
    let size : 1 + length (take i xs) ≡ i + 1 = omega (arith, length-take-le i xs (omega (arith, within))) in
    ap (enumerate_from 1) (take_more xs i x within ∙ ap (λ y. take i xs ++ y ∷ []) (sym is)) ∙ numbered_append 1 (take i xs) x ∙ ap (λ k. enumerate_from 1 (take i xs) ++ (k, x) ∷ []) size

-- what is picked, after what there was before
pub picked_grown : {X Y : Type 0} (h : X → Option Y) (xs : List X) (i : ℕ) (x : X) (old now next : List Y) (o : Option Y) → i < length xs → x ≡ get_or xs i x → o ≡ h x →
    now ≡ old ++ filter_map h (take i xs) → next ≡ now ++ cons_option o [] → next ≡ old ++ filter_map h (take (i + 1) xs)
picked_grown h xs i x old now next o within is one was put =
    grown old (filter_map h (take i xs)) (filter_map h (take (i + 1) xs)) (cons_option o []) now next was put
    (picked_more h xs i x within is ∙ ap (λ p. filter_map h (take i xs) ++ cons_option p []) (sym one))

-- pairs, one more
pub zip_more : {X Y : Type 0} (xs : List X) (ys : List Y) (i : ℕ) (x : X) (y : Y) (now next : List (X × Y)) (p : X × Y) → length ys ≡ length xs → i < length xs → x ≡ get_or xs i x →
    y ≡ get_or ys i y → p ≡ (x, y) → now ≡ take i (zip xs ys) → next ≡ now ++ p ∷ [] →
    next ≡ take (i + 1) (zip xs ys)
zip_more xs ys i x y now next p same within is_x is_y pair was put =
    let whole : length (zip xs ys) ≡ length xs = pairs_length xs ys same in
    let both : get_or (zip xs ys) i (x, y) ≡ (x, y) = pair_at xs ys i x y within (omega arith) ∙ (λ j. (sym is_x j, sym is_y j)) in
    put ∙ ap (λ l. l ++ p ∷ []) was ∙ ap (λ q. take i (zip xs ys) ++ q ∷ []) (pair ∙ sym both) ∙ sym (take_more (zip xs ys) i (x, y) (omega arith))

pub zip_all : {X Y : Type 0} (xs : List X) (ys : List Y) (i : ℕ) (now : List (X × Y)) → length ys ≡ length xs → length xs ≤ i → now ≡ take i (zip xs ys) → now ≡ zip xs ys
zip_all xs ys i now same past was = let whole : length (zip xs ys) ≡ length xs = pairs_length xs ys same in was ∙ take_all i (zip xs ys) (omega arith)

-- one item, some, and one more
pub framed : {X : Type 0} (old m : List X) (a b : X) (one two three : List X) → one ≡ old ++ a ∷ [] → two ≡ one ++ m → three ≡ two ++ b ∷ [] → three ≡ old ++ (a ∷ m ++ b ∷ [])
framed old m a b one two three e f g =
    g ∙ ap (λ l. l ++ b ∷ []) f ∙ ap (λ l. (l ++ m) ++ b ∷ []) e ∙ append_assoc (old ++ a ∷ []) m (b ∷ []) ∙ append_assoc old (a ∷ []) (m ++ b ∷ [])

-- items counted from 1, one more
pub counted_grown : {X Y : Type 0} (f : ℕ × X → Y) (xs : List X) (i : ℕ) (x : X) (old now next : List Y) (y : Y) → i < length xs → x ≡ get_or xs i x → y ≡ f (i + 1, x) →
    now ≡ old ++ map f (enumerate_from 1 (take i xs)) → next ≡ now ++ y ∷ [] → next ≡ old ++ map f (enumerate_from 1 (take (i + 1) xs))
counted_grown f xs i x old now next y within is one was put =
    grown old (map f (enumerate_from 1 (take i xs))) (map f (enumerate_from 1 (take (i + 1) xs))) (y ∷ []) now next was put
    (ap (map f) (counted_more xs i x within is) ∙ map-append f (enumerate_from 1 (take i xs)) ((i + 1, x) ∷ []) ∙ ap (λ z. map f (enumerate_from 1 (take i xs)) ++ z ∷ []) (sym one))

-- all items are counted, and each is mapped twice
pub all_mapped_twice : {X Y Z : Type 0} (g : Y → Z) (f : ℕ × X → Y) (xs : List X) (i : ℕ) (old now : List Z) → length xs ≤ i →
    now ≡ old ++ map (λ e. g (f e)) (enumerate_from 1 (take i xs)) → now ≡ old ++ map g (map f (enumerate_from 1 xs))
all_mapped_twice g f xs i old now past was =
    was ∙ ap (λ l. old ++ l) (ap (λ l. map (λ e. g (f e)) (enumerate_from 1 l)) (take_all i xs past) ∙ sym (map-map g f (enumerate_from 1 xs)))

-- a piece more for each item counted from 1
pub counted_pieces : {X Y : Type 0} (f : ℕ × X → List Y) (xs : List X) (i : ℕ) (x : X) (now next piece : List Y) → i < length xs → x ≡ get_or xs i x → piece ≡ f (i + 1, x) →
    now ≡ flat_map f (enumerate_from 1 (take i xs)) → next ≡ now ++ piece → next ≡ flat_map f (enumerate_from 1 (take (i + 1) xs))
counted_pieces f xs i x now next piece within is one was put =
    let done = enumerate_from 1 (take i xs) in
    put ∙ ap (λ l. l ++ piece) was ∙ ap (λ p. flat_map f done ++ p) (one ∙ sym (append-nil (f (i + 1, x)))) ∙ sym (flat_map-append f done ((i + 1, x) ∷ [])) ∙
    ap (flat_map f) (sym (counted_more xs i x within is))

-- what is put after what there was is the same under another name
pub put_same : {T E Y : Type 0} (r : Result T E) (old next a b : List Y) → a ≡ b → OnOk r (next ≡ old ++ a) → OnOk r (next ≡ old ++ b)
put_same {T} {E} {Y} r old next a b same put = subst (λ (l : List Y). OnOk r (next ≡ old ++ l)) same put
