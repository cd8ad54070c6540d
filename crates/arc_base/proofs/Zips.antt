-- Two lists whose items stand in a relation, place by place, and what holds of each item of a list.
use Rattle.std.proofs.Common.{◌≡◌, ℕ, zero, suc, ◌+◌, ◌<◌, List, [], ◌∷◌, ◌++◌, length, get_or, take, refl, sym, ◌∙◌, ap, subst, arith, Some}
use Rattle.std.specs.Prelude.{Option, IfSome, All, slice_get, map}
use Rattle.std.specs.Option.{ForSome}
use Rattle.std.specs.List.{AllZip, AllByRecursion}
use Rattle.std.proofs.lemmas.List.{take_more, map_more, append_assoc}
use Rattle.std.proofs.lemmas.Option.{none-some, same_Some, slice_get_within, get_or_from_slice_get, slice_get-get_or}

-- one more pair of lists
pub AllZip-append : {X Y : Type 0} (R : X → Y → Type 0) (xs : List X) (ys : List Y) (us : List X) (vs : List Y) → AllZip R xs ys → AllZip R us vs → AllZip R (xs ++ us) (ys ++ vs)
AllZip-append R [] [] us vs h k = k
AllZip-append R [] (y ∷ ys) us vs h k = absurd h
AllZip-append R (x ∷ xs) [] us vs h k = absurd h
AllZip-append R (x ∷ xs) (y ∷ ys) us vs h k = (h.0, AllZip-append R xs ys us vs h.1 k)

-- one more pair of items
pub AllZip-more : {X Y : Type 0} (R : X → Y → Type 0) (xs : List X) (i : ℕ) (x : X) (ys next : List Y) (y : Y) → i < length xs → x ≡ get_or xs i x →
    AllZip R (take i xs) ys → next ≡ ys ++ y ∷ [] → R x y → AllZip R (take (i + 1) xs) next
AllZip-more R xs i x ys next y h e all grown one =
    let more : take (i + 1) xs ≡ take i xs ++ x ∷ [] = take_more xs i x h ∙ ap (λ z. take i xs ++ z ∷ []) (sym e) in
    subst (λ l. AllZip R (take (i + 1) xs) l) (sym grown) (subst (λ l. AllZip R l (ys ++ y ∷ [])) (sym more) (AllZip-append R (take i xs) ys (x ∷ []) (y ∷ []) all (one, tt)))

-- both have as many items
pub AllZip-length : {X Y : Type 0} (R : X → Y → Type 0) (xs : List X) (ys : List Y) → AllZip R xs ys → length xs ≡ length ys
AllZip-length R [] [] h = refl
AllZip-length R [] (y ∷ ys) h = absurd h
AllZip-length R (x ∷ xs) [] h = absurd h
AllZip-length R (x ∷ xs) (y ∷ ys) h = ap suc (AllZip-length R xs ys h.1)

-- each item of the first has one in the second
pub AllZip-right : {X Y : Type 0} (R : X → Y → Type 0) (xs : List X) (ys : List Y) → AllZip R xs ys → (k : ℕ) (x : X) → slice_get xs k ≡ Some x → (y : Y) × (slice_get ys k ≡ Some y) × R x y
AllZip-right R [] ys h k x e = absurd (none-some x e)
AllZip-right R (x ∷ xs) [] h k z e = absurd h
AllZip-right R (x ∷ xs) (y ∷ ys) h zero z e = (y, refl, subst (λ w. R w y) (same_Some x z e) h.0)
AllZip-right R (x ∷ xs) (y ∷ ys) h (suc k) z e = AllZip-right R xs ys h.1 k z e

-- and each of the second one in the first
pub AllZip-left : {X Y : Type 0} (R : X → Y → Type 0) (xs : List X) (ys : List Y) → AllZip R xs ys → (k : ℕ) (y : Y) → slice_get ys k ≡ Some y → (x : X) × (slice_get xs k ≡ Some x) × R x y
AllZip-left R xs [] h k y e = absurd (none-some y e)
AllZip-left R [] (y ∷ ys) h k z e = absurd h
AllZip-left R (x ∷ xs) (y ∷ ys) h zero z e = (x, refl, subst (λ w. R x w) (same_Some y z e) h.0)
AllZip-left R (x ∷ xs) (y ∷ ys) h (suc k) z e = AllZip-left R xs ys h.1 k z e

-- one more pair after a map
pub AllZip-mapped_more : {X Y Z : Type 0} (R : X → Y → Type 0) (f : Z → X) (before : List X) (zs : List Z) (i : ℕ) (z : Z) (ys next : List Y) (y : Y) →
    i < length zs → z ≡ get_or zs i z → AllZip R (before ++ map f (take i zs)) ys → next ≡ ys ++ y ∷ [] → R (f z) y → AllZip R (before ++ map f (take (i + 1) zs)) next
AllZip-mapped_more R f before zs i z ys next y h e all grown one =
    let more : before ++ map f (take (i + 1) zs) ≡ (before ++ map f (take i zs)) ++ f z ∷ [] =
    ap (λ l. before ++ l) (map_more f zs i z h ∙ ap (λ w. map f (take i zs) ++ f w ∷ []) (sym e)) ∙ sym (append_assoc before (map f (take i zs)) (f z ∷ [])) in
    subst (λ l. AllZip R (before ++ map f (take (i + 1) zs)) l) (sym grown)
    (subst (λ l. AllZip R l (ys ++ y ∷ [])) (sym more) (AllZip-append R (before ++ map f (take i zs)) ys (f z ∷ []) (y ∷ []) all (one, tt)))

AllZip-push : {A B : Type 0} (R : A → B → Type 0) (xs : List A) (ys : List B) (x : A) (y : B) → AllZip R xs ys → R x y → AllZip R (xs ++ x ∷ []) (ys ++ y ∷ [])
AllZip-push R [] [] x y before next = (next, tt)
AllZip-push R [] (y' ∷ ys) x y before next = absurd before
AllZip-push R (x' ∷ xs) [] x y before next = absurd before
AllZip-push R (x' ∷ xs) (y' ∷ ys) x y before next = (before.0, AllZip-push R xs ys x y before.1 next)

-- one more pair, for the item at a place
pub AllZip-next : {A B : Type 0} (R : A → B → Type 0) (xs : List A) (ys : List B) (k : ℕ) (y : B) → k < length xs → AllZip R (take k xs) ys →
    IfSome (slice_get xs k) (λ x. R x y) → AllZip R (take (k + 1) xs) (ys ++ y ∷ [])
AllZip-next R [] ys k y within before next = absurd (omega arith)
AllZip-next {A} {B} R (x ∷ xs) ys k y within before next =
    let item : A = get_or (x ∷ xs) k x in
    let is : slice_get (x ∷ xs) k ≡ Some (get_or (x ∷ xs) k x) = slice_get-get_or (x ∷ xs) k x within in
    let P : Option A → Type 0 = λ o. IfSome o (λ z. R z y) in
    let Q : List A → Type 0 = λ l. AllZip R l (ys ++ y ∷ []) in
    subst Q (sym (take_more (x ∷ xs) k x within)) (AllZip-push R (take k (x ∷ xs)) ys (get_or (x ∷ xs) k x) y before (subst P is next))

-- what holds of each item holds of the one at a place
pub at_place : {X : Type 0} (P : X → Type 0) (xs : List X) (k : ℕ) → All P xs → ForSome (slice_get xs k) P
at_place P xs k all x is = subst P (get_or_from_slice_get xs k x x is) (all k x (slice_get_within xs k x is))

-- what holds of each item of two lists holds of each of both
pub AllByRecursion-append : {X : Type 0} (P : X → Type 0) (xs ys : List X) → AllByRecursion P xs → AllByRecursion P ys → AllByRecursion P (xs ++ ys)
AllByRecursion-append P [] ys one two = two
AllByRecursion-append P (x ∷ xs) ys one two = (one.0, AllByRecursion-append P xs ys one.1 two)
