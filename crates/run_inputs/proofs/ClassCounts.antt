-- Counts of classes: more policies have no fewer, and none has more than all.
use Rattle.std.proofs.Common.{◌≡◌, ℕ, ◌+◌, ◌-◌, ◌^◌, ◌≤◌, inl, inr, Bool, true, false, List, [], ◌∷◌, ◌++◌, length, take, drop, refl, sym, ap, subst, ◌∙◌, arith}
use Rattle.std.proofs.Math.Nat.{min-le_left}
use Rattle.std.proofs.lemmas.Bool.{cases_lt}
use Rattle.std.proofs.lemmas.List.{take-append-drop, take-take, take_all, length-append}
use Rattle.std.proofs.lemmas.List.Concat.{flat_map-append}
use Rattle.std.proofs.lemmas.List.Sums.{fold-append}
use Rattle.std.specs.Prelude.{fold, if◌then◌else◌, zero, suc}
use Rattle.std.specs.List.{AllZip, flat_map, list_any}
use Rattle.net_model.specs.declared.policies.Class.{Class}
use Rattle.net_model.specs.declared.policies.Policy.{Policy}
use Rattle.net_model.specs.declared.rows.Network.{Network}
use Rattle.traffic_classes.specs.Classes.{AreClasses, told}
use Rattle.traffic_classes.specs.AllClasses.{with_class, is_same_class, each_once, HaveClasses}
use Rattle.traffic_classes.proofs.EachPolicy.{no_more}
use Rattle.traffic_classes.proofs.MakingUp.{one_list}
use Rattle.verdicts.specs.Judged.{HasFewClassesEach}
use Rattle.run_inputs.specs.Counts.{PoliciesHaveFewClasses, HasManyClasses}

-- one more class only lengthens the list
one_more : (classes : List Class) (class : Class) → length classes ≤ length (with_class classes class)
one_more classes class = go (list_any (is_same_class class) classes) refl
  where
    go : (t : Bool) → list_any (is_same_class class) classes ≡ t → length classes ≤ length (if t then classes else classes ++ class ∷ [])
    go true e = omega arith
    go false e = omega (arith, length-append classes (class ∷ []))

more : (known classes : List Class) → length known ≤ length (fold with_class known classes)
more known [] = omega arith
more known (class ∷ classes) = omega (arith, one_more known class, more (with_class known class) classes)

once_more : (xs ys : List Class) → length (each_once xs) ≤ length (each_once (xs ++ ys))
once_more xs ys = omega (arith, more (each_once xs) ys, ap length (fold-append with_class [] xs ys))

zip_take : {A B : Type 0} (R : A → B → Type 0) (n : ℕ) (xs : List A) (ys : List B) → AllZip R xs ys → AllZip R (take n xs) (take n ys)
zip_take R zero xs ys all = tt
zip_take R (suc n) [] [] all = tt
zip_take R (suc n) [] (y ∷ ys) all = absurd all
zip_take R (suc n) (x ∷ xs) [] all = absurd all
zip_take R (suc n) (x ∷ xs) (y ∷ ys) all = (all.0, zip_take R n xs ys all.1)

zip_one : (net : Network) (policies some : List Policy) (xs ys : List (List Class)) → AllZip (AreClasses net policies) some xs → AllZip (AreClasses net policies) some ys → xs ≡ ys
zip_one net policies [] [] [] one other = refl
zip_one net policies [] [] (y ∷ ys) one other = absurd other
zip_one net policies [] (x ∷ xs) ys one other = absurd one
zip_one net policies (p ∷ ps) [] ys one other = absurd one
zip_one net policies (p ∷ ps) (x ∷ xs) [] one other = absurd other
zip_one net policies (p ∷ ps) (x ∷ xs) (y ∷ ys) one other =
    ap (λ (z : List Class). z ∷ xs) (one_list net policies p x y one.0 other.0) ∙ ap (λ (zs : List (List Class)). y ∷ zs) (zip_one net policies ps xs ys one.1 other.1)

-- the first policies have at most as many classes as more of them
pub no_fewer : (net : Network) (policies : List Policy) (m n c d : ℕ) → m ≤ n → HaveClasses net policies (take m policies) c → HaveClasses net policies (take n policies) d → c ≤ d
no_fewer net policies m n c d below fewer many =
    let ks : List (List Class) = many.are.lists in
    let R = AreClasses net policies in
    let P : List Policy → Type 0 = λ ps. AllZip R ps (take m ks) in
    let front : AllZip R (take m policies) (take m ks) = subst P (take-take m n policies below) (zip_take R m (take n policies) ks many.are.are) in
    let same : fewer.are.lists ≡ take m ks = zip_one net policies (take m policies) fewer.are.lists (take m ks) fewer.are.are front in
    let join : List (List Class) → List Class = λ ls. flat_map (λ l. l) ls in
    let whole : join (take m ks) ++ join (drop m ks) ≡ join ks = sym (flat_map-append (λ l. l) (take m ks) (drop m ks)) ∙ ap join (take-append-drop m ks) in
    let first : length fewer.classes ≡ length (each_once (join (take m ks))) = ap length fewer.are.once ∙ ap (λ (ls : List (List Class)). length (each_once (join ls))) same in
    let last : length many.classes ≡ length (each_once (join (take m ks) ++ join (drop m ks))) = ap length many.are.once ∙ ap (λ (cs : List Class). length (each_once cs)) (sym whole) in
    omega (arith, first, last, once_more (join (take m ks)) (join (drop m ks)), fewer.counted, many.counted)

-- there are not both few and many classes
pub few_or_many : (net : Network) (policies : List Policy) (count : ℕ) → PoliciesHaveFewClasses net policies → HasManyClasses net policies count → ⊥
few_or_many net policies count few many =
    let P : List Policy → Type 0 = λ ps. HaveClasses net policies ps (told (length few.classes)) in
    let all : HaveClasses net policies (take (length policies) policies) (told (length few.classes)) =
    subst P (sym (take_all (length policies) policies (omega arith))) (record { classes = few.classes; are = few.are; counted = refl }) in
    let less : told (length few.classes) ≤ length few.classes = min-le_left (length few.classes) (2 ^ 64 - 1) in
    omega (arith, less, no_fewer net policies (many.first.place + 1) (length policies) count (told (length few.classes)) (omega (arith, many.first.within)) many.first.with_it all, few.few, many.many)

-- the policies up to the first with which there are many classes have one number of them
pub one_count : (net : Network) (policies : List Policy) (c d : ℕ) → HasManyClasses net policies c → HasManyClasses net policies d → c ≡ d
one_count net policies c d one other = elim (cases_lt one.first.place other.first.place) [
  | inl below ↦ absurd (omega
      (arith, no_fewer net policies (one.first.place + 1) other.first.place c other.first.few (omega (arith, below)) one.first.with_it other.first.before, other.first.before_few, one.many))
  | inr above ↦ elim (cases_lt other.first.place one.first.place) [
    | inl below ↦ absurd (omega
        (arith, no_fewer net policies (other.first.place + 1) one.first.place d one.first.few (omega (arith, below)) other.first.with_it one.first.before, one.first.before_few, other.many))
    | inr same ↦ omega (
      arith,
      no_fewer net policies (one.first.place + 1) (other.first.place + 1) c d (omega (arith, above, same)) one.first.with_it other.first.with_it,
      no_fewer net policies (other.first.place + 1) (one.first.place + 1) d c (omega (arith, above, same)) other.first.with_it one.first.with_it,
    )
  ]
]

-- if all classes together are few, those of each policy are
pub few_each : (net : Network) (policies : List Policy) → PoliciesHaveFewClasses net policies → HasFewClassesEach net policies
few_each net policies few policy one classes are = omega (arith, no_more net policies policy classes few.classes one are few.are, few.few)
