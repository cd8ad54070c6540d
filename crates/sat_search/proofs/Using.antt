-- Which lemmas hints use, one after another.
use Rattle.std.proofs.Common.{◌≡◌, ℕ, ◌+◌, ◌<◌, ◌||◌, Bool, true, false, List, [], ◌∷◌, ◌++◌, length, take, drop, get_or, refl, ap, sym, ◌∙◌, arith}
use Rattle.std.specs.List.{list_any}
use Rattle.std.proofs.lemmas.List.{append-nil, drop_all, take_all, take_more}
use Rattle.std.proofs.lemmas.List.Folds.{list_any-append}
use Rattle.sat_search.specs.Costs.{AreSetToo}

or_nothing : (a : Bool) → (a || false) ≡ a
or_nothing true = refl
or_nothing false = refl

or_or : (a b c : Bool) → ((a || b) || c) ≡ (a || (b || c))
or_or true b c = refl
or_or false b c = refl

-- one of the first elements or the next one passes a test
any_next : {X : Type 0} (test : X → Bool) (xs : List X) (i : ℕ) (d : X) → i < length xs → list_any test (take (i + 1) xs) ≡ (list_any test (take i xs) || test (get_or xs i d))
any_next test xs i d low =
    ap (list_any test) (take_more xs i d low) ∙ list_any-append test (take i xs) (get_or xs i d ∷ []) ∙ ap (λ (b : Bool). list_any test (take i xs) || b) (or_nothing (test (get_or xs i d)))

-- what is set by some elements, and by one more
pub step_next : {X : Type 0} (test : ℕ → X → Bool) (xs : List X) (i : ℕ) (d x : X) (place id : ℕ) (mid new : List Bool) → i < length xs → x ≡ get_or xs i d →
    get_or mid place true ≡ list_any (test id) (take i xs) → get_or new place true ≡ (get_or mid place true || test id x) → get_or new place true ≡ list_any (test id) (take (i + 1) xs)
step_next test xs i d x place id mid new low is before after =
    after ∙ ap (λ (b : Bool). b || test id x) before ∙ ap (λ y. list_any (test id) (take i xs) || test id y) is ∙ sym (any_next (test id) xs i d low)

pub set_next : {X : Type 0} (ids : List ℕ) (test : ℕ → X → Bool) (xs : List X) (i : ℕ) (d x : X) (old mid new : List Bool) → i < length xs → x ≡ get_or xs i d →
    length mid ≡ length old → AreSetToo ids (λ id. list_any (test id) (take i xs)) old mid → AreSetToo ids (λ id. test id x) mid new →
    AreSetToo ids (λ id. list_any (test id) (take (i + 1) xs)) old new
set_next ids test xs i d x old mid new low is size before after place id below at =
    after place id (omega (arith, size, below)) at
    ∙ ap (λ (b : Bool). b || test id x) (before place id below at)
    ∙ or_or (get_or old place true) (list_any (test id) (take i xs)) (test id x)
    ∙ ap (λ y. get_or old place true || (list_any (test id) (take i xs) || test id y)) is
    ∙ ap (λ (b : Bool). get_or old place true || b) (sym (any_next (test id) xs i d low))

-- a whole list that was written
pub written : (xs ys : List Bool) (n : ℕ) → length xs ≡ n → length ys ≡ n → take n (xs ++ drop (length xs) ys) ≡ xs
written xs ys n size was =
    ap (λ (zs : List Bool). take n (xs ++ zs)) (drop_all (length xs) ys (omega (arith, size, was))) ∙ ap (take n) (append-nil xs) ∙ take_all n xs (omega (arith, size))
