-- The copies of changed files, one after another, and what is left once they are written.
use Rattle.std.proofs.Common.{◌≡◌, ℕ, ◌+◌, ◌<◌, ◌≤◌, Bool, true, false, cond, List, [], ◌∷◌, ◌++◌, length, take, get_or, refl, ◌∙◌, ap, arith, rules}
use Rattle.std.specs.Prelude.{bytes_eq}
use Rattle.std.proofs.lemmas.List.{take_more, length-take-le}
use Rattle.std.proofs.lemmas.Slice.Eq.{bytes_eq-Decides}
use Rattle.file_copies.specs.Outputs.{copy_name, copies, one_copy}

module _ (suffix : List ℕ) where
  first_then : (same : Bool) (pair : List ℕ × List ℕ) (xs ys zs : List (List ℕ × List ℕ)) → xs ≡ ys ++ zs → cond same xs (pair ∷ xs) ≡ cond same ys (pair ∷ ys) ++ zs
  first_then true pair xs ys zs e = e
  first_then false pair xs ys zs e = ap (λ (ps : List (List ℕ × List ℕ)). pair ∷ ps) e

  copies_push : (names olds news : List (List ℕ)) (name old new : List ℕ) → length olds ≡ length names → length news ≡ length names →
      copies suffix (names ++ name ∷ []) (olds ++ old ∷ []) (news ++ new ∷ []) ≡ copies suffix names olds news ++ one_copy suffix name old new
  copies_push [] [] [] name old new e f = refl
  copies_push [] [] (z ∷ news) name old new e f = absurd (omega (arith, f))
  copies_push [] (y ∷ olds) news name old new e f = absurd (omega (arith, e))
  copies_push (x ∷ names) [] news name old new e f = absurd (omega (arith, e))
  copies_push (x ∷ names) (y ∷ olds) [] name old new e f = absurd (omega (arith, f))
  copies_push (x ∷ names) (y ∷ olds) (z ∷ news) name old new e f =
      first_then (bytes_eq y z) (copy_name suffix x, z) (copies suffix (names ++ name ∷ []) (olds ++ old ∷ []) (news ++ new ∷ [])) (copies suffix names olds news) (one_copy suffix name old new)
      (copies_push names olds news name old new (omega (arith, e)) (omega (arith, f)))

-- one more file
module _ (suffix : List ℕ) (names olds news : List (List ℕ)) (at : ℕ) (name old new : List ℕ) (few : at < length names)
    (same_olds : length olds ≡ length names) (same_news : length news ≡ length names)
    (name_is : get_or names at name ≡ name) (old_is : get_or olds at old ≡ old) (new_is : get_or news at new ≡ new) where
  pub copies_more : copies suffix (take (at + 1) names) (take (at + 1) olds) (take (at + 1) news) ≡ copies suffix (take at names) (take at olds) (take at news) ++ one_copy suffix name old new
  copies_more =
      let one : take (at + 1) names ≡ take at names ++ name ∷ [] = take_more names at name few ∙ ap (λ (x : List ℕ). take at names ++ x ∷ []) name_is in
      let two : take (at + 1) olds ≡ take at olds ++ old ∷ [] = take_more olds at old (omega (arith, few, same_olds)) ∙ ap (λ (x : List ℕ). take at olds ++ x ∷ []) old_is in
      let three : take (at + 1) news ≡ take at news ++ new ∷ [] = take_more news at new (omega (arith, few, same_news)) ∙ ap (λ (x : List ℕ). take at news ++ x ∷ []) new_is in
      (λ i. copies suffix (one i) (two i) (three i))
      ∙ copies_push suffix (take at names) (take at olds) (take at news) name old new
      (omega (arith, length-take-le at olds (omega (arith, few, same_olds)), length-take-le at names (omega (arith, few))))
      (omega (arith, length-take-le at news (omega (arith, few, same_news)), length-take-le at names (omega (arith, few))))

-- at most one copy
pub one_few : (suffix name old new : List ℕ) → length (one_copy suffix name old new) ≤ 1
one_few suffix name old new = by (bytes_eq old new) (copy_name suffix name, new)
  where
    by : (b : Bool) (pair : List ℕ × List ℕ) → length (cond b [] (pair ∷ [])) ≤ 1
    by true pair = omega arith
    by false pair = omega arith

pub texts_same : (old new : List ℕ) → old ≡ new → bytes_eq old new ≡ true
texts_same old new e = search (rules, bytes_eq-Decides)

pub same_texts : (old new : List ℕ) → bytes_eq old new ≡ true → old ≡ new
same_texts old new e = search (rules, bytes_eq-Decides)
