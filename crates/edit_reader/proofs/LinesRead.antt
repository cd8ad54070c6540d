-- The lines of a text that are read so far.
use Rattle.std.proofs.Common.{◌≡◌, ℕ, zero, suc, ◌+◌, ◌<◌, List, [], ◌∷◌, ◌++◌, length, get_or, take, drop, refl, sym, ◌∙◌, ap, arith}

-- one more item is taken, and `n` are dropped
pub record MovesOn {X : Type 0} (xs : List X) (n : ℕ) (x : X) (rest : List X) : Type 0 where
  pub within : n < length xs
  pub taken : take (n + 1) xs ≡ take n xs ++ x ∷ []
  pub dropped : drop (n + 1) xs ≡ rest

pub moved : {X : Type 0} (xs : List X) (n : ℕ) (x : X) (rest : List X) → drop n xs ≡ x ∷ rest → MovesOn xs n x rest
moved [] zero x rest e = absurd (cc)
moved [] (suc n) x rest e = absurd (cc)
moved (y ∷ ys) zero x rest e = record {
  within = omega arith;
  taken = ap (λ (z : _). z ∷ []) (ap (λ (zs : List _). get_or zs 0 y) e);
  dropped = ap (drop 1) e;
}
moved (y ∷ ys) (suc n) x rest e =
    let next : MovesOn ys n x rest = moved ys n x rest e in
    let number : suc n + 1 ≡ suc (n + 1) = omega arith in
    record {
      within = omega (arith, next.within);
      taken = ap (λ (k : ℕ). take k (y ∷ ys)) number ∙ ap (λ (zs : List _). y ∷ zs) next.taken;
      dropped = ap (λ (k : ℕ). drop k (y ∷ ys)) number ∙ next.dropped;
    }

pub all_taken : {X : Type 0} (xs : List X) (n : ℕ) → drop n xs ≡ [] → take n xs ≡ xs
all_taken [] zero e = refl
all_taken [] (suc n) e = refl
all_taken (x ∷ xs) zero e = sym e
all_taken (x ∷ xs) (suc n) e = ap (λ (ys : List _). x ∷ ys) (all_taken xs n e)
