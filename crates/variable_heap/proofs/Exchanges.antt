-- Two places that exchange what stands there.
use Rattle.std.proofs.Common.{◌≡◌, ◌≢◌, ℕ, ◌<◌, List, length, get_or, set, sym, ap, ◌∙◌, arith}
use Rattle.std.proofs.lemmas.List.{length-set, get_or-set_same, get_or-set_other}

-- the second function has at each of the two places what the first one has at the other
pub record IsExchange (f g : ℕ → ℕ) (i j : ℕ) : Type 0 where
  pub low : g i ≡ f j
  pub high : g j ≡ f i
  pub rest : (k : ℕ) → k ≢ i → k ≢ j → g k ≡ f k

-- a variable moves from one place to another, whose variable moves to the first
pub moved : (xs : List ℕ) (i j v : ℕ) → i < length xs → j < length xs → j ≢ i → IsExchange (λ k. get_or (set xs i v) k 0) (λ k. get_or (set (set xs i (get_or xs j 0)) j v) k 0) i j
moved xs i j v i_in j_in apart =
    let other : ℕ = get_or xs j 0 in
    let size : length (set xs i other) ≡ length xs = length-set xs i other in
    record {
      low = get_or-set_other (set xs i other) j i v 0 (λ e. apart (sym e)) ∙ get_or-set_same xs i other 0 i_in ∙ sym (get_or-set_other xs i j v 0 apart);
      high = get_or-set_same (set xs i other) j v 0 (omega arith) ∙ sym (get_or-set_same xs i v 0 i_in);
      rest = λ k from_i from_j. get_or-set_other (set xs i other) j k v 0 from_j ∙ get_or-set_other xs i k other 0 from_i ∙ sym (get_or-set_other xs i k v 0 from_i);
    }

-- so do the values of a function at what stands there
pub valued : (h f g : ℕ → ℕ) (i j : ℕ) → IsExchange f g i j → IsExchange (λ k. h (f k)) (λ k. h (g k)) i j
valued h f g i j e = record {
  low = ap h e.low;
  high = ap h e.high;
  rest = λ k from_i from_j. ap h (e.rest k from_i from_j);
}
