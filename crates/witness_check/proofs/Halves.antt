-- The two halves of a prefix.
use Rattle.std.proofs.Common.{◌≡◌, ℕ, ◌+◌, ◌-◌, ◌*◌, ◌/◌, ◌%◌, ◌^◌, ◌<◌, ◌≤◌, ◌⊎◌, inl, inr, sym, ◌∙◌, ap, subst, arith}
use Rattle.std.proofs.Math.Pow.{pow_pos}
use Rattle.std.proofs.Math.Nat.{div-div-eq-div-mul}
use Rattle.std.proofs.lemmas.Nat.{pow-add, div-add-mod', mod-mul-add, div-mul-add, mul-le, div_below, mod_below}
use Rattle.std.proofs.lemmas.Bool.{eqb-true, eq-eqb, cases_eq}
use Rattle.arc_base.specs.declared.prefix.Prefix.{Prefix}
use Rattle.witness_check.specs.Boxes.{AreHalves}

-- what the double divides is a number of doubles
doubles : (a m : ℕ) → a % (2 * m) ≡ 0 → a ≡ a / (2 * m) * (2 * m)
doubles a m h = omega (arith, div-add-mod' a (2 * m), h)

low_clear : (a m : ℕ) → 0 < m → a % (2 * m) ≡ 0 → a % m ≡ 0
low_clear a m pos h =
    let e : a ≡ (2 * (a / (2 * m))) * m + 0 = omega (arith, doubles a m h) in
    ap (λ x. x % m) e ∙ mod-mul-add (2 * (a / (2 * m))) m 0 pos

high_clear : (a m : ℕ) → 0 < m → a % (2 * m) ≡ 0 → (a + m) % m ≡ 0
high_clear a m pos h =
    let e : a + m ≡ (2 * (a / (2 * m)) + 1) * m + 0 = omega (arith, doubles a m h) in
    ap (λ x. x % m) e ∙ mod-mul-add (2 * (a / (2 * m)) + 1) m 0 pos

-- the numbers of blocks in the low and the high half
low_block : (a m : ℕ) → 0 < m → a % (2 * m) ≡ 0 → a / m ≡ 2 * (a / (2 * m))
low_block a m pos h =
    let e : a ≡ (2 * (a / (2 * m))) * m + 0 = omega (arith, doubles a m h) in
    ap (λ x. x / m) e ∙ div-mul-add (2 * (a / (2 * m))) m 0 pos

high_block : (a m : ℕ) → 0 < m → a % (2 * m) ≡ 0 → (a + m) / m ≡ 2 * (a / (2 * m)) + 1
high_block a m pos h =
    let e : a + m ≡ (2 * (a / (2 * m)) + 1) * m + 0 = omega (arith, doubles a m h) in
    ap (λ x. x / m) e ∙ div-mul-add (2 * (a / (2 * m)) + 1) m 0 pos

-- a block of the double size is made of two blocks
half_block : (x m : ℕ) → x / (2 * m) ≡ x / m / 2
half_block x m = ap (λ n. x / n) (let e : 2 * m ≡ m * 2 = omega arith in e) ∙ sym (div-div-eq-div-mul x m 2)

fits_below : (a m n : ℕ) → 0 < m → a % (2 * m) ≡ 0 → a < n * (2 * m) → a + m < n * (2 * m)
fits_below a m n pos h less =
    let c : a / (2 * m) < n = div_below a (2 * m) n (omega arith) less in
    let above : (a / (2 * m) + 1) * (2 * m) ≤ n * (2 * m) = mul-le (a / (2 * m) + 1) (2 * m) n (2 * m) (omega (arith, c)) (omega arith) in
    omega (arith, above, doubles a m h)

-- the power at the length of a half
double_power : (l : ℕ) → l < 32 → 2 ^ (32 - l) ≡ 2 * 2 ^ (32 - (l + 1))
double_power l h =
    let e : 32 - l ≡ 1 + (32 - (l + 1)) = omega arith in
    ap (λ x. 2 ^ x) e ∙ pow-add 2 1 (32 - (l + 1))

whole_power : (l : ℕ) → l ≤ 32 → 2 ^ 32 ≡ 2 ^ l * 2 ^ (32 - l)
whole_power l h =
    let e : 32 ≡ l + (32 - l) = omega arith in
    ap (λ x. 2 ^ x) e ∙ pow-add 2 l (32 - l)

pub low_is_clear : (a l : ℕ) → l < 32 → a % 2 ^ (32 - l) ≡ 0 → a % 2 ^ (32 - (l + 1)) ≡ 0
low_is_clear a l h clear = low_clear a (2 ^ (32 - (l + 1))) (pow_pos (32 - (l + 1))) (ap (λ x. a % x) (sym (double_power l h)) ∙ clear)

pub high_is_clear : (a l : ℕ) → l < 32 → a % 2 ^ (32 - l) ≡ 0 → (a + 2 ^ (32 - (l + 1))) % 2 ^ (32 - (l + 1)) ≡ 0
high_is_clear a l h clear = high_clear a (2 ^ (32 - (l + 1))) (pow_pos (32 - (l + 1))) (ap (λ x. a % x) (sym (double_power l h)) ∙ clear)

pub high_in_range : (a l : ℕ) → l < 32 → a < 2 ^ 32 → a % 2 ^ (32 - l) ≡ 0 → a + 2 ^ (32 - (l + 1)) < 2 ^ 32
high_in_range a l h less clear =
    let m : 2 ^ 32 ≡ 2 ^ l * (2 * 2 ^ (32 - (l + 1))) = whole_power l (omega arith) ∙ ap (λ x. 2 ^ l * x) (double_power l h) in
    let P : ℕ → Type 0 = λ n. a + 2 ^ (32 - (l + 1)) < n in
    let Q : ℕ → Type 0 = λ n. a < n in
    subst P (sym m) (fits_below a (2 ^ (32 - (l + 1))) (2 ^ l) (pow_pos (32 - (l + 1))) (ap (λ x. a % x) (sym (double_power l h)) ∙ clear) (subst Q m less))

-- the number of a block is that of one of the two halves
odd_or_even : (x c : ℕ) → x / 2 ≡ c → (x ≡ 2 * c) ⊎ (x ≡ 2 * c + 1)
odd_or_even x c h =
    elim (cases_eq x (2 * c)) [
      | inl e ↦ inl e
      | inr n ↦ inr (omega (arith, div-add-mod' x 2, mod_below x 2 (omega arith), h, n))
    ]

even_half : (c : ℕ) → 2 * c / 2 ≡ c
even_half c = let e : 2 * c ≡ c * 2 + 0 = omega arith in ap (λ x. x / 2) e ∙ div-mul-add c 2 0 (omega arith)

odd_half : (c : ℕ) → (2 * c + 1) / 2 ≡ c
odd_half c = let e : 2 * c + 1 ≡ c * 2 + 1 = omega arith in ap (λ x. x / 2) e ∙ div-mul-add c 2 1 (omega arith)

-- an address of the whole is in one of the halves
in_a_half : (x a m : ℕ) → 0 < m → a % (2 * m) ≡ 0 → x / (2 * m) ≡ a / (2 * m) → (x / m ≡ a / m) ⊎ (x / m ≡ (a + m) / m)
in_a_half x a m pos clear same =
    elim (odd_or_even (x / m) (a / (2 * m)) (sym (half_block x m) ∙ same)) [
      | inl e ↦ inl (e ∙ sym (low_block a m pos clear))
      | inr e ↦ inr (e ∙ sym (high_block a m pos clear))
    ]

low_in_whole : (x a m : ℕ) → 0 < m → a % (2 * m) ≡ 0 → x / m ≡ a / m → x / (2 * m) ≡ a / (2 * m)
low_in_whole x a m pos clear same = half_block x m ∙ ap (λ n. n / 2) (same ∙ low_block a m pos clear) ∙ even_half (a / (2 * m))

high_in_whole : (x a m : ℕ) → 0 < m → a % (2 * m) ≡ 0 → x / m ≡ (a + m) / m → x / (2 * m) ≡ a / (2 * m)
high_in_whole x a m pos clear same = half_block x m ∙ ap (λ n. n / 2) (same ∙ high_block a m pos clear) ∙ odd_half (a / (2 * m))

pub halves_of : (whole low high : Prefix) → whole.len < 32 → low.len ≡ whole.len + 1 → high.len ≡ whole.len + 1 →
    low.addr ≡ whole.addr → high.addr ≡ whole.addr + 2 ^ (32 - (whole.len + 1)) → AreHalves whole low high
halves_of whole low high h ll hl la ha =
    let m : ℕ = 2 ^ (32 - (whole.len + 1)) in
    let dp : 2 ^ (32 - whole.len) ≡ 2 * 2 ^ (32 - (whole.len + 1)) = double_power whole.len h in
    let clear : whole.addr % (2 * 2 ^ (32 - (whole.len + 1))) ≡ 0 = ap (λ x. whole.addr % x) (sym dp) ∙ whole.clear in
    let pos : 0 < 2 ^ (32 - (whole.len + 1)) = pow_pos (32 - (whole.len + 1)) in
    let lm : 2 ^ (32 - low.len) ≡ 2 ^ (32 - (whole.len + 1)) = ap (λ n. 2 ^ (32 - n)) ll in
    let hm : 2 ^ (32 - high.len) ≡ 2 ^ (32 - (whole.len + 1)) = ap (λ n. 2 ^ (32 - n)) hl in (
      λ x at. elim (in_a_half x whole.addr (2 ^ (32 - (whole.len + 1))) pos clear (ap (λ n. x / n) (sym dp) ∙ eqb-true _ _ at ∙ ap (λ n. whole.addr / n) dp)) [
        | inl e ↦ inl (eq-eqb _ _ (ap (λ n. x / n) lm ∙ e ∙ ap (λ b. b / 2 ^ (32 - (whole.len + 1))) (sym la) ∙ ap (λ n. low.addr / n) (sym lm)))
        | inr e ↦ inr (eq-eqb _ _ (ap (λ n. x / n) hm ∙ e ∙ ap (λ b. b / 2 ^ (32 - (whole.len + 1))) (sym ha) ∙ ap (λ n. high.addr / n) (sym hm)))
      ],
      λ x at. eq-eqb _ _ (ap (λ n. x / n) dp ∙ low_in_whole x whole.addr (2 ^ (32 - (whole.len + 1))) pos clear
          (ap (λ n. x / n) (sym lm) ∙ eqb-true _ _ at ∙ ap (λ n. low.addr / n) lm ∙ ap (λ b. b / 2 ^ (32 - (whole.len + 1))) la) ∙ ap (λ n. whole.addr / n) (sym dp)),
      λ x at. eq-eqb _ _ (ap (λ n. x / n) dp ∙ high_in_whole x whole.addr (2 ^ (32 - (whole.len + 1))) pos clear
          (ap (λ n. x / n) (sym hm) ∙ eqb-true _ _ at ∙ ap (λ n. high.addr / n) hm ∙ ap (λ b. b / 2 ^ (32 - (whole.len + 1))) ha) ∙ ap (λ n. whole.addr / n) (sym dp)),
    )
