-- The numbers of a line are below 2 ^ 63.
use Rattle.std.proofs.Common.{◌≡◌, ℕ, suc, zero, ◌<◌, ◌≤◌, ◌-◌, ◌^◌, ℤ, pos, unsigned_abs, Bool, true, false, List}
use Rattle.std.proofs.Common.{[], ◌∷◌, refl, sym, arith, All, Option, Some, None, ◌==◌, cond, option_map, option_and_then, ◌&&◌, nat_le}
use Rattle.std.specs.List.{cons_option}
use Rattle.std.specs.Str.{all_ascii_digits}
use Rattle.std.proofs.lemmas.Bool.{and_parts, leb-true}
use Rattle.std.proofs.lemmas.Option.{cond_some, none-some, same_Some, option_and_then_some}
use Rattle.std.proofs.lemmas.List.Elements.{All-cons, All-nil, All-same}
use Rattle.arc_base.specs.WordNumbers.{natural, is_natural, number, minus, value_after}
use Rattle.arc_base.specs.Words.{is_filled}
use Rattle.proof_log.specs.Reading.{log_number, numbers}

natural_within : (limit : ℕ) (word : List ℕ) (n : ℕ) → natural limit word ≡ Some n → n ≤ limit
natural_within limit word n e =
    let parts = cond_some (is_natural limit word) (value_after 0 word) n e in
    let digits = and_parts (is_filled word) (all_ascii_digits word && nat_le (value_after 0 word) limit) parts.0 in
    let small = leb-true (value_after 0 word) limit (and_parts (all_ascii_digits word) (nat_le (value_after 0 word) limit) digits.1).1 in
    omega (arith, parts.1, small)

minus_within : (limit n : ℕ) (z : ℤ) → n ≤ limit → minus n ≡ Some z → unsigned_abs z ≤ limit
minus_within limit zero z h e = absurd (none-some z e)
minus_within limit (suc n) z h e = rw (sym (same_Some _ _ e)) h

pos_within : (limit : ℕ) (o : Option ℕ) (z : ℤ) → ((n : ℕ) → o ≡ Some n → n ≤ limit) → option_map pos o ≡ Some z → unsigned_abs z ≤ limit
pos_within limit None z h e = absurd (none-some z e)
pos_within limit (Some n) z h e = rw (sym (same_Some _ _ e)) (h n refl)

signed_within : (limit : ℕ) (b : ℕ) (bytes : List ℕ) (z : ℤ) (test : Bool) →
    cond test (option_and_then minus (natural limit bytes)) (option_map pos (natural limit (b ∷ bytes))) ≡ Some z → unsigned_abs z ≤ limit
signed_within limit b bytes z true e =
    option_and_then_some minus (natural limit bytes) z e (λ n is then_is. minus_within limit n z (natural_within limit bytes n is) then_is)
signed_within limit b bytes z false e = pos_within limit (natural limit (b ∷ bytes)) z (natural_within limit (b ∷ bytes)) e

number_within : (limit : ℕ) (word : List ℕ) (z : ℤ) → number limit word ≡ Some z → unsigned_abs z ≤ limit
number_within limit [] z e = absurd (none-some z e)
number_within limit (b ∷ bytes) z e = signed_within limit b bytes z (b == 45) e

abbrev IsSmall : ℤ → Type 0
IsSmall z = unsigned_abs z < 2 ^ 63

cons_within : (o : Option ℤ) (zs : List ℤ) → ((z : ℤ) → o ≡ Some z → IsSmall z) → All IsSmall zs → All IsSmall (cons_option o zs)
cons_within None zs h rest = rest
cons_within (Some z) zs h rest = All-cons IsSmall z zs (h z refl) rest

pub numbers_within : (ws : List (List ℕ)) → All IsSmall (numbers ws)
numbers_within [] = All-nil IsSmall
numbers_within (w ∷ ws) = cons_within (log_number w) (numbers ws) (λ z e. let small : unsigned_abs z ≤ 2 ^ 63 - 1 = number_within (2 ^ 63 - 1) w z e in omega arith) (numbers_within ws)

pub same_within : (zs : List ℤ) (ws : List (List ℕ)) → zs ≡ numbers ws → All IsSmall zs
same_within zs ws e = All-same IsSmall zs (numbers ws) e (numbers_within ws)
