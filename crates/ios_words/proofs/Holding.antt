-- The prefix of a length that holds an address.
use Rattle.std.proofs.Common.{◌≡◌, ℕ, ◌-◌, ◌/◌, ◌%◌, ◌^◌, ◌≤◌, arith, sym, subst}
use Rattle.std.proofs.Math.Nat.{mul-mod_left}
use Rattle.arc_base.specs.declared.prefix.Prefix.{Prefix}
use Rattle.ios_words.specs.Prefixes.{cleared, holding}
use Rattle.arc_base.proofs.SamePrefix.{same_prefix}

-- the bits past the length are clear
pub cleared-clear : (addr len n : ℕ) → len ≤ 32 → n ≡ cleared (32 - len) addr → n % 2 ^ (32 - len) ≡ 0
cleared-clear addr len n few is = subst (λ m. m % 2 ^ (32 - len) ≡ 0) (sym is) (mul-mod_left (addr % 2 ^ 32 / 2 ^ (32 - len)) (2 ^ (32 - len)))

-- a prefix of these parts is the one that holds the address
pub is-holding : (p : Prefix) (addr len : ℕ) → len ≤ 32 → p.addr ≡ cleared (32 - len) addr → p.len ≡ len → p ≡ holding addr len
unfolding holding
is-holding p addr len few at-addr at-len = same_prefix p (holding addr len) at-addr (omega arith)
