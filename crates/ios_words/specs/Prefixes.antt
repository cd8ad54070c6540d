-- The prefix of a length that holds an address.
use Rattle.std.specs.Prelude.{◌≡◌, ℕ, ◌-◌, ◌*◌, ◌/◌, ◌%◌, ◌^◌, ◌<◌, ◌≤◌}
use Rattle.std.proofs.Common.{arith, subst}
use Rattle.std.proofs.Math.Nat.{mul-mod_left, div-mul-le_self}
use Rattle.arc_base.specs.declared.prefix.Prefix.{Prefix}

-- the address with its last `rest` bits cleared
abbrev pub cleared : ℕ → ℕ → ℕ
cleared rest addr = addr % 2 ^ 32 / 2 ^ rest * 2 ^ rest

pub small : (rest addr : ℕ) → cleared rest addr < 2 ^ 32
small rest addr = let low = div-mul-le_self (addr % 2 ^ 32) (2 ^ rest) in omega arith

pub clear : (rest addr : ℕ) → rest ≤ 32 → cleared rest addr % 2 ^ (32 - (32 - rest)) ≡ 0
clear rest addr few =
    let same : rest ≡ 32 - (32 - rest) = omega arith in
    subst (λ k. cleared rest addr % 2 ^ k ≡ 0) same
    (mul-mod_left (addr % 2 ^ 32 / 2 ^ rest) (2 ^ rest))

-- the prefix of this length, at most 32, that holds the address
unfoldable pub holding : ℕ → ℕ → Prefix
holding addr len = record {
  addr = cleared (32 - len) addr;
  len = 32 - (32 - len);
  in_range = small (32 - len) addr;
  length = omega arith;
  clear = clear (32 - len) addr (omega arith);
}

-- the prefix of all addresses
abbrev pub whole : Prefix
whole = holding 0 0
