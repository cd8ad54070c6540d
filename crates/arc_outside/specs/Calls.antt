-- Calls that are numbered from 1; those whose number is in a list fail.
use Rattle.std.specs.Prelude.{◌≡◌, ◌↔◌, ℕ, ◌+◌, ◌-◌, ◌^◌, List, Contains, min, Result, IsErrOf}
use Rattle.arc_outside.specs.declared.fault.Fault.{Fault}
use Rattle.arc_outside.specs.declared.fault.Fault.TheVariants.{Failed}

-- the number of the next call, which is 2^64 - 1 at most
abbrev pub next_call : ℕ → ℕ
next_call calls = min (calls + 1) (2 ^ 64 - 1)

-- the call fails exactly where its number is in the list; it is counted, and the list stays
pub record FailsAsListed {T : Type 0} (fail_before fail_after : List ℕ)
    (calls_before calls_after : ℕ) (result : Result T Fault) : Type 0 where
  pub failing : IsErrOf result Failed ↔ Contains fail_before (next_call calls_before)
  pub calls : calls_after ≡ next_call calls_before
  pub fail : fail_after ≡ fail_before
