use Rattle.std.proofs.Common.{◌≡◌, ℕ, ◌+◌, ◌<◌, ◌==◌, false, length, get_or, take}
use Rattle.std.specs.List.{list_any}
use Rattle.verify_commands.proofs.tracing.down_flags.Given as goal

-- each link whose number came so far is down, and no other
abbrev pub invariant-loop-number : goal.invariant-loop-number
invariant-loop-number l = record {
  whole : length l.flags.items ≡ l.links;
  each : (place : ℕ) → place < l.links → get_or l.flags.items place false ≡ list_any (λ n. n == place + 1) (take l.number-index l.numbers);
}
