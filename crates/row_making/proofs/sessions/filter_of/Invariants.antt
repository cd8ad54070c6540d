use Rattle.std.proofs.Common.{◌≡◌, ℕ, List, take}
use Rattle.std.specs.Prelude.{option_map}
use denote.Ref.{Bor}
use Rattle.net_rules.specs.Settings.{last_said}
use Rattle.net_rules.specs.Neighbors.{says_filter}
use Rattle.row_making.proofs.sessions.filter_of.Given as goal

abbrev pub invariant-loop-line : goal.invariant-loop-line
invariant-loop-line l = option_map (λ (name : Bor (List ℕ)). name.now) l.last ≡ last_said (says_filter l.peer) (take l.line-index l.lines)
