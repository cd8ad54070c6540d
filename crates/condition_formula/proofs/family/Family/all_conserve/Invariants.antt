use Rattle.std.proofs.Common.{ℕ, [], List}
use Rattle.std.specs.Prelude.{if◌then◌else◌, ◌==◌, ◌&&◌, not}
use Rattle.std.specs.List.{flat_map}
use Rattle.condition_formula.specs.declared.part.Part.{Part}
use Rattle.condition_formula.specs.Lists.{upto}
use Rattle.condition_formula.specs.Writing.{Adds, used_by}
use Rattle.condition_formula.specs.Reaching.{node_parts}
use Rattle.condition_formula.proofs.family.Family.all_conserve.Given as goal

abbrev pub invariant-loop-node : goal.invariant-loop-node
invariant-loop-node l =
    Adds l.fn.out l.out (flat_map (λ (n : ℕ). let ps : List (List Part) =
    if not (n == l.self.q.now.source) && not (n == l.self.q.now.target) then node_parts l.self.q.now (used_by l.self) n else [] in ps) (upto l.node))
