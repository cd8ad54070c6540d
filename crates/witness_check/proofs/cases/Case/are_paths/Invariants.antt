use Rattle.std.proofs.Common.{ℕ, ◌<◌, get_or}
use Rattle.net_model.specs.Witnesses.{IsPath}
use Rattle.net_model.specs.declared.verdicts.LinkPath.{LinkPath}
use Rattle.witness_check.specs.Cases.{ends_in}
use Rattle.witness_check.proofs.cases.Case.are_paths.Given as goal

abbrev pub invariant-loop-path : goal.invariant-loop-path
invariant-loop-path l = (k : ℕ) → k < l.path-index → (d : LinkPath) → IsPath l.self.net.now (ends_in l.self) (get_or l.paths k d)
