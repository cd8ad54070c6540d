-- Router files that are read in order.
use Rattle.std.proofs.Common.{◌≡◌, ℕ, List, take, drop}
use Rattle.std.specs.Prelude.{map}
use Rattle.arc_outside.specs.Files.{Files}
use Rattle.run_files.specs.declared.limits.Limits.{Limits}
use Rattle.run_files.specs.Limits.{router_limit}
use Rattle.run_files.specs.Refusals.{bytes_at, first_refusal, routers_refusal}

-- what is known in the loop: the first refusal is that of the files from here on, and these are the contents before
pub record ReadSoFar (limits : Limits) (names contents : List (List ℕ)) (i room : ℕ) (files : Files) : Type 0 where
  pub rest : routers_refusal limits files names ≡ first_refusal (router_limit limits) room files (drop i names)
  pub read : contents ≡ map (bytes_at files) (take i names)
