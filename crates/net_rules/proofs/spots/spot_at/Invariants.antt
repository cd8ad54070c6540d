use Rattle.std.proofs.Common.{◌≡◌, drop}
use Rattle.std.specs.Prelude.{slice_get}
use Rattle.net_rules.specs.Sites.{sites}
use Rattle.net_rules.proofs.SpotSites.{sites_from}
use Rattle.net_rules.proofs.spots.spot_at.Given as goal

abbrev pub invariant-loop-router : goal.invariant-loop-router
invariant-loop-router l = slice_get (sites l.fn.configs) l.place ≡ slice_get (sites_from l.router (drop l.router l.config-items)) l.rest
