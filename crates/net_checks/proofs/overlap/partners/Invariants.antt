use Rattle.std.proofs.Common.{◌≡◌, length}
use Rattle.net_checks.specs.Claims.{ArePartners}
use Rattle.net_checks.proofs.overlap.partners.Given as goal

abbrev pub invariant-loop-link : goal.invariant-loop-link
invariant-loop-link l = record {
  partners : ArePartners l.link-index l.link-items l.partners.items;
  long : length l.partners.items ≡ l.fn.faces;
}
