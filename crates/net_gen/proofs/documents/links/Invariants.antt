use Rattle.std.proofs.Common.{◌≡◌, length}
use Rattle.std.specs.Prelude.{map}
use Rattle.net_gen.specs.Plans.{numbers}
use Rattle.net_gen.specs.Generated.{link_text}
use Rattle.net_gen.proofs.documents.links.Given as goal

abbrev pub invariant-loop-place : goal.invariant-loop-place
invariant-loop-place l = record {
  links : l.links ≡ map (link_text l.routers) (numbers l.place);
  long : length l.links ≡ l.place;
}
