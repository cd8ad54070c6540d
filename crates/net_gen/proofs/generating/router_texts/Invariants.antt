use Rattle.std.proofs.Common.{◌≡◌, length}
use Rattle.std.specs.Prelude.{map}
use Rattle.net_gen.specs.Plans.{numbers}
use Rattle.net_gen.specs.RouterFiles.{router_lines, text_of}
use Rattle.net_gen.proofs.generating.router_texts.Given as goal

abbrev pub invariant-loop-place : goal.invariant-loop-place
invariant-loop-place l = record {
  texts : l.texts ≡ map (λ router. text_of (router_lines l.routers router)) (numbers l.place);
  long : length l.texts ≡ l.place;
}
