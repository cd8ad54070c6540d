use Rattle.std.proofs.Common.{◌≡◌, drop, fold, map}
use Rattle.clap.specs.Simple.{app_of}
use Rattle.command_words.specs.Grammar.{with_place}
use Rattle.command_words.proofs.grammar.with_places.Given as goal

abbrev pub invariant-loop-place : goal.invariant-loop-place
invariant-loop-place l = fold with_place (app_of l.initial.whole) (map (λ place. place.now) l.places) ≡ fold with_place (app_of l.whole) (map (λ place. place.now) (drop l.place-index l.places))
