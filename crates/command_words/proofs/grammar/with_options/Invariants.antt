use Rattle.std.proofs.Common.{◌≡◌, drop, fold, map}
use Rattle.clap.specs.Simple.{app_of}
use Rattle.command_words.specs.Grammar.{with_option}
use Rattle.command_words.proofs.grammar.with_options.Given as goal

abbrev pub invariant-loop-choice : goal.invariant-loop-choice
invariant-loop-choice l = fold (with_option l.are_needed) (app_of l.initial.whole) (map (λ choice. choice.name.now) l.options) ≡ fold (with_option l.are_needed) (app_of l.whole)
    (map (λ choice. choice.name.now) (drop l.choice-index l.options))
