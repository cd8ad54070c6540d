use Rattle.std.proofs.Common.{◌≡◌, ◌∙◌, List, ℕ, Option, Some, None, MatchOption, option_map, sym, Bor}
use Rattle.clap.specs.Words.{first_of, found_of, rows_of}
use Rattle.clap.proofs.WalkLemmas.{first_value-rows}
use Rattle.command_words.proofs.matched.value.Goals as goal

either : (r : Option (Bor (List ℕ))) (o : Option (List ℕ)) → option_map (λ s. s.now) r ≡ o → MatchOption r (o ≡ None) (λ text. o ≡ Some text.now)
either None o e = sym e
either (Some text) o e = sym e

pub returns : goal.returns
returns c = either c.get_str.result (first_of c.args.name.now (rows_of (found_of c.args.found.now))) (c.get_str.ensures ∙ first_value-rows (found_of c.args.found.now) c.args.name.now)
