use Rattle.std.proofs.Common.{◌≡◌, ℕ, Option, Some, List, ◌∙◌, ap, subst, ◌↔◌}
use Rattle.std.specs.Prelude.{Any}
use Rattle.arc_base.specs.declared.prefix.Prefix.{Prefix}
use Rattle.ios_words.specs.declared.commands.Command.{Command}
use Rattle.ios_config.specs.declared.settings.Given.{Given}
use Rattle.net_rules.specs.Settings.{lines_of, reference_of, last_said, says_passive}
use Rattle.net_rules.specs.Prefixes.{HasPrefix}
use Rattle.row_making.specs.Indexes.{told_prefix, covered_prefix}
use Rattle.row_making.proofs.IndexLines.{told_where}
use Rattle.row_making.proofs.process_index.index_process.Goals as goal

-- the prefixes are those that the lines give
abbrev Are : List (ℕ × ℕ) → (Command → Option Prefix) → Prefix → List (Given Command) → Type 0
Are keys prefix p lines = HasPrefix keys p ↔ Any (λ (g : Given Command). prefix g.value ≡ Some p) lines

pub returns-clause-index : goal.returns-clause-index
returns-clause-index c = record {
  reference = c.reference.ensures ∙ ap reference_of c.lines_of-lines.ensures;
  told = λ p.
      let are = subst (Are c.in_ok-prefixes.field-0.keys told_prefix p) c.lines_of-lines.ensures (c.in_ok-prefixes.ensures p) in
      let told = told_where (lines_of c.args.config.now) p in
      (λ has. told.0 (are.0 has), λ tells. are.1 (told.1 tells));
  covered = λ p. subst (Are c.in_ok-prefixes-2.field-0.keys covered_prefix p) c.lines_of-lines.ensures (c.in_ok-prefixes-2.ensures p);
  passive = λ name. c.in_ok-passive.ensures name ∙ ap (λ (lines : List (Given Command)). last_said (says_passive name) lines) c.lines_of-lines.ensures;
}
