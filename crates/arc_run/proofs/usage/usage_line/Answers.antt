use Rattle.std.proofs.Common.{◌∙◌, ℕ, List, ◌++◌, ap}
use Rattle.std.specs.Prelude.{codes}
use Rattle.arc_run.specs.Words.{joined_names, usage}
use Rattle.arc_run.proofs.usage.usage_line.Goals as goal

pub returns : goal.returns
unfolding usage
returns c =
    c.in_ok-extend_from_slice-2.ensures.items
    ∙ ap (λ (front : List ℕ). front ++ codes "\n") (c.in_ok-extend_from_slice.ensures.items
    ∙ (ap (λ (front : List ℕ). front ++ c.as_bytes.result.now) c.in_ok-line.ensures.items
    ∙ ap (λ (names : List ℕ). codes "usage: arcv " ++ names) (c.as_bytes.ensures.value ∙ (c.in_ok-names.ensures ∙ ap joined_names c.command_forms.ensures))))
