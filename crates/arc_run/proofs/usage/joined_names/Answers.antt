use Rattle.std.proofs.Common.{◌≡◌, ◌∙◌, ℕ, List, [], ◌∷◌, ◌++◌, map, refl, ap}
use Rattle.std.proofs.lemmas.Result.{IfOk-weaker}
use Rattle.std.specs.Prelude.{codes}
use Rattle.std.specs.List.{flat_map, join_by}
use Rattle.command_words.specs.Commands.{form_of_row}
use Rattle.command_words.specs.declared.forms.CommandForm.{CommandForm}
use Rattle.arc_run.specs.Words.{joined_names}
use Rattle.arc_run.proofs.usage.joined_names.Goals as goal

further : (bar : List ℕ) (rows : List CommandForm) → flat_map (λ name. bar ++ name.now) (map (λ row. row.name) rows) ≡ flat_map (λ form. bar ++ form.name) (map form_of_row rows)
further bar [] = refl
further bar (row ∷ rows) = ap (λ (rest : List ℕ). (bar ++ row.name.now) ++ rest) (further bar rows)

-- the names of rows, joined
joined : (rows : List CommandForm) → join_by (λ name. name.now) (codes "|") (map (λ row. row.name) rows) ≡ joined_names (map form_of_row rows)
joined [] = refl
joined (row ∷ rows) = ap (λ (rest : List ℕ). row.name.now ++ rest) (further (codes "|") rows)

pub returns : goal.returns
returns c =
    IfOk-weaker c.join.result _ _ (λ text is. is ∙ (ap (join_by (λ name. name.now) (codes "|")) (c.deref.ensures.value ∙ c.in_ok-names.ensures) ∙ joined c.args.forms.now)) c.join.ensures.ok
