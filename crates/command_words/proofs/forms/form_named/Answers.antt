use Rattle.std.proofs.Common.{◌≡◌, ◌∙◌, ℕ, Bool, true, false, List, [], ◌∷◌, find, map, Option, Some, None, MatchOption, option_map, refl, sym, ap, if◌then◌else◌}
use Rattle.std.specs.Str.{bytes_eq}
use Rattle.command_words.specs.Commands.{Form, form_named, form_of_row}
use Rattle.command_words.specs.declared.forms.CommandForm.{CommandForm}
use Rattle.command_words.proofs.forms.form_named.Goals as goal

-- the row that is found is that of the form that is found
found : (name : List ℕ) (rows : List CommandForm)
    → option_map form_of_row (find (λ row. bytes_eq row.name.now name) rows) ≡ find (λ form. bytes_eq form.name name) (map form_of_row rows)
found name [] = refl
found name (row ∷ rows) = go (bytes_eq row.name.now name) (found name rows)
  where
    go : (t : Bool) → option_map form_of_row (find (λ row. bytes_eq row.name.now name) rows) ≡ find (λ form. bytes_eq form.name name) (map form_of_row rows)
        → option_map form_of_row
        (if t then Some row else find (λ row. bytes_eq row.name.now name) rows) ≡ (if t then Some (form_of_row row) else find (λ form. bytes_eq form.name name) (map form_of_row rows))
    go true rest = refl
    go false rest = rest

either : (r : Option CommandForm) (o : Option Form) → option_map form_of_row r ≡ o → MatchOption r (o ≡ None) (λ row. o ≡ Some (form_of_row row))
either None o e = sym e
either (Some row) o e = sym e

pub returns : goal.returns
returns c =
    either c.copied.result (form_named c.args.name.now)
    (ap (option_map form_of_row) (c.copied.ensures ∙ c.named_among.ensures)
    ∙ (found c.args.name.now c.command_forms.result.now ∙ ap (find (λ form. bytes_eq form.name c.args.name.now)) c.command_forms.ensures))
