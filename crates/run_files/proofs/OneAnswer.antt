-- What two answers have in common, and that a file is not both read and refused.
use Rattle.std.proofs.Common.{◌≡◌, ◌∙◌, ℕ, List, refl, ap}
use Rattle.std.specs.Option.{option_or}
use Rattle.std.specs.Prelude.{Option, Some, None}
use Rattle.run_files.specs.declared.outcome.Done.{Done}
use Rattle.run_files.specs.declared.outcome.FileRefusal.{FileRefusal}

pub refused_none : (o : Option FileRefusal) (r : FileRefusal) → o ≡ None → o ≡ Some r → ⊥
refused_none o r e f = absurd (cc)

pub first_none : (o s : Option FileRefusal) → option_or o s ≡ None → o ≡ None
first_none None s e = refl
first_none (Some r) s e = absurd (cc)

pub second_none : (o s : Option FileRefusal) → option_or o s ≡ None → s ≡ None
second_none None s e = e
second_none (Some r) s e = absurd (cc)

pub same_done : (d e : Done) → d.text ≡ e.text → d.writes ≡ e.writes → d.status ≡ e.status → d ≡ e
same_done d e texts writes statuses =
    ap (λ (t : List ℕ). record { text = t; writes = d.writes; status = d.status }) texts
    ∙ ap (λ (w : List (List ℕ × List ℕ)). record { text = e.text; writes = w; status = d.status }) writes
    ∙ ap (λ (n : ℕ). record { text = e.text; writes = e.writes; status = n }) statuses
