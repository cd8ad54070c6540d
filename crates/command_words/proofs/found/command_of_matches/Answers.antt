use Rattle.std.proofs.Common.{◌≡◌, ◌∙◌, List, ℕ, Option, Some, None, option_map, refl, sym, ap}
use Rattle.std.proofs.lemmas.Result.{IfOk-weaker}
use Rattle.clap.specs.Walk.{Row, Text}
use Rattle.clap.specs.Simple.{subcommand_rows_of}
use Rattle.command_words.specs.Matched.{matched_command}
use Rattle.command_words.proofs.found.command_of_matches.Goals as goal

abbrev pairing : {S : Type 0} → (S → Text) → (S → List Row) → S → Text × List Row
pairing name_of rows_by s = (name_of s, rows_by s)

-- a pair that is there, by its parts
paired : {S : Type 0} (name_of : S → Text) (rows_by : S → List Row) (sub : Option S) (name : Text) (rows : List Row) → Some name ≡ option_map name_of sub
    → Some rows ≡ option_map (λ (p : Text × List Row). p.1) (option_map (pairing name_of rows_by) sub) → option_map (pairing name_of rows_by) sub ≡ Some (name, rows)
paired name_of rows_by None name rows e f = absurd (cc)
paired name_of rows_by (Some s) name rows e f =
    let named : name_of s ≡ name = cc in
    let found : rows_by s ≡ rows = cc in
    rw (named, found) refl

pub returns : goal.returns
returns c =
    IfOk-weaker c.named.result _ _
    (λ read is. is ∙ sym (ap matched_command (paired _ _ _ c.in-Some.name.now _ c.in-Some.ensures.name c.in-Some.ensures.rows))) c.named.ensures
