-- The judgement of a certificate or a proof, and the line that prints it.
use Rattle.std.specs.Prelude.{ℕ, List, ◌++◌, codes, decimal}
use Rattle.arc_base.specs.ReasonWords.{certificate_word}
use Rattle.run_files.specs.declared.judgements.Judgement.{Judgement}
use Rattle.run_files.specs.declared.judgements.Judgement.TheVariants.{Accepted, Rejected}

-- the line that prints a judgement, and its status
abbrev pub judgement_text : Judgement → List ℕ
judgement_text Accepted = codes "accepted\n"
judgement_text (Rejected line kind) =
    codes "rejected " ++ decimal line ++ codes " " ++ certificate_word kind ++ codes "\n"

abbrev pub judgement_status : Judgement → ℕ
judgement_status Accepted = 0
judgement_status (Rejected line kind) = 1
