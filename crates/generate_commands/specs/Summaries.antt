-- The lines that the command prints.
use Rattle.std.specs.Prelude.{ℕ, ◌+◌, Bool, List, [], ◌∷◌, ◌++◌, codes, count_by, decimal}
use Rattle.net_gen.specs.Plans.{link_count}
use Rattle.edit_list.specs.declared.claims.Claim.TheVariants.{Repaired, NoRepair}
use Rattle.policy_report.specs.Lines.{line}
use Rattle.arc_repair.specs.declared.answer.Answer.{Answer}
use Rattle.arc_repair.specs.declared.answer.Answer.TheVariants.{Done as Claimed, Budget}
use Rattle.generate_commands.specs.declared.tallies.Tally.{Tally}
use Rattle.generate_commands.specs.Tallies.{tally_of}

-- the line that says what was made with this many routers
abbrev pub made_line : ℕ → List ℕ
made_line n =
    line (codes "generated") (decimal n ∷ codes "routers" ∷ decimal (link_count n) ∷ codes "links" ∷
    decimal (n + 1) ∷ codes "policies" ∷ [])

-- the line of how many policies are met, broken and not clear
abbrev pub tally_line : List ℕ → Tally → List ℕ
tally_line word tally =
    line word (codes "yes" ∷ decimal tally.yes ∷ codes "no" ∷ decimal tally.no ∷ codes "refused" ∷
    decimal tally.refused ∷ [])

-- the line of what a repair costs, and how many edits it has
abbrev pub repair_line : ℕ → ℕ → List ℕ
repair_line price edits =
    line (codes "repair") (codes "price" ∷ decimal price ∷ codes "edits" ∷ decimal edits ∷ [])

-- the line that there is no repair within the bound
abbrev pub none_line : List ℕ
none_line = codes "repair none\n"

-- the line that the search was given up
abbrev pub given_up_line : List ℕ
given_up_line = codes "repair budget\n"

-- how many of the flags are set
abbrev pub flags_set : List Bool → ℕ
flags_set flags = count_by (λ flag. flag) flags

-- the lines of an answer, by what its claim holds
abbrev pub answer_lines : Answer → List ℕ
answer_lines (Claimed (Repaired price bound flags verdicts) log) =
    repair_line price (flags_set flags) ++ tally_line (codes "after") (tally_of verdicts)
answer_lines (Claimed (NoRepair bound) log) = none_line
answer_lines (Budget log) = given_up_line
