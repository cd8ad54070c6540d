-- The text of a recheck: its head, the block of each policy with whether its verdict is the old
-- one, for each policy that has an answer the line of the links that it hangs on, and its end.
use Rattle.std.specs.Prelude.{ℕ, ◌+◌, Bool, true, false, Option, Some, None, List, [], ◌∷◌, ◌++◌}
use Rattle.std.specs.Prelude.{length, codes, decimal}
use Rattle.std.specs.List.{concat}
use Rattle.arc_base.specs.declared.place.Link.{Link}
use Rattle.net_model.specs.declared.policies.Policy.{Policy}
use Rattle.net_model.specs.declared.rows.Network.{Network}
use Rattle.policy_report.specs.Lines.{line}
use Rattle.policy_report.specs.Reports.{kind_word, answer_word, link_words, witness_lines}
use Rattle.arc_recheck.specs.declared.rechecking.Rechecked.{Rechecked}

-- whether the verdict is the old one, as a word
abbrev pub kept_word : Bool → List ℕ
kept_word true = codes "kept"
kept_word false = codes "new"

-- the first line of a policy's block: its number, what it asks, the answer, how many lines follow,
-- and whether it is kept
abbrev pub rechecked_head_line : ℕ → Network → Policy → Rechecked → List ℕ
rechecked_head_line number net policy r =
    line (decimal number) (kind_word policy.kind ∷ answer_word r.verdict ∷
    decimal (length (witness_lines net r.verdict)) ∷ kept_word r.kept ∷ [])

-- the block of the policy with this number
abbrev pub rechecked_text : ℕ → Network → Policy → Rechecked → List ℕ
rechecked_text number net policy r =
    rechecked_head_line number net policy r ++ concat (witness_lines net r.verdict)

-- the blocks of policies that are numbered from here on
abbrev pub rechecked_texts : ℕ → Network → List Policy → List Rechecked → List ℕ
rechecked_texts number net [] rs = []
rechecked_texts number net (policy ∷ policies) [] = []
rechecked_texts number net (policy ∷ policies) (r ∷ rs) =
    rechecked_text number net policy r ++ rechecked_texts (number + 1) net policies rs

-- the line of the links that the policy with this number hangs on, where it has an answer
abbrev pub alone_line : ℕ → Option (List Link) → List ℕ
alone_line number None = []
alone_line number (Some links) = line (codes "alone") (decimal number ∷ link_words links)

-- these lines of policies that are numbered from here on
abbrev pub alone_lines : ℕ → List (Option (List Link)) → List ℕ
alone_lines number [] = []
alone_lines number (found ∷ rest) = alone_line number found ++ alone_lines (number + 1) rest

-- the whole text
abbrev pub recheck_text : Network → List Policy → List Rechecked →
    List (Option (List Link)) → List ℕ
recheck_text net policies rs founds =
    line (codes "arc-recheck") (codes "1" ∷ []) ++ rechecked_texts 1 net policies rs ++
    alone_lines 1 founds ++ line (codes "end") []
