-- The text of an answer about failed routers: a head line, a line with the answer and the number of
-- lines that follow, the lines of the witness, and an end line.
use Rattle.std.specs.Prelude.{ℕ, ◌+◌, List, [], ◌∷◌, ◌++◌, length, map, codes, decimal}
use Rattle.std.specs.List.{concat}
use Rattle.arc_base.specs.declared.place.Router.{Router}
use Rattle.net_model.specs.declared.rows.Network.{Network}
use Rattle.policy_report.specs.Edits.{router_name}
use Rattle.policy_report.specs.Lines.{line}
use Rattle.policy_report.specs.Reports.{class_words, router_side_words, path_line, refused_line}
use Rattle.arc_nodecut.specs.declared.verdict.NodeVerdict.{NodeVerdict}
use Rattle.arc_nodecut.specs.declared.verdict.NodeVerdict.TheVariants.{Same, Direct, Apart, Denied}
use Rattle.arc_nodecut.specs.declared.verdict.NodeVerdict.TheVariants.{Cut, Refused}

-- the answer, as a word
abbrev pub answer_word : NodeVerdict → List ℕ
answer_word Same = codes "yes"
answer_word (Direct link) = codes "yes"
answer_word (Apart paths) = codes "yes"
answer_word (Denied class) = codes "no"
answer_word (Cut routers side) = codes "no"
answer_word (Refused p link) = codes "refused"

-- the line of a cut: the names of its routers, in order
abbrev pub cut_line : Network → List Router → List ℕ
cut_line net routers = line (codes "cut") (map (router_name net) routers)

-- the lines of the witness, with links counted from 1
abbrev pub node_witness_lines : Network → NodeVerdict → List (List ℕ)
node_witness_lines net Same = []
node_witness_lines net (Direct link) = line (codes "arc") (decimal (link.0 + 1) ∷ []) ∷ []
node_witness_lines net (Apart paths) = map path_line paths
node_witness_lines net (Denied class) = line (codes "denied") (class_words class) ∷ []
node_witness_lines net (Cut routers side) =
    cut_line net routers ∷ line (codes "side") (router_side_words net.routers side) ∷ []
node_witness_lines net (Refused p link) = refused_line p link ∷ []

-- the line with the number of routers that may fail, the answer, and the number of lines that
-- follow
abbrev pub node_answer_line : ℕ → Network → NodeVerdict → List ℕ
node_answer_line k net v =
    line (codes "reach-routers")
    (decimal k ∷ answer_word v ∷ decimal (length (node_witness_lines net v)) ∷ [])

-- the whole text of a verdict under at most k failed routers
abbrev pub nodes_text : Network → ℕ → NodeVerdict → List ℕ
nodes_text net k v =
    line (codes "arc-nodes") (codes "1" ∷ []) ++ node_answer_line k net v ++
    concat (node_witness_lines net v) ++ line (codes "end") []
