-- The text of a report: its head, for each policy a line with the answer and the lines of its
-- witness, and its end.
use Rattle.std.specs.Prelude.{ℕ, ◌+◌, Bool, true, false, List, [], ◌∷◌, ◌++◌, length, map, codes}
use Rattle.std.specs.Prelude.{decimal}
use Rattle.std.specs.List.{concat}
use Rattle.arc_base.specs.declared.place.Link.{Link}
use Rattle.arc_base.specs.PrefixText.{address_text, prefix_text}
use Rattle.net_model.specs.declared.lists.Packet.{Packet}
use Rattle.net_model.specs.declared.policies.Class.{Class}
use Rattle.net_model.specs.declared.policies.Policy.{Policy}
use Rattle.net_model.specs.declared.policies.PolicyKind.{PolicyKind}
use Rattle.net_model.specs.declared.policies.PolicyKind.TheVariants.{Blocked, Through, Reach}
use Rattle.net_model.specs.declared.policies.Document.{Document}
use Rattle.net_model.specs.declared.rows.RouterRow.{RouterRow}
use Rattle.net_model.specs.declared.rows.Network.{Network}
use Rattle.net_model.specs.declared.verdicts.ClassSide.{ClassSide}
use Rattle.net_model.specs.declared.verdicts.LinkPath.{LinkPath}
use Rattle.net_model.specs.declared.verdicts.Verdict.{Verdict}
use Rattle.net_model.specs.declared.verdicts.Verdict.TheVariants.{Closed, Paths, Walk, Denied, Cut}
use Rattle.net_model.specs.declared.verdicts.Verdict.TheVariants.{Refused}
use Rattle.policy_report.specs.Lines.{line}
use Rattle.policy_report.specs.ServiceWords.{range_words, service_words}

-- what the policy asks, as a word
abbrev pub kind_word : PolicyKind → List ℕ
kind_word Blocked = codes "blocked"
kind_word Through = codes "through"
kind_word (Reach k) = codes "reach"

-- the answer, as a word
abbrev pub answer_word : Verdict → List ℕ
answer_word (Closed sides) = codes "yes"
answer_word (Paths paths) = codes "yes"
answer_word (Walk class path) = codes "no"
answer_word (Denied class) = codes "no"
answer_word (Cut links side) = codes "no"
answer_word (Refused packet link) = codes "refused"

-- the numbers of the links, counted from 1
abbrev pub link_words : List Link → List (List ℕ)
link_words links = map (λ link. decimal (link.0 + 1)) links

-- the names of the routers on the side, in order
abbrev pub router_side_words : List RouterRow → List Bool → List (List ℕ)
router_side_words [] flags = []
router_side_words (router ∷ routers) [] = []
router_side_words (router ∷ routers) (true ∷ flags) = router.name ∷ router_side_words routers flags
router_side_words (router ∷ routers) (false ∷ flags) = router_side_words routers flags

-- the two prefixes of a class, and its services where these are not all
abbrev pub class_words : Class → List (List ℕ)
class_words class = prefix_text class.from ∷ prefix_text class.to ∷ range_words class.service

-- the two addresses of a packet, and its service where this is not 0
abbrev pub report_packet_words : Packet → List (List ℕ)
report_packet_words packet =
    address_text packet.from ∷ address_text packet.to ∷ service_words packet.service

-- a class and the routers that its packets may get to
abbrev pub closed_line : Network → ClassSide → List ℕ
closed_line net shown =
    line (codes "closed") (class_words shown.class ++ router_side_words net.routers shown.side)

-- the links of a path
abbrev pub path_line : LinkPath → List ℕ
path_line path = line (codes "path") (link_words path.links)

-- a packet, and the link on which it is denied
abbrev pub refused_line : Packet → Link → List ℕ
refused_line packet link =
    line (codes "acl-on-routed-link") (report_packet_words packet ++ decimal (link.0 + 1) ∷ [])

-- the lines of the witness
abbrev pub witness_lines : Network → Verdict → List (List ℕ)
witness_lines net (Closed sides) = map (closed_line net) sides
witness_lines net (Paths paths) = map path_line paths
witness_lines net (Walk class path) =
    line (codes "walk") (class_words class ++ link_words path.links) ∷ []
witness_lines net (Denied class) = line (codes "denied") (class_words class) ∷ []
witness_lines net (Cut links side) =
    line (codes "cut") (link_words links) ∷
    line (codes "side") (router_side_words net.routers side) ∷ []
witness_lines net (Refused packet link) = refused_line packet link ∷ []

-- the first line of a policy's block: its number, what it asks, the answer and how many lines
-- follow
abbrev pub answer_line : ℕ → Network → Policy → Verdict → List ℕ
answer_line number net policy verdict =
    line (decimal number) (kind_word policy.kind ∷ answer_word verdict ∷
    decimal (length (witness_lines net verdict)) ∷ [])

-- the block of the policy with this number
abbrev pub block_text : ℕ → Network → Policy → Verdict → List ℕ
block_text number net policy verdict =
    answer_line number net policy verdict ++ concat (witness_lines net verdict)

-- the blocks of policies that are numbered from here on
abbrev pub blocks_text : ℕ → Network → List Policy → List Verdict → List ℕ
blocks_text number net [] verdicts = []
blocks_text number net (policy ∷ policies) [] = []
blocks_text number net (policy ∷ policies) (verdict ∷ verdicts) =
    block_text number net policy verdict ++ blocks_text (number + 1) net policies verdicts

-- the report
abbrev pub report_text : Network → Document → List Verdict → List ℕ
report_text net doc verdicts =
    line (codes "arc-report") (codes "1" ∷ []) ++ blocks_text 1 net doc.policies verdicts ++
    line (codes "end") []
