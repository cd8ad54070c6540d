use Rattle.std.proofs.Common.{◌++◌, ◌∷◌, [], ◌∙◌, ap, List, ℕ, codes}
use Rattle.std.specs.List.{concat}
use Rattle.policy_report.specs.Lines.{line}
use Rattle.arc_nodecut.specs.NodeText.{node_witness_lines, node_answer_line}
use Rattle.arc_nodecut.proofs.Joined.{four_joined}
use Rattle.arc_nodecut.proofs.text.nodes_text.Goals as goal

pub returns : goal.returns
returns c =
    four_joined (line (codes "arc-nodes") (codes "1" ∷ [])) (node_answer_line c.args.failures c.args.net.now c.args.verdict.now) (concat (node_witness_lines c.args.net.now c.args.verdict.now))
    (line (codes "end") []) c.extend_from_slice.new.self.items c.push_answer.new.text.items c.push_witness.new.text.items c.extend_from_slice-2.new.self.items
    (c.in_ok-extend_from_slice.ensures.items ∙ ap (λ (t : List ℕ). t ++ codes "arc-nodes 1\n") c.new-text.ensures.items)
    (c.in_ok-push_answer.ensures c.args.net.now) c.in_ok-push_witness.ensures c.in_ok-extend_from_slice-2.ensures.items
