-- What the status of `nodes` says.
use Rattle.std.proofs.Common.{◌≡◌, ◌⊎◌, inl, inr, Bool, true, false, [], refl, sym, ◌∙◌, ap, arith}
use Rattle.std.specs.Prelude.{if◌then◌else◌}
use Rattle.std.proofs.lemmas.Bool.{false≢true}
use Rattle.arc_outside.specs.Files.{Files}
use Rattle.net_model.specs.declared.policies.Document.{Document}
use Rattle.net_model.specs.declared.rows.Network.{Network}
use Rattle.net_rules.specs.Addressing.{HasEndpoints}
use Rattle.arc_nodecut.specs.RouterFailures.{MeetsPast}
use Rattle.arc_nodecut.specs.NodeWitnesses.{is_node_yes}
use Rattle.arc_nodecut.proofs.NodeVerdicts.{right_verdicts_decide}
use Rattle.command_words.specs.declared.commands.NodesWords.{NodesWords}
use Rattle.run_files.specs.declared.limits.Limits.TheVariants.{Judging}
use Rattle.run_files.specs.declared.outcome.Done.{Done}
use Rattle.run_files.specs.declared.outcome.FileRefusal.{FileRefusal}
use Rattle.run_files.specs.Answers.{IsTold}
use Rattle.run_inputs.specs.Counts.{PoliciesHaveFewClasses}
use Rattle.run_inputs.specs.Inputs.{HoldsInput}
use Rattle.reach_commands.specs.Added.{policies_with, RefusesClassesWith}
use Rattle.reach_commands.specs.Nodes.{nodes_policy, IsNodesRefusal, IsNodesAnswer, NodesSayYes, NodesSayNo, TellsNodes}
use Rattle.reach_commands.proofs.OneInput.{one_input}
use Rattle.reach_commands.proofs.OneRefusal.{Early, early_none, early_once, classes_none, classes_once}

module _ (words : NodesWords) (files : Files) where
  yes_or_no : NodesSayYes words files → NodesSayNo words files → ⊥
  yes_or_no yes' no' =
      no'.meets_not (one_input words.document files yes'.doc no'.doc yes'.net no'.net yes'.input no'.input (λ d n. MeetsPast n (nodes_policy words)) yes'.meets)

  -- the refusal is an early one, or that of the classes
  stage : (r : FileRefusal) → IsNodesRefusal words files r → Early words.document (nodes_policy words) files r ⊎ RefusesClassesWith words.document (nodes_policy words) files r
  stage r (inl u) = inl (inl u)
  stage r (inr (inl u)) = inl (inr u)
  stage r (inr (inr u)) = inr u

  pub refused_once : (r s : FileRefusal) → IsNodesRefusal words files r → IsNodesRefusal words files s → r ≡ s
  refused_once r s u v = elim (stage r u) [
    | inl early ↦ elim (stage s v) [
      | inl other ↦ early_once words.document (nodes_policy words) files r s early other
      | inr many ↦ absurd (early_none words.document (nodes_policy words) files many.doc many.net many.input many.ends r early)
    ]
    | inr many ↦ elim (stage s v) [
      | inl early ↦ absurd (early_none words.document (nodes_policy words) files many.doc many.net many.input many.ends s early)
      | inr other ↦ classes_once words.document (nodes_policy words) files r s many other
    ]
  ]

  pub held_or_refused : (doc : Document) (net : Network) → HoldsInput Judging [] words.document files doc net → HasEndpoints net words.from words.to →
      PoliciesHaveFewClasses net (policies_with doc (nodes_policy words)) → (r : FileRefusal) → IsNodesRefusal words files r → ⊥
  held_or_refused doc net input ends classes r refused = elim (stage r refused) [
    | inl early ↦ early_none words.document (nodes_policy words) files doc net input ends r early
    | inr many ↦ classes_none words.document (nodes_policy words) files doc net input classes r many
  ]

  told_as : (d : Done) (done : IsNodesAnswer words files d) (b : Bool) → is_node_yes done.answer.verdict ≡ b → TellsNodes words d.status files
  told_as d done true is =
      let status : d.status ≡ 0 = done.answer.status ∙ ap (λ (y : Bool). if y then 0 else 1) is in
      let says : NodesSayYes words files = record {
        doc = done.doc;
        net = done.net;
        input = done.input;
        ends = done.ends;
        classes = done.classes;
        meets = (right_verdicts_decide done.net done.valid (nodes_policy words) done.answer.verdict done.answer.right).0 is;
      } in
      record {
        yes_exactly = (λ e. says, λ s. status);
        no_exactly = (λ e. absurd (omega (arith, status, e)), λ no'. absurd (yes_or_no says no'));
        refused_exactly = (λ e. absurd (omega (arith, status, e)), λ u. absurd (held_or_refused done.doc done.net done.input done.ends done.classes u.refusal u.refused));
        nothing_else = inl status;
      }
  told_as d done false is =
      let status : d.status ≡ 1 = done.answer.status ∙ ap (λ (y : Bool). if y then 0 else 1) is in
      let says : NodesSayNo words files = record {
        doc = done.doc;
        net = done.net;
        input = done.input;
        ends = done.ends;
        classes = done.classes;
        meets_not = λ meets. false≢true (sym is ∙ (right_verdicts_decide done.net done.valid (nodes_policy words) done.answer.verdict done.answer.right).1 meets);
      } in
      record {
        yes_exactly = (λ e. absurd (omega (arith, status, e)), λ yes'. absurd (yes_or_no yes' says));
        no_exactly = (λ e. says, λ s. status);
        refused_exactly = (λ e. absurd (omega (arith, status, e)), λ u. absurd (held_or_refused done.doc done.net done.input done.ends done.classes u.refusal u.refused));
        nothing_else = inr (inl status);
      }

  pub told_done : (d : Done) → IsNodesAnswer words files d → TellsNodes words d.status files
  told_done d done = told_as d done (is_node_yes done.answer.verdict) refl

  pub told_refused : (r : FileRefusal) → IsNodesRefusal words files r → TellsNodes words 5 files
  told_refused r refused = record {
    yes_exactly = (λ e. absurd (omega (arith, e)), λ yes'. absurd (held_or_refused yes'.doc yes'.net yes'.input yes'.ends yes'.classes r refused));
    no_exactly = (λ e. absurd (omega (arith, e)), λ no'. absurd (held_or_refused no'.doc no'.net no'.input no'.ends no'.classes r refused));
    refused_exactly = (λ e. record { refusal = r; refused = refused }, λ u. refl);
    nothing_else = inr (inr refl);
  }

pub nodes_told : (words : NodesWords) → IsTold (IsNodesRefusal words) (IsNodesAnswer words) (λ status before after. TellsNodes words status before)
nodes_told words = record { answered = told_done words; refused = told_refused words }
