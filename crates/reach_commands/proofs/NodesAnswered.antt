-- The answers of `nodes`.
use Rattle.std.proofs.Common.{◌≡◌, List, [], ◌∷◌, ◌++◌, sym, ◌∙◌, ap, subst}
use Rattle.std.specs.Prelude.{Option, Some, None, IfSome, Ok}
use Rattle.arc_outside.specs.Files.{Files}
use Rattle.net_model.specs.declared.policies.Document.{Document}
use Rattle.net_model.specs.declared.policies.Policy.{Policy}
use Rattle.net_model.specs.declared.rows.Network.{Network}
use Rattle.net_model.specs.Validity.{IsValid}
use Rattle.command_words.specs.declared.commands.NodesWords.{NodesWords}
use Rattle.run_files.specs.declared.limits.Limits.TheVariants.{Judging}
use Rattle.run_files.specs.declared.outcome.Done.{Done}
use Rattle.run_files.specs.Answers.{Answers, IsJudging}
use Rattle.run_inputs.specs.Counts.{PoliciesHaveFewClasses}
use Rattle.run_inputs.specs.Inputs.{HoldsInput}
use Rattle.reach_commands.specs.Added.{policies_with, AddsPolicy}
use Rattle.reach_commands.specs.Nodes.{nodes_policy, IsNodesOf, IsNodesAnswer, IsNodesRefusal}

abbrev Read : Option Files → NodesWords → Document → Network → Type 0
Read held words doc net = IfSome held (λ files. HoldsInput Judging [] words.document files doc net)

pub answered : (words : NodesWords) (net : Network) (policies judged : List Policy) (done : Done) → IsValid net →
    AddsPolicy words.document net policies (nodes_policy words) (Ok judged) → PoliciesHaveFewClasses net judged →
    IsNodesOf net judged (nodes_policy words) words.failures done → IsJudging done → (held : Option Files) (doc : Document) → doc.policies ≡ policies → Read held words doc net →
    Answers IsJudging (IsNodesRefusal words) (IsNodesAnswer words) held (Ok done)
answered words net policies judged done valid adds classes answer judging None doc same told = (judging, tt)
answered words net policies judged done valid adds classes answer judging (Some files) doc same told =
    let made : judged ≡ policies_with doc (nodes_policy words) = adds.1 ∙ ap (λ (ps : List Policy). ps ++ nodes_policy words ∷ []) (sym same) in (
      judging,
      record {
        doc = doc;
        net = net;
        input = told;
        valid = valid;
        ends = adds.0;
        classes = subst (PoliciesHaveFewClasses net) made classes;
        answer = subst (λ (ps : List Policy). IsNodesOf net ps (nodes_policy words) words.failures done) made answer;
      },
    )
