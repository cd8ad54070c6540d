-- What files give a command over a document: one document and network, or one refusal.
use Rattle.std.specs.Prelude.{◌≡◌, ℕ, List, []}
use Rattle.arc_outside.specs.Files.{Files}
use Rattle.net_model.specs.declared.policies.Document.{Document}
use Rattle.net_model.specs.declared.rows.Network.{Network}
use Rattle.run_files.specs.declared.limits.Limits.{Limits}
use Rattle.run_files.specs.declared.outcome.FileRefusal.{FileRefusal}
use Rattle.run_inputs.specs.Counts.{PoliciesHaveFewClasses, IsJudgingRefusal}
use Rattle.run_inputs.specs.Inputs.{HoldsDocument, HoldsInput, IsInputRefusal}

-- files have at most one document, at most one network with these links to be down, and at most one
-- refusal, and never a network and a refusal
pub record IsDetermined (limits : Limits) (down : List ℕ) (document : List ℕ)
    (files : Files) : Type 0 where
  pub one_document : (doc other : Document) → HoldsDocument document files doc →
      HoldsDocument document files other → doc ≡ other
  pub one_network : (doc : Document) (net other : Network) →
      HoldsInput limits down document files doc net →
      HoldsInput limits down document files doc other → net ≡ other
  pub one_refusal : (r s : FileRefusal) → IsInputRefusal limits down document files r →
      IsInputRefusal limits down document files s → r ≡ s
  pub not_both : (doc : Document) (net : Network) (r : FileRefusal) →
      HoldsInput limits down document files doc net →
      IsInputRefusal limits down document files r → ⊥

-- for a command that also counts classes files have at most one refusal, and none if the network
-- has few classes
pub record IsJudgedOnce (limits : Limits) (document : List ℕ) (files : Files) : Type 0 where
  pub one_refusal : (r s : FileRefusal) → IsJudgingRefusal limits document files r →
      IsJudgingRefusal limits document files s → r ≡ s
  pub not_both : (doc : Document) (net : Network) (r : FileRefusal) →
      HoldsInput limits [] document files doc net →
      PoliciesHaveFewClasses net doc.policies → IsJudgingRefusal limits document files r → ⊥
