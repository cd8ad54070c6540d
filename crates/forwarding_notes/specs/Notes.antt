-- What an answer means for any forwarding.
use Rattle.std.specs.Prelude.{◌↔◌, ℕ, Bool, IsTrue, List, []}
use Rattle.arc_outside.specs.Files.{Files}
use Rattle.net_model.specs.declared.policies.Document.{Document}
use Rattle.net_model.specs.declared.rows.Network.{Network}
use Rattle.edit_list.specs.declared.edit_kinds.Edit.{Edit}
use Rattle.edit_list.specs.After.{IsAfter}
use Rattle.edit_list.specs.EditLists.{AreEdits}
use Rattle.edit_list.specs.Prices.{chosen_of}
use Rattle.edit_reader.specs.EditFiles.{line_texts, chosen_by, AreEditLines}
use Rattle.run_files.specs.declared.limits.Limits.TheVariants.{Judging, Editing}
use Rattle.run_inputs.specs.Inputs.{HoldsInput}
use Rattle.any_forwarding_laws.specs.Forwardings.{IsOpenNetwork}
use Rattle.any_forwarding_laws.specs.Laws.{RunsEverywhere, VerdictsDecideAny}

-- `any` says whether OSPF runs everywhere in the network of the document and its files; if it does,
-- the network is open, and a right verdict on a blocked or through policy is a yes exactly if what
-- the policy asks holds for any forwarding
pub record SaysOfAny (document : List ℕ) (files : Files) (any : Bool) : Type 0 where
  pub doc : Document
  pub net : Network
  pub input : HoldsInput Judging [] document files doc net
  pub exact : IsTrue any ↔ RunsEverywhere net
  pub opened : IsTrue any → IsOpenNetwork net
  pub decide : IsTrue any → VerdictsDecideAny net

-- the lines of the text name edits of the network, each once, and this is the network after them
pub record IsAfterLines (net : Network) (doc : Document) (text : List ℕ)
    (after : Network) : Type 0 where
  pub list : List Edit
  pub edits : AreEdits net doc list
  pub lines : AreEditLines net list (line_texts text)
  pub after_is : IsAfter net (chosen_of list (chosen_by net list (line_texts text))) after

-- the network is open, but OSPF no longer runs everywhere after the edits that the lines name
pub record Closes (net : Network) (doc : Document) (text : List ℕ) : Type 0 where
  pub after : Network
  pub opened : IsOpenNetwork net
  pub edited : IsAfterLines net doc text after
  pub closed : ¬ RunsEverywhere after

-- the edits that the lines of the text name close the network of the document and its files
pub record AreClosed (document text : List ℕ) (files : Files) : Type 0 where
  pub doc : Document
  pub net : Network
  pub input : HoldsInput Editing [] document files doc net
  pub closes : Closes net doc text
