-- The command `nodes DOC FROM TO K`.
use Rattle.std.specs.Prelude.{◌≡◌, ◌↔◌, ◌⊎◌, ℕ, List, [], if◌then◌else◌}
use Rattle.arc_outside.specs.Files.{Files}
use Rattle.net_model.specs.declared.policies.Document.{Document}
use Rattle.net_model.specs.declared.policies.Policy.{Policy}
use Rattle.net_model.specs.declared.rows.Network.{Network}
use Rattle.net_model.specs.Validity.{IsValid}
use Rattle.net_rules.specs.Addressing.{HasEndpoints}
use Rattle.arc_nodecut.specs.declared.verdict.NodeVerdict.{NodeVerdict}
use Rattle.arc_nodecut.specs.RouterFailures.{MeetsPast}
use Rattle.arc_nodecut.specs.NodeWitnesses.{IsRightNodeVerdict, is_node_yes}
use Rattle.arc_nodecut.specs.Given.{IsGiven}
use Rattle.arc_nodecut.specs.NodeText.{nodes_text}
use Rattle.command_words.specs.declared.commands.NodesWords.{NodesWords}
use Rattle.run_files.specs.declared.limits.Limits.TheVariants.{Judging}
use Rattle.run_files.specs.declared.outcome.Done.{Done}
use Rattle.run_files.specs.declared.outcome.FileRefusal.{FileRefusal}
use Rattle.run_inputs.specs.Counts.{PoliciesHaveFewClasses}
use Rattle.run_inputs.specs.Inputs.{HoldsInput, IsInputRefusal}
use Rattle.reach_commands.specs.Added.{policies_with, reach_policy, RefusesEnds, RefusesClassesWith}

-- the policy that the words make: reach under at most this many failed routers
abbrev pub nodes_policy : NodesWords → Policy
nodes_policy words = reach_policy words.from words.to words.failures

-- The first refusal: of the input; that the prefixes do not lie in two different host networks; or
-- that there are too many classes.
abbrev pub IsNodesRefusal : NodesWords → Files → FileRefusal → Type 0
IsNodesRefusal words files r =
    IsInputRefusal Judging [] words.document files r ⊎
    (RefusesEnds words.document (nodes_policy words) files r ⊎
    RefusesClassesWith words.document (nodes_policy words) files r)

-- 0 for a yes, else 1
abbrev pub nodes_status : NodeVerdict → ℕ
nodes_status v = if is_node_yes v then 0 else 1

-- the text of a right verdict on a policy among these, which is the one that is given
pub record IsNodesOf (net : Network) (policies : List Policy) (policy : Policy) (failures : ℕ)
    (done : Done) : Type 0 where
  pub verdict : NodeVerdict
  pub right : IsRightNodeVerdict net policy verdict
  pub given : IsGiven net policies policy verdict
  pub text : done.text ≡ nodes_text net failures verdict
  pub writes : done.writes ≡ []
  pub status : done.status ≡ nodes_status verdict

-- the text of a right verdict on the policy that the words make
pub record IsNodesAnswer (words : NodesWords) (files : Files) (done : Done) : Type 0 where
  pub doc : Document
  pub net : Network
  pub input : HoldsInput Judging [] words.document files doc net
  pub valid : IsValid net
  pub ends : HasEndpoints net words.from words.to
  pub classes : PoliciesHaveFewClasses net (policies_with doc (nodes_policy words))
  pub answer : IsNodesOf net (policies_with doc (nodes_policy words)) (nodes_policy words)
      words.failures done

-- the input has a network with these ends and not too many classes, which meets the policy
-- whichever K routers other than the ends fail
pub record NodesSayYes (words : NodesWords) (files : Files) : Type 0 where
  pub doc : Document
  pub net : Network
  pub input : HoldsInput Judging [] words.document files doc net
  pub ends : HasEndpoints net words.from words.to
  pub classes : PoliciesHaveFewClasses net (policies_with doc (nodes_policy words))
  pub meets : MeetsPast net (nodes_policy words)

-- the input has a network with these ends and not too many classes, which does not meet the policy:
-- some packet is stuck once some K routers fail, or the policy is not clear
pub record NodesSayNo (words : NodesWords) (files : Files) : Type 0 where
  pub doc : Document
  pub net : Network
  pub input : HoldsInput Judging [] words.document files doc net
  pub ends : HasEndpoints net words.from words.to
  pub classes : PoliciesHaveFewClasses net (policies_with doc (nodes_policy words))
  pub meets_not : ¬ MeetsPast net (nodes_policy words)

-- the input, the prefixes or the number of classes is refused
pub record NodesAreRefused (words : NodesWords) (files : Files) : Type 0 where
  pub refusal : FileRefusal
  pub refused : IsNodesRefusal words files refusal

-- The status says which of the three it is: 0 for yes, 1 for no, and 5 for refused.
pub record TellsNodes (words : NodesWords) (status : ℕ) (files : Files) : Type 0 where
  pub yes_exactly : (status ≡ 0) ↔ NodesSayYes words files
  pub no_exactly : (status ≡ 1) ↔ NodesSayNo words files
  pub refused_exactly : (status ≡ 5) ↔ NodesAreRefused words files
  pub nothing_else : (status ≡ 0) ⊎ ((status ≡ 1) ⊎ (status ≡ 5))
