-- Counts that may exceed their limit: of traffic classes, of edits, and of a formula.
use Rattle.std.specs.Prelude.{◌≡◌, ℕ, ◌≤◌, ◌<◌, ◌⊎◌, List, [], length, Result, Ok, Err}
use Rattle.arc_base.specs.declared.limits.TheConstants.{CLASS_LIMIT}
use Rattle.arc_base.specs.declared.refusal.Kind.TheVariants.{Limit}
use Rattle.arc_base.specs.declared.refusal.LimitKind.TheVariants.{Classes}
use Rattle.arc_outside.specs.Files.{Files}
use Rattle.net_model.specs.declared.policies.Class.{Class}
use Rattle.net_model.specs.declared.policies.Document.{Document}
use Rattle.net_model.specs.declared.policies.Policy.{Policy}
use Rattle.net_model.specs.declared.rows.Network.{Network}
use Rattle.traffic_classes.specs.AllClasses.{AreAllClasses, FirstHaveMore}
use Rattle.edit_list.specs.declared.edit_kinds.EditFault.{EditFault}
use Rattle.edit_list.specs.declared.edit_kinds.EditFault.TheVariants as faults
use Rattle.run_files.specs.declared.limits.Limits.{Limits}
use Rattle.run_files.specs.declared.outcome.FileRefusal.{FileRefusal}
use Rattle.run_files.specs.declared.outcome.Stop.{Stop}
use Rattle.run_files.specs.declared.outcome.Stop.TheVariants as stops
use Rattle.run_files.specs.Refusals.{refusal_of}
use Rattle.run_inputs.specs.Inputs.{HoldsInput, IsInputRefusal}

-- the policies have at most CLASS_LIMIT different classes
pub record PoliciesHaveFewClasses (net : Network) (policies : List Policy) : Type 0 where
  pub classes : List Class
  pub are : AreAllClasses net policies policies classes
  pub few : length classes ≤ CLASS_LIMIT

-- the policies up to the first with which there are too many classes have `count` of them
pub record HasManyClasses (net : Network) (policies : List Policy) (count : ℕ) : Type 0 where
  pub first : FirstHaveMore net policies count
  pub many : CLASS_LIMIT < count

-- the answer of counting the classes: they are few, or the document is refused for their number
abbrev pub CountsClasses : List ℕ → Network → List Policy → Result (Unit {0}) Stop → Type 0
CountsClasses document net policies (Ok done) = PoliciesHaveFewClasses net policies
CountsClasses document net policies (Err (stops.Refused r)) =
    (count : ℕ) × HasManyClasses net policies count ×
    (r ≡ refusal_of document 0 (Limit Classes count))
CountsClasses document net policies (Err stops.Memory) = Unit {0}
CountsClasses document net policies (Err stops.Failed) = ⊥

-- the policies of the document have too many classes
pub record RefusesClasses (limits : Limits) (document : List ℕ) (files : Files)
    (r : FileRefusal) : Type 0 where
  pub doc : Document
  pub net : Network
  pub input : HoldsInput limits [] document files doc net
  pub count : ℕ
  pub many : HasManyClasses net doc.policies count
  pub told : r ≡ refusal_of document 0 (Limit Classes count)

-- the first refusal of a command that judges: of its input, or that there are too many classes
abbrev pub IsJudgingRefusal : Limits → List ℕ → Files → FileRefusal → Type 0
IsJudgingRefusal limits document files r =
    IsInputRefusal limits [] document files r ⊎ RefusesClasses limits document files r

-- a count above its limit refuses the document, unless memory runs out
abbrev pub StopsFor : List ℕ → EditFault → Stop → Type 0
StopsFor document (faults.Limit what count) stop =
    (stop ≡ stops.Memory) ⊎ (stop ≡ stops.Refused (refusal_of document 0 (Limit what count)))
StopsFor document faults.Memory stop = stop ≡ stops.Memory
