-- An old report whose lines come one by one.
use Rattle.std.specs.Prelude.{◌≡◌, ℕ, Bool, true, false, List, [], ◌++◌, Result}
use Rattle.arc_base.specs.TextLines.{lines}
use Rattle.net_model.specs.declared.policies.Document.{Document}
use Rattle.net_model.specs.declared.rows.Network.{Network}
use Rattle.net_model.specs.declared.verdicts.Verdict as verdicts
use Rattle.policy_report.specs.declared.got.Got.{Got}
use Rattle.policy_report.specs.declared.got.CertFault.{CertFault}
use Rattle.policy_report.specs.Rereading.{answers}
use Rattle.policy_report.specs.Steps.{standing, start}
use Rattle.arc_recheck.specs.declared.held.HeldBlocks.{HeldBlocks}
use Rattle.arc_recheck.specs.Held.{held_verdicts, verdicts_before}

-- those that are held so far, and those that a reader gives by the lines that are left; before the
-- first line all that these hold
abbrev pub held_with : Bool → List verdicts.Verdict → List (Result Got CertFault) →
    List verdicts.Verdict
held_with false held told = held_verdicts told
held_with true held told = held ++ verdicts_before told

-- the lines of the text so far came to these: the blocks so far and those still to come are all
-- that the text holds
pub record HasComeTo (net : Network) (doc : Document) (text : List ℕ) (ls : List (List ℕ))
    (blocks : HeldBlocks) : Type 0 where
  pub none_before : blocks.begun ≡ false → blocks.held ≡ []
  pub all : held_with blocks.begun blocks.held (answers net doc [] (standing blocks.reader) ls)
      ≡ held_verdicts (answers net doc [] start (lines text))
