-- A law over the definitions alone: old and new verdicts have the same answers.
use Rattle.std.specs.Prelude.{◌≡◌}
use Rattle.net_model.specs.declared.policies.Policy.{Policy}
use Rattle.net_model.specs.declared.rows.Network.{Network}
use Rattle.net_model.specs.declared.verdicts.Verdict.{Verdict}
use Rattle.net_model.specs.Witnesses.{IsRight}
use Rattle.policy_report.specs.Reports.{answer_word}

-- two right verdicts on a policy have one answer, so a verdict that is kept has the answer that a
-- new one would have
abbrev pub RightAnswersAreOne : Network → Type 0
RightAnswersAreOne net =
    (policy : Policy) (v w : Verdict) → IsRight net policy v → IsRight net policy w →
    answer_word v ≡ answer_word w
