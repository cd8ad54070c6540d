use Rattle.std.proofs.Common.{◌∙◌, sym, ap, take}
use Rattle.net_model.specs.declared.verdicts.Verdict.{Verdict}
use Rattle.generate_commands.specs.declared.tallies.Tally.{Tally}
use Rattle.generate_commands.specs.Tallies.{one_more, tally_of}
use Rattle.generate_commands.proofs.Tallied.{one_verdict_more}
use Rattle.generate_commands.proofs.tallies.counted.Goals as goal

pub loop-verdict-preserved : goal.loop-verdict-preserved
loop-verdict-preserved c =
    c.with-tally.ensures ∙ ap (λ (t : Tally). one_more t c.verdict-item.result) c.loop-verdict.invariant
    ∙ ap (λ (v : Verdict). one_more (tally_of (take c.loop-verdict.verdict-index c.args.verdicts.now)) v) c.verdict-item.is
    ∙ sym (one_verdict_more c.args.verdicts.now c.loop-verdict.verdict-index c.verdict-item.result c.loop-verdict-test.true)
