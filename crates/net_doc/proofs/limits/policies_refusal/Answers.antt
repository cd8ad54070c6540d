use Rattle.std.proofs.Common.{◌∙◌, sym}
use Rattle.net_doc.proofs.Drafted.{refused_where}
use Rattle.net_doc.proofs.limits.policies_refusal.Goals as goal

pub returns-then-is_some : goal.returns-then-is_some
returns-then-is_some c =
    sym (c.loop-place.invariant ∙ refused_where c.args.policies.now c.loop-place.place c.index-policies-place.result c.failures_refusal-refusal.result c.loop-place-test.true
    (sym c.is_some.ensures ∙ c.if-is_some.true) (sym c.failures_refusal-refusal.ensures))
