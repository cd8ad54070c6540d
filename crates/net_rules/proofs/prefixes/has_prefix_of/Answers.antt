use Rattle.std.proofs.Common.{refl, sym, ◌∙◌, arith}
use Rattle.std.proofs.lemmas.Bool.{false≢true}
use Rattle.net_rules.proofs.PrefixKeys.{shorter_lack}
use Rattle.net_rules.proofs.prefixes.has_prefix_of.Goals as goal

pub returns-then-has_prefix : goal.returns-then-has_prefix
returns-then-has_prefix c = (λ t. (c.prefix_at.result, c.has_prefix.ensures.0 c.if-has_prefix.true, c.prefix_at.ensures.1), λ held. refl)

pub loop-len-preserved : goal.loop-len-preserved
loop-len-preserved c =
    shorter_lack c.args.prefixes.now.keys c.args.address c.loop-len.len c.prefix_at.result c.prefix_at.ensures (λ held. false≢true
    (sym c.if-has_prefix.false ∙ c.has_prefix.ensures.1 held)) c.loop-len.invariant

pub returns : goal.returns
returns c = (λ t. absurd (false≢true t), λ held. absurd (c.loop-len.invariant held.0 (omega (arith, held.0.length, c.loop-len-test.false)) held.2 held.1))
