use Rattle.std.proofs.Common.{◌≡◌, ◌⊎◌, ℕ, List, Some, refl, sym, ap, ◌∙◌, subst, ◌↔◌}
use Rattle.std.specs.Option.{option_copied}
use Rattle.arc_base.specs.declared.prefix.Prefix.{Prefix}
use Rattle.net_model.specs.declared.rows.Protocol.{Protocol}
use Rattle.ios_words.specs.declared.commands.Command.{Command}
use Rattle.ios_config.specs.declared.settings.Given.{Given}
use Rattle.net_rules.specs.Prefixes.{HasPrefix}
use Rattle.row_making.specs.Indexes.{network_prefix}
use Rattle.net_rules.proofs.Gathered.{gathered_more, gathered_all}
use Rattle.row_making.proofs.IndexLines.{no_prefixes, found_added, none_added}
use Rattle.row_making.proofs.process_index.prefixes.Goals.{in-Some+in_ok-add_prefix, in_default}
use Rattle.row_making.proofs.process_index.prefixes.Goals as goal

abbrev P : Protocol → Prefix → Given Command → Type 0
P protocol p g = network_prefix protocol g.value ≡ Some p

pub loop-line-init : goal.loop-line-init
loop-line-init c = no_prefixes (P c.args.protocol) c.new-prefixes.result.keys c.new-prefixes.ensures.empty

pub loop-line-preserved : goal.loop-line-preserved
loop-line-preserved c = λ p.
    let old = c.loop-line.prefixes.keys in
    gathered_more (P c.args.protocol p) c.args.lines.now c.loop-line.line-index c.line-item.result c.loop-line-test.true c.line-item.is
    (HasPrefix old p) (HasPrefix c.match-network_prefix.prefixes.keys p) (c.loop-line.invariant p)
    (elim c.match-network_prefix.branch [
      | in-Some+in_ok-add_prefix w ↦
          subst (λ (keys : List (ℕ × ℕ)). HasPrefix keys p ↔ (HasPrefix old p ⊎ P c.args.protocol p c.line-item.result)) (sym (ap (λ v. v.keys) w.prefixes-is))
          (found_added old w.add_prefix.new.prefixes.keys (network_prefix c.args.protocol c.line-item.result.value) w.in-Some.p.now
          (sym c.network_prefix.ensures ∙ ap (λ o. option_copied o) w.in-Some.is) w.in_ok-add_prefix.ensures p)
      | in_default w ↦
          subst (λ (keys : List (ℕ × ℕ)). HasPrefix keys p ↔ (HasPrefix old p ⊎ P c.args.protocol p c.line-item.result)) (sym (ap (λ v. v.keys) w.prefixes-is))
          (none_added old (network_prefix c.args.protocol c.line-item.result.value) (sym c.network_prefix.ensures ∙ ap (λ o. option_copied o) w.in_default.is) p)
    ])

pub returns : goal.returns
returns c = λ p.
    gathered_all (P c.args.protocol p) c.args.lines.now c.args.lines.now c.loop-line.line-index c.loop-line-test.false refl (HasPrefix c.loop-line.prefixes.keys p) (c.loop-line.invariant p)
