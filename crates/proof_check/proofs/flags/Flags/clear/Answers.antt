use Rattle.std.proofs.Common.{◌≡◌, false, length, replicate, ap, sym, ◌∙◌}
use Rattle.proof_check.proofs.Stamps.{flags, none_set, all_cleared, flag_count}
use Rattle.proof_check.proofs.flags.Flags.clear.Goals as goal

pub returns-then-self : goal.returns-then-self
returns-then-self c =
    let count : length c.self.inside.stamps.items ≡ length c.args.self.now = sym (flag_count c.self.inside.current c.self.inside.stamps.items) ∙ ap length c.self.view_is in
    ap (flags 1) (c.fill.ensures.items (λ y e. e)) ∙ none_set c.self.inside.stamps.len 0 ∙ ap (λ n. replicate n false) (c.self.inside.stamps.ok.0 ∙ count)

pub returns-else-self : goal.returns-else-self
returns-else-self c =
    let count : length c.self.inside.stamps.items ≡ length c.args.self.now = sym (flag_count c.self.inside.current c.self.inside.stamps.items) ∙ ap length c.self.view_is in
    all_cleared c.self.inside.current c.self.inside.stamps.items c.self.invariant ∙ ap (λ n. replicate n false) count
