use Rattle.std.proofs.Common.{◌≡◌, List, sym, ◌∙◌, ap}
use Rattle.net_model.specs.declared.lists.Packet.{Packet}
use Rattle.net_model.specs.declared.lists.PacketEntry.{PacketEntry}
use Rattle.net_model.specs.Lists.{permits}
use Rattle.net_model.specs.Packets.{IsOfClass}
use Rattle.witness_check.specs.Answers.{IsOpenAt}
use Rattle.witness_check.proofs.Matches.{halves_then, halves_else}
use Rattle.witness_check.proofs.answers.+none_gets_both.Goals as goal

pub returns-then-none_gets_both : goal.returns-then-none_gets_both
returns-then-none_gets_both t c =
    let open_at : IsOpenAt c.args.one.now.entries.now c.args.class c.in-Open.place = c.in-Open.ensures in
    let same : (p : Packet) → IsOfClass c.args.class p → permits c.args.one.now.entries.now p ≡ permits c.rest-rest.result.entries.now p =
    λ p at. open_at.rest p at ∙ ap (λ (xs : List PacketEntry). permits xs p) (sym c.rest-rest.ensures.entries) in
    let P : Packet → Type 0 = λ p. permits c.args.one.now.entries.now p ≡ c.args.one.now.answer → permits c.args.other.now.entries.now p ≡ c.args.other.now.answer → ⊥ in
    let Q : Packet → Type 0 = λ p. permits c.rest-rest.result.entries.now p ≡ c.rest-rest.result.answer → permits c.args.other.now.entries.now p ≡ c.args.other.now.answer → ⊥ in
    halves_then c.args.class c.halve_towards.result.0 c.halve_towards.result.1 c.halve_towards.ensures.whole P Q
    (λ p at none gets. none (same p at ∙ gets ∙ c.rest-rest.ensures.answer))
    (λ p at none gets. none (sym (same p at) ∙ gets ∙ sym c.rest-rest.ensures.answer))
    c.none_gets_both.result c.none_gets_both-then-none_gets_both.result c.if-none_gets_both.true c.none_gets_both.ensures c.none_gets_both-then-none_gets_both.ensures

pub returns-else-none_gets_both : goal.returns-else-none_gets_both
returns-else-none_gets_both t c =
    let open_at : IsOpenAt c.args.one.now.entries.now c.args.class c.in-Open.place = c.in-Open.ensures in
    let same : (p : Packet) → IsOfClass c.args.class p → permits c.args.one.now.entries.now p ≡ permits c.rest-rest.result.entries.now p =
    λ p at. open_at.rest p at ∙ ap (λ (xs : List PacketEntry). permits xs p) (sym c.rest-rest.ensures.entries) in
    let P : Packet → Type 0 = λ p. permits c.args.one.now.entries.now p ≡ c.args.one.now.answer → permits c.args.other.now.entries.now p ≡ c.args.other.now.answer → ⊥ in
    let Q : Packet → Type 0 = λ p. permits c.rest-rest.result.entries.now p ≡ c.rest-rest.result.answer → permits c.args.other.now.entries.now p ≡ c.args.other.now.answer → ⊥ in
    halves_else c.args.class c.halve_towards.result.0 c.halve_towards.result.1 c.halve_towards.ensures.whole P Q
    (λ p at none gets. none (same p at ∙ gets ∙ c.rest-rest.ensures.answer))
    (λ p at none gets. none (sym (same p at) ∙ gets ∙ sym c.rest-rest.ensures.answer))
    c.none_gets_both.result c.if-none_gets_both.false c.none_gets_both.ensures
