use Rattle.std.proofs.Common.{◌≡◌, List, sym, ◌∙◌, ap}
use Rattle.std.proofs.lemmas.Bool.{false≢true}
use Rattle.net_model.specs.declared.lists.Packet.{Packet}
use Rattle.net_model.specs.declared.lists.PacketEntry.{PacketEntry}
use Rattle.net_model.specs.Lists.{permits}
use Rattle.net_model.specs.Packets.{IsOfClass}
use Rattle.witness_check.specs.Answers.{IsOpenAt}
use Rattle.witness_check.proofs.Matches.{each_not_none, halves_then, halves_else}
use Rattle.witness_check.proofs.answers.+none_gets.Goals as goal

pub returns-in-Always : goal.returns-in-Always
returns-in-Always t c = (
  λ h. absurd (false≢true h),
  λ none. absurd (each_not_none c.args.asked.now.entries.now c.args.asked.now.answer c.args.class c.in-Always.ensures none),
)

pub returns-then-none_gets : goal.returns-then-none_gets
returns-then-none_gets t c =
    let open_at : IsOpenAt c.args.asked.now.entries.now c.args.class c.in-Open.place = c.in-Open.ensures in
    let same : (p : Packet) → IsOfClass c.args.class p → permits c.args.asked.now.entries.now p ≡ permits c.rest-rest.result.entries.now p =
    λ p at. open_at.rest p at ∙ ap (λ (xs : List PacketEntry). permits xs p) (sym c.rest-rest.ensures.entries) in
    let P : Packet → Type 0 = λ p. permits c.args.asked.now.entries.now p ≡ c.args.asked.now.answer → ⊥ in
    let Q : Packet → Type 0 = λ p. permits c.rest-rest.result.entries.now p ≡ c.rest-rest.result.answer → ⊥ in
    halves_then c.args.class c.halve_towards.result.0 c.halve_towards.result.1 c.halve_towards.ensures.whole P Q
    (λ p at none gets. none (same p at ∙ gets ∙ c.rest-rest.ensures.answer))
    (λ p at none gets. none (sym (same p at) ∙ gets ∙ sym c.rest-rest.ensures.answer))
    c.none_gets.result c.none_gets-then-none_gets.result c.if-none_gets.true c.none_gets.ensures c.none_gets-then-none_gets.ensures

pub returns-else-none_gets : goal.returns-else-none_gets
returns-else-none_gets t c =
    let open_at : IsOpenAt c.args.asked.now.entries.now c.args.class c.in-Open.place = c.in-Open.ensures in
    let same : (p : Packet) → IsOfClass c.args.class p → permits c.args.asked.now.entries.now p ≡ permits c.rest-rest.result.entries.now p =
    λ p at. open_at.rest p at ∙ ap (λ (xs : List PacketEntry). permits xs p) (sym c.rest-rest.ensures.entries) in
    let P : Packet → Type 0 = λ p. permits c.args.asked.now.entries.now p ≡ c.args.asked.now.answer → ⊥ in
    let Q : Packet → Type 0 = λ p. permits c.rest-rest.result.entries.now p ≡ c.rest-rest.result.answer → ⊥ in
    halves_else c.args.class c.halve_towards.result.0 c.halve_towards.result.1 c.halve_towards.ensures.whole P Q
    (λ p at none gets. none (same p at ∙ gets ∙ c.rest-rest.ensures.answer))
    (λ p at none gets. none (sym (same p at) ∙ gets ∙ sym c.rest-rest.ensures.answer))
    c.none_gets.result c.if-none_gets.false c.none_gets.ensures
