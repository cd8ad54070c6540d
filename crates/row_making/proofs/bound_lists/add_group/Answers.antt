use Rattle.std.proofs.Common.{◌≡◌, ℕ, List, Some, sym, ◌∙◌, ap}
use Rattle.std.proofs.lemmas.Option.{none-some, same_Some}
use Rattle.net_rules.specs.Settings.{value}
use Rattle.row_making.proofs.ListsNames.{adds_none, adds_same, adds_inserted}
use Rattle.row_making.proofs.bound_lists.add_group.Goals as goal

pub returns-in_ok-insert : goal.returns-in_ok-insert
returns-in_ok-insert c =
    adds_same (λ (name : List ℕ). c.bytes.result.now ≡ name) (λ (name : List ℕ). value c.args.group.now ≡ Some name) c.args.names.now.keys c.insert.new.self.keys
    (λ name h. ap value c.in-Some.is ∙ ap Some (sym c.bytes.ensures ∙ h))
    (λ name h. c.bytes.ensures ∙ same_Some c.in-Some.given.value name (sym (ap value c.in-Some.is) ∙ h))
    (adds_inserted c.args.names.now.keys c.insert.new.self.keys c.bytes.result c.in_ok-insert.ensures.keys)

pub returns-in_default : goal.returns-in_default
returns-in_default c =
    adds_none (λ (name : List ℕ). value c.args.group.now ≡ Some name) c.args.names.now.keys (λ name h. absurd (none-some name (sym (ap value c.in_default.is) ∙ h)))
