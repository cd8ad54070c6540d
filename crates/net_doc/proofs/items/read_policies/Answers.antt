use Rattle.std.proofs.Common.{◌∙◌, sym, ap, option_and_then}
use Rattle.serde_json.specs.View.{view}
use Rattle.serde_json.specs.declared.value.Value.{Value}
use Rattle.net_doc.specs.Members.{all_of}
use Rattle.net_doc.specs.Documents.{policy_of}
use Rattle.net_doc.proofs.Readings.{all_of-stop}
use Rattle.net_doc.proofs.Drafted.{policies_next}
use Rattle.net_doc.proofs.items.read_policies.Goals as goal

pub returns-in_default-read_policy : goal.returns-in_default-read_policy
returns-in_default-read_policy c =
    let none = ap (λ (v : Value). policy_of c.args.version (view v)) (sym c.item-item.is) ∙ sym c.in_default-read_policy.ensures in
    sym (ap (option_and_then (all_of (policy_of c.args.version))) (sym c.in-Some.ensures)
    ∙ all_of-stop (policy_of c.args.version) c.in-Some.items.now c.loop-item.item-index c.item-item.result c.loop-item-test.true none)

pub loop-item-preserved : goal.loop-item-preserved
loop-item-preserved c =
    policies_next c.args.version c.in-Some.items.now c.loop-item.item-index c.item-item.result c.loop-item.policies.items c.push.new.self.items
    c.in-Some-read_policy.policy c.loop-item-test.true c.loop-item.invariant
    (c.in-Some-read_policy.ensures ∙ ap (λ (v : Value). policy_of c.args.version (view v)) c.item-item.is) c.in_ok-push.ensures.items
