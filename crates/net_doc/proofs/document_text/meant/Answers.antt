use Rattle.std.proofs.Common.{◌≡◌, ◌∙◌, sym, ap, subst, List, length, get_or, arith, ◌<◌}
use Rattle.net_doc.specs.declared.drafts.PolicyText.{PolicyText}
use Rattle.net_model.specs.Policies.{HasFewFailures}
use Rattle.net_doc.specs.Drafts.{kind_meant}
use Rattle.net_doc.proofs.Drafted.{few_at}
use Rattle.net_doc.proofs.document_text.meant.Goals as goal

pub policy_meant-requires : goal.policy_meant-requires
policy_meant-requires c =
    let i = c.loop-text.text-index in
    let at : get_or c.args.draft.policies.items i c.text-item.result ≡ c.text-item.result =
    ap (λ (ts : List PolicyText). get_or ts i c.text-item.result) (sym c.deref-text-items.ensures.value) ∙ sym c.text-item.is in
    let P : PolicyText → Type 0 = λ t. HasFewFailures (kind_meant t.kind) in
    let within : i < length c.args.draft.policies.items = omega (arith, c.loop-text-test.true, ap length c.deref-text-items.ensures.value) in
    subst P at (few_at c.args.draft i c.text-item.result c.requires within)
