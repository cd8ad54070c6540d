use Rattle.std.proofs.Common.{◌≢◌, List, sym, subst}
use Rattle.std.specs.Prelude.{AllPairs}
use Rattle.edit_list.specs.declared.edit_kinds.Edit.{Edit}
use Rattle.edit_list.proofs.EditsApart.{all_different}
use Rattle.policy_encode.proofs.encoding.conditions.Goals as goal

pub of-requires : goal.of-requires
of-requires c =
    subst (λ (l : List Edit). AllPairs (λ (e : Edit) (f : Edit). e ≢ f) l) (sym c.slice.ensures.items) (all_different c.args.net.now c.args.doc.now c.args.edits.now c.requires.valid c.requires.edits)
