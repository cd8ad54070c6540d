use Rattle.std.proofs.Common.{sym, ◌∙◌, ap}
use Rattle.std.specs.Prelude.{not}
use Rattle.std.proofs.lemmas.Bool.{not-true, false_from_ne_true}
use Rattle.witness_check.proofs.Nesting.{classes_apart, classes_overlap}
use Rattle.witness_check.proofs.boxes.share_none.Goals as goal

pub returns : goal.returns
returns c = (
  λ t. classes_apart c.args.one c.args.other (sym c.classes_meet.ensures ∙ not-true _ t),
  λ apart. ap not (false_from_ne_true c.classes_meet.result (λ t. classes_overlap c.args.one c.args.other (sym c.classes_meet.ensures ∙ t) apart)),
)
