-- Right verdicts are true.
use Rattle.std.proofs.Common.{List, [], ◌∷◌}
use Rattle.std.specs.List.{AllZip}
use Rattle.net_model.specs.declared.policies.Policy.{Policy}
use Rattle.net_model.specs.declared.rows.Network.{Network}
use Rattle.net_model.specs.declared.verdicts.Verdict.{Verdict}
use Rattle.net_model.specs.Validity.{IsValid}
use Rattle.net_model.specs.Witnesses.{IsRight}
use Rattle.net_laws.proofs.RightVerdicts.{right_verdicts_are_true}
use Rattle.run_inputs.specs.TrueVerdicts.{IsTrueOf}

pub all_true : (net : Network) → IsValid net → (policies : List Policy) (vs : List Verdict) → AllZip (IsRight net) policies vs → AllZip (IsTrueOf net) policies vs
all_true net valid [] [] right = tt
all_true net valid [] (v ∷ vs) right = absurd right
all_true net valid (policy ∷ policies) [] right = absurd right
all_true net valid (policy ∷ policies) (v ∷ vs) right =
    (record { ends = right.0.ends; are_ends = right.0.are_ends; says = right_verdicts_are_true net valid policy v right.0 }, all_true net valid policies vs right.1)
