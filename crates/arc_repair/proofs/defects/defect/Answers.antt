use Rattle.std.proofs.Common.{◌≤◌, sym, subst}
use Rattle.std.specs.Prelude.{IfOk, MatchOption}
use Rattle.edit_list.specs.declared.claims.Claim.{Claim}
use Rattle.arc_repair.specs.Checks.{HasFlagsOf, IsDefect}
use Rattle.arc_repair.specs.Claims.{IsRightClaim, claim_bound}
use Rattle.arc_repair.proofs.defects.defect.Goals as goal

pub repair_defect-requires-clause-flags : goal.repair_defect-requires-clause-flags
repair_defect-requires-clause-flags c = subst (λ (claim : Claim). HasFlagsOf c.args.list.now claim) c.in-Repaired.is c.requires.flags

pub repair_defect-requires-clause-bound : goal.repair_defect-requires-clause-bound
repair_defect-requires-clause-bound c = subst (λ (claim : Claim). claim_bound claim ≤ 512) c.in-Repaired.is c.requires.bound

pub returns-in-Repaired : goal.returns-in-Repaired
returns-in-Repaired c =
    subst (λ (claim : Claim). IfOk c.repair_defect.result
    (λ kind. MatchOption kind (IsRightClaim c.args.net.now c.args.doc.now c.args.list.now claim) (IsDefect c.args.net.now c.args.doc.now c.args.list.now claim)))
    (sym c.in-Repaired.is) c.repair_defect.ensures

pub returns-in-NoRepair : goal.returns-in-NoRepair
returns-in-NoRepair c =
    subst (λ (claim : Claim). IsRightClaim c.args.net.now c.args.doc.now c.args.list.now claim) (sym c.in-NoRepair.is) (subst
    (λ (claim : Claim). claim_bound claim ≤ 512) c.in-NoRepair.is c.requires.bound)
