use Rattle.std.proofs.Common.{subst}
use Rattle.std.specs.Prelude.{MatchOption, Option}
use Rattle.repair_check.specs.declared.phases.Blocks.{Blocks}
use Rattle.repair_check.specs.Phases.{IsMispricedClaim, IsOpened}
use Rattle.repair_check.proofs.Leading.{mispriced_leads, opened_leads}
use Rattle.repair_check.proofs.judging.judge_after_edits.Goals as goal

pub returns-in-Some : goal.returns-in-Some
returns-in-Some c =
    let P : Option Blocks → Type 0 = λ o. MatchOption o (IsMispricedClaim c.args.doc.now c.args.list.now c.args.claim)
    (IsOpened c.args.net.now c.args.doc.now c.args.list.now c.args.claim c.args.number) in
    opened_leads c.args.net.now c.args.doc.now c.args.list.now c.args.claim c.args.number c.args.told c.requires.ends_edits c.in-Some.blocks
    (subst P c.in-Some.is c.in_ok-blocks.ensures.opened) _ (c.judge_block.ensures c.args.net.now c.args.list.now)

pub returns-in-None : goal.returns-in-None
returns-in-None c =
    let P : Option Blocks → Type 0 = λ o. MatchOption o (IsMispricedClaim c.args.doc.now c.args.list.now c.args.claim)
    (IsOpened c.args.net.now c.args.doc.now c.args.list.now c.args.claim c.args.number) in
    mispriced_leads c.args.net.now c.args.doc.now c.args.list.now c.args.claim c.args.number c.args.told c.requires.ends_edits _ c.rejected.ensures
    (subst P c.in-None.is c.in_ok-blocks.ensures.opened)
