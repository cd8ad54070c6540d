use Rattle.network_edit_laws.proofs.SameClasses.{classes_stay}
use Rattle.network_edit_laws.proofs.SameHosts.{ends_stay}
use Rattle.std.specs.List.{AllZip}
use Rattle.std.proofs.lemmas.Option.{IfSome_then}
use Rattle.arc_repair.specs.Claims.{IsRightYes}
use Rattle.arc_repair.specs.Search.{AreYesAfter}
use Rattle.arc_repair.proofs.Yeses.{few_after}
use Rattle.arc_repair.proofs.Repaired.{meets_there}
use Rattle.arc_repair.proofs.judging.yeses_after.Goals as goal

pub yeses-requires-clause-ends : goal.yeses-requires-clause-ends
yeses-requires-clause-ends g c = λ k d l. ends_stay _ _ _ c.in_ok-after.ensures.after _ (c.requires.ends k d l)

pub yeses-requires-clause-classes : goal.yeses-requires-clause-classes
yeses-requires-clause-classes g c = few_after classes_stay c.args.net.now c.in_ok-after.after c.args.doc.now c.args.list.now c.args.chosen.now c.requires.edits
    c.in_ok-after.ensures.after c.requires.classes

pub returns-clause-some : goal.returns-clause-some
returns-clause-some g c =
    IfSome_then c.in_ok-verdicts.verdicts {P = AllZip (IsRightYes c.in_ok-after.after) c.args.doc.now.policies}
    {Q = AreYesAfter c.args.net.now c.args.doc.now c.args.list.now c.args.chosen.now} c.in_ok-verdicts.ensures.some
    (λ vs zip. record { after = c.in_ok-after.after; is_after = c.in_ok-after.ensures.after; judged = zip })

pub returns-clause-none : goal.returns-clause-none
returns-clause-none g c = λ none mends.
    c.in_ok-verdicts.ensures.none none
    (meets_there c.args.net.now c.args.doc.now c.args.list.now c.args.chosen.now c.in_ok-after.after c.requires.valid c.requires.countable c.in_ok-after.ensures.after mends)
