use Rattle.std.proofs.Common.{◌∙◌, ap, sym}
use Rattle.std.specs.List.{list_all}
use Rattle.std.proofs.lemmas.Bool.{false≢true}
use Rattle.net_model.specs.Witnesses.{is_yes}
use Rattle.net_laws.proofs.RightVerdicts.{all_decided}
use Rattle.arc_repair.proofs.Few.{show_few}
use Rattle.arc_repair.proofs.Yeses.{right_yeses}
use Rattle.arc_repair.proofs.judging.yeses.Goals as goal

pub returns-then-are_all_yes-clause-some : goal.returns-then-are_all_yes-clause-some
returns-then-are_all_yes-clause-some g c =
    right_yeses c.args.net.now c.args.policies.now c.in_ok-verdicts.verdicts c.in_ok-verdicts.ensures.right
    (sym (ap (list_all is_yes) c.slice.ensures.items) ∙ sym c.are_all_yes.ensures ∙ c.if-are_all_yes.true)

pub returns-then-are_all_yes-clause-few : goal.returns-then-are_all_yes-clause-few
returns-then-are_all_yes-clause-few g c =
    show_few c.args.net.now c.args.policies.now c.args.policies.now c.in_ok-verdicts.verdicts c.requires.failures c.in_ok-verdicts.ensures.right c.in_ok-verdicts.ensures.fixed

pub returns-else-are_all_yes-clause-none : goal.returns-else-are_all_yes-clause-none
returns-else-are_all_yes-clause-none g c = λ none all.
    let decided = all_decided c.args.net.now (c.verdicts_are_right.ensures.decide c.args.net.now c.requires.valid) c.args.policies.now c.in_ok-verdicts.verdicts c.in_ok-verdicts.ensures.right in
    false≢true (sym c.if-are_all_yes.false ∙ c.are_all_yes.ensures ∙ ap (list_all is_yes) c.slice.ensures.items ∙ decided.1 all)
