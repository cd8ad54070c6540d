use Rattle.std.proofs.Common.{sym, ◌∙◌, ap, subst, true≢false}
use Rattle.arc_base.specs.PrefixText.{number_of, BeginsAsNumber}
use Rattle.arc_base.proofs.NumberTexts.{number_of-begins, number_of-utf8, parsed-number_of}
use Rattle.arc_base.proofs.prefix_text.read_number.Goals as goal

pub returns-then-not-begins_as_number : goal.returns-then-not-begins_as_number
returns-then-not-begins_as_number c =
    sym (number_of-begins _ (λ begins. true≢false (sym (c.begins_as_number.ensures.1 begins) ∙ c.if-not-begins_as_number.true)))

pub returns-in-Err : goal.returns-in-Err
returns-in-Err c = sym (number_of-utf8 _ c.in-Err.ensures.cases.0)

pub returns-in-Ok : goal.returns-in-Ok
returns-in-Ok c =
    let same = c.in-Ok.ensures.cases.0 in
    let begins = subst BeginsAsNumber (sym same) (c.begins_as_number.ensures.0 c.if-not-begins_as_number.false) in
    c.ok.ensures.value ∙ parsed-number_of _ _ begins c.parse.ensures.value.0 ∙ ap number_of same
