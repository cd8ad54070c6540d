use Rattle.std.proofs.Common.{sym, ◌∙◌, ap}
use Rattle.std.specs.Option.{option_copied}
use Rattle.std.proofs.lemmas.Bool.{false≢true}
use Rattle.net_rules.specs.Lists.{if_defined}
use Rattle.row_making.proofs.ListsTables.{defined_none, defined_some}
use Rattle.row_making.proofs.lists.defined.Goals as goal

pub returns-then-is_empty : goal.returns-then-is_empty
returns-then-is_empty c = sym (defined_none (option_copied c.args.found) c.in_ok-list.list.now (ap option_copied c.in_ok-list.was) (c.is_empty.ensures.0 c.if-is_empty.true))

pub returns : goal.returns
returns c =
    sym (defined_some (option_copied c.args.found) c.in_ok-list.list.now (ap option_copied c.in_ok-list.was) (λ none. false≢true (sym c.if-is_empty.false ∙ c.is_empty.ensures.1 none)))

pub returns-in_err-list : goal.returns-in_err-list
returns-in_err-list c = ap option_copied c.from_residual.ensures ∙ sym (ap if_defined (ap option_copied c.in_err-list.was))
