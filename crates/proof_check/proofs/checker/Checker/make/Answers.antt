use Rattle.std.proofs.Common.{◌≡◌, ◌∙◌, List, IfOk, subst}
use Rattle.cnf_types.specs.declared.clauses.Clause.{Clause}
use Rattle.proof_check.specs.Knowledge.{start}
use Rattle.proof_check.specs.View.{known}
use Rattle.proof_check.proofs.checker.Checker.make.Goals as goal

pub returns : goal.returns
returns c =
    let P : List Clause → Type 0 = λ clauses. IfOk c.over.result (λ checker. known checker ≡ start (record { vars = c.args.f.now.vars; clauses = clauses }) c.args.least c.args.tops.now) in
    subst P (c.in_ok-rows.ensures ∙ c.slice.ensures.items) c.over.ensures
