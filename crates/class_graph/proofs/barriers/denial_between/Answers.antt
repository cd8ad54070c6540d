use Rattle.std.proofs.Common.{inl}
use Rattle.std.proofs.lemmas.Result.{IfOk-weaker}
use Rattle.class_graph.proofs.FirstBetween.{together_of, first_between}
use Rattle.class_graph.proofs.barriers.denial_between.Goals as goal

pub returns-then-pair : goal.returns-then-pair
returns-then-pair c = λ ends is. inl (together_of c.args.net.now ends c.args.pair.now is c.if-pair.true)

pub returns-else-pair : goal.returns-else-pair
returns-else-pair c =
    IfOk-weaker c.first_denial.result _ _
    (λ found first. λ ends is. first_between c.args.net.now ends c.args.pair.now is c.if-pair.false c.args.classes.now found first)
    c.first_denial.ensures
