use Rattle.std.proofs.Common.{subst}
use Rattle.class_graph.specs.Barriers.{IsFirstBetween}
use Rattle.class_graph.proofs.barriers.first_barrier.Goals as goal

pub returns-in-Some : goal.returns-in-Some
returns-in-Some c = λ ends is. subst (IsFirstBetween c.args.net.now ends c.args.classes.now) c.in-Some.is (c.in_ok-denial.ensures ends is)

pub returns-in-Some-first_kept_out : goal.returns-in-Some-first_kept_out
returns-in-Some-first_kept_out c = λ ends is.
    (subst (IsFirstBetween c.args.net.now ends c.args.classes.now) c.in_default.is (c.in_ok-denial.ensures ends is), c.in-Some-first_kept_out.ensures.found ends is)

pub returns-in-None : goal.returns-in-None
returns-in-None c = λ ends is.
    (subst (IsFirstBetween c.args.net.now ends c.args.classes.now) c.in_default.is (c.in_ok-denial.ensures ends is), c.in-None.ensures.none ends is)
