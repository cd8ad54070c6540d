use Rattle.std.proofs.Common.{List, sym, subst}
use Rattle.std.proofs.lemmas.Result.{IfOk-weaker}
use Rattle.net_model.specs.declared.verdicts.LinkPath.{LinkPath}
use Rattle.net_model.specs.declared.verdicts.Verdict.TheVariants.{Paths}
use Rattle.class_graph.proofs.FirstBetween.{together_of, apart_of}
use Rattle.verdicts.specs.Judged.{IsReachVerdict}
use Rattle.verdicts.proofs.Verdicts.{no_paths, settled}
use Rattle.verdicts.proofs.reach.judge_open.Goals as goal

pub returns-then-pair : goal.returns-then-pair
returns-then-pair c = λ ends whole classes is parts undenied all.
    subst (λ (paths : List LinkPath). IsReachVerdict c.args.net.now ends c.args.failures whole classes (Paths paths)) (sym c.make.ensures)
    (no_paths c.args.net.now ends c.args.failures whole classes parts (together_of c.args.net.now ends c.args.pair.now is c.if-pair.true) all)

pub returns-else-pair : goal.returns-else-pair
returns-else-pair c =
    IfOk-weaker c.paths_or_cut.result _ _
    (λ v shown. λ ends whole classes is parts undenied all.
    settled c.args.net.now ends c.args.failures whole classes parts (apart_of c.args.net.now ends c.args.pair.now is c.if-pair.false) undenied all v (shown ends is))
    c.paths_or_cut.ensures
