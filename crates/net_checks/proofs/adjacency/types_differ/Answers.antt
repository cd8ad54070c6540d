use Rattle.std.proofs.Common.{sym, ◌∙◌}
use Rattle.net_checks.proofs.Adjacencies.{test_types}
use Rattle.net_checks.proofs.adjacency.types_differ.Goals as goal

pub returns : goal.returns
returns c =
    test_types c.args.configs.now c.args.link.now c.in-Some.a c.in-Some-type_at.b (sym c.in-Some.is ∙ c.type_at.ensures) (sym c.in-Some-type_at.is ∙ c.type_at-2.ensures)
