use Rattle.std.proofs.Common.{sym, ◌∙◌}
use Rattle.std.proofs.lemmas.Bool.{false≢true}
use Rattle.witness_check.specs.Cases.{ends_in}
use Rattle.witness_check.proofs.UniformClasses.{right_sides, each_stands_of, each_keeps_of}
use Rattle.witness_check.proofs.cases.Case.are_right_sides.Goals as goal

pub returns-then-each_stands : goal.returns-then-each_stands
returns-then-each_stands c = (
  λ t. right_sides c.args.self.now.net.now (ends_in c.args.self.now) c.args.kind c.args.self.now.whole c.args.sides.now
      (sym c.packets_of_all.ensures ∙ c.if-packets_of_all-packets.false ∙ c.packets.ensures.packets) (c.are_apart.ensures.0 c.if-not-are_apart.false)
      (c.each_stands.ensures.0 c.if-each_stands.true) (c.each_keeps.ensures.0 t),
  λ right. c.each_keeps.ensures.1 (each_keeps_of c.args.self.now.net.now (ends_in c.args.self.now) c.args.kind c.args.self.now.whole c.args.sides.now right),
)

pub returns-else-each_stands : goal.returns-else-each_stands
returns-else-each_stands c = (
  λ t. absurd (false≢true (sym c.if-each_stands.false ∙ t)),
  λ right. c.each_stands.ensures.1 (each_stands_of c.args.self.now.net.now (ends_in c.args.self.now) c.args.kind c.args.self.now.whole c.args.sides.now right),
)
