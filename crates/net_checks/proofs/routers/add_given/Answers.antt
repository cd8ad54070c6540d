use Rattle.std.proofs.Common.{refl}
use Rattle.net_checks.proofs.Repeated.{number_added}
use Rattle.net_rules.proofs.Cases.{at_true, at_false}
use Rattle.net_rules.proofs.Keys.{inserted_number}
use Rattle.net_checks.proofs.routers.add_given.Goals as goal

pub returns-then-new : goal.returns-then-new
returns-then-new c =
    let said = at_true _ _ _ c.if-new.true
    (inserted_number c.args.numbers.now.keys c.insert_full.new.self.keys c.in-Some.given.value c.in_ok-_place.new c.in_ok-_place.ensures.added c.in_ok-_place.ensures.keys) in
    number_added c.args.numbers.now.keys c.insert_full.new.self.keys c.args.number c.in-Some.given c.in-Some.is said.0 said.1

pub returns : goal.returns
returns c = (
  c.in-Some.given,
  c.in-Some.is,
  refl,
  at_false _ _ _ c.if-new.false
      (inserted_number c.args.numbers.now.keys c.insert_full.new.self.keys c.in-Some.given.value c.in_ok-_place.new c.in_ok-_place.ensures.added c.in_ok-_place.ensures.keys),
)
