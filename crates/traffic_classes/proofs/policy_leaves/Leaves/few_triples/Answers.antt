use Rattle.std.proofs.Common.{arith, ap, sym, ◌∙◌, length, List, ◌≡◌}
use Rattle.net_model.specs.declared.policies.Class.{Class}
use Rattle.traffic_classes.specs.Classes.{all_triples, told}
use Rattle.traffic_classes.proofs.Triples.{length-triples}
use Rattle.traffic_classes.proofs.policy_leaves.Leaves.few_triples.Goals as goal

pub returns-then-count-gt-CLASS_LIMIT-clause-many : goal.returns-then-count-gt-CLASS_LIMIT-clause-many
returns-then-count-gt-CLASS_LIMIT-clause-many c = (
  ap told (length-triples c.args.self.now.sources c.args.self.now.destinations c.args.self.now.services) ∙ sym c.count-count.ensures,
  omega (arith, c.if-count-gt-CLASS_LIMIT.true),
)

pub returns-clause-few : goal.returns-clause-few
returns-clause-few c =
    let made : length c.in_ok-of.field-0 ≡ length (all_triples c.args.self.now.sources c.args.self.now.destinations c.args.self.now.services) =
    ap (λ (l : List Class). length l) (c.in_ok-of.ensures.ok ∙ c.in_ok-triples.ensures) in
    omega (arith, made, length-triples c.args.self.now.sources c.args.self.now.destinations c.args.self.now.services, c.count-count.ensures, c.if-count-gt-CLASS_LIMIT.false)
