use Rattle.std.proofs.Common.{◌≡◌, ℕ, List, length, sym, subst}
use Rattle.std.proofs.lemmas.Result.{err_from_is_err_and}
use Rattle.net_model.specs.declared.policies.Class.{Class}
use Rattle.net_model.specs.declared.policies.Policy.{Policy}
use Rattle.net_model.specs.declared.rows.Network.{Network}
use Rattle.net_model.specs.Packets.{subject}
use Rattle.traffic_classes.specs.Classes.{AreMarks, AreClasses, HasClasses, all_triples, told}
use Rattle.traffic_classes.specs.Parts.{MakeUp}
use Rattle.traffic_classes.proofs.MakingUp.{classes_make_up}
use Rattle.traffic_classes.proofs.Marked.{made}
use Rattle.traffic_classes.proofs.Unions.{counts_more}
use Rattle.traffic_classes.proofs.marks.Marks.classes.Goals as goal

pub returns-in_err-few_triples-clause-many : goal.returns-in_err-few_triples-clause-many
returns-in_err-few_triples-clause-many c =
    let triples : List Class = all_triples c.in_ok-leaves.leaves.sources c.in_ok-leaves.leaves.destinations c.in_ok-leaves.leaves.services in
    let has : (n : ℕ) → told (length triples) ≡ n → (net : Network) (policies : List Policy) → AreMarks net policies c.args.self.now → HasClasses net policies c.args.policy.now n =
    λ n said net policies are. record {
      classes = triples;
      are = made net policies c.args.self.now are c.args.policy.now c.in_ok-leaves.leaves.sources c.in_ok-leaves.leaves.destinations c.in_ok-leaves.leaves.services
          c.in_ok-leaves.ensures.sources c.in_ok-leaves.ensures.destinations c.in_ok-leaves.ensures.services;
      counted = said;
    } in
    let p = err_from_is_err_and c.from_residual-in_err-few_triples.result c.from_residual-in_err-few_triples.ensures.1 in
    rw (p.1, p.2) (counts_more (λ n. told (length triples) ≡ n) (λ n. (net : Network) (policies : List Policy) → AreMarks net policies c.args.self.now → HasClasses net policies c.args.policy.now n)
    has c.in_err-few_triples.field-0.0 c.in_err-few_triples.ensures.many)

pub returns-clause-classes : goal.returns-clause-classes
returns-clause-classes c = λ net policies are.
    subst (AreClasses net policies c.args.policy.now) (sym c.in_ok-few_triples.ensures.triples)
    (made net policies c.args.self.now are c.args.policy.now c.in_ok-leaves.leaves.sources c.in_ok-leaves.leaves.destinations c.in_ok-leaves.leaves.services
    c.in_ok-leaves.ensures.sources c.in_ok-leaves.ensures.destinations c.in_ok-leaves.ensures.services)

pub returns-clause-parts : goal.returns-clause-parts
returns-clause-parts c = λ net policies are.
    subst (MakeUp net (subject c.args.policy.now)) (sym c.in_ok-few_triples.ensures.triples)
    (classes_make_up net policies c.args.policy.now _
    (made net policies c.args.self.now are c.args.policy.now c.in_ok-leaves.leaves.sources c.in_ok-leaves.leaves.destinations c.in_ok-leaves.leaves.services
    c.in_ok-leaves.ensures.sources c.in_ok-leaves.ensures.destinations c.in_ok-leaves.ensures.services))
