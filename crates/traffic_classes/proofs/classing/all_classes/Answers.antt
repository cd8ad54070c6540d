use Rattle.std.proofs.Common.{◌≡◌, ◌≤◌, ◌*◌, ◌+◌, ℕ, List, length, take, subst, sym, ap, ◌∙◌, arith}
use Rattle.std.specs.Prelude.{count_by, fold}
use Rattle.std.proofs.lemmas.Result.{err_from_is_err_and}
use Rattle.net_model.specs.declared.policies.Class.{Class}
use Rattle.net_model.specs.declared.policies.Policy.{Policy}
use Rattle.traffic_classes.specs.Classes.{all_triples, told, AreClasses}
use Rattle.traffic_classes.specs.AllClasses.{AreAllClasses, FirstHaveMore, with_class, lies_off}
use Rattle.traffic_classes.proofs.Marked.{made}
use Rattle.traffic_classes.proofs.Triples.{length-triples}
use Rattle.traffic_classes.proofs.Unions.{next_classes, next_count, next_have, counts_more, tell_apart}
use Rattle.std.proofs.lemmas.List.{take_all}
use Rattle.traffic_classes.specs.Parts.{TellApart}
use Rattle.traffic_classes.proofs.classing.all_classes.Goals as goal

pub returns-in_err-add-clause-many : goal.returns-in_err-add-clause-many
returns-in_err-add-clause-many c =
    let are : AreClasses c.args.net.now c.args.policies.now c.policy-item.result (all_triples c.in_ok-leaves.leaves.sources c.in_ok-leaves.leaves.destinations c.in_ok-leaves.leaves.services) =
    made c.args.net.now c.args.policies.now c.in_ok-marks.marks c.in_ok-marks.ensures c.policy-item.result
    c.in_ok-leaves.leaves.sources c.in_ok-leaves.leaves.destinations c.in_ok-leaves.leaves.services
    c.in_ok-leaves.ensures.sources c.in_ok-leaves.ensures.destinations c.in_ok-leaves.ensures.services in
    let P : ℕ → Type 0 = λ n. told
    (length c.in_ok-leaves.leaves.sources * length c.in_ok-leaves.leaves.destinations * length c.in_ok-leaves.leaves.services + count_by
    (lies_off c.policy-item.result) c.loop-policy.found.classes.items) ≡ n in
    let have : (n : ℕ) → P n → FirstHaveMore c.args.net.now c.args.policies.now n =
    λ n said. next_have c.args.net.now c.args.policies.now c.slice-policy-items.result.now c.loop-policy.policy-index c.policy-item.result
    c.slice-policy-items.ensures.items c.loop-policy-test.true c.policy-item.is c.loop-policy.found.classes.items
    (all_triples c.in_ok-leaves.leaves.sources c.in_ok-leaves.leaves.destinations c.in_ok-leaves.leaves.services) c.loop-policy.invariant.are are n c.loop-policy.invariant.few
    (ap (λ (x : ℕ). told (x + count_by (lies_off c.policy-item.result) c.loop-policy.found.classes.items))
    (length-triples c.in_ok-leaves.leaves.sources c.in_ok-leaves.leaves.destinations c.in_ok-leaves.leaves.services) ∙ said) in
    let p = err_from_is_err_and c.from_residual-in_err-add.result c.from_residual-in_err-add.ensures.1 in
    rw (p.1, p.2) (counts_more P (FirstHaveMore c.args.net.now c.args.policies.now) have c.in_err-add.field-0.0 c.in_err-add.ensures.many)

pub loop-policy-preserved : goal.loop-policy-preserved
loop-policy-preserved c =
    let are : AreClasses c.args.net.now c.args.policies.now c.policy-item.result (all_triples c.in_ok-leaves.leaves.sources c.in_ok-leaves.leaves.destinations c.in_ok-leaves.leaves.services) =
    made c.args.net.now c.args.policies.now c.in_ok-marks.marks c.in_ok-marks.ensures c.policy-item.result
    c.in_ok-leaves.leaves.sources c.in_ok-leaves.leaves.destinations c.in_ok-leaves.leaves.services
    c.in_ok-leaves.ensures.sources c.in_ok-leaves.ensures.destinations c.in_ok-leaves.ensures.services in
    let number : length (fold with_class c.loop-policy.found.classes.items (all_triples c.in_ok-leaves.leaves.sources c.in_ok-leaves.leaves.destinations c.in_ok-leaves.leaves.services)) ≡
    length (all_triples c.in_ok-leaves.leaves.sources c.in_ok-leaves.leaves.destinations c.in_ok-leaves.leaves.services) + count_by (lies_off c.policy-item.result) c.loop-policy.found.classes.items =
    next_count c.args.net.now c.args.policies.now c.slice-policy-items.result.now c.loop-policy.policy-index c.policy-item.result
    c.slice-policy-items.ensures.items c.loop-policy-test.true c.policy-item.is c.loop-policy.found.classes.items
    (all_triples c.in_ok-leaves.leaves.sources c.in_ok-leaves.leaves.destinations c.in_ok-leaves.leaves.services) c.loop-policy.invariant.are are in
    let same : length c.add.new.self.classes.items ≡ length
    (fold with_class c.loop-policy.found.classes.items (all_triples c.in_ok-leaves.leaves.sources c.in_ok-leaves.leaves.destinations c.in_ok-leaves.leaves.services)) =
    ap (λ (l : List Class). length l) c.in_ok-add.ensures.added in
    record {
      indexed = c.in_ok-add.ensures.indexed;
      are = subst (λ (l : List Class). AreAllClasses c.args.net.now c.args.policies.now (take (c.loop-policy.policy-index + 1) c.args.policies.now) l) (sym c.in_ok-add.ensures.added)
          (next_classes c.args.net.now c.args.policies.now c.slice-policy-items.result.now c.loop-policy.policy-index c.policy-item.result
          c.slice-policy-items.ensures.items c.loop-policy-test.true c.policy-item.is c.loop-policy.found.classes.items
          (all_triples c.in_ok-leaves.leaves.sources c.in_ok-leaves.leaves.destinations c.in_ok-leaves.leaves.services) c.loop-policy.invariant.are are);
      few = omega (arith, number, same, c.in_ok-add.ensures.few, length-triples c.in_ok-leaves.leaves.sources c.in_ok-leaves.leaves.destinations c.in_ok-leaves.leaves.services);
    }

pub returns-clause-parts : goal.returns-clause-parts
returns-clause-parts c =
    let gone : length c.args.policies.now ≤ c.loop-policy.policy-index = omega (arith, ap (λ (l : List Policy). length l) c.slice-policy-items.ensures.items, c.loop-policy-test.false) in
    let all : AreAllClasses c.args.net.now c.args.policies.now c.args.policies.now c.loop-policy.found.classes.items =
    subst (λ (l : List Policy). AreAllClasses c.args.net.now c.args.policies.now l c.loop-policy.found.classes.items)
    (take_all c.loop-policy.policy-index c.args.policies.now gone) c.loop-policy.invariant.are in
    subst (λ (l : List Class). TellApart c.args.net.now c.args.policies.now l) (sym c.in_ok-of.ensures.ok)
    (tell_apart c.args.net.now c.args.policies.now c.loop-policy.found.classes.items all)
