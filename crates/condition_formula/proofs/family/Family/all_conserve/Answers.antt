use Rattle.std.proofs.Common.{◌≡◌, ℕ, [], List, ap, ◌∙◌, arith}
use Rattle.std.specs.Prelude.{if◌then◌else◌, ◌==◌, ◌&&◌, not}
use Rattle.std.specs.List.{flat_map}
use Rattle.condition_formula.specs.declared.part.Part.{Part}
use Rattle.condition_formula.specs.Lists.{upto}
use Rattle.condition_formula.specs.Writing.{used_by}
use Rattle.condition_formula.specs.declared.pick.Pick.TheVariants.{OutOf, Into}
use Rattle.condition_formula.specs.Reaching.{node_parts}
use Rattle.condition_formula.proofs.Adding.{Adds-same, Adds-more, flat_map-filter, row-is}
use Rattle.condition_formula.proofs.family.Family.all_conserve.Goals as goal

pub conserves_between-requires-clause-out_of : goal.conserves_between-requires-clause-out_of
conserves_between-requires-clause-out_of c =
    row-is c.args.self.now.q.now OutOf c.args.self.now.nodes c.loop-node.node c.args.self.now.index.now.out_of c.requires.out_of c.loop-node-test.true

pub conserves_between-requires-clause-into : goal.conserves_between-requires-clause-into
conserves_between-requires-clause-into c =
    row-is c.args.self.now.q.now Into c.args.self.now.nodes c.loop-node.node c.args.self.now.index.now.into c.requires.into c.loop-node-test.true

pub loop-node-preserved : goal.loop-node-preserved
loop-node-preserved c =
    let f = λ (n : ℕ). let ps : List (List Part) = if not (n == c.args.self.now.q.now.source) && not (n == c.args.self.now.q.now.target) then node_parts c.args.self.now.q.now
    (used_by c.args.self.now) n else [] in ps in
    Adds-more f c.args.out.now c.loop-node.out c.conserves_between.new.out c.loop-node.node c.loop-node.invariant c.in_ok-conserves_between.ensures

pub returns : goal.returns
returns c =
    let used = used_by c.args.self.now in
    let q = c.args.self.now.q.now in
    let last : c.loop-node.node ≡ c.args.self.now.nodes = omega (arith, c.loop-node-test.false, c.loop-node.auto.node-end) in
    Adds-same _ _ _ _ (ap (λ (n : ℕ). flat_map (λ (k : ℕ). let ps : List (List Part) = if not (k == q.source) && not (k == q.target) then node_parts q used k else [] in ps) (upto n)) last
    ∙ flat_map-filter (node_parts q used) (λ (k : ℕ). not (k == q.source) && not (k == q.target)) (upto c.args.self.now.nodes)) c.loop-node.invariant
