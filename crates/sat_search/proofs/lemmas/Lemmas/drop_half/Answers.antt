use Rattle.std.proofs.Common.{◌≡◌, ℕ, ◌+◌, ◌/◌, ◌≤◌, count_by, List, length, take, All, Contains, ap, sym, ◌∙◌, subst, arith}
use Rattle.std.proofs.lemmas.Bool.{false≢true}
use Rattle.proof_log.specs.declared.steps.Step.{Step}
use Rattle.sat_search.specs.declared.lemmas.Lemmas.{Lemmas}
use Rattle.sat_core.specs.States.{State}
use Rattle.sat_search.specs.Live.{clause_in}
use Rattle.sat_search.specs.DropSteps.{is_long}
use Rattle.sat_search.specs.Costs.{droppable}
use Rattle.sat_search.specs.Dropping.{old_lemmas, AreLemmas}
use Rattle.sat_search.proofs.Forgetting.{few_drops, first_go, lemmas_drop, drops_some}
use Rattle.sat_search.proofs.Named.{half_named, some_item}
use Rattle.sat_search.proofs.lemmas.Lemmas.drop_half.Goals as goal

pub dropped-requires : goal.dropped-requires
dropped-requires c = omega (arith, few_drops c.args.log.now.steps c.args.self.now c.requires.lemmas, c.requires.short)

pub returns-clause-lemmas : goal.returns-clause-lemmas
returns-clause-lemmas c =
    subst (λ (xs : List Step). AreLemmas xs c.dropped.new.self) (sym c.in_ok-push.ensures.ok)
    (lemmas_drop c.args.log.now.steps c.args.self.now c.dropped.new.self _ c.requires.lemmas (ap (λ (l : Lemmas). l.ids.items) c.dropped.ensures)
    (ap (λ (l : Lemmas). l.drops) c.dropped.ensures) (ap (λ (l : Lemmas). l.wait) c.dropped.ensures))

pub returns-clause-drops : goal.returns-clause-drops
returns-clause-drops c =
    let old = c.args.log.now.steps in
    let items = c.args.self.now.ids.items in
    let ids = c.in_ok-ids.ids in
    let size = ap length c.as_slice.ensures.value ∙ c.in_ok-used.ensures.size in
    let first = subst (λ (n : ℕ). All (Contains (take n items)) ids) size c.in_ok-ids.ensures.old in
    let may_go = first_go old c.args.self.now c.old.result ids c.requires.lemmas c.old.ensures first in
    let most : length ids ≤ (count_by (λ id. is_long (clause_in c.args.core.now.clauses id)) (take c.old.result items) + 1) / 2 =
    subst (λ (n : ℕ). length ids ≤ (count_by (λ id. is_long (clause_in c.args.core.now.clauses id)) (take n items) + 1) / 2) size c.in_ok-ids.ensures.most in
    let half = half_named c.args.core.now c.forget_half.new.core old c.args.self.now c.old.result ids c.requires.lemmas c.old.ensures c.in_ok-ids.ensures.forgets
    (some_item ids (λ none. false≢true (sym c.if-is_empty.false ∙ c.is_empty.ensures.1 none))) most in
    drops_some c.args.core.now c.forget_half.new.core c.compact.new.self old c.push.new.self ids c.in_ok-ids.ensures.forgets c.compact.ensures may_go c.in_ok-push.ensures.ok
    (sym c.requires.lemmas.wait ∙ c.requires.due) half

pub returns-clause-half : goal.returns-clause-half
returns-clause-half c = λ rise.
    let size : length c.as_slice.result.now ≡ old_lemmas c.args.self.now = ap length c.as_slice.ensures.value ∙ c.in_ok-used.ensures.size ∙ c.old.ensures in
    let many = ap (λ (n : ℕ). droppable c.args.self.now.ids.items n c.args.core.now) size in
    omega (arith, c.in_ok-ids.ensures.half rise, c.in_ok-ids.ensures.fewer, many, ap (λ (s : State). length s.clauses) c.compact.ensures)
