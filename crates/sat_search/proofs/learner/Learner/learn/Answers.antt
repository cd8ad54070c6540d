use Rattle.std.proofs.Common.{◌≤◌, ◌+◌, ◌∷◌, ◌++◌, [], ℕ, All, subst, sym, ap, ◌∙◌}
use Rattle.sat_core.specs.States.{State}
use Rattle.sat_search.specs.Orders.{IsOrder}
use Rattle.sat_search.proofs.Forgetting.{taught_above, ready_again}
use Rattle.sat_search.proofs.Unset.{waits_same}
use Rattle.sat_search.proofs.learner.Learner.learn.Goals as goal

pub enter-requires-clause-known : goal.enter-requires-clause-known
enter-requires-clause-known c = subst (λ (s : State). All (λ d. d.id ≤ s.last_id) s.clauses) (sym c.take_back.ensures.taken) c.of.ensures.sound.ids

pub enter-requires-clause-waiting : goal.enter-requires-clause-waiting
enter-requires-clause-waiting c = c.take_back.ensures.waiting
    (waits_same c.args.core.now.vars c.args.core.now.trail c.args.self.now.order c.remember.new.self c.requires.waiting c.remember.ensures.same)

pub returns-clause-teaches : goal.returns-clause-teaches
returns-clause-teaches c = taught_above c.args.core.now c.take_back.new.core c.enter.new.core c.args.log.now.steps c.enter.new.log.steps _ c.enter.result c.take_back.ensures.taken
    c.enter.ensures.teaches

pub returns-clause-ready : goal.returns-clause-ready
returns-clause-ready c =
    let s = c.args.core.now in
    let taught = taught_above s c.take_back.new.core c.enter.new.core c.args.log.now.steps c.enter.new.log.steps _ c.enter.result c.take_back.ensures.taken c.enter.ensures.teaches in
    let ids = c.in_ok-add.ensures.ids ∙ ap (λ (n : ℕ). c.args.self.now.lemmas.ids.items ++ (n + 1) ∷ []) (c.last_id.ensures ∙ ap (λ (b : State). b.last_id) c.take_back.ensures.taken) in
    let order = subst (λ (b : State). IsOrder b.vars c.enter.new.order) c.take_back.ensures.taken c.enter.ensures.order in
    ready_again s c.enter.new.core c.args.log.now.steps c.enter.new.log.steps c.args.self.now _ c.enter.result taught
    (c.of.ensures.size ∙ c.requires.ready.size) c.in_ok-lesson.ensures.none order c.requires.ready.lemmas ids c.add.ensures.drops c.in_ok-add.ensures.wait
