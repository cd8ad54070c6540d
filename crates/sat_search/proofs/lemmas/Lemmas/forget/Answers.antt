use Rattle.std.proofs.Common.{◌≡◌, ◌≢◌, List, ℕ, length, take, AllPairs, Contains, refl, sym, subst}
use Rattle.sat_core.specs.Forgotten.{without_clause}
use Rattle.sat_core.specs.States.{State}
use Rattle.sat_core.specs.Trails.{id_at}
use Rattle.sat_search.specs.Dropping.{ForgetsMore}
use Rattle.sat_search.specs.Costs.{costing}
use Rattle.sat_search.proofs.Costs.{before_costs}
use Rattle.sat_search.proofs.Forgetting.{more_one, different_then, old_more}
use Rattle.sat_search.proofs.lemmas.Lemmas.forget.Goals as goal

pub returns-in_ok-push-in-Some-clause-forgets : goal.returns-in_ok-push-in-Some-clause-forgets
returns-in_ok-push-in-Some-clause-forgets c =
    let s = c.args.core.now in
    subst (λ (now : State). ForgetsMore s c.args.ids.now now c.push.new.self) (sym c.forget.ensures)
    (subst (λ (ids : List ℕ). ForgetsMore s c.args.ids.now (without_clause s c.args.held) ids) (sym c.in_ok-push-in-Some.ensures.ok)
    (more_one s c.args.ids.now c.args.held c.id.result c.requires.different c.id.ensures (c.in-Some.ensures.long refl)))

pub returns-in_ok-push-in-Some-clause-different : goal.returns-in_ok-push-in-Some-clause-different
returns-in_ok-push-in-Some-clause-different c =
    subst (λ (now : State). AllPairs (λ a b. a.id ≢ b.id) now.clauses) (sym c.forget.ensures) (different_then c.args.core.now c.args.held c.id.result c.requires.different c.id.ensures)

pub returns-in_ok-push-in-Some-clause-old : goal.returns-in_ok-push-in-Some-clause-old
returns-in_ok-push-in-Some-clause-old c =
    old_more (Contains (take (length c.args.used.now) c.args.self.now.ids.items)) (id_at c.args.core.now.clauses c.args.held) c.args.ids.now c.push.new.self
    c.id.result (c.in-Some.ensures.old refl) c.id.ensures c.in_ok-push-in-Some.ensures.ok

pub returns-in_ok-push-in-Some-clause-before : goal.returns-in_ok-push-in-Some-clause-before
returns-in_ok-push-in-Some-clause-before c = λ n low.
    subst (λ (now : State). costing c.args.self.now c.args.used.now c.args.least now n ≡ costing c.args.self.now c.args.used.now c.args.least c.args.core.now n) (sym c.forget.ensures)
    (before_costs c.args.self.now c.args.used.now c.args.least c.args.core.now c.args.held n c.requires.held low)
