use Rattle.std.proofs.Common.{◌≡◌, ℕ, List, ap, subst, sym}
use Rattle.std.proofs.lemmas.Result.{IfOk-weaker}
use Rattle.edit_space.specs.Working.{AreJoined}
use Rattle.arc_base.specs.NameForms.{texts_at}
use Rattle.edit_space.proofs.NameSets.{joined_both}
use Rattle.edit_space.proofs.names.joined_names.Goals as goal

pub returns-clause-names : goal.returns-clause-names
returns-clause-names c =
    let both : List (List ℕ) = texts_at c.add_names-2.new.set.keys in
    let joined : AreJoined c.args.names.now c.args.more.now both =
    joined_both (texts_at c.new-set.result.keys) c.args.names.now c.args.more.now (texts_at c.add_names.new.set.keys) both
    (ap texts_at c.new-set.ensures.empty) c.in_ok-add_names.ensures c.in_ok-add_names-2.ensures in
    IfOk-weaker c.listed.result (λ (l : List (List ℕ)). l ≡ both) (AreJoined c.args.names.now c.args.more.now)
    (λ l e. subst (AreJoined c.args.names.now c.args.more.now) (sym e) joined) c.listed.ensures.names
