use Rattle.std.proofs.Common.{◌≡◌, sym, subst, Option, ℕ, Some}
use Rattle.std.specs.Prelude.{Contains, MatchOption, slice_get}
use Rattle.net_rules.specs.Names.{names_at}
use Rattle.net_rules.proofs.Keys.{same_key, name_at, same_key-Decides, placed, not_placed}
use Rattle.net_rules.proofs.names.place_of.Goals as goal

pub returns-in_err-place : goal.returns-in_err-place
returns-in_err-place c =
    let P : Type 0 = ¬ Contains (names_at c.args.names.now.keys) (c.args.router.now, c.args.face.now) in
    let Q : ℕ → Type 0 = λ place. slice_get (names_at c.args.names.now.keys) place ≡ Some (c.args.router.now, c.args.face.now) in
    subst (λ (o : Option ℕ). MatchOption o P Q) (sym c.from_residual.ensures)
    (not_placed same_key name_at same_key-Decides c.args.names.now.keys (c.args.router, c.args.face) (sym c.in_err-place.ensures.found))

pub returns : goal.returns
returns c =
    placed same_key name_at same_key-Decides c.args.names.now.keys (c.args.router, c.args.face) c.in_ok-place.place (sym c.in_ok-place.ensures.index)
