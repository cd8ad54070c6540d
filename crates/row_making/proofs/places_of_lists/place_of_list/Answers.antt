use Rattle.std.proofs.Common.{◌≡◌, List, ℕ, Option, Some, None, sym, ◌∙◌, ap, subst}
use Rattle.std.specs.Prelude.{is_some, IsSomeAnd, Contains, slice_get}
use Rattle.std.specs.Option.{option_copied}
use denote.Ref.{Bor}
use Rattle.arc_base.specs.declared.place.ListId.{ListId}
use Rattle.net_rules.specs.Lists.{keys_at, IsPlaceAmong}
use Rattle.net_rules.proofs.Keys.{placed, not_placed}
use Rattle.row_making.proofs.NamesKeys.{same_list_key, list_key_at, same_list_key-Decides}
use Rattle.row_making.proofs.places_of_lists.place_of_list.Goals as goal

pub returns-in_err-place : goal.returns-in_err-place
returns-in_err-place c =
    let keys = c.args.index.now.keys in
    subst (λ (o : Option ListId). IsPlaceAmong (keys_at keys) c.args.router (option_copied c.args.bound) o) (sym c.from_residual-in_err-place.ensures)
    (subst (λ (o : Option (Bor (List ℕ))). IsPlaceAmong (keys_at keys) c.args.router (option_copied o) None) (sym c.in_ok-name.was)
    (subst (λ (n : List ℕ). ¬ Contains (keys_at keys) (c.args.router, n)) c.bytes.ensures
    (not_placed same_list_key list_key_at same_list_key-Decides keys (c.args.router, c.bytes.result) (sym c.get_index_of.ensures.found ∙ ap is_some c.in_err-place.was))))

pub returns : goal.returns
returns c =
    let keys = c.args.index.now.keys in
    let place = c.in_ok-place.place in
    subst (λ (o : Option (Bor (List ℕ))). IsSomeAnd (option_copied o) (λ name. slice_get (keys_at keys) place ≡ Some (c.args.router, name))) (sym c.in_ok-name.was)
    (subst (λ (n : List ℕ). slice_get (keys_at keys) place ≡ Some (c.args.router, n)) c.bytes.ensures
    (placed same_list_key list_key_at same_list_key-Decides keys (c.args.router, c.bytes.result) place (sym c.get_index_of.ensures.index ∙ c.in_ok-place.was)))
