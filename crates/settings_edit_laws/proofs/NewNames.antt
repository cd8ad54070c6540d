-- The new lists of a router and their names.
use Rattle.std.proofs.Common.{◌≡◌, ℕ, zero, suc, ◌<◌, inl, inr, false}
use Rattle.std.proofs.Common.{Some, List, [], ◌∷◌, length, ◌∙◌, ap, subst, arith}
use Rattle.std.specs.Prelude.{Contains, slice_get, slice_index_or}
use Rattle.std.specs.List.{zip}
use Rattle.std.proofs.lemmas.Option.{none-some, same_Some, slice_get-get_or}
use Rattle.arc_base.proofs.Items.{Contains-head, Contains-tail, Contains-cases, Contains-none}
use Rattle.net_model.specs.declared.rows.Network.{Network}
use Rattle.net_model.specs.Validity.{IsValid}
use Rattle.edit_list.specs.Determined.{IsCountable}
use Rattle.edit_list.specs.declared.edit_kinds.Edit.{Edit}
use Rattle.edit_list.specs.declared.list_kinds.NewList.{NewList}
use Rattle.edit_list.specs.NewLists.{new_lists_of, names_of, new_names_of, IsNewList, named_lists}
use Rattle.arc_base.specs.Numbered.{if_number, is_empty}
use Rattle.edit_space.specs.declared.new_lists.Named.{Named}
use Rattle.edit_space.specs.Working.{AreMade}
use Rattle.edit_space.proofs.Bound as bound
use Rattle.edit_space.proofs.NamedFacts as facts
use Rattle.edit_space.proofs.SomeNames.{names_made, named_made}
use Rattle.edit_list.proofs.RowFacts.{item_of}
use Rattle.edit_list.proofs.Apart.{number_told}
use Rattle.net_model.specs.declared.rows.FaceRow.{FaceRow}
use Rattle.net_model.specs.declared.rows.SessionRow.{SessionRow}
use Rattle.edit_list.specs.declared.list_kinds.NewList.TheVariants.{Route, Packet}
use Rattle.edit_list.specs.Changes.{new_prefixes, new_classes}

-- what stands in a zip stands at one place in both
pub zip_places : {X Y : Type 0} (xs : List X) (ys : List Y) (p : X × Y) → Contains (zip xs ys) p → (k : ℕ) × (slice_get xs k ≡ Some p.0) × (slice_get ys k ≡ Some p.1)
zip_places {X} {Y} (x ∷ xs) (y ∷ ys) p there = elim (Contains-cases (x, y) p (zip xs ys) there) [
  | inl here ↦ (0, ap (λ (q : X × Y). Some q.0) here, ap (λ (q : X × Y). Some q.1) here)
  | inr later ↦ let r = zip_places xs ys p later in (suc r.0, r.1, r.2)
]
zip_places xs other p there = absurd (Contains-none p there)

pub zip_there : {X Y : Type 0} (xs : List X) (ys : List Y) (k : ℕ) (x : X) (y : Y) → slice_get xs k ≡ Some x → slice_get ys k ≡ Some y → Contains (zip xs ys) (x, y)
zip_there [] ys k x y a b = absurd (none-some x a)
zip_there (z ∷ xs) [] k x y a b = absurd (none-some y b)
zip_there {X} {Y} (z ∷ xs) (w ∷ ys) zero x y a b =
    let same : (z, w) ≡ (x, y) = λ i. (same_Some z x a i, same_Some w y b i) in
    subst (λ (q : X × Y). Contains ((z, w) ∷ zip xs ys) q) same (Contains-head (z, w) (zip xs ys))
zip_there (z ∷ xs) (w ∷ ys) (suc k) x y a b = Contains-tail (z, w) (x, y) (zip xs ys) (zip_there xs ys k x y a b)

pub numbered : {X : Type 0} (number : ℕ) (thing : ℕ × X) (x : X) → if_number number thing ≡ Some x → (thing.0 ≡ number) × (thing.1 ≡ x)
numbered number thing x e = number_told number thing x e

module _ (net : Network) (valid : IsValid net) (small : IsCountable net) (chosen : List Edit) where
  abbrev names : List (List (List ℕ))
  names = names_made net valid small chosen

  made : (named : List Named) × AreMade net chosen names named
  made = named_made net valid small chosen

  -- a list has one name
  pub one_name : (router : ℕ) (list : NewList) (x y : List ℕ) → IsNewList net chosen router list x → IsNewList net chosen router list y → x ≡ y
  one_name = facts.one_name net valid chosen names made.0 made.1.new_names made.1.are_named

  -- the name of a new list is none of the router's
  pub name_is_new : (router : ℕ) (list : NewList) (name : List ℕ) → IsNewList net chosen router list name → ¬ Contains (names_of net router) name
  name_is_new router list name new = (facts.name_is_new net valid chosen names made.0 made.1.new_names made.1.are_named router list name made.1.few new).0

  -- two new lists of a router with one name are the same
  pub one_list : (router : ℕ) (x y : NewList) (name : List ℕ) → IsNewList net chosen router x name → IsNewList net chosen router y name → x ≡ y
  one_list router x y name this that = facts.one_list net valid chosen names made.0 made.1.new_names made.1.are_named router x y name made.1.few this that

  -- each name is that of a new list
  pub list_of_name : (router : ℕ) → router < length net.routers → (name : List ℕ) → Contains (new_names_of net chosen router) name → (list : NewList) × IsNewList net chosen router list name
  list_of_name router low name (k, l, e) =
      let at_router : slice_index_or names router [] ≡ new_names_of net chosen router = facts.names_at net valid chosen names made.0 made.1.new_names made.1.are_named router low in
      let at = item_of (new_lists_of net chosen router) k (omega (arith, l, ap length at_router, made.1.new_names.counted router low)) in
      (at.0, record { place = k; list_is = at.1; name_is = slice_get-get_or (new_names_of net chosen router) k name l ∙ ap Some e })

  -- the new lists with their names
  pub new_of_named : (router : ℕ) (pair : NewList × List ℕ) → Contains (named_lists net chosen router) pair → IsNewList net chosen router pair.0 pair.1
  new_of_named router pair there =
      let r = zip_places (new_lists_of net chosen router) (new_names_of net chosen router) pair there in
      record { place = r.0; list_is = r.1; name_is = r.2 }

  pub named_of_new : (router : ℕ) (list : NewList) (name : List ℕ) → IsNewList net chosen router list name → Contains (named_lists net chosen router) (list, name)
  named_of_new router list name new = zip_there (new_lists_of net chosen router) (new_names_of net chosen router) new.place list name new.list_is new.name_is

  -- the edits make a new list for an interface for which they have entries
  pub route_list_there : (session : SessionRow) (row : FaceRow) → Contains net.sessions session → slice_get net.faces session.face.0 ≡ Some row →
      is_empty (new_prefixes chosen session.face.0) ≡ false →
      (name : List ℕ) × IsNewList net chosen row.router.0 (Route session.face) name
  route_list_there = bound.route_name net valid chosen names made.0 made.1.new_names made.1.are_named

  pub packet_list_there : (place : ℕ) (row : FaceRow) → slice_get net.faces place ≡ Some row → is_empty (new_classes chosen place) ≡ false →
      (name : List ℕ) × IsNewList net chosen row.router.0 (Packet (record { 0 = place })) name
  packet_list_there = bound.packet_name net valid chosen names made.0 made.1.new_names made.1.are_named
