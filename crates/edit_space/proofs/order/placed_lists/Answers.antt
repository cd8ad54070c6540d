use Rattle.std.proofs.Common.{◌≡◌, ◌≢◌, ℕ, ◌<◌, List, length, get_or, sym, subst, arith}
use Rattle.std.specs.Prelude.{All, AllPairs, Contains}
use Rattle.std.proofs.lemmas.List.{get_or_default}
use Rattle.std.proofs.lemmas.List.Elements.{All-contains}
use Rattle.arc_base.proofs.Items.{All-from}
use Rattle.edit_list.specs.Ordered.{IsKeyBefore}
use Rattle.edit_space.specs.declared.order.Keyed.{Keyed}
use Rattle.edit_space.specs.Working.{key_of, IsWithin, ArePlaces}
use Rattle.edit_space.proofs.Keys.{not_before_itself}
use Rattle.edit_space.proofs.Sorting.{same_by}
use Rattle.edit_space.proofs.order.placed_lists.Goals as goal

pub find_places-requires-clause-within : goal.find_places-requires-clause-within
find_places-requires-clause-within c =
    let Within : Keyed → Type 0 = λ k. IsWithin c.args.bound c.args.faces k.site in
    subst (λ (l : List Keyed). All Within l) (sym c.slice.ensures.items)
    (All-from Within c.in_ok-sorted.sorted (λ k there. All-contains Within c.args.lists.items k c.requires.within ((c.in_ok-sorted.ensures.same k).0 there)))

pub find_places-requires-clause-apart : goal.find_places-requires-clause-apart
find_places-requires-clause-apart c =
    let sorted : List Keyed = c.in_ok-sorted.sorted in
    let in_lists : (k : ℕ) (d : Keyed) → k < length sorted → Contains c.args.lists.items (get_or sorted k d) =
    λ k d l. (c.in_ok-sorted.ensures.same (get_or sorted k d)).0 (k, l, get_or_default sorted k (get_or sorted k d) d l) in
    subst (λ (l : List Keyed). AllPairs (λ (x : Keyed) (y : Keyed). x.site ≢ y.site) l) (sym c.slice.ensures.items) (λ i j d l m same.
    let one : get_or sorted i d ≡ get_or sorted j d = same_by (λ (k : Keyed). k.site) c.args.lists.items c.requires.sites (get_or sorted i d) (get_or sorted j d)
    (in_lists i d (omega (arith, l, m))) (in_lists j d m) same in
    not_before_itself (key_of (get_or sorted j d)) (subst (λ (k : Keyed). IsKeyBefore (key_of k) (key_of (get_or sorted j d))) one (c.in_ok-sorted.ensures.order i j d l m)))

pub returns : goal.returns
returns c = record {
  order = c.in_ok-sorted.ensures.order;
  same = c.in_ok-sorted.ensures.same;
  are =
      subst (λ (l : List Keyed). ArePlaces l c.in_ok-places.places) c.slice.ensures.items c.in_ok-places.ensures;
}
