-- The keys of lists, one after another.
use Rattle.std.proofs.Common.{◌≡◌, ℕ, ◌+◌, ◌<◌, ◌≤◌, Option, Some, None, List, [], ◌∷◌, ◌++◌, length, get_or, take, map, sym, ◌∙◌, ap}
use Rattle.std.specs.Prelude.{option_map}
use Rattle.std.specs.List.{filter_map, cons_option}
use Rattle.std.proofs.lemmas.List.{append-nil, append_assoc}
use Rattle.arc_base.specs.declared.place.Face.{Face}
use Rattle.edit_list.specs.Ordered.{Key}
use Rattle.edit_list.specs.declared.list_kinds.NewList.{NewList}
use Rattle.edit_list.specs.declared.sites.Site.TheVariants.{New}
use Rattle.arc_base.specs.Numbered.{placed}
use Rattle.edit_space.specs.declared.new_lists.Named.{Named}
use Rattle.edit_space.specs.declared.order.Keyed.{Keyed}
use Rattle.edit_space.specs.Working.{old_key, new_key, new_key_by}
use Rattle.arc_base.proofs.Grouped.{picked_more}
use Rattle.edit_list.proofs.Placing.{placed_mapped, placed_all_mapped}

-- those of lists that there were
module _ {X : Type 0} (key : X → Key) where
  abbrev key_at : ℕ × X → Keyed
  key_at list = old_key list.0 (key list.1).0 (key list.1).1

  abbrev pub old_keys : List X → List Keyed
  old_keys lists = map key_at (placed lists)

  pub old_keys_more : (lists : List X) (i : ℕ) (list : X) (now next : List Keyed) (called : List ℕ) → i < length lists → list ≡ get_or lists i list →
      called ≡ (key list).1 → now ≡ map key_at (take i (placed lists)) → next ≡ now ++ old_key i (key list).0 called ∷ [] →
      next ≡ map key_at (take (i + 1) (placed lists))
  old_keys_more lists i list now next called within is same was grown =
      placed_mapped key_at lists i list now next (old_key i (key list).0 called) within is (ap (old_key i (key list).0) same) was grown

  pub old_keys_all : (lists : List X) (i : ℕ) (now : List Keyed) → length lists ≤ i → now ≡ map key_at (take i (placed lists)) → now ≡ old_keys lists
  old_keys_all = placed_all_mapped key_at

-- those of new lists, behind what was there
module _ (face : NewList → Option Face) (lists : List Named) (i : ℕ) (one : Named) (before now : List Keyed) where
  pub new_keys_more : (next : List Keyed) (f : Face) (called : List ℕ) → i < length lists → one ≡ get_or lists i one → face one.list ≡ Some f →
      called ≡ one.name → now ≡ before ++ filter_map (new_key_by face) (take i lists) →
      next ≡ now ++ record { router = one.router; name = called; site = New f } ∷ [] → next ≡ before ++ filter_map (new_key_by face) (take (i + 1) lists)
  new_keys_more next f called within is at same was grown =
      let key : List ℕ → Keyed = λ n. record { router = one.router; name = n; site = New f } in
      let some : new_key_by face one ≡ Some (key called) = ap (option_map (new_key one)) at ∙ ap (λ n. Some (key n)) (sym same) in
      grown ∙ ap (λ l. l ++ key called ∷ []) was ∙ append_assoc before (filter_map (new_key_by face) (take i lists)) (key called ∷ []) ∙
      ap (λ l. before ++ l) (ap (λ o. filter_map (new_key_by face) (take i lists) ++ cons_option o []) (sym some) ∙ sym (picked_more (new_key_by face) lists i one within is))

  pub no_new_key : i < length lists → one ≡ get_or lists i one → face one.list ≡ None → now ≡ before ++ filter_map (new_key_by face) (take i lists) →
      now ≡ before ++ filter_map (new_key_by face) (take (i + 1) lists)
  no_new_key within is at was =
      was ∙ ap (λ l. before ++ l) (sym (append-nil (filter_map (new_key_by face) (take i lists))) ∙ ap
      (λ o. filter_map (new_key_by face) (take i lists) ++ cons_option (option_map (new_key one) o) []) (sym at) ∙
      sym (picked_more (new_key_by face) lists i one within is))
