-- The new lists of a valid network have names, whatever the edits; so each network after edits is valid.
use Rattle.std.proofs.Common.{◌≡◌, ℕ, zero, suc, ◌+◌, ◌<◌, ◌≤◌, ◌^◌, Some, List, [], ◌∷◌, ◌++◌, length, get_or, take, map, refl, ◌∙◌, ap, subst, arith}
use Rattle.std.specs.Prelude.{slice_get, slice_index, slice_index_or}
use Rattle.std.specs.List.{filter_map, range_with_len}
use Rattle.std.proofs.lemmas.List.{get_or_default}
use Rattle.net_model.specs.declared.rows.Network.{Network}
use Rattle.net_model.specs.Validity.{IsValid}
use Rattle.arc_base.specs.NameForms.{IsName}
use Rattle.net_model.proofs.Readings.{item_at_place}
use Rattle.std.proofs.lemmas.Option.{slice_get-get_or}
use Rattle.edit_list.specs.declared.edit_kinds.Edit.{Edit}
use Rattle.edit_list.specs.declared.list_kinds.NewList.{NewList}
use Rattle.edit_list.specs.declared.list_kinds.NewList.TheVariants.{Packet}
use Rattle.edit_space.specs.declared.new_lists.Named.{Named}
use Rattle.edit_list.specs.Determined.{IsCountable, AfterIsValid}
use Rattle.edit_list.specs.NewLists.{free_names, names_of, new_lists, new_route_list, new_packet_list, IsNewList}
use Rattle.arc_base.specs.Numbered.{placed, if_number, of_number, EachRow}
use Rattle.edit_space.specs.Working.{AreMade, AreNewNames, IsNamed, HasNext}
use Rattle.edit_space.proofs.AfterValid.{is_valid}
use Rattle.edit_list.proofs.Counts.{few_picked, few_new_lists}
use Rattle.edit_space.proofs.FreeNames.{free_names_found}
use Rattle.edit_space.proofs.NamedFacts.{router_within, name_is_new}
use Rattle.edit_space.proofs.Naming.{counts, has_next, is_named, rows_more, no_rows, all_rows}
use Rattle.edit_list.proofs.NewListFacts.{new_list_within}
use Rattle.arc_base.proofs.Grouped.{told_or}
use Rattle.edit_list.proofs.RowFacts.{item_of}

module _ (net : Network) (valid : IsValid net) (countable : IsCountable net) (chosen : List Edit) where
  abbrev pub names_made : List (List (List ℕ))
  names_made = map (λ router. free_names (names_of net router) (length (of_number router (new_lists net chosen)))) (range_with_len 0 (length net.routers))

  few : length (new_lists net chosen) < 2 ^ 33
  few = few_new_lists (new_route_list net chosen) (new_packet_list chosen) (new_lists net chosen) (filter_map (new_route_list net chosen) net.sessions)
      (filter_map (new_packet_list chosen) (placed net.faces)) net.sessions net.faces
      countable.sessions countable.faces refl refl refl

  counted : (router : ℕ) → router < length net.routers → length (slice_index_or names_made router []) ≡ length (of_number router (new_lists net chosen))
  counted router low =
      let name_count : length (names_of net router) < 2 ^ 32 = countable.names router low in
      let some : length (of_number router (new_lists net chosen)) ≤ length (new_lists net chosen) = few_picked (if_number router) (new_lists net chosen) in
      let small : length (new_lists net chosen) < 2 ^ 33 = few in
      ap length (told_or (λ r. free_names (names_of net r) (length (of_number r (new_lists net chosen)))) (length net.routers) router names_made [] refl low) ∙
      free_names_found (names_of net router) (length (of_number router (new_lists net chosen))) (omega (arith, name_count, some, small))

  pub new_names_made : AreNewNames net (new_lists net chosen) names_made
  new_names_made = record { told = refl; counted = counted; few = countable.names }

  abbrev IsRow : ℕ → ℕ × NewList → Named → Type 0
  IsRow place = IsNamed (new_lists net chosen) names_made

  named_upto : (i : ℕ) → i ≤ length (new_lists net chosen) → (named : List Named) × EachRow IsRow (take i (new_lists net chosen)) named
  named_upto zero within = ([], no_rows IsRow [] refl)
  named_upto (suc i) within =
      let before = named_upto i (omega (arith, within)) in
      let low : i < length (new_lists net chosen) = omega (arith, within) in
      let list : ℕ × NewList = get_or (new_lists net chosen) i (0, Packet (record { 0 = 0 })) in
      let is : list ≡ get_or (new_lists net chosen) i list = get_or_default (new_lists net chosen) i (0, Packet (record { 0 = 0 })) list low in
      let at : slice_get (new_lists net chosen) i ≡ Some list = slice_get-get_or (new_lists net chosen) i (0, Packet (record { 0 = 0 })) low in
      let router : list.0 < length net.routers = new_list_within net valid chosen list (item_at_place (new_lists net chosen) i list at) in
      let used : List ℕ = map (counts (take i (new_lists net chosen))) (range_with_len 0 (length net.routers)) in
      let next : HasNext names_made used list.0 = has_next net (new_lists net chosen) names_made i list used low is router new_names_made refl in
      let name = item_of (slice_index_or names_made list.0 []) (slice_index used list.0) next.left in
      let one : Named = record { router = list.0; list = list.1; name = name.0 } in
      let row : IsNamed (new_lists net chosen) names_made list one = is_named net (new_lists net chosen) names_made i list used name.0 one low is router refl name.1 refl in
      let more : EachRow IsRow (take (i + 1) (new_lists net chosen)) (before.0 ++ one ∷ []) =
      rows_more IsRow (new_lists net chosen) i list before.0 (before.0 ++ one ∷ []) one low is row refl before.1 in
      let step : i + 1 ≡ suc i = omega arith in
      (before.0 ++ one ∷ [], subst (λ (n : ℕ). EachRow IsRow (take n (new_lists net chosen)) (before.0 ++ one ∷ [])) step more)

  pub named_made : (named : List Named) × AreMade net chosen names_made named
  named_made =
      let all = named_upto (length (new_lists net chosen)) (omega arith) in
      (all.0, record { new_names = new_names_made; are_named = all_rows IsRow (new_lists net chosen) (new_lists net chosen) (length (new_lists net chosen)) all.0 (omega arith) refl all.1; few = few })

  pub good_names : (router : ℕ) (list : NewList) (name : List ℕ) → IsNewList net chosen router list name → (router < length net.routers) × IsName name
  good_names router list name new =
      let m = named_made in (
        router_within net valid chosen names_made m.0 m.1.new_names m.1.are_named router list name new,
        (name_is_new net valid chosen names_made m.0 m.1.new_names m.1.are_named router list name m.1.few new).1,
      )

pub after_is_valid : AfterIsValid
after_is_valid net valid countable chosen after is = is_valid net valid chosen after is (good_names net valid countable chosen)
