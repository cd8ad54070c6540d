-- The names of new lists are names, no two are one, and none is that of a list of the file.
use Rattle.std.proofs.Common.{◌≡◌, ◌≢◌, ℕ, ◌+◌, ◌^◌, ◌<◌, ◌&&◌, not, Bool, true, Option, Some, None, List, [], ◌∷◌, length, map, filter, take, drop, refl, sym, ap, subst, ◌∙◌, arith}
use Rattle.std.proofs.Common.{Contains, inl, codes, get_or, IsTrue}
use Rattle.std.specs.Prelude.{AllPairs, slice_get, nat_le}
use Rattle.std.specs.Option.{option_map_or}
use Rattle.std.specs.List.{AllByRecursion, filter_map, list_all, range_with_len, zip}
use Rattle.std.proofs.lemmas.Bool.{le-leb}
use Rattle.std.proofs.lemmas.List.{take-append-drop, length-append}
use Rattle.std.proofs.lemmas.List.Elements.{Contains-append_left}
use Rattle.std.proofs.lemmas.Option.{slice_get_within}
use Rattle.arc_base.proofs.Items.{AllPairs-first, AllPairs-rest, from_filter, from_map}
use Rattle.net_model.proofs.Readings.{item_at_place}
use Rattle.net_model.specs.declared.rows.Network.{Network}
use Rattle.net_model.specs.declared.rows.RouterRow.{RouterRow}
use Rattle.net_model.specs.Validity.{IsValid}
use Rattle.arc_base.specs.NameForms.{IsName, is_name, is_name_byte}
use Rattle.ios_config.specs.declared.settings.Config.{Config}
use Rattle.ios_config.specs.declared.settings.ListText.{ListText}
use Rattle.net_model.specs.declared.policies.Class.{Class}
use Rattle.net_rules.specs.Lists.{IsListName}
use Rattle.net_rules.specs.Rows.{IsRouterRow}
use Rattle.edit_list.specs.declared.edit_kinds.Edit.{Edit}
use Rattle.edit_list.specs.declared.list_kinds.NewList.{NewList}
use Rattle.edit_list.specs.Changes.{new_classes, new_route_change}
use Rattle.edit_list.specs.Determined.{IsCountable}
use Rattle.edit_list.specs.NewLists.{free_names, is_name_among, names_of, new_lists, new_lists_of, new_name, new_names_of, new_packet_list, new_route_list, named_lists}
use Rattle.arc_base.specs.Numbered.{if_number, placed}
use Rattle.edit_list.specs.Writable.{is_writable}
use Rattle.edit_list.proofs.Counts.{few_picked, few_placed}
use Rattle.edit_space.proofs.FreeNames.{free_name_is_new, free_names_apart}
use Rattle.line_patcher.proofs.Tables.{few_put}
use Rattle.settings_edit_laws.proofs.NewNames.{name_is_new, new_of_named, zip_places}
use Rattle.settings_edit_laws.proofs.Pairs.{any_of}
use Rattle.patch_laws.specs.NewListSites.{IsNewName, AreDifferent}
use Rattle.patch_laws.proofs.EditEntries.{all-from}

all-list : (p : ℕ → Bool) (xs : List ℕ) → AllByRecursion (λ b. IsTrue (p b)) xs → list_all p xs ≡ true
all-list p [] all = refl
all-list p (x ∷ xs) all = (let one = all.0 in let rest = all-list p xs all.1 in λ i. one i && rest i)

-- a well formed name passes the test
pub name-passes : (name : List ℕ) → IsName name → IsTrue (is_name name)
name-passes name is =
    let one : nat_le 1 (length name) ≡ true = le-leb 1 (length name) is.some in
    let two : nat_le (length name) 64 ≡ true = le-leb (length name) 64 is.few in
    let three = all-list is_name_byte name is.bytes in
    λ i. one i && two i && three i

in-take : (n : ℕ) (xs : List (List ℕ)) (x : List ℕ) → Contains (take n xs) x → Contains xs x
in-take n xs x h = subst (λ (l : List (List ℕ)). Contains l x) (take-append-drop n xs) (Contains-append_left (take n xs) (drop n xs) x h)

-- no free name is this word
free-other : (names : List (List ℕ)) (count : ℕ) (name : List ℕ) → Contains (free_names names count) name → name ≢ codes "sequence-number"
free-other names count name there same =
    let picked = from_filter (λ (n : List ℕ). not (is_name_among names n)) (map new_name (range_with_len 1 (length names + count))) name
    (in-take count (filter (λ (n : List ℕ). not (is_name_among names n)) (map new_name (range_with_len 1 (length names + count)))) name there) in
    let (n, among, is) = from_map new_name (range_with_len 1 (length names + count)) name picked.0 in
    let first : 65 ≡ 115 = ap (λ (l : List ℕ). get_or l 0 0) (is ∙ same) in
    absurd (omega (arith, first))

-- names that go with lists are apart where they are apart
zip-different : (ls : List NewList) (names : List (List ℕ)) → AllPairs (λ x y. x ≢ y) names → AreDifferent (zip ls names)
zip-different [] [] apart = tt
zip-different [] (n ∷ names) apart = tt
zip-different (l ∷ ls) [] apart = tt
zip-different (l ∷ ls) (n ∷ names) apart = (
  all-from (λ (other : NewList × List ℕ). n ≢ other.1) (zip ls names) (λ p there.
      let (k, at, name) = zip_places ls names p there in
      AllPairs-first (λ x y. x ≢ y) n p.1 names apart (item_at_place names k p.1 name)),
  zip-different ls names (AllPairs-rest (λ x y. x ≢ y) n names apart),
)

module _ (net : Network) (valid : IsValid net) (small : IsCountable net) (chosen : List Edit) (router : ℕ) where
  few : length (names_of net router) + length (new_lists_of net chosen router) < 2 ^ 59
  few =
      let lists = length-append (filter_map (new_route_list net chosen) net.sessions) (filter_map (new_packet_list chosen) (placed net.faces)) in
      let routes = few_picked (new_route_list net chosen) net.sessions in
      let packets = few_picked (new_packet_list chosen) (placed net.faces) in
      let places = few_placed net.faces in
      let faces = small.faces in
      let sessions = small.sessions in
      let own = few_picked (if_number router) (new_lists net chosen) in
      let given = by (slice_get net.routers router) refl in
      omega (arith, lists, routes, packets, places, faces, sessions, own, given)
    where
      by : (o : Option RouterRow) → slice_get net.routers router ≡ o → length (names_of net router) < 2 ^ 32
      by None e = let none : length (names_of net router) ≡ 0 = ap (λ (o : Option RouterRow). length (option_map_or (λ (r : RouterRow). r.names) o [])) e in omega (arith, none)
      by (Some row) e = small.names router (slice_get_within net.routers router row e)

  pub new-names : length chosen < 16384 → ((face : ℕ) (class : Class) → Contains (new_classes chosen face) class → IsTrue (is_writable class.service)) →
      AllByRecursion (IsNewName chosen) (named_lists net chosen router)
  new-names room writable = all-from (IsNewName chosen) (named_lists net chosen router) (λ named there.
      let is = new_of_named net valid small chosen router named there in
      let in_names : Contains (new_names_of net chosen router) named.1 = item_at_place (new_names_of net chosen router) is.place named.1 is.name_is in
      record {
        name = name-passes named.1 (free_name_is_new (names_of net router) (length (new_lists_of net chosen router)) named.1 few in_names).1;
        other = free-other (names_of net router) (length (new_lists_of net chosen router)) named.1 in_names;
        few = λ face. let some = few_put new_route_change chosen face in omega (arith, some, room);
        writable = writable;
      })

  pub new-different : AreDifferent (named_lists net chosen router)
  new-different = zip-different (new_lists_of net chosen router) (new_names_of net chosen router)
      (free_names_apart (names_of net router) (length (new_lists_of net chosen router)) (let all = few in omega (arith, all)))

  -- a name of the file's lists is none of new lists
  pub new-free : (row : RouterRow) (config : Config) → slice_get net.routers router ≡ Some row → IsRouterRow net.protocol config row → (named : NewList × List ℕ) →
      Contains (named_lists net chosen router) named →
      (list : ListText) → Contains config.lists list → list.name ≢ named.1
  new-free row config at is named there list in_lists same =
      let new = new_of_named net valid small chosen router named there in
      let listed : IsListName config named.1 = inl (any_of (λ (l : ListText). l.name ≡ named.1) config.lists list in_lists same) in
      name_is_new net valid small chosen router named.0 named.1 new
      (subst (λ (l : List (List ℕ)). Contains l named.1) (sym (ap (λ (o : Option RouterRow). option_map_or (λ (q : RouterRow). q.names) o []) at)) ((is.names.just named.1).1 listed))
