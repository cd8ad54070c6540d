-- The rows of routers after the edits are those of the files after them.
use Rattle.std.proofs.Common.{◌≡◌, ℕ, ◌⊎◌, inl, inr, Option, Some, None, List, [], ◌∷◌, ◌++◌, map, refl, sym, ◌∙◌, ap, subst, unwrap_or}
use Rattle.std.specs.Prelude.{Any, Contains, slice_get, option_map}
use Rattle.std.specs.List.{AllZip}
use Rattle.std.proofs.lemmas.List.{map-append}
use Rattle.std.proofs.lemmas.List.Elements.{Contains-append_cases, Contains-append_left, Contains-append_right}
use Rattle.std.proofs.lemmas.Option.{same_Some, slice_get_within}
use Rattle.arc_base.proofs.Items.{Contains-map, from_map}
use Rattle.net_model.specs.declared.policies.Document.{Document}
use Rattle.net_model.specs.declared.rows.RouterRow.{RouterRow}
use Rattle.net_model.specs.declared.rows.Network.{Network}
use Rattle.net_model.specs.declared.rows.Protocol.{Protocol}
use Rattle.net_model.specs.declared.rows.Protocol.TheVariants.{Ospf, Bgp}
use Rattle.net_model.proofs.Readings.{item_at_place}
use Rattle.ios_config.specs.declared.settings.Config.{Config}
use Rattle.ios_config.specs.declared.settings.ListText.{ListText}
use Rattle.ios_config.specs.declared.settings.ProcessText.{ProcessText}
use Rattle.net_rules.specs.Lists.{IsListName}
use Rattle.net_rules.specs.Rows.{asn_of, IsRouterRow}
use Rattle.net_rules.specs.Settings.{process_of}
use Rattle.edit_list.specs.declared.edit_kinds.Edit.{Edit}
use Rattle.edit_list.specs.declared.list_kinds.NewList.{NewList}
use Rattle.edit_list.specs.After.{IsAfter, IsRouterAfter}
use Rattle.edit_list.specs.NewLists.{new_names_of, IsNewList, named_lists}
use Rattle.edit_list.proofs.RowFacts.{row_was}
use Rattle.settings_edit_laws.specs.Plain.{plain_list}
use Rattle.settings_edit_laws.specs.SettingsAfter.{list_with, new_list_text, new_list_texts, AreSettingsAfter}
use Rattle.settings_edit_laws.proofs.Edited.{AreEdited, file_was, router_row}
use Rattle.settings_edit_laws.proofs.Lines.{ProcessAfter, process_after, host_stays}
use Rattle.settings_edit_laws.proofs.NewNames.{named_of_new, new_of_named, list_of_name}
use Rattle.settings_edit_laws.proofs.PacketLists.{bound_was, bound_now}
use Rattle.settings_edit_laws.proofs.Pairs.{any_of, of_any}
use Rattle.settings_edit_laws.proofs.Pairs.{zip_from, zip_length}
use Rattle.settings_edit_laws.proofs.RouteLists as routes

-- the names of lists
abbrev names_of : List ListText → List (List ℕ)
names_of ls = map (λ (l : ListText). l.name) ls

named_in : (ls : List ListText) (name : List ℕ) → Any (λ l. l.name ≡ name) ls → Contains (names_of ls) name
named_in ls name h =
    let r = of_any (λ (l : ListText). l.name ≡ name) ls h in
    subst (λ (n : List ℕ). Contains (names_of ls) n) r.2 (Contains-map (λ (l : ListText). l.name) ls r.0 r.1)

in_named : (ls : List ListText) (name : List ℕ) → Contains (names_of ls) name → Any (λ l. l.name ≡ name) ls
in_named ls name h = let r = from_map (λ (l : ListText). l.name) ls name h in any_of (λ (l : ListText). l.name ≡ name) ls r.0 r.1 r.2

plain_names : (ls : List ListText) → names_of (map plain_list ls) ≡ names_of ls
plain_names [] = refl
plain_names (l ∷ ls) = ap (λ ns. l.name ∷ ns) (plain_names ls)

with_names : (net : Network) (chosen : List Edit) (router : ℕ) (ls : List ListText) → names_of (map (list_with net chosen router) ls) ≡ names_of ls
with_names net chosen router [] = refl
with_names net chosen router (l ∷ ls) = ap (λ ns. l.name ∷ ns) (with_names net chosen router ls)

number_stays : (net : Network) (chosen : List Edit) (router : ℕ) (o n : Option ProcessText) → ProcessAfter net chosen router o n →
    option_map (λ (p : ProcessText). p.number) n ≡ option_map (λ (p : ProcessText). p.number) o
number_stays net chosen router None None h = refl
number_stays net chosen router (Some p) (Some q) h = ap (λ (r : ProcessText). Some r.number) h
number_stays net chosen router o n h = absurd h

module _ (doc : Document) (net : Network) (old new : List Config) (chosen : List Edit) (g : AreEdited doc net old new chosen) where
  module _ (router : ℕ) (c d : Config) (at : slice_get old router ≡ Some c) (after : AreSettingsAfter net chosen router c d) (name : List ℕ) where
    new_names : names_of d.lists ≡ names_of after.front ++ (names_of (new_list_texts net chosen router) ++ names_of after.back)
    new_names =
        sym (plain_names d.lists) ∙ ap names_of after.new_lists ∙ map-append (λ (l : ListText). l.name) (map (list_with net chosen router) after.front)
        (new_list_texts net chosen router ++ map (list_with net chosen router) after.back) ∙
        ap (λ ns. ns ++ names_of (new_list_texts net chosen router ++ map (list_with net chosen router) after.back)) (with_names net chosen router after.front) ∙
        ap (λ ns. names_of after.front ++ ns) (map-append (λ (l : ListText). l.name) (new_list_texts net chosen router) (map (list_with net chosen router) after.back) ∙
        ap (λ ns. names_of (new_list_texts net chosen router) ++ ns) (with_names net chosen router after.back))

    old_names : names_of c.lists ≡ names_of after.front ++ names_of after.back
    old_names = sym (plain_names c.lists) ∙ ap names_of after.old_lists ∙ map-append (λ (l : ListText). l.name) after.front after.back

    given_was : Any (λ l. l.name ≡ name) d.lists → IsListName c name ⊎ Contains (new_names_of net chosen router) name
    given_was h = elim (Contains-append_cases (names_of after.front) (names_of (new_list_texts net chosen router) ++ names_of after.back) name
        (subst (λ (l : List (List ℕ)). Contains l name) new_names (named_in d.lists name h))) [
          | inl front ↦ inl (old_given (Contains-append_left (names_of after.front) (names_of after.back) name front))
          | inr later ↦ elim (Contains-append_cases (names_of (new_list_texts net chosen router)) (names_of after.back) name later) [
            | inl made ↦ inr (made_given made)
            | inr back ↦ inl (old_given (Contains-append_right (names_of after.front) (names_of after.back) name back))
          ]
        ]
      where
        old_given : Contains (names_of after.front ++ names_of after.back) name → IsListName c name
        old_given k = inl (in_named c.lists name (subst (λ (l : List (List ℕ)). Contains l name) (sym old_names) k))

        made_given : Contains (names_of (new_list_texts net chosen router)) name → Contains (new_names_of net chosen router) name
        made_given k =
            let t = from_map (λ (l : ListText). l.name) (new_list_texts net chosen router) name k in
            let l = from_map (λ (l : NewList × List ℕ). new_list_text chosen l.1 l.0) (named_lists net chosen router) t.0 t.1 in
            let made = new_of_named net g.valid g.small chosen router l.0 l.1 in
            let same : l.0.1 ≡ name = ap (λ (x : ListText). x.name) l.2 ∙ t.2 in
            item_at_place (new_names_of net chosen router) made.place name (made.name_is ∙ ap Some same)

    new_name_in : (list : NewList) → IsNewList net chosen router list name → Contains (new_names_of net chosen router) name
    new_name_in list made = item_at_place (new_names_of net chosen router) made.place name made.name_is

    name_was : IsListName d name → IsListName c name ⊎ Contains (new_names_of net chosen router) name
    name_was (inl given) = given_was given
    name_was (inr (inl packet)) = elim (bound_was doc net old new chosen g router c d name after packet) [ inl was ↦ inl (inr (inl was)) | inr made ↦ inr (new_name_in _ made.1) ]
    name_was (inr (inr route)) = elim (routes.bound_was doc net old new chosen g router c d name at after route) [ inl was ↦ inl (inr (inr was)) | inr made ↦ inr (new_name_in _ made.1) ]

    given_now : Contains (names_of after.front ++ names_of after.back) name → Contains (names_of d.lists) name
    given_now h = subst (λ (l : List (List ℕ)). Contains l name) (sym new_names) (elim (Contains-append_cases (names_of after.front) (names_of after.back) name h) [
      | inl front ↦ Contains-append_left (names_of after.front) (names_of (new_list_texts net chosen router) ++ names_of after.back) name front
      | inr back ↦ Contains-append_right (names_of after.front) (names_of (new_list_texts net chosen router) ++ names_of after.back) name
          (Contains-append_right (names_of (new_list_texts net chosen router)) (names_of after.back) name back)
    ])

    name_now : IsListName c name ⊎ Contains (new_names_of net chosen router) name → IsListName d name
    name_now (inl (inl given)) = inl (in_named d.lists name (given_now (subst (λ (l : List (List ℕ)). Contains l name) old_names (named_in c.lists name given))))
    name_now (inl (inr (inl packet))) = inr (inl (bound_now doc net old new chosen g router c d name at after packet))
    name_now (inl (inr (inr route))) = inr (inr (routes.bound_now doc net old new chosen g router c d name at after route))
    name_now (inr made) =
        let row = router_row doc net old new chosen g router c at in
        let m = list_of_name net g.valid g.small chosen router (slice_get_within net.routers router row.0 row.1) name made in
        let text : Contains (new_list_texts net chosen router) (new_list_text chosen name m.0) =
        Contains-map (λ (l : NewList × List ℕ). new_list_text chosen l.1 l.0) (named_lists net chosen router) (m.0, name) (named_of_new net g.valid g.small chosen router m.0 name m.1) in
        inl (in_named d.lists name (subst (λ (l : List (List ℕ)). Contains l name) (sym new_names)
        (Contains-append_right (names_of after.front) (names_of (new_list_texts net chosen router) ++ names_of after.back) name
        (Contains-append_left (names_of (new_list_texts net chosen router)) (names_of after.back) name
        (Contains-map (λ (l : ListText). l.name) (new_list_texts net chosen router) (new_list_text chosen name m.0) text)))))

  asn_stays : (p : Protocol) (router : ℕ) (c d : Config) → AreSettingsAfter net chosen router c d → asn_of p d ≡ asn_of p c
  asn_stays Ospf router c d after = refl
  asn_stays Bgp router c d after = ap (λ o. unwrap_or o 0) (number_stays net chosen router (process_of c) (process_of d) (process_after net chosen router c d after))

  router_row_after : (after : Network) (router : ℕ) (c d : Config) → slice_get old router ≡ Some c → AreSettingsAfter net chosen router c d →
      (was now : RouterRow) → IsRouterRow net.protocol c was → IsRouterAfter net chosen router was now → IsRouterRow net.protocol d now
  router_row_after after router c d at s was now r a = record {
    name = a.name ∙ r.name ∙ sym (host_stays net chosen router c d s);
    asn = a.asn ∙ r.asn ∙ sym (asn_stays net.protocol router c d s);
    names = record {
      order = a.order;
      just = λ name. (
        λ there. name_now router c d at s name (elim ((a.names name).0 there) [ inl was_there ↦ inl ((r.names.just name).0 was_there) | inr made ↦ inr made ]),
        λ listed. (a.names name).1 (elim (name_was router c d at s name listed) [ inl was_listed ↦ inl ((r.names.just name).1 was_listed) | inr made ↦ inr made ]),
      );
    };
  }

  pub routers_are_rows : (after : Network) → IsAfter net chosen after → AllZip (IsRouterRow net.protocol) new after.routers
  routers_are_rows after is =
      zip_from (IsRouterRow net.protocol) new after.routers (is.routers.whole ∙ zip_length (IsRouterRow net.protocol) old net.routers g.rows.base.routers ∙ sym g.settings.whole)
      (λ k d now at_d at_now.
      let c = file_was doc net old new chosen g k d at_d in
      let was = row_was (IsRouterAfter net chosen) net.routers after.routers is.routers k now at_now in
      let row = router_row doc net old new chosen g k c.config c.at in
      let same : row.0 ≡ was.0 = same_Some row.0 was.0 (sym row.1 ∙ was.1) in
      router_row_after after k c.config d c.at c.after was.0 now (subst (λ (r : RouterRow). IsRouterRow net.protocol c.config r) same row.2) was.2)
