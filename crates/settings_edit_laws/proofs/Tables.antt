-- The lists of a router's file after edits, by their kinds and names.
use Rattle.std.proofs.Common.{◌≡◌, ℕ, ◌&&◌, Bool, true, false, not, cond, Option, Some, None, List, [], ◌∷◌, ◌++◌, map, refl, sym, ◌∙◌, ap, subst, find}
use Rattle.std.specs.Prelude.{Contains, option_map, bytes_eq}
use Rattle.std.specs.Option.{option_or}
use Rattle.std.specs.List.{filter_map, cons_option}
use Rattle.std.proofs.lemmas.Bool.{and_parts, and_from, false_from_ne_true}
use Rattle.std.proofs.lemmas.Slice.Eq.{bytes_eq-Decides}
use Rattle.std.proofs.lemmas.Option.{none-some}
use Rattle.std.proofs.lemmas.List.Folds.{find-append}
use Rattle.arc_base.proofs.Items.{Contains-head, Contains-tail, Contains-map, from_map}
use Rattle.net_model.specs.declared.lists.PacketEntry.{PacketEntry}
use Rattle.net_model.specs.declared.lists.RouteEntry.{RouteEntry}
use Rattle.net_model.specs.declared.rows.Network.{Network}
use Rattle.net_model.specs.Validity.{IsValid}
use Rattle.ios_words.specs.declared.commands.Command.{Command}
use Rattle.ios_words.specs.declared.commands.Command.TheVariants as commands
use Rattle.ios_config.specs.declared.settings.Config.{Config}
use Rattle.ios_config.specs.declared.settings.Given.{Given}
use Rattle.ios_config.specs.declared.settings.ListText.{ListText}
use Rattle.ios_config.specs.declared.settings.ListForm.{ListForm}
use Rattle.ios_config.specs.declared.settings.ListForm.TheVariants as forms
use Rattle.net_rules.specs.Lists.{is_of_kind, is_packet_kind, list_named, packet_entry, route_entry, packet_entries, route_entries}
use Rattle.edit_list.specs.Determined.{IsCountable}
use Rattle.edit_list.specs.declared.edit_kinds.Edit.{Edit}
use Rattle.edit_list.specs.declared.list_kinds.NewList.{NewList}
use Rattle.edit_list.specs.NewLists.{IsNewList, named_lists}
use Rattle.settings_edit_laws.specs.Plain.{said, without_number, plain_entry, plain_list}
use Rattle.line_patcher.specs.EntryLines.{packet_command}
use Rattle.settings_edit_laws.specs.Additions.{new_list_kind, route_line}
use Rattle.settings_edit_laws.specs.SettingsAfter.{list_with, new_list_text, new_list_texts, AreSettingsAfter}
use Rattle.settings_edit_laws.proofs.NewNames.{one_list, new_of_named, named_of_new}
use Rattle.settings_edit_laws.proofs.SessionFacts.{find_one}

find_mapped : {X Y : Type 0} (f : X → Y) (p : X → Bool) (q : Y → Bool) → ((x : X) → q (f x) ≡ p x) → (xs : List X) → find q (map f xs) ≡ option_map f (find p xs)
find_mapped f p q same [] = refl
find_mapped {X} {Y} f p q same (x ∷ xs) = ap (λ b. cond b (Some (f x)) (find q (map f xs))) (same x) ∙ by (p x) (find_mapped f p q same xs)
  where
    by : (b : Bool) → find q (map f xs) ≡ option_map f (find p xs) → cond b (Some (f x)) (find q (map f xs)) ≡ option_map f (cond b (Some x) (find p xs))
    by true later = refl
    by false later = later

pub find_none : {X : Type 0} (p : X → Bool) (xs : List X) → ((x : X) → Contains xs x → p x ≡ true → ⊥) → find p xs ≡ None
find_none p [] none = refl
find_none p (x ∷ xs) none =
    ap (λ b. cond b (Some x) (find p xs)) (false_from_ne_true (p x) (none x (Contains-head x xs))) ∙ find_none p xs (λ y there. none y (Contains-tail x y xs there))

-- whether the list is of the kind and has the name
abbrev pub is_list : Bool → List ℕ → ListText → Bool
is_list packet name list = bytes_eq list.name name && is_of_kind packet list

plain_is_list : (packet : Bool) (name : List ℕ) (l : ListText) → is_list packet name (plain_list l) ≡ is_list packet name l
plain_is_list true name l = refl
plain_is_list false name l = refl

pub plain_named : (packet : Bool) (config : Config) (name : List ℕ) → find (is_list packet name) (map plain_list config.lists) ≡ option_map plain_list (list_named packet config name)
plain_named packet config name = find_mapped plain_list (is_list packet name) (is_list packet name) (plain_is_list packet name) config.lists

module _ (net : Network) (valid : IsValid net) (small : IsCountable net) (chosen : List Edit) (router : ℕ) (old new : Config) (after : AreSettingsAfter net chosen router old new)
    (packet : Bool) (name : List ℕ) where
  with_is_list : (l : ListText) → is_list packet name (list_with net chosen router l) ≡ is_list packet name l
  with_is_list l = by packet
    where
      by : (b : Bool) → is_list b name (list_with net chosen router l) ≡ is_list b name l
      by true = refl
      by false = refl

  abbrev edited : ListText → ListText
  edited = list_with net chosen router

  abbrev test : ListText → Bool
  test = is_list packet name

  found_new : option_map plain_list (list_named packet new name) ≡ option_or (option_map edited (find test after.front))
      (option_or (find test (new_list_texts net chosen router)) (option_map edited (find test after.back)))
  found_new =
      sym (plain_named packet new name) ∙ ap (find test) after.new_lists ∙ find-append test (map edited after.front) (new_list_texts net chosen router ++ map edited after.back) ∙
      ap (λ o. option_or o (find test (new_list_texts net chosen router ++ map edited after.back))) (find_mapped edited test test with_is_list after.front) ∙
      ap (option_or (option_map edited (find test after.front))) (find-append test (new_list_texts net chosen router) (map edited after.back) ∙
      ap (option_or (find test (new_list_texts net chosen router))) (find_mapped edited test test with_is_list after.back))

  found_old : option_map plain_list (list_named packet old name) ≡ option_or (find test after.front) (find test after.back)
  found_old = sym (plain_named packet old name) ∙ ap (find test) after.old_lists ∙ find-append test after.front after.back

  mapped_or : (a b : Option ListText) → option_or (option_map edited a) (option_or None (option_map edited b)) ≡ option_map edited (option_or a b)
  mapped_or None b = refl
  mapped_or (Some x) b = refl

  -- where no new list has the name, the list is the old one, edited
  pub old_named : find test (new_list_texts net chosen router) ≡ None → option_map plain_list (list_named packet new name) ≡ option_map edited (option_map plain_list (list_named packet old name))
  old_named none =
      found_new ∙ ap (λ o. option_or (option_map edited (find test after.front)) (option_or o (option_map edited (find test after.back)))) none ∙ mapped_or
      (find test after.front) (find test after.back) ∙
      ap (option_map edited) (sym found_old)

  none_or : (a b : Option ListText) → option_or a b ≡ None → (a ≡ None) × (b ≡ None)
  none_or None b e = (refl, e)
  none_or (Some x) b e = absurd (none-some x (sym e))

  or_none : (o : Option ListText) → option_or o None ≡ o
  or_none None = refl
  or_none (Some x) = refl

  -- where no old list has the name, it is the new one
  pub new_named : list_named packet old name ≡ None → option_map plain_list (list_named packet new name) ≡ find test (new_list_texts net chosen router)
  new_named none =
      let both = none_or (find test after.front) (find test after.back) (sym found_old ∙ ap (option_map plain_list) none) in
      found_new ∙ ap (λ o. option_or (option_map edited o) (option_or (find test (new_list_texts net chosen router)) (option_map edited (find test after.back)))) both.0 ∙
      ap (λ o. option_or (find test (new_list_texts net chosen router)) (option_map edited o)) both.1 ∙ or_none (find test (new_list_texts net chosen router))

  abbrev text_of : NewList × List ℕ → ListText
  text_of l = new_list_text chosen l.1 l.0

  is_name : (l : ListText) → test l ≡ true → l.name ≡ name
  is_name l pass = (bytes_eq-Decides l.name name).0 (and_parts (bytes_eq l.name name) (is_of_kind packet l) pass).0

  pub no_new_text : ((list : NewList) → IsNewList net chosen router list name → ⊥) → find test (new_list_texts net chosen router) ≡ None
  no_new_text none = find_none test (new_list_texts net chosen router) (λ text there pass.
      let r = from_map text_of (named_lists net chosen router) text there in
      let same : r.0.1 ≡ name = ap (λ (l : ListText). l.name) r.2 ∙ is_name text pass in
      none r.0.0 (subst (λ (n : List ℕ). IsNewList net chosen router r.0.0 n) same (new_of_named net valid small chosen router r.0 r.1)))

  pub new_text : (list : NewList) → IsNewList net chosen router list name → is_packet_kind (new_list_kind list) ≡ packet →
      find test (new_list_texts net chosen router) ≡ Some (new_list_text chosen name list)
  new_text list made kind =
      find_one test (new_list_texts net chosen router) (new_list_text chosen name list) (Contains-map text_of (named_lists net chosen router) (list, name)
      (named_of_new net valid small chosen router list name made))
      (and_from (bytes_eq name name) (is_of_kind packet (new_list_text chosen name list)) ((bytes_eq-Decides name name).1 refl) (of_kind packet kind))
      (λ text there pass.
      let r = from_map text_of (named_lists net chosen router) text there in
      let same : r.0.1 ≡ name = ap (λ (l : ListText). l.name) r.2 ∙ is_name text pass in
      let one : r.0.0 ≡ list = one_list net valid small chosen router r.0.0 list name
      (subst (λ (n : List ℕ). IsNewList net chosen router r.0.0 n) same (new_of_named net valid small chosen router r.0 r.1)) made in
      sym r.2 ∙ ap (λ (l : NewList × List ℕ). text_of l) (λ i. (one i, same i)))
    where
      of_kind : (b : Bool) → is_packet_kind (new_list_kind list) ≡ b → is_of_kind b (new_list_text chosen name list) ≡ true
      of_kind true e = e
      of_kind false e = ap not e

-- the entries of a list without their numbers are the same
pub packet_without : (c : Command) → packet_entry (without_number c) ≡ packet_entry c
packet_without (commands.Entry number entry) = refl
packet_without other = refl

pub route_without : (c : Command) → route_entry (without_number c) ≡ route_entry c
route_without (commands.PrefixLine name number entry) = refl
route_without other = refl

pub plain_picks : {X : Type 0} (entry : Command → Option X) → ((c : Command) → entry (without_number c) ≡ entry c) → (gs : List (Given Command)) →
    filter_map (λ (g : Given Command). entry g.value) (map plain_entry gs) ≡ filter_map (λ (g : Given Command). entry g.value) gs
plain_picks entry same [] = refl
plain_picks entry same (g ∷ gs) =
    ap (λ o. cons_option o (filter_map (λ (h : Given Command). entry h.value) (map plain_entry gs))) (same g.value) ∙ ap (cons_option (entry g.value)) (plain_picks entry same gs)

pub plain_packet_entries : (l : ListText) → packet_entries (plain_list l) ≡ packet_entries l
plain_packet_entries l = plain_picks packet_entry packet_without l.entries

pub plain_route_entries : (l : ListText) → route_entries (plain_list l) ≡ route_entries l
plain_route_entries l = plain_picks route_entry route_without l.entries

-- lines that are said give their entries
pub said_picks : {X Y : Type 0} (entry : Command → Option Y) (line : X → Command) (made : X → Y) → ((x : X) → entry (line x) ≡ Some (made x)) → (xs : List X) →
    filter_map (λ (g : Given Command). entry g.value) (map said (map line xs)) ≡ map made xs
said_picks entry line made is [] = refl
said_picks entry line made is (x ∷ xs) =
    ap (λ o. cons_option o (filter_map (λ (g : Given Command). entry g.value) (map said (map line xs)))) (is x) ∙ ap (λ l. made x ∷ l) (said_picks entry line made is xs)

pub packet_line_is : (form : ListForm) (name : List ℕ) (e : PacketEntry) → packet_entry (packet_command form name None e) ≡ Some e
packet_line_is forms.Lines name e = refl
packet_line_is forms.Block name e = refl
packet_line_is forms.PrefixLines name e = refl

pub route_line_is : (name : List ℕ) (e : RouteEntry) → route_entry (route_line name e) ≡ Some e
route_line_is name e = refl
