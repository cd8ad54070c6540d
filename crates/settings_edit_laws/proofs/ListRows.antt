-- The rows of the lists of a kind after edits: what a list's text with new entries gives, and what a new list gives.
use Rattle.std.proofs.Common.{◌≡◌, ℕ, ◌==◌, ◌&&◌, Bool, true, false, Option, Some, None, List, [], ◌∷◌, ◌++◌, map, refl, sym, ◌∙◌, ap, arith, if◌then◌else◌}
use Rattle.std.specs.Prelude.{slice_get, option_map, option_and_then, bytes_eq}
use Rattle.std.specs.List.{filter_map, cons_option}
use Rattle.std.proofs.lemmas.Bool.{eqb-true, false≢true, and_parts, false_from_ne_true}
use Rattle.std.proofs.lemmas.List.Elements.{filter_map-append}
use Rattle.std.proofs.lemmas.Slice.Eq.{bytes_eq-Decides}
use Rattle.arc_base.specs.declared.place.Face.{Face}
use Rattle.net_model.specs.declared.rows.Network.{Network}
use Rattle.ios_config.specs.declared.settings.Given.{Given}
use Rattle.ios_config.specs.declared.settings.ListText.{ListText}
use Rattle.ios_words.specs.declared.commands.Command.{Command}
use Rattle.net_rules.specs.Lists.{is_packet_kind, has_entries, if_defined}
use Rattle.edit_list.specs.declared.edit_kinds.Edit.{Edit}
use Rattle.arc_base.specs.Numbered.{if_number, of_number}
use Rattle.edit_space.proofs.ListKinds.{ListsOfKind}
use Rattle.settings_edit_laws.specs.Plain.{said, plain_entry, plain_list}
use Rattle.settings_edit_laws.specs.Additions.{if_own_list, front_lines, new_list_kind}
use Rattle.settings_edit_laws.specs.SettingsAfter.{list_with, new_list_text}
use Rattle.settings_edit_laws.proofs.Pairs.{picked_twice}
use Rattle.settings_edit_laws.proofs.SessionFacts.{one_named}
use Rattle.settings_edit_laws.proofs.Tables.{plain_picks, said_picks}
use Rattle.settings_edit_laws.proofs.TextKinds.{TextsOfKind}

none_picked : {X Y : Type 0} (h : X → Option Y) → ((x : X) → h x ≡ None) → (xs : List X) → filter_map h xs ≡ []
none_picked h none [] = refl
none_picked h none (x ∷ xs) = ap (λ o. cons_option o (filter_map h xs)) (none x) ∙ none_picked h none xs

map_same : {X : Type 0} (xs : List X) → map (λ (x : X). x) xs ≡ xs
map_same [] = refl
map_same (x ∷ xs) = ap (λ l. x ∷ l) (map_same xs)

-- entries behind others are entries
has_more : (xs ys : List (Given Command)) → has_entries ys ≡ true → has_entries (xs ++ ys) ≡ true
has_more [] ys e = e
has_more (x ∷ xs) ys e = refl

pub has_plain : (gs : List (Given Command)) → has_entries (map plain_entry gs) ≡ has_entries gs
has_plain [] = refl
has_plain (g ∷ gs) = refl

module _ {net : Network} {chosen : List Edit} {K : ListsOfKind net chosen} (T : TextsOfKind net chosen K) where
  abbrev pub entries_of : ListText → List T.Entry
  entries_of l = filter_map (λ (g : Given Command). T.entry g.value) l.entries

  abbrev pub row_text : ℕ → List ℕ → ListText → K.Row
  row_text router name l = T.made router name l.kind (entries_of l)

  -- the row of the list that was found
  abbrev pub row_of : ℕ → List ℕ → Option ListText → Option K.Row
  row_of router name found = option_map (row_text router name) (if_defined found)

  pub plain_row : (router : ℕ) (name : List ℕ) (l : ListText) → row_text router name (plain_list l) ≡ row_text router name l
  plain_row router name l = ap (T.made router name l.kind) (plain_picks T.entry T.entry_plain l.entries)

  pub row_plain : (router : ℕ) (name : List ℕ) (found : Option ListText) → row_of router name (option_map plain_list found) ≡ row_of router name found
  row_plain router name None = refl
  row_plain router name (Some l) = ap (λ b. option_map (row_text router name) (if b then Some (plain_list l) else None)) (has_plain l.entries) ∙ by (has_entries l.entries)
    where
      by : (b : Bool) → option_map (row_text router name) (if b then Some (plain_list l) else None) ≡ option_map (row_text router name) (if b then Some l else None)
      by true = ap Some (plain_row router name l)
      by false = refl

  module _ (router : ℕ) (name : List ℕ) where
    abbrev own_for : ℕ × T.Thing → Option T.Thing
    own_for c = option_and_then (λ (l : K.Row). if_own_list router name (K.router l) (K.name l) c.1) (slice_get K.lists c.0)

    -- what edits put in front of the network's list at a place is what they put in front of the router's list of that name
    module _ (place : ℕ) (was : K.Row) (at : slice_get K.lists place ≡ Some was) (own : K.router was ≡ router) (named : K.name was ≡ name) where
      own_test : ((K.router was == router) && bytes_eq (K.name was) name) ≡ true
      own_test =
          let first : (K.router was == router) ≡ true = grind arith in
          ap (λ b. b && bytes_eq (K.name was) name) first ∙ (bytes_eq-Decides (K.name was) name).1 named

      elsewhere : (c : ℕ × T.Thing) → ((c.0 ≡ place) → ⊥) → (o : Option K.Row) → slice_get K.lists c.0 ≡ o →
          None ≡ option_and_then (λ (l : K.Row). if_own_list router name (K.router l) (K.name l) c.1) o
      elsewhere c differs None e = refl
      elsewhere c differs (Some l) e = sym (ap (λ b. if b then Some c.1 else None) (false_from_ne_true ((K.router l == router) && bytes_eq (K.name l) name) taken))
        where
          taken : ((K.router l == router) && bytes_eq (K.name l) name) ≡ true → ⊥
          taken pass =
              let both = and_parts (K.router l == router) (bytes_eq (K.name l) name) pass in
              let same_router : K.router l ≡ K.router was = eqb-true (K.router l) router both.0 ∙ sym own in
              let same_name : K.name l ≡ K.name was = (bytes_eq-Decides (K.name l) name).0 both.1 ∙ sym named in
              differs (one_named (λ (m : K.Row). K.router m) (λ (m : K.Row). K.name m) K.lists c.0 place l was K.apart e at same_router same_name)

      one_change : (c : ℕ × T.Thing) → if_number place c ≡ own_for c
      one_change c = by (c.0 == place) refl
        where
          by : (b : Bool) → (c.0 == place) ≡ b → (if (c.0 == place) then Some c.1 else None) ≡ own_for c
          by true e =
              let there : slice_get K.lists c.0 ≡ Some was = ap (slice_get K.lists) (eqb-true c.0 place e) ∙ at in
              ap (λ b. if b then Some c.1 else None) e
              ∙ sym (ap (option_and_then (λ (l : K.Row). if_own_list router name (K.router l) (K.name l) c.1)) there ∙ ap (λ b. if b then Some c.1 else None) own_test)
          by false e = ap (λ b. if b then Some c.1 else None) e ∙ elsewhere c (λ same. false≢true (sym e ∙ grind arith)) (slice_get K.lists c.0) refl

      of_change : (o : Option (ℕ × T.Thing)) → option_and_then (if_number place) o ≡ option_and_then own_for o
      of_change None = refl
      of_change (Some c) = one_change c

      pub things_same : of_number place (filter_map T.change chosen) ≡ filter_map (T.thing_for router name) chosen
      things_same = picked_twice (if_number place) T.change (T.thing_for router name) (λ e. of_change (T.change e) ∙ sym (T.for_is router name e)) chosen

    -- nothing is put in front of a list that the network does not have
    no_things : ((place : ℕ) (was : K.Row) → slice_get K.lists place ≡ Some was → K.router was ≡ router → K.name was ≡ name → ⊥) → filter_map (T.thing_for router name) chosen ≡ []
    no_things none = none_picked (T.thing_for router name) (λ e. T.for_is router name e ∙ no_change (T.change e)) chosen
      where
        no_list : (c : ℕ × T.Thing) (o : Option K.Row) → slice_get K.lists c.0 ≡ o → option_and_then (λ (l : K.Row). if_own_list router name (K.router l) (K.name l) c.1) o ≡ None
        no_list c None e = refl
        no_list c (Some l) e = ap (λ b. if b then Some c.1 else None) (false_from_ne_true ((K.router l == router) && bytes_eq (K.name l) name) (λ pass.
            let both = and_parts (K.router l == router) (bytes_eq (K.name l) name) pass in
            none c.0 l e (eqb-true (K.router l) router both.0) ((bytes_eq-Decides (K.name l) name).0 both.1)))

        no_change : (o : Option (ℕ × T.Thing)) → option_and_then own_for o ≡ None
        no_change None = refl
        no_change (Some c) = no_list c (slice_get K.lists c.0) refl

    -- the entries of a list after the edits
    entries_with : (l : ListText) → is_packet_kind l.kind ≡ T.packet → l.name ≡ name →
        entries_of (list_with net chosen router l) ≡ map (T.opposite (entries_of l)) (filter_map (T.thing_for router name) chosen) ++ entries_of l
    entries_with l kind named =
        filter_map-append (λ (g : Given Command). T.entry g.value) (map said (front_lines net chosen router l l.kind)) l.entries ∙
        ap (λ (cs : List Command). filter_map (λ (g : Given Command). T.entry g.value) (map said cs) ++ entries_of l) (T.front_is router l kind) ∙
        ap (λ (es : List T.Entry). es ++ entries_of l)
        (said_picks T.entry (λ (x : T.Thing). T.line l (T.opposite (entries_of l) x)) (T.opposite (entries_of l)) (λ x. T.line_is l (T.opposite (entries_of l) x))
        (filter_map (T.thing_for router l.name) chosen)) ∙
        ap (λ (n : List ℕ). map (T.opposite (entries_of l)) (filter_map (T.thing_for router n) chosen) ++ entries_of l) named

    -- the row of a list that the network had, and of one that it did not have
    pub row_edited : (place : ℕ) (was : K.Row) → slice_get K.lists place ≡ Some was → K.router was ≡ router → K.name was ≡ name → (l : ListText) → is_packet_kind l.kind ≡ T.packet → l.name ≡ name →
        row_text router name l ≡ was → has_entries l.entries ≡ true → row_of router name (Some (list_with net chosen router l)) ≡ Some (K.edited place was)
    row_edited place was at own named l kind named_l is has =
        ap (λ b. option_map (row_text router name) (if b then Some (list_with net chosen router l) else None)) (has_more (map said (front_lines net chosen router l l.kind)) l.entries has) ∙
        ap (λ (es : List T.Entry). Some (T.made router name l.kind es))
        (entries_with l kind named_l ∙ ap (λ (xs : List T.Thing). map (T.opposite (entries_of l)) xs ++ entries_of l) (sym (things_same place was at own named))) ∙
        ap Some (sym (T.edited_is place router name l.kind (entries_of l))) ∙ ap (λ (r : K.Row). Some (K.edited place r)) is

    pub row_not_edited : ((place : ℕ) (was : K.Row) → slice_get K.lists place ≡ Some was → K.router was ≡ router → K.name was ≡ name → ⊥) → (l : ListText) →
        is_packet_kind l.kind ≡ T.packet → l.name ≡ name →
        has_entries l.entries ≡ false → row_of router name (Some (list_with net chosen router l)) ≡ None
    row_not_edited none l kind named has =
        let empty : filter_map (T.thing_for router l.name) chosen ≡ [] = ap (λ (n : List ℕ). filter_map (T.thing_for router n) chosen) named ∙ no_things none in
        ap (λ b. option_map (row_text router name) (if b then Some (list_with net chosen router l) else None))
        (ap (λ (cs : List Command). has_entries (map said cs ++ l.entries)) (T.front_is router l kind ∙ ap (map (λ (x : T.Thing). T.line l (T.opposite (entries_of l) x))) empty) ∙ has)

    -- the row of a new list
    pub row_new : (f : Face) → row_of router name (Some (new_list_text chosen name (K.new f))) ≡ Some (T.made router name (new_list_kind (K.new f)) (T.first f ++ T.last ∷ []))
    row_new f =
        ap (λ b. option_map (row_text router name) (if b then Some (new_list_text chosen name (K.new f)) else None))
        (ap (λ (cs : List Command). has_entries (map said cs)) (T.new_lines_are name f) ∙ some_entries (T.first f)) ∙
        ap (λ (es : List T.Entry). Some (T.made router name (new_list_kind (K.new f)) es))
        (ap (λ (cs : List Command). filter_map (λ (g : Given Command). T.entry g.value) (map said cs)) (T.new_lines_are name f) ∙
        said_picks T.entry (T.new_line name) (λ (e : T.Entry). e) (T.new_line_is name) (T.first f ++ T.last ∷ []) ∙ map_same (T.first f ++ T.last ∷ []))
      where
        some_entries : (es : List T.Entry) → has_entries (map said (map (T.new_line name) (es ++ T.last ∷ []))) ≡ true
        some_entries [] = refl
        some_entries (e ∷ es) = refl
