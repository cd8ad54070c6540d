-- The lists of a file show the entries of the edits before their own.
use Rattle.std.proofs.Common.{◌≡◌, ◌≢◌, ℕ, ◌==◌, ◌&&◌, Bool, true, false, if◌then◌else◌, Option, Some, None, List, [], ◌∷◌, ◌++◌, map, refl, sym, ap, subst, ◌∙◌}
use Rattle.std.proofs.Common.{Contains}
use Rattle.std.specs.Prelude.{AllPairs, bytes_eq, option_and_then, slice_get, slice_index}
use Rattle.std.specs.List.{cons_option, enumerate_from, filter_map, flat_map}
use Rattle.std.proofs.lemmas.Bool.{and_parts, eq-eqb, eqb-true, false≢true}
use Rattle.std.proofs.lemmas.Option.{same_Some, none-some}
use Rattle.std.proofs.lemmas.Slice.Eq.{bytes_eq-Decides}
use Rattle.arc_base.proofs.Items.{Contains-head}
use Rattle.net_model.specs.declared.rows.Network.{Network}
use Rattle.ios_lines.specs.declared.line.Lines.{Lines}
use Rattle.ios_lines.specs.Texts.{text_lines}
use Rattle.ios_words.specs.declared.commands.Command.{Command}
use Rattle.ios_config.specs.declared.commands.FileCommand.{FileCommand}
use Rattle.ios_config.specs.declared.settings.Given.{Given}
use Rattle.ios_config.specs.declared.settings.ListForm.{ListForm}
use Rattle.ios_config.specs.declared.settings.ListKind.{ListKind}
use Rattle.ios_config.specs.declared.settings.ListText.{ListText}
use Rattle.ios_config.specs.Bare.{bare}
use Rattle.ios_config.specs.Groups.{Part, part_of, members}
use Rattle.ios_config.specs.Texts.{config_of, entries, given, is_entry}
use Rattle.net_build.specs.declared.built.ListPlace.{ListPlace}
use Rattle.net_build.specs.declared.built.Places.{Places}
use Rattle.net_rules.specs.Lists.{is_packet_kind}
use Rattle.net_build.specs.Places.{list_place}
use Rattle.edit_list.specs.declared.edit_kinds.Edit.{Edit}
use Rattle.arc_base.specs.Numbered.{if_number, is_empty, of_number, placed}
use Rattle.edit_list.proofs.NewListFacts.{pairs_picked, picked_from, picks, placed_apart, placed_there}
use Rattle.line_patcher.specs.EntryLines.{at_front, edited_by, edited_lists, edited_packet_lists, edited_route_lists, first_line, for_list, packet_list_entries, route_list_entries}
use Rattle.settings_edit_laws.specs.Additions.{front_lines, if_own_list}
use Rattle.settings_edit_laws.specs.Plain.{said, plain_entry}
use Rattle.settings_edit_laws.proofs.NewNames.{numbered}
use Rattle.settings_edit_laws.proofs.ListRows.{entries_of, things_same}
use Rattle.settings_edit_laws.proofs.TextKinds.{TextsOfKind, packet_texts, route_texts}
use Rattle.edit_space.proofs.ListKinds.{ListsOfKind}
use Rattle.patch_laws.proofs.EditKinds.{KindInFile, packets_in, routes_in}
use Rattle.settings_edit_laws.proofs.SessionFacts.{one_named}
use Rattle.settings_edit_laws.proofs.Tables.{plain_picks}
use Rattle.patch_laws.specs.EditFiles.{IsEditedFile}
use Rattle.patch_laws.specs.EditSites.{entries_at}
use Rattle.patch_laws.specs.Written.{written_of}
use Rattle.patch_laws.specs.ListsGrow.{list_begun}
use Rattle.patch_laws.proofs.EditBlocks.{heads-same, members-of}
use Rattle.patch_laws.proofs.RowLines.{of-number-here, of-number-other}
use Rattle.patch_laws.proofs.EditFrontLines.{begins, flat-none, flat-one, same-group}
use Rattle.patch_laws.proofs.EditFronts.{FirstOf, none-front, some-front}
use Rattle.patch_laws.proofs.EditGrow.{own, grow_at}
use Rattle.patch_laws.proofs.EditGrown.{ListsShow}
use Rattle.patch_laws.proofs.EditListGroups.{shown, written, plain}
use Rattle.patch_laws.proofs.EditLists.{EditedRow, edited-list, list-group, entry-command, first-entry, lists-have, only-first, only-second}
use Rattle.patch_laws.proofs.EditParts.{group-part}
use Rattle.patch_laws.proofs.FileParts.{one-line, rising}

-- the entries of commands without numbers are those of the commands
shown-is : (g : List FileCommand) → shown g ≡ map plain_entry (entries g)
shown-is [] = refl
shown-is (c ∷ g) = by (is_entry c.command) (shown-is g)
  where
    by : (b : Bool) → shown g ≡ map plain_entry (entries g) →
        map plain_entry (cons_option (if b then Some (given (bare c)) else None) (entries (map bare g))) ≡ map plain_entry (cons_option (if b then Some (given c) else None) (entries g))
    by true rest = ap (λ (l : List (Given Command)). plain_entry (given c) ∷ l) rest
    by false rest = rest

not-empty : {X : Type 0} (xs : List X) → xs ≢ [] → is_empty xs ≡ false
not-empty [] some = absurd (some refl)
not-empty (x ∷ xs) some = refl

some-item : {X : Type 0} (x : X) (xs : List X) → x ∷ xs ≢ []
some-item x xs e = cc

-- the places of edited lists differ
edited-apart : {L X : Type 0} (router_of : L → ℕ) (change : Edit → Option (ℕ × X)) (lists : List L) (chosen : List Edit) (router : ℕ) →
    AllPairs (λ a b. a ≢ b) (edited_lists (placed lists) router_of change chosen router)
edited-apart {L} router_of change lists chosen router =
    let pick : ℕ × L → Option (ℕ × ℕ) = edited_by router_of change chosen in
    pairs_picked (λ (a : ℕ × ℕ) (b : ℕ × ℕ). a.1 ≢ b.1) (λ (a : ℕ) (b : ℕ). a ≢ b) (if_number router) (filter_map pick (placed lists))
    (λ x z y w differ one two same. differ ((numbered router x y one).1 ∙ same ∙ sym (numbered router z w two).1))
    (pairs_picked (λ (a : ℕ × L) (b : ℕ × L). a.0 ≢ b.0) (λ (a : ℕ × ℕ) (b : ℕ × ℕ). a.1 ≢ b.1) pick (placed lists)
    (λ x z y w differ one two same. differ (sym (place x y one) ∙ same ∙ place z w two)) (placed_apart lists))
  where
    by : (b : Bool) (r k : ℕ) (y : ℕ × ℕ) → (if b then None else Some (r, k)) ≡ Some y → y.1 ≡ k
    by true r k y e = absurd (none-some y e)
    by false r k y e = ap (λ (p : ℕ × ℕ). p.1) (sym (same_Some (r, k) y e))

    place : (x : ℕ × L) (y : ℕ × ℕ) → edited_by router_of change chosen x ≡ Some y → y.1 ≡ x.0
    place x y = by (is_empty (of_number x.0 (filter_map change chosen))) (router_of x.1) x.0 y

-- a list of the router that edits put entries into is one of its edited ones
edited-in : {L X : Type 0} (router_of : L → ℕ) (change : Edit → Option (ℕ × X)) (lists : List L) (chosen : List Edit) (router id : ℕ) (row : L) → slice_get lists id ≡ Some row →
    router_of row ≡ router →
    of_number id (filter_map change chosen) ≢ [] → Contains (edited_lists (placed lists) router_of change chosen router) id
edited-in router_of change lists chosen router id row at here some =
    picks (if_number router) (filter_map (edited_by router_of change chosen) (placed lists)) (router, id) id
    (picks (edited_by router_of change chosen) (placed lists) (id, row) (router, id) (placed_there lists id row at)
    (ap (λ (b : Bool). if b then None else Some (router_of row, id)) (not-empty (of_number id (filter_map change chosen)) some) ∙ (λ i. Some (here i, id))))
    (ap (λ (b : Bool). if b then Some id else None) (eq-eqb router router refl))

-- where other lists have nothing at a number, there is what one list has
pub one-list : {L X Y : Type 0} (router_of : L → ℕ) (name_of : L → List ℕ) (change : Edit → Option (ℕ × X)) (lists : List L) (chosen : List Edit) (router n : ℕ) (table : ℕ → List (ℕ × Y)) →
    AllPairs (λ l m. router_of l ≡ router_of m → name_of l ≢ name_of m) lists → (id : ℕ) (row : L) → slice_get lists id ≡ Some row → router_of row ≡ router →
    of_number id (filter_map change chosen) ≢ [] →
    ((other : ℕ) (r : EditedRow router_of change lists chosen router other) → name_of r.row ≢ name_of row → of_number n (table other) ≡ []) →
    of_number n (flat_map table (edited_lists (placed lists) router_of change chosen router)) ≡ of_number n (table id)
one-list router_of name_of change lists chosen router n table apart id row at here some off =
    flat-one n table (edited_lists (placed lists) router_of change chosen router) id (edited-apart router_of change lists chosen router)
    (edited-in router_of change lists chosen router id row at here some)
    (λ other there differ. let r = edited-list router_of change lists chosen router other there in
    off other r (λ same. differ (one_named router_of name_of lists other id r.row row apart r.at at (r.own ∙ sym here) same)))

own-parts : {Y : Type 0} (router : ℕ) (name : List ℕ) (other : ℕ) (named : List ℕ) (y z : Y) → if_own_list router name other named y ≡ Some z → (other ≡ router) × (named ≡ name)
own-parts {Y} router name other named y z e = by ((other == router) && bytes_eq named name) refl e
  where
    by : (b : Bool) → ((other == router) && bytes_eq named name) ≡ b → (if b then Some y else None) ≡ Some z → (other ≡ router) × (named ≡ name)
    by true pass e = let both = and_parts (other == router) (bytes_eq named name) pass in (eqb-true other router both.0, (bytes_eq-Decides named name).0 both.1)
    by false pass e = absurd (none-some z e)

module _ (net : Network) (places : List Places) (chosen : List Edit) (router : ℕ) (text : List ℕ) (lines : Lines) (cs : List FileCommand)
    (f : IsEditedFile net places chosen router text lines cs) where
  abbrev own_at : Places
  own_at = own net places chosen router text lines cs

  abbrev packets_here : KindInFile (packet_texts net chosen f.valid) router cs
  packets_here = packets_in net places chosen router text lines cs f

  abbrev routes_here : KindInFile (route_texts net chosen f.valid) router cs
  routes_here = routes_in net places chosen router text lines cs f

  module _ (q : Part) (first : FileCommand) (rest : List FileCommand) (is : members cs q ≡ first ∷ rest) (x : List ℕ × ListKind × ListForm) (begun : list_begun first.command ≡ Some x) where
    abbrev mine : ListText
    mine = plain net places chosen router text lines cs f q first rest is x begun

    -- a list of the file is that of the group
    pub record IsThis (list : ListText) : Type 0 where
      pub name : list.name ≡ x.0
      pub kind : list.kind ≡ x.1
      pub form : list.form ≡ x.2
      pub entries_are : list.entries ≡ entries (members cs q)

    pub this : (list : ListText) (among : Contains (config_of cs).lists list) → (list-group cs list among).part ≡ q → IsThis list
    this list among part =
        let g = list-group cs list among in
        let same : first ≡ g.first = heads-same first g.first rest g.rest (sym is ∙ ap (members cs) (sym part) ∙ g.is) in
        let all = same_Some _ _ (sym g.begun ∙ ap (λ (c : FileCommand). list_begun c.command) (sym same) ∙ begun) in
        record {
          name = ap (λ (t : List ℕ × ListKind × ListForm). t.0) all;
          kind = ap (λ (t : List ℕ × ListKind × ListForm). t.1) all;
          form = ap (λ (t : List ℕ × ListKind × ListForm). t.2) all;
          entries_are = g.entries_are ∙ ap entries (sym g.is ∙ ap (members cs) part);
        }

    shown-entries : (list : ListText) → IsThis list → shown (first ∷ rest) ≡ map plain_entry list.entries
    shown-entries list t = shown-is (first ∷ rest) ∙ ap (λ (l : List FileCommand). map plain_entry (entries l)) (sym is) ∙ ap (map plain_entry) (sym t.entries_are)

    first-in : Contains cs first
    first-in = (members-of cs q first (subst (λ (l : List FileCommand). Contains l first) (sym is) (Contains-head first rest))).0

    first-part : part_of first ≡ q
    first-part = (members-of cs q first (subst (λ (l : List FileCommand). Contains l first) (sym is) (Contains-head first rest))).1

    group-in : (list : ListText) (among : Contains (config_of cs).lists list) → Contains cs (list-group cs list among).first
    group-in list among = let g = list-group cs list among in (members-of cs g.part g.first (subst (λ (l : List FileCommand). Contains l g.first) (sym g.is) (Contains-head g.first g.rest))).0

    module _ {K : ListsOfKind net chosen} {T : TextsOfKind net chosen K} (R : KindInFile T router cs) where
      abbrev pub things_of : ℕ → List T.Thing
      things_of id = of_number id (filter_map T.change chosen)

      abbrev things : List T.Thing
      things = filter_map (T.thing_for router x.0) chosen

      own-row : (edit : Edit) (z : T.Thing) → T.thing_for router x.0 edit ≡ Some z →
          (id : ℕ) × (row : K.Row) × (slice_get K.lists id ≡ Some row) × (K.router row ≡ router) × (K.name row ≡ x.0)
      own-row edit z made = by-change (T.change edit) (sym (T.for_is router x.0 edit) ∙ made)
        where
          by-list : (id : ℕ) (y : T.Thing) (o : Option K.Row) → slice_get K.lists id ≡ o → option_and_then (λ (l : K.Row). if_own_list router x.0 (K.router l) (K.name l) y) o ≡ Some z →
              (id : ℕ) × (row : K.Row) × (slice_get K.lists id ≡ Some row) × (K.router row ≡ router) × (K.name row ≡ x.0)
          by-list id y None at told = absurd (none-some z told)
          by-list id y (Some row) at told = let both = own-parts router x.0 (K.router row) (K.name row) y z told in (id, row, at, both.0, both.1)

          by-change : (o : Option (ℕ × T.Thing)) →
              option_and_then (λ (c : ℕ × T.Thing). option_and_then (λ (l : K.Row). if_own_list router x.0 (K.router l) (K.name l) c.1) (slice_get K.lists c.0)) o ≡ Some z →
              (id : ℕ) × (row : K.Row) × (slice_get K.lists id ≡ Some row) × (K.router row ≡ router) × (K.name row ≡ x.0)
          by-change None told = absurd (none-some z told)
          by-change (Some c) told = by-list c.0 c.1 (slice_get K.lists c.0) refl told

      -- the network's list that edits put entries into is that of the group
      pub record HasThings : Type 0 where
        pub id : ℕ
        pub row : K.Row
        pub at : slice_get K.lists id ≡ Some row
        pub here : K.router row ≡ router
        pub named : K.name row ≡ x.0
        pub some : things_of id ≢ []
        pub has : R.Has row
        pub is_this : IsThis (R.list row has)
        pub same : things_of id ≡ things

      pub found : (z : T.Thing) (zs : List T.Thing) → things ≡ z ∷ zs → is_packet_kind x.1 ≡ T.packet → HasThings
      found z zs made kind =
          let (edit, in_chosen, picked) = picked_from (T.thing_for router x.0) chosen z (subst (λ (l : List T.Thing). Contains l z) (sym made) (Contains-head z zs)) in
          let (id, row, at, here, named) = own-row edit z picked in
          let same : things_of id ≡ things = things_same T router x.0 id row at here named in
          let some : things_of id ≢ [] = λ none. some-item z zs (sym made ∙ sym same ∙ none) in
          let h = R.has id row at here some in
          let list = R.list row h in
          let among = R.among row h in
          let g = list-group cs list among in
          let begun_g : list_begun g.first.command ≡ begins x.0 list.kind list.form = g.begun ∙ ap (λ (nm : List ℕ). begins nm list.kind list.form) (R.name row h ∙ named) in
          let part : g.part ≡ q = sym (group-part cs list g) ∙ same-group cs g.first first x.0 list.kind x.1 list.form x.2 f.once (group-in list among) first-in begun_g begun
          (R.kind row h ∙ sym kind) ∙ first-part in
          record { id = id; row = row; at = at; here = here; named = named; some = some; has = h; is_this = this list among part; same = same }

      -- what the edits put at a number, where they put it only for the list of the group
      module _ {Y : Type 0} (n : ℕ) (put : ListPlace → K.Row → List T.Thing → List (ℕ × Y))
          (off : (list : ListText) → Contains (config_of cs).lists list → list.entries ≢ [] → (row : K.Row) (ts : List T.Thing) → (IsThis list → ⊥) → of_number n (put (list_place list) row ts) ≡ [])
        where
          abbrev table : ℕ → List (ℕ × Y)
          table id = for_list K.lists R.place_of (λ (row : K.Row) (place : ListPlace). put place row (things_of id)) id

          abbrev all_tables : List (ℕ × Y)
          all_tables = flat_map table (edited_lists (placed K.lists) K.router T.change chosen router)

          table-is : (id : ℕ) (row : K.Row) (h : R.Has row) → slice_get K.lists id ≡ Some row → table id ≡ put (list_place (R.list row h)) row (things_of id)
          table-is id row h at = lists-have K.lists R.place_of (λ (row : K.Row) (place : ListPlace). put place row (things_of id)) id row (list_place (R.list row h)) at (R.place row h)

          table-off : (id : ℕ) (r : EditedRow K.router T.change K.lists chosen router id) → ((h : R.Has r.row) → IsThis (R.list r.row h) → ⊥) → of_number n (table id) ≡ []
          table-off id r never =
              let h = R.has id r.row r.at r.own r.some in
              ap (of_number n) (table-is id r.row h r.at) ∙ off (R.list r.row h) (R.among r.row h) (R.some r.row h) r.row (things_of id) (never h)

          -- lists of the other kind have nothing there
          pub none-of-kind : (is_packet_kind x.1 ≡ T.packet → ⊥) → of_number n all_tables ≡ []
          none-of-kind other = flat-none n table (edited_lists (placed K.lists) K.router T.change chosen router) (λ id there. let r = edited-list K.router T.change K.lists chosen router id there in
              table-off id r (λ h t. other (ap is_packet_kind (sym t.kind) ∙ R.kind r.row h)))

          -- where the edits put nothing into this list
          pub none-here : things ≡ [] → of_number n all_tables ≡ []
          none-here empty = flat-none n table (edited_lists (placed K.lists) K.router T.change chosen router) (λ id there. let r = edited-list K.router T.change K.lists chosen router id there in
              table-off id r (λ h t. r.some (things_same T router x.0 id r.row r.at r.own (sym (R.name r.row h) ∙ t.name) ∙ empty)))

          -- where they put some
          pub some-here : (s : HasThings) → of_number n all_tables ≡ of_number n (put (list_place (R.list s.row s.has)) s.row (things_of s.id))
          some-here s =
              one-list K.router K.name T.change K.lists chosen router n table K.apart s.id s.row s.at s.here s.some
              (λ other r differ. table-off other r (λ h t. differ (sym (R.name r.row h) ∙ t.name ∙ sym s.named))) ∙ ap (of_number n) (table-is s.id s.row s.has s.at)

    module _ (e : Given Command) (more : List (Given Command)) (es : entries (members cs q) ≡ e ∷ more) (c : FirstOf (members cs q) e) where
      abbrev n : ℕ
      n = c.command.line

      -- the list of the group begins at this line
      by-line : (list : ListText) (among : Contains (config_of cs).lists list) → list.entries ≢ [] → first_line (list_place list) ≡ n → (list-group cs list among).part ≡ q
      by-line list among some line =
          let g = list-group cs list among in
          let fe = first-entry list some in
          let d = entry-command cs list g fe.first (subst (λ (l : List (Given Command)). Contains l fe.first) (sym fe.is) (Contains-head fe.first fe.more)) in
          let (in_cs, part) = members-of cs q c.command c.among in
          let same : d.command ≡ c.command = one-line 1 cs d.command c.command (rising (text_lines text) cs f.stand) d.among in_cs (d.line ∙ sym fe.line ∙ line) in
          sym d.own ∙ ap part_of same ∙ part

      line-of : (list : ListText) → IsThis list → first_line (list_place list) ≡ n
      line-of list t = ap (λ (gs : List (Given Command)). slice_index (map (λ (g : Given Command). g.line) gs) 0) (t.entries_are ∙ es) ∙ sym c.line

      module _ {K : ListsOfKind net chosen} {T : TextsOfKind net chosen K} (R : KindInFile T router cs) where
        abbrev fronts : ListPlace → K.Row → List T.Thing → List (ℕ × Command)
        fronts place row ts = at_front place (map (R.command place row) (enumerate_from 1 ts))

        pub fronts-off : (list : ListText) → Contains (config_of cs).lists list → list.entries ≢ [] → (row : K.Row) (ts : List T.Thing) → (IsThis list → ⊥) →
            of_number n (fronts (list_place list) row ts) ≡ []
        fronts-off list among some row ts never =
            of-number-other (first_line (list_place list)) n (map (R.command (list_place list) row) (enumerate_from 1 ts)) (λ line. never (this list among (by-line list among some line)))

        abbrev pub all_fronts : List Command
        all_fronts = of_number n (flat_map (λ (id : ℕ). for_list K.lists R.place_of (λ (row : K.Row) (place : ListPlace). fronts place row (things_of R id)) id)
            (edited_lists (placed K.lists) K.router T.change chosen router))

        pub no-fronts : (is_packet_kind x.1 ≡ T.packet → ⊥) → all_fronts ≡ []
        no-fronts = none-of-kind R n fronts fronts-off

        pub no-front-here : filter_map (T.thing_for router x.0) chosen ≡ [] → all_fronts ≡ []
        no-front-here = none-here R n fronts fronts-off

        pub fronts-here : (s : HasThings R) → all_fronts ≡ map (R.command (list_place (R.list s.row s.has)) s.row) (enumerate_from 1 (things_of R s.id))
        fronts-here s =
            some-here R n fronts fronts-off s ∙
            of-number-here (first_line (list_place (R.list s.row s.has))) n (map (R.command (list_place (R.list s.row s.has)) s.row) (enumerate_from 1 (things_of R s.id)))
            (line-of (R.list s.row s.has) s.is_this)

        abbrev line : T.Thing → Command
        line y = T.line mine (T.opposite (entries_of T mine) y)

        -- what stands before the first entry of the list
        front-is : is_packet_kind x.1 ≡ T.packet → written (map written_of all_fronts) ≡ map said (front_lines net chosen router mine x.1)
        front-is kind = by (filter_map (T.thing_for router x.0) chosen) refl ∙ ap (map said) (sym (T.front_is router mine kind))
          where
            by : (ts : List T.Thing) → filter_map (T.thing_for router x.0) chosen ≡ ts → written (map written_of all_fronts) ≡ map said (map line (filter_map (T.thing_for router x.0) chosen))
            by [] made = ap (λ (l : List Command). written (map written_of l)) (no-front-here made) ∙ ap (λ (l : List T.Thing). map said (map line l)) (sym made)
            by (z ∷ zs) made =
                let s = found R z zs made kind in
                let list = R.list s.row s.has in
                let same : entries_of T list ≡ entries_of T mine =
                sym (plain_picks T.entry T.entry_plain list.entries) ∙ ap (filter_map (λ (g : Given Command). T.entry g.value)) (sym (shown-entries list s.is_this)) in
                ap (λ (l : List Command). written (map written_of l)) (fronts-here s) ∙ R.written_is s.row s.has mine (things_of R s.id) s.is_this.name s.is_this.form same ∙
                ap (λ (l : List T.Thing). map said (map line l)) s.same

      -- only entries of the list's own kind stand there
      pub only-packets : is_packet_kind x.1 ≡ true → entries_at net own_at chosen router c.command ≡ map written_of (all_fronts packets_here)
      only-packets kind = ap (map written_of) (only-first n (flat_map (packet_list_entries net own_at chosen) (edited_packet_lists net chosen router))
          (flat_map (route_list_entries net own_at chosen) (edited_route_lists net chosen router)) (no-fronts routes_here (λ other. false≢true (sym other ∙ kind))))

      pub only-routes : is_packet_kind x.1 ≡ false → entries_at net own_at chosen router c.command ≡ map written_of (all_fronts routes_here)
      only-routes kind = ap (map written_of) (only-second n (flat_map (packet_list_entries net own_at chosen) (edited_packet_lists net chosen router))
          (flat_map (route_list_entries net own_at chosen) (edited_route_lists net chosen router)) (no-fronts packets_here (λ other. false≢true (sym kind ∙ other))))

      front-here : (b : Bool) → is_packet_kind x.1 ≡ b → written (entries_at net own_at chosen router c.command) ≡ map said (front_lines net chosen router mine x.1)
      front-here true kind = ap written (only-packets kind) ∙ front-is packets_here kind
      front-here false kind = ap written (only-routes kind) ∙ front-is routes_here kind

    -- a list without entries gets none
    module _ (empty : entries (members cs q) ≡ []) where
      no-things : {K : ListsOfKind net chosen} {T : TextsOfKind net chosen K} (R : KindInFile T router cs) → is_packet_kind x.1 ≡ T.packet → front_lines net chosen router mine x.1 ≡ []
      no-things {K} {T} R kind = T.front_is router mine kind ∙ ap (map (λ (y : T.Thing). T.line mine (T.opposite (entries_of T mine) y))) (by (filter_map (T.thing_for router x.0) chosen) refl)
        where
          by : (ts : List T.Thing) → filter_map (T.thing_for router x.0) chosen ≡ ts → ts ≡ []
          by [] made = refl
          by (z ∷ zs) made = let s = found R z zs made kind in absurd (R.some s.row s.has (s.is_this.entries_are ∙ empty))

      front-none : (b : Bool) → is_packet_kind x.1 ≡ b → front_lines net chosen router mine x.1 ≡ []
      front-none true kind = no-things packets_here kind
      front-none false kind = no-things routes_here kind

    show-by : (gs : List (Given Command)) → entries (members cs q) ≡ gs →
        shown (flat_map (λ (c : FileCommand). grow_at net places chosen router text lines cs c) (members cs q)) ≡ map said (front_lines net chosen router mine x.1) ++ shown (members cs q)
    show-by [] es = none-front net places chosen router text lines cs f q first rest is x begun es ∙ ap (λ (l : List Command). map said l ++ shown (members cs q))
        (sym (front-none es (is_packet_kind x.1) refl))
    show-by (e ∷ more) es =
        let (c, shows) = some-front net places chosen router text lines cs f q first rest is x begun e more es in
        shows ∙ ap (λ (l : List (Given Command)). l ++ shown (members cs q)) (front-here e more es c (is_packet_kind x.1) refl)

  pub lists-show : ListsShow net places chosen router text lines cs f
  lists-show q first rest is x begun = show-by q first rest is x begun (entries (members cs q)) refl
