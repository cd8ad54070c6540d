-- The lists of a network that edits put entries into stand in its files.
use Rattle.std.proofs.Common.{◌≡◌, ◌≢◌, ℕ, ◌&&◌, ◌⊎◌, inl, inr, not, Bool, true, false, if◌then◌else◌, cond, Option, Some, None, List, [], ◌∷◌, map, refl, sym, ap, subst, ◌∙◌}
use Rattle.std.proofs.Common.{⊎_elim, Contains, IsTrue, find}
use Rattle.std.specs.Prelude.{slice_get, option_map, bytes_eq}
use Rattle.std.specs.Option.{option_map_or}
use Rattle.std.proofs.lemmas.Bool.{and_parts, false≢true}
use Rattle.std.proofs.lemmas.Option.{none-some, same_Some}
use Rattle.std.proofs.lemmas.Slice.Eq.{bytes_eq-Decides}
use Rattle.arc_base.specs.PrefixText.{number_of}
use Rattle.arc_base.proofs.Items.{Contains-head, Contains-tail}
use Rattle.net_model.specs.declared.lists.PacketList.{PacketList}
use Rattle.net_model.specs.declared.lists.RouteList.{RouteList}
use Rattle.net_model.specs.declared.policies.Class.{Class}
use Rattle.net_model.specs.declared.policies.Document.{Document}
use Rattle.net_model.specs.declared.rows.Network.{Network}
use Rattle.arc_base.specs.NameForms.{IsName, is_name}
use Rattle.ios_words.specs.declared.commands.Command.{Command}
use Rattle.ios_words.specs.declared.commands.Command.TheVariants as commands
use Rattle.ios_config.specs.declared.commands.FileCommand.{FileCommand}
use Rattle.ios_config.specs.declared.settings.Config.{Config}
use Rattle.ios_config.specs.declared.settings.Given.{Given}
use Rattle.ios_config.specs.declared.settings.ListForm.{ListForm}
use Rattle.ios_config.specs.declared.settings.ListForm.TheVariants as forms
use Rattle.ios_config.specs.declared.settings.ListKind.{ListKind}
use Rattle.ios_config.specs.declared.settings.ListKind.TheVariants.{Extended, Standard}
use Rattle.ios_config.specs.declared.settings.ListKind.TheVariants as list_kinds
use Rattle.ios_config.specs.declared.settings.ListText.{ListText}
use Rattle.ios_config.specs.Texts.{config_of, is_standard}
use Rattle.net_build.specs.declared.built.ListPlace.{ListPlace}
use Rattle.net_rules.specs.Lists.{IsPacketListRow, IsRouteListRow, has_entries, if_defined, is_extended_kind, is_of_kind, is_packet_kind, list_named, packet_row, packet_row_at, route_row}
use Rattle.net_rules.specs.Lists.{route_row_at}
use Rattle.net_build.specs.Places.{list_place}
use Rattle.edit_list.specs.declared.edit_kinds.Edit.{Edit}
use Rattle.edit_list.specs.declared.edit_kinds.Edit.TheVariants as edits
use Rattle.edit_list.specs.Changes.{list_classes}
use Rattle.edit_list.specs.EditLists.{AreEdits}
use Rattle.edit_list.specs.Prices.{chosen_of}
use Rattle.edit_list.proofs.EditsFrom.{TakesClasses, edits_from}
use Rattle.network_edit_laws.proofs.Changed.{packet_list_in}
use Rattle.network_edit_laws.proofs.Listed.{chosen_listed}
use Rattle.line_patcher.specs.EntryLines.{is_packet_form}
use Rattle.settings_edit_laws.proofs.SessionFacts.{find_in}
use Rattle.patch_laws.specs.EditFiles.{HasPacketList, HasRouteList, HaveListLines}
use Rattle.patch_laws.specs.ListsGrow.{list_begun}
use Rattle.patch_laws.proofs.EditLists.{list-group}
use Rattle.patch_laws.proofs.EditNewNames.{name-passes}

-- what begins a list, with its kind and form
abbrev Head : Type 0
Head = List ℕ × ListKind × ListForm

packet-number : (b : Bool) → is_packet_kind (if b then Standard else Extended) ≡ true
packet-number true = refl
packet-number false = refl

-- the forms of lists are those of their kinds
abbrev Fits : Option Head → Type 0
Fits None = Unit {0}
Fits (Some h) = is_packet_form h.2 ≡ is_packet_kind h.1

head-fits : (command : Command) → Fits (list_begun command)
head-fits (commands.ListBlock true n) = refl
head-fits (commands.ListBlock false n) = refl
head-fits (commands.ListLine n entry) = sym (packet-number (option_map_or is_standard (number_of n) false))
head-fits (commands.PrefixLine n order entry) = refl
head-fits _ = tt

pub form-kind : (cs : List FileCommand) (list : ListText) → Contains (config_of cs).lists list → is_packet_form list.form ≡ is_packet_kind list.kind
form-kind cs list there = let h = list-group cs list there in subst Fits h.begun (head-fits h.first.command)

packet-forms : (f : ListForm) → is_packet_form f ≡ true → (f ≡ forms.Block) ⊎ (f ≡ forms.Lines)
packet-forms forms.Block is = inl refl
packet-forms forms.Lines is = inr refl
packet-forms forms.PrefixLines is = absurd (false≢true is)

prefix-form : (f : ListForm) → is_packet_form f ≡ false → f ≡ forms.PrefixLines
prefix-form forms.PrefixLines is = refl
prefix-form forms.Block is = absurd (false≢true (sym is))
prefix-form forms.Lines is = absurd (false≢true (sym is))

-- a list that is found is found at its place
found-place : (p : ListPlace → Bool) (q : ListText → Bool) (ls : List ListText) (l : ListText) → ((x : ListText) → Contains ls x → p (list_place x) ≡ q x) → find q ls ≡ Some l →
    find p (map list_place ls) ≡ Some (list_place l)
found-place p q [] l same e = absurd (none-some l e)
found-place p q (x ∷ ls) l same e = by (p (list_place x)) (q x) (same x (Contains-head x ls)) e (found-place p q ls l (λ y there. same y (Contains-tail x y ls there)))
  where
    by : (a b : Bool) → a ≡ b → cond b (Some x) (find q ls) ≡ Some l → (find q ls ≡ Some l → find p (map list_place ls) ≡ Some (list_place l)) →
        cond a (Some (list_place x)) (find p (map list_place ls)) ≡ Some (list_place l)
    by true true s e deeper = ap (option_map {U = ListPlace} list_place) e
    by false false s e deeper = deeper e
    by true false s e deeper = absurd (false≢true (sym s))
    by false true s e deeper = absurd (false≢true s)

-- the list that is defined under a name
record Defined (packet : Bool) (config : Config) (name : List ℕ) (l : ListText) : Type 0 where
  found : list_named packet config name ≡ Some l
  among : Contains config.lists l
  named : l.name ≡ name
  of : is_of_kind packet l ≡ true
  some : l.entries ≢ []

some-entries : (es : List (Given Command)) → has_entries es ≡ true → es ≢ []
some-entries [] is none = false≢true is
some-entries (e ∷ es) is none = absurd cc

row-defined : {R : Type 0} (packet : Bool) (config : Config) (name : List ℕ) (make : ListText → R) (row : R) → option_map make (if_defined (list_named packet config name)) ≡ Some row →
    (l : ListText) × Defined packet config name l × (make l ≡ row)
row-defined {R} packet config name make row e = by (list_named packet config name) refl e
  where
    inner : (l : ListText) → list_named packet config name ≡ Some l → (b : Bool) → has_entries l.entries ≡ b → option_map make (if b then Some l else None) ≡ Some row →
        (x : ListText) × Defined packet config name x × (make x ≡ row)
    inner l found false has e = absurd (none-some row e)
    inner l found true has e =
        let f = find_in (λ (list : ListText). bytes_eq list.name name && is_of_kind packet list) config.lists l found in
        let both = and_parts (bytes_eq l.name name) (is_of_kind packet l) f.1 in (
          l,
          record { found = found; among = f.0; named = (bytes_eq-Decides l.name name).0 both.0; of = both.1; some = some-entries l.entries has },
          same_Some (make l) row e,
        )

    by : (o : Option ListText) → list_named packet config name ≡ o → option_map make (if_defined o) ≡ Some row → (x : ListText) × Defined packet config name x × (make x ≡ row)
    by None found e = absurd (none-some row e)
    by (Some l) found e = inner l found (has_entries l.entries) refl e

extended-kind : (k : ListKind) → is_extended_kind k ≡ true → k ≡ Extended
extended-kind Extended e = refl
extended-kind Standard e = absurd (false≢true e)
extended-kind list_kinds.Prefix e = absurd (false≢true e)

prefix-kind : (k : ListKind) → not (is_packet_kind k) ≡ true → k ≡ list_kinds.Prefix
prefix-kind Extended e = absurd (false≢true e)
prefix-kind Standard e = absurd (false≢true e)
prefix-kind list_kinds.Prefix e = refl

module _ (cs : List FileCommand) (lines : HaveListLines cs) (router : ℕ) (configs : List Config) (at : slice_get configs router ≡ Some (config_of cs)) where
  -- a packet list of the network that is extended
  pub has-packets : (row : PacketList) → row.router.0 ≡ router → IsPacketListRow configs row → row.extended ≡ true → HasPacketList cs row
  has-packets row own is extended =
      let same : is.config ≡ config_of cs = same_Some is.config (config_of cs) (sym is.at_router ∙ ap (slice_get configs) own ∙ at) in
      let defined : packet_row_at row.router.0 (config_of cs) row.name ≡ Some row = ap (λ (c : Config). packet_row_at row.router.0 c row.name) (sym same) ∙ is.defined in
      let (l, d, made) = row-defined true (config_of cs) row.name (packet_row row.router.0 row.name) row defined in
      let kind : l.kind ≡ Extended = extended-kind l.kind (ap (λ (r : PacketList). r.extended) made ∙ extended) in
      record {
        list = l;
        among = d.among;
        place = found-place (λ (place : ListPlace). bytes_eq place.name row.name && is_packet_form place.form) (λ (list : ListText). bytes_eq list.name row.name && is_of_kind true list)
            (config_of cs).lists l
            (λ x there. ap (λ (b : Bool). bytes_eq x.name row.name && b) (form-kind cs x there)) d.found;
        name = d.named;
        kind = kind;
        form = ⊎_elim (λ block. inl block) (λ lined. inr (lined, lines.numbers l d.among lined kind)) (packet-forms l.form (form-kind cs l d.among ∙ ap is_packet_kind kind));
        entries = ap (λ (r : PacketList). r.entries) (sym made);
        some = d.some;
      }

  pub has-routes : (row : RouteList) → row.router.0 ≡ router → IsRouteListRow configs row → IsName row.name → HasRouteList cs row
  has-routes row own is name =
      let same : is.config ≡ config_of cs = same_Some is.config (config_of cs) (sym is.at_router ∙ ap (slice_get configs) own ∙ at) in
      let defined : route_row_at row.router.0 (config_of cs) row.name ≡ Some row = ap (λ (c : Config). route_row_at row.router.0 c row.name) (sym same) ∙ is.defined in
      let (l, d, made) = row-defined false (config_of cs) row.name (route_row row.router.0 row.name) row defined in
      let kind : l.kind ≡ list_kinds.Prefix = prefix-kind l.kind d.of in
      let form : l.form ≡ forms.PrefixLines = prefix-form l.form (form-kind cs l d.among ∙ ap is_packet_kind kind) in
      record {
        list = l;
        among = d.among;
        place = found-place (λ (place : ListPlace). bytes_eq place.name row.name && not (is_packet_form place.form))
            (λ (list : ListText). bytes_eq list.name row.name && is_of_kind false list) (config_of cs).lists l
            (λ x there. ap (λ (b : Bool). bytes_eq x.name row.name && not b) (form-kind cs x there)) d.found;
        name = d.named;
        kind = kind;
        form = form;
        is_name = subst (λ (n : List ℕ). IsTrue (is_name n)) (sym d.named) (name-passes row.name name);
        other = lines.words l d.among form;
        entries = ap (λ (r : RouteList). r.entries) (sym made);
        some = d.some;
      }

-- a packet list that edits put entries into is an extended one
pub edited-extended : (net : Network) (id : ℕ) (row : PacketList) → slice_get net.packet_lists id ≡ Some row → (doc : Document) (list : List Edit) (flags : List Bool) →
    AreEdits net doc list → list_classes (chosen_of list flags) id ≢ [] → row.extended ≡ true
edited-extended net id row at doc list flags are some =
    let (class, there) = first-of (list_classes (chosen_of list flags) id) some in
    let among = packet_list_in (chosen_of list flags) (record { 0 = id }) class there in
    let takes : TakesClasses net (record { 0 = id }) =
    (edits_from net doc list are (edits.PacketList (record { 0 = id }) class) (chosen_listed list flags (edits.PacketList (record { 0 = id }) class) among)).0 in
    ap (λ (p : PacketList). p.extended) (same_Some row takes.row (sym at ∙ takes.at)) ∙ takes.extended
  where
    first-of : (xs : List Class) → xs ≢ [] → (x : Class) × Contains xs x
    first-of [] none = absurd (none refl)
    first-of (x ∷ xs) any = (x, Contains-head x xs)
