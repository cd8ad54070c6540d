-- The entries that edits put before the first one of a list are those of the settings after the edits.
use Rattle.std.proofs.Common.{◌≡◌, ◌≢◌, ℕ, ◌+◌, ◌⊎◌, inl, inr, Bool, true, false, if◌then◌else◌, Option, Some, None, List, [], ◌∷◌, ◌++◌, map, refl, sym, ap, ◌∙◌, ⊎_elim, Contains, append-nil}
use Rattle.std.specs.Prelude.{AllPairs}
use Rattle.std.specs.List.{enumerate_from, flat_map}
use Rattle.std.proofs.lemmas.Bool.{false≢true}
use Rattle.std.proofs.lemmas.Option.{same_Some, none-some}
use Rattle.arc_base.specs.declared.prefix.Prefix.{Prefix}
use Rattle.arc_base.proofs.Items.{Contains-cases, Contains-none, Contains-head, Contains-tail, AllPairs-first, AllPairs-rest}
use Rattle.ios_words.specs.declared.commands.Command.{Command}
use Rattle.ios_words.specs.declared.commands.Command.TheVariants as commands
use Rattle.ios_config.specs.declared.commands.FileCommand.{FileCommand}
use Rattle.ios_config.specs.declared.settings.ListForm.{ListForm}
use Rattle.ios_config.specs.declared.settings.ListForm.TheVariants as forms
use Rattle.ios_config.specs.declared.settings.ListKind.{ListKind}
use Rattle.ios_config.specs.declared.settings.ListKind.TheVariants as kinds
use Rattle.ios_config.specs.Groups.{part_in, part_of}
use Rattle.ios_config.specs.Groups as groups
use Rattle.ios_config.specs.Twice.{Stand, stand_of, excluded, Clash}
use Rattle.ios_config.specs.Twice as stands
use Rattle.arc_base.specs.Numbered.{of_number}
use Rattle.net_model.specs.declared.lists.PacketEntry.{PacketEntry}
use Rattle.net_model.specs.declared.lists.PacketList.{PacketList}
use Rattle.net_model.specs.declared.lists.RouteList.{RouteList}
use Rattle.net_model.specs.declared.policies.Class.{Class}
use Rattle.net_rules.specs.Lists.{is_packet_kind}
use Rattle.net_build.specs.declared.built.ListPlace.{ListPlace}
use Rattle.edit_list.specs.After.{opposite_packet_entry, opposite_route_entry}
use Rattle.settings_edit_laws.specs.Additions.{route_line}
use Rattle.settings_edit_laws.specs.Plain.{said}
use Rattle.settings_edit_laws.proofs.Pairs.{any_of}
use Rattle.patch_laws.specs.Written.{written_of}
use Rattle.arc_base.specs.PrefixText.{number_of}
use Rattle.std.specs.Option.{option_map_or}
use Rattle.net_model.specs.declared.lists.RouteEntry.{RouteEntry}
use Rattle.ios_config.specs.declared.settings.Given.{Given}
use Rattle.ios_config.specs.Texts.{is_standard}
use Rattle.line_patcher.specs.EntryLines.{class_commands, order_at, packet_command, prefix_command}
use Rattle.patch_laws.specs.ListsGrow.{list_begun}
use Rattle.patch_laws.proofs.EditFaces.{same-stand}
use Rattle.patch_laws.proofs.EditLists.{of-append}
use Rattle.patch_laws.proofs.EditListGroups.{written}
use Rattle.patch_laws.proofs.EditOnce.{Apart}

-- what several tables have at a number
module _ {X : Type 0} (n : ℕ) (T : ℕ → List (ℕ × X)) where
  pub flat-none : (ids : List ℕ) → ((id : ℕ) → Contains ids id → of_number n (T id) ≡ []) → of_number n (flat_map T ids) ≡ []
  flat-none [] none = refl
  flat-none (i ∷ ids) none = of-append n (T i) (flat_map T ids)
      ∙ (let one = none i (Contains-head i ids) in let rest = flat-none ids (λ id there. none id (Contains-tail i id ids there)) in λ k. one k ++ rest k)

  pub flat-one : (ids : List ℕ) (one : ℕ) → AllPairs (λ a b. a ≢ b) ids → Contains ids one → ((id : ℕ) → Contains ids id → id ≢ one → of_number n (T id) ≡ []) →
      of_number n (flat_map T ids) ≡ of_number n (T one)
  flat-one [] one apart has none = absurd (Contains-none one has)
  flat-one (i ∷ ids) one apart has none = by (Contains-cases i one ids has) (flat-one ids one (AllPairs-rest (λ (a : ℕ) (b : ℕ). a ≢ b) i ids apart))
    where
      by : (i ≡ one) ⊎ Contains ids one → (Contains ids one → ((id : ℕ) → Contains ids id → id ≢ one → of_number n (T id) ≡ []) → of_number n (flat_map T ids) ≡ of_number n (T one)) →
          of_number n (flat_map T (i ∷ ids)) ≡ of_number n (T one)
      by (inl here) deeper =
          let rest = flat-none ids (λ id there. none id (Contains-tail i id ids there) (λ same. AllPairs-first (λ (a : ℕ) (b : ℕ). a ≢ b) i id ids apart there (here ∙ sym same))) in
          of-append n (T i) (flat_map T ids) ∙ ap (λ (l : List X). of_number n (T i) ++ l) rest ∙ append-nil (of_number n (T i)) ∙ ap (λ (k : ℕ). of_number n (T k)) here
      by (inr later) deeper =
          let first = none i (Contains-head i ids) (λ same. AllPairs-first (λ (a : ℕ) (b : ℕ). a ≢ b) i one ids apart later same) in
          of-append n (T i) (flat_map T ids) ∙ ap (λ (l : List X). l ++ of_number n (flat_map T ids)) first ∙ deeper later (λ id there. none id (Contains-tail i id ids there))

-- the new entries without their numbers
entries-written : (f : ListForm) (name : List ℕ) (es : List PacketEntry) (place : ListPlace) (k : ℕ) (classes : List Class) → (f ≡ forms.Block) ⊎ (f ≡ forms.Lines) →
    written (map written_of (map (λ (e : ℕ × Class). packet_command f name (order_at place 10 e.0) (opposite_packet_entry es e.1)) (enumerate_from k classes))) ≡ map said
    (map (λ (c : Class). packet_command f name None (opposite_packet_entry es c)) classes)
entries-written f name es place k [] packet = refl
entries-written forms.Block name es place k (c ∷ classes) packet =
    ap (λ (l : List (Given Command)). said (packet_command forms.Block name None (opposite_packet_entry es c)) ∷ l) (entries-written forms.Block name es place (k + 1) classes packet)
entries-written forms.Lines name es place k (c ∷ classes) packet =
    ap (λ (l : List (Given Command)). said (packet_command forms.Lines name None (opposite_packet_entry es c)) ∷ l) (entries-written forms.Lines name es place (k + 1) classes packet)
entries-written forms.PrefixLines name es place k (c ∷ classes) (inl e) = absurd cc
entries-written forms.PrefixLines name es place k (c ∷ classes) (inr e) = absurd cc

pub classes-written : (place : ListPlace) (row : PacketList) (form : ListForm) (name : List ℕ) (es : List PacketEntry) (classes : List Class) →
    (form ≡ forms.Block) ⊎ (form ≡ forms.Lines) → place.form ≡ form → row.name ≡ name → row.entries ≡ es →
    written (map written_of (class_commands place row classes)) ≡ map said (map (λ (c : Class). packet_command form name None (opposite_packet_entry es c)) classes)
classes-written place row form name es classes packet form_is name_is es_are =
    (λ i. written (map written_of
    (map (λ (e : ℕ × Class). packet_command (form_is i) (name_is i) (order_at place 10 e.0) (opposite_packet_entry (es_are i) e.1)) (enumerate_from 1 classes))))
    ∙ entries-written form name es place 1 classes packet

pub routes-written : (name : List ℕ) (es : List RouteEntry) (place : ListPlace) (row : RouteList) (k : ℕ) (prefixes : List Prefix) → row.name ≡ name → row.entries ≡ es →
    written (map written_of (map (prefix_command place row) (enumerate_from k prefixes))) ≡ map said (map (λ (p : Prefix). route_line name (opposite_route_entry es p)) prefixes)
routes-written name es place row k [] name_is es_are = refl
routes-written name es place row k (p ∷ prefixes) name_is es_are =
    (let one : said (route_line row.name (opposite_route_entry row.entries p)) ≡ said (route_line name (opposite_route_entry es p)) =
    λ i. said (route_line (name_is i) (opposite_route_entry (es_are i) p)) in
    let rest = routes-written name es place row (k + 1) prefixes name_is es_are in λ i. one i ∷ rest i)

clash-by : (u v : Command) (s : Stand) → stand_of u ≡ Some s → Contains (excluded v) s → Clash u v
clash-by u v s stand there = any_of (λ (t : Stand). stand_of u ≡ Some t) (excluded v) s there stand

abbrev pub begins : List ℕ → ListKind → ListForm → Option (List ℕ × ListKind × ListForm)
begins name k f = Some (name, k, f)

begun-parts : (name n : List ℕ) (k : ListKind) (f : ListForm) (i : ListKind) (h : ListForm) → begins n i h ≡ begins name k f → (n ≡ name) × (i ≡ k) × (h ≡ f)
begun-parts name n k f i h e = let same = same_Some (n, i, h)
    (name, k, f) e in (ap (λ (t : List ℕ × ListKind × ListForm). t.0) same, ap (λ (t : List ℕ × ListKind × ListForm). t.1) same, ap (λ (t : List ℕ × ListKind × ListForm). t.2) same)

packet-kind : (b : Bool) (i j k : ListKind) → is_packet_kind i ≡ true → is_packet_kind j ≡ true → (if b then i else j) ≡ k → is_packet_kind k ≡ true
packet-kind true i j k one two is = ap is_packet_kind (sym is) ∙ one
packet-kind false i j k one two is = ap is_packet_kind (sym is) ∙ two

-- two commands that begin lists of one name and kind clash, or are lines of one list
begun-clash : (u v : Command) (name : List ℕ) (k j : ListKind) (f g : ListForm) → list_begun u ≡ Some (name, k, f) → list_begun v ≡ Some (name, j, g) →
    is_packet_kind k ≡ is_packet_kind j → (Clash u v × Clash v u) ⊎ ((b d : ℕ) → part_in b u ≡ part_in d v)
begun-clash (commands.ListBlock e n) (commands.ListBlock o m) name k j f g one two alike =
    let same : n ≡ m = (begun-parts name n k f _ _ one).0 ∙ sym (begun-parts name m j g _ _ two).0 in
    inl (
      clash-by (commands.ListBlock e n) (commands.ListBlock o m) (stands.ListBlock m) (ap (λ (x : List ℕ). Some (stands.ListBlock x)) same)
          (Contains-head (stands.ListBlock m) (stands.ListLines m ∷ [])),
      clash-by (commands.ListBlock o m) (commands.ListBlock e n) (stands.ListBlock n) (ap (λ (x : List ℕ). Some (stands.ListBlock x)) (sym same))
          (Contains-head (stands.ListBlock n) (stands.ListLines n ∷ [])),
    )
begun-clash (commands.ListBlock e n) (commands.ListLine m entry) name k j f g one two alike =
    let same : n ≡ m = (begun-parts name n k f _ _ one).0 ∙ sym (begun-parts name m j g _ _ two).0 in
    inl (
      clash-by (commands.ListBlock e n) (commands.ListLine m entry) (stands.ListBlock m) (ap (λ (x : List ℕ). Some (stands.ListBlock x)) same) (Contains-head (stands.ListBlock m) []),
      clash-by (commands.ListLine m entry) (commands.ListBlock e n) (stands.ListLines n) (ap (λ (x : List ℕ). Some (stands.ListLines x)) (sym same))
          (Contains-tail (stands.ListBlock n) (stands.ListLines n) (stands.ListLines n ∷ []) (Contains-head (stands.ListLines n) [])),
    )
begun-clash (commands.ListLine n entry) (commands.ListBlock o m) name k j f g one two alike =
    let same : n ≡ m = (begun-parts name n k f _ _ one).0 ∙ sym (begun-parts name m j g _ _ two).0 in
    inl (
      clash-by (commands.ListLine n entry) (commands.ListBlock o m) (stands.ListLines m) (ap (λ (x : List ℕ). Some (stands.ListLines x)) same)
          (Contains-tail (stands.ListBlock m) (stands.ListLines m) (stands.ListLines m ∷ []) (Contains-head (stands.ListLines m) [])),
      clash-by (commands.ListBlock o m) (commands.ListLine n entry) (stands.ListBlock n) (ap (λ (x : List ℕ). Some (stands.ListBlock x)) (sym same)) (Contains-head (stands.ListBlock n) []),
    )
begun-clash (commands.ListLine n entry) (commands.ListLine m other) name k j f g one two alike =
    let same : n ≡ m = (begun-parts name n k f _ _ one).0 ∙ sym (begun-parts name m j g _ _ two).0 in
    inr (λ b d. ap groups.Lines same)
begun-clash (commands.PrefixLine n order entry) (commands.PrefixLine m other text) name k j f g one two alike =
    let same : n ≡ m = (begun-parts name n k f _ _ one).0 ∙ sym (begun-parts name m j g _ _ two).0 in
    inr (λ b d. ap groups.PrefixLines same)
begun-clash (commands.PrefixLine n order entry) (commands.ListBlock o m) name k j f g one two alike =
    absurd (false≢true (ap is_packet_kind (begun-parts name n k f _ _ one).1 ∙ alike ∙ packet-kind o kinds.Extended kinds.Standard j refl refl (begun-parts name m j g _ _ two).1))
begun-clash (commands.PrefixLine n order entry) (commands.ListLine m other) name k j f g one two alike =
    absurd (false≢true (ap is_packet_kind (begun-parts name n k f _ _ one).1 ∙ alike ∙ packet-kind (option_map_or is_standard (number_of m) false) kinds.Standard kinds.Extended j refl refl
    (begun-parts name m j g _ _ two).1))
begun-clash (commands.ListBlock o n) (commands.PrefixLine m order entry) name k j f g one two alike =
    absurd (false≢true (ap is_packet_kind (begun-parts name m j g _ _ two).1 ∙ sym alike ∙ packet-kind o kinds.Extended kinds.Standard k refl refl (begun-parts name n k f _ _ one).1))
begun-clash (commands.ListLine n other) (commands.PrefixLine m order entry) name k j f g one two alike =
    absurd (false≢true (ap is_packet_kind (begun-parts name m j g _ _ two).1 ∙ sym alike ∙ packet-kind (option_map_or is_standard (number_of n) false) kinds.Standard kinds.Extended k refl refl
    (begun-parts name n k f _ _ one).1))
begun-clash (commands.ListBlock e n) _ name k j f g one two alike = absurd (none-some (name, j, g) two)
begun-clash (commands.ListLine n entry) _ name k j f g one two alike = absurd (none-some (name, j, g) two)
begun-clash (commands.PrefixLine n order entry) _ name k j f g one two alike = absurd (none-some (name, j, g) two)
begun-clash _ v name k j f g one two alike = absurd (none-some (name, k, f) one)

-- two lists of one name and kind are one
pub same-group : (cs : List FileCommand) (c d : FileCommand) (name : List ℕ) (k j : ListKind) (f g : ListForm) → AllPairs Apart cs → Contains cs c → Contains cs d →
    list_begun c.command ≡ Some (name, k, f) → list_begun d.command ≡ Some (name, j, g) → is_packet_kind k ≡ is_packet_kind j → part_of c ≡ part_of d
same-group cs c d name k j f g once in_c in_d one two alike = ⊎_elim
    (λ (clash : Clash c.command d.command × Clash d.command c.command). ap part_of (same-stand cs c d once in_c in_d clash.0 clash.1))
    (λ (same : (a b : ℕ) → part_in a c.command ≡ part_in b d.command). same c.block d.block)
    (begun-clash c.command d.command name k j f g one two alike)
