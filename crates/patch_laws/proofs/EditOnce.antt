-- With what edits put at the commands of a file nothing stands twice.
use Rattle.std.proofs.Common.{◌≡◌, ◌≢◌, ℕ, ◌+◌, ◌⊎◌, inl, inr, true, Option, Some, None, List, [], ◌∷◌, ◌++◌, map, refl, sym, ap, subst, ◌∙◌, ⊎_elim, Contains, length, ◌*◌, append-nil}
use Rattle.std.specs.Prelude.{AllPairs}
use Rattle.std.specs.List.{AllByRecursion, enumerate_from, filter_map, flat_map}
use Rattle.std.specs.Option.{option_and_then}
use Rattle.std.proofs.lemmas.Bool.{false≢true}
use Rattle.std.proofs.lemmas.Option.{same_Some, none-some}
use Rattle.std.proofs.lemmas.List.Concat.{flat_map-append}
use Rattle.std.proofs.lemmas.List.Elements.{Contains-append_cases}
use Rattle.arc_base.proofs.Items.{Contains-cases, Contains-none, Contains-head, Contains-tail, from_map, from_piece}
use Rattle.arc_base.proofs.Items.{AllPairs-among, AllPairs-append, AllPairs-rest, AllPairs-first, AllPairs-none, AllPairs-single}
use Rattle.arc_base.specs.declared.prefix.Prefix.{Prefix}
use Rattle.net_model.specs.declared.policies.Class.{Class}
use Rattle.net_model.specs.declared.rows.Network.{Network}
use Rattle.ios_lines.specs.declared.line.Lines.{Lines}
use Rattle.ios_lines.specs.Texts.{text_lines}
use Rattle.ios_words.specs.declared.commands.Command.{Command}
use Rattle.ios_words.specs.declared.commands.Command.TheVariants as commands
use Rattle.ios_config.specs.declared.commands.FileCommand.{FileCommand}
use Rattle.ios_config.specs.declared.settings.ListForm.{ListForm}
use Rattle.ios_config.specs.declared.settings.ListForm.TheVariants as forms
use Rattle.ios_config.specs.declared.settings.ListKind.{ListKind}
use Rattle.ios_config.specs.Groups.{part_in}
use Rattle.ios_config.specs.ProcessLines.{IsQuiet}
use Rattle.ios_config.specs.Texts.{is_entry, kind_of_number}
use Rattle.ios_config.specs.Twice.{Stand, stand_of, excluded, Clash, StandOnce}
use Rattle.ios_config.specs.Twice as stands
use Rattle.ios_config.specs.Values.{hostname}
use Rattle.net_rules.proofs.Distinct.{AllPairs-front, AllPairs-back, AllPairs-between}
use Rattle.net_build.specs.declared.built.Places.{Places}
use Rattle.edit_list.specs.declared.edit_kinds.Edit.{Edit}
use Rattle.edit_list.specs.declared.list_kinds.NewList.{NewList}
use Rattle.edit_list.specs.declared.list_kinds.NewList.TheVariants.{Route, Packet}
use Rattle.edit_list.specs.Changes.{new_prefixes, new_classes}
use Rattle.arc_base.specs.Numbered.{of_number}
use Rattle.line_patcher.specs.declared.additions.NewNumber.{NewNumber}
use Rattle.line_patcher.specs.Additions.{numbers_at}
use Rattle.edit_list.specs.NewLists.{named_lists}
use Rattle.edit_list.proofs.Apart.{only_item}
use Rattle.edit_list.proofs.NewListFacts.{picks}
use Rattle.settings_edit_laws.proofs.Pairs.{any_of, of_any}
use Rattle.line_edit_laws.specs.Sites.{Written, chunk_commands, in_block, says_other, new_commands}
use Rattle.patch_laws.specs.EditFiles.{IsEditedFile}
use Rattle.patch_laws.specs.EditSites.{entries_at, new_key, with_number}
use Rattle.patch_laws.specs.ListsGrow.{list_begun}
use Rattle.line_patcher.specs.NewListLines.{deny_prefix, new_entries, new_route_commands, permit_all}
use Rattle.patch_laws.specs.NewListSites.{AreDifferent, list_chunks, new_chunks}
use Rattle.patch_laws.specs.Written.{written_of}
use Rattle.patch_laws.proofs.EditGrow.{own, put_at, grow_at, more_at, after_at, new_at, grow-is, split, back_at, grown-is, in-front, in-back}
use Rattle.patch_laws.proofs.EditEntries.{all-in}
use Rattle.patch_laws.proofs.EditParts.{entry-at, EndAt, OfProcess, OfFace, end-at, process-line}
use Rattle.patch_laws.proofs.FileParts.{listed}
use Rattle.patch_laws.proofs.NewListGroups.{single-commands}

-- the commands do not clash
abbrev pub Apart : FileCommand → FileCommand → Type 0
Apart b c = ¬ Clash b.command c.command

-- the one is quiet, or clashes as the other
abbrev pub Alike : Command → Command → Type 0
Alike u c = IsQuiet u ⊎ ((stand_of u ≡ stand_of c) × (excluded u ≡ excluded c))

silent-first : (u v : Command) → stand_of u ≡ None → Clash u v → ⊥
silent-first u v none clash = let found = of_any (λ (s : Stand). stand_of u ≡ Some s) (excluded v) clash in none-some found.0 (sym none ∙ found.2)

silent-last : (u v : Command) → excluded v ≡ [] → Clash u v → ⊥
silent-last u v none clash = let found = of_any (λ (s : Stand). stand_of u ≡ Some s) (excluded v) clash in Contains-none found.0 (subst (λ (ss : List Stand). Contains ss found.0) none found.1)

pub apart-alike : (u c v d : Command) → Alike u c → Alike v d → ¬ Clash c d → ¬ Clash u v
apart-alike u c v d (inl silent) two apart clash = silent-first u v silent.stands clash
apart-alike u c v d (inr one) (inl silent) apart clash = silent-last u v silent.excludes clash
apart-alike u c v d (inr one) (inr two) apart clash =
    let found = of_any (λ (s : Stand). stand_of u ≡ Some s) (excluded v) clash in
    apart (any_of (λ (s : Stand). stand_of c ≡ Some s) (excluded d) found.0 (subst (λ (ss : List Stand). Contains ss found.0) two.1 found.1) (sym one.0 ∙ found.2))

-- an entry of the part of another command
entry-alike : (block : ℕ) (u c : Command) → is_entry u ≡ true → part_in block u ≡ part_in block c → Alike u c
entry-alike block (commands.Entry order entry) c is same = inl (record { stands = refl; excludes = refl; unnamed = refl })
entry-alike block (commands.PrefixLine name order entry) c is same = inl (record { stands = refl; excludes = refl; unnamed = refl })
entry-alike block (commands.ListLine name entry) (commands.ListLine other more) is same = let names : name ≡ other =
    cc in inr (ap (λ (n : List ℕ). Some (stands.ListLines n)) names, ap (λ (n : List ℕ). stands.ListBlock n ∷ []) names)
entry-alike block (commands.ListLine name entry) (commands.PrefixLine other order more) is same = absurd cc
entry-alike block (commands.ListLine name entry) _ is same = absurd cc
entry-alike block _ c is same = absurd (false≢true is)

number-alike : (command : Command) (new : List NewNumber) → Alike (with_number command new) command
number-alike command [] = inr (refl, refl)
number-alike (commands.Entry order entry) (new ∷ more) = inr (refl, refl)
number-alike (commands.PrefixLine name order entry) (new ∷ more) = inr (refl, refl)
number-alike _ (new ∷ more) = inr (refl, refl)

-- an entry does not clash with itself
entry-apart : (command : Command) → is_entry command ≡ true → ¬ Clash command command
entry-apart (commands.Entry order entry) is clash = silent-first (commands.Entry order entry) (commands.Entry order entry) refl clash
entry-apart (commands.PrefixLine name order entry) is clash = silent-first (commands.PrefixLine name order entry) (commands.PrefixLine name order entry) refl clash
entry-apart (commands.ListLine name entry) is clash =
    let found = of_any (λ (s : Stand). stand_of (commands.ListLine name entry) ≡ Some s) (excluded (commands.ListLine name entry)) clash in
    ⊎_elim
    (λ (here : stands.ListBlock name ≡ found.0). let same : stands.ListLines name ≡ stands.ListBlock name = same_Some _ _ found.2 ∙ sym here in absurd cc)
    (λ none. Contains-none found.0 none)
    (Contains-cases (stands.ListBlock name) found.0 [] found.1)
entry-apart _ is clash = false≢true is

all-pairs : {X : Type 0} (R : X → X → Type 0) (xs : List X) → ((x y : X) → Contains xs x → Contains xs y → R x y) → AllPairs R xs
all-pairs {X} R xs each = AllPairs-among (λ (x : X) (y : X). Unit {0}) R xs (λ x y in_x in_y any. each x y in_x in_y) (λ i j d less within. tt)

-- the list that stands
abbrev list_stand : Stand → Option (List ℕ)
list_stand (stands.ListBlock name) = Some name
list_stand (stands.ListLines name) = Some name
list_stand _ = None

-- a list that stands under this name, or that may not stand beside one, is begun by the command
stand-list : (command : Command) (name : List ℕ) → option_and_then list_stand (stand_of command) ≡ Some name → (k : ListKind) × (f : ListForm) × (list_begun command ≡ Some (name, k, f))
stand-list (commands.ListBlock extended other) name is = let same : other ≡ name = same_Some other name is in (_, _, λ i. list_begun (commands.ListBlock extended (same i)))
stand-list (commands.ListLine other entry) name is = let same : other ≡ name = same_Some other name is in (_, _, λ i. Some (same i, kind_of_number other, forms.Lines))
stand-list _ name is = absurd (none-some name is)

stand-begun : (command : Command) (name : List ℕ) → (stand_of command ≡ Some (stands.ListBlock name)) ⊎ (stand_of command ≡ Some (stands.ListLines name)) →
    (k : ListKind) × (f : ListForm) × (list_begun command ≡ Some (name, k, f))
stand-begun command name is =
    stand-list command name (⊎_elim (λ block. ap (λ (o : Option Stand). option_and_then list_stand o) block) (λ lines. ap (λ (o : Option Stand). option_and_then list_stand o) lines) is)

block-name : (other name : List ℕ) → stands.ListBlock other ≡ stands.ListBlock name → other ≡ name
block-name other name e = cc

lines-block : (other name : List ℕ) → stands.ListLines other ≡ stands.ListBlock name → ⊥
lines-block other name e = absurd cc

excluded-list : (command : Command) (name : List ℕ) → Contains (filter_map list_stand (excluded command)) name → (k : ListKind) × (f : ListForm) × (list_begun command ≡ Some (name, k, f))
excluded-list (commands.ListBlock extended other) name there =
    let same : other ≡ name = ⊎_elim (λ here. here) (λ later. only_item other name later) (Contains-cases other name (other ∷ []) there) in
    (_, _, λ i. list_begun (commands.ListBlock extended (same i)))
excluded-list (commands.ListLine other entry) name there = let same : other ≡ name = only_item other name there in (_, _, λ i. Some (same i, kind_of_number other, forms.Lines))
excluded-list _ name there = absurd (Contains-none name there)

excluded-begun : (command : Command) (name : List ℕ) → Contains (excluded command) (stands.ListBlock name) → (k : ListKind) × (f : ListForm) × (list_begun command ≡ Some (name, k, f))
excluded-begun command name there = excluded-list command name (picks list_stand (excluded command) (stands.ListBlock name) name there refl)

-- what a command of a new list makes stand: nothing, or that list
abbrev pub HeadsList : List (NewList × List ℕ) → Command → Type 0
HeadsList ns u = IsQuiet u ⊎ ((named : NewList × List ℕ) × Contains ns named × (u ≡ commands.ListBlock true named.1))

deny-silent : (name : List ℕ) (es : List (ℕ × Prefix)) (last : ℕ) → AllByRecursion (λ (w : Written). IsQuiet w.command) (map written_of (map (deny_prefix name) es ++ permit_all name last ∷ []))
deny-silent name [] last = (record { stands = refl; excludes = refl; unnamed = refl }, tt)
deny-silent name (e ∷ es) last = (record { stands = refl; excludes = refl; unnamed = refl }, deny-silent name es last)

class-silent : (cs : List Class) → AllByRecursion (λ (w : Written). IsQuiet w.command) (map written_of (new_entries cs))
class-silent [] = (record { stands = refl; excludes = refl; unnamed = refl }, tt)
class-silent (c ∷ cs) = (record { stands = refl; excludes = refl; unnamed = refl }, class-silent cs)

written-silent : (block : ℕ) (ws : List Written) → AllByRecursion (λ (w : Written). IsQuiet w.command) ws → (t : FileCommand) → Contains (map (in_block block) ws) t → IsQuiet t.command
written-silent block ws all t there =
    let (w, among, same) = from_map (in_block block) ws t there in
    subst (λ (v : FileCommand). IsQuiet v.command) same (all-in (λ (x : Written). IsQuiet x.command) ws w all among)

chunk-stands : (chosen : List Edit) (key : ℕ) (n : NewList × List ℕ) (t : FileCommand) → Contains (flat_map chunk_commands (new_chunks chosen key n.0 n.1)) t →
    IsQuiet t.command ⊎ (t.command ≡ commands.ListBlock true n.1)
chunk-stands chosen key (Route face, name) t there =
    inl (written-silent 0 (map written_of (new_route_commands name (new_prefixes chosen face.0)))
    (deny-silent name (enumerate_from 1 (new_prefixes chosen face.0)) (5 * (length (new_prefixes chosen face.0) + 1))) t
    (subst (λ (l : List FileCommand). Contains l t) (single-commands (map written_of (new_route_commands name (new_prefixes chosen face.0)))) there))
chunk-stands chosen key (Packet face, name) t there =
    let entries = map (in_block key) (map written_of (new_entries (new_classes chosen face.0))) in
    ⊎_elim
    (λ (here : in_block key (written_of (commands.ListBlock true name)) ≡ t). inr (ap (λ (v : FileCommand). v.command) (sym here)))
    (λ later. inl (written-silent key (map written_of (new_entries (new_classes chosen face.0))) (class-silent (new_classes chosen face.0)) t later))
    (Contains-cases (in_block key (written_of (commands.ListBlock true name))) t entries
    (subst (λ (l : List FileCommand). Contains l t) (append-nil (in_block key (written_of (commands.ListBlock true name)) ∷ entries)) there))

chunk-once : (chosen : List Edit) (key : ℕ) (n : NewList × List ℕ) → AllPairs Apart (flat_map chunk_commands (new_chunks chosen key n.0 n.1))
chunk-once chosen key (Route face, name) = all-pairs Apart _ (λ x y in_x in_y clash. by x (chunk-stands chosen key (Route face, name) x in_x) in_x y clash)
  where
    by : (x : FileCommand) → IsQuiet x.command ⊎ (x.command ≡ commands.ListBlock true name) → Contains (flat_map chunk_commands (new_chunks chosen key (Route face) name)) x →
        (y : FileCommand) → Clash x.command y.command → ⊥
    by x stands_x in_x y clash = silent-first x.command y.command
        (written-silent 0 (map written_of (new_route_commands name (new_prefixes chosen face.0)))
        (deny-silent name (enumerate_from 1 (new_prefixes chosen face.0)) (5 * (length (new_prefixes chosen face.0) + 1))) x
        (subst (λ (l : List FileCommand). Contains l x) (single-commands (map written_of (new_route_commands name (new_prefixes chosen face.0)))) in_x)).stands clash
chunk-once chosen key (Packet face, name) =
    let entries = map (in_block key) (map written_of (new_entries (new_classes chosen face.0))) in
    let silent = written-silent key (map written_of (new_entries (new_classes chosen face.0))) (class-silent (new_classes chosen face.0)) in
    subst (AllPairs Apart) (sym (append-nil (in_block key (written_of (commands.ListBlock true name)) ∷ entries)))
    (AllPairs-append Apart (in_block key (written_of (commands.ListBlock true name)) ∷ []) entries (AllPairs-single Apart (in_block key (written_of (commands.ListBlock true name))))
    (all-pairs Apart entries (λ x y in_x in_y clash. silent-first x.command y.command (silent x in_x).stands clash))
    (λ x y in_x in_y clash. silent-last x.command y.command (silent y in_y).excludes clash))

pub added-stands : (chosen : List Edit) (key : ℕ) (ns : List (NewList × List ℕ)) (t : FileCommand) → Contains (flat_map chunk_commands (list_chunks chosen key ns)) t → HeadsList ns t.command
added-stands chosen key [] t there = absurd (Contains-none t there)
added-stands chosen key (n ∷ ns) t there =
    by (Contains-append_cases (flat_map chunk_commands (new_chunks chosen key n.0 n.1)) (flat_map chunk_commands (list_chunks chosen (key + 1) ns)) t
    (subst (λ (l : List FileCommand). Contains l t) (flat_map-append chunk_commands (new_chunks chosen key n.0 n.1) (list_chunks chosen (key + 1) ns)) there))
    (added-stands chosen (key + 1) ns t)
  where
    by : Contains (flat_map chunk_commands (new_chunks chosen key n.0 n.1)) t ⊎ Contains (flat_map chunk_commands (list_chunks chosen (key + 1) ns)) t →
        (Contains (flat_map chunk_commands (list_chunks chosen (key + 1) ns)) t → HeadsList ns t.command) →
        HeadsList (n ∷ ns) t.command
    by (inl early) deeper = ⊎_elim (λ silent. inl silent) (λ head. inr (n, Contains-head n ns, head)) (chunk-stands chosen key n t early)
    by (inr late) deeper = ⊎_elim (λ silent. inl silent) (λ head. inr (head.0, Contains-tail n head.0 ns head.1, head.2)) (deeper late)

-- lists of different names do not clash
names-apart : (a b : List ℕ) → a ≢ b → ¬ Clash (commands.ListBlock true a) (commands.ListBlock true b)
names-apart a b other clash =
    let found = of_any (λ (s : Stand). stand_of (commands.ListBlock true a) ≡ Some s) (excluded (commands.ListBlock true b)) clash in
    let is : stands.ListBlock a ≡ found.0 = same_Some _ _ found.2 in
    ⊎_elim
    (λ (here : stands.ListBlock b ≡ found.0). other (block-name a b (is ∙ sym here)))
    (λ later. ⊎_elim
    (λ (here : stands.ListLines b ≡ found.0). lines-block b a (here ∙ sym is))
    (λ none. Contains-none found.0 none)
    (Contains-cases (stands.ListLines b) found.0 [] later))
    (Contains-cases (stands.ListBlock b) found.0 (stands.ListLines b ∷ []) found.1)

added-once : (chosen : List Edit) (key : ℕ) (ns : List (NewList × List ℕ)) → AreDifferent ns → AllPairs Apart (flat_map chunk_commands (list_chunks chosen key ns))
added-once chosen key [] different = AllPairs-none Apart
added-once chosen key (n ∷ ns) different =
    let front = flat_map chunk_commands (new_chunks chosen key n.0 n.1) in
    let back = flat_map chunk_commands (list_chunks chosen (key + 1) ns) in
    subst (AllPairs Apart) (sym (flat_map-append chunk_commands (new_chunks chosen key n.0 n.1) (list_chunks chosen (key + 1) ns)))
    (AllPairs-append Apart front back (chunk-once chosen key n) (added-once chosen (key + 1) ns different.1)
    (λ x y in_x in_y clash. apart x y (chunk-stands chosen key n x in_x) (added-stands chosen (key + 1) ns y in_y) clash))
  where
    apart : (x y : FileCommand) → IsQuiet x.command ⊎ (x.command ≡ commands.ListBlock true n.1) → HeadsList ns y.command → Clash x.command y.command → ⊥
    apart x y (inl silent) two clash = silent-first x.command y.command silent.stands clash
    apart x y (inr one) (inl silent) clash = silent-last x.command y.command silent.excludes clash
    apart x y (inr one) (inr (m, among, two)) clash =
        names-apart n.1 m.1 (all-in (λ (other : NewList × List ℕ). n.1 ≢ other.1) ns m different.0 among)
        (subst (λ (u : Command). Clash u (commands.ListBlock true m.1)) one (subst (λ (u : Command). Clash x.command u) two clash))

module _ (net : Network) (places : List Places) (chosen : List Edit) (router : ℕ) (text : List ℕ) (lines : Lines) (cs : List FileCommand)
    (f : IsEditedFile net places chosen router text lines cs) where
  abbrev grown_at : FileCommand → List FileCommand
  grown_at c = grow_at net places chosen router text lines cs c

  abbrev own_at : Places
  own_at = own net places chosen router text lines cs

  abbrev entries_of : FileCommand → List FileCommand
  entries_of c = map (in_block c.block) (entries_at net own_at chosen router c)

  abbrev middle_of : FileCommand → FileCommand
  middle_of c = says_other c (new_at net places chosen router text lines cs c)

  abbrev ends_of : FileCommand → List FileCommand
  ends_of c = map (in_block c.block) (after_at net places chosen router text lines cs c)

  end-silent : (c : FileCommand) (w : Written) → EndAt net places chosen router cs f.process c w → IsQuiet w.command
  end-silent c w (OfProcess h is line) = (process-line net places chosen router text lines cs f c.block w.command line).1
  end-silent c w (OfFace e) = record { stands = ap stand_of e.says; excludes = ap excluded e.says; unnamed = ap hostname e.says }

  pub ends-silent : (c : FileCommand) → Contains cs c → (v : FileCommand) → Contains (ends_of c) v → IsQuiet v.command
  ends-silent c has v there =
      let (w, among, same) = from_map (in_block c.block) (after_at net places chosen router text lines cs c) v there in
      subst (λ (x : FileCommand). IsQuiet x.command) same (end-silent c w (end-at net places chosen router text lines cs f c w has among))

  grow-alike : (c v : FileCommand) → Contains cs c → Contains (grown_at c) v → Alike v.command c.command
  grow-alike c v has there =
      ⊎_elim
      (λ early.
      let (w, among, same) = from_map (in_block c.block) (entries_at net own_at chosen router c) v early in
      let e = entry-at net places chosen router text lines cs f c w has among in
      subst (λ (x : FileCommand). Alike x.command c.command) same (entry-alike c.block w.command c.command e.is e.part))
      (λ late. ⊎_elim
      (λ (here : middle_of c ≡ v). subst (λ (x : FileCommand). Alike x.command c.command) here (number-alike c.command (of_number c.line (numbers_at net own_at chosen router))))
      (λ last. inl (ends-silent c has v last))
      (Contains-cases (middle_of c) v (ends_of c) late))
      (Contains-append_cases (entries_of c) (middle_of c ∷ ends_of c) v (subst (λ (l : List FileCommand). Contains l v) (grow-is net places chosen router text lines cs c) there))

  grow-once : (c : FileCommand) → Contains cs c → AllPairs Apart (grown_at c)
  grow-once c has = by (entries_at net own_at chosen router c) refl
    where
      by : (ws : List Written) → entries_at net own_at chosen router c ≡ ws → AllPairs Apart (grown_at c)
      by (w ∷ ws) is =
          let e = entry-at net places chosen router text lines cs f c w has (subst (λ (l : List Written). Contains l w) (sym is) (Contains-head w ws)) in
          all-pairs Apart (grown_at c) (λ x y in_x in_y. apart-alike x.command c.command y.command c.command (grow-alike c x has in_x) (grow-alike c y has in_y) (entry-apart c.command e.entry))
      by [] is =
          let whole : grown_at c ≡ middle_of c ∷ ends_of c = grow-is net places chosen router text lines cs c ∙ ap (λ (l : List Written). map (in_block c.block) l ++ (middle_of c ∷ ends_of c)) is in
          subst (AllPairs Apart) (sym whole)
          (AllPairs-append Apart (middle_of c ∷ []) (ends_of c) (AllPairs-single Apart (middle_of c))
          (all-pairs Apart (ends_of c) (λ x y in_x in_y clash. silent-first x.command y.command (ends-silent c has x in_x).stands clash))
          (λ x y in_x in_y clash. silent-last x.command y.command (ends-silent c has y in_y).excludes clash))

  once-grown : (ds : List FileCommand) → ((c : FileCommand) → Contains ds c → Contains cs c) → AllPairs Apart ds → AllPairs Apart (flat_map grown_at ds)
  once-grown [] within once = AllPairs-none Apart
  once-grown (d ∷ ds) within once =
      AllPairs-append Apart (grown_at d) (flat_map grown_at ds) (grow-once d (within d (Contains-head d ds)))
      (once-grown ds (λ c there. within c (Contains-tail d c ds there)) (AllPairs-rest Apart d ds once))
      (λ x y in_x in_y.
      let (e, in_ds, in_e) = from_piece grown_at ds y in_y in
      apart-alike x.command d.command y.command e.command (grow-alike d x (within d (Contains-head d ds)) in_x) (grow-alike e y (within e (Contains-tail d e ds in_ds)) in_e)
      (AllPairs-first Apart d e ds once in_ds))

  -- new lists are none of the file's
  no-list : (named : NewList × List ℕ) (c : FileCommand) (k : ListKind) (form : ListForm) → Contains (named_lists net chosen router) named → Contains cs c →
      list_begun c.command ≡ Some (named.1, k, form) → ⊥
  no-list named c k form among has begun = let l = listed (text_lines text) cs c named.1 k form f.stand has begun in f.free named among l.list l.among l.name_is

  old-new : (c x t : FileCommand) → Contains cs c → Alike x.command c.command → HeadsList (named_lists net chosen router) t.command → Clash x.command t.command → ⊥
  old-new c x t has alike (inl silent) clash = silent-last x.command t.command silent.excludes clash
  old-new c x t has (inl silent) (inr head) clash = silent-first x.command t.command silent.stands clash
  old-new c x t has (inr alike) (inr (named, among, is)) clash =
      let found = of_any (λ (s : Stand). stand_of x.command ≡ Some s) (excluded t.command) clash in
      let stands_c : stand_of c.command ≡ Some found.0 = sym alike.0 ∙ found.2 in
      let in_two : Contains (stands.ListBlock named.1 ∷ stands.ListLines named.1 ∷ []) found.0 = subst (λ (ss : List Stand). Contains ss found.0) (ap excluded is) found.1 in
      let begun = stand-begun c.command named.1 (⊎_elim
      (λ (here : stands.ListBlock named.1 ≡ found.0). inl (stands_c ∙ ap (λ (s : Stand). Some s) (sym here)))
      (λ later. ⊎_elim
      (λ (here : stands.ListLines named.1 ≡ found.0). inr (stands_c ∙ ap (λ (s : Stand). Some s) (sym here)))
      (λ none. absurd (Contains-none found.0 none))
      (Contains-cases (stands.ListLines named.1) found.0 [] later))
      (Contains-cases (stands.ListBlock named.1) found.0 (stands.ListLines named.1 ∷ []) in_two)) in
      no-list named c begun.0 begun.1 among has begun.2

  new-old : (c x t : FileCommand) → Contains cs c → Alike x.command c.command → HeadsList (named_lists net chosen router) t.command → Clash t.command x.command → ⊥
  new-old c x t has alike (inl silent) clash = silent-first t.command x.command silent.stands clash
  new-old c x t has (inl silent) (inr head) clash = silent-last t.command x.command silent.excludes clash
  new-old c x t has (inr alike) (inr (named, among, is)) clash =
      let found = of_any (λ (s : Stand). stand_of t.command ≡ Some s) (excluded x.command) clash in
      let block : stands.ListBlock named.1 ≡ found.0 = same_Some _ _ (sym (ap stand_of is) ∙ found.2) in
      let begun = excluded-begun c.command named.1 (subst (λ (s : Stand). Contains (excluded c.command) s) (sym block) (subst (λ (ss : List Stand). Contains ss found.0) alike.1 found.1)) in
      no-list named c begun.0 begun.1 among has begun.2

  pub stands-once : StandOnce (new_commands (put_at net places chosen router text lines cs) cs)
  stands-once =
      let s = split net places chosen router text lines cs f in
      let back = back_at net places chosen router text lines cs f in
      let more = more_at net places chosen router text lines cs in
      let old : AllPairs Apart (s.front ++ back) = subst (AllPairs Apart) s.parts f.once in
      let in_f = in-front net places chosen router text lines cs f in
      let in_b = in-back net places chosen router text lines cs f in
      let front_once = once-grown s.front in_f (AllPairs-front Apart s.front back old) in
      let back_once = once-grown back in_b (AllPairs-back Apart s.front back old) in
      let more_once = added-once chosen (new_key lines) (named_lists net chosen router) f.different in
      let stand = added-stands chosen (new_key lines) (named_lists net chosen router) in
      subst (AllPairs Apart) (sym (grown-is net places chosen router text lines cs f))
      (AllPairs-append Apart (flat_map grown_at s.front) (more ++ flat_map grown_at back) front_once
      (AllPairs-append Apart more (flat_map grown_at back) more_once back_once
      (λ x y in_x in_y. (let (d, in_d, in_grow) = from_piece grown_at back y in_y in λ clash. new-old d y x (in_b d in_d) (grow-alike d y (in_b d in_d) in_grow) (stand x in_x) clash)))
      (λ x y in_x in_y.
      let (c, in_c, in_grow) = from_piece grown_at s.front x in_x in
      let mine = grow-alike c x (in_f c in_c) in_grow in
      ⊎_elim
      (λ new clash. old-new c x y (in_f c in_c) mine (stand y new) clash)
      (λ later. (let (d, in_d, in_other) = from_piece grown_at back y later in
      apart-alike x.command c.command y.command d.command mine (grow-alike d y (in_b d in_d) in_other) (AllPairs-between Apart s.front back c d old in_c in_d)))
      (Contains-append_cases more (flat_map grown_at back) y in_y)))
