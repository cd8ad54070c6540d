-- The numbers of a list that has some rise with the entries of the edits.
use Rattle.std.proofs.Common.{◌≡◌, ℕ, ◌+◌, ◌*◌, ◌<◌, Bool, true, false, if◌then◌else◌, Option, Some, None, List, [], ◌∷◌, ◌++◌, length, map, refl, sym, ap, subst, ◌∙◌, arith, Contains}
use Rattle.std.specs.List.{enumerate_from, filter_map, flat_map}
use Rattle.std.proofs.lemmas.Bool.{false≢true}
use Rattle.net_model.specs.declared.rows.Network.{Network}
use Rattle.ios_lines.specs.declared.line.Lines.{Lines}
use Rattle.ios_lines.specs.Texts.{text_lines}
use Rattle.ios_words.specs.declared.commands.Command.{Command}
use Rattle.ios_config.specs.declared.commands.FileCommand.{FileCommand}
use Rattle.ios_config.specs.declared.settings.Given.{Given}
use Rattle.ios_config.specs.declared.settings.ListForm.{ListForm}
use Rattle.ios_config.specs.declared.settings.ListKind.{ListKind}
use Rattle.ios_config.specs.declared.settings.ListText.{ListText}
use Rattle.ios_config.specs.Groups.{members}
use Rattle.ios_config.specs.Texts.{config_of, entries, entry_number, given, is_entry, is_numbered}
use Rattle.net_build.specs.declared.built.Places.{Places}
use Rattle.net_build.specs.Places.{list_place}
use Rattle.edit_list.specs.declared.edit_kinds.Edit.{Edit}
use Rattle.arc_base.specs.Numbered.{of_number}
use Rattle.edit_list.proofs.NewListFacts.{picks}
use Rattle.line_patcher.specs.declared.additions.NewNumber.{NewNumber}
use Rattle.line_patcher.specs.EntryLines.{new_number, new_numbers}
use Rattle.line_edit_laws.specs.Sites.{Written, in_block, says_other}
use Rattle.patch_laws.specs.EditFiles.{IsEditedFile}
use Rattle.patch_laws.specs.EditSites.{entries_at}
use Rattle.patch_laws.specs.Written.{written_of}
use Rattle.patch_laws.proofs.EditCounted.{Counts, alone, counts-append, counts-rise, front-numbers, none-alone, numbers, numbers-append, numbers-are}
use Rattle.patch_laws.proofs.EditCounted.{renumbered, rises-of, unchanged}
use Rattle.patch_laws.proofs.EditFronts.{FirstOf, first-of, members-rise, none-elsewhere}
use Rattle.patch_laws.proofs.EditGrow.{own, grow_at, new_at, grow-is}
use Rattle.patch_laws.proofs.EditListGroups.{no-ends}
use Rattle.patch_laws.proofs.EditLists.{ListGroup, list-group}
use Rattle.patch_laws.proofs.EditKinds.{KindInFile, packets_in, routes_in}
use Rattle.patch_laws.proofs.EditListsShow.{all_fronts, found, fronts-here, no-front-here, only-packets, only-routes}
use Rattle.settings_edit_laws.proofs.TextKinds.{TextsOfKind}
use Rattle.edit_space.proofs.ListKinds.{ListsOfKind}
use Rattle.net_rules.specs.Lists.{is_packet_kind}
use Rattle.patch_laws.proofs.EditNewNumbers.{all_numbers, new_numbers_at, no-numbers, packets-numbered, routes-numbered, some-numbers}
use Rattle.patch_laws.proofs.EditNumbers.{number-of, rise-in}
use Rattle.patch_laws.proofs.EditRising.{Rises, numbers_of}

module _ (net : Network) (places : List Places) (chosen : List Edit) (router : ℕ) (text : List ℕ) (lines : Lines) (cs : List FileCommand)
    (f : IsEditedFile net places chosen router text lines cs) where
  abbrev own_at : Places
  own_at = own net places chosen router text lines cs

  abbrev grown_at : FileCommand → List FileCommand
  grown_at c = grow_at net places chosen router text lines cs c

  abbrev news : FileCommand → List NewNumber
  news c = new_numbers_at net places chosen router text lines cs f c

  -- the numbers of the entries before a command, and its own
  abbrev before : FileCommand → List (Option ℕ)
  before c = numbers (map (in_block c.block) (entries_at net own_at chosen router c))

  abbrev itself : FileCommand → List (Option ℕ)
  itself c = alone (new_at net places chosen router text lines cs c)

  module _ (list : ListText) (listed : Contains (config_of cs).lists list) (g : ListGroup cs list) (numbered : list.numbered ≡ true) where
    abbrev x : List ℕ × ListKind × ListForm
    x = (list.name, list.kind, list.form)

    abbrev group : List FileCommand
    group = members cs g.part

    grows : (c : FileCommand) → Contains group c → numbers (grown_at c) ≡ before c ++ itself c
    grows c there =
        let front = map (in_block c.block) (entries_at net own_at chosen router c) in
        let m = says_other c (new_at net places chosen router text lines cs c) in
        ap numbers (grow-is net places chosen router text lines cs c
        ∙ ap (λ (l : List Written). front ++ (m ∷ map (in_block c.block) l)) (no-ends net places chosen router text lines cs f g.part g.first g.rest g.is x g.begun c there))
        ∙ numbers-append front (m ∷ [])

    in-list : (c : FileCommand) → Contains group c → is_entry c.command ≡ true → Contains list.entries (given c)
    in-list c there entry =
        subst (λ (es : List (Given Command)). Contains es (given c)) (ap entries g.is ∙ sym g.entries_are)
        (picks (λ (d : FileCommand). if is_entry d.command then Some (given d) else None) group c (given c) there (ap (λ (b : Bool). if b then Some (given c) else None) entry))

    has-number : (c : FileCommand) → Contains group c → is_entry c.command ≡ true → (m : ℕ) × (entry_number c.command ≡ Some m)
    has-number c there entry = number-of (text_lines text) cs f.stand list listed f.rising numbered (given c) (in-list c there entry)

    -- another row of the list has numbers too
    also-numbered : (other : ListText) → Contains (config_of cs).lists other → other.entries ≡ entries group → other.numbered ≡ true
    also-numbered other among same = let h = list-group cs other among in h.numbered_is ∙ ap is_numbered (sym h.entries_are ∙ same ∙ ap entries g.is) ∙ sym g.numbered_is ∙ numbered

    module _ (e : Given Command) (more : List (Given Command)) (es : entries group ≡ e ∷ more) (c : FirstOf group e) where
      whole : numbers (flat_map grown_at group) ≡ before c.command ++ flat_map itself group
      whole =
          front-numbers grown_at before itself 1 group c.command (members-rise net places chosen router text lines cs f g.part g.first g.rest g.is x g.begun) c.among grows
          (λ d there other. ap (λ (ws : List Written). numbers (map (in_block d.block) ws))
          (none-elsewhere net places chosen router text lines cs f g.part g.first g.rest g.is x g.begun e more es c d there other))
          (λ d there low. none-alone d.command (news d) (c.before d there low))

      -- without new entries and numbers the list is as it was
      as-before : entries_at net own_at chosen router c.command ≡ [] → ((d : FileCommand) → Contains group d → news d ≡ []) → Rises (numbers (flat_map grown_at group))
      as-before none quiet =
          let same : numbers (flat_map grown_at group) ≡ numbers_of list.entries =
          whole ∙ ap (λ (ws : List Written). numbers (map (in_block c.command.block) ws) ++ flat_map itself group) none ∙ unchanged 0 0 0 news group (λ d there is. quiet d there)
          ∙ sym (numbers-are group) ∙ ap (λ (l : List FileCommand). numbers_of (entries l)) g.is ∙ ap numbers_of (sym g.entries_are) in
          subst Rises (sym same) (rises-of list.entries (rise-in (config_of cs).lists list f.rising listed))

      -- else new and old entries are counted on
      counted : (word step count : ℕ) (other : ListText) → ((k : ℕ) → step * k < step * (k + 1)) → other.entries ≡ entries group → other.numbered ≡ true →
          ((d : FileCommand) → Contains group d → news d ≡ of_number d.line (new_numbers (list_place other) word step count)) →
          Counts step 1 (before c.command) × (length (before c.command) ≡ count) → Rises (numbers (flat_map grown_at group))
      counted word step count other up same has news_are front =
          let long = front.1 in
          let old = renumbered word step count news 1 1 group (members-rise net places chosen router text lines cs f g.part g.first g.rest g.is x g.begun)
          (λ d there is. news_are d there
          ∙ (λ i. of_number d.line (if has i then map (new_number word step count) (enumerate_from 1 (map (λ (h : Given Command). h.line) (same i))) else []))) has-number in
          subst Rises (sym whole)
          (counts-rise step 1 (before c.command ++ flat_map itself group) up (counts-append step 1 (count + 1) (before c.command) (flat_map itself group) (omega (arith, long)) front.0 old))

      things-rise : {K : ListsOfKind net chosen} {T : TextsOfKind net chosen K} (R : KindInFile T router cs) → is_packet_kind list.kind ≡ T.packet →
          entries_at net own_at chosen router c.command ≡ map written_of (all_fronts net places chosen router text lines cs f g.part g.first g.rest g.is x g.begun e more es c R) →
          ((d : FileCommand) (there : Contains group d) → news d ≡ all_numbers net places chosen router text lines cs f g.part g.first g.rest g.is x g.begun d there R) →
          Rises (numbers (flat_map grown_at group))
      things-rise {K} {T} R kind front new = by (filter_map (T.thing_for router list.name) chosen) refl
        where
          by : (zs : List T.Thing) → filter_map (T.thing_for router list.name) chosen ≡ zs → Rises (numbers (flat_map grown_at group))
          by [] made = as-before (front ∙ ap (map written_of) (no-front-here net places chosen router text lines cs f g.part g.first g.rest g.is x g.begun e more es c R made))
              (λ d there. new d there ∙ no-numbers net places chosen router text lines cs f g.part g.first g.rest g.is x g.begun d there R made)
          by (z ∷ zs) made =
              let s = found net places chosen router text lines cs f g.part g.first g.rest g.is x g.begun R z zs made kind in
              let has = also-numbered (R.list s.row s.has) (R.among s.row s.has) s.is_this.entries_are in
              let ts = of_number s.id (filter_map T.change chosen) in
              counted R.word R.step (length ts) (R.list s.row s.has) R.rises s.is_this.entries_are has
              (λ d there. new d there ∙ some-numbers net places chosen router text lines cs f g.part g.first g.rest g.is x g.begun d there R s)
              (subst (λ (ws : List Written). Counts R.step 1
              (numbers (map (in_block c.command.block) ws)) × (length (numbers (map (in_block c.command.block) ws)) ≡ length ts))
              (sym (front ∙ ap (map written_of) (fronts-here net places chosen router text lines cs f g.part g.first g.rest g.is x g.begun e more es c R s)))
              (R.counts s.row s.has c.command.block ts has))

      kind-rises : (b : Bool) → is_packet_kind list.kind ≡ b → Rises (numbers (flat_map grown_at group))
      kind-rises true kind = things-rise (packets_in net places chosen router text lines cs f) kind
          (only-packets net places chosen router text lines cs f g.part g.first g.rest g.is x g.begun e more es c kind)
          (λ d there. packets-numbered net places chosen router text lines cs f g.part g.first g.rest g.is x g.begun d there kind)
      kind-rises false kind = things-rise (routes_in net places chosen router text lines cs f) kind
          (only-routes net places chosen router text lines cs f g.part g.first g.rest g.is x g.begun e more es c kind)
          (λ d there. routes-numbered net places chosen router text lines cs f g.part g.first g.rest g.is x g.begun d there kind)

    -- the numbers of the list with the entries of the edits
    pub numbered-rise : Rises (numbers_of (entries (flat_map grown_at group)))
    numbered-rise = subst Rises (sym (numbers-are (flat_map grown_at group))) (by-entries (entries group) refl)
      where
        by-entries : (gs : List (Given Command)) → entries group ≡ gs → Rises (numbers (flat_map grown_at group))
        by-entries [] es = absurd (false≢true (sym (ap is_numbered (sym (ap entries g.is) ∙ es)) ∙ sym g.numbered_is ∙ numbered))
        by-entries (e ∷ more) es =
            kind-rises e more es (first-of 1 group e more (members-rise net places chosen router text lines cs f g.part g.first g.rest g.is x g.begun) es) (is_packet_kind list.kind) refl
