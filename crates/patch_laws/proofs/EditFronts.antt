-- The entries that edits put into a list stand before its first one.
use Rattle.std.proofs.Common.{◌≡◌, ◌≢◌, ℕ, ◌+◌, ◌<◌, Bool, true, false, if◌then◌else◌, Some, None, List, [], ◌∷◌, ◌++◌, map, refl, sym, ap, subst, ◌∙◌, arith, ⊎_elim, Contains}
use Rattle.std.specs.Prelude.{slice_index}
use Rattle.std.specs.List.{cons_option, flat_map}
use Rattle.std.proofs.lemmas.Bool.{false≢true}
use Rattle.arc_base.proofs.Items.{Contains-cases, Contains-none, Contains-head, Contains-tail}
use Rattle.net_model.specs.declared.rows.Network.{Network}
use Rattle.ios_lines.specs.declared.line.Lines.{Lines}
use Rattle.ios_lines.specs.Texts.{text_lines}
use Rattle.ios_words.specs.declared.commands.Command.{Command}
use Rattle.ios_config.specs.declared.commands.FileCommand.{FileCommand}
use Rattle.ios_config.specs.declared.settings.Given.{Given}
use Rattle.ios_config.specs.declared.settings.ListForm.{ListForm}
use Rattle.ios_config.specs.declared.settings.ListKind.{ListKind}
use Rattle.ios_config.specs.Groups.{Part, is_same, part_of, members}
use Rattle.ios_config.specs.Texts.{entries, given, is_entry}
use Rattle.ios_config.proofs.LinesBefore.{Rising, rising-low}
use Rattle.ios_config.proofs.ProcessBlocks.{rising-filter}
use Rattle.net_build.specs.declared.built.Places.{Places}
use Rattle.edit_list.specs.declared.edit_kinds.Edit.{Edit}
use Rattle.line_edit_laws.specs.Sites.{Written}
use Rattle.patch_laws.specs.EditFiles.{IsEditedFile}
use Rattle.patch_laws.specs.EditSites.{entries_at}
use Rattle.patch_laws.specs.ListsGrow.{list_begun}
use Rattle.patch_laws.proofs.EditBlocks.{members-of}
use Rattle.patch_laws.proofs.EditGrow.{own, grow_at}
use Rattle.patch_laws.proofs.EditListGroups.{shown, written, shows, rest-plain, front-grows}
use Rattle.patch_laws.proofs.EditParts.{entry-at}
use Rattle.patch_laws.proofs.FileParts.{rising}

-- the first entry among commands
pub record FirstOf (g : List FileCommand) (e : Given Command) : Type 0 where
  pub command : FileCommand
  pub among : Contains g command
  pub entry : is_entry command.command ≡ true
  pub line : command.line ≡ e.line
  pub before : (c : FileCommand) → Contains g c → c.line < command.line → is_entry c.command ≡ false

no-items : (e : Given Command) (more : List (Given Command)) → [] ≡ e ∷ more → ⊥
no-items e more is = cc

head-item : (a b : Given Command) (xs ys : List (Given Command)) → a ∷ xs ≡ b ∷ ys → a ≡ b
head-item a b xs ys is = cc

pub first-of : (n : ℕ) (g : List FileCommand) (e : Given Command) (more : List (Given Command)) → Rising n g → entries g ≡ e ∷ more → FirstOf g e
first-of n [] e more up is = absurd (no-items e more is)
first-of n (c ∷ g) e more up is = by (is_entry c.command) refl is (first-of (c.line + 1) g e more up.1)
  where
    by : (b : Bool) → is_entry c.command ≡ b → cons_option (if is_entry c.command then Some (given c) else None) (entries g) ≡ e ∷ more → (entries g ≡ e ∷ more → FirstOf g e) → FirstOf (c ∷ g) e
    by true entry now deeper =
        let same : given c ≡ e = head-item (given c) e (entries g) more (sym (ap (λ (b : Bool). cons_option (if b then Some (given c) else None) (entries g)) entry) ∙ now) in
        record {
          command = c;
          among = Contains-head c g;
          entry = entry;
          line = ap (λ (x : Given Command). x.line) same;
          before = λ d there low. ⊎_elim
              (λ (here : c ≡ d). absurd (let at : c.line ≡ d.line = ap (λ (x : FileCommand). x.line) here in omega (arith, at, low)))
              (λ later. absurd (let over = rising-low (c.line + 1) g d up.1 later in omega (arith, over, low)))
              (Contains-cases c d g there);
        }
    by false none now deeper =
        let rest = deeper (sym (ap (λ (b : Bool). cons_option (if b then Some (given c) else None) (entries g)) none) ∙ now) in
        record {
          command = rest.command;
          among = Contains-tail c rest.command g rest.among;
          entry = rest.entry;
          line = rest.line;
          before = λ d there low. ⊎_elim
              (λ (here : c ≡ d). ap (λ (x : FileCommand). is_entry x.command) (sym here) ∙ none)
              (λ later. rest.before d later low)
              (Contains-cases c d g there);
        }

pub no-entries : (g : List FileCommand) → entries g ≡ [] → (c : FileCommand) → Contains g c → is_entry c.command ≡ false
no-entries [] is c there = absurd (Contains-none c there)
no-entries (d ∷ g) is c there = by (is_entry d.command) refl is (λ e later. no-entries g e c later)
  where
    by : (b : Bool) → is_entry d.command ≡ b → cons_option (if is_entry d.command then Some (given d) else None) (entries g) ≡ [] →
        (entries g ≡ [] → Contains g c → is_entry c.command ≡ false) → is_entry c.command ≡ false
    by true entry now deeper = absurd (no-items (given d) (entries g) (sym now ∙ ap (λ (b : Bool). cons_option (if b then Some (given d) else None) (entries g)) entry))
    by false none now deeper = ⊎_elim
        (λ (here : d ≡ c). ap (λ (x : FileCommand). is_entry x.command) (sym here) ∙ none)
        (λ later. deeper (sym (ap (λ (b : Bool). cons_option (if b then Some (given d) else None) (entries g)) none) ∙ now) later)
        (Contains-cases d c g there)

module _ (net : Network) (places : List Places) (chosen : List Edit) (router : ℕ) (text : List ℕ) (lines : Lines) (cs : List FileCommand)
    (f : IsEditedFile net places chosen router text lines cs) where
  abbrev grown_at : FileCommand → List FileCommand
  grown_at c = grow_at net places chosen router text lines cs c

  abbrev new_entries : FileCommand → List Written
  new_entries c = entries_at net (own net places chosen router text lines cs) chosen router c

  module _ (q : Part) (first : FileCommand) (rest : List FileCommand) (is : members cs q ≡ first ∷ rest) (x : List ℕ × ListKind × ListForm) (begun : list_begun first.command ≡ Some x) where
    each : (c : FileCommand) → Contains (members cs q) c → shown (grown_at c) ≡ written (new_entries c) ++ shown (c ∷ [])
    each = shows net places chosen router text lines cs f q first rest is x begun

    -- a list without entries stays without
    pub none-front : entries (members cs q) ≡ [] → shown (flat_map grown_at (members cs q)) ≡ shown (members cs q)
    none-front none = rest-plain grown_at new_entries (members cs q) each (λ c there. by c there (new_entries c) refl)
      where
        by : (c : FileCommand) → Contains (members cs q) c → (ws : List Written) → new_entries c ≡ ws → ws ≡ []
        by c there [] e = refl
        by c there (w ∷ ws) e =
            let at = entry-at net places chosen router text lines cs f c w (members-of cs q c there).0 (subst (λ (l : List Written). Contains l w) (sym e) (Contains-head w ws)) in
            absurd (false≢true (sym (no-entries (members cs q) none c there) ∙ at.entry))

    -- only the first entry of a list has new ones
    pub none-elsewhere : (e : Given Command) (more : List (Given Command)) → entries (members cs q) ≡ e ∷ more → (c : FirstOf (members cs q) e) (d : FileCommand) →
        Contains (members cs q) d → d.line ≢ c.command.line → new_entries d ≡ []
    none-elsewhere e more es c d there other = by (new_entries d) refl
      where
        by : (ws : List Written) → new_entries d ≡ ws → ws ≡ []
        by [] now = refl
        by (w ∷ ws) now =
            let (among, part) = members-of cs q d there in
            let at = entry-at net places chosen router text lines cs f d w among (subst (λ (l : List Written). Contains l w) (sym now) (Contains-head w ws)) in
            let same : at.list.entries ≡ e ∷ more = at.group.entries_are ∙ ap entries (sym at.group.is ∙ ap (members cs) (sym at.own ∙ part)) ∙ es in
            let line : d.line ≡ e.line = at.first ∙ ap (λ (gs : List (Given Command)). slice_index (map (λ (g : Given Command). g.line) gs) 0) same in
            absurd (other (line ∙ sym c.line))

    pub members-rise : Rising 1 (members cs q)
    members-rise = rising-filter (λ (d : FileCommand). is_same q (part_of d)) 1 cs (rising (text_lines text) cs f.stand)

    -- the others show those at their first entry before their own
    pub some-front : (e : Given Command) (more : List (Given Command)) (es : entries (members cs q) ≡ e ∷ more) →
        (c : FirstOf (members cs q) e) × (shown (flat_map grown_at (members cs q)) ≡ written (new_entries c.command) ++ shown (members cs q))
    some-front e more es =
        let c = first-of 1 (members cs q) e more members-rise es in
        (c, front-grows grown_at new_entries 1 (members cs q) c.command members-rise c.among each (λ d there other. none-elsewhere e more es c d there other) c.before)
