-- The commands of a file grow as the edits make them.
use Rattle.std.proofs.Common.{◌≡◌, ℕ, Bool, true, false, Option, Some, None, List, [], ◌∷◌, map, refl, sym, ap, subst, ◌∙◌, Contains}
use Rattle.std.specs.List.{flat_map}
use Rattle.arc_base.proofs.Items.{Contains-head, Contains-none, Contains-piece, Contains-tail}
use Rattle.net_model.specs.declared.rows.Network.{Network}
use Rattle.ios_lines.specs.declared.line.Lines.{Lines}
use Rattle.ios_config.specs.declared.commands.FileCommand.{FileCommand}
use Rattle.ios_words.specs.declared.commands.Command.{Command}
use Rattle.ios_config.specs.declared.settings.Given.{Given}
use Rattle.ios_config.specs.declared.settings.ListForm.{ListForm}
use Rattle.ios_config.specs.declared.settings.ListKind.{ListKind}
use Rattle.ios_config.specs.declared.settings.ListText.{ListText}
use Rattle.ios_config.specs.Bare.{bare}
use Rattle.ios_config.specs.Groups.{Part, part_of, members, distinct, groups}
use Rattle.ios_config.specs.Rising.{NumbersRise, rises}
use Rattle.ios_config.specs.Texts.{config_of, entries, entry_number, list_of, list_text}
use Rattle.net_build.specs.declared.built.Places.{Places}
use Rattle.edit_list.specs.declared.edit_kinds.Edit.{Edit}
use Rattle.line_edit_laws.specs.Grown.{HasGrownGroups}
use Rattle.line_edit_laws.specs.Sites.{new_commands}
use Rattle.line_edit_laws.proofs.Grown.{has-grown}
use Rattle.edit_list.specs.NewLists.{named_lists}
use Rattle.settings_edit_laws.specs.Plain.{plain_list}
use Rattle.settings_edit_laws.specs.SettingsAfter.{list_with}
use Rattle.patch_laws.specs.EditFiles.{IsEditedFile}
use Rattle.patch_laws.specs.EditSiteLaws.{CommandsGrowByEdits, own_places}
use Rattle.patch_laws.specs.EditSites.{added, grow, new_key, put}
use Rattle.patch_laws.proofs.EditGrow.{all-grown, are-fresh, back_at, grown-is, in-back, in-front, split}
use Rattle.patch_laws.proofs.EditGrown.{grow-by}
use Rattle.patch_laws.specs.ListsGrow.{list_begun}
use Rattle.patch_laws.proofs.EditListGroups.{no-ends, no-list-grows}
use Rattle.patch_laws.proofs.EditLists.{ListGroup, list-entries-are}
use Rattle.patch_laws.proofs.ListsGrow.{made, by-head}
use Rattle.patch_laws.proofs.EditUnnumbered.{all-none}
use Rattle.patch_laws.proofs.EditNumbered.{numbered-rise}
use Rattle.patch_laws.proofs.FileParts.{GroupOf}
use Rattle.patch_laws.proofs.EditBlocks.{known-group}
use Rattle.patch_laws.proofs.EditListsShow.{lists-show}
use Rattle.patch_laws.proofs.EditRising.{Rises, all-rise, numbers_of}

module _ (net : Network) (places : List Places) (chosen : List Edit) (router : ℕ) (text : List ℕ) (lines : Lines) (cs : List FileCommand)
    (f : IsEditedFile net places chosen router text lines cs) where
  abbrev grown_at : FileCommand → List FileCommand
  grown_at c = grow net places (own_places cs) chosen router text lines (new_key lines) c

  none-rise : (es : List (Given Command)) → ((e : Given Command) → Contains es e → entry_number e.value ≡ None) → Rises (numbers_of es)
  none-rise [] none = tt
  none-rise (e ∷ []) none = tt
  none-rise (e ∷ g ∷ es) none = (
    (let one = none e (Contains-head e (g ∷ es)) in let two = none g (Contains-tail e g (g ∷ es) (Contains-head g es)) in λ i. rises (one i) (two i)),
    none-rise (g ∷ es) (λ x there. none x (Contains-tail e x (g ∷ es) there)),
  )

  old-rise : (q : Part) → Contains (distinct (map part_of cs)) q → (list : ListText) → Contains (list_of (flat_map grown_at (members cs q))) list → Rises (numbers_of list.entries)
  old-rise q known list in_list = by (list_begun g.first.command) refl
    where
      g : GroupOf cs q
      g = known-group cs q known

      grown : List FileCommand
      grown = flat_map grown_at (members cs q)

      empty : (vs : List FileCommand) → map plain_list (list_of (map bare vs)) ≡ [] → Contains (list_of vs) list → ⊥
      empty [] none there = Contains-none list there
      empty (v ∷ vs) none there = begun (list_begun v.command) (sym (ap (map plain_list) (by-head v.command (map bare (v ∷ vs)))) ∙ none)
          (subst (λ (ls : List ListText). Contains ls list) (by-head v.command (v ∷ vs)) there)
        where
          begun : (o : Option (List ℕ × ListKind × ListForm)) → map plain_list (made o (map bare (v ∷ vs))) ≡ [] → Contains (made o (v ∷ vs)) list → ⊥
          begun None none there = Contains-none list there
          begun (Some x) none there = cc

      by : (o : Option (List ℕ × ListKind × ListForm)) → list_begun g.first.command ≡ o → Rises (numbers_of list.entries)
      by None e =
          let bare_none : list_of (map bare (members cs q)) ≡ [] = ap (λ (l : List FileCommand). list_of (map bare l)) g.is ∙ by-head g.first.command (map bare (g.first ∷ g.rest))
          ∙ ap (λ o. made o (map bare (g.first ∷ g.rest))) e in
          absurd (empty grown (no-list-grows net places chosen router text lines cs f q g.first g.rest g.is e
          ∙ ap (λ (ls : List ListText). map (list_with net chosen router) (map plain_list ls)) bare_none) in_list)
      by (Some x) e = subst (λ (es : List (Given Command)). Rises (numbers_of es)) (sym (list-entries-are grown list in_list)) (numbers old.numbered refl)
        where
          old : ListText
          old = list_text x.0 x.1 x.2 (g.first ∷ g.rest)

          here : ListGroup cs old
          here = record { part = q; known = known; first = g.first; rest = g.rest; is = g.is; begun = e; entries_are = refl; numbered_is = refl }

          listed : Contains (config_of cs).lists old
          listed = Contains-piece list_of (groups cs) (g.first ∷ g.rest) old g.there
              (subst (λ (ls : List ListText). Contains ls old) (sym (by-head g.first.command (g.first ∷ g.rest) ∙ ap (λ o. made o (g.first ∷ g.rest)) e)) (Contains-head old []))

          numbers : (b : Bool) → old.numbered ≡ b → Rises (numbers_of (entries grown))
          numbers true numbered = numbered-rise net places chosen router text lines cs f old listed here numbered
          numbers false none = none-rise (entries grown)
              (all-none net places chosen router text lines cs f old listed here none (no-ends net places chosen router text lines cs f q g.first g.rest g.is x e))

  numbers-rise : NumbersRise (config_of (new_commands (put net places (own_places cs) chosen router text lines (new_key lines)) cs)).lists
  numbers-rise =
      let s = split net places chosen router text lines cs f in
      let back = back_at net places chosen router text lines cs f in
      let new = added net chosen router (new_key lines) in
      let groups : HasGrownGroups grown_at s.front back new =
      has-grown grown_at s.front back new (all-grown net places chosen router text lines cs f s.front (in-front net places chosen router text lines cs f))
      (all-grown net places chosen router text lines cs f back (in-back net places chosen router text lines cs f))
      (are-fresh net places chosen router text lines cs f) in
      all-rise chosen (new_key lines) (named_lists net chosen router) f.different grown_at s.front back new
      (new_commands (put net places (own_places cs) chosen router text lines (new_key lines)) cs) refl groups (grown-is net places chosen router text lines cs f)
      (subst (λ (l : List FileCommand). (q : Part) → Contains (distinct (map part_of l)) q → (list : ListText) → Contains (list_of (flat_map grown_at (members l q))) list →
      Rises (numbers_of list.entries)) s.parts old-rise)

pub commands-grow : CommandsGrowByEdits
commands-grow net places chosen router text lines cs f = grow-by net places chosen router text lines cs f (lists-show net places chosen router text lines cs f)
    (numbers-rise net places chosen router text lines cs f)
