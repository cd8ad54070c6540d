-- What edits put at the commands of a file leaves the name of the router.
use Rattle.std.proofs.Common.{◌≡◌, ℕ, true, List, [], ◌∷◌, ◌++◌, map, Some, None, refl, sym, ap, subst, ◌∙◌}
use Rattle.std.proofs.Common.{append_assoc, append-nil, Contains, ⊎_elim}
use Rattle.std.proofs.lemmas.List.{map-append}
use Rattle.std.specs.Prelude.{option_map}
use Rattle.std.specs.List.{flat_map}
use Rattle.arc_base.proofs.Items.{Contains-head, Contains-tail, from_map}
use Rattle.net_model.specs.declared.rows.Network.{Network}
use Rattle.ios_lines.specs.declared.line.Lines.{Lines}
use Rattle.ios_words.specs.declared.commands.Command.{Command}
use Rattle.ios_words.specs.declared.commands.Command.TheVariants as commands
use Rattle.ios_config.specs.declared.commands.FileCommand.{FileCommand}
use Rattle.ios_config.specs.declared.settings.Given.{Given}
use Rattle.ios_config.specs.Bare.{bare, bare_setting}
use Rattle.ios_config.specs.ProcessLines.{IsQuiet}
use Rattle.ios_config.specs.Texts.{is_entry, router_name}
use Rattle.ios_config.specs.Values.{last_setting, hostname}
use Rattle.ios_config.proofs.BareSettings.{bare-setting}
use Rattle.ios_config.proofs.HostnameStays.{named, setting-stays}
use Rattle.net_build.specs.declared.built.Places.{Places}
use Rattle.edit_list.specs.declared.edit_kinds.Edit.{Edit}
use Rattle.arc_base.specs.Numbered.{of_number}
use Rattle.line_patcher.specs.declared.additions.NewNumber.{NewNumber}
use Rattle.line_patcher.specs.Additions.{numbers_at}
use Rattle.edit_list.specs.NewLists.{named_lists}
use Rattle.line_edit_laws.specs.Sites.{in_block, says_other}
use Rattle.patch_laws.specs.EditFiles.{IsEditedFile}
use Rattle.patch_laws.specs.EditSites.{entries_at, new_key, with_number}
use Rattle.patch_laws.proofs.EditGrow.{own, grow_at, more_at, after_at, new_at, grow-is, split, back_at, in-front, in-back}
use Rattle.patch_laws.proofs.EditOnce.{added-stands, ends-silent}
use Rattle.patch_laws.proofs.EditParts.{entry-at}

-- commands without their numbers
abbrev IsUnnamed : FileCommand → Type 0
IsUnnamed v = hostname v.command ≡ None

all-stay : (front vs back : List FileCommand) → ((v : FileCommand) → Contains vs v → IsUnnamed v) →
    last_setting hostname (map bare front ++ (map bare vs ++ map bare back)) ≡ last_setting hostname (map bare front ++ map bare back)
all-stay front [] back silent = refl
all-stay front (v ∷ vs) back silent =
    setting-stays hostname (map bare front) (bare v) (map bare vs ++ map bare back) (silent v (Contains-head v vs)) ∙ all-stay front vs back (λ u there. silent u (Contains-tail v u vs there))

-- the commands stand for the others, after these
abbrev StandFor : List FileCommand → List FileCommand → Type 0
StandFor xs ys = (front back : List FileCommand) → last_setting hostname (map bare front ++ (map bare xs ++ map bare back)) ≡ last_setting hostname (map bare front ++ (map bare ys ++ map bare back))

both-stand : (xs ys us vs : List FileCommand) → StandFor xs ys → StandFor us vs → StandFor (xs ++ us) (ys ++ vs)
both-stand xs ys us vs one two front back =
    let first : map bare front ++ (map bare (xs ++ us) ++ map bare back) ≡ map bare front ++ (map bare xs ++ map bare (us ++ back)) =
    ap (λ l. map bare front ++ l) (ap (λ l. l ++ map bare back) (map-append bare xs us) ∙ append_assoc (map bare xs) (map bare us) (map bare back)
    ∙ ap (λ l. map bare xs ++ l) (sym (map-append bare us back))) in
    let middle : map bare front ++ (map bare ys ++ map bare (us ++ back)) ≡ map bare (front ++ ys) ++ (map bare us ++ map bare back) =
    sym (append_assoc (map bare front) (map bare ys) (map bare (us ++ back))) ∙ (let f = sym (map-append bare front ys) in let b = map-append bare us back in λ i. f i ++ b i) in
    let last : map bare (front ++ ys) ++ (map bare vs ++ map bare back) ≡ map bare front ++ (map bare (ys ++ vs) ++ map bare back) =
    ap (λ l. l ++ (map bare vs ++ map bare back)) (map-append bare front ys) ∙ append_assoc (map bare front) (map bare ys) (map bare vs ++ map bare back) ∙
    ap (λ l. map bare front ++ l) (sym (append_assoc (map bare ys) (map bare vs) (map bare back)) ∙ ap (λ l. l ++ map bare back) (sym (map-append bare ys vs))) in
    ap (last_setting hostname) first ∙ one front (us ++ back) ∙ ap (last_setting hostname) middle ∙ two (front ++ ys) back ∙ ap (last_setting hostname) last

silent-stand : (vs : List FileCommand) → ((v : FileCommand) → Contains vs v → IsUnnamed v) → StandFor vs []
silent-stand vs silent front back = all-stay front vs back silent

-- a command among bare ones
abbrev with_one : List FileCommand → List FileCommand → Command → List FileCommand
with_one front back k = map bare front ++ (record { line = 0; block = 0; command = k } ∷ map bare back)

-- a command with another number of its entry
other-stands : (c : FileCommand) (new : List NewNumber) → StandFor (says_other c (with_number c.command new) ∷ []) (c ∷ [])
other-stands c new front back = by c.command new
  where
    by : (k : Command) (new : List NewNumber) → last_setting hostname (with_one front back (with_number k new)) ≡ last_setting hostname (with_one front back k)
    by k [] = refl
    by (commands.Entry order entry) (n ∷ more) =
        setting-stays hostname (map bare front) (record { line = 0; block = 0; command = commands.Entry (Some n.number) entry }) (map bare back) refl ∙
        sym (setting-stays hostname (map bare front) (record { line = 0; block = 0; command = commands.Entry order entry }) (map bare back) refl)
    by (commands.PrefixLine name order entry) (n ∷ more) =
        setting-stays hostname (map bare front) (record { line = 0; block = 0; command = commands.PrefixLine name (Some n.number) entry }) (map bare back) refl ∙
        sym (setting-stays hostname (map bare front) (record { line = 0; block = 0; command = commands.PrefixLine name order entry }) (map bare back) refl)
    by _ (n ∷ more) = refl

entry-unnamed : (command : Command) → is_entry command ≡ true → hostname command ≡ None
entry-unnamed (commands.Entry order entry) is = refl
entry-unnamed (commands.ListLine name entry) is = refl
entry-unnamed (commands.PrefixLine name order entry) is = refl
entry-unnamed (commands.Hostname name) is = absurd cc
entry-unnamed _ is = refl

module _ (net : Network) (places : List Places) (chosen : List Edit) (router : ℕ) (text : List ℕ) (lines : Lines) (cs : List FileCommand)
    (f : IsEditedFile net places chosen router text lines cs) where
  abbrev grown_at : FileCommand → List FileCommand
  grown_at c = grow_at net places chosen router text lines cs c

  abbrev own_at : Places
  own_at = own net places chosen router text lines cs

  grow-stands : (c : FileCommand) → Contains cs c → StandFor (grown_at c) (c ∷ [])
  grow-stands c has =
      let es = map (in_block c.block) (entries_at net own_at chosen router c) in
      let m = says_other c (new_at net places chosen router text lines cs c) in
      let ends = map (in_block c.block) (after_at net places chosen router text lines cs c) in
      let one = silent-stand es (λ v there. (let (w, among, same) = from_map (in_block c.block) (entries_at net own_at chosen router c) v there in
      subst IsUnnamed same (entry-unnamed w.command (entry-at net places chosen router text lines cs f c w has among).is))) in
      let two = other-stands c (of_number c.line (numbers_at net own_at chosen router)) in
      let three = silent-stand ends (λ v there. (ends-silent net places chosen router text lines cs f c has v there).unnamed) in
      subst (λ (l : List FileCommand). StandFor l (c ∷ [])) (sym (grow-is net places chosen router text lines cs c))
      (both-stand es [] (m ∷ ends) (c ∷ []) one (both-stand (m ∷ []) (c ∷ []) ends [] two three))

  all-stand : (ds : List FileCommand) → ((c : FileCommand) → Contains ds c → Contains cs c) → StandFor (flat_map grown_at ds) ds
  all-stand [] within = λ front back. refl
  all-stand (d ∷ ds) within = both-stand (grown_at d) (d ∷ []) (flat_map grown_at ds) ds (grow-stands d (within d (Contains-head d ds)))
      (all-stand ds (λ c there. within c (Contains-tail d c ds there)))

  pub name-stays : option_map bare_setting
      (router_name (flat_map grown_at
      (split net places chosen router text lines cs f).front ++ (more_at net places chosen router text lines cs ++ flat_map grown_at (back_at net places chosen router text lines cs f)))) ≡
      option_map bare_setting (router_name ((split net places chosen router text lines cs f).front ++ back_at net places chosen router text lines cs f))
  name-stays =
      let s = split net places chosen router text lines cs f in
      let back = back_at net places chosen router text lines cs f in
      let more = more_at net places chosen router text lines cs in
      let new = flat_map grown_at s.front ++ (more ++ flat_map grown_at back) in
      let stand : StandFor new (s.front ++ back) =
      both-stand (flat_map grown_at s.front) s.front (more ++ flat_map grown_at back) back (all-stand s.front (in-front net places chosen router text lines cs f))
      (both-stand more [] (flat_map grown_at back) back (silent-stand more (λ t there.
      ⊎_elim (λ (quiet : IsQuiet t.command). quiet.unnamed) (λ head. ap hostname head.2) (added-stands chosen (new_key lines) (named_lists net chosen router) t there)))
      (all-stand back (in-back net places chosen router text lines cs f))) in
      let same : last_setting hostname (map bare new) ≡ last_setting hostname (map bare (s.front ++ back)) =
      ap (last_setting hostname) (sym (append-nil (map bare new))) ∙ stand [] [] ∙ ap (last_setting hostname) (append-nil (map bare (s.front ++ back))) in
      named (last_setting hostname new) ∙ ap (option_map (λ (g : Given (List ℕ)). record { name = g.value; line = g.line }))
      (sym (bare-setting hostname new) ∙ same ∙ bare-setting hostname (s.front ++ back)) ∙
      sym (named (last_setting hostname (s.front ++ back)))
