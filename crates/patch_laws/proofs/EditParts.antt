-- What edits put at a command is of the command's part.
use Rattle.std.proofs.Common.{◌≡◌, ◌≢◌, ℕ, true, Some, List, sym, ap, subst, ◌∙◌, ⊎_elim, Contains}
use Rattle.std.proofs.lemmas.Option.{same_Some, none-some}
use Rattle.arc_base.proofs.Items.{Contains-head, from_map, from_filter}
use Rattle.arc_base.specs.declared.place.Face.{Face}
use Rattle.net_model.specs.declared.rows.Network.{Network}
use Rattle.ios_lines.specs.declared.line.Lines.{Lines}
use Rattle.ios_lines.specs.Texts.{text_lines}
use Rattle.ios_words.specs.declared.commands.Command.{Command}
use Rattle.ios_words.specs.declared.commands.Command.TheVariants as commands
use Rattle.ios_config.specs.declared.commands.FileCommand.{FileCommand}
use Rattle.ios_config.specs.declared.settings.Given.{Given}
use Rattle.ios_config.specs.declared.settings.ListForm.{ListForm}
use Rattle.ios_config.specs.declared.settings.ListForm.TheVariants as forms
use Rattle.ios_config.specs.declared.settings.ListKind.{ListKind}
use Rattle.ios_config.specs.declared.settings.ListText.{ListText}
use Rattle.ios_config.specs.declared.settings.ProcessText.{ProcessText}
use Rattle.ios_config.specs.Groups.{is_same, part_in, part_of}
use Rattle.ios_config.specs.Groups as groups
use Rattle.ios_config.specs.ProcessLines.{HasProcess, IsQuiet}
use Rattle.ios_config.specs.Texts.{config_of, is_entry}
use Rattle.ios_config.proofs.HeadsFirst.{part-block}
use Rattle.ios_config.proofs.PartLists.{is_same-Decides}
use Rattle.net_build.specs.declared.built.Places.{Places}
use Rattle.net_build.specs.Places.{list_place, places_of}
use Rattle.edit_list.specs.declared.edit_kinds.Edit.{Edit}
use Rattle.edit_list.specs.declared.list_kinds.NewList.TheVariants.{Packet}
use Rattle.arc_base.specs.Numbered.{of_number}
use Rattle.line_patcher.specs.declared.additions.NewNumber.{NewNumber}
use Rattle.line_patcher.specs.Additions.{commands_after, entries_before, numbers_at, process_commands}
use Rattle.line_patcher.specs.EntryLines.{first_line}
use Rattle.edit_list.specs.NewLists.{named_lists}
use Rattle.line_edit_laws.specs.Sites.{Written}
use Rattle.patch_laws.specs.EditFiles.{IsEditedFile, HasFace}
use Rattle.patch_laws.specs.EditSites.{ends_at, entries_at}
use Rattle.patch_laws.specs.EndLines.{AreNamed, IsProcessLine}
use Rattle.patch_laws.specs.Written.{written_of}
use Rattle.patch_laws.specs.FaceBlocks.{HasFaceBlock}
use Rattle.patch_laws.specs.ListsGrow.{list_begun}
use Rattle.patch_laws.specs.NewListSites.{IsNewName}
use Rattle.patch_laws.proofs.EditBusy.{AtFace, after-item, last-line, number-item, process-here}
use Rattle.patch_laws.proofs.EditEntries.{all-in, form_part, table-entry}
use Rattle.patch_laws.proofs.EditLists.{ListGroup, list-group, entry-command, from-number, first-entry}
use Rattle.patch_laws.proofs.EndLines.{process-lines-read}
use Rattle.patch_laws.proofs.FileParts.{rising, one-line, block-part}

pub begun-part : (block : ℕ) (command : Command) (name : List ℕ) (k : ListKind) (f : ListForm) → list_begun command ≡ Some (name, k, f) → part_in block command ≡ form_part f block name
begun-part block (commands.ListBlock extended other) name k f is =
    let same = same_Some _ _ is in λ i. form_part (same i).2 block (same i).0
begun-part block (commands.ListLine other entry) name k f is =
    let same = same_Some _ _ is in λ i. form_part (same i).2 block (same i).0
begun-part block (commands.PrefixLine other number entry) name k f is =
    let same = same_Some _ _ is in λ i. form_part (same i).2 block (same i).0
begun-part block _ name k f is = absurd (none-some _ is)

own-form : (block b : ℕ) (command : Command) (f : ListForm) (name : List ℕ) → part_in block command ≡ form_part f b name → part_in block command ≡ form_part f block name
own-form block b command forms.Block name is = is ∙ ap groups.Block (sym (part-block block b command is))
own-form block b command forms.Lines name is = is
own-form block b command forms.PrefixLines name is = is

pub group-part : (cs : List FileCommand) (list : ListText) (g : ListGroup cs list) → part_of g.first ≡ g.part
group-part cs list g =
    let (among, same) = from_filter (λ (c : FileCommand). is_same g.part (part_of c)) cs g.first (subst (λ (l : List FileCommand). Contains l g.first) (sym g.is) (Contains-head g.first g.rest)) in
    sym ((is_same-Decides g.part (part_of g.first)).0 same)

-- a new entry stands before the first entry of its list, and is of that list
pub record EntryAt (cs : List FileCommand) (c : FileCommand) (w : Written) : Type 0 where
  pub list : ListText
  pub among : Contains (config_of cs).lists list
  pub group : ListGroup cs list
  pub own : part_of c ≡ group.part
  pub entry : is_entry c.command ≡ true
  pub first : c.line ≡ first_line (list_place list)
  pub part : part_in c.block w.command ≡ part_of c
  pub is : is_entry w.command ≡ true

-- a binding at the end of an interface
pub record FaceEnd (net : Network) (places : List Places) (chosen : List Edit) (router : ℕ) (cs : List FileCommand) (c : FileCommand) (w : Written) : Type 0 where
  pub face : Face
  pub name : List ℕ
  pub named : Contains (named_lists net chosen router) (Packet face, name)
  pub has : HasFace net places router cs face.0
  pub block : HasFaceBlock cs has.face
  pub last : c ≡ block.last
  pub says : w.command ≡ commands.Group name true

-- a line at the end of a block: of the process, or of an interface
pub data EndAt (net : Network) (places : List Places) (chosen : List Edit) (router : ℕ) (cs : List FileCommand) (process : ProcessText) (c : FileCommand) (w : Written) : Type 0 where
  OfProcess : (h : HasProcess cs process) → c ≡ h.last → Contains (process_commands net chosen router) w.command → EndAt net places chosen router cs process c w
  OfFace : FaceEnd net places chosen router cs c w → EndAt net places chosen router cs process c w

module _ (net : Network) (places : List Places) (chosen : List Edit) (router : ℕ) (text : List ℕ) (lines : Lines) (cs : List FileCommand)
    (f : IsEditedFile net places chosen router text lines cs) where
  abbrev own_of : Places
  own_of = places_of (config_of cs)

  pub named-names : AreNamed net chosen router
  named-names named there = (all-in (IsNewName chosen) (named_lists net chosen router) named f.names there).name

  pub entry-at : (c : FileCommand) (w : Written) → Contains cs c → Contains (entries_at net own_of chosen router c) w → EntryAt cs c w
  entry-at c w has there =
      let (command, at_number, made) = from_map written_of (of_number c.line (entries_before net own_of chosen router)) w there in
      let t = table-entry net places chosen router text lines cs f (c.line, command) (from-number c.line (entries_before net own_of chosen router) command at_number) in
      let g = list-group cs t.list t.among in
      let e = first-entry t.list t.some in
      let there : Contains t.list.entries e.first = subst (λ (es : List (Given Command)). Contains es e.first) (sym e.is) (Contains-head e.first e.more) in
      let d = entry-command cs t.list g e.first there in
      let same : c ≡ d.command = one-line 1 cs c d.command (rising (text_lines text) cs f.stand) has d.among (t.number ∙ e.line ∙ sym d.line) in
      let own : part_of c ≡ g.part = ap part_of same ∙ d.own in
      let begun : part_of g.first ≡ form_part t.list.form g.first.block t.list.name = begun-part g.first.block g.first.command t.list.name t.list.kind t.list.form g.begun in
      let whole : part_of c ≡ form_part t.list.form c.block t.list.name = own-form c.block g.first.block c.command t.list.form t.list.name (own ∙ sym (group-part cs t.list g) ∙ begun) in
      let entry : EntryAt cs c (written_of command) = record {
        list = t.list;
        among = t.among;
        group = g;
        own = own;
        entry = ap (λ (x : FileCommand). is_entry x.command) same ∙ d.entry;
        first = t.number;
        part = t.part c.block ∙ sym whole;
        is = t.is;
      } in
      subst (EntryAt cs c) made entry

  -- a command whose entry gains another number is of that entry's list
  pub record NumberAt (c : FileCommand) : Type 0 where
    pub list : ListText
    pub among : Contains (config_of cs).lists list
    pub own : part_of c ≡ (list-group cs list among).part

  pub number-at : (c : FileCommand) (new : NewNumber) → Contains cs c → Contains (of_number c.line (numbers_at net own_of chosen router)) new → NumberAt c
  number-at c new has there =
      let n = number-item net places chosen router text lines cs f (c.line, new) (from-number c.line (numbers_at net own_of chosen router) new there) in
      let d = entry-command cs n.list (list-group cs n.list n.among) n.entry n.has in
      let same : c ≡ d.command = one-line 1 cs c d.command (rising (text_lines text) cs f.stand) has d.among (n.line ∙ sym d.line) in
      record { list = n.list; among = n.among; own = ap part_of same ∙ d.own }

  pub face-end : (c : FileCommand) (command : Command) → Contains cs c → AtFace net places chosen router text lines cs f (c.line, command) → FaceEnd net places chosen router cs c (written_of command)
  face-end c command has a = record {
    face = a.face;
    name = a.name;
    named = a.named;
    has = a.has;
    block = a.block;
    last = one-line 1 cs c a.block.last (rising (text_lines text) cs f.stand) has a.block.block.last_among a.line;
    says = a.says;
  }

  pub end-at : (c : FileCommand) (w : Written) → Contains cs c → Contains (ends_at net places own_of chosen router c) w → EndAt net places chosen router cs f.process c w
  end-at c w has there =
      let (command, at_number, made) = from_map written_of (of_number c.line (commands_after net places own_of chosen router)) w there in
      let h = process-here net places chosen router text lines cs f in
      subst (EndAt net places chosen router cs f.process c) made
      (⊎_elim
      (λ process. OfProcess h (one-line 1 cs c h.last (rising (text_lines text) cs f.stand) has h.block.last_among (process.0 ∙ last-line net places chosen router text lines cs f)) process.1)
      (λ a. OfFace (face-end c command has a))
      (after-item net places chosen router text lines cs f (c.line, command) (from-number c.line (commands_after net places own_of chosen router) command at_number)))

  -- a line of the process is of its block, and quiet
  pub process-line : (block : ℕ) (command : Command) → Contains (process_commands net chosen router) command → (part_in block command ≡ groups.Block block) × IsQuiet command
  process-line block command there =
      let read = process-lines-read net chosen router block f.writable f.fits named-names in
      let found = all-in (IsProcessLine net.protocol block) (process_commands net chosen router) command read there in
      (found.line.part, found.quiet)

  pub block-own : (c : FileCommand) → Contains cs c → c.block ≢ 0 → part_of c ≡ groups.Block c.block
  block-own c has some = block-part c.block c.command (λ name is. f.tops c has name is) some

  pub end-part : (c : FileCommand) (w : Written) → Contains cs c → EndAt net places chosen router cs f.process c w → part_in c.block w.command ≡ part_of c
  end-part c w has (OfProcess h is line) =
      let block : c.block ≡ h.head.line = ap (λ (x : FileCommand). x.block) is ∙ h.block.last_block in
      (process-line c.block w.command line).0 ∙ sym (block-own c has (λ none. h.block.some (h.block.own ∙ sym block ∙ none)))
  end-part c w has (OfFace e) =
      let block : c.block ≡ e.block.head.line = ap (λ (x : FileCommand). x.block) e.last ∙ e.block.block.last_block in
      ap (part_in c.block) e.says ∙ sym (block-own c has (λ none. e.block.block.some (e.block.block.own ∙ sym block ∙ none)))
