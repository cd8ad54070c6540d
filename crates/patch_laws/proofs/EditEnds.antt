-- The lines that edits put after the last lines of processes and interfaces are read in their blocks.
use Rattle.std.proofs.Common.{◌≡◌, ℕ, true, List, sym, ap, subst, ◌∙◌, ⊎_elim, Contains, IsTrue}
use Rattle.arc_base.proofs.Items.{from_map}
use Rattle.net_model.specs.declared.rows.Network.{Network}
use Rattle.ios_lines.specs.declared.line.Lines.{Lines}
use Rattle.ios_lines.specs.Texts.{text_lines}
use Rattle.ios_words.specs.declared.commands.Command.{Command}
use Rattle.ios_words.specs.declared.commands.Command.TheVariants as commands
use Rattle.ios_words.specs.declared.kinds.BlockKind.{BlockKind}
use Rattle.ios_words.specs.declared.kinds.BlockKind.TheVariants as kinds
use Rattle.arc_base.specs.NameForms.{is_name}
use Rattle.ios_config.specs.declared.commands.FileCommand.{FileCommand}
use Rattle.ios_config.specs.declared.settings.ProcessKind.{ProcessKind}
use Rattle.ios_config.specs.Appended.{HasBlock, IsLineOf}
use Rattle.ios_config.specs.ProcessLines.{HasProcess}
use Rattle.net_build.specs.declared.built.Places.{Places}
use Rattle.net_rules.specs.Routers.{protocol_of_kind}
use Rattle.edit_list.specs.declared.edit_kinds.Edit.{Edit}
use Rattle.edit_list.specs.declared.list_kinds.NewList.TheVariants.{Packet}
use Rattle.arc_base.specs.Numbered.{of_number}
use Rattle.line_patcher.specs.Additions.{commands_after, process_commands}
use Rattle.line_patcher.specs.Written.{line_of}
use Rattle.line_edit_laws.specs.Sites.{IsInnerOf, Written}
use Rattle.patch_laws.specs.EditFiles.{IsEditedFile}
use Rattle.patch_laws.specs.EditSiteLaws.{own_places}
use Rattle.patch_laws.specs.EditSites.{ends_at}
use Rattle.patch_laws.specs.EndLines.{IsProcessLine, process_kind}
use Rattle.patch_laws.specs.Written.{written_of}
use Rattle.patch_laws.proofs.EditBusy.{AtFace, after-item, last-line, process-here}
use Rattle.patch_laws.proofs.EditLists.{from-number}
use Rattle.patch_laws.proofs.EditRows.{one-command}
use Rattle.patch_laws.proofs.EditEntries.{all-in}
use Rattle.patch_laws.proofs.EditParts.{named-names}
use Rattle.patch_laws.proofs.EndLines.{group-lines-fit, process-lines-read}

-- a line of a block, after its last command
pub at-end : (cs : List FileCommand) (c head last : FileCommand) (within : BlockKind) (w : Written) → HasBlock cs head last within → last ≡ c →
    IsLineOf w.line within c.block w.command → IsInnerOf cs c w
at-end cs c head last within w b same is =
    let number : head.line ≡ c.block = sym b.last_block ∙ ap (λ (d : FileCommand). d.block) same in
    record {
      within = within;
      head = head;
      among = b.among;
      number = number;
      some = λ none. b.some (b.own ∙ number ∙ none);
      opens = b.opens;
      known = b.known;
      inner = is.inner;
      reads = is.reads;
      part = is.part;
    }

module _ (net : Network) (places : List Places) (chosen : List Edit) (router : ℕ) (text : List ℕ) (lines : Lines) (cs : List FileCommand)
    (file : IsEditedFile net places chosen router text lines cs) where
  abbrev own : Places
  own = own_places cs

  abbrev here : HasProcess cs file.process
  here = process-here net places chosen router text lines cs file

  within-is : process_kind net.protocol ≡ here.within
  within-is = ⊎_elim
      (λ ospf. ap process_kind (sym file.runs) ∙ ap (λ (k : ProcessKind). process_kind (protocol_of_kind k)) ospf.1 ∙ sym ospf.0)
      (λ bgp. ap process_kind (sym file.runs) ∙ ap (λ (k : ProcessKind). process_kind (protocol_of_kind k)) bgp.1 ∙ sym bgp.0)
      here.kind

  process-inner : (c : FileCommand) → Contains cs c → (command : Command) → Contains (process_commands net chosen router) command → own.process_last ≡ c.line → IsInnerOf cs c (written_of command)
  process-inner c among command there line =
      let read = all-in (IsProcessLine net.protocol c.block) (process_commands net chosen router) command
      (process-lines-read net chosen router c.block file.writable file.fits (named-names net places chosen router text lines cs file)) there in
      let same : here.last ≡ c = one-command (text_lines text) cs here.last c file.stand here.block.last_among among (sym (last-line net places chosen router text lines cs file) ∙ line) in
      at-end cs c here.head here.last here.within (written_of command) here.block same (subst (λ (k : BlockKind). IsLineOf (line_of command) k c.block command) within-is read.line)

  group-inner : (c : FileCommand) → Contains cs c → (command : Command) → AtFace net places chosen router text lines cs file (c.line, command) → IsInnerOf cs c (written_of command)
  group-inner c among command a =
      let named : IsTrue (is_name a.name) = named-names net places chosen router text lines cs file (Packet a.face, a.name) a.named in
      let same : a.block.last ≡ c = one-command (text_lines text) cs a.block.last c file.stand a.block.block.last_among among (sym a.line) in
      subst (λ (k : Command). IsInnerOf cs c (written_of k)) (sym a.says)
      (at-end cs c a.block.head a.block.last kinds.Interface (written_of (commands.Group a.name true)) a.block.block same (group-lines-fit a.name c.block named).0.0)

  -- the lines after a command
  pub after-inner : (c : FileCommand) → Contains cs c → (w : Written) → Contains (ends_at net places own chosen router c) w → IsInnerOf cs c w
  after-inner c among w there =
      let (command, at_number, made) = from_map written_of (of_number c.line (commands_after net places own chosen router)) w there in
      subst (IsInnerOf cs c) made
      (⊎_elim
      (λ process. process-inner c among command process.1 (sym process.0))
      (λ a. group-inner c among command a)
      (after-item net places chosen router text lines cs file (c.line, command) (from-number c.line (commands_after net places own chosen router) command at_number)))
