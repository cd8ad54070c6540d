-- The last line of an interface or a process in a text, with no end of its own: if it ends with a carriage return, lines after it
-- make that a part of its end. It says nothing then, as it did before.
use Rattle.std.proofs.Common.{◌≡◌, ◌≢◌, ℕ, ◌⊎◌, inl, inr, Bool, true, false, List, [], ◌∷◌, ◌++◌, map, refl, sym, ap, subst, ◌∙◌, ⊎_elim, Contains}
use Rattle.std.proofs.lemmas.Bool.{cases_Bool, true≢false}
use Rattle.std.proofs.lemmas.Option.{none-some}
use Rattle.net_model.specs.declared.rows.Network.{Network}
use Rattle.ios_lines.specs.declared.line.Lines.{Lines}
use Rattle.ios_lines.specs.Kinds.{is_indented, kind}
use Rattle.ios_lines.specs.Lines.{AreLinesOf}
use Rattle.ios_lines.specs.Texts.{part, text_lines}
use Rattle.arc_base.specs.Words.{words}
use Rattle.ios_words.specs.declared.commands.Command.{Command}
use Rattle.ios_words.specs.declared.commands.Command.TheVariants as commands
use Rattle.ios_words.specs.declared.kinds.BlockKind.{BlockKind}
use Rattle.ios_words.specs.declared.kinds.BlockKind.TheVariants as kinds
use Rattle.ios_words.specs.Commands.{is_extended_block, ReadBy}
use Rattle.ios_words.specs.Language.{rows}
use Rattle.ios_words.specs.Returns.{IsOfFaceOrProcess, heads_face_or_process}
use Rattle.ios_words.proofs.Returns.{heads-have-no-return, returns-say-nothing}
use Rattle.ios_config.specs.declared.commands.FileCommand.{FileCommand}
use Rattle.ios_config.specs.Appended.{HasBlock}
use Rattle.ios_config.specs.Commands.{opened_by}
use Rattle.ios_config.specs.Groups.{part_in}
use Rattle.ios_config.specs.LineLists.{AreCommandsIn}
use Rattle.ios_config.specs.ProcessLines.{HasProcess}
use Rattle.net_build.specs.declared.built.Places.{Places}
use Rattle.edit_list.specs.declared.edit_kinds.Edit.{Edit}
use Rattle.arc_base.specs.Numbered.{of_number}
use Rattle.arc_base.proofs.Items.{from_map}
use Rattle.line_patcher.specs.Additions.{commands_after, lines_after}
use Rattle.line_patcher.specs.Written.{line_of}
use Rattle.line_edit_laws.specs.Sites.{IsOfBlock, IsRewrittenFor, Site}
use Rattle.patch_laws.specs.EditFiles.{IsEditedFile}
use Rattle.patch_laws.specs.EditSiteLaws.{own_places}
use Rattle.patch_laws.proofs.EditBusy.{after-item, last-line, process-here}
use Rattle.patch_laws.proofs.EditLists.{from-number}
use Rattle.patch_laws.proofs.EditRows.{CommandRow, one-command}
use Rattle.patch_laws.proofs.ReturnedLines.{kept-kind}

-- the command stands in the block of an interface or a process
pub record EndsBlock (cs : List FileCommand) (c : FileCommand) : Type 0 where
  pub within : BlockKind
  pub kind : IsOfFaceOrProcess within
  pub of : IsOfBlock cs c within

-- whether a block is one of these
abbrev is_face_or_process : BlockKind → Bool
is_face_or_process kinds.Interface = true
is_face_or_process kinds.Ospf = true
is_face_or_process kinds.Bgp = true
is_face_or_process _ = false

is-such : (within : BlockKind) → IsOfFaceOrProcess within → is_face_or_process within ≡ true
is-such within (inl is) = ap is_face_or_process is
is-such within (inr (inl is)) = ap is_face_or_process is
is-such within (inr (inr is)) = ap is_face_or_process is

opens-such : (command : Command) → is_face_or_process (opened_by command) ≡ heads_face_or_process command
opens-such (commands.Interface name) = refl
opens-such (commands.RouterOspf number) = refl
opens-such (commands.RouterBgp number) = refl
opens-such (commands.ListBlock true name) = refl
opens-such (commands.ListBlock false name) = refl
opens-such _ = refl

not-extended : (within : BlockKind) → IsOfFaceOrProcess within → is_extended_block within ≡ false
not-extended within (inl is) = ap is_extended_block is
not-extended within (inr (inl is)) = ap is_extended_block is
not-extended within (inr (inr is)) = ap is_extended_block is

-- no words say nothing there
no-words : (within : BlockKind) → IsOfFaceOrProcess within → (command : Command) → ReadBy false [] (rows within) command → ⊥
no-words within (inl is) command reads = let r = subst (λ (w : BlockKind). ReadBy false [] (rows w) command) is reads in none-some r.rule r.first
no-words within (inr (inl is)) command reads = let r = subst (λ (w : BlockKind). ReadBy false [] (rows w) command) is reads in none-some r.rule r.first
no-words within (inr (inr is)) command reads = let r = subst (λ (w : BlockKind). ReadBy false [] (rows w) command) is reads in none-some r.rule r.first

-- the last command of a block stands in it
of-last : (cs : List FileCommand) (head last c : FileCommand) (within : BlockKind) → HasBlock cs head last within → last ≡ c → IsOfBlock cs c within
of-last cs head last c within b same =
    let number : head.line ≡ c.block = sym b.last_block ∙ ap (λ (d : FileCommand). d.block) same in
    record { head = head; among = b.among; number = number; some = λ none. b.some (b.own ∙ number ∙ none); opens = b.opens; known = b.known }

-- it is no block of an extended list, and has lines
pub not-both : (lines : List (List ℕ)) (cs : List FileCommand) (c : FileCommand) → AreCommandsIn lines cs → (c.block ≡ 0) ⊎ IsOfBlock cs c kinds.Extended → EndsBlock cs c → ⊥
not-both lines cs c stand (inl top) e = e.of.some top
not-both lines cs c stand (inr of) e =
    let same : of.head ≡ e.of.head = one-command lines cs of.head e.of.head stand of.among e.of.among (of.number ∙ sym e.of.number) in
    true≢false (sym (is-such e.within e.kind) ∙ ap is_face_or_process (sym (sym of.opens ∙ ap (λ (d : FileCommand). opened_by d.command) same ∙ e.of.opens)))

-- where lines are put after one, a block of an interface or a process ends
module _ (net : Network) (places : List Places) (chosen : List Edit) (router : ℕ) (text : List ℕ) (lines : Lines) (cs : List FileCommand)
    (file : IsEditedFile net places chosen router text lines cs) where
  abbrev own : Places
  own = own_places cs

  at-last : (c head last : FileCommand) (within : BlockKind) → IsOfFaceOrProcess within → Contains cs c → HasBlock cs head last within → c.line ≡ last.line → EndsBlock cs c
  at-last c head last within kind among b line = record {
    within = within;
    kind = kind;
    of = of-last cs head last c within b (one-command (text_lines text) cs last c file.stand b.last_among among (sym line));
  }

  pub ends-block : (c : FileCommand) → Contains cs c → (line : List ℕ) → Contains (of_number c.line (lines_after net places own chosen router)) line → EndsBlock cs c
  ends-block c among line there =
      let (item, in_commands, at_line) = from_map (λ (k : ℕ × Command). (k.0, line_of k.1)) (commands_after net places own chosen router) (c.line, line)
      (from-number c.line (lines_after net places own chosen router) line there) in
      let number : c.line ≡ item.0 = ap (λ (p : ℕ × List ℕ). p.0) (sym at_line) in
      ⊎_elim
      (λ process.
      let here : HasProcess cs file.process = process-here net places chosen router text lines cs file in
      at-last c here.head here.last here.within (⊎_elim (λ ospf. inr (inl ospf.0)) (λ bgp. inr (inr bgp.0)) here.kind) among here.block
      (number ∙ process.0 ∙ last-line net places chosen router text lines cs file))
      (λ a. at-last c a.block.head a.block.last kinds.Interface (inl refl) among a.block.block (number ∙ a.line))
      (after-item net places chosen router text lines cs file item in_commands)

-- a line of such a block that ends with a carriage return is written without it
module _ (text : List ℕ) (lines : Lines) (cs : List FileCommand) (c : FileCommand) (among : Contains cs c) (are : AreLinesOf text lines) (stand : AreCommandsIn (text_lines text) cs)
    (r : CommandRow text lines cs c) (e : EndsBlock cs c)
    (line : List ℕ) (is : part text r.row.span ≡ line ++ 13 ∷ []) where
  texts : map (part text) r.row.words ≡ words (line ++ 13 ∷ [])
  texts = (are.rows r.place r.row r.at).texts ∙ ap words is

  opens : c.block ≡ c.line → opened_by c.command ≡ e.within
  opens own =
      let same : e.of.head ≡ c = one-command (text_lines text) cs e.of.head c stand e.of.among among (e.of.number ∙ own) in
      ap (λ (d : FileCommand). opened_by d.command) (sym same) ∙ e.of.opens

  no-head : r.row.head ≡ false
  no-head = ⊎_elim
      (λ (heads : r.row.head ≡ true).
      let plain : heads_face_or_process c.command ≡ false = heads-have-no-return line c.command (subst (λ (ws : List (List ℕ)). ReadBy false ws (rows kinds.Top) c.command) texts (r.heads heads)) in
      let such : heads_face_or_process c.command ≡ true = sym (opens-such c.command) ∙ ap is_face_or_process (opens (r.own heads)) ∙ is-such e.within e.kind in
      absurd (true≢false (sym such ∙ plain)))
      (λ none. none)
      (cases_Bool r.row.head)

  said : ReadBy false (words line) (rows e.within) c.command × (c.command ≡ commands.Inert)
  said = returns-say-nothing e.within e.kind line c.command
      (subst (λ (ws : List (List ℕ)). ReadBy false ws (rows e.within) c.command) texts
      (subst (λ (x : Bool). ReadBy x (map (part text) r.row.words) (rows e.within) c.command) (not-extended e.within e.kind) (r.read e.within no-head (inr e.of))))

  some-words : words line ≢ []
  some-words none = no-words e.within e.kind c.command (subst (λ (ws : List (List ℕ)). ReadBy false ws (rows e.within) c.command) none said.0)

  pub returned-line-good : (s : Site) → s.line ≡ line → s.command ≡ c.command → IsRewrittenFor cs c (part text r.row.span) s
  returned-line-good s line_is command_is = record {
    no_head = λ own. e.of.known (sym (opens own) ∙ ap opened_by said.1);
    alike = ap kind is ∙ kept-kind line (subst (λ (l : List ℕ). is_indented l ≡ true) is (r.indented no-head e.of.some)) some-words ∙ ap kind (sym line_is);
    within = e.within;
    stands = inr e.of;
    reads = λ reads.
        subst (λ (k : Command). ReadBy (is_extended_block e.within) (words s.line) (rows e.within) k) (sym command_is)
        (subst (λ (l : List ℕ). ReadBy (is_extended_block e.within) (words l) (rows e.within) c.command) (sym line_is)
        (subst (λ (x : Bool). ReadBy x (words line) (rows e.within) c.command) (sym (not-extended e.within e.kind)) said.0));
    part = ap (λ (k : Command). part_in c.block k) command_is;
  }
