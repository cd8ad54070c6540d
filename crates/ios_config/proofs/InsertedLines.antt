-- The commands of a text into which a line is inserted, by the kind of the line.
use Rattle.std.proofs.Common.{◌≡◌, ◌≢◌, ℕ, ◌+◌, ◌≤◌, ◌==◌, ◌||◌, not, true, List, [], ◌∷◌, length, length-take-le, map, take, None, refl, sym, ap, subst, ◌∙◌, arith, ⊎_elim, Contains, MatchBool}
use Rattle.std.proofs.lemmas.Bool.{ne_eqb}
use Rattle.std.proofs.lemmas.List.{length-map}
use Rattle.std.specs.List.{AllZip}
use Rattle.arc_base.proofs.Items.{Contains-cases, Contains-none, Contains-head, Contains-tail, from_filter}
use Rattle.ios_lines.specs.declared.line.Lines.{Lines}
use Rattle.ios_lines.specs.Texts.{text_lines}
use Rattle.ios_lines.specs.Kinds.{is_head, is_inert}
use Rattle.ios_lines.specs.Reading.{block_after}
use Rattle.ios_lines.specs.Views.{Mark, line_marks, mark_seen, open_block}
use Rattle.ios_lines.specs.Changes.{inserted, mark_moved, seen_there}
use Rattle.ios_lines.proofs.ChangedTexts.{an-inserted-line as line-stands}
use Rattle.ios_lines.proofs.Insertions.{moved-low, open-low}
use Rattle.ios_words.specs.declared.kinds.BlockKind.{BlockKind}
use Rattle.ios_words.specs.declared.kinds.BlockKind.TheVariants as kinds
use Rattle.ios_words.specs.declared.commands.Command.{Command}
use Rattle.ios_words.specs.declared.commands.Command.TheVariants as commands
use Rattle.ios_words.specs.Laws.{heads_block}
use Rattle.ios_words.proofs.Heads.{heads-top}
use Rattle.ios_config.specs.declared.commands.FileCommand.{FileCommand}
use Rattle.ios_config.specs.Commands.{opened_by}
use Rattle.ios_config.specs.Inserted.{numbered_marks, command_marks, MarkOpens, IsMarkRead, AreMarksRead, HasOneMore, command_at}
use Rattle.ios_config.specs.Inserted.{IsPut, HaveLines, Opened, AnInnerLineAddsItsCommand, AHeadAddsItsCommand, ASingleLineAddsItsCommand, AClosingLineAddsNone}
use Rattle.ios_config.proofs.MarkCommands.{commands-of-marks}
use Rattle.ios_config.proofs.InsertedCommands.{an-inert-line, an-inserted-line, still-opens}

-- a command that heads a block that is read
opens-heads : (command : Command) → (opened_by command ≡ kinds.Inert → ⊥) → heads_block command ≡ true
opens-heads (commands.Interface name) opens = refl
opens-heads (commands.RouterOspf number) opens = refl
opens-heads (commands.RouterBgp number) opens = refl
opens-heads (commands.ListBlock extended name) opens = refl
opens-heads _ opens = absurd (opens refl)

-- what goes with an item of the second list
pub zip-found : {A B : Type 0} → (R : A → B → Type 0) (xs : List A) (ys : List B) (y : B) → AllZip R xs ys → Contains ys y → (x : A) × Contains xs x × R x y
zip-found R [] [] y all has = absurd (Contains-none y has)
zip-found R [] (z ∷ ys) y all has = absurd all
zip-found R (x ∷ xs) [] y all has = absurd all
zip-found R (x ∷ xs) (z ∷ ys) y all has = ⊎_elim
    (λ here. (x, Contains-head x xs, subst (R x) here all.0))
    (λ later. let found = zip-found R xs ys y all.1 later in (found.0, Contains-tail x found.0 xs found.1, found.2))
    (Contains-cases z y ys has)

-- the row of a command that heads a block opens it
pub head-opens : (marks : List Mark) (commands : List FileCommand) (block : ℕ) (within : BlockKind) → AreMarksRead marks commands → Opened commands block within → MarkOpens marks block within
head-opens marks commands block within read o =
    let (l, among, is) = zip-found (IsMarkRead marks) (command_marks marks) commands o.head read o.among in
    let there = (from_filter (λ (x : ℕ × Mark). not x.1.inert) (numbered_marks marks) l among).0 in
    let number : l.0 ≡ block = sym is.line ∙ o.line in
    record {
      head = l.1;
      at_number = subst (λ (n : ℕ). Contains (numbered_marks marks) (n, l.1)) number there;
      command = o.head.command;
      reads = heads-top is.within l.1.words o.head.command is.reads (opens-heads o.head.command (λ inert. o.known (sym o.opens ∙ inert)));
      opens = sym o.opens;
    }

module _ (old new : List ℕ) (lines more : Lines) (commands : List FileCommand) (place : ℕ) (line : List ℕ) (put : IsPut old new place line) (have : HaveLines old new lines more commands) where
  abbrev m : Mark
  m = mark_seen (seen_there (text_lines old) place line)

  rows-more : line_marks new more ≡ inserted place m (map (mark_moved place) (line_marks old lines))
  rows-more = (line-stands old new place line put.may put.new_lines put.cut).rows lines more have.old_lines have.new_lines

  one-more : HasOneMore old new lines more place m
  one-more =
      let long : length (line_marks old lines) ≡ length (text_lines old) = length-map lines.rows _ ∙ sym (length-map lines.rows _) ∙ ap length have.old_lines.texts in
      record { within = subst (λ n. place ≤ n) (sym long) put.may.within; rows = rows-more }

  read-old : AreMarksRead (line_marks old lines) commands
  read-old = (commands-of-marks old lines commands).0 have.reads

  block-low : open_block (take place (text_lines old)) ≤ place
  block-low = let low = open-low 0 None 0 (take place (text_lines old)) (omega arith) in let long = length-take-le place (text_lines old) put.may.within in omega arith

pub inner-adds : AnInnerLineAddsItsCommand
inner-adds old new lines more commands place line within command put have is o reads =
    let block = open_block (take place (text_lines old)) in
    let some : block ≢ 0 = put.may.inner is in
    let low = block-low old new lines more commands place line put have in
    let one = one-more old new lines more commands place line put have in
    let opens : MarkOpens (line_marks new more) block within =
    subst (λ n. MarkOpens (line_marks new more) n within) (moved-low place block low) (still-opens place (m old new lines more commands place line put have)
    (line_marks old lines) (line_marks new more) one.rows block within
    (head-opens (line_marks old lines) commands block within (read-old old new lines more commands place line put have) o)) in
    an-inserted-line old new lines more place (m old new lines more commands place line put have) (command_at (place + 1) block command) commands one
    (ap is_inert is) (record {
      line = refl;
      block = ap (λ k. block_after k (place + 1) block) (sym is);
      within = within;
      stands = subst (λ k. MatchBool (is_head k || (block_after k (place + 1) block == 0)) (within ≡ kinds.Top) (MarkOpens (line_marks new more) (block_after k (place + 1) block) within)) (sym is)
          (subst (λ b. MatchBool b (within ≡ kinds.Top) (MarkOpens (line_marks new more) block within)) (sym (ne_eqb block 0 some)) opens);
      reads = reads;
    }) have.reads

pub head-adds : AHeadAddsItsCommand
head-adds old new lines more commands place line command put have is reads =
    let block = open_block (take place (text_lines old)) in
    let one = one-more old new lines more commands place line put have in
    an-inserted-line old new lines more place (m old new lines more commands place line put have) (command_at (place + 1) (place + 1) command) commands one
    (ap is_inert is) (record {
      line = refl;
      block = ap (λ k. block_after k (place + 1) block) (sym is);
      within = kinds.Top;
      stands = subst (λ k. MatchBool (is_head k || (block_after k (place + 1) block == 0)) (kinds.Top ≡ kinds.Top)
          (MarkOpens (line_marks new more) (block_after k (place + 1) block) kinds.Top)) (sym is) refl;
      reads = reads;
    }) have.reads

pub single-adds : ASingleLineAddsItsCommand
single-adds old new lines more commands place line command put have is reads =
    let block = open_block (take place (text_lines old)) in
    let one = one-more old new lines more commands place line put have in
    an-inserted-line old new lines more place (m old new lines more commands place line put have) (command_at (place + 1) 0 command) commands one
    (ap is_inert is) (record {
      line = refl;
      block = ap (λ k. block_after k (place + 1) block) (sym is);
      within = kinds.Top;
      stands = subst (λ k. MatchBool (is_head k || (block_after k (place + 1) block == 0)) (kinds.Top ≡ kinds.Top)
          (MarkOpens (line_marks new more) (block_after k (place + 1) block) kinds.Top)) (sym is) refl;
      reads = reads;
    }) have.reads

pub closing-adds : AClosingLineAddsNone
closing-adds old new lines more commands place line put have is =
    an-inert-line old new lines more place (m old new lines more commands place line put have) commands (one-more old new lines more commands place line put have) (ap is_inert is) have.reads
