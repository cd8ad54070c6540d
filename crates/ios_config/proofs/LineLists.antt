-- The commands of a list of lines, and what a line more does to them.
use Rattle.std.proofs.Common.{◌≡◌, ◌≢◌, ℕ, ◌+◌, ◌<◌, ◌≤◌, ◌==◌, ◌||◌, not, true, false, List, [], length}
use Rattle.std.proofs.Common.{length-take-le, map, take, slice_get, get_or, Some, None, refl, sym, ap, subst, ◌∙◌, arith, Contains, MatchBool}
use Rattle.std.proofs.lemmas.Bool.{ne_eqb, not-true}
use Rattle.std.proofs.lemmas.List.{length-map}
use Rattle.std.proofs.lemmas.Option.{same_Some, slice_get-map, slice_get_within}
use Rattle.std.specs.Prelude.{option_map}
use Rattle.std.specs.List.{AllByRecursion}
use Rattle.arc_base.proofs.Items.{from_filter}
use Rattle.ios_lines.specs.Kinds.{is_head, is_inert, kind_at, open_banner}
use Rattle.ios_lines.specs.Reading.{block_after}
use Rattle.ios_lines.specs.Views.{Mark, mark_seen, seen, seen_in, open_block}
use Rattle.ios_lines.specs.Changes.{inserted, mark_moved, MayStandAt, seen_there, Insert}
use Rattle.ios_lines.specs.ChangeLaws.{IsPlaceOf}
use Rattle.ios_lines.proofs.ChangedTexts.{marks-change, place-of, seen-at, inner-may}
use Rattle.ios_lines.proofs.Insertions.{length-seen, moved-low, open-low}
use Rattle.ios_lines.proofs.Orphans.{NotAlone, orphans-inserted, stand-all}
use Rattle.ios_lines.proofs.ViewRows.{rows-are-seen}
use Rattle.ios_words.specs.declared.kinds.BlockKind.TheVariants as kinds
use Rattle.ios_config.specs.declared.commands.FileCommand.{FileCommand}
use Rattle.ios_config.specs.Inserted.{numbered_marks, command_marks, MarkOpens, IsMarkRead, AreMarksRead, Opened, command_moved, command_at, with_command}
use Rattle.ios_config.specs.LineLists.{marks_in, AreCommandsIn, CommandsAreOfLines, AnInnerLineIsIn, AHeadIsIn, ASingleLineIsIn, AClosingLineIsIn, ALineIsAppendedIn}
use Rattle.ios_config.proofs.AppendedLines.{numbered-at, CommandPlace, block-sets}
use Rattle.ios_config.proofs.InsertedCommands.{with-one, with-none, still-opens, marks-split}
use Rattle.ios_config.proofs.InsertedLines.{head-opens, zip-found}
use Rattle.ios_config.proofs.MarkCommands.{commands-of-marks}

pub commands-of-lines : CommandsAreOfLines
commands-of-lines text lines commands are =
    let same = rows-are-seen text lines are in
    let both = commands-of-marks text lines commands in
    (λ read. subst (λ (ms : List Mark). AreMarksRead ms commands) same (both.0 read), λ read. both.1 (subst (λ (ms : List Mark). AreMarksRead ms commands) (sym same) read))

long-marks : (lines : List (List ℕ)) → length (marks_in lines) ≡ length lines
long-marks lines = length-map (seen lines) mark_seen ∙ length-seen 0 None 0 lines

module _ (lines : List (List ℕ)) (commands : List FileCommand) (place : ℕ) (line : List ℕ) (are : AreCommandsIn lines commands) (may : MayStandAt lines place line) where
  abbrev m : Mark
  m = mark_seen (seen_there lines place line)

  marks-more : marks_in (inserted place line lines) ≡ inserted place m (map (mark_moved place) (marks_in lines))
  marks-more = marks-change (Insert place line) lines may

  within-marks : place ≤ length (marks_in lines)
  within-marks = let long = long-marks lines in let low = may.within in omega arith

  low-block : open_block (take place lines) ≤ place
  low-block = let low = open-low 0 None 0 (take place lines) (omega arith) in let long = length-take-le place lines may.within in omega arith

  add : m.inert ≡ false → (c : FileCommand) → IsMarkRead (marks_in (inserted place line lines)) (place + 1, m) c → AreCommandsIn (inserted place line lines) (with_command place c commands)
  add told c this = record {
    no_orphan = orphans-inserted lines place line may are.no_orphan;
    reads = with-one place m (marks_in lines) (marks_in (inserted place line lines)) commands within-marks marks-more are.reads told c this;
  }

  add-none : m.inert ≡ true → AreCommandsIn (inserted place line lines) (map (command_moved place) commands)
  add-none silent = record {
    no_orphan = orphans-inserted lines place line may are.no_orphan;
    reads = with-none place m (marks_in lines) (marks_in (inserted place line lines)) commands within-marks marks-more are.reads silent;
  }

pub inner-in : AnInnerLineIsIn
inner-in lines commands place line within command are may is o reads =
    let block = open_block (take place lines) in
    let some : block ≢ 0 = may.inner is in
    let after = marks_in (inserted place line lines) in
    let opens : MarkOpens after block within =
    subst (λ n. MarkOpens after n within) (moved-low place block (low-block lines commands place line are may))
    (still-opens place (m lines commands place line are may) (marks_in lines) after (marks-more lines commands place line are may) block within
    (head-opens (marks_in lines) commands block within are.reads o)) in
    add lines commands place line are may (ap is_inert is) (command_at (place + 1) block command) (record {
      line = refl;
      block = ap (λ k. block_after k (place + 1) block) (sym is);
      within = within;
      stands = subst (λ k. MatchBool (is_head k || (block_after k (place + 1) block == 0)) (within ≡ kinds.Top) (MarkOpens after (block_after k (place + 1) block) within)) (sym is)
          (subst (λ b. MatchBool b (within ≡ kinds.Top) (MarkOpens after block within)) (sym (ne_eqb block 0 some)) opens);
      reads = reads;
    })

pub head-in : AHeadIsIn
head-in lines commands place line command are may is reads =
    let block = open_block (take place lines) in
    let after = marks_in (inserted place line lines) in
    add lines commands place line are may (ap is_inert is) (command_at (place + 1) (place + 1) command) (record {
      line = refl;
      block = ap (λ k. block_after k (place + 1) block) (sym is);
      within = kinds.Top;
      stands = subst (λ k. MatchBool (is_head k || (block_after k (place + 1) block == 0)) (kinds.Top ≡ kinds.Top) (MarkOpens after (block_after k (place + 1) block) kinds.Top)) (sym is) refl;
      reads = reads;
    })

pub single-in : ASingleLineIsIn
single-in lines commands place line command are may is reads =
    let block = open_block (take place lines) in
    let after = marks_in (inserted place line lines) in
    add lines commands place line are may (ap is_inert is) (command_at (place + 1) 0 command) (record {
      line = refl;
      block = ap (λ k. block_after k (place + 1) block) (sym is);
      within = kinds.Top;
      stands = subst (λ k. MatchBool (is_head k || (block_after k (place + 1) block == 0)) (kinds.Top ≡ kinds.Top) (MarkOpens after (block_after k (place + 1) block) kinds.Top)) (sym is) refl;
      reads = reads;
    })

pub closing-in : AClosingLineIsIn
closing-in lines commands place line are may is = add-none lines commands place line are may (ap is_inert is)

spot-of : (lines : List (List ℕ)) (place : ℕ) (m : Mark) → AllByRecursion NotAlone (seen lines) → slice_get (marks_in lines) place ≡ Some m → m.inert ≡ false → IsPlaceOf lines place m
spot-of lines place m stand there says =
    let long = long-marks lines in
    let within = slice_get_within (marks_in lines) place m there in
    let low : place < length lines = omega arith in
    let s = seen_in (place + 1) (get_or lines place []) (kind_at lines place) (open_block (take place lines)) in
    let same : mark_seen s ≡ m = same_Some (mark_seen s) m (sym (slice_get-map mark_seen (seen lines) place ∙ ap (option_map mark_seen) (seen-at lines place low)) ∙ there) in
    subst (IsPlaceOf lines place) same (place-of lines place stand low (ap (λ (n : Mark). n.inert) same ∙ says))

pub command-spot : (lines : List (List ℕ)) (commands : List FileCommand) (c : FileCommand) → AreCommandsIn lines commands → Contains commands c → CommandPlace lines c
command-spot lines commands c are among =
    let marks = marks_in lines in
    let (l, there, r) = zip-found (IsMarkRead marks) (command_marks marks) commands c are.reads among in
    let (numbered, says) = from_filter (λ (x : ℕ × Mark). not x.1.inert) (numbered_marks marks) l there in
    let (place, number, at) = numbered-at 1 marks l.0 l.1 numbered in
    let row : c.line ≡ place + 1 = let line = r.line in omega arith in
    record { place = place; mark = l.1; line = row; block = r.block; told = spot-of lines place l.1 (stand-all lines are.no_orphan) at (not-true l.1.inert says) }

pub appended-in : ALineIsAppendedIn
appended-in lines commands head last within line command are b of =
    let place = last.line in
    let p = command-spot lines commands last are b.last_among in
    let row : p.place + 1 ≡ place = sym p.line in
    let low : p.place < length lines = p.told.within in
    let outside : open_banner (take place lines) ≡ None = ap (λ n. open_banner (take n lines)) (sym row) ∙ p.told.after in
    let block : open_block (take place lines) ≡ head.line = ap (λ n. open_block (take n lines)) (sym row) ∙ p.told.block ∙ sym p.block ∙ b.last_block in
    let some : open_block (take place lines) ≢ 0 = λ none. b.some (b.own ∙ sym block ∙ none) in
    let may : MayStandAt lines place line = inner-may lines place line (omega arith) outside some of.inner in
    let opened : Opened commands (open_block (take place lines)) within = record { head = head; among = b.among; line = sym block; opens = b.opens; known = b.known } in
    let added = inner-in lines commands place line within command are may of.inner opened of.reads in
    record {
      may = may;
      stands = subst (λ n. AreCommandsIn (inserted place line lines) (with_command place (command_at (place + 1) n command) commands)) block added;
      sets = block-sets commands head last within line command b of (marks-split (marks_in lines) commands place are.reads);
    }
