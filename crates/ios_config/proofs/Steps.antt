-- One step of the reading of a file's lines.
use Rattle.std.proofs.Common.{◌≡◌, ℕ, ◌+◌, ◌<◌, List, [], ◌∷◌, ◌++◌, length, get_or, Some, false, true, sym, ◌∙◌, ap, subst}
use Rattle.std.specs.Prelude.{slice_get, Err}
use Rattle.std.specs.List.{AllZip}
use Rattle.std.proofs.lemmas.Option.{slice_get-get_or, slice_get_within, get_or_from_slice_get}
use Rattle.arc_base.proofs.Zips.{AllZip-append}
use Rattle.ios_lines.specs.declared.line.Lines.{Lines}
use Rattle.ios_lines.specs.declared.line.Line.{Line}
use Rattle.ios_lines.specs.Lines.{AreLinesOf, IsRow}
use Rattle.ios_words.specs.declared.kinds.BlockKind.{BlockKind}
use Rattle.ios_words.specs.Commands.{HasWordsIn}
use Rattle.ios_config.specs.declared.fault.ConfigFault.{ConfigFault}
use Rattle.ios_config.specs.declared.fault.ConfigFault.TheVariants.{Refused, Memory}
use Rattle.ios_config.specs.declared.commands.FileCommand.{FileCommand}
use Rattle.ios_config.specs.Commands.{IsReadAs, IsFaultOfFile}
use Rattle.ios_config.specs.Reading.{standing, open_after, IsCommandAt, IsReading}
use Rattle.ios_config.proofs.Opened.{lines_to, KnowsOpen, stands_within, knows_more, knows_same, is_read}
use Rattle.ios_config.proofs.Numbered.{lines_more, lines_same, lines_after, lines_split}

-- the line that a loop over the lines is at
pub at_place : (lines : Lines) (items : List Line) (n : ℕ) (r : Line) → items ≡ lines.rows → n < length items → r ≡ get_or items n r → slice_get lines.rows n ≡ Some r
at_place lines items n r same h is = ap (λ l. slice_get l n) (sym same) ∙ slice_get-get_or items n r h ∙ ap Some (sym is)

-- the words of each line lie in the text
pub has_words : (text : List ℕ) (lines : Lines) (n : ℕ) (r : Line) → AreLinesOf text lines → slice_get lines.rows n ≡ Some r → HasWordsIn text r
has_words text lines n r are at =
    subst (HasWordsIn text) (get_or_from_slice_get lines.rows n r r at) (are.inside n r (slice_get_within lines.rows n r at))

-- what is known after the first so many lines
pub record ReadsTo (text : List ℕ) (lines : Lines) (n : ℕ) (commands : List FileCommand) (current : BlockKind) : Type 0 where
  pub read : AllZip (IsReadAs text lines) (lines_to n lines) commands
  pub known : KnowsOpen text lines n current

module _ (text : List ℕ) (lines : Lines) (n : ℕ) (r : Line) (are : AreLinesOf text lines) (at : slice_get lines.rows n ≡ Some r)
    (commands : List FileCommand) (current : BlockKind) (before : ReadsTo text lines n commands current) where
  row : IsRow text n r
  row = are.rows n r at

  -- one more line that is a command
  pub reads_more : (c : FileCommand) → r.inert ≡ false → IsCommandAt text r (n + 1) (standing r current) c →
      ReadsTo text lines (n + 1) (commands ++ c ∷ []) (open_after r c.command current)
  reads_more c filled is = record {
    read = subst (λ l. AllZip (IsReadAs text lines) l (commands ++ c ∷ [])) (sym (lines_more lines n r at filled))
        (AllZip-append (IsReadAs text lines) (lines_to n lines) commands ((n + 1, r) ∷ []) (c ∷ []) before.read (is_read text lines n r row current before.known at c is, tt));
    known = knows_more text lines n r row current before.known at c.command filled is.reads;
  }

  -- one more line that says nothing
  pub reads_same : r.inert ≡ true → ReadsTo text lines (n + 1) commands current
  reads_same inert = record {
    read = subst (λ l. AllZip (IsReadAs text lines) l commands) (sym (lines_same lines n r at inert)) before.read;
    known = knows_same text lines n r row current before.known at inert;
  }

  -- the first line that is no command
  pub first_fault : (fault : ConfigFault) → r.inert ≡ false → IsReading text r (n + 1) (standing r current) (Err fault) → IsFaultOfFile text lines fault
  first_fault (Refused number kind) filled is =
      let P : ℕ → Type 0 = λ m. IsFaultOfFile text lines (Refused m kind) in
      subst P (sym is.0) (record {
        before = lines_to n lines;
        line = r;
        after = lines_after lines n r at;
        split = lines_split lines n r at filled;
        commands = commands;
        read = before.read;
        within = standing r current;
        stands = stands_within text lines n r row current before.known;
        fault = is.1;
      })
  first_fault Memory filled is = tt
