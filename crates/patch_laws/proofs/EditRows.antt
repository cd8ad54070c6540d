-- The row of a command, and where it is read.
use Rattle.std.proofs.Common.{◌≡◌, ◌≢◌, ℕ, zero, suc, ◌+◌, ◌==◌, ◌||◌, ◌⊎◌, inl, inr, Bool, true, false, Some, List, [], ◌∷◌, get_or, map, refl, sym, ap, subst, ◌∙◌, Contains}
use Rattle.std.proofs.Common.{MatchBool}
use Rattle.std.specs.Prelude.{slice_get, option_map}
use Rattle.std.proofs.lemmas.Bool.{eq-eqb, ne_eqb}
use Rattle.std.proofs.lemmas.Option.{get_or_from_slice_get, none-some, same_Some, slice_get-map}
use Rattle.ios_lines.specs.declared.line.Line.{Line}
use Rattle.ios_lines.specs.declared.line.Lines.{Lines}
use Rattle.ios_lines.specs.Kinds.{is_indented}
use Rattle.ios_lines.specs.Lines.{AreLinesOf}
use Rattle.ios_lines.specs.Texts.{part, text_lines}
use Rattle.ios_lines.specs.Views.{Mark, mark_of}
use Rattle.ios_lines.proofs.ViewRows.{rows-are-seen}
use Rattle.ios_words.specs.declared.kinds.BlockKind.{BlockKind}
use Rattle.ios_words.specs.declared.kinds.BlockKind.TheVariants as kinds
use Rattle.ios_words.specs.Commands.{is_extended_block, ReadBy}
use Rattle.ios_words.specs.Language.{rows}
use Rattle.ios_config.specs.declared.commands.FileCommand.{FileCommand}
use Rattle.ios_config.specs.Inserted.{MarkOpens, Opened}
use Rattle.ios_config.specs.LineLists.{marks_in, AreCommandsIn}
use Rattle.ios_config.proofs.InsertedLines.{head-opens}
use Rattle.line_edit_laws.specs.Sites.{IsOfBlock}
use Rattle.line_edit_laws.proofs.Shifts.{RowOf, row-of, opens-once}
use Rattle.patch_laws.proofs.FileParts.{one-line, rising}
use Rattle.patch_laws.proofs.ReturnedLines.{row-indented}

-- two commands of one line are one
pub one-command : (lines : List (List ℕ)) (cs : List FileCommand) (c d : FileCommand) → AreCommandsIn lines cs → Contains cs c → Contains cs d → c.line ≡ d.line → c ≡ d
one-command lines cs c d are one two line = one-line 1 cs c d (rising lines cs are) one two line

-- an item of a list that a map leaves at a place
pub mapped-at : {X Y : Type 0} (f : X → Y) (xs : List X) (k : ℕ) (y : Y) → slice_get (map f xs) k ≡ Some y → (x : X) × (slice_get xs k ≡ Some x) × (f x ≡ y)
mapped-at f [] k y at = absurd (none-some y at)
mapped-at f (x ∷ xs) zero y at = (x, refl, same_Some (f x) y at)
mapped-at f (x ∷ xs) (suc k) y at = mapped-at f xs k y at

-- the row of a command, with what it says where it is read
pub record CommandRow (text : List ℕ) (lines : Lines) (cs : List FileCommand) (c : FileCommand) : Type 0 where
  pub place : ℕ
  pub row : Line
  pub at : slice_get lines.rows place ≡ Some row
  pub number : c.line ≡ place + 1
  pub block : c.block ≡ row.block
  pub says : row.inert ≡ false
  pub own : row.head ≡ true → c.block ≡ c.line
  pub heads : row.head ≡ true → ReadBy false (map (part text) row.words) (rows kinds.Top) c.command
  pub indented : row.head ≡ false → c.block ≢ 0 → is_indented (part text row.span) ≡ true
  pub read : (within : BlockKind) → row.head ≡ false → ((c.block ≡ 0) × (within ≡ kinds.Top)) ⊎ IsOfBlock cs c within →
      ReadBy (is_extended_block within) (map (part text) row.words) (rows within) c.command

pub command-row : (text : List ℕ) (lines : Lines) (cs : List FileCommand) (c : FileCommand) → AreLinesOf text lines → AreCommandsIn (text_lines text) cs → Contains cs c → CommandRow text lines cs c
command-row text lines cs c are stand among =
    let r = row-of (text_lines text) cs c stand among in
    let (row, at, mark) = mapped-at (mark_of text) lines.rows r.place r.mark (ap (λ (ms : List Mark). slice_get ms r.place) (rows-are-seen text lines are) ∙ r.at) in
    record {
      place = r.place;
      row = row;
      at = at;
      number = r.number;
      block = r.block ∙ ap (λ (m : Mark). m.block) (sym mark);
      says = ap (λ (m : Mark). m.inert) mark ∙ r.says;
      own = λ heads. r.block ∙ r.told.own (ap (λ (m : Mark). m.head) (sym mark) ∙ heads) ∙ sym r.number;
      heads = λ heads.
          let head : r.mark.head ≡ true = ap (λ (m : Mark). m.head) (sym mark) ∙ heads in
          let top : r.row.within ≡ kinds.Top =
          subst (λ (b : Bool). MatchBool b (r.row.within ≡ kinds.Top) (MarkOpens (marks_in (text_lines text)) r.mark.block r.row.within))
          (ap (λ (h : Bool). h || (r.mark.block == 0)) head) r.row.stands in
          subst (λ (ws : List (List ℕ)). ReadBy false ws (rows kinds.Top) c.command) (ap (λ (m : Mark). m.words) (sym mark))
          (subst (λ (w : BlockKind). ReadBy (is_extended_block w) r.mark.words (rows w) c.command) top r.row.reads);
      indented = λ no_head some.
          let headless : r.mark.head ≡ false = ap (λ (m : Mark). m.head) (sym mark) ∙ no_head in
          let shown : get_or (text_lines text) r.place [] ≡ part text row.span =
          ap (λ (ls : List (List ℕ)). get_or ls r.place []) (sym are.texts) ∙
          get_or_from_slice_get (map (λ (l : Line). part text l.span) lines.rows) r.place (part text row.span) []
          (slice_get-map (λ (l : Line). part text l.span) lines.rows r.place ∙ ap (option_map (λ (l : Line). part text l.span)) at) in
          subst (λ (l : List ℕ). is_indented l ≡ true) shown (row-indented (text_lines text) cs c r headless (λ none. some (r.block ∙ none)));
      read = λ within no_head where_it.
          let headless : r.mark.head ≡ false = ap (λ (m : Mark). m.head) (sym mark) ∙ no_head in
          let same : r.row.within ≡ within = within-is r headless within where_it in
          subst (λ (ws : List (List ℕ)). ReadBy (is_extended_block within) ws (rows within) c.command) (ap (λ (m : Mark). m.words) (sym mark))
          (subst (λ (w : BlockKind). ReadBy (is_extended_block w) r.mark.words (rows w) c.command) same r.row.reads);
    }
  where
    within-is : (r : RowOf (text_lines text) cs c) → r.mark.head ≡ false → (within : BlockKind) → ((c.block ≡ 0) × (within ≡ kinds.Top)) ⊎ IsOfBlock cs c within → r.row.within ≡ within
    within-is r no_head within (inl (none, top)) =
        let at_top : (r.mark.head || (r.mark.block == 0)) ≡ true = ap (λ (h : Bool). h || (r.mark.block == 0)) no_head ∙ eq-eqb r.mark.block 0 (sym r.block ∙ none) in
        subst (λ (b : Bool). MatchBool b (r.row.within ≡ kinds.Top) (MarkOpens (marks_in (text_lines text)) r.mark.block r.row.within)) at_top r.row.stands ∙ sym top
    within-is r no_head within (inr of) =
        let inside : (r.mark.head || (r.mark.block == 0)) ≡ false = ap (λ (h : Bool). h || (r.mark.block == 0)) no_head ∙ ne_eqb r.mark.block 0 (λ none. of.some (r.block ∙ none)) in
        let one : MarkOpens (marks_in (text_lines text)) r.mark.block r.row.within =
        subst (λ (b : Bool). MatchBool b (r.row.within ≡ kinds.Top) (MarkOpens (marks_in (text_lines text)) r.mark.block r.row.within)) inside r.row.stands in
        let opened : Opened cs r.mark.block within = record { head = of.head; among = of.among; line = of.number ∙ r.block; opens = of.opens; known = of.known } in
        opens-once (marks_in (text_lines text)) r.mark.block r.row.within within one (head-opens (marks_in (text_lines text)) cs r.mark.block within stand.reads opened)
