-- The last of the first lines is one of the others, as it was or written anew.
use Rattle.std.proofs.Common.{◌≡◌, ℕ, ◌+◌, ◌<◌, ◌≤◌, ◌==◌, ◌||◌, ◌⊎◌, inl, inr, not, Bool, true, false, Some, None}
use Rattle.std.proofs.Common.{List, [], ◌∷◌, ◌++◌, length, length-append, take, get_or, refl, sym, ap, subst, ◌∙◌, arith, append_assoc, Contains, MatchBool}
use Rattle.std.specs.Prelude.{slice_get, option_map, Ok, Err, Result}
use Rattle.std.proofs.lemmas.Bool.{eq-eqb, ne_eqb, not-true}
use Rattle.std.proofs.lemmas.Option.{same_Some, slice_get-map}
use Rattle.std.proofs.Math.Seq.{take-append_seam, drop-append_seam}
use Rattle.std.proofs.lemmas.List.Sums.{fold-append}
use Rattle.arc_base.proofs.Items as items
use Rattle.std.proofs.lemmas.List.Elements as elements
use Rattle.ios_lines.proofs.Rows.{stands_at}
use Rattle.arc_base.proofs.Items.{from_filter, Contains-head}
use Rattle.ios_lines.specs.Kinds.{kind, kind_at, after_line, is_inert, open_banner, IsHead}
use Rattle.ios_lines.specs.Reading.{block_after}
use Rattle.ios_lines.specs.Views.{Mark, mark_seen, seen, seen_in, open_block}
use Rattle.arc_base.specs.Words.{words}
use Rattle.ios_lines.specs.Changes.{replaced, MayReplaceAt}
use Rattle.ios_lines.specs.ChangeLaws.{IsPlaceOf}
use Rattle.ios_lines.proofs.ChangedTexts.{seen-at, open-after, no-banner-line, place-of}
use Rattle.ios_lines.proofs.Insertions.{opens-none}
use Rattle.ios_lines.proofs.Orphans.{stand-all}
use Rattle.ios_lines.proofs.Replacements.{changed-at, banner-replaced}
use Rattle.ios_lines.proofs.ViewRows.{kind-next}
use Rattle.ios_words.specs.declared.kinds.BlockKind.{BlockKind}
use Rattle.ios_words.specs.declared.kinds.BlockKind.TheVariants as kinds
use Rattle.ios_words.specs.declared.commands.Command.{Command}
use Rattle.ios_words.specs.declared.commands.Command.TheVariants.{ListLine, PrefixLine}
use Rattle.ios_words.specs.Commands.{is_extended_block, ReadBy}
use Rattle.ios_words.specs.Language.{rows}
use Rattle.ios_words.specs.Meanings.{give}
use Rattle.ios_words.specs.Readings.{read}
use Rattle.ios_words.specs.Rows.{Rule}
use Rattle.ios_config.specs.declared.commands.FileCommand.{FileCommand}
use Rattle.ios_config.specs.Commands.{opened_by}
use Rattle.ios_config.specs.Groups.{Part, Block, Lines, PrefixLines, part_in, part_of}
use Rattle.ios_config.specs.Inserted.{numbered_marks, command_marks, MarkOpens, IsMarkRead, Opened, command_at}
use Rattle.ios_config.specs.LineLists.{marks_in, AreCommandsIn}
use Rattle.ios_config.specs.ReplacedIn.{IsReplacedIn}
use Rattle.ios_config.proofs.AppendedLines.{numbered-at}
use Rattle.ios_config.proofs.InsertedLines.{zip-found, head-opens}
use Rattle.ios_config.proofs.LineLists.{command-spot}
use Rattle.ios_config.proofs.LinesBefore.{Rising, rising-from, rising-low}
use Rattle.ios_config.proofs.ReplacedIn.{replaced-in}
use Rattle.line_edit_laws.specs.Sites.{Site, says_other, IsRewrittenFor, IsOfBlock}
use Rattle.line_edit_laws.proofs.States.{State, AreLow, high-less}

-- a command of the old file has its part's name
pub renamed-old : (rename : Part → Part) (most : ℕ) → ((k : ℕ) → k ≤ most → rename (Block k) ≡ Block k) → ((name : List ℕ) → rename (Lines name) ≡ Lines name) →
    ((name : List ℕ) → rename (PrefixLines name) ≡ PrefixLines name) →
    (block : ℕ) (command : Command) → block ≤ most → rename (part_in block command) ≡ part_in block command
renamed-old rename most fixed lists prefixes block (ListLine name entry) low = lists name
renamed-old rename most fixed lists prefixes block (PrefixLine name number entry) low = prefixes name
renamed-old rename most fixed lists prefixes block _ low = fixed block low

module _ (most less key own : ℕ) (first : List (List ℕ)) (line : List ℕ) (others : List (List ℕ)) (alike : List FileCommand) (fewer : less ≤ most) where
  more : length (first ++ line ∷ []) ≡ length first + 1
  more = length-append first (line ∷ [])

  -- a line with no command
  pub shift-none : (front : List FileCommand) → State most key own (first ++ line ∷ []) front others alike → AreLow (length first) front → State less key own first front (line ∷ others) alike
  shift-none front s low = record {
    back = s.back;
    are = subst (λ (ls : List (List ℕ)). AreCommandsIn ls (front ++ s.back)) (append_assoc first (line ∷ []) others) s.are;
    low = low;
    high = high-less (length (first ++ line ∷ [])) (length first) s.back (let long = more in omega arith) s.high;
    rename = s.rename;
    same = s.same;
    fixed = λ k few. s.fixed k (omega arith);
    keyed = s.keyed;
    lists = s.lists;
    prefixes = s.prefixes;
    all = s.all;
    outside = ap open_banner (sym (append_assoc first (line ∷ []) others)) ∙ s.outside;
  }

  -- a line with its command
  pub shift-command : (front : List FileCommand) (c v : FileCommand) (s : State most key own (first ++ line ∷ []) (front ++ c ∷ []) others alike) →
      AreLow (length first) front → c.line ≡ length first + 1 →
      c.command ≡ v.command → part_of c ≡ s.rename (part_of v) → State less 0 0 first front (line ∷ others) (v ∷ alike)
  shift-command front c v s low number says part = record {
    back = c ∷ s.back;
    are = subst (λ (ls : List (List ℕ)). AreCommandsIn ls (front ++ c ∷ s.back)) (append_assoc first (line ∷ []) others)
        (subst (AreCommandsIn ((first ++ line ∷ []) ++ others)) (append_assoc front (c ∷ []) s.back) s.are);
    low = low;
    high = ((omega arith), high-less (length (first ++ line ∷ [])) (length first) s.back (let long = more in omega arith) s.high);
    rename = s.rename;
    same = s.same;
    fixed = λ k few. s.fixed k (omega arith);
    keyed = s.fixed 0 (omega arith);
    lists = s.lists;
    prefixes = s.prefixes;
    all = ((says, part), s.all);
    outside = ap open_banner (sym (append_assoc first (line ∷ []) others)) ∙ s.outside;
  }

-- what a line that says something leaves open
pub banner-more : (first : List (List ℕ)) (line : List ℕ) → open_banner first ≡ None → is_inert (kind line) ≡ false → open_banner (first ++ line ∷ []) ≡ None
banner-more first line banner says = fold-append after_line None first (line ∷ []) ∙ ap (λ b. after_line b line) banner ∙ opens-none (kind line) line (no-banner-line (kind line) says)

pub head-opens-block : (first : List (List ℕ)) (line : List ℕ) → open_banner first ≡ None → IsHead line → open_block (first ++ line ∷ []) ≡ length first + 1
head-opens-block first line banner is =
    let p = length first in
    let ls = first ++ line ∷ [] in
    let long : length ls ≡ p + 1 = length-append first (line ∷ []) in
    let whole : take (p + 1) ls ≡ ls = ap (λ (n : ℕ). take n ls) (sym long) ∙ take-all ls in
    let at : kind_at ls p ≡ kind line = kind-next ls p line [] None (drop-append_seam first (line ∷ [])) (sym (ap open_banner (take-append_seam first (line ∷ [])) ∙ banner)) in
    sym (ap open_block whole) ∙ open-after ls p (omega arith) ∙ ap (λ k. block_after k (p + 1) (open_block (take p ls))) (at ∙ is)
  where
    take-all : (xs : List (List ℕ)) → take (length xs) xs ≡ xs
    take-all [] = refl
    take-all (x ∷ xs) = ap (λ (r : List (List ℕ)). x ∷ r) (take-all xs)

-- the row of a command
pub record RowOf (lines : List (List ℕ)) (cs : List FileCommand) (c : FileCommand) : Type 0 where
  pub place : ℕ
  pub mark : Mark
  pub number : c.line ≡ place + 1
  pub at : slice_get (marks_in lines) place ≡ Some mark
  pub says : mark.inert ≡ false
  pub block : c.block ≡ mark.block
  pub told : IsPlaceOf lines place mark
  pub plain : is_inert (kind_at lines place) ≡ false
  pub texts : mark.words ≡ words (get_or lines place [])
  pub row : IsMarkRead (marks_in lines) (c.line, mark) c

pub row-of : (lines : List (List ℕ)) (cs : List FileCommand) (c : FileCommand) → AreCommandsIn lines cs → Contains cs c → RowOf lines cs c
row-of lines cs c are among =
    let marks = marks_in lines in
    let (l, there, r) = zip-found (IsMarkRead marks) (command_marks marks) cs c are.reads among in
    let (numbered, says) = from_filter (λ (x : ℕ × Mark). not x.1.inert) (numbered_marks marks) l there in
    let (place, number, at) = numbered-at 1 marks l.0 l.1 numbered in
    let spot = command-spot lines cs c are among in
    let row : c.line ≡ place + 1 = let line = r.line in omega arith in
    let same : spot.place ≡ place = let other = spot.line in omega arith in
    let low : place < length lines = subst (λ (n : ℕ). n < length lines) same spot.told.within in
    let inert : l.1.inert ≡ false = not-true l.1.inert says in
    record {
      place = place;
      mark = l.1;
      number = row;
      at = at;
      says = inert;
      block = r.block;
      told = (facts place l.1 at low inert).0;
      plain = (facts place l.1 at low inert).1;
      texts = (facts place l.1 at low inert).2;
      row = subst (λ (n : ℕ). IsMarkRead marks (n, l.1) c) (sym r.line) r;
    }
  where
    facts : (place : ℕ) (m : Mark) → slice_get (marks_in lines) place ≡ Some m → place < length lines → m.inert ≡ false →
        IsPlaceOf lines place m × (is_inert (kind_at lines place) ≡ false) × (m.words ≡ words (get_or lines place []))
    facts place m at low inert =
        let s = seen_in (place + 1) (get_or lines place []) (kind_at lines place) (open_block (take place lines)) in
        let same : mark_seen s ≡ m = same_Some (mark_seen s) m (sym (slice_get-map mark_seen (seen lines) place ∙ ap (option_map mark_seen) (seen-at lines place low)) ∙ at) in
        let plain : is_inert (kind_at lines place) ≡ false = ap (λ (n : Mark). n.inert) same ∙ inert in (
          subst (IsPlaceOf lines place) same (place-of lines place (stand-all lines are.no_orphan) low plain),
          plain,
          ap (λ (n : Mark). n.words) (sym same),
        )

-- words are read as one command
value-or : {A E : Type 0} → A → Result A E → A
value-or a (Ok x) = x
value-or a (Err e) = a

same-ok : {A E : Type 0} (a b : A) (x y : Result A E) → x ≡ Ok a → y ≡ Ok b → x ≡ y → a ≡ b
unfolding value-or
same-ok a b x y one two same = sym (ap (value-or a) one) ∙ ap (value-or a) same ∙ ap (value-or a) two

pub reads-once : (extended : Bool) (ws : List (List ℕ)) (rules : List Rule) (a b : Command) → ReadBy extended ws rules a → ReadBy extended ws rules b → a ≡ b
reads-once extended ws rules a b one two =
    let rule : one.rule ≡ two.rule = same_Some one.rule two.rule (sym one.first ∙ two.first) in
    let values : one.values ≡ two.values = same-ok one.values two.values (read extended ws one.rule) (read extended ws two.rule) one.complete two.complete (ap (read extended ws) rule) in
    one.gives ∙ (λ i. give (rule i).meaning (values i)) ∙ sym two.gives

-- a row opens one kind of block
pub opens-once : (marks : List Mark) (number : ℕ) (a b : BlockKind) → MarkOpens marks number a → MarkOpens marks number b → a ≡ b
opens-once marks number a b one two =
    let (place, at, there) = numbered-at 1 marks number one.head one.at_number in
    let (spot, on, here) = numbered-at 1 marks number two.head two.at_number in
    let same : place ≡ spot = omega arith in
    let head : one.head ≡ two.head = same_Some one.head two.head (sym there ∙ ap (slice_get marks) same ∙ here) in
    let reads : ReadBy false two.head.words (rows kinds.Top) one.command = subst (λ (m : Mark). ReadBy false m.words (rows kinds.Top) one.command) head one.reads in
    one.opens ∙ ap opened_by (reads-once false two.head.words (rows kinds.Top) one.command two.command reads two.reads) ∙ sym two.opens

-- two lists that are split at the command of one line
record SameSplit (front back : List FileCommand) (c : FileCommand) (f b : List FileCommand) (d : FileCommand) : Type 0 where
  fronts : f ≡ front
  backs : b ≡ back
  ones : d ≡ c

same-cons : (x y : FileCommand) (xs ys : List FileCommand) → x ∷ xs ≡ y ∷ ys → (x ≡ y) × (xs ≡ ys)
same-cons x y xs ys e = (cc, cc)

pub contains-middle : (front : List FileCommand) (c : FileCommand) (back : List FileCommand) → Contains (front ++ c ∷ back) c
contains-middle [] c back = Contains-head c back
contains-middle (x ∷ front) c back = items.Contains-tail x c (front ++ c ∷ back) (contains-middle front c back)

same-split : (n : ℕ) (front : List FileCommand) (c : FileCommand) (back f : List FileCommand) (d : FileCommand) (b : List FileCommand) →
    Rising n (front ++ c ∷ back) → front ++ c ∷ back ≡ f ++ d ∷ b → c.line ≡ d.line → SameSplit front back c f b d
same-split n [] c back [] d b up is line = let e = same-cons c d back b is in record { fronts = refl; backs = sym e.1; ones = sym e.0 }
same-split n [] c back (y ∷ f) d b up is line =
    let e = same-cons c y back (f ++ d ∷ b) is in
    let over = rising-low (c.line + 1) back d up.1 (subst (λ (l : List FileCommand). Contains l d) (sym e.1) (contains-middle f d b)) in
    absurd (omega arith)
same-split n (x ∷ front) c back [] d b up is line =
    let e = same-cons x d (front ++ c ∷ back) b is in
    let over = rising-low (x.line + 1) (front ++ c ∷ back) c up.1 (contains-middle front c back) in
    let same : x.line ≡ d.line = ap (λ (y : FileCommand). y.line) e.0 in
    absurd (omega arith)
same-split n (x ∷ front) c back (y ∷ f) d b up is line =
    let e = same-cons x y (front ++ c ∷ back) (f ++ d ∷ b) is in
    let deeper = same-split (x.line + 1) front c back f d b up.1 e.1 line in
    record { fronts = (let head = sym e.0 in λ i. head i ∷ deeper.fronts i); backs = deeper.backs; ones = deeper.ones }

module _ (known : List FileCommand) (most less : ℕ) (first : List (List ℕ)) (line : List ℕ) (others : List (List ℕ)) (alike front : List FileCommand) (c : FileCommand) (site : Site)
    (s : State most 0 0 (first ++ line ∷ []) (front ++ c ∷ []) others alike) (fewer : less ≤ most) (low : AreLow (length first) front) (number : c.line ≡ length first + 1) (block : c.block ≤ most)
    (banner : open_banner first ≡ None) (other : IsRewrittenFor known c line site) (earlier : (head : FileCommand) → Contains known head → head.line ≡ c.block → Contains front head) where
  abbrev p : ℕ
  p = length first

  abbrev text : List (List ℕ)
  text = first ++ line ∷ others

  abbrev cs : List FileCommand
  cs = front ++ c ∷ s.back

  are : AreCommandsIn text cs
  are = subst (λ (ls : List (List ℕ)). AreCommandsIn ls cs) (append_assoc first (line ∷ []) others) (subst (AreCommandsIn ((first ++ line ∷ []) ++ others)) (append_assoc front (c ∷ []) s.back) s.are)

  row : RowOf text cs c
  row = row-of text cs c are (contains-middle front c s.back)

  place-is : row.place ≡ p
  place-is = let one = row.number in omega arith

  at-place : slice_get (marks_in text) p ≡ Some row.mark
  at-place = subst (λ (n : ℕ). slice_get (marks_in text) n ≡ Some row.mark) place-is row.at

  no-head : row.mark.head ≡ false
  no-head = by row.mark.head refl
    where
      by : (b : Bool) → row.mark.head ≡ b → b ≡ false
      by false is = refl
      by true is = let own = row.told.own is in absurd (other.no_head (row.block ∙ own ∙ sym row.number))

  kind-is : kind_at text p ≡ kind line
  kind-is = kind-next text p line others None (drop-append_seam first (line ∷ others)) (sym (ap open_banner (take-append_seam first (line ∷ others)) ∙ banner))

  may : MayReplaceAt text p site.line
  may = record {
    within = let long = length-append first (line ∷ others) in omega arith;
    outside = ap open_banner (take-append_seam first (line ∷ others)) ∙ banner;
    no_banner = λ same. no-banner-line (kind line) (ap is_inert (sym kind-is) ∙ subst (λ (n : ℕ). is_inert (kind_at text n) ≡ false) place-is row.plain) (other.alike ∙ same);
    alike = kind-is ∙ other.alike;
  }

  r : IsReplacedIn text cs p row.mark site.line
  r = replaced-in text cs p row.mark site.line are may at-place row.says no-head

  parts : SameSplit front s.back c r.front r.back r.command
  parts = same-split 1 front c s.back r.front r.command r.back (rising-from (marks_in text) 1 (marks_in text) cs are.reads) r.split (number ∙ sym r.number)

  within-is : r.within ≡ other.within
  within-is = by other.stands
    where
      by : ((c.block ≡ 0) × (other.within ≡ kinds.Top)) ⊎ IsOfBlock known c other.within → r.within ≡ other.within
      by (inl (none, top)) =
          let at_top : (row.mark.head || (row.mark.block == 0)) ≡ true = ap (λ (h : Bool). h || (row.mark.block == 0)) no-head ∙ eq-eqb row.mark.block 0 (sym row.block ∙ none) in
          subst (λ (b : Bool). MatchBool b (r.within ≡ kinds.Top) (MarkOpens (marks_in text) row.mark.block r.within)) at_top r.stands ∙ sym top
      by (inr of) =
          let inside : (row.mark.head || (row.mark.block == 0)) ≡ false = ap (λ (h : Bool). h || (row.mark.block == 0)) no-head ∙ ne_eqb row.mark.block 0 (λ none. of.some (row.block ∙ none)) in
          let one : MarkOpens (marks_in text) row.mark.block r.within = subst (λ (b : Bool). MatchBool b (r.within ≡ kinds.Top) (MarkOpens (marks_in text) row.mark.block r.within)) inside r.stands in
          let opened : Opened cs row.mark.block other.within =
          record {
            head = of.head;
            among = elements.Contains-append_left front (c ∷ s.back) of.head (earlier of.head of.among of.number);
            line = of.number ∙ row.block;
            opens =
                of.opens;
            known = of.known;
          } in
          opens-once (marks_in text) row.mark.block r.within other.within one (head-opens (marks_in text) cs row.mark.block other.within are.reads opened)

  words-are : row.mark.words ≡ words line
  words-are = row.texts ∙ ap (λ (n : ℕ). words (get_or text n [])) place-is ∙ ap words (stands_at text p line others (drop-append_seam first (line ∷ others))).here

  reads-old : ReadBy (is_extended_block other.within) (words line) (rows other.within) c.command
  reads-old = subst (λ (k : Command). ReadBy (is_extended_block other.within) (words line) (rows other.within) k) (ap (λ (d : FileCommand). d.command) parts.ones)
      (subst (λ (ws : List (List ℕ)). ReadBy (is_extended_block other.within) ws (rows other.within) r.command.command) words-are
      (subst (λ (w : BlockKind). ReadBy (is_extended_block w) row.mark.words (rows w) r.command.command) within-is r.reads))

  reads-new : ReadBy (is_extended_block r.within) (words site.line) (rows r.within) site.command
  reads-new = subst (λ (w : BlockKind). ReadBy (is_extended_block w) (words site.line) (rows w) site.command) (sym within-is) (other.reads reads-old)

  replaced-is : replaced p site.line text ≡ first ++ site.line ∷ others
  replaced-is = changed-at p (λ _. site.line) first line others refl

  are-new : AreCommandsIn (first ++ site.line ∷ others) (front ++ says_other c site.command ∷ s.back)
  are-new =
      let all = r.other site.command reads-new in
      let same : r.front ++ command_at r.command.line r.command.block site.command ∷ r.back ≡ front ++ says_other c site.command ∷ s.back =
      (let fronts = parts.fronts in let ones = parts.ones in let backs = parts.backs in λ i. fronts i ++ record { line = (ones i).line; block = (ones i).block; command = site.command } ∷ backs i) in
      subst (λ (ls : List (List ℕ)). AreCommandsIn ls (front ++ says_other c site.command ∷ s.back)) replaced-is (subst (AreCommandsIn (replaced p site.line text)) same all)

  -- a line that is written anew, with its other command
  pub shift-written : State less 0 0 first front (site.line ∷ others) (says_other c site.command ∷ alike)
  shift-written = record {
    back = says_other c site.command ∷ s.back;
    are = are-new;
    low = low;
    high = ((omega arith), high-less (length (first ++ line ∷ [])) (length first) s.back (let long = length-append first (line ∷ []) in omega arith) s.high);
    rename = s.rename;
    same = s.same;
    fixed = λ k few. s.fixed k (omega arith);
    keyed = s.fixed 0 (omega arith);
    lists = s.lists;
    prefixes = s.prefixes;
    all = ((refl, sym (renamed-old s.rename most s.fixed s.lists s.prefixes c.block site.command block)), s.all);
    outside = ap open_banner (sym replaced-is) ∙ banner-replaced text p site.line may ∙ ap open_banner (sym (append_assoc first (line ∷ []) others)) ∙ s.outside;
  }
