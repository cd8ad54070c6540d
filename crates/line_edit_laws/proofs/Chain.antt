-- Lines with good edits at their commands, one line after another.
use Rattle.std.proofs.Common.{◌≡◌, ◌≢◌, ℕ, ◌+◌, ◌<◌, ◌≤◌, ◌==◌, ◌⊎◌, inl, inr, Bool, true, false, cond, None, List, []}
use Rattle.std.proofs.Common.{◌∷◌, ◌++◌, length, length-append, take, map, refl, sym, ap, subst, ◌∙◌, arith, ⊎_elim, append_assoc, append-nil, Contains, IsTrue, MatchBool}
use Rattle.std.specs.List.{AllByRecursion, flat_map}
use Rattle.std.proofs.lemmas.Bool.{eqb-true, eqb-false}
use Rattle.std.proofs.Math.Seq.{take-append_seam, drop-append_seam}
use Rattle.std.proofs.lemmas.List.Elements as elements
use Rattle.arc_base.proofs.Items.{Contains-cases}
use Rattle.ios_lines.specs.Kinds.{kind, kind_at, closes, is_inert, open_banner, IsInner}
use Rattle.ios_lines.specs.Views.{open_block}
use Rattle.arc_base.specs.Words.{words}
use Rattle.ios_lines.proofs.Insertions.{open-low}
use Rattle.ios_lines.proofs.ViewRows.{kind-next}
use Rattle.ios_words.specs.declared.kinds.BlockKind.{BlockKind}
use Rattle.ios_words.specs.declared.kinds.BlockKind.TheVariants as kinds
use Rattle.ios_words.specs.declared.commands.Command.{Command}
use Rattle.ios_words.specs.Commands.{is_extended_block, ReadBy}
use Rattle.ios_words.specs.Language.{rows}
use Rattle.ios_config.specs.declared.commands.FileCommand.{FileCommand}
use Rattle.ios_config.specs.Commands.{opened_by}
use Rattle.ios_config.specs.Groups.{Block, part_in}
use Rattle.ios_config.specs.Inserted.{command_at}
use Rattle.ios_config.specs.LineLists.{marks_in, AreCommandsIn}
use Rattle.ios_config.proofs.AppendedLines.{part-head}
use Rattle.ios_config.proofs.HeadsFirst.{block-low}
use Rattle.ios_config.proofs.LineLists.{command-spot}
use Rattle.ios_config.proofs.LinesBefore.{Rising, rising-from, rising-low, rising-lower}
use Rattle.line_edit_laws.specs.Laws.{EditedLinesAreRead}
use Rattle.line_edit_laws.specs.Sites.{Written, Chunk, Single as SingleLine, NewBlock, Site, bytes_of, chunk_lines, site_lines, in_block, chunk_commands, says_other}
use Rattle.line_edit_laws.specs.Sites.{own_commands, site_commands, new_lines, new_commands, IsInnerOf, IsEntryOf, IsBlockLine, IsNewBlock, AreChunks, IsRewrittenFor, IsGood, AreGood}
use Rattle.line_edit_laws.proofs.Alike.{config-alike, once-alike}
use Rattle.line_edit_laws.proofs.States as states
use Rattle.line_edit_laws.proofs.States.{State, AreLow, Closes, kept-fixed, kept-key, put-inner, put-single, put-closing, put-head, low-more}
use Rattle.line_edit_laws.proofs.Shifts.{RowOf, row-of, contains-middle, renamed-old, shift-none, shift-command, shift-written, banner-more, head-opens-block}

-- the written line is one of the open block of this number, which is that of another number here
pub record IsHere (front : List FileCommand) (block here : ℕ) (w : Written) : Type 0 where
  pub within : BlockKind
  pub head : FileCommand
  pub among : Contains front head
  pub number : head.line ≡ block
  pub opens : opened_by head.command ≡ within
  pub known : within ≢ kinds.Inert
  pub inner : IsInner w.line
  pub reads : ReadBy (is_extended_block within) (words w.line) (rows within) w.command
  pub part : part_in block w.command ≡ Block block
  pub part_here : part_in here w.command ≡ Block here

module _ (most key own : ℕ) (first : List (List ℕ)) (front : List FileCommand) (block here : ℕ) (few : most ≤ length first) (own_low : own ≤ length first)
    (banner : open_banner first ≡ None) (is_open : open_block first ≡ block) (some : block ≢ 0) (told : ((here ≡ block) × (here ≤ most)) ⊎ ((here ≡ key) × (block ≡ own))) where
  -- several lines of the block
  pub put-inners : (ws : List Written) (others : List (List ℕ)) (alike : List FileCommand) → AllByRecursion (IsHere front block here) ws → State most key own first front others alike →
      State most key own first front (bytes_of ws ++ others) (map (in_block here) ws ++ alike)
  put-inners [] others alike all s = s
  put-inners (w ∷ ws) others alike all s =
      let rest = put-inners ws others alike all.1 s in
      let one = all.0 in
      put-inner most key own first front (bytes_of ws ++ others) (map (in_block here) ws ++ alike) rest few own_low w block here one.within one.head banner is_open some one.among
      one.number one.opens one.known one.inner one.reads one.part one.part_here
      (⊎_elim
      (λ (fixed : (here ≡ block) × (here ≤ most)). kept-fixed most key own first front (bytes_of ws ++ others) (map (in_block here) ws ++ alike) rest few own_low here fixed.1 ∙ ap Block fixed.0)
      (λ (keyed : (here ≡ key) × (block ≡ own)).
      ap (λ (k : ℕ). states.kept most key own first front (bytes_of ws ++ others) (map (in_block here) ws ++ alike) rest few own_low (Block k)) keyed.0 ∙
      kept-key most key own first front (bytes_of ws ++ others) (map (in_block here) ws ++ alike) rest few own_low ∙ ap Block (sym keyed.1))
      told)

module _ (first : List (List ℕ)) (front : List FileCommand) (banner : open_banner first ≡ None) (low : AreLow (length first) front) where
  abbrev p : ℕ
  p = length first

  -- a new block
  put-block : (most : ℕ) → most ≤ p → (number : ℕ) → most ≤ number →
      (key : ℕ) (head : Written) (rest : List Written) (close : List ℕ) (others : List (List ℕ)) (alike : List FileCommand) →
      IsNewBlock number alike key head rest close → Closes others → State most 0 0 first front others alike →
      State most 0 0 first front (chunk_lines (NewBlock key head rest close) ++ others) (chunk_commands (NewBlock key head rest close) ++ alike)
  put-block most few number under key head rest close others alike is closes_it s =
      let high : most < key = let up = is.high in omega arith in
      let part = λ (b : ℕ). part-head b head.command is.within is.opens is.known in
      let first_more : List (List ℕ) = first ++ head.line ∷ [] in
      let c : FileCommand = command_at (p + 1) (p + 1) head.command in
      let front_more : List FileCommand = front ++ c ∷ [] in
      let more : length first_more ≡ p + 1 = length-append first (head.line ∷ []) in
      let few_more : most ≤ length first_more = omega arith in
      let own_low : p + 1 ≤ length first_more = omega arith in
      let banner_more : open_banner first_more ≡ None = banner-more first head.line banner (ap is_inert is.heads) in
      let begun : State most key (p + 1) first_more front_more others alike =
      put-head most 0 0 first front others alike s few (omega arith) head key is.within banner closes_it is.heads is.reads (part (p + 1)) high is.fresh in
      let closed : State most key (p + 1) first_more front_more (close ∷ others) alike =
      put-closing most key (p + 1) first_more front_more others alike begun few_more own_low close banner_more closes_it is.closes in
      let filled : State most key (p + 1) first_more front_more (bytes_of rest ++ close ∷ others) (map (in_block key) rest ++ alike) =
      put-inners most key (p + 1) first_more front_more (p + 1) key few_more own_low banner_more (head-opens-block first head.line banner is.heads)
      (λ (none : p + 1 ≡ 0). omega arith) (inr (refl, refl)) rest (close ∷ others) alike
      (here-all rest is.lines) closed in
      let whole : State most 0 0 first front (head.line ∷ (bytes_of rest ++ close ∷ others)) (in_block key head ∷ (map (in_block key) rest ++ alike)) =
      shift-command most most key (p + 1) first head.line (bytes_of rest ++ close ∷ others) (map (in_block key) rest ++ alike) (omega arith) front c (in_block key head) filled low refl refl
      (part (p + 1) ∙ sym filled.keyed ∙ ap filled.rename (sym (part key))) in
      subst (λ (ls : List (List ℕ)). State most 0 0 first front (head.line ∷ ls) (in_block key head ∷ (map (in_block key) rest ++ alike)))
      (sym (append_assoc (bytes_of rest) (close ∷ []) others)) whole
    where
      here-all : (ws : List Written) → AllByRecursion (IsBlockLine is.within) ws →
          AllByRecursion (IsHere (front ++ command_at (length first + 1) (length first + 1) head.command ∷ []) (length first + 1) key) ws
      here-all [] all = tt
      here-all (w ∷ ws) all = (
        record {
          within = is.within;
          head = command_at (length first + 1) (length first + 1) head.command;
          among = contains-middle front (command_at (length first + 1) (length first + 1) head.command) [];
          number = refl;
          opens = is.opens;
          known = is.known;
          inner = all.0.inner;
          reads = all.0.reads;
          part = all.0.part (length first + 1);
          part_here = all.0.part key;
        },
        here-all ws all.1,
      )

  -- the chunks before a top line, which leave one that closes a block
  record Topped (most : ℕ) (others : List (List ℕ)) (alike : List FileCommand) : Type 0 where
    state : State most 0 0 first front others alike
    closes_it : Closes others

  put-tops : (most : ℕ) → most ≤ p → (number : ℕ) → most ≤ number → (ts : List Chunk) (others : List (List ℕ)) (alike : List FileCommand) → AreChunks number alike ts → Topped most others alike →
      Topped most (flat_map chunk_lines ts ++ others) (flat_map chunk_commands ts ++ alike)
  put-tops most few number under [] others alike all t = t
  put-tops most few number under (SingleLine w ∷ ts) others alike all t =
      let rest = put-tops most few number under ts others alike all.1 t in
      record {
        state = put-single most 0 0 first front (flat_map chunk_lines ts ++ others) (flat_map chunk_commands ts ++ alike) rest.state few
            (omega arith) w all.0.name banner rest.closes_it all.0.single all.0.reads all.0.part;
        closes_it = ap closes all.0.single;
      }
  put-tops most few number under (NewBlock key head inner close ∷ ts) others alike all t =
      let rest = put-tops most few number under ts others alike all.1 t in
      let one = put-block most few number under key head inner close (flat_map chunk_lines ts ++ others) (flat_map chunk_commands ts ++ alike) all.0 rest.closes_it rest.state in
      let lines : chunk_lines (NewBlock key head inner close) ++ (flat_map chunk_lines ts ++ others) ≡ (chunk_lines (NewBlock key head inner close) ++ flat_map chunk_lines ts) ++ others =
      sym (append_assoc (chunk_lines (NewBlock key head inner close)) (flat_map chunk_lines ts) others) in
      let says : chunk_commands (NewBlock key head inner close) ++ (flat_map chunk_commands ts ++ alike) ≡ (chunk_commands (NewBlock key head inner close) ++ flat_map chunk_commands ts) ++ alike =
      sym (append_assoc (chunk_commands (NewBlock key head inner close)) (flat_map chunk_commands ts) alike) in
      record {
        state = subst (State most 0 0 first front ((chunk_lines (NewBlock key head inner close) ++ flat_map chunk_lines ts) ++ others)) says
            (subst (λ (ls : List (List ℕ)). State most 0 0 first front ls (chunk_commands (NewBlock key head inner close) ++ (flat_map chunk_commands ts ++ alike))) lines one);
        closes_it = ap closes all.0.heads;
      }

-- the site of one command, where the lines after it have theirs
module _ (known : List FileCommand) (put : FileCommand → Site) (first : List (List ℕ)) (line : List ℕ) (ls : List (List ℕ)) (front : List FileCommand) (c : FileCommand) (ds : List FileCommand)
    (are : AreCommandsIn (first ++ line ∷ ls) (front ++ c ∷ ds)) (whole : known ≡ front ++ c ∷ ds) (low : AreLow (length first) front) (rising : Rising (length first + 1) (c ∷ ds))
    (number : c.line ≡ length first + 1)
    (good : IsGood known c line (put c) (new_commands put ds)) where
  abbrev edge : ℕ
  edge = length first

  abbrev site : Site
  site = put c

  abbrev text : List (List ℕ)
  text = first ++ line ∷ ls

  row : RowOf text (front ++ c ∷ ds) c
  row = row-of text (front ++ c ∷ ds) c are (contains-middle front c ds)

  place-is : row.place ≡ edge
  place-is = let one = row.number in omega arith

  prefix : take edge text ≡ first
  prefix = take-append_seam first (line ∷ ls)

  prefix-more : take (edge + 1) text ≡ first ++ line ∷ []
  prefix-more =
      let same : length (first ++ line ∷ []) ≡ edge + 1 = length-append first (line ∷ []) in
      (let back = sym same in let apart = sym (append_assoc first (line ∷ []) ls) in λ i. take (back i) (apart i)) ∙ take-append_seam (first ++ line ∷ []) ls

  before : open_banner first ≡ None
  before = sym (ap open_banner prefix) ∙ ap (λ (n : ℕ). open_banner (take n text)) (sym place-is) ∙ row.told.before

  after : open_banner (first ++ line ∷ []) ≡ None
  after = sym (ap open_banner prefix-more) ∙ ap (λ (n : ℕ). open_banner (take (n + 1) text)) (sym place-is) ∙ row.told.after

  open-after-it : open_block (first ++ line ∷ []) ≡ c.block
  open-after-it = sym (ap open_block prefix-more) ∙ ap (λ (n : ℕ). open_block (take (n + 1) text)) (sym place-is) ∙ row.told.block ∙ sym row.block

  open-low-here : open_block first ≤ edge
  open-low-here = let low = open-low 0 None 0 first (omega arith) in omega arith

  under : c.block ≤ edge + 1
  under = let l = block-low text (front ++ c ∷ ds) c are (contains-middle front c ds) in omega arith

  kind-is : kind_at text edge ≡ kind line
  kind-is = kind-next text edge line ls None (drop-append_seam first (line ∷ ls)) (sym (ap open_banner prefix ∙ before))

  -- the head of the command's block is an earlier command
  earlier : (head : FileCommand) → Contains known head → head.line ≤ edge → Contains front head
  earlier head there small = ⊎_elim
      (λ early. early)
      (λ late. let up = rising-low (edge + 1) (c ∷ ds) head rising late in absurd (omega arith))
      (elements.Contains-append_cases front (c ∷ ds) head (subst (λ (l : List FileCommand). Contains l head) whole there))

  among-more : (head : FileCommand) → Contains known head → head.line ≤ edge + 1 → Contains (front ++ c ∷ []) head
  among-more head there small = ⊎_elim
      (λ early. elements.Contains-append_left front (c ∷ []) head early)
      (λ late. ⊎_elim
      (λ (here : c ≡ head). subst (λ (d : FileCommand). Contains (front ++ c ∷ []) d) here (contains-middle front c []))
      (λ later. let up = rising-low (c.line + 1) ds head rising.1 later in absurd (omega arith))
      (Contains-cases c head ds late))
      (elements.Contains-append_cases front (c ∷ ds) head (subst (λ (l : List FileCommand). Contains l head) whole there))

  here : (list : List FileCommand) → ((head : FileCommand) → Contains known head → head.line ≡ c.block → Contains list head) → (w : Written) → IsInnerOf known c w →
      IsHere list c.block c.block w
  here list among w one = record {
    within = one.within;
    head = one.head;
    among = among one.head one.among one.number;
    number = one.number;
    opens = one.opens;
    known = one.known;
    inner = one.inner;
    reads = one.reads;
    part = one.part;
    part_here = one.part;
  }

  here-after : (ws : List Written) → AllByRecursion (IsInnerOf known c) ws → AllByRecursion (IsHere (front ++ c ∷ []) c.block c.block) ws
  here-after [] all = tt
  here-after (w ∷ ws) all = (here (front ++ c ∷ []) (λ head there at. among-more head there (let u = under in omega arith)) w all.0, here-after ws all.1)

  here-before : (ws : List Written) → AllByRecursion (IsEntryOf known c) ws → AllByRecursion (IsHere front c.block c.block) ws
  here-before [] all = tt
  here-before (w ∷ ws) all =
      let other = all.0.no_head in
      (here front (λ head there at. earlier head there (let u = under in omega arith)) w all.0.is_inner, here-before ws all.1)

  more : length (first ++ line ∷ []) ≡ edge + 1
  more = length-append first (line ∷ [])

  -- lines after it
  put-after : (ws : List Written) → AllByRecursion (IsInnerOf known c) ws → (most : ℕ) → most ≡ edge + 1 → (others : List (List ℕ)) (alike : List FileCommand) →
      State most 0 0 (first ++ line ∷ []) (front ++ c ∷ []) others alike →
      State most 0 0 (first ++ line ∷ []) (front ++ c ∷ []) (bytes_of ws ++ others) (map (in_block c.block) ws ++ alike)
  put-after [] all most is others alike s = s
  put-after (w ∷ ws) all most is others alike s =
      put-inners most 0 0 (first ++ line ∷ []) (front ++ c ∷ []) c.block c.block (let long = more in omega arith) (omega arith) after open-after-it all.0.some
      (inl (refl, (let u = under in omega arith))) (w ∷ ws) others alike (here-after (w ∷ ws) all) s

  head-false : c.block ≢ c.line → row.mark.head ≡ false
  head-false other = by row.mark.head refl
    where
      by : (b : Bool) → row.mark.head ≡ b → b ≡ false
      by false is = refl
      by true is = let own = row.told.own is in absurd (other (row.block ∙ own ∙ sym row.number))

  -- entries before it
  put-entries : (ws : List Written) → AllByRecursion (IsEntryOf known c) ws → (others : List (List ℕ)) (alike : List FileCommand) →
      State edge 0 0 first front others alike → State edge 0 0 first front (bytes_of ws ++ others) (map (in_block c.block) ws ++ alike)
  put-entries [] all others alike s = s
  put-entries (w ∷ ws) all others alike s =
      let other = all.0.no_head in
      let some = all.0.is_inner.some in
      let is_open : open_block first ≡ c.block = sym (ap open_block prefix) ∙ ap (λ (n : ℕ). open_block (take n text)) (sym place-is)
      ∙ row.told.inner (head-false other) (λ none. some (row.block ∙ none)) ∙ sym row.block in
      put-inners edge 0 0 first front c.block c.block (omega arith) (omega arith) before is_open some (inl (refl, (let u = under in omega arith))) (w ∷ ws) others alike (here-before (w ∷ ws) all) s

  -- the command itself
  put-command : (most : ℕ) → most ≡ edge + 1 → (others : List (List ℕ)) (alike : List FileCommand) →
      State most 0 0 (first ++ line ∷ []) (front ++ c ∷ []) others alike → State edge 0 0 first front (site.line ∷ others) (says_other c site.command ∷ alike)
  put-command most is others alike s = by good.written
    where
      by : ((site.line ≡ line) × (site.command ≡ c.command)) ⊎ IsRewrittenFor known c line site → State edge 0 0 first front (site.line ∷ others) (says_other c site.command ∷ alike)
      by (inl (same, says)) =
          let one : State edge 0 0 first front (line ∷ others) (c ∷ alike) =
          shift-command most edge 0 0 first line others alike (omega arith) front c c s low number refl
          (sym (renamed-old s.rename most s.fixed s.lists s.prefixes c.block c.command (let u = under in omega arith))) in
          (subst (λ (l : List ℕ). State edge 0 0 first front (l ∷ others) (says_other c site.command ∷ alike)) (sym same)
          (subst (λ (k : Command). State edge 0 0 first front (line ∷ others) (record { line = c.line; block = c.block; command = k } ∷ alike)) (sym says) one))
      by (inr other) =
          let less : c.block ≤ edge = (let u = under in let apart = other.no_head in omega arith) in
          shift-written known most edge first line others alike front c site s (omega arith) low number (omega arith) before other (λ head there is. earlier head there (omega arith))

  -- what closes before its line
  line-closes : (c.block ≡ 0) ⊎ (c.block ≡ c.line) → IsTrue (closes (kind site.line))
  line-closes top =
      let at : IsTrue (closes (kind_at text edge)) = subst (λ (n : ℕ). IsTrue (closes (kind_at text n))) place-is (row.told.closing (by top)) in
      (ap closes (sym (same good.written) ∙ sym kind-is) ∙ at)
    where
      headed : (b : Bool) → row.mark.head ≡ b → c.block ≡ c.line → (row.mark.head ≡ true) ⊎ (row.mark.block ≡ 0)
      headed true is own = inl is
      headed false is own =
          let is_open : open_block (take row.place text) ≡ row.mark.block = row.told.inner is (λ none. let n = row.number in let b = row.block in absurd (omega arith)) in
          let at_first : open_block (take row.place text) ≡ open_block first = ap (λ (n : ℕ). open_block (take n text)) place-is ∙ ap open_block prefix in
          let small = open-low-here in
          let b = row.block in
          absurd (omega arith)

      by : (c.block ≡ 0) ⊎ (c.block ≡ c.line) → (row.mark.head ≡ true) ⊎ (row.mark.block ≡ 0)
      by (inl none) = inr (sym row.block ∙ none)
      by (inr own) = headed row.mark.head refl own

      same : ((site.line ≡ line) × (site.command ≡ c.command)) ⊎ IsRewrittenFor known c line site → kind line ≡ kind site.line
      same (inl is) = ap kind (sym is.0)
      same (inr other) = other.alike

  pub put-site : (most : ℕ) → most ≡ edge + 1 → (others : List (List ℕ)) → State most 0 0 (first ++ line ∷ []) (front ++ c ∷ []) others (new_commands put ds) →
      State edge 0 0 first front (site_lines site ++ others) (site_commands c site ++ new_commands put ds)
  put-site most is others s =
      let later = new_commands put ds in
      let one = put-after site.after good.after most is others later s in
      let two : State edge 0 0 first front (site.line ∷ (bytes_of site.after ++ others)) (says_other c site.command ∷ (map (in_block c.block) site.after ++ later)) =
      put-command most is (bytes_of site.after ++ others) (map (in_block c.block) site.after ++ later) one in
      let three = put-entries site.entries good.entries (site.line ∷ (bytes_of site.after ++ others)) (says_other c site.command ∷ (map (in_block c.block) site.after ++ later)) two in
      let lines : bytes_of site.entries ++ (site.line ∷ (bytes_of site.after ++ others)) ≡ (bytes_of site.entries ++ (site.line ∷ bytes_of site.after)) ++ others =
      sym (append_assoc (bytes_of site.entries) (site.line ∷ bytes_of site.after) others) in
      let says : map (in_block c.block) site.entries ++ (says_other c site.command ∷ (map (in_block c.block) site.after ++ later)) ≡ own_commands c site ++ later =
      sym (append_assoc (map (in_block c.block) site.entries) (says_other c site.command ∷ map (in_block c.block) site.after) later) in
      let four : State edge 0 0 first front ((bytes_of site.entries ++ (site.line ∷ bytes_of site.after)) ++ others) (own_commands c site ++ later) =
      subst (State edge 0 0 first front ((bytes_of site.entries ++ (site.line ∷ bytes_of site.after)) ++ others)) says
      (subst (λ (l : List (List ℕ)). State edge 0 0 first front l (map (in_block c.block) site.entries ++ (says_other c site.command ∷ (map (in_block c.block) site.after ++ later)))) lines three) in
      let five : State edge 0 0 first front (flat_map chunk_lines site.tops ++ ((bytes_of site.entries ++ (site.line ∷ bytes_of site.after)) ++ others))
      (flat_map chunk_commands site.tops ++ (own_commands c site ++ later)) = tops good.tops four in
      subst (State edge 0 0 first front (site_lines site ++ others)) (sym (append_assoc (flat_map chunk_commands site.tops) (own_commands c site) later))
      (subst (λ (l : List (List ℕ)). State edge 0 0 first front l (flat_map chunk_commands site.tops ++ (own_commands c site ++ later)))
      (sym (append_assoc (flat_map chunk_lines site.tops) (bytes_of site.entries ++ (site.line ∷ bytes_of site.after)) others)) five)
    where
      tops : (site.tops ≡ []) ⊎ ((site.entries ≡ []) × ((c.block ≡ 0) ⊎ (c.block ≡ c.line)) × AreChunks c.line (own_commands c site ++ new_commands put ds) site.tops) →
          State edge 0 0 first front ((bytes_of site.entries ++ (site.line ∷ bytes_of site.after)) ++ others) (own_commands c site ++ new_commands put ds) →
          State edge 0 0 first front (flat_map chunk_lines site.tops ++ ((bytes_of site.entries ++ (site.line ∷ bytes_of site.after)) ++ others))
          (flat_map chunk_commands site.tops ++ (own_commands c site ++ new_commands put ds))
      tops (inl none) s =
          let x = ((bytes_of site.entries ++ (site.line ∷ bytes_of site.after)) ++ others) in
          let y = own_commands c site ++ new_commands put ds in
          subst (λ (ts : List Chunk). State edge 0 0 first front (flat_map chunk_lines ts ++ x) (flat_map chunk_commands ts ++ y)) (sym none) s
      tops (inr (none, top, chunks)) s =
          let shut : Closes ((bytes_of site.entries ++ (site.line ∷ bytes_of site.after)) ++ others) =
          subst (λ (es : List Written). Closes ((bytes_of es ++ (site.line ∷ bytes_of site.after)) ++ others)) (sym none) (line-closes top) in
          (put-tops first front before low edge (omega arith) c.line (omega arith) site.tops ((bytes_of site.entries ++ (site.line ∷ bytes_of site.after)) ++ others)
          (own_commands c site ++ new_commands put ds) chunks (record { state = s; closes_it = shut })).state

module _ (known : List FileCommand) (put : FileCommand → Site) where
  abbrev Goes : List (List ℕ) → Type 0
  Goes ls = (n : ℕ) (first : List (List ℕ)) (front cs : List FileCommand) → length first + 1 ≡ n → AreCommandsIn (first ++ ls) (front ++ cs) → known ≡ front ++ cs →
      AreLow (length first) front → Rising n cs → open_banner (first ++ ls) ≡ None →
      AreGood known put n ls cs → State (length first) 0 0 first front (new_lines put n ls cs) (new_commands put cs)

  nothing : (first ls : List (List ℕ)) (front : List FileCommand) → AreCommandsIn (first ++ ls) (front ++ []) → AreLow (length first) front →
      open_banner (first ++ ls) ≡ None → State (length first) 0 0 first front ls []
  nothing first ls front are low banner = record {
    back = [];
    are = are;
    low = low;
    high = tt;
    rename = λ q. q;
    same = λ q r. refl;
    fixed = λ k few. refl;
    keyed = refl;
    lists = λ name. refl;
    prefixes = λ name. refl;
    all = tt;
    outside = banner;
  }

  at-site : (l : List ℕ) (ls : List (List ℕ)) → Goes ls → (n : ℕ) (first : List (List ℕ)) (front : List FileCommand) (c : FileCommand) (ds : List FileCommand) →
      length first + 1 ≡ n → AreCommandsIn (first ++ l ∷ ls) (front ++ c ∷ ds) → known ≡ front ++ c ∷ ds → AreLow (length first) front → Rising n (c ∷ ds) →
      open_banner (first ++ l ∷ ls) ≡ None → (b : Bool) → (c.line == n) ≡ b →
      MatchBool b (IsGood known c l (put c) (new_commands put ds) × AreGood known put (n + 1) ls ds) (AreGood known put (n + 1) ls (c ∷ ds)) →
      State (length first) 0 0 first front (cond b (site_lines (put c) ++ new_lines put (n + 1) ls ds) (l ∷ new_lines put (n + 1) ls (c ∷ ds))) (new_commands put (c ∷ ds))
  at-site l ls goes n first front c ds is are whole low rising banner true test good =
      let number : c.line ≡ n = eqb-true c.line n test in
      let first_more : List (List ℕ) = first ++ l ∷ [] in
      let front_more : List FileCommand = front ++ c ∷ [] in
      let more : length first_more ≡ length first + 1 = length-append first (l ∷ []) in
      let under = block-low (first ++ l ∷ ls) (front ++ c ∷ ds) c are (contains-middle front c ds) in
      let low_more : AreLow (length first_more) front_more = low-and front (low-more (length first) (length first_more) front (omega arith) low) (omega arith, omega arith) in
      let rest = goes (n + 1) first_more front_more ds (omega arith)
      (subst (λ (x : List (List ℕ)). AreCommandsIn x (front_more ++ ds)) (sym (append_assoc first (l ∷ []) ls)) (subst (AreCommandsIn (first ++ l ∷ ls)) (sym (append_assoc front (c ∷ []) ds)) are))
      (whole ∙ sym (append_assoc front (c ∷ []) ds)) low_more (subst (λ (k : ℕ). Rising (k + 1) ds) number rising.1) (ap open_banner (append_assoc first (l ∷ []) ls) ∙ banner) good.1 in
      put-site known put first l ls front c ds are whole low (rising-lower n (length first + 1) (c ∷ ds) (omega arith) rising) (omega arith) good.0 (length first_more) more
      (new_lines put (n + 1) ls ds) rest
    where
      low-and : (cs : List FileCommand) → AreLow (length (first ++ l ∷ [])) cs → (c.line ≤ length (first ++ l ∷ [])) × (c.block ≤ length (first ++ l ∷ [])) →
          AreLow (length (first ++ l ∷ [])) (cs ++ c ∷ [])
      low-and [] all one = (one, tt)
      low-and (d ∷ cs) all one = (all.0, low-and cs all.1 one)
  at-site l ls goes n first front c ds is are whole low rising banner false test good =
      let other : c.line ≢ n = eqb-false c.line n test in
      let first_more : List (List ℕ) = first ++ l ∷ [] in
      let more : length first_more ≡ length first + 1 = length-append first (l ∷ []) in
      let up : n ≤ c.line = rising.0 in
      let rest = goes (n + 1) first_more front (c ∷ ds) (omega arith)
      (subst (λ (x : List (List ℕ)). AreCommandsIn x (front ++ c ∷ ds)) (sym (append_assoc first (l ∷ []) ls)) are)
      whole (low-more (length first) (length first_more) front (omega arith) low) ((omega arith), rising.1) (ap open_banner (append_assoc first (l ∷ []) ls) ∙ banner) good in
      shift-none (length first_more) (length first) 0 0 first l (new_lines put (n + 1) ls (c ∷ ds)) (new_commands put (c ∷ ds)) (omega arith) front rest low

  goes : (ls : List (List ℕ)) → Goes ls
  goes [] n first front [] is are whole low rising banner good = nothing first [] front are low banner
  goes [] n first front (c ∷ cs) is are whole low rising banner good =
      let spot = command-spot (first ++ []) (front ++ c ∷ cs) c are (contains-middle front c cs) in
      let within = spot.told.within in
      let line = spot.line in
      let up : n ≤ c.line = rising.0 in
      let long : length (first ++ []) ≡ length first = ap length (append-nil first) in
      absurd (omega arith)
  goes (l ∷ ls) n first front [] is are whole low rising banner good = nothing first (l ∷ ls) front are low banner
  goes (l ∷ ls) n first front (c ∷ ds) is are whole low rising banner good = at-site l ls (goes ls) n first front c ds is are whole low rising banner (c.line == n) refl good

pub edited-lines : EditedLinesAreRead
edited-lines lines commands put are banner good =
    let s = goes commands put lines 1 [] [] commands refl are refl tt (rising-from (marks_in lines) 1 (marks_in lines) commands are.reads) banner good in
    record {
      all = s.back;
      are = s.are;
      outside = s.outside;
      set = config-alike s.rename s.same (new_commands put commands) s.back s.all;
      once = once-alike s.rename (new_commands put commands) s.back s.all;
    }
