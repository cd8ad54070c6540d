-- A command that heads a block stands in a block of its own number.
use Rattle.std.proofs.Common.{◌≡◌, ℕ, ◌+◌, ◌<◌, ◌==◌, ◌⊎◌, ◌||◌, ◌&&◌, not, Bool, true, false, if◌then◌else◌, List}
use Rattle.std.proofs.Common.{[], ◌∷◌, length, take, slice_get, get_or, Some, None, refl, sym, ap, subst, ◌∙◌, arith, ⊎_elim, Contains, MatchBool, codes}
use Rattle.std.proofs.lemmas.Bool.{cases_Bool, false≢true, true≢false, and_parts, eqb-true, eqb-false, or_cases, not-true}
use Rattle.std.proofs.lemmas.Option.{same_Some, slice_get-map, slice_get_within}
use Rattle.std.proofs.lemmas.List.{length-map}
use Rattle.std.specs.Prelude.{option_map, bytes_eq}
use Rattle.std.specs.List.{list_any, list_all, starts_with}
use Rattle.arc_base.proofs.Items.{from_filter}
use Rattle.ios_lines.specs.Kinds.{is_head, is_inert, kind, kind_at, kind_within, words_kind, is_mark, is_banner, is_indented, opens_block, single_heads}
use Rattle.ios_lines.specs.Reading.{block_after, is_alone}
use Rattle.ios_lines.specs.Views.{Mark, mark_seen, seen, seen_in, open_block}
use Rattle.arc_base.specs.Words.{words}
use Rattle.arc_base.proofs.Zips.{at_place}
use Rattle.ios_lines.proofs.ChangedTexts.{seen-at, place-of}
use Rattle.ios_lines.proofs.Insertions.{length-seen}
use Rattle.ios_lines.proofs.Orphans.{NotAlone, stand-all}
use Rattle.ios_words.specs.declared.kinds.BlockKind.{BlockKind}
use Rattle.ios_words.specs.declared.kinds.BlockKind.TheVariants as kinds
use Rattle.ios_words.specs.declared.commands.Command.{Command}
use Rattle.ios_words.specs.declared.commands.Command.TheVariants as commands
use Rattle.ios_words.specs.Commands.{is_extended_block, ReadBy}
use Rattle.ios_words.specs.Language.{rows}
use Rattle.ios_words.specs.Laws.{heads_block}
use Rattle.std.specs.List.{find}
use Rattle.std.specs.Prelude.{is_ok}
use Rattle.std.proofs.lemmas.Option.{none-some}
use Rattle.std.proofs.lemmas.Bool.{cond-true, cond-false}
use Rattle.std.proofs.lemmas.Slice.Eq.{bytes_eq-Decides}
use Rattle.std.proofs.lemmas.List.Elements.{All-from_recursion}
use Rattle.ios_words.specs.Commands.{completes}
use Rattle.ios_words.specs.Readings.{matches, read}
use Rattle.ios_words.specs.Rows.{Rule}
use Rattle.ios_words.proofs.Heads.{inner-none, find-passes, heads, heads-give}
use Rattle.ios_config.specs.declared.commands.FileCommand.{FileCommand}
use Rattle.ios_config.specs.Commands.{opened_by}
use Rattle.ios_config.specs.Inserted.{numbered_marks, command_marks, MarkOpens, IsMarkRead}
use Rattle.ios_config.specs.LineLists.{marks_in, AreCommandsIn}
use Rattle.ios_config.proofs.AppendedLines.{numbered-at}
use Rattle.ios_config.proofs.InsertedLines.{zip-found}

pub never-top : (command : Command) → opened_by command ≡ kinds.Top → ⊥
never-top (commands.Interface name) e = absurd cc
never-top (commands.RouterOspf number) e = absurd cc
never-top (commands.RouterBgp number) e = absurd cc
never-top (commands.ListBlock true name) e = absurd cc
never-top (commands.ListBlock false name) e = absurd cc
never-top _ e = absurd cc

-- no line of a block heads one
inner-heads : (within : BlockKind) (ws : List (List ℕ)) (command : Command) → (within ≡ kinds.Top → ⊥) → ReadBy (is_extended_block within) ws (rows within) command → heads_block command ≡ true → ⊥
inner-heads kinds.Top ws command other reads is = other refl
inner-heads kinds.Interface ws command other reads is = inner-none false ws (rows kinds.Interface) command reads refl is
inner-heads kinds.Ospf ws command other reads is = inner-none false ws (rows kinds.Ospf) command reads refl is
inner-heads kinds.Bgp ws command other reads is = inner-none false ws (rows kinds.Bgp) command reads refl is
inner-heads kinds.Extended ws command other reads is = inner-none true ws (rows kinds.Extended) command reads refl is
inner-heads kinds.Standard ws command other reads is = inner-none false ws (rows kinds.Standard) command reads refl is
inner-heads kinds.Inert ws command other reads is = inner-none false ws (rows kinds.Inert) command reads refl is

-- what is found passes the test
found-test : {X : Type 0} (p : X → Bool) (xs : List X) (x : X) → find p xs ≡ Some x → p x ≡ true
found-test p [] x is = absurd (none-some x is)
found-test p (y ∷ xs) x is = ⊎_elim
    (λ here. subst (λ r. p r ≡ true) (same_Some y x (sym (cond-true (p y) (Some y) (find p xs) here) ∙ is)) here)
    (λ other. found-test p xs x (sym (cond-false (p y) (Some y) (find p xs) other) ∙ is))
    (cases_Bool (p y))

-- whether a row heads no block that is read, or does not match the words
abbrev no_head : List (List ℕ) → Rule → Bool
no_head ws r = not (heads r.meaning && matches ws r)

if-true : (a b : Bool) → (if a then b else false) ≡ true → a ≡ true
if-true true b is = refl
if-true false b is = absurd (false≢true is)

none-heads : (ws : List (List ℕ)) (command : Command) → list_all (no_head ws) (rows kinds.Top) ≡ true → ReadBy false ws (rows kinds.Top) command → heads_block command ≡ true → ⊥
none-heads ws command all reads is =
    let matched : matches ws reads.rule ≡ true = if-true (matches ws reads.rule) (is_ok (read false ws reads.rule)) (found-test (completes false ws) (rows kinds.Top) reads.rule reads.first) in
    let head : heads reads.rule.meaning ≡ true = sym (heads-give reads.rule.meaning reads.values) ∙ ap heads_block (sym reads.gives) ∙ is in
    let passes : not (heads reads.rule.meaning && matches ws reads.rule) ≡ true = find-passes (completes false ws) (no_head ws) (rows kinds.Top) reads.rule reads.first all in
    false≢true (sym (ap (λ (t : Bool). not (t && matches ws reads.rule)) head ∙ ap (λ (t : Bool). not t) matched) ∙ passes)

starts-one : (ws : List (List ℕ)) (h : List ℕ) → starts_with bytes_eq ws (h ∷ []) ≡ true → (r : List (List ℕ)) × (ws ≡ h ∷ r)
starts-one [] h is = absurd (false≢true is)
starts-one (w ∷ r) h is = (r, ap (λ (x : List ℕ). x ∷ r) (sym ((bytes_eq-Decides h w).0 (and_parts (bytes_eq h w) true is).0)))

starts-two : (ws : List (List ℕ)) (h k : List ℕ) → starts_with bytes_eq ws (h ∷ k ∷ []) ≡ true → (r : List (List ℕ)) × (ws ≡ h ∷ k ∷ r)
starts-two [] h k is = absurd (false≢true is)
starts-two (w ∷ []) h k is = absurd (false≢true (and_parts (bytes_eq h w) false is).1)
starts-two (w ∷ v ∷ r) h k is =
    let parts = and_parts (bytes_eq h w) (bytes_eq k v && true) is in
    let first : w ≡ h = sym ((bytes_eq-Decides h w).0 parts.0) in
    let second : v ≡ k = sym ((bytes_eq-Decides k v).0 (and_parts (bytes_eq k v) true parts.1).0) in
    (r, λ i. first i ∷ second i ∷ r)

-- a top line that opens no block heads none
single-heads : (ws : List (List ℕ)) (command : Command) → list_any (λ head. starts_with bytes_eq ws head) single_heads ≡ true →
    ReadBy false ws (rows kinds.Top) command → heads_block command ≡ true → ⊥
single-heads ws command single reads is = ⊎_elim
    (λ one. let (r, same) = starts-one ws (codes "hostname") one in named r (subst (λ (x : List (List ℕ)). ReadBy false x (rows kinds.Top) command) same reads))
    (λ more. ⊎_elim
    (λ two. let (r, same) = starts-one ws (codes "access-list") two in listed r (subst (λ (x : List (List ℕ)). ReadBy false x (rows kinds.Top) command) same reads))
    (λ last. ⊎_elim
    (λ three. let (r, same) = starts-two ws (codes "ip") (codes "prefix-list") three in filtered r (subst (λ (x : List (List ℕ)). ReadBy false x (rows kinds.Top) command) same reads))
    (λ none. absurd (false≢true none))
    (or_cases (starts_with bytes_eq ws (codes "ip" ∷ codes "prefix-list" ∷ [])) false last))
    (or_cases (starts_with bytes_eq ws (codes "access-list" ∷ [])) (starts_with bytes_eq ws (codes "ip" ∷ codes "prefix-list" ∷ []) || false) more))
    (or_cases (starts_with bytes_eq ws (codes "hostname" ∷ []))
    (starts_with bytes_eq ws (codes "access-list" ∷ []) || (starts_with bytes_eq ws (codes "ip" ∷ codes "prefix-list" ∷ []) || false)) single)
  where
    named : (r : List (List ℕ)) → ReadBy false (codes "hostname" ∷ r) (rows kinds.Top) command → ⊥
    named r reads = none-heads (codes "hostname" ∷ r) command refl reads is

    listed : (r : List (List ℕ)) → ReadBy false (codes "access-list" ∷ r) (rows kinds.Top) command → ⊥
    listed r reads = none-heads (codes "access-list" ∷ r) command refl reads is

    filtered : (r : List (List ℕ)) → ReadBy false (codes "ip" ∷ codes "prefix-list" ∷ r) (rows kinds.Top) command → ⊥
    filtered r reads = none-heads (codes "ip" ∷ codes "prefix-list" ∷ r) command refl reads is

-- the words of a line that is a single one
opens-not : (ws : List (List ℕ)) → opens_block ws ≡ false → list_any (λ head. starts_with bytes_eq ws head) single_heads ≡ true
opens-not ws is = by (list_any (λ head. starts_with bytes_eq ws head) single_heads) is
  where
    by : (t : Bool) → (if t then false else true) ≡ false → t ≡ true
    by true e = refl
    by false e = absurd (true≢false e)

words-single : (indented : Bool) (ws : List (List ℕ)) (number block : ℕ) → is_inert (words_kind indented ws) ≡ false →
    is_head (words_kind indented ws) ≡ false → block_after (words_kind indented ws) number block ≡ 0 →
    is_alone (words_kind indented ws) (block_after (words_kind indented ws) number block) ≡ false → opens_block ws ≡ false
words-single indented [] number block says headless none alone = absurd (true≢false says)
words-single true (w ∷ r) number block says headless none alone = ⊎_elim
    (λ (marked : is_mark w ≡ true). absurd (true≢false (rw marked at says)))
    (λ (plain : is_mark w ≡ false).
    let zero_block : block ≡ 0 = rw plain at none in
    let other : (block == 0) ≡ false = rw plain at alone in
    absurd (eqb-false block 0 other zero_block))
    (cases_Bool (is_mark w))
words-single false (w ∷ r) number block says headless none alone = ⊎_elim
    (λ (marked : is_mark w ≡ true). absurd (true≢false (rw marked at says)))
    (λ (plain : is_mark w ≡ false). ⊎_elim
    (λ (banner : is_banner (w ∷ r) ≡ true). absurd (true≢false (rw (plain, banner) at says)))
    (λ (other : is_banner (w ∷ r) ≡ false). ⊎_elim
    (λ (opens : opens_block (w ∷ r) ≡ true). absurd (true≢false (rw (plain, other, opens) at headless)))
    (λ closed. closed)
    (cases_Bool (opens_block (w ∷ r))))
    (cases_Bool (is_banner (w ∷ r))))
    (cases_Bool (is_mark w))

-- a command that heads a block has its own number as its block's
module _ (lines : List (List ℕ)) (cs : List FileCommand) (c : FileCommand) (are : AreCommandsIn lines cs) (among : Contains cs c) (heads_it : heads_block c.command ≡ true) where
  own-by : (place : ℕ) (line : List ℕ) (block : ℕ) → is_alone (kind line) (block_after (kind line) (place + 1) block) ≡ false →
      (r : IsMarkRead (marks_in lines) (place + 1, mark_seen (seen_in (place + 1) line (kind line) block)) c) → is_inert (kind line) ≡ false →
      (is_head (kind line) ≡ true → block_after (kind line) (place + 1) block ≡ place + 1) →
      block_after (kind line) (place + 1) block ≡ place + 1
  own-by place line block alone r says own = ⊎_elim
      own
      (λ headless. ⊎_elim
      (λ none.
      let zero_block : block_after (kind line) (place + 1) block ≡ 0 = eqb-true (block_after (kind line) (place + 1) block) 0 none in
      let top : is_head (kind line) || (block_after (kind line) (place + 1) block == 0) ≡ true = ap (λ (t : Bool). t || (block_after (kind line) (place + 1) block == 0)) headless ∙ none in
      let at_top : r.within ≡ kinds.Top = subst (λ (t : Bool). MatchBool t (r.within ≡ kinds.Top) (MarkOpens (marks_in lines) (block_after (kind line) (place + 1) block) r.within)) top r.stands in
      absurd (single-heads (words line) c.command (opens-not (words line) (words-single (is_indented line) (words line) (place + 1) block says headless zero_block alone))
      (subst (λ (w : BlockKind). ReadBy (is_extended_block w) (words line) (rows w) c.command) at_top r.reads) heads_it))
      (λ some.
      let inner : is_head (kind line) || (block_after (kind line) (place + 1) block == 0) ≡ false = ap (λ (t : Bool). t || (block_after (kind line) (place + 1) block == 0)) headless ∙ some in
      let opens : MarkOpens (marks_in lines) (block_after (kind line) (place + 1) block) r.within =
      subst (λ (t : Bool). MatchBool t (r.within ≡ kinds.Top) (MarkOpens (marks_in lines) (block_after (kind line) (place + 1) block) r.within)) inner r.stands in
      absurd (inner-heads r.within (words line) c.command (λ top. never-top opens.command (sym opens.opens ∙ top)) r.reads heads_it))
      (cases_Bool (block_after (kind line) (place + 1) block == 0)))
      (cases_Bool (is_head (kind line)))

  pub own-block : c.block ≡ c.line
  own-block =
      let marks = marks_in lines in
      let (l, there, r) = zip-found (IsMarkRead marks) (command_marks marks) cs c are.reads among in
      let (numbered, says) = from_filter (λ (x : ℕ × Mark). not x.1.inert) (numbered_marks marks) l there in
      let (place, number, at) = numbered-at 1 marks l.0 l.1 numbered in
      let long : length marks ≡ length lines = length-map (seen lines) mark_seen ∙ length-seen 0 None 0 lines in
      let inside = slice_get_within marks place l.1 at in
      let low : place < length lines = omega arith in
      let block = open_block (take place lines) in
      let line = get_or lines place [] in
      let seen_mark : slice_get marks place ≡ Some (mark_seen (seen_in (place + 1) line (kind_at lines place) block)) =
      slice_get-map mark_seen (seen lines) place ∙ ap (option_map mark_seen) (seen-at lines place low) in
      let s = seen_in (place + 1) line (kind_at lines place) block in
      let same : mark_seen s ≡ l.1 = same_Some (mark_seen s) l.1 (sym seen_mark ∙ at) in
      let said : is_inert (kind_at lines place) ≡ false = not-true (is_inert (kind_at lines place)) (ap (λ (m : Mark). not m.inert) same ∙ says) in
      let told = place-of lines place (stand-all lines are.no_orphan) low said in
      let k : kind_at lines place ≡ kind line = ap (λ b. kind_within b line) told.before in
      let row : l.0 ≡ place + 1 = omega arith in
      let both : l ≡ (place + 1, mark_seen s) = λ i. (row i, sym same i) in
      let read = subst (λ (x : ℕ × Mark). IsMarkRead marks x c) both r in
      let alone : is_alone (kind_at lines place) (block_after (kind_at lines place) (place + 1) block) ≡ false =
      at_place NotAlone (seen lines) place (All-from_recursion NotAlone (seen lines) (stand-all lines are.no_orphan)) s (seen-at lines place low) in
      let own = own-by place line block
      (subst (λ x. is_alone x (block_after x (place + 1) block) ≡ false) k alone)
      (subst (λ x. IsMarkRead marks (place + 1, mark_seen (seen_in (place + 1) line x block)) c) k read)
      (subst (λ x. is_inert x ≡ false) k said)
      (subst (λ x. is_head x ≡ true → block_after x (place + 1) block ≡ place + 1) k told.own) in
      read.block ∙ ap (λ x. block_after x (place + 1) block) k ∙ own ∙ sym read.line
