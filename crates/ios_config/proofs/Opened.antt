-- Which block is open as the lines of a file are read, and of what kind it is.
use Rattle.std.proofs.Common.{◌≡◌, ◌≢◌, ℕ, zero, suc, ◌+◌, ◌<◌, ◌≤◌, ◌⊎◌, inl, inr, ◌||◌, ◌==◌, not, Bool, true, false}
use Rattle.std.proofs.Common.{List, [], ◌∷◌, length, get_or, take, filter, Some, None, refl, sym, ◌∙◌, ap, subst, arith, MatchBool, if◌then◌else◌}
use Rattle.std.specs.Prelude.{slice_get, slice_index_or, codes, Contains}
use Rattle.std.specs.List.{enumerate_from}
use Rattle.std.proofs.lemmas.Bool.{false≢true, cases_lt, or_parts}
use Rattle.std.proofs.Common.{eq-eqb}
use Rattle.std.proofs.lemmas.List.FromFn.{length-enumerate_from, get_or-enumerate_from}
use Rattle.std.proofs.lemmas.Option.{slice_get_within, get_or_from_slice_get}
use Rattle.ios_lines.specs.declared.line.Lines.{Lines}
use Rattle.ios_lines.specs.declared.line.Line.{Line}
use Rattle.ios_lines.specs.Kinds.{kind_at, kind_within, words_kind, top_kind, open_banner, is_banner, is_indented, is_mark, opens_block, closes, is_head, is_inert}
use Rattle.arc_base.specs.Words.{words}
use Rattle.ios_lines.specs.Blocks.{Heads, IsOpenBlock}
use Rattle.ios_lines.specs.Texts.{text_lines}
use Rattle.ios_lines.specs.Lines.{IsRow}
use Rattle.ios_words.specs.declared.kinds.BlockKind.{BlockKind}
use Rattle.ios_words.specs.declared.kinds.BlockKind.TheVariants as kinds
use Rattle.ios_words.specs.declared.commands.Command.{Command}
use Rattle.ios_words.specs.Commands.{ReadsAs}
use Rattle.ios_config.specs.declared.commands.FileCommand.{FileCommand}
use Rattle.ios_config.specs.Commands.{numbered, is_top, opened_by, Opens, IsLineWithin, IsReadAs}
use Rattle.ios_config.specs.Reading.{standing, open_after, IsCommandAt}

-- the lines that are to be commands among the first so many
abbrev pub lines_to : ℕ → Lines → List (ℕ × Line)
lines_to n lines = filter (λ l. not l.1.inert) (enumerate_from 1 (take n lines.rows))

-- the block that is open after the first so many lines, if one is, is of this kind
pub record KnowsOpen (text : List ℕ) (lines : Lines) (n : ℕ) (current : BlockKind) : Type 0 where
  pub knows : (head : ℕ) → Heads (kind_at (text_lines text)) n head → Opens text lines (suc head) current

-- no block is open before the first line
pub knows_none : (text : List ℕ) (lines : Lines) (current : BlockKind) → KnowsOpen text lines 0 current
knows_none text lines current = record { knows = λ head (h : Heads (kind_at (text_lines text)) 0 head). let b : head < 0 = h.before in absurd (omega arith) }

-- a head closes the block before it
top_closes : (ws : List (List ℕ)) → is_head (top_kind ws) ≡ true → closes (top_kind ws) ≡ true
top_closes ws =
    let banner = top_kind (codes "banner" ∷ []) in
    let single = top_kind (codes "hostname" ∷ []) in
    let head = top_kind (codes "line" ∷ []) in
    elim (is_banner ws) as (λ b. is_head (if b then banner else (if opens_block ws then head else single)) ≡ true → closes (if b then banner else (if opens_block ws then head else single)) ≡ true) [
      | true ↦ λ h. refl
      | false ↦ elim (opens_block ws) as (λ b. is_head (if b then head else single) ≡ true → closes (if b then head else single) ≡ true) [ true ↦ λ h. refl | false ↦ λ h. refl ]
    ]

line_closes : (indented : Bool) (ws : List (List ℕ)) → is_head (words_kind indented ws) ≡ true → closes (words_kind indented ws) ≡ true
line_closes indented [] = λ h. absurd (false≢true h)
line_closes true (w ∷ ws) =
    let remark = words_kind true ((33 ∷ []) ∷ []) in
    let inner = words_kind true ((97 ∷ []) ∷ []) in
    elim (is_mark w) as (λ b. is_head (if b then remark else inner) ≡ true → closes (if b then remark else inner) ≡ true) [
      | true ↦ λ h. absurd (false≢true h)
      | false ↦ λ h. absurd (false≢true h)
    ]
line_closes false (w ∷ ws) =
    let comment = words_kind false ((33 ∷ []) ∷ []) in
    elim (is_mark w) as (λ b. is_head (if b then comment else top_kind (w ∷ ws)) ≡ true → closes (if b then comment else top_kind (w ∷ ws)) ≡ true) [
      | true ↦ λ h. refl
      | false ↦ top_closes (w ∷ ws)
    ]

head_closes : (lines : List (List ℕ)) (n : ℕ) → is_head (kind_at lines n) ≡ true → closes (kind_at lines n) ≡ true
head_closes lines n =
    let line = slice_index_or lines n [] in
    elim (open_banner (take n lines)) as (λ o. is_head (kind_within o line) ≡ true → closes (kind_within o line) ≡ true) [
      | None ↦ line_closes (is_indented line) (words line)
      | Some delimiter ↦ λ h. refl
    ]

-- a number and its line are among the numbered ones
at_number : (lines : Lines) (n : ℕ) (r : Line) → slice_get lines.rows n ≡ Some r → Contains (numbered lines) (suc n, r)
at_number lines n r at =
    let h : n < length lines.rows = slice_get_within lines.rows n r at in
    let e : 1 + n ≡ suc n = omega arith in
    let f : get_or lines.rows n r ≡ r = get_or_from_slice_get lines.rows n r r at in
    (n, omega (arith, length-enumerate_from 1 lines.rows), get_or-enumerate_from 1 lines.rows n (suc n, r) h ∙ (λ i. (e i, f i)))

module _ (text : List ℕ) (lines : Lines) (n : ℕ) (r : Line) (row : IsRow text n r) (current : BlockKind) (known : KnowsOpen text lines n current) where
  -- a block that stays open over the line and is headed before it was open before it
  before_line : (head : ℕ) → head < n → Heads (kind_at (text_lines text)) (n + 1) head → Heads (kind_at (text_lines text)) n head
  before_line head h open_there = record {
    before = h;
    opens = open_there.opens;
    unclosed = λ place low high. open_there.unclosed place low (omega arith);
  }

  -- and the line heads none
  not_head : (head : ℕ) → head < n → Heads (kind_at (text_lines text)) (n + 1) head → r.head ≡ false
  not_head head h open_there = by r.head refl
    where
      by : (b : Bool) → r.head ≡ b → r.head ≡ false
      by false e = e
      by true e =
          let closed : closes (kind_at (text_lines text) n) ≡ true = head_closes (text_lines text) n (sym row.head ∙ e) in
          absurd (false≢true (sym (open_there.unclosed n h (omega arith)) ∙ closed))

  -- the block that the line stands in is the open one
  pub stands_within : IsLineWithin text lines r (standing r current)
  stands_within = by (is_top r) refl
    where
      inner : (block : ℕ) → r.head ≡ false → block ≢ 0 → IsOpenBlock (kind_at (text_lines text)) (n + 1) block → Opens text lines block current
      inner zero lacks some is = absurd (some refl)
      inner (suc head) lacks some is = at_head (cases_lt head n)
        where
          at_head : (head < n) ⊎ (n ≤ head) → Opens text lines (suc head) current
          at_head (inl h) = known.knows head (before_line head h is)
          at_head (inr g) =
              let b : head < n + 1 = is.before in
              let e : n ≡ head = omega arith in
              absurd (false≢true (sym lacks ∙ row.head ∙ ap (λ k. is_head (kind_at (text_lines text) k)) e ∙ ap is_head is.opens))

      by : (b : Bool) → is_top r ≡ b → MatchBool b ((if b then kinds.Top else current) ≡ kinds.Top) (Opens text lines r.block (if b then kinds.Top else current))
      by true e = refl
      by false e =
          let parts = or_parts r.head (r.block == 0) e in
          inner r.block parts.0 (λ z. false≢true (sym parts.1 ∙ eq-eqb r.block 0 z)) row.block

  module _ (at : slice_get lines.rows n ≡ Some r) where
    -- the open block after a line that is a command
    pub knows_more : (c : Command) → r.inert ≡ false → ReadsAs text r (standing r current) c → KnowsOpen text lines (n + 1) (open_after r c current)
    knows_more c filled reads = record { knows = λ head h. by head h (cases_lt head n) }
      where
        by : (head : ℕ) → Heads (kind_at (text_lines text)) (n + 1) head → (head < n) ⊎ (n ≤ head) → Opens text lines (suc head) (open_after r c current)
        by head h (inl l) =
            let same : open_after r c current ≡ current = ap (λ b. if b then opened_by c else current) (not_head head l h) in
            subst (Opens text lines (suc head)) (sym same) (known.knows head (before_line head l h))
        by head h (inr g) =
            let b : head < n + 1 = h.before in
            let e : n ≡ head = omega arith in
            let is : r.head ≡ true = row.head ∙ ap (λ k. is_head (kind_at (text_lines text) k)) e ∙ ap is_head h.opens in
            let changed : open_after r c current ≡ opened_by c = ap (λ t. if t then opened_by c else current) is in
            let top : standing r current ≡ kinds.Top = ap (λ t. if t || (r.block == 0) then kinds.Top else current) is in
            subst (λ k. Opens text lines (suc k) (open_after r c current)) e (record {
              head = r;
              at_number = at_number lines n r at;
              command = c;
              reads = subst (λ (k : BlockKind). ReadsAs text r k c) top reads;
              opens = changed;
            })

    -- and after one that says nothing
    pub knows_same : r.inert ≡ true → KnowsOpen text lines (n + 1) current
    knows_same inert = record { knows = λ head h. by head h (cases_lt head n) }
      where
        by : (head : ℕ) → Heads (kind_at (text_lines text)) (n + 1) head → (head < n) ⊎ (n ≤ head) → Opens text lines (suc head) current
        by head h (inl l) = known.knows head (before_line head l h)
        by head h (inr g) =
            let b : head < n + 1 = h.before in
            let e : n ≡ head = omega arith in
            absurd (false≢true (sym (row.inert ∙ ap (λ k. is_inert (kind_at (text_lines text) k)) e ∙ ap is_inert h.opens) ∙ inert))

    -- the command of the file
    pub is_read : (c : FileCommand) → IsCommandAt text r (n + 1) (standing r current) c → IsReadAs text lines (n + 1, r) c
    is_read c is = record { line = is.number_is; block = is.block_is; within = standing r current; stands = stands_within; reads = is.reads }
