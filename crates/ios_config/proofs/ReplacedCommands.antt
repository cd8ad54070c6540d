-- The commands of a text of which one line says another thing.
use Rattle.std.proofs.Common.{◌≡◌, ◌≢◌, ℕ, zero, suc, ◌+◌, ◌||◌, not, Bool, true, false, List, [], ◌∷◌, ◌++◌}
use Rattle.std.proofs.Common.{take, drop, filter, slice_get, Some, refl, sym, ap, subst, ◌∙◌, arith, ⊎_elim, Contains, MatchBool, true≢false}
use Rattle.std.proofs.lemmas.Bool.{cond-true, eq-eqb}
use Rattle.std.proofs.lemmas.List.Elements.{filter-append, Contains-append_left, Contains-append_right, Contains-append_cases}
use Rattle.std.proofs.lemmas.Option.{none-some, same_Some}
use Rattle.std.specs.List.{AllZip, enumerate_from}
use Rattle.arc_base.proofs.Items.{Contains-cases, Contains-none, Contains-head, Contains-tail, from_filter}
use Rattle.ios_lines.specs.Views.{Mark, line_marks}
use Rattle.ios_lines.specs.Changes.{changed, mark_worded}
use Rattle.ios_lines.specs.ChangeLaws.{HasHead}
use Rattle.ios_lines.proofs.BlockHeads.{blocks-have-heads}
use Rattle.ios_words.specs.declared.kinds.BlockKind.{BlockKind}
use Rattle.ios_words.specs.declared.kinds.BlockKind.TheVariants as kinds
use Rattle.ios_words.specs.declared.commands.Command.{Command}
use Rattle.ios_words.specs.Commands.{is_extended_block, ReadBy}
use Rattle.ios_words.specs.Language.{rows}
use Rattle.ios_config.specs.declared.commands.FileCommand.{FileCommand}
use Rattle.ios_config.specs.Inserted.{numbered_marks, command_marks, MarkOpens, is_top_mark, IsMarkRead, AreMarksRead, command_at}
use Rattle.ios_config.specs.Replaced.{AReplacedLineHasAnotherCommand}
use Rattle.ios_config.proofs.MarkCommands.{commands-of-marks}
use Rattle.ios_config.proofs.InsertedCommands.{says, zip-split, zip-join}

-- a list with an item at a place
record PartedAt {A : Type 0} (items : List A) (place : ℕ) (item : A) : Type 0 where
  split : items ≡ take place items ++ item ∷ drop (suc place) items

parted-at : {A : Type 0} → (items : List A) (place : ℕ) (item : A) → slice_get items place ≡ Some item → PartedAt items place item
parted-at [] place item is = absurd (none-some item is)
parted-at (x ∷ items) zero item is = record { split = ap (λ y. y ∷ items) (same_Some x item is) }
parted-at (x ∷ items) (suc place) item is = record { split = ap (λ ys. x ∷ ys) (parted-at items place item is).split }

changed-parts : {A : Type 0} → (items : List A) (place : ℕ) (change : A → A) (item : A) → slice_get items place ≡ Some item →
    changed place change items ≡ take place items ++ change item ∷ drop (suc place) items
changed-parts [] place change item is = absurd (none-some item is)
changed-parts (x ∷ items) zero change item is = ap (λ y. change y ∷ items) (same_Some x item is)
changed-parts (x ∷ items) (suc place) change item is = ap (λ ys. x ∷ ys) (changed-parts items place change item is)

-- numbered rows of which one is another
abbrev numbered_worded : List (List ℕ) → ℕ × Mark → ℕ × Mark
numbered_worded ws l = (l.0, mark_worded ws l.1)

enumerate-changed : (ws : List (List ℕ)) (n place : ℕ) (marks : List Mark) → enumerate_from n (changed place (mark_worded ws) marks) ≡ changed place (numbered_worded ws) (enumerate_from n marks)
enumerate-changed ws n place [] = refl
enumerate-changed ws n zero (m ∷ marks) = refl
enumerate-changed ws n (suc place) (m ∷ marks) = ap (λ rest. (n, m) ∷ rest) (enumerate-changed ws (n + 1) place marks)

enumerate-get : (n place : ℕ) (marks : List Mark) (m : Mark) → slice_get marks place ≡ Some m → slice_get (enumerate_from n marks) place ≡ Some (n + place, m)
enumerate-get n place [] m is = absurd (none-some m is)
enumerate-get n zero (x ∷ marks) m is = ap (λ (y : Mark). Some (n, y)) (same_Some x m is) ∙ ap (λ (k : ℕ). Some (k, m)) (omega arith)
enumerate-get n (suc place) (x ∷ marks) m is = enumerate-get (n + 1) place marks m is ∙ ap (λ (k : ℕ). Some (k, m)) (omega arith)

-- a numbered row is a row
numbered-there : (n : ℕ) (marks : List Mark) (k : ℕ) (x : Mark) → Contains (enumerate_from n marks) (k, x) → (place : ℕ) × (slice_get marks place ≡ Some x)
numbered-there n [] k x has = absurd (Contains-none (k, x) has)
numbered-there n (m ∷ marks) k x has = ⊎_elim
    (λ here. (0, ap (λ (p : ℕ × Mark). Some p.1) here))
    (λ later. let deeper = numbered-there (n + 1) marks k x later in (suc deeper.0, deeper.1))
    (Contains-cases (n, m) (k, x) (enumerate_from (n + 1) marks) has)

-- items that go together, where only those of the list count
pub zip-in : {A B : Type 0} → (R S : A → B → Type 0) (xs : List A) (ys : List B) → ((x : A) (y : B) → Contains xs x → R x y → S x y) → AllZip R xs ys → AllZip S xs ys
zip-in R S [] [] each all = tt
zip-in R S [] (y ∷ ys) each all = all
zip-in R S (x ∷ xs) [] each all = all
zip-in R S (x ∷ xs) (y ∷ ys) each all = (each x y (Contains-head x xs) all.0, zip-in R S xs ys (λ z w has. each z w (Contains-tail x z xs has)) all.1)

-- the first of some items that go together
pub record FirstRead (R : ℕ × Mark → FileCommand → Type 0) (l : ℕ × Mark) (ls : List (ℕ × Mark)) (cs : List FileCommand) : Type 0 where
  pub first : FileCommand
  pub rest : List FileCommand
  pub is : cs ≡ first ∷ rest
  pub this : R l first
  pub others : AllZip R ls rest

pub first-read : (R : ℕ × Mark → FileCommand → Type 0) (l : ℕ × Mark) (ls : List (ℕ × Mark)) (cs : List FileCommand) → AllZip R (l ∷ ls) cs → FirstRead R l ls cs
first-read R l ls [] all = absurd all
first-read R l ls (c ∷ cs) all = record { first = c; rest = cs; is = refl; this = all.0; others = all.1 }

module _ (old new : List Mark) (place : ℕ) (m : Mark) (ws : List (List ℕ)) (are : new ≡ changed place (mark_worded ws) old) (there : slice_get old place ≡ Some m) (no_head : m.head ≡ false)
    (blocks : (k : ℕ) (x : Mark) → slice_get old k ≡ Some x → x.block ≢ 0 → HasHead old x.block) where
  abbrev numbered : List (ℕ × Mark)
  numbered = numbered_marks old

  here : slice_get numbered place ≡ Some (1 + place, m)
  here = enumerate-get 1 place old m there

  pub parts-old : numbered ≡ take place numbered ++ (1 + place, m) ∷ drop (suc place) numbered
  parts-old = (parted-at numbered place (1 + place, m) here).split

  pub parts-new : numbered_marks new ≡ take place numbered ++ (1 + place, mark_worded ws m) ∷ drop (suc place) numbered
  parts-new = ap (enumerate_from 1) are ∙ enumerate-changed ws 1 place old ∙ changed-parts numbered place (numbered_worded ws) (1 + place, m) here

  -- a row of another number is still there
  other-there : (number : ℕ) (x : Mark) → (number ≡ 1 + place → ⊥) → Contains numbered (number, x) → Contains (numbered_marks new) (number, x)
  other-there number x other has =
      subst (λ (ls : List (ℕ × Mark)). Contains ls (number, x)) (sym parts-new)
      (⊎_elim
      (λ early. Contains-append_left (take place numbered) ((1 + place, mark_worded ws m) ∷ drop (suc place) numbered) (number, x) early)
      (λ late. ⊎_elim
      (λ same. absurd (other (sym (ap (λ (p : ℕ × Mark). p.0) same))))
      (λ later. Contains-append_right (take place numbered) ((1 + place, mark_worded ws m) ∷ drop (suc place) numbered) (number, x)
      (Contains-tail (1 + place, mark_worded ws m) (number, x) (drop (suc place) numbered) later))
      (Contains-cases (1 + place, m) (number, x) (drop (suc place) numbered) late))
      (Contains-append_cases (take place numbered) ((1 + place, m) ∷ drop (suc place) numbered) (number, x) (subst (λ (ls : List (ℕ × Mark)). Contains ls (number, x)) parts-old has)))

  -- no block is named by the row that changes
  not-named : (k : ℕ) (x : Mark) → slice_get old k ≡ Some x → x.block ≢ 0 → x.block ≡ 1 + place → ⊥
  not-named k x at some is =
      let h = blocks k x at some in
      let number : x.block ≡ h.place + 1 = h.number in
      let same : h.place ≡ place = omega arith in
      let one : h.head ≡ m = same_Some h.head m (sym h.at_place ∙ ap (slice_get old) same ∙ there) in
      true≢false (sym h.heads ∙ ap (λ (n : Mark). n.head) one ∙ no_head)

  still-within : (k : ℕ) (x : Mark) → slice_get old k ≡ Some x → (b : Bool) → is_top_mark x ≡ b → (within : BlockKind) →
      MatchBool b (within ≡ kinds.Top) (MarkOpens old x.block within) → MatchBool b (within ≡ kinds.Top) (MarkOpens new x.block within)
  still-within k x at true top within stands = stands
  still-within k x at false top within o =
      let some : x.block ≢ 0 = λ none. true≢false (sym (ap (λ b. x.head || b) (eq-eqb x.block 0 none) ∙ or-true x.head) ∙ top) in
      record { head = o.head; at_number = other-there x.block o.head (not-named k x at some) o.at_number; command = o.command; reads = o.reads; opens = o.opens }
    where
      or-true : (b : Bool) → (b || true) ≡ true
      or-true true = refl
      or-true false = refl

  pub still-reads : (l : ℕ × Mark) (c : FileCommand) → Contains numbered l → IsMarkRead old l c → IsMarkRead new l c
  still-reads l c has r =
      let (k, at) = numbered-there 1 old l.0 l.1 has in
      record { line = r.line; block = r.block; within = r.within; stands = still-within k l.1 at (is_top_mark l.1) refl r.within r.stands; reads = r.reads }

  pub reads-other : (c : FileCommand) (r : IsMarkRead old (1 + place, m) c) (other : Command) → ReadBy (is_extended_block r.within) ws (rows r.within) other →
      IsMarkRead new (1 + place, mark_worded ws m) (command_at c.line c.block other)
  reads-other c r other reads = record { line = r.line; block = r.block; within = r.within; stands = still-within place m there (is_top_mark m) refl r.within r.stands; reads = reads }

pub a-replaced-line : AReplacedLineHasAnotherCommand
a-replaced-line old new lines more place m ws commands has are =
    let marks = line_marks old lines in
    let after = line_marks new more in
    let Old : ℕ × Mark → FileCommand → Type 0 = IsMarkRead marks in
    let New : ℕ × Mark → FileCommand → Type 0 = IsMarkRead after in
    let blocks = λ (k : ℕ) (x : Mark) (at : slice_get marks k ≡ Some x) (some : x.block ≢ 0). blocks-have-heads old lines k x has.old_lines at some in
    let numbered = numbered_marks marks in
    let before = filter says (take place numbered) in
    let behind = filter says (drop (suc place) numbered) in
    let read : AreMarksRead marks commands = (commands-of-marks old lines commands).0 are in
    let told : says (1 + place, m) ≡ true = ap not has.says in
    let rows_old : command_marks marks ≡ before ++ (1 + place, m) ∷ behind =
    ap (filter says) (parts-old marks after place m ws has.rows has.at_place has.no_head blocks) ∙ filter-append says (take place numbered) ((1 + place, m) ∷ drop (suc place) numbered)
    ∙ ap (λ ls. before ++ ls) (cond-true (says (1 + place, m)) ((1 + place, m) ∷ behind) behind told) in
    let rows_new : command_marks after ≡ before ++ (1 + place, mark_worded ws m) ∷ behind =
    ap (filter says) (parts-new marks after place m ws has.rows has.at_place has.no_head blocks) ∙ filter-append says (take place numbered) ((1 + place, mark_worded ws m) ∷ drop (suc place) numbered)
    ∙ ap (λ ls. before ++ ls) (cond-true (says (1 + place, m)) ((1 + place, mark_worded ws m) ∷ behind) behind told) in
    let (front, back, split, first, second) = zip-split Old before ((1 + place, m) ∷ behind) commands (subst (λ (ls : List (ℕ × Mark)). AllZip Old ls commands) rows_old read) in
    let one = first-read Old (1 + place, m) behind back second in
    let whole : numbered ≡ take place numbered ++ (1 + place, m) ∷ drop (suc place) numbered = parts-old marks after place m ws has.rows has.at_place has.no_head blocks in
    let in_front = λ (l : ℕ × Mark) (there : Contains before l).
    subst (λ (ls : List (ℕ × Mark)). Contains ls l) (sym whole)
    (Contains-append_left (take place numbered) ((1 + place, m) ∷ drop (suc place) numbered) l (from_filter says (take place numbered) l there).0) in
    let in_back = λ (l : ℕ × Mark) (there : Contains behind l).
    subst (λ (ls : List (ℕ × Mark)). Contains ls l) (sym whole)
    (Contains-append_right (take place numbered) ((1 + place, m) ∷ drop (suc place) numbered) l
    (Contains-tail (1 + place, m) l (drop (suc place) numbered) (from_filter says (drop (suc place) numbered) l there).0)) in
    let still = still-reads marks after place m ws has.rows has.at_place has.no_head blocks in
    let line : 1 + place ≡ place + 1 = omega arith in
    record {
      front = front;
      command = one.first;
      back = one.rest;
      split = split ∙ ap (λ cs. front ++ cs) one.is;
      line = one.this.line ∙ line;
      block = one.this.block;
      within = one.this.within;
      stands = one.this.stands;
      reads = one.this.reads;
      other = λ c reads. (commands-of-marks new more (front ++ command_at one.first.line one.first.block c ∷ one.rest)).1
          (subst (λ (ls : List (ℕ × Mark)). AllZip New ls (front ++ command_at one.first.line one.first.block c ∷ one.rest)) (sym rows_new)
          (zip-join New before ((1 + place, mark_worded ws m) ∷ behind) front (command_at one.first.line one.first.block c ∷ one.rest)
          (zip-in Old New before front (λ l d there r. still l d (in_front l there) r) first) (
            reads-other marks after place m ws has.rows has.at_place has.no_head blocks one.first one.this c reads,
            zip-in Old New behind one.rest (λ l d there r. still l d (in_back l there) r) one.others,
          )));
    }
