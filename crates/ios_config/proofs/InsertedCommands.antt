-- The commands of a text into which a line is inserted.
use Rattle.std.proofs.Common.{◌≡◌, ℕ, zero, suc, ◌+◌, ◌<◌, ◌≤◌, ◌==◌, ◌||◌, nat_le, not, Bool, true, false, cond, List, []}
use Rattle.std.proofs.Common.{◌∷◌, ◌++◌, length, take, drop, map, filter, refl, sym, ap, subst, ◌∙◌, arith, ⊎_elim, Contains, MatchBool, min}
use Rattle.std.proofs.lemmas.Bool.{cases_Bool, cases_lt, cond-true, cond-false, ne_eqb, leb-true, le-leb}
use Rattle.std.proofs.lemmas.List.{take-append-drop, map-append, take-map, drop-map}
use Rattle.std.proofs.lemmas.List.Elements.{filter-append, Contains-append_left, Contains-append_right, Contains-append_cases}
use Rattle.std.specs.List.{AllZip, AllByRecursion, enumerate_from}
use Rattle.arc_base.proofs.Items.{Contains-map, Contains-tail}
use Rattle.ios_lines.specs.Views.{Mark, line_marks}
use Rattle.ios_lines.specs.Changes.{inserted, moved, mark_moved}
use Rattle.ios_lines.proofs.Insertions.{moved-low, moved-high}
use Rattle.ios_words.specs.declared.kinds.BlockKind.{BlockKind}
use Rattle.ios_words.specs.declared.kinds.BlockKind.TheVariants as kinds
use Rattle.ios_config.specs.declared.commands.FileCommand.{FileCommand}
use Rattle.ios_config.specs.Inserted.{numbered_marks, command_marks, MarkOpens, is_top_mark, IsMarkRead}
use Rattle.ios_config.specs.Inserted.{AreMarksRead, command_moved, with_command, AnInertLineLeavesCommands, AnInsertedLineAddsItsCommand}
use Rattle.ios_config.specs.Effects.{Split, CommandsAreSplit}
use Rattle.ios_config.proofs.MarkCommands.{commands-of-marks}

-- a numbered row with its numbers moved
abbrev moved_mark : ℕ → ℕ × Mark → ℕ × Mark
moved_mark place l = (moved place l.0, mark_moved place l.1)

enumerate-high : (place n : ℕ) (marks : List Mark) → place < n → enumerate_from (n + 1) (map (mark_moved place) marks) ≡ map (moved_mark place) (enumerate_from n marks)
enumerate-high place n [] high = refl
enumerate-high place n (m ∷ marks) high =
    ap (λ (k : ℕ). (k, mark_moved place m) ∷ enumerate_from (n + 1 + 1) (map (mark_moved place) marks)) (sym (moved-high place n high))
    ∙ ap (λ rest. moved_mark place (n, m) ∷ rest) (enumerate-high place (n + 1) marks (omega arith))

-- the rows of the new text with their numbers
enumerate-inserted : (place n k : ℕ) (m : Mark) (marks : List Mark) → n + k ≡ place + 1 →
    enumerate_from n (inserted k m (map (mark_moved place) marks)) ≡ inserted k (n + min k (length marks), m) (map (moved_mark place) (enumerate_from n marks))
enumerate-inserted place n zero m marks is =
    ap (λ (j : ℕ). (j, m) ∷ enumerate_from (n + 1) (map (mark_moved place) marks)) (omega arith) ∙ ap (λ rest. (n + min 0 (length marks), m) ∷ rest) (enumerate-high place n marks (omega arith))
enumerate-inserted place n (suc k) m [] is = ap (λ (j : ℕ). (j, m) ∷ []) (omega arith)
enumerate-inserted place n (suc k) m (x ∷ marks) is =
    ap (λ (j : ℕ). (j, mark_moved place x) ∷ enumerate_from (n + 1) (inserted k m (map (mark_moved place) marks))) (sym (moved-low place n (omega arith)))
    ∙ ap (λ rest. moved_mark place (n, x) ∷ rest) (enumerate-inserted place (n + 1) k m marks (omega arith))
    ∙ ap (λ (j : ℕ). moved_mark place (n, x) ∷ inserted k (j, m) (map (moved_mark place) (enumerate_from (n + 1) marks))) (omega arith)

contains-inserted : {A : Type 0} → (k : ℕ) (y : A) (xs : List A) (x : A) → Contains xs x → Contains (inserted k y xs) x
contains-inserted k y xs x has = ⊎_elim
    (λ front. Contains-append_left (take k xs) (y ∷ drop k xs) x front)
    (λ back. Contains-append_right (take k xs) (y ∷ drop k xs) x (Contains-tail y x (drop k xs) back))
    (Contains-append_cases (take k xs) (drop k xs) x (subst (λ ys. Contains ys x) (sym (take-append-drop k xs)) has))

-- the other rows open and read what they did
module _ (place : ℕ) (m : Mark) (old new : List Mark) (are : new ≡ inserted place m (map (mark_moved place) old)) where
  still-there : (number : ℕ) (head : Mark) → Contains (numbered_marks old) (number, head) → Contains (numbered_marks new) (moved place number, mark_moved place head)
  still-there number head has =
      subst (λ (ls : List (ℕ × Mark)). Contains ls (moved place number, mark_moved place head)) (sym (ap (enumerate_from 1) are ∙ enumerate-inserted place 1 place m old (omega arith)))
      (contains-inserted place (1 + min place (length old), m) (map (moved_mark place) (numbered_marks old)) (moved_mark place (number, head))
      (Contains-map (moved_mark place) (numbered_marks old) (number, head) has))

  pub still-opens : (number : ℕ) (kind : BlockKind) → MarkOpens old number kind → MarkOpens new (moved place number) kind
  still-opens number kind o = record { head = mark_moved place o.head; at_number = still-there number o.head o.at_number; command = o.command; reads = o.reads; opens = o.opens }

  still-none : (block : ℕ) → (moved place block == 0) ≡ (block == 0)
  still-none block = ⊎_elim
      (λ high. ap (λ n. n == 0) (moved-high place block high) ∙ ne_eqb (block + 1) 0 (omega arith) ∙ sym (ne_eqb block 0 (omega arith)))
      (λ low. ap (λ n. n == 0) (moved-low place block low))
      (cases_lt place block)

  still-within : (b : Bool) (block : ℕ) (kind : BlockKind) → MatchBool b (kind ≡ kinds.Top) (MarkOpens old block kind) → MatchBool b (kind ≡ kinds.Top) (MarkOpens new (moved place block) kind)
  still-within true block kind is = is
  still-within false block kind is = still-opens block kind is

  pub still-read : (l : ℕ × Mark) (c : FileCommand) → IsMarkRead old l c → IsMarkRead new (moved_mark place l) (command_moved place c)
  still-read l c r = record {
    line = ap (moved place) r.line;
    block = ap (moved place) r.block;
    within = r.within;
    stands = subst (λ b. MatchBool b (r.within ≡ kinds.Top) (MarkOpens new (moved place l.1.block) r.within)) (ap (λ b. l.1.head || b) (sym (still-none l.1.block)))
        (still-within (is_top_mark l.1) l.1.block r.within r.stands);
    reads = r.reads;
  }

-- items of two lists that go together, in two parts
pub zip-split : {A B : Type 0} → (R : A → B → Type 0) (xs ys : List A) (cs : List B) → AllZip R (xs ++ ys) cs →
    (front : List B) × (back : List B) × (cs ≡ front ++ back) × AllZip R xs front × AllZip R ys back
zip-split R [] ys cs all = ([], cs, refl, tt, all)
zip-split R (x ∷ xs) ys [] all = absurd all
zip-split R (x ∷ xs) ys (c ∷ cs) all = let deeper = zip-split R xs ys cs all.1 in (c ∷ deeper.0, deeper.1, ap (λ rest. c ∷ rest) deeper.2, (all.0, deeper.3), deeper.4)

pub zip-join : {A B : Type 0} → (R : A → B → Type 0) (xs ys : List A) (cs ds : List B) → AllZip R xs cs → AllZip R ys ds → AllZip R (xs ++ ys) (cs ++ ds)
zip-join R [] ys [] ds one two = two
zip-join R [] ys (c ∷ cs) ds one two = absurd one
zip-join R (x ∷ xs) ys [] ds one two = absurd one
zip-join R (x ∷ xs) ys (c ∷ cs) ds one two = (one.0, zip-join R xs ys cs ds one.1 two)

zip-both : {A B C D : Type 0} → (R : A → B → Type 0) (S : C → D → Type 0) (f : A → C) (g : B → D) (xs : List A) (cs : List B) →
    ((x : A) (c : B) → R x c → S (f x) (g c)) → AllZip R xs cs → AllZip S (map f xs) (map g cs)
zip-both R S f g [] [] each all = tt
zip-both R S f g [] (c ∷ cs) each all = all
zip-both R S f g (x ∷ xs) [] each all = all
zip-both R S f g (x ∷ xs) (c ∷ cs) each all = (each x c all.0, zip-both R S f g xs cs each all.1)

-- what holds of items holds of those that go with them
zip-all : {A B : Type 0} → (R : A → B → Type 0) (P : A → Type 0) (Q : B → Type 0) (xs : List A) (cs : List B) → ((x : A) (c : B) → R x c → P x → Q c) →
    AllZip R xs cs → AllByRecursion P xs → AllByRecursion Q cs
zip-all R P Q [] [] each all holds = tt
zip-all R P Q [] (c ∷ cs) each all holds = absurd all
zip-all R P Q (x ∷ xs) [] each all holds = absurd all
zip-all R P Q (x ∷ xs) (c ∷ cs) each all holds = (each x c all.0 holds.0, zip-all R P Q xs cs each all.1 holds.1)

-- rows that say something
abbrev pub says : ℕ × Mark → Bool
says l = not l.1.inert

filter-step : {A : Type 0} → (P : A → Type 0) (x : A) (xs : List A) (b : Bool) → P x → AllByRecursion P xs → AllByRecursion P (cond b (x ∷ xs) xs)
filter-step P x xs true one rest = (one, rest)
filter-step P x xs false one rest = rest

filter-all : {A : Type 0} → (P : A → Type 0) (p : A → Bool) (xs : List A) → AllByRecursion P xs → AllByRecursion P (filter p xs)
filter-all P p [] all = tt
filter-all P p (x ∷ xs) all = filter-step P x (filter p xs) (p x) all.0 (filter-all P p xs all.1)

map-step : (place : ℕ) (l : ℕ × Mark) (ls : List (ℕ × Mark)) (b : Bool) → filter says (map (moved_mark place) ls) ≡ map (moved_mark place) (filter says ls) →
    cond b (moved_mark place l ∷ filter says (map (moved_mark place) ls)) (filter says (map (moved_mark place) ls)) ≡ map (moved_mark place) (cond b (l ∷ filter says ls) (filter says ls))
map-step place l ls true rest = ap (λ r. moved_mark place l ∷ r) rest
map-step place l ls false rest = rest

filter-moved : (place : ℕ) (ls : List (ℕ × Mark)) → filter says (map (moved_mark place) ls) ≡ map (moved_mark place) (filter says ls)
filter-moved place [] = refl
filter-moved place (l ∷ ls) = map-step place l ls (says l) (filter-moved place ls)

-- numbers before a place and after it
take-numbers : (n k : ℕ) (marks : List Mark) → AllByRecursion (λ (l : ℕ × Mark). l.0 < n + k) (take k (enumerate_from n marks))
take-numbers n zero marks = tt
take-numbers n (suc k) [] = tt
take-numbers n (suc k) (m ∷ marks) = (omega arith, subst (λ b. AllByRecursion (λ (l : ℕ × Mark). l.0 < b) (take k (enumerate_from (n + 1) marks))) (omega arith) (take-numbers (n + 1) k marks))

from-number : (n low : ℕ) (marks : List Mark) → low ≤ n → AllByRecursion (λ (l : ℕ × Mark). low ≤ l.0) (enumerate_from n marks)
from-number n low [] high = tt
from-number n low (m ∷ marks) high = (high, from-number (n + 1) low marks (omega arith))

drop-numbers : (n k : ℕ) (marks : List Mark) → AllByRecursion (λ (l : ℕ × Mark). n + k ≤ l.0) (drop k (enumerate_from n marks))
drop-numbers n zero marks = from-number n (n + 0) marks (omega arith)
drop-numbers n (suc k) [] = tt
drop-numbers n (suc k) (m ∷ marks) = subst (λ b. AllByRecursion (λ (l : ℕ × Mark). b ≤ l.0) (drop k (enumerate_from (n + 1) marks))) (omega arith) (drop-numbers (n + 1) k marks)

-- commands in two parts
with-split : (place : ℕ) (c : FileCommand) (front back : List FileCommand) → AllByRecursion (λ (d : FileCommand). d.line ≤ place) front → AllByRecursion (λ (d : FileCommand). place < d.line) back →
    with_command place c (front ++ back) ≡ map (command_moved place) front ++ c ∷ map (command_moved place) back
with-split place c [] [] low high = refl
with-split place c [] (d ∷ back) low high = cond-false _ _ _
    (⊎_elim (λ below. let under = leb-true d.line place below in let over = high.0 in absurd (omega arith)) (λ other. other) (cases_Bool (nat_le d.line place)))
with-split place c (d ∷ front) back low high = cond-true _ _ _ (le-leb d.line place low.0) ∙ ap (λ rest. command_moved place d ∷ rest) (with-split place c front back low.1 high)

module _ (place : ℕ) (m : Mark) (old new : List Mark) (cs : List FileCommand) (within : place ≤ length old) (are : new ≡ inserted place m (map (mark_moved place) old))
    (read : AreMarksRead old cs) where
  abbrev numbered : List (ℕ × Mark)
  numbered = numbered_marks old

  abbrev Old : ℕ × Mark → FileCommand → Type 0
  Old = IsMarkRead old

  abbrev New : ℕ × Mark → FileCommand → Type 0
  New = IsMarkRead new

  -- the rows of the new text that say something
  rows-new : command_marks new ≡ map (moved_mark place) (filter says (take place numbered)) ++ filter says ((place + 1, m) ∷ map (moved_mark place) (drop place numbered))
  rows-new =
      let first : 1 + min place (length old) ≡ place + 1 = omega arith in
      ap (λ ms. filter says (enumerate_from 1 ms)) are
      ∙ ap (filter says) (enumerate-inserted place 1 place m old (omega arith))
      ∙ ap (λ (n : ℕ). filter says (inserted place (n, m) (map (moved_mark place) numbered))) first
      ∙ filter-append says (take place (map (moved_mark place) numbered)) ((place + 1, m) ∷ drop place (map (moved_mark place) numbered))
      ∙ ap (λ ls. filter says ls ++ filter says ((place + 1, m) ∷ drop place (map (moved_mark place) numbered))) (take-map (moved_mark place) place numbered)
      ∙ ap (λ ls. filter says (map (moved_mark place) (take place numbered)) ++ filter says ((place + 1, m) ∷ ls)) (drop-map (moved_mark place) place numbered)
      ∙ ap (λ ls. ls ++ filter says ((place + 1, m) ∷ map (moved_mark place) (drop place numbered))) (filter-moved place (take place numbered))

  abbrev Parts : Type 0
  Parts = (front : List FileCommand) × (back : List FileCommand) × (cs ≡ front ++ back) × AllZip Old (filter says (take place numbered)) front × AllZip Old (filter says (drop place numbered)) back

  parts : Parts
  parts = zip-split Old (filter says (take place numbered)) (filter says (drop place numbered)) cs
      (subst (λ (ls : List (ℕ × Mark)). AllZip Old ls cs) (ap (filter says) (sym (take-append-drop place numbered)) ∙ filter-append says (take place numbered) (drop place numbered)) read)

  pub with-one : m.inert ≡ false → (c : FileCommand) → IsMarkRead new (place + 1, m) c → AreMarksRead new (with_command place c cs)
  with-one told c this =
      let (front, back, split, first, second) = parts in
      let low : AllByRecursion (λ (d : FileCommand). d.line ≤ place) front =
      zip-all Old (λ (l : ℕ × Mark). l.0 < 1 + place) (λ (d : FileCommand). d.line ≤ place) (filter says (take place numbered)) front
      (λ l d r below. let line = r.line in omega arith) first (filter-all _ says (take place numbered) (take-numbers 1 place old)) in
      let high : AllByRecursion (λ (d : FileCommand). place < d.line) back =
      zip-all Old (λ (l : ℕ × Mark). 1 + place ≤ l.0) (λ (d : FileCommand). place < d.line) (filter says (drop place numbered)) back
      (λ l d r above. let line = r.line in omega arith) second (filter-all _ says (drop place numbered) (drop-numbers 1 place old)) in
      let rest : filter says ((place + 1, m) ∷ map (moved_mark place) (drop place numbered)) ≡ (place + 1, m) ∷ map (moved_mark place) (filter says (drop place numbered)) =
      cond-true (not m.inert) _ _ (ap not told) ∙ ap (λ ls. (place + 1, m) ∷ ls) (filter-moved place (drop place numbered)) in
      let all : AllZip New (map (moved_mark place) (filter says (take place numbered)) ++ (place + 1, m) ∷ map (moved_mark place) (filter says (drop place numbered)))
      (map (command_moved place) front ++ c ∷ map (command_moved place) back) =
      zip-join New (map (moved_mark place) (filter says (take place numbered))) ((place + 1, m) ∷ map (moved_mark place) (filter says (drop place numbered)))
      (map (command_moved place) front) (c ∷ map (command_moved place) back)
      (zip-both Old New (moved_mark place) (command_moved place) (filter says (take place numbered)) front (still-read place m old new are) first)
      (this, zip-both Old New (moved_mark place) (command_moved place) (filter says (drop place numbered)) back (still-read place m old new are) second) in
      subst (AllZip New (command_marks new)) (sym (ap (with_command place c) split ∙ with-split place c front back low high))
      (subst (λ (ls : List (ℕ × Mark)). AllZip New ls (map (command_moved place) front ++ c ∷ map (command_moved place) back))
      (sym (rows-new ∙ ap (λ ls. map (moved_mark place) (filter says (take place numbered)) ++ ls) rest)) all)

  pub with-none : m.inert ≡ true → AreMarksRead new (map (command_moved place) cs)
  with-none silent =
      let (front, back, split, first, second) = parts in
      let rest : filter says ((place + 1, m) ∷ map (moved_mark place) (drop place numbered)) ≡ map (moved_mark place) (filter says (drop place numbered)) =
      cond-false (not m.inert) _ _ (ap not silent) ∙ filter-moved place (drop place numbered) in
      let all : AllZip New (map (moved_mark place) (filter says (take place numbered)) ++ map (moved_mark place) (filter says (drop place numbered)))
      (map (command_moved place) front ++ map (command_moved place) back) =
      zip-join New (map (moved_mark place) (filter says (take place numbered))) (map (moved_mark place) (filter says (drop place numbered))) (map
      (command_moved place) front) (map (command_moved place) back)
      (zip-both Old New (moved_mark place) (command_moved place) (filter says (take place numbered)) front (still-read place m old new are) first)
      (zip-both Old New (moved_mark place) (command_moved place) (filter says (drop place numbered)) back (still-read place m old new are) second) in
      subst (AllZip New (command_marks new)) (sym (ap (map (command_moved place)) split ∙ map-append (command_moved place) front back))
      (subst (λ (ls : List (ℕ × Mark)). AllZip New ls (map (command_moved place) front ++ map (command_moved place) back))
      (sym (rows-new ∙ ap (λ ls. map (moved_mark place) (filter says (take place numbered)) ++ ls) rest)) all)

pub an-inert-line : AnInertLineLeavesCommands
an-inert-line old new lines more place m commands one silent are =
    (commands-of-marks new more (map (command_moved place) commands)).1
    (with-none place m (line_marks old lines) (line_marks new more) commands one.within one.rows ((commands-of-marks old lines commands).0 are) silent)

pub an-inserted-line : AnInsertedLineAddsItsCommand
an-inserted-line old new lines more place m c commands one told this are =
    (commands-of-marks new more (with_command place c commands)).1
    (with-one place m (line_marks old lines) (line_marks new more) commands one.within one.rows ((commands-of-marks old lines commands).0 are) told c this)

-- the commands of rows are those before a place and those after it
pub marks-split : (marks : List Mark) (cs : List FileCommand) (place : ℕ) → AreMarksRead marks cs → Split place cs
marks-split marks cs place read =
    let numbered = numbered_marks marks in
    let Reads : ℕ × Mark → FileCommand → Type 0 = IsMarkRead marks in
    let (front, back, split, first, second) = zip-split Reads (filter says (take place numbered)) (filter says (drop place numbered)) cs
    (subst (λ (ls : List (ℕ × Mark)). AllZip Reads ls cs) (ap (filter says) (sym (take-append-drop place numbered)) ∙ filter-append says (take place numbered) (drop place numbered)) read) in
    let low : AllByRecursion (λ (d : FileCommand). d.line ≤ place) front =
    zip-all Reads (λ (l : ℕ × Mark). l.0 < 1 + place) (λ (d : FileCommand). d.line ≤ place) (filter says (take place numbered)) front
    (λ l d r below. let line = r.line in omega arith) first (filter-all _ says (take place numbered) (take-numbers 1 place marks)) in
    let high : AllByRecursion (λ (d : FileCommand). place < d.line) back =
    zip-all Reads (λ (l : ℕ × Mark). 1 + place ≤ l.0) (λ (d : FileCommand). place < d.line) (filter says (drop place numbered)) back
    (λ l d r above. let line = r.line in omega arith) second (filter-all _ says (drop place numbered) (drop-numbers 1 place marks)) in
    record {
      front = front;
      back = back;
      parts = split;
      low = low;
      high = high;
      with_one = λ c. ap (with_command place c) split ∙ with-split place c front back low high;
    }

pub commands-split : CommandsAreSplit
commands-split text lines cs place are = marks-split (line_marks text lines) cs place ((commands-of-marks text lines cs).0 are)
