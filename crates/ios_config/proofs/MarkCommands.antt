-- The commands of a text are those of what its rows say.
use Rattle.std.proofs.Common.{◌≡◌, ℕ, ◌+◌, ◌==◌, ◌||◌, not, Bool, true, false, cond, List, [], ◌∷◌, map, filter, refl, sym, ap, subst, ◌∙◌, Contains, MatchBool}
use Rattle.std.specs.List.{AllZip, enumerate_from}
use Rattle.arc_base.proofs.Items.{Contains-map, from_map}
use Rattle.ios_lines.specs.declared.line.Line.{Line}
use Rattle.ios_lines.specs.declared.line.Lines.{Lines}
use Rattle.ios_lines.specs.Views.{Mark, mark_of, line_marks}
use Rattle.ios_words.specs.declared.kinds.BlockKind.{BlockKind}
use Rattle.ios_words.specs.declared.kinds.BlockKind.TheVariants as kinds
use Rattle.ios_words.specs.Commands.{ReadBy}
use Rattle.ios_words.specs.Language.{rows}
use Rattle.ios_config.specs.declared.commands.FileCommand.{FileCommand}
use Rattle.ios_config.specs.Commands.{numbered, command_lines, Opens, IsReadAs}
use Rattle.ios_config.specs.Inserted.{command_marks, MarkOpens, IsMarkRead, CommandsAreOfMarks}

-- a numbered row and what it says
abbrev numbered_mark : List ℕ → ℕ × Line → ℕ × Mark
numbered_mark text l = (l.0, mark_of text l.1)

enumerate-map : (text : List ℕ) (n : ℕ) (rows : List Line) → enumerate_from n (map (mark_of text) rows) ≡ map (numbered_mark text) (enumerate_from n rows)
enumerate-map text n [] = refl
enumerate-map text n (row ∷ rows) = ap (λ rest. (n, mark_of text row) ∷ rest) (enumerate-map text (n + 1) rows)

opens-mark : (text : List ℕ) (lines : Lines) (number : ℕ) (kind : BlockKind) → Opens text lines number kind → MarkOpens (line_marks text lines) number kind
opens-mark text lines number kind o = record {
  head = mark_of text o.head;
  at_number = subst (λ (ls : List (ℕ × Mark)). Contains ls (number, mark_of text o.head)) (sym (enumerate-map text 1 lines.rows))
      (Contains-map (numbered_mark text) (numbered lines) (number, o.head) o.at_number);
  command = o.command;
  reads = o.reads;
  opens = o.opens;
}

mark-opens : (text : List ℕ) (lines : Lines) (number : ℕ) (kind : BlockKind) → MarkOpens (line_marks text lines) number kind → Opens text lines number kind
mark-opens text lines number kind o =
    let found = from_map (numbered_mark text) (numbered lines) (number, o.head) (subst (λ (ls : List (ℕ × Mark)). Contains ls (number, o.head)) (enumerate-map text 1 lines.rows) o.at_number) in
    let same_number : found.0.0 ≡ number = ap (λ (p : ℕ × Mark). p.0) found.2 in
    let same_head : mark_of text found.0.1 ≡ o.head = ap (λ (p : ℕ × Mark). p.1) found.2 in
    record {
      head = found.0.1;
      at_number = subst (λ (n : ℕ). Contains (numbered lines) (n, found.0.1)) same_number found.1;
      command = o.command;
      reads = subst (λ (m : Mark). ReadBy false m.words (rows kinds.Top) o.command) (sym same_head) o.reads;
      opens = o.opens;
    }

within-mark : (b : Bool) (text : List ℕ) (lines : Lines) (block : ℕ) (kind : BlockKind) → MatchBool b (kind ≡ kinds.Top) (Opens text lines block kind) →
    MatchBool b (kind ≡ kinds.Top) (MarkOpens (line_marks text lines) block kind)
within-mark true text lines block kind is = is
within-mark false text lines block kind is = opens-mark text lines block kind is

mark-within : (b : Bool) (text : List ℕ) (lines : Lines) (block : ℕ) (kind : BlockKind) →
    MatchBool b (kind ≡ kinds.Top) (MarkOpens (line_marks text lines) block kind) → MatchBool b (kind ≡ kinds.Top) (Opens text lines block kind)
mark-within true text lines block kind is = is
mark-within false text lines block kind is = mark-opens text lines block kind is

read-mark : (text : List ℕ) (lines : Lines) (l : ℕ × Line) (c : FileCommand) → IsReadAs text lines l c → IsMarkRead (line_marks text lines) (numbered_mark text l) c
read-mark text lines l c r = record { line = r.line; block = r.block; within = r.within; stands = within-mark (l.1.head || (l.1.block == 0)) text lines l.1.block r.within r.stands; reads = r.reads }

mark-read : (text : List ℕ) (lines : Lines) (l : ℕ × Line) (c : FileCommand) → IsMarkRead (line_marks text lines) (numbered_mark text l) c → IsReadAs text lines l c
mark-read text lines l c r = record { line = r.line; block = r.block; within = r.within; stands = mark-within (l.1.head || (l.1.block == 0)) text lines l.1.block r.within r.stands; reads = r.reads }

-- the rows that say something, and what they say
filter-step : (text : List ℕ) (l : ℕ × Line) (ls : List (ℕ × Line)) (b : Bool) → filter (λ m. not m.1.inert) (map (numbered_mark text) ls) ≡ map (numbered_mark text) (filter (λ m. not m.1.inert) ls) →
    cond b (numbered_mark text l ∷ filter (λ m. not m.1.inert) (map (numbered_mark text) ls)) (filter (λ m. not m.1.inert) (map (numbered_mark text) ls)) ≡ map (numbered_mark text)
    (cond b (l ∷ filter (λ m. not m.1.inert) ls) (filter (λ m. not m.1.inert) ls))
filter-step text l ls true rest = ap (λ r. numbered_mark text l ∷ r) rest
filter-step text l ls false rest = rest

filter-mark : (text : List ℕ) (ls : List (ℕ × Line)) → filter (λ l. not l.1.inert) (map (numbered_mark text) ls) ≡ map (numbered_mark text) (filter (λ l. not l.1.inert) ls)
filter-mark text [] = refl
filter-mark text (l ∷ ls) = filter-step text l ls (not l.1.inert) (filter-mark text ls)

pub command-marks : (text : List ℕ) (lines : Lines) → command_marks (line_marks text lines) ≡ map (numbered_mark text) (command_lines lines)
command-marks text lines = ap (filter (λ l. not l.1.inert)) (enumerate-map text 1 lines.rows) ∙ filter-mark text (numbered lines)

-- what holds of items holds of what is made of them
zip-map : {A B C : Type 0} → (R : A → C → Type 0) (S : B → C → Type 0) (f : A → B) (xs : List A) (ys : List C) → ((x : A) (y : C) → R x y → S (f x) y) → AllZip R xs ys → AllZip S (map f xs) ys
zip-map R S f [] [] each all = tt
zip-map R S f [] (y ∷ ys) each all = all
zip-map R S f (x ∷ xs) [] each all = all
zip-map R S f (x ∷ xs) (y ∷ ys) each all = (each x y all.0, zip-map R S f xs ys each all.1)

zip-unmap : {A B C : Type 0} → (R : A → C → Type 0) (S : B → C → Type 0) (f : A → B) (xs : List A) (ys : List C) → ((x : A) (y : C) → S (f x) y → R x y) → AllZip S (map f xs) ys → AllZip R xs ys
zip-unmap R S f [] [] each all = tt
zip-unmap R S f [] (y ∷ ys) each all = all
zip-unmap R S f (x ∷ xs) [] each all = all
zip-unmap R S f (x ∷ xs) (y ∷ ys) each all = (each x y all.0, zip-unmap R S f xs ys each all.1)

pub commands-of-marks : CommandsAreOfMarks
commands-of-marks text lines commands = (
  λ are. subst (λ (ls : List (ℕ × Mark)). AllZip (IsMarkRead (line_marks text lines)) ls commands) (sym (command-marks text lines))
      (zip-map (IsReadAs text lines) (IsMarkRead (line_marks text lines)) (numbered_mark text) (command_lines lines) commands (read-mark text lines) are),
  λ read. zip-unmap (IsReadAs text lines) (IsMarkRead (line_marks text lines)) (numbered_mark text) (command_lines lines) commands (mark-read text lines)
      (subst (λ (ls : List (ℕ × Mark)). AllZip (IsMarkRead (line_marks text lines)) ls commands) (command-marks text lines) read),
)
