-- The lines of a text whose rows have lines put between them.
use Rattle.std.proofs.Common.{◌≡◌, ℕ, suc, ◌+◌, ◌-◌, ◌<◌, ◌==◌, inl, inr, Bool, true, false, List, [], ◌∷◌, ◌++◌, length, map, refl, sym, ap, subst, ◌∙◌, arith, ⊎_elim, append_assoc}
use Rattle.std.proofs.Common.{append-nil, length-append, ◌&&◌, if◌then◌else◌}
use Rattle.std.specs.Prelude.{slice_index}
use Rattle.std.specs.List.{AllByRecursion, flat_map, enumerate_from}
use Rattle.std.proofs.lemmas.List.{map-append}
use Rattle.std.proofs.lemmas.Bool.{cases_Bool, eqb-true, eqb-false, ne_eqb}
use Rattle.std.proofs.lemmas.List.Concat.{flat_map-append}
use Rattle.ios_lines.specs.Ended.{Ended, IsEnded, IsFree, HasNoReturn, AreEnded, text_of}
use Rattle.ios_lines.specs.declared.line.Line.{Line}
use Rattle.ios_lines.proofs.EndedLines.{ended-append, front-at}
use Rattle.arc_base.specs.Numbered.{of_number}
use Rattle.line_patcher.specs.declared.additions.NewNumber.{NewNumber}
use Rattle.patch_laws.specs.Fits.{IsFit, IsLineEnd, ends_with_return, without_last, parted, hanging, hung_line, row_line, Fits}
use Rattle.line_patcher.specs.Patches.{end_of, row_bytes, ended, following, patched_row}

pub fit-ended : (end line : List ℕ) → IsLineEnd end → IsFit line → IsEnded (record { line = line; end = end })
fit-ended end line is fit = record { free = fit.free; ends = ⊎_elim (λ (feed : end ≡ 10 ∷ []). inl (feed, fit.no_return)) (λ (both : end ≡ 13 ∷ 10 ∷ []). inr both) is }

-- lines that are each ended
abbrev pub all_ended : List ℕ → List (List ℕ) → List Ended
all_ended end lines = map (λ (line : List ℕ). record { line = line; end = end }) lines

pub ended-all : (end : List ℕ) (lines : List (List ℕ)) → IsLineEnd end → AllByRecursion IsFit lines → AllByRecursion IsEnded (all_ended end lines)
ended-all end [] is fit = tt
ended-all end (line ∷ lines) is fit = (fit-ended end line is fit.0, ended-all end lines is fit.1)

pub ended-text : (end : List ℕ) (lines : List (List ℕ)) → text_of (all_ended end lines) ≡ ended end lines
ended-text end [] = refl
ended-text end (line ∷ lines) = ap (λ (t : List ℕ). (line ++ end) ++ t) (ended-text end lines)

pub ended-lines : (end : List ℕ) (lines : List (List ℕ)) → map (λ (l : Ended). l.line) (all_ended end lines) ≡ lines
ended-lines end [] = refl
ended-lines end (line ∷ lines) = ap (λ (ls : List (List ℕ)). line ∷ ls) (ended-lines end lines)

-- a line with a carriage return at its end, and one without
pub returned-line : (line : List ℕ) → ends_with_return line ≡ true → line ≡ without_last line ++ 13 ∷ []
returned-line [] is = absurd cc
returned-line (b ∷ []) is = ap (λ (n : ℕ). n ∷ []) (eqb-true b 13 is)
returned-line (b ∷ c ∷ line) is = ap (λ (bs : List ℕ). b ∷ bs) (returned-line (c ∷ line) is)

last-later : (b c : ℕ) (line : List ℕ) → slice_index (b ∷ c ∷ line) (length (b ∷ c ∷ line) - 1) ≡ slice_index (c ∷ line) (length (c ∷ line) - 1)
last-later b c line = let place : length (b ∷ c ∷ line) - 1 ≡ suc (length (c ∷ line) - 1) = omega arith in ap (slice_index (b ∷ c ∷ line)) place

plain-line : (line : List ℕ) → ends_with_return line ≡ false → HasNoReturn line
plain-line [] is some here = omega arith
plain-line (b ∷ []) is some here = eqb-false b 13 is here
plain-line (b ∷ c ∷ line) is some here = plain-line (c ∷ line) is (omega arith) (sym (last-later b c line) ∙ here)

pub no-return : (line : List ℕ) → HasNoReturn line → ends_with_return line ≡ false
no-return [] plain = refl
no-return (b ∷ []) plain = ne_eqb b 13 (plain (omega arith))
no-return (b ∷ c ∷ line) plain = no-return (c ∷ line) (λ some here. plain (omega arith) (last-later b c line ∙ here))

free-front : (xs ys : List ℕ) → IsFree (xs ++ ys) → IsFree xs
free-front xs ys free place low feed = free place (let long = length-append xs ys in omega arith) (front-at xs ys place low ∙ feed)

-- a line that gains an end
abbrev pub parted_by : Bool → List ℕ → List ℕ → Ended
parted_by b end line = if b then record { line = without_last line; end = 13 ∷ end } else record { line = line; end = end }

parted-bytes : (end line : List ℕ) → (parted end line).line ++ (parted end line).end ≡ line ++ end
parted-bytes end line = by (ends_with_return line) (length end == 1) refl
  where
    by : (r one : Bool) → ends_with_return line ≡ r → (parted_by (r && one) end line).line ++ (parted_by (r && one) end line).end ≡ line ++ end
    by true true is = sym (append_assoc (without_last line) (13 ∷ []) end) ∙ ap (λ (bs : List ℕ). bs ++ end) (sym (returned-line line is))
    by true false is = refl
    by false one is = refl

pub parted-plain : (end line : List ℕ) → HasNoReturn line → parted end line ≡ record { line = line; end = end }
parted-plain end line plain = ap (λ (b : Bool). parted_by (b && (length end == 1)) end line) (no-return line plain)

parted-ended : (end line : List ℕ) → IsLineEnd end → IsFree line → IsEnded (parted end line)
parted-ended end line is free = by (ends_with_return line) refl is
  where
    by : (r : Bool) → ends_with_return line ≡ r → IsLineEnd end → IsEnded (parted_by (r && (length end == 1)) end line)
    by false e ends = record { free = free; ends = ⊎_elim (λ (feed : end ≡ 10 ∷ []). inl (feed, plain-line line e)) (λ (both : end ≡ 13 ∷ 10 ∷ []). inr both) ends }
    by true e (inl feed) = subst (λ (b : Bool). IsEnded (parted_by b end line)) (sym (ap (λ (bs : List ℕ). length bs == 1) feed))
        (record { free = free-front (without_last line) (13 ∷ []) (subst IsFree (returned-line line e) free); ends = inr (ap (λ (bs : List ℕ). 13 ∷ bs) feed) })
    by true e (inr both) = subst (λ (b : Bool). IsEnded (parted_by b end line)) (sym (ap (λ (bs : List ℕ). length bs == 1) both)) (record { free = free; ends = inr both })

pub hanging-text : (end line : List ℕ) (lines : List (List ℕ)) → text_of (hanging end line lines) ≡ line ++ flat_map (λ (l : List ℕ). end ++ l) lines
hanging-text end line [] = append-nil (line ++ [])
hanging-text end line (next ∷ lines) = ap (λ (t : List ℕ). ((parted end line).line ++ (parted end line).end) ++ t) (hanging-text end next lines)
    ∙ ap (λ (t : List ℕ). t ++ (next ++ flat_map (λ (l : List ℕ). end ++ l) lines)) (parted-bytes end line) ∙ append_assoc line end (next ++ flat_map (λ (l : List ℕ). end ++ l) lines)
    ∙ ap (λ (t : List ℕ). line ++ t) (sym (append_assoc end next (flat_map (λ (l : List ℕ). end ++ l) lines)))

-- a line without a carriage return is left as it is
pub hung-plain : (end line : List ℕ) (lines : List (List ℕ)) → HasNoReturn line → hung_line end line lines ≡ line
hung-plain end line [] plain = refl
hung-plain end line (next ∷ lines) plain = ap (λ (l : Ended). l.line) (parted-plain end line plain)

pub hanging-lines : (end line : List ℕ) (lines : List (List ℕ)) → AllByRecursion IsFit lines → map (λ (l : Ended). l.line) (hanging end line lines) ≡ hung_line end line lines ∷ lines
hanging-lines end line [] fit = refl
hanging-lines end line (next ∷ lines) fit = ap (λ (ls : List (List ℕ)). (parted end line).line ∷ ls)
    (hanging-lines end next lines fit.1 ∙ ap (λ (l : List ℕ). l ∷ lines) (hung-plain end next lines fit.0.no_return))

pub hanging-alone : (end line : List ℕ) → IsFree line → 0 < length line → AreEnded (hanging end line [])
hanging-alone end line free some = inr (record { free = free; none = refl; some = some })

pub hanging-ended : (end line : List ℕ) (lines : List (List ℕ)) → IsLineEnd end → IsFree line → 0 < length line → AllByRecursion IsFit lines → AreEnded (hanging end line lines)
hanging-ended end line [] is free some all = hanging-alone end line free some
hanging-ended end line (next ∷ []) is free some all = (parted-ended end line is free, inr (record { free = all.0.free; none = refl; some = all.0.some }))
hanging-ended end line (next ∷ more ∷ lines) is free some all = (parted-ended end line is free, hanging-ended end next (more ∷ lines) is all.0.free all.0.some all.1)

-- a row that has an end, with lines before it and after it; and one that has none
abbrev pub ended_around : List ℕ → Ended → List (List ℕ) → List (List ℕ) → List Ended
ended_around end row before after = all_ended end before ++ (row ∷ all_ended end after)

abbrev pub hanging_around : List ℕ → List ℕ → List (List ℕ) → List (List ℕ) → List Ended
hanging_around end line before after = all_ended end before ++ hanging end line after

-- each row but the last has an end
abbrev pub OnlyLastHangs : List Line → Type 0
OnlyLastHangs [] = Unit {0}
OnlyLastHangs (row ∷ []) = Unit {0}
OnlyLastHangs (row ∷ next ∷ rows) = ((row.end == 0) ≡ false) × OnlyLastHangs (next ∷ rows)

module _ (text end : List ℕ) (before : List (ℕ × List ℕ)) (numbers : List (ℕ × NewNumber)) (after : List (ℕ × List ℕ)) (is : IsLineEnd end) where
  -- the bytes of a row and those that end it
  abbrev bytes_at : ℕ × Line → List ℕ
  bytes_at row = row_bytes text row.1 (of_number row.0 numbers)

  abbrev row_at : ℕ × Line → Ended
  row_at row = record { line = bytes_at row; end = end_of text row.1 }

  -- the lines of the new file that stand for a row
  abbrev pub lines_for : ℕ × Line → List (List ℕ)
  lines_for row = of_number row.0 before ++ (row_line text end row.1 (of_number row.0 numbers) (of_number row.0 after) ∷ of_number row.0 after)

  abbrev around_by : Bool → ℕ × Line → List Ended
  around_by true row = hanging_around end (bytes_at row) (of_number row.0 before) (of_number row.0 after)
  around_by false row = ended_around end (row_at row) (of_number row.0 before) (of_number row.0 after)

  abbrev FitsHere : ℕ × Line → Type 0
  FitsHere row = Fits text end before numbers after row

  text-append : (xs ys : List Ended) → text_of (xs ++ ys) ≡ text_of xs ++ text_of ys
  text-append xs ys = flat_map-append (λ (l : Ended). l.line ++ l.end) xs ys

  bytes-append : (xs ys : List Ended) → map (λ (l : Ended). l.line) (xs ++ ys) ≡ map (λ (l : Ended). l.line) xs ++ map (λ (l : Ended). l.line) ys
  bytes-append xs ys = map-append (λ (l : Ended). l.line) xs ys

  text-by : (b : Bool) (row : ℕ × Line) → (row.1.end == 0) ≡ b → FitsHere row → text_of (around_by b row) ≡ patched_row text end before numbers after row
  text-by true row e fits =
      let tail : following end row.1.end (of_number row.0 after) ≡ flat_map (λ (l : List ℕ). end ++ l) (of_number row.0 after) =
      ap (λ (b : Bool). if b then flat_map (λ (l : List ℕ). end ++ l) (of_number row.0 after) else ended end (of_number row.0 after)) e in
      let front = ended end (of_number row.0 before) in
      text-append (all_ended end (of_number row.0 before)) (hanging end (bytes_at row) (of_number row.0 after)) ∙
      ap (λ (t : List ℕ). t ++ text_of (hanging end (bytes_at row) (of_number row.0 after))) (ended-text end (of_number row.0 before)) ∙
      ap (λ (t : List ℕ). front ++ t) (hanging-text end (bytes_at row) (of_number row.0 after)) ∙
      sym (append_assoc front (bytes_at row) (flat_map (λ (l : List ℕ). end ++ l) (of_number row.0 after))) ∙
      ap (λ (t : List ℕ). (front ++ bytes_at row) ++ t) (sym tail) ∙
      ap (λ (t : List ℕ). t ++ following end row.1.end (of_number row.0 after))
      (sym (append-nil (front ++ bytes_at row)) ∙ ap (λ (t : List ℕ). (front ++ bytes_at row) ++ t) (sym (fits.hanging_row e).0))
  text-by false row e fits =
      let tail : following end row.1.end (of_number row.0 after) ≡ ended end (of_number row.0 after) =
      ap (λ (b : Bool). if b then flat_map (λ (l : List ℕ). end ++ l) (of_number row.0 after) else ended end (of_number row.0 after)) e in
      let front = ended end (of_number row.0 before) in
      text-append (all_ended end (of_number row.0 before)) (row_at row ∷ all_ended end (of_number row.0 after)) ∙
      ap (λ (t : List ℕ). t ++ text_of (row_at row ∷ all_ended end (of_number row.0 after))) (ended-text end (of_number row.0 before)) ∙
      ap (λ (t : List ℕ). front ++ ((bytes_at row ++ end_of text row.1) ++ t)) (ended-text end (of_number row.0 after)) ∙
      sym (append_assoc front (bytes_at row ++ end_of text row.1) (ended end (of_number row.0 after))) ∙
      ap (λ (t : List ℕ). t ++ ended end (of_number row.0 after)) (sym (append_assoc front (bytes_at row) (end_of text row.1))) ∙
      ap (λ (t : List ℕ). ((front ++ bytes_at row) ++ end_of text row.1) ++ t) (sym tail)

  -- the line of a row that has an end, and of one that has none
  line-by : (b : Bool) (row : ℕ × Line) → (row.1.end == 0) ≡ b →
      row_line text end row.1 (of_number row.0 numbers) (of_number row.0 after) ≡ if b then hung_line end (bytes_at row) (of_number row.0 after) else bytes_at row
  line-by b row e = ap (λ (c : Bool). if c then hung_line end (bytes_at row) (of_number row.0 after) else bytes_at row) e

  lines-by : (b : Bool) (row : ℕ × Line) → (row.1.end == 0) ≡ b → FitsHere row → map (λ (l : Ended). l.line) (around_by b row) ≡ lines_for row
  lines-by true row e fits = bytes-append (all_ended end (of_number row.0 before)) (hanging end (bytes_at row) (of_number row.0 after)) ∙
      ap (λ (ls : List (List ℕ)). ls ++ map (λ (l : Ended). l.line) (hanging end (bytes_at row) (of_number row.0 after))) (ended-lines end (of_number row.0 before)) ∙
      ap (λ (ls : List (List ℕ)). of_number row.0 before ++ ls) (hanging-lines end (bytes_at row) (of_number row.0 after) fits.after_fit) ∙
      ap (λ (l : List ℕ). of_number row.0 before ++ (l ∷ of_number row.0 after)) (sym (line-by true row e))
  lines-by false row e fits = bytes-append (all_ended end (of_number row.0 before)) (row_at row ∷ all_ended end (of_number row.0 after)) ∙
      ap (λ (ls : List (List ℕ)). ls ++ map (λ (l : Ended). l.line) (row_at row ∷ all_ended end (of_number row.0 after))) (ended-lines end (of_number row.0 before)) ∙
      ap (λ (ls : List (List ℕ)). of_number row.0 before ++ (bytes_at row ∷ ls)) (ended-lines end (of_number row.0 after)) ∙
      ap (λ (l : List ℕ). of_number row.0 before ++ (l ∷ of_number row.0 after)) (sym (line-by false row e))

  -- what the rows from a number on become
  pub record Become (n : ℕ) (rows : List Line) : Type 0 where
    pub lines : List Ended
    pub are : AreEnded lines
    pub text_is : text_of lines ≡ flat_map (patched_row text end before numbers after) (enumerate_from n rows)
    pub lines_are : map (λ (l : Ended). l.line) lines ≡ flat_map lines_for (enumerate_from n rows)

  all-append : (xs ys : List Ended) → AllByRecursion IsEnded xs → AllByRecursion IsEnded ys → AllByRecursion IsEnded (xs ++ ys)
  all-append [] ys one two = two
  all-append (x ∷ xs) ys one two = (one.0, all-append xs ys one.1 two)

  front-ended : (row : ℕ × Line) → (row.1.end == 0) ≡ false → FitsHere row → AllByRecursion IsEnded (ended_around end (row_at row) (of_number row.0 before) (of_number row.0 after))
  front-ended row e fits = all-append (all_ended end (of_number row.0 before)) (row_at row ∷ all_ended end (of_number row.0 after))
      (ended-all end (of_number row.0 before) is fits.before_fit) (fits.ended_row e, ended-all end (of_number row.0 after) is fits.after_fit)

  -- a row with an end before others
  join-ended : (n : ℕ) (row : Line) (rows : List Line) → (row.end == 0) ≡ false → FitsHere (n, row) → Become (n + 1) rows → Become n (row ∷ rows)
  join-ended n row rows e fits rest = record {
    lines = around_by false (n, row) ++ rest.lines;
    are = ended-append (around_by false (n, row)) rest.lines (front-ended (n, row) e fits) rest.are;
    text_is = text-append (around_by false (n, row)) rest.lines ∙ ap (λ (t : List ℕ). t ++ text_of rest.lines) (text-by false (n, row) e fits)
        ∙ ap (λ (t : List ℕ). patched_row text end before numbers after (n, row) ++ t) rest.text_is;
    lines_are = bytes-append (around_by false (n, row)) rest.lines ∙ ap (λ (ls : List (List ℕ)). ls ++ map (λ (l : Ended). l.line) rest.lines) (lines-by false (n, row) e fits)
        ∙ ap (λ (ls : List (List ℕ)). lines_for (n, row) ++ ls) rest.lines_are;
  }

  -- a last row with no end
  last-hangs : (n : ℕ) (row : Line) → (row.end == 0) ≡ true → FitsHere (n, row) → Become n (row ∷ [])
  last-hangs n row e fits = record {
    lines = around_by true (n, row);
    are = ended-append (all_ended end (of_number n before)) (hanging end (bytes_at (n, row)) (of_number n after)) (ended-all end (of_number n before) is fits.before_fit) (fits.hanging_row e).1;
    text_is = text-by true (n, row) e fits ∙ sym (append-nil (patched_row text end before numbers after (n, row)));
    lines_are = lines-by true (n, row) e fits ∙ sym (append-nil (lines_for (n, row)));
  }

  pub become : (n : ℕ) (rows : List Line) → AllByRecursion FitsHere (enumerate_from n rows) → OnlyLastHangs rows → Become n rows
  become n [] fits hang = record { lines = []; are = tt; text_is = refl; lines_are = refl }
  become n (row ∷ []) fits hang = ⊎_elim
      (λ (e : (row.end == 0) ≡ true). last-hangs n row e fits.0)
      (λ (e : (row.end == 0) ≡ false). join-ended n row [] e fits.0 (record { lines = []; are = tt; text_is = refl; lines_are = refl }))
      (cases_Bool (row.end == 0))
  become n (row ∷ next ∷ rows) fits hang = join-ended n row (next ∷ rows) hang.0 fits.0 (become (n + 1) (next ∷ rows) fits.1 hang.1)
