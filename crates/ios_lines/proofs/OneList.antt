-- A text has one list of lines.
use Rattle.std.proofs.Common.{◌≡◌, ℕ, zero, suc, ◌+◌, ◌<◌, ◌≤◌, ◌⊎◌, inl, inr, true, false, Bool, List, []}
use Rattle.std.proofs.Common.{◌∷◌, ◌++◌, length, drop, flat_map, slice_get, slice_index, slice_range, Some, refl, sym, ap, subst, ◌∙◌, arith, ⊎_elim}
use Rattle.std.proofs.lemmas.Bool.{cases_eq}
use Rattle.std.proofs.lemmas.List.{drop_all}
use Rattle.std.proofs.lemmas.List.Folds.{drop_split}
use Rattle.arc_base.specs.declared.span.Span.{Span}
use Rattle.ios_lines.specs.declared.kind.Kind.{Kind}
use Rattle.ios_lines.specs.declared.line.Line.{Line}
use Rattle.ios_lines.specs.Texts.{IsLine, Join, text_lines}
use Rattle.ios_lines.specs.Words.{AreBlank, IsNextWord, AreWords}
use Rattle.arc_base.specs.Words.{is_blank}
use Rattle.ios_lines.specs.Kinds.{closes, kind_at}
use Rattle.ios_lines.specs.Blocks.{Heads, IsOpenBlock}
use Rattle.ios_lines.specs.Lines.{IsRow}
use Rattle.ios_lines.specs.Laws.{LinesAreOneList, LinesJoin}
use Rattle.ios_lines.proofs.LineSteps.{line-step, line-bounds}
use Rattle.ios_lines.proofs.Slices.{length-slice_range}

-- of two different numbers one is less
less : (m n : ℕ) → (m ≡ n → ⊥) → (m < n) ⊎ (n < m)
less zero zero other = absurd (other refl)
less zero (suc n) other = inl (omega arith)
less (suc m) zero other = inr (omega arith)
less (suc m) (suc n) other = ⊎_elim (λ (low : m < n). inl (omega arith)) (λ (high : n < m). inr (omega arith)) (less m n (λ same. other (ap suc same)))

-- two numbers are one, or one is less
three : (m n : ℕ) → (m ≡ n) ⊎ ((m < n) ⊎ (n < m))
three m n = ⊎_elim (λ same. inl same) (λ other. inr (less m n other)) (cases_eq m n)

-- a byte is not both blank and no blank
not-both : {A : Type 0} → (b : ℕ) → is_blank b ≡ true → is_blank b ≡ false → A
not-both b blank filled = let clash : true ≡ false = sym blank ∙ filled in absurd cc

-- two first words are one
same-from : (text : List ℕ) (at to : ℕ) (v w : Span) → IsNextWord text at to v → IsNextWord text at to w → v.from < w.from → ⊥
same-from text at to v w one two low = not-both (slice_index text v.from) (two.blanks v.from one.after low) (one.filled v.from (omega arith) one.some)

same-to : (text : List ℕ) (at to : ℕ) (v w : Span) → IsNextWord text at to v → IsNextWord text at to w → v.from ≡ w.from → v.to < w.to → ⊥
same-to text at to v w one two same low =
    let inside : w.to ≤ to = two.within in
    let some : v.from < v.to = one.some in
    not-both (slice_index text v.to) (one.whole (omega arith)) (two.filled v.to (omega arith) low)

same-word : (text : List ℕ) (at to : ℕ) (v w : Span) → IsNextWord text at to v → IsNextWord text at to w → v ≡ w
same-word text at to v w one two =
    let from : v.from ≡ w.from = ⊎_elim (λ same. same) (λ other. absurd (⊎_elim (same-from text at to v w one two) (same-from text at to w v two one) other)) (three v.from w.from) in
    let end : v.to ≡ w.to = ⊎_elim (λ same. same) (λ other. absurd (⊎_elim (same-to text at to v w one two from) (same-to text at to w v two one (sym from)) other)) (three v.to w.to) in
    ap (λ (f : ℕ). record { from = f; to = v.to }) from ∙ ap (λ (t : ℕ). record { from = w.from; to = t }) end

-- no word stands among blanks
no-word : {A : Type 0} → (text : List ℕ) (at to : ℕ) (w : Span) → AreBlank text at to → IsNextWord text at to w → A
no-word text at to w blank next =
    let some : w.from < w.to = next.some in
    let inside : w.to ≤ to = next.within in
    not-both (slice_index text w.from) (blank w.from next.after (omega arith)) (next.filled w.from (omega arith) some)

same-words : (text : List ℕ) (at to : ℕ) (vs ws : List Span) → AreWords text at to vs → AreWords text at to ws → vs ≡ ws
same-words text at to [] [] one two = refl
same-words text at to [] (w ∷ ws) one two = no-word text at to w one two.0
same-words text at to (v ∷ vs) [] one two = no-word text at to v two one.0
same-words text at to (v ∷ vs) (w ∷ ws) one two =
    let same = same-word text at to v w one.0 two.0 in
    ap (λ first. first ∷ vs) same ∙ ap (λ rest. w ∷ rest) (same-words text w.to to vs ws (subst (λ (s : Span). AreWords text s.to to vs) same one.1) two.1)

-- two heads of one block are one
same-head : (kinds : ℕ → Kind) (count v w : ℕ) → Heads kinds count v → Heads kinds count w → v < w → ⊥
same-head kinds count v w one two low =
    let open_yet : closes (kinds w) ≡ false = one.unclosed w low two.before in
    let closed : closes (kinds w) ≡ true = ap closes two.opens in
    cc

pub same-open : (kinds : ℕ → Kind) (count v w : ℕ) → IsOpenBlock kinds count v → IsOpenBlock kinds count w → v ≡ w
same-open kinds count zero zero one two = refl
same-open kinds count zero (suc w) one two = absurd (one w two)
same-open kinds count (suc v) zero one two = absurd (two v one)
same-open kinds count (suc v) (suc w) one two = ⊎_elim (λ same. ap suc same) (λ other. absurd (⊎_elim (same-head kinds count v w one two) (same-head kinds count w v two one) other)) (three v w)

-- a line ends at one place
same-stop : (text : List ℕ) (at v w d e : ℕ) → at < length text → IsLine text at v d → IsLine text at w e → v ≡ w
same-stop text at v w d e some one two =
    let lines : slice_range text at v ∷ text_lines (drop (v + d) text) ≡ slice_range text at w ∷ text_lines (drop (w + e) text) =
    sym (line-step text at v d some one) ∙ line-step text at w e some two in
    let bytes : slice_range text at v ≡ slice_range text at w = cc in
    let long = ap length bytes in
    let first = length-slice_range text at v (line-bounds text at v d one).2 in
    let second = length-slice_range text at w (line-bounds text at w e two).2 in
    let order : at ≤ v = one.ordered in
    let other : at ≤ w = two.ordered in
    omega arith

-- and its end has one number of bytes
same-end : (text : List ℕ) (at stop d e : ℕ) → IsLine text at stop d → IsLine text at stop e → d ≡ e
same-end text at stop zero zero one two = refl
same-end text at stop zero (suc zero) one two = let here : stop ≡ length text = one.ending.0 in let low : stop < length text = two.ending.0 in absurd (omega arith)
same-end text at stop zero (suc (suc zero)) one two = let here : stop ≡ length text = one.ending.0 in let low : stop + 1 < length text = two.ending.0 in absurd (omega arith)
same-end text at stop (suc zero) zero one two = let here : stop ≡ length text = two.ending.0 in let low : stop < length text = one.ending.0 in absurd (omega arith)
same-end text at stop (suc zero) (suc zero) one two = refl
same-end text at stop (suc zero) (suc (suc zero)) one two = let feed : slice_index text stop ≡ 10 = one.ending.1 in let return : slice_index text stop ≡ 13 = two.ending.1 in absurd (omega arith)
same-end text at stop (suc (suc zero)) zero one two = let here : stop ≡ length text = two.ending.0 in let low : stop + 1 < length text = one.ending.0 in absurd (omega arith)
same-end text at stop (suc (suc zero)) (suc zero) one two = let feed : slice_index text stop ≡ 10 = two.ending.1 in let return : slice_index text stop ≡ 13 = one.ending.1 in absurd (omega arith)
same-end text at stop (suc (suc zero)) (suc (suc zero)) one two = refl
same-end text at stop (suc (suc (suc d))) e one two = absurd one.ending
same-end text at stop zero (suc (suc (suc e))) one two = absurd two.ending
same-end text at stop (suc zero) (suc (suc (suc e))) one two = absurd two.ending
same-end text at stop (suc (suc zero)) (suc (suc (suc e))) one two = absurd two.ending

-- a line with these parts
abbrev of_parts : Span → ℕ → ℕ → Bool → Bool → List Span → Line
of_parts span end block head inert words = record { span = span; end = end; block = block; head = head; inert = inert; words = words }

same-parts : (a b : Line) → a.span.from ≡ b.span.from → a.span.to ≡ b.span.to → a.end ≡ b.end → a.block ≡ b.block → a.head ≡ b.head → a.inert ≡ b.inert → a.words ≡ b.words → a ≡ b
same-parts a b from to end block head inert words =
    let span : a.span ≡ b.span = ap (λ (f : ℕ). record { from = f; to = a.span.to }) from ∙ ap (λ (t : ℕ). record { from = b.span.from; to = t }) to in
    ap (λ s. of_parts s a.end a.block a.head a.inert a.words) span
    ∙ ap (λ e. of_parts b.span e a.block a.head a.inert a.words) end
    ∙ ap (λ n. of_parts b.span b.end n a.head a.inert a.words) block
    ∙ ap (λ h. of_parts b.span b.end b.block h a.inert a.words) head
    ∙ ap (λ i. of_parts b.span b.end b.block b.head i a.words) inert
    ∙ ap (of_parts b.span b.end b.block b.head b.inert) words

-- a line's bytes and its place give all of it
same-row : (text : List ℕ) (at place : ℕ) (a b : Line) → at < length text → a.span.from ≡ at → IsLine text at a.span.to a.end → b.span.from ≡ at →
    IsLine text at b.span.to b.end → IsRow text place a → IsRow text place b → a ≡ b
same-row text at place a b some a-from a-line b-from b-line one two =
    let from : a.span.from ≡ b.span.from = a-from ∙ sym b-from in
    let to : a.span.to ≡ b.span.to = same-stop text at a.span.to b.span.to a.end b.end some a-line b-line in
    let end : a.end ≡ b.end = same-end text at b.span.to a.end b.end (subst (λ t. IsLine text at t a.end) to a-line) b-line in
    let spans : AreWords text b.span.from b.span.to a.words = subst (λ t. AreWords text b.span.from t a.words) to (subst (λ f. AreWords text f a.span.to a.words) from one.spans) in
    same-parts a b from to end (same-open (kind_at (text_lines text)) (place + 1) a.block b.block one.block two.block) (one.head ∙ sym two.head) (one.inert ∙ sym two.inert)
    (same-words text b.span.from b.span.to a.words b.words spans two.spans)

-- the rows at and after a place
abbrev AreRows : List ℕ → ℕ → List Line → Type 0
AreRows text first rows = (place : ℕ) (line : Line) → slice_get rows place ≡ Some line → IsRow text (first + place) line

rows-after : (text : List ℕ) (first : ℕ) (row : Line) (rows : List Line) → AreRows text first (row ∷ rows) → AreRows text (first + 1) rows
rows-after text first row rows all place line is = subst (λ n. IsRow text n line) (omega arith) (all (suc place) line is)

row-first : (text : List ℕ) (first : ℕ) (row : Line) (rows : List Line) → AreRows text first (row ∷ rows) → IsRow text first row
row-first text first row rows all = subst (λ n. IsRow text n row) (omega arith) (all 0 row refl)

same-rows : (text : List ℕ) (at first : ℕ) (xs ys : List Line) → Join text at xs → Join text at ys → AreRows text first xs → AreRows text first ys → xs ≡ ys
same-rows text at first [] [] one two all every = refl
same-rows text at first [] (b ∷ ys) one two all every = let bounds = line-bounds text at b.span.to b.end two.1 in absurd (omega arith)
same-rows text at first (a ∷ xs) [] one two all every = let bounds = line-bounds text at a.span.to a.end one.1 in absurd (omega arith)
same-rows text at first (a ∷ xs) (b ∷ ys) one two all every =
    let bounds = line-bounds text at a.span.to a.end one.1 in
    let same : a ≡ b = same-row text at first a b (omega arith) one.0 one.1 two.0 two.1 (row-first text first a xs all) (row-first text first b ys every) in
    ap (λ row. row ∷ xs) same ∙ ap (λ rows. b ∷ rows)
    (same-rows text (b.span.to + b.end) (first + 1) xs ys (subst (λ (row : Line). Join text (row.span.to + row.end) xs) same one.2) two.2 (rows-after text first a xs all)
    (rows-after text first b ys every))

-- a text has at most one list of lines
pub one-list : LinesAreOneList
one-list text one two is are =
    ap (λ (rows : List Line). record { rows = rows })
    (same-rows text 0 0 one.rows two.rows is.join are.join (λ place line h. subst (λ n. IsRow text n line) (omega arith) (is.rows place line h))
    (λ place line h. subst (λ n. IsRow text n line) (omega arith) (are.rows place line h)))

-- the lines from a place on, joined, are what is left
joined : (text : List ℕ) (at : ℕ) (lines : List Line) → Join text at lines → flat_map (λ (line : Line). slice_range text line.span.from (line.span.to + line.end)) lines ≡ drop at text
joined text at [] end = sym (drop_all at text (omega arith))
joined text at (line ∷ lines) join =
    let bounds = line-bounds text at line.span.to line.end join.1 in
    ap (λ from. slice_range text from (line.span.to + line.end) ++ flat_map (λ (l : Line). slice_range text l.span.from (l.span.to + l.end)) lines) join.0
    ∙ ap (λ rest. slice_range text at (line.span.to + line.end) ++ rest) (joined text (line.span.to + line.end) lines join.2)
    ∙ sym (drop_split text at (line.span.to + line.end) (omega arith))

pub lines-join : LinesJoin
lines-join text lines is = joined text 0 lines.rows is.join
