-- Texts of which a line changes.
use Rattle.std.proofs.Common.{◌≡◌, ◌≢◌, ℕ, zero, suc, ◌+◌, ◌<◌, ◌≤◌, ◌⊎◌, inl, inr, true, false, List, [], ◌∷◌, ◌++◌}
use Rattle.std.proofs.Common.{map, length, length-take-le, take, drop, slice_get, get_or, Some, None, Option, refl, sym, ap, subst, IsTrue, ◌∙◌, arith, fold}
use Rattle.std.proofs.lemmas.Simd.{map-map}
use Rattle.std.proofs.lemmas.Bool.{eq-eqb}
use Rattle.std.specs.List.{AllByRecursion}
use Rattle.std.specs.Prelude.{option_map}
use Rattle.std.proofs.lemmas.List.{take_more, length-map}
use Rattle.std.proofs.lemmas.List.Sums.{fold-append}
use Rattle.std.proofs.lemmas.Option.{same_Some, none-some, slice_get-map, slice_get_within}
use Rattle.ios_lines.specs.declared.banner.Delimiter.{Delimiter}
use Rattle.ios_lines.specs.declared.kind.Kind.{Kind}
use Rattle.ios_lines.specs.declared.kind.Kind.TheVariants.{Blank, Comment, Remark, Inner, Single, Head, Banner}
use Rattle.ios_lines.specs.declared.line.Lines.{Lines}
use Rattle.ios_lines.specs.Lines.{AreLinesOf}
use Rattle.ios_lines.specs.Texts.{text_lines}
use Rattle.arc_base.specs.Words.{words}
use Rattle.ios_lines.specs.Kinds.{after_line, closes, is_head, is_inert, kind, kind_at, kind_within, open_banner}
use Rattle.ios_lines.specs.Blocks.{IsOrphan}
use Rattle.ios_lines.specs.Reading.{block_after, is_alone}
use Rattle.ios_lines.specs.Views.{line_marks, seen_in, seen_from, seen, Mark, mark_seen, open_from, open_block}
use Rattle.ios_lines.specs.Changes.{MayStandAt, Change, Insert, Write, lines_after, lines_after_all, marks_after, marks_after_all}
use Rattle.ios_lines.specs.Changes.{MayCome, MayAllCome, inserted, changed, seen_moved, mark_moved, seen_written, mark_worded, seen_there}
use Rattle.ios_lines.specs.ChangeLaws.{InnerLinesMayStand, TopLinesMayStand, SeveralChangesStand, CanBeCut, RowsTellPlaces, IsPlaceOf, AnInsertedLineStands, AReplacedLineStands}
use Rattle.ios_lines.proofs.ViewRows.{rows-are-seen}
use Rattle.ios_lines.proofs.Insertions.{seen-inserted, seen-append, length-seen, opens-none}
use Rattle.ios_lines.proofs.Replacements.{parted, seen-replaced, orphans-replaced, banner-replaced}
use Rattle.ios_lines.proofs.Orphans.{NotAlone, orphans-inserted, banner-inserted, no-orphan-at, no-first, no-banner-left, no-banner-at, stand-all}

-- what is made of each item of a list with one inserted, or changed
pub map-inserted : {A B : Type 0} → (f : A → B) (place : ℕ) (item : A) (items : List A) → map f (inserted place item items) ≡ inserted place (f item) (map f items)
map-inserted f zero item items = refl
map-inserted f (suc place) item [] = refl
map-inserted f (suc place) item (x ∷ items) = ap (λ xs. f x ∷ xs) (map-inserted f place item items)

pub map-changed : {A B : Type 0} → (f : A → B) (place : ℕ) (one : A → A) (two : B → B) (items : List A) → ((x : A) → f (one x) ≡ two (f x)) →
    map f (changed place one items) ≡ changed place two (map f items)
map-changed f place one two [] same = refl
map-changed f zero one two (x ∷ items) same = ap (λ y. y ∷ map f items) (same x)
map-changed f (suc place) one two (x ∷ items) same = ap (λ xs. f x ∷ xs) (map-changed f place one two items same)

-- the new text can be cut
still-cut : (old new : List ℕ) → CanBeCut old → ((p : ℕ) → IsOrphan (text_lines new) p → ⊥) → open_banner (text_lines new) ≡ open_banner (text_lines old) → CanBeCut new
still-cut old new cut orphans banner = record {
  no_orphan = no-first new orphans;
  no_open_banner = no-banner-at new (banner ∙ no-banner-left old cut.no_open_banner);
}

pub an-inserted-line : AnInsertedLineStands
an-inserted-line old new place line may is cut = record {
  cut = still-cut old new cut
      (λ p orphan. orphans-inserted (text_lines old) place line may (no-orphan-at (text_lines old) cut.no_orphan) p (subst (λ ls. IsOrphan ls p) is orphan))
      (ap open_banner is ∙ banner-inserted (text_lines old) place line may);
  rows = λ lines more are new_are.
      rows-are-seen new more new_are
      ∙ ap (λ ls. map mark_seen (seen ls)) is
      ∙ ap (map mark_seen) (seen-inserted (text_lines old) place line may)
      ∙ map-inserted mark_seen place (seen_there (text_lines old) place line) (map (seen_moved place) (seen (text_lines old)))
      ∙ ap (inserted place (mark_seen (seen_there (text_lines old) place line)))
      (map-map mark_seen (seen_moved place) (seen (text_lines old)) ∙ sym (map-map (mark_moved place) mark_seen (seen (text_lines old)))
      ∙ ap (map (mark_moved place)) (sym (rows-are-seen old lines are)));
}

pub a-replaced-line : AReplacedLineStands
a-replaced-line old new place line may is cut = record {
  cut = still-cut old new cut
      (λ p orphan. orphans-replaced (text_lines old) place line may (no-orphan-at (text_lines old) cut.no_orphan) p (subst (λ ls. IsOrphan ls p) is orphan))
      (ap open_banner is ∙ banner-replaced (text_lines old) place line may);
  rows = λ lines more are new_are.
      rows-are-seen new more new_are
      ∙ ap (λ ls. map mark_seen (seen ls)) is
      ∙ ap (map mark_seen) (seen-replaced (text_lines old) place line may)
      ∙ map-changed mark_seen place (seen_written line) (mark_worded (words line)) (seen (text_lines old)) (λ s. refl)
      ∙ ap (changed place (mark_worded (words line))) (sym (rows-are-seen old lines are));
}

-- the line at a place, as it is seen
get-seam : {A : Type 0} → (front : List A) (item : A) (back : List A) (place : ℕ) → length front ≡ place → slice_get (front ++ item ∷ back) place ≡ Some item
get-seam [] item back place is = ap (slice_get (item ∷ back)) (sym is)
get-seam (x ∷ front) item back place is = ap (slice_get (x ∷ (front ++ item ∷ back))) (sym is) ∙ get-seam front item back (length front) refl

open-append : (count : ℕ) (banner : Option Delimiter) (block : ℕ) (front back : List (List ℕ)) →
    open_from count banner block (front ++ back) ≡ open_from (count + length front) (fold after_line banner front) (open_from count banner block front) back
open-append count banner block [] back = ap (λ n. open_from n banner block back) (omega arith)
open-append count banner block (line ∷ front) back =
    open-append (count + 1) (after_line banner line) (block_after (kind_within banner line) (count + 1) block) front back
    ∙ ap (λ n. open_from n (fold after_line (after_line banner line) front)
    (open_from (count + 1) (after_line banner line) (block_after (kind_within banner line) (count + 1) block) front) back) (omega arith)

pub seen-at : (lines : List (List ℕ)) (place : ℕ) → place < length lines →
    slice_get (seen lines) place ≡ Some (seen_in (place + 1) (get_or lines place []) (kind_at lines place) (open_block (take place lines)))
seen-at lines place low =
    let front = take place lines in
    let line = get_or lines place [] in
    let back = drop (place + 1) lines in
    let long : length front ≡ place = length-take-le place lines (omega arith) in
    let count : 0 + length front ≡ place = omega arith in
    ap (λ ls. slice_get (seen ls) place) (parted lines place [] low)
    ∙ ap (λ xs. slice_get xs place) (seen-append 0 None 0 front (line ∷ back))
    ∙ get-seam (seen_from 0 None 0 front) _ _ place (length-seen 0 None 0 front ∙ long)
    ∙ ap (λ n. Some (seen_in (n + 1) line (kind_at lines place) (open_block front))) count

pub open-after : (lines : List (List ℕ)) (place : ℕ) → place < length lines → open_block (take (place + 1) lines) ≡ block_after (kind_at lines place) (place + 1) (open_block (take place lines))
open-after lines place low =
    let front = take place lines in
    let line = get_or lines place [] in
    let long : length front ≡ place = length-take-le place lines (omega arith) in
    let count : 0 + length front ≡ place = omega arith in
    ap open_block (take_more lines place [] low)
    ∙ open-append 0 None 0 front (line ∷ [])
    ∙ ap (λ n. block_after (kind_at lines place) (n + 1) (open_block front)) count

all-get : {A : Type 0} → (P : A → Type 0) (items : List A) (place : ℕ) (item : A) → AllByRecursion P items → slice_get items place ≡ Some item → P item
all-get P [] place item all is = absurd (none-some item is)
all-get P (x ∷ items) zero item all is = subst P (same_Some x item is) all.0
all-get P (x ∷ items) (suc place) item all is = all-get P items place item all.1 is

-- a line that says something is in no banner
outside-there : (banner o : Option Delimiter) (line : List ℕ) → banner ≡ o → is_inert (kind_within banner line) ≡ false → banner ≡ None
outside-there banner None line is says = is
outside-there banner (Some d) line is says = let silent : is_inert (kind_within banner line) ≡ is_inert Banner = ap (λ b. is_inert (kind_within b line)) is in absurd cc

pub no-banner-line : (k : Kind) → is_inert k ≡ false → k ≢ Banner
no-banner-line k says is = let silent : is_inert k ≡ is_inert Banner = ap is_inert is in absurd cc

top-closes : (k : Kind) (number block : ℕ) → is_inert k ≡ false → is_alone k (block_after k number block) ≡ false → (is_head k ≡ true) ⊎ (block_after k number block ≡ 0) → closes k ≡ true
top-closes Blank number block says stands top = absurd cc
top-closes Comment number block says stands top = absurd cc
top-closes Remark number block says stands top = absurd cc
top-closes Inner number block says stands (inl head) = absurd cc
top-closes Inner number block says stands (inr zero_block) = let alone : is_alone Inner block ≡ true = eq-eqb block 0 zero_block in absurd cc
top-closes Single number block says stands top = refl
top-closes Head number block says stands top = refl
top-closes Banner number block says stands top = absurd cc

inner-block : (k : Kind) (number block : ℕ) → is_inert k ≡ false → is_head k ≡ false → (block_after k number block ≡ 0 → ⊥) → block ≡ block_after k number block
inner-block Blank number block says head some = absurd cc
inner-block Comment number block says head some = absurd cc
inner-block Remark number block says head some = absurd cc
inner-block Inner number block says head some = refl
inner-block Single number block says head some = absurd (some refl)
inner-block Head number block says head some = absurd cc
inner-block Banner number block says head some = absurd cc

own-block : (k : Kind) (number block : ℕ) → is_head k ≡ true → block_after k number block ≡ number
own-block Blank number block head = absurd cc
own-block Comment number block head = absurd cc
own-block Remark number block head = absurd cc
own-block Inner number block head = absurd cc
own-block Single number block head = absurd cc
own-block Head number block head = refl
own-block Banner number block head = absurd cc

pub place-of : (lines : List (List ℕ)) (place : ℕ) → AllByRecursion NotAlone (seen lines) → (low : place < length lines) → is_inert (kind_at lines place) ≡ false →
    IsPlaceOf lines place (mark_seen (seen_in (place + 1) (get_or lines place []) (kind_at lines place) (open_block (take place lines))))
place-of lines place stand low says =
    let k = kind_at lines place in
    let block = open_block (take place lines) in
    let line = get_or lines place [] in
    let before : open_banner (take place lines) ≡ None = outside-there (open_banner (take place lines)) (open_banner (take place lines)) line refl says in
    let here : k ≡ kind line = ap (λ b. kind_within b line) before in
    let stands = all-get NotAlone (seen lines) place (seen_in (place + 1) line k block) stand (seen-at lines place low) in
    record {
      within = low;
      before = before;
      after = ap open_banner (take_more lines place [] low) ∙ fold-append after_line None (take place lines) (line ∷ []) ∙ ap (λ b. after_line b line) before
          ∙ opens-none (kind line) line (subst (λ x. x ≢ Banner) here (no-banner-line k says));
      block = open-after lines place low;
      closing = top-closes k (place + 1) block says stands;
      inner = inner-block k (place + 1) block says;
      own = own-block k (place + 1) block;
    }

-- what the row at a place says is what its line is seen to say
pub mark-there : (text : List ℕ) (lines : Lines) (place : ℕ) (m : Mark) → AreLinesOf text lines → slice_get (line_marks text lines) place ≡ Some m →
    (place < length (text_lines text)) × (mark_seen (seen_in (place + 1) (get_or (text_lines text) place []) (kind_at (text_lines text) place) (open_block (take place (text_lines text)))) ≡ m)
mark-there text lines place m are there =
    let ls = text_lines text in
    let seen_there : slice_get (map mark_seen (seen ls)) place ≡ Some m = ap (λ ms. slice_get ms place) (sym (rows-are-seen text lines are)) ∙ there in
    let long : length (map mark_seen (seen ls)) ≡ length ls = length-map (seen ls) mark_seen ∙ length-seen 0 None 0 ls in
    let within = slice_get_within (map mark_seen (seen ls)) place m seen_there in
    let low : place < length ls = omega arith in
    let s = seen_in (place + 1) (get_or ls place []) (kind_at ls place) (open_block (take place ls)) in
    (low, same_Some (mark_seen s) m (sym (slice_get-map mark_seen (seen ls) place ∙ ap (option_map mark_seen) (seen-at ls place low)) ∙ seen_there))

pub rows-tell : RowsTellPlaces
rows-tell text lines place m are cut there says =
    let ls = text_lines text in
    let known = mark-there text lines place m are there in
    subst (IsPlaceOf ls place) known.1 (place-of ls place (stand-all ls (no-orphan-at ls cut.no_orphan)) known.0 (ap (λ (n : Mark). n.inert) known.1 ∙ says))

-- what the rows say of lines after a change
pub marks-change : (change : Change) (lines : List (List ℕ)) → MayCome change lines → map mark_seen (seen (lines_after change lines)) ≡ marks_after change lines (map mark_seen (seen lines))
marks-change (Insert place line) lines may =
    ap (map mark_seen) (seen-inserted lines place line may)
    ∙ map-inserted mark_seen place (seen_there lines place line) (map (seen_moved place) (seen lines))
    ∙ ap (inserted place (mark_seen (seen_there lines place line))) (map-map mark_seen (seen_moved place) (seen lines) ∙ sym (map-map (mark_moved place) mark_seen (seen lines)))
marks-change (Write place line) lines may =
    ap (map mark_seen) (seen-replaced lines place line may) ∙ map-changed mark_seen place (seen_written line) (mark_worded (words line)) (seen lines) (λ s. refl)

orphans-change : (change : Change) (lines : List (List ℕ)) → MayCome change lines → ((p : ℕ) → IsOrphan lines p → ⊥) → (p : ℕ) → IsOrphan (lines_after change lines) p → ⊥
orphans-change (Insert place line) lines may none = orphans-inserted lines place line may none
orphans-change (Write place line) lines may none = orphans-replaced lines place line may none

banner-change : (change : Change) (lines : List (List ℕ)) → MayCome change lines → open_banner (lines_after change lines) ≡ open_banner lines
banner-change (Insert place line) lines may = banner-inserted lines place line may
banner-change (Write place line) lines may = banner-replaced lines place line may

marks-all : (changes : List Change) (lines : List (List ℕ)) → MayAllCome changes lines →
    map mark_seen (seen (lines_after_all changes lines)) ≡ marks_after_all changes lines (map mark_seen (seen lines))
marks-all [] lines may = refl
marks-all (change ∷ changes) lines may = marks-all changes (lines_after change lines) may.1 ∙ ap (marks_after_all changes (lines_after change lines)) (marks-change change lines may.0)

orphans-all : (changes : List Change) (lines : List (List ℕ)) → MayAllCome changes lines → ((p : ℕ) → IsOrphan lines p → ⊥) → (p : ℕ) → IsOrphan (lines_after_all changes lines) p → ⊥
orphans-all [] lines may none = none
orphans-all (change ∷ changes) lines may none = orphans-all changes (lines_after change lines) may.1 (orphans-change change lines may.0 none)

banner-all : (changes : List Change) (lines : List (List ℕ)) → MayAllCome changes lines → open_banner (lines_after_all changes lines) ≡ open_banner lines
banner-all [] lines may = refl
banner-all (change ∷ changes) lines may = banner-all changes (lines_after change lines) may.1 ∙ banner-change change lines may.0

pub several-changes : SeveralChangesStand
several-changes old new changes may is cut = record {
  cut = still-cut old new cut
      (λ p orphan. orphans-all changes (text_lines old) may (no-orphan-at (text_lines old) cut.no_orphan) p (subst (λ ls. IsOrphan ls p) is orphan))
      (ap open_banner is ∙ banner-all changes (text_lines old) may);
  rows = λ lines more are new_are.
      rows-are-seen new more new_are ∙ ap (λ ls. map mark_seen (seen ls)) is ∙ marks-all changes (text_lines old) may
      ∙ ap (marks_after_all changes (text_lines old)) (sym (rows-are-seen old lines are));
}

other-kinds : (line : List ℕ) (k other : Kind) → kind line ≡ k → (k ≡ other → ⊥) → kind line ≢ other
other-kinds line k other is apart same = apart (sym is ∙ same)

pub inner-may : InnerLinesMayStand
inner-may lines place line within outside some is = record {
  within = within;
  outside = outside;
  no_banner = other-kinds line Inner Banner is (λ e. cc);
  closing = λ closing low. let keeps : closes (kind line) ≡ closes Inner = ap closes is in let yes : closes (kind line) ≡ true = closing in absurd cc;
  inner = λ e. some;
}

top-may-kind : (lines : List (List ℕ)) (place : ℕ) (line : List ℕ) (k : Kind) → place ≤ length lines → open_banner (take place lines) ≡ None →
    (place < length lines → IsTrue (closes (kind_at lines place))) → kind line ≡ k → (k ≡ Banner → ⊥) → (k ≡ Inner → ⊥) → MayStandAt lines place line
top-may-kind lines place line k within outside closing is no_banner no_inner = record {
  within = within;
  outside = outside;
  no_banner = other-kinds line k Banner is no_banner;
  closing = λ yes. closing;
  inner = λ e. absurd (other-kinds line k Inner is no_inner e);
}

pub top-may : TopLinesMayStand
top-may lines place line within outside closing (inl is) = top-may-kind lines place line Head within outside closing is (λ e. cc) (λ e. cc)
top-may lines place line within outside closing (inr (inl is)) = top-may-kind lines place line Single within outside closing is (λ e. cc) (λ e. cc)
top-may lines place line within outside closing (inr (inr is)) = top-may-kind lines place line Comment within outside closing is (λ e. cc) (λ e. cc)
