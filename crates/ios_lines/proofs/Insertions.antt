-- A line that is inserted leaves the others as they are, but for the numbers of their blocks.
use Rattle.std.proofs.Common.{◌≡◌, ◌≢◌, ℕ, suc, ◌+◌, ◌<◌, ◌≤◌, true, false, List, [], ◌∷◌, ◌++◌, map, length}
use Rattle.std.proofs.Common.{length-drop, length-take-le, take, drop, None, Option, refl, sym, ap, subst, ◌∙◌, arith, ⊎_elim, nat_le, IsTrue, fold}
use Rattle.std.proofs.lemmas.Bool.{cases_Bool, leb-true, le-leb, cond-true, cond-false}
use Rattle.std.proofs.lemmas.List.{map-append, take-append-drop}
use Rattle.std.proofs.Math.Seq.{take-append_seam, drop-append_seam}
use Rattle.ios_lines.specs.declared.banner.Delimiter.{Delimiter}
use Rattle.ios_lines.specs.declared.kind.Kind.{Kind}
use Rattle.ios_lines.specs.declared.kind.Kind.TheVariants.{Blank, Comment, Remark, Inner, Single, Head, Banner}
use Rattle.ios_lines.specs.Kinds.{after_line, closes, kind, kind_at, kind_within, opened, open_banner}
use Rattle.ios_lines.specs.Reading.{block_after}
use Rattle.ios_lines.specs.Views.{seen_in, seen_from, seen, open_from, open_block}
use Rattle.ios_lines.specs.Changes.{inserted, moved, seen_moved, MayStandAt, seen_there}
use Rattle.ios_lines.proofs.ViewRows.{kind-next}

-- numbers that stay, and numbers that are moved on
pub moved-low : (place n : ℕ) → n ≤ place → moved place n ≡ n
moved-low place n low = cond-true _ _ _ (le-leb n place low)

pub moved-high : (place n : ℕ) → place < n → moved place n ≡ n + 1
moved-high place n high = cond-false _ _ _ (⊎_elim (λ yes. let low = leb-true n place yes in absurd (omega arith)) (λ no. no) (cases_Bool (nat_le n place)))

-- the block that is open after a line, where all numbers are moved
moved-after : (place count block : ℕ) (k : Kind) → place ≤ count → block_after k (count + 1 + 1) (moved place block) ≡ moved place (block_after k (count + 1) block)
moved-after place count block Blank high = refl
moved-after place count block Comment high = sym (moved-low place 0 (omega arith))
moved-after place count block Remark high = refl
moved-after place count block Inner high = refl
moved-after place count block Single high = sym (moved-low place 0 (omega arith))
moved-after place count block Head high = sym (moved-high place (count + 1) (omega arith))
moved-after place count block Banner high = sym (moved-low place 0 (omega arith))

-- lines after the inserted one
seen-shift : (place count : ℕ) (banner : Option Delimiter) (block : ℕ) (lines : List (List ℕ)) → place ≤ count →
    seen_from (count + 1) banner (moved place block) lines ≡ map (seen_moved place) (seen_from count banner block lines)
seen-shift place count banner block [] high = refl
seen-shift place count banner block (line ∷ lines) high =
    let k = kind_within banner line in
    let after = moved-after place count block k high in
    ap (λ (b : ℕ). record { bytes = line; kind = k; block = b } ∷ seen_from (count + 1 + 1) (after_line banner line) b lines) after
    ∙ ap (λ rest. seen_moved place (seen_in (count + 1) line k block) ∷ rest) (seen-shift place (count + 1) (after_line banner line) (block_after k (count + 1) block) lines (omega arith))

-- a block that is open is that of an earlier line
after-low : (k : Kind) (count block : ℕ) → block ≤ count → block_after k (count + 1) block ≤ count + 1
after-low Blank count block low = omega arith
after-low Comment count block low = omega arith
after-low Remark count block low = omega arith
after-low Inner count block low = omega arith
after-low Single count block low = omega arith
after-low Head count block low = omega arith
after-low Banner count block low = omega arith

pub open-low : (count : ℕ) (banner : Option Delimiter) (block : ℕ) (lines : List (List ℕ)) → block ≤ count → open_from count banner block lines ≤ count + length lines
open-low count banner block [] low = omega arith
open-low count banner block (line ∷ lines) low =
    let k = kind_within banner line in
    let deeper = open-low (count + 1) (after_line banner line) (block_after k (count + 1) block) lines (after-low k count block low) in
    omega arith

-- lines before the inserted one
seen-stays : (place count : ℕ) (banner : Option Delimiter) (block : ℕ) (lines : List (List ℕ)) → block ≤ count → count + length lines ≤ place →
    map (seen_moved place) (seen_from count banner block lines) ≡ seen_from count banner block lines
seen-stays place count banner block [] low few = refl
seen-stays place count banner block (line ∷ lines) low few =
    let k = kind_within banner line in
    let after = after-low k count block low in
    let same = moved-low place (block_after k (count + 1) block) (omega arith) in
    ap (λ (b : ℕ). record { bytes = line; kind = k; block = b } ∷ map (seen_moved place) (seen_from (count + 1) (after_line banner line) (block_after k (count + 1) block) lines)) same
    ∙ ap (λ rest. seen_in (count + 1) line k block ∷ rest) (seen-stays place (count + 1) (after_line banner line) (block_after k (count + 1) block) lines after (omega arith))

-- lines in two parts
pub seen-append : (count : ℕ) (banner : Option Delimiter) (block : ℕ) (front back : List (List ℕ)) →
    seen_from count banner block (front ++ back) ≡ seen_from count banner block front ++ seen_from (count + length front) (fold after_line banner front) (open_from count banner block front) back
seen-append count banner block [] back = ap (λ n. seen_from n banner block back) (omega arith)
seen-append count banner block (line ∷ front) back =
    let k = kind_within banner line in
    ap (λ rest. seen_in (count + 1) line k block ∷ rest)
    (seen-append (count + 1) (after_line banner line) (block_after k (count + 1) block) front back
    ∙ ap (λ n. seen_from (count + 1) (after_line banner line) (block_after k (count + 1) block) front ++ seen_from n (fold after_line (after_line banner line) front)
    (open_from (count + 1) (after_line banner line) (block_after k (count + 1) block) front) back) (omega arith))

pub length-seen : (count : ℕ) (banner : Option Delimiter) (block : ℕ) (lines : List (List ℕ)) → length (seen_from count banner block lines) ≡ length lines
length-seen count banner block [] = refl
length-seen count banner block (line ∷ lines) = ap suc (length-seen (count + 1) (after_line banner line) (block_after (kind_within banner line) (count + 1) block) lines)

-- a line that closes nothing leaves the block
kept-after : (k : Kind) (number block : ℕ) → closes k ≡ false → block_after k number block ≡ block
kept-after Blank number block keeps = refl
kept-after Comment number block keeps = absurd cc
kept-after Remark number block keeps = refl
kept-after Inner number block keeps = refl
kept-after Single number block keeps = absurd cc
kept-after Head number block keeps = absurd cc
kept-after Banner number block keeps = absurd cc

-- a line that closes blocks leaves the same, whatever was open
closed-after : (k : Kind) (number block other : ℕ) → closes k ≡ true → block_after k number block ≡ block_after k number other
closed-after Blank number block other closes_it = absurd cc
closed-after Comment number block other closes_it = refl
closed-after Remark number block other closes_it = absurd cc
closed-after Inner number block other closes_it = absurd cc
closed-after Single number block other closes_it = refl
closed-after Head number block other closes_it = refl
closed-after Banner number block other closes_it = refl

-- a line that is no banner's begins none
pub opens-none : (k : Kind) (line : List ℕ) → k ≢ Banner → opened k line ≡ None
opens-none Blank line other = refl
opens-none Comment line other = refl
opens-none Remark line other = refl
opens-none Inner line other = refl
opens-none Single line other = refl
opens-none Head line other = refl
opens-none Banner line other = absurd (other refl)

-- an item that is inserted after the first so many
inserted-at : {A : Type 0} → (place : ℕ) (item : A) (front back : List A) → length front ≡ place → inserted place item (front ++ back) ≡ front ++ item ∷ back
inserted-at place item front back is =
    ap (λ n. take n (front ++ back) ++ item ∷ drop n (front ++ back)) (sym is)
    ∙ ap (λ xs. xs ++ item ∷ drop (length front) (front ++ back)) (take-append_seam front back)
    ∙ ap (λ xs. front ++ item ∷ xs) (drop-append_seam front back)

-- the first of some lines closes the block that is open before it
abbrev CloseFirst : List (List ℕ) → Type 0
CloseFirst [] = Unit {0}
CloseFirst (line ∷ lines) = IsTrue (closes (kind line))

-- lines that begin with one that closes blocks are seen the same, whatever was open
seen-reset : (count block other : ℕ) (lines : List (List ℕ)) → CloseFirst lines → seen_from count None block lines ≡ seen_from count None other lines
seen-reset count block other [] closing = refl
seen-reset count block other (line ∷ lines) closing =
    let same = closed-after (kind line) (count + 1) block other closing in
    ap (λ (b : ℕ). record { bytes = line; kind = kind line; block = b } ∷ seen_from (count + 1) (after_line None line) b lines) same

module _ (front back : List (List ℕ)) (line : List ℕ) (outside : open_banner front ≡ None) (no_banner : kind line ≢ Banner) (closing : IsTrue (closes (kind line)) → CloseFirst back) where
  abbrev place : ℕ
  place = length front

  abbrev block : ℕ
  block = open_block front

  block-low : block ≤ place
  block-low = let low = open-low 0 None 0 front (omega arith) in omega arith

  -- the lines after the inserted one
  seen-back : seen_from (place + 1) (after_line None line) (block_after (kind line) (place + 1) block) back ≡ map (seen_moved place) (seen_from place None block back)
  seen-back =
      ap (λ d. seen_from (place + 1) d (block_after (kind line) (place + 1) block) back) (opens-none (kind line) line no_banner)
      ∙ ⊎_elim
      (λ closes_it. seen-reset (place + 1) (block_after (kind line) (place + 1) block) (moved place block) back (closing closes_it))
      (λ keeps. ap (λ b. seen_from (place + 1) None b back) (kept-after (kind line) (place + 1) block keeps ∙ sym (moved-low place block block-low)))
      (cases_Bool (closes (kind line)))
      ∙ seen-shift place place None block back (omega arith)

  -- the others
  seen-old : map (seen_moved place) (seen (front ++ back)) ≡ seen_from 0 None 0 front ++ map (seen_moved place) (seen_from place None block back)
  seen-old =
      ap (map (seen_moved (length front))) (seen-append 0 None 0 front back ∙ ap (λ d. seen_from 0 None 0 front ++ seen_from (0 + length front) d (open_block front) back) outside)
      ∙ map-append (seen_moved (length front)) (seen_from 0 None 0 front) (seen_from (0 + length front) None (open_block front) back)
      ∙ ap (λ xs. xs ++ map (seen_moved (length front)) (seen_from (0 + length front) None (open_block front) back)) (seen-stays (length front) 0 None 0 front (omega arith) (omega arith))
      ∙ ap (λ n. seen_from 0 None 0 front ++ map (seen_moved (length front)) (seen_from n None (open_block front) back)) (omega arith)

  pub seen-new : seen (front ++ line ∷ back) ≡ inserted (length front) (seen_in (length front + 1) line (kind line) (open_block front)) (map (seen_moved (length front)) (seen (front ++ back)))
  seen-new =
      seen-append 0 None 0 front (line ∷ back)
      ∙ ap (λ d. seen_from 0 None 0 front ++ seen_from (0 + length front) d (open_block front) (line ∷ back)) outside
      ∙ ap (λ n. seen_from 0 None 0 front ++ seen_from n None (open_block front) (line ∷ back)) (omega arith)
      ∙ ap (λ rest. seen_from 0 None 0 front ++ seen_in (length front + 1) line (kind line) (open_block front) ∷ rest) seen-back
      ∙ sym (ap (inserted (length front) (seen_in (length front + 1) line (kind line) (open_block front))) seen-old
      ∙ inserted-at (length front) _ (seen_from 0 None 0 front) (map (seen_moved (length front)) (seen_from (length front) None (open_block front) back)) (length-seen 0 None 0 front))

-- the lines with one inserted, as they are seen
close-first : (lines : List (List ℕ)) (place : ℕ) (back : List (List ℕ)) → drop place lines ≡ back → place ≤ length lines →
    open_banner (take place lines) ≡ None → (place < length lines → IsTrue (closes (kind_at lines place))) → CloseFirst back
close-first lines place [] is within outside closing = tt
close-first lines place (line ∷ back) is within outside closing =
    let there : place < length lines = let long = ap length is in omega (arith, long, length-drop place lines) in
    let here : kind_at lines place ≡ kind line = kind-next lines place line back None is (sym outside) in
    subst (λ k. IsTrue (closes k)) here (closing there)

pub seen-inserted : (lines : List (List ℕ)) (place : ℕ) (line : List ℕ) → MayStandAt lines place line →
    seen (inserted place line lines) ≡ inserted place (seen_there lines place line) (map (seen_moved place) (seen lines))
seen-inserted lines place line may =
    let long : length (take place lines) ≡ place = length-take-le place lines may.within in
    let whole : take place lines ++ drop place lines ≡ lines = take-append-drop place lines in
    let new = seen-new (take place lines) (drop place lines) line may.outside may.no_banner
    (λ closes_it. close-first lines place (drop place lines) refl may.within may.outside (may.closing closes_it)) in
    new
    ∙ ap (λ ls. inserted (length (take place lines)) (seen_in (length (take place lines) + 1) line (kind line) (open_block (take place lines)))
    (map (seen_moved (length (take place lines))) (seen ls))) whole
    ∙ ap (λ n. inserted n (seen_in (n + 1) line (kind line) (open_block (take place lines))) (map (seen_moved n) (seen lines))) long
