-- A line that takes the place of another of its kind leaves all but that line's words.
use Rattle.std.proofs.Common.{◌≡◌, ◌≢◌, ℕ, zero, suc, ◌+◌, ◌<◌, List, [], ◌∷◌, ◌++◌, length, length-take-le, take, drop, get_or, None, refl, sym, ap, subst, ◌∙◌, arith, fold}
use Rattle.std.proofs.lemmas.List.{take-append-drop, drop_more}
use Rattle.std.proofs.lemmas.List.Sums.{fold-append}
use Rattle.std.specs.List.{AllByRecursion}
use Rattle.ios_lines.specs.declared.kind.Kind.TheVariants.{Banner}
use Rattle.ios_lines.specs.Kinds.{after_line, kind, kind_at, opened, open_banner}
use Rattle.ios_lines.specs.Blocks.{IsOrphan}
use Rattle.ios_lines.specs.Reading.{block_after}
use Rattle.ios_lines.specs.Views.{seen_in, seen_from, seen, open_block}
use Rattle.ios_lines.specs.Changes.{changed, replaced, MayReplaceAt, seen_written}
use Rattle.ios_lines.proofs.Insertions.{seen-append, length-seen, opens-none}
use Rattle.ios_lines.proofs.Orphans.{NotAlone, stand-all, alone-none}
use Rattle.ios_lines.proofs.ViewRows.{kind-next}

pub changed-at : {A : Type 0} → (place : ℕ) (change : A → A) (front : List A) (item : A) (back : List A) → length front ≡ place →
    changed place change (front ++ item ∷ back) ≡ front ++ change item ∷ back
changed-at place change [] item back is = ap (λ n. changed n change (item ∷ back)) (sym is)
changed-at place change (x ∷ front) item back is =
    ap (λ n. changed n change (x ∷ (front ++ item ∷ back))) (sym is) ∙ ap (λ xs. x ∷ xs) (changed-at (length front) change front item back refl)

-- what is open after a line is so after another of its kind that is no banner's
seen-change : (front back : List (List ℕ)) (old line : List ℕ) → open_banner front ≡ None → kind line ≢ Banner → kind old ≡ kind line →
    seen (front ++ line ∷ back) ≡ changed (length front) (seen_written line) (seen (front ++ old ∷ back))
seen-change front back old line outside no_banner alike =
    let block = open_block front in
    let count = 0 + length front in
    let tail : seen_from (count + 1) (after_line None old) (block_after (kind old) (count + 1) block) back ≡ seen_from (count + 1) (after_line None line)
    (block_after (kind line) (count + 1) block) back =
    ap (λ k. seen_from (count + 1) (opened k old) (block_after k (count + 1) block) back) alike
    ∙ ap (λ d. seen_from (count + 1) d (block_after (kind line) (count + 1) block) back) (opens-none (kind line) old no_banner ∙ sym (opens-none (kind line) line no_banner)) in
    let new : seen (front ++ line ∷ back) ≡ seen_from 0 None 0 front ++ seen_in (count + 1) line (kind line) block ∷ seen_from (count + 1) (after_line None line)
    (block_after (kind line) (count + 1) block) back =
    seen-append 0 None 0 front (line ∷ back) ∙ ap (λ d. seen_from 0 None 0 front ++ seen_from count d block (line ∷ back)) outside in
    let was : seen (front ++ old ∷ back) ≡ seen_from 0 None 0 front ++ seen_in (count + 1) old (kind old) block ∷ seen_from (count + 1) (after_line None old)
    (block_after (kind old) (count + 1) block) back =
    seen-append 0 None 0 front (old ∷ back) ∙ ap (λ d. seen_from 0 None 0 front ++ seen_from count d block (old ∷ back)) outside in
    new
    ∙ ap (λ k. seen_from 0 None 0 front ++ record { bytes = line; kind = k; block = block_after k (count + 1) block } ∷ seen_from (count + 1) (after_line None line)
    (block_after (kind line) (count + 1) block) back) (sym alike)
    ∙ ap (λ rest. seen_from 0 None 0 front ++ record { bytes = line; kind = kind old; block = block_after (kind old) (count + 1) block } ∷ rest) (sym tail)
    ∙ sym (ap (changed (length front) (seen_written line)) was ∙ changed-at (length front) (seen_written line) (seen_from 0 None 0 front) _ _ (length-seen 0 None 0 front))

-- a list as what stands before an item, the item, and the rest
pub parted : {A : Type 0} → (items : List A) (place : ℕ) (d : A) → place < length items → items ≡ take place items ++ get_or items place d ∷ drop (place + 1) items
parted items place d low = sym (take-append-drop place items) ∙ ap (λ rest. take place items ++ rest) (drop_more items place d low)

pub kind-there : (lines : List (List ℕ)) (place : ℕ) → place < length lines → open_banner (take place lines) ≡ None → kind_at lines place ≡ kind (get_or lines place [])
kind-there lines place low outside = kind-next lines place (get_or lines place []) (drop (place + 1) lines) None (drop_more lines place [] low) (sym outside)

pub seen-replaced : (lines : List (List ℕ)) (place : ℕ) (line : List ℕ) → MayReplaceAt lines place line → seen (replaced place line lines) ≡ changed place (seen_written line) (seen lines)
seen-replaced lines place line may =
    let front = take place lines in
    let old = get_or lines place [] in
    let back = drop (place + 1) lines in
    let long : length front ≡ place = length-take-le place lines (omega (arith, may.within)) in
    let whole : lines ≡ front ++ old ∷ back = parted lines place [] may.within in
    let alike : kind old ≡ kind line = sym (kind-there lines place may.within may.outside) ∙ may.alike in
    ap (λ ls. seen (replaced place line ls)) whole
    ∙ ap seen (changed-at place (λ _. line) front old back long)
    ∙ seen-change front back old line may.outside may.no_banner alike
    ∙ ap (λ n. changed n (seen_written line) (seen (front ++ old ∷ back))) long
    ∙ ap (λ ls. changed place (seen_written line) (seen ls)) (sym whole)

all-changed : {A : Type 0} → (P : A → Type 0) (place : ℕ) (change : A → A) (items : List A) → ((x : A) → P x → P (change x)) → AllByRecursion P items → AllByRecursion P (changed place change items)
all-changed P place change [] keeps all = tt
all-changed P zero change (x ∷ items) keeps all = (keeps x all.0, all.1)
all-changed P (suc place) change (x ∷ items) keeps all = (all.0, all-changed P place change items keeps all.1)

pub orphans-replaced : (lines : List (List ℕ)) (place : ℕ) (line : List ℕ) → MayReplaceAt lines place line → ((p : ℕ) → IsOrphan lines p → ⊥) → (p : ℕ) → IsOrphan (replaced place line lines) p → ⊥
orphans-replaced lines place line may none =
    alone-none (replaced place line lines)
    (subst (AllByRecursion NotAlone) (sym (seen-replaced lines place line may)) (all-changed NotAlone place (seen_written line) (seen lines) (λ s not. not) (stand-all lines none)))

pub banner-replaced : (lines : List (List ℕ)) (place : ℕ) (line : List ℕ) → MayReplaceAt lines place line → open_banner (replaced place line lines) ≡ open_banner lines
banner-replaced lines place line may =
    let front = take place lines in
    let old = get_or lines place [] in
    let back = drop (place + 1) lines in
    let long : length front ≡ place = length-take-le place lines (omega (arith, may.within)) in
    let whole : lines ≡ front ++ old ∷ back = parted lines place [] may.within in
    let alike : kind old ≡ kind line = sym (kind-there lines place may.within may.outside) ∙ may.alike in
    let both : after_line None line ≡ after_line None old = opens-none (kind line) line may.no_banner ∙ sym (ap (λ k. opened k old) alike ∙ opens-none (kind line) old may.no_banner) in
    ap (λ ls. open_banner (replaced place line ls)) whole
    ∙ ap open_banner (changed-at place (λ _. line) front old back long)
    ∙ fold-append after_line None front (line ∷ back)
    ∙ ap (λ d. fold after_line (after_line d line) back) may.outside
    ∙ ap (λ d. fold after_line d back) both
    ∙ ap (λ d. fold after_line (after_line d old) back) (sym may.outside)
    ∙ sym (fold-append after_line None front (old ∷ back))
    ∙ ap open_banner (sym whole)
