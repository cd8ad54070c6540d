-- No line is an orphan, and no banner is open at the end, where a line is inserted that may stand at its place.
use Rattle.std.proofs.Common.{◌≡◌, ℕ, zero, suc, ◌+◌, ◌<◌, ◌≤◌, true, false, List, [], ◌∷◌, map, length}
use Rattle.std.proofs.Common.{length-drop, take, drop, is_some, Some, None, Option, refl, sym, ap, subst, ◌∙◌, arith, ⊎_elim, fold}
use Rattle.std.proofs.lemmas.Bool.{cases_Bool, cases_eq, cases_lt, eqb-true, eq-eqb}
use Rattle.std.proofs.lemmas.List.{take-append-drop, take_all}
use Rattle.std.proofs.lemmas.List.Sums.{fold-append}
use Rattle.std.specs.List.{AllByRecursion}
use Rattle.ios_lines.specs.declared.banner.Delimiter.{Delimiter}
use Rattle.ios_lines.specs.declared.kind.Kind.{Kind}
use Rattle.ios_lines.specs.declared.kind.Kind.TheVariants.{Blank, Comment, Remark, Inner, Single, Head, Banner}
use Rattle.ios_lines.specs.Texts.{text_lines}
use Rattle.ios_lines.specs.Kinds.{after_line, kind, kind_at, kind_within, open_banner}
use Rattle.ios_lines.specs.Blocks.{IsOpenBlock, IsOrphan, IsFirstOrphan, Unclosed}
use Rattle.ios_lines.specs.Lines.{HasOrphanAt, HasOpenBannerAt}
use Rattle.ios_lines.specs.Reading.{block_after, is_alone}
use Rattle.ios_lines.specs.Views.{Seen, seen_from, seen, open_block}
use Rattle.ios_lines.specs.Changes.{inserted, moved, seen_moved, MayStandAt, seen_there}
use Rattle.ios_lines.proofs.ViewRows.{kind-next, banner-next}
use Rattle.ios_lines.proofs.OpenBlocks.{open-step, no-orphan}
use Rattle.ios_lines.proofs.OpenBanners.{banners-end}
use Rattle.ios_lines.proofs.Rows.{stands_at}
use Rattle.ios_lines.proofs.Insertions.{moved-low, moved-high, seen-inserted, opens-none}

-- a line that is seen in a block, or needs none
abbrev pub NotAlone : Seen → Type 0
NotAlone s = is_alone s.kind s.block ≡ false

-- whether a line is alone is seen before it and after it
alone-after : (k : Kind) (number block : ℕ) → is_alone k (block_after k number block) ≡ is_alone k block
alone-after Blank number block = refl
alone-after Comment number block = refl
alone-after Remark number block = refl
alone-after Inner number block = refl
alone-after Single number block = refl
alone-after Head number block = refl
alone-after Banner number block = refl

alone-inner : (k : Kind) (block : ℕ) → is_alone k block ≡ true → (k ≡ Inner) × (block ≡ 0)
alone-inner Blank block test = absurd cc
alone-inner Comment block test = absurd cc
alone-inner Remark block test = absurd cc
alone-inner Inner block test = (refl, eqb-true block 0 test)
alone-inner Single block test = absurd cc
alone-inner Head block test = absurd cc
alone-inner Banner block test = absurd cc

-- a line that is no orphan
not-alone : (lines : List (List ℕ)) (count : ℕ) (line : List ℕ) (rest : List (List ℕ)) (k : Kind) (block : ℕ) → drop count lines ≡ line ∷ rest →
    kind_at lines count ≡ k → IsOpenBlock (kind_at lines) count block → (IsOrphan lines count → ⊥) → is_alone k block ≡ false
not-alone lines count line rest k block there kind open_block none = ⊎_elim
    (λ alone.
    let both = alone-inner k block alone in
    let at = stands_at lines count line rest there in
    absurd (none (record { within = at.more; inner = kind ∙ both.0; alone = subst (IsOpenBlock (kind_at lines) count) both.1 open_block })))
    (λ other. other)
    (cases_Bool (is_alone k block))

all-stand : (lines : List (List ℕ)) (count : ℕ) (banner : Option Delimiter) (block : ℕ) (rest : List (List ℕ)) → drop count lines ≡ rest →
    banner ≡ open_banner (take count lines) → IsOpenBlock (kind_at lines) count block → ((place : ℕ) → IsOrphan lines place → ⊥) →
    AllByRecursion NotAlone (seen_from count banner block rest)
all-stand lines count banner block [] there is open_block none = tt
all-stand lines count banner block (line ∷ rest) there is open_block none =
    let k = kind_within banner line in
    let kind = kind-next lines count line rest banner there is in
    let at = stands_at lines count line rest there in (
      alone-after k (count + 1) block ∙ not-alone lines count line rest k block there kind open_block (none count),
      all-stand lines (count + 1) (after_line banner line) (block_after k (count + 1) block) rest at.left (banner-next lines count line rest banner there is)
          (open-step (kind_at lines) count block k kind open_block) none,
    )

-- no line is an orphan where each is seen in a block or needs none
none-alone : (lines : List (List ℕ)) (count : ℕ) (banner : Option Delimiter) (block : ℕ) (rest : List (List ℕ)) → drop count lines ≡ rest →
    banner ≡ open_banner (take count lines) → IsOpenBlock (kind_at lines) count block →
    AllByRecursion NotAlone (seen_from count banner block rest) → (place : ℕ) → count ≤ place → IsOrphan lines place → ⊥
none-alone lines count banner block [] there is open_block all place high orphan =
    let within : place < length lines = orphan.within in
    let gone = ap length there in
    omega (arith, gone, length-drop count lines)
none-alone lines count banner block (line ∷ rest) there is open_block all place high orphan =
    let k = kind_within banner line in
    let kind = kind-next lines count line rest banner there is in
    let at = stands_at lines count line rest there in
    let test : is_alone k block ≡ false = sym (alone-after k (count + 1) block) ∙ all.0 in
    ⊎_elim
    (λ here. no-orphan lines count block k kind open_block test (subst (IsOrphan lines) here orphan))
    (λ other. none-alone lines (count + 1) (after_line banner line) (block_after k (count + 1) block) rest at.left (banner-next lines count line rest banner there is)
    (open-step (kind_at lines) count block k kind open_block) all.1 place (omega arith) orphan)
    (cases_eq place count)

none-open : (lines : List (List ℕ)) → IsOpenBlock (kind_at lines) 0 0
none-open lines head heads = let low : head < 0 = heads.before in absurd (omega arith)

pub stand-all : (lines : List (List ℕ)) → ((place : ℕ) → IsOrphan lines place → ⊥) → AllByRecursion NotAlone (seen lines)
stand-all lines none = all-stand lines 0 None 0 lines refl refl (none-open lines) none

pub alone-none : (lines : List (List ℕ)) → AllByRecursion NotAlone (seen lines) → (place : ℕ) → IsOrphan lines place → ⊥
alone-none lines all place = none-alone lines 0 None 0 lines refl refl (none-open lines) all place (omega arith)

-- what holds of all items and of one more
pub all-inserted : {A : Type 0} → (P : A → Type 0) (place : ℕ) (item : A) (items : List A) → P item → AllByRecursion P items → AllByRecursion P (inserted place item items)
all-inserted P zero item items new all = (new, all)
all-inserted P (suc place) item [] new all = (new, tt)
all-inserted P (suc place) item (x ∷ items) new all = (all.0, all-inserted P place item items new all.1)

pub all-mapped : {A B : Type 0} → (P : A → Type 0) (Q : B → Type 0) (f : A → B) (items : List A) → ((x : A) → P x → Q (f x)) → AllByRecursion P items → AllByRecursion Q (map f items)
all-mapped P Q f [] each all = tt
all-mapped P Q f (x ∷ items) each all = (each x all.0, all-mapped P Q f items each all.1)

moved-some : (place n : ℕ) → moved place n ≡ 0 → n ≡ 0
moved-some place n is = ⊎_elim
    (λ high. let up = moved-high place n high in absurd (omega arith))
    (λ low. sym (moved-low place n low) ∙ is)
    (cases_lt place n)

alone-moved : (place : ℕ) (s : Seen) → NotAlone s → NotAlone (seen_moved place s)
alone-moved place s not = ⊎_elim
    (λ alone.
    let both = alone-inner s.kind (moved place s.block) alone in
    let zero_block = moved-some place s.block both.1 in
    let yes : is_alone s.kind s.block ≡ true = ap (λ k. is_alone k s.block) both.0 ∙ eq-eqb s.block 0 zero_block in
    absurd cc)
    (λ other. other)
    (cases_Bool (is_alone s.kind (moved place s.block)))

alone-there : (lines : List (List ℕ)) (place : ℕ) (line : List ℕ) → MayStandAt lines place line → NotAlone (seen_there lines place line)
alone-there lines place line may =
    alone-after (kind line) (place + 1) (open_block (take place lines))
    ∙ ⊎_elim
    (λ alone.
    let both = alone-inner (kind line) (open_block (take place lines)) alone in
    absurd (may.inner both.0 both.1))
    (λ other. other)
    (cases_Bool (is_alone (kind line) (open_block (take place lines))))

pub orphans-inserted : (lines : List (List ℕ)) (place : ℕ) (line : List ℕ) → MayStandAt lines place line → ((p : ℕ) → IsOrphan lines p → ⊥) → (p : ℕ) → IsOrphan (inserted place line lines) p → ⊥
orphans-inserted lines place line may none =
    alone-none (inserted place line lines)
    (subst (AllByRecursion NotAlone) (sym (seen-inserted lines place line may))
    (all-inserted NotAlone place (seen_there lines place line) (map (seen_moved place) (seen lines)) (alone-there lines place line may)
    (all-mapped NotAlone NotAlone (seen_moved place) (seen lines) (alone-moved place) (stand-all lines none))))

-- the banner that is open in the end
pub banner-inserted : (lines : List (List ℕ)) (place : ℕ) (line : List ℕ) → MayStandAt lines place line → open_banner (inserted place line lines) ≡ open_banner lines
banner-inserted lines place line may =
    fold-append after_line None (take place lines) (line ∷ drop place lines)
    ∙ ap (λ d. fold after_line (after_line d line) (drop place lines)) may.outside
    ∙ ap (λ d. fold after_line d (drop place lines)) (opens-none (kind line) line may.no_banner ∙ sym may.outside)
    ∙ sym (fold-append after_line None (take place lines) (drop place lines))
    ∙ ap open_banner (take-append-drop place lines)

-- where no line is the first orphan none is one
orphan-below : (lines : List (List ℕ)) → ((number : ℕ) → IsFirstOrphan lines number → ⊥) → (bound place : ℕ) → place < bound → IsOrphan lines place → ⊥
orphan-below lines none zero place low orphan = omega arith
orphan-below lines none (suc bound) place low orphan = ⊎_elim
    (λ last. none (suc place) (orphan, λ earlier below. orphan-below lines none bound earlier (omega arith)))
    (λ other. orphan-below lines none bound place (omega arith) orphan)
    (cases_eq place bound)

pub no-orphan-at : (lines : List (List ℕ)) → ((number : ℕ) → IsFirstOrphan lines number → ⊥) → (place : ℕ) → IsOrphan lines place → ⊥
no-orphan-at lines none place = orphan-below lines none (suc place) place (omega arith)

pub no-first : (text : List ℕ) → ((place : ℕ) → IsOrphan (text_lines text) place → ⊥) → (number : ℕ) → HasOrphanAt text number → ⊥
no-first text none zero is = is
no-first text none (suc place) is = none place is.0

-- where no banner stays open none is open in the end, and the other way round
closed-in-end : (lines : List (List ℕ)) (o : Option Delimiter) → open_banner lines ≡ o → ((place : ℕ) → Unclosed lines (length lines) place → ⊥) → open_banner lines ≡ None
closed-in-end lines None is none = is
closed-in-end lines (Some d) is none =
    let all : take (length lines) lines ≡ lines = take_all (length lines) lines (omega arith) in
    let begun = (banners-end lines (length lines) d (omega arith)).0 (ap open_banner all ∙ is) in
    let b = begun.1 in
    absurd (none begun.0 (record {
      within = b.before;
      new = b.alone;
      stays = λ later low high.
          ap is_some ((banners-end lines later d high).1 (begun.0, record { before = low; alone = b.alone; begins = b.begins; apart = λ between more below. b.apart between more (omega arith) }));
    }))

pub no-banner-left : (text : List ℕ) → ((number : ℕ) → HasOpenBannerAt text number → ⊥) → open_banner (text_lines text) ≡ None
no-banner-left text none = closed-in-end (text_lines text) (open_banner (text_lines text)) refl (λ place is. none (suc place) is)

pub no-banner-at : (text : List ℕ) → open_banner (text_lines text) ≡ None → (number : ℕ) → HasOpenBannerAt text number → ⊥
no-banner-at text closed zero is = is
no-banner-at text closed (suc place) is =
    let lines = text_lines text in
    let all : take (length lines) lines ≡ lines = take_all (length lines) lines (omega arith) in
    let within : place < length lines = is.within in
    let some : is_some (open_banner (take (length lines) lines)) ≡ true = is.stays (length lines) within (omega arith) in
    let none : is_some (open_banner (take (length lines) lines)) ≡ false = ap is_some (ap open_banner all ∙ closed) in
    cc
