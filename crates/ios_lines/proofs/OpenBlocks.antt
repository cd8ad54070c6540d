-- What is open after one more line.
use Rattle.std.proofs.Common.{◌≡◌, ℕ, zero, suc, ◌+◌, ◌<◌, true, false, List, take, refl, sym, ap, subst, ◌∙◌, arith, ⊎_elim, add-one, Option, Some, None, IsSome}
use Rattle.std.proofs.lemmas.Bool.{cases_eq, eqb-true}
use Rattle.ios_lines.specs.declared.banner.Delimiter.{Delimiter}
use Rattle.ios_lines.specs.declared.kind.Kind.{Kind}
use Rattle.ios_lines.specs.declared.kind.Kind.TheVariants.{Blank, Comment, Remark, Inner, Single, Head, Banner}
use Rattle.ios_lines.specs.Kinds.{closes, kind_at, open_banner}
use Rattle.ios_lines.specs.Blocks.{IsOpenBlock, IsOrphan, Unclosed, IsUnclosed}
use Rattle.ios_lines.specs.Reading.{block_after, first_after, is_alone}

-- a line that closes the block and opens none leaves none open
closing : (kinds : ℕ → Kind) (count : ℕ) (k : Kind) → kinds count ≡ k → closes k ≡ true → (k ≡ Head → ⊥) → IsOpenBlock kinds (count + 1) 0
closing kinds count k is closes_it no_head = λ head heads. ⊎_elim
    (λ last. no_head (sym is ∙ ap kinds (sym last) ∙ heads.opens))
    (λ other.
    let before : head < count + 1 = heads.before in
    let unclosed : closes (kinds count) ≡ false = heads.unclosed count (omega arith) (omega arith) in
    let closed : closes (kinds count) ≡ true = ap closes is ∙ closes_it in
    cc)
    (cases_eq head count)

-- a line that closes nothing leaves open what was
keeping : (kinds : ℕ → Kind) (count block : ℕ) (k : Kind) → kinds count ≡ k → closes k ≡ false → (k ≡ Head → ⊥) → IsOpenBlock kinds count block → IsOpenBlock kinds (count + 1) block
keeping kinds count zero k is keeps no_head none = λ head heads. ⊎_elim
    (λ last. no_head (sym is ∙ ap kinds (sym last) ∙ heads.opens))
    (λ other.
    let before : head < count + 1 = heads.before in
    none head (record { before = omega arith; opens = heads.opens; unclosed = λ place low high. heads.unclosed place low (omega arith) }))
    (cases_eq head count)
keeping kinds count (suc block) k is keeps no_head heads =
    let before : block < count = heads.before in
    record {
      before = omega arith;
      opens = heads.opens;
      unclosed = λ place low high. ⊎_elim
          (λ last. ap (λ p. closes (kinds p)) last ∙ ap closes is ∙ keeps)
          (λ other. heads.unclosed place low (omega arith))
          (cases_eq place count);
    }

-- a line that opens a block heads it
opening : (kinds : ℕ → Kind) (count : ℕ) → kinds count ≡ Head → IsOpenBlock kinds (count + 1) (count + 1)
opening kinds count is = subst (IsOpenBlock kinds (count + 1)) (sym (add-one count)) (record { before = omega arith; opens = is; unclosed = λ place low high. absurd (omega arith) })

-- the block that is open after one more line
pub open-step : (kinds : ℕ → Kind) (count block : ℕ) (k : Kind) → kinds count ≡ k → IsOpenBlock kinds count block → IsOpenBlock kinds (count + 1) (block_after k (count + 1) block)
open-step kinds count block Blank is before = keeping kinds count block Blank is refl (λ e. cc) before
open-step kinds count block Comment is before = closing kinds count Comment is refl (λ e. cc)
open-step kinds count block Remark is before = keeping kinds count block Remark is refl (λ e. cc) before
open-step kinds count block Inner is before = keeping kinds count block Inner is refl (λ e. cc) before
open-step kinds count block Single is before = closing kinds count Single is refl (λ e. cc)
open-step kinds count block Head is before = opening kinds count is
open-step kinds count block Banner is before = closing kinds count Banner is refl (λ e. cc)

-- a line of another kind is no orphan
other-kind : (lines : List (List ℕ)) (count : ℕ) (k : Kind) → kind_at lines count ≡ k → (k ≡ Inner → ⊥) → IsOrphan lines count → ⊥
other-kind lines count k is other orphan = other (sym is ∙ orphan.inner)

-- nor is a line in a block
in-block : (lines : List (List ℕ)) (count block : ℕ) → IsOpenBlock (kind_at lines) count block → (block ≡ 0 → ⊥) → IsOrphan lines count → ⊥
in-block lines count zero open_block some orphan = some refl
in-block lines count (suc head) heads some orphan = orphan.alone head heads

-- the code's test of an orphan is right
pub no-orphan : (lines : List (List ℕ)) (count block : ℕ) (k : Kind) → kind_at lines count ≡ k → IsOpenBlock (kind_at lines) count block → is_alone k block ≡ false → IsOrphan lines count → ⊥
no-orphan lines count block Blank is stands test = other-kind lines count Blank is (λ e. cc)
no-orphan lines count block Comment is stands test = other-kind lines count Comment is (λ e. cc)
no-orphan lines count block Remark is stands test = other-kind lines count Remark is (λ e. cc)
no-orphan lines count zero Inner is stands test = absurd cc
no-orphan lines count (suc head) Inner is stands test = in-block lines count (suc head) stands (λ e. absurd (omega arith))
no-orphan lines count block Single is stands test = other-kind lines count Single is (λ e. cc)
no-orphan lines count block Head is stands test = other-kind lines count Head is (λ e. cc)
no-orphan lines count block Banner is stands test = other-kind lines count Banner is (λ e. cc)

-- an orphan is an inner line where no block is open
pub alone : (k : Kind) (block : ℕ) → is_alone k block ≡ true → (k ≡ Inner) × (block ≡ 0)
alone Blank block test = absurd cc
alone Comment block test = absurd cc
alone Remark block test = absurd cc
alone Inner block test = (refl, eqb-true block 0 test)
alone Single block test = absurd cc
alone Head block test = absurd cc
alone Banner block test = absurd cc

-- the line that began the open banner, after one more line
pub unclosed-step : (lines : List (List ℕ)) (count first : ℕ) (banner : Option Delimiter) → banner ≡ open_banner (take count lines) →
    (IsSome banner → IsUnclosed lines count first) → IsSome (open_banner (take (count + 1) lines)) →
    IsUnclosed lines (count + 1) (first_after banner (count + 1) first)
unclosed-step lines count first None is before after =
    subst (IsUnclosed lines (count + 1)) (sym (add-one count)) (record {
      within = omega arith;
      new = sym is;
      stays = λ later low high.
          subst (λ n. IsSome (open_banner (take n lines))) (omega arith) after;
    })
unclosed-step lines count zero (Some d) is before after = absurd (before refl)
unclosed-step lines count (suc place) (Some d) is before after =
    let open_yet : Unclosed lines count place = before refl in
    let within : place < count = open_yet.within in
    record {
      within = omega arith;
      new = open_yet.new;
      stays = λ later low high. ⊎_elim
          (λ last. subst (λ n. IsSome (open_banner (take n lines))) (sym last) after)
          (λ other. open_yet.stays later low (omega arith))
          (cases_eq later (count + 1));
    }
