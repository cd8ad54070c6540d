-- Each line that is seen in a block has the line that heads it.
use Rattle.std.proofs.Common.{◌≡◌, ◌≢◌, ℕ, zero, suc, ◌+◌, ◌<◌, true, List, [], ◌∷◌, map, length, take, drop, get_or, slice_get, Some, None, Option, refl, sym, ap, subst, ◌∙◌, arith}
use Rattle.std.proofs.lemmas.List.{length-map}
use Rattle.std.proofs.lemmas.Option.{same_Some, none-some, slice_get-map, slice_get_within}
use Rattle.std.specs.Prelude.{option_map}
use Rattle.ios_lines.specs.declared.banner.Delimiter.{Delimiter}
use Rattle.ios_lines.specs.Kinds.{after_line, is_head, kind_at, kind_within, open_banner}
use Rattle.ios_lines.specs.Blocks.{Heads, IsOpenBlock}
use Rattle.ios_lines.specs.Reading.{block_after}
use Rattle.ios_lines.specs.Views.{Seen, seen_in, seen_from, seen, Mark, mark_seen, open_block}
use Rattle.ios_lines.specs.ChangeLaws.{HasHead}
use Rattle.ios_lines.proofs.ChangedTexts.{seen-at}
use Rattle.ios_lines.proofs.Insertions.{length-seen}
use Rattle.ios_lines.proofs.OpenBlocks.{open-step}
use Rattle.ios_lines.proofs.Rows.{stands_at}
use Rattle.ios_lines.proofs.ViewRows.{kind-next, banner-next}

-- the block of a line is the one that is open after it
seen-open : (lines : List (List ℕ)) (count : ℕ) (banner : Option Delimiter) (block : ℕ) (rest : List (List ℕ)) (k : ℕ) (s : Seen) → drop count lines ≡ rest →
    banner ≡ open_banner (take count lines) → IsOpenBlock (kind_at lines) count block →
    slice_get (seen_from count banner block rest) k ≡ Some s → IsOpenBlock (kind_at lines) (count + 1 + k) s.block
seen-open lines count banner block [] k s there is open_now at = absurd (none-some s at)
seen-open lines count banner block (line ∷ rest) zero s there is open_now at =
    let kind = kind-next lines count line rest banner there is in
    let now = open-step (kind_at lines) count block (kind_within banner line) kind open_now in
    let number : count + 1 ≡ count + 1 + 0 = omega arith in
    subst (λ n. IsOpenBlock (kind_at lines) n s.block) number (subst (IsOpenBlock (kind_at lines) (count + 1)) (ap (λ (x : Seen). x.block) (same_Some _ s at)) now)
seen-open lines count banner block (line ∷ rest) (suc k) s there is open_now at =
    let kind = kind-next lines count line rest banner there is in
    let next = stands_at lines count line rest there in
    let number : count + 1 + 1 + k ≡ count + 1 + suc k = omega arith in
    subst (λ n. IsOpenBlock (kind_at lines) n s.block) number
    (seen-open lines (count + 1) (after_line banner line) (block_after (kind_within banner line) (count + 1) block) rest k s next.left
    (banner-next lines count line rest banner there is) (open-step (kind_at lines) count block (kind_within banner line) kind open_now) at)

none-open : (lines : List (List ℕ)) → IsOpenBlock (kind_at lines) 0 0
none-open lines head heads = let low : head < 0 = heads.before in absurd (omega arith)

head-seen : (lines : List (List ℕ)) (k block : ℕ) → k < length lines → IsOpenBlock (kind_at lines) (0 + 1 + k) block → block ≢ 0 → HasHead (map mark_seen (seen lines)) block
head-seen lines k zero low is some = absurd (some refl)
head-seen lines k (suc h) low is some =
    let before : h < 0 + 1 + k = is.before in
    let s = seen_in (h + 1) (get_or lines h []) (kind_at lines h) (open_block (take h lines)) in
    record {
      place = h;
      head = mark_seen s;
      number = omega arith;
      at_place = slice_get-map mark_seen (seen lines) h ∙ ap (option_map mark_seen) (seen-at lines h (omega arith));
      heads = ap is_head is.opens;
    }

-- what a line is seen to be, that is made a mark of
get-seen : (xs : List Seen) (k : ℕ) (m : Mark) → slice_get (map mark_seen xs) k ≡ Some m → (s : Seen) × (slice_get xs k ≡ Some s) × (mark_seen s ≡ m)
get-seen [] k m is = absurd (none-some m is)
get-seen (x ∷ xs) zero m is = (x, refl, same_Some (mark_seen x) m is)
get-seen (x ∷ xs) (suc k) m is = get-seen xs k m is

pub seen-heads : (lines : List (List ℕ)) (k : ℕ) (m : Mark) → slice_get (map mark_seen (seen lines)) k ≡ Some m → m.block ≢ 0 → HasHead (map mark_seen (seen lines)) m.block
seen-heads lines k m at some =
    let (s, there, same) = get-seen (seen lines) k m at in
    let within = slice_get_within (seen lines) k s there in
    let long = length-seen 0 None 0 lines in
    let block : s.block ≡ m.block = ap (λ (x : Mark). x.block) same in
    head-seen lines k m.block (omega arith) (subst (IsOpenBlock (kind_at lines) (0 + 1 + k)) block (seen-open lines 0 None 0 lines k s refl refl (none-open lines) there)) some
