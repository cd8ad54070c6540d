-- Lines put one after another at the end of others, with their commands.
use Rattle.std.proofs.Common.{◌≡◌, ◌≢◌, ℕ, ◌+◌, ◌<◌, ◌≤◌, inl, inr, true, None, List, [], ◌∷◌, ◌++◌, length, take, drop, map, fold, refl, sym, ap, subst, ◌∙◌, arith, Contains, nat_le, ◌⊎◌}
use Rattle.std.specs.List.{AllByRecursion}
use Rattle.std.proofs.lemmas.Bool.{cond-true, le-leb}
use Rattle.std.proofs.lemmas.List.{take_all, drop_all, length_push}
use Rattle.std.proofs.lemmas.List.Sums.{fold-append}
use Rattle.arc_base.proofs.Items as items
use Rattle.arc_base.proofs.Zips.{AllByRecursion-append}
use Rattle.ios_lines.specs.Changes.{inserted, moved, MayStandAt}
use Rattle.ios_lines.specs.Kinds.{after_line, kind, kind_within, opened, open_banner, IsHead, IsSingle, IsClosing}
use Rattle.ios_lines.specs.Reading.{block_after}
use Rattle.ios_lines.specs.Views.{open_from, open_block}
use Rattle.ios_lines.proofs.ChangedTexts.{inner-may, top-may}
use Rattle.ios_lines.proofs.Insertions.{moved-low}
use Rattle.ios_words.specs.declared.commands.Command.{Command}
use Rattle.ios_words.specs.declared.kinds.BlockKind.{BlockKind}
use Rattle.ios_words.specs.declared.kinds.BlockKind.TheVariants as kinds
use Rattle.ios_config.specs.declared.commands.FileCommand.{FileCommand}
use Rattle.ios_config.specs.Commands.{opened_by}
use Rattle.ios_config.specs.Inserted.{Opened, command_at, command_moved, with_command}
use Rattle.ios_config.specs.LineLists.{AreCommandsIn}
use Rattle.ios_config.proofs.LineLists.{inner-in, head-in, single-in, closing-in}
use Rattle.generated_network_laws.proofs.LineReads.{IsTop, IsWithin}
use Rattle.generated_network_laws.proofs.Texts.{IsPlain}

-- the command's numbers are those of these first lines
abbrev pub IsLow : ℕ → FileCommand → Type 0
IsLow n c = (c.line ≤ n) × (c.block ≤ n)

-- the lines have these commands, and this block is open after them
pub record AreRead (lines : List (List ℕ)) (cs : List FileCommand) (block : ℕ) : Type 0 where
  pub are : AreCommandsIn lines cs
  pub banner : open_banner lines ≡ None
  pub inside : open_block lines ≡ block
  pub low : AllByRecursion (IsLow (length lines)) cs
  pub plain : AllByRecursion IsPlain lines

pub all-weaker : {X : Type 0} (P Q : X → Type 0) → ((x : X) → P x → Q x) → (xs : List X) → AllByRecursion P xs → AllByRecursion Q xs
all-weaker P Q weaker [] all = tt
all-weaker P Q weaker (x ∷ xs) all = (weaker x all.0, all-weaker P Q weaker xs all.1)

inserted-last : {X : Type 0} (xs : List X) (x : X) → inserted (length xs) x xs ≡ xs ++ x ∷ []
inserted-last xs x =
    let all : take (length xs) xs ≡ xs = take_all (length xs) xs (omega arith) in
    let none : drop (length xs) xs ≡ [] = drop_all (length xs) xs (omega arith) in
    ap (λ l. l ++ x ∷ drop (length xs) xs) all ∙ ap (λ l. xs ++ x ∷ l) none

moved-same : (place : ℕ) (c : FileCommand) → IsLow place c → command_moved place c ≡ c
moved-same place c low =
    ap (λ (n : ℕ). command_at n (moved place c.block) c.command) (moved-low place c.line low.0) ∙ ap (λ (n : ℕ). command_at c.line n c.command) (moved-low place c.block low.1)

all-moved-same : (place : ℕ) (cs : List FileCommand) → AllByRecursion (IsLow place) cs → map (command_moved place) cs ≡ cs
all-moved-same place [] low = refl
all-moved-same place (c ∷ cs) low = ap (λ d. d ∷ map (command_moved place) cs) (moved-same place c low.0) ∙ ap (λ rest. c ∷ rest) (all-moved-same place cs low.1)

with-last : (place : ℕ) (c : FileCommand) (cs : List FileCommand) → AllByRecursion (IsLow place) cs → with_command place c cs ≡ cs ++ c ∷ []
with-last place c [] low = refl
with-last place c (d ∷ cs) low =
    let test : nat_le d.line place ≡ true = le-leb d.line place low.0.0 in
    cond-true (nat_le d.line place) (command_moved place d ∷ with_command place c cs) (c ∷ map (command_moved place) (d ∷ cs)) test
    ∙ ap (λ e. e ∷ with_command place c cs) (moved-same place d low.0) ∙ ap (λ rest. d ∷ rest) (with-last place c cs low.1)

-- what is open after one line more
banner-last : (lines : List (List ℕ)) (line : List ℕ) → open_banner lines ≡ None → opened (kind line) line ≡ None → open_banner (lines ++ line ∷ []) ≡ None
banner-last lines line none other = fold-append after_line None lines (line ∷ []) ∙ ap (λ b. after_line b line) none ∙ other

open-last : (count : ℕ) (start : _) (block : ℕ) (lines : List (List ℕ)) (line : List ℕ) →
    open_from count start block (lines ++ line ∷ []) ≡ block_after (kind_within (fold after_line start lines) line) (count + length lines + 1) (open_from count start block lines)
open-last count start block [] line = ap (λ n. block_after (kind_within start line) n block) (omega arith)
open-last count start block (l ∷ lines) line =
    open-last (count + 1) (after_line start l) (block_after (kind_within start l) (count + 1) block) lines line
    ∙ ap (λ n. block_after (kind_within (fold after_line (after_line start l) lines) line) n
    (open_from (count + 1) (after_line start l) (block_after (kind_within start l) (count + 1) block) lines)) (omega arith)

block-last : (lines : List (List ℕ)) (line : List ℕ) (block : ℕ) → open_banner lines ≡ None → open_block lines ≡ block →
    open_block (lines ++ line ∷ []) ≡ block_after (kind line) (length lines + 1) block
block-last lines line block none is =
    open-last 0 None 0 lines line
    ∙ ap (λ b. block_after (kind_within b line) (0 + length lines + 1) (open_block lines)) none
    ∙ ap (λ n. block_after (kind line) n (open_block lines)) (omega arith)
    ∙ ap (λ n. block_after (kind line) (length lines + 1) n) is

low-more : (n : ℕ) (cs : List FileCommand) → AllByRecursion (IsLow n) cs → AllByRecursion (IsLow (n + 1)) cs
low-more n cs low = all-weaker (IsLow n) (IsLow (n + 1)) (λ c both. let one : c.line ≤ n = both.0 in let two : c.block ≤ n = both.1 in (omega arith, omega arith)) cs low

module _ (lines : List (List ℕ)) (cs : List FileCommand) (block : ℕ) (r : AreRead lines cs block) (line : List ℕ) where
  whole-front : take (length lines) lines ≡ lines
  whole-front = take_all (length lines) lines (omega arith)

  outside : open_banner (take (length lines) lines) ≡ None
  outside = ap open_banner whole-front ∙ r.banner

  low-now : AllByRecursion (IsLow (length (lines ++ line ∷ []))) cs
  low-now = subst (λ n. AllByRecursion (IsLow n) cs) (sym (length_push lines line)) (low-more (length lines) cs r.low)

  low-with : (c : FileCommand) → IsLow (length lines + 1) c → AllByRecursion (IsLow (length (lines ++ line ∷ []))) (cs ++ c ∷ [])
  low-with c low = AllByRecursion-append (IsLow (length (lines ++ line ∷ []))) cs (c ∷ []) low-now (subst (λ n. IsLow n c) (sym (length_push lines line)) low, tt)

  plain-now : IsPlain line → AllByRecursion IsPlain (lines ++ line ∷ [])
  plain-now plain = AllByRecursion-append IsPlain lines (line ∷ []) r.plain (plain, tt)

  one-more : (c : FileCommand) → AreCommandsIn (inserted (length lines) line lines) (with_command (length lines) c cs) → AreCommandsIn (lines ++ line ∷ []) (cs ++ c ∷ [])
  one-more c are = subst (λ ls. AreCommandsIn ls (cs ++ c ∷ [])) (inserted-last lines line)
      (subst (λ ds. AreCommandsIn (inserted (length lines) line lines) ds) (with-last (length lines) c cs r.low) are)

  may : (k : IsHead line ⊎ (IsSingle line ⊎ IsClosing line)) → MayStandAt lines (length lines) line
  may k = top-may lines (length lines) line (omega arith) outside (λ (below : length lines < length lines). absurd (omega arith)) k

  -- a line that heads a block
  pub head-more : (command : Command) → IsTop IsHead line command → AreRead (lines ++ line ∷ []) (cs ++ command_at (length lines + 1) (length lines + 1) command ∷ []) (length lines + 1)
  head-more command t =
      record {
        are = one-more (command_at (length lines + 1) (length lines + 1) command) (head-in lines cs (length lines) line command r.are (may (inl t.kind)) t.kind t.reads);
        banner = banner-last lines line r.banner (ap (λ k. opened k line) t.kind);
        inside = block-last lines line block r.banner r.inside ∙ ap (λ k. block_after k (length lines + 1) block) t.kind;
        low = low-with (command_at (length lines + 1) (length lines + 1) command) (omega arith, omega arith);
        plain = plain-now t.plain;
      }

  -- a top line that heads none
  pub single-more : (command : Command) → IsTop IsSingle line command → AreRead (lines ++ line ∷ []) (cs ++ command_at (length lines + 1) 0 command ∷ []) 0
  single-more command t =
      record {
        are = one-more (command_at (length lines + 1) 0 command) (single-in lines cs (length lines) line command r.are (may (inr (inl t.kind))) t.kind t.reads);
        banner = banner-last lines line r.banner (ap (λ k. opened k line) t.kind);
        inside = block-last lines line block r.banner r.inside ∙ ap (λ k. block_after k (length lines + 1) block) t.kind;
        low = low-with (command_at (length lines + 1) 0 command) (omega arith, omega arith);
        plain = plain-now t.plain;
      }

  -- a line that ends a block
  pub closing-more : IsPlain line → IsClosing line → AreRead (lines ++ line ∷ []) cs 0
  closing-more plain is =
      record {
        are = subst (λ ls. AreCommandsIn ls cs) (inserted-last lines line)
            (subst (λ ds. AreCommandsIn (inserted (length lines) line lines) ds) (all-moved-same (length lines) cs r.low) (closing-in lines cs (length lines) line r.are (may (inr (inr is))) is));
        banner = banner-last lines line r.banner (ap (λ k. opened k line) is);
        inside = block-last lines line block r.banner r.inside ∙ ap (λ k. block_after k (length lines + 1) block) is;
        low = low-now;
        plain = plain-now plain;
      }

  -- a line in the block that is open
  pub inner-more : (within : BlockKind) (command : Command) (head : FileCommand) → IsWithin within line command → block ≢ 0 → Contains cs head →
      head.line ≡ block → opened_by head.command ≡ within → within ≢ kinds.Inert →
      AreRead (lines ++ line ∷ []) (cs ++ command_at (length lines + 1) block command ∷ []) block
  inner-more within command head w some among head-line opens known =
      let here : open_block (take (length lines) lines) ≡ block = ap open_block whole-front ∙ r.inside in
      let stands : MayStandAt lines (length lines) line = inner-may lines (length lines) line (omega arith) outside (λ none. some (sym here ∙ none)) w.kind in
      let opened_here : Opened cs (open_block (take (length lines) lines)) within = record { head = head; among = among; line = head-line ∙ sym here; opens = opens; known = known } in
      let small : block ≤ length lines = subst (λ n. n ≤ length lines) head-line (low-of cs head among r.low).0 in
      let are = inner-in lines cs (length lines) line within command r.are stands w.kind opened_here w.reads in
      record {
        are = one-more (command_at (length lines + 1) block command)
            (subst (λ b. AreCommandsIn (inserted (length lines) line lines) (with_command (length lines) (command_at (length lines + 1) b command) cs)) here are);
        banner = banner-last lines line r.banner (ap (λ k. opened k line) w.kind);
        inside = block-last lines line block r.banner r.inside ∙ ap (λ k. block_after k (length lines + 1) block) w.kind;
        low = low-with (command_at (length lines + 1) block command) (omega arith, omega arith);
        plain = plain-now w.plain;
      }
    where
      low-of : (ds : List FileCommand) (c : FileCommand) → Contains ds c → AllByRecursion (IsLow (length lines)) ds → IsLow (length lines) c
      low-of [] c there low = absurd (items.Contains-none c there)
      low-of (d ∷ ds) c there low = elim (items.Contains-cases d c ds there) [
        | inl here ↦ subst (IsLow (length lines)) here low.0
        | inr later ↦ low-of ds c later low.1
      ]
