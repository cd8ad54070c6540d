-- A line that is put before another, over lists of lines.
use Rattle.std.proofs.Common.{◌≡◌, ◌≢◌, ℕ, ◌+◌, ◌<◌, ◌≤◌, Bool, true, false, cond, List, [], ◌∷◌, ◌++◌}
use Rattle.std.proofs.Common.{length, filter, take, None, refl, sym, ap, subst, ◌∙◌, arith, ⊎_elim, inl, inr, Contains, IsTrue}
use Rattle.std.proofs.lemmas.Bool.{cases_Bool}
use Rattle.std.proofs.lemmas.List.Elements.{Contains-append_cases}
use Rattle.std.specs.List.{AllZip, AllByRecursion, enumerate_from}
use Rattle.arc_base.proofs.Items.{Contains-cases, Contains-none}
use Rattle.ios_lines.specs.Kinds.{closes, kind_at, open_banner}
use Rattle.ios_lines.specs.Views.{Mark, open_block}
use Rattle.ios_lines.specs.Changes.{inserted, MayStandAt}
use Rattle.ios_lines.proofs.ChangedTexts.{inner-may, top-may}
use Rattle.ios_lines.proofs.Insertions.{moved-low}
use Rattle.ios_config.specs.declared.commands.FileCommand.{FileCommand}
use Rattle.ios_config.specs.Groups.{Block, part_of}
use Rattle.ios_config.specs.Inserted.{IsMarkRead, Opened, command_at, with_command}
use Rattle.ios_config.specs.Joined.{part_moved}
use Rattle.ios_config.specs.LineLists.{marks_in, AreCommandsIn, ALineIsPutBeforeIn, ASingleLineIsPutBeforeIn}
use Rattle.ios_config.proofs.AppendedLines.{in-front, any-part, all-of, part-head}
use Rattle.ios_config.proofs.InsertedCommands.{marks-split, says}
use Rattle.ios_config.proofs.JoinedSettings.{split-sets-other}
use Rattle.ios_config.proofs.LineLists.{command-spot, inner-in, single-in}

pub put-before-in : ALineIsPutBeforeIn
put-before-in lines commands head next within place line command are b of number =
    let p = command-spot lines commands next are b.next_among in
    let row : p.place ≡ place = let there = p.line in omega arith in
    let low : p.place < length lines = p.told.within in
    let later : head.line < next.line = b.later in
    let block_is : p.mark.block ≡ head.line = sym p.block ∙ b.next_block in
    let some_block : p.mark.block ≢ 0 = λ none. b.some (b.own ∙ sym block_is ∙ none) in
    let no_head : p.mark.head ≡ false = ⊎_elim
    (λ heads. let own : p.mark.block ≡ p.place + 1 = p.told.own heads in let there = p.line in absurd (omega arith))
    (λ other. other)
    (cases_Bool p.mark.head) in
    let outside : open_banner (take place lines) ≡ None = ap (λ n. open_banner (take n lines)) (sym row) ∙ p.told.before in
    let block : open_block (take place lines) ≡ head.line = ap (λ n. open_block (take n lines)) (sym row) ∙ p.told.inner no_head some_block ∙ block_is in
    let some : open_block (take place lines) ≢ 0 = λ none. b.some (b.own ∙ sym block ∙ none) in
    let may : MayStandAt lines place line = inner-may lines place line (omega arith) outside some of.inner in
    let opened : Opened commands (open_block (take place lines)) within = record { head = head; among = b.among; line = sym block; opens = b.opens; known = b.known } in
    let added = inner-in lines commands place line within command are may of.inner opened of.reads in
    let c = command_at (place + 1) head.line command in
    let part = Block head.line in
    let split = marks-split (marks_in lines) commands place are.reads in
    let own : part_of head ≡ part = part-head head.block head.command within b.opens b.known ∙ ap Block b.own in
    let early : head.line ≤ place = omega arith in
    let in_front : Contains split.front head = in-front place commands split head b.among early in
    let same_part : part_of c ≡ part_moved place part = of.part ∙ ap Block (sym (moved-low place head.line early)) in
    let sets = split-sets-other place commands split c part same_part (inl (any-part part split.front head in_front own)) in
    record {
      may = may;
      stands = subst (λ n. AreCommandsIn (inserted place line lines) (with_command place (command_at (place + 1) n command) commands)) block added;
      split = split;
      sets = sets;
    }

-- the lines of the commands rise, from this one on
abbrev pub Rising : ℕ → List FileCommand → Type 0
Rising n [] = Unit {0}
Rising n (c ∷ cs) = (n ≤ c.line) × Rising (c.line + 1) cs

pub rising-lower : (n m : ℕ) (cs : List FileCommand) → m ≤ n → Rising n cs → Rising m cs
rising-lower n m [] low up = tt
rising-lower n m (c ∷ cs) low up = let first : n ≤ c.line = up.0 in (omega arith, up.1)

rising-step : (marks : List Mark) (n : ℕ) (m : Mark) (ms : List Mark) (cs : List FileCommand) (b : Bool) →
    ((ds : List FileCommand) → AllZip (IsMarkRead marks) (filter says (enumerate_from (n + 1) ms)) ds → Rising (n + 1) ds) →
    AllZip (IsMarkRead marks) (cond b ((n, m) ∷ filter says (enumerate_from (n + 1) ms)) (filter says (enumerate_from (n + 1) ms))) cs → Rising n cs
rising-step marks n m ms cs false deeper all = rising-lower (n + 1) n cs (omega arith) (deeper cs all)
rising-step marks n m ms [] true deeper all = tt
rising-step marks n m ms (c ∷ cs) true deeper all =
    let line : c.line ≡ n = all.0.line in (omega arith, subst (λ k. Rising (k + 1) cs) (sym line) (deeper cs all.1))

pub rising-from : (marks : List Mark) (n : ℕ) (ms : List Mark) (cs : List FileCommand) → AllZip (IsMarkRead marks) (filter says (enumerate_from n ms)) cs → Rising n cs
rising-from marks n [] [] all = tt
rising-from marks n [] (c ∷ cs) all = absurd all
rising-from marks n (m ∷ ms) cs all = rising-step marks n m ms cs (says (n, m)) (rising-from marks (n + 1) ms) all

rising-back : (n : ℕ) (xs ys : List FileCommand) → Rising n (xs ++ ys) → (k : ℕ) × Rising k ys
rising-back n [] ys up = (n, up)
rising-back n (x ∷ xs) ys up = rising-back (x.line + 1) xs ys up.1

pub rising-low : (n : ℕ) (cs : List FileCommand) (d : FileCommand) → Rising n cs → Contains cs d → n ≤ d.line
rising-low n [] d up has = absurd (Contains-none d has)
rising-low n (c ∷ cs) d up has = ⊎_elim
    (λ here. subst (λ (e : FileCommand). n ≤ e.line) here up.0)
    (λ later. let deeper = rising-low (c.line + 1) cs d up.1 later in let first : n ≤ c.line = up.0 in omega arith)
    (Contains-cases c d cs has)

-- the command of the next line is the first of those of later ones
first-is : (k place : ℕ) (cs : List FileCommand) (next : FileCommand) → Rising k cs → AllByRecursion (λ (d : FileCommand). place < d.line) cs →
    Contains cs next → next.line ≡ place + 1 → (rest : List FileCommand) × (cs ≡ next ∷ rest)
first-is k place [] next up high has is = absurd (Contains-none next has)
first-is k place (d ∷ rest) next up high has is = (
  rest,
  ap (λ (e : FileCommand). e ∷ rest) (⊎_elim
      (λ here. here)
      (λ later. let over = rising-low (d.line + 1) rest next up.1 later in let first : place < d.line = high.0 in absurd (omega arith))
      (Contains-cases d next rest has)),
)

pub single-before-in : ASingleLineIsPutBeforeIn
single-before-in lines commands next place line command are among top number single reads same still =
    let p = command-spot lines commands next are among in
    let row : p.place ≡ place = let there = p.line in omega arith in
    let low : p.place < length lines = p.told.within in
    let outside : open_banner (take place lines) ≡ None = ap (λ n. open_banner (take n lines)) (sym row) ∙ p.told.before in
    let closing : IsTrue (closes (kind_at lines place)) = subst (λ n. IsTrue (closes (kind_at lines n))) row (p.told.closing (inr (sym p.block ∙ top))) in
    let may : MayStandAt lines place line = top-may lines place line (omega arith) outside (λ within. closing) (inr (inl single)) in
    let added = single-in lines commands place line command are may single reads in
    let c = command_at (place + 1) 0 command in
    let part = part_of next in
    let split = marks-split (marks_in lines) commands place are.reads in
    let in_back : Contains split.back next = ⊎_elim
    (λ front. let under : next.line ≤ place = all-of (λ (d : FileCommand). d.line ≤ place) split.front next split.low front in absurd (omega arith))
    (λ back. back)
    (Contains-append_cases split.front split.back next (subst (λ (cs : List FileCommand). Contains cs next) split.parts among)) in
    let up = rising-back 1 split.front split.back (subst (Rising 1) split.parts (rising-from (marks_in lines) 1 (marks_in lines) commands are.reads)) in
    let (rest, first) = first-is up.0 place split.back next up.1 split.high in_back number in
    let sets = split-sets-other place commands split c part (same ∙ sym (still place)) (inr (next, rest, first, refl)) in
    record {
      may = may;
      stands = added;
      split = split;
      sets = sets;
    }
