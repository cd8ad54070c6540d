-- A line that is put at the end of a block.
use Rattle.std.proofs.Common.{◌≡◌, ◌≢◌, ℕ, suc, ◌+◌, ◌<◌, ◌≤◌, ◌||◌, not, Bool, true, false, List, [], ◌∷◌, ◌++◌}
use Rattle.std.proofs.Common.{length, map, slice_get, take, Some, None, append-nil, refl, sym, ap, subst, ◌∙◌, arith, ⊎_elim, inl, Contains}
use Rattle.std.proofs.lemmas.Bool.{cases_Bool, cond-false, not-true}
use Rattle.std.proofs.lemmas.List.Elements.{filter-append, Contains-append_right, Contains-append_cases}
use Rattle.std.specs.List.{list_any, enumerate_from, AllByRecursion}
use Rattle.arc_base.proofs.Items.{Contains-cases, Contains-none, Contains-head, Contains-tail, from_filter}
use Rattle.ios_lines.specs.declared.line.Lines.{Lines}
use Rattle.ios_lines.specs.Texts.{text_lines}
use Rattle.ios_lines.specs.Kinds.{open_banner}
use Rattle.ios_lines.specs.Views.{Mark, line_marks, open_block}
use Rattle.ios_lines.specs.Changes.{MayStandAt}
use Rattle.ios_lines.specs.ChangeLaws.{CanBeCut, IsPlaceOf}
use Rattle.ios_lines.proofs.ChangedTexts.{an-inserted-line as line-stands, inner-may, rows-tell}
use Rattle.ios_lines.proofs.Insertions.{moved-low}
use Rattle.ios_words.specs.declared.kinds.BlockKind.{BlockKind}
use Rattle.ios_words.specs.declared.commands.Command.{Command}
use Rattle.ios_words.specs.declared.commands.Command.TheVariants as commands
use Rattle.ios_words.specs.declared.kinds.BlockKind.TheVariants as kinds
use Rattle.ios_config.specs.declared.commands.FileCommand.{FileCommand}
use Rattle.ios_config.specs.Appended.{HasBlock, IsLineOf, ALineIsAppended}
use Rattle.ios_config.specs.Bare.{bare, bare_config, HasOneOther}
use Rattle.ios_config.specs.Commands.{AreCommandsOf, opened_by}
use Rattle.ios_config.specs.Effects.{Split}
use Rattle.ios_config.specs.Groups.{Part, Block, is_same, part_in, part_of, members}
use Rattle.ios_config.specs.Inserted.{numbered_marks, command_marks, IsMarkRead, HaveLines, IsPut, Opened, command_at, with_command}
use Rattle.ios_config.specs.Joined.{part_moved, between}
use Rattle.ios_config.specs.Texts.{config_of}
use Rattle.ios_config.proofs.InsertedCommands.{commands-split}
use Rattle.ios_config.proofs.InsertedLines.{inner-adds, zip-found}
use Rattle.ios_config.proofs.JoinedParts.{is-self}
use Rattle.ios_config.proofs.JoinedSettings.{one-sets-other}
use Rattle.ios_config.proofs.MarkCommands.{commands-of-marks}
use Rattle.ios_config.proofs.PartLists.{is_same-Decides}

-- a numbered row at its place
pub numbered-at : (n : ℕ) (marks : List Mark) (k : ℕ) (x : Mark) → Contains (enumerate_from n marks) (k, x) → (place : ℕ) × (k ≡ n + place) × (slice_get marks place ≡ Some x)
numbered-at n [] k x has = absurd (Contains-none (k, x) has)
numbered-at n (m ∷ marks) k x has = ⊎_elim
    (λ here. (0, (let number : n ≡ k = ap (λ (p : ℕ × Mark). p.0) here in omega arith), ap (λ (p : ℕ × Mark). Some p.1) here))
    (λ later. let deeper = numbered-at (n + 1) marks k x later in (suc deeper.0, (let number : k ≡ n + 1 + deeper.0 = deeper.1 in omega arith), deeper.2))
    (Contains-cases (n, m) (k, x) (enumerate_from (n + 1) marks) has)

-- what the row of a command tells of its place
pub record CommandPlace (lines : List (List ℕ)) (c : FileCommand) : Type 0 where
  pub place : ℕ
  pub mark : Mark
  pub line : c.line ≡ place + 1
  pub block : c.block ≡ mark.block
  pub told : IsPlaceOf lines place mark

pub command-place : (text : List ℕ) (lines : Lines) (commands : List FileCommand) (c : FileCommand) → CanBeCut text → (new : List ℕ) (more : Lines) →
    HaveLines text new lines more commands → Contains commands c → CommandPlace (text_lines text) c
command-place text lines commands c cut new more have among =
    let marks = line_marks text lines in
    let (l, there, r) = zip-found (IsMarkRead marks) (command_marks marks) commands c ((commands-of-marks text lines commands).0 have.reads) among in
    let (numbered, says) = from_filter (λ (x : ℕ × Mark). not x.1.inert) (numbered_marks marks) l there in
    let (place, number, at) = numbered-at 1 marks l.0 l.1 numbered in
    let row : c.line ≡ place + 1 = let line = r.line in omega arith in
    record { place = place; mark = l.1; line = row; block = r.block; told = rows-tell text lines place l.1 have.old_lines cut at (not-true l.1.inert says) }

-- some command has the part
pub any-part : (part : Part) (cs : List FileCommand) (c : FileCommand) → Contains cs c → part_of c ≡ part → list_any (is_same part) (map part_of cs) ≡ true
any-part part [] c has is = absurd (Contains-none c has)
any-part part (d ∷ cs) c has is = ⊎_elim
    (λ here. ap (λ b. b || list_any (is_same part) (map part_of cs)) (subst (λ p. is_same part p ≡ true) (sym (ap part_of here ∙ is)) (is-self part)))
    (λ later. either (is_same part (part_of d)) (list_any (is_same part) (map part_of cs)) (any-part part cs c later is))
    (Contains-cases d c cs has)
  where
    either : (a b : Bool) → b ≡ true → (a || b) ≡ true
    either true b is = refl
    either false b is = is

-- no command of later lines has the part
pub none-part : (part : Part) (cs : List FileCommand) → ((d : FileCommand) → Contains cs d → part_of d ≡ part → ⊥) → members cs part ≡ []
none-part part [] none = refl
none-part part (d ∷ cs) none = ⊎_elim
    (λ same. absurd (none d (Contains-head d cs) (sym ((is_same-Decides part (part_of d)).0 same))))
    (λ other. cond-false (is_same part (part_of d)) (d ∷ members cs part) (members cs part) other ∙ none-part part cs (λ e has. none e (Contains-tail d e cs has)))
    (cases_Bool (is_same part (part_of d)))

pub all-of : (P : FileCommand → Type 0) (cs : List FileCommand) (d : FileCommand) → AllByRecursion P cs → Contains cs d → P d
all-of P [] d all has = absurd (Contains-none d has)
all-of P (c ∷ cs) d all has = ⊎_elim (λ here. subst P here all.0) (λ later. all-of P cs d all.1 later) (Contains-cases c d cs has)

-- a command that heads a block that is read stands in its own block
pub part-head : (block : ℕ) (command : Command) (within : BlockKind) → opened_by command ≡ within → within ≢ kinds.Inert → part_in block command ≡ Block block
part-head block (commands.ListLine name entry) within opens known = absurd (known (sym opens))
part-head block (commands.PrefixLine name number entry) within opens known = absurd (known (sym opens))
part-head block _ within opens known = refl

-- a command that comes no later than a place is before it
pub in-front : (place : ℕ) (commands : List FileCommand) (split : Split place commands) (c : FileCommand) → Contains commands c → c.line ≤ place → Contains split.front c
in-front place commands split c among early = ⊎_elim
    (λ front. front)
    (λ back. let over : place < c.line = all-of (λ (d : FileCommand). place < d.line) split.back c split.high back in absurd (omega arith))
    (Contains-append_cases split.front split.back c (subst (λ (cs : List FileCommand). Contains cs c) split.parts among))

-- a command after all of its block changes what the block sets, and nothing else
pub block-sets : (commands : List FileCommand) (head last : FileCommand) (within : BlockKind) (line : List ℕ) (command : Command) →
    HasBlock commands head last within → IsLineOf line within head.line command →
    Split last.line commands → HasOneOther (bare_config (config_of commands)) (bare_config (config_of (with_command last.line (command_at (last.line + 1) head.line command) commands)))
    (map bare (members commands (Block head.line))) (map bare (members commands (Block head.line)) ++ record { line = 0; block = 0; command = command } ∷ [])
block-sets commands head last within line command b of split =
    let place = last.line in
    let c = command_at (place + 1) head.line command in
    let part = Block head.line in
    let own : part_of head ≡ part = part-head head.block head.command within b.opens b.known ∙ ap Block b.own in
    let early : head.line ≤ place = b.latest head b.among own in
    let in_front : Contains split.front head = in-front place commands split head b.among early in
    let same_part : part_of c ≡ part_moved place part = of.part ∙ ap Block (sym (moved-low place head.line early)) in
    let sets = one-sets-other place split.front c split.back part same_part (inl (any-part part split.front head in_front own)) in
    let none_back : members split.back part ≡ [] = none-part part split.back (λ d has same.
    let over : place < d.line = all-of (λ (e : FileCommand). place < e.line) split.back d split.high has in
    let among : Contains commands d = subst (λ (cs : List FileCommand). Contains cs d) (sym split.parts) (Contains-append_right split.front split.back d has) in
    let under : d.line ≤ place = b.latest d among same in
    omega arith) in
    let whole : members split.front part ≡ members commands part =
    sym (append-nil (members split.front part)) ∙ ap (λ cs. members split.front part ++ cs) (sym none_back) ∙ sym (filter-append (λ d. is_same part (part_of d)) split.front split.back)
    ∙ ap (λ cs. members cs part) (sym split.parts) in
    subst (λ (cs : List FileCommand). HasOneOther (bare_config (config_of cs)) (bare_config (config_of (with_command place c commands))) (map bare (members commands part))
    (map bare (members commands part) ++ bare c ∷ [])) (sym split.parts)
    (subst (λ (cs : List FileCommand). HasOneOther (bare_config (config_of (split.front ++ split.back))) (bare_config (config_of cs)) (map bare (members commands part))
    (map bare (members commands part) ++ bare c ∷ [])) (sym (split.with_one c))
    (subst (λ (g : List FileCommand). HasOneOther (bare_config (config_of (split.front ++ split.back))) (bare_config (config_of (between place split.front c split.back))) g
    (map bare (members commands part) ++ bare c ∷ [])) (ap (λ cs. map bare (members cs part)) (sym split.parts))
    (subst (λ (g : List FileCommand). HasOneOther (bare_config (config_of (split.front ++ split.back))) (bare_config (config_of (between place split.front c split.back)))
    (map bare (members (split.front ++ split.back) part)) g)
    (ap (λ cs. map bare cs ++ bare c ∷ map bare (members split.back part)) whole ∙ ap (λ cs. map bare (members commands part) ++ bare c ∷ map bare cs) none_back)
    sets)))

pub a-line-appended : ALineIsAppended
a-line-appended old new lines more commands head last within line command cut have b of is =
    let ls = text_lines old in
    let place = last.line in
    let p = command-place old lines commands last cut new more have b.last_among in
    let row : p.place + 1 ≡ place = sym p.line in
    let low : p.place < length ls = p.told.within in
    let outside : open_banner (take place ls) ≡ None = ap (λ n. open_banner (take n ls)) (sym row) ∙ p.told.after in
    let block : open_block (take place ls) ≡ head.line = ap (λ n. open_block (take n ls)) (sym row) ∙ p.told.block ∙ sym p.block ∙ b.last_block in
    let some : open_block (take place ls) ≢ 0 = λ none. b.some (b.own ∙ sym block ∙ none) in
    let may : MayStandAt ls place line = inner-may ls place line (omega arith) outside some of.inner in
    let put : IsPut old new place line = record { may = may; new_lines = is; cut = cut } in
    let opened : Opened commands (open_block (take place ls)) within = record { head = head; among = b.among; line = sym block; opens = b.opens; known = b.known } in
    let added = inner-adds old new lines more commands place line within command put have of.inner opened of.reads in
    record {
      cut = (line-stands old new place line may is cut).cut;
      reads = subst (λ n. AreCommandsOf new more (with_command place (command_at (place + 1) n command) commands)) block added;
      sets = block-sets commands head last within line command b of (commands-split old lines commands place have.reads);
    }
