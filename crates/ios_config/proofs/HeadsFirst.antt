-- The head of a block is the first of its commands, and what one command more does to the set of commands.
use Rattle.std.proofs.Common.{◌≡◌, ℕ, ◌+◌, ◌≤◌, ◌⊎◌, inl, inr, None, true, false, List, [], ◌∷◌, ◌++◌, length-take-le, map, take, sym, ap, subst, ◌∙◌, arith, ⊎_elim, Contains}
use Rattle.std.proofs.lemmas.Bool.{cases_Bool, cond-true, cond-false, eqb-true, false≢true}
use Rattle.std.proofs.lemmas.List.Elements.{Contains-append_left, Contains-append_right, Contains-append_cases}
use Rattle.arc_base.proofs.Items.{Contains-cases, Contains-none, Contains-head, Contains-tail, Contains-map, from_map}
use Rattle.ios_lines.proofs.Insertions.{open-low}
use Rattle.ios_words.specs.declared.commands.Command.{Command}
use Rattle.ios_words.specs.declared.commands.Command.TheVariants as commands
use Rattle.ios_config.specs.declared.commands.FileCommand.{FileCommand}
use Rattle.ios_config.specs.Effects.{Split}
use Rattle.ios_config.specs.Groups.{Part, Block, Lines, PrefixLines, is_same, part_in, part_of, members}
use Rattle.ios_config.specs.Inserted.{command_moved, with_command}
use Rattle.ios_config.specs.LineLists.{marks_in, AreCommandsIn}
use Rattle.ios_config.proofs.JoinedParts.{is-self}
use Rattle.ios_config.proofs.LineLists.{command-spot}
use Rattle.ios_config.proofs.LinesBefore.{Rising, rising-from, rising-low}
use Rattle.ios_config.proofs.PartLists.{is_same-Decides}
use Rattle.ios_lines.specs.Views.{open_block}

-- a command's block is headed by no later line
pub block-low : (lines : List (List ℕ)) (cs : List FileCommand) (c : FileCommand) → AreCommandsIn lines cs → Contains cs c → c.block ≤ c.line
block-low lines cs c are among =
    let p = command-spot lines cs c are among in
    let low = open-low 0 None 0 (take (p.place + 1) lines) (omega arith) in
    let long = length-take-le (p.place + 1) lines (let within = p.told.within in omega arith) in
    let block : open_block (take (p.place + 1) lines) ≡ c.block = p.told.block ∙ sym p.block in
    let row = p.line in
    omega (arith, low, long, block, row)

-- a command in the part of a block is one of that block
pub part-block : (block b : ℕ) (command : Command) → part_in block command ≡ Block b → block ≡ b
part-block block b (commands.ListLine name entry) is = absurd (false≢true (subst (λ (q : Part). is_same (Lines name) q ≡ true) is (is-self (Lines name))))
part-block block b (commands.PrefixLine name number entry) is = absurd (false≢true (subst (λ (q : Part). is_same (PrefixLines name) q ≡ true) is (is-self (PrefixLines name))))
part-block block b _ is = eqb-true block b (subst (λ (q : Part). is_same (Block block) q ≡ true) is (is-self (Block block)))

first-member : (n : ℕ) (cs : List FileCommand) (head : FileCommand) (p : Part) → Rising n cs → Contains cs head → part_of head ≡ p →
    ((d : FileCommand) → Contains cs d → part_of d ≡ p → head.line ≤ d.line) →
    (rest : List FileCommand) × (members cs p ≡ head ∷ rest)
first-member n [] head p up has own low = absurd (Contains-none head has)
first-member n (c ∷ cs) head p up has own low = ⊎_elim
    (λ same. (members cs p, cond-true (is_same p (part_of c)) (c ∷ members cs p) (members cs p) same ∙ ap (λ (d : FileCommand). d ∷ members cs p) (is-head ((is_same-Decides p (part_of c)).0 same))))
    (λ other. let deeper = first-member (c.line + 1) cs head p up.1 (later other) own
    (λ d there is. low d (Contains-tail c d cs there) is) in (deeper.0, cond-false (is_same p (part_of c)) (c ∷ members cs p) (members cs p) other ∙ deeper.1))
    (cases_Bool (is_same p (part_of c)))
  where
    is-head : p ≡ part_of c → c ≡ head
    is-head same = ⊎_elim
        (λ here. here)
        (λ there. let over = rising-low (c.line + 1) cs head up.1 there in let under : head.line ≤ c.line = low c (Contains-head c cs) (sym same) in absurd (omega arith))
        (Contains-cases c head cs has)

    later : is_same p (part_of c) ≡ false → Contains cs head
    later other = ⊎_elim
        (λ here. absurd (false≢true (sym other ∙ ap (is_same p) (ap part_of here ∙ own) ∙ is-self p)))
        (λ there. there)
        (Contains-cases c head cs has)

-- the commands of a block are its head and others
pub head-first : (lines : List (List ℕ)) (cs : List FileCommand) (head : FileCommand) → AreCommandsIn lines cs → Contains cs head → part_of head ≡ Block head.line →
    (rest : List FileCommand) × (members cs (Block head.line) ≡ head ∷ rest)
head-first lines cs head are among own =
    first-member 1 cs head (Block head.line) (rising-from (marks_in lines) 1 (marks_in lines) cs are.reads) among own
    (λ d there is. let low = block-low lines cs d are there in let same : d.block ≡ head.line = part-block d.block head.line d.command is in omega arith)

-- the commands with one more
pub record HasOneMoreCommand (place : ℕ) (c : FileCommand) (cs ds : List FileCommand) : Type 0 where
  pub keeps : (e : FileCommand) → Contains cs e → Contains ds (command_moved place e)
  pub has : Contains ds c
  pub others : (d : FileCommand) → Contains ds d → (d ≡ c) ⊎ ((e : FileCommand) × Contains cs e × (command_moved place e ≡ d))

pub one-more-command : (place : ℕ) (c : FileCommand) (cs : List FileCommand) → Split place cs → HasOneMoreCommand place c cs (with_command place c cs)
one-more-command place c cs split = subst (λ (ds : List FileCommand). HasOneMoreCommand place c cs ds) (sym (split.with_one c)) (record { keeps = keeps; has = has; others = others })
  where
    keeps : (e : FileCommand) → Contains cs e → Contains (map (command_moved place) split.front ++ c ∷ map (command_moved place) split.back) (command_moved place e)
    keeps e there = ⊎_elim
        (λ early. Contains-append_left (map (command_moved place) split.front) (c ∷ map (command_moved place) split.back) (command_moved place e)
        (Contains-map (command_moved place) split.front e early))
        (λ late. Contains-append_right (map (command_moved place) split.front) (c ∷ map (command_moved place) split.back) (command_moved place e)
        (Contains-tail c (command_moved place e) (map (command_moved place) split.back) (Contains-map (command_moved place) split.back e late)))
        (Contains-append_cases split.front split.back e (subst (λ (l : List FileCommand). Contains l e) split.parts there))

    has : Contains (map (command_moved place) split.front ++ c ∷ map (command_moved place) split.back) c
    has = Contains-append_right (map (command_moved place) split.front) (c ∷ map (command_moved place) split.back) c (Contains-head c (map (command_moved place) split.back))

    old : (l : List FileCommand) (d : FileCommand) → ((e : FileCommand) → Contains l e → Contains cs e) → Contains (map (command_moved place) l) d →
        (e : FileCommand) × Contains cs e × (command_moved place e ≡ d)
    old l d inside there = let r = from_map (command_moved place) l d there in (r.0, inside r.0 r.1, r.2)

    others : (d : FileCommand) → Contains (map (command_moved place) split.front ++ c ∷ map (command_moved place) split.back) d →
        (d ≡ c) ⊎ ((e : FileCommand) × Contains cs e × (command_moved place e ≡ d))
    others d there = ⊎_elim
        (λ early. inr (old split.front d (λ e i. subst (λ (l : List FileCommand). Contains l e) (sym split.parts) (Contains-append_left split.front split.back e i)) early))
        (λ late. ⊎_elim
        (λ here. inl (sym here))
        (λ more. inr (old split.back d (λ e i. subst (λ (l : List FileCommand). Contains l e) (sym split.parts) (Contains-append_right split.front split.back e i)) more))
        (Contains-cases c d (map (command_moved place) split.back) late))
        (Contains-append_cases (map (command_moved place) split.front) (c ∷ map (command_moved place) split.back) d there)
