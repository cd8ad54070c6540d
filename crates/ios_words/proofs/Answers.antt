-- A line has one answer, and what it means.
use Rattle.std.proofs.Common.{◌≡◌, ◌≢◌, ℕ, zero, suc, Bool, true, false, List, [], ◌∷◌, ◌++◌, Contains, Option}
use Rattle.std.proofs.Common.{Some, None, Result, Ok, Err, refl, sym, ap, subst, ◌∙◌, true≢false, find, IsFalse, arith}
use Rattle.std.proofs.lemmas.Bool.{cond-true, cond-false, and_parts}
use Rattle.std.specs.List.{list_all}
use Rattle.ios_lines.specs.declared.line.Line.{Line}
use Rattle.ios_words.specs.declared.commands.Command.{Command}
use Rattle.ios_words.specs.declared.commands.Command.TheVariants as commands
use Rattle.ios_words.specs.declared.kinds.BlockKind.{BlockKind}
use Rattle.ios_words.specs.declared.kinds.BlockKind.TheVariants as blocks
use Rattle.ios_words.specs.declared.kinds.WordFault.{WordFault}
use Rattle.ios_words.specs.declared.kinds.WordFault.TheVariants as faults
use Rattle.ios_words.specs.declared.rows.Meaning.{Meaning}
use Rattle.ios_words.specs.declared.rows.Meaning.TheVariants.{Inert}
use Rattle.ios_words.specs.Commands.{completes, ReadBy, UnknownBy, FaultyBy, IsAnswer, is_extended_block, line_words}
use Rattle.ios_words.specs.Language.{rows, inert_in, read_in}
use Rattle.ios_words.specs.Laws.{AnswersAreOne, UnknownMatchesNone, InertCounts}
use Rattle.ios_words.specs.Meanings.{give}
use Rattle.ios_words.specs.Readings.{matches, read}
use Rattle.ios_words.specs.Rows.{Rule}
use Rattle.ios_words.specs.Trials.{try_rules}
use Rattle.ios_words.specs.Values.{Values}
use Rattle.ios_words.proofs.Trials.{answered, is_answer, no_memory}

-- what a row's reading says
said : Meaning → Result Values WordFault → Result Command WordFault
said meaning (Ok values) = Ok (give meaning values)
said meaning (Err fault) = Err fault

-- the answer by the first row that matches with every word and the first that matches
picked : Bool → List (List ℕ) → Option Rule → Option Rule → Result Command WordFault
picked extended words (Some rule) first = said rule.meaning (read extended words rule)
picked extended words None (Some rule) = said rule.meaning (read extended words rule)
picked extended words None None = Err faults.Unknown

-- the answer by these rows
answer : Bool → List (List ℕ) → List Rule → Result Command WordFault
answer extended words rules = picked extended words (find (completes extended words) rules) (find (matches words) rules)

-- a row that matches with every word matches
whole-matches : (extended : Bool) (words : List (List ℕ)) (rule : Rule) → matches words rule ≡ false → completes extended words rule ≡ false
whole-matches extended words rule e = rw e refl

-- the first of more elements
not_first : {X : Type 0} (p : X → Bool) (x : X) (xs : List X) → find p (x ∷ xs) ≡ None → (p x ≡ false) × (find p xs ≡ None)
not_first p x xs e = go (p x) refl
  where
    go : (b : Bool) → p x ≡ b → (p x ≡ false) × (find p xs ≡ None)
    go true is = let some : Some x ≡ None = sym (cond-true _ _ _ is) ∙ e in absurd (cc)
    go false is = (is, sym (cond-false _ _ _ is) ∙ e)

none-whole : (extended : Bool) (words : List (List ℕ)) (rules : List Rule) → find (matches words) rules ≡ None → find (completes extended words) rules ≡ None
none-whole extended words [] e = refl
none-whole extended words (rule ∷ rules) e =
    let parts = not_first (matches words) rule rules e in
    cond-false _ _ _ (whole-matches extended words rule parts.0) ∙ none-whole extended words rules parts.1

answer-read : (extended : Bool) (words : List (List ℕ)) (rules : List Rule) (command : Command) → ReadBy extended words rules command → answer extended words rules ≡ Ok command
unfolding answer picked said
answer-read extended words rules command is =
    ap (λ o. picked extended words o (find (matches words) rules)) is.first ∙ (ap (said is.rule.meaning) is.complete ∙ ap Ok (sym is.gives))

answer-unknown : (extended : Bool) (words : List (List ℕ)) (rules : List Rule) → UnknownBy words rules → answer extended words rules ≡ Err faults.Unknown
unfolding answer picked said
answer-unknown extended words rules is =
    ap (λ o. picked extended words o (find (matches words) rules)) (none-whole extended words rules is) ∙ ap (picked extended words None) is

answer-fault : (extended : Bool) (words : List (List ℕ)) (rules : List Rule) (fault : WordFault) → FaultyBy extended words rules fault → answer extended words rules ≡ Err fault
unfolding answer picked said
answer-fault extended words rules fault is =
    ap (λ o. picked extended words o (find (matches words) rules)) is.none ∙ (ap (picked extended words None) is.first ∙ ap (said is.rule.meaning) is.faulty)

-- an answer is that by the rows of the block
line_answer : (text : List ℕ) (line : Line) (within : BlockKind) (a : Result Command WordFault) → IsAnswer text line within a → a ≢ Err faults.Memory →
    answer (is_extended_block within) (line_words text line) (rows within) ≡ a
line_answer text line within (Ok command) is told = answer-read (is_extended_block within) (line_words text line) (rows within) command is
line_answer text line within (Err faults.Unknown) is told = answer-unknown (is_extended_block within) (line_words text line) (rows within) is
line_answer text line within (Err (faults.BadWord place)) is told = answer-fault (is_extended_block within) (line_words text line) (rows within) (faults.BadWord place) is
line_answer text line within (Err faults.WildcardNotPrefix) is told = answer-fault (is_extended_block within) (line_words text line) (rows within) faults.WildcardNotPrefix is
line_answer text line within (Err faults.Memory) is told = absurd (told refl)

pub one_answer :
    (text : List ℕ) (line : Line) (within : BlockKind) (a b : Result Command WordFault) → IsAnswer text line within a → IsAnswer text line within b →
    a ≢ Err faults.Memory → b ≢ Err faults.Memory → a ≡ b
one_answer text line within a b one two told told' = sym (line_answer text line within a one told) ∙ line_answer text line within b two told'

-- a line has the answer that its block's rows give when they are tried
pub has_one_answer : AnswersAreOne
has_one_answer text line within =
    let extended = is_extended_block within in
    let words = line_words text line in
    let tried = try_rules extended words None (rows within) in (
      (tried, record { told = is_answer text line within tried (answered extended words (rows within) tried refl); known = no_memory extended words (rows within) }),
      λ a b one two. one_answer text line within a b one.told two.told one.known two.known,
    )

-- where nothing is found, no element passes, and the other way round
none_pass : {X : Type 0} (p : X → Bool) (xs : List X) → find p xs ≡ None → (x : X) → Contains xs x → IsFalse (p x)
none_pass p [] e x has = absurd (let low = has.1 in omega arith)
none_pass p (y ∷ ys) e x (zero, low, same) = subst (λ z. IsFalse (p z)) same (not_first p y ys e).0
none_pass p (y ∷ ys) e x (suc k, low, same) = none_pass p ys (not_first p y ys e).1 x (k, omega arith, same)

none_found : {X : Type 0} (p : X → Bool) (xs : List X) → ((x : X) → Contains xs x → IsFalse (p x)) → find p xs ≡ None
none_found p [] none = refl
none_found p (y ∷ ys) none = cond-false _ _ _ (none y (0, omega arith, refl)) ∙ none_found p ys (λ x has. none x (suc has.0, (let low = has.1 in omega arith), has.2))

pub unknown_none : UnknownMatchesNone
unknown_none text line within = (none_pass (matches (line_words text line)) (rows within), none_found (matches (line_words text line)) (rows within))

-- whether a meaning is that of an inert row
is_inert : Meaning → Bool
is_inert Inert = true
is_inert _ = false

-- all inert rows mean so
all_inert : (within : BlockKind) → list_all (λ rule. is_inert rule.meaning) (inert_in within) ≡ true
unfolding is_inert
all_inert blocks.Top = refl
all_inert blocks.Interface = refl
all_inert blocks.Ospf = refl
all_inert blocks.Bgp = refl
all_inert blocks.Extended = refl
all_inert blocks.Standard = refl
all_inert blocks.Inert = refl

found_step : {X : Type 0} (p q : X → Bool) (z : X) (zs ys : List X) (x y : X) → q z ≡ true → Contains (z ∷ zs) x → p x ≡ true →
    find p (z ∷ (zs ++ ys)) ≡ Some y → (Contains zs x → find p (zs ++ ys) ≡ Some y → q y ≡ true) →
    (b : Bool) → p z ≡ b → q y ≡ true
found_step p q z zs ys x y here has passes e later true is = let same : Some z ≡ Some y = sym (cond-true _ _ _ is) ∙ e in let at : z ≡ y = cc in subst (λ v. q v ≡ true) at here
found_step p q z zs ys x y here (zero, low, same) passes e later false is = absurd (true≢false (sym passes ∙ (ap p (sym same) ∙ is)))
found_step p q z zs ys x y here (suc k, low, same) passes e later false is = later (k, omega arith, same) (sym (cond-false _ _ _ is) ∙ e)

-- what is found among the first elements, where one of them passes, is one of them
found_in_first : {X : Type 0} (p q : X → Bool) (xs ys : List X) (x y : X) → list_all q xs ≡ true → Contains xs x → p x ≡ true → find p (xs ++ ys) ≡ Some y → q y ≡ true
found_in_first p q [] ys x y all has passes e = absurd (let low = has.1 in omega arith)
found_in_first p q (z ∷ zs) ys x y all has passes e = found_step p q z zs ys x y (and_parts _ _ all).0 has passes e (λ more. found_in_first p q zs ys x y (and_parts _ _ all).1 more passes) (p z) refl

inert_gives : (meaning : Meaning) (values : Values) → is_inert meaning ≡ true → give meaning values ≡ commands.Inert
unfolding is_inert
inert_gives Inert values e = refl
inert_gives _ values e = absurd (true≢false (sym e))

pub inert_counts : InertCounts
inert_counts text line within rule command has complete reads =
    let found : is_inert reads.rule.meaning ≡ true = found_in_first (completes (is_extended_block within) (line_words text line)) (λ r. is_inert r.meaning) (inert_in within)
    (read_in within) rule reads.rule (all_inert within) has complete reads.first in
    reads.gives ∙ inert_gives reads.rule.meaning reads.values found
