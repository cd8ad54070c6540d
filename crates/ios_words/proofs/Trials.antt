-- Rows that are tried one after another give the answer of the block.
use Rattle.std.proofs.Common.{◌≡◌, ◌≢◌, ℕ, Bool, true, false, List, [], ◌∷◌, Option, Some, None, Result, Ok, Err, unwrap_or, refl, sym, ap, subst, ◌∙◌, true≢false, find, ◌⊎◌, inl, inr}
use Rattle.ios_words.specs.declared.commands.Command.{Command}
use Rattle.ios_words.specs.declared.kinds.WordFault.{WordFault}
use Rattle.ios_words.specs.declared.kinds.WordFault.TheVariants as faults
use Rattle.ios_lines.specs.declared.line.Line.{Line}
use Rattle.ios_words.specs.declared.kinds.BlockKind.{BlockKind}
use Rattle.ios_words.specs.Commands.{completes, ReadBy, UnknownBy, FaultyBy, AnswerBy, IsAnswer, is_extended_block}
use Rattle.ios_words.specs.Language.{rows}
use Rattle.ios_words.specs.Spans.{line_words}
use Rattle.ios_words.specs.Meanings.{give}
use Rattle.ios_words.specs.Readings.{matches, read}
use Rattle.ios_words.specs.Rows.{Rule}
use Rattle.ios_words.specs.Trials.{choose, try_rules, SaysTheSame}
use Rattle.ios_words.specs.Values.{Values}
use Rattle.ios_words.proofs.Faults.{read-fault}

-- what is found among more rows, of which the first does not pass
passes_not : {X : Type 0} (p : X → Bool) (x : X) (xs : List X) → p x ≡ false → find p (x ∷ xs) ≡ find p xs
passes_not p x xs e = rw e refl

passes : {X : Type 0} (p : X → Bool) (x : X) (xs : List X) → p x ≡ true → find p (x ∷ xs) ≡ Some x
passes p x xs e = rw e refl

no_match : (extended : Bool) (words : List (List ℕ)) (rule : Rule) → matches words rule ≡ false → completes extended words rule ≡ false
no_match extended words rule e = rw e refl

whole : (extended : Bool) (words : List (List ℕ)) (rule : Rule) (values : Values) → matches words rule ≡ true → read extended words rule ≡ Ok values → completes extended words rule ≡ true
whole extended words rule values e r = rw (e, r) refl

partly : (extended : Bool) (words : List (List ℕ)) (rule : Rule) (fault : WordFault) → matches words rule ≡ true → read extended words rule ≡ Err fault → completes extended words rule ≡ false
partly extended words rule fault e r = rw (e, r) refl

-- what is said after the trial of a row
tried_not : (extended : Bool) (words : List (List ℕ)) (fault : Option WordFault) (rule : Rule) (rules : List Rule) → matches words rule ≡ false →
    try_rules extended words fault (rule ∷ rules) ≡ try_rules extended words fault rules
tried_not extended words fault rule rules e = rw e refl

tried : (extended : Bool) (words : List (List ℕ)) (fault : Option WordFault) (rule : Rule) (rules : List Rule) (r : Result Values WordFault) →
    matches words rule ≡ true → read extended words rule ≡ r →
    try_rules extended words fault (rule ∷ rules) ≡ choose rule.meaning (λ first. try_rules extended words first rules) fault (Some r)
tried extended words fault rule rules r e is = rw (e, is) refl

-- a result is one command, or a fault
one_command : (a b : Command) (r : Result Command WordFault) → r ≡ Ok a → r ≡ Ok b → b ≡ a
one_command a b r one two = cc

no_command : (a : Command) (fault : WordFault) (r : Result Command WordFault) → r ≡ Ok a → r ≡ Err fault → ⊥
no_command a fault r one two = cc

-- a command of later rows is one of all, where the first does not match with every word
later_read : (extended : Bool) (words : List (List ℕ)) (rule : Rule) (rules : List Rule) (command : Command) → completes extended words rule ≡ false →
    ReadBy extended words rules command → ReadBy extended words (rule ∷ rules) command
later_read extended words rule rules command e is = record {
  rule = is.rule;
  values = is.values;
  first = passes_not (completes extended words) rule rules e ∙ is.first;
  complete = is.complete;
  gives = is.gives;
}

read_step : (extended : Bool) (words : List (List ℕ)) (fault : Option WordFault) (rule : Rule) (rules : List Rule) (command : Command) →
    ((first : Option WordFault) → try_rules extended words first rules ≡ Ok command → ReadBy extended words rules command) → try_rules extended words fault (rule ∷ rules) ≡ Ok command →
    (b : Bool) (r : Result Values WordFault) → matches words rule ≡ b → read extended words rule ≡ r → ReadBy extended words (rule ∷ rules) command
read_step extended words fault rule rules command later e false r misses is =
    later_read extended words rule rules command (no_match extended words rule misses) (later fault (sym (tried_not extended words fault rule rules misses) ∙ e))
read_step extended words fault rule rules command later e true (Ok values) fits is =
    record {
      rule = rule;
      values = values;
      first = passes (completes extended words) rule rules (whole extended words rule values fits is);
      complete = is;
      gives = one_command (give rule.meaning values) command (try_rules extended words fault (rule ∷ rules)) (tried extended words fault rule rules (Ok values) fits is) e;
    }
read_step extended words fault rule rules command later e true (Err other) fits is =
    later_read extended words rule rules command (partly extended words rule other fits is) (later (Some (unwrap_or fault other)) (sym (tried extended words fault rule rules (Err other) fits is) ∙ e))

pub read_found : (extended : Bool) (words : List (List ℕ)) (fault : Option WordFault) (rules : List Rule) (command : Command) →
    try_rules extended words fault rules ≡ Ok command → ReadBy extended words rules command
read_found extended words fault [] command e = absurd (cc)
read_found extended words fault (rule ∷ rules) command e =
    read_step extended words fault rule rules command (λ first. read_found extended words first rules command) e (matches words rule) (read extended words rule) refl refl

-- the fault of the first row that matches, or none
abbrev pub FirstFault : Bool → List (List ℕ) → Option WordFault → List Rule → WordFault → Type 0
FirstFault extended words (Some first) rules fault = fault ≡ first
FirstFault extended words None rules fault = (UnknownBy words rules × (fault ≡ faults.Unknown)) ⊎ FaultyBy extended words rules fault

later_fault : (extended : Bool) (words : List (List ℕ)) (first : Option WordFault) (rule : Rule) (rules : List Rule) (fault : WordFault) →
    matches words rule ≡ false → FirstFault extended words first rules fault → FirstFault extended words first (rule ∷ rules) fault
later_fault extended words (Some other) rule rules fault e is = is
later_fault extended words None rule rules fault e (inl none) = inl (passes_not (matches words) rule rules e ∙ none.0, none.1)
later_fault extended words None rule rules fault e (inr faulty) = inr (record {
  rule = faulty.rule;
  none = passes_not (completes extended words) rule rules (no_match extended words rule e) ∙ faulty.none;
  first = passes_not (matches words) rule rules e ∙ faulty.first;
  faulty = faulty.faulty;
})

here_fault : (extended : Bool) (words : List (List ℕ)) (first : Option WordFault) (rule : Rule) (rules : List Rule) (other fault : WordFault) →
    matches words rule ≡ true → read extended words rule ≡ Err other →
    find (completes extended words) rules ≡ None → fault ≡ unwrap_or first other → FirstFault extended words first (rule ∷ rules) fault
here_fault extended words (Some before) rule rules other fault fits is none same = same
here_fault extended words None rule rules other fault fits is none same = inr (record {
  rule = rule;
  none = passes_not (completes extended words) rule rules (partly extended words rule other fits is) ∙ none;
  first = passes (matches words) rule rules fits;
  faulty = is ∙ ap Err (sym same);
})

-- no row matches with every word, and the fault is the first
abbrev Fails : Bool → List (List ℕ) → Option WordFault → List Rule → WordFault → Type 0
Fails extended words first rules fault = (find (completes extended words) rules ≡ None) × FirstFault extended words first rules fault

fault_step : (extended : Bool) (words : List (List ℕ)) (first : Option WordFault) (rule : Rule) (rules : List Rule) (fault : WordFault) →
    ((before : Option WordFault) → try_rules extended words before rules ≡ Err fault → Fails extended words before rules fault) → try_rules extended words first (rule ∷ rules) ≡ Err fault →
    (b : Bool) (r : Result Values WordFault) → matches words rule ≡ b → read extended words rule ≡ r → Fails extended words first (rule ∷ rules) fault
fault_step extended words first rule rules fault later e false r misses is =
    let rest = later first (sym (tried_not extended words first rule rules misses) ∙ e) in
    (passes_not (completes extended words) rule rules (no_match extended words rule misses) ∙ rest.0, later_fault extended words first rule rules fault misses rest.1)
fault_step extended words first rule rules fault later e true (Ok values) fits is =
    absurd (no_command (give rule.meaning values) fault (try_rules extended words first (rule ∷ rules)) (tried extended words first rule rules (Ok values) fits is) e)
fault_step extended words first rule rules fault later e true (Err other) fits is =
    let rest = later (Some (unwrap_or first other)) (sym (tried extended words first rule rules (Err other) fits is) ∙ e) in
    (passes_not (completes extended words) rule rules (partly extended words rule other fits is) ∙ rest.0, here_fault extended words first rule rules other fault fits is rest.0 rest.1)

pub fault_found : (extended : Bool) (words : List (List ℕ)) (first : Option WordFault) (rules : List Rule) (fault : WordFault) →
    try_rules extended words first rules ≡ Err fault → Fails extended words first rules fault
fault_found extended words (Some before) [] fault e = (refl, (cc))
fault_found extended words None [] fault e = (refl, inl (refl, (cc)))
fault_found extended words first (rule ∷ rules) fault e =
    fault_step extended words first rule rules fault (λ before. fault_found extended words before rules fault) e (matches words rule) (read extended words rule) refl refl

known_fault : (extended : Bool) (words : List (List ℕ)) (rules : List Rule) (fault : WordFault) → (fault ≡ faults.Unknown → ⊥) →
    FirstFault extended words None rules fault → FaultyBy extended words rules fault
known_fault extended words rules fault other (inl none) = absurd (other none.1)
known_fault extended words rules fault other (inr faulty) = faulty

no_fault : (extended : Bool) (words : List (List ℕ)) (rules : List Rule) → FirstFault extended words None rules faults.Unknown → UnknownBy words rules
no_fault extended words rules (inl none) = none.0
no_fault extended words rules (inr faulty) = absurd (true≢false (sym (read-fault extended words faulty.rule faults.Unknown faulty.faulty)))

-- what the rows are found to say is what they say
pub answered : (extended : Bool) (words : List (List ℕ)) (rules : List Rule) (result : Result Command WordFault) → try_rules extended words None rules ≡ result → AnswerBy extended words rules result
answered extended words rules (Ok command) e = read_found extended words None rules command e
answered extended words rules (Err faults.Unknown) e = no_fault extended words rules (fault_found extended words None rules faults.Unknown e).1
answered extended words rules (Err (faults.BadWord place)) e =
    known_fault extended words rules (faults.BadWord place) (λ same. absurd (cc)) (fault_found extended words None rules (faults.BadWord place) e).1
answered extended words rules (Err faults.WildcardNotPrefix) e =
    known_fault extended words rules faults.WildcardNotPrefix (λ same. absurd (cc)) (fault_found extended words None rules faults.WildcardNotPrefix e).1
answered extended words rules (Err faults.Memory) e = tt

-- and never that memory is wanting
pub no_memory : (extended : Bool) (words : List (List ℕ)) (rules : List Rule) → try_rules extended words None rules ≢ Err faults.Memory
no_memory extended words rules e =
    let faulty = known_fault extended words rules faults.Memory (λ same. absurd (cc)) (fault_found extended words None rules faults.Memory e).1 in
    true≢false (sym (read-fault extended words faulty.rule faults.Memory faulty.faulty))

-- rows that say the same of the words have the same answer
same_fault : (extended : Bool) (words : List (List ℕ)) (rules others : List Rule) (fault : WordFault) → SaysTheSame words rules others →
    FaultyBy extended words rules fault → FaultyBy extended words others fault
same_fault extended words rules others fault same is = record {
  rule = is.rule;
  none = sym (same.completing extended) ∙ is.none;
  first = sym same.matching ∙ is.first;
  faulty = is.faulty;
}

pub same_answer : (extended : Bool) (words : List (List ℕ)) (rules others : List Rule) (result : Result Command WordFault) → SaysTheSame words rules others →
    AnswerBy extended words rules result → AnswerBy extended words others result
same_answer extended words rules others (Ok command) same is = record {
  rule = is.rule;
  values = is.values;
  first = sym (same.completing extended) ∙ is.first;
  complete = is.complete;
  gives = is.gives;
}
same_answer extended words rules others (Err faults.Unknown) same is = sym same.matching ∙ is
same_answer extended words rules others (Err (faults.BadWord place)) same is = same_fault extended words rules others (faults.BadWord place) same is
same_answer extended words rules others (Err faults.WildcardNotPrefix) same is = same_fault extended words rules others faults.WildcardNotPrefix same is
same_answer extended words rules others (Err faults.Memory) same is = tt

-- an answer by the rows of a block is the line's answer there
pub is_answer : (text : List ℕ) (line : Line) (within : BlockKind) (result : Result Command WordFault) →
    AnswerBy (is_extended_block within) (line_words text line) (rows within) result → IsAnswer text line within result
is_answer text line within (Ok command) is = is
is_answer text line within (Err faults.Unknown) is = is
is_answer text line within (Err (faults.BadWord place)) is = is
is_answer text line within (Err faults.WildcardNotPrefix) is = is
is_answer text line within (Err faults.Memory) is = tt

-- what the rows that may match are found to say is the line's answer
pub line_answered : (text : List ℕ) (line : Line) (within : BlockKind) (extended : Bool) (words : List (List ℕ)) (rules : List Rule) (result : Result Command WordFault) →
    (result ≡ Err faults.Memory) ⊎ (result ≡ try_rules extended words None rules) → extended ≡ is_extended_block within → words ≡ line_words text line →
    SaysTheSame words rules (rows within) → IsAnswer text line within result
line_answered text line within extended words rules result (inl none) at cut same = let P : Result Command WordFault → Type 0 = λ r. IsAnswer text line within r in subst P (sym none) tt
line_answered text line within extended words rules result (inr is) at cut same =
    let P : Bool → Type 0 = λ e. AnswerBy e (line_words text line) (rows within) result in
    let Q : List (List ℕ) → Type 0 = λ ws. AnswerBy extended ws (rows within) result in
    is_answer text line within result (subst P at (subst Q cut (same_answer extended words rules (rows within) result same (answered extended words rules result (sym is)))))
