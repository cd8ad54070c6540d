-- A file has one answer: its settings, or its first refusal.
use Rattle.std.proofs.Common.{◌≡◌, ◌≢◌, ℕ, zero, suc, ◌<◌, inl, inr, List, [], ◌∷◌, ◌++◌, length, get_or, refl, sym, ◌∙◌, ap, subst, arith}
use Rattle.std.proofs.lemmas.Bool.{cases_lt}
use Rattle.std.proofs.lemmas.List.{length-append}
use Rattle.std.specs.Prelude.{Result, Ok, Err, Any}
use Rattle.std.specs.List.{AllZip}
use Rattle.arc_base.specs.declared.refusal.Kind.{Kind}
use Rattle.arc_base.specs.declared.refusal.Kind.TheVariants as refusals
use Rattle.ios_lines.specs.declared.line.Lines.{Lines}
use Rattle.ios_lines.specs.declared.line.Line.{Line}
use Rattle.ios_words.specs.declared.commands.Command.{Command}
use Rattle.ios_words.specs.declared.kinds.BlockKind.{BlockKind}
use Rattle.ios_words.specs.declared.kinds.WordFault.{WordFault}
use Rattle.ios_words.specs.declared.kinds.WordFault.TheVariants as faults
use Rattle.ios_words.specs.Commands.{ReadsAs, IsAnswer}
use Rattle.ios_words.proofs.Answers.{one_answer}
use Rattle.ios_config.specs.declared.commands.FileCommand.{FileCommand}
use Rattle.ios_config.specs.declared.settings.Config.{Config}
use Rattle.ios_config.specs.Commands.{command_lines, IsLineWithin, IsReadAs, AreCommandsOf, IsNoCommand, IsFirstFault}
use Rattle.ios_config.specs.Configs.{IsConfigOf, IsRefused}
use Rattle.ios_config.specs.Texts.{config_of}
use Rattle.ios_config.specs.Twice.{Clash, StandOnce, IsFirstDuplicate}
use Rattle.ios_config.specs.Rising.{IsFirstNotRising}
use Rattle.ios_config.specs.Laws.{HasOneRefusal, HasNoConfigWhereRefused}
use Rattle.ios_config.proofs.Unique.{within_one, commands_one}

-- the kind that tells a fault
abbrev told_by : WordFault → Kind
told_by faults.Unknown = refusals.UnknownLine
told_by (faults.BadWord place) = refusals.BadWord
told_by faults.WildcardNotPrefix = refusals.WildcardNotPrefix
told_by faults.Memory = refusals.UnknownLine

-- an answer that is a fault, and one that is a command
abbrev err : WordFault → Result Command WordFault
err fault = Err fault

abbrev ok : Command → Result Command WordFault
ok command = Ok command

-- a line that is no command has a fault that its kind tells
record HasFault (text : List ℕ) (line : Line) (within : BlockKind) (kind : Kind) : Type 0 where
  fault : WordFault
  answer : IsAnswer text line within (Err fault)
  not_memory : err fault ≢ err faults.Memory
  told : kind ≡ told_by fault

fault_of : (text : List ℕ) (line : Line) (within : BlockKind) (kind : Kind) → IsNoCommand text line within kind → HasFault text line within kind
fault_of text line within kind (inl unknown) = record { fault = faults.Unknown; answer = unknown.1; not_memory = λ e. absurd (cc); told = unknown.0 }
fault_of text line within kind (inr (inl bad)) = record { fault = faults.BadWord bad.1.0; answer = bad.1.1; not_memory = λ e. absurd (cc); told = bad.0 }
fault_of text line within kind (inr (inr wildcard)) = record { fault = faults.WildcardNotPrefix; answer = wildcard.1; not_memory = λ e. absurd (cc); told = wildcard.0 }

same_fault : (f g : WordFault) → err f ≡ err g → f ≡ g
same_fault f g e = cc

ok_not_memory : (c : Command) → ok c ≢ err faults.Memory
ok_not_memory c e = absurd (cc)

ok_not_err : (c : Command) (f : WordFault) → ok c ≡ err f → ⊥
ok_not_err c f e = absurd (cc)

-- a line is not both a command and none
command_or_none : (text : List ℕ) (line : Line) (within : BlockKind) (c : Command) (kind : Kind) → ReadsAs text line within c → IsNoCommand text line within kind → ⊥
command_or_none text line within c kind reads none =
    let h = fault_of text line within kind none in
    ok_not_err c h.fault (one_answer text line within (Ok c) (Err h.fault) reads h.answer (ok_not_memory c) h.not_memory)

one_kind : (text : List ℕ) (line : Line) (within : BlockKind) (k l : Kind) → IsNoCommand text line within k → IsNoCommand text line within l → k ≡ l
one_kind text line within k l a b =
    let h = fault_of text line within k a in
    let i = fault_of text line within l b in
    h.told ∙ ap told_by (same_fault h.fault i.fault (one_answer text line within (Err h.fault) (Err i.fault) h.answer i.answer h.not_memory i.not_memory)) ∙ sym i.told

-- commands that stand once, and one that stands again
at_end : (before : List FileCommand) (c : FileCommand) (after : List FileCommand) (d : FileCommand) → get_or (before ++ c ∷ after) (length before) d ≡ c
at_end [] c after d = refl
at_end (b ∷ before) c after d = at_end before c after d

rest_once : (b : FileCommand) (commands : List FileCommand) → StandOnce (b ∷ commands) → StandOnce commands
rest_once b commands once i j d below within = once (suc i) (suc j) d (omega (arith, below)) (omega (arith, within))

again_among : (before : List FileCommand) (c : FileCommand) (after : List FileCommand) → StandOnce (before ++ c ∷ after) → Any (λ b. Clash b.command c.command) before → ⊥
again_among [] c after once (k, x, within, is, clash) = omega (arith, within)
again_among (b ∷ before) c after once (zero, x, within, is, clash) =
    let P : FileCommand → Type 0 = λ y. Clash y.command c.command in
    let Q : FileCommand → Type 0 = λ y. ¬ Clash b.command y.command in
    let no : ¬ Clash b.command (get_or (before ++ c ∷ after) (length before) c).command = once zero (suc (length before)) c (omega arith) (omega (arith, length-append before (c ∷ after))) in
    subst Q (at_end before c after c) no (subst P (sym is) clash)
again_among (b ∷ before) c after once (suc k, x, within, is, clash) = again_among before c after (rest_once b (before ++ c ∷ after) once) (k, x, omega (arith, within), is, clash)

once_or_twice : (commands : List FileCommand) (n : ℕ) → StandOnce commands → IsFirstDuplicate commands n → ⊥
once_or_twice commands n once twice = again_among twice.before twice.command twice.after (subst StandOnce twice.split once) twice.again

command_tail : (x y : FileCommand) (xs ys : List FileCommand) → x ∷ xs ≡ y ∷ ys → xs ≡ ys
command_tail x y xs ys e = cc

command_head : (x y : FileCommand) (xs ys : List FileCommand) → x ∷ xs ≡ y ∷ ys → x ≡ y
command_head x y xs ys e = cc

-- of two ways to split a list at a command the longer front begins with the shorter one and its command
longer : (before others : List FileCommand) (c d : FileCommand) (after rest : List FileCommand) → before ++ c ∷ after ≡ others ++ d ∷ rest →
    length before < length others → (mid : List FileCommand) × (others ≡ before ++ c ∷ mid)
longer [] [] c d after rest split below = absurd (omega (arith, below))
longer [] (o ∷ others) c d after rest split below = (others, ap (λ (x : FileCommand). x ∷ others) (sym (command_head c o after (others ++ d ∷ rest) split)))
longer (b ∷ before) [] c d after rest split below = absurd (omega (arith, below))
longer (b ∷ before) (o ∷ others) c d after rest split below =
    let deeper = longer before others c d after rest (command_tail b o (before ++ c ∷ after) (others ++ d ∷ rest) split) (omega (arith, below)) in
    (deeper.0, ap (λ (x : FileCommand). x ∷ others) (sym (command_head b o (before ++ c ∷ after) (others ++ d ∷ rest) split)) ∙ ap (λ (xs : List FileCommand). b ∷ xs) deeper.1)

level : (before others : List FileCommand) (c d : FileCommand) (after rest : List FileCommand) → before ++ c ∷ after ≡ others ++ d ∷ rest → length before ≡ length others → c ≡ d
level [] [] c d after rest split same = command_head c d after rest split
level [] (o ∷ others) c d after rest split same = absurd (omega (arith, same))
level (b ∷ before) [] c d after rest split same = absurd (omega (arith, same))
level (b ∷ before) (o ∷ others) c d after rest split same = level before others c d after rest (command_tail b o (before ++ c ∷ after) (others ++ d ∷ rest) split) (omega (arith, same))

one_duplicate : (commands : List FileCommand) (n m : ℕ) → IsFirstDuplicate commands n → IsFirstDuplicate commands m → n ≡ m
one_duplicate commands n m a b = elim (cases_lt (length a.before) (length b.before)) [
  | inl below ↦
      let front = longer a.before b.before a.command b.command a.after b.after (sym a.split ∙ b.split) below in
      absurd (again_among a.before a.command front.0 (subst StandOnce front.1 b.once) a.again)
  | inr above ↦ elim (cases_lt (length b.before) (length a.before)) [
    | inl below ↦
        let front = longer b.before a.before b.command a.command b.after a.after (sym b.split ∙ a.split) below in
        absurd (again_among b.before b.command front.0 (subst StandOnce front.1 a.once) b.again)
    | inr other ↦ sym a.is_line ∙ ap (λ (c : FileCommand). c.line) (level a.before b.before a.command b.command a.after b.after (sym a.split ∙ b.split) (omega (arith, above, other))) ∙ b.is_line
  ]
]

module _ (text : List ℕ) (lines : Lines) where
  -- a line that is read is no faulty one
  read_or_fault : (number : ℕ) (line : Line) (c : FileCommand) (within : BlockKind) (kind : Kind) → IsReadAs text lines (number, line) c →
      IsLineWithin text lines line within → IsNoCommand text line within kind → ⊥
  read_or_fault number line c within kind read stands none =
      let same : read.within ≡ within = within_one text lines line read.within within read.stands stands in
      let P : BlockKind → Type 0 = λ k. ReadsAs text line k c.command in
      command_or_none text line within c.command kind (subst P same read.reads) none

  -- a faulty line among lines that are read
  fault_among : (before : List (ℕ × Line)) (number : ℕ) (line : Line) (after : List (ℕ × Line)) (commands : List FileCommand) (within : BlockKind) (kind : Kind) →
      AllZip (IsReadAs text lines) (before ++ (number, line) ∷ after) commands → IsLineWithin text lines line within → IsNoCommand text line within kind → ⊥
  fault_among [] number line after [] within kind read stands none = read
  fault_among [] number line after (c ∷ commands) within kind read stands none = read_or_fault number line c within kind read.0 stands none
  fault_among (l ∷ before) number line after [] within kind read stands none = read
  fault_among (l ∷ before) number line after (c ∷ commands) within kind read stands none = fault_among before number line after commands within kind read.1 stands none

  -- two first faults of one list of lines
  record Both (n m : ℕ) (k l : Kind) : Type 0 where
    number : n ≡ m
    kind : k ≡ l

  tail_of : {X : Type 0} (x y : X) (xs ys : List X) → x ∷ xs ≡ y ∷ ys → xs ≡ ys
  tail_of x y xs ys e = cc

  head_of : {X : Type 0} (x y : X) (xs ys : List X) → x ∷ xs ≡ y ∷ ys → x ≡ y
  head_of x y xs ys e = cc

  faults_one : (before others : List (ℕ × Line)) (n m : ℕ) (line other : Line) (after rest : List (ℕ × Line)) (cs ds : List FileCommand) (in_line in_other : BlockKind) (k l : Kind) →
      before ++ (n, line) ∷ after ≡ others ++ (m, other) ∷ rest → AllZip (IsReadAs text lines) before cs → AllZip (IsReadAs text lines) others ds →
      IsLineWithin text lines line in_line → IsLineWithin text lines other in_other → IsNoCommand text line in_line k → IsNoCommand text other in_other l → Both n m k l
  faults_one [] [] n m line other after rest cs ds in_line in_other k l split of_cs of_ds stands places none nothing =
      let here : (n, line) ≡ (m, other) = head_of (n, line) (m, other) after rest split in
      let same : line ≡ other = ap (λ (p : ℕ × Line). p.1) here in
      let P : Line → Type 0 = λ x. IsLineWithin text lines x in_line in
      let within : in_line ≡ in_other = within_one text lines other in_line in_other (subst P same stands) places in
      let Q : Line → Type 0 = λ x. IsNoCommand text x in_line k in
      let R : BlockKind → Type 0 = λ b. IsNoCommand text other b k in
      record { number = ap (λ (p : ℕ × Line). p.0) here; kind = one_kind text other in_other k l (subst R within (subst Q same none)) nothing }
  faults_one [] (o ∷ others) n m line other after rest cs [] in_line in_other k l split of_cs of_ds stands places none nothing = absurd of_ds
  faults_one [] (o ∷ others) n m line other after rest cs (d ∷ ds) in_line in_other k l split of_cs of_ds stands places none nothing =
      let here : (n, line) ≡ o = head_of (n, line) o after (others ++ (m, other) ∷ rest) split in
      let P : ℕ × Line → Type 0 = λ p. IsReadAs text lines p d in
      absurd (read_or_fault n line d in_line k (subst P (sym here) of_ds.0) stands none)
  faults_one (b ∷ before) [] n m line other after rest [] ds in_line in_other k l split of_cs of_ds stands places none nothing = absurd of_cs
  faults_one (b ∷ before) [] n m line other after rest (c ∷ cs) ds in_line in_other k l split of_cs of_ds stands places none nothing =
      let here : b ≡ (m, other) = head_of b (m, other) (before ++ (n, line) ∷ after) rest split in
      let P : ℕ × Line → Type 0 = λ p. IsReadAs text lines p c in
      absurd (read_or_fault m other c in_other l (subst P here of_cs.0) places nothing)
  faults_one (b ∷ before) (o ∷ others) n m line other after rest [] ds in_line in_other k l split of_cs of_ds stands places none nothing = absurd of_cs
  faults_one (b ∷ before) (o ∷ others) n m line other after rest (c ∷ cs) [] in_line in_other k l split of_cs of_ds stands places none nothing = absurd of_ds
  faults_one (b ∷ before) (o ∷ others) n m line other after rest (c ∷ cs) (d ∷ ds) in_line in_other k l split of_cs of_ds stands places none nothing =
      faults_one before others n m line other after rest cs ds in_line in_other k l (tail_of b o (before ++ (n, line) ∷ after) (others ++ (m, other) ∷ rest)
      split) of_cs.1 of_ds.1 stands places none nothing

  fault_or_commands : (n : ℕ) (k : Kind) (commands : List FileCommand) → IsFirstFault text lines n k → AreCommandsOf text lines commands → ⊥
  fault_or_commands n k commands fault read =
      let P : List (ℕ × Line) → Type 0 = λ ls. AllZip (IsReadAs text lines) ls commands in
      fault_among fault.before n fault.line fault.after commands fault.within k (subst P fault.split read) fault.stands fault.fault

  -- two refusals are one
  config_or_refused : (config : Config) (n : ℕ) (k : Kind) → IsConfigOf text lines config → IsRefused text lines n k → ⊥
  config_or_refused config n k is (inl fault) = fault_or_commands n k is.commands fault is.read
  config_or_refused config n k is (inr (inl (told, twice))) =
      let same : twice.commands ≡ is.commands = commands_one text lines (command_lines lines) twice.commands is.commands twice.read is.read in
      let P : List FileCommand → Type 0 = λ cs. IsFirstDuplicate cs n in
      once_or_twice is.commands n is.once (subst P same twice.duplicate)
  config_or_refused config n k is (inr (inr (told, falling))) =
      let same : falling.commands ≡ is.commands = commands_one text lines (command_lines lines) falling.commands is.commands falling.read is.read in
      let P : Config → Type 0 = λ c. IsFirstNotRising c.lists n in
      let falls : IsFirstNotRising config.lists n = subst P (ap config_of same ∙ sym is.set) falling.falls in
      is.rising n falls.has

  same_refusal : (n m : ℕ) (k l : Kind) → IsRefused text lines n k → IsRefused text lines m l → Both n m k l
  same_refusal n m k l (inl a) (inl b) = faults_one a.before b.before n m a.line b.line a.after b.after a.commands b.commands a.within b.within k l
      (sym a.split ∙ b.split) a.read b.read a.stands b.stands a.fault b.fault
  same_refusal n m k l (inl a) (inr (inl (told, b))) = absurd (fault_or_commands n k b.commands a b.read)
  same_refusal n m k l (inl a) (inr (inr (told, b))) = absurd (fault_or_commands n k b.commands a b.read)
  same_refusal n m k l (inr (inl (told, a))) (inl b) = absurd (fault_or_commands m l a.commands b a.read)
  same_refusal n m k l (inr (inl (told, a))) (inr (inl (other, b))) =
      let same : a.commands ≡ b.commands = commands_one text lines (command_lines lines) a.commands b.commands a.read b.read in
      let P : List FileCommand → Type 0 = λ cs. IsFirstDuplicate cs n in
      record { number = one_duplicate b.commands n m (subst P same a.duplicate) b.duplicate; kind = told ∙ sym other }
  same_refusal n m k l (inr (inl (told, a))) (inr (inr (other, b))) =
      let same : a.commands ≡ b.commands = commands_one text lines (command_lines lines) a.commands b.commands a.read b.read in
      let P : List FileCommand → Type 0 = λ cs. IsFirstDuplicate cs n in
      absurd (once_or_twice b.commands n b.once (subst P same a.duplicate))
  same_refusal n m k l (inr (inr (told, a))) (inl b) = absurd (fault_or_commands m l a.commands b a.read)
  same_refusal n m k l (inr (inr (told, a))) (inr (inl (other, b))) =
      let same : b.commands ≡ a.commands = commands_one text lines (command_lines lines) b.commands a.commands b.read a.read in
      let P : List FileCommand → Type 0 = λ cs. IsFirstDuplicate cs m in
      absurd (once_or_twice a.commands m a.once (subst P same b.duplicate))
  same_refusal n m k l (inr (inr (told, a))) (inr (inr (other, b))) =
      let same : a.commands ≡ b.commands = commands_one text lines (command_lines lines) a.commands b.commands a.read b.read in
      let P : List FileCommand → Type 0 = λ cs. IsFirstNotRising (config_of cs).lists n in
      let falls : IsFirstNotRising (config_of b.commands).lists n = subst P same a.falls in
      record { number = omega (arith, falls.least m b.falls.has, b.falls.least n falls.has); kind = told ∙ sym other }

pub refused_alone : HasNoConfigWhereRefused
refused_alone text lines config n k is refused = config_or_refused text lines config n k is refused

pub refusal_one : HasOneRefusal
refusal_one text lines n m k l a b = let same = same_refusal text lines n m k l a b in (same.number, same.kind)
