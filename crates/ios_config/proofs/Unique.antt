-- The lines of a text are read in one way.
use Rattle.std.proofs.Common.{◌≡◌, ℕ, ◌+◌, ◌<◌, Bool, true, false, List, [], ◌∷◌, length, get_or, refl, sym, ◌∙◌, ap, subst, arith, MatchBool}
use Rattle.std.specs.Prelude.{Contains}
use Rattle.std.specs.Result.{result_ok}
use Rattle.std.specs.List.{AllZip}
use Rattle.std.proofs.lemmas.List.{get_or_default}
use Rattle.std.proofs.lemmas.List.FromFn.{length-enumerate_from, get_or-enumerate_from}
use Rattle.std.proofs.lemmas.Option.{same_Some}
use Rattle.ios_lines.specs.declared.line.Lines.{Lines}
use Rattle.ios_lines.specs.declared.line.Line.{Line}
use Rattle.ios_words.specs.declared.kinds.BlockKind.{BlockKind}
use Rattle.ios_words.specs.declared.kinds.BlockKind.TheVariants as kinds
use Rattle.ios_words.specs.declared.commands.Command.{Command}
use Rattle.ios_words.specs.Commands.{ReadsAs, is_extended_block, line_words}
use Rattle.ios_words.specs.Meanings.{give}
use Rattle.ios_words.specs.Readings.{read}
use Rattle.ios_config.specs.declared.commands.FileCommand.{FileCommand}
use Rattle.ios_config.specs.declared.settings.Config.{Config}
use Rattle.ios_config.specs.Commands.{numbered, command_lines, is_top, opened_by, Opens, IsLineWithin, IsReadAs}
use Rattle.ios_config.specs.Texts.{config_of}
use Rattle.ios_config.specs.Configs.{IsConfigOf}

-- a line is read as one command
pub reads_one : (text : List ℕ) (line : Line) (within : BlockKind) (c d : Command) → ReadsAs text line within c → ReadsAs text line within d → c ≡ d
reads_one text line within c d a b =
    let rule : a.rule ≡ b.rule = same_Some a.rule b.rule (sym a.first ∙ b.first) in
    let values : a.values ≡ b.values =
    same_Some a.values b.values (ap result_ok (sym a.complete ∙ ap (read (is_extended_block within) (line_words text line)) rule ∙ b.complete)) in
    a.gives ∙ (λ i. give (rule i).meaning (values i)) ∙ sym b.gives

-- a number with a line
abbrev pair : ℕ → Line → ℕ × Line
pair n r = (n, r)

-- a number is that of one line
number_one : (lines : Lines) (n : ℕ) (r s : Line) → Contains (numbered lines) (n, r) → Contains (numbered lines) (n, s) → r ≡ s
number_one lines n r s a b =
    let rows = lines.rows in
    let ha : a.0 < length rows = omega (arith, a.1, length-enumerate_from 1 rows) in
    let hb : b.0 < length rows = omega (arith, b.1, length-enumerate_from 1 rows) in
    let ea : pair (1 + a.0) (get_or rows a.0 r) ≡ pair n r = sym (get_or-enumerate_from 1 rows a.0 (n, r) ha) ∙ a.2 in
    let eb : pair (1 + b.0) (get_or rows b.0 s) ≡ pair n s = sym (get_or-enumerate_from 1 rows b.0 (n, s) hb) ∙ b.2 in
    let na : 1 + a.0 ≡ n = ap (λ (p : ℕ × Line). p.0) ea in
    let nb : 1 + b.0 ≡ n = ap (λ (p : ℕ × Line). p.0) eb in
    let same : a.0 ≡ b.0 = omega arith in
    sym (ap (λ (p : ℕ × Line). p.1) ea) ∙ ap (λ k. get_or rows k r) same ∙ get_or_default rows b.0 r s hb ∙ ap (λ (p : ℕ × Line). p.1) eb

-- a line opens a block of one kind
opens_one : (text : List ℕ) (lines : Lines) (n : ℕ) (k l : BlockKind) → Opens text lines n k → Opens text lines n l → k ≡ l
opens_one text lines n k l a b =
    let head : a.head ≡ b.head = number_one lines n a.head b.head a.at_number b.at_number in
    let reads : ReadsAs text b.head kinds.Top a.command = subst (λ (line : Line). ReadsAs text line kinds.Top a.command) head a.reads in
    a.opens ∙ ap opened_by (reads_one text b.head kinds.Top a.command b.command reads b.reads) ∙ sym b.opens

-- and stands in a block of one kind
pub within_one : (text : List ℕ) (lines : Lines) (line : Line) (k l : BlockKind) → IsLineWithin text lines line k → IsLineWithin text lines line l → k ≡ l
within_one text lines line k l = by (is_top line)
  where
    by : (b : Bool) → MatchBool b (k ≡ kinds.Top) (Opens text lines line.block k) → MatchBool b (l ≡ kinds.Top) (Opens text lines line.block l) → k ≡ l
    by true a b = a ∙ sym b
    by false a b = opens_one text lines line.block k l a b

-- so it gives one command of the file
command_one : (text : List ℕ) (lines : Lines) (l : ℕ × Line) (c d : FileCommand) → IsReadAs text lines l c → IsReadAs text lines l d → c ≡ d
command_one text lines l c d a b =
    let line : c.line ≡ d.line = a.line ∙ sym b.line in
    let block : c.block ≡ d.block = a.block ∙ sym b.block in
    let within : a.within ≡ b.within = within_one text lines l.1 a.within b.within a.stands b.stands in
    let reads : ReadsAs text l.1 b.within c.command = subst (λ (k : BlockKind). ReadsAs text l.1 k c.command) within a.reads in
    let command : c.command ≡ d.command = reads_one text l.1 b.within c.command d.command reads b.reads in
    λ i. record { line = line i; block = block i; command = command i }

pub commands_one : (text : List ℕ) (lines : Lines) (ls : List (ℕ × Line)) (cs ds : List FileCommand) → AllZip (IsReadAs text lines) ls cs → AllZip (IsReadAs text lines) ls ds → cs ≡ ds
commands_one text lines [] [] [] a b = refl
commands_one text lines [] [] (d ∷ ds) a b = absurd b
commands_one text lines [] (c ∷ cs) ds a b = absurd a
commands_one text lines (l ∷ ls) [] ds a b = absurd a
commands_one text lines (l ∷ ls) (c ∷ cs) [] a b = absurd b
commands_one text lines (l ∷ ls) (c ∷ cs) (d ∷ ds) a b =
    let first = command_one text lines l c d a.0 b.0 in
    let rest = commands_one text lines ls cs ds a.1 b.1 in
    λ i. first i ∷ rest i

-- the lines of a text set one thing at most
pub config_one : (text : List ℕ) (lines : Lines) (config other : Config) → IsConfigOf text lines config → IsConfigOf text lines other → config ≡ other
config_one text lines config other a b =
    a.set ∙ ap config_of (commands_one text lines (command_lines lines) a.commands b.commands a.read b.read) ∙ sym b.set
