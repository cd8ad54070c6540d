-- How a reader goes over the lines of a certificate. The first line is the head. In a report then
-- come the blocks, one for each policy in order, and the line `end`. In a repair the second line is
-- the answer; if that is a repair, the edits follow in order and the blocks, each of them a yes;
-- then come the line `log`, the lines of the proof log and the line `end`. The first line that is
-- not of this form is rejected, with a word that each line has: `form` if it is no line that is
-- allowed there, `no-claim` if the answer claims nothing, `edit` if the line of an edit names none
-- that comes after the one before, `policy` if a block is missing, too many or of another policy,
-- `not-yes` if the block of a repair is no yes, and `no-end` if a line follows the end.
use Rattle.std.specs.Prelude.{◌≡◌, ◌⊎◌, ℕ, ◌+◌, ◌-◌, ◌==◌, ◌&&◌, nat_lt, nat_le, Bool, true, false}
use Rattle.std.specs.Prelude.{if◌then◌else◌, List, [], ◌∷◌, ◌++◌, length, Option, Some, None}
use Rattle.std.specs.Prelude.{Result, Ok, Err, bytes_eq, codes, slice_get}
use Rattle.arc_base.specs.declared.certificate.CertKind.{CertKind}
use Rattle.arc_base.specs.declared.certificate.CertKind.TheVariants.{Form, NoClaim, Edit, Policy}
use Rattle.arc_base.specs.declared.certificate.CertKind.TheVariants.{NotYes, NoEnd, Memory}
use Rattle.arc_base.specs.Options.{◌>>=◌}
use Rattle.arc_base.specs.Words.{words}
use Rattle.edit_list.specs.declared.edit_kinds.Edit as edits
use Rattle.net_model.specs.declared.policies.Document.{Document}
use Rattle.net_model.specs.declared.policies.Policy as policies
use Rattle.net_model.specs.declared.rows.Network.{Network}
use Rattle.net_model.specs.declared.verdicts.ClassSide.{ClassSide}
use Rattle.net_model.specs.declared.verdicts.LinkPath.{LinkPath}
use Rattle.net_model.specs.declared.verdicts.Verdict.TheVariants as verdicts
use Rattle.proof_log.specs.declared.steps.Step as steps
use Rattle.proof_log.specs.declared.reading.LineKind.{LineKind}
use Rattle.proof_log.specs.Reading.{reading}
use Rattle.policy_report.specs.declared.answers.Answer.{Answer}
use Rattle.policy_report.specs.declared.answers.Answer.TheVariants.{Repaired, NoRepair, Budget}
use Rattle.policy_report.specs.declared.drafts.Asked.{Asked}
use Rattle.policy_report.specs.declared.drafts.Asked.TheVariants as asks
use Rattle.policy_report.specs.declared.drafts.Block.{Block}
use Rattle.policy_report.specs.declared.drafts.Block.TheVariants.{Open, Whole}
use Rattle.policy_report.specs.declared.drafts.Draft.{Draft}
use Rattle.policy_report.specs.declared.drafts.Draft.TheVariants as drafts
use Rattle.policy_report.specs.declared.drafts.Heading.{Heading}
use Rattle.policy_report.specs.declared.got.Got.{Got}
use Rattle.policy_report.specs.declared.got.Got.TheVariants as gots
use Rattle.policy_report.specs.declared.got.Got.TheVariants.{More, Head, Verdict, End}
use Rattle.policy_report.specs.declared.got.CertForm.TheVariants as forms
use Rattle.policy_report.specs.declared.got.CertFault.{CertFault}
use Rattle.policy_report.specs.declared.reader.Reader.{Reader}
use Rattle.policy_report.specs.declared.stages.Stage.{Stage}
use Rattle.policy_report.specs.declared.stages.Stage.TheVariants as stages
use Rattle.policy_report.specs.declared.stages.Text.{Text}
use Rattle.policy_report.specs.declared.stages.Text.TheVariants.{Report, Repair}
use Rattle.policy_report.specs.Edits.{edit_from}
use Rattle.policy_report.specs.Readings.{answer_of, line_words, heading_of, asked_by, closed_of}
use Rattle.policy_report.specs.Readings.{path_of, walk_of, denied_of, cut_of, side_line_of}
use Rattle.policy_report.specs.Readings.{refused_of}

-- where a reader is: how many lines it has read, and what may come next
pub record Standing : Type 0 where
  pub line : ℕ
  pub stage : Stage

-- where this reader is
abbrev pub standing : Reader → Standing
standing r = record { line = r.line; stage = r.stage }

-- before the first line
abbrev pub start : Standing
start = record { line = 0; stage = stages.Head }

-- a step: where the reader is after a line, and what it answers
abbrev pub Step : Type 0
Step = Standing × Result Got CertFault

-- the number of the next line
abbrev pub next_line : ℕ → ℕ
next_line line = if line == 18446744073709551615 then line else line + 1

-- the line with this number is rejected
abbrev pub fails : ℕ → CertKind → Step
fails line kind = (
  record { line = line; stage = stages.Failed (record { line = line; kind = kind }) },
  Err (record { line = line; kind = kind }),
)

-- it is taken, and then this may come
abbrev pub goes : ℕ → Stage → Got → Step
goes line stage got = (record { line = line; stage = stage }, Ok got)

-- it is a line of the block of the policy at this place
abbrev pub goes_on : ℕ → Text → ℕ → Block → Step
goes_on line text which (Open draft) = goes line (stages.Within text which draft) More
goes_on line text which (Whole verdict) =
    goes line (stages.Between text (which + 1)) (Verdict which verdict)

-- one more side
abbrev pub with_side : ℕ → List ClassSide → ClassSide → Block
with_side left sides shown =
    if nat_le left 1 then Whole (verdicts.Closed (sides ++ shown ∷ []))
    else Open (drafts.Sides (left - 1) (sides ++ shown ∷ []))

-- one more path
abbrev pub with_path : ℕ → List LinkPath → LinkPath → Block
with_path left paths path =
    if nat_le left 1 then Whole (verdicts.Paths (paths ++ path ∷ []))
    else Open (drafts.Paths (left - 1) (paths ++ path ∷ []))

-- the block with a line of these words, where they are of the form that comes next
abbrev pub grown : Network → Draft → List (List ℕ) → Option Block
grown net (drafts.Sides left sides) words = do
  shown ← closed_of net words
  Some (with_side left sides shown)
grown net (drafts.Paths left paths) words = do
  path ← path_of net words
  Some (with_path left paths path)
grown net drafts.Walk words = do
  walk ← walk_of net words
  Some (Whole (verdicts.Walk walk.0 walk.1))
grown net drafts.Denied words = do
  class ← denied_of words
  Some (Whole (verdicts.Denied class))
grown net drafts.Cut words = do
  links ← cut_of net words
  Some (Open (drafts.Side links))
grown net (drafts.Side links) words = do
  side ← side_line_of net words
  Some (Whole (verdicts.Cut links side))
grown net drafts.Refused words = do
  refused ← refused_of net words
  Some (Whole (verdicts.Refused refused.0 refused.1))

-- whether two policies ask the same
abbrev pub asks_same : Asked → Asked → Bool
asks_same asks.Blocked asks.Blocked = true
asks_same asks.Through asks.Through = true
asks_same asks.Reach asks.Reach = true
asks_same _ _ = false

-- whether the block with this first line is that of the policy, which has this place, if there is
-- one
abbrev pub is_of_policy : Option policies.Policy → ℕ → Heading → Bool
is_of_policy None which heading = false
is_of_policy (Some policy) which heading =
    (heading.number == which + 1) && asks_same heading.asked (asked_by policy.kind)

-- whether the block with this first line is that of the policy at this place
abbrev pub is_of : List policies.Policy → ℕ → Heading → Bool
is_of all which heading = is_of_policy (slice_get all which) which heading

-- whether a block that begins so is a yes
abbrev pub is_yes : Block → Bool
is_yes (Whole (verdicts.Closed sides)) = true
is_yes (Whole (verdicts.Paths paths)) = true
is_yes (Whole verdict) = false
is_yes (Open (drafts.Sides left sides)) = true
is_yes (Open (drafts.Paths left paths)) = true
is_yes (Open draft) = false

-- whether the block is allowed in the text: in a repair only a yes is
abbrev pub may_stand : Text → Block → Bool
may_stand Report block = true
may_stand Repair block = is_yes block

-- a line that is not `end` nor `log`, between blocks
abbrev pub begun : Document → ℕ → Text → ℕ → Option Heading → Step
begun doc line text which None = fails line Form
begun doc line text which (Some heading) =
    if is_of doc.policies which heading then (if may_stand text heading.block
    then goes_on line text which heading.block else fails line NotYes)
    else fails line Policy

-- the line `end` after all blocks: it closes a report
abbrev pub closed : ℕ → Text → Step
closed line Report = goes line stages.Ended End
closed line Repair = fails line Form

-- the line `log` after all blocks: it comes before the proof log of a repair
abbrev pub logs : ℕ → Text → Step
logs line Report = fails line Form
logs line Repair = goes line stages.Steps More

-- a line between blocks, of which `which` are read
abbrev pub between : Document → ℕ → Text → ℕ → List ℕ → Step
between doc line text which bytes =
    if bytes_eq bytes (codes "end")
    then (if nat_lt which (length doc.policies) then fails line Policy else closed line text)
    else if bytes_eq bytes (codes "log")
    then (if nat_lt which (length doc.policies) then fails line Policy else logs line text)
    else begun doc line text which (heading_of (line_words bytes))

-- a line of a block, which gives this block, if it is of the form that comes next
abbrev pub went_on : ℕ → Text → ℕ → Option Block → Step
went_on line text which None = fails line Form
went_on line text which (Some block) = goes_on line text which block

-- a line of a block
abbrev pub within : Network → ℕ → Text → ℕ → Draft → List ℕ → Step
within net line text which draft bytes =
    went_on line text which (grown net draft (line_words bytes))

-- the first line
abbrev pub head : ℕ → List ℕ → Step
head line bytes =
    if bytes_eq bytes (codes "arc-report 1")
    then goes line (stages.Between Report 0) (Head forms.Report)
    else if bytes_eq bytes (codes "arc-repair 1") then goes line stages.Answer More
    else fails line Form

-- the answer of a repair
abbrev pub answered : ℕ → Option Answer → Step
answered line None = fails line Form
answered line (Some (Repaired price bound)) =
    goes line (stages.Edits 0) (Head (forms.Repaired price bound))
answered line (Some (NoRepair bound)) = goes line stages.Log (Head (forms.NoRepair bound))
answered line (Some Budget) = fails line NoClaim

-- whether the first word of the line is `edit`
abbrev pub is_edit : List (List ℕ) → Bool
is_edit [] = false
is_edit (word ∷ rest) = bytes_eq word (codes "edit")

-- the line of an edit
abbrev pub edited : ℕ → Option ℕ → Step
edited line None = fails line Edit
edited line (Some place) = goes line (stages.Edits (place + 1)) (gots.Edit place)

-- a line after the answer that there is a repair; the edits before this place are read
abbrev pub editing : Network → Document → List edits.Edit → ℕ → ℕ → List ℕ → Step
editing net doc all line next bytes =
    if is_edit (words bytes) then edited line (edit_from net all next bytes)
    else between doc line Repair 0 bytes

-- the line after the answer that there is no repair
abbrev pub logging : ℕ → List ℕ → Step
logging line bytes =
    if bytes_eq bytes (codes "log") then goes line stages.Steps More else fails line Form

-- a line of the proof log
abbrev pub logged : ℕ → Result (Option steps.Step) LineKind → Step
logged line (Ok None) = goes line stages.Steps More
logged line (Ok (Some step)) = goes line stages.Steps (gots.Step step)
logged line (Err kind) = fails line Form

-- a line after the line `log`
abbrev pub proving : ℕ → List ℕ → Step
proving line bytes =
    if bytes_eq bytes (codes "end") then goes line stages.Ended End else logged line (reading bytes)

-- the line with this number, by what may come
abbrev pub stepped : Network → Document → List edits.Edit → ℕ → Stage → List ℕ → Step
stepped net doc all line stages.Head bytes = head line bytes
stepped net doc all line stages.Answer bytes = answered line (answer_of (line_words bytes))
stepped net doc all line (stages.Edits next) bytes = editing net doc all line next bytes
stepped net doc all line (stages.Between text which) bytes = between doc line text which bytes
stepped net doc all line (stages.Within text which draft) bytes =
    within net line text which draft bytes
stepped net doc all line stages.Log bytes = logging line bytes
stepped net doc all line stages.Steps bytes = proving line bytes
stepped net doc all line stages.Ended bytes = fails line NoEnd
stepped net doc all line (stages.Failed fault) bytes =
    (record { line = line; stage = stages.Failed fault }, Err fault)

-- the next line
abbrev pub step : Network → Document → List edits.Edit → Standing → List ℕ → Step
step net doc all s bytes = stepped net doc all (next_line s.line) s.stage bytes

-- the line was read so, or memory was wanting for it
abbrev pub IsRead : Step → ℕ → Standing → Result Got CertFault → Type 0
IsRead expected line now result = ((now, result) ≡ expected) ⊎ ((now, result) ≡ fails line Memory)

-- memory can be wanting for the words of a line only: the head is read so, and so is what follows
-- the end or a rejected line
abbrev pub IsSurelyRead : Stage → Step → Standing → Result Got CertFault → Type 0
IsSurelyRead stages.Head expected now result = (now, result) ≡ expected
IsSurelyRead stages.Log expected now result = (now, result) ≡ expected
IsSurelyRead stages.Ended expected now result = (now, result) ≡ expected
IsSurelyRead (stages.Failed fault) expected now result = (now, result) ≡ expected
IsSurelyRead stage expected now result = Unit {0}
