-- Refusals: those of files that are read, and the line that prints one.
use Rattle.std.specs.Prelude.{ℕ, ◌-◌, List, [], ◌∷◌, ◌++◌, length, min, Option, Some, None}
use Rattle.std.specs.Prelude.{unwrap_or, nat_lt, codes, decimal, if◌then◌else◌}
use Rattle.std.specs.Option.{option_or}
use Rattle.arc_base.specs.declared.refusal.Kind.{Kind}
use Rattle.arc_base.specs.declared.refusal.Kind.TheVariants as kinds
use Rattle.arc_base.specs.ReasonWords.{kind_words}
use Rattle.arc_outside.specs.Files.{Files}
use Rattle.run_files.specs.declared.limits.Limits.{Limits}
use Rattle.run_files.specs.declared.outcome.FileRefusal.{FileRefusal}
use Rattle.run_files.specs.declared.outcome.Reason.{Reason}
use Rattle.run_files.specs.declared.outcome.Reason.TheVariants as reasons
use Rattle.run_files.specs.Limits.{router_limit, routers_limit}

-- what a name holds, and nothing where it holds nothing
abbrev pub bytes_at : Files → List ℕ → List ℕ
bytes_at files name = unwrap_or (files name) []

-- the refusal of a file for a kind of reason, at a number
abbrev pub refusal_of : List ℕ → ℕ → Kind → FileRefusal
refusal_of name number kind = record { name = name; number = number; reason = reasons.Kind kind }

-- the refusal of a file: it is missing, or it has more bytes than the limit says
abbrev pub refusal_within : ℕ → List ℕ → Option (List ℕ) → Option FileRefusal
refusal_within limit name None = Some (refusal_of name 0 kinds.Missing)
refusal_within limit name (Some bytes) =
    if nat_lt limit (length bytes) then Some (refusal_of name 0 kinds.TooLong) else None

abbrev pub read_refusal : ℕ → Files → List ℕ → Option FileRefusal
read_refusal limit files name = refusal_within limit name (files name)

-- the first refusal of router files in order, each with at most `limit` bytes, and all together
-- with at most `room`
abbrev pub first_refusal : ℕ → ℕ → Files → List (List ℕ) → Option FileRefusal
first_refusal most room files [] = None
first_refusal most room files (name ∷ names) =
    option_or (read_refusal (min most room) files name)
    (first_refusal most (room - length (bytes_at files name)) files names)

-- the first refusal of router files under these limits
abbrev pub routers_refusal : Limits → Files → List (List ℕ) → Option FileRefusal
routers_refusal limits files names =
    first_refusal (router_limit limits) (routers_limit limits) files names

-- the words for the reason of a refusal
abbrev pub reason_words : Reason → List ℕ
reason_words (reasons.Kind kind) = kind_words kind
reason_words reasons.BadHeader = codes "bad-header"
reason_words reasons.BadNumber = codes "bad-number"
reason_words reasons.ClauseCount = codes "clause-count"

-- the line that prints a refusal
unfoldable pub refusal_line : FileRefusal → List ℕ
refusal_line r =
    codes "refused " ++ r.name ++ codes " " ++ decimal r.number ++ codes " " ++
    reason_words r.reason ++ codes "\n"
