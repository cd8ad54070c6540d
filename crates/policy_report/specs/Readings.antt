-- What the lines of a report are read as. Each line has one spelling: its words have one space
-- between them, and numbers, addresses and prefixes have the one form in which they are written.
use Rattle.std.specs.Prelude.{ℕ, ◌-◌, ◌==◌, ◌&&◌, nat_le, Bool, true, false, if◌then◌else◌, List}
use Rattle.std.specs.Prelude.{[], ◌∷◌, length, Option, Some, None, bytes_eq, codes}
use Rattle.std.specs.List.{slice_split}
use Rattle.std.specs.Option.{option_map_or}
use Rattle.arc_base.specs.declared.place.Link.{Link}
use Rattle.arc_base.specs.PrefixText.{number_of, address_of, prefix_of}
use Rattle.arc_base.specs.Options.{◌>>=◌}
use Rattle.net_model.specs.declared.lists.Packet.{Packet}
use Rattle.net_model.specs.declared.policies.Class.{Class}
use Rattle.net_model.specs.declared.policies.PolicyKind.{PolicyKind}
use Rattle.net_model.specs.declared.policies.PolicyKind.TheVariants as kinds
use Rattle.net_model.specs.declared.rows.RouterRow.{RouterRow}
use Rattle.net_model.specs.declared.rows.Network.{Network}
use Rattle.net_model.specs.declared.services.Service.{Service}
use Rattle.net_model.specs.Services.{whole_service}
use Rattle.net_model.specs.declared.verdicts.ClassSide.{ClassSide}
use Rattle.net_model.specs.declared.verdicts.LinkPath.{LinkPath}
use Rattle.net_model.specs.declared.verdicts.Verdict.TheVariants as verdicts
use Rattle.policy_report.specs.declared.answers.Answer.{Answer}
use Rattle.policy_report.specs.declared.answers.Answer.TheVariants as answers
use Rattle.policy_report.specs.declared.drafts.Asked.{Asked}
use Rattle.policy_report.specs.declared.drafts.Asked.TheVariants.{Blocked, Through, Reach}
use Rattle.policy_report.specs.declared.drafts.Block.{Block}
use Rattle.policy_report.specs.declared.drafts.Block.TheVariants.{Open, Whole}
use Rattle.policy_report.specs.declared.drafts.Draft.TheVariants as drafts
use Rattle.policy_report.specs.declared.drafts.Heading.{Heading}
use Rattle.policy_report.specs.ServiceWords.{range_named, service_named}

-- the words of a line: the pieces between spaces
abbrev pub line_words : List ℕ → List (List ℕ)
line_words line = slice_split (λ b. b == 32) line

-- a number below 2 ^ 32
abbrev pub count_of : List ℕ → Option ℕ
count_of word = do
  number ← number_of word
  if nat_le number 4294967295 then Some number else None

-- a link, by its number counted from 1, of a network with `links` links
abbrev pub link_of : ℕ → List ℕ → Option Link
link_of links word = do
  number ← count_of word
  if nat_le 1 number && nat_le number links then Some (record { 0 = number - 1 }) else None

-- the links with these numbers
abbrev pub all_links : ℕ → List (List ℕ) → Option (List Link)
all_links links [] = Some []
all_links links (word ∷ words) = do
  link ← link_of links word
  rest ← all_links links words
  Some (link ∷ rest)

-- for each router, in order, whether it is named; the names come in that order, each once
abbrev pub side_of : List RouterRow → List (List ℕ) → Option (List Bool)
side_of [] [] = Some []
side_of [] (name ∷ names) = None
side_of (router ∷ routers) [] = do
  side ← side_of routers []
  Some (false ∷ side)
side_of (router ∷ routers) (name ∷ names) =
    if bytes_eq router.name name
    then (do side ← side_of routers names; Some (true ∷ side))
    else (do side ← side_of routers (name ∷ names); Some (false ∷ side))

-- the services that the first word names, and the words after it; where it names none, all
-- services, and the words as they are
abbrev pub services_at : List (List ℕ) → Service × List (List ℕ)
services_at [] = (whole_service, [])
services_at (word ∷ words) =
    option_map_or (λ range. (range, words)) (range_named word) (whole_service, word ∷ words)

-- a class, and the words after it
abbrev pub class_at : List (List ℕ) → Option (Class × List (List ℕ))
class_at (first ∷ second ∷ words) = do
  from ← prefix_of first
  to ← prefix_of second
  Some (record { from = from; to = to; service = (services_at words).0 }, (services_at words).1)
class_at words = None

-- the service that the first word names, and the words after it; where it names none, the service
-- 0, and the words as they are
abbrev pub service_at : List (List ℕ) → ℕ × List (List ℕ)
service_at [] = (0, [])
service_at (word ∷ words) =
    option_map_or (λ service. (service, words)) (service_named word) (0, word ∷ words)

-- a packet, and the words after it
abbrev pub packet_at : List (List ℕ) → Option (Packet × List (List ℕ))
packet_at (first ∷ second ∷ words) = do
  from ← address_of first
  to ← address_of second
  Some (record { from = from; to = to; service = (service_at words).0 }, (service_at words).1)
packet_at words = None

-- the link, where its number is the only word
abbrev pub lone_link : ℕ → List (List ℕ) → Option Link
lone_link links (number ∷ []) = link_of links number
lone_link links words = None

-- the words after this first word, where they begin with it
abbrev pub after_word : List ℕ → List (List ℕ) → Option (List (List ℕ))
after_word first [] = None
after_word first (word ∷ words) = if bytes_eq word first then Some words else None

-- a class, and the names of the routers on a side
abbrev pub side_shown : Network → List (List ℕ) → Option ClassSide
side_shown net words = do
  found ← class_at words
  side ← side_of net.routers found.1
  Some (record { class = found.0; side = side })

-- `closed FROM TO [SERVICE] ROUTERS..`
abbrev pub closed_of : Network → List (List ℕ) → Option ClassSide
closed_of net words = do
  rest ← after_word (codes "closed") words
  side_shown net rest

-- `path LINKS..`
abbrev pub path_of : Network → List (List ℕ) → Option LinkPath
path_of net words = do
  numbers ← after_word (codes "path") words
  links ← all_links (length net.links) numbers
  Some (record { links = links })

-- a class, and the links of a walk
abbrev pub walk_shown : Network → List (List ℕ) → Option (Class × LinkPath)
walk_shown net words = do
  found ← class_at words
  links ← all_links (length net.links) found.1
  Some (found.0, record { links = links })

-- `walk FROM TO [SERVICE] LINKS..`
abbrev pub walk_of : Network → List (List ℕ) → Option (Class × LinkPath)
walk_of net words = do
  rest ← after_word (codes "walk") words
  walk_shown net rest

-- a class, and nothing after it
abbrev pub class_shown : List (List ℕ) → Option Class
class_shown words = do
  found ← class_at words
  if length found.1 == 0 then Some found.0 else None

-- `denied FROM TO [SERVICE]`
abbrev pub denied_of : List (List ℕ) → Option Class
denied_of words = do
  rest ← after_word (codes "denied") words
  class_shown rest

-- `cut LINKS..`
abbrev pub cut_of : Network → List (List ℕ) → Option (List Link)
cut_of net words = do
  numbers ← after_word (codes "cut") words
  all_links (length net.links) numbers

-- `side ROUTERS..`
abbrev pub side_line_of : Network → List (List ℕ) → Option (List Bool)
side_line_of net words = do
  names ← after_word (codes "side") words
  side_of net.routers names

-- a packet, and the link on which it is denied
abbrev pub packet_shown : Network → List (List ℕ) → Option (Packet × Link)
packet_shown net words = do
  found ← packet_at words
  link ← lone_link (length net.links) found.1
  Some (found.0, link)

-- `acl-on-routed-link FROMADDR TOADDR [POINT] LINK`
abbrev pub refused_of : Network → List (List ℕ) → Option (Packet × Link)
refused_of net words = do
  rest ← after_word (codes "acl-on-routed-link") words
  packet_shown net rest

-- what a policy of this kind asks
abbrev pub asked_by : PolicyKind → Asked
asked_by kinds.Blocked = Blocked
asked_by kinds.Through = Through
asked_by (kinds.Reach k) = Reach

-- what a word asks
abbrev pub asked_of : List ℕ → Option Asked
asked_of word =
    if bytes_eq word (codes "blocked") then Some Blocked
    else if bytes_eq word (codes "through") then Some Through
    else if bytes_eq word (codes "reach") then Some Reach
    else None

-- a yes: its sides or paths, `count` of them
abbrev pub yes_of : Asked → ℕ → Block
yes_of Reach count = if count == 0 then Whole (verdicts.Paths []) else Open (drafts.Paths count [])
yes_of asked count = if count == 0 then Whole (verdicts.Closed []) else Open (drafts.Sides count [])

-- a no: the walk, or the class that is denied, or the cut with its side
abbrev pub no_of : Asked → ℕ → Option Block
no_of Reach count =
    if count == 1 then Some (Open drafts.Denied) else if count == 2
    then Some (Open drafts.Cut) else None
no_of asked count = if count == 1 then Some (Open drafts.Walk) else None

-- a refusal: the packet with its link
abbrev pub refusal_block : Asked → ℕ → Option Block
refusal_block Reach count = if count == 1 then Some (Open drafts.Refused) else None
refusal_block asked count = None

-- what an answer with `count` lines begins, if what is asked has such an answer
abbrev pub block_of : Asked → List ℕ → ℕ → Option Block
block_of asked answer count =
    if bytes_eq answer (codes "yes") then Some (yes_of asked count)
    else if bytes_eq answer (codes "no") then no_of asked count
    else if bytes_eq answer (codes "refused") then refusal_block asked count
    else None

-- `NUMBER KIND ANSWER COUNT`
abbrev pub heading_of : List (List ℕ) → Option Heading
heading_of (first ∷ kind ∷ answer ∷ last ∷ []) = do
  number ← count_of first
  asked ← asked_of kind
  count ← count_of last
  block ← block_of asked answer count
  Some (record { number = number; asked = asked; block = block })
heading_of words = None

-- an answer of two numbers
abbrev pub answer_with : List ℕ → ℕ → ℕ → Option Answer
answer_with word number bound =
    if bytes_eq word (codes "repaired") then Some (answers.Repaired number bound)
    else if bytes_eq word (codes "budget") then Some answers.Budget
    else None

-- `repaired PRICE BOUND`, `none BOUND` or `budget LIMIT BOUND`
abbrev pub answer_shown : List (List ℕ) → Option Answer
answer_shown (first ∷ second ∷ []) = do
  bound ← count_of second
  if bytes_eq first (codes "none") then Some (answers.NoRepair bound) else None
answer_shown (first ∷ second ∷ third ∷ []) = do
  number ← count_of second
  bound ← count_of third
  answer_with first number bound
answer_shown words = None

-- `answer` and one of these
abbrev pub answer_of : List (List ℕ) → Option Answer
answer_of words = do
  rest ← after_word (codes "answer") words
  answer_shown rest
