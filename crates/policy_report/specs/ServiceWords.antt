-- How services are written and read. A service is written as its protocol and its port with a dot
-- between them, a range of services as its first and its last with a dash between them, and
-- `service:` comes before either. Numbers have no zero before another digit. All services, and the
-- service 0 of a packet, are written as no word.
use Rattle.std.specs.Prelude.{◌≡◌, ◌≢◌, ℕ, ◌+◌, ◌*◌, ◌/◌, ◌%◌, ◌^◌, ◌<◌, ◌==◌, ◌&&◌, ◌↔◌, nat_lt}
use Rattle.std.specs.Prelude.{nat_le, Bool, true, false, if◌then◌else◌, List, [], ◌∷◌, ◌++◌, codes}
use Rattle.std.specs.Prelude.{decimal, bytes_eq, Option, Some, None, refl}
use Rattle.std.proofs.lemmas.Bool.{and_parts, leb-true, ltb-true}
use Rattle.arc_base.specs.Cuts.{cut_at}
use Rattle.arc_base.specs.PrefixText.{number_of}
use Rattle.net_model.specs.declared.services.Service.{Service}
use Rattle.net_model.specs.Services.{is_service_inside, whole_service}
use Rattle.arc_base.specs.NameForms.{IsName}
use Rattle.arc_base.specs.Options.{◌>>=◌}

-- how a service is written: its protocol, a dot and its port
abbrev pub service_text : ℕ → List ℕ
service_text service = decimal (service / 65536) ++ codes "." ++ decimal (service % 65536)

-- the word of a service
abbrev pub service_word : ℕ → List ℕ
service_word service = codes "service:" ++ service_text service

-- the word of a range of services
abbrev pub range_word : Service → List ℕ
range_word s = codes "service:" ++ service_text s.low ++ codes "-" ++ service_text s.high

-- whether the range has each service
abbrev pub is_whole : Service → Bool
is_whole s = is_service_inside whole_service s

-- the words for a class's services: none where these are all
abbrev pub range_words : Service → List (List ℕ)
range_words s = if is_whole s then [] else range_word s ∷ []

-- the words for a packet's service: none where this is 0
abbrev pub service_words : ℕ → List (List ℕ)
service_words service = if service == 0 then [] else service_word service ∷ []

-- the service that is written so, where there is one: its protocol is at most 255, its port at most
-- 65535
abbrev pub service_of : List ℕ → Option ℕ
service_of text = do
  parts ← cut_at 46 text
  protocol ← number_of parts.0
  port ← number_of parts.1
  if nat_le protocol 255 && nat_le port 65535 then Some (protocol * 65536 + port) else None

-- the range from the one service to the other, where the test of them comes out true
abbrev pub range_if : (low high : ℕ) (test : Bool) →
    (nat_le low high && nat_lt high 16777216) ≡ test → Option Service
range_if low high false e = None
range_if low high true e =
    let (ordered, in_range) = and_parts _ _ e in Some (record
    { low = low; high = high; ordered = leb-true _ _ ordered; in_range = ltb-true _ _ in_range })

-- the range from the one service to the other, where there is one
abbrev pub range_from : ℕ → ℕ → Option Service
range_from low high = range_if low high (nat_le low high && nat_lt high 16777216) refl

-- what a word says after `service:`
abbrev pub after_colon : List ℕ → Option (List ℕ)
after_colon word = do
  parts ← cut_at 58 word
  if bytes_eq parts.0 (codes "service") then Some parts.1 else None

-- the service of a packet that the word names, where it names one other than 0
abbrev pub service_named : List ℕ → Option ℕ
service_named word = do
  text ← after_colon word
  service ← service_of text
  if service == 0 then None else Some service

-- the services of a class that the word names, where it names a range other than that of all
abbrev pub range_named : List ℕ → Option Service
range_named word = do
  text ← after_colon word
  ends ← cut_at 45 text
  low ← service_of ends.0
  high ← service_of ends.1
  range ← range_from low high
  if is_whole range then None else Some range

-- a word names a service exactly where it is that service's word, and none names the service 0
abbrev pub ServiceWordsAreExact : Type 0
ServiceWordsAreExact =
    (word : List ℕ) (service : ℕ) →
    (service_named word ≡ Some service) ↔
    ((word ≡ service_word service) × (service < 2 ^ 24) × (service ≢ 0))

-- a word names a range of services exactly where it is that range's word, and none names all
abbrev pub RangeWordsAreExact : Type 0
RangeWordsAreExact = (word : List ℕ) (s : Service) →
    (range_named word ≡ Some s) ↔ ((word ≡ range_word s) × (s ≢ whole_service))

-- a router's name names no services
abbrev pub NamesAreNoServices : Type 0
NamesAreNoServices = (name : List ℕ) → IsName name →
    (range_named name ≡ None) × (service_named name ≡ None)
