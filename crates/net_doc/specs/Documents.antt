-- Which document a text is: JSON (RFC 8259), an object whose members have these forms.
use Rattle.std.specs.Prelude.{◌≡◌, ◌≢◌, ◌⊎◌, ℕ, ◌==◌, ◌+◌, ◌≤◌, ◌&&◌, ◌||◌, nat_le, nat_lt, Bool}
use Rattle.std.specs.Prelude.{true, false, not, List, [], ◌∷◌, length, codes, bytes_eq, Option}
use Rattle.std.specs.Prelude.{Some, None, option_map, option_and_then, if◌then◌else◌, Result, Ok}
use Rattle.std.specs.Prelude.{Err, All, AllPairs}
use Rattle.std.specs.List.{list_any}
use Rattle.std.specs.Option.{option_or}
use Rattle.std.specs.Str.{is_utf8}
use Rattle.arc_base.specs.declared.limits.TheConstants.{ROUTER_LIMIT, LINK_LIMIT, POLICY_LIMIT}
use Rattle.arc_base.specs.declared.limits.TheConstants.{FAILURE_LIMIT, WEIGHT_LIMIT}
use Rattle.arc_base.specs.declared.limits.TheConstants.{FILE_NAME_LIMIT}
use Rattle.serde_json.specs.Data.{Data}
use Rattle.serde_json.specs.Find.{get, as_bool, as_number, as_u64, as_str}
use Rattle.serde_json.specs.Read.{read}
use Rattle.arc_base.specs.declared.refusal.Kind.{Kind}
use Rattle.arc_base.specs.declared.refusal.Kind.TheVariants.{DocumentForm, Limit}
use Rattle.arc_base.specs.declared.refusal.LimitKind.{LimitKind}
use Rattle.arc_base.specs.declared.refusal.LimitKind.TheVariants.{Routers, Links, Policies}
use Rattle.arc_base.specs.declared.refusal.LimitKind.TheVariants.{Failures}
use Rattle.arc_base.specs.Cuts.{cut_at}
use Rattle.arc_base.specs.PrefixText.{prefix_of}
use Rattle.arc_base.specs.Options.{◌>>=◌}
use Rattle.net_model.specs.declared.policies.LinkText.{LinkText}
use Rattle.net_model.specs.declared.policies.PolicyKind.{PolicyKind}
use Rattle.net_model.specs.declared.policies.PolicyKind.TheVariants.{Blocked, Through, Reach}
use Rattle.net_model.specs.declared.policies.Policy.{Policy}
use Rattle.net_model.specs.declared.policies.Weights.{Weights}
use Rattle.net_model.specs.declared.policies.Document.{Document}
use Rattle.net_model.specs.Services.{whole_service}
use Rattle.net_model.specs.Policies.{HasFewFailures}
use Rattle.net_doc.specs.declared.fault.Refusal.{Refusal}
use Rattle.net_doc.specs.declared.fault.NetFault.{NetFault}
use Rattle.net_doc.specs.declared.fault.NetFault.TheVariants.{Refused, Memory}
use Rattle.net_doc.specs.Services.{policy_services}
use Rattle.net_doc.specs.Members.{has_only, number_under, text_under, list_under, all_of}
use Rattle.net_doc.specs.Members.{or_default}

-- which members a document, a link, a policy and weights have
abbrev pub document_members : List (List ℕ)
document_members =
    codes "version" ∷ codes "routers" ∷ codes "links" ∷ codes "policies" ∷ codes "weights" ∷ []

abbrev pub link_members : List (List ℕ)
link_members = codes "a" ∷ codes "b" ∷ codes "waypoint" ∷ []

-- a policy has the number of failures exactly where it asks that packets reach their destination
abbrev pub kind_members : PolicyKind → List (List ℕ)
kind_members Blocked = codes "kind" ∷ codes "from" ∷ codes "to" ∷ []
kind_members Through = codes "kind" ∷ codes "from" ∷ codes "to" ∷ []
kind_members (Reach failures) = codes "kind" ∷ codes "from" ∷ codes "to" ∷ codes "failures" ∷ []

-- and in version 2 it may have a protocol and a port
abbrev pub policy_members : ℕ → PolicyKind → List (List ℕ)
policy_members version kind =
    if version == 2 then codes "proto" ∷ codes "port" ∷ kind_members kind else kind_members kind

abbrev pub weight_members : List (List ℕ)
weight_members = codes "list" ∷ codes "filter" ∷ codes "session" ∷ []

-- the value, where the test holds
abbrev pub where_true : {T : Type 0} → Bool → T → Option T
where_true test value = if test then Some value else None

-- a router's file: a text of 1 to FILE_NAME_LIMIT bytes
abbrev pub router_of : Data → Option (List ℕ)
router_of d = do
  name ← as_str d
  where_true (nat_le 1 (length name) && nat_le (length name) FILE_NAME_LIMIT) name

-- no text occurs twice
abbrev pub are_different : List (List ℕ) → Bool
are_different [] = true
are_different (name ∷ names) = not (list_any (bytes_eq name) names) && are_different names

-- the routers' files: at least one, and none twice
abbrev pub data_routers : Data → Option (List (List ℕ))
data_routers d = do
  items ← list_under (codes "routers") d
  names ← all_of router_of items
  where_true (nat_le 1 (length names) && are_different names) names

-- a link's end: the text before the first colon names the router, and that after it the interface
abbrev pub data_end : List ℕ → Option (List ℕ × List ℕ)
data_end text = cut_at 58 text

-- whether a link is a waypoint: by default it is not
abbrev pub waypoint_of : Data → Option Bool
waypoint_of d = or_default false as_bool (get (codes "waypoint") d)

-- a link: its two ends, and whether it is a waypoint
abbrev pub data_link : Data → Option LinkText
data_link d = do
  a_text ← text_under (codes "a") d
  a ← data_end a_text
  b_text ← text_under (codes "b") d
  b ← data_end b_text
  waypoint ← waypoint_of d
  where_true (has_only link_members d)
      (record { a_router = a.0; a_face = a.1; b_router = b.0; b_face = b.1; waypoint = waypoint })

-- the links
abbrev pub data_links : Data → Option (List LinkText)
data_links d = option_and_then (all_of data_link) (list_under (codes "links") d)

-- what a policy asks, by the text of its kind and the number of failures, if it has one
abbrev pub policy_kind : List ℕ → Option ℕ → Option PolicyKind
policy_kind text failures =
    if bytes_eq text (codes "blocked") then Some Blocked
    else if bytes_eq text (codes "through") then Some Through
    else if bytes_eq text (codes "reach") then option_map Reach failures
    else None

-- a policy in a document of this version: what it asks of the packets from one prefix to another,
-- of some services
abbrev pub policy_of : ℕ → Data → Option Policy
policy_of version d = do
  kind_text ← text_under (codes "kind") d
  kind ← policy_kind kind_text (number_under (codes "failures") d)
  from_text ← text_under (codes "from") d
  from ← prefix_of from_text
  to_text ← text_under (codes "to") d
  to ← prefix_of to_text
  service ← policy_services d
  where_true (has_only (policy_members version kind) d)
      (record { kind = kind; from = from; to = to; service = service })

-- the policies
abbrev pub policies_of : ℕ → Data → Option (List Policy)
policies_of version d =
    option_and_then (all_of (policy_of version)) (list_under (codes "policies") d)

-- a weight is from 1 to WEIGHT_LIMIT
abbrev pub weight_from : Data → Option ℕ
weight_from d = do
  weight ← option_and_then as_u64 (as_number d)
  where_true (nat_le 1 weight && nat_le weight WEIGHT_LIMIT) weight

-- the weight under the name, by default 1
abbrev pub weight_under : List ℕ → Data → Option ℕ
weight_under name d = or_default 1 weight_from (get name d)

-- what edits cost
abbrev pub weights_from : Data → Option Weights
weights_from d = do
  list ← weight_under (codes "list") d
  filter ← weight_under (codes "filter") d
  session ← weight_under (codes "session") d
  where_true (has_only weight_members d)
      (record { list = list; filter = filter; session = session })

-- by default each edit costs 1
abbrev pub unit_weights : Weights
unit_weights = record { list = 1; filter = 1; session = 1 }

abbrev pub weights_of : Data → Option Weights
weights_of d = or_default unit_weights weights_from (get (codes "weights") d)

-- the version, which is 1 or 2
abbrev pub version_of : Data → Option ℕ
version_of d = do
  version ← number_under (codes "version") d
  where_true (version == 1 || version == 2) version

-- the document that the JSON value is: its version, routers, links and policies
abbrev pub document_from : Data → Option Document
document_from d = do
  version ← version_of d
  routers ← data_routers d
  links ← data_links d
  policies ← policies_of version d
  weights ← weights_of d
  where_true (has_only document_members d)
      (record { routers = routers; links = links; policies = policies; weights = weights })

-- the document that the bytes are: JSON in UTF-8, in which the last of several members of one name
-- counts
abbrev pub document_of : List ℕ → Option Document
document_of bytes = option_and_then document_from (if is_utf8 bytes then read bytes else None)

-- how bytes are refused that are no document
abbrev pub form_refusal : Refusal
form_refusal = record { file = 0; number = 0; kind = DocumentForm }

-- a count that passes its limit is refused with the limit's name and the count
abbrev pub over : LimitKind → ℕ → ℕ → ℕ → Option Refusal
over what limit number count =
    if nat_lt limit count
    then Some (record { file = 0; number = number; kind = Limit what count }) else None

-- a policy allows at most FAILURE_LIMIT failures
abbrev pub failures_refusal : ℕ → PolicyKind → Option Refusal
failures_refusal number Blocked = None
failures_refusal number Through = None
failures_refusal number (Reach failures) = over Failures FAILURE_LIMIT number failures

-- the first of the policies, counted from this number on, that allows more
abbrev pub policies_refusal : ℕ → List Policy → Option Refusal
policies_refusal number [] = None
policies_refusal number (policy ∷ policies) =
    option_or (failures_refusal number policy.kind) (policies_refusal (number + 1) policies)

-- the first count of the document that passes its limit: routers, links, policies, or the failures
-- of a policy
unfoldable pub limit_refusal : Document → Option Refusal
limit_refusal doc =
    option_or (over Routers ROUTER_LIMIT 0 (length doc.routers))
    (option_or (over Links LINK_LIMIT 0 (length doc.links))
    (option_or (over Policies POLICY_LIMIT 0 (length doc.policies))
    (policies_refusal 1 doc.policies)))

-- what reading gives: the document that the bytes are, within the limits, or the first refusal
abbrev pub within_limits : Document → Option Refusal → Result Document Refusal
within_limits doc None = Ok doc
within_limits doc (Some refusal) = Err refusal

abbrev pub limited : Option Document → Result Document Refusal
limited None = Err form_refusal
limited (Some doc) = within_limits doc (limit_refusal doc)

abbrev pub reading : List ℕ → Result Document Refusal
reading bytes = limited (document_of bytes)

-- the answer is what reading the bytes gives, or out of memory
abbrev pub ReadsDocument : List ℕ → Result Document NetFault → Type 0
ReadsDocument bytes (Ok doc) = reading bytes ≡ Ok doc
ReadsDocument bytes (Err (Refused refusal)) = reading bytes ≡ Err refusal
ReadsDocument bytes (Err Memory) = Unit {0}

-- a name of a file has 1 to FILE_NAME_LIMIT bytes
pub record IsFileName (name : List ℕ) : Type 0 where
  pub some : 1 ≤ length name
  pub few : length name ≤ FILE_NAME_LIMIT

-- a weight is from 1 to WEIGHT_LIMIT
pub record IsWeight (weight : ℕ) : Type 0 where
  pub low : 1 ≤ weight
  pub high : weight ≤ WEIGHT_LIMIT

-- what holds of every document that is read
pub record IsWellFormed (doc : Document) : Type 0 where
  pub some_router : 1 ≤ length doc.routers
  pub names : All IsFileName doc.routers
  pub routers_differ : AllPairs (λ r s. r ≢ s) doc.routers
  pub few_routers : length doc.routers ≤ ROUTER_LIMIT
  pub few_links : length doc.links ≤ LINK_LIMIT
  pub few_policies : length doc.policies ≤ POLICY_LIMIT
  pub few_failures : All (λ policy. HasFewFailures policy.kind) doc.policies
  pub list : IsWeight doc.weights.list
  pub filter : IsWeight doc.weights.filter
  pub session : IsWeight doc.weights.session

-- a policy of version 1 is about all services
abbrev pub OldPoliciesAreWhole : Type 0
OldPoliciesAreWhole =
    (d : Data) (policy : Policy) → policy_of 1 d ≡ Some policy → policy.service ≡ whole_service

-- a text is refused for its form, or for a count that passes its limit
abbrev pub IsFormOrLimit : Kind → Type 0
IsFormOrLimit kind =
    (kind ≡ DocumentForm) ⊎ ((what : LimitKind) × (count : ℕ) × (kind ≡ Limit what count))
