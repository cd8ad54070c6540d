-- The order in which the reasons to refuse a network are tried.
use Rattle.std.specs.Prelude.{ℕ, List, [], ◌∷◌, ◌++◌, ◌⊎◌, Result, Ok, Err}
use Rattle.arc_base.specs.declared.limits.TheConstants.{ENTRY_LIMIT}
use Rattle.net_doc.specs.declared.fault.Refusal.{Refusal}
use Rattle.net_doc.specs.declared.fault.NetFault.{NetFault}
use Rattle.net_doc.specs.declared.fault.NetFault.TheVariants.{Refused, Memory}
use Rattle.net_model.specs.declared.policies.Document.{Document}
use Rattle.ios_config.specs.declared.settings.Config.{Config}
use Rattle.net_rules.specs.Reasons.{NoRefusal, IsEarliest}
use Rattle.net_rules.specs.Routers.{RefusesHostname, RefusesProtocol, RefusesTwoAreas}
use Rattle.net_rules.specs.Routers.{RefusesSameAs}
use Rattle.net_rules.specs.Linking.{RefusesLinkFace, RefusesDownLinks, RefusesLinkSubnets}
use Rattle.net_rules.specs.Linking.{RefusesAdjacencyForm}
use Rattle.net_rules.specs.Peers.{RefusesNeighbor, RefusesNetwork}
use Rattle.net_rules.specs.Addressing.{RefusesOverlap, RefusesEndpoint}
use Rattle.net_rules.specs.Stops.{RefusesListStopsSession}
use Rattle.net_rules.specs.Limits.{RefusesInterfaces, RefusesEntries}

-- a try: one reason to refuse the network
pub data Try : Type 0 where
  Hostname : Try
  Protocol : Try
  TwoAreas : Try
  SameAs : Try
  LinkFace : Try
  DownLinks : Try
  NeighborUnknown : Try
  NetworkNotConnected : Try
  Overlap : Try
  LinkSubnets : Try
  ListStopsSession : Try
  AdjacencyForm : Try
  Interfaces : Try
  Entries : Try
  Endpoint : Try

-- the tries of the routers
abbrev pub router_tries : List Try
router_tries = Hostname ∷ Protocol ∷ TwoAreas ∷ SameAs ∷ []

-- the tries of the links and of those that are to be down
abbrev pub end_tries : List Try
end_tries = LinkFace ∷ DownLinks ∷ []

-- the tries of the neighbours and networks that the lines of BGP name
abbrev pub session_tries : List Try
session_tries = NeighborUnknown ∷ NetworkNotConnected ∷ []

-- the tries of the links, and of the sessions over them
abbrev pub link_tries : List Try
link_tries = end_tries ++ session_tries

-- the tries of the whole network
abbrev pub network_tries : List Try
network_tries =
    Overlap ∷ LinkSubnets ∷ ListStopsSession ∷ AdjacencyForm ∷ Interfaces ∷ Entries ∷ Endpoint ∷ []

-- all tries, in their order
abbrev pub tries : List Try
tries = router_tries ++ (link_tries ++ network_tries)

-- the refusals that a try makes, where the links of these numbers are to be down and no list may
-- have more than `most_entries` entries
abbrev pub RefusesWithin : List ℕ → ℕ → Document → List Config → Try → Refusal → Type 0
RefusesWithin down most_entries doc configs Hostname = RefusesHostname configs
RefusesWithin down most_entries doc configs Protocol = RefusesProtocol configs
RefusesWithin down most_entries doc configs TwoAreas = RefusesTwoAreas configs
RefusesWithin down most_entries doc configs SameAs = RefusesSameAs configs
RefusesWithin down most_entries doc configs LinkFace = RefusesLinkFace doc configs
RefusesWithin down most_entries doc configs DownLinks = RefusesDownLinks doc down
RefusesWithin down most_entries doc configs NeighborUnknown = RefusesNeighbor doc configs
RefusesWithin down most_entries doc configs NetworkNotConnected = RefusesNetwork configs
RefusesWithin down most_entries doc configs Overlap = RefusesOverlap doc configs
RefusesWithin down most_entries doc configs LinkSubnets = RefusesLinkSubnets doc configs
RefusesWithin down most_entries doc configs ListStopsSession = RefusesListStopsSession doc configs
RefusesWithin down most_entries doc configs AdjacencyForm = RefusesAdjacencyForm doc configs
RefusesWithin down most_entries doc configs Interfaces = RefusesInterfaces configs
RefusesWithin down most_entries doc configs Entries = RefusesEntries most_entries configs
RefusesWithin down most_entries doc configs Endpoint = RefusesEndpoint doc configs

-- the refusals that a try makes, with no link to be down and at most ENTRY_LIMIT entries in a list
abbrev pub Refuses : Document → List Config → Try → Refusal → Type 0
Refuses doc configs = RefusesWithin [] ENTRY_LIMIT doc configs

-- the first refusal of some tries: the first one of the first try that makes any
abbrev pub IsFirstOf : (Try → Refusal → Type 0) → List Try → Refusal → Type 0
IsFirstOf Makes [] r = ⊥
IsFirstOf Makes (t ∷ ts) r = IsEarliest (Makes t) r ⊎ (NoRefusal (Makes t) × IsFirstOf Makes ts r)

-- none of some tries refuses anything
abbrev pub AreClear : (Try → Refusal → Type 0) → List Try → Type 0
AreClear Makes [] = Unit {0}
AreClear Makes (t ∷ ts) = NoRefusal (Makes t) × AreClear Makes ts

-- the answer of some tries: none refuses anything and the value is right, or it is the first
-- refusal, or out of memory
abbrev pub AnswersTries : {X : Type 0} → (Try → Refusal → Type 0) → List Try → (X → Type 0) →
    Result X NetFault → Type 0
AnswersTries Makes ts IsRight (Ok value) = AreClear Makes ts × IsRight value
AnswersTries Makes ts IsRight (Err (Refused r)) = IsFirstOf Makes ts r
AnswersTries Makes ts IsRight (Err Memory) = Unit {0}
