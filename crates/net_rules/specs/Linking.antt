-- What is asked of the document's links: interfaces that are there and free, and ends that fit. One
-- definition for each reason.
use Rattle.std.specs.Prelude.{◌≡◌, ◌≢◌, ℕ, ◌⊎◌, true, false, Option, Some, None, IfSome, IsSomeAnd}
use Rattle.std.specs.Prelude.{option_map, Bool, List, length, take, slice_get, Contains, nat_lt}
use Rattle.std.specs.List.{filter_map, find, last_or}
use Rattle.arc_base.specs.declared.refusal.Kind.TheVariants as kinds
use Rattle.net_doc.specs.declared.fault.Refusal.{Refusal}
use Rattle.net_model.specs.declared.policies.Document.{Document}
use Rattle.net_model.specs.declared.policies.LinkText.{LinkText}
use Rattle.net_model.specs.declared.rows.FaceRow.{FaceRow}
use Rattle.net_model.specs.declared.rows.LinkRow.{LinkRow}
use Rattle.net_model.specs.declared.rows.Network.{Network}
use Rattle.ios_words.specs.declared.commands.Command.{Command}
use Rattle.ios_words.specs.declared.commands.Command.TheVariants as commands
use Rattle.ios_config.specs.declared.settings.Given.{Given}
use Rattle.ios_config.specs.declared.settings.Config.{Config}
use Rattle.net_rules.specs.Kinds.{face_kind, is_loopback}
use Rattle.net_rules.specs.Settings.{lines_of, is_point_to_point}
use Rattle.net_rules.specs.Sites.{FullName, sites, full_names, a_end, b_end, ends_of}
use Rattle.net_rules.specs.Routers.{Repeats}
use Rattle.net_rules.specs.Rows.{AreRows}
use Rattle.net_rules.specs.Reasons.{InFiles, InDocument}

-- the link joins two interfaces of these names, neither a loopback, of two different routers
pub record JoinsNamed (names : List FullName) (link : LinkText) : Type 0 where
  pub a : Contains names (a_end link)
  pub b : Contains names (b_end link)
  pub a_kind : is_loopback (face_kind link.a_face) ≡ false
  pub b_kind : is_loopback (face_kind link.b_face) ≡ false
  pub routers : link.a_router ≢ link.b_router

-- the link joins two such interfaces, and none of the links before it uses one of them
pub record JoinsFree (names : List FullName) (earlier : List LinkText)
    (link : LinkText) : Type 0 where
  pub joins : JoinsNamed names link
  pub a_free : ¬ Contains (ends_of earlier) (a_end link)
  pub b_free : ¬ Contains (ends_of earlier) (b_end link)

-- a link that does not
abbrev pub RefusesLinkFace : Document → List Config → Refusal → Type 0
RefusesLinkFace doc configs =
    InDocument kinds.LinkFace
    (λ place link. ¬ JoinsFree (full_names configs) (take place doc.links) link) doc.links

-- the first of the numbers that is above the number of links
abbrev pub first_above : ℕ → List ℕ → Option ℕ
first_above links numbers = find (λ n. nat_lt links n) numbers

-- links that are to be down are given by their numbers, counted from 1: the first number that is
-- none of the document's links
pub record RefusesDownLinks (doc : Document) (down : List ℕ) (r : Refusal) : Type 0 where
  pub number : ℕ
  pub above : first_above (length doc.links) down ≡ Some number
  pub told : r ≡ record { file = 0; number = number; kind = kinds.LinkFace }

-- two interfaces have different addresses in one subnet, where both have one
abbrev pub HaveOneSubnet : FaceRow → FaceRow → Type 0
HaveOneSubnet f g = IfSome f.addr (λ x. IfSome g.addr (λ y. (x ≢ y) × (f.subnet ≡ g.subnet)))

-- this holds of the link's two ends
abbrev pub FitsSubnets : Network → LinkRow → Type 0
FitsSubnets net link =
    (f g : FaceRow) → slice_get net.faces link.a.0 ≡ Some f →
    slice_get net.faces link.b.0 ≡ Some g → HaveOneSubnet f g

-- a link of which it does not hold
pub record RefusesLinkSubnets (doc : Document) (configs : List Config) (r : Refusal) : Type 0 where
  pub net : Network
  pub rows : AreRows doc configs net
  pub refuses : InDocument kinds.LinkSubnets (λ place link. ¬ FitsSubnets net link) net.links r

-- the interface at this place has this OSPF network type
abbrev pub HasTypeAt : List Config → ℕ → Bool → Type 0
HasTypeAt configs place point =
    IsSomeAnd (slice_get (sites configs) place) (λ site. is_point_to_point site.face ≡ point)

-- the two ends of the link have different OSPF network types
abbrev pub TypesDiffer : List Config → LinkRow → Type 0
TypesDiffer configs link =
    (HasTypeAt configs link.a.0 true × HasTypeAt configs link.b.0 false)
    ⊎ (HasTypeAt configs link.a.0 false × HasTypeAt configs link.b.0 true)

-- a link of which this holds
pub record RefusesTypes (doc : Document) (configs : List Config) (r : Refusal) : Type 0 where
  pub net : Network
  pub rows : AreRows doc configs net
  pub refuses : InDocument kinds.AdjacencyForm (λ place link. TypesDiffer configs link) net.links r

-- the router id that the command sets
abbrev pub says_router_id : Command → Option ℕ
says_router_id (commands.RouterId id) = Some id
says_router_id other = None

-- the router id that a line of the file sets, with that line
abbrev pub router_id_line : Given Command → Option (Given ℕ)
router_id_line g = option_map (λ id. record { value = id; line = g.line }) (says_router_id g.value)

-- the router id of the file's process, with the last line that sets it
abbrev pub router_id_of : Config → Option (Given ℕ)
router_id_of config = last_or None (filter_map router_id_line (lines_of config))

-- a link whose ends have different types, or a router id that repeats
abbrev pub RefusesAdjacencyForm : Document → List Config → Refusal → Type 0
RefusesAdjacencyForm doc configs r =
    RefusesTypes doc configs r ⊎
    InFiles kinds.AdjacencyForm (Repeats router_id_of configs) configs r
