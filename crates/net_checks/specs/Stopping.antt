-- The ends of links at which a list stops the protocol, as they are found link by link.
use Rattle.std.specs.Prelude.{◌≡◌, ℕ, ◌+◌, Bool, nat_lt, ◌==◌, ◌&&◌, ◌||◌, if◌then◌else◌, Option}
use Rattle.std.specs.Prelude.{Some, None, MatchOption, List, slice_get, option_map, unwrap_or, Any}
use Rattle.arc_base.specs.declared.refusal.Kind.TheVariants as kinds
use Rattle.net_doc.specs.declared.fault.Refusal.{Refusal}
use Rattle.net_model.specs.declared.rows.FaceRow.{FaceRow}
use Rattle.net_model.specs.declared.rows.LinkRow.{LinkRow}
use Rattle.net_model.specs.declared.rows.Network.{Network}
use Rattle.net_model.specs.Routing.{IsAbleEnd, session_at, tail_end, head_end}
use Rattle.ios_config.specs.declared.settings.Config.{Config}
use Rattle.ios_config.specs.declared.settings.FaceText.{FaceText}
use Rattle.net_rules.specs.Sites.{Site, sites}
use Rattle.net_rules.specs.Reasons.{IsEarliest}
use Rattle.net_rules.specs.Stops.{StopsPackets}

-- the line that binds the inbound list of the interface, and 0 where none does
abbrev pub list_line : FaceText → ℕ
list_line face = unwrap_or (option_map (λ g. g.line) face.list_in) 0

-- the link is able, and the list at the one end stops the packets of the other, which are
-- interfaces with these rows
pub record StopsBetween (net : Network) (link : LinkRow) (from_a : Bool)
    (tail head : FaceRow) : Type 0 where
  pub at_tail : slice_get net.faces (tail_end link from_a).0 ≡ Some tail
  pub at_head : slice_get net.faces (head_end link from_a).0 ≡ Some head
  pub able_tail : IsAbleEnd net (session_at net (tail_end link from_a)) tail head
  pub able_head : IsAbleEnd net (session_at net (head_end link from_a)) head tail
  pub stops : StopsPackets net tail head

-- the refusal of the interface at this place, at the line that binds its inbound list
pub record IsRefusalAt (configs : List Config) (place : ℕ) (r : Refusal) : Type 0 where
  pub site : Site
  pub at_place : slice_get (sites configs) place ≡ Some site
  pub told : r ≡
      record { file = site.router + 1; number = list_line site.face; kind = kinds.ListStopsSession }

-- the refusal of the end of the link at which the arc in this direction ends, for such a list
pub record StopsAt (net : Network) (configs : List Config) (link : LinkRow) (from_a : Bool)
    (r : Refusal) : Type 0 where
  pub tail : FaceRow
  pub head : FaceRow
  pub between : StopsBetween net link from_a tail head
  pub refusal : IsRefusalAt configs (head_end link from_a).0 r

-- the refusals at the ends of some of these links
abbrev pub StopsAtSome : Network → List Config → List LinkRow → Refusal → Type 0
StopsAtSome net configs links r =
    Any (λ link. (from_a : Bool) × StopsAt net configs link from_a r) links

-- what was found is the first refusal that the reason makes, or it makes none
abbrev pub FindsFirst : (Refusal → Type 0) → Option Refusal → Type 0
FindsFirst Reason found = MatchOption found ((r : Refusal) → ¬ Reason r) (IsEarliest Reason)

-- the refusal comes before the other
abbrev pub is_before : Refusal → Refusal → Bool
is_before r s = nat_lt r.file s.file || (r.file == s.file && nat_lt r.number s.number)

-- the one of two refusals that comes before the other, and the first if neither does
abbrev pub earlier : Option Refusal → Option Refusal → Option Refusal
earlier None b = b
earlier (Some x) None = Some x
earlier (Some x) (Some y) = if is_before y x then Some y else Some x
