-- The sessions that are made router by router, over one end of a link after another.
use Rattle.std.specs.Prelude.{◌≡◌, ℕ, ◌+◌, ◌*◌, ◌<◌, ◌⊎◌, ◌↔◌, Bool, true, false, Some, List, []}
use Rattle.std.specs.Prelude.{◌∷◌, ◌++◌, slice_get, AllPairs, Contains, map}
use Rattle.arc_base.specs.declared.place.Face.{Face}
use Rattle.net_model.specs.declared.policies.Document.{Document}
use Rattle.net_model.specs.declared.rows.FaceRow.{FaceRow}
use Rattle.net_model.specs.declared.rows.SessionRow.{SessionRow}
use Rattle.net_model.specs.declared.rows.LinkRow.{LinkRow}
use Rattle.net_model.specs.declared.rows.Network.{Network}
use Rattle.ios_config.specs.declared.settings.Config.{Config}
use Rattle.arc_base.specs.Lists.{AreDistinct}
use Rattle.net_rules.specs.Lists.{route_list_key}
use Rattle.net_rules.specs.Reasons.{NoRefusal}
use Rattle.net_rules.specs.Linking.{RefusesLinkFace}
use Rattle.net_rules.specs.Rows.{AreBaseRows, IsConfigured, IsSessionOf, IsSessionBefore}

-- the router of this file has the session over a link that leads from the one interface, which is
-- its own, to the other
pub record IsSessionOver (faces : List FaceRow) (lists : List (ℕ × List ℕ)) (router : ℕ)
    (config : Config) (near far : Face) (session : SessionRow) : Type 0 where
  pub near_row : FaceRow
  pub at_near : slice_get faces near.0 ≡ Some near_row
  pub own : near_row.router.0 ≡ router
  pub far_row : FaceRow
  pub at_far : slice_get faces far.0 ≡ Some far_row
  pub face : session.face ≡ near
  pub peer : far_row.addr ≡ Some session.peer
  pub configured : IsConfigured lists router config session

-- the one item with the property was added, or nothing where there is none
abbrev pub AddsOne : {X : Type 0} → (X → Type 0) → List X → List X → Type 0
AddsOne {X} P old new = ((new ≡ old) × ((x : X) → ¬ P x)) ⊎ ((x : X) × P x × (new ≡ old ++ x ∷ []))

-- the network has the rows of these files, each of the document's links joins interfaces that are
-- free, and its route lists have these routers and names
pub record AreFilesOf (configs : List Config) (net : Network)
    (lists : List (ℕ × List ℕ)) : Type 0 where
  pub doc : Document
  pub free : NoRefusal (RefusesLinkFace doc configs)
  pub base : AreBaseRows doc configs net
  pub keys : lists ≡ map route_list_key net.route_lists
  pub distinct : AreDistinct lists

-- the place of an end among the ends of all links, the a end of a link before its b end
abbrev pub end_place : ℕ → Bool → ℕ
end_place link true = 2 * link
end_place link false = 2 * link + 1

-- the session is that of an earlier router, or of this one over one of its first `ends` ends of
-- links
pub record IsSessionTo (configs : List Config) (links : List LinkRow) (lists : List (ℕ × List ℕ))
    (router ends : ℕ) (session : SessionRow) : Type 0 where
  pub link : ℕ
  pub from_a : Bool
  pub session_of : IsSessionOf configs links lists link from_a session
  pub done : (session_of.near.router < router) ⊎
      ((session_of.near.router ≡ router) × (end_place link from_a < ends))

-- these are all such sessions, in order
pub record AreSessionsTo (configs : List Config) (links : List LinkRow) (lists : List (ℕ × List ℕ))
    (router ends : ℕ) (sessions : List SessionRow) : Type 0 where
  pub order : AllPairs (IsSessionBefore configs links lists) sessions
  pub just : (session : SessionRow) →
      Contains sessions session ↔ IsSessionTo configs links lists router ends session

-- the sessions of the router were added, over all ends of links
abbrev pub AddsSessions : Network → List (ℕ × List ℕ) → ℕ → Config → List SessionRow →
    List SessionRow → Type 0
AddsSessions net lists router config old new =
    (configs : List Config) → AreFilesOf configs net lists →
    slice_get configs router ≡ Some config → AreSessionsTo configs net.links lists router 0 old →
    AreSessionsTo configs net.links lists (router + 1) 0 new
