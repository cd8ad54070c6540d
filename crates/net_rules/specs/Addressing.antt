-- What is asked of addresses: subnets that do not overlap, and policies between host networks. One
-- definition for each reason.
use Rattle.std.specs.Prelude.{◌≡◌, ◌≢◌, ℕ, ◌+◌, ◌<◌, Some, List, slice_get, IsSomeAnd}
use Rattle.arc_base.specs.declared.refusal.Kind.TheVariants as kinds
use Rattle.arc_base.specs.declared.prefix.Prefix.{Prefix}
use Rattle.net_doc.specs.declared.fault.Refusal.{Refusal}
use Rattle.net_model.specs.declared.policies.Document.{Document}
use Rattle.net_model.specs.declared.rows.FaceRow.{FaceRow}
use Rattle.net_model.specs.declared.rows.Network.{Network}
use Rattle.net_model.specs.Validity.{AreLinked, AreApart}
use Rattle.net_model.specs.Forwarding.{IsHostOf}
use Rattle.ios_config.specs.declared.settings.Config.{Config}
use Rattle.net_rules.specs.Sites.{Site, sites}
use Rattle.net_rules.specs.Rows.{AreRows}
use Rattle.net_rules.specs.Reasons.{InDocument}

-- two interfaces have a connected address in common, and are not the two ends of one link
pub record Overlap (net : Network) (i j : ℕ) : Type 0 where
  pub f : FaceRow
  pub g : FaceRow
  pub at_i : slice_get net.faces i ≡ Some f
  pub at_j : slice_get net.faces j ≡ Some g
  pub not_linked : ¬ AreLinked net i j
  pub not_apart : ¬ AreApart f g

-- the interface at this place overlaps one before it
abbrev pub OverlapsEarlier : Network → ℕ → Type 0
OverlapsEarlier net place = (earlier : ℕ) × (earlier < place) × Overlap net earlier place

-- the first interface that overlaps one before it, at the line that gives its address
pub record RefusesOverlap (doc : Document) (configs : List Config) (r : Refusal) : Type 0 where
  pub net : Network
  pub rows : AreRows doc configs net
  pub place : ℕ
  pub overlaps : OverlapsEarlier net place
  pub none_before : (k : ℕ) → k < place → ¬ OverlapsEarlier net k
  pub site : Site
  pub at_place : slice_get (sites configs) place ≡ Some site
  pub line : ℕ
  pub gives : IsSomeAnd site.face.addr (λ g. g.line ≡ line)
  pub told : r ≡ record { file = site.router + 1; number = line; kind = kinds.Overlap }

-- the two prefixes lie in two different host networks
pub record HasEndpoints (net : Network) (origin destination : Prefix) : Type 0 where
  pub source : ℕ
  pub target : ℕ
  pub from : IsHostOf net origin source
  pub to : IsHostOf net destination target
  pub apart : source ≢ target

-- a policy whose prefixes do not
pub record RefusesEndpoint (doc : Document) (configs : List Config) (r : Refusal) : Type 0 where
  pub net : Network
  pub rows : AreRows doc configs net
  pub refuses : InDocument kinds.Endpoint
      (λ place policy. ¬ HasEndpoints net policy.from policy.to) doc.policies r
