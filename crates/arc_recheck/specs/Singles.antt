-- Links that a reach policy hangs on: it fails once one of them fails alone.
use Rattle.std.specs.Prelude.{◌≡◌, ◌<◌, ◌≤◌, ◌↔◌, ℕ, Bool, true, false, Option, MatchOption, List}
use Rattle.std.specs.Prelude.{length, map, Contains}
use Rattle.std.specs.List.Sorted.{IsStrictlyIncreasing}
use Rattle.arc_base.specs.declared.limits.TheConstants.{CLASS_LIMIT}
use Rattle.arc_base.specs.declared.place.Link.{Link}
use Rattle.net_model.specs.declared.policies.Policy.{Policy}
use Rattle.net_model.specs.declared.policies.PolicyKind.{PolicyKind}
use Rattle.net_model.specs.declared.policies.PolicyKind.TheVariants.{Reach}
use Rattle.net_model.specs.declared.rows.Network.{Network}
use Rattle.net_model.specs.declared.verdicts.Verdict.{Verdict}
use Rattle.net_model.specs.declared.verdicts.Verdict.TheVariants.{Paths, Cut}
use Rattle.net_model.specs.Packets.{subject}
use Rattle.net_model.specs.Forwarding.{Ends, AreEnds}
use Rattle.net_model.specs.Policies.{IsClear, Reaches}
use Rattle.traffic_classes.specs.Classes.{HasClasses}
use Rattle.net_laws.specs.Breaking.{ReachesUnder}
use Rattle.net_laws.specs.Routes.{just}

-- a reach policy that is clear, and that holds with all links up
pub record HoldsAllUp (net : Network) (policy : Policy) (ends : Ends) : Type 0 where
  pub are_ends : AreEnds net (subject policy) ends
  pub failures : ℕ
  pub reach : policy.kind ≡ Reach failures
  pub clear : IsClear net ends (subject policy)
  pub holds : Reaches net ends (subject policy) 0

-- the link is one of the network, and its failure alone keeps some of the policy's packets from
-- their target
pub record IsAlone (net : Network) (policy : Policy) (ends : Ends) (link : Link) : Type 0 where
  pub of_network : link.0 < length net.links
  pub breaks : ¬ ReachesUnder net ends (subject policy) (just link)

-- the links, in rising order, are exactly those that are alone
pub record AreAlone (net : Network) (policy : Policy) (ends : Ends)
    (links : List Link) : Type 0 where
  pub rising : IsStrictlyIncreasing (map (λ l. l.0) links)
  pub exact : (link : Link) → Contains links link ↔ IsAlone net policy ends link

-- the policy is a clear reach policy that holds with all links up, and these are the links that are
-- alone
pub record HoldsBut (net : Network) (policy : Policy) (links : List Link) : Type 0 where
  pub ends : Ends
  pub holds : HoldsAllUp net policy ends
  pub alone : AreAlone net policy ends links

-- the policy is no such policy
abbrev pub HoldsNot : Network → Policy → Type 0
HoldsNot net policy = (ends : Ends) → ¬ HoldsAllUp net policy ends

-- the answer for the policy: its links that are alone, or none where it is no clear reach policy
-- that holds with all links up
abbrev pub IsAloneAnswer : Network → Policy → Option (List Link) → Type 0
IsAloneAnswer net policy found = MatchOption found (HoldsNot net policy) (HoldsBut net policy)

-- the policy has at most CLASS_LIMIT classes
pub record PolicyHasFewClasses (net : Network) (policies : List Policy)
    (policy : Policy) : Type 0 where
  pub count : ℕ
  pub classes : HasClasses net policies policy count
  pub few : count ≤ CLASS_LIMIT

-- whether the kind is reach
abbrev pub is_reach : PolicyKind → Bool
is_reach (Reach k) = true
is_reach _ = false

-- whether the verdict shows paths or a cut, so that the policy is clear
abbrev pub shows_routes : Verdict → Bool
shows_routes (Paths paths) = true
shows_routes (Cut links side) = true
shows_routes _ = false
