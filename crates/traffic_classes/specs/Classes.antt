-- The traffic classes of a policy: every triple of a leaf of its sources, a leaf of its
-- destinations and a leaf of its services.
use Rattle.std.specs.Prelude.{◌≡◌, ℕ, ◌+◌, ◌-◌, ◌*◌, ◌/◌, ◌%◌, ◌^◌, ◌<◌, ◌≤◌, ◌++◌, min, nat_eq}
use Rattle.std.specs.Prelude.{List, [], ◌∷◌, length, map, if◌then◌else◌}
use Rattle.std.specs.List.{flat_map}
use Rattle.std.proofs.Common.{arith}
use Rattle.arc_base.specs.declared.limits.TheConstants.{CLASS_LIMIT}
use Rattle.arc_base.specs.declared.prefix.Prefix.{Prefix}
use Rattle.net_model.specs.declared.policies.Class.{Class}
use Rattle.net_model.specs.declared.policies.Policy.{Policy}
use Rattle.net_model.specs.declared.rows.Network.{Network}
use Rattle.net_model.specs.declared.services.Service.{Service}
use Rattle.traffic_classes.specs.declared.fault.ClassFault.{ClassFault}
use Rattle.traffic_classes.specs.declared.fault.ClassFault.TheVariants.{TooMany, Memory}
use Rattle.traffic_classes.specs.declared.marks.Marks.{Marks}
use Rattle.traffic_classes.specs.Leaves.{AreLeaves}
use Rattle.traffic_classes.specs.ServiceLeaves.{AreServiceLeaves}

-- the marks of sources: the source prefixes of all entries of bound packet lists, and of all
-- policies
abbrev pub source_marks : Network → List Policy → List Prefix
source_marks net policies =
    flat_map (λ l. map (λ e. e.from) l.entries) net.packet_lists ++ map (λ p. p.from) policies

-- the marks of destinations: the destination prefixes of all entries of bound packet lists, and of
-- all policies
abbrev pub destination_marks : Network → List Policy → List Prefix
destination_marks net policies =
    flat_map (λ l. map (λ e. e.to) l.entries) net.packet_lists ++ map (λ p. p.to) policies

-- the protocol of the service
abbrev pub protocol : ℕ → ℕ
protocol service = service / 65536

-- all services of the protocol of this one
abbrev pub whole_protocol : (service : ℕ) → service < 2 ^ 24 → Service
whole_protocol service within = record {
  low = protocol service * 65536;
  high = protocol service * 65536 + 65535;
  ordered = omega arith;
  in_range = omega (arith, within);
}

-- the marks that the range gives: itself and, for each protocol of which it has a part but not all,
-- that protocol's whole range
abbrev pub marks_of : Service → List Service
marks_of s =
    let below : s.low < 2 ^ 24 = let a : s.low ≤ s.high = s.ordered
    in let b : s.high < 2 ^ 24 = s.in_range in omega (arith, a, b) in
    s ∷ ((if nat_eq (s.low % 65536) 0 then [] else whole_protocol s.low below ∷ []) ++
    (if nat_eq (s.high % 65536) 65535 then [] else whole_protocol s.high s.in_range ∷ []))

-- the marks of services: those that the services of all entries of bound packet lists give, and of
-- all policies
abbrev pub service_marks : Network → List Policy → List Service
service_marks net policies =
    flat_map (λ l. flat_map (λ e. marks_of e.service) l.entries) net.packet_lists ++
    flat_map (λ p. marks_of p.service) policies

-- these are the marks of the network with the policies
pub record AreMarks (net : Network) (policies : List Policy) (marks : Marks) : Type 0 where
  pub sources : marks.sources.items ≡ source_marks net policies
  pub destinations : marks.destinations.items ≡ destination_marks net policies
  pub services : marks.services.items ≡ service_marks net policies

-- the classes from this source to this destination, of each of the services in order
abbrev pub classes_between : List Service → Prefix → Prefix → List Class
classes_between services source destination =
    map (λ s. record { from = source; to = destination; service = s }) services

-- the classes from this source: to each of the destinations in order, of each of the services in
-- order
abbrev pub classes_from : List Prefix → List Service → Prefix → List Class
classes_from destinations services source = flat_map (classes_between services source) destinations

-- all triples: for each source in order, the classes to each destination in order, of each service
-- in order
abbrev pub all_triples : List Prefix → List Prefix → List Service → List Class
all_triples sources destinations services = flat_map (classes_from destinations services) sources

-- the classes of the policy: all triples of the leaves of its source prefix, of its destination
-- prefix and of its services
pub record AreClasses (net : Network) (policies : List Policy) (policy : Policy)
    (classes : List Class) : Type 0 where
  pub sources : List Prefix
  pub destinations : List Prefix
  pub services : List Service
  pub sources_are : AreLeaves (source_marks net policies) policy.from sources
  pub destinations_are : AreLeaves (destination_marks net policies) policy.to destinations
  pub services_are : AreServiceLeaves (service_marks net policies) policy.service services
  pub triples : classes ≡ all_triples sources destinations services

-- the number as a fault gives it: itself, or the greatest number of 64 bits if it is above that
abbrev pub told : ℕ → ℕ
told n = min n (2 ^ 64 - 1)

-- the policy has this many classes, as a fault gives it
pub record HasClasses (net : Network) (policies : List Policy) (policy : Policy)
    (count : ℕ) : Type 0 where
  pub classes : List Class
  pub are : AreClasses net policies policy classes
  pub counted : told (length classes) ≡ count

-- a fault of too many classes names a number that the fact holds of, and that is above
-- CLASS_LIMIT
abbrev pub CountsMore : (ℕ → Type 0) → ClassFault → Type 0
CountsMore P (TooMany count) = P count × (CLASS_LIMIT < count)
CountsMore P Memory = Unit {0}
