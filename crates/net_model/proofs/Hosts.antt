-- In a valid network a prefix has one host interface at most, and a class one pair of ends.
use Rattle.std.proofs.Common.{◌≡◌, ℕ, inl, inr, Option, Some, None, refl, sym, ◌∙◌, ap, subst}
use Rattle.std.specs.Prelude.{IfSome, IsSomeAnd, slice_get}
use Rattle.std.proofs.lemmas.Bool.Decides.{eqb_tells}
use Rattle.std.proofs.lemmas.Option.{same_Some}
use Rattle.arc_base.specs.Addresses.{IsInside, AreDisjoint}
use Rattle.arc_base.specs.declared.prefix.Prefix.{Prefix}
use Rattle.arc_base.proofs.Agreement.{Holds-first}
use Rattle.net_model.specs.declared.policies.Class.{Class}
use Rattle.net_model.specs.declared.rows.FaceRow.{FaceRow}
use Rattle.net_model.specs.declared.rows.Network.{Network}
use Rattle.net_model.specs.Forwarding.{Ends, AreEnds, IsHostOf, IsHostFace, HasHost, LiesInHostOf}
use Rattle.net_model.specs.Validity.{IsValid, IsValidFace, IsLinkEnd}
use Rattle.net_model.proofs.Arcs.{one_item}
use Rattle.net_model.proofs.Readings.{place_of_item, item_at_place}

-- the host network in which the prefix lies
pub some_host : (o : Option Prefix) (p : Prefix) → IsSomeAnd o (IsInside p) → (h : Prefix) × (o ≡ Some h) × IsInside p h
some_host None p lies = absurd lies
some_host (Some h) p lies = (h, refl, lies)

pub lies_in : (p : Prefix) (face : FaceRow) (h : Prefix) → face.host ≡ Some h → IsInside p h → LiesInHostOf p face
lies_in p face h host inside = subst (λ (o : Option Prefix). IsSomeAnd o (IsInside p)) (sym host) inside

-- what a host network says of its interface: it is no link's end, and the prefix lies in its subnet
record HostIn (net : Network) (place : ℕ) (face : FaceRow) (p : Prefix) : Type 0 where
  pub no_link : ¬ IsLinkEnd net place
  pub subnet : Prefix
  pub subnet_is : face.subnet ≡ Some subnet
  pub lies : IsInside p subnet

host_in : (net : Network) → IsValid net → (place : ℕ) (p : Prefix) (at : IsHostOf net p place) → HostIn net place at.face p
host_in net valid place p at =
    let h : (h : Prefix) × (at.face.host ≡ Some h) × IsInside p h = some_host at.face.host p at.lies in
    let V : IsValidFace net place at.face = valid.faces place at.face at.at_place in
    let H : Prefix → Type 0 = λ q. (¬ IsLinkEnd net place) × (subnet : Prefix) × (at.face.subnet ≡ Some subnet) × IsInside q subnet in
    let v : H h.0 = subst (λ (o : Option Prefix). IfSome o H) h.1 V.host in
    record { no_link = v.0; subnet = v.1; subnet_is = v.2; lies = λ a holds. v.3 a (h.2 a holds) }

-- the places of a prefix's host interfaces are one
pub one_host : (net : Network) → IsValid net → (p : Prefix) (i j : ℕ) → IsHostOf net p i → IsHostOf net p j → i ≡ j
one_host net valid p i j at_i at_j =
    let a : HostIn net i at_i.face p = host_in net valid i p at_i in
    let b : HostIn net j at_j.face p = host_in net valid j p at_j in
    elim (eqb_tells i j) [
      | inl same ↦ same.1
      | inr other ↦ elim (valid.subnets i j at_i.face at_j.face at_i.at_place at_j.at_place other.1) [
        | inl linked ↦ absurd (a.no_link (linked.0, linked.1, linked.2, linked.3, linked.4.0))
        | inr apart ↦
            let P : Prefix → Type 0 = λ q. IfSome at_j.face.subnet (AreDisjoint q) in
            let first : IfSome at_j.face.subnet (AreDisjoint a.subnet) = subst (λ (o : Option Prefix). IfSome o P) a.subnet_is apart in
            let disjoint : AreDisjoint a.subnet b.subnet = subst (λ (o : Option Prefix). IfSome o (AreDisjoint a.subnet)) b.subnet_is first in
            absurd (disjoint p.addr (a.lies p.addr (Holds-first p)) (b.lies p.addr (Holds-first p)))
      ]
    ]

-- a prefix that lies in a host network has a host interface, and the other way round
pub host_at : (net : Network) (p : Prefix) (place : ℕ) → IsHostOf net p place → HasHost net p
host_at net p place at = (at.face, record { is_face = item_at_place net.faces place at.face at.at_place; lies = at.lies })

-- so the host interfaces are one
pub one_host_face : (net : Network) → IsValid net → (p : Prefix) (f g : FaceRow) → IsHostFace net p f → IsHostFace net p g → f ≡ g
one_host_face net valid p f g this that =
    let i : (i : ℕ) × (slice_get net.faces i ≡ Some f) = place_of_item net.faces f this.is_face in
    let j : (j : ℕ) × (slice_get net.faces j ≡ Some g) = place_of_item net.faces g that.is_face in
    let at_i : IsHostOf net p i.0 = record { face = f; at_place = i.1; lies = this.lies } in
    let at_j : IsHostOf net p j.0 = record { face = g; at_place = j.1; lies = that.lies } in
    let same : i.0 ≡ j.0 = one_host net valid p i.0 j.0 at_i at_j in
    one_item net.faces j.0 f g (subst (λ (k : ℕ). slice_get net.faces k ≡ Some f) same i.1) j.1

-- the ends of a class are the host interfaces of its prefixes
pub source_face : (net : Network) (class : Class) (ends : Ends) → AreEnds net class ends → IsHostFace net class.from ends.source
source_face net class ends are = record { is_face = are.source; lies = are.from }

pub target_face : (net : Network) (class : Class) (ends : Ends) → AreEnds net class ends → IsHostFace net class.to ends.target
target_face net class ends are = record { is_face = are.target; lies = lies_in class.to ends.target ends.to are.host are.to }

same_ends : (s u t v : FaceRow) (h k : Prefix) → s ≡ u → t ≡ v → h ≡ k →
    ◌≡◌ {A = Ends} (record { source = s; target = t; to = h }) (record { source = u; target = v; to = k })
same_ends s u t v h k a b c = cc

pub one_pair_of_ends : (net : Network) → IsValid net → (class : Class) (a b : Ends) → AreEnds net class a → AreEnds net class b → a ≡ b
one_pair_of_ends net valid class a b at_a at_b =
    let source : a.source ≡ b.source = one_host_face net valid class.from a.source b.source (source_face net class a at_a) (source_face net class b at_b) in
    let target : a.target ≡ b.target = one_host_face net valid class.to a.target b.target (target_face net class a at_a) (target_face net class b at_b) in
    let to : a.to ≡ b.to = same_Some a.to b.to (sym at_a.host ∙ ap (λ (f : FaceRow). f.host) target ∙ at_b.host) in
    same_ends a.source b.source a.target b.target a.to b.to source target to
