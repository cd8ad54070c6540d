-- A graph that grows by the arcs of a network, one after the other.
use Rattle.std.proofs.Common.{◌≡◌, ℕ, ◌+◌, ◌<◌, ◌≤◌, ◌↔◌, Bool, true, false, List, [], ◌∷◌, ◌++◌, length, refl, sym, ap, ◌∙◌, subst, inl, inr, arith}
use Rattle.std.specs.Prelude.{Contains, zero, suc, slice_index_or}
use Rattle.std.proofs.lemmas.Option.{slice_get_within}
use Rattle.std.proofs.lemmas.List.Elements.{Contains-append_left, Contains-append_right, Contains-append_cases}
use Rattle.arc_base.specs.declared.place.Link.{Link}
use Rattle.arc_base.specs.declared.prefix.Prefix.{Prefix}
use Rattle.graph_flow.specs.declared.arcs.Arc as shown
use Rattle.graph_flow.specs.Paths.{Digraph, Joins, MayShare}
use Rattle.net_model.specs.declared.rows.Network.{Network}
use Rattle.net_model.specs.declared.rows.FaceRow.{FaceRow}
use Rattle.net_model.specs.declared.rows.Protocol.{Protocol}
use Rattle.net_model.specs.declared.rows.Protocol.TheVariants.{Ospf, Bgp}
use Rattle.net_model.specs.Routing.{Arc, IsArc, tail_face, head_face, cost_at}
use Rattle.net_model.specs.Validity.{IsValid}
use Rattle.net_model.proofs.Arcs.{IsArc-unique}
use Rattle.class_graph.specs.Graphs.{Shows, IsShown, IsGraphOf}
use Rattle.class_graph.specs.Building.{number, IsTaken, IsArcOver, IsNoArcOver, IsShownBelow, IsGraphBelow, cost_from}
use Rattle.class_graph.proofs.NetworkArcs.{opposite, router_within, apart_routers}
use Rattle.class_graph.proofs.Passing.{split_below}

pub cost_is : (protocol : Protocol) (arc : Arc) → cost_from protocol arc.tail ≡ cost_at protocol arc
cost_is Ospf arc = refl
cost_is Bgp arc = refl

-- arcs of the same link whose places are in this order are in this direction
directions : (l m : ℕ) (f g : Bool) → l ≡ m → number l f < number m g → (f ≡ true) × (g ≡ false)
directions l m true true same low = absurd (omega arith)
directions l m true false same low = (refl, refl)
directions l m false true same low = absurd (omega arith)
directions l m false false same low = absurd (omega arith)

-- a place is that of one link in one direction
pub one_number : (l m : ℕ) (f g : Bool) → number l f ≡ number m g → (l ≡ m) × (f ≡ g)
one_number l m true true same = (omega arith, refl)
one_number l m true false same = absurd (omega arith)
one_number l m false true same = absurd (omega arith)
one_number l m false false same = (omega arith, refl)

-- the arc of a valid network joins two nodes of a graph
pub joins_of : (net : Network) → IsValid net → (g : Digraph) → g.nodes ≡ length net.routers → (arc : Arc) → IsArc net arc → (a : shown.Arc) → Shows net arc a → Joins g.nodes a
joins_of net valid g nodes arc is a shows =
    let tail : arc.tail.router.0 < length net.routers = router_within net valid (tail_face arc).0 arc.tail is.tail in
    let head : arc.head.router.0 < length net.routers = router_within net valid (head_face arc).0 arc.head is.head in
    record {
      tail_node = omega (arith, tail, nodes, shows.tail);
      head_node = omega (arith, head, nodes, shows.head);
      apart = λ same. apart_routers net valid arc is (sym shows.tail ∙ same ∙ shows.head);
    }

-- and may stand beside the arcs whose places are below its own
pub share_of : (net : Network) (to : Prefix) (P : Arc → Type 0) (link : ℕ) (from_a : Bool) (other a : shown.Arc) →
    IsShownBelow net to P (number link from_a) other → IsArcOver net to P link from_a a → MayShare other a
share_of net to P link from_a other a below over =
    let links : other.link ≡ a.link → below.arc.link ≡ over.arc.link =
    λ same. sym below.shows.link ∙ ap (λ (l : Link). l.0) same ∙ over.shows.link in
    let ways : other.link ≡ a.link → (below.arc.from_a ≡ true) × (from_a ≡ false) =
    λ same. directions below.arc.link link below.arc.from_a from_a (links same ∙ over.taken.of_link) below.below in
    let ends : other.link ≡ a.link → (below.arc.tail ≡ over.arc.head) × (below.arc.head ≡ over.arc.tail) =
    λ same. opposite net below.arc over.arc below.is_arc over.taken.is_arc (links same) ((ways same).0) (over.taken.direction ∙ (ways same).1) in
    record {
      forth = λ same. below.shows.tail ∙ ap (λ (f : FaceRow). f.router.0) ((ends same).0) ∙ sym over.shows.head;
      back = λ same. below.shows.head ∙ ap (λ (f : FaceRow). f.router.0) ((ends same).1) ∙ sym over.shows.tail;
    }

pub same_fields : (l m : Link) (t u h k c d : ℕ) → l.0 ≡ m.0 → t ≡ u → h ≡ k → c ≡ d →
    ◌≡◌ {A = shown.Arc} (record { link = l; tail = t; head = h; cost = c }) (record { link = m; tail = u; head = k; cost = d })
same_fields l m t u h k c d link tail head price =
    let link_of : ℕ → Link = λ n. record { 0 = n } in
    let links : l ≡ m = ap link_of link in
    cc

-- one arc of the network has one arc in a graph
same_shown : (net : Network) (arc : Arc) (a b : shown.Arc) → Shows net arc a → Shows net arc b → a ≡ b
same_shown net arc a b of_a of_b =
    same_fields a.link b.link a.tail b.tail a.head b.head a.cost b.cost (of_a.link ∙ sym of_b.link) (of_a.tail ∙ sym of_b.tail) (of_a.head ∙ sym of_b.head)
    (of_a.cost_is ∙ sym of_b.cost_is)

more_below : (net : Network) (to : Prefix) (P : Arc → Type 0) (n : ℕ) (a : shown.Arc) → IsShownBelow net to P n a → IsShownBelow net to P (n + 1) a
more_below net to P n a below = record {
  arc = below.arc;
  is_arc = below.is_arc;
  routed = below.routed;
  fits = below.fits;
  shows = below.shows;
  below = omega (arith, below.below);
}

less_below : (net : Network) (to : Prefix) (P : Arc → Type 0) (n : ℕ) (a : shown.Arc) (below : IsShownBelow net to P (n + 1) a) →
    number below.arc.link below.arc.from_a < n → IsShownBelow net to P n a
less_below net to P n a below low = record {
  arc = below.arc;
  is_arc = below.is_arc;
  routed = below.routed;
  fits = below.fits;
  shows = below.shows;
  below = low;
}

below_of : (net : Network) (to : Prefix) (P : Arc → Type 0) (link : ℕ) (from_a : Bool) (a : shown.Arc) → IsArcOver net to P link from_a a →
    IsShownBelow net to P (number link from_a + 1) a
below_of net to P link from_a a over =
    let place : number over.arc.link over.arc.from_a ≡ number link from_a =
    ap (λ (l : ℕ). number l over.arc.from_a) over.taken.of_link ∙ ap (λ (f : Bool). number link f) over.taken.direction in
    record {
      arc = over.arc;
      is_arc = over.taken.is_arc;
      routed = over.taken.routed;
      fits = over.taken.fits;
      shows = over.shows;
      below = omega (arith, place);
    }

taken_at : (net : Network) (to : Prefix) (P : Arc → Type 0) (link : ℕ) (from_a : Bool) (a : shown.Arc) (n : ℕ) (below : IsShownBelow net to P n a) →
    number below.arc.link below.arc.from_a ≡ number link from_a → IsTaken net to P link from_a below.arc
taken_at net to P link from_a a n below place =
    let same = one_number below.arc.link link below.arc.from_a from_a place in
    record {
      is_arc = below.is_arc;
      routed = below.routed;
      fits = below.fits;
      of_link = same.0;
      direction = same.1;
    }

-- the arc at this place is the one over the link in the direction
only_one : (net : Network) (to : Prefix) (P : Arc → Type 0) (link : ℕ) (from_a : Bool) (a b : shown.Arc) → IsArcOver net to P link from_a a →
    (n : ℕ) (below : IsShownBelow net to P n b) → number below.arc.link below.arc.from_a ≡ number link from_a → a ≡ b
only_one net to P link from_a a b over n below place =
    let taken : IsTaken net to P link from_a below.arc = taken_at net to P link from_a b n below place in
    let same : over.arc ≡ below.arc =
    IsArc-unique net over.arc below.arc over.taken.is_arc below.is_arc (over.taken.of_link ∙ sym taken.of_link) (over.taken.direction ∙ sym taken.direction) in
    same_shown net below.arc a b (subst (λ (arc : Arc). Shows net arc a) same over.shows) below.shows

last_at : (a b : shown.Arc) (k : ℕ) → k < 1 → slice_index_or (a ∷ []) k b ≡ b → a ≡ b
last_at a b zero low same = same
last_at a b (suc k) low same = absurd (omega arith)

last_is : (a b : shown.Arc) → Contains (a ∷ []) b → a ≡ b
last_is a b here = last_at a b (here.0) (here.1) (here.2)

one_more_arc : (net : Network) (to : Prefix) (P : Arc → Type 0) (link : ℕ) (from_a : Bool) (a : shown.Arc) → IsArcOver net to P link from_a a →
    (arcs : List shown.Arc) → ((b : shown.Arc) → Contains arcs b ↔ IsShownBelow net to P (number link from_a) b) →
    (b : shown.Arc) → Contains (arcs ++ a ∷ []) b ↔ IsShownBelow net to P (number link from_a + 1) b
one_more_arc net to P link from_a a over arcs below b = (
  λ has. elim (Contains-append_cases arcs (a ∷ []) b has) [
    | inl before ↦ more_below net to P (number link from_a) b ((below b).0 before)
    | inr here ↦ subst (IsShownBelow net to P (number link from_a + 1)) (last_is a b here) (below_of net to P link from_a a over)
  ],
  λ is. elim (split_below (number is.arc.link is.arc.from_a) (number link from_a) is.below) [
    | inl low ↦ Contains-append_left arcs (a ∷ []) b ((below b).1 (less_below net to P (number link from_a) b is low))
    | inr place ↦ (
        let here : Contains (a ∷ []) a = (0, omega arith, refl) in
        Contains-append_right arcs (a ∷ []) b (subst (Contains (a ∷ [])) (only_one net to P link from_a a b over (number link from_a + 1) is place) here)
        )
  ],
)

-- one more arc
pub grown_by : (net : Network) (to : Prefix) (P : Arc → Type 0) (link : ℕ) (from_a : Bool) (a : shown.Arc) (g h : Digraph) →
    IsGraphBelow net to P (number link from_a) g → IsArcOver net to P link from_a a → h ≡ record g { arcs = g.arcs ++ a ∷ [] } →
    IsGraphBelow net to P (number link from_a + 1) h
grown_by net to P link from_a a g h is over grown = record {
  nodes = ap (λ (d : Digraph). d.nodes) grown ∙ is.nodes;
  arcs = λ b. (
      let same : h.arcs ≡ g.arcs ++ a ∷ [] = ap (λ (d : Digraph). d.arcs) grown in
      let more = one_more_arc net to P link from_a a over g.arcs is.arcs b in (
        λ has. more.0 (subst (λ (arcs : List shown.Arc). Contains arcs b) same has),
        λ below. subst (λ (arcs : List shown.Arc). Contains arcs b) (sym same) (more.1 below),
      ));
}

-- or none
pub grown_by_none : (net : Network) (to : Prefix) (P : Arc → Type 0) (link : ℕ) (from_a : Bool) (g : Digraph) →
    IsGraphBelow net to P (number link from_a) g → IsNoArcOver net to P link from_a → IsGraphBelow net to P (number link from_a + 1) g
grown_by_none net to P link from_a g is none = record {
  nodes = is.nodes;
  arcs = λ b. (
    λ has. more_below net to P (number link from_a) b ((is.arcs b).0 has),
    λ below. elim (split_below (number below.arc.link below.arc.from_a) (number link from_a) below.below) [
      | inl low ↦ (is.arcs b).1 (less_below net to P (number link from_a) b below low)
      | inr place ↦ absurd (none below.arc (taken_at net to P link from_a b (number link from_a + 1) below place))
    ],
  );
}

number_low : (link n : ℕ) (from_a : Bool) → link < n → number link from_a < number n true
number_low link n true low = omega arith
number_low link n false low = omega arith

-- the arcs over all links are all
pub all_arcs : (net : Network) (to : Prefix) (P : Arc → Type 0) (n : ℕ) (g : Digraph) → length net.links ≤ n → IsGraphBelow net to P (number n true) g → IsGraphOf net to P g
all_arcs net to P n g all is = record {
  nodes = is.nodes;
  arcs = λ a. (
    λ has. (
        let below : IsShownBelow net to P (number n true) a = (is.arcs a).0 has in
        record { arc = below.arc; is_arc = below.is_arc; routed = below.routed; fits = below.fits; shows = below.shows }),
    λ one. (is.arcs a).1 (
        let within : one.arc.link < length net.links = slice_get_within net.links one.arc.link one.arc.row one.is_arc.link in
        record {
          arc = one.arc;
          is_arc = one.is_arc;
          routed = one.routed;
          fits = one.fits;
          shows = one.shows;
          below = number_low one.arc.link n one.arc.from_a (omega arith);
        }),
  );
}

shown_as : (net : Network) (to : Prefix) (P Q : Arc → Type 0) → ((arc : Arc) → P arc → Q arc) → (a : shown.Arc) → IsShown net to P a → IsShown net to Q a
shown_as net to P Q f a one = record { arc = one.arc; is_arc = one.is_arc; routed = one.routed; fits = f one.arc one.fits; shows = one.shows }

-- a graph of one property is that of an equivalent one
pub graph_as : (net : Network) (to : Prefix) (P Q : Arc → Type 0) (g : Digraph) → ((arc : Arc) → P arc → Q arc) → ((arc : Arc) → Q arc → P arc) →
    IsGraphOf net to P g → IsGraphOf net to Q g
graph_as net to P Q g f h is = record {
  nodes = is.nodes;
  arcs = λ a. (
    λ has. shown_as net to P Q f a ((is.arcs a).0 has),
    λ one. (is.arcs a).1 (shown_as net to Q P h a one),
  );
}
