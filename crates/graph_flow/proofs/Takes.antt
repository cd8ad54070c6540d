-- Paths taken out of a flow, one after the other.
use Rattle.std.proofs.Common.{◌≡◌, ◌≢◌, ℕ, zero, suc, ◌+◌, ◌<◌, List, [], ◌∷◌, length, set, map, All, AllPairs, Contains}
use Rattle.std.proofs.Common.{inl, inr, refl, sym, ap, ◌∙◌, subst, arith, Some, None, Option, filter_map, sum_by, get_or-set_same, get_or-set_other, length-set}
use Rattle.std.proofs.lemmas.Bool.{cases_eq, cases_lt, cases_Bool}
use Rattle.std.proofs.lemmas.List.{get_or_past, set_past}
use Rattle.std.proofs.lemmas.List.Elements.{All-contains, All-cons, All-nil, All-head, All-tail, All-map, Contains-append_cases}
use Rattle.arc_base.specs.declared.place.Link.{Link}
use Rattle.graph_flow.specs.declared.arcs.Arc.{Arc}
use Rattle.graph_flow.specs.Paths.{ArcPath, Digraph, IsGraph, nodes_of, links_of, links_of_paths, IsArcPath, AreDisjointPaths}
use Rattle.arc_base.specs.Lists.{AreDistinct}
use Rattle.graph_flow.specs.Sides.{Separates}
use Rattle.graph_flow.specs.Flows.{Units, unit_at, IsFlow}
use Rattle.graph_flow.specs.Residual.{cleared}
use Rattle.graph_flow.proofs.Lists.{Contains-here, Contains-there, Contains-none, Contains-cases, AllPairs-nil, AllPairs-cons, AllPairs-head, AllPairs-tail, AllPairs-append, All-from_members}
use Rattle.graph_flow.proofs.Ways.{Path-over, head_on_way, leads, leads-start, leads-closed, way_from_leads, simple_way, Simple}
use Rattle.graph_flow.proofs.Turns.{Shifts, Shifts-same, Shifts-then, take-shifts, OnArcs, some-inj}
use Rattle.graph_flow.proofs.Sums.{leads_out}
use Rattle.graph_flow.proofs.Residuals.{filter_map-member, filter_map-from, point-more}
use Rattle.graph_flow.proofs.Cuts.{is-none, both, sum-none, leaves-not, flow_out, unit_place, place_unit, place_below}

-- the arcs that carry units
abbrev pub carried : Units → List Arc
carried units = filter_map (λ unit. unit) units

pub carried-at : (units : Units) (arc : Arc) → Contains (carried units) arc → (link : ℕ) × (unit_at units link ≡ Some arc)
carried-at units arc m =
    let from = filter_map-from (λ (unit : Option Arc). unit) units arc m in
    unit_place units arc (subst (λ (u : Option Arc). Contains units u) from.2 from.1)

pub at-carried : (units : Units) (link : ℕ) (arc : Arc) → unit_at units link ≡ Some arc → Contains (carried units) arc
at-carried units link arc e = filter_map-member (λ (unit : Option Arc). unit) units (Some arc) arc (place_unit units link arc e) refl

-- the links where units are taken away carry none, and the others what they carried
pub cleared-sub : (units : Units) (links : List Link) (link : ℕ) (arc : Arc) → unit_at (cleared units links) link ≡ Some arc → unit_at units link ≡ Some arc
cleared-sub units [] link arc e = e
cleared-sub units (k ∷ links) link arc e =
    let rest : unit_at (set units k.0 None) link ≡ Some arc = cleared-sub (set units k.0 None) links link arc e in
    elim (cases_eq k.0 link) [
      | inl same ↦ elim (cases_lt k.0 (length units)) [
        | inl l ↦ absurd (is-none arc (unit_at (set units k.0 None) link) (ap (λ (n : ℕ). unit_at (set units k.0 None) n) (sym same) ∙ get_or-set_same units k.0 None None l) rest)
        | inr past ↦ ap (λ (w : Units). unit_at w link) (sym (set_past units k.0 None past)) ∙ rest
      ]
      | inr other ↦ sym (get_or-set_other units k.0 link None None (λ f. other (sym f))) ∙ rest
    ]

set-none-same : (units : Units) (k link : ℕ) → k ≡ link → unit_at (set units k None) link ≡ None
set-none-same units k link same =
    ap (λ (n : ℕ). unit_at (set units k None) n) (sym same) ∙ (elim (cases_lt k (length units)) [
      | inl l ↦ get_or-set_same units k None None l
      | inr past ↦ ap (λ (w : Units). unit_at w k) (set_past units k None past) ∙ get_or_past units k None past
    ])

set-none : (units : Units) (k link : ℕ) → unit_at units link ≡ None → unit_at (set units k None) link ≡ None
set-none units k link e =
    elim (cases_eq k link) [
      | inl same ↦ set-none-same units k link same
      | inr other ↦ get_or-set_other units k link None None (λ f. other (sym f)) ∙ e
    ]

pub cleared-stays : (units : Units) (links : List Link) (link : ℕ) → unit_at units link ≡ None → unit_at (cleared units links) link ≡ None
cleared-stays units [] link e = e
cleared-stays units (k ∷ links) link e = cleared-stays (set units k.0 None) links link (set-none units k.0 link e)

pub cleared-none : (units : Units) (links : List Link) (k : Link) → Contains links k → unit_at (cleared units links) k.0 ≡ None
cleared-none units [] k m = absurd (Contains-none k m)
cleared-none units (j ∷ links) k m =
    elim (Contains-cases j links k m) [
      | inl e ↦ cleared-stays (set units j.0 None) links k.0 (set-none-same units j.0 k.0 (ap (λ (x : Link). x.0) e))
      | inr n ↦ cleared-none (set units j.0 None) links k n
    ]

pub length-cleared : (units : Units) (links : List Link) → length (cleared units links) ≡ length units
length-cleared units [] = refl
length-cleared units (k ∷ links) = length-cleared (set units k.0 None) links ∙ length-set units k.0 None

-- each arc of the way carries a unit, and no link comes twice
pub record IsLaden (units : Units) (way : List Arc) : Type 0 where
  pub units_on : All (λ (arc : Arc). unit_at units arc.link.0 ≡ Some arc) way
  pub apart : AllPairs (λ (a b : Arc). b.link.0 ≡ a.link.0 → ⊥) way

laden-rest : (units : Units) (arc : Arc) (way : List Arc) → IsLaden units (arc ∷ way) → IsLaden (set units arc.link.0 None) way
laden-rest units arc way laden =
    let others : All (λ (b : Arc). b.link.0 ≡ arc.link.0 → ⊥) way = AllPairs-head (λ (a b : Arc). b.link.0 ≡ a.link.0 → ⊥) arc way laden.apart in
    let rest : All (λ (b : Arc). unit_at units b.link.0 ≡ Some b) way = All-tail (λ (b : Arc). unit_at units b.link.0 ≡ Some b) arc way laden.units_on in
    record {
      units_on = All-from_members (λ (b : Arc). unit_at (set units arc.link.0 None) b.link.0 ≡ Some b) way (λ b m.
          get_or-set_other units arc.link.0 b.link.0 None None (All-contains (λ (x : Arc). x.link.0 ≡ arc.link.0 → ⊥) way b others m)
          ∙ All-contains (λ (x : Arc). unit_at units x.link.0 ≡ Some x) way b rest m);
      apart = AllPairs-tail (λ (a b : Arc). b.link.0 ≡ a.link.0 → ⊥) arc way laden.apart;
    }

-- taking the units of a way from u to v away is one unit more from v to u
pub cleared-shifts : (over : List Arc) (units : Units) (u v : ℕ) (way : List Arc) → IsLaden units way → ArcPath over u way v → Shifts units (cleared units (links_of way)) v u
cleared-shifts over units u v [] laden p = subst (λ (n : ℕ). Shifts units units n u) p (Shifts-same units u)
cleared-shifts over units u v (arc ∷ way) laden p =
    let here_on : unit_at units arc.link.0 ≡ Some arc = All-head (λ (b : Arc). unit_at units b.link.0 ≡ Some b) arc way laden.units_on in
    let first : Shifts units (set units arc.link.0 None) arc.head arc.tail = take-shifts units arc (place_below units arc.link.0 arc here_on) here_on in
    let rest : Shifts (set units arc.link.0 None) (cleared (set units arc.link.0 None) (links_of way)) v arc.head =
    cleared-shifts over (set units arc.link.0 None) arc.head v way (laden-rest units arc way laden) p.2 in
    subst (λ (n : ℕ). Shifts units (cleared units (links_of (arc ∷ way))) v n) p.1
    (Shifts-then units (set units arc.link.0 None) (cleared (set units arc.link.0 None) (links_of way)) v arc.head arc.tail first rest)

pub unit_of_carried : (arcs : List Arc) (units : Units) → OnArcs arcs units → (arc : Arc) → Contains (carried units) arc → unit_at units arc.link.0 ≡ Some arc
unit_of_carried arcs units on arc m = let at = carried-at units arc m in ap (λ (n : ℕ). unit_at units n) (on.of_link at.0 arc at.1) ∙ at.1

-- a way over arcs that carry units, which passes no node twice, is laden
pub laden : (arcs over : List Arc) (units : Units) → OnArcs arcs units → ((arc : Arc) → Contains over arc → Contains (carried units) arc) →
    (u v : ℕ) (way : List Arc) → ArcPath over u way v → AreDistinct (nodes_of u way) → IsLaden units way
laden arcs over units on sub u v [] p d = record { units_on = All-nil (λ (b : Arc). unit_at units b.link.0 ≡ Some b); apart = AllPairs-nil (λ (a b : Arc). b.link.0 ≡ a.link.0 → ⊥) }
laden arcs over units on sub u v (arc ∷ way) p d =
    let tail_d : AreDistinct (nodes_of arc.head way) = AllPairs-tail (λ x y. x ≢ y) u (nodes_of arc.head way) d in
    let rest : IsLaden units way = laden arcs over units on sub arc.head v way p.2 tail_d in
    let here_on : unit_at units arc.link.0 ≡ Some arc = unit_of_carried arcs units on arc (sub arc p.0) in
    record {
      units_on = All-cons (λ (b : Arc). unit_at units b.link.0 ≡ Some b) arc way here_on rest.units_on;
      apart = AllPairs-cons (λ (a b : Arc). b.link.0 ≡ a.link.0 → ⊥) arc way (All-from_members (λ (b : Arc). b.link.0 ≡ arc.link.0 → ⊥) way (λ b m e.
          let b_on : unit_at units b.link.0 ≡ Some b = All-contains (λ (x : Arc). unit_at units x.link.0 ≡ Some x) way b rest.units_on m in
          let same : arc ≡ b = some-inj arc b (unit_at units b.link.0) (ap (λ (n : ℕ). unit_at units n) e ∙ here_on) b_on in
          All-contains (λ (x : ℕ). arc.head ≢ x) (map (λ (x : Arc). x.head) way) b.head (AllPairs-head (λ x y. x ≢ y) arc.head (map (λ (x : Arc). x.head) way) tail_d)
          (head_on_way way b m) (ap (λ (x : Arc). x.head) same))) rest.apart;
    }

-- a flow without the units of such a way from s to t is one of a unit less
pub taken : (arcs over : List Arc) (units : Units) (s t many : ℕ) → IsFlow arcs s t (many + 1) units → (way : List Arc) → IsLaden units way → ArcPath over s way t →
    IsFlow arcs s t many (cleared units (links_of way))
taken arcs over units s t many flow way laden p =
    let shifts : Shifts units (cleared units (links_of way)) t s = cleared-shifts over units s t way laden p in
    record {
      is_arc = λ link arc e. flow.is_arc link arc (cleared-sub units (links_of way) link arc e);
      of_link = λ link arc e. flow.of_link link arc (cleared-sub units (links_of way) link arc e);
      balanced = λ node. omega (arith, shifts node, flow.balanced node, point-more many t node, point-more many s node);
    }

-- the links of a laden way differ
pub laden-different : (way : List Arc) → AllPairs (λ (a b : Arc). b.link.0 ≡ a.link.0 → ⊥) way → AreDistinct (links_of way)
laden-different [] apart = AllPairs-nil (λ (k l : Link). k ≢ l)
laden-different (arc ∷ way) apart =
    AllPairs-cons (λ (k l : Link). k ≢ l) arc.link (links_of way)
    (All-map (λ (k : Link). arc.link ≢ k) (λ (b : Arc). b.link) way
    (All-from_members (λ (b : Arc). arc.link ≢ b.link) way (λ b m e.
    All-contains (λ (x : Arc). x.link.0 ≡ arc.link.0 → ⊥) way b (AllPairs-head (λ (a b : Arc). b.link.0 ≡ a.link.0 → ⊥) arc way apart) m (ap (λ (k : Link). k.0) (sym e)))))
    (laden-different way (AllPairs-tail (λ (a b : Arc). b.link.0 ≡ a.link.0 → ⊥) arc way apart))

-- a link of a way is that of one of its arcs
pub link_of_way : (way : List Arc) (k : Link) → Contains (links_of way) k → (arc : Arc) × Contains way arc × (arc.link ≡ k)
link_of_way [] k m = absurd (Contains-none k m)
link_of_way (arc ∷ way) k m =
    elim (Contains-cases arc.link (links_of way) k m) [
      | inl e ↦ (arc, Contains-here arc way, e)
      | inr n ↦ let r = link_of_way way k n in (r.0, Contains-there arc way r.0 r.1, r.2)
    ]

-- paths that lead over links which carry units
pub record Decomposed (arcs : List Arc) (s t many : ℕ) (units : Units) : Type 0 where
  pub paths : List (List Link)
  pub right : AreDisjointPaths arcs s t many paths
  pub laden_links : (k : Link) → Contains (links_of_paths paths) k → (arc : Arc) × (unit_at units k.0 ≡ Some arc)

-- a flow that has a unit leads a way from s to t
pub way_of_flow : (g : Digraph) (s t many : ℕ) (units : Units) → IsGraph g → s < g.nodes → t < g.nodes → IsFlow g.arcs s t (many + 1) units → Simple (carried units) s t
way_of_flow g s t many units is ls lt flow =
    elim (cases_Bool (leads (carried units) s t)) [
      | inl to ↦ let w = way_from_leads (carried units) s t to in simple_way (carried units) s t w.0 w.1
      | inr cut ↦
          let sep : Separates s t (leads (carried units) s) = record { source = leads-start (carried units) s; target = cut } in
          let none : sum_by (leads_out (leads (carried units) s)) units ≡ 0 =
          sum-none (leads_out (leads (carried units) s)) refl units (λ l arc e. leaves-not (leads (carried units) s) arc (λ out.
          both (leads (carried units) s arc.head) (leads-closed (carried units) s arc (at-carried units l arc e) out.from_inside) out.to_outside)) in
          absurd (omega (arith, none, flow_out g s t (many + 1) (leads (carried units) s) units is ls lt sep flow))
    ]

pub decomposed : (g : Digraph) (s t : ℕ) → IsGraph g → s < g.nodes → t < g.nodes → (many : ℕ) (units : Units) → IsFlow g.arcs s t many units → Decomposed g.arcs s t many units
decomposed g s t is ls lt zero units flow = record {
  paths = [];
  right = record { count = refl; each = All-nil (λ path. IsArcPath g.arcs s path t); disjoint = AllPairs-nil (λ (k l : Link). k ≢ l) };
  laden_links = λ k m. absurd (Contains-none k m);
}
decomposed g s t is ls lt (suc many) units flow =
    let more : IsFlow g.arcs s t (many + 1) units = subst (λ (n : ℕ). IsFlow g.arcs s t n units) (omega arith) flow in
    let on : OnArcs g.arcs units = record { is_arc = flow.is_arc; of_link = flow.of_link } in
    let one : Simple (carried units) s t = way_of_flow g s t many units is ls lt more in
    let load : IsLaden units one.way = laden g.arcs (carried units) units on (λ arc m. m) s t one.way one.leads one.once in
    let rest : Decomposed g.arcs s t many (cleared units (links_of one.way)) =
    decomposed g s t is ls lt many (cleared units (links_of one.way)) (taken g.arcs (carried units) units s t many more one.way load one.leads) in
    record {
      paths = links_of one.way ∷ rest.paths;
      right = record {
        count = ap suc rest.right.count;
        each = All-cons (λ path. IsArcPath g.arcs s path t) (links_of one.way) rest.paths
            (record {
              way = one.way;
              of_links = refl;
              leads = Path-over (carried units) g.arcs
                  (λ arc m. let at = carried-at units arc m in on.is_arc at.0 arc at.1) s t one.way one.leads;
              once = one.once;
            })
            rest.right.each;
        disjoint = AllPairs-append (λ (k l : Link). k ≢ l) (links_of one.way) (links_of_paths rest.paths) (laden-different one.way load.apart) rest.right.disjoint
            (λ k l m n e. let later = rest.laden_links l n in is-none later.0 (unit_at (cleared units (links_of one.way)) l.0)
            (subst (λ (x : Link). unit_at (cleared units (links_of one.way)) x.0 ≡ None) e (cleared-none units (links_of one.way) k m)) later.1);
      };
      laden_links = λ k m. elim (Contains-append_cases (links_of one.way) (links_of_paths rest.paths) k m) [
        | inl a ↦ let l = link_of_way one.way k a in
            (l.0, subst (λ (x : Link). unit_at units x.0 ≡ Some l.0) l.2 (All-contains (λ (b : Arc). unit_at units b.link.0 ≡ Some b) one.way l.0 load.units_on l.1))
        | inr b ↦ let later = rest.laden_links k b in (later.0, cleared-sub units (links_of one.way) k.0 later.0 later.1)
      ];
    }
