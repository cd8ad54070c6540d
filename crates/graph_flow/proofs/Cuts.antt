-- Flows against the links that leave a side: no flow has more units than these, and a flow that cannot grow has as many.
use Rattle.std.proofs.Common.{◌≡◌, ℕ, zero, suc, ◌+◌, ◌<◌, ◌≤◌, Bool, true, false, not, ◌&&◌, IsTrue, List, [], ◌∷◌, length, get_or}
use Rattle.std.proofs.Common.{set, All, AllPairs, Contains, inl, inr, refl, sym, ap, ◌∙◌, subst, arith, Some, None, Option, sum_by, get_or-set_same, get_or-set_other}
use Rattle.std.specs.Prelude.{if◌then◌else◌}
use Rattle.std.specs.List.{cons_option}
use Rattle.std.proofs.lemmas.Bool.{cases_eq, cases_lt, cases_Bool, false≢true, and_parts, and_from, not-true}
use Rattle.std.proofs.lemmas.List.{get_or_past, get_or_default}
use Rattle.std.proofs.lemmas.List.Sums.{sum_by-cons, get_or-le-sum_by}
use Rattle.std.proofs.lemmas.List.Elements.{All-contains}
use Rattle.arc_base.specs.declared.place.Link.{Link}
use Rattle.graph_flow.specs.declared.arcs.Arc.{Arc}
use Rattle.graph_flow.specs.Paths.{Leads, Digraph, IsGraph, Joins, MayShare}
use Rattle.graph_flow.specs.Sides.{Separates, LeadsOut, IsLeftOver, AreLeftOver, IsLeastSide}
use Rattle.graph_flow.specs.Flows.{Units, unit_at, IsFlow, IsGreatest, out_link, links_out}
use Rattle.graph_flow.specs.Residual.{reversed, residual}
use Rattle.graph_flow.proofs.Lists.{Contains-none, Contains-cases, AllPairs-nil, AllPairs-cons, AllPairs-members, All-from_members}
use Rattle.graph_flow.proofs.Ways.{stays_inside}
use Rattle.graph_flow.proofs.Turns.{OnArcs, sum-entry}
use Rattle.graph_flow.proofs.Sums.{ind, leads_out, leads_in, out_of_side}
use Rattle.graph_flow.proofs.Residuals.{none_or_some, Source, residual-source, residual-free, residual-back, filter_map-member, filter_map-from, same_link}

leaves-test : (side : ℕ → Bool) (arc : Arc) → (side arc.tail && not (side arc.head)) ≡ true → LeadsOut side arc
leaves-test side arc e =
    let both = and_parts (side arc.tail) (not (side arc.head)) e in
    record { from_inside = both.0; to_outside = not-true (side arc.head) both.1 }

pub leaves-not : (side : ℕ → Bool) (arc : Arc) → (LeadsOut side arc → ⊥) → leads_out side (Some arc) ≡ 0
leaves-not side arc never =
    elim (cases_Bool (side arc.tail && not (side arc.head))) [
      | inl t ↦ absurd (never (leaves-test side arc t))
      | inr f ↦ ap ind f
    ]

ind-le : (b : Bool) → ind b ≤ 1
ind-le true = omega arith
ind-le false = omega arith

leads_out-le : (side : ℕ → Bool) (unit : Option Arc) → leads_out side unit ≤ 1
leads_out-le side None = omega arith
leads_out-le side (Some arc) = ind-le (side arc.tail && not (side arc.head))

-- a sum is 0 where no unit counts
pub sum-none : (f : Option Arc → ℕ) → f None ≡ 0 → (units : Units) → ((link : ℕ) (arc : Arc) → unit_at units link ≡ Some arc → f (Some arc) ≡ 0) → sum_by f units ≡ 0
sum-none f n [] h = refl
sum-none f n (unit ∷ units) h =
    let first : f unit ≡ 0 = elim (none_or_some unit) [
      | inl e ↦ ap f e ∙ n
      | inr (arc, e) ↦ ap f e ∙ h zero arc e
    ] in
    omega (arith, first, sum-none f n units (λ l arc e. h (suc l) arc e), sum_by-cons f unit units)

pub is-none : (arc : Arc) (o : Option Arc) → o ≡ None → o ≡ Some arc → ⊥
is-none arc o e f = cc

-- every unit that leads out of the set goes over a link of the list
abbrev pub Covers : (ℕ → Bool) → List Link → Units → Type 0
Covers side links units = (link : ℕ) (arc : Arc) → unit_at units link ≡ Some arc → LeadsOut side arc → (k : Link) × Contains links k × (k.0 ≡ link)

covered-rest : (side : ℕ → Bool) (k : Link) (links : List Link) (units : Units) → Covers side (k ∷ links) units → k.0 < length units → Covers side links (set units k.0 None)
covered-rest side k links units h inside l arc e out =
    elim (cases_eq k.0 l) [
      | inl same ↦ absurd (is-none arc (unit_at (set units k.0 None) l) (ap (λ (n : ℕ). unit_at (set units k.0 None) n) (sym same) ∙ get_or-set_same units k.0 None None inside) e)
      | inr other ↦
          let found = h l arc (sym (get_or-set_other units k.0 l None None (λ f. other (sym f))) ∙ e) out in
          elim (Contains-cases k links found.0 found.1) [
            | inl same ↦ absurd (other (ap (λ (x : Link). x.0) same ∙ found.2))
            | inr in_rest ↦ (found.0, in_rest, found.2)
          ]
    ]

covered-skip : (side : ℕ → Bool) (k : Link) (links : List Link) (units : Units) → Covers side (k ∷ links) units →
    ((arc : Arc) → unit_at units k.0 ≡ Some arc → LeadsOut side arc → ⊥) → Covers side links units
covered-skip side k links units h never l arc e out =
    let found = h l arc e out in elim (Contains-cases k links found.0 found.1) [
      | inl same ↦ absurd (never arc (ap (λ (n : ℕ). unit_at units n) (ap (λ (x : Link). x.0) same ∙ found.2) ∙ e) out)
      | inr in_rest ↦ (found.0, in_rest, found.2)
    ]

-- the units that lead out of a set are no more than the links of a list that holds theirs
pub covered : (side : ℕ → Bool) (links : List Link) (units : Units) →
    Covers side links units → sum_by (leads_out side) units ≤ length links
covered side [] units h =
    let none : sum_by (leads_out side) units ≡ 0 =
    sum-none (leads_out side) refl units (λ l arc e. leaves-not side arc (λ out. let k = h l arc e out in Contains-none k.0 k.1)) in omega (arith, none)
covered side (k ∷ links) units h =
    elim (cases_lt k.0 (length units)) [
      | inl inside ↦
          let entry : sum_by (leads_out side) (set units k.0 None) + leads_out side (unit_at units k.0) ≡ sum_by (leads_out side) units + 0 =
          sum-entry (leads_out side) units k.0 (unit_at units k.0) None inside refl in
          let rest : sum_by (leads_out side) (set units k.0 None) ≤ length links =
          covered side links (set units k.0 None) (covered-rest side k links units h inside) in
          omega (arith, entry, rest, leads_out-le side (unit_at units k.0))
      | inr past ↦
          let rest : sum_by (leads_out side) units ≤ length links =
          covered side links units (covered-skip side k links units h (λ arc e out. is-none arc (unit_at units k.0) (get_or_past units k.0 None past) e)) in
          omega (arith, rest)
    ]

-- and fewer where one of the links carries no unit out
pub covered-less : (side : ℕ → Bool) (links : List Link) (units : Units) (k : Link) → Contains links k → ((arc : Arc) → unit_at units k.0 ≡ Some arc → LeadsOut side arc → ⊥) →
    Covers side links units → sum_by (leads_out side) units + 1 ≤ length links
covered-less side [] units k m never h = absurd (Contains-none k m)
covered-less side (j ∷ links) units k m never h =
    elim (Contains-cases j links k m) [
      | inl same ↦
          let rest : sum_by (leads_out side) units ≤ length links =
          covered side links units (covered-skip side j links units h (λ arc e out. never arc (ap (λ (x : Link). unit_at units x.0) (sym same) ∙ e) out)) in
          omega (arith, rest)
      | inr n ↦ elim (cases_lt j.0 (length units)) [
        | inl inside ↦
            let entry : sum_by (leads_out side) (set units j.0 None) + leads_out side (unit_at units j.0) ≡ sum_by (leads_out side) units + 0 =
            sum-entry (leads_out side) units j.0 (unit_at units j.0) None inside refl in
            let rest : sum_by (leads_out side) (set units j.0 None) + 1 ≤ length links =
            covered-less side links (set units j.0 None) k n (λ arc e out. elim (cases_eq j.0 k.0) [
              | inl same ↦ is-none arc (unit_at (set units j.0 None) k.0) (ap (λ (n : ℕ). unit_at (set units j.0 None) n) (sym same) ∙ get_or-set_same units j.0 None None inside) e
              | inr other ↦ never arc (sym (get_or-set_other units j.0 k.0 None None (λ f. other (sym f))) ∙ e) out
            ]) (covered-rest side j links units h inside) in
            omega (arith, entry, rest, leads_out-le side (unit_at units j.0))
        | inr past ↦
            let rest : sum_by (leads_out side) units + 1 ≤ length links =
            covered-less side links units k n never (covered-skip side j links units h (λ arc e out. is-none arc (unit_at units j.0) (get_or_past units j.0 None past) e)) in
            omega (arith, rest)
      ]
    ]

-- the ends of a flow's arcs are nodes
pub ends_below : (g : Digraph) (units : Units) → IsGraph g → OnArcs g.arcs units → (link : ℕ) (arc : Arc) → unit_at units link ≡ Some arc → (arc.tail < g.nodes) × (arc.head < g.nodes)
ends_below g units is on link arc e =
    let joins : Joins g.nodes arc = All-contains (Joins g.nodes) g.arcs arc is.joined (on.is_arc link arc e) in (joins.tail_node, joins.head_node)

-- what leads out of a side is what leads into it and the value of the flow
pub flow_out : (g : Digraph) (s t many : ℕ) (side : ℕ → Bool) (units : Units) → IsGraph g → s < g.nodes → t < g.nodes → Separates s t side → IsFlow g.arcs s t many units →
    sum_by (leads_out side) units ≡ sum_by (leads_in side) units + many
flow_out g s t many side units is ls lt sep flow =
    out_of_side g.nodes s t many side units ls lt sep (ends_below g units is (record { is_arc = flow.is_arc; of_link = flow.of_link })) flow.balanced

cover_of : (arcs : List Arc) (side : ℕ → Bool) (links : List Link) (units : Units) → OnArcs arcs units → AreLeftOver arcs side links → Covers side links units
cover_of arcs side links units on left l arc e out = (arc.link, left.each arc (on.is_arc l arc e) out, on.of_link l arc e)

-- a flow has no more units than links leave a side
pub bounded : (g : Digraph) (s t many : ℕ) (side : ℕ → Bool) (links : List Link) (units : Units) → IsGraph g → s < g.nodes → t < g.nodes → Separates s t side → AreLeftOver g.arcs side links →
    IsFlow g.arcs s t many units → many ≤ length links
bounded g s t many side links units is ls lt sep left flow =
    let on : OnArcs g.arcs units = record { is_arc = flow.is_arc; of_link = flow.of_link } in
    omega (arith, flow_out g s t many side units is ls lt sep flow, covered side links units (cover_of g.arcs side links units on left))

pub greatest : (g : Digraph) (s t many : ℕ) (side : ℕ → Bool) (links : List Link) → IsGraph g → s < g.nodes → t < g.nodes → Separates s t side → AreLeftOver g.arcs side links →
    length links ≡ many → IsGreatest g.arcs s t many
greatest g s t many side links is ls lt sep left e units more flow =
    subst (λ (n : ℕ). more ≤ n) e (bounded g s t more side links units is ls lt sep left flow)

-- a set that no residual arc leaves
abbrev pub Closed : List Arc → Units → (ℕ → Bool) → Type 0
Closed arcs units side = (arc : Arc) → Contains (residual units arcs) arc → IsTrue (side arc.tail) → IsTrue (side arc.head)

pub both : (b : Bool) → b ≡ true → b ≡ false → ⊥
both b e f = false≢true (sym f ∙ e)

-- no unit leads into it
pub none_in : (arcs : List Arc) (units : Units) (side : ℕ → Bool) → OnArcs arcs units → Closed arcs units side → (link : ℕ) (used : Arc) → unit_at units link ≡ Some used →
    IsTrue (side used.head) → IsTrue (side used.tail)
none_in arcs units side on closed link used e h = closed (reversed used) (residual-back arcs units link used on e) h

-- and each arc that leads out of it carries a unit
pub all_out : (g : Digraph) (units : Units) (side : ℕ → Bool) → IsGraph g → OnArcs g.arcs units → Closed g.arcs units side → (arc : Arc) → Contains g.arcs arc → LeadsOut side arc →
    unit_at units arc.link.0 ≡ Some arc
all_out g units side is on closed arc m out =
    elim (none_or_some (unit_at units arc.link.0)) [
      | inl none ↦ absurd (both (side arc.head) (closed arc (residual-free g.arcs units arc m none) out.from_inside) out.to_outside)
      | inr (used, e) ↦
          let links : used.link ≡ arc.link = same_link used.link arc.link (on.of_link arc.link.0 used e) in
          let back = none_in g.arcs units side on closed arc.link.0 used e in
          elim (AllPairs-members MayShare g.arcs used arc is.opposite (on.is_arc arc.link.0 used e) m) [
            | inl same ↦ e ∙ ap Some same
            | inr pair ↦ elim pair [
              | inl share ↦ absurd (both (side arc.head)
                  (subst (λ (n : ℕ). side n ≡ true) (share.forth links) (back (subst (λ (n : ℕ). side n ≡ true) (sym (share.back links)) out.from_inside))) out.to_outside)
              | inr share ↦ absurd (both (side arc.head)
                  (subst (λ (n : ℕ). side n ≡ true) (sym (share.back (sym links))) (back (subst (λ (n : ℕ). side n ≡ true) (share.forth (sym links)) out.from_inside))) out.to_outside)
            ]
          ]
    ]

some-link : (k l : Link) → Some k ≡ Some l → k ≡ l
some-link k l e = cc

none-link : (k : Link) → None ≡ Some k → ⊥
none-link k e = cc

link_is : (b : Bool) (k l : Link) → (if b then Some k else None) ≡ Some l → (b ≡ true) × (k ≡ l)
link_is true k l e = (refl, some-link k l e)
link_is false k l e = absurd (none-link l e)

out_link-is : (side : ℕ → Bool) (unit : Option Arc) (k : Link) → out_link side unit ≡ Some k → (arc : Arc) × (unit ≡ Some arc) × LeadsOut side arc × (arc.link ≡ k)
out_link-is side None k e = absurd (none-link k e)
out_link-is side (Some arc) k e = let both = link_is (side arc.tail && not (side arc.head)) arc.link k e in (arc, refl, leaves-test side arc both.0, both.1)

out_link-leaves : (side : ℕ → Bool) (arc : Arc) → LeadsOut side arc → out_link side (Some arc) ≡ Some arc.link
out_link-leaves side arc l = ap (λ b. if b then Some arc.link else None) (and_from (side arc.tail) (not (side arc.head)) l.from_inside (ap not l.to_outside))

length-one : (b : Bool) (k : Link) (ks : List Link) → length (cons_option (if b then Some k else None) ks) ≡ ind b + length ks
length-one true k ks = omega arith
length-one false k ks = omega arith

length-out : (side : ℕ → Bool) (unit : Option Arc) (ks : List Link) → length (cons_option (out_link side unit) ks) ≡ leads_out side unit + length ks
length-out side None ks = omega arith
length-out side (Some arc) ks = length-one (side arc.tail && not (side arc.head)) arc.link ks

pub length-links_out : (side : ℕ → Bool) (units : Units) → length (links_out units side) ≡ sum_by (leads_out side) units
length-links_out side [] = refl
length-links_out side (unit ∷ units) = omega (arith, length-out side unit (links_out units side), length-links_out side units, sum_by-cons (leads_out side) unit units)

-- a unit that stands in the table stands there at some link
pub unit_place : (units : Units) (arc : Arc) → Contains units (Some arc) → (link : ℕ) × (unit_at units link ≡ Some arc)
unit_place units arc (k, l, e) = (k, get_or_default units k None (Some arc) l ∙ e)

pub place_unit : (units : Units) (link : ℕ) (arc : Arc) → unit_at units link ≡ Some arc → Contains units (Some arc)
place_unit units link arc e =
    elim (cases_lt link (length units)) [
      | inl l ↦ (link, l, get_or_default units link (Some arc) None l ∙ e)
      | inr past ↦ absurd (is-none arc (unit_at units link) (get_or_past units link None past) e)
    ]

-- the links rise with their places
abbrev Placed : ℕ → Units → Type 0
Placed first units = (link : ℕ) (arc : Arc) → unit_at units link ≡ Some arc → arc.link.0 ≡ first + link

cut_at-least : (side : ℕ → Bool) (first : ℕ) (units : Units) → Placed first units → All (λ (k : Link). first ≤ k.0) (links_out units side)
cut_at-least side first units placed =
    All-from_members (λ (k : Link). first ≤ k.0) (links_out units side) (λ k m.
    let from = filter_map-from (out_link side) units k m in
    let is = out_link-is side from.0 k from.2 in
    let at = unit_place units is.0 (subst (λ (u : Option Arc). Contains units u) is.1 from.1) in
    let number : (is.0).link.0 ≡ first + at.0 = placed at.0 is.0 at.1 in
    omega (arith, number, ap (λ (x : Link). x.0) is.3))

cut-rises : (side : ℕ → Bool) (first : ℕ) (units : Units) → Placed first units → AllPairs (λ (k l : Link). k.0 < l.0) (links_out units side)
cut-rises side first [] placed = AllPairs-nil (λ (k l : Link). k.0 < l.0)
cut-rises side first (unit ∷ units) placed =
    let shifted : Placed (suc first) units = λ link arc e. placed (suc link) arc e ∙ (omega arith) in
    let rest = cut-rises side (suc first) units shifted in
    elim (none_or_some (out_link side unit)) [
      | inl none ↦ subst (λ (o : Option Link). AllPairs (λ (k l : Link). k.0 < l.0) (cons_option o (links_out units side))) (sym none) rest
      | inr (k, e) ↦
          let is = out_link-is side unit k e in
          let number : k.0 ≡ first = sym (ap (λ (x : Link). x.0) is.3) ∙ placed zero is.0 is.1 ∙ (omega arith) in
          subst (λ (o : Option Link). AllPairs (λ (k l : Link). k.0 < l.0) (cons_option o (links_out units side))) (sym e)
          (AllPairs-cons (λ (k l : Link). k.0 < l.0) k (links_out units side)
          (λ i d l. let low : suc first ≤ (get_or (links_out units side) i d).0 = cut_at-least side (suc first) units shifted i d l in omega (arith, low, number)) rest)
    ]

-- the links of the units that lead out of a set that no residual arc leaves are all that leave it
pub cut-left_over : (g : Digraph) (units : Units) (side : ℕ → Bool) → IsGraph g → OnArcs g.arcs units → Closed g.arcs units side → AreLeftOver g.arcs side (links_out units side)
cut-left_over g units side is on closed = record {
  only = All-from_members (IsLeftOver g.arcs side) (links_out units side) (λ k m.
      let from = filter_map-from (out_link side) units k m in
      let out = out_link-is side from.0 k from.2 in
      let at = unit_place units out.0 (subst (λ (u : Option Arc). Contains units u) out.1 from.1) in
      record { arc = out.0; is_arc = on.is_arc at.0 out.0 at.1; leaves = out.2; of_link = out.3 });
  each = λ arc m out. filter_map-member (out_link side) units (Some arc) arc.link (place_unit units arc.link.0 arc (all_out g units side is on closed arc m out)) (out_link-leaves side arc out);
  rising = cut-rises side 0 units (λ link arc e. on.of_link link arc e ∙ (omega arith));
}

leads_in-one : (side : ℕ → Bool) (arc : Arc) → side arc.head ≡ true → side arc.tail ≡ false → leads_in side (Some arc) ≡ 1
leads_in-one side arc h t = ap ind (and_from (side arc.head) (not (side arc.tail)) h (ap not t))

leads_in-none : (side : ℕ → Bool) (arc : Arc) → (side arc.head ≡ true → side arc.tail ≡ true) → leads_in side (Some arc) ≡ 0
leads_in-none side arc h =
    elim (cases_Bool (side arc.head && not (side arc.tail))) [
      | inl t ↦ let parts = and_parts (side arc.head) (not (side arc.tail)) t in absurd (both (side arc.tail) (h parts.0) (not-true (side arc.tail) parts.1))
      | inr f ↦ ap ind f
    ]

-- as many units lead out of it as the flow has
pub cut-length : (g : Digraph) (s t many : ℕ) (side : ℕ → Bool) (units : Units) → IsGraph g → s < g.nodes → t < g.nodes → Separates s t side → IsFlow g.arcs s t many units → Closed g.arcs units side →
    length (links_out units side) ≡ many
cut-length g s t many side units is ls lt sep flow closed =
    let on : OnArcs g.arcs units = record { is_arc = flow.is_arc; of_link = flow.of_link } in
    let none : sum_by (leads_in side) units ≡ 0 = sum-none (leads_in side) refl units (λ l arc e. leads_in-none side arc (none_in g.arcs units side on closed l arc e)) in
    omega (arith, none, flow_out g s t many side units is ls lt sep flow, length-links_out side units)

pub place_below : (units : Units) (link : ℕ) (arc : Arc) → unit_at units link ≡ Some arc → link < length units
place_below units link arc e =
    elim (cases_lt link (length units)) [
      | inl l ↦ l
      | inr past ↦ absurd (is-none arc (unit_at units link) (get_or_past units link None past) e)
    ]

-- a residual arc does not lead out of a side that is left by as few links as the flow has units
other-closed : (g : Digraph) (s t many : ℕ) (side : ℕ → Bool) (links : List Link) (units : Units) → IsGraph g → s < g.nodes → t < g.nodes → Separates s t side → IsFlow g.arcs s t many units →
    AreLeftOver g.arcs side links → length links ≤ many → Closed g.arcs units side
other-closed g s t many side links units is ls lt sep flow left few arc m inside =
    let on : OnArcs g.arcs units = record { is_arc = flow.is_arc; of_link = flow.of_link } in
    let out : sum_by (leads_out side) units ≡ sum_by (leads_in side) units + many = flow_out g s t many side units is ls lt sep flow in
    let cover : Covers side links units = cover_of g.arcs side links units on left in
    let from : Source g.arcs units arc = residual-source g.arcs units arc m in
    elim (cases_Bool (side arc.head)) [
      | inl t ↦ t
      | inr outside ↦ elim from.how [
        | inl free ↦
            let base_out : LeadsOut side from.base = subst (λ (x : Arc). LeadsOut side x) (sym free.1) (record { from_inside = inside; to_outside = outside }) in
            let less : sum_by (leads_out side) units + 1 ≤ length links =
            covered-less side links units from.base.link (left.each from.base from.is_base base_out) (λ b e _. is-none b (unit_at units from.base.link.0) free.0 e) cover in
            absurd (omega (arith, out, less, few))
        | inr (used, e, same, turned_is) ↦
            let h : side used.head ≡ true = subst (λ (x : Arc). side x.tail ≡ true) (sym turned_is) inside in
            let t : side used.tail ≡ false = subst (λ (x : Arc). side x.head ≡ false) (sym turned_is) outside in
            let one : leads_in side (Some used) ≡ 1 = leads_in-one side used h t in
            let place : from.base.link.0 < length units = place_below units from.base.link.0 used e in
            let some : leads_in side (unit_at units from.base.link.0) ≤ sum_by (leads_in side) units = get_or-le-sum_by (leads_in side) units from.base.link.0 None place in
            let is_one : leads_in side (unit_at units from.base.link.0) ≡ 1 = ap (leads_in side) e ∙ one in
            absurd (omega (arith, out, some, is_one, few, covered side links units cover))
      ]
    ]

-- where the residual network leads from s to the nodes of a side and no further, this is the least side
pub least_side : (g : Digraph) (s t many : ℕ) (side : ℕ → Bool) (units : Units) → IsGraph g → s < g.nodes → t < g.nodes → Separates s t side → IsFlow g.arcs s t many units → Closed g.arcs units side →
    ((node : ℕ) → IsTrue (side node) → Leads (residual units g.arcs) s node) → IsLeastSide g.arcs s t side (links_out units side)
least_side g s t many side units is ls lt sep flow closed reach =
    let on : OnArcs g.arcs units = record { is_arc = flow.is_arc; of_link = flow.of_link } in
    let size : length (links_out units side) ≡ many = cut-length g s t many side units is ls lt sep flow closed in
    record {
      separates = sep;
      left_over = cut-left_over g units side is on closed;
      fewest = λ other others sep' left. let many_at_most : many ≤ length others = bounded g s t many other others units is ls lt sep' left flow in omega (arith, many_at_most, size);
      least = λ other others sep' left few node on_side.
          let way = reach node on_side in
          let small : length others ≤ many = omega (arith, few, size) in
          stays_inside (residual units g.arcs) (λ n. IsTrue (other n)) (other-closed g s t many other others units is ls lt sep' flow left small) s node way.0 way.1 sep'.source;
    }

same_flag : (a b : Bool) → (IsTrue a → IsTrue b) → (IsTrue b → IsTrue a) → a ≡ b
same_flag true b there back = sym (there refl)
same_flag false true there back = back refl
same_flag false false there back = refl

-- two least sides hold the same nodes, since neither is left by fewer links
pub one_least_side : (arcs : List Arc) (s t : ℕ) (side other : ℕ → Bool) (links others : List Link) → IsLeastSide arcs s t side links → IsLeastSide arcs s t other others →
    (node : ℕ) → side node ≡ other node
one_least_side arcs s t side other links others one two node =
    same_flag (side node) (other node)
    (one.least other others two.separates two.left_over (two.fewest side links one.separates one.left_over) node)
    (two.least side links one.separates one.left_over (one.fewest other others two.separates two.left_over) node)
