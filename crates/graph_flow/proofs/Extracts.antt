-- How a path of units is found and taken out of a flow, and what is then left.
use Rattle.std.proofs.Common.{◌≡◌, ◌≢◌, ℕ, zero, suc, ◌+◌, ◌-◌, ◌<◌, ◌≤◌, Bool, true, false, not, ◌&&◌, ◌||◌, is_some, List, [], ◌∷◌, ◌++◌}
use Rattle.std.proofs.Common.{length, get_or, set, take, drop, All, Contains, inl, inr, refl, sym, ap, ◌∙◌, subst, arith, Some, None, Option, filter_map, sum_by}
use Rattle.std.specs.Prelude.{◌==◌, if◌then◌else◌}
use Rattle.std.specs.List.{cons_option}
use Rattle.std.proofs.lemmas.Bool.{cases_lt, cases_Bool, eq-eqb, eqb-true, ne_eqb, false≢true, not-false, or_cases}
use Rattle.std.proofs.lemmas.List.{set_past, take_more, get_or-take, take-append-drop, length-take, length-append, append-nil}
use Rattle.std.proofs.lemmas.List.Sums.{sum_by-cons, get_or-le-sum_by}
use Rattle.std.proofs.lemmas.List.Concat.{flat_map-append}
use Rattle.std.proofs.lemmas.List.Quantifiers.{all_pairs_push}
use Rattle.std.proofs.lemmas.List.Elements.{All-contains, All-push, All-weaker, filter_map-append, Contains-append_cases}
use Rattle.arc_base.specs.declared.place.Link.{Link}
use Rattle.graph_flow.specs.declared.arcs.Arc.{Arc}
use Rattle.graph_flow.specs.Paths.{ArcPath, Leads, Digraph, IsGraph, MayShare, nodes_of, links_of, links_of_paths, IsArcPath, AreDisjointPaths}
use Rattle.arc_base.specs.Lists.{AreDistinct}
use Rattle.graph_flow.specs.Sides.{Separates}
use Rattle.graph_flow.specs.Flows.{Units, unit_at, unit_from, unit_to, leaving, entering, IsFlow}
use Rattle.graph_flow.specs.Answers.{first_link, AreInLinkOrder}
use Rattle.graph_flow.specs.Residual.{may_pass, passed_by, passable, leaving_arc, cleared, TakesPath}
use Rattle.graph_flow.proofs.Lists.{Contains-here, AllPairs-append, All-from_members}
use Rattle.graph_flow.proofs.Ways.{Path-over, Path-members, leads, leads-start, leads-closed, way_from_leads}
use Rattle.graph_flow.proofs.Turns.{OnArcs, sum-entry}
use Rattle.graph_flow.proofs.Sums.{ind, leads_out}
use Rattle.graph_flow.proofs.Residuals.{none_or_some, filter_map-member, filter_map-from}
use Rattle.graph_flow.proofs.Cuts.{is-none, both, sum-none, leaves-not, flow_out, unit_place, place_unit, place_below}
use Rattle.graph_flow.proofs.Takes.{carried, at-carried, cleared-sub, cleared-stays, cleared-none, length-cleared, IsLaden, laden, taken, laden-different, link_of_way}
use Rattle.graph_flow.proofs.Grows.{none-enters, value-leaves}

-- a filter that maps, over one item more
single : {Y : Type 0} (o : Option Y) (y : Y) → o ≡ Some y → cons_option o [] ≡ y ∷ []
single {Y} o y e = ap (λ (q : Option Y). cons_option q []) e

nothing : {Y : Type 0} (o : Option Y) → o ≡ None → cons_option o [] ≡ []
nothing {Y} o e = ap (λ (q : Option Y). cons_option q []) e

pub filter_map-some : {X Y : Type 0} (h : X → Option Y) (xs : List X) (i : ℕ) (d : X) (y : Y) (old new : List Y) → i < length xs → old ≡ filter_map h (take i xs) → new ≡ old ++ y ∷ [] →
    h (get_or xs i d) ≡ Some y → new ≡ filter_map h (take (i + 1) xs)
filter_map-some {X} {Y} h xs i d y old new l is more some =
    more ∙ ap (λ (ys : List Y). ys ++ y ∷ []) is ∙ ap (λ (ys : List Y). filter_map h (take i xs) ++ ys) (sym (single (h (get_or xs i d)) y some))
    ∙ sym (filter_map-append h (take i xs) (get_or xs i d ∷ [])) ∙ ap (λ (zs : List X). filter_map h zs) (sym (take_more xs i d l))

pub filter_map-none : {X Y : Type 0} (h : X → Option Y) (xs : List X) (i : ℕ) (d : X) (old : List Y) → i < length xs → old ≡ filter_map h (take i xs) →
    h (get_or xs i d) ≡ None → old ≡ filter_map h (take (i + 1) xs)
filter_map-none {X} {Y} h xs i d old l is none =
    is ∙ sym (append-nil (filter_map h (take i xs))) ∙ ap (λ (ys : List Y). filter_map h (take i xs) ++ ys) (sym (nothing (h (get_or xs i d)) none))
    ∙ sym (filter_map-append h (take i xs) (get_or xs i d ∷ [])) ∙ ap (λ (zs : List X). filter_map h zs) (sym (take_more xs i d l))

pub filter_map-shorter : {X Y : Type 0} (h : X → Option Y) (xs : List X) (i : ℕ) → length (filter_map h (take i xs)) ≤ length (filter_map h xs)
filter_map-shorter {X} {Y} h xs i =
    let parts : filter_map h xs ≡ filter_map h (take i xs) ++ filter_map h (drop i xs) =
    ap (λ (zs : List X). filter_map h zs) (sym (take-append-drop i xs)) ∙ filter_map-append h (take i xs) (drop i xs) in
    omega (arith, ap (λ (ys : List Y). length ys) parts, length-append (filter_map h (take i xs)) (filter_map h (drop i xs)))

same-arc : (a b : Arc) → Some a ≡ Some b → a ≡ b
same-arc a b e = cc

pub no-arc : (a : Arc) → None ≡ Some a → ⊥
no-arc a e = cc

pub if-arc : (b : Bool) (a c : Arc) → (if b then Some a else None) ≡ Some c → (b ≡ true) × (a ≡ c)
if-arc true a c e = (refl, same-arc a c e)
if-arc false a c e = absurd (no-arc c e)

pub passed-is : (first : Arc) (unit : Option Arc) (arc : Arc) → passed_by first unit ≡ Some arc → (unit ≡ Some arc) × (may_pass first arc ≡ true)
passed-is first None arc e = absurd (no-arc arc e)
passed-is first (Some a) arc e =
    let parts = if-arc (may_pass first a) a arc e in (ap Some parts.1, ap (λ (x : Arc). may_pass first x) (sym parts.1) ∙ parts.0)

pub leaving-is : (node : ℕ) (unit : Option Arc) (arc : Arc) → leaving_arc node unit ≡ Some arc → (unit ≡ Some arc) × (arc.tail ≡ node)
leaving-is node None arc e = absurd (no-arc arc e)
leaving-is node (Some a) arc e =
    let parts = if-arc (a.tail == node) a arc e in (ap Some parts.1, ap (λ (x : Arc). x.tail) (sym parts.1) ∙ eqb-true a.tail node parts.0)

pub leaving-not : (node : ℕ) (unit : Option Arc) (arc : Arc) → leaving_arc node unit ≡ None → unit ≡ Some arc → arc.tail ≡ node → ⊥
leaving-not node unit arc none e at =
    let is : leaving_arc node unit ≡ Some arc = ap (leaving_arc node) e ∙ ap (λ b. if b then Some arc else None) (eq-eqb arc.tail node at) in
    is-none arc (leaving_arc node unit) none is

-- the arcs that may be passed carry units
pub passable-unit : (units : Units) (first arc : Arc) → Contains (passable units first) arc → ((link : ℕ) × (unit_at units link ≡ Some arc)) × (may_pass first arc ≡ true)
passable-unit units first arc m =
    let from = filter_map-from (passed_by first) units arc m in
    let is = passed-is first from.0 arc from.2 in
    (unit_place units arc (subst (λ (u : Option Arc). Contains units u) is.0 from.1), is.1)

pub unit-passable : (units : Units) (first arc : Arc) (link : ℕ) → unit_at units link ≡ Some arc → may_pass first arc ≡ true → Contains (passable units first) arc
unit-passable units first arc link e may =
    filter_map-member (passed_by first) units (Some arc) arc (place_unit units link arc e) (ap (λ b. if b then Some arc else None) may)

or-right : (a b : Bool) → b ≡ true → (a || b) ≡ true
or-right true b e = refl
or-right false b e = e

or-none : (a b : Bool) → (a || b) ≡ false → a ≡ false
or-none true b e = absurd (false≢true (sym e))
or-none false b e = refl

-- sums where no unit counts less, and one counts more
sum-le : (f h : Option Arc → ℕ) (units : Units) → ((l : ℕ) → l < length units → f (unit_at units l) ≤ h (unit_at units l)) → sum_by f units ≤ sum_by h units
sum-le f h [] le = omega arith
sum-le f h (unit ∷ units) le =
    let first : f unit ≤ h unit = le zero (omega arith) in
    omega (arith, first, sum-le f h units (λ l b. le (suc l) (omega arith)), sum_by-cons f unit units, sum_by-cons h unit units)

sum-less : (f h : Option Arc → ℕ) (units : Units) (k : ℕ) → ((l : ℕ) → l < length units → f (unit_at units l) ≤ h (unit_at units l)) → k < length units →
    f (unit_at units k) + 1 ≤ h (unit_at units k) → sum_by f units + 1 ≤ sum_by h units
sum-less f h [] k le b less = absurd (omega arith)
sum-less f h (unit ∷ units) zero le b less =
    let first : f unit + 1 ≤ h unit = less in
    omega (arith, first, sum-le f h units (λ l c. le (suc l) (omega arith)), sum_by-cons f unit units, sum_by-cons h unit units)
sum-less f h (unit ∷ units) (suc k) le b less =
    let first : f unit ≤ h unit = le zero (omega arith) in
    omega (arith, first, sum-less f h units k (λ l c. le (suc l) (omega arith)) (omega arith) less, sum_by-cons f unit units, sum_by-cons h unit units)

one-at-most : (b : Bool) → ind b ≤ 1
one-at-most true = omega arith
one-at-most false = omega arith

one-from : (node : ℕ) (arc : Arc) → arc.tail ≡ node → unit_from node (Some arc) ≡ 1
one-from node arc e = ap (λ b. if b then 1 else 0) (eq-eqb arc.tail node e)

-- a path of units begins with each arc that leaves the source
pub first-way : (g : Digraph) (s t : ℕ) (units : Units) (first : Arc) → IsGraph g → s < g.nodes → t < g.nodes → IsFlow g.arcs s t (leaving units s) units →
    unit_at units first.link.0 ≡ Some first → first.tail ≡ s → Leads (passable units first) s t
first-way g s t units first is ls lt flow at from =
    elim (cases_Bool (leads (passable units first) s t)) [
      | inl to ↦ way_from_leads (passable units first) s t to
      | inr cut ↦
          let sep : Separates s t (leads (passable units first) s) = record { source = leads-start (passable units first) s; target = cut } in
          let closed : (arc : Arc) → Contains (passable units first) arc → leads (passable units first) s arc.tail ≡ true → leads (passable units first) s arc.head ≡ true =
          leads-closed (passable units first) s in
          let less : sum_by (leads_out (leads (passable units first) s)) units + 1 ≤ sum_by (unit_from s) units =
          sum-less (leads_out (leads (passable units first) s)) (unit_from s) units first.link.0
          (λ l b. elim (none_or_some (unit_at units l)) [
            | inl none ↦
                let a : leads_out (leads (passable units first) s) (unit_at units l) ≡ 0 = ap (leads_out (leads (passable units first) s)) none in omega (arith, a)
            | inr (arc, e) ↦
                let out : leads_out (leads (passable units first) s) (unit_at units l) ≡ ind (leads (passable units first) s arc.tail && not (leads (passable units first) s arc.head)) =
                ap (leads_out (leads (passable units first) s)) e in
                let from_it : unit_from s (unit_at units l) ≡ unit_from s (Some arc) = ap (unit_from s) e in
                elim (cases_Bool (may_pass first arc)) [
                  | inl may ↦
                      let none : leads_out (leads (passable units first) s) (Some arc) ≡ 0 = leaves-not (leads (passable units first) s) arc (λ leaves.
                      both (leads (passable units first) s arc.head) (closed arc (unit-passable units first arc l e may) leaves.from_inside) leaves.to_outside) in
                      omega (arith, out, none)
                  | inr may_not ↦
                      let same : arc.tail ≡ first.tail = eqb-true arc.tail first.tail
                      (not-false (arc.tail == first.tail) (or-none (not (arc.tail == first.tail)) (arc.link.0 == first.link.0) may_not)) in
                      omega (arith, out, from_it, one-from s arc (same ∙ from), one-at-most (leads (passable units first) s arc.tail && not (leads (passable units first) s arc.head)))
                ]
          ])
          (place_below units first.link.0 first at)
          (let may : may_pass first first ≡ true = or-right (not (first.tail == first.tail)) (first.link.0 == first.link.0) (eq-eqb first.link.0 first.link.0 refl) in
          let none : leads_out (leads (passable units first) s) (Some first) ≡ 0 = leaves-not (leads (passable units first) s) first (λ leaves.
          both (leads (passable units first) s first.head) (closed first (unit-passable units first first first.link.0 at may) leaves.from_inside) leaves.to_outside) in
          omega (arith, ap (leads_out (leads (passable units first) s)) at, none, ap (unit_from s) at, one-from s first from)) in
          absurd (omega (arith, less, flow_out g s t (leaving units s) (leads (passable units first) s) units is ls lt sep flow))
    ]

-- what is taken away brings no unit into a node
pub entering-cleared : (units : Units) (links : List Link) (node : ℕ) → entering (cleared units links) node ≤ entering units node
entering-cleared units [] node = omega arith
entering-cleared units (k ∷ links) node =
    elim (cases_lt k.0 (length units)) [
      | inl l ↦
          let entry : entering (set units k.0 None) node + unit_to node (unit_at units k.0) ≡ entering units node + 0 = sum-entry (unit_to node) units k.0 (unit_at units k.0) None l refl in
          omega (arith, entry, entering-cleared (set units k.0 None) links node)
      | inr past ↦ omega (arith, ap (λ (w : Units). entering w node) (set_past units k.0 None past), entering-cleared (set units k.0 None) links node)
    ]

-- from the tail of the first arc only this arc may be passed
first-only : (units : Units) (first arc : Arc) → Contains (passable units first) arc → arc.tail ≡ first.tail → arc.link.0 ≡ first.link.0
first-only units first arc m at =
    let found = passable-unit units first arc m in
    elim (or_cases (not (arc.tail == first.tail)) (arc.link.0 == first.link.0) found.1) [
      | inl other ↦ absurd (false≢true (sym (ap not (eq-eqb arc.tail first.tail at)) ∙ other))
      | inr same ↦ eqb-true arc.link.0 first.link.0 same
    ]

begins-with : (units : Units) (first : Arc) (t : ℕ) (way : List Arc) → first.tail ≢ t → ArcPath (passable units first) first.tail way t →
    (first_link (links_of way) ≡ first.link.0) × ((k : Link) × Contains (links_of way) k × (k.0 ≡ first.link.0))
begins-with units first t [] apart p = absurd (apart p)
begins-with units first t (arc ∷ way) apart p =
    let same : arc.link.0 ≡ first.link.0 = first-only units first arc p.0 p.1 in (same, (arc.link, Contains-here arc.link (links_of way), same))

takes-way : (g : Digraph) (units : Units) (first : Arc) (t : ℕ) (way : List Arc) → IsGraph g → first.tail ≢ t → IsFlow g.arcs first.tail t (leaving units first.tail) units →
    unit_at units first.link.0 ≡ Some first → ArcPath (passable units first) first.tail way t → AreDistinct (nodes_of first.tail way) →
    TakesPath g.arcs first t units (links_of way) (cleared units (links_of way))
takes-way g units first t way is apart flow at p once =
    let on : OnArcs g.arcs units = record { is_arc = flow.is_arc; of_link = flow.of_link } in
    let sub : (arc : Arc) → Contains (passable units first) arc → Contains (carried units) arc =
    λ arc m. let found = passable-unit units first arc m in at-carried units (found.0).0 arc (found.0).1 in
    let load : IsLaden units way = laden g.arcs (passable units first) units on sub first.tail t way p once in
    let one : unit_from first.tail (unit_at units first.link.0) ≤ leaving units first.tail =
    get_or-le-sum_by (unit_from first.tail) units first.link.0 None (place_below units first.link.0 first at) in
    let positive : leaving units first.tail ≡ (leaving units first.tail - 1) + 1 = omega (arith, one, ap (unit_from first.tail) at, one-from first.tail first refl) in
    let more : IsFlow g.arcs first.tail t ((leaving units first.tail - 1) + 1) units = subst (λ (n : ℕ). IsFlow g.arcs first.tail t n units) positive flow in
    let left : IsFlow g.arcs first.tail t (leaving units first.tail - 1) (cleared units (links_of way)) =
    taken g.arcs (passable units first) units first.tail t (leaving units first.tail - 1) more way load p in
    let none : entering (cleared units (links_of way)) first.tail ≡ 0 = omega (arith, entering-cleared units (links_of way) first.tail, none-enters g.arcs first.tail t units apart flow) in
    let value : leaving (cleared units (links_of way)) first.tail ≡ leaving units first.tail - 1 =
    value-leaves g.arcs first.tail t (leaving units first.tail - 1) (cleared units (links_of way)) apart left none in
    let begins = begins-with units first t way apart p in
    record {
      path = record {
        way = way;
        of_links = refl;
        leads = Path-over (passable units first) g.arcs (λ arc m. let found = passable-unit units first arc m in on.is_arc (found.0).0 arc (found.0).1) first.tail t way p;
        once = once;
      };
      begins = begins.0;
      different = laden-different way load.apart;
      gone = subst (λ (n : ℕ). unit_at (cleared units (links_of way)) n ≡ None) (begins.1).2 (cleared-none units (links_of way) (begins.1).0 (begins.1).1);
      units_on = λ k m. let arc = link_of_way way k m in
          let e : unit_at units (arc.0).link.0 ≡ Some arc.0 = All-contains (λ (b : Arc). unit_at units b.link.0 ≡ Some b) way arc.0 load.units_on arc.1 in
          ap is_some (ap (λ (x : Link). unit_at units x.0) (sym arc.2) ∙ e);
      rest_is = refl;
      flow = subst (λ (n : ℕ). IsFlow g.arcs first.tail t n (cleared units (links_of way))) (sym value) left;
      one_less = omega (arith, value, positive);
    }

-- a path that may be passed, taken out of the flow
pub takes : (g : Digraph) (units : Units) (first : Arc) (t : ℕ) (links : List Link) → IsGraph g → first.tail ≢ t → IsFlow g.arcs first.tail t (leaving units first.tail) units →
    unit_at units first.link.0 ≡ Some first → IsArcPath (passable units first) first.tail links t → TakesPath g.arcs first t units links (cleared units links)
takes g units first t links is apart flow at path =
    subst (λ (ks : List Link). TakesPath g.arcs first t units ks (cleared units ks)) path.of_links (takes-way g units first t path.way is apart flow at path.leads path.once)

-- its links have places
pub path-places : (units : Units) (first : Arc) (s t : ℕ) (links : List Link) → ((link : ℕ) (a : Arc) → unit_at units link ≡ Some a → a.link.0 ≡ link) → IsArcPath (passable units first) s links t →
    All (λ (k : Link). k.0 < length units) links
path-places units first s t links of_link path =
    subst (λ (ks : List Link). All (λ (k : Link). k.0 < length units) ks) path.of_links
    (All-from_members (λ (k : Link). k.0 < length units) (links_of path.way) (λ k m.
    let arc = link_of_way path.way k m in
    let found = passable-unit units first arc.0 (Path-members (passable units first) s t path.way path.leads arc.0 arc.1) in
    let number : (arc.0).link.0 ≡ (found.0).0 = of_link (found.0).0 arc.0 (found.0).1 in
    let low : (found.0).0 < length units = place_below units (found.0).0 arc.0 (found.0).1 in
    omega (arith, number, low, ap (λ (x : Link). x.0) arc.2)))

-- the paths that were taken so far, and the units that are left
pub record IsTaking (arcs : List Arc) (s t : ℕ) (units : Units) (left : Units) (paths : List (List Link)) (link : ℕ) : Type 0 where
  pub flow : IsFlow arcs s t (leaving left s) left
  pub count : length paths + leaving left s ≡ leaving units s
  pub each : All (λ path. IsArcPath arcs s path t) paths
  pub disjoint : AreDistinct (links_of_paths paths)
  pub gone : (k : Link) → Contains (links_of_paths paths) k → unit_at left k.0 ≡ None
  pub order : AreInLinkOrder paths
  pub below : All (λ path. first_link path < link) paths
  pub past : (l : ℕ) (arc : Arc) → l < link → unit_at left l ≡ Some arc → arc.tail ≢ s
  pub size : length left ≡ length units

-- the link carries no unit from the source
pub taking-skips : (arcs : List Arc) (s t : ℕ) (units left : Units) (paths : List (List Link)) (link : ℕ) → IsTaking arcs s t units left paths link →
    ((arc : Arc) → unit_at left link ≡ Some arc → arc.tail ≡ s → ⊥) → IsTaking arcs s t units left paths (link + 1)
taking-skips arcs s t units left paths link taking never = record {
  flow = taking.flow;
  count = taking.count;
  each = taking.each;
  disjoint = taking.disjoint;
  gone = taking.gone;
  order = taking.order;
  below = All-weaker (λ (path : List Link). first_link path < link) (λ (path : List Link). first_link path < link + 1) (λ p l. omega (arith, l)) paths taking.below;
  past = λ l arc b e. elim (cases_lt l link) [
    | inl before ↦ taking.past l arc before e
    | inr last ↦ let is : l ≡ link = omega arith in never arc (ap (λ (n : ℕ). unit_at left n) (sym is) ∙ e)
  ];
  size = taking.size;
}

-- a path was taken that begins with the link
pub taking-takes : (arcs : List Arc) (s t : ℕ) (units left : Units) (paths : List (List Link)) (link : ℕ) (first : Arc) (path : List Link) (rest : Units) → IsTaking arcs s t units left paths link →
    first.link.0 ≡ link → first.tail ≡ s → TakesPath arcs first t left path rest → IsTaking arcs s t units rest (paths ++ path ∷ []) (link + 1)
taking-takes arcs s t units left paths link first path rest taking number from took =
    let rest_at : (l : ℕ) (arc : Arc) → unit_at rest l ≡ Some arc → unit_at left l ≡ Some arc =
    λ l arc e. cleared-sub left path l arc (ap (λ (w : Units). unit_at w l) (sym took.rest_is) ∙ e) in
    let all : links_of_paths (paths ++ path ∷ []) ≡ links_of_paths paths ++ path =
    flat_map-append (λ (p : List Link). p) paths (path ∷ []) ∙ ap (λ (ks : List Link). links_of_paths paths ++ ks) (append-nil path) in
    let fewer : leaving rest s + 1 ≡ leaving left s = subst (λ (n : ℕ). leaving rest n + 1 ≡ leaving left n) from took.one_less in
    record {
      flow = subst (λ (n : ℕ). IsFlow arcs n t (leaving rest n) rest) from took.flow;
      count = omega (arith, taking.count, fewer, length-append paths (path ∷ []));
      each = All-push (λ p. IsArcPath arcs s p t) paths path taking.each (subst (λ (n : ℕ). IsArcPath arcs n path t) from took.path);
      disjoint = subst (λ (ks : List Link). AreDistinct ks) (sym all)
          (AllPairs-append (λ (k l : Link). k ≢ l) (links_of_paths paths) path taking.disjoint took.different (λ k l m n e.
          let none : unit_at left l.0 ≡ None = subst (λ (x : Link). unit_at left x.0 ≡ None) e (taking.gone k m) in
          false≢true (sym (ap is_some none) ∙ took.units_on l n)));
      gone = λ k m. elim (Contains-append_cases (links_of_paths paths) path k (subst (λ (ks : List Link). Contains ks k) all m)) [
        | inl a ↦ ap (λ (w : Units). unit_at w k.0) took.rest_is ∙ cleared-stays left path k.0 (taking.gone k a)
        | inr b ↦ ap (λ (w : Units). unit_at w k.0) took.rest_is ∙ cleared-none left path k b
      ];
      order = all_pairs_push (λ (p q : List Link). first_link p < first_link q) paths path taking.order (λ k d l.
          let low : first_link (get_or paths k d) < link = taking.below k d l in omega (arith, low, took.begins, number));
      below = All-push (λ (p : List Link). first_link p < link + 1) paths path
          (All-weaker (λ (p : List Link). first_link p < link) (λ (p : List Link). first_link p < link + 1) (λ p l. omega (arith, l)) paths taking.below)
          (omega (arith, took.begins, number));
      past = λ l arc b e. elim (cases_lt l link) [
        | inl before ↦ taking.past l arc before (rest_at l arc e)
        | inr last ↦ let is : l ≡ first.link.0 = omega (arith, number) in
            absurd (is-none arc (unit_at rest l) (ap (λ (n : ℕ). unit_at rest n) is ∙ took.gone) e)
      ];
      size = ap length took.rest_is ∙ length-cleared left path ∙ taking.size;
    }

-- once all links were looked at, no unit leaves the source, so all paths were taken
pub taking-ends : (arcs : List Arc) (s t : ℕ) (units left : Units) (paths : List (List Link)) (link : ℕ) → IsTaking arcs s t units left paths link → length units ≤ link →
    AreDisjointPaths arcs s t (leaving units s) paths
taking-ends arcs s t units left paths link taking end =
    let none : leaving left s ≡ 0 = sum-none (unit_from s) refl left (λ l arc e.
    let low : l < length left = place_below left l arc e in
    ap (λ b. if b then 1 else 0) (ne_eqb arc.tail s (taking.past l arc (omega (arith, low, taking.size, end)) e))) in
    record { count = omega (arith, none, taking.count); each = taking.each; disjoint = taking.disjoint }
