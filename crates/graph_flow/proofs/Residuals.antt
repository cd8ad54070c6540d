-- The arcs of the residual network: which there are, and what a way over them does to a flow.
use Rattle.std.proofs.Common.{◌≡◌, ◌≢◌, ℕ, ◌+◌, ◌<◌, ◌≤◌, Bool, true, false, List, [], ◌∷◌, length, map, All, Contains, inl, inr, ◌⊎◌, refl, sym, ap, ◌∙◌, subst, arith, Some, None, Option, filter_map}
use Rattle.std.specs.Prelude.{◌==◌, if◌then◌else◌}
use Rattle.std.specs.List.{cons_option}
use Rattle.std.proofs.lemmas.Bool.{cases_eq, eq-eqb, eqb-true, ne_eqb}
use Rattle.std.proofs.lemmas.List.Elements.{All-contains, All-cons, All-nil}
use Rattle.arc_base.specs.declared.place.Link.{Link}
use Rattle.graph_flow.specs.declared.arcs.Arc.{Arc}
use Rattle.graph_flow.specs.Paths.{ArcPath, Digraph, IsGraph, MayShare, nodes_of}
use Rattle.arc_base.specs.Lists.{AreDistinct}
use Rattle.graph_flow.specs.Flows.{Units, unit_at, entering, only_at, IsFlow}
use Rattle.graph_flow.specs.Residual.{reversed, taken_back, residual_of, residual, sent}
use Rattle.graph_flow.proofs.Lists.{Contains-here, Contains-there, Contains-none, Contains-cases, AllPairs-nil, AllPairs-cons, AllPairs-head, AllPairs-tail, AllPairs-members, All-from_members}
use Rattle.graph_flow.proofs.Ways.{Path-members, tail_on_way, head_on_way}
use Rattle.graph_flow.proofs.Turns.{here, HasRoom, Shifts, OnArcs, IsRoute, OnArcs-sent, sent-shifts, entering-sent}

pub none_or_some : {X : Type 0} (o : Option X) → (o ≡ None) ⊎ ((x : X) × (o ≡ Some x))
none_or_some None = inl refl
none_or_some (Some x) = inr (x, refl)

cons_here : {Y : Type 0} (o : Option Y) (ys : List Y) (y : Y) → o ≡ Some y → Contains (cons_option o ys) y
cons_here {Y} o ys y e = let P : Option Y → Type 0 = λ q. Contains (cons_option q ys) y in subst P (sym e) (Contains-here y ys)

cons_there : {Y : Type 0} (o : Option Y) (ys : List Y) (y : Y) → Contains ys y → Contains (cons_option o ys) y
cons_there None ys y m = m
cons_there (Some z) ys y m = Contains-there z ys y m

cons_cases : {Y : Type 0} (o : Option Y) (ys : List Y) (y : Y) → Contains (cons_option o ys) y → (o ≡ Some y) ⊎ Contains ys y
cons_cases None ys y m = inr m
cons_cases (Some z) ys y m = elim (Contains-cases z ys y m) [ inl e ↦ inl (ap Some e) | inr n ↦ inr n ]

pub filter_map-member : {X Y : Type 0} (h : X → Option Y) (xs : List X) (x : X) (y : Y) → Contains xs x → h x ≡ Some y → Contains (filter_map h xs) y
filter_map-member h [] x y m e = absurd (Contains-none x m)
filter_map-member {X} {Y} h (z ∷ xs) x y m e =
    elim (Contains-cases z xs x m) [
      | inl f ↦ let g : h z ≡ Some y = ap h f ∙ e in cons_here (h z) (filter_map h xs) y g
      | inr n ↦ cons_there (h z) (filter_map h xs) y (filter_map-member h xs x y n e)
    ]

pub filter_map-from : {X Y : Type 0} (h : X → Option Y) (xs : List X) (y : Y) → Contains (filter_map h xs) y → (x : X) × Contains xs x × (h x ≡ Some y)
filter_map-from h [] y m = absurd (Contains-none y m)
filter_map-from h (z ∷ xs) y m =
    elim (cons_cases (h z) (filter_map h xs) y m) [
      | inl e ↦ (z, Contains-here z xs, e)
      | inr n ↦ let r = filter_map-from h xs y n in (r.0, Contains-there z xs r.0 r.1, r.2)
    ]

-- where an arc of the residual network comes from
pub record Source (arcs : List Arc) (units : Units) (arc : Arc) : Type 0 where
  pub base : Arc
  pub is_base : Contains arcs base
  pub how : ((unit_at units base.link.0 ≡ None) × (base ≡ arc)) ⊎ ((used : Arc) × (unit_at units base.link.0 ≡ Some used) × (used.head ≡ base.head) × (reversed used ≡ arc))

some-is : {X : Type 0} (x y : X) → Some x ≡ Some y → x ≡ y
some-is x y e = cc

none-is : (y : Arc) → None ≡ Some y → ⊥
none-is y e = cc

if_some : (b : Bool) (x y : Arc) → (if b then Some x else None) ≡ Some y → (b ≡ true) × (x ≡ y)
if_some true x y e = (refl, some-is x y e)
if_some false x y e = absurd (none-is y e)

pub back_cases : (o : Option Arc) (base arc : Arc) → taken_back o base ≡ Some arc → ((o ≡ None) × (base ≡ arc)) ⊎ ((used : Arc) × (o ≡ Some used) × (used.head ≡ base.head) × (reversed used ≡ arc))
back_cases None base arc e = inl (refl, some-is base arc e)
back_cases (Some used) base arc e =
    let both = if_some (used.head == base.head) (reversed used) arc e in inr (used, refl, eqb-true used.head base.head both.0, both.1)

pub residual-source : (arcs : List Arc) (units : Units) (arc : Arc) → Contains (residual units arcs) arc → Source arcs units arc
residual-source arcs units arc m =
    let from = filter_map-from (residual_of units) arcs arc m in
    record { base = from.0; is_base = from.1; how = back_cases (unit_at units (from.0).link.0) from.0 arc from.2 }

-- an arc whose link carries nothing is one of them
pub residual-free : (arcs : List Arc) (units : Units) (arc : Arc) → Contains arcs arc → unit_at units arc.link.0 ≡ None → Contains (residual units arcs) arc
residual-free arcs units arc m e =
    let is : residual_of units arc ≡ Some arc = ap (λ (o : Option Arc). taken_back o arc) e in
    filter_map-member (residual_of units) arcs arc arc m is

-- and the opposite of each arc that carries a unit
pub residual-back : (arcs : List Arc) (units : Units) (link : ℕ) (used : Arc) → OnArcs arcs units → unit_at units link ≡ Some used → Contains (residual units arcs) (reversed used)
residual-back arcs units link used on e =
    let there : unit_at units used.link.0 ≡ Some used = ap (λ (n : ℕ). unit_at units n) (on.of_link link used e) ∙ e in
    let test : (if used.head == used.head then Some (reversed used) else None) ≡ Some (reversed used) =
    ap (λ b. if b then Some (reversed used) else None) (eq-eqb used.head used.head refl) in
    let is : residual_of units used ≡ Some (reversed used) = ap (λ (o : Option Arc). taken_back o used) there ∙ test in
    filter_map-member (residual_of units) arcs used (reversed used) (on.is_arc link used e) is

-- each of them has room for a unit
pub residual-room : (arcs : List Arc) (units : Units) (arc : Arc) → OnArcs arcs units → Contains (residual units arcs) arc → HasRoom arcs units arc
residual-room arcs units arc on m =
    let from : Source arcs units arc = residual-source arcs units arc m in
    elim from.how [
      | inl free ↦ inl (subst (λ (x : Arc). (unit_at units x.link.0 ≡ None) × Contains arcs x) free.1 (free.0, from.is_base))
      | inr (used, is, same, turned_is) ↦
          let there : unit_at units used.link.0 ≡ Some used = ap (λ (n : ℕ). unit_at units n) (on.of_link from.base.link.0 used is) ∙ is in
          inr (subst (λ (x : Arc). unit_at units x.link.0 ≡ Some (reversed x)) turned_is there)
    ]

-- one of the two
abbrev pub OneOf : ℕ → ℕ → ℕ → Type 0
OneOf x p q = (x ≡ p) ⊎ (x ≡ q)

OneOf-then : (x p q r s : ℕ) → OneOf x p q → OneOf p r s → OneOf q r s → OneOf x r s
OneOf-then x p q r s (inl e) a b = subst (λ (n : ℕ). OneOf n r s) (sym e) a
OneOf-then x p q r s (inr e) a b = subst (λ (n : ℕ). OneOf n r s) (sym e) b

-- the arc lies on the link of an arc of the graph, in one of its directions
pub record LiesOn (arcs : List Arc) (arc : Arc) : Type 0 where
  pub base : Arc
  pub is_base : Contains arcs base
  pub of_link : base.link ≡ arc.link
  pub tail_is : OneOf arc.tail base.tail base.head
  pub base_tail : OneOf base.tail arc.tail arc.head
  pub base_head : OneOf base.head arc.tail arc.head

pub residual-lies : (arcs : List Arc) (units : Units) (arc : Arc) → OnArcs arcs units → Contains (residual units arcs) arc → LiesOn arcs arc
residual-lies arcs units arc on m =
    let from : Source arcs units arc = residual-source arcs units arc m in
    elim from.how [
      | inl free ↦ subst (λ (x : Arc). LiesOn arcs x) free.1 (record { base = from.base; is_base = from.is_base; of_link = refl; tail_is = inl refl; base_tail = inl refl; base_head = inr refl })
      | inr (used, is, same, turned_is) ↦ subst (λ (x : Arc). LiesOn arcs x) turned_is
          (record { base = used; is_base = on.is_arc from.base.link.0 used is; of_link = refl; tail_is = inr refl; base_tail = inr refl; base_head = inl refl })
    ]

pub same_link : (k l : Link) → k.0 ≡ l.0 → k ≡ l
same_link k l e = ap (λ (n : ℕ). let x : Link = record { 0 = n } in x) e

-- two arcs on one link begin at a common end
pub common_end : (g : Digraph) (a b : Arc) → IsGraph g → LiesOn g.arcs a → LiesOn g.arcs b → b.link.0 ≡ a.link.0 → OneOf a.tail b.tail b.head
common_end g a b is on_a on_b e =
    let links : on_a.base.link ≡ on_b.base.link = on_a.of_link ∙ sym (same_link b.link a.link e) ∙ sym on_b.of_link in
    elim (AllPairs-members MayShare g.arcs on_a.base on_b.base is.opposite on_a.is_base on_b.is_base) [
      | inl same ↦ OneOf-then a.tail on_b.base.tail on_b.base.head b.tail b.head
          (subst (λ (x : Arc). OneOf a.tail x.tail x.head) same on_a.tail_is) on_b.base_tail on_b.base_head
      | inr pair ↦ elim pair [
        | inl share ↦ OneOf-then a.tail on_b.base.head on_b.base.tail b.tail b.head
            (subst (λ (n : ℕ). OneOf a.tail n on_b.base.tail) (share.forth links) (subst (λ (n : ℕ). OneOf a.tail on_a.base.tail n) (share.back links) on_a.tail_is))
            on_b.base_head on_b.base_tail
        | inr share ↦ OneOf-then a.tail on_b.base.head on_b.base.tail b.tail b.head
            (subst (λ (n : ℕ). OneOf a.tail n on_b.base.tail) (sym (share.back (sym links))) (subst (λ (n : ℕ). OneOf a.tail on_a.base.tail n) (sym (share.forth (sym links))) on_a.tail_is))
            on_b.base_head on_b.base_tail
      ]
    ]

-- a way over the residual network that passes no node twice can be sent
pub route : (g : Digraph) (units : Units) → IsGraph g → OnArcs g.arcs units → All (λ arc. arc.link.0 < length units) g.arcs →
    (u v : ℕ) (way : List Arc) → ArcPath (residual units g.arcs) u way v → AreDistinct (nodes_of u way) → IsRoute g.arcs units way
route g units is on room u v [] p d = record {
  room = All-nil (HasRoom g.arcs units);
  places = All-nil (λ a. a.link.0 < length units);
  apart = AllPairs-nil (λ a b. b.link.0 ≡ a.link.0 → ⊥);
}
route g units is on room u v (arc ∷ way) p d =
    let rest : IsRoute g.arcs units way = route g units is on room arc.head v way p.2 (AllPairs-tail (λ x y. x ≢ y) u (nodes_of arc.head way) d) in
    let first : All (λ x. u ≢ x) (nodes_of arc.head way) = AllPairs-head (λ x y. x ≢ y) u (nodes_of arc.head way) d in
    let lies : LiesOn g.arcs arc = residual-lies g.arcs units arc on p.0 in
    record {
      room = All-cons (HasRoom g.arcs units) arc way (residual-room g.arcs units arc on p.0) rest.room;
      places = All-cons (λ a. a.link.0 < length units) arc way
          (subst (λ (k : Link). k.0 < length units) lies.of_link (All-contains (λ a. a.link.0 < length units) g.arcs lies.base room lies.is_base)) rest.places;
      apart = AllPairs-cons (λ a b. b.link.0 ≡ a.link.0 → ⊥) arc way
          (All-from_members (λ b. b.link.0 ≡ arc.link.0 → ⊥) way (λ b m e.
          let b_on : Contains (residual units g.arcs) b = Path-members (residual units g.arcs) arc.head v way p.2 b m in
          elim (common_end g arc b is lies (residual-lies g.arcs units b on b_on) e) [
            | inl t ↦ All-contains (λ x. u ≢ x) (nodes_of arc.head way) b.tail first (tail_on_way (residual units g.arcs) arc.head v way p.2 b m) (sym p.1 ∙ t)
            | inr h ↦ All-contains (λ x. u ≢ x) (nodes_of arc.head way) b.head first (Contains-there arc.head (map (λ x. x.head) way) b.head (head_on_way way b m)) (sym p.1 ∙ h)
          ])) rest.apart;
    }

pub point-more : (many place node : ℕ) → only_at (many + 1) place node ≡ only_at many place node + here place node
point-more many place node =
    elim (cases_eq node place) [
      | inl e ↦
          let a : only_at (many + 1) place node ≡ many + 1 = ap (λ b. if b then many + 1 else 0) (eq-eqb node place e) in
          let b : only_at many place node ≡ many = ap (λ b. if b then many else 0) (eq-eqb node place e) in
          let c : here place node ≡ 1 = ap (λ b. if b then 1 else 0) (eq-eqb place node (sym e)) in omega (arith, a, b, c)
      | inr ne ↦
          let a : only_at (many + 1) place node ≡ 0 = ap (λ b. if b then many + 1 else 0) (ne_eqb node place ne) in
          let b : only_at many place node ≡ 0 = ap (λ b. if b then many else 0) (ne_eqb node place ne) in
          let c : here place node ≡ 0 = ap (λ b. if b then 1 else 0) (ne_eqb place node (λ e. ne (sym e))) in omega (arith, a, b, c)
    ]

-- what one more unit from s to t over a way makes of a flow
pub augmented : (g : Digraph) (units : Units) (s t many : ℕ) → IsGraph g → IsFlow g.arcs s t many units → All (λ arc. arc.link.0 < length units) g.arcs →
    (way : List Arc) → ArcPath (residual units g.arcs) s way t → AreDistinct (nodes_of s way) → IsFlow g.arcs s t (many + 1) (sent units way)
augmented g units s t many is flow room way p d =
    let on : OnArcs g.arcs units = record { is_arc = flow.is_arc; of_link = flow.of_link } in
    let r : IsRoute g.arcs units way = route g units is on room s t way p d in
    let after : OnArcs g.arcs (sent units way) = OnArcs-sent g.arcs units way on r in
    let shifts : Shifts units (sent units way) s t = sent-shifts g.arcs (residual units g.arcs) units s t way r p in
    record {
      is_arc = after.is_arc;
      of_link = after.of_link;
      balanced = λ node. omega (arith, shifts node, flow.balanced node, point-more many t node, point-more many s node);
    }

-- no unit comes to enter the source
pub source_kept : (g : Digraph) (units : Units) (s t many : ℕ) → IsGraph g → IsFlow g.arcs s t many units → All (λ arc. arc.link.0 < length units) g.arcs →
    (way : List Arc) → ArcPath (residual units g.arcs) s way t → AreDistinct (nodes_of s way) → entering (sent units way) s ≤ entering units s
source_kept g units s t many is flow room way p d =
    let on : OnArcs g.arcs units = record { is_arc = flow.is_arc; of_link = flow.of_link } in
    entering-sent g.arcs units way s (route g units is on room s t way p d)
    (λ arc m e. All-contains (λ x. s ≢ x) (map (λ x. x.head) way) arc.head (AllPairs-head (λ x y. x ≢ y) s (map (λ x. x.head) way) d) (head_on_way way arc m) (sym e))
