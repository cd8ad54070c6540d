-- Ways that pass no node twice: how each of their arcs follows another; and ways that share no link.
use Rattle.std.proofs.Common.{◌≡◌, ◌≢◌, ℕ, ◌<◌, ◌≤◌, List, [], ◌∷◌, length, get_or, map, All, Contains, inl, inr, ◌⊎◌, sym, ap, ◌∙◌, subst, arith}
use Rattle.std.proofs.lemmas.Bool.{cases_lt}
use Rattle.arc_base.specs.declared.place.Link.{Link}
use Rattle.arc_base.proofs.Items.{Contains-head, Contains-tail, Contains-cases, Contains-none, Contains-map, AllPairs-rest, AllPairs-first}
use Rattle.graph_flow.specs.declared.arcs.Arc.{Arc}
use Rattle.graph_flow.specs.Paths.{ArcPath, nodes_of, links_of, IsArcPath, AreDisjointPaths}
use Rattle.arc_base.specs.Lists.{AreDistinct}
use Rattle.graph_flow.specs.Laws.{HavePaths}
use Rattle.condition_formula.proofs.Distinct.{same_item, piece_differs, pieces_apart}

-- the heads of the arcs
abbrev heads : List Arc → List ℕ
heads way = map (λ (arc : Arc). arc.head) way

head_in : (way : List Arc) (arc : Arc) → Contains way arc → Contains (heads way) arc.head
head_in way arc m = Contains-map (λ (x : Arc). x.head) way arc m

-- each arc is one of those that the way goes over
pub over : (arcs : List Arc) (u v : ℕ) (way : List Arc) → ArcPath arcs u way v → (arc : Arc) → Contains way arc → Contains arcs arc
over arcs u v [] p arc m = absurd (Contains-none arc m)
over arcs u v (b ∷ way) p arc m =
    elim (Contains-cases b arc way m) [
      | inl e ↦ subst (λ (x : Arc). Contains arcs x) e p.0
      | inr n ↦ over arcs b.head v way p.2 arc n
    ]

-- a way between two nodes begins at the one and ends at the other
pub begins : (arcs : List Arc) (u v : ℕ) (way : List Arc) → ArcPath arcs u way v → u ≢ v → (arc : Arc) × Contains way arc × (arc.tail ≡ u)
begins arcs u v [] p ne = absurd (ne p)
begins arcs u v (b ∷ way) p ne = (b, Contains-head b way, p.1)

ends_or_stays : (arcs : List Arc) (u v : ℕ) (way : List Arc) → ArcPath arcs u way v → (u ≡ v) ⊎ ((arc : Arc) × Contains way arc × (arc.head ≡ v))
ends_or_stays arcs u v [] p = inl p
ends_or_stays arcs u v (b ∷ way) p =
    elim (ends_or_stays arcs b.head v way p.2) [
      | inl e ↦ inr (b, Contains-head b way, e)
      | inr r ↦ inr (r.0, Contains-tail b r.0 way r.1, r.2)
    ]

pub ends : (arcs : List Arc) (u v : ℕ) (way : List Arc) → ArcPath arcs u way v → u ≢ v → (arc : Arc) × Contains way arc × (arc.head ≡ v)
ends arcs u v way p ne = elim (ends_or_stays arcs u v way p) [ inl e ↦ absurd (ne e) | inr r ↦ r ]

first_next : (arcs : List Arc) (b : Arc) (v : ℕ) (way : List Arc) → ArcPath arcs b.head way v → (arc : Arc) → b ≡ arc → (arc.head ≡ v) ⊎ ((on : Arc) × Contains (b ∷ way) on × (on.tail ≡ arc.head))
first_next arcs b v [] p arc e = inl (ap (λ (x : Arc). x.head) (sym e) ∙ p)
first_next arcs b v (c ∷ way) p arc e = inr (c, Contains-tail b c (c ∷ way) (Contains-head c way), p.1 ∙ ap (λ (x : Arc). x.head) e)

-- after each arc the way ends or goes on
pub next : (arcs : List Arc) (u v : ℕ) (way : List Arc) → ArcPath arcs u way v → (arc : Arc) → Contains way arc → (arc.head ≡ v) ⊎ ((on : Arc) × Contains way on × (on.tail ≡ arc.head))
next arcs u v [] p arc m = absurd (Contains-none arc m)
next arcs u v (b ∷ way) p arc m =
    elim (Contains-cases b arc way m) [
      | inl e ↦ first_next arcs b v way p.2 arc e
      | inr n ↦ elim (next arcs b.head v way p.2 arc n) [
        | inl last ↦ inl last
        | inr r ↦ inr (r.0, Contains-tail b r.0 way r.1, r.2)
      ]
    ]

-- before each arc the way begins or another arc leads there
pub before : (arcs : List Arc) (u v : ℕ) (way : List Arc) → ArcPath arcs u way v → (arc : Arc) → Contains way arc → (arc.tail ≡ u) ⊎ ((back : Arc) × Contains way back × (back.head ≡ arc.tail))
before arcs u v [] p arc m = absurd (Contains-none arc m)
before arcs u v (b ∷ way) p arc m =
    elim (Contains-cases b arc way m) [
      | inl e ↦ inl (ap (λ (x : Arc). x.tail) (sym e) ∙ p.1)
      | inr n ↦ elim (before arcs b.head v way p.2 arc n) [
        | inl first ↦ inr (b, Contains-head b way, sym first)
        | inr r ↦ inr (r.0, Contains-tail b r.0 way r.1, r.2)
      ]
    ]

-- no arc leads back to the first node
pub not_back : (u : ℕ) (way : List Arc) → AreDistinct (nodes_of u way) → (arc : Arc) → Contains way arc → arc.head ≡ u → ⊥
not_back u way d arc m e = AllPairs-first (λ (x y : ℕ). x ≢ y) u arc.head (heads way) d (head_in way arc m) (sym e)

-- no arc leads on from the last node
pub not_on : (arcs : List Arc) (u v : ℕ) (way : List Arc) → ArcPath arcs u way v → AreDistinct (nodes_of u way) → (arc : Arc) → Contains way arc → arc.tail ≡ v → ⊥
not_on arcs u v [] p d arc m e = absurd (Contains-none arc m)
not_on arcs u v (b ∷ way) p d arc m e =
    elim (Contains-cases b arc way m) [
      | inl same ↦
          let at : u ≡ v = sym p.1 ∙ ap (λ (x : Arc). x.tail) same ∙ e in
          elim (ends_or_stays arcs b.head v way p.2) [
            | inl stop ↦ not_back u (b ∷ way) d b (Contains-head b way) (stop ∙ sym at)
            | inr r ↦ not_back u (b ∷ way) d r.0 (Contains-tail b r.0 way r.1) (r.2 ∙ sym at)
          ]
      | inr n ↦ not_on arcs b.head v way p.2 (AllPairs-rest (λ (x y : ℕ). x ≢ y) u (nodes_of b.head way) d) arc n e
    ]

-- two arcs into one node are one
pub one_into : (u : ℕ) (way : List Arc) → AreDistinct (nodes_of u way) → (x y : Arc) → Contains way x → Contains way y → x.head ≡ y.head → x ≡ y
one_into u way d x y m n e = same_item (λ (arc : Arc). arc.head) way x y (AllPairs-rest (λ (a b : ℕ). a ≢ b) u (heads way) d) m n e

-- an arc after the first does not leave the first node
leaves_first : (arcs : List Arc) (u v : ℕ) (b : Arc) (way : List Arc) → ArcPath arcs b.head way v → AreDistinct (nodes_of u (b ∷ way)) → (arc : Arc) → Contains way arc → arc.tail ≡ u → ⊥
leaves_first arcs u v b way p d arc m e =
    elim (before arcs b.head v way p arc m) [
      | inl first ↦ not_back u (b ∷ way) d b (Contains-head b way) (sym first ∙ e)
      | inr r ↦ not_back u (b ∷ way) d r.0 (Contains-tail b r.0 way r.1) (r.2 ∙ e)
    ]

-- two arcs out of one node are one
pub one_out_of : (arcs : List Arc) (u v : ℕ) (way : List Arc) → ArcPath arcs u way v → AreDistinct (nodes_of u way) → (x y : Arc) → Contains way x → Contains way y → x.tail ≡ y.tail → x ≡ y
one_out_of arcs u v [] p d x y m n e = absurd (Contains-none x m)
one_out_of arcs u v (b ∷ way) p d x y m n e =
    elim (Contains-cases b x way m) [
      | inl f ↦ elim (Contains-cases b y way n) [
        | inl g ↦ sym f ∙ g
        | inr later ↦ absurd (leaves_first arcs u v b way p.2 d y later (sym e ∙ ap (λ (a : Arc). a.tail) (sym f) ∙ p.1))
      ]
      | inr later ↦ elim (Contains-cases b y way n) [
        | inl g ↦ absurd (leaves_first arcs u v b way p.2 d x later (e ∙ ap (λ (a : Arc). a.tail) (sym g) ∙ p.1))
        | inr after ↦ one_out_of arcs b.head v way p.2 (AllPairs-rest (λ (a c : ℕ). a ≢ c) u (nodes_of b.head way) d) x y later after e
      ]
    ]

-- ways between two nodes, numbered, that pass no node twice and share no link
pub record Ways (arcs : List Arc) (s t many : ℕ) : Type 0 where
  pub way : ℕ → List Arc
  pub leads : (f : ℕ) → f < many → ArcPath arcs s (way f) t
  pub once : (f : ℕ) → f < many → AreDistinct (nodes_of s (way f))
  pub own_links : (f : ℕ) → f < many → (x y : Arc) → Contains (way f) x → Contains (way f) y → x.link ≡ y.link → x ≡ y
  pub apart : (f g : ℕ) → f < g → g < many → (x y : Arc) → Contains (way f) x → Contains (way g) y → x.link ≡ y.link → ⊥

-- the way of the path of this number, and none beyond the paths
way_by : (arcs : List Arc) (s t : ℕ) (paths : List (List Link)) → All (λ path. IsArcPath arcs s path t) paths → (f : ℕ) → (f < length paths) ⊎ (length paths ≤ f) → List Arc
way_by arcs s t paths each f (inl l) = (each f [] l).way
way_by arcs s t paths each f (inr past) = []

by_leads : (arcs : List Arc) (s t : ℕ) (paths : List (List Link)) (each : All (λ path. IsArcPath arcs s path t) paths) (f : ℕ) → f < length paths →
    (r : (f < length paths) ⊎ (length paths ≤ f)) → ArcPath arcs s (way_by arcs s t paths each f r) t
unfolding way_by
by_leads arcs s t paths each f l (inl m) = (each f [] m).leads
by_leads arcs s t paths each f l (inr past) = absurd (omega arith)

by_once : (arcs : List Arc) (s t : ℕ) (paths : List (List Link)) (each : All (λ path. IsArcPath arcs s path t) paths) (f : ℕ) → f < length paths →
    (r : (f < length paths) ⊎ (length paths ≤ f)) → AreDistinct (nodes_of s (way_by arcs s t paths each f r))
unfolding way_by
by_once arcs s t paths each f l (inl m) = (each f [] m).once
by_once arcs s t paths each f l (inr past) = absurd (omega arith)

by_links : (arcs : List Arc) (s t : ℕ) (paths : List (List Link)) (each : All (λ path. IsArcPath arcs s path t) paths) (f : ℕ) → f < length paths →
    (r : (f < length paths) ⊎ (length paths ≤ f)) → links_of (way_by arcs s t paths each f r) ≡ get_or paths f []
unfolding way_by
by_links arcs s t paths each f l (inl m) = (each f [] m).of_links
by_links arcs s t paths each f l (inr past) = absurd (omega arith)

-- the ways of link-disjoint paths
pub ways_of : (arcs : List Arc) (s t many : ℕ) → HavePaths arcs s t many → Ways arcs s t many
ways_of arcs s t many have =
    let paths = have.0 in
    let right : AreDisjointPaths arcs s t many paths = have.1 in
    let way = λ (f : ℕ). way_by arcs s t paths right.each f (cases_lt f (length paths)) in
    let is : (f : ℕ) → f < many → links_of (way f) ≡ get_or paths f [] = λ f l. by_links arcs s t paths right.each f (omega (arith, right.count)) (cases_lt f (length paths)) in
    let in_path : (f : ℕ) → f < many → (x : Arc) → Contains (way f) x → Contains (get_or paths f []) x.link = λ f l x m.
    subst (λ (ks : List Link). Contains ks x.link) (is f l) (Contains-map (λ (arc : Arc). arc.link) (way f) x m) in
    record {
      way = way;
      leads = λ f l. by_leads arcs s t paths right.each f (omega (arith, right.count)) (cases_lt f (length paths));
      once = λ f l. by_once arcs s t paths right.each f (omega (arith, right.count)) (cases_lt f (length paths));
      own_links = λ f l x y m n e. same_item (λ (arc : Arc). arc.link) (way f) x y
          (subst (λ (ks : List Link). AreDistinct ks) (sym (is f l)) (piece_differs paths f right.disjoint (omega (arith, right.count)))) m n e;
      apart = λ f g less l x y m n e. pieces_apart paths f g x.link right.disjoint less (omega (arith, right.count)) (in_path f (omega arith) x m)
          (subst (λ (k : Link). Contains (get_or paths g []) k) (sym e) (in_path g l y n));
    }
