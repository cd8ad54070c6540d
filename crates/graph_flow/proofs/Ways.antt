-- Ways over arcs: their parts, their nodes, sets that they do not leave, and ways without a node that comes twice.
use Rattle.std.proofs.Common.{◌≡◌, ◌≢◌, ℕ, Bool, true, false, ◌&&◌, ◌||◌, IsTrue, List, [], ◌∷◌, ◌++◌, map, Contains, inl, inr, ◌⊎◌, refl, sym, ap, ◌∙◌, subst, arith}
use Rattle.std.specs.Prelude.{◌==◌}
use Rattle.std.proofs.lemmas.Bool.{cases_eq, eq-eqb, eqb-true, or_cases, and_parts, and_from, false≢true}
use Rattle.graph_flow.specs.declared.arcs.Arc.{Arc}
use Rattle.graph_flow.specs.Paths.{ArcPath, Leads, nodes_of}
use Rattle.arc_base.specs.Lists.{AreDistinct}
use Rattle.graph_flow.proofs.Lists.{Contains-here, Contains-there, Contains-none, Contains-cases, AllPairs-nil, AllPairs-cons, AllPairs-tail, All-from_members}

pub Path-append : (arcs : List Arc) (u v w : ℕ) (xs ys : List Arc) → ArcPath arcs u xs v → ArcPath arcs v ys w → ArcPath arcs u (xs ++ ys) w
Path-append arcs u v w [] ys p q = subst (λ (n : ℕ). ArcPath arcs n ys w) (sym p) q
Path-append arcs u v w (arc ∷ xs) ys p q = (p.0, p.1, Path-append arcs arc.head v w xs ys p.2 q)

-- one arc more at the end
pub Path-snoc : (arcs : List Arc) (u : ℕ) (way : List Arc) (arc : Arc) → ArcPath arcs u way arc.tail → Contains arcs arc → ArcPath arcs u (way ++ arc ∷ []) arc.head
Path-snoc arcs u way arc p m = Path-append arcs u arc.tail arc.head way (arc ∷ []) p (m, refl, refl)

-- a way over some arcs is a way over more
pub Path-over : (arcs more : List Arc) → ((arc : Arc) → Contains arcs arc → Contains more arc) → (u v : ℕ) (way : List Arc) → ArcPath arcs u way v → ArcPath more u way v
Path-over arcs more h u v [] p = p
Path-over arcs more h u v (arc ∷ way) p = (h arc p.0, p.1, Path-over arcs more h arc.head v way p.2)

-- the arcs of a way are among those that it goes over
pub Path-members : (arcs : List Arc) (u v : ℕ) (way : List Arc) → ArcPath arcs u way v → (arc : Arc) → Contains way arc → Contains arcs arc
Path-members arcs u v [] p arc m = absurd (Contains-none arc m)
Path-members arcs u v (a ∷ way) p arc m =
    elim (Contains-cases a way arc m) [
      | inl e ↦ subst (λ (x : Arc). Contains arcs x) e p.0
      | inr n ↦ Path-members arcs a.head v way p.2 arc n
    ]

-- each arc of a way begins at a node of it
pub tail_on_way : (arcs : List Arc) (u v : ℕ) (way : List Arc) → ArcPath arcs u way v → (arc : Arc) → Contains way arc → Contains (nodes_of u way) arc.tail
tail_on_way arcs u v [] p arc m = absurd (Contains-none arc m)
tail_on_way arcs u v (a ∷ way) p arc m =
    elim (Contains-cases a way arc m) [
      | inl e ↦ subst (λ (x : ℕ). Contains (nodes_of u (a ∷ way)) x) (sym p.1 ∙ ap (λ (x : Arc). x.tail) e) (Contains-here u (nodes_of a.head way))
      | inr n ↦ Contains-there u (nodes_of a.head way) arc.tail (tail_on_way arcs a.head v way p.2 arc n)
    ]

-- and ends at one that is not the first
pub head_on_way : (way : List Arc) (arc : Arc) → Contains way arc → Contains (map (λ (x : Arc). x.head) way) arc.head
head_on_way [] arc m = absurd (Contains-none arc m)
head_on_way (a ∷ way) arc m =
    elim (Contains-cases a way arc m) [
      | inl e ↦ subst (λ (x : ℕ). Contains (map (λ (y : Arc). y.head) (a ∷ way)) x) (ap (λ (x : Arc). x.head) e) (Contains-here a.head (map (λ (y : Arc). y.head) way))
      | inr n ↦ Contains-there a.head (map (λ (y : Arc). y.head) way) arc.head (head_on_way way arc n)
    ]

-- a way does not leave a set that no arc leaves
pub stays_inside : (arcs : List Arc) (P : ℕ → Type 0) → ((arc : Arc) → Contains arcs arc → P arc.tail → P arc.head) → (u v : ℕ) (way : List Arc) → ArcPath arcs u way v → P u → P v
stays_inside arcs P closed u v [] p h = subst P p h
stays_inside arcs P closed u v (arc ∷ way) p h = stays_inside arcs P closed arc.head v way p.2 (closed arc p.0 (subst P (sym p.1) h))

-- a way that passes no node twice
pub record Simple (arcs : List Arc) (u v : ℕ) : Type 0 where
  pub way : List Arc
  pub leads : ArcPath arcs u way v
  pub once : AreDistinct (nodes_of u way)

-- from each of its nodes the rest of such a way leads on
rest_from : (arcs : List Arc) (u v : ℕ) (way : List Arc) → ArcPath arcs u way v → AreDistinct (nodes_of u way) → (x : ℕ) → Contains (nodes_of u way) x → Simple arcs x v
rest_from arcs u v [] p d x m =
    elim (Contains-cases u [] x m) [
      | inl e ↦ subst (λ (n : ℕ). Simple arcs n v) e (record { way = []; leads = p; once = d })
      | inr n ↦ absurd (Contains-none x n)
    ]
rest_from arcs u v (arc ∷ way) p d x m =
    elim (Contains-cases u (nodes_of arc.head way) x m) [
      | inl e ↦ subst (λ (n : ℕ). Simple arcs n v) e (record { way = arc ∷ way; leads = p; once = d })
      | inr n ↦ rest_from arcs arc.head v way p.2 (AllPairs-tail (λ a b. a ≢ b) u (nodes_of arc.head way) d) x n
    ]

-- a number stands in a list or does not
pub member_or_not : (x : ℕ) (xs : List ℕ) → Contains xs x ⊎ (Contains xs x → ⊥)
member_or_not x [] = inr (Contains-none x)
member_or_not x (y ∷ ys) =
    elim (cases_eq y x) [
      | inl e ↦ inl (subst (λ (n : ℕ). Contains (y ∷ ys) n) e (Contains-here y ys))
      | inr ne ↦ elim (member_or_not x ys) [
        | inl m ↦ inl (Contains-there y ys x m)
        | inr out ↦ inr (λ m. elim (Contains-cases y ys x m) [ inl e ↦ ne e | inr n ↦ out n ])
      ]
    ]

-- where some way leads, one leads that passes no node twice
pub simple_way : (arcs : List Arc) (u v : ℕ) (way : List Arc) → ArcPath arcs u way v → Simple arcs u v
simple_way arcs u v [] p = record { way = []; leads = p; once = AllPairs-cons (λ a b. a ≢ b) u [] (λ k d l. absurd (omega arith)) (AllPairs-nil (λ a b. a ≢ b)) }
simple_way arcs u v (arc ∷ way) p =
    let rest : Simple arcs arc.head v = simple_way arcs arc.head v way p.2 in
    elim (member_or_not u (nodes_of arc.head rest.way)) [
      | inl m ↦ rest_from arcs arc.head v rest.way rest.leads rest.once u m
      | inr out ↦ record {
        way = arc ∷ rest.way;
        leads = (p.0, p.1, rest.leads);
        once = AllPairs-cons (λ a b. a ≢ b) u (nodes_of arc.head rest.way)
            (All-from_members (λ x. u ≢ x) (nodes_of arc.head rest.way) (λ x m e. out (subst (λ (n : ℕ). Contains (nodes_of arc.head rest.way) n) (sym e) m))) rest.once;
      }
    ]

-- whether some way leads from u to v, as a test: over the arcs after the first, or by way of the first
unfoldable pub leads : List Arc → ℕ → ℕ → Bool
leads [] u v = u == v
leads (arc ∷ arcs) u v = leads arcs u v || (leads arcs u arc.tail && leads arcs arc.head v)

pub way_from_leads : (arcs : List Arc) (u v : ℕ) → IsTrue (leads arcs u v) → Leads arcs u v
unfolding leads
way_from_leads [] u v h = ([], eqb-true u v h)
way_from_leads (arc ∷ arcs) u v h =
    elim (or_cases (leads arcs u v) (leads arcs u arc.tail && leads arcs arc.head v) h) [
      | inl without ↦ let w : Leads arcs u v = way_from_leads arcs u v without in
          (w.0, Path-over arcs (arc ∷ arcs) (λ b m. Contains-there arc arcs b m) u v w.0 w.1)
      | inr over ↦
          let both = and_parts (leads arcs u arc.tail) (leads arcs arc.head v) over in
          let to : Leads arcs u arc.tail = way_from_leads arcs u arc.tail both.0 in
          let on : Leads arcs arc.head v = way_from_leads arcs arc.head v both.1 in (
            to.0 ++ arc ∷ on.0,
            Path-append (arc ∷ arcs) u arc.tail v to.0 (arc ∷ on.0) (Path-over arcs (arc ∷ arcs) (λ b m. Contains-there arc arcs b m) u arc.tail to.0 to.1)
                (Contains-here arc arcs, refl, Path-over arcs (arc ∷ arcs) (λ b m. Contains-there arc arcs b m) arc.head v on.0 on.1),
          )
    ]

or_left : (a b : Bool) → a ≡ true → (a || b) ≡ true
or_left true b h = refl
or_left false b h = absurd (false≢true h)

or_right : (a b : Bool) → b ≡ true → (a || b) ≡ true
or_right true b h = refl
or_right false b h = h

pub leads-start : (arcs : List Arc) (u : ℕ) → IsTrue (leads arcs u u)
unfolding leads
leads-start [] u = eq-eqb u u refl
leads-start (arc ∷ arcs) u = or_left (leads arcs u u) (leads arcs u arc.tail && leads arcs arc.head u) (leads-start arcs u)

-- no arc leads out of the nodes that the test passes
pub leads-closed : (arcs : List Arc) (u : ℕ) (arc : Arc) → Contains arcs arc → IsTrue (leads arcs u arc.tail) → IsTrue (leads arcs u arc.head)
unfolding leads
leads-closed [] u arc m h = absurd (Contains-none arc m)
leads-closed (a ∷ arcs) u arc m h =
    elim (or_cases (leads arcs u arc.tail) (leads arcs u a.tail && leads arcs a.head arc.tail) h) [
      | inl to ↦ elim (Contains-cases a arcs arc m) [
        | inl e ↦ or_right (leads arcs u arc.head) (leads arcs u a.tail && leads arcs a.head arc.head)
            (and_from (leads arcs u a.tail) (leads arcs a.head arc.head) (subst (λ (x : Arc). leads arcs u x.tail ≡ true) (sym e) to)
            (subst (λ (x : Arc). leads arcs a.head x.head ≡ true) e (leads-start arcs a.head)))
        | inr n ↦ or_left (leads arcs u arc.head) (leads arcs u a.tail && leads arcs a.head arc.head) (leads-closed arcs u arc n to)
      ]
      | inr over ↦
          let both = and_parts (leads arcs u a.tail) (leads arcs a.head arc.tail) over in
          or_right (leads arcs u arc.head) (leads arcs u a.tail && leads arcs a.head arc.head)
          (and_from (leads arcs u a.tail) (leads arcs a.head arc.head) both.0 (elim (Contains-cases a arcs arc m) [
            | inl e ↦ subst (λ (x : Arc). leads arcs a.head x.head ≡ true) e (leads-start arcs a.head)
            | inr n ↦ leads-closed arcs a.head arc n both.1
          ]))
    ]

pub leads_from_way : (arcs : List Arc) (u v : ℕ) → Leads arcs u v → IsTrue (leads arcs u v)
leads_from_way arcs u v w = stays_inside arcs (λ n. IsTrue (leads arcs u n)) (leads-closed arcs u) u v w.0 w.1 (leads-start arcs u)
