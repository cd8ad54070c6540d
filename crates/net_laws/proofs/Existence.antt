-- There is a stable map: routers are settled one by one, the one with the least offer next.
use Rattle.std.proofs.Common.{◌≡◌, ℕ, zero, suc, ◌+◌, ◌<◌, ◌≤◌, ◌≢◌, ◌⊎◌, inl, inr, Bool, Option, Some, None, List, [], ◌∷◌, length, ap, refl, sym, ◌∙◌, subst, arith}
use Rattle.std.specs.Prelude.{MatchOption, is_some, is_none, unwrap_or, ◌==◌, if◌then◌else◌}
use Rattle.std.specs.List.{AllByRecursion}
use Rattle.std.proofs.lemmas.Bool.{false≢true, cases_lt, eq-eqb, ne_eqb}
use Rattle.std.proofs.lemmas.Bool.Decides.{eqb_tells}
use Rattle.arc_base.specs.declared.prefix.Prefix.{Prefix}
use Rattle.net_model.specs.declared.rows.Network.{Network}
use Rattle.net_model.specs.Routing.{Arc, IsUsable, Offers, IsStable, cost, tail_router, head_router}
use Rattle.net_model.specs.Validity.{IsValid}
use Rattle.net_laws.proofs.Counting.{total, total-tight, ind}
use Rattle.net_laws.proofs.Decisions.{In, UsableArcs, usable_arcs}
use Rattle.net_laws.proofs.RightPaths.{tail_in}
use Rattle.net_laws.proofs.StableMaps.{value_of}

pub apart : (o : Option ℕ) (n : ℕ) → o ≡ None → o ≡ Some n → ⊥
apart o n e q = false≢true (ap is_some (sym e ∙ q))

one_value : (o : Option ℕ) (m n : ℕ) → o ≡ Some m → o ≡ Some n → m ≡ n
one_value o m n e q = ap (λ (x : Option ℕ). unwrap_or x m) (sym e ∙ q)

-- the map with one more distance
update : (ℕ → Option ℕ) → ℕ → ℕ → ℕ → Option ℕ
update e w n u = if u == w then Some n else e u

update-at : (e : ℕ → Option ℕ) (w n u : ℕ) → u ≡ w → update e w n u ≡ Some n
unfolding update
update-at e w n u same = rw (eq-eqb u w same) refl

update-off : (e : ℕ → Option ℕ) (w n u : ℕ) → (u ≡ w → ⊥) → update e w n u ≡ e u
unfolding update
update-off e w n u off = rw (ne_eqb u w off) refl

module _ (net : Network) (to : Prefix) (t : ℕ) (failed : ℕ → Bool) where
  -- of the listed arcs from unsettled to settled routers, one with the least offer
  record Best (e : ℕ → Option ℕ) (arcs : List Arc) : Type 0 where
    pub arc : Arc
    pub usable : IsUsable net to failed arc
    pub tail : e (tail_router arc) ≡ None
    pub rest : ℕ
    pub head : e (head_router arc) ≡ Some rest
    pub least : (b : Arc) → In arcs b → e (tail_router b) ≡ None → (m : ℕ) → e (head_router b) ≡ Some m → cost net arc + rest ≤ cost net b + m

  NoOffer : (ℕ → Option ℕ) → List Arc → Type 0
  NoOffer e arcs = (b : Arc) → In arcs b → e (tail_router b) ≡ None → (m : ℕ) → e (head_router b) ≡ Some m → ⊥

  -- an arc that is no candidate changes nothing
  skip : (e : ℕ → Option ℕ) (a : Arc) (arcs : List Arc) → (e (tail_router a) ≡ None → (m : ℕ) → e (head_router a) ≡ Some m → ⊥) →
      Best e arcs ⊎ NoOffer e arcs → Best e (a ∷ arcs) ⊎ NoOffer e (a ∷ arcs)
  unfolding NoOffer
  skip e a arcs never (inl best) = inl (record {
    arc = best.arc;
    usable = best.usable;
    tail = best.tail;
    rest = best.rest;
    head = best.head;
    least = λ b at none m known. elim at [
      | inl same ↦ absurd (never (ap (λ (x : Arc). e (tail_router x)) same ∙ none) m (ap (λ (x : Arc). e (head_router x)) same ∙ known))
      | inr later ↦ best.least b later none m known
    ];
  })
  skip e a arcs never (inr nothing) = inr (λ b at none m known. elim at [
    | inl same ↦ never (ap (λ (x : Arc). e (tail_router x)) same ∙ none) m (ap (λ (x : Arc). e (head_router x)) same ∙ known)
    | inr later ↦ nothing b later none m known
  ])

  -- a candidate is the best so far, or not
  take : (e : ℕ → Option ℕ) (a : Arc) (arcs : List Arc) → IsUsable net to failed a → e (tail_router a) ≡ None → (r : ℕ) → e (head_router a) ≡ Some r →
      Best e arcs ⊎ NoOffer e arcs → Best e (a ∷ arcs) ⊎ NoOffer e (a ∷ arcs)
  unfolding NoOffer
  take e a arcs usable none r known (inr nothing) = inl (record {
    arc = a;
    usable = usable;
    tail = none;
    rest = r;
    head = known;
    least = λ b at tail m head. elim at [
      | inl same ↦
          let m_is : r ≡ m = one_value (e (head_router a)) r m known (ap (λ (x : Arc). e (head_router x)) same ∙ head) in
          let c_is : cost net a ≡ cost net b = ap (cost net) same in omega (arith, m_is, c_is)
      | inr later ↦ absurd (nothing b later tail m head)
    ];
  })
  take e a arcs usable none r known (inl best) =
      elim (cases_lt (cost net best.arc + best.rest) (cost net a + r)) [
        | inl less ↦ inl (record {
          arc = best.arc;
          usable = best.usable;
          tail = best.tail;
          rest = best.rest;
          head = best.head;
          least = λ b at tail m head. elim at [
            | inl same ↦
                let m_is : r ≡ m = one_value (e (head_router a)) r m known (ap (λ (x : Arc). e (head_router x)) same ∙ head) in
                let c_is : cost net a ≡ cost net b = ap (cost net) same in omega (arith, m_is, c_is, less)
            | inr later ↦ best.least b later tail m head
          ];
        })
        | inr more ↦ inl (record {
          arc = a;
          usable = usable;
          tail = none;
          rest = r;
          head = known;
          least = λ b at tail m head. elim at [
            | inl same ↦
                let m_is : r ≡ m = one_value (e (head_router a)) r m known (ap (λ (x : Arc). e (head_router x)) same ∙ head) in
                let c_is : cost net a ≡ cost net b = ap (cost net) same in omega (arith, m_is, c_is)
            | inr later ↦
                let old : cost net best.arc + best.rest ≤ cost net b + m = best.least b later tail m head in omega (arith, old, more)
          ];
        })
      ]

  best_or_none : (e : ℕ → Option ℕ) (arcs : List Arc) → AllByRecursion (IsUsable net to failed) arcs → Best e arcs ⊎ NoOffer e arcs
  unfolding NoOffer
  best_or_none e [] usable = inr (λ b at tail m head. absurd at)
  best_or_none e (a ∷ arcs) usable =
      let rest : Best e arcs ⊎ NoOffer e arcs = best_or_none e arcs usable.1 in
      elim (value_of (e (tail_router a))) [
        | inr settled ↦ skip e a arcs (λ none m known. apart (e (tail_router a)) settled.0 none settled.1) rest
        | inl none ↦ elim (value_of (e (head_router a))) [
          | inl unknown ↦ skip e a arcs (λ _ m known. apart (e (head_router a)) m unknown known) rest
          | inr r ↦ take e a arcs usable.0 none r.0 r.1 rest
        ]
      ]

  -- part of a stable map: no settled distance is above top, and nothing below top is offered to the others
  record IsSettled (e : ℕ → Option ℕ) (top : ℕ) : Type 0 where
    pub at_owner : e t ≡ Some 0
    pub sound : (u n : ℕ) → e u ≡ Some n → u ≢ t → Offers net to failed e u n
    pub low : (u n : ℕ) → e u ≡ Some n → n ≤ top
    pub least : (u n : ℕ) → e u ≡ Some n → u ≢ t → (m : ℕ) → Offers net to failed e u m → n ≤ m
    pub beyond : (u m : ℕ) → e u ≡ None → Offers net to failed e u m → top ≤ m

  -- only the owner is settled
  first : ℕ → Option ℕ
  first u = if u == t then Some 0 else None

  first_settled : IsSettled first 0
  unfolding first
  first_settled = record {
    at_owner = rw (eq-eqb t t refl) refl;
    sound = λ u n known off. absurd (apart (first u) n (rw (ne_eqb u t off) refl) known);
    low = λ u n known. elim (eqb_tells u t) [
      | inl at ↦ let z : n ≡ 0 = one_value (first u) n 0 known (rw (eq-eqb u t at.1) refl) in omega (arith, z)
      | inr off ↦ absurd (apart (first u) n (rw (ne_eqb u t off.1) refl) known)
    ];
    least = λ u n known off. absurd (apart (first u) n (rw (ne_eqb u t off) refl) known);
    beyond = λ u m none offer. omega arith;
  }

  module _ (all : UsableArcs net to failed) where
    -- where nothing more is offered the map is stable
    finished : (e : ℕ → Option ℕ) (top : ℕ) → IsSettled e top → NoOffer e all.arcs → IsStable net to t failed e
    unfolding NoOffer
    finished e top settled nothing = record {
      at_owner = settled.at_owner;
      elsewhere = λ u within off.
          let Nothing : Type 0 = (n : ℕ) → Offers net to failed e u n → ⊥ in
          let Least : ℕ → Type 0 = λ least. Offers net to failed e u least × ((n : ℕ) → Offers net to failed e u n → least ≤ n) in
          elim (value_of (e u)) [
            | inl none ↦
                let never : Nothing = λ n o. nothing o.arc (all.complete o.arc o.usable) (ap e o.tail ∙ none) o.rest o.head in
                subst (λ (o : Option ℕ). MatchOption o Nothing Least) (sym none) never
            | inr n ↦
                let least : Least n.0 = (settled.sound u n.0 n.1 off, settled.least u n.0 n.1 off) in
                subst (λ (o : Option ℕ). MatchOption o Nothing Least) (sym n.1) least
          ];
    }

    module _ (e : ℕ → Option ℕ) (top : ℕ) (settled : IsSettled e top) (best : Best e all.arcs) where
      w : ℕ
      w = tail_router best.arc

      n : ℕ
      n = cost net best.arc + best.rest

      next : ℕ → Option ℕ
      next = update e (tail_router best.arc) (cost net best.arc + best.rest)

      settled_off : (u m : ℕ) → e u ≡ Some m → u ≡ tail_router best.arc → ⊥
      settled_off u m known at = apart (e u) m (ap e at ∙ best.tail) known

      kept : (u m : ℕ) → e u ≡ Some m → next u ≡ Some m
      unfolding next
      kept u m known = update-off e (tail_router best.arc) (cost net best.arc + best.rest) u (settled_off u m known) ∙ known

      more : (u m : ℕ) → Offers net to failed e u m → Offers net to failed next u m
      more u m o = record { arc = o.arc; usable = o.usable; tail = o.tail; rest = o.rest; head = kept (head_router o.arc) o.rest o.head; sum = o.sum }

      here : Offers net to failed e (tail_router best.arc) (cost net best.arc + best.rest)
      here = record { arc = best.arc; usable = best.usable; tail = refl; rest = best.rest; head = best.head; sum = refl }

      top_le : top ≤ cost net best.arc + best.rest
      top_le = settled.beyond (tail_router best.arc) (cost net best.arc + best.rest) best.tail here

      -- an offer is one of before, or comes through the new router
      old_or_new : (u m : ℕ) → Offers net to failed next u m → Offers net to failed e u m ⊎ (cost net best.arc + best.rest ≤ m)
      unfolding next
      old_or_new u m o =
          elim (eqb_tells (head_router o.arc) (tail_router best.arc)) [
            | inl at ↦
                let rest_is : o.rest ≡ cost net best.arc + best.rest =
                one_value (next (head_router o.arc)) o.rest (cost net best.arc + best.rest) o.head
                (update-at e (tail_router best.arc) (cost net best.arc + best.rest) (head_router o.arc) at.1) in
                inr (omega (arith, o.sum, rest_is))
            | inr off ↦
                let head : e (head_router o.arc) ≡ Some o.rest =
                sym (update-off e (tail_router best.arc) (cost net best.arc + best.rest) (head_router o.arc) off.1) ∙ o.head in
                inl (record { arc = o.arc; usable = o.usable; tail = o.tail; rest = o.rest; head = head; sum = o.sum })
          ]

      -- what is offered to an unsettled router is no less than the best
      unsettled_le : (u m : ℕ) → e u ≡ None → Offers net to failed e u m → cost net best.arc + best.rest ≤ m
      unsettled_le u m none o =
          let le : cost net best.arc + best.rest ≤ cost net o.arc + o.rest =
          best.least o.arc (all.complete o.arc o.usable) (ap e o.tail ∙ none) o.rest o.head in
          omega (arith, le, o.sum)

      now_known : ind (is_none (next (tail_router best.arc))) ≡ 0
      unfolding next
      now_known = ap (λ (x : Option ℕ). ind (is_none x)) (update-at e (tail_router best.arc) (cost net best.arc + best.rest) (tail_router best.arc) refl)

      pointwise : (u : ℕ) → ind (is_none (next u)) ≤ ind (is_none (e u))
      unfolding next
      pointwise u =
          elim (eqb_tells u (tail_router best.arc)) [
            | inl at ↦ let zero_here : ind (is_none (next u)) ≡ 0 = ap (λ (x : ℕ). ind (is_none (next x))) at.1 ∙ now_known in omega (arith, zero_here)
            | inr other ↦
                let same : ind (is_none (next u)) ≡ ind (is_none (e u)) =
                ap (λ (x : Option ℕ). ind (is_none x)) (update-off e (tail_router best.arc) (cost net best.arc + best.rest) u other.1) in
                omega (arith, same)
          ]

      next_settled : IsSettled next (cost net best.arc + best.rest)
      unfolding next
      next_settled = record {
        at_owner = kept t 0 settled.at_owner;
        sound = λ u k known off. elim (eqb_tells u (tail_router best.arc)) [
          | inl at ↦
              let k_is : cost net best.arc + best.rest ≡ k =
              one_value (next u) (cost net best.arc + best.rest) k (update-at e (tail_router best.arc) (cost net best.arc + best.rest) u at.1) known in
              subst (λ (x : ℕ). Offers net to failed next u x) k_is
              (subst (λ (x : ℕ). Offers net to failed next x (cost net best.arc + best.rest)) (sym at.1) (more (tail_router best.arc) (cost net best.arc + best.rest) here))
          | inr other ↦
              let old : e u ≡ Some k = sym (update-off e (tail_router best.arc) (cost net best.arc + best.rest) u other.1) ∙ known in
              more u k (settled.sound u k old off)
        ];
        low = λ u k known. elim (eqb_tells u (tail_router best.arc)) [
          | inl at ↦
              let k_is : k ≡ cost net best.arc + best.rest =
              one_value (next u) k (cost net best.arc + best.rest) known (update-at e (tail_router best.arc) (cost net best.arc + best.rest) u at.1) in
              omega (arith, k_is)
          | inr other ↦
              let old : e u ≡ Some k = sym (update-off e (tail_router best.arc) (cost net best.arc + best.rest) u other.1) ∙ known in
              omega (arith, settled.low u k old, top_le)
        ];
        least = λ u k known off m o. elim (eqb_tells u (tail_router best.arc)) [
          | inl at ↦
              let k_is : k ≡ cost net best.arc + best.rest =
              one_value (next u) k (cost net best.arc + best.rest) known (update-at e (tail_router best.arc) (cost net best.arc + best.rest) u at.1) in
              elim (old_or_new u m o) [
                | inl old ↦ omega (arith, k_is, unsettled_le u m (ap e at.1 ∙ best.tail) old)
                | inr new ↦ omega (arith, k_is, new)
              ]
          | inr other ↦
              let old : e u ≡ Some k = sym (update-off e (tail_router best.arc) (cost net best.arc + best.rest) u other.1) ∙ known in
              elim (old_or_new u m o) [
                | inl before ↦ settled.least u k old off m before
                | inr new ↦ omega (arith, settled.low u k old, top_le, new)
              ]
        ];
        beyond = λ u m none o.
            let other : u ≡ tail_router best.arc → ⊥ =
            λ at. apart (next u) (cost net best.arc + best.rest) none (update-at e (tail_router best.arc) (cost net best.arc + best.rest) u at) in
            let old_none : e u ≡ None = sym (update-off e (tail_router best.arc) (cost net best.arc + best.rest) u other) ∙ none in
            elim (old_or_new u m o) [
              | inl old ↦ unsettled_le u m old_none old
              | inr new ↦ new
            ];
      }

-- how many of the routers below n have no distance
unsettled : ℕ → (ℕ → Option ℕ) → ℕ
unsettled n e = total n (λ u. ind (is_none (e u)))

module _ (net : Network) (valid : IsValid net) (to : Prefix) (t : ℕ) (failed : ℕ → Bool) (all : UsableArcs net to failed) where
  -- one router fewer has no distance
  fewer : (e : ℕ → Option ℕ) (top : ℕ) (settled : IsSettled net to t failed e top) (best : Best net to t failed e all.arcs) →
      unsettled (length net.routers) (next net to t failed all e top settled best) < unsettled (length net.routers) e
  unfolding unsettled
  fewer e top settled best =
      let f : ℕ → ℕ = λ u. ind (is_none (e u)) in
      let g : ℕ → ℕ = λ u. ind (is_none (next net to t failed all e top settled best u)) in
      let w : ℕ = tail_router best.arc in
      let one : ind (is_none (e (tail_router best.arc))) ≡ 1 = ap (λ (x : Option ℕ). ind (is_none x)) best.tail in
      let none : ind (is_none (next net to t failed all e top settled best (tail_router best.arc))) ≡ 0 = now_known net to t failed all e top settled best in
      elim (cases_lt (total (length net.routers) (λ u. ind (is_none (next net to t failed all e top settled best u)))) (total (length net.routers) (λ u. ind (is_none (e u))))) [
        | inl less ↦ less
        | inr same ↦
            let at : ind (is_none (e (tail_router best.arc))) ≤ ind (is_none (next net to t failed all e top settled best (tail_router best.arc))) =
            total-tight (length net.routers) f g (λ u l. pointwise net to t failed all e top settled best u) same (tail_router best.arc) (tail_in net valid best.arc best.usable.is_arc) in
            absurd (omega (arith, at, one, none))
      ]

  -- settling goes on until nothing more is offered
  settle : (fuel : ℕ) (e : ℕ → Option ℕ) (top : ℕ) → IsSettled net to t failed e top → unsettled (length net.routers) e < fuel →
      (d : ℕ → Option ℕ) × IsStable net to t failed d
  settle zero e top settled few = absurd (omega arith)
  settle (suc fuel) e top settled few =
      elim (best_or_none net to t failed e all.arcs all.usable) [
        | inr nothing ↦ (e, finished net to t failed all e top settled nothing)
        | inl best ↦
            settle fuel (next net to t failed all e top settled best) (cost net best.arc + best.rest)
            (next_settled net to t failed all e top settled best) (omega (arith, few, fewer e top settled best))
      ]

pub some_stable_map : (net : Network) → IsValid net → (to : Prefix) (t : ℕ) (failed : ℕ → Bool) → (d : ℕ → Option ℕ) × IsStable net to t failed d
some_stable_map net valid to t failed =
    settle net valid to t failed (usable_arcs net to failed) (unsettled (length net.routers) (first net to t failed) + 1) (first net to t failed) 0
    (first_settled net to t failed) (omega arith)
