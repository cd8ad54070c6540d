-- Paths that keep off each other share only their ends.
use Rattle.std.proofs.Common.{◌≡◌, ◌≢◌, ℕ, ◌+◌, ◌≤◌, ◌⊎◌, inl, inr, Bool, List, [], ◌∷◌, length, map, get_or, drop, refl, sym, ◌∙◌, subst, arith}
use Rattle.std.specs.Prelude.{IsTrue, ◌↔◌, All, AllPairs, Contains}
use Rattle.std.specs.List.{AllByRecursion}
use Rattle.std.proofs.lemmas.Bool.Decides.{eqb_tells}
use Rattle.std.proofs.lemmas.List.{drop_all}
use Rattle.arc_base.proofs.Items.{AllPairs-none, Contains-head, Contains-tail, Contains-cases, Contains-none}
use Rattle.net_model.specs.declared.policies.Class.{Class}
use Rattle.net_model.specs.declared.rows.Network.{Network}
use Rattle.net_model.specs.declared.verdicts.LinkPath.{LinkPath}
use Rattle.net_model.specs.Routing.{Arc, head_router}
use Rattle.net_model.specs.Forwarding.{Ends, source_router, target_router}
use Rattle.net_model.specs.Validity.{IsValid}
use Rattle.net_model.specs.Witnesses.{IsPath, routers_of}
use Rattle.witness_check.specs.Trails.{IsTrail, IsTrailOnce, Avoids}
use Rattle.witness_check.proofs.Following.{one_way}
use Rattle.arc_nodecut.specs.NodeWitnesses.{GoesBy, PassesRouter, ShareOnlyEnds, IsServed, IsRightApart}
use Rattle.arc_nodecut.specs.NodePaths.{MayPass, KeepsOff, GoesOff}

-- what holds of each arc's head holds of each router that is one
heads_each : (Q : ℕ → Type 0) (arcs : List Arc) → AllByRecursion (λ arc. Q (head_router arc)) arcs → (router : ℕ) → Contains (map head_router arcs) router → Q router
heads_each Q [] each router at = absurd (Contains-none router at)
heads_each Q (a ∷ arcs) each router at =
    elim (Contains-cases (head_router a) router (map head_router arcs) at) [
      | inl same ↦ subst Q same each.0
      | inr later ↦ heads_each Q arcs each.1 router later
    ]

each_head : (Q : ℕ → Type 0) (arcs : List Arc) → ((router : ℕ) → Contains (map head_router arcs) router → Q router) → AllByRecursion (λ arc. Q (head_router arc)) arcs
each_head Q [] all = tt
each_head Q (a ∷ arcs) all = (
  all (head_router a) (Contains-head (head_router a) (map head_router arcs)),
  each_head Q arcs (λ router later. all router (Contains-tail (head_router a) router (map head_router arcs) later)),
)

-- a trail that repeats no router and has more or less than one link is a path by routers between the ends
pub goes_by_if : (net : Network) (ends : Ends) (path : LinkPath) → length path.links ≢ 1 → (b : Bool) →
    (IsTrue b ↔ IsTrailOnce net ends.to (source_router ends) path.links (target_router ends)) → IsTrue b ↔ GoesBy net ends path
goes_by_if net ends path long b tells = (
  λ t. (let trail = tells.0 t in record { path = record { arcs = trail.arcs; links = trail.over; leads = trail.leads }; once = trail.once; long = long }),
  λ by. tells.1 (record { arcs = by.path.arcs; over = by.path.links; leads = by.path.leads; once = by.once }),
)

module _ (net : Network) (valid : IsValid net) (ends : Ends) where
  abbrev pub path_of : (P : Arc → Type 0) (shown : LinkPath) → IsTrail net ends.to P (source_router ends) shown.links (target_router ends) → IsPath net ends shown
  path_of P shown trail = record { arcs = trail.arcs; links = trail.over; leads = trail.leads }

  -- a router that is passed is on the path's way, which its links name
  passed_on : (shown : LinkPath) (arcs : List Arc) (path : IsPath net ends shown) → path.arcs ≡ arcs → (router : ℕ) → PassesRouter net ends shown router →
      Contains (routers_of (source_router ends) arcs) router
  passed_on shown arcs path is router passes =
      let same : passes.path.arcs ≡ path.arcs =
      one_way net ends.to valid (source_router ends) (target_router ends) (target_router ends) shown.links passes.path.arcs path.arcs passes.path.links path.links passes.path.leads path.leads in
      subst (λ (xs : List Arc). Contains (routers_of (source_router ends) xs) router) (same ∙ is) passes.there

  shared_head : (q : LinkPath) (router : ℕ) → PassesRouter net ends q router → MayPass net ends q router → (router ≡ source_router ends) ⊎ (router ≡ target_router ends)
  shared_head q router at_q (inl source) = inl source
  shared_head q router at_q (inr (inl target)) = inr target
  shared_head q router at_q (inr (inr avoid)) =
      elim (Contains-cases (source_router ends) router (map head_router avoid.arcs) (passed_on q avoid.arcs (path_of (Avoids router) q avoid) refl router at_q)) [
        | inl same ↦ inl (sym same)
        | inr later ↦ absurd (heads_each (λ (h : ℕ). h ≢ router) avoid.arcs avoid.each router later refl)
      ]

  pub shared : (p q : LinkPath) → GoesOff net ends p q → ShareOnlyEnds net ends p q
  shared p q off router at_p at_q =
      elim (Contains-cases (source_router ends) router (map head_router off.arcs) (passed_on p off.arcs (path_of (KeepsOff net ends q) p off) refl router at_p)) [
        | inl same ↦ inl (sym same)
        | inr later ↦ shared_head q router at_q (heads_each (MayPass net ends q) off.arcs off.each router later)
      ]

  may_pass_head : (p q : LinkPath) (path_p : IsPath net ends p) (path_q : IsPath net ends q) → ShareOnlyEnds net ends p q → (router : ℕ) →
      Contains (map head_router path_p.arcs) router → MayPass net ends q router
  may_pass_head p q path_p path_q share router in_p =
      elim (eqb_tells router (source_router ends)) [
        | inl at ↦ inl at.1
        | inr off_source ↦ elim (eqb_tells router (target_router ends)) [
          | inl at ↦ inr (inl at.1)
          | inr off_target ↦
              let at_p : PassesRouter net ends p router = record { path = path_p; there = Contains-tail (source_router ends) router (map head_router path_p.arcs) in_p } in
              let never : (h : ℕ) → Contains (map head_router path_q.arcs) h → h ≢ router = λ (h : ℕ) (in_q : Contains (map head_router path_q.arcs) h) (same : h ≡ router).
              (let at_q : PassesRouter net ends q router =
              record { path = path_q; there = Contains-tail (source_router ends) router (map head_router path_q.arcs) (subst (Contains (map head_router path_q.arcs)) same in_q) } in
              elim (share router at_p at_q) [ inl source ↦ off_source.1 source | inr target ↦ off_target.1 target ]) in
              inr (inr (record { arcs = path_q.arcs; over = path_q.links; leads = path_q.leads; each = each_head (λ (h : ℕ). h ≢ router) path_q.arcs never }))
        ]
      ]

  pub off_of : (p q : LinkPath) (path_p : IsPath net ends p) (path_q : IsPath net ends q) → ShareOnlyEnds net ends p q → GoesOff net ends p q
  off_of p q path_p path_q share = record {
    arcs = path_p.arcs;
    over = path_p.links;
    leads = path_p.leads;
    each = each_head (MayPass net ends q) path_p.arcs (may_pass_head p q path_p path_q share);
  }

  module _ (paths : List LinkPath) where
    pub off_pairs : All (GoesBy net ends) paths → AllPairs (ShareOnlyEnds net ends) paths → AllPairs (GoesOff net ends) paths
    off_pairs by pairs i j d less within =
        let one : GoesBy net ends (get_or paths i d) = by i d (omega (arith, less, within)) in
        let other : GoesBy net ends (get_or paths j d) = by j d within in
        off_of (get_or paths i d) (get_or paths j d) one.path other.path (pairs i j d less within)

    -- what the check of paths tests makes them right
    pub apart_if : (k : ℕ) (whole : Class) → (source_router ends ≡ target_router ends → ⊥) → length paths ≡ k + 1 → All (GoesBy net ends) paths → AllPairs (GoesOff net ends) paths →
        (b : Bool) → (IsTrue b ↔ IsServed net ends whole) → IsTrue b ↔ IsRightApart net ends k whole paths
    apart_if k whole apart count by off b tells = (
      λ t. record {
        served = tells.0 t;
        apart = apart;
        count = count;
        each = by;
        disjoint = λ i j d less within. shared (get_or paths i d) (get_or paths j d) (off i j d less within);
      },
      λ right. tells.1 right.served,
    )

-- past the end of the list no pair is left
pub pairs_end : {X : Type 0} (R : X → X → Type 0) (A : Type 0) (xs : List X) (i : ℕ) → length xs ≤ i → (A ↔ AllPairs R (drop i xs)) → A
pairs_end {X} R A xs i past before = before.1 (subst (λ (ys : List X). AllPairs R ys) (sym (drop_all i xs past)) (AllPairs-none R))
