-- Two stable maps for one host network and one failure set are equal.
use Rattle.std.proofs.Common.{◌≡◌, ℕ, suc, zero, ◌+◌, ◌<◌, ◌≤◌, ◌≢◌, ◌⊎◌, inl, inr, Bool, Option, Some, None, length, ap, refl, sym, ◌∙◌, subst, arith}
use Rattle.std.specs.Prelude.{MatchOption, unwrap_or}
use Rattle.std.proofs.lemmas.Bool.Decides.{eqb_tells}
use Rattle.std.proofs.lemmas.Option.{none-some}
use Rattle.arc_base.specs.declared.prefix.Prefix.{Prefix}
use Rattle.net_model.specs.declared.rows.Protocol.{Protocol}
use Rattle.net_model.specs.declared.rows.Protocol.TheVariants.{Ospf, Bgp}
use Rattle.net_model.specs.declared.rows.Network.{Network}
use Rattle.net_model.specs.Routing.{Arc, IsArc, Offers, IsStable, cost, cost_at, tail_face, head_face, head_router}
use Rattle.net_model.specs.Validity.{IsValid, IsValidFace}
use Rattle.net_laws.specs.Laws.{HasOneStableMap}

-- the costs of a valid network are positive
pub cost_at-pos : (protocol : Protocol) (arc : Arc) → 1 ≤ arc.tail.cost → 1 ≤ cost_at protocol arc
cost_at-pos Ospf arc h = h
cost_at-pos Bgp arc h = omega arith

pub cost-pos : (net : Network) → IsValid net → (arc : Arc) → IsArc net arc → 1 ≤ cost net arc
cost-pos net valid arc is_arc =
    let face : IsValidFace net (tail_face arc).0 arc.tail = valid.faces (tail_face arc).0 arc.tail is_arc.tail in
    cost_at-pos net.protocol arc face.cost_low

-- an arc leads to a router of the network
pub head_in : (net : Network) → IsValid net → (arc : Arc) → IsArc net arc → head_router arc < length net.routers
head_in net valid arc is_arc =
    let face : IsValidFace net (head_face arc).0 arc.head = valid.faces (head_face arc).0 arc.head is_arc.head in face.router

pub value_of : (o : Option ℕ) → (o ≡ None) ⊎ ((n : ℕ) × (o ≡ Some n))
value_of None = inl refl
value_of (Some n) = inr (n, refl)

module _ (net : Network) (valid : IsValid net) (to : Prefix) (owner : ℕ) (failed : ℕ → Bool) where
  -- what is offered to a router is known and no more
  pub offered : (e : ℕ → Option ℕ) → IsStable net to owner failed e → (u n : ℕ) → u < length net.routers → u ≢ owner →
      Offers net to failed e u n → (m : ℕ) × (e u ≡ Some m) × (m ≤ n)
  offered e stable u n u_in apart offer =
      let Nothing : Type 0 = (k : ℕ) → Offers net to failed e u k → ⊥ in
      let Least : ℕ → Type 0 = λ least. Offers net to failed e u least × ((k : ℕ) → Offers net to failed e u k → least ≤ k) in
      let at : MatchOption (e u) Nothing Least = stable.elsewhere u u_in apart in
      elim (value_of (e u)) [
        | inl none ↦ let nothing : Nothing = subst (λ (o : Option ℕ). MatchOption o Nothing Least) none at in absurd (nothing n offer)
        | inr some ↦ let least : Least some.0 = subst (λ (o : Option ℕ). MatchOption o Nothing Least) some.1 at in
            (some.0, some.1, least.1 n offer)
      ]

  -- what a router with a distance is offered
  pub reached : (d : ℕ → Option ℕ) → IsStable net to owner failed d → (u n : ℕ) → u < length net.routers → u ≢ owner →
      d u ≡ Some n → Offers net to failed d u n
  reached d stable u n u_in apart known =
      let Nothing : Type 0 = (k : ℕ) → Offers net to failed d u k → ⊥ in
      let Least : ℕ → Type 0 = λ least. Offers net to failed d u least × ((k : ℕ) → Offers net to failed d u k → least ≤ k) in
      let at : MatchOption (d u) Nothing Least = stable.elsewhere u u_in apart in
      let least : Least n = subst (λ (o : Option ℕ). MatchOption o Nothing Least) known at in least.0

  -- the one map's distances are no more than the other's
  no_more : (d e : ℕ → Option ℕ) → IsStable net to owner failed d → IsStable net to owner failed e →
      (bound u n : ℕ) → n < bound → u < length net.routers → d u ≡ Some n → (m : ℕ) × (e u ≡ Some m) × (m ≤ n)
  no_more d e of_d of_e zero u n below u_in known = absurd (omega arith)
  no_more d e of_d of_e (suc bound) u n below u_in known =
      elim (eqb_tells u owner) [
        | inl at ↦ (0, ap e at.1 ∙ of_e.at_owner, omega arith)
        | inr off ↦
            let o : Offers net to failed d u n = reached d of_d u n u_in off.1 known in
            let positive : 1 ≤ cost net o.arc = cost-pos net valid o.arc o.usable.is_arc in
            let less : o.rest < bound = omega (arith, o.sum) in
            let next : (m : ℕ) × (e (head_router o.arc) ≡ Some m) × (m ≤ o.rest) =
            no_more d e of_d of_e bound (head_router o.arc) o.rest less (head_in net valid o.arc o.usable.is_arc) o.head in
            let offer : Offers net to failed e u (cost net o.arc + next.0) =
            record { arc = o.arc; usable = o.usable; tail = o.tail; rest = next.0; head = next.1; sum = refl } in
            let best : (m : ℕ) × (e u ≡ Some m) × (m ≤ cost net o.arc + next.0) = offered e of_e u (cost net o.arc + next.0) u_in off.1 offer in
            (best.0, best.1, omega (arith, o.sum, next.2, best.2))
      ]

pub one_stable_map : (net : Network) → IsValid net → HasOneStableMap net
one_stable_map net valid to owner failed d e of_d of_e u u_in =
    elim (value_of (d u)) [
      | inl none ↦ elim (value_of (e u)) [
        | inl none_e ↦ none ∙ sym none_e
        | inr some ↦
            let back : (m : ℕ) × (d u ≡ Some m) × (m ≤ some.0) = no_more net valid to owner failed e d of_e of_d (some.0 + 1) u some.0 (omega arith) u_in some.1 in
            absurd (none-some back.0 (sym none ∙ back.1))
      ]
      | inr some ↦
          let there : (m : ℕ) × (e u ≡ Some m) × (m ≤ some.0) = no_more net valid to owner failed d e of_d of_e (some.0 + 1) u some.0 (omega arith) u_in some.1 in
          let back : (m : ℕ) × (d u ≡ Some m) × (m ≤ there.0) = no_more net valid to owner failed e d of_e of_d (there.0 + 1) u there.0 (omega arith) u_in there.1 in
          let same : some.0 ≡ back.0 = ap (λ (o : Option ℕ). unwrap_or o 0) (sym some.1 ∙ back.1) in
          let equal : some.0 ≡ there.0 = omega (arith, same, there.2, back.2) in
          some.1 ∙ ap Some equal ∙ sym there.1
    ]
