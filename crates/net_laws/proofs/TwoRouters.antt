-- The network of two routers.
use Rattle.std.proofs.Common.{◌≡◌, ℕ, zero, suc, ◌<◌, ◌≤◌, ◌≢◌, true, false, Option, Some, refl, sym, ap, arith}
use Rattle.std.specs.Prelude.{Any, MatchOption, slice_get, unwrap_or, is_some}
use Rattle.std.proofs.lemmas.Bool.{false≢true}
use Rattle.net_model.specs.declared.rows.FaceRow.{FaceRow}
use Rattle.net_model.specs.Routing.{Arc, IsArc, IsRouted, Offers, Advertises}
use Rattle.net_laws.specs.Examples.{two_routers, users_2, end_1, owner_2, end_2, BothWaysRouted, distances, DistancesAreStable}

unfoldable pub forth : Arc
forth = record { link = 0; from_a = true; row = record { a = record { 0 = 1 }; b = record { 0 = 3 }; waypoint = false }; tail = end_1; head = end_2 }

back : Arc
back = record { link = 0; from_a = false; row = record { a = record { 0 = 1 }; b = record { 0 = 3 }; waypoint = false }; tail = end_2; head = end_1 }

told : Any (Advertises users_2) two_routers.faces
told = (2, owner_2, omega arith, refl, record { host = refl; told = refl; up = refl })

pub is_forth : IsArc two_routers forth
unfolding forth
is_forth = record { link = refl; tail = refl; head = refl }

is_back : IsArc two_routers back
unfolding back
is_back = record { link = refl; tail = refl; head = refl }

pub forth_routed : IsRouted two_routers users_2 forth
unfolding forth
forth_routed = record {
  told = told;
  carries = record {
    able_tail = record { up = refl; addressed = refl; takes_part = refl };
    able_head = record { up = refl; addressed = refl; takes_part = refl };
    open_tail = record { active = refl; not_down = tt };
    open_head = record { active = refl; not_down = tt };
    filter = tt;
  };
}

back_routed : IsRouted two_routers users_2 back
unfolding back
back_routed = record {
  told = told;
  carries = record {
    able_tail = record { up = refl; addressed = refl; takes_part = refl };
    able_head = record { up = refl; addressed = refl; takes_part = refl };
    open_tail = record { active = refl; not_down = tt };
    open_head = record { active = refl; not_down = tt };
    filter = tt;
  };
}

pub both_ways_routed : BothWaysRouted
unfolding forth back
both_ways_routed = (
  record { arc = forth; link_is = refl; direction = refl; is_arc = is_forth; routed = forth_routed },
  record { arc = back; link_is = refl; direction = refl; is_arc = is_back; routed = back_routed },
)

-- each interface has the cost 1
costs : (k : ℕ) (f : FaceRow) → slice_get two_routers.faces k ≡ Some f → f.cost ≡ 1
costs zero f e = ap (λ (o : Option FaceRow). (unwrap_or o f).cost) (sym e)
costs (suc zero) f e = ap (λ (o : Option FaceRow). (unwrap_or o f).cost) (sym e)
costs (suc (suc zero)) f e = ap (λ (o : Option FaceRow). (unwrap_or o f).cost) (sym e)
costs (suc (suc (suc zero))) f e = ap (λ (o : Option FaceRow). (unwrap_or o f).cost) (sym e)
costs (suc (suc (suc (suc k)))) f e = absurd (false≢true (ap is_some e))

at_least_one : (u n : ℕ) → Offers two_routers users_2 (λ link. false) distances u n → 1 ≤ n
at_least_one u n o = omega (arith, o.sum, costs _ _ o.usable.is_arc.tail)

first_offer : Offers two_routers users_2 (λ link. false) distances 0 1
unfolding forth
first_offer = record {
  arc = forth;
  usable = record { is_arc = is_forth; routed = forth_routed; left = refl };
  tail = refl;
  rest = 0;
  head = refl;
  sum = refl;
}

elsewhere : (u : ℕ) → u < 2 → u ≢ 1 →
    MatchOption (distances u) ((n : ℕ) → Offers two_routers users_2 (λ link. false) distances u n → ⊥)
    (λ least. Offers two_routers users_2 (λ link. false) distances u least × ((n : ℕ) → Offers two_routers users_2 (λ link. false) distances u n → least ≤ n))
elsewhere zero within apart = (first_offer, at_least_one 0)
elsewhere (suc zero) within apart = absurd (apart refl)
elsewhere (suc (suc u)) within apart = absurd (omega arith)

pub distances_are_stable : DistancesAreStable
distances_are_stable = record { at_owner = refl; elsewhere = elsewhere }
