-- Right witnesses on the network of two routers: between the users the link is the one path and the one cut.
use Rattle.std.proofs.Common.{◌≡◌, ℕ, zero, suc, ◌≢◌, inr, true, false, Some, [], ◌∷◌, refl, sym, ◌∙◌, ap, subst, arith}
use Rattle.std.specs.Prelude.{All, Contains, slice_get, unwrap_or, is_some}
use Rattle.std.proofs.lemmas.Bool.{false≢true}
use Rattle.std.proofs.lemmas.List.Kept.{AllPairs-cons}
use Rattle.arc_base.specs.declared.place.Link.{Link}
use Rattle.arc_base.proofs.Items.{AllPairs-single}
use Rattle.net_model.specs.declared.lists.Packet.{Packet}
use Rattle.net_model.specs.declared.policies.Class.{Class}
use Rattle.net_model.specs.declared.rows.FaceRow.{FaceRow}
use Rattle.net_model.specs.declared.rows.LinkRow.{LinkRow}
use Rattle.net_model.specs.Services.{whole_service}
use Rattle.net_model.specs.Routing.{Arc, IsArc}
use Rattle.net_model.specs.Forwarding.{Ends, AreEnds, ArcPermits, ListPermits}
use Rattle.net_model.specs.Policies.{IsClear}
use Rattle.net_model.specs.Witnesses.{IsPath, LeavesSide}
use Rattle.net_laws.specs.Examples.{OnePathIsRight, OneCutIsRight, OneWalkIsRight, link_1, over_link_1, two_routers, users_1, users_2, owner_1, owner_2}
use Rattle.net_laws.proofs.TwoRouters.{forth, is_forth, forth_routed}

abbrev pub ends : Ends
ends = record { source = owner_1; target = owner_2; to = users_2 }

abbrev pub users : Class
users = record { from = users_1; to = users_2; service = whole_service }

are_ends : AreEnds two_routers users ends
are_ends = record { source = (0, omega arith, refl); from = λ a h. h; target = (2, omega arith, refl); host = refl; to = λ a h. h }

-- no interface has a list
no_lists : (k : ℕ) (f : FaceRow) → slice_get two_routers.faces k ≡ Some f → (p : Packet) → ListPermits two_routers f.list_out p × ListPermits two_routers f.list_in p
no_lists zero f e p = subst (λ (x : FaceRow). ListPermits two_routers x.list_out p × ListPermits two_routers x.list_in p) (ap (λ o. unwrap_or o owner_1) e) (tt, tt)
no_lists (suc zero) f e p = subst (λ (x : FaceRow). ListPermits two_routers x.list_out p × ListPermits two_routers x.list_in p) (ap (λ o. unwrap_or o owner_1) e) (tt, tt)
no_lists (suc (suc zero)) f e p = subst (λ (x : FaceRow). ListPermits two_routers x.list_out p × ListPermits two_routers x.list_in p) (ap (λ o. unwrap_or o owner_1) e) (tt, tt)
no_lists (suc (suc (suc zero))) f e p = subst (λ (x : FaceRow). ListPermits two_routers x.list_out p × ListPermits two_routers x.list_in p) (ap (λ o. unwrap_or o owner_1) e) (tt, tt)
no_lists (suc (suc (suc (suc k)))) f e p = absurd (false≢true (ap is_some e))

permit : (arc : Arc) → IsArc two_routers arc → (p : Packet) → ArcPermits two_routers arc p
permit arc is_arc p = ((no_lists _ arc.tail is_arc.tail p).0, (no_lists _ arc.head is_arc.head p).1)

clear : IsClear two_routers ends users
clear = inr (λ arc is_arc routed p of. permit arc is_arc p)

path : IsPath two_routers ends over_link_1
unfolding forth
path = record { arcs = forth ∷ []; links = refl; leads = (is_forth, forth_routed, refl, refl) }

only : {X : Type 0} (P : X → Type 0) (x : X) → P x → All P (x ∷ [])
only P x h zero d l = h
only P x h (suc k) d l = absurd (omega (arith, l))

pub one_path_is_right : OnePathIsRight
one_path_is_right = record {
  ends = ends;
  are_ends = are_ends;
  right = record {
    clear = clear;
    enters = λ p of. (refl, tt);
    leaves = λ p of. (refl, tt);
    apart = λ e. refl;
    together = λ e. absurd (omega (arith, e));
    are_paths = only (IsPath two_routers ends) over_link_1 path;
    once = AllPairs-single (λ (l : Link) (m : Link). l ≢ m) link_1;
  };
}

pub one_walk_is_right : OneWalkIsRight
unfolding forth
one_walk_is_right = record {
  ends = ends;
  are_ends = are_ends;
  right = record {
    part = (λ a h. h, λ a h. h, λ s h. h);
    path = record { arcs = forth ∷ []; links = refl; leads = (is_forth, forth_routed, refl, refl) };
    once = AllPairs-cons (λ (u : ℕ) (v : ℕ). u ≢ v) 0 (1 ∷ []) (only (λ (v : ℕ). 0 ≢ v) 1 (λ e. omega (arith, e))) (AllPairs-single (λ (u : ℕ) (v : ℕ). u ≢ v) 1);
    enters = λ p of. (refl, tt);
    permitted = λ p of. (permit forth is_forth p, tt);
    leaves = λ p of. (refl, tt);
    breaks = (tt, tt);
  };
}

forth_leaves : LeavesSide two_routers users_2 (true ∷ false ∷ []) forth
unfolding forth
forth_leaves = record { is_arc = is_forth; routed = forth_routed; tail = refl; head = false≢true }

one_link : (k : ℕ) (r : LinkRow) → slice_get two_routers.links k ≡ Some r → k ≡ 0
one_link zero r e = refl
one_link (suc k) r e = absurd (false≢true (ap is_some e))

cut_has : (l : Link) → Contains (link_1 ∷ []) l → (arc : Arc) × (arc.link ≡ l.0) × LeavesSide two_routers users_2 (true ∷ false ∷ []) arc
unfolding forth
cut_has l (zero, within, e) = (forth, ap (λ (x : Link). x.0) e, forth_leaves)
cut_has l (suc k, within, e) = absurd (omega (arith, within))

has_cut : (l : Link) → (arc : Arc) × (arc.link ≡ l.0) × LeavesSide two_routers users_2 (true ∷ false ∷ []) arc → Contains (link_1 ∷ []) l
has_cut l (arc, link, leaving) =
    let zero_is : arc.link ≡ 0 = one_link arc.link arc.row leaving.is_arc.link in
    (0, omega arith, ap (λ (k : ℕ). record { 0 = k }) (sym zero_is ∙ link))

pub one_cut_is_right : OneCutIsRight
one_cut_is_right = record {
  ends = ends;
  are_ends = are_ends;
  right = record {
    apart = λ e. omega (arith, e);
    clear = clear;
    flags = refl;
    source = refl;
    target = false≢true;
    rising = λ k l. absurd (omega (arith, l));
    cut = λ l. (cut_has l, has_cut l);
    few = omega arith;
  };
}
