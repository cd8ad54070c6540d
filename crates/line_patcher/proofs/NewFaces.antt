-- The interfaces of new lists are interfaces of the network.
use Rattle.std.proofs.Common.{◌≡◌, ℕ, ◌<◌, Bool, true, false, List, [], ◌∷◌, length, get_or, refl, subst, ⊎_elim, Contains, if◌then◌else◌}
use Rattle.std.specs.Prelude.{slice_get, Some, None, Option, All, option_map}
use Rattle.std.specs.List.{filter_map, zip}
use Rattle.std.proofs.lemmas.List.Elements.{Contains-append_cases, Contains-get_or}
use Rattle.std.proofs.lemmas.Option.{none-some, same_Some, slice_get_within}
use Rattle.arc_base.proofs.Items.{Contains-cases, Contains-none, Contains-head, Contains-tail}
use Rattle.net_model.specs.declared.rows.FaceRow.{FaceRow}
use Rattle.net_model.specs.declared.rows.SessionRow.{SessionRow}
use Rattle.net_model.specs.declared.rows.Network.{Network}
use Rattle.edit_list.specs.declared.edit_kinds.Edit.{Edit}
use Rattle.edit_list.specs.declared.list_kinds.NewList.{NewList}
use Rattle.edit_list.specs.declared.list_kinds.NewList.TheVariants.{Route, Packet}
use Rattle.edit_list.specs.Changes.{new_prefixes, new_classes}
use Rattle.edit_list.specs.NewLists.{new_route_list, new_packet_list, new_lists, new_lists_of, new_names_of, named_lists}
use Rattle.arc_base.specs.Numbered.{placed, if_number, is_empty}
use Rattle.edit_list.proofs.Apart.{number_told}
use Rattle.edit_list.proofs.NewListFacts.{picked_from, placed_is}
use Rattle.line_patcher.specs.Working.{face_of}

-- the interface of a list lies in the network
abbrev pub IsOfFace : Network → NewList → Type 0
IsOfFace net list = (face_of list).0 < length net.faces

route-face : (net : Network) (chosen : List Edit) (session : SessionRow) (y : ℕ × NewList) → new_route_list net chosen session ≡ Some y → IsOfFace net y.1
route-face net chosen session y is = by (is_empty (new_prefixes chosen session.face.0)) (slice_get net.faces session.face.0) refl is
  where
    by : (b : Bool) (o : Option FaceRow) → slice_get net.faces session.face.0 ≡ o →
        (if b then None else option_map (λ (face : FaceRow). (face.router.0, Route session.face)) o) ≡ Some y → IsOfFace net y.1
    by true o there e = absurd (none-some y e)
    by false None there e = absurd (none-some y e)
    by false (Some row) there e = subst (λ (x : ℕ × NewList). IsOfFace net x.1) (same_Some (row.router.0, Route session.face) y e) (slice_get_within net.faces session.face.0 row there)

packet-face : (net : Network) (chosen : List Edit) (face : ℕ × FaceRow) (y : ℕ × NewList) → Contains (placed net.faces) face → new_packet_list chosen face ≡ Some y → IsOfFace net y.1
packet-face net chosen face y there is = by (is_empty (new_classes chosen face.0)) is
  where
    by : (b : Bool) → (if b then None else Some (face.1.router.0, Packet (record { 0 = face.0 }))) ≡ Some y → IsOfFace net y.1
    by true e = absurd (none-some y e)
    by false e = subst (λ (x : ℕ × NewList). IsOfFace net x.1) (same_Some (face.1.router.0, Packet (record { 0 = face.0 })) y e)
        (slice_get_within net.faces face.0 face.1 (placed_is net.faces face there))

all-faces : (net : Network) (chosen : List Edit) (y : ℕ × NewList) → Contains (new_lists net chosen) y → IsOfFace net y.1
all-faces net chosen y there = ⊎_elim
    (λ route. let r = picked_from (new_route_list net chosen) net.sessions y route in route-face net chosen r.0 y r.2)
    (λ packet. let r = picked_from (new_packet_list chosen) (placed net.faces) y packet in packet-face net chosen r.0 y r.1 r.2)
    (Contains-append_cases (filter_map (new_route_list net chosen) net.sessions) (filter_map (new_packet_list chosen) (placed net.faces)) y there)

router-faces : (net : Network) (chosen : List Edit) (router : ℕ) (list : NewList) → Contains (new_lists_of net chosen router) list → IsOfFace net list
router-faces net chosen router list there =
    let r = picked_from (if_number router) (new_lists net chosen) list there in
    subst (IsOfFace net) (number_told router r.0 list r.2).1 (all-faces net chosen r.0 r.1)

zip-first : {X Y : Type 0} (xs : List X) (ys : List Y) (p : X × Y) → Contains (zip xs ys) p → Contains xs p.0
zip-first [] ys p there = absurd (Contains-none p there)
zip-first (x ∷ xs) [] p there = absurd (Contains-none p there)
zip-first (x ∷ xs) (y ∷ ys) p there = ⊎_elim
    (λ here. subst (λ q. Contains (x ∷ xs) q.0) here (Contains-head x xs))
    (λ later. Contains-tail x p.0 xs (zip-first xs ys p later))
    (Contains-cases (x, y) p (zip xs ys) there)

pub named-faces : (net : Network) (chosen : List Edit) (router : ℕ) (named : List (NewList × List ℕ)) → named ≡ named_lists net chosen router → All (λ (n : NewList × List ℕ). IsOfFace net n.0) named
named-faces net chosen router named is = λ k d low.
    let n = get_or named k d in
    router-faces net chosen router n.0
    (zip-first (new_lists_of net chosen router) (new_names_of net chosen router) n (subst (λ (l : List (NewList × List ℕ)). Contains l n) is (Contains-get_or named k d low)))
