-- Which links are able and which host networks are told is the same after edits.
use Rattle.std.proofs.Common.{◌≡◌, ℕ, ◌==◌, ◌↔◌, ◌&&◌, ◌||◌, zero, suc, inl, inr, Bool, true, false, Option, List, [], ◌∷◌, map, get_or, refl, sym, ◌∙◌, ap}
use Rattle.std.specs.Prelude.{Any, is_some, slice_get}
use Rattle.std.specs.List.{list_any}
use Rattle.std.specs.Option.{option_map_or}
use Rattle.arc_base.specs.declared.place.Face.{Face}
use Rattle.arc_base.specs.declared.prefix.Prefix.{Prefix}
use Rattle.net_model.specs.declared.rows.FaceRow.{FaceRow}
use Rattle.net_model.specs.declared.rows.RouterRow.{RouterRow}
use Rattle.net_model.specs.declared.rows.SessionRow.{SessionRow}
use Rattle.net_model.specs.declared.rows.Protocol.{Protocol}
use Rattle.net_model.specs.declared.rows.Protocol.TheVariants.{Ospf, Bgp}
use Rattle.net_model.specs.declared.rows.Network.{Network}
use Rattle.net_model.specs.Decided.{names, takes_part, is_able_end, tells, is_told}
use Rattle.net_model.specs.Routing.{session_at, IsAbleEnd, Advertises}
use Rattle.net_model.proofs.Decided.{able_right, told_right}
use Rattle.edit_list.specs.declared.edit_kinds.Edit.{Edit}
use Rattle.edit_list.specs.After.{IsRouterAfter, IsFaceAfter, IsAfter}
use Rattle.edit_list.proofs.RowFacts.{rows_map}
use Rattle.policy_encode.proofs.Sessions.{sessions_match}

read_map : {X Y : Type 0} (f : X → Y) (xs : List X) (k : ℕ) (d : Y) → option_map_or f (slice_get xs k) d ≡ get_or (map f xs) k d
read_map f [] k d = refl
read_map f (x ∷ xs) zero d = refl
read_map f (x ∷ xs) (suc k) d = read_map f xs k d

any_map : {X : Type 0} (f : X → Bool) (xs : List X) → list_any f xs ≡ list_any (λ b. b) (map f xs)
any_map f [] = refl
any_map f (x ∷ xs) = ap (λ b. f x || b) (any_map f xs)

module _ (net : Network) (chosen : List Edit) (after : Network) (is : IsAfter net chosen after) where
  names_same : (s : SessionRow) (far : FaceRow) → names after s far ≡ names net s far
  names_same s far =
      let remote : RouterRow → Bool = λ r. s.remote == r.asn in
      ap (λ b. option_map_or (λ a. a == s.peer) far.addr false && b)
      (read_map remote after.routers far.router.0 false ∙
      ap (λ l. get_or l far.router.0 false) (rows_map (IsRouterAfter net chosen) net.routers after.routers is.routers remote remote (λ k r q h. ap (λ n. s.remote == n) h.asn)) ∙
      sym (read_map remote net.routers far.router.0 false))

  module _ (face : Face) (near near_now far far_now : FaceRow) (place : ℕ) (is_near : IsFaceAfter net chosen after face.0 near near_now) (is_far : IsFaceAfter net chosen after place far far_now) where
    part_same : (q : Protocol) → takes_part q after (session_at after face) near_now far_now ≡ takes_part q net (session_at net face) near far
    part_same Ospf = ap (λ (f : FaceRow). f.enabled) is_near.same
    part_same Bgp =
        let named : Network → FaceRow → Option SessionRow → Bool = λ n f o. option_map_or (λ (s : SessionRow). names n s f) o false in
        elim (sessions_match net chosen after is face) [
          | inl none ↦ ap (named after far_now) none.now_none ∙ sym (ap (named net far) none.was_none)
          | inr has ↦
              ap (named after far_now) has.now_at ∙ ap (λ (f : FaceRow). names after has.now f) is_far.same ∙ names_same has.now far ∙
              ap (λ (s : SessionRow). names net s far) has.is.same ∙ sym (ap (named net far) has.was_at)
        ]

    able_same : is_able_end after (session_at after face) near_now far_now ≡ is_able_end net (session_at net face) near far
    able_same =
        let part : Protocol → Bool = λ q. takes_part q after (session_at after face) near_now far_now in
        ap (λ (f : FaceRow). f.up && is_some f.addr && part after.protocol) is_near.same ∙
        ap (λ (q : Protocol). near.up && is_some near.addr && part q) is.protocol ∙
        ap (λ (b : Bool). near.up && is_some near.addr && b) (part_same net.protocol)

    -- an interface makes its link able after the edits where it did before
    pub able_value : (is_able_end net (session_at net face) near far ≡ true) ↔ IsAbleEnd after (session_at after face) near_now far_now
    able_value =
        let right = able_right after (session_at after face) near_now far_now in
        (λ h. right.0 (able_same ∙ h), λ h. sym able_same ∙ right.1 h)

  told_same : (to : Prefix) → is_told after to ≡ is_told net to
  told_same to =
      any_map (tells to) after.faces ∙
      ap (list_any (λ b. b)) (rows_map (IsFaceAfter net chosen after) net.faces after.faces is.faces (tells to) (tells to) (λ k f g h. ap (tells to) h.same)) ∙
      sym (any_map (tells to) net.faces)

  -- a host network is told after the edits where it was before
  pub told_value : (to : Prefix) → (is_told net to ≡ true) ↔ Any (Advertises to) after.faces
  told_value to = let right = told_right after to in (λ h. right.0 (told_same to ∙ h), λ h. sym (told_same to) ∙ right.1 h)
