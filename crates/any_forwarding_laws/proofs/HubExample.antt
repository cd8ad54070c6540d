-- The copy of three gateways on a LAN has a hub.
use Rattle.std.proofs.Common.{◌≡◌, ℕ, zero, suc, inr, true, Some, refl, subst, ap}
use Rattle.std.specs.Prelude.{slice_get, is_some}
use Rattle.std.proofs.lemmas.Bool.{false≢true}
use Rattle.net_model.specs.declared.policies.Class.{Class}
use Rattle.net_model.specs.declared.rows.FaceRow.{FaceRow}
use Rattle.net_model.specs.declared.rows.LinkRow.{LinkRow}
use Rattle.net_model.proofs.Arcs.{one_item}
use Rattle.net_laws.specs.Square.{link as joining}
use Rattle.any_forwarding_laws.specs.Copies.{IsWiderFace, HasWiderFaces}
use Rattle.any_forwarding_laws.specs.Hubs.{IsHubFace, HasSpoke, IsKeptOrSpoked}
use Rattle.any_forwarding_laws.specs.HubExample.{at_router, on_a_lan, at_a_hub, ExampleHasHub}

module _ (class : Class) where
  wide_at : (place router : ℕ) → slice_get on_a_lan.faces place ≡ Some (at_router router) → slice_get at_a_hub.faces place ≡ Some (at_router router) →
      (face : FaceRow) → slice_get on_a_lan.faces place ≡ Some face →
      (wide : FaceRow) × (slice_get at_a_hub.faces place ≡ Some wide) × IsWiderFace at_a_hub wide on_a_lan face class
  wide_at place router here there face at = (
    at_router router,
    there,
    subst (λ (f : FaceRow). IsWiderFace at_a_hub (at_router router) on_a_lan f class) (one_item on_a_lan.faces place (at_router router) face here at)
        (record { router = refl; up = λ u. u; inbound = λ p of permits. tt; outbound = λ p of permits. tt }),
  )

  faces : HasWiderFaces at_a_hub on_a_lan class
  faces zero face at = wide_at 0 0 refl refl face at
  faces (suc zero) face at = wide_at 1 1 refl refl face at
  faces (suc (suc zero)) face at = wide_at 2 2 refl refl face at
  faces (suc (suc (suc k))) face at = absurd (false≢true (ap is_some at))

  hub_face : IsHubFace at_a_hub class 3 (at_router 3)
  hub_face = record { router = refl; up = refl; inbound = λ p of. tt; outbound = λ p of. tt }

  spoke : (place far : ℕ) → slice_get at_a_hub.links place ≡ Some (joining place far) → slice_get at_a_hub.faces far ≡ Some (at_router 3) →
      (may : Type 0) → HasSpoke at_a_hub class 3 place may
  spoke place far at_link at_far may = record {
    link = place;
    row = joining place far;
    inward = true;
    far = at_router 3;
    at_link = at_link;
    near = refl;
    at_far = at_far;
    at_hub = hub_face;
    waypoint = λ w. absurd (false≢true w);
  }

  spoked : (link a b : ℕ) → slice_get on_a_lan.links link ≡ Some (joining a b) → ((may : Type 0) → HasSpoke at_a_hub class 3 a may) →
      ((may : Type 0) → HasSpoke at_a_hub class 3 b may) → (row : LinkRow) → slice_get on_a_lan.links link ≡ Some row → IsKeptOrSpoked at_a_hub class 3 row
  spoked link a b here at_a at_b row at =
      subst (λ (r : LinkRow). IsKeptOrSpoked at_a_hub class 3 r) (one_item on_a_lan.links link (joining a b) row here at) (inr (at_a _, at_b _))

  links : (link : ℕ) (row : LinkRow) → slice_get on_a_lan.links link ≡ Some row → IsKeptOrSpoked at_a_hub class 3 row
  links zero row at = spoked 0 0 1 refl (spoke 0 3 refl refl) (spoke 1 4 refl refl) row at
  links (suc zero) row at = spoked 1 0 2 refl (spoke 0 3 refl refl) (spoke 2 5 refl refl) row at
  links (suc (suc zero)) row at = spoked 2 1 2 refl (spoke 1 4 refl refl) (spoke 2 5 refl refl) row at
  links (suc (suc (suc k))) row at = absurd (false≢true (ap is_some at))

pub example_has_hub : ExampleHasHub
example_has_hub class = record { faces = faces class; links = links class }
