-- The lines of a trace, router by router.
use Rattle.std.proofs.Common.{◌≡◌, ℕ, ◌+◌, inl, inr, Bool, false, Option, Some, List, [], ◌∷◌, ◌++◌, length, map, cond, refl, sym, ◌∙◌, ap, append_assoc, arith}
use Rattle.std.specs.Prelude.{◌==◌}
use Rattle.std.specs.List.{filter, flat_map, range_with_len}
use Rattle.std.proofs.lemmas.Bool.{cases_Bool, and_left}
use Rattle.std.proofs.lemmas.Grind.{flat_map-append}
use Rattle.std.proofs.lemmas.List.{map-id, append-nil}
use Rattle.std.proofs.lemmas.List.FromFn.{map-range_with_len_more}
use Rattle.arc_base.specs.declared.place.Link.{Link}
use Rattle.arc_base.specs.declared.prefix.Prefix.{Prefix}
use Rattle.net_model.specs.declared.rows.FaceRow.{FaceRow}
use Rattle.net_model.specs.declared.rows.Network.{Network}
use Rattle.net_model.specs.Routing.{FailureSet, DistanceMap}
use Rattle.net_model.specs.Validity.{IsValid}
use Rattle.net_model.specs.Forwarding.{IsHostFace}
use Rattle.route_trace.specs.declared.steps.Step.{Step}
use Rattle.route_trace.specs.declared.steps.End.TheVariants.{Tail}
use Rattle.route_trace.specs.Routes.{distance_map, Owns}
use Rattle.route_trace.specs.Steps.{AreSteps, IsStableOver, attains, is_hop, hops_of, steps_at}
use Rattle.route_trace.specs.TraceText.{traced_name, route_line, route_lines, trace_head, trace_text, IsTrace}
use Rattle.route_trace.proofs.NextHops.{hops_are_next}
use Rattle.route_trace.proofs.StableSteps.{are_distances}

-- a filter that a second one passes whole can be left out
filter_twice : {X : Type 0} (p q : X → Bool) → ((x : X) → q x ≡ false → p x ≡ false) → (xs : List X) → filter p (filter q xs) ≡ filter p xs
filter_twice p q fails [] = refl
filter_twice p q fails (x ∷ xs) =
    let rest : filter p (filter q xs) ≡ filter p xs = filter_twice p q fails xs in
    elim (cases_Bool (q x)) [
      | inl keeps ↦
          ap (λ (b : Bool). filter p (cond b (x ∷ filter q xs) (filter q xs))) keeps ∙ ap (λ (ys : List _). cond (p x) (x ∷ ys) ys) rest
      | inr drops ↦
          ap (λ (b : Bool). filter p (cond b (x ∷ filter q xs) (filter q xs))) drops ∙ rest
          ∙ ap (λ (b : Bool). cond b (x ∷ filter p xs) (filter p xs)) (sym (fails x drops))
    ]

-- the next hops of a router are among its own steps
pub hops_of_group : (steps : List Step) (d : DistanceMap) (u : ℕ) (xs : List Step) → xs ≡ steps_at Tail steps u → hops_of xs d u ≡ hops_of steps d u
hops_of_group steps d u xs is =
    ap (λ (ys : List Step). hops_of ys d u) is
    ∙ ap (λ (ys : List Step). map (λ (s : Step). s.link) ys)
    (filter_twice (is_hop d u) (λ s. s.tail.0 == u) (λ s off. and_left (s.tail.0 == u) (attains d s) off) steps)

range_more : (n : ℕ) → range_with_len 0 (n + 1) ≡ range_with_len 0 n ++ (n ∷ [])
range_more n =
    sym (map-id (range_with_len 0 (n + 1))) ∙ map-range_with_len_more (λ (x : ℕ). x) 0 n n (omega arith)
    ∙ ap (λ (ys : List ℕ). ys ++ (n ∷ [])) (map-id (range_with_len 0 n))

lines_more : (net : Network) (distances : List (Option ℕ)) (hops : ℕ → List Link) (n : ℕ) →
    route_lines net distances hops (n + 1) ≡ route_lines net distances hops n ++ route_line (traced_name net n) (distance_map distances n) (hops n)
lines_more net distances hops n =
    let f : ℕ → List ℕ = λ u. route_line (traced_name net u) (distance_map distances u) (hops u) in
    ap (flat_map f) (range_more n) ∙ flat_map-append f (range_with_len 0 n) (n ∷ [])
    ∙ ap (λ (t : List ℕ). flat_map f (range_with_len 0 n) ++ t) (append-nil (f n))

-- one line more
pub line_more : (net : Network) (distances : List (Option ℕ)) (hops : ℕ → List Link) (n : ℕ) (start text now name : List ℕ) (d : Option ℕ) (links : List Link) →
    text ≡ start ++ route_lines net distances hops n → now ≡ text ++ route_line name d links → name ≡ traced_name net n → d ≡ distance_map distances n →
    links ≡ hops n → now ≡ start ++ route_lines net distances hops (n + 1)
line_more net distances hops n start text now name d links before grown name_is d_is links_are =
    let line : route_line name d links ≡ route_line (traced_name net n) (distance_map distances n) (hops n) =
    ap (λ (x : List ℕ). route_line x d links) name_is ∙ ap (λ (x : Option ℕ). route_line (traced_name net n) x links) d_is
    ∙ ap (route_line (traced_name net n) (distance_map distances n)) links_are in
    grown ∙ ap (λ (t : List ℕ). t ++ route_line name d links) before ∙ ap (λ (t : List ℕ). (start ++ route_lines net distances hops n) ++ t) line
    ∙ append_assoc start (route_lines net distances hops n) (route_line (traced_name net n) (distance_map distances n) (hops n))
    ∙ ap (λ (t : List ℕ). start ++ t) (sym (lines_more net distances hops n))

-- the owner of the host network in which a prefix lies
pub owns_host : (net : Network) (p host : Prefix) (face : FaceRow) → IsHostFace net p face → face.host ≡ Some host → Owns net host face.router.0
owns_host net p host face is host_is = record { face = face; is_face = is.is_face; host = host_is; router = refl }

-- the text of the trace
pub is_trace : (net : Network) → IsValid net → (failed : FailureSet) (from to host : Prefix) (source target : FaceRow) (steps : List Step) (distances : List (Option ℕ)) (text : List ℕ) →
    IsHostFace net from source → IsHostFace net to target → target.host ≡ Some host → AreSteps net host failed (length net.links) steps →
    length distances ≡ length net.routers → IsStableOver steps target.router.0 (distance_map distances) →
    text ≡ trace_text net from source to target distances (hops_of steps (distance_map distances)) → IsTrace net failed from to text
is_trace net valid failed from to host source target steps distances text is_source is_target host_is are whole stable text_is = record {
  source = source;
  target = target;
  is_source = is_source;
  is_target = is_target;
  host = host;
  host_is = host_is;
  distances = distances;
  are_distances = are_distances net valid host failed steps target.router.0 distances are (owns_host net to host target is_target host_is) whole stable;
  hops = hops_of steps (distance_map distances);
  are_hops = λ u within. hops_are_next net host failed steps are (distance_map distances) u;
  text_is = text_is;
}

-- the text, as it is put together
pub text_from : (net : Network) (from to : Prefix) (source target : FaceRow) (steps : List Step) (distances : List (Option ℕ))
    (empty head whole at_source at_target : List ℕ) (xs : List Step) (ds : List (Option ℕ)) → empty ≡ [] → head ≡ empty ++ trace_head from at_source to at_target →
    whole ≡ head ++ route_lines net ds (hops_of xs (distance_map ds)) (length net.routers) →
    at_source ≡ traced_name net source.router.0 → at_target ≡ traced_name net target.router.0 → xs ≡ steps → ds ≡ distances →
    whole ≡ trace_text net from source to target distances (hops_of steps (distance_map distances))
text_from net from to source target steps distances empty head whole at_source at_target xs ds is_empty is_head is_whole of_source of_target of_steps of_distances =
    let first : head ≡ trace_head from (traced_name net source.router.0) to (traced_name net target.router.0) =
    is_head ∙ ap (λ (t : List ℕ). t ++ trace_head from at_source to at_target) is_empty
    ∙ ap (λ (t : List ℕ). trace_head from t to at_target) of_source ∙ ap (λ (t : List ℕ). trace_head from (traced_name net source.router.0) to t) of_target in
    is_whole ∙ ap (λ (t : List ℕ). t ++ route_lines net ds (hops_of xs (distance_map ds)) (length net.routers)) first
    ∙ ap (λ (ys : List Step). trace_text net from source to target ds (hops_of ys (distance_map ds))) of_steps
    ∙ ap (λ (es : List (Option ℕ)). trace_text net from source to target es (hops_of steps (distance_map es))) of_distances
