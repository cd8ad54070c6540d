-- A network, failed links and two prefixes have one trace.
use Rattle.std.proofs.Common.{◌≡◌, ℕ, zero, suc, ◌+◌, ◌<◌, ◌≤◌, List, ◌++◌, length, map, refl, sym, ◌∙◌, ap, subst, arith}
use Rattle.std.proofs.lemmas.List.{same_lists, get_or_default, get_or-map, length-map}
use Rattle.std.proofs.lemmas.List.Kept.{AllPairs-from_increasing}
use Rattle.std.specs.Prelude.{Option, Some, None, AllPairs}
use Rattle.std.specs.List.{flat_map, range_with_len}
use Rattle.std.specs.List.Sorted.{IsStrictlyIncreasing}
use Rattle.arc_base.specs.declared.place.Link.{Link}
use Rattle.arc_base.specs.declared.prefix.Prefix.{Prefix}
use Rattle.net_model.specs.declared.rows.FaceRow.{FaceRow}
use Rattle.net_model.specs.declared.rows.Network.{Network}
use Rattle.net_model.specs.Routing.{FailureSet}
use Rattle.net_model.specs.Validity.{IsValid}
use Rattle.net_model.proofs.Hosts.{one_host_face}
use Rattle.net_laws.proofs.StableMaps.{one_stable_map}
use Rattle.net_rules.specs.Ordered.{AreInOrder}
use Rattle.net_rules.proofs.InOrder.{ordered_once}
use Rattle.route_trace.specs.Routes.{distance_map, Owns, AreDistances, IsNextHop, AreNextHops}
use Rattle.route_trace.specs.TraceText.{traced_name, route_line, route_lines, trace_head, trace_text, IsTrace}

-- the links are in the order of their numbers
abbrev IsLower : Link → Link → Type 0
IsLower k l = k.0 < l.0

rises : (ks : List Link) → IsStrictlyIncreasing (map (λ (l : Link). l.0) ks) → AllPairs IsLower ks
rises ks increasing i j d below within =
    let f : Link → ℕ = λ l. l.0 in
    let count : length (map f ks) ≡ length ks = length-map ks f in
    let pair = AllPairs-from_increasing (map f ks) increasing i j d.0 below (omega (arith, within, count)) in
    omega (arith, pair, get_or-map f ks i d d.0 (omega (arith, below, within)), get_or-map f ks j d d.0 within)

module _ (net : Network) (valid : IsValid net) (failed : FailureSet) where
  hops_once : (to : Prefix) (ds : List (Option ℕ)) (u : ℕ) (ks ls : List Link) → AreNextHops net to failed (distance_map ds) u ks → AreNextHops net to failed (distance_map ds) u ls → ks ≡ ls
  hops_once to ds u ks ls these those =
      let IsHop : Link → Type 0 = IsNextHop net to failed (distance_map ds) u in
      let in_order : (ms : List Link) → AreNextHops net to failed (distance_map ds) u ms → AreInOrder IsLower IsHop ms = λ ms hops. record { order = rises ms hops.rising; just = hops.each } in
      ordered_once IsLower IsHop (λ k l is other before after. omega (arith, before, after)) ks ls (in_order ks these) (in_order ls those)

  distances_once : (to : Prefix) (owner : ℕ) (ds es : List (Option ℕ)) → Owns net to owner → AreDistances net to failed ds → AreDistances net to failed es → ds ≡ es
  distances_once to owner ds es owns these those =
      same_lists ds es (these.whole ∙ sym those.whole) (λ k d within.
      get_or_default ds k d None within
      ∙ one_stable_map net valid to owner failed (distance_map ds) (distance_map es) (these.stable owner owns) (those.stable owner owns) k (omega (arith, within, these.whole))
      ∙ get_or_default es k None d (omega (arith, within, these.whole, those.whole)))

  -- functions that agree on a range give one text
  pieces_once : (f g : ℕ → List ℕ) (a n : ℕ) → ((u : ℕ) → a ≤ u → u < a + n → f u ≡ g u) → flat_map f (range_with_len a n) ≡ flat_map g (range_with_len a n)
  pieces_once f g a zero same = refl
  pieces_once f g a (suc n) same =
      ap (λ (t : List ℕ). t ++ flat_map f (range_with_len (a + 1) n)) (same a (omega arith) (omega arith))
      ∙ ap (λ (t : List ℕ). g a ++ t) (pieces_once f g (a + 1) n (λ u low high. same u (omega (arith, low)) (omega (arith, high))))

  same_host : (o : Option Prefix) (p q : Prefix) → o ≡ Some p → o ≡ Some q → p ≡ q
  same_host o p q e h = cc

  lines_once : (to : Prefix) (ds : List (Option ℕ)) (hops more : ℕ → List Link) →
      ((u : ℕ) → u < length net.routers → AreNextHops net to failed (distance_map ds) u (hops u)) → ((u : ℕ) → u < length net.routers → AreNextHops net to failed (distance_map ds) u (more u)) →
      route_lines net ds hops (length net.routers) ≡ route_lines net ds more (length net.routers)
  lines_once to ds hops more these those =
      pieces_once (λ u. route_line (traced_name net u) (distance_map ds u) (hops u)) (λ u. route_line (traced_name net u) (distance_map ds u) (more u)) 0 (length net.routers)
      (λ u low high. ap (λ (ls : List Link). route_line (traced_name net u) (distance_map ds u) ls)
      (hops_once to ds u (hops u) (more u) (these u (omega (arith, high))) (those u (omega (arith, high)))))

  pub trace_once : (from to : Prefix) (text other : List ℕ) → IsTrace net failed from to text → IsTrace net failed from to other → text ≡ other
  trace_once from to text other t s =
      let sources : t.source ≡ s.source = one_host_face net valid from t.source s.source t.is_source s.is_source in
      let targets : t.target ≡ s.target = one_host_face net valid to t.target s.target t.is_target s.is_target in
      let hosts : t.host ≡ s.host = same_host s.target.host t.host s.host (ap (λ (f : FaceRow). f.host) (sym targets) ∙ t.host_is) s.host_is in
      let owns : Owns net t.host t.target.router.0 = record { face = t.target; is_face = t.is_target.is_face; host = t.host_is; router = refl } in
      let P : Prefix → Type 0 = λ p. AreDistances net p failed s.distances in
      let distances : t.distances ≡ s.distances = distances_once t.host t.target.router.0 t.distances s.distances owns t.are_distances (subst P (sym hosts) s.are_distances) in
      let Q : Prefix → Type 0 = λ p. (u : ℕ) → u < length net.routers → AreNextHops net p failed (distance_map s.distances) u (s.hops u) in
      let R : List (Option ℕ) → Type 0 = λ ds. (u : ℕ) → u < length net.routers → AreNextHops net t.host failed (distance_map ds) u (s.hops u) in
      let others : (u : ℕ) → u < length net.routers → AreNextHops net t.host failed (distance_map t.distances) u (s.hops u) = subst R (sym distances) (subst Q (sym hosts) s.are_hops) in
      let lines : route_lines net t.distances t.hops (length net.routers) ≡ route_lines net t.distances s.hops (length net.routers) = lines_once t.host t.distances t.hops s.hops t.are_hops others in
      t.text_is
      ∙ ap (λ (f : FaceRow). trace_text net from f to t.target t.distances t.hops) sources
      ∙ ap (λ (f : FaceRow). trace_text net from s.source to f t.distances t.hops) targets
      ∙ ap (λ (ls : List ℕ). trace_head from (traced_name net s.source.router.0) to (traced_name net s.target.router.0) ++ ls) lines
      ∙ ap (λ (ds : List (Option ℕ)). trace_text net from s.source to s.target ds s.hops) distances
      ∙ sym s.text_is
