-- The queue of the routers that wait, as entries come and go.
use Rattle.std.proofs.Common.{◌≡◌, ℕ, ◌<◌, ◌≤◌, ⊎_elim, inl, inr, Bool, true, false, Option, Some, None, List, [], ◌∷◌, length, get_or, set, replicate, sym, ◌∙◌, ap, subst, arith}
use Rattle.std.specs.Prelude.{Contains, IsPermutation}
use Rattle.std.specs.BinaryHeap.{IsHeap, IsUpperBound}
use Rattle.std.specs.Ordering.{nat_cmp}
use Rattle.std.proofs.lemmas.Bool.{false≢true, cases_eq, ltb-true}
use Rattle.std.proofs.lemmas.List.{get_or_read, get_or-set_same, get_or-set_other, length-replicate}
use Rattle.std.proofs.lemmas.List.Elements.{Contains-append_right, All-head}
use Rattle.std.proofs.lemmas.List.Sorted.{Contains-permutation, IsPermutation-sym, first_le_from_greatest}
use Rattle.std.proofs.lemmas.Option.{none-some, same_Some}
use Rattle.arc_base.proofs.Items.{Contains-cases, Contains-head}
use Rattle.route_trace.specs.Routes.{flagged, distance_map}
use Rattle.route_trace.specs.Steps.{IsNearest, waiting}
use Rattle.route_trace.specs.Queue.{Entry, entry_cmp, IsLate, IsQueue, is_nearer}
use Rattle.route_trace.proofs.UnderWay.{waits_open, waits_from, within_list, none_known}

-- an entry that is less than none has the least distance
no_less : (e f : Entry) → IsUpperBound entry_cmp e (f ∷ []) → e.0.0 ≤ f.0.0
no_less e f bound = All-head (λ (y : ℕ × ℕ). y.0 ≤ f.0.0) e.0 [] (first_le_from_greatest nat_cmp f.0 (e.0 ∷ []) bound)

no_less_all : (e : Entry) (xs : List Entry) → IsUpperBound entry_cmp e xs → (f : Entry) → Contains xs f → e.0.0 ≤ f.0.0
no_less_all e [] bound f is = absurd (omega (arith, is.1))
no_less_all e (g ∷ xs) bound f is =
    ⊎_elim (λ (same : g ≡ f). subst (λ (x : Entry). e.0.0 ≤ x.0.0) same (no_less e g (bound.0, _))) (λ (rest : Contains xs f). no_less_all e xs bound.1 f rest)
    (Contains-cases g f xs is)

module _ (distances : List (Option ℕ)) (settled : List Bool) (old rest : List Entry) (e : Entry) (is : IsQueue distances settled old)
    (taken : IsPermutation old (e ∷ rest)) (heap : IsHeap entry_cmp rest) where
  was_there : Contains old e
  was_there = Contains-permutation (e ∷ rest) old e (IsPermutation-sym old (e ∷ rest) taken) (Contains-head e rest)

  late_still : (f : Entry) → Contains rest f → IsLate (distance_map distances) f
  late_still f among = is.late f (Contains-permutation (e ∷ rest) old f (IsPermutation-sym old (e ∷ rest) taken) (Contains-append_right (e ∷ []) rest f among))

  -- a router other than that of the entry which was taken still has its own
  others_stay : (u n : ℕ) → (e.0.1 ≡ u → ⊥) → waiting distances settled u ≡ Some n → Contains rest (record { 0 = (n, u) })
  others_stay u n off waits =
      ⊎_elim
      (λ (same : e ≡ record { 0 = (n, u) }). absurd (off (ap (λ (x : Entry). x.0.1) same)))
      (λ (there : Contains rest (record { 0 = (n, u) })). there)
      (Contains-cases e (record { 0 = (n, u) }) rest (Contains-permutation old (e ∷ rest) (record { 0 = (n, u) }) taken (is.each u n waits)))

  -- an entry of a settled router is passed over
  pub passed_over : flagged settled e.0.1 ≡ true → IsQueue distances settled rest
  passed_over up = record {
    ordered = heap;
    each = λ u n waits. others_stay u n
        (λ at. false≢true (sym (waits_open distances settled u n waits).0 ∙ ap (flagged settled) (sym at) ∙ up)) waits;
    late = late_still;
  }

  pub entry_within : e.0.1 < length distances
  entry_within = let late : IsLate (distance_map distances) e = is.late e was_there in within_list distances e.0.1 late.distance late.known

  -- the router of an entry that is less than none is the nearest, if it waits
  pub nearest_first : flagged settled e.0.1 ≡ false → IsUpperBound entry_cmp e old → IsNearest (waiting distances settled) e.0.1 e.0.0
  nearest_first off bound =
      let late : IsLate (distance_map distances) e = is.late e was_there in
      let waits : waiting distances settled e.0.1 ≡ Some late.distance = waits_from distances settled e.0.1 late.distance off late.known in
      let high : e.0.0 ≤ late.distance = no_less_all e old bound (record { 0 = (late.distance, e.0.1) }) (is.each e.0.1 late.distance waits) in
      let same : late.distance ≡ e.0.0 = omega (arith, high, late.low) in
      record {
        here = waits ∙ ap Some same;
        least = λ u n known. no_less_all e old bound (record { 0 = (n, u) }) (is.each u n known);
      }

  -- and the others wait on
  pub settled_more : length settled ≡ length distances → IsQueue distances (set settled e.0.1 true) rest
  settled_more whole =
      let inside : e.0.1 < length settled = omega (arith, whole, entry_within) in
      record {
        ordered = heap;
        each = λ u n waits.
            let was : (flagged (set settled e.0.1 true) u ≡ false) × (distance_map distances u ≡ Some n) =
            waits_open distances (set settled e.0.1 true) u n waits in
            let apart : e.0.1 ≡ u → ⊥ =
            λ at. false≢true (sym was.0 ∙ ap (flagged (set settled e.0.1 true)) (sym at) ∙ get_or-set_same settled e.0.1 true false inside) in
            others_stay u n apart (waits_from distances settled u n (sym (get_or-set_other settled e.0.1 u true false (λ at. apart (sym at))) ∙ was.0) was.1);
        late = late_still;
      }

-- a router that takes a lesser distance has an entry more
pub one_taken : (distances : List (Option ℕ)) (settled : List Bool) (old now : List Entry) (at x : ℕ) → at < length distances → IsQueue distances settled old →
    IsPermutation (record { 0 = (x, at) } ∷ old) now → IsHeap entry_cmp now → ((m : ℕ) → distance_map distances at ≡ Some m → x ≤ m) →
    IsQueue (set distances at (Some x)) settled now
one_taken distances settled old now at x inside is joined heap low =
    let e : Entry = record { 0 = (x, at) } in
    let new : distance_map (set distances at (Some x)) at ≡ Some x = get_or-set_same distances at (Some x) None inside in
    let other : (u : ℕ) → (u ≡ at → ⊥) → distance_map (set distances at (Some x)) u ≡ distance_map distances u = λ u off. get_or-set_other distances at u (Some x) None off in
    record {
      ordered = heap;
      each = λ u n waits.
          let was : (flagged settled u ≡ false) × (distance_map (set distances at (Some x)) u ≡ Some n) = waits_open (set distances at (Some x)) settled u n waits in
          elim (cases_eq u at) [
            | inl same ↦
                let value : x ≡ n = same_Some x n (sym new ∙ ap (distance_map (set distances at (Some x))) (sym same) ∙ was.1) in
                let entry : e ≡ record { 0 = (n, u) } =
                ap (λ (k : ℕ). record { 0 = (k, at) }) value ∙ ap (λ (k : ℕ). record { 0 = (n, k) }) (sym same) in
                subst (Contains now) entry (Contains-permutation (e ∷ old) now e joined (Contains-head e old))
            | inr off ↦
                Contains-permutation (e ∷ old) now (record { 0 = (n, u) }) joined
                (Contains-append_right (e ∷ []) old (record { 0 = (n, u) }) (is.each u n (waits_from distances settled u n was.0 (sym (other u off) ∙ was.1))))
          ];
      late = λ f among.
          ⊎_elim
          (λ (same : e ≡ f). subst (IsLate (distance_map (set distances at (Some x)))) same (record { distance = x; known = new; low = omega arith }))
          (λ (there : Contains old f).
          let was : IsLate (distance_map distances) f = is.late f there in
          elim (cases_eq f.0.1 at) [
            | inl same ↦
                let few : x ≤ was.distance = low was.distance (ap (distance_map distances) (sym same) ∙ was.known) in
                record { distance = x; known = ap (distance_map (set distances at (Some x))) same ∙ new; low = omega (arith, few, was.low) }
            | inr off ↦ record { distance = was.distance; known = other f.0.1 off ∙ was.known; low = was.low }
          ])
          (Contains-cases e f old (Contains-permutation now (e ∷ old) f (IsPermutation-sym (e ∷ old) now joined) among));
    }

-- where no router has a distance the queue is empty
no_queue : (routers : ℕ) (none : List Entry) → none ≡ [] → IsHeap entry_cmp none → IsQueue (replicate routers None) (replicate routers false) none
no_queue routers none empty heap = record {
  ordered = heap;
  each = λ u n waits. absurd (none-some n (sym (none_known routers u) ∙ (waits_open (replicate routers None) (replicate routers false) u n waits).1));
  late = λ f among. let there : Contains [] f = subst (λ (xs : List Entry). Contains xs f) empty among in absurd (omega (arith, there.1));
}

-- at the start the owner alone waits
pub owner_waits : (routers owner : ℕ) (none now : List Entry) → owner < routers → none ≡ [] → IsHeap entry_cmp none →
    IsPermutation (record { 0 = (0, owner) } ∷ none) now → IsHeap entry_cmp now →
    IsQueue (set (replicate routers None) owner (Some 0)) (replicate routers false) now
owner_waits routers owner none now inside empty heap joined heap_now =
    one_taken (replicate routers None) (replicate routers false) none now owner 0 (omega (arith, inside, length-replicate {A = Option ℕ} routers None))
    (no_queue routers none empty heap) joined heap_now (λ m known. omega arith)

-- a distance that is nearer is no more than the other
pub nearer_low : (o : Option ℕ) (x : ℕ) → is_nearer x o ≡ true → (m : ℕ) → o ≡ Some m → x ≤ m
nearer_low None x is m e = absurd (none-some m e)
nearer_low (Some k) x is m e = let same : k ≡ m = same_Some k m e in let low : x < k = ltb-true x k is in omega (arith, same, low)

-- the flag of an entry's router, as it is read
pub flag_here : (settled now : List Bool) (at : ℕ) (b : Bool) → now ≡ settled → at < length settled → b ≡ get_or now at b → flagged settled at ≡ b
flag_here settled now at b same inside read =
    sym (get_or_read settled at b inside (read ∙ ap (λ (xs : List Bool). get_or xs at b) same) false)

-- the same, as the search for the nearest writes it
pub settled_here : (distances d : List (Option ℕ)) (settled s : List Bool) (old rest : List Entry) (e : Entry) → d ≡ distances → s ≡ settled →
    IsQueue distances settled old → IsPermutation old (e ∷ rest) → IsHeap entry_cmp rest → length settled ≡ length distances →
    IsQueue d (set s e.0.1 true) rest
settled_here distances d settled s old rest e same_d same_s is taken heap whole =
    subst (λ (xs : List (Option ℕ)). IsQueue xs (set s e.0.1 true) rest) (sym same_d)
    (subst (λ (xs : List Bool). IsQueue distances (set xs e.0.1 true) rest) (sym same_s) (settled_more distances settled old rest e is taken heap whole))

-- the same, as an offer writes it
pub offered_here : (distances : List (Option ℕ)) (settled : List Bool) (old now : List Entry) (at x : ℕ) (o : Option ℕ) (b : Bool) → at < length distances →
    IsQueue distances settled old → IsPermutation (record { 0 = (x, at) } ∷ old) now → IsHeap entry_cmp now → o ≡ get_or distances at o → b ≡ is_nearer x o →
    b ≡ true → IsQueue (set distances at (Some x)) settled now
offered_here distances settled old now at x o b inside is joined heap read tells less =
    one_taken distances settled old now at x inside is joined heap
    (λ m known. nearer_low o x (sym tells ∙ less) m (get_or_read distances at o inside read None ∙ known))

-- and as the start does
pub start_here : (routers owner : ℕ) (distances : List (Option ℕ)) (settled : List Bool) (none now : List Entry) → owner < routers → distances ≡ replicate routers None →
    settled ≡ replicate routers false → none ≡ [] → IsHeap entry_cmp none → IsPermutation (record { 0 = (0, owner) } ∷ none) now → IsHeap entry_cmp now →
    IsQueue (set distances owner (Some 0)) settled now
start_here routers owner distances settled none now inside of_distances of_settled empty heap joined heap_now =
    subst (λ (xs : List (Option ℕ)). IsQueue (set xs owner (Some 0)) settled now) (sym of_distances)
    (subst (λ (xs : List Bool). IsQueue (set (replicate routers None) owner (Some 0)) xs now) (sym of_settled)
    (owner_waits routers owner none now inside empty heap joined heap_now))
