-- Clauses of reach, from the network to a model: each family is the arcs of a path.
use Rattle.std.proofs.Common.{◌≡◌, ◌≢◌, ℕ, zero, suc, ◌<◌, Bool, true, false, not, ◌&&◌, ◌||◌, IsTrue, List, []}
use Rattle.std.proofs.Common.{◌∷◌, ◌++◌, length, map, filter, AllPairs, Contains, inl, inr, ◌⊎◌, refl, sym, ap, ◌∙◌, subst, arith}
use Rattle.std.specs.Prelude.{◌==◌}
use Rattle.std.specs.List.{list_any, flat_map}
use Rattle.std.proofs.lemmas.Bool.{cases_Bool, eq-eqb, eqb-true, or_left, or_right, and_parts, and_from}
use Rattle.std.proofs.lemmas.List.Elements.{All-contains, Contains-append_left, Contains-append_right}
use Rattle.std.proofs.lemmas.List.{append-nil}
use Rattle.std.proofs.lemmas.List.Concat.{flat_map-append}
use Rattle.arc_base.specs.declared.place.Link.{Link}
use Rattle.arc_base.proofs.Items.{Contains-head, Contains-map, from_map, from_piece, from_filter, AllPairs-among, AllPairs-map, AllPairs-none, AllPairs-append}
use Rattle.graph_flow.specs.declared.arcs.Arc.{Arc}
use Rattle.graph_flow.specs.Paths.{ArcPath, nodes_of}
use Rattle.arc_base.specs.Lists.{AreDistinct}
use Rattle.condition_formula.specs.declared.condition.Condition.{Condition}
use Rattle.condition_formula.specs.declared.network.ConditionArc.{ConditionArc}
use Rattle.condition_formula.specs.declared.network.Question.{Question}
use Rattle.condition_formula.specs.Lists.{upto}
use Rattle.condition_formula.specs.Conditions.{comes_true, IsOfEdits, IsAboutEdits, IsSound, IsClearArc, lists_of, is_routed, bare, routed_arcs}
use Rattle.condition_formula.specs.Clauses.{yes, no, affirmed, denied, part_value, parts_value, Fulfils}
use Rattle.condition_formula.specs.Reaching.{arc_at, places, out_of, into, exclusions, implications, routed_parts, node_parts, once_parts, inner_nodes, family_parts, over_link, clear_parts}
use Rattle.condition_formula.specs.Reaching.{paths_parts}
use Rattle.condition_formula.proofs.Parts.{Agrees, affirmed_is, denied_is, any_from, any_to, all_to, all_or_some}
use Rattle.condition_formula.proofs.Places.{below, not_true, excludes, Fulfils-append, Fulfils-cons, Fulfils-none, Fulfils-map, Fulfils-flat_map}
use Rattle.condition_formula.proofs.Used.{at_place, from_place, places-rising, is_arc, one_place, from_routed, use_some}
use Rattle.condition_formula.proofs.Walks.{Ways, over, begins, ends, next, before, not_back, not_on, one_into, one_out_of}

-- the used places are those of the arcs of the way
pub record Follows (a : ℕ → Bool) (q : Question) (used : ℕ → ℕ) (way : List Arc) : Type 0 where
  pub to : (place : ℕ) → place < length q.arcs → a (used place) ≡ true → Contains way (bare (arc_at q place))
  pub from : (place : ℕ) → place < length q.arcs → Contains way (bare (arc_at q place)) → a (used place) ≡ true

-- each arc of the way has a place, which is used
placed : (a chosen : ℕ → Bool) (q : Question) (used : ℕ → ℕ) (s t : ℕ) (way : List Arc) → ArcPath (routed_arcs chosen q) s way t → Follows a q used way → (arc : Arc) → Contains way arc →
    (place : ℕ) × (place < length q.arcs) × (bare (arc_at q place) ≡ arc) × (a (used place) ≡ true)
placed a chosen q used s t way path is arc m =
    let r = from_routed chosen q arc (over (routed_arcs chosen q) s t way path arc m) in
    (r.0, r.1, r.2, is.from r.0 r.1 (subst (λ (x : Arc). Contains way x) (sym r.2) m))

-- a clause that the first is not used or one of the others is
implies_some : (a : ℕ → Bool) (used : ℕ → ℕ) (place : ℕ) (others : List ℕ) → (a (used place) ≡ true → (p : ℕ) × Contains others p × (a (used p) ≡ true)) →
    IsTrue (parts_value a (no (used place) ∷ map (λ (p : ℕ). yes (used p)) others))
implies_some a used place others h =
    elim (cases_Bool (a (used place))) [
      | inl on ↦ let p = h on in or_right (not (a (used place))) (parts_value a (map (λ (p : ℕ). yes (used p)) others)) (use_some a used others p.0 p.1 p.2)
      | inr off ↦ or_left (not (a (used place))) (parts_value a (map (λ (p : ℕ). yes (used p)) others)) (ap not off)
    ]

-- a clause that the place is not used
unused : (a : ℕ → Bool) (v : ℕ) → (a v ≡ true → ⊥) → IsTrue (parts_value a (no v ∷ []))
unused a v h =
    elim (cases_Bool (a v)) [
      | inl on ↦ absurd (h on)
      | inr off ↦ or_left (not (a v)) false (ap not off)
    ]

-- the arcs of a way make the clauses of a family true
pub family_true : (a chosen : ℕ → Bool) (nodes links edits : ℕ) (q : Question) (used : ℕ → ℕ) (way : List Arc) → IsSound nodes links edits q → Agrees a chosen edits → q.source ≢ q.target →
    ArcPath (routed_arcs chosen q) q.source way q.target → AreDistinct (nodes_of q.source way) → Follows a q used way → Fulfils a (family_parts q nodes used)
family_true a chosen nodes links edits q used way sound g apart path once is =
    let arcs = routed_arcs chosen q in
    let s = q.source in
    let t = q.target in
    let head = λ (p : ℕ). (arc_at q p).head in
    let tail = λ (p : ℕ). (arc_at q p).tail in
    let start = map (λ (p : ℕ). yes (used p)) (out_of q s) in
    let end = map (λ (p : ℕ). yes (used p)) (into q t) in
    let back = map (λ (p : ℕ). no (used p) ∷ []) (into q s) in
    let away = map (λ (p : ℕ). no (used p) ∷ []) (out_of q t) in
    let nexts = flat_map (node_parts q used) (inner_nodes q nodes) in
    let onces = flat_map (once_parts q used) (upto nodes) in
    let all = routed_parts q used in
    let at_tail : (n p : ℕ) → Contains (out_of q n) p → (p < length q.arcs) × (tail p ≡ n) = λ n p m. let r = from_place q (λ arc. arc.tail == n) p m in (r.0, eqb-true (tail p) n r.1) in
    let at_head : (n p : ℕ) → Contains (into q n) p → (p < length q.arcs) × (head p ≡ n) = λ n p m. let r = from_place q (λ arc. arc.head == n) p m in (r.0, eqb-true (head p) n r.1) in
    let some_out : (n : ℕ) → (arc : Arc) × Contains way arc × (arc.tail ≡ n) → (p : ℕ) × Contains (out_of q n) p × (a (used p) ≡ true) = λ n x.
    let p = placed a chosen q used s t way path is x.0 x.1 in
    (p.0, at_place q (λ arc. arc.tail == n) p.0 p.1 (eq-eqb (tail p.0) n (ap (λ (y : Arc). y.tail) p.2 ∙ x.2)), p.3) in
    let some_in : (n : ℕ) → (arc : Arc) × Contains way arc × (arc.head ≡ n) → (p : ℕ) × Contains (into q n) p × (a (used p) ≡ true) = λ n x.
    let p = placed a chosen q used s t way path is x.0 x.1 in
    (p.0, at_place q (λ arc. arc.head == n) p.0 p.1 (eq-eqb (head p.0) n (ap (λ (y : Arc). y.head) p.2 ∙ x.2)), p.3) in
    let first : IsTrue (parts_value a start) = let p = some_out s (begins arcs s t way path apart) in use_some a used (out_of q s) p.0 p.1 p.2 in
    let last : IsTrue (parts_value a end) = let p = some_in t (ends arcs s t way path apart) in use_some a used (into q t) p.0 p.1 p.2 in
    let routed : Fulfils a all = Fulfils-flat_map a (λ (p : ℕ). map (λ (c : Condition). no (used p) ∷ affirmed c ∷ []) (arc_at q p).routing) (places q) (λ p m.
    let l : p < length q.arcs = below (length q.arcs) p m in
    Fulfils-map a (λ (c : Condition). no (used p) ∷ affirmed c ∷ []) (arc_at q p).routing (λ c n.
    let of : IsOfEdits edits c = All-contains (IsOfEdits edits) (arc_at q p).routing c (All-contains (IsAboutEdits edits) q.arcs (arc_at q p) sound.arcs (is_arc q p l)).routing n in
    elim (cases_Bool (a (used p))) [
      | inl on ↦
          let r = from_routed chosen q (bare (arc_at q p)) (over arcs s t way path (bare (arc_at q p)) (is.to p l on)) in
          let same : r.0 ≡ p = one_place nodes links edits q sound r.0 p r.1 l r.2 in
          or_right (not (a (used p))) (part_value a (affirmed c) || false) (or_left (part_value a (affirmed c)) false
          (affirmed_is a chosen edits c g of ∙ all_to (comes_true chosen) (arc_at q p).routing c (subst (λ (k : ℕ). is_routed chosen (arc_at q k) ≡ true) same r.3) n))
      | inr off ↦ or_left (not (a (used p))) (part_value a (affirmed c) || false) (ap not off)
    ])) in
    let backs : Fulfils a back = Fulfils-map a (λ (p : ℕ). no (used p) ∷ []) (into q s) (λ p m. let h = at_head s p m in
    unused a (used p) (λ on. not_back s way once (bare (arc_at q p)) (is.to p h.0 on) h.1)) in
    let aways : Fulfils a away = Fulfils-map a (λ (p : ℕ). no (used p) ∷ []) (out_of q t) (λ p m. let h = at_tail t p m in
    unused a (used p) (λ on. not_on arcs s t way path once (bare (arc_at q p)) (is.to p h.0 on) h.1)) in
    let between_is : (n : ℕ) → Contains (inner_nodes q nodes) n → (n ≡ s → ⊥) × (n ≡ t → ⊥) = λ n m.
    let r = from_filter (λ (k : ℕ). not (k == s) && not (k == t)) (upto nodes) n m in
    let b = and_parts (not (n == s)) (not (n == t)) r.1 in
    (λ e. not_true (n == s) (eq-eqb n s e) b.0, λ e. not_true (n == t) (eq-eqb n t e) b.1) in
    let nodes_true : Fulfils a nexts = Fulfils-flat_map a (node_parts q used) (inner_nodes q nodes) (λ n m.
    let apart_n = between_is n m in
    Fulfils-append a (implications used (into q n) (out_of q n)) (implications used (out_of q n) (into q n))
    (Fulfils-map a (λ (p : ℕ). no (used p) ∷ map (λ (other : ℕ). yes (used other)) (out_of q n)) (into q n) (λ p i. let h = at_head n p i in
    implies_some a used p (out_of q n) (λ on. elim (next arcs s t way path (bare (arc_at q p)) (is.to p h.0 on)) [
      | inl stop ↦ absurd (apart_n.1 (sym h.1 ∙ stop))
      | inr r ↦ some_out n (r.0, r.1, r.2 ∙ h.1)
    ])))
    (Fulfils-map a (λ (p : ℕ). no (used p) ∷ map (λ (other : ℕ). yes (used other)) (into q n)) (out_of q n) (λ p i. let h = at_tail n p i in
    implies_some a used p (into q n) (λ on. elim (before arcs s t way path (bare (arc_at q p)) (is.to p h.0 on)) [
      | inl begin ↦ absurd (apart_n.0 (sym h.1 ∙ begin))
      | inr r ↦ some_in n (r.0, r.1, r.2 ∙ h.1)
    ])))) in
    let onces_true : Fulfils a onces = Fulfils-flat_map a (once_parts q used) (upto nodes) (λ n m.
    Fulfils-append a (exclusions used (out_of q n)) (exclusions used (into q n))
    (excludes (λ (i j : ℕ). i < j) a used (out_of q n) (places-rising q (λ arc. arc.tail == n)) (λ i j x y less on_i on_j.
    let u = at_tail n i x in
    let v = at_tail n j y in
    let same : i ≡ j = one_place nodes links edits q sound i j u.0 v.0
    (one_out_of arcs s t way path once (bare (arc_at q i)) (bare (arc_at q j)) (is.to i u.0 on_i) (is.to j v.0 on_j) (u.1 ∙ sym v.1)) in
    omega (arith, same, less)))
    (excludes (λ (i j : ℕ). i < j) a used (into q n) (places-rising q (λ arc. arc.head == n)) (λ i j x y less on_i on_j.
    let u = at_head n i x in
    let v = at_head n j y in
    let same : i ≡ j = one_place nodes links edits q sound i j u.0 v.0 (one_into s way once (bare (arc_at q i)) (bare (arc_at q j)) (is.to i u.0 on_i) (is.to j v.0 on_j) (u.1 ∙ sym v.1)) in
    omega (arith, same, less)))) in
    Fulfils-append a (all ++ (start ∷ end ∷ []) ++ back ++ away ++ nexts) onces
    (Fulfils-append a (all ++ (start ∷ end ∷ []) ++ back ++ away) nexts
    (Fulfils-append a (all ++ (start ∷ end ∷ []) ++ back) away
    (Fulfils-append a (all ++ (start ∷ end ∷ [])) back
    (Fulfils-append a all (start ∷ end ∷ []) routed (Fulfils-cons a start (end ∷ []) first (Fulfils-cons a end [] last (Fulfils-none a))))
    backs) aways) nodes_true) onces_true

-- whether two arcs have one link and the same two ends
abbrev pub alike : Arc → Arc → Bool
alike x y = (x.link.0 == y.link.0) && ((x.tail == y.tail) && (x.head == y.head))

-- whether the arc at the place is one of the way
abbrev pub is_on : Question → List Arc → ℕ → Bool
is_on q way place = list_any (alike (bare (arc_at q place))) way

arc_with : (link tail head : ℕ) → Arc
arc_with link tail head = record { link = record { 0 = link }; tail = tail; head = head; cost = 0 }

bare_alike : (x y : ConditionArc) → alike (bare x) (bare y) ≡ true → bare x ≡ bare y
unfolding arc_with
bare_alike x y e =
    let b = and_parts (x.link.0 == y.link.0) ((x.tail == y.tail) && (x.head == y.head)) e in
    let c = and_parts (x.tail == y.tail) (x.head == y.head) b.1 in
    ap (λ (n : ℕ). arc_with n x.tail x.head) (eqb-true x.link.0 y.link.0 b.0)
    ∙ ap (λ (n : ℕ). arc_with y.link.0 n x.head) (eqb-true x.tail y.tail c.0)
    ∙ ap (λ (n : ℕ). arc_with y.link.0 y.tail n) (eqb-true x.head y.head c.1)

alike_itself : (x : Arc) → alike x x ≡ true
alike_itself x = and_from (x.link.0 == x.link.0) ((x.tail == x.tail) && (x.head == x.head)) (eq-eqb x.link.0 x.link.0 refl)
    (and_from (x.tail == x.tail) (x.head == x.head) (eq-eqb x.tail x.tail refl) (eq-eqb x.head x.head refl))

pub follows : (a chosen : ℕ → Bool) (q : Question) (used : ℕ → ℕ) (s t : ℕ) (way : List Arc) → ArcPath (routed_arcs chosen q) s way t →
    ((place : ℕ) → place < length q.arcs → a (used place) ≡ is_on q way place) → Follows a q used way
follows a chosen q used s t way path is = record {
  to = λ place l on.
      let y = any_to (alike (bare (arc_at q place))) way (sym (is place l) ∙ on) in
      let r = from_routed chosen q y.0 (over (routed_arcs chosen q) s t way path y.0 y.1) in
      let same : bare (arc_at q place) ≡ bare (arc_at q r.0) = bare_alike (arc_at q place) (arc_at q r.0) (ap (alike (bare (arc_at q place))) r.2 ∙ y.2) in
      subst (λ (x : Arc). Contains way x) (sym (same ∙ r.2)) y.1;
  from = λ place l m. is place l ∙ any_from (alike (bare (arc_at q place))) way (bare (arc_at q place)) m (alike_itself (bare (arc_at q place)));
}

-- a routed arc that is clear makes its clauses true, and so does one that is not routed
clear_true : (a chosen : ℕ → Bool) (edits class : ℕ) (arc : ConditionArc) → Agrees a chosen edits → IsAboutEdits edits arc →
    (IsTrue (is_routed chosen arc) → IsClearArc chosen class arc) → Fulfils a (clear_parts class arc)
clear_true a chosen edits class arc g has clear =
    let out = (lists_of arc class).outbound in
    let ins = (lists_of arc class).inbound in
    let says : (c : Condition) → IsOfEdits edits c → (IsTrue (is_routed chosen arc) → comes_true chosen c ≡ true) → IsTrue (parts_value a (map denied arc.routing ++ affirmed c ∷ [])) = λ c of h.
    elim (all_or_some (comes_true chosen) arc.routing) [
      | inl routed ↦ any_from (part_value a) (map denied arc.routing ++ affirmed c ∷ []) (affirmed c)
          (Contains-append_right (map denied arc.routing) (affirmed c ∷ []) (affirmed c) (Contains-head (affirmed c) []))
          (affirmed_is a chosen edits c g of ∙ h routed)
      | inr d ↦ any_from (part_value a) (map denied arc.routing ++ affirmed c ∷ []) (denied d.0)
          (Contains-append_left (map denied arc.routing) (affirmed c ∷ []) (denied d.0) (Contains-map denied arc.routing d.0 d.1))
          (denied_is a chosen edits d.0 g (All-contains (IsOfEdits edits) arc.routing d.0 has.routing d.1) ∙ ap not d.2)
    ] in
    Fulfils-cons a (map denied arc.routing ++ affirmed out ∷ []) ((map denied arc.routing ++ affirmed ins ∷ []) ∷ []) (says out (has.lists class).0 (λ r. (clear r).outbound))
    (Fulfils-cons a (map denied arc.routing ++ affirmed ins ∷ []) [] (says ins (has.lists class).1 (λ r. (clear r).inbound)) (Fulfils-none a))

-- an item over a link
pub from_item : (q : Question) (many link : ℕ) (x : ℕ × ℕ) → Contains (over_link q many link) x → (x.0 < many) × (x.1 < length q.arcs) × ((arc_at q x.1).link.0 ≡ link)
from_item q many link x m =
    let row = λ (family : ℕ). map (λ (place : ℕ). (family, place)) (filter (λ (place : ℕ). (arc_at q place).link.0 == link) (places q)) in
    let f = from_piece {X = ℕ} {Y = ℕ × ℕ} row (upto many) x m in
    let p = from_map {X = ℕ} {Y = ℕ × ℕ} (λ (place : ℕ). (f.0, place)) (filter (λ (place : ℕ). (arc_at q place).link.0 == link) (places q)) x f.2 in
    let w = from_place q (λ arc. arc.link.0 == link) p.0 p.1 in
    let e : p.0 ≡ x.1 = ap (λ (y : ℕ × ℕ). y.1) p.2 in (
      subst (λ (k : ℕ). k < many) (ap (λ (y : ℕ × ℕ). y.0) p.2) (below many f.0 f.1),
      subst (λ (k : ℕ). k < length q.arcs) e w.0,
      subst (λ (k : ℕ). (arc_at q k).link.0 ≡ link) e (eqb-true (arc_at q p.0).link.0 link w.1),
    )

-- items over a link rise by their families, and then by their places
abbrev Rises : ℕ × ℕ → ℕ × ℕ → Type 0
Rises x y = (x.0 < y.0) ⊎ ((x.0 ≡ y.0) × (x.1 < y.1))

-- the items with one more family
pub more-items : (q : Question) (link many : ℕ) →
    over_link q (suc many) link ≡ over_link q many link ++ map (λ (place : ℕ). (many, place)) (filter (λ (place : ℕ). (arc_at q place).link.0 == link) (places q))
more-items q link many =
    let row : ℕ → List (ℕ × ℕ) = λ family. map (λ (place : ℕ). (family, place)) (filter (λ (place : ℕ). (arc_at q place).link.0 == link) (places q)) in
    flat_map-append row (upto many) (many ∷ []) ∙ ap (λ (xs : List (ℕ × ℕ)). over_link q many link ++ xs) (append-nil (row many))

items-rise : (q : Question) (link many : ℕ) → AllPairs Rises (over_link q many link)
items-rise q link zero = AllPairs-none Rises
items-rise q link (suc many) =
    let at = filter (λ (place : ℕ). (arc_at q place).link.0 == link) (places q) in
    let last = map (λ (place : ℕ). (many, place)) at in
    let whole : AllPairs Rises (over_link q many link ++ last) = AllPairs-append Rises (over_link q many link) last (items-rise q link many)
    (AllPairs-map Rises (λ (place : ℕ). (many, place)) at
    (AllPairs-among (λ (i j : ℕ). i < j) (λ (i j : ℕ). Rises (many, i) (many, j)) at (λ i j m n l. inr (refl, l)) (places-rising q (λ arc. arc.link.0 == link))))
    (λ x y m n.
    let f = from_item q many link x m in
    let p = from_map {X = ℕ} {Y = ℕ × ℕ} (λ (place : ℕ). (many, place)) at y n in
    inl (subst (λ (k : ℕ). x.0 < k) (ap (λ (z : ℕ × ℕ). z.0) p.2) f.0)) in
    subst (λ (xs : List (ℕ × ℕ)). AllPairs Rises xs) (sym (more-items q link many)) whole

-- if the ways lead there and the routed arcs are clear, the clauses of reach are true
pub paths_true : (a chosen : ℕ → Bool) (nodes links edits : ℕ) (q : Question) (many : ℕ) (used : ℕ → ℕ → ℕ) → IsSound nodes links edits q → Agrees a chosen edits → q.source ≢ q.target →
    (w : Ways (routed_arcs chosen q) q.source q.target many) →
    ((class : ℕ) → class < length q.classes → (arc : ConditionArc) → Contains q.arcs arc → IsTrue (is_routed chosen arc) → IsClearArc chosen class arc) →
    ((family place : ℕ) → family < many → place < length q.arcs → a (used family place) ≡ is_on q (w.way family) place) → Fulfils a (paths_parts q nodes links many used)
paths_true a chosen nodes links edits q many used sound g apart w clear is =
    let clears = flat_map (λ (class : ℕ). flat_map (clear_parts class) q.arcs) (upto (length q.classes)) in
    let families = flat_map (λ (f : ℕ). family_parts q nodes (used f)) (upto many) in
    let overs = flat_map (λ (link : ℕ). exclusions (λ (item : ℕ × ℕ). used item.0 item.1) (over_link q many link)) (upto links) in
    let fol : (f : ℕ) → f < many → Follows a q (used f) (w.way f) = λ f l. follows a chosen q (used f) q.source q.target (w.way f) (w.leads f l) (λ place m. is f place l m) in
    Fulfils-append a (clears ++ families) overs
    (Fulfils-append a clears families
    (Fulfils-flat_map a (λ (class : ℕ). flat_map (clear_parts class) q.arcs) (upto (length q.classes)) (λ class m.
    Fulfils-flat_map a (clear_parts class) q.arcs
    (λ arc n. clear_true a chosen edits class arc g (All-contains (IsAboutEdits edits) q.arcs arc sound.arcs n) (clear class (below (length q.classes) class m) arc n))))
    (Fulfils-flat_map a (λ (f : ℕ). family_parts q nodes (used f)) (upto many) (λ f m.
    let l : f < many = below many f m in
    family_true a chosen nodes links edits q (used f) (w.way f) sound g apart (w.leads f l) (w.once f l) (fol f l))))
    (Fulfils-flat_map a (λ (link : ℕ). exclusions (λ (item : ℕ × ℕ). used item.0 item.1) (over_link q many link)) (upto links) (λ link m.
    excludes Rises a (λ (item : ℕ × ℕ). used item.0 item.1) (over_link q many link) (items-rise q link many) (λ x y n o rise on_x on_y.
    let u = from_item q many link x n in
    let v = from_item q many link y o in
    let same : (arc_at q x.1).link ≡ (arc_at q y.1).link = ap (λ (k : ℕ). let l : Link = record { 0 = k } in l) (u.2 ∙ sym v.2) in
    let one : Contains (w.way x.0) (bare (arc_at q x.1)) = (fol x.0 u.0).to x.1 u.1 on_x in
    let two : Contains (w.way y.0) (bare (arc_at q y.1)) = (fol y.0 v.0).to y.1 v.1 on_y in
    elim rise [
      | inl less ↦ w.apart x.0 y.0 less v.0 (bare (arc_at q x.1)) (bare (arc_at q y.1)) one two same
      | inr within ↦
          let arc_is : bare (arc_at q x.1) ≡ bare (arc_at q y.1) = w.own_links x.0 u.0 (bare (arc_at q x.1)) (bare (arc_at q y.1)) one
          (subst (λ (k : ℕ). Contains (w.way k) (bare (arc_at q y.1))) (sym within.0) two) same in
          let place_is : x.1 ≡ y.1 = one_place nodes links edits q sound x.1 y.1 u.1 v.1 arc_is in
          omega (arith, place_is, within.1)
    ])))
