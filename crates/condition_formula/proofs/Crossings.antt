-- Clauses of reach, from a model to the network: each family crosses every cut, over a link of its own.
use Rattle.std.proofs.Common.{◌≡◌, ◌≢◌, ℕ, zero, suc, ◌<◌, ◌≤◌, Bool, true, false, not, ◌&&◌, IsTrue, IsFalse, List}
use Rattle.std.proofs.Common.{[], ◌∷◌, ◌++◌, length, map, filter, AllPairs, Contains, inl, inr, refl, sym, ap, ◌∙◌, subst, arith}
use Rattle.std.specs.Prelude.{◌==◌}
use Rattle.std.specs.List.{flat_map}
use Rattle.std.proofs.lemmas.Bool.{eq-eqb, eqb-true, ne_eqb, and_parts, and_from, false≢true, both_ways}
use Rattle.std.proofs.lemmas.List.{length-map}
use Rattle.std.proofs.lemmas.List.Elements.{All-contains, Contains-append_cases}
use Rattle.std.proofs.lemmas.List.Kept.{AllPairs-cons, AllPairs-filter}
use Rattle.arc_base.specs.declared.place.Link.{Link}
use Rattle.arc_base.proofs.Items.{Contains-head, Contains-tail, Contains-cases, Contains-none, Contains-map, from_map}
use Rattle.arc_base.proofs.Items.{Contains-piece, Contains-filter, from_filter, All-from, AllPairs-among, AllPairs-map, AllPairs-none}
use Rattle.graph_flow.specs.Paths.{Digraph}
use Rattle.graph_flow.specs.Sides.{AreLeftOver}
use Rattle.graph_flow.specs.Laws.{HavePaths}
use Rattle.graph_flow.proofs.Menger.{paths_or_cut}
use Rattle.condition_formula.specs.declared.condition.Condition.{Condition}
use Rattle.condition_formula.specs.declared.network.ConditionArc.{ConditionArc}
use Rattle.condition_formula.specs.declared.network.Question.{Question}
use Rattle.condition_formula.specs.Lists.{upto}
use Rattle.condition_formula.specs.Conditions.{comes_true, IsOfEdits, IsAboutEdits, IsSound, IsClearArc, lists_of, is_routed, bare, routed_arcs}
use Rattle.condition_formula.specs.Clauses.{yes, no, affirmed, denied, part_value, parts_value, Fulfils}
use Rattle.condition_formula.specs.Reaching.{arc_at, places, out_of, into, exclusions, implications, routed_parts, node_parts, once_parts, inner_nodes, family_parts, over_link, clear_parts}
use Rattle.condition_formula.specs.Reaching.{paths_parts}
use Rattle.condition_formula.proofs.Parts.{Agrees, affirmed_is, denied_is, any_to, all_from, all_to, all_or_some}
use Rattle.condition_formula.proofs.Places.{in_upto, below, one_of, only_one, not_true, excluded, Fulfils-left, Fulfils-right, Fulfils-piece}
use Rattle.condition_formula.proofs.Distinct.{fit_into, upto-rising}
use Rattle.condition_formula.proofs.Used.{at_place, from_place, is_arc, joins_at, routed-graph, routed_at, some_used, one_implies}

-- what the clauses of a family say
pub record Family (a chosen : ℕ → Bool) (q : Question) (nodes : ℕ) (used : ℕ → ℕ) : Type 0 where
  pub routed : (place : ℕ) → place < length q.arcs → a (used place) ≡ true → is_routed chosen (arc_at q place) ≡ true
  pub starts : (place : ℕ) × Contains (out_of q q.source) place × (a (used place) ≡ true)
  pub not_back : (place : ℕ) → Contains (into q q.source) place → a (used place) ≡ true → ⊥
  pub goes_on : (node place : ℕ) → Contains (inner_nodes q nodes) node → Contains (into q node) place → a (used place) ≡ true → (next : ℕ) × Contains (out_of q node) next × (a (used next) ≡ true)
  pub one_in : (node i j : ℕ) → node < nodes → Contains (into q node) i → Contains (into q node) j → (i ≡ j → ⊥) → a (used i) ≡ true → a (used j) ≡ true → ⊥

pub family : (a chosen : ℕ → Bool) (nodes links edits : ℕ) (q : Question) (used : ℕ → ℕ) → IsSound nodes links edits q → Agrees a chosen edits →
    Fulfils a (family_parts q nodes used) → Family a chosen q nodes used
family a chosen nodes links edits q used sound g h =
    let start = map (λ (p : ℕ). yes (used p)) (out_of q q.source) in
    let end = map (λ (p : ℕ). yes (used p)) (into q q.target) in
    let back = map (λ (p : ℕ). no (used p) ∷ []) (into q q.source) in
    let away = map (λ (p : ℕ). no (used p) ∷ []) (out_of q q.target) in
    let nexts = flat_map (node_parts q used) (inner_nodes q nodes) in
    let onces = flat_map (once_parts q used) (upto nodes) in
    let all = routed_parts q used in
    let ends = start ∷ end ∷ [] in
    let to_away : Fulfils a (all ++ ends ++ back ++ away) = Fulfils-left a (all ++ ends ++ back ++ away) nexts (Fulfils-left a (all ++ ends ++ back ++ away ++ nexts) onces h) in
    let to_back : Fulfils a (all ++ ends ++ back) = Fulfils-left a (all ++ ends ++ back) away to_away in
    let to_ends : Fulfils a (all ++ ends) = Fulfils-left a (all ++ ends) back to_back in
    record {
      routed = λ place l on. all_from (comes_true chosen) (arc_at q place).routing (λ c m.
          let clause = no (used place) ∷ affirmed c ∷ [] in
          let t : IsTrue (parts_value a clause) = Fulfils-piece a (λ (p : ℕ). map (λ (d : Condition). no (used p) ∷ affirmed d ∷ []) (arc_at q p).routing) (places q) place
          (Fulfils-left a all ends to_ends) (in_upto (length q.arcs) place l) clause (Contains-map (λ (d : Condition). no (used place) ∷ affirmed d ∷ []) (arc_at q place).routing c m) in
          let of : IsOfEdits edits c = All-contains (IsOfEdits edits) (arc_at q place).routing c (All-contains (IsAboutEdits edits) q.arcs (arc_at q place) sound.arcs (is_arc q place l)).routing m in
          elim (one_of (not (a (used place))) (part_value a (affirmed c)) t) [
            | inl off ↦ absurd (not_true (a (used place)) on off)
            | inr yes_c ↦ sym (affirmed_is a chosen edits c g of) ∙ yes_c
          ]);
      starts = some_used a used (out_of q q.source) (Fulfils-right a all ends to_ends start (Contains-head start (end ∷ [])));
      not_back = λ place m on.
          not_true (a (used place)) on (only_one (not (a (used place))) (Fulfils-right a (all ++ ends) back to_back (no (used place) ∷ [])
          (Contains-map (λ (p : ℕ). no (used p) ∷ []) (into q q.source) place m)));
      goes_on = λ node place n m on.
          one_implies a used place (out_of q node)
          (Fulfils-left a (implications used (into q node) (out_of q node)) (implications used (out_of q node) (into q node))
          (Fulfils-piece a (node_parts q used) (inner_nodes q nodes) node (Fulfils-right a (all ++ ends ++ back ++ away) nexts (Fulfils-left a (all ++ ends ++ back ++ away ++ nexts) onces h)) n)
          (no (used place) ∷ map (λ (other : ℕ). yes (used other)) (out_of q node))
          (Contains-map (λ (p : ℕ). no (used p) ∷ map (λ (other : ℕ). yes (used other)) (out_of q node)) (into q node) place m)) on;
      one_in = λ node i j l m n ne s t.
          excluded a used (into q node) i j
          (Fulfils-right a (exclusions used (out_of q node)) (exclusions used (into q node))
          (Fulfils-piece a (once_parts q used) (upto nodes) node (Fulfils-right a (all ++ ends ++ back ++ away ++ nexts) onces h) (in_upto nodes node l))) m n ne s t;
    }

-- a used place whose arc leads out of the side
pub record Crossing (a : ℕ → Bool) (q : Question) (used : ℕ → ℕ) (side : ℕ → Bool) : Type 0 where
  pub place : ℕ
  pub is_place : place < length q.arcs
  pub on : a (used place) ≡ true
  pub from_inside : IsTrue (side (arc_at q place).tail)
  pub to_outside : IsFalse (side (arc_at q place).head)

-- whether the place is used and its arc stays inside
abbrev stays_at : (ℕ → Bool) → Question → (ℕ → ℕ) → (ℕ → Bool) → ℕ → Bool
stays_at a q used side place = not (a (used place) && (side (arc_at q place).tail && not (side (arc_at q place).head)))

stays_in : (x y z : Bool) → not (x && (y && not z)) ≡ true → x ≡ true → y ≡ true → z ≡ true
stays_in false y z h s t = absurd (false≢true s)
stays_in true false z h s t = absurd (false≢true t)
stays_in true true true h s t = refl
stays_in true true false h s t = h

goes_out : (x y z : Bool) → not (x && (y && not z)) ≡ false → (x ≡ true) × (y ≡ true) × (z ≡ false)
goes_out false y z h = absurd (false≢true (sym h))
goes_out true false z h = absurd (false≢true (sym h))
goes_out true true true h = absurd (false≢true (sym h))
goes_out true true false h = (refl, refl, refl)

-- the arcs that a family uses inside a side which none leaves would have one more tail than heads
no_escape : (a chosen : ℕ → Bool) (nodes links edits : ℕ) (q : Question) (used : ℕ → ℕ) (side : ℕ → Bool) → IsSound nodes links edits q → Family a chosen q nodes used →
    IsTrue (side q.source) → IsFalse (side q.target) →
    ((place : ℕ) → place < length q.arcs → a (used place) ≡ true → side (arc_at q place).tail ≡ true → side (arc_at q place).head ≡ true) → ⊥
no_escape a chosen nodes links edits q used side sound fam s_in t_out closed =
    let test = λ (p : ℕ). a (used p) && side (arc_at q p).tail in
    let inside = filter test (places q) in
    let head = λ (p : ℕ). (arc_at q p).head in
    let tail = λ (p : ℕ). (arc_at q p).tail in
    let of = λ (p : ℕ) (m : Contains inside p). let f = from_filter test (places q) p m in let b =
    and_parts (a (used p)) (side (tail p)) f.1 in let out : (p < length q.arcs) × (a (used p) ≡ true) × (side (tail p) ≡ true) = (below (length q.arcs) p f.0, b.0, b.1) in out in
    let keep : (p : ℕ) → p < length q.arcs → a (used p) ≡ true → side (tail p) ≡ true → Contains inside p =
    λ p l on t. Contains-filter test (places q) p (in_upto (length q.arcs) p l) (and_from (a (used p)) (side (tail p)) on t) in
    let not_s : (p : ℕ) → p < length q.arcs → a (used p) ≡ true → head p ≡ q.source → ⊥ = λ p l on e.
    fam.not_back p (at_place q (λ arc. arc.head == q.source) p l (eq-eqb (head p) q.source e)) on in
    let differ : AllPairs (λ (x y : ℕ). x ≢ y) (map head inside) =
    AllPairs-map (λ (x y : ℕ). x ≢ y) head inside (AllPairs-among (λ (i j : ℕ). i < j) (λ (i j : ℕ). head i ≢ head j) inside (λ i j m n l e.
    let x = of i m in
    let y = of j n in
    fam.one_in (head i) i j (joins_at nodes links edits q sound i x.0).head_node
    (at_place q (λ arc. arc.head == head i) i x.0 (eq-eqb (head i) (head i) refl))
    (at_place q (λ arc. arc.head == head i) j y.0 (eq-eqb (head j) (head i) (sym e)))
    (λ same. omega (arith, l, same)) x.1 y.1)
    (AllPairs-filter (λ (i j : ℕ). i < j) test (places q) (upto-rising (length q.arcs)))) in
    let all_differ : AllPairs (λ (x y : ℕ). x ≢ y) (q.source ∷ map head inside) =
    AllPairs-cons (λ (x y : ℕ). x ≢ y) q.source (map head inside) (All-from (λ (x : ℕ). q.source ≢ x) (map head inside) (λ n m e.
    let p = from_map head inside n m in
    let x = of p.0 p.1 in
    not_s p.0 x.0 x.1 (p.2 ∙ sym e))) differ in
    let tail_of : (n : ℕ) → (p : ℕ) × Contains inside p × (tail p ≡ n) → Contains (map tail inside) n = λ n p. subst (λ (k : ℕ). Contains (map tail inside) k) p.2 (Contains-map tail inside p.0 p.1) in
    let few : length (q.source ∷ map head inside) ≤ length (map tail inside) = fit_into (q.source ∷ map head inside) (map tail inside) all_differ (λ n m.
    elim (Contains-cases q.source n (map head inside) m) [
      | inl e ↦
          let first = fam.starts in
          let w = from_place q (λ arc. arc.tail == q.source) first.0 first.1 in
          let at : tail first.0 ≡ q.source = eqb-true (tail first.0) q.source w.1 in
          tail_of n (first.0, keep first.0 w.0 first.2 (ap side at ∙ s_in), at ∙ e)
      | inr later ↦
          let p = from_map head inside n later in
          let x = of p.0 p.1 in
          let hd_in : side (head p.0) ≡ true = closed p.0 x.0 x.1 x.2 in
          let node : head p.0 < nodes = (joins_at nodes links edits q sound p.0 x.0).head_node in
          let mid : Contains (inner_nodes q nodes) (head p.0) = Contains-filter (λ (k : ℕ). not (k == q.source) && not (k == q.target)) (upto nodes) (head p.0) (in_upto nodes (head p.0) node)
          (and_from (not (head p.0 == q.source)) (not (head p.0 == q.target)) (ap not (ne_eqb (head p.0) q.source (λ e. not_s p.0 x.0 x.1 e)))
          (ap not (ne_eqb (head p.0) q.target (λ e. both_ways (side q.target) t_out (ap side (sym e) ∙ hd_in))))) in
          let next = fam.goes_on (head p.0) p.0 mid (at_place q (λ arc. arc.head == head p.0) p.0 x.0 (eq-eqb (head p.0) (head p.0) refl)) x.1 in
          let w = from_place q (λ arc. arc.tail == head p.0) next.0 next.1 in
          let at : tail next.0 ≡ head p.0 = eqb-true (tail next.0) (head p.0) w.1 in
          tail_of n (next.0, keep next.0 w.0 next.2 (ap side at ∙ hd_in), at ∙ p.2)
    ]) in
    omega (arith, few, length-map inside head, length-map inside tail)

-- a family crosses each cut
pub crosses : (a chosen : ℕ → Bool) (nodes links edits : ℕ) (q : Question) (used : ℕ → ℕ) (side : ℕ → Bool) → IsSound nodes links edits q → Family a chosen q nodes used →
    IsTrue (side q.source) → IsFalse (side q.target) → Crossing a q used side
crosses a chosen nodes links edits q used side sound fam s_in t_out =
    elim (all_or_some (stays_at a q used side) (places q)) [
      | inl none ↦ absurd (no_escape a chosen nodes links edits q used side sound fam s_in t_out (λ p l on t.
          stays_in (a (used p)) (side (arc_at q p).tail) (side (arc_at q p).head) (all_to (stays_at a q used side) (places q) p none (in_upto (length q.arcs) p l)) on t))
      | inr some ↦
          let out = goes_out (a (used some.0)) (side (arc_at q some.0).tail) (side (arc_at q some.0).head) some.2 in
          record { place = some.0; is_place = below (length q.arcs) some.0 some.1; on = out.0; from_inside = out.1; to_outside = out.2 }
    ]

-- links of a cut over which the first `many` families cross it, each over its own
record Crossed (a : ℕ → Bool) (q : Question) (used : ℕ → ℕ → ℕ) (cut : List Link) (many : ℕ) : Type 0 where
  links : List Link
  count : length links ≡ many
  different : AllPairs (λ (k l : Link). k ≢ l) links
  in_cut : (k : Link) → Contains links k → Contains cut k
  over : (k : Link) → Contains links k → (family : ℕ) × (place : ℕ) × (family < many) × (place < length q.arcs) × (a (used family place) ≡ true) × ((arc_at q place).link ≡ k)

-- the families that cross over one link are one family
over_one : (a : ℕ → Bool) (nodes links edits : ℕ) (q : Question) (many : ℕ) (used : ℕ → ℕ → ℕ) → IsSound nodes links edits q →
    Fulfils a (flat_map (λ (link : ℕ). exclusions (λ (item : ℕ × ℕ). used item.0 item.1) (over_link q many link)) (upto links)) →
    (f g i j : ℕ) → f < g → g < many → i < length q.arcs → j < length q.arcs → a (used f i) ≡ true → a (used g j) ≡ true → (arc_at q i).link ≡ (arc_at q j).link → ⊥
over_one a nodes links edits q many used sound h f g i j l m at_i at_j on_i on_j same =
    let link = (arc_at q i).link.0 in
    let below_links : link < links = All-contains (λ (arc : ConditionArc). arc.link.0 < links) q.arcs (arc_at q i) sound.of_links (is_arc q i at_i) in
    let item : (k p : ℕ) → k < many → p < length q.arcs → (arc_at q p).link.0 ≡ link → Contains {X = ℕ × ℕ} (over_link q many link) (k, p) = λ k p lk lp e.
    Contains-piece (λ (family : ℕ). map (λ (place : ℕ). (family, place)) (filter (λ (place : ℕ). (arc_at q place).link.0 == link) (places q))) (upto many) k (k, p) (in_upto many k lk)
    (Contains-map (λ (place : ℕ). (k, place)) (filter (λ (place : ℕ). (arc_at q place).link.0 == link) (places q)) p
    (at_place q (λ arc. arc.link.0 == link) p lp (eq-eqb (arc_at q p).link.0 link e))) in
    excluded {X = ℕ × ℕ} a (λ (x : ℕ × ℕ). used x.0 x.1) (over_link q many link) (f, i) (g, j)
    (Fulfils-piece a (λ (k : ℕ). exclusions (λ (x : ℕ × ℕ). used x.0 x.1) (over_link q many k)) (upto links) link h (in_upto links link below_links))
    (item f i (omega arith) at_i refl) (item g j m at_j (ap (λ (k : Link). k.0) (sym same)))
    (λ e. omega (arith, ap (λ (x : ℕ × ℕ). x.0) e, l)) on_i on_j

crossed : (a chosen : ℕ → Bool) (nodes links edits : ℕ) (q : Question) (all : ℕ) (used : ℕ → ℕ → ℕ) (side : ℕ → Bool) (cut : List Link) → IsSound nodes links edits q →
    Fulfils a (flat_map (λ (link : ℕ). exclusions (λ (item : ℕ × ℕ). used item.0 item.1) (over_link q all link)) (upto links)) →
    ((f : ℕ) → f < all → Family a chosen q nodes (used f)) → IsTrue (side q.source) → IsFalse (side q.target) → AreLeftOver (routed_arcs chosen q) side cut →
    (many : ℕ) → many ≤ all → Crossed a q used cut many
crossed a chosen nodes links edits q all used side cut sound h fams s_in t_out left zero le = record {
  links = [];
  count = refl;
  different = AllPairs-none (λ (k l : Link). k ≢ l);
  in_cut = λ k m. absurd (Contains-none k m);
  over = λ k m. absurd (Contains-none k m);
}
crossed a chosen nodes links edits q all used side cut sound h fams s_in t_out left (suc many) le =
    let rest : Crossed a q used cut many = crossed a chosen nodes links edits q all used side cut sound h fams s_in t_out left many (omega arith) in
    let lt : many < all = omega arith in
    let fam : Family a chosen q nodes (used many) = fams many lt in
    let c : Crossing a q (used many) side = crosses a chosen nodes links edits q (used many) side sound fam s_in t_out in
    let link = (arc_at q c.place).link in
    record {
      links = link ∷ rest.links;
      count = ap suc rest.count;
      different = AllPairs-cons (λ (k l : Link). k ≢ l) link rest.links (All-from (λ (k : Link). link ≢ k) rest.links (λ k m e.
          let o = rest.over k m in
          over_one a nodes links edits q all used sound h o.0 many o.1 c.place o.2 lt o.3 c.is_place o.4 c.on (o.5 ∙ sym e))) rest.different;
      in_cut = λ k m. elim (Contains-cases link k rest.links m) [
        | inl e ↦ subst (λ (x : Link). Contains cut x) e
            (left.each (bare (arc_at q c.place)) (routed_at chosen q c.place c.is_place (fam.routed c.place c.is_place c.on)) (record { from_inside = c.from_inside; to_outside = c.to_outside }))
        | inr later ↦ rest.in_cut k later
      ];
      over = λ k m. elim (Contains-cases link k rest.links m) [
        | inl e ↦ (many, c.place, omega arith, c.is_place, c.on, e)
        | inr later ↦ let o = rest.over k later in let lo : o.0 < many = o.2 in (o.0, o.1, omega arith, o.3, o.4, o.5)
      ];
    }

-- a model of reach has `many` link-disjoint paths
pub paths_from_model : (a chosen : ℕ → Bool) (nodes links edits : ℕ) (q : Question) (many : ℕ) (used : ℕ → ℕ → ℕ) → IsSound nodes links edits q → Agrees a chosen edits → q.source ≢ q.target →
    Fulfils a (paths_parts q nodes links many used) → HavePaths (routed_arcs chosen q) q.source q.target many
paths_from_model a chosen nodes links edits q many used sound g apart h =
    let clears = flat_map (λ (class : ℕ). flat_map (clear_parts class) q.arcs) (upto (length q.classes)) in
    let families = flat_map (λ (f : ℕ). family_parts q nodes (used f)) (upto many) in
    let overs = flat_map (λ (link : ℕ). exclusions (λ (item : ℕ × ℕ). used item.0 item.1) (over_link q many link)) (upto links) in
    let first : Fulfils a (clears ++ families) = Fulfils-left a (clears ++ families) overs h in
    let fams : (f : ℕ) → f < many → Family a chosen q nodes (used f) = λ f l.
    family a chosen nodes links edits q (used f) sound g (Fulfils-piece a (λ (k : ℕ). family_parts q nodes (used k)) (upto many) f (Fulfils-right a clears families first) (in_upto many f l)) in
    let graph : Digraph = record { nodes = nodes; arcs = routed_arcs chosen q } in
    elim (paths_or_cut graph (routed-graph nodes links edits chosen q sound) q.source q.target many sound.source sound.target apart) [
      | inl paths ↦ paths
      | inr cut ↦
          let c : Crossed a q used cut.links many = crossed a chosen nodes links edits q many used cut.side cut.links sound
          (Fulfils-right a (clears ++ families) overs h) fams cut.separates.source cut.separates.target cut.left_over many (omega arith) in
          let few : length c.links ≤ length cut.links = fit_into c.links cut.links c.different c.in_cut in
          absurd (omega (arith, few, c.count, cut.few))
    ]

-- in a model of reach each routed arc is clear
pub clear_from_model : (a chosen : ℕ → Bool) (nodes links edits : ℕ) (q : Question) (many : ℕ) (used : ℕ → ℕ → ℕ) → IsSound nodes links edits q → Agrees a chosen edits →
    Fulfils a (paths_parts q nodes links many used) → (class : ℕ) → class < length q.classes → (arc : ConditionArc) → Contains q.arcs arc → IsTrue (is_routed chosen arc) → IsClearArc chosen class arc
clear_from_model a chosen nodes links edits q many used sound g h class l arc m routed =
    let clears = flat_map (λ (c : ℕ). flat_map (clear_parts c) q.arcs) (upto (length q.classes)) in
    let families = flat_map (λ (f : ℕ). family_parts q nodes (used f)) (upto many) in
    let overs = flat_map (λ (link : ℕ). exclusions (λ (item : ℕ × ℕ). used item.0 item.1) (over_link q many link)) (upto links) in
    let both : Fulfils a (clear_parts class arc) = Fulfils-piece a (clear_parts class) q.arcs arc
    (Fulfils-piece a (λ (c : ℕ). flat_map (clear_parts c) q.arcs) (upto (length q.classes)) class (Fulfils-left a clears families (Fulfils-left a (clears ++ families) overs h))
    (in_upto (length q.classes) class l)) m in
    let has : IsAboutEdits edits arc = All-contains (IsAboutEdits edits) q.arcs arc sound.arcs m in
    let out = (lists_of arc class).outbound in
    let ins = (lists_of arc class).inbound in
    let says : (c : Condition) → IsOfEdits edits c → IsTrue (parts_value a (map denied arc.routing ++ affirmed c ∷ [])) → comes_true chosen c ≡ true = λ c of t.
    let r = any_to (part_value a) (map denied arc.routing ++ affirmed c ∷ []) t in
    elim (Contains-append_cases (map denied arc.routing) (affirmed c ∷ []) r.0 r.1) [
      | inl d ↦
          let e = from_map denied arc.routing r.0 d in
          absurd (not_true (comes_true chosen e.0) (all_to (comes_true chosen) arc.routing e.0 routed e.1)
          (sym (denied_is a chosen edits e.0 g (All-contains (IsOfEdits edits) arc.routing e.0 has.routing e.1)) ∙ (ap (part_value a) e.2 ∙ r.2)))
      | inr last ↦ elim (Contains-cases (affirmed c) r.0 [] last) [
        | inl e ↦ sym (affirmed_is a chosen edits c g of) ∙ (ap (part_value a) e ∙ r.2)
        | inr none ↦ absurd (Contains-none r.0 none)
      ]
    ] in
    let first = map denied arc.routing ++ affirmed out ∷ [] in
    let second = map denied arc.routing ++ affirmed ins ∷ [] in
    record {
      outbound = says out (has.lists class).0 (both first (Contains-head first (second ∷ [])));
      inbound = says ins (has.lists class).1 (both second (Contains-tail first second (second ∷ []) (Contains-head second [])));
    }
