-- Which variables the clauses use.
use Rattle.std.proofs.Common.{◌≡◌, ℕ, ◌+◌, ◌-◌, ◌<◌, ◌≤◌, Bool, true, false, List, [], ◌∷◌, ◌++◌, length, get_or, map, Contains, inl, inr, refl, subst, arith}
use Rattle.std.specs.Prelude.{◌==◌, if◌then◌else◌, nat_lt}
use Rattle.std.specs.List.{flat_map}
use Rattle.std.proofs.lemmas.List.Elements.{All-contains, Contains-append_cases}
use Rattle.arc_base.proofs.Items.{Contains-cases, Contains-none, Contains-map, from_map, from_piece, from_filter}
use Rattle.graph_flow.specs.Paths.{Joins}
use Rattle.condition_formula.specs.declared.condition.Condition.{Condition}
use Rattle.condition_formula.specs.declared.condition.Condition.TheVariants.{Always, Never, If, Unless}
use Rattle.condition_formula.specs.declared.part.Part.{Part}
use Rattle.condition_formula.specs.declared.part.Part.TheVariants.{Fixed, Literal}
use Rattle.condition_formula.specs.declared.network.ConditionArc.{ConditionArc}
use Rattle.condition_formula.specs.declared.network.Question.{Question}
use Rattle.condition_formula.specs.Lists.{upto, pairs}
use Rattle.condition_formula.specs.Conditions.{IsOfEdits, IsAboutEdits, IsSound, lists_of, conditions_of, ends_of, counted_arcs, is_counted, bare}
use Rattle.condition_formula.specs.Clauses.{yes, no, affirmed, denied, edit_variable}
use Rattle.condition_formula.specs.Sides.{step_parts, side_parts, kept_off_parts}
use Rattle.condition_formula.specs.Reaching.{arc_at, places, out_of, into, exclusions, implications, routed_parts, node_parts}
use Rattle.condition_formula.specs.Reaching.{once_parts, inner_nodes, family_parts, over_link, ends_parts, clear_parts, paths_parts, reached_parts}
use Rattle.condition_formula.specs.Prices.{kept_parts, added_parts, price_parts}
use Rattle.condition_formula.proofs.Places.{below, from_pairs, InPairs}
use Rattle.condition_formula.proofs.KeptOff.{of_conditions}
use Rattle.condition_formula.proofs.Used.{from_place, is_arc}
use Rattle.condition_formula.proofs.Families.{from_item}

-- each item of the list has the property
abbrev pub Each : {X : Type 0} → (X → Type 0) → List X → Type 0
Each {X} Q xs = (x : X) → Contains xs x → Q x

Each-none : {X : Type 0} (Q : X → Type 0) → Each Q []
Each-none Q x m = absurd (Contains-none x m)

Each-cons : {X : Type 0} (Q : X → Type 0) (y : X) (ys : List X) → Q y → Each Q ys → Each Q (y ∷ ys)
Each-cons Q y ys one rest x m = elim (Contains-cases y x ys m) [ inl e ↦ subst Q e one | inr l ↦ rest x l ]

Each-append : {X : Type 0} (Q : X → Type 0) (xs ys : List X) → Each Q xs → Each Q ys → Each Q (xs ++ ys)
Each-append Q xs ys p q x m = elim (Contains-append_cases xs ys x m) [ inl l ↦ p x l | inr r ↦ q x r ]

Each-map : {X Y : Type 0} (Q : Y → Type 0) (f : X → Y) (xs : List X) → ((x : X) → Contains xs x → Q (f x)) → Each Q (map f xs)
Each-map Q f xs h y m = let r = from_map f xs y m in subst Q r.2 (h r.0 r.1)

Each-flat_map : {X Y : Type 0} (Q : Y → Type 0) (f : X → List Y) (xs : List X) → ((x : X) → Contains xs x → Each Q (f x)) → Each Q (flat_map f xs)
Each-flat_map Q f xs h y m = let r = from_piece f xs y m in h r.0 r.1 y r.2

Each-arms : {X : Type 0} (Q : X → Type 0) (b : Bool) (xs ys : List X) → (b ≡ true → Each Q xs) → (b ≡ false → Each Q ys) → Each Q (if b then xs else ys)
Each-arms Q true xs ys t f = t refl
Each-arms Q false xs ys t f = f refl

-- the variable of the part, if it has one, has the property
abbrev pub Uses : (ℕ → Type 0) → Part → Type 0
Uses P (Fixed truth) = Unit {0}
Uses P (Literal v positive) = P v

-- each variable of the clauses has the property
abbrev pub AllUse : (ℕ → Type 0) → List (List Part) → Type 0
AllUse P clauses = Each (Each (Uses P)) clauses

affirmed-uses : (P : ℕ → Type 0) (edits : ℕ) (c : Condition) → ((edit : ℕ) → edit < edits → P (edit_variable edit)) → IsOfEdits edits c → Uses P (affirmed c)
affirmed-uses P edits Always h o = tt
affirmed-uses P edits Never h o = tt
affirmed-uses P edits (If e) h o = h e o
affirmed-uses P edits (Unless e) h o = h e o

denied-uses : (P : ℕ → Type 0) (edits : ℕ) (c : Condition) → ((edit : ℕ) → edit < edits → P (edit_variable edit)) → IsOfEdits edits c → Uses P (denied c)
denied-uses P edits Always h o = tt
denied-uses P edits Never h o = tt
denied-uses P edits (If e) h o = h e o
denied-uses P edits (Unless e) h o = h e o

module _ (P : ℕ → Type 0) (nodes links edits : ℕ) (q : Question) (sound : IsSound nodes links edits q) (of_edit : (edit : ℕ) → edit < edits → P (edit_variable edit)) where
  arc-joins : (arc : ConditionArc) → Contains q.arcs arc → Joins nodes (bare arc)
  arc-joins arc m = All-contains (Joins nodes) (map bare q.arcs) (bare arc) sound.graph.joined (Contains-map bare q.arcs arc m)

  arc-has : (arc : ConditionArc) → Contains q.arcs arc → IsAboutEdits edits arc
  arc-has arc m = All-contains (IsAboutEdits edits) q.arcs arc sound.arcs m

  -- the conditions of routing, denied
  routing-uses : (arc : ConditionArc) → Contains q.arcs arc → Each (Uses P) (map denied arc.routing)
  routing-uses arc m = Each-map (Uses P) denied arc.routing (λ c n. denied-uses P edits c of_edit (All-contains (IsOfEdits edits) arc.routing c (arc-has arc m).routing n))

  pub kept_off-uses : (reached : ℕ → ℕ → ℕ) → ((class node : ℕ) → class < length q.classes → node < nodes → P (reached class node)) → AllUse P (kept_off_parts q reached)
  kept_off-uses reached of_node =
      Each-flat_map (Each (Uses P)) (λ (c : ℕ). side_parts q (reached c) c) (upto (length q.classes)) (λ class m.
      let l : class < length q.classes = below (length q.classes) class m in
      let enters = denied (ends_of q class).enter ∷ yes (reached class q.source) ∷ [] in
      let leaves = no (reached class q.target) ∷ denied (ends_of q class).leave ∷ [] in
      let steps = map (step_parts (reached class) class) (counted_arcs q) in
      Each-cons (Each (Uses P)) enters (steps ++ leaves ∷ [])
      (Each-cons (Uses P) (denied (ends_of q class).enter) (yes (reached class q.source) ∷ []) (denied-uses P edits (ends_of q class).enter of_edit (sound.ends class).0)
      (Each-cons (Uses P) (yes (reached class q.source)) [] (of_node class q.source l sound.source) (Each-none (Uses P))))
      (Each-append (Each (Uses P)) steps (leaves ∷ [])
      (Each-map (Each (Uses P)) (step_parts (reached class) class) (counted_arcs q) (λ arc n.
      let is = from_filter (is_counted q.demand) q.arcs arc n in
      let j : Joins nodes (bare arc) = arc-joins arc is.0 in
      let cs = conditions_of arc class in
      Each-cons (Uses P) (no (reached class arc.tail)) (map denied cs ++ yes (reached class arc.head) ∷ []) (of_node class arc.tail l j.tail_node)
      (Each-append (Uses P) (map denied cs) (yes (reached class arc.head) ∷ [])
      (Each-map (Uses P) denied cs (λ c k. denied-uses P edits c of_edit (of_conditions edits arc class c (arc-has arc is.0) k)))
      (Each-cons (Uses P) (yes (reached class arc.head)) [] (of_node class arc.head l j.head_node) (Each-none (Uses P))))))
      (Each-cons (Each (Uses P)) leaves []
      (Each-cons (Uses P) (no (reached class q.target)) (denied (ends_of q class).leave ∷ []) (of_node class q.target l sound.target)
      (Each-cons (Uses P) (denied (ends_of q class).leave) [] (denied-uses P edits (ends_of q class).leave of_edit (sound.ends class).1) (Each-none (Uses P)))) (Each-none (Each (Uses P))))))

  pub ends-uses : AllUse P (flat_map (ends_parts q) (upto (length q.classes)))
  ends-uses =
      Each-flat_map (Each (Uses P)) (ends_parts q) (upto (length q.classes)) (λ class m.
      let enter = (ends_of q class).enter in
      let leave = (ends_of q class).leave in
      Each-cons (Each (Uses P)) (affirmed enter ∷ []) ((affirmed leave ∷ []) ∷ [])
      (Each-cons (Uses P) (affirmed enter) [] (affirmed-uses P edits enter of_edit (sound.ends class).0) (Each-none (Uses P)))
      (Each-cons (Each (Uses P)) (affirmed leave ∷ []) [] (Each-cons (Uses P) (affirmed leave) [] (affirmed-uses P edits leave of_edit (sound.ends class).1) (Each-none (Uses P)))
      (Each-none (Each (Uses P)))))

  pub clear-uses : (class : ℕ) → AllUse P (flat_map (clear_parts class) q.arcs)
  clear-uses class =
      Each-flat_map (Each (Uses P)) (clear_parts class) q.arcs (λ arc m.
      let out = (lists_of arc class).outbound in
      let ins = (lists_of arc class).inbound in
      let one : (c : Condition) → IsOfEdits edits c → Each (Uses P) (map denied arc.routing ++ affirmed c ∷ []) = λ c o.
      Each-append (Uses P) (map denied arc.routing) (affirmed c ∷ []) (routing-uses arc m) (Each-cons (Uses P) (affirmed c) [] (affirmed-uses P edits c of_edit o) (Each-none (Uses P))) in
      Each-cons (Each (Uses P)) (map denied arc.routing ++ affirmed out ∷ []) ((map denied arc.routing ++ affirmed ins ∷ []) ∷ []) (one out ((arc-has arc m).lists class).0)
      (Each-cons (Each (Uses P)) (map denied arc.routing ++ affirmed ins ∷ []) [] (one ins ((arc-has arc m).lists class).1) (Each-none (Each (Uses P)))))

exclusions-use : {X : Type 0} (P : ℕ → Type 0) (v : X → ℕ) (items : List X) → ((x : X) → Contains items x → P (v x)) → AllUse P (exclusions v items)
exclusions-use {X} P v items h =
    Each-map (Each (Uses P)) (λ (pair : X × X). no (v pair.0) ∷ no (v pair.1) ∷ []) (pairs items) (λ p m.
    let i : InPairs (λ (x y : X). Unit {0}) items p.0 p.1 = from_pairs (λ (x y : X). Unit {0}) items p (λ i j d l n. tt) m in
    Each-cons (Uses P) (no (v p.0)) (no (v p.1) ∷ []) (h p.0 i.first) (Each-cons (Uses P) (no (v p.1)) [] (h p.1 i.second) (Each-none (Uses P))))

implications-use : (P : ℕ → Type 0) (used : ℕ → ℕ) (ones others : List ℕ) → ((p : ℕ) → Contains ones p → P (used p)) →
    ((p : ℕ) → Contains others p → P (used p)) → AllUse P (implications used ones others)
implications-use P used ones others h k =
    Each-map (Each (Uses P)) (λ (p : ℕ). no (used p) ∷ map (λ (o : ℕ). yes (used o)) others) ones (λ p m.
    Each-cons (Uses P) (no (used p)) (map (λ (o : ℕ). yes (used o)) others) (h p m) (Each-map (Uses P) (λ (o : ℕ). yes (used o)) others k))

module _ (P : ℕ → Type 0) (nodes links edits : ℕ) (q : Question) (sound : IsSound nodes links edits q) (of_edit : (edit : ℕ) → edit < edits → P (edit_variable edit)) where
  family-uses : (used : ℕ → ℕ) → ((place : ℕ) → place < length q.arcs → P (used place)) → AllUse P (family_parts q nodes used)
  family-uses used of_place =
      let out_at : (n p : ℕ) → Contains (out_of q n) p → P (used p) = λ n p m. of_place p (from_place q (λ arc. arc.tail == n) p m).0 in
      let in_at : (n p : ℕ) → Contains (into q n) p → P (used p) = λ n p m. of_place p (from_place q (λ arc. arc.head == n) p m).0 in
      let start = map (λ (p : ℕ). yes (used p)) (out_of q q.source) in
      let end = map (λ (p : ℕ). yes (used p)) (into q q.target) in
      let back = map (λ (p : ℕ). no (used p) ∷ []) (into q q.source) in
      let away = map (λ (p : ℕ). no (used p) ∷ []) (out_of q q.target) in
      let nexts = flat_map (node_parts q used) (inner_nodes q nodes) in
      let onces = flat_map (once_parts q used) (upto nodes) in
      let all = routed_parts q used in
      let single : (v : ℕ) → P v → Each (Uses P) (no v ∷ []) = λ v p. Each-cons (Uses P) (no v) [] p (Each-none (Uses P)) in
      Each-append (Each (Uses P)) (all ++ (start ∷ end ∷ []) ++ back ++ away ++ nexts) onces
      (Each-append (Each (Uses P)) (all ++ (start ∷ end ∷ []) ++ back ++ away) nexts
      (Each-append (Each (Uses P)) (all ++ (start ∷ end ∷ []) ++ back) away
      (Each-append (Each (Uses P)) (all ++ (start ∷ end ∷ [])) back
      (Each-append (Each (Uses P)) all (start ∷ end ∷ [])
      (Each-flat_map (Each (Uses P)) (λ (p : ℕ). map (λ (c : Condition). no (used p) ∷ affirmed c ∷ []) (arc_at q p).routing) (places q) (λ p m.
      let l : p < length q.arcs = below (length q.arcs) p m in
      Each-map (Each (Uses P)) (λ (c : Condition). no (used p) ∷ affirmed c ∷ []) (arc_at q p).routing (λ c n.
      Each-cons (Uses P) (no (used p)) (affirmed c ∷ []) (of_place p l)
      (Each-cons (Uses P) (affirmed c) []
      (affirmed-uses P edits c of_edit
      (All-contains (IsOfEdits edits) (arc_at q p).routing c (All-contains (IsAboutEdits edits) q.arcs (arc_at q p) sound.arcs (is_arc q p l)).routing n)) (Each-none (Uses P))))))
      (Each-cons (Each (Uses P)) start (end ∷ []) (Each-map (Uses P) (λ (p : ℕ). yes (used p)) (out_of q q.source) (out_at q.source))
      (Each-cons (Each (Uses P)) end [] (Each-map (Uses P) (λ (p : ℕ). yes (used p)) (into q q.target) (in_at q.target)) (Each-none (Each (Uses P))))))
      (Each-map (Each (Uses P)) (λ (p : ℕ). no (used p) ∷ []) (into q q.source) (λ p m. single (used p) (in_at q.source p m))))
      (Each-map (Each (Uses P)) (λ (p : ℕ). no (used p) ∷ []) (out_of q q.target) (λ p m. single (used p) (out_at q.target p m))))
      (Each-flat_map (Each (Uses P)) (node_parts q used) (inner_nodes q nodes) (λ n m.
      Each-append (Each (Uses P)) (implications used (into q n) (out_of q n)) (implications used (out_of q n) (into q n))
      (implications-use P used (into q n) (out_of q n) (in_at n) (out_at n)) (implications-use P used (out_of q n) (into q n) (out_at n) (in_at n)))))
      (Each-flat_map (Each (Uses P)) (once_parts q used) (upto nodes) (λ n m.
      Each-append (Each (Uses P)) (exclusions used (out_of q n)) (exclusions used (into q n))
      (exclusions-use P used (out_of q n) (out_at n)) (exclusions-use P used (into q n) (in_at n))))

  paths-uses : (many : ℕ) (used : ℕ → ℕ → ℕ) → ((family place : ℕ) → family < many → place < length q.arcs → P (used family place)) → AllUse P (paths_parts q nodes links many used)
  paths-uses many used of_place =
      let clears = flat_map (λ (class : ℕ). flat_map (clear_parts class) q.arcs) (upto (length q.classes)) in
      let families = flat_map (λ (f : ℕ). family_parts q nodes (used f)) (upto many) in
      let overs = flat_map (λ (link : ℕ). exclusions (λ (item : ℕ × ℕ). used item.0 item.1) (over_link q many link)) (upto links) in
      Each-append (Each (Uses P)) (clears ++ families) overs
      (Each-append (Each (Uses P)) clears families
      (Each-flat_map (Each (Uses P)) (λ (class : ℕ). flat_map (clear_parts class) q.arcs) (upto (length q.classes)) (λ class m. clear-uses P nodes links edits q sound of_edit class))
      (Each-flat_map (Each (Uses P)) (λ (f : ℕ). family_parts q nodes (used f)) (upto many) (λ f m. family-uses (used f) (λ place l. of_place f place (below many f m) l))))
      (Each-flat_map (Each (Uses P)) (λ (link : ℕ). exclusions (λ (item : ℕ × ℕ). used item.0 item.1) (over_link q many link)) (upto links) (λ link m.
      exclusions-use P (λ (item : ℕ × ℕ). used item.0 item.1) (over_link q many link) (λ x n. let i = from_item q many link x n in of_place x.0 x.1 i.0 i.1)))

  pub reached-uses : (many : ℕ) (used : ℕ → ℕ → ℕ) →
      ((q.source == q.target) ≡ false → (family place : ℕ) → family < many → place < length q.arcs → P (used family place)) → AllUse P (reached_parts q nodes links many used)
  reached-uses many used of_place =
      Each-append (Each (Uses P)) (flat_map (ends_parts q) (upto (length q.classes))) (if q.source == q.target then [] else paths_parts q nodes links many used)
      (ends-uses P nodes links edits q sound of_edit)
      (Each-arms (Each (Uses P)) (q.source == q.target) [] (paths_parts q nodes links many used) (λ t. Each-none (Each (Uses P))) (λ f. paths-uses many used (of_place f)))

pub prices-use : (P : ℕ → Type 0) (weights : List ℕ) (bound : ℕ) (above : ℕ → ℕ → ℕ) → ((edit : ℕ) → edit < length weights → P (edit_variable edit)) →
    ((edit number : ℕ) → edit < length weights → number ≤ bound → P (above edit number)) → AllUse P (price_parts weights bound above)
prices-use P weights bound above of_edit of_price =
    Each-flat_map (Each (Uses P)) (λ (e : ℕ). flat_map (λ (n : ℕ). kept_parts above e n ++ added_parts above (get_or weights e 0) e n) (upto (bound + 1))) (upto (length weights)) (λ e m.
    let l : e < length weights = below (length weights) e m in
    Each-flat_map (Each (Uses P)) (λ (n : ℕ). kept_parts above e n ++ added_parts above (get_or weights e 0) e n) (upto (bound + 1)) (λ n k.
    let b : n < bound + 1 = below (bound + 1) n k in
    let weight = get_or weights e 0 in
    let kept = no (above (e - 1) n) ∷ yes (above e n) ∷ [] in
    let low = no (edit_variable e) ∷ yes (above e n) ∷ [] in
    let high = no (edit_variable e) ∷ no (above (e - 1) (n - weight)) ∷ yes (above e n) ∷ [] in
    let one : (clause : List Part) → Each (Uses P) clause → AllUse P (clause ∷ []) = λ clause h. Each-cons (Each (Uses P)) clause [] h (Each-none (Each (Uses P))) in
    let last : Each (Uses P) (yes (above e n) ∷ []) = Each-cons (Uses P) (yes (above e n)) [] (of_price e n l (omega arith)) (Each-none (Uses P)) in
    Each-append (Each (Uses P)) (kept_parts above e n) (added_parts above weight e n)
    (Each-arms (Each (Uses P)) (e == 0) [] (kept ∷ []) (λ t. Each-none (Each (Uses P))) (λ f.
    one kept (Each-cons (Uses P) (no (above (e - 1) n)) (yes (above e n) ∷ []) (of_price (e - 1) n (omega arith) (omega arith)) last)))
    (Each-arms (Each (Uses P)) (nat_lt n weight) (low ∷ []) (if e == 0 then [] else high ∷ [])
    (λ t. one low (Each-cons (Uses P) (no (edit_variable e)) (yes (above e n) ∷ []) (of_edit e l) last)) (λ f.
    Each-arms (Each (Uses P)) (e == 0) [] (high ∷ []) (λ t. Each-none (Each (Uses P))) (λ g.
    one high (Each-cons (Uses P) (no (edit_variable e)) (no (above (e - 1) (n - weight)) ∷ yes (above e n) ∷ []) (of_edit e l)
    (Each-cons (Uses P) (no (above (e - 1) (n - weight))) (yes (above e n) ∷ []) (of_price (e - 1) (n - weight) (omega arith) (omega arith)) last)))))))
