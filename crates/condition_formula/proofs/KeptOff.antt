-- Clauses of blocked and through: a model of them is, for each class, a closed side that keeps packets off.
use Rattle.std.proofs.Common.{◌≡◌, ℕ, ◌<◌, Bool, true, false, not, ◌&&◌, ◌||◌, IsTrue, List, [], ◌∷◌, ◌++◌, length, map, filter, Contains, inl, inr, refl, sym, ap, ◌∙◌, subst}
use Rattle.std.specs.Prelude.{◌==◌}
use Rattle.std.specs.List.{list_any}
use Rattle.std.proofs.lemmas.Bool.{cases_Bool, eq-eqb, eqb-true, or_left, or_right, and_parts, and_from}
use Rattle.std.proofs.lemmas.List.Elements.{All-contains, Contains-append_left, Contains-append_right, Contains-append_cases}
use Rattle.arc_base.proofs.Items.{Contains-head, Contains-tail, Contains-cases, Contains-none, Contains-map, from_map, Contains-filter, from_filter}
use Rattle.graph_flow.specs.declared.arcs.Arc.{Arc}
use Rattle.graph_flow.specs.Paths.{ArcPath, Leads, Joins}
use Rattle.graph_flow.proofs.Menger.{reached_are_listed}
use Rattle.condition_formula.specs.declared.condition.Condition.{Condition}
use Rattle.condition_formula.specs.declared.network.ConditionArc.{ConditionArc}
use Rattle.condition_formula.specs.declared.network.Question.{Question}
use Rattle.condition_formula.specs.Lists.{upto}
use Rattle.condition_formula.specs.Conditions.{comes_true, IsOfEdits, IsAboutEdits, IsSound, lists_of, conditions_of, ends_of, is_arc_open, counted_arcs, is_counted, bare, open_arcs, IsKeptOff}
use Rattle.condition_formula.specs.Clauses.{yes, no, denied, part_value, parts_value, Fulfils}
use Rattle.condition_formula.specs.Sides.{step_parts, side_parts, kept_off_parts}
use Rattle.condition_formula.proofs.Parts.{Agrees, denied_is, any_from, any_to, all_to, all_or_some}
use Rattle.condition_formula.proofs.Places.{in_upto, below, one_of, not_true, Fulfils-append, Fulfils-cons, Fulfils-none, Fulfils-map, Fulfils-flat_map, Fulfils-piece}

Path-snoc : (arcs : List Arc) (u : ℕ) (way : List Arc) (arc : Arc) → ArcPath arcs u way arc.tail → Contains arcs arc → ArcPath arcs u (way ++ arc ∷ []) arc.head
Path-snoc arcs u [] arc p m = (m, sym p, refl)
Path-snoc arcs u (b ∷ way) arc p m = (p.0, p.1, Path-snoc arcs b.head way arc p.2 m)

stays : (arcs : List Arc) (P : ℕ → Type 0) → ((arc : Arc) → Contains arcs arc → P arc.tail → P arc.head) → (u v : ℕ) (way : List Arc) → ArcPath arcs u way v → P u → P v
stays arcs P closed u v [] p h = subst P p h
stays arcs P closed u v (arc ∷ way) p h = stays arcs P closed arc.head v way p.2 (closed arc p.0 (subst P (sym p.1) h))

-- the conditions of an arc are about edits that there are
pub of_conditions : (edits : ℕ) (arc : ConditionArc) (class : ℕ) (c : Condition) → IsAboutEdits edits arc → Contains (conditions_of arc class) c → IsOfEdits edits c
of_conditions edits arc class c has m =
    let out = (lists_of arc class).outbound in
    let ins = (lists_of arc class).inbound in
    elim (Contains-append_cases arc.routing (out ∷ ins ∷ []) c m) [
      | inl r ↦ All-contains (IsOfEdits edits) arc.routing c has.routing r
      | inr l ↦ elim (Contains-cases out c (ins ∷ []) l) [
        | inl e ↦ subst (IsOfEdits edits) e (has.lists class).0
        | inr n ↦ elim (Contains-cases ins c [] n) [
          | inl e ↦ subst (IsOfEdits edits) e (has.lists class).1
          | inr none ↦ absurd (Contains-none c none)
        ]
      ]
    ]

-- a true clause of a step: its head is true if its tail is and all conditions hold
step_leads : (a chosen : ℕ → Bool) (edits class : ℕ) (reached : ℕ → ℕ) (arc : ConditionArc) → Agrees a chosen edits → IsAboutEdits edits arc →
    is_arc_open chosen class arc ≡ true → IsTrue (parts_value a (step_parts reached class arc)) → a (reached arc.tail) ≡ true → a (reached arc.head) ≡ true
step_leads a chosen edits class reached arc g has passes t from =
    let cs = conditions_of arc class in
    let r = any_to (part_value a) (step_parts reached class arc) t in
    elim (Contains-cases (no (reached arc.tail)) r.0 (map denied cs ++ yes (reached arc.head) ∷ []) r.1) [
      | inl e ↦ absurd (not_true (a (reached arc.tail)) from (ap (part_value a) e ∙ r.2))
      | inr later ↦ elim (Contains-append_cases (map denied cs) (yes (reached arc.head) ∷ []) r.0 later) [
        | inl d ↦
            let c = from_map denied cs r.0 d in
            absurd (not_true (comes_true chosen c.0) (all_to (comes_true chosen) cs c.0 passes c.1)
            (sym (denied_is a chosen edits c.0 g (of_conditions edits arc class c.0 has c.1)) ∙ (ap (part_value a) c.2 ∙ r.2)))
        | inr h ↦ elim (Contains-cases (yes (reached arc.head)) r.0 [] h) [
          | inl e ↦ ap (part_value a) e ∙ r.2
          | inr none ↦ absurd (Contains-none r.0 none)
        ]
      ]
    ]

-- if the head is true whenever the tail is and all conditions hold, the clause is true
step_true : (a chosen : ℕ → Bool) (edits class : ℕ) (reached : ℕ → ℕ) (arc : ConditionArc) → Agrees a chosen edits → IsAboutEdits edits arc →
    (is_arc_open chosen class arc ≡ true → a (reached arc.tail) ≡ true → a (reached arc.head) ≡ true) → IsTrue (parts_value a (step_parts reached class arc))
step_true a chosen edits class reached arc g has leads =
    let cs = conditions_of arc class in
    let rest = map denied cs ++ yes (reached arc.head) ∷ [] in
    elim (all_or_some (comes_true chosen) cs) [
      | inl passes ↦ elim (cases_Bool (a (reached arc.tail))) [
        | inl t ↦ any_from (part_value a) (step_parts reached class arc) (yes (reached arc.head))
            (Contains-tail (no (reached arc.tail)) (yes (reached arc.head)) rest
            (Contains-append_right (map denied cs) (yes (reached arc.head) ∷ []) (yes (reached arc.head)) (Contains-head (yes (reached arc.head)) []))) (leads passes t)
        | inr f ↦ any_from (part_value a) (step_parts reached class arc) (no (reached arc.tail)) (Contains-head (no (reached arc.tail)) rest) (ap not f)
      ]
      | inr c ↦ any_from (part_value a) (step_parts reached class arc) (denied c.0)
          (Contains-tail (no (reached arc.tail)) (denied c.0) rest (Contains-append_left (map denied cs) (yes (reached arc.head) ∷ []) (denied c.0) (Contains-map denied cs c.0 c.1)))
          (denied_is a chosen edits c.0 g (of_conditions edits arc class c.0 has c.1) ∙ ap not c.2)
    ]

-- a model keeps packets off
pub kept_off_from_model : (a chosen : ℕ → Bool) (nodes links edits : ℕ) (q : Question) (reached : ℕ → ℕ → ℕ) → IsSound nodes links edits q → Agrees a chosen edits →
    Fulfils a (kept_off_parts q reached) → IsKeptOff chosen q
kept_off_from_model a chosen nodes links edits q reached sound g h class l comes =
    let one : Fulfils a (side_parts q (reached class) class) = Fulfils-piece a (λ (c : ℕ). side_parts q (reached c) c) (upto (length q.classes)) class h (in_upto (length q.classes) class l) in
    let enters = denied (ends_of q class).enter ∷ yes (reached class q.source) ∷ [] in
    let leaves = no (reached class q.target) ∷ denied (ends_of q class).leave ∷ [] in
    let steps = map (step_parts (reached class) class) (counted_arcs q) in
    let first : IsTrue (parts_value a enters) = one enters (Contains-head enters (steps ++ leaves ∷ [])) in
    let last : IsTrue (parts_value a leaves) = one leaves (Contains-tail enters leaves (steps ++ leaves ∷ []) (Contains-append_right steps (leaves ∷ []) leaves (Contains-head leaves []))) in
    let start : a (reached class q.source) ≡ true = elim (one_of (part_value a (denied (ends_of q class).enter)) (a (reached class q.source)) first) [
      | inl n ↦ absurd (not_true (comes_true chosen (ends_of q class).enter) comes.enter (sym (denied_is a chosen edits (ends_of q class).enter g (sound.ends class).0) ∙ n))
      | inr t ↦ t
    ] in
    let closed : (arc : Arc) → Contains (open_arcs chosen q class) arc → a (reached class arc.tail) ≡ true → a (reached class arc.head) ≡ true = λ arc m from.
    let b = from_map bare (filter (is_arc_open chosen class) (counted_arcs q)) arc m in
    let f = from_filter (is_arc_open chosen class) (counted_arcs q) b.0 b.1 in
    let n = from_filter (is_counted q.demand) q.arcs b.0 f.0 in
    let t : IsTrue (parts_value a (step_parts (reached class) class b.0)) =
    one (step_parts (reached class) class b.0) (Contains-tail enters (step_parts (reached class) class b.0) (steps ++ leaves ∷ [])
    (Contains-append_left steps (leaves ∷ []) (step_parts (reached class) class b.0) (Contains-map (step_parts (reached class) class) (counted_arcs q) b.0 f.0))) in
    subst (λ (x : Arc). a (reached class x.head) ≡ true) b.2
    (step_leads a chosen edits class (reached class) b.0 g (All-contains (IsAboutEdits edits) q.arcs b.0 sound.arcs n.0) f.1 t (subst (λ (x : Arc). a (reached class x.tail) ≡ true) (sym b.2) from)) in
    let end : a (reached class q.target) ≡ true =
    stays (open_arcs chosen q class) (λ (n : ℕ). a (reached class n) ≡ true) closed q.source q.target comes.leads.0 comes.leads.1 start in
    elim (one_of (not (a (reached class q.target))) (part_value a (denied (ends_of q class).leave)) last) [
      | inl n ↦ not_true (a (reached class q.target)) end n
      | inr n ↦ not_true (comes_true chosen (ends_of q class).leave) comes.leave (sym (denied_is a chosen edits (ends_of q class).leave g (sound.ends class).1) ∙ n)
    ]

-- whether packets of the class come to the node
unfoldable pub comes_to : (ℕ → Bool) → Question → ℕ → ℕ → Bool
comes_to chosen q class node = comes_true chosen (ends_of q class).enter && list_any (λ (n : ℕ). n == node) (reached_are_listed (open_arcs chosen q class) q.source).0

pub comes_from : (chosen : ℕ → Bool) (q : Question) (class node : ℕ) → comes_to chosen q class node ≡ true →
    (comes_true chosen (ends_of q class).enter ≡ true) × Leads (open_arcs chosen q class) q.source node
unfolding comes_to
comes_from chosen q class node e =
    let listed = reached_are_listed (open_arcs chosen q class) q.source in
    let both = and_parts (comes_true chosen (ends_of q class).enter) (list_any (λ (n : ℕ). n == node) listed.0) e in
    let m = any_to (λ (n : ℕ). n == node) listed.0 both.1 in
    (both.0, (listed.1 node).1 (subst (λ (n : ℕ). Contains listed.0 n) (eqb-true m.0 node m.2) m.1))

pub comes_by : (chosen : ℕ → Bool) (q : Question) (class node : ℕ) → comes_true chosen (ends_of q class).enter ≡ true → Leads (open_arcs chosen q class) q.source node →
    comes_to chosen q class node ≡ true
unfolding comes_to
comes_by chosen q class node enter leads =
    let listed = reached_are_listed (open_arcs chosen q class) q.source in
    and_from (comes_true chosen (ends_of q class).enter) (list_any (λ (n : ℕ). n == node) listed.0) enter
    (any_from (λ (n : ℕ). n == node) listed.0 node ((listed.1 node).0 leads) (eq-eqb node node refl))

-- if packets are kept off, the nodes to which they come are a model
pub model_from_kept_off : (a chosen : ℕ → Bool) (nodes links edits : ℕ) (q : Question) (reached : ℕ → ℕ → ℕ) → IsSound nodes links edits q → Agrees a chosen edits →
    ((class node : ℕ) → class < length q.classes → node < nodes → a (reached class node) ≡ comes_to chosen q class node) →
    IsKeptOff chosen q → Fulfils a (kept_off_parts q reached)
model_from_kept_off a chosen nodes links edits q reached sound g is off =
    Fulfils-flat_map a (λ (c : ℕ). side_parts q (reached c) c) (upto (length q.classes)) (λ class in_classes.
    let l : class < length q.classes = below (length q.classes) class in_classes in
    let enters = denied (ends_of q class).enter ∷ yes (reached class q.source) ∷ [] in
    let leaves = no (reached class q.target) ∷ denied (ends_of q class).leave ∷ [] in
    let steps = map (step_parts (reached class) class) (counted_arcs q) in
    let first : IsTrue (parts_value a enters) = elim (cases_Bool (comes_true chosen (ends_of q class).enter)) [
      | inl t ↦ or_right (part_value a (denied (ends_of q class).enter)) (a (reached class q.source) || false) (or_left (a (reached class q.source)) false
          (is class q.source l sound.source ∙ comes_by chosen q class q.source t ([], refl)))
      | inr f ↦ or_left (part_value a (denied (ends_of q class).enter)) (a (reached class q.source) || false)
          (denied_is a chosen edits (ends_of q class).enter g (sound.ends class).0 ∙ ap not f)
    ] in
    let last : IsTrue (parts_value a leaves) = elim (cases_Bool (a (reached class q.target))) [
      | inl t ↦ elim (cases_Bool (comes_true chosen (ends_of q class).leave)) [
        | inl out ↦
            let c = comes_from chosen q class q.target (sym (is class q.target l sound.target) ∙ t) in
            absurd (off class l (record { enter = c.0; leave = out; leads = c.1 }))
        | inr f ↦ or_right (not (a (reached class q.target))) (part_value a (denied (ends_of q class).leave) || false)
            (or_left (part_value a (denied (ends_of q class).leave)) false (denied_is a chosen edits (ends_of q class).leave g (sound.ends class).1 ∙ ap not f))
      ]
      | inr f ↦ or_left (not (a (reached class q.target))) (part_value a (denied (ends_of q class).leave) || false) (ap not f)
    ] in
    Fulfils-cons a enters (steps ++ leaves ∷ []) first (Fulfils-append a steps (leaves ∷ [])
    (Fulfils-map a (step_parts (reached class) class) (counted_arcs q) (λ arc m.
    let n = from_filter (is_counted q.demand) q.arcs arc m in
    let joins : Joins nodes (bare arc) = All-contains (Joins nodes) (map bare q.arcs) (bare arc) sound.graph.joined (Contains-map bare q.arcs arc n.0) in
    step_true a chosen edits class (reached class) arc g (All-contains (IsAboutEdits edits) q.arcs arc sound.arcs n.0) (λ passes t.
    let c = comes_from chosen q class arc.tail (sym (is class arc.tail l joins.tail_node) ∙ t) in
    is class arc.head l joins.head_node ∙ comes_by chosen q class arc.head c.0 (
      c.1.0 ++ bare arc ∷ [],
      Path-snoc (open_arcs chosen q class) q.source c.1.0 (bare arc) c.1.1
          (Contains-map bare (filter (is_arc_open chosen class) (counted_arcs q)) arc (Contains-filter (is_arc_open chosen class) (counted_arcs q) arc m passes)),
    ))))
    (Fulfils-cons a leaves [] last (Fulfils-none a))))
