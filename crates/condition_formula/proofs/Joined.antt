-- The clauses of all questions and of the prices together: they share the variables of the edits alone, so models join.
use Rattle.std.proofs.Common.{◌≡◌, ◌≢◌, ℕ, suc, ◌+◌, ◌-◌, ◌*◌, ◌/◌, ◌%◌, ◌<◌, ◌≤◌, Bool, true, false, not, cond, Option}
use Rattle.std.proofs.Common.{IsTrue, List, [], ◌∷◌, length, map, All, inl, inr, refl, sym, ap, ◌∙◌, subst, arith, Some, None, sum_by}
use Rattle.std.specs.Prelude.{◌==◌, if◌then◌else◌, nat_lt, slice_get, IfSome}
use Rattle.std.specs.List.{flat_map}
use Rattle.std.proofs.lemmas.Bool.{cases_lt, cases_eq, eq-eqb, eqb-false, ne_eqb, lt-ltb, le-ltb, ltb-true, cond-true, cond-false, or_left, false≢true, both_ways, not-true}
use Rattle.std.proofs.lemmas.List.{get_or-map, length-map}
use Rattle.std.proofs.Math.Nat.{mul_comm}
use Rattle.std.proofs.lemmas.Nat.{div-mul-add, mod-mul-add, mul-add-lt}
use Rattle.std.proofs.lemmas.Option.{slice_get-get_or, get_or_from_slice_get}
use Rattle.std.proofs.lemmas.List.Sums.{sum_by-cons}
use Rattle.std.proofs.lemmas.List.Elements.{All-nil, All-cons, All-head, All-tail}
use Rattle.arc_base.proofs.Items.{Contains-head, Contains-tail}
use Rattle.cnf_types.specs.declared.literal.Lit.{Lit}
use Rattle.cnf_types.specs.Literals.{literal, negated}
use Rattle.cnf_types.specs.Formulas.{value}
use Rattle.condition_formula.specs.declared.network.Question.{Question}
use Rattle.condition_formula.specs.declared.network.Demand.{Demand}
use Rattle.condition_formula.specs.declared.network.Demand.TheVariants.{Blocked, Through, Reach}
use Rattle.condition_formula.specs.declared.network.ConditionNet.{ConditionNet}
use Rattle.condition_formula.specs.Lists.{upto}
use Rattle.condition_formula.specs.Conditions.{IsSound, ends_of, routed_arcs, IsKeptOff, PassesEnds, AreReached, MeetsDemand, IsMet}
use Rattle.condition_formula.specs.Prices.{price_of_first, price}
use Rattle.condition_formula.specs.Clauses.{affirmed, edit_variable, part_value, Fulfils}
use Rattle.condition_formula.specs.Formulas.{cell, demand_parts, demand_size, question_size, questions_parts, first_price, all_parts, tops_of}
use Rattle.condition_formula.specs.Sides.{kept_off_parts}
use Rattle.condition_formula.specs.Reaching.{ends_parts, paths_parts}
use Rattle.condition_formula.specs.Prices.{price_parts}
use Rattle.condition_formula.specs.Laws.{chosen_in, KeepsBound, IsSoundNet, HasModel, IsRepair, ModelsAreRepairs, HasOneModel, OneModelServes, WritingKeepsMeaning, QuestionsAreExact, PricesAreCounted}
use Rattle.condition_formula.proofs.Parts.{Agrees, affirmed_is, literal_value, written_from_fulfils, fulfils_from_written}
use Rattle.condition_formula.proofs.Places.{in_upto, below, only_one, Fulfils-append, Fulfils-left, Fulfils-right, Fulfils-cons, Fulfils-none, Fulfils-flat_map, Fulfils-piece}
use Rattle.condition_formula.proofs.Distinct.{length-upto, get_or-upto}
use Rattle.condition_formula.proofs.KeptOff.{kept_off_from_model, comes_to, model_from_kept_off}
use Rattle.condition_formula.proofs.Prices.{else_arm, arms, counted_in_model, costs_more, model_from_prices}
use Rattle.condition_formula.proofs.Crossings.{paths_from_model, clear_from_model}
use Rattle.condition_formula.proofs.Walks.{Ways, ways_of}
use Rattle.condition_formula.proofs.Families.{is_on, paths_true}

-- From a model to the network.

-- the clauses of a class's ends
ends_from_model : (a chosen : ℕ → Bool) (nodes links edits : ℕ) (q : Question) → IsSound nodes links edits q → Agrees a chosen edits →
    Fulfils a (flat_map (ends_parts q) (upto (length q.classes))) → (class : ℕ) → class < length q.classes → PassesEnds chosen q class
ends_from_model a chosen nodes links edits q sound g h class l =
    let both : Fulfils a (ends_parts q class) = Fulfils-piece a (ends_parts q) (upto (length q.classes)) class h (in_upto (length q.classes) class l) in
    let enters = affirmed (ends_of q class).enter ∷ [] in
    let leaves = affirmed (ends_of q class).leave ∷ [] in
    record {
      enter = sym (affirmed_is a chosen edits (ends_of q class).enter g (sound.ends class).0)
          ∙ only_one (part_value a (affirmed (ends_of q class).enter)) (both enters (Contains-head enters (leaves ∷ [])));
      leave = sym (affirmed_is a chosen edits (ends_of q class).leave g (sound.ends class).1)
          ∙ only_one (part_value a (affirmed (ends_of q class).leave)) (both leaves (Contains-tail enters leaves (leaves ∷ []) (Contains-head leaves [])));
    }

-- a model of a question meets it
pub met_from_model : (a chosen : ℕ → Bool) (nodes links edits first : ℕ) (q : Question) (d : Demand) → IsSound nodes links edits q → Agrees a chosen edits →
    Fulfils a (demand_parts q nodes links first d) → MeetsDemand chosen q d
met_from_model a chosen nodes links edits first q Blocked sound g h = kept_off_from_model a chosen nodes links edits q (cell first nodes) sound g h
met_from_model a chosen nodes links edits first q Through sound g h = kept_off_from_model a chosen nodes links edits q (cell first nodes) sound g h
met_from_model a chosen nodes links edits first q (Reach many) sound g h =
    let used = cell first (length q.arcs) in
    let ends = flat_map (ends_parts q) (upto (length q.classes)) in
    let arm = if q.source == q.target then [] else paths_parts q nodes links many used in
    let paths : q.source ≢ q.target → Fulfils a (paths_parts q nodes links many used) = λ ne.
    else_arm a (q.source == q.target) [] (paths_parts q nodes links many used) (ne_eqb q.source q.target ne) (Fulfils-right a ends arm h) in
    record {
      ends = ends_from_model a chosen nodes links edits q sound g (Fulfils-left a ends arm h);
      clear = λ ne. clear_from_model a chosen nodes links edits q many used sound g (paths ne);
      paths = λ ne. paths_from_model a chosen nodes links edits q many used sound g ne (paths ne);
    }

pub all_met_from_model : (a chosen : ℕ → Bool) (nodes links edits first : ℕ) (qs : List Question) → All (IsSound nodes links edits) qs → Agrees a chosen edits →
    Fulfils a (questions_parts nodes links first qs) → All (IsMet chosen) qs
all_met_from_model a chosen nodes links edits first [] sound g h = All-nil (IsMet chosen)
all_met_from_model a chosen nodes links edits first (q ∷ qs) sound g h =
    let one = demand_parts q nodes links first q.demand in
    let rest = questions_parts nodes links (first + question_size nodes q) qs in
    All-cons (IsMet chosen) q qs
    (met_from_model a chosen nodes links edits first q q.demand (All-head (IsSound nodes links edits) q qs sound) g (Fulfils-left a one rest h))
    (all_met_from_model a chosen nodes links edits (first + question_size nodes q) qs (All-tail (IsSound nodes links edits) q qs sound) g (Fulfils-right a one rest h))

-- From the network to a model.

-- values of a question's own variables, in order, that make its clauses true
record Own (chosen : ℕ → Bool) (nodes links edits : ℕ) (q : Question) (d : Demand) : Type 0 where
  worth : ℕ → Bool
  serves : (a : ℕ → Bool) (first : ℕ) → Agrees a chosen edits → ((k : ℕ) → k < demand_size q nodes d → a (first + k) ≡ worth k) → Fulfils a (demand_parts q nodes links first d)

-- what a table has at a row and a column is found at the place of their cell
at_cell : {X : Type 0} (f : ℕ → ℕ → X) (columns row column : ℕ) → column < columns → f ((row * columns + column) / columns) ((row * columns + column) % columns) ≡ f row column
at_cell {X} f columns row column l =
    ap (λ (r : ℕ). f r ((row * columns + column) % columns)) (div-mul-add row columns column l) ∙ ap (f row) (mod-mul-add row columns column l)

pub in_table : (rows columns row column : ℕ) → row < rows → column < columns → row * columns + column < rows * columns
in_table rows columns row column l m = subst (λ (n : ℕ). row * columns + column < n) (omega (arith, mul_comm columns rows)) (mul-add-lt row columns column rows l m)

own_kept_off : (chosen : ℕ → Bool) (nodes links edits : ℕ) (q : Question) → IsSound nodes links edits q → IsKeptOff chosen q → (a : ℕ → Bool) (first : ℕ) → Agrees a chosen edits →
    ((k : ℕ) → k < length q.classes * nodes → a (first + k) ≡ comes_to chosen q (k / nodes) (k % nodes)) → Fulfils a (kept_off_parts q (cell first nodes))
own_kept_off chosen nodes links edits q sound off a first g is =
    model_from_kept_off a chosen nodes links edits q (cell first nodes) sound g
    (λ class node l m. is (class * nodes + node) (in_table (length q.classes) nodes class node l m) ∙ at_cell (comes_to chosen q) nodes class node m) off

ends_true : (a chosen : ℕ → Bool) (nodes links edits : ℕ) (q : Question) → IsSound nodes links edits q → Agrees a chosen edits →
    ((class : ℕ) → class < length q.classes → PassesEnds chosen q class) → Fulfils a (flat_map (ends_parts q) (upto (length q.classes)))
ends_true a chosen nodes links edits q sound g pass =
    Fulfils-flat_map a (ends_parts q) (upto (length q.classes)) (λ class m.
    let p : PassesEnds chosen q class = pass class (below (length q.classes) class m) in
    let enters = affirmed (ends_of q class).enter ∷ [] in
    let leaves = affirmed (ends_of q class).leave ∷ [] in
    Fulfils-cons a enters (leaves ∷ []) (or_left (part_value a (affirmed (ends_of q class).enter)) false (affirmed_is a chosen edits (ends_of q class).enter g (sound.ends class).0 ∙ p.enter))
    (Fulfils-cons a leaves [] (or_left (part_value a (affirmed (ends_of q class).leave)) false (affirmed_is a chosen edits (ends_of q class).leave g (sound.ends class).1 ∙ p.leave)) (Fulfils-none a)))

own_reached : (chosen : ℕ → Bool) (nodes links edits many : ℕ) (q : Question) → IsSound nodes links edits q → AreReached chosen q many → (b : Bool) →
    (q.source == q.target) ≡ b → Own chosen nodes links edits q (Reach many)
own_reached chosen nodes links edits many q sound met true e = record {
  worth = λ k. false;
  serves = λ a first g is.
      let used = cell first (length q.arcs) in
      Fulfils-append a (flat_map (ends_parts q) (upto (length q.classes))) (if q.source == q.target then [] else paths_parts q nodes links many used)
      (ends_true a chosen nodes links edits q sound g met.ends)
      (arms a (q.source == q.target) [] (paths_parts q nodes links many used) (λ t. Fulfils-none a) (λ f. absurd (both_ways (q.source == q.target) f e)));
}
own_reached chosen nodes links edits many q sound met false e =
    let ne : q.source ≢ q.target = eqb-false q.source q.target e in
    let w : Ways (routed_arcs chosen q) q.source q.target many = ways_of (routed_arcs chosen q) q.source q.target many (met.paths ne) in
    let on = λ (family place : ℕ). is_on q (w.way family) place in
    record {
      worth = λ k. on (k / length q.arcs) (k % length q.arcs);
      serves = λ a first g is.
          let used = cell first (length q.arcs) in
          Fulfils-append a (flat_map (ends_parts q) (upto (length q.classes))) (if q.source == q.target then [] else paths_parts q nodes links many used)
          (ends_true a chosen nodes links edits q sound g met.ends)
          (arms a (q.source == q.target) [] (paths_parts q nodes links many used) (λ t. absurd (both_ways (q.source == q.target) e t)) (λ f.
          paths_true a chosen nodes links edits q many used sound g ne w (met.clear ne) (λ family place l m.
          is (family * length q.arcs + place)
          (subst (λ (n : ℕ). family * length q.arcs + place < n) (sym (cond-false (q.source == q.target) 0 (many * length q.arcs) e)) (in_table many (length q.arcs) family place l m))
          ∙ at_cell on (length q.arcs) family place m)));
    }

own : (chosen : ℕ → Bool) (nodes links edits : ℕ) (q : Question) (d : Demand) → IsSound nodes links edits q → MeetsDemand chosen q d → Own chosen nodes links edits q d
own chosen nodes links edits q Blocked sound met = record {
  worth = λ k. comes_to chosen q (k / nodes) (k % nodes);
  serves = λ a first g is. own_kept_off chosen nodes links edits q sound met a first g is;
}
own chosen nodes links edits q Through sound met = record {
  worth = λ k. comes_to chosen q (k / nodes) (k % nodes);
  serves = λ a first g is. own_kept_off chosen nodes links edits q sound met a first g is;
}
own chosen nodes links edits q (Reach many) sound met = own_reached chosen nodes links edits many q sound met (q.source == q.target) refl

-- values of the variables of all questions
record AllOwn (chosen : ℕ → Bool) (nodes links edits first : ℕ) (qs : List Question) : Type 0 where
  worth : ℕ → Bool
  serves : (a : ℕ → Bool) → Agrees a chosen edits → ((v : ℕ) → first ≤ v → v < first + sum_by (question_size nodes) qs → a v ≡ worth v) → Fulfils a (questions_parts nodes links first qs)

all_own : (chosen : ℕ → Bool) (nodes links edits first : ℕ) (qs : List Question) → All (IsSound nodes links edits) qs → All (IsMet chosen) qs → AllOwn chosen nodes links edits first qs
all_own chosen nodes links edits first [] sound met = record { worth = λ v. false; serves = λ a g is. Fulfils-none a }
all_own chosen nodes links edits first (q ∷ qs) sound met =
    let size = question_size nodes q in
    let mine : Own chosen nodes links edits q q.demand = own chosen nodes links edits q q.demand (All-head (IsSound nodes links edits) q qs sound) (All-head (IsMet chosen) q qs met) in
    let rest : AllOwn chosen nodes links edits (first + size) qs =
    all_own chosen nodes links edits (first + size) qs (All-tail (IsSound nodes links edits) q qs sound) (All-tail (IsMet chosen) q qs met) in
    let sum : sum_by (question_size nodes) (q ∷ qs) ≡ size + sum_by (question_size nodes) qs = sum_by-cons (question_size nodes) q qs in
    record {
      worth = λ v. cond (nat_lt v (first + size)) (mine.worth (v - first)) (rest.worth v);
      serves = λ a g is.
          Fulfils-append a (demand_parts q nodes links first q.demand) (questions_parts nodes links (first + size) qs)
          (mine.serves a first g (λ k l.
          is (first + k) (omega arith) (omega (arith, sum, l))
          ∙ cond-true (nat_lt (first + k) (first + size)) (mine.worth (first + k - first)) (rest.worth (first + k)) (lt-ltb (first + k) (first + size) (omega (arith, l)))
          ∙ ap mine.worth (omega arith)))
          (rest.serves a g (λ v l m.
          is v (omega arith) (omega (arith, sum, m))
          ∙ cond-false (nat_lt v (first + size)) (mine.worth (v - first)) (rest.worth v) (le-ltb v (first + size) l)));
    }

-- The literals of the price.

-- the literal that says that the price is above the number
abbrev top_at : ConditionNet → ℕ → ℕ → Lit
top_at net most number = literal (cell (first_price net) (most + 1) (length net.weights - 1) number) true

-- without edits there are no literals of the price; with edits each number up to the bound has its literal
top_none : (net : ConditionNet) (most number : ℕ) (top : Lit) → (b : Bool) → b ≡ true → slice_get (if b then [] else map (top_at net most) (upto (most + 1))) number ≡ Some top → ⊥
top_none net most number top true e h = let none : None ≡ Some top = h in cc
top_none net most number top false e h = absurd (false≢true e)

top_is : (net : ConditionNet) (most number : ℕ) (top : Lit) → number ≤ most → (b : Bool) → b ≡ false →
    slice_get (if b then [] else map (top_at net most) (upto (most + 1))) number ≡ Some top → top_at net most number ≡ top
top_is net most number top l true e h = absurd (false≢true (sym e))
top_is net most number top l false e h =
    ap (top_at net most) (sym (get_or-upto (most + 1) number 0 (omega arith)))
    ∙ sym (get_or-map (top_at net most) (upto (most + 1)) number 0 top (omega (arith, length-upto (most + 1))))
    ∙ get_or_from_slice_get (map (top_at net most) (upto (most + 1))) number top top h

top_there : (net : ConditionNet) (most number : ℕ) → number ≤ most → (b : Bool) → b ≡ false →
    slice_get (if b then [] else map (top_at net most) (upto (most + 1))) number ≡ Some (top_at net most number)
top_there net most number l true e = absurd (false≢true (sym e))
top_there net most number l false e =
    slice_get-get_or (map (top_at net most) (upto (most + 1))) number (top_at net most number) (omega (arith, length-map (upto (most + 1)) (top_at net most), length-upto (most + 1)))
    ∙ ap Some (get_or-map (top_at net most) (upto (most + 1)) number 0 (top_at net most number) (omega (arith, length-upto (most + 1)))
    ∙ ap (top_at net most) (get_or-upto (most + 1) number 0 (omega arith)))

-- what holds of an optional item holds of the item that is there
if_some_to : (o : Option Lit) (P : Lit → Type 0) (top : Lit) → o ≡ Some top → IfSome o P → P top
if_some_to o P top e h = let g : IfSome (Some top) P = subst (λ (x : Option Lit). IfSome x P) e h in g

if_some_from : (o : Option Lit) (P : Lit → Type 0) → ((top : Lit) → o ≡ Some top → P top) → IfSome o P
if_some_from None P h = tt
if_some_from (Some top) P h = h top refl

-- the negation of a variable's literal has the opposite value
negated_value : (a : ℕ → Bool) (v : ℕ) → value a (negated (literal v true)) ≡ not (a v)
negated_value a v =
    let even : ((2 * v) % 2 == 0) ≡ true = eq-eqb ((2 * v) % 2) 0 (omega arith) in
    ap (λ (b : Bool). let l : Lit = record { code = if b then 2 * v + 1 else 2 * v - 1 } in value a l) even ∙ literal_value a v false

-- The laws.

no_price : (chosen : ℕ → Bool) (weights : List ℕ) → length weights ≡ 0 → price chosen weights ≡ 0
no_price chosen weights e = ap (price_of_first chosen weights) e

-- a model that keeps a bound begins with edits of at most that price
price_kept : (net : ConditionNet) (most bound : ℕ) (a chosen : ℕ → Bool) → bound ≤ most → Agrees a chosen (length net.weights) →
    Fulfils a (price_parts net.weights most (cell (first_price net) (most + 1))) → KeepsBound a (tops_of net most) bound → price chosen net.weights ≤ bound
price_kept net most bound a chosen le g h keeps =
    let n = length net.weights in
    let above = cell (first_price net) (most + 1) in
    elim (cases_eq n 0) [
      | inl none ↦ omega (arith, no_price chosen net.weights none)
      | inr some ↦
          let last : suc (n - 1) ≡ n = omega arith in
          let off : a (above (n - 1) bound) ≡ false = not-true (a (above (n - 1) bound)) (sym (negated_value a (above (n - 1) bound))
          ∙ if_some_to (slice_get (tops_of net most) bound) (λ (top : Lit). IsTrue (value a (negated top))) (top_at net most bound) (top_there net most bound le (n == 0) (ne_eqb n 0 some)) keeps) in
          elim (cases_lt bound (price chosen net.weights)) [
            | inl less ↦ absurd (both_ways (a (above (n - 1) bound)) off
                (counted_in_model a chosen net.weights most above g h (n - 1) bound (omega arith) le (subst (λ (k : ℕ). bound < price_of_first chosen net.weights k) (sym last) less)))
            | inr fine ↦ fine
          ]
    ]

pub repair_from_model : (net : ConditionNet) (most : ℕ) (flags : List Bool) (bound : ℕ) → IsSoundNet net → length flags ≡ length net.weights → bound ≤ most →
    HasModel net most flags bound → IsRepair net flags bound
repair_from_model net most flags bound sound count le model =
    let a = model.assignment in
    let n = length net.weights in
    let chosen = chosen_in flags in
    let g : Agrees a chosen n = λ edit l. model.begins edit (omega (arith, count)) in
    let all : Fulfils a (all_parts net most) = fulfils_from_written a (all_parts net most) model.satisfies in
    let questions = questions_parts net.nodes net.links (n + 1) net.questions in
    let prices = price_parts net.weights most (cell (first_price net) (most + 1)) in
    record {
      met = all_met_from_model a chosen net.nodes net.links n (n + 1) net.questions sound g (Fulfils-left a questions prices all);
      affordable = price_kept net most bound a chosen le g (Fulfils-right a questions prices all) model.keeps;
    }

-- the variables of edits, questions and prices, each with its value
abbrev joined : (n first columns : ℕ) → (chosen worth : ℕ → Bool) → (ℕ → ℕ → Bool) → ℕ → Bool
joined n first columns chosen worth costs v =
    cond (nat_lt v (n + 1)) (chosen (v - 1)) (cond (nat_lt v first) (worth v) (costs ((v - first) / columns) ((v - first) % columns)))

joined-edit : (n first columns : ℕ) (chosen worth : ℕ → Bool) (costs : ℕ → ℕ → Bool) (edit : ℕ) → edit < n → joined n first columns chosen worth costs (edit_variable edit) ≡ chosen edit
joined-edit n first columns chosen worth costs edit l =
    cond-true (nat_lt (edit + 1) (n + 1)) (chosen (edit + 1 - 1)) (cond (nat_lt (edit + 1) first) (worth (edit + 1)) (costs ((edit + 1 - first) / columns) ((edit + 1 - first) % columns)))
    (lt-ltb (edit + 1) (n + 1) (omega arith)) ∙ ap chosen (omega arith)

joined-question : (n first columns : ℕ) (chosen worth : ℕ → Bool) (costs : ℕ → ℕ → Bool) (v : ℕ) → n + 1 ≤ v → v < first → joined n first columns chosen worth costs v ≡ worth v
joined-question n first columns chosen worth costs v l m =
    cond-false (nat_lt v (n + 1)) (chosen (v - 1)) (cond (nat_lt v first) (worth v) (costs ((v - first) / columns) ((v - first) % columns))) (le-ltb v (n + 1) l)
    ∙ cond-true (nat_lt v first) (worth v) (costs ((v - first) / columns) ((v - first) % columns)) (lt-ltb v first m)

joined-price : (n first columns : ℕ) (chosen worth : ℕ → Bool) (costs : ℕ → ℕ → Bool) (edit number : ℕ) → n + 1 ≤ first → number < columns →
    joined n first columns chosen worth costs (cell first columns edit number) ≡ costs edit number
joined-price n first columns chosen worth costs edit number l m =
    let v = first + (edit * columns + number) in
    let at : v - first ≡ edit * columns + number = omega arith in
    cond-false (nat_lt v (n + 1)) (chosen (v - 1)) (cond (nat_lt v first) (worth v) (costs ((v - first) / columns) ((v - first) % columns))) (le-ltb v (n + 1) (omega arith))
    ∙ cond-false (nat_lt v first) (worth v) (costs ((v - first) / columns) ((v - first) % columns)) (le-ltb v first (omega arith))
    ∙ ap (λ (k : ℕ). costs (k / columns) (k % columns)) at ∙ at_cell costs columns edit number m

-- edits that meet every question begin a model, which keeps each bound from their price on
pub one_model_serves : OneModelServes
one_model_serves net most flags sound count met =
    let n = length net.weights in
    let first = first_price net in
    let columns = most + 1 in
    let chosen = chosen_in flags in
    let mine : AllOwn chosen net.nodes net.links n (n + 1) net.questions = all_own chosen net.nodes net.links n (n + 1) net.questions sound met in
    let costs = costs_more chosen net.weights in
    let a = joined n first columns chosen mine.worth costs in
    let g : Agrees a chosen n = λ edit l. joined-edit n first columns chosen mine.worth costs edit l in
    let above = cell first columns in
    let price_is : (edit number : ℕ) → number ≤ most → a (above edit number) ≡ costs edit number =
    λ edit number l. joined-price n first columns chosen mine.worth costs edit number (omega arith) (omega arith) in
    record {
      assignment = a;
      begins = λ edit l. g edit (omega (arith, count));
      satisfies = written_from_fulfils a (all_parts net most) (Fulfils-append a (questions_parts net.nodes net.links (n + 1) net.questions) (price_parts net.weights most above)
          (mine.serves a g (λ v l m. joined-question n first columns chosen mine.worth costs v l m))
          (model_from_prices a chosen net.weights most above g (λ edit number l m. price_is edit number m)));
      keeps = λ bound l m. if_some_from (slice_get (tops_of net most) bound) (λ (top : Lit). IsTrue (value a (negated top))) (λ top t. elim (cases_eq n 0) [
        | inl none ↦ absurd (top_none net most bound top (n == 0) (eq-eqb n 0 none) t)
        | inr some ↦
            let last : suc (n - 1) ≡ n = omega arith in
            ap (λ (x : Lit). value a (negated x)) (sym (top_is net most bound top m (n == 0) (ne_eqb n 0 some) t)) ∙ negated_value a (above (n - 1) bound)
            ∙ ap not (price_is (n - 1) bound m ∙ le-ltb bound (price_of_first chosen net.weights (suc (n - 1))) (subst (λ (k : ℕ). price_of_first chosen net.weights k ≤ bound) (sym last) l))
      ]);
    }

pub models_are_repairs : ModelsAreRepairs
models_are_repairs net most flags bound sound count le = (
  repair_from_model net most flags bound sound count le,
  λ repair.
      let one : HasOneModel net most flags = one_model_serves net most flags sound count repair.met in
      record { assignment = one.assignment; begins = one.begins; satisfies = one.satisfies; keeps = one.keeps bound repair.affordable le },
)

-- The laws of the parts.

pub writing_keeps_meaning : WritingKeepsMeaning
writing_keeps_meaning a clauses = (written_from_fulfils a clauses, fulfils_from_written a clauses)

-- the edits, and then the values of a question
abbrev alone : (edits first : ℕ) → (chosen worth : ℕ → Bool) → ℕ → Bool
alone edits first chosen worth v = cond (nat_lt v (edits + 1)) (chosen (v - 1)) (worth (v - first))

pub questions_are_exact : QuestionsAreExact
questions_are_exact chosen nodes links edits first q sound l = (
  λ model. met_from_model model.0 chosen nodes links edits first q q.demand sound model.1 model.2,
  λ met.
      let mine : Own chosen nodes links edits q q.demand = own chosen nodes links edits q q.demand sound met in
      let a = alone edits first chosen mine.worth in
      let g : Agrees a chosen edits = λ edit m. cond-true (nat_lt (edit + 1) (edits + 1)) (chosen (edit + 1 - 1)) (mine.worth (edit + 1 - first))
      (lt-ltb (edit + 1) (edits + 1) (omega arith)) ∙ ap chosen (omega arith) in (
        a,
        g,
        mine.serves a first g
            (λ k m. cond-false (nat_lt (first + k) (edits + 1)) (chosen (first + k - 1)) (mine.worth (first + k - first)) (le-ltb (first + k) (edits + 1) (omega arith)) ∙ ap mine.worth (omega arith)),
      ),
)

one_more : (edit : ℕ) → edit + 1 ≡ suc edit
one_more edit = omega arith

pub prices_are_counted : PricesAreCounted
prices_are_counted = record {
  forced = λ a chosen weights bound above g h edit number l m t.
      counted_in_model a chosen weights bound above g h edit number l m
      (subst (λ (k : ℕ). number < price_of_first chosen weights k) (one_more edit) (ltb-true number (price_of_first chosen weights (edit + 1)) t));
  enough = λ a chosen weights bound above g is.
      model_from_prices a chosen weights bound above g (λ edit number l m. is edit number l m ∙ ap (λ (k : ℕ). nat_lt number (price_of_first chosen weights k)) (one_more edit));
}
