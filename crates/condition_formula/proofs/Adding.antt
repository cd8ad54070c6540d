-- Clauses written one after the other.
use Rattle.std.proofs.Common.{◌≡◌, ℕ, suc, ◌+◌, ◌-◌, ◌<◌, ◌≤◌, ◌^◌, Bool, true, false, cond, List, [], ◌∷◌}
use Rattle.std.proofs.Common.{◌++◌, length, get_or, take, map, filter, filter_map, refl, sym, ap, ◌∙◌, subst, arith, sum_by, append_assoc}
use Rattle.std.specs.Prelude.{min, if◌then◌else◌}
use Rattle.std.specs.List.{flat_map}
use Rattle.std.proofs.lemmas.List.{take_more, take_all, map-append, append-nil, get_or-map}
use Rattle.std.proofs.lemmas.Simd.{map-map}
use Rattle.std.proofs.lemmas.List.Concat.{flat_map-append}
use Rattle.std.proofs.lemmas.List.Sums.{sum_by-append}
use Rattle.std.proofs.lemmas.List.Elements.{filter_map-append}
use Rattle.cnf_types.specs.declared.literal.Lit.{Lit}
use Rattle.cnf_types.specs.declared.clauses.Clause.{Clause}
use Rattle.condition_formula.specs.declared.part.Part.{Part}
use Rattle.condition_formula.specs.declared.writer.Writer.{Writer}
use Rattle.condition_formula.specs.Lists.{upto, pairs}
use Rattle.condition_formula.specs.Clauses.{yes, no, written, written_clauses, literal_count}
use Rattle.condition_formula.specs.Formulas.{cell, demand_parts, question_size, questions_parts, first_price, all_parts}
use Rattle.condition_formula.specs.Reaching.{exclusions, implications, over_link}
use Rattle.condition_formula.specs.Prices.{price_parts}
use Rattle.condition_formula.specs.declared.network.ConditionNet.{ConditionNet}
use Rattle.condition_formula.specs.declared.network.Question.{Question}
use Rattle.condition_formula.specs.declared.pick.Pick.TheVariants.{Over}
use Rattle.condition_formula.specs.declared.pick.Pick.{Pick}
use Rattle.condition_formula.specs.declared.row.Row.{Row}
use Rattle.condition_formula.proofs.Distinct.{length-upto, get_or-upto}
use Rattle.condition_formula.proofs.Families.{more-items}
use Rattle.condition_formula.specs.Writing.{Adds, picked, rows_of, row_at, each_implies, excludes_each}

abbrev clause_of : List Lit → Clause
clause_of lits = record { lits = lits }

pub written-append : (xs ys : List (List Part)) → written_clauses (xs ++ ys) ≡ written_clauses xs ++ written_clauses ys
written-append xs ys = ap (λ (ls : List (List Lit)). map clause_of ls) (filter_map-append written xs ys) ∙ map-append clause_of (filter_map written xs) (filter_map written ys)

pub count-append : (xs ys : List (List Part)) → literal_count (xs ++ ys) ≡ literal_count xs + literal_count ys
count-append xs ys = ap (λ (cs : List Clause). sum_by (λ (c : Clause). length c.lits) cs) (written-append xs ys)
    ∙ sum_by-append (λ (c : Clause). length c.lits) (written_clauses xs) (written_clauses ys)

pub Adds-none : (w : Writer) → Adds w w []
Adds-none w = record { counted = let r = w.range in omega arith; kept = λ l. sym (append-nil w.clauses) }

pub Adds-then : (a b c : Writer) (xs ys : List (List Part)) → Adds a b xs → Adds b c ys → Adds a c (xs ++ ys)
Adds-then a b c xs ys first second = record {
  counted = let f = first.counted in let s = second.counted in omega (arith, count-append xs ys);
  kept = λ l.
      let f = first.counted in
      let s = second.counted in
      let less : b.literals ≤ 32000000 = omega arith in
      second.kept l ∙ ap (λ (cs : List Clause). cs ++ written_clauses ys) (first.kept less)
      ∙ append_assoc a.clauses (written_clauses xs) (written_clauses ys) ∙ ap (λ (cs : List Clause). a.clauses ++ cs) (sym (written-append xs ys));
}

pub Adds-same : (a b : Writer) (xs ys : List (List Part)) → xs ≡ ys → Adds a b xs → Adds a b ys
Adds-same a b xs ys e h = subst (λ (zs : List (List Part)). Adds a b zs) e h

-- the clauses of one more number
pub Adds-more : (f : ℕ → List (List Part)) (a b c : Writer) (i : ℕ) → Adds a b (flat_map f (upto i)) → Adds b c (f i) → Adds a c (flat_map f (upto (i + 1)))
Adds-more f a b c i first second =
    let one : i + 1 ≡ suc i = omega arith in
    Adds-same a c (flat_map f (upto i) ++ f i) (flat_map f (upto (i + 1)))
    (sym (ap (λ (n : ℕ). flat_map f (upto n)) one ∙ flat_map-append f (upto i) (i ∷ []) ∙ ap (λ (zs : List (List Part)). flat_map f (upto i) ++ zs) (append-nil (f i))))
    (Adds-then a b c (flat_map f (upto i)) (f i) first second)

-- the clauses of one more item
pub Adds-next : {X : Type 0} (f : X → List (List Part)) (a b c : Writer) (xs : List X) (i : ℕ) (x : X) → i < length xs → x ≡ get_or xs i x →
    Adds a b (flat_map f (take i xs)) → Adds b c (f x) → Adds a c (flat_map f (take (i + 1) xs))
Adds-next {X} f a b c xs i x l is first second =
    Adds-same a c (flat_map f (take i xs) ++ f x) (flat_map f (take (i + 1) xs))
    (sym (ap (λ (ys : List X). flat_map f ys) (take_more xs i x l) ∙ flat_map-append f (take i xs) (get_or xs i x ∷ [])
    ∙ ap (λ (zs : List (List Part)). flat_map f (take i xs) ++ zs) (append-nil (f (get_or xs i x)) ∙ ap f (sym is))))
    (Adds-then a b c (flat_map f (take i xs)) (f x) first second)

-- the clauses of all items
pub Adds-all : {X : Type 0} (f : X → List (List Part)) (a b : Writer) (xs : List X) (i : ℕ) → length xs ≤ i → Adds a b (flat_map f (take i xs)) → Adds a b (flat_map f xs)
Adds-all {X} f a b xs i l h = Adds-same a b (flat_map f (take i xs)) (flat_map f xs) (ap (λ (ys : List X). flat_map f ys) (take_all i xs l)) h

keep_or_not : {X Y : Type 0} (f : X → List Y) (x : X) (rest : List Y) (xs : List X) (b : Bool) → rest ≡ flat_map f xs → (if b then f x else []) ++ rest ≡ flat_map f (cond b (x ∷ xs) xs)
keep_or_not {X} {Y} f x rest xs true e = ap (λ (ys : List Y). f x ++ ys) e
keep_or_not f x rest xs false e = e

-- over the items that pass a test
pub flat_map-filter : {X Y : Type 0} (f : X → List Y) (test : X → Bool) (xs : List X) → flat_map (λ (x : X). if test x then f x else []) xs ≡ flat_map f (filter test xs)
flat_map-filter f test [] = refl
flat_map-filter {X} {Y} f test (x ∷ xs) = keep_or_not f x (flat_map (λ (y : X). if test y then f y else []) xs) (filter test xs) (test x) (flat_map-filter f test xs)

pub map_as_flat : {X Y : Type 0} (f : X → Y) (xs : List X) → flat_map (λ (x : X). f x ∷ []) xs ≡ map f xs
map_as_flat f [] = refl
map_as_flat {X} {Y} f (x ∷ xs) = ap (λ (ys : List Y). f x ∷ ys) (map_as_flat f xs)

pub Adds-every : {X : Type 0} (f : X → List Part) (a b : Writer) (xs : List X) (i : ℕ) → length xs ≤ i → Adds a b (map f (take i xs)) → Adds a b (map f xs)
Adds-every {X} f a b xs i l h = Adds-same a b (map f (take i xs)) (map f xs) (ap (λ (ys : List X). map f ys) (take_all i xs l)) h

-- the clauses of one more number, read from a list with a default
pub Adds-each_number : (f : ℕ → List Part) (a b c : Writer) (xs : List ℕ) (i d : ℕ) → i < length xs →
    Adds a b (map f (take i xs)) → Adds b c (f (get_or xs i d) ∷ []) → Adds a c (map f (take (i + 1) xs))
Adds-each_number f a b c xs i d l first second =
    Adds-same a c (map f (take i xs) ++ f (get_or xs i d) ∷ []) (map f (take (i + 1) xs))
    (sym (ap (λ (ys : List ℕ). map f ys) (take_more xs i d l) ∙ map-append f (take i xs) (get_or xs i d ∷ [])))
    (Adds-then a b c (map f (take i xs)) (f (get_or xs i d) ∷ []) first second)

-- pairs of the values of a function
pairs-map : {X Y : Type 0} (f : X → Y) (xs : List X) → pairs (map f xs) ≡ map (λ (p : X × X). let q : Y × Y = (f p.0, f p.1) in q) (pairs xs)
pairs-map f [] = refl
pairs-map {X} {Y} f (x ∷ xs) =
    let one = λ (p : X × X). let q : Y × Y = (f p.0, f p.1) in q in
    ap (λ (ps : List (Y × Y)). map (λ (y : Y). (f x, y)) (map f xs) ++ ps) (pairs-map f xs)
    ∙ ap (λ (ps : List (Y × Y)). ps ++ map one (pairs xs)) (map-map (λ (y : Y). let q : Y × Y = (f x, y) in q) f xs ∙ sym (map-map one (λ (y : X). let p : X × X = (x, y) in p) xs))
    ∙ sym (map-append one (map (λ (y : X). (x, y)) xs) (pairs xs))

pub exclusions-map : {X : Type 0} (v : X → ℕ) (xs : List X) → exclusions (λ (n : ℕ). n) (map v xs) ≡ exclusions v xs
exclusions-map {X} v xs =
    ap (λ (ps : List (ℕ × ℕ)). map (λ (p : ℕ × ℕ). let c : List Part = no p.0 ∷ no p.1 ∷ [] in c) ps) (pairs-map v xs)
    ∙ map-map (λ (p : ℕ × ℕ). let c : List Part = no p.0 ∷ no p.1 ∷ [] in c) (λ (p : X × X). let q : ℕ × ℕ = (v p.0, v p.1) in q) (pairs xs)

-- the pairs with the first item come first
pub exclusions-cons : (x : ℕ) (xs : List ℕ) → exclusions (λ (n : ℕ). n) (x ∷ xs) ≡ excludes_each x xs ++ exclusions (λ (n : ℕ). n) xs
exclusions-cons x xs =
    let both = λ (p : ℕ × ℕ). let c : List Part = no p.0 ∷ no p.1 ∷ [] in c in
    map-append both (map (λ (y : ℕ). (x, y)) xs) (pairs xs)
    ∙ ap (λ (cs : List (List Part)). cs ++ map both (pairs xs)) (map-map both (λ (y : ℕ). let p : ℕ × ℕ = (x, y) in p) xs)

-- the pairs with the first item are written, and then those of the others
pub exclusions-step : (a b c : Writer) (whole rest others : List ℕ) (one : ℕ) → rest ≡ one ∷ others → Adds b c (excludes_each one others) →
    ((end : Writer) → Adds b end (exclusions (λ (v : ℕ). v) rest) → Adds a end (exclusions (λ (v : ℕ). v) whole)) →
    (end : Writer) → Adds c end (exclusions (λ (v : ℕ). v) others) → Adds a end (exclusions (λ (v : ℕ). v) whole)
exclusions-step a b c whole rest others one is now before end later =
    before end (Adds-same b end (excludes_each one others ++ exclusions (λ (v : ℕ). v) others) (exclusions (λ (v : ℕ). v) rest)
    (sym (ap (λ (xs : List ℕ). exclusions (λ (v : ℕ). v) xs) is ∙ exclusions-cons one others))
    (Adds-then b c end (excludes_each one others) (exclusions (λ (v : ℕ). v) others) now later))

empty_is : {X : Type 0} (xs : List X) → length xs ≡ 0 → [] ≡ xs
empty_is [] e = refl
empty_is (x ∷ xs) e = absurd (omega arith)

pub exclusions-end : (a b : Writer) (whole rest : List ℕ) → length rest ≡ 0 →
    ((end : Writer) → Adds b end (exclusions (λ (v : ℕ). v) rest) → Adds a end (exclusions (λ (v : ℕ). v) whole)) → Adds a b (exclusions (λ (v : ℕ). v) whole)
exclusions-end a b whole rest none before = before b (Adds-same b b [] (exclusions (λ (v : ℕ). v) rest) (ap (λ (xs : List ℕ). exclusions (λ (v : ℕ). v) xs) (empty_is rest none)) (Adds-none b))

pub Adds-each_from : {X : Type 0} (f : X → List Part) (a b c : Writer) (xs : List X) (i : ℕ) (d : X) → i < length xs →
    Adds a b (map f (take i xs)) → Adds b c (f (get_or xs i d) ∷ []) → Adds a c (map f (take (i + 1) xs))
Adds-each_from {X} f a b c xs i d l first second =
    Adds-same a c (map f (take i xs) ++ f (get_or xs i d) ∷ []) (map f (take (i + 1) xs))
    (sym (ap (λ (ys : List X). map f ys) (take_more xs i d l) ∙ map-append f (take i xs) (get_or xs i d ∷ [])))
    (Adds-then a b c (map f (take i xs)) (f (get_or xs i d) ∷ []) first second)

-- clauses over places are those over the places' variables
pub some-map : (used : ℕ → ℕ) (ps vs : List ℕ) → vs ≡ map used ps → map yes vs ≡ map (λ (p : ℕ). yes (used p)) ps
some-map used ps vs e = ap (λ (xs : List ℕ). map yes xs) e ∙ map-map yes used ps

pub none-map : (used : ℕ → ℕ) (ps vs : List ℕ) → vs ≡ map used ps → map (λ (v : ℕ). let c : List Part = no v ∷ [] in c) vs ≡ map (λ (p : ℕ). let c : List Part = no (used p) ∷ [] in c) ps
none-map used ps vs e =
    let one = λ (v : ℕ). let c : List Part = no v ∷ [] in c in
    ap (λ (xs : List ℕ). map one xs) e ∙ map-map one used ps

pub implies-map : (used : ℕ → ℕ) (ps qs vs ws : List ℕ) → vs ≡ map used ps → ws ≡ map used qs → each_implies vs ws ≡ implications used ps qs
implies-map used ps qs vs ws e f =
    let one = λ (v : ℕ). let c : List Part = no v ∷ map yes ws in c in
    ap (λ (xs : List ℕ). map one xs) e ∙ map-map one used ps
    ∙ ap (λ (cs : List Part). map (λ (p : ℕ). let c : List Part = no (used p) ∷ cs in c) ps) (some-map used qs ws f)

pub exclusions-same : {X : Type 0} (used : X → ℕ) (ps : List X) (vs : List ℕ) → vs ≡ map used ps → exclusions (λ (n : ℕ). n) vs ≡ exclusions used ps
exclusions-same {X} used ps vs e = ap (λ (xs : List ℕ). exclusions (λ (n : ℕ). n) xs) e ∙ exclusions-map used ps

-- the variables over a link, with one more family
pub over-more : (q : Question) (link n : ℕ) (g : ℕ → ℕ → ℕ) →
    map (λ (item : ℕ × ℕ). g item.0 item.1) (over_link q (n + 1) link) ≡ map (λ (item : ℕ × ℕ). g item.0 item.1) (over_link q n link) ++ map (g n) (picked q Over link)
over-more q link n g =
    let one : n + 1 ≡ suc n = omega arith in
    let v = λ (item : ℕ × ℕ). g item.0 item.1 in
    let row : List (ℕ × ℕ) = map (λ (place : ℕ). (n, place)) (picked q Over link) in
    ap (λ (k : ℕ). map v (over_link q k link)) one ∙ ap (λ (xs : List (ℕ × ℕ)). map v xs) (more-items q link n)
    ∙ map-append v (over_link q n link) row
    ∙ ap (λ (vs : List ℕ). map v (over_link q n link) ++ vs) (map-map v (λ (place : ℕ). let item : ℕ × ℕ = (n, place) in item) (picked q Over link))

-- the clauses of the first question are written, and then those of the others
pub questions-step : (nodes links next size : ℕ) (a b c : Writer) (whole : List (List Part)) (rest others : List Question) (q : Question) → rest ≡ q ∷ others → size ≡ question_size nodes q →
    Adds b c (demand_parts q nodes links next q.demand) → ((end : Writer) → Adds b end (questions_parts nodes links next rest) → Adds a end whole) →
    (end : Writer) → Adds c end (questions_parts nodes links (next + size) others) → Adds a end whole
questions-step nodes links next size a b c whole rest others q is sized now before end later =
    let one = demand_parts q nodes links next q.demand in
    before end (Adds-same b end (one ++ questions_parts nodes links (next + size) others) (questions_parts nodes links next rest)
    (ap (λ (n : ℕ). one ++ questions_parts nodes links (next + n) others) sized ∙ sym (ap (λ (qs : List Question). questions_parts nodes links next qs) is))
    (Adds-then b c end one (questions_parts nodes links (next + size) others) now later))

pub questions-end : (nodes links next : ℕ) (a b : Writer) (whole : List (List Part)) (rest : List Question) → length rest ≡ 0 →
    ((end : Writer) → Adds b end (questions_parts nodes links next rest) → Adds a end whole) → Adds a b whole
questions-end nodes links next a b whole rest none before =
    before b (Adds-same b b [] (questions_parts nodes links next rest) (ap (λ (qs : List Question). questions_parts nodes links next qs) (empty_is rest none)) (Adds-none b))

-- the questions' clauses are written, and then those of the prices
pub all-written : (net : ConditionNet) (bound edits next : ℕ) (a b c : Writer) (qs : List Question) (ws : List ℕ) → qs ≡ net.questions → ws ≡ net.weights → edits ≡ length net.weights →
    Adds a b (questions_parts net.nodes net.links (edits + 1) qs) → next ≡ edits + 1 + sum_by (question_size net.nodes) qs →
    Adds b c (price_parts ws bound (cell next (bound + 1))) → Adds a c (all_parts net bound)
all-written net bound edits next a b c qs ws e f g first is second =
    let start : next ≡ first_price net =
    is ∙ ap (λ (n : ℕ). n + 1 + sum_by (question_size net.nodes) qs) g ∙ ap (λ (xs : List Question). length net.weights + 1 + sum_by (question_size net.nodes) xs) e in
    Adds-then a b c (questions_parts net.nodes net.links (length net.weights + 1) net.questions) (price_parts net.weights bound (cell (first_price net) (bound + 1)))
    (Adds-same a b (questions_parts net.nodes net.links (edits + 1) qs) (questions_parts net.nodes net.links (length net.weights + 1) net.questions)
    (ap (λ (n : ℕ). questions_parts net.nodes net.links (n + 1) qs) g ∙ ap (λ (xs : List Question). questions_parts net.nodes net.links (length net.weights + 1) xs) e) first)
    (Adds-same b c (price_parts ws bound (cell next (bound + 1))) (price_parts net.weights bound (cell (first_price net) (bound + 1)))
    (ap (λ (n : ℕ). price_parts ws bound (cell n (bound + 1))) start ∙ ap (λ (xs : List ℕ). price_parts xs bound (cell (first_price net) (bound + 1))) f) second)

-- what was added to an empty writer is what it has
pub few_written : (a b : Writer) (parts : List (List Part)) → a.clauses ≡ [] → a.literals ≡ 0 → Adds a b parts → b.literals ≤ 32000000 →
    (b.clauses ≡ written_clauses parts) × (literal_count parts ≤ 32000000)
few_written a b parts e z h l =
    let n = h.counted in
    (h.kept l ∙ ap (λ (cs : List Clause). cs ++ written_clauses parts) e, omega arith)

pub many_written : (a b : Writer) (parts : List (List Part)) → a.literals ≡ 0 → Adds a b parts → 32000000 < b.literals →
    (32000000 < literal_count parts) × (b.literals ≡ min (literal_count parts) (2 ^ 64 - 1))
many_written a b parts z h l =
    let n = h.counted in
    (omega arith, h.counted ∙ ap (λ (k : ℕ). min (k + literal_count parts) (2 ^ 64 - 1)) z ∙ ap (λ (k : ℕ). min k (2 ^ 64 - 1)) (omega arith))

-- the row of a number below the count
pub row-is : (q : Question) (pick : Pick) (count number : ℕ) (rows : List Row) → rows ≡ rows_of q pick count → number < count → row_at rows number ≡ picked q pick number
row-is q pick count number rows e l =
    let none : Row = record { places = [] } in
    let one = λ (n : ℕ). let r : Row = record { places = picked q pick n } in r in
    ap (λ (rs : List Row). row_at rs number) e
    ∙ ap (λ (r : Row). r.places) (get_or-map one (upto count) number 0 none (omega (arith, length-upto count)))
    ∙ ap (λ (n : ℕ). picked q pick n) (get_or-upto count number 0 l)
