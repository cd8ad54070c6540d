-- The balance of a flow over a set of nodes: what leaves the set is what enters it and the flow's value.
use Rattle.std.proofs.Common.{◌≡◌, ℕ, zero, suc, ◌+◌, ◌<◌, ◌≤◌, Bool, true, false, not, ◌&&◌, [], ◌∷◌, inl, inr, refl, sym, ap, ◌∙◌, arith, Some, None, Option, sum_by}
use Rattle.std.specs.Prelude.{◌==◌, if◌then◌else◌}
use Rattle.std.proofs.lemmas.List.Sums.{sum_by-cons}
use Rattle.std.proofs.lemmas.Bool.{cases_eq, eq-eqb, ne_eqb}
use Rattle.graph_flow.specs.declared.arcs.Arc.{Arc}
use Rattle.graph_flow.specs.Sides.{Separates}
use Rattle.graph_flow.specs.Flows.{Units, unit_at, unit_from, unit_to, leaving, entering, only_at}

-- one if it is so
abbrev pub ind : Bool → ℕ
ind b = if b then 1 else 0

-- the sum over the nodes of the set below n
unfoldable pub inside : (ℕ → Bool) → ℕ → (ℕ → ℕ) → ℕ
inside side zero f = 0
inside side (suc n) f = inside side n f + (if side n then f n else 0)

inside-same : (side : ℕ → Bool) (n : ℕ) (f g : ℕ → ℕ) → ((k : ℕ) → f k ≡ g k) → inside side n f ≡ inside side n g
unfolding inside
inside-same side zero f g h = refl
inside-same side (suc n) f g h =
    let rest : inside side n f ≡ inside side n g = inside-same side n f g h in
    let last : (if side n then f n else 0) ≡ (if side n then g n else 0) = ap (λ (x : ℕ). if side n then x else 0) (h n) in
    omega (arith, rest, last)

if-add : (b : Bool) (x y : ℕ) → (if b then x + y else 0) ≡ (if b then x else 0) + (if b then y else 0)
if-add true x y = refl
if-add false x y = refl

inside-add : (side : ℕ → Bool) (n : ℕ) (f g : ℕ → ℕ) → inside side n (λ k. f k + g k) ≡ inside side n f + inside side n g
unfolding inside
inside-add side zero f g = refl
inside-add side (suc n) f g = omega (arith, inside-add side n f g, if-add (side n) (f n) (g n))

pub zero_either : (b : Bool) → let z : ℕ = 0 in (if b then z else z) ≡ z
zero_either true = refl
zero_either false = refl

inside-zero : (side : ℕ → Bool) (n : ℕ) → inside side n (λ k. 0) ≡ 0
unfolding inside
inside-zero side zero = refl
inside-zero side (suc n) = let last : (if side n then 0 else 0) ≡ 0 = zero_either (side n) in omega (arith, inside-zero side n, last)

-- so many at one node count if it is in the set
inside-point_past : (side : ℕ → Bool) (n x many : ℕ) → n ≤ x → inside side n (only_at many x) ≡ 0
unfolding inside
inside-point_past side zero x many l = refl
inside-point_past side (suc n) x many l =
    let rest : inside side n (only_at many x) ≡ 0 = inside-point_past side n x many (omega arith) in
    let off : only_at many x n ≡ 0 = ap (λ b. if b then many else 0) (ne_eqb n x (λ e. omega arith)) in
    let last : (if side n then only_at many x n else 0) ≡ 0 = ap (λ (y : ℕ). if side n then y else 0) off ∙ zero_either (side n) in
    omega (arith, rest, last)

inside-point : (side : ℕ → Bool) (n x many : ℕ) → x < n → inside side n (only_at many x) ≡ (if side x then many else 0)
unfolding inside
inside-point side zero x many l = absurd (omega arith)
inside-point side (suc n) x many l =
    elim (cases_eq n x) [
      | inl e ↦
          let rest : inside side n (only_at many x) ≡ 0 = inside-point_past side n x many (omega arith) in
          let on : only_at many x n ≡ many = ap (λ b. if b then many else 0) (eq-eqb n x e) in
          let last : (if side n then only_at many x n else 0) ≡ (if side x then many else 0) =
          ap (λ (y : ℕ). if side n then y else 0) on ∙ ap (λ (k : ℕ). if side k then many else 0) e in
          omega (arith, rest, last)
      | inr ne ↦
          let rest : inside side n (only_at many x) ≡ (if side x then many else 0) = inside-point side n x many (omega (arith, λ (e : n ≡ x). ne e)) in
          let off : only_at many x n ≡ 0 = ap (λ b. if b then many else 0) (ne_eqb n x ne) in
          let last : (if side n then only_at many x n else 0) ≡ 0 = ap (λ (y : ℕ). if side n then y else 0) off ∙ zero_either (side n) in
          omega (arith, rest, last)
    ]

-- one unit that begins, ends, leads out or leads in
abbrev pub begins_in : (ℕ → Bool) → Option Arc → ℕ
begins_in side None = 0
begins_in side (Some arc) = ind (side arc.tail)

abbrev pub ends_in : (ℕ → Bool) → Option Arc → ℕ
ends_in side None = 0
ends_in side (Some arc) = ind (side arc.head)

abbrev pub leads_out : (ℕ → Bool) → Option Arc → ℕ
leads_out side None = 0
leads_out side (Some arc) = ind (side arc.tail && not (side arc.head))

abbrev pub leads_in : (ℕ → Bool) → Option Arc → ℕ
leads_in side None = 0
leads_in side (Some arc) = ind (side arc.head && not (side arc.tail))

-- all units go between nodes below n
abbrev Below : ℕ → Units → Type 0
Below n units = (link : ℕ) (arc : Arc) → unit_at units link ≡ Some arc → (arc.tail < n) × (arc.head < n)

-- a node that stands on the other side of the test
flip : (side : ℕ → Bool) (n x : ℕ) → x < n → inside side n (λ k. if x == k then 1 else 0) ≡ ind (side x)
flip side n x l =
    inside-same side n (λ k. if x == k then 1 else 0) (only_at 1 x) (λ k. elim (cases_eq x k) [
      | inl e ↦ ap (λ b. if b then 1 else 0) (eq-eqb x k e) ∙ sym (ap (λ b. if b then 1 else 0) (eq-eqb k x (sym e)))
      | inr ne ↦ ap (λ b. if b then 1 else 0) (ne_eqb x k ne) ∙ sym (ap (λ b. if b then 1 else 0) (ne_eqb k x (λ e. ne (sym e))))
    ]) ∙ inside-point side n x 1 l

from_one : (side : ℕ → Bool) (n : ℕ) (unit : Option Arc) → ((arc : Arc) → unit ≡ Some arc → (arc.tail < n) × (arc.head < n)) → inside side n (λ k. unit_from k unit) ≡ begins_in side unit
from_one side n None h = inside-zero side n
from_one side n (Some arc) h = flip side n arc.tail (h arc refl).0

to_one : (side : ℕ → Bool) (n : ℕ) (unit : Option Arc) → ((arc : Arc) → unit ≡ Some arc → (arc.tail < n) × (arc.head < n)) → inside side n (λ k. unit_to k unit) ≡ ends_in side unit
to_one side n None h = inside-zero side n
to_one side n (Some arc) h = flip side n arc.head (h arc refl).1

inside-leaving : (side : ℕ → Bool) (n : ℕ) (units : Units) → Below n units → inside side n (leaving units) ≡ sum_by (begins_in side) units
inside-leaving side n [] b = inside-zero side n
inside-leaving side n (unit ∷ units) b =
    let split : inside side n (leaving (unit ∷ units)) ≡ inside side n (λ k. unit_from k unit + leaving units k) =
    inside-same side n (leaving (unit ∷ units)) (λ k. unit_from k unit + leaving units k) (λ k. sum_by-cons (unit_from k) unit units) in
    let one : inside side n (λ k. unit_from k unit) ≡ begins_in side unit = from_one side n unit (λ arc e. b zero arc e) in
    let rest : inside side n (leaving units) ≡ sum_by (begins_in side) units = inside-leaving side n units (λ l arc e. b (suc l) arc e) in
    omega (arith, split, inside-add side n (λ k. unit_from k unit) (leaving units), one, rest, sum_by-cons (begins_in side) unit units)

inside-entering : (side : ℕ → Bool) (n : ℕ) (units : Units) → Below n units → inside side n (entering units) ≡ sum_by (ends_in side) units
inside-entering side n [] b = inside-zero side n
inside-entering side n (unit ∷ units) b =
    let split : inside side n (entering (unit ∷ units)) ≡ inside side n (λ k. unit_to k unit + entering units k) =
    inside-same side n (entering (unit ∷ units)) (λ k. unit_to k unit + entering units k) (λ k. sum_by-cons (unit_to k) unit units) in
    let one : inside side n (λ k. unit_to k unit) ≡ ends_in side unit = to_one side n unit (λ arc e. b zero arc e) in
    let rest : inside side n (entering units) ≡ sum_by (ends_in side) units = inside-entering side n units (λ l arc e. b (suc l) arc e) in
    omega (arith, split, inside-add side n (λ k. unit_to k unit) (entering units), one, rest, sum_by-cons (ends_in side) unit units)

either_way : (a b : Bool) → ind a + ind (b && not a) ≡ ind b + ind (a && not b)
either_way true true = refl
either_way true false = refl
either_way false true = refl
either_way false false = refl

both_ways_one : (side : ℕ → Bool) (unit : Option Arc) → begins_in side unit + leads_in side unit ≡ ends_in side unit + leads_out side unit
both_ways_one side None = refl
both_ways_one side (Some arc) = either_way (side arc.tail) (side arc.head)

crossing : (side : ℕ → Bool) (units : Units) → sum_by (begins_in side) units + sum_by (leads_in side) units ≡ sum_by (ends_in side) units + sum_by (leads_out side) units
crossing side [] = refl
crossing side (unit ∷ units) =
    omega (
      arith,
      crossing side units,
      both_ways_one side unit,
      sum_by-cons (begins_in side) unit units,
      sum_by-cons (leads_in side) unit units,
      sum_by-cons (ends_in side) unit units,
      sum_by-cons (leads_out side) unit units,
    )

-- out of a set that separates the target from the source go as many units as into it, and the value of the flow
pub out_of_side : (n s t many : ℕ) (side : ℕ → Bool) (units : Units) → s < n → t < n → Separates s t side →
    ((link : ℕ) (arc : Arc) → unit_at units link ≡ Some arc → (arc.tail < n) × (arc.head < n)) →
    ((node : ℕ) → leaving units node + only_at many t node ≡ entering units node + only_at many s node) →
    sum_by (leads_out side) units ≡ sum_by (leads_in side) units + many
out_of_side n s t many side units ls lt sep below balanced =
    let sums : inside side n (λ k. leaving units k + only_at many t k) ≡ inside side n (λ k. entering units k + only_at many s k) =
    inside-same side n (λ k. leaving units k + only_at many t k) (λ k. entering units k + only_at many s k) balanced in
    let at_t : inside side n (only_at many t) ≡ 0 = inside-point side n t many lt ∙ ap (λ b. if b then many else 0) sep.target in
    let at_s : inside side n (only_at many s) ≡ many = inside-point side n s many ls ∙ ap (λ b. if b then many else 0) sep.source in
    omega (
      arith,
      sums,
      inside-add side n (leaving units) (only_at many t),
      inside-add side n (entering units) (only_at many s),
      at_t,
      at_s,
      inside-leaving side n units below,
      inside-entering side n units below,
      crossing side units,
    )
