-- One more unit over an arc, and over the arcs of a way: what it changes at each node and each link.
use Rattle.std.proofs.Common.{◌≡◌, ℕ, ◌+◌, ◌<◌, ◌≤◌, List, [], ◌∷◌, ◌++◌, length, set, All, AllPairs, Contains, inl}
use Rattle.std.proofs.Common.{inr, ◌⊎◌, refl, sym, ap, ◌∙◌, subst, arith, Some, None, Option, sum_by, get_or-set_same, get_or-set_other, length-set}
use Rattle.std.specs.Prelude.{◌==◌, if◌then◌else◌}
use Rattle.std.proofs.lemmas.List.Sums.{sum_by-set}
use Rattle.std.proofs.lemmas.List.Elements.{All-contains, All-head, All-tail}
use Rattle.std.proofs.lemmas.Bool.{cases_eq, ne_eqb}
use Rattle.graph_flow.specs.declared.arcs.Arc.{Arc}
use Rattle.graph_flow.specs.Paths.{ArcPath}
use Rattle.graph_flow.specs.Flows.{Units, unit_at, unit_from, unit_to, leaving, entering}
use Rattle.graph_flow.specs.Residual.{reversed, turned, turn, sent}
use Rattle.graph_flow.proofs.Lists.{Contains-here, Contains-there, AllPairs-head, AllPairs-tail}

-- one at the node, and nothing elsewhere
abbrev pub here : ℕ → ℕ → ℕ
here place node = if place == node then 1 else 0

-- the arc has room for one more unit: its link carries none, or carries one over the opposite arc
abbrev pub HasRoom : List Arc → Units → Arc → Type 0
HasRoom arcs units arc = ((unit_at units arc.link.0 ≡ None) × Contains arcs arc) ⊎ (unit_at units arc.link.0 ≡ Some (reversed arc))

-- the new flow has one unit more from u to v than the old
abbrev pub Shifts : Units → Units → ℕ → ℕ → Type 0
Shifts old new u v = (node : ℕ) → leaving new node + entering old node + here v node ≡ leaving old node + entering new node + here u node

-- a new entry at the place of a link takes the place of the old one in a sum
pub sum-entry : (f : Option Arc → ℕ) (units : Units) (link : ℕ) (old new : Option Arc) → link < length units → unit_at units link ≡ old →
    sum_by f (set units link new) + f old ≡ sum_by f units + f new
sum-entry f units link old new l e =
    subst (λ (o : Option Arc). sum_by f (set units link new) + f o ≡ sum_by f units + f new) e (sum_by-set f units link new None l)

put-shifts : (units : Units) (arc : Arc) → arc.link.0 < length units → unit_at units arc.link.0 ≡ None →
    Shifts units (set units arc.link.0 (Some arc)) arc.tail arc.head
put-shifts units arc l e node =
    let out : leaving (set units arc.link.0 (Some arc)) node + 0 ≡ leaving units node + here arc.tail node = sum-entry (unit_from node) units arc.link.0 None (Some arc) l e in
    let into : entering (set units arc.link.0 (Some arc)) node + 0 ≡ entering units node + here arc.head node = sum-entry (unit_to node) units arc.link.0 None (Some arc) l e in
    omega (arith, out, into)

-- taking a unit away is one unit more the other way
pub take-shifts : (units : Units) (arc : Arc) → arc.link.0 < length units → unit_at units arc.link.0 ≡ Some arc →
    Shifts units (set units arc.link.0 None) arc.head arc.tail
take-shifts units arc l e node =
    let out : leaving (set units arc.link.0 None) node + here arc.tail node ≡ leaving units node + 0 = sum-entry (unit_from node) units arc.link.0 (Some arc) None l e in
    let into : entering (set units arc.link.0 None) node + here arc.head node ≡ entering units node + 0 = sum-entry (unit_to node) units arc.link.0 (Some arc) None l e in
    omega (arith, out, into)

pub turn-none : (units : Units) (arc : Arc) → unit_at units arc.link.0 ≡ None → turn units arc ≡ set units arc.link.0 (Some arc)
turn-none units arc e = ap (λ (o : Option Arc). set units arc.link.0 (turned o arc)) e

pub turn-some : (units : Units) (arc used : Arc) → unit_at units arc.link.0 ≡ Some used → turn units arc ≡ set units arc.link.0 None
turn-some units arc used e = ap (λ (o : Option Arc). set units arc.link.0 (turned o arc)) e

pub turn-shifts : (arcs : List Arc) (units : Units) (arc : Arc) → arc.link.0 < length units → HasRoom arcs units arc → Shifts units (turn units arc) arc.tail arc.head
turn-shifts arcs units arc l (inl none) = subst (λ (w : Units). Shifts units w arc.tail arc.head) (sym (turn-none units arc none.0)) (put-shifts units arc l none.0)
turn-shifts arcs units arc l (inr some) = subst (λ (w : Units). Shifts units w arc.tail arc.head) (sym (turn-some units arc (reversed arc) some)) (take-shifts units (reversed arc) l some)

pub Shifts-same : (units : Units) (u : ℕ) → Shifts units units u u
Shifts-same units u node = omega arith

pub Shifts-then : (a b c : Units) (u v w : ℕ) → Shifts a b v w → Shifts b c u v → Shifts a c u w
Shifts-then a b c u v w p q node = omega (arith, p node, q node)

-- links that carry what they carried
pub turn-other : (units : Units) (arc : Arc) (link : ℕ) → (arc.link.0 ≡ link → ⊥) → unit_at (turn units arc) link ≡ unit_at units link
turn-other units arc link ne = get_or-set_other units arc.link.0 link (turned (unit_at units arc.link.0) arc) None (λ e. ne (sym e))

pub length-turn : (units : Units) (arc : Arc) → length (turn units arc) ≡ length units
length-turn units arc = length-set units arc.link.0 (turned (unit_at units arc.link.0) arc)

pub length-sent : (units : Units) (way : List Arc) → length (sent units way) ≡ length units
length-sent units [] = refl
length-sent units (arc ∷ way) = length-turn (sent units way) arc ∙ length-sent units way

pub sent-other : (units : Units) (way : List Arc) (link : ℕ) → ((arc : Arc) → Contains way arc → arc.link.0 ≡ link → ⊥) → unit_at (sent units way) link ≡ unit_at units link
sent-other units [] link h = refl
sent-other units (arc ∷ way) link h =
    turn-other (sent units way) arc link (h arc (Contains-here arc way)) ∙ sent-other units way link (λ b m. h b (Contains-there arc way b m))

pub sent-snoc : (units : Units) (way : List Arc) (arc : Arc) → sent units (way ++ arc ∷ []) ≡ sent (turn units arc) way
sent-snoc units [] arc = refl
sent-snoc units (a ∷ way) arc = ap (λ (w : Units). turn w a) (sent-snoc units way arc)

-- each arc of the way has room, is on a link of the graph that the table has a place for, and no link comes twice
pub record IsRoute (arcs : List Arc) (units : Units) (way : List Arc) : Type 0 where
  pub room : All (HasRoom arcs units) way
  pub places : All (λ arc. arc.link.0 < length units) way
  pub apart : AllPairs (λ a b. b.link.0 ≡ a.link.0 → ⊥) way

pub IsRoute-rest : (arcs : List Arc) (units : Units) (arc : Arc) (way : List Arc) → IsRoute arcs units (arc ∷ way) → IsRoute arcs units way
IsRoute-rest arcs units arc way r = record {
  room = All-tail (HasRoom arcs units) arc way r.room;
  places = All-tail (λ a. a.link.0 < length units) arc way r.places;
  apart = AllPairs-tail (λ a b. b.link.0 ≡ a.link.0 → ⊥) arc way r.apart;
}

-- once the rest of the way was sent, its first arc has room as before
pub room_left : (arcs : List Arc) (units : Units) (arc : Arc) (way : List Arc) → IsRoute arcs units (arc ∷ way) → HasRoom arcs (sent units way) arc
room_left arcs units arc way r =
    let same : unit_at (sent units way) arc.link.0 ≡ unit_at units arc.link.0 =
    sent-other units way arc.link.0 (λ b m. All-contains (λ x. x.link.0 ≡ arc.link.0 → ⊥) way b (AllPairs-head (λ a b. b.link.0 ≡ a.link.0 → ⊥) arc way r.apart) m) in
    elim (All-head (HasRoom arcs units) arc way r.room) as (λ _. HasRoom arcs (sent units way) arc) [
      | inl none ↦ inl (same ∙ none.0, none.1)
      | inr some ↦ inr (same ∙ some)
    ]

pub place_left : (arcs : List Arc) (units : Units) (arc : Arc) (way : List Arc) → IsRoute arcs units (arc ∷ way) → arc.link.0 < length (sent units way)
place_left arcs units arc way r = subst (λ (n : ℕ). arc.link.0 < n) (sym (length-sent units way)) (All-head (λ a. a.link.0 < length units) arc way r.places)

-- a way that is sent whole takes one unit from its first node to its last
pub sent-shifts : (arcs over : List Arc) (units : Units) (u v : ℕ) (way : List Arc) → IsRoute arcs units way → ArcPath over u way v → Shifts units (sent units way) u v
sent-shifts arcs over units u v [] r p = subst (λ (n : ℕ). Shifts units units u n) p (Shifts-same units u)
sent-shifts arcs over units u v (arc ∷ way) r p =
    let rest : Shifts units (sent units way) arc.head v = sent-shifts arcs over units arc.head v way (IsRoute-rest arcs units arc way r) p.2 in
    let first : Shifts (sent units way) (turn (sent units way) arc) arc.tail arc.head =
    turn-shifts arcs (sent units way) arc (place_left arcs units arc way r) (room_left arcs units arc way r) in
    subst (λ (n : ℕ). Shifts units (sent units (arc ∷ way)) n v) p.1 (Shifts-then units (sent units way) (turn (sent units way) arc) arc.tail arc.head v rest first)

-- each unit goes over an arc of its link
pub record OnArcs (arcs : List Arc) (units : Units) : Type 0 where
  pub is_arc : (link : ℕ) (arc : Arc) → unit_at units link ≡ Some arc → Contains arcs arc
  pub of_link : (link : ℕ) (arc : Arc) → unit_at units link ≡ Some arc → arc.link.0 ≡ link

pub none≢some : {X : Type 0} (x : X) (o : Option X) → o ≡ None → o ≡ Some x → ⊥
none≢some x o e f = cc

pub some-inj : {X : Type 0} (x y : X) (o : Option X) → o ≡ Some x → o ≡ Some y → x ≡ y
some-inj x y o e f = cc

-- the same once an entry holds nothing, or an arc of its own link
pub OnArcs-set : (arcs : List Arc) (units : Units) (link : ℕ) (entry : Option Arc) → OnArcs arcs units → link < length units →
    ((arc : Arc) → entry ≡ Some arc → Contains arcs arc × (arc.link.0 ≡ link)) → OnArcs arcs (set units link entry)
OnArcs-set arcs units link entry on l h = record {
  is_arc = λ k arc e. elim (cases_eq link k) as (λ _. Contains arcs arc) [
    | inl same ↦ (h arc (sym (get_or-set_same units link entry None l) ∙ ap (λ (n : ℕ). unit_at (set units link entry) n) same ∙ e)).0
    | inr other ↦ on.is_arc k arc (sym (get_or-set_other units link k entry None (λ f. other (sym f))) ∙ e)
  ];
  of_link = λ k arc e. elim (cases_eq link k) as (λ _. arc.link.0 ≡ k) [
    | inl same ↦ (h arc (sym (get_or-set_same units link entry None l) ∙ ap (λ (n : ℕ). unit_at (set units link entry) n) same ∙ e)).1 ∙ same
    | inr other ↦ on.of_link k arc (sym (get_or-set_other units link k entry None (λ f. other (sym f))) ∙ e)
  ];
}

some-is : (arc b : Arc) → Some arc ≡ Some b → arc ≡ b
some-is arc b e = cc

none-is : (b : Arc) → None ≡ Some b → ⊥
none-is b e = cc

pub OnArcs-turn : (arcs : List Arc) (units : Units) (arc : Arc) → OnArcs arcs units → arc.link.0 < length units → HasRoom arcs units arc → OnArcs arcs (turn units arc)
OnArcs-turn arcs units arc on l (inl none) =
    subst (λ (w : Units). OnArcs arcs w) (sym (turn-none units arc none.0))
    (OnArcs-set arcs units arc.link.0 (Some arc) on l (λ b e. let f : arc ≡ b = some-is arc b e in (subst (λ (x : Arc). Contains arcs x) f none.1, sym (ap (λ (x : Arc). x.link.0) f))))
OnArcs-turn arcs units arc on l (inr some) =
    subst (λ (w : Units). OnArcs arcs w) (sym (turn-some units arc (reversed arc) some))
    (OnArcs-set arcs units arc.link.0 None on l (λ b e. absurd (none-is b e)))

pub OnArcs-sent : (arcs : List Arc) (units : Units) (way : List Arc) → OnArcs arcs units → IsRoute arcs units way → OnArcs arcs (sent units way)
OnArcs-sent arcs units [] on r = on
OnArcs-sent arcs units (arc ∷ way) on r =
    OnArcs-turn arcs (sent units way) arc (OnArcs-sent arcs units way on (IsRoute-rest arcs units arc way r)) (place_left arcs units arc way r) (room_left arcs units arc way r)

-- a way that does not come to a node brings no unit into it
pub entering-turn : (arcs : List Arc) (units : Units) (arc : Arc) (node : ℕ) → arc.link.0 < length units → HasRoom arcs units arc → (arc.head ≡ node → ⊥) →
    entering (turn units arc) node ≤ entering units node
entering-turn arcs units arc node l (inl none) ne =
    let into : entering (set units arc.link.0 (Some arc)) node + 0 ≡ entering units node + here arc.head node = sum-entry (unit_to node) units arc.link.0 None (Some arc) l none.0 in
    let off : here arc.head node ≡ 0 = ap (λ b. if b then 1 else 0) (ne_eqb arc.head node ne) in
    subst (λ (w : Units). entering w node ≤ entering units node) (sym (turn-none units arc none.0)) (omega (arith, into, off))
entering-turn arcs units arc node l (inr some) ne =
    let into : entering (set units arc.link.0 None) node + here arc.tail node ≡ entering units node + 0 = sum-entry (unit_to node) units arc.link.0 (Some (reversed arc)) None l some in
    subst (λ (w : Units). entering w node ≤ entering units node) (sym (turn-some units arc (reversed arc) some)) (omega (arith, into))

pub entering-sent : (arcs : List Arc) (units : Units) (way : List Arc) (node : ℕ) → IsRoute arcs units way → ((arc : Arc) → Contains way arc → arc.head ≡ node → ⊥) →
    entering (sent units way) node ≤ entering units node
entering-sent arcs units [] node r h = omega arith
entering-sent arcs units (arc ∷ way) node r h =
    let rest : entering (sent units way) node ≤ entering units node = entering-sent arcs units way node (IsRoute-rest arcs units arc way r) (λ b m. h b (Contains-there arc way b m)) in
    let first : entering (turn (sent units way) arc) node ≤ entering (sent units way) node =
    entering-turn arcs (sent units way) arc node (place_left arcs units arc way r) (room_left arcs units arc way r) (h arc (Contains-here arc way)) in
    omega (arith, rest, first)
