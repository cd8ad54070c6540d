-- Whether an arc is routed can be decided, and the usable arcs of a network can be listed.
use Rattle.std.proofs.Common.{◌≡◌, ℕ, zero, suc, ◌<◌, ◌⊎◌, inl, inr, Bool, true, false, Option, Some, None, List, [], ◌∷◌, length, ap, refl, sym, ◌∙◌, subst, arith}
use Rattle.std.specs.Prelude.{◌↔◌, IsTrue, IsFalse, IfSome, IsSomeAnd, Any, is_some, slice_get}
use Rattle.std.specs.List.{AllByRecursion}
use Rattle.std.proofs.lemmas.Bool.{false≢true, cases_lt, cases_Bool}
use Rattle.std.proofs.lemmas.Option.{slice_get_within}
use Rattle.arc_base.specs.declared.prefix.Prefix.{Prefix}
use Rattle.arc_base.specs.declared.place.Face.{Face}
use Rattle.arc_base.specs.declared.place.ListId.{ListId}
use Rattle.net_model.specs.declared.lists.Packet.{Packet}
use Rattle.net_model.specs.declared.lists.PacketList.{PacketList}
use Rattle.net_model.specs.declared.lists.RouteList.{RouteList}
use Rattle.net_model.specs.declared.rows.FaceRow.{FaceRow}
use Rattle.net_model.specs.declared.rows.LinkRow.{LinkRow}
use Rattle.net_model.specs.declared.rows.SessionRow.{SessionRow}
use Rattle.net_model.specs.declared.rows.Network.{Network}
use Rattle.net_model.specs.Decided.{is_able_end, is_open, is_told}
use Rattle.net_model.specs.Lists.{permits, route_permits}
use Rattle.net_model.specs.Forwarding.{Ends, Leaves, ListPermits}
use Rattle.net_model.specs.Routing.{Arc, IsArc, IsRouted, IsUsable, Advertises, IsAbleEnd, IsOpen, RouteListPermits, FilterPermits, Carries, session_at, tail_face, head_face, tail_end, head_end}
use Rattle.net_model.proofs.Arcs.{one_item, IsArc-unique}
use Rattle.net_model.proofs.Decided.{able_right, open_right, told_right}

-- it holds, or it does not
abbrev pub Decided : Type 0 → Type 0
Decided A = A ⊎ (A → ⊥)

pub both : {A B : Type 0} → Decided A → Decided B → Decided (A × B)
both (inl a) (inl b) = inl (a, b)
both (inl a) (inr n) = inr (λ p. n p.1)
both (inr n) b = inr (λ p. n p.0)

pub is_true : (b : Bool) → Decided (IsTrue b)
is_true true = inl refl
is_true false = inr false≢true

is_false : (b : Bool) → Decided (IsFalse b)
is_false true = inr (λ e. false≢true (sym e))
is_false false = inl refl

pub if_some : {X : Type 0} (P : X → Type 0) → ((x : X) → Decided (P x)) → (o : Option X) → Decided (IfSome o P)
if_some P each None = inl tt
if_some P each (Some x) = each x

pub is_some_and : {X : Type 0} (P : X → Type 0) → ((x : X) → Decided (P x)) → (o : Option X) → Decided (IsSomeAnd o P)
is_some_and P each None = inr (λ h. h)
is_some_and P each (Some x) = each x

by_test : (b : Bool) (A : Type 0) → ((b ≡ true) ↔ A) → Decided A
by_test true A right = inl (right.0 refl)
by_test false A right = inr (λ h. false≢true (right.1 h))

able_end : (net : Network) (session : Option SessionRow) (near far : FaceRow) → Decided (IsAbleEnd net session near far)
able_end net session near far = by_test (is_able_end net session near far) (IsAbleEnd net session near far) (able_right net session near far)

open_end : (session : Option SessionRow) (face : FaceRow) → Decided (IsOpen session face)
open_end session face = by_test (is_open session face) (IsOpen session face) (open_right session face)

route_list : (net : Network) (to : Prefix) (filter : Option ListId) → Decided (RouteListPermits net filter to)
route_list net to filter =
    let R : RouteList → Type 0 = λ l. IsTrue (route_permits l.entries to) in
    if_some (λ (id : ListId). IsSomeAnd (slice_get net.route_lists id.0) R)
    (λ id. is_some_and R (λ l. is_true (route_permits l.entries to)) (slice_get net.route_lists id.0)) filter

filter_permits : (net : Network) (session : Option SessionRow) (to : Prefix) → Decided (FilterPermits net session to)
filter_permits net session to =
    if_some (λ (s : SessionRow). RouteListPermits net s.filter to) (λ s. route_list net to s.filter) session

carries : (net : Network) (to : Prefix) (near : Option SessionRow) (tail : FaceRow) (far : Option SessionRow) (head : FaceRow) → Decided (Carries net to near tail far head)
carries net to near tail far head =
    elim (both (able_end net near tail head) (both (able_end net far head tail)
    (both (open_end near tail) (both (open_end far head) (filter_permits net near to))))) [
      | inl h ↦ inl (record { able_tail = h.0; able_head = h.1.0; open_tail = h.1.1.0; open_head = h.1.1.1.0; filter = h.1.1.1.1 })
      | inr n ↦ inr (λ h. n (h.able_tail, (h.able_head, (h.open_tail, (h.open_head, h.filter)))))
    ]

pub routed : (net : Network) (to : Prefix) (arc : Arc) → Decided (IsRouted net to arc)
routed net to arc =
    elim (both (by_test (is_told net to) (Any (Advertises to) net.faces) (told_right net to))
    (carries net to (session_at net (tail_face arc)) arc.tail (session_at net (head_face arc)) arc.head)) [
      | inl h ↦ inl (record { told = h.0; carries = h.1 })
      | inr n ↦ inr (λ h. n (h.told, h.carries))
    ]

read : {X : Type 0} (xs : List X) (k : ℕ) → ((x : X) × (slice_get xs k ≡ Some x)) ⊎ (slice_get xs k ≡ None)
read [] k = inr refl
read (x ∷ xs) zero = inl (x, refl)
read (x ∷ xs) (suc k) = read xs k

some_is_not_none : {X : Type 0} (x : X) (o : Option X) → o ≡ None → o ≡ Some x → ⊥
some_is_not_none x o e q = false≢true (ap is_some (sym e ∙ q))

-- the arc is listed
abbrev pub In : List Arc → Arc → Type 0
In [] b = ⊥
In (a ∷ arcs) b = (a ≡ b) ⊎ In arcs b

module _ (net : Network) (to : Prefix) (failed : ℕ → Bool) where
  -- the usable arc of a link in one direction, or that there is none
  usable_at : (k : ℕ) (f : Bool) → ((arc : Arc) × IsUsable net to failed arc × (arc.link ≡ k) × (arc.from_a ≡ f)) ⊎
      ((arc : Arc) → IsUsable net to failed arc → arc.link ≡ k → arc.from_a ≡ f → ⊥)
  usable_at k f =
      elim (read net.links k) [
        | inr none ↦ inr (λ arc u link from. some_is_not_none arc.row (slice_get net.links k) none (subst (λ (l : ℕ). slice_get net.links l ≡ Some arc.row) link u.is_arc.link))
        | inl row ↦ elim (read net.faces (tail_end row.0 f).0) [
          | inr none ↦ inr (λ arc u link from.
              let same : arc.row ≡ row.0 = one_item net.links k arc.row row.0 (subst (λ (l : ℕ). slice_get net.links l ≡ Some arc.row) link u.is_arc.link) row.1 in
              let at : tail_face arc ≡ tail_end row.0 f = ap (λ (r : LinkRow). tail_end r arc.from_a) same ∙ ap (λ (g : Bool). tail_end row.0 g) from in
              some_is_not_none arc.tail (slice_get net.faces (tail_end row.0 f).0) none (subst (λ (x : Face). slice_get net.faces x.0 ≡ Some arc.tail) at u.is_arc.tail))
          | inl tail ↦ elim (read net.faces (head_end row.0 f).0) [
            | inr none ↦ inr (λ arc u link from.
                let same : arc.row ≡ row.0 = one_item net.links k arc.row row.0 (subst (λ (l : ℕ). slice_get net.links l ≡ Some arc.row) link u.is_arc.link) row.1 in
                let at : head_face arc ≡ head_end row.0 f = ap (λ (r : LinkRow). head_end r arc.from_a) same ∙ ap (λ (g : Bool). head_end row.0 g) from in
                some_is_not_none arc.head (slice_get net.faces (head_end row.0 f).0) none (subst (λ (x : Face). slice_get net.faces x.0 ≡ Some arc.head) at u.is_arc.head))
            | inl head ↦
                let here : Arc = record { link = k; from_a = f; row = row.0; tail = tail.0; head = head.0 } in
                let is_here : IsArc net here = record { link = row.1; tail = tail.1; head = head.1 } in
                elim (both (routed net to here) (is_false (failed k))) [
                  | inl h ↦ inl (here, record { is_arc = is_here; routed = h.0; left = h.1 }, refl, refl)
                  | inr n ↦ inr (λ arc u link from.
                      let same : arc ≡ here = IsArc-unique net arc here u.is_arc is_here link from in
                      n (subst (IsRouted net to) same u.routed, subst (λ (l : ℕ). failed l ≡ false) link u.left))
                ]
          ]
        ]
      ]

  -- the usable arcs of the links below k
  pub record Listed (k : ℕ) : Type 0 where
    pub arcs : List Arc
    pub usable : AllByRecursion (IsUsable net to failed) arcs
    pub complete : (b : Arc) → IsUsable net to failed b → b.link < k → In arcs b

  -- a list with one more direction of the link k
  pub record Partly (k : ℕ) (f : Bool) (before : List Arc) : Type 0 where
    pub arcs : List Arc
    pub usable : AllByRecursion (IsUsable net to failed) arcs
    pub kept : (b : Arc) → In before b → In arcs b
    pub added : (b : Arc) → IsUsable net to failed b → b.link ≡ k → b.from_a ≡ f → In arcs b

  add : (k : ℕ) (f : Bool) (arcs : List Arc) → AllByRecursion (IsUsable net to failed) arcs → Partly k f arcs
  add k f arcs usable =
      elim (usable_at k f) [
        | inl a ↦ record {
          arcs = a.0 ∷ arcs;
          usable = (a.1, usable);
          kept = λ b at. inr at;
          added = λ b u link from. inl (IsArc-unique net a.0 b a.1.is_arc u.is_arc (a.2 ∙ sym link) (a.3 ∙ sym from));
        }
        | inr none ↦ record { arcs = arcs; usable = usable; kept = λ b at. at; added = λ b u link from. absurd (none b u link from) }
      ]

  list_below : (k : ℕ) → Listed k
  list_below zero = record { arcs = []; usable = tt; complete = λ b u l. absurd (omega arith) }
  list_below (suc k) =
      let rest : Listed k = list_below k in
      let one : Partly k true rest.arcs = add k true rest.arcs rest.usable in
      let two : Partly k false one.arcs = add k false one.arcs one.usable in
      record {
        arcs = two.arcs;
        usable = two.usable;
        complete = λ b u l.
            elim (cases_lt b.link k) [
              | inl below ↦ two.kept b (one.kept b (rest.complete b u below))
              | inr at ↦ let link : b.link ≡ k = omega arith in
                  elim (cases_Bool b.from_a) [
                    | inl t ↦ two.kept b (one.added b u link t)
                    | inr f ↦ two.added b u link f
                  ]
            ];
      }

  -- all usable arcs
  pub record UsableArcs : Type 0 where
    pub arcs : List Arc
    pub usable : AllByRecursion (IsUsable net to failed) arcs
    pub complete : (b : Arc) → IsUsable net to failed b → In arcs b

  pub usable_arcs : UsableArcs
  usable_arcs =
      let all : Listed (length net.links) = list_below (length net.links) in
      record { arcs = all.arcs; usable = all.usable; complete = λ b u. all.complete b u (slice_get_within net.links b.link b.row u.is_arc.link) }

-- whether a packet leaves can be decided
pub permitted : (net : Network) (list : Option ListId) (p : Packet) → Decided (ListPermits net list p)
permitted net list p =
    let P : PacketList → Type 0 = λ l. IsTrue (permits l.entries p) in
    if_some (λ (id : ListId). IsSomeAnd (slice_get net.packet_lists id.0) P)
    (λ id. is_some_and P (λ l. is_true (permits l.entries p)) (slice_get net.packet_lists id.0)) list

pub leaves_surely : (net : Network) (ends : Ends) (p : Packet) → ((¬ Leaves net ends p) → ⊥) → Leaves net ends p
leaves_surely net ends p h =
    elim (both (is_true ends.target.up) (permitted net ends.target.list_out p)) [
      | inl leaves ↦ leaves
      | inr stays ↦ absurd (h stays)
    ]
