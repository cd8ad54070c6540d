-- A search that goes on once the unit of an arc was taken away.
use Rattle.std.proofs.Common.{◌≡◌, ℕ, ◌+◌, ◌<◌, IsFalse, List, length, set, Contains, inl, inr, ◌⊎◌, refl, sym, ap, ◌∙◌, subst, arith, Some, None, get_or-set_same, get_or-set_other}
use Rattle.std.proofs.lemmas.Bool.{cases_eq, false≢true}
use Rattle.std.proofs.lemmas.List.Elements.{All-contains}
use Rattle.graph_flow.specs.declared.arcs.Arc.{Arc}
use Rattle.graph_flow.specs.declared.search.Mark.{Mark}
use Rattle.graph_flow.specs.declared.search.Mark.TheVariants.{After}
use Rattle.graph_flow.specs.Paths.{Digraph, IsGraph, Joins, MayShare}
use Rattle.graph_flow.specs.Flows.{Units, unit_at}
use Rattle.graph_flow.specs.Residual.{residual}
use Rattle.graph_flow.specs.Marks.{is_seen, depth_of, mark_at, IsSearch, Follows}
use Rattle.graph_flow.proofs.Lists.{AllPairs-members}
use Rattle.graph_flow.proofs.Turns.{OnArcs, OnArcs-set, none≢some, some-inj}
use Rattle.graph_flow.proofs.Residuals.{Source, residual-source, residual-free, residual-back, same_link}
use Rattle.graph_flow.proofs.Searches.{Seen, found, count-room}
use Rattle.graph_flow.proofs.Cuts.{place_below}

-- an arc of the residual network is one of it without the unit of another arc, but for that arc turned round
pub kept-arc : (arcs : List Arc) (units : Units) (arc : Arc) → OnArcs arcs units → arc.link.0 < length units → unit_at units arc.link.0 ≡ Some arc →
    (r : Arc) → Contains (residual units arcs) r → (r.tail ≡ arc.head → ⊥) → Contains (residual (set units arc.link.0 None) arcs) r
kept-arc arcs units arc on place unit r m away =
    let from : Source arcs units r = residual-source arcs units r m in
    let off : (link : ℕ) → (arc.link.0 ≡ link → ⊥) → unit_at (set units arc.link.0 None) link ≡ unit_at units link =
    λ link ne. get_or-set_other units arc.link.0 link None None (λ f. ne (sym f)) in
    elim from.how [
      | inl free ↦
          let ne : arc.link.0 ≡ from.base.link.0 → ⊥ = λ e. none≢some arc (unit_at units from.base.link.0) free.0 (ap (λ (n : ℕ). unit_at units n) (sym e) ∙ unit) in
          subst (λ (x : Arc). Contains (residual (set units arc.link.0 None) arcs) x) free.1
          (residual-free arcs (set units arc.link.0 None) from.base from.is_base (off from.base.link.0 ne ∙ free.0))
      | inr (used, e, same, turned_is) ↦
          let ne : arc.link.0 ≡ from.base.link.0 → ⊥ = λ f.
          let is : arc ≡ used = some-inj arc used (unit_at units from.base.link.0) (ap (λ (n : ℕ). unit_at units n) (sym f) ∙ unit) e in
          away (ap (λ (x : Arc). x.tail) (sym turned_is) ∙ ap (λ (x : Arc). x.head) (sym is)) in
          let after : OnArcs arcs (set units arc.link.0 None) = OnArcs-set arcs units arc.link.0 None on place (λ b f. absurd (none≢some b None refl f)) in
          subst (λ (x : Arc). Contains (residual (set units arc.link.0 None) arcs) x) turned_is
          (residual-back arcs (set units arc.link.0 None) from.base.link.0 used after (off from.base.link.0 ne ∙ e))
    ]

-- a seen node is another than one that is not
unlike : (marks : List Mark) (u v : ℕ) → Seen marks u → IsFalse (is_seen (mark_at marks v)) → u ≡ v → ⊥
unlike marks u v seen unseen e = false≢true (sym unseen ∙ ap (λ (n : ℕ). is_seen (mark_at marks n)) (sym e) ∙ seen)

module _ (g : Digraph) (is : IsGraph g) (units : Units) (on : OnArcs g.arcs units) (arc : Arc) (unit : unit_at units arc.link.0 ≡ Some arc) where
  place : arc.link.0 < length units
  place = place_below units arc.link.0 arc unit

  off : (link : ℕ) → (arc.link.0 ≡ link → ⊥) → unit_at (set units arc.link.0 None) link ≡ unit_at units link
  off link ne = get_or-set_other units arc.link.0 link None None (λ f. ne (sym f))

  none_here : unit_at (set units arc.link.0 None) arc.link.0 ≡ None
  none_here = get_or-set_same units arc.link.0 None None place

  is_arc : Contains g.arcs arc
  is_arc = on.is_arc arc.link.0 arc unit

  -- the network without the unit has the arc itself, arcs that lead from its head, and no others beside its own
  opened-arc : (r : Arc) → Contains (residual (set units arc.link.0 None) g.arcs) r → (r.tail ≡ arc.head → ⊥) → Contains (residual units g.arcs) r ⊎ (r ≡ arc)
  opened-arc r m away =
      let from : Source g.arcs (set units arc.link.0 None) r = residual-source g.arcs (set units arc.link.0 None) r m in
      elim from.how [
        | inl free ↦ elim (cases_eq arc.link.0 from.base.link.0) [
          | inl same ↦
              let links : arc.link ≡ from.base.link = same_link arc.link from.base.link same in
              let away_base : from.base.tail ≡ arc.head → ⊥ = λ e. away (ap (λ (x : Arc). x.tail) (sym free.1) ∙ e) in
              elim (AllPairs-members MayShare g.arcs arc from.base is.opposite is_arc from.is_base) [
                | inl e ↦ inr (sym free.1 ∙ sym e)
                | inr pair ↦ elim pair [
                  | inl share ↦ absurd (away_base (sym (share.back links)))
                  | inr share ↦ absurd (away_base (share.forth (sym links)))
                ]
              ]
          | inr ne ↦ inl (subst (λ (x : Arc). Contains (residual units g.arcs) x) free.1
              (residual-free g.arcs units from.base from.is_base (sym (off from.base.link.0 ne) ∙ free.0)))
        ]
        | inr (used, e, same, turned_is) ↦
            let ne : arc.link.0 ≡ from.base.link.0 → ⊥ =
            λ f. none≢some used (unit_at (set units arc.link.0 None) from.base.link.0) (ap (λ (n : ℕ). unit_at (set units arc.link.0 None) n) (sym f) ∙ none_here) e in
            inl (subst (λ (x : Arc). Contains (residual units g.arcs) x) turned_is
            (residual-back g.arcs units from.base.link.0 used on (sym (off from.base.link.0 ne) ∙ e)))
      ]

  module _ (s : ℕ) (marks : List Mark) (queue : List ℕ) (count : ℕ) (search : IsSearch (residual units g.arcs) s marks queue count count)
      (nodes : length marks ≡ g.nodes) (size : length queue ≡ length marks) (tail : Seen marks arc.tail) (unseen : IsFalse (is_seen (mark_at marks arc.head))) where
    pub head_below : arc.head < length marks
    head_below = let joins : Joins g.nodes arc = All-contains (Joins g.nodes) g.arcs arc is.joined is_arc in omega (arith, joins.head_node, nodes)

    pub has_room : count < length queue
    has_room = omega (arith, count-room marks arc.head head_below unseen, search.counted, size)

    -- the head is seen then, and the arcs of all nodes before it were looked at
    opened : IsSearch (residual (set units arc.link.0 None) g.arcs) s (set marks arc.head (After arc (depth_of (mark_at marks arc.tail) + 1))) (set queue count arc.head) (count + 1) count
    opened =
        found (residual units g.arcs) (residual (set units arc.link.0 None) g.arcs) s marks queue count count arc search (omega arith) has_room
        (residual-free g.arcs (set units arc.link.0 None) arc is_arc none_here) head_below tail unseen
        (λ a m seen. kept-arc g.arcs units arc on place unit a m (unlike marks a.tail arc.head seen unseen))
        (λ a m seen. opened-arc a m (unlike marks a.tail arc.head seen unseen))

    pub opened_as : (new : List Mark) (new_queue : List ℕ) (new_count : ℕ) → Follows marks queue count arc arc.tail new new_queue new_count →
        IsSearch (residual (set units arc.link.0 None) g.arcs) s new new_queue new_count count × (new_count ≡ count + 1)
    opened_as new new_queue new_count (inl stays) = absurd (false≢true (sym unseen ∙ stays.seen refl))
    opened_as new new_queue new_count (inr finds) = (
      subst (λ (n : List Mark). IsSearch (residual (set units arc.link.0 None) g.arcs) s n new_queue new_count count) (sym finds.marked)
          (subst (λ (q : List ℕ). IsSearch (residual (set units arc.link.0 None) g.arcs) s (set marks arc.head (After arc (depth_of (mark_at marks arc.tail) + 1))) q new_count count) (sym finds.put)
          (subst (λ (n : ℕ). IsSearch (residual (set units arc.link.0 None) g.arcs) s (set marks arc.head (After arc (depth_of (mark_at marks arc.tail) + 1)))
          (set queue count arc.head) n count) (sym finds.one_more) opened)),
      finds.one_more,
    )
