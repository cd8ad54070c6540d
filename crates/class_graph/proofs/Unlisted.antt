-- Links whose interfaces have no packet list.
use Rattle.std.proofs.Common.{◌≡◌, ℕ, Bool, true, false, Option, Some, None, List, inl, inr, sym, subst}
use Rattle.std.specs.Prelude.{slice_get}
use Rattle.std.proofs.lemmas.Bool.{cases_Bool}
use Rattle.arc_base.specs.declared.place.ListId.{ListId}
use Rattle.net_model.specs.declared.rows.FaceRow.{FaceRow}
use Rattle.net_model.specs.declared.rows.LinkRow.{LinkRow}
use Rattle.net_model.specs.declared.rows.Network.{Network}
use Rattle.net_model.specs.Routing.{Arc}
use Rattle.net_model.proofs.Arcs.{IsArc-unique}
use Rattle.class_graph.specs.Answers.{Allows, ArcAllows}
use Rattle.class_graph.specs.Listed.{IsUnlisted}

no_list : (answers : List Bool) (list : Option ListId) → list ≡ None → Allows answers list
no_list answers list none = subst (λ (o : Option ListId). Allows answers o) (sym none) tt

pub unlisted : (net : Network) (k : ℕ) (link : LinkRow) (a b : FaceRow) → slice_get net.links k ≡ Some link →
    slice_get net.faces link.a.0 ≡ Some a → slice_get net.faces link.b.0 ≡ Some b →
    (a.list_in ≡ None) × (a.list_out ≡ None) → (b.list_in ≡ None) × (b.list_out ≡ None) → IsUnlisted net k
unlisted net k link a b at_link at_a at_b no_a no_b arc is_arc of_link answers =
    elim (cases_Bool arc.from_a) [
      | inl from_a ↦
          let here : Arc = record { link = k; from_a = true; row = link; tail = a; head = b } in
          subst (λ (x : Arc). ArcAllows answers x)
          (IsArc-unique net here arc (record { link = at_link; tail = at_a; head = at_b }) is_arc (sym of_link) (sym from_a))
          (no_list answers a.list_out no_a.1, no_list answers b.list_in no_b.0)
      | inr from_b ↦
          let here : Arc = record { link = k; from_a = false; row = link; tail = b; head = a } in
          subst (λ (x : Arc). ArcAllows answers x)
          (IsArc-unique net here arc (record { link = at_link; tail = at_b; head = at_a }) is_arc (sym of_link) (sym from_b))
          (no_list answers b.list_out no_b.1, no_list answers a.list_in no_a.0)
    ]
