-- Arcs that do not permit packets.
use Rattle.std.proofs.Common.{◌≡◌, ℕ, Bool, true, false, List, IsTrue, refl, sym, ◌∙◌, subst, inl, inr}
use Rattle.std.specs.Prelude.{not}
use Rattle.std.proofs.lemmas.Bool.{false≢true, not-true, cases_Bool}
use Rattle.arc_base.specs.declared.prefix.Prefix.{Prefix}
use Rattle.net_model.specs.declared.rows.FaceRow.{FaceRow}
use Rattle.net_model.specs.declared.rows.LinkRow.{LinkRow}
use Rattle.net_model.specs.declared.rows.Network.{Network}
use Rattle.net_model.specs.Routing.{Arc, IsRoutedLink}
use Rattle.net_model.proofs.Arcs.{IsArc-unique}
use Rattle.class_graph.specs.Answers.{ArcAllows, EndsAllow}
use Rattle.class_graph.specs.Denials.{IsDeniedBy, IsDeniedOver}
use Rattle.class_graph.proofs.NetworkArcs.{ReadArc}

denied_when : (allows : Bool) (P : Type 0) → (IsTrue allows → P) → (¬ P) → IsTrue (not allows)
denied_when true P yes_then denied = absurd (denied (yes_then refl))
denied_when false P yes_then denied = refl

-- the arc that was read denies packets where its lists do not answer yes
pub denied_read : (net : Network) (to : Prefix) (answers : List Bool) (link : ℕ) (from_a : Bool) (row : LinkRow) (tail head : FaceRow) →
    ReadArc net to link from_a row tail head → IsRoutedLink net link from_a to → (allows : Bool) →
    (IsTrue allows → EndsAllow answers tail head) → (EndsAllow answers tail head → IsTrue allows) →
    (IsTrue (not allows) → IsDeniedOver net to answers link from_a) × (IsDeniedOver net to answers link from_a → IsTrue (not allows))
denied_read net to answers link from_a row tail head read routed allows forth back =
    let arc : Arc = record { link = link; from_a = from_a; row = row; tail = tail; head = head } in (
      λ no_answer. record {
        denied_by = record {
          arc = arc;
          is_arc = read.is_arc;
          routed = read.routed routed;
          of_link = refl;
          denied = λ all. false≢true (sym (not-true allows no_answer) ∙ back all);
        };
        direction = refl;
      },
      λ over. denied_when allows (EndsAllow answers tail head) forth (
          let same : over.denied_by.arc ≡ arc = IsArc-unique net over.denied_by.arc arc over.denied_by.is_arc read.is_arc over.denied_by.of_link over.direction in
          subst (λ (a : Arc). ¬ ArcAllows answers a) same over.denied_by.denied),
    )

-- a link that denies by its arc in the one direction or by that in the other
pub other_way : (net : Network) (to : Prefix) (answers : List Bool) (link : ℕ) → (¬ IsDeniedOver net to answers link true) → IsDeniedBy net to answers link →
    IsDeniedOver net to answers link false
other_way net to answers link forth denied = elim (cases_Bool denied.arc.from_a) [
  | inl way ↦ absurd (forth (record { denied_by = denied; direction = way }))
  | inr way ↦ record { denied_by = denied; direction = way }
]

pub not_when : (b : Bool) (P : Type 0) → (P → IsTrue b) → b ≡ false → ¬ P
not_when b P back off p = false≢true (sym off ∙ back p)
