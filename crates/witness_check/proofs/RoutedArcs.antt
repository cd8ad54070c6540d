-- The routed arcs of a network, link by link and in both directions, and what a search for one of them tells.
use Rattle.std.proofs.Common.{◌≡◌, ℕ, ◌+◌, ◌<◌, inl, inr, Bool, true, false, not, Option, Some, None, length, refl, sym, ◌∙◌, ap, subst, arith}
use Rattle.std.specs.Prelude.{IsTrue, IfSome, IfNone, ◌↔◌, is_some}
use Rattle.std.proofs.lemmas.Bool.{cases_lt, false≢true}
use Rattle.std.proofs.lemmas.Option.{slice_get_within}
use Rattle.arc_base.specs.declared.prefix.Prefix.{Prefix}
use Rattle.net_model.specs.declared.rows.Network.{Network}
use Rattle.net_model.specs.Routing.{Arc, IsArc, IsRouted, IsRoutedLink, tail_router}
use Rattle.net_model.proofs.Arcs.{IsArc-unique}
use Rattle.witness_check.specs.declared.arcs.ArcRows.{ArcRows}
use Rattle.witness_check.specs.Cases.{arc_of, IsRoutedArc, IsOver, EachOver, EachRouted}
use Rattle.witness_check.specs.Trails.{IsStep}

-- some rows of the arc have the property
abbrev pub SomeRows : (ArcRows → Type 0) → Arc → Type 0
SomeRows P arc = (rows : ArcRows) × (arc_of rows ≡ arc) × P rows

-- the arc that is found in a direction of a link is over the link
pub over_link : (link : ℕ) (from_a : Bool) (o : Option ArcRows) → IfSome o (λ arc. IsOver link from_a (arc_of arc)) → IfSome o (λ arc. arc.link.0 ≡ link)
over_link link from_a None over = tt
over_link link from_a (Some rows) over = over.0

module _ (net : Network) (to : Prefix) where
  -- the arc of a link in a direction is routed if the link is
  pub routed_of : (link : ℕ) (from_a : Bool) (one : Arc) → IsArc net one → IsOver link from_a one → IsRoutedLink net link from_a to → IsRoutedArc net to one
  routed_of link from_a one is_arc over found = (
    is_arc,
    subst (λ (arc : Arc). IsRouted net to arc)
        (IsArc-unique net found.arc one found.is_arc is_arc (found.link_is ∙ sym over.0) (found.direction ∙ sym over.1)) found.routed,
  )

  module _ (P : Arc → Type 0) where
    -- a link has one arc in each direction
    pub each_over_one : (link : ℕ) (from_a : Bool) (one : Arc) → IsArc net one → IsOver link from_a one → P one → EachOver net to link from_a P
    each_over_one link from_a one is_arc over holds arc is_routed is_over =
        subst P (IsArc-unique net one arc is_arc is_routed.0 (over.0 ∙ sym is_over.0) (over.1 ∙ sym is_over.1)) holds

    -- and what is not routed need not satisfy anything
    pub over_unrouted : (link : ℕ) (from_a : Bool) → ¬ IsRoutedLink net link from_a to → EachOver net to link from_a P
    over_unrouted link from_a off arc routed over =
        absurd (off (record { arc = arc; link_is = over.0; direction = over.1; is_arc = routed.0; routed = routed.1 }))

    pub each_routed : ((k : ℕ) → k < length net.links → (f : Bool) → EachOver net to k f P) → EachRouted net to P
    each_routed all arc routed = all arc.link (slice_get_within net.links arc.link arc.row routed.0.link) arc.from_a arc routed (refl, refl)

    either : (n : ℕ) (f : Bool) → EachOver net to n true P → EachOver net to n false P → EachOver net to n f P
    either n true forth back = forth
    either n false forth back = back

    pub both_ways : (n : ℕ) (o : Option ArcRows) → EachOver net to n true P → IfNone o (EachOver net to n false P) → IfNone o ((f : Bool) → EachOver net to n f P)
    both_ways n None forth back = λ f. either n f forth back
    both_ways n (Some rows) forth back = tt

    -- one more link
    pub one_more : (n : ℕ) → ((k : ℕ) → k < n → (f : Bool) → EachOver net to k f P) → ((f : Bool) → EachOver net to n f P) →
        (k : ℕ) → k < n + 1 → (f : Bool) → EachOver net to k f P
    one_more n before here k less f =
        elim (cases_lt k n) [
          | inl below ↦ before k below f
          | inr at ↦ let same : n ≡ k = omega arith in
              subst (λ (j : ℕ). EachOver net to j f P) same (here f)
        ]

  -- a search whose test tells whether an arc has the property, or lacks it
  module _ (P : Arc → Type 0) (Yes No : ArcRows → Type 0) where
    -- all routed arcs have the property if the search for one without it finds none
    pub none_found : (o : Option ArcRows) (b : Bool) → is_some o ≡ not b → IfSome o (λ arc. IsRoutedArc net to (arc_of arc)) → IfSome o Yes → IfNone o (EachRouted net to (SomeRows No)) →
        ((rows : ArcRows) → Yes rows → ¬ P (arc_of rows)) → ((rows : ArcRows) → No rows → P (arc_of rows)) → IsTrue b ↔ EachRouted net to P
    none_found None true is routed said none off on = (λ _ arc here. let h : SomeRows No arc = none arc here in subst P h.1 (on h.0 h.2), λ _. refl)
    none_found None false is routed said none off on = absurd (false≢true is)
    none_found (Some rows) true is routed said none off on = absurd (false≢true (sym is))
    none_found (Some rows) false is routed said none off on = (λ t. absurd (false≢true t), λ each. absurd (off rows said (each (arc_of rows) routed)))

    -- a routed arc of the link has the property if the search finds one
    pub one_found : (link : ℕ) (o : Option ArcRows) (b : Bool) → b ≡ is_some o → IfSome o (λ arc. IsRoutedArc net to (arc_of arc)) → IfSome o (λ arc. arc.link.0 ≡ link) → IfSome o Yes →
        IfNone o ((f : Bool) → EachOver net to link f (SomeRows No)) → ((rows : ArcRows) → Yes rows → P (arc_of rows)) → ((rows : ArcRows) → No rows → ¬ P (arc_of rows)) →
        IsTrue b ↔ ((arc : Arc) × (arc.link ≡ link) × IsRoutedArc net to arc × P arc)
    one_found link None b is routed over said none on off = (
      λ t. absurd (false≢true (sym is ∙ t)),
      λ h. let no : SomeRows No h.0 = none h.0.from_a h.0 h.2 (h.1, refl) in absurd (off no.0 no.2 (subst P (sym no.1) h.3)),
    )
    one_found link (Some rows) b is routed over said none on off = (λ _. (arc_of rows, over, routed, on rows said), λ _. is)

  -- the search over a link for an arc that leads on from a router finds the step
  module _ (router link : ℕ) (Yes No : ArcRows → Type 0) where
    pub step_found : (o : Option ArcRows) → IfSome o (λ arc. IsRoutedArc net to (arc_of arc)) → IfSome o (λ arc. arc.link.0 ≡ link) → IfSome o Yes →
        ((rows : ArcRows) → Yes rows → tail_router (arc_of rows) ≡ router) → IfSome o (λ arc. IsStep net to router link (arc_of arc))
    step_found None routed over said on = tt
    step_found (Some rows) routed over said on = record { routed = routed; over = over; tail = on rows said }

    pub no_step : (o : Option ArcRows) → IfNone o ((f : Bool) → EachOver net to link f (SomeRows No)) → ((rows : ArcRows) → No rows → ¬ (tail_router (arc_of rows) ≡ router)) →
        IfNone o ((arc : Arc) → ¬ IsStep net to router link arc)
    no_step (Some rows) none off = tt
    no_step None none off = λ arc step.
        let no : SomeRows No arc = none arc.from_a arc step.routed (step.over, refl) in off no.0 no.2 (ap tail_router no.1 ∙ step.tail)
