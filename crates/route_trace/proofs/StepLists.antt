-- The list of steps, as links are gone through, and the steps of one router in it.
use Rattle.std.proofs.Common.{◌≡◌, ℕ, zero, suc, ◌+◌, ◌<◌, ◌≤◌, ⊎_elim, inl, inr, Bool, true, false, Option, Some, None, List, [], ◌∷◌, ◌++◌, length, get_or, refl, sym, ◌∙◌, ap, subst, arith}
use Rattle.std.specs.Prelude.{IsTrue, IfSome, IfNone, slice_get, All, AllPairs, Contains, ◌↔◌, ◌==◌}
use Rattle.std.specs.Option.{option_to_list}
use Rattle.std.proofs.lemmas.Bool.{eqb-true, eq-eqb, cases_lt, cases_Bool}
use Rattle.std.proofs.lemmas.List.{append-nil}
use Rattle.std.proofs.lemmas.List.Elements.{Contains-get_or, Contains-append_cases, Contains-append_left, Contains-append_right}
use Rattle.std.proofs.lemmas.List.Quantifiers.{all_pairs_push}
use Rattle.arc_base.specs.declared.prefix.Prefix.{Prefix}
use Rattle.arc_base.proofs.Items.{from_filter, Contains-filter, Contains-none}
use Rattle.net_model.specs.declared.rows.Protocol.{Protocol}
use Rattle.net_model.specs.declared.rows.Protocol.TheVariants.{Ospf, Bgp}
use Rattle.net_model.specs.declared.rows.LinkRow.{LinkRow}
use Rattle.net_model.specs.declared.rows.Network.{Network}
use Rattle.net_model.specs.declared.tables.RoutedLink.{RoutedLink}
use Rattle.net_model.specs.Routing.{Arc, FailureSet, IsArc, IsRouted, IsUsable, IsRoutedLink, tail_face, tail_end, tail_router, cost, cost_at}
use Rattle.net_model.specs.Tables.{TellsRouted}
use Rattle.net_model.specs.Validity.{IsValid, IsValidFace, IsValidLink}
use Rattle.net_model.proofs.Arcs.{one_item, IsArc-unique}
use Rattle.net_laws.proofs.StableMaps.{head_in}
use Rattle.net_laws.proofs.RightPaths.{tail_in}
use Rattle.route_trace.specs.declared.steps.Step.{Step}
use Rattle.route_trace.specs.declared.steps.End.{End}
use Rattle.route_trace.specs.Steps.{step_of, IsStepAt, HasNoArc, flag_of, IsUsableStep, AreSteps, IsFit, end_router, steps_at}

pub from_steps_at : (end : End) (steps : List Step) (w : ℕ) (s : Step) → Contains (steps_at end steps w) s → Contains steps s × ((end_router end s).0 ≡ w)
from_steps_at end steps w s at =
    let kept : Contains steps s × (((end_router end s).0 == w) ≡ true) = from_filter (λ x. (end_router end x).0 == w) steps s at in
    (kept.0, eqb-true (end_router end s).0 w kept.1)

pub in_steps_at : (end : End) (steps : List Step) (w : ℕ) (s : Step) → Contains steps s → (end_router end s).0 ≡ w → Contains (steps_at end steps w) s
in_steps_at end steps w s at is = Contains-filter (λ x. (end_router end x).0 == w) steps s at (eq-eqb (end_router end s).0 w is)

-- costs of a valid network
cost_at-le : (protocol : Protocol) (arc : Arc) → arc.tail.cost ≤ 65535 → cost_at protocol arc ≤ 65535
cost_at-le Ospf arc high = high
cost_at-le Bgp arc high = omega arith

module _ (net : Network) (valid : IsValid net) where
  cost-le : (arc : Arc) → IsArc net arc → cost net arc ≤ 65535
  cost-le arc is_arc =
      let face : IsValidFace net (tail_face arc).0 arc.tail = valid.faces (tail_face arc).0 arc.tail is_arc.tail in cost_at-le net.protocol arc face.cost_high

  pub steps_fit : (to : Prefix) (failed : FailureSet) (n : ℕ) (steps : List Step) → AreSteps net to failed n steps → All (IsFit (length net.routers)) steps
  steps_fit to failed n steps are = λ k d within.
      let u : IsUsableStep net to failed n (get_or steps k d) = are.sound (get_or steps k d) (Contains-get_or steps k d within) in
      let fit : IsFit (length net.routers) (step_of net u.arc) = record {
        tail = tail_in net valid u.arc u.usable.is_arc;
        head = head_in net valid u.arc u.usable.is_arc;
        cost = cost-le u.arc u.usable.is_arc;
      } in
      subst (IsFit (length net.routers)) (sym u.step_is) fit

  -- the two arcs of a link lead from different routers
  ends_differ : (a b : Arc) → IsArc net a → IsArc net b → a.link ≡ b.link → a.from_a ≡ true → b.from_a ≡ false → tail_router a ≡ tail_router b → ⊥
  ends_differ a b p q link from_a from_b same =
      let row : a.row ≡ b.row = one_item net.links b.link a.row b.row (subst (λ (l : ℕ). slice_get net.links l ≡ Some a.row) link p.link) q.link in
      let V : IsValidLink net b.row = valid.links b.link b.row q.link in
      let at_a : slice_get net.faces b.row.a.0 ≡ Some a.tail =
      subst (λ (r : LinkRow). slice_get net.faces r.a.0 ≡ Some a.tail) row (subst (λ (f : Bool). slice_get net.faces (tail_end a.row f).0 ≡ Some a.tail) from_a p.tail) in
      let at_b : slice_get net.faces b.row.b.0 ≡ Some b.tail = subst (λ (f : Bool). slice_get net.faces (tail_end b.row f).0 ≡ Some b.tail) from_b q.tail in
      let tail_a : a.tail ≡ V.a = one_item net.faces b.row.a.0 a.tail V.a at_a V.a_is in
      let tail_b : b.tail ≡ V.b = one_item net.faces b.row.b.0 b.tail V.b at_b V.b_is in
      V.routers (sym (ap (λ f. f.router.0) tail_a) ∙ same ∙ ap (λ f. f.router.0) tail_b)

-- the step is that of a usable arc of the link in this direction
record IsUsableAt (net : Network) (to : Prefix) (failed : FailureSet) (n : ℕ) (f : Bool) (step : Step) : Type 0 where
  pub arc : Arc
  pub usable : IsUsable net to failed arc
  pub link_is : arc.link ≡ n
  pub direction : arc.from_a ≡ f
  pub step_is : step ≡ step_of net arc

-- the list has the step of the usable arc of the link in this direction, if there is one
record IsStepOption (net : Network) (to : Prefix) (failed : FailureSet) (n : ℕ) (f : Bool) (steps : List Step) : Type 0 where
  pub sound : (step : Step) → Contains steps step → IsUsableAt net to failed n f step
  pub complete : (arc : Arc) → IsUsable net to failed arc → arc.link ≡ n → arc.from_a ≡ f → Contains steps (step_of net arc)

told : (net : Network) (to : Prefix) (n : ℕ) (flags : RoutedLink) → TellsRouted net n to flags → (f : Bool) → IsTrue (flag_of flags f) ↔ IsRoutedLink net n f to
told net to n flags tells true = tells.0
told net to n flags tells false = tells.1

only_item : (step other : Step) → Contains (step ∷ []) other → step ≡ other
only_item step other (zero, within, e) = e
only_item step other (suc k, within, e) = absurd (omega (arith, within))

option_steps : (net : Network) (to : Prefix) (failed : FailureSet) (n : ℕ) (flags : RoutedLink) (f : Bool) (o : Option Step) → TellsRouted net n to flags →
    IfSome o (λ step. (failed n ≡ false) × IsTrue (flag_of flags f) × IsStepAt net n f step) →
    IfNone o (failed n ≡ false → IsTrue (flag_of flags f) → HasNoArc net n f) → IsStepOption net to failed n f (option_to_list o)
option_steps net to failed n flags f None tells found none = record {
  sound = λ step at. absurd (Contains-none step at);
  complete = λ arc u link from.
      let routed : IsRoutedLink net n f to = record { arc = arc; link_is = link; direction = from; is_arc = u.is_arc; routed = u.routed } in
      absurd (none (subst (λ (l : ℕ). failed l ≡ false) link u.left) ((told net to n flags tells f).1 routed) arc u.is_arc link from);
}
option_steps net to failed n flags f (Some step) tells found none =
    let at : IsStepAt net n f step = found.2 in
    let routed : IsRoutedLink net n f to = (told net to n flags tells f).0 found.1 in
    let same : routed.arc ≡ at.arc = IsArc-unique net routed.arc at.arc routed.is_arc at.is_arc (routed.link_is ∙ sym at.link_is) (routed.direction ∙ sym at.direction) in
    record {
      sound = λ other in_. subst (IsUsableAt net to failed n f) (only_item step other in_) (record {
        arc = at.arc;
        usable = record {
          is_arc = at.is_arc;
          routed = subst (IsRouted net to) same routed.routed;
          left = subst (λ (l : ℕ). failed l ≡ false) (sym at.link_is) found.0;
        };
        link_is = at.link_is;
        direction = at.direction;
        step_is = at.step_is;
      });
      complete = λ arc u link from.
          let one : at.arc ≡ arc = IsArc-unique net at.arc arc at.is_arc u.is_arc (at.link_is ∙ sym link) (at.direction ∙ sym from) in
          (0, omega arith, at.step_is ∙ ap (step_of net) one);
    }

pairs_option : {X : Type 0} (R : X → X → Type 0) (xs : List X) (o : Option X) → AllPairs R xs →
    ((x y : X) → Contains xs x → Contains (option_to_list o) y → R x y) → AllPairs R (xs ++ option_to_list o)
pairs_option R xs None pairs each = subst (AllPairs R) (sym (append-nil xs)) pairs
pairs_option R xs (Some y) pairs each =
    all_pairs_push R xs y pairs (λ k d within. each (get_or xs k d) y (Contains-get_or xs k d within) (0, omega arith, refl))

abbrev Rises : Step → Step → Type 0
Rises s t = s.tail.0 ≡ t.tail.0 → s.link.0 < t.link.0

link_below : (n l m x y : ℕ) → x ≡ l → y ≡ m → l < n → m ≡ n → x < y
link_below n l m x y is_l is_m below at = omega (arith, is_l, is_m, below, at)

-- the step of a usable arc stands among those before, or is one of the new ones
place_of : (net : Network) (to : Prefix) (failed : FailureSet) (n : ℕ) (steps as_ bs : List Step) → AreSteps net to failed n steps →
    IsStepOption net to failed n true as_ → IsStepOption net to failed n false bs →
    (arc : Arc) → IsUsable net to failed arc → arc.link < n + 1 → Contains ((steps ++ as_) ++ bs) (step_of net arc)
place_of net to failed n steps as_ bs are of_a of_b arc u before =
    elim (cases_lt arc.link n) [
      | inl less ↦
          Contains-append_left (steps ++ as_) bs (step_of net arc) (Contains-append_left steps as_ (step_of net arc) (are.complete arc u less))
      | inr at ↦ let link : arc.link ≡ n = omega arith in
          elim (cases_Bool arc.from_a) [
            | inl t ↦ Contains-append_left (steps ++ as_) bs (step_of net arc) (Contains-append_right steps as_ (step_of net arc) (of_a.complete arc u link t))
            | inr f ↦ Contains-append_right (steps ++ as_) bs (step_of net arc) (of_b.complete arc u link f)
          ]
    ]

-- the steps with those of one link more
pub steps_more : (net : Network) → IsValid net → (to : Prefix) (failed : FailureSet) (n : ℕ) (flags : RoutedLink) (steps : List Step) (a b : Option Step) →
    TellsRouted net n to flags →
    IfSome a (λ step. (failed n ≡ false) × IsTrue (flag_of flags true) × IsStepAt net n true step) →
    IfNone a (failed n ≡ false → IsTrue (flag_of flags true) → HasNoArc net n true) →
    IfSome b (λ step. (failed n ≡ false) × IsTrue (flag_of flags false) × IsStepAt net n false step) →
    IfNone b (failed n ≡ false → IsTrue (flag_of flags false) → HasNoArc net n false) →
    AreSteps net to failed n steps → AreSteps net to failed (n + 1) ((steps ++ option_to_list a) ++ option_to_list b)
steps_more net valid to failed n flags steps a b tells found_a none_a found_b none_b are =
    let of_a : IsStepOption net to failed n true (option_to_list a) = option_steps net to failed n flags true a tells found_a none_a in
    let of_b : IsStepOption net to failed n false (option_to_list b) = option_steps net to failed n flags false b tells found_b none_b in
    record {
      sound = λ step at. ⊎_elim
          (λ (front : Contains (steps ++ option_to_list a) step). ⊎_elim
          (λ (before : Contains steps step). let u : IsUsableStep net to failed n step = are.sound step before in
          record { arc = u.arc; usable = u.usable; before = omega (arith, u.before); step_is = u.step_is })
          (λ (in_a : Contains (option_to_list a) step). let u : IsUsableAt net to failed n true step = of_a.sound step in_a in
          record { arc = u.arc; usable = u.usable; before = omega (arith, u.link_is); step_is = u.step_is })
          (Contains-append_cases steps (option_to_list a) step front))
          (λ (in_b : Contains (option_to_list b) step). let u : IsUsableAt net to failed n false step = of_b.sound step in_b in
          record { arc = u.arc; usable = u.usable; before = omega (arith, u.link_is); step_is = u.step_is })
          (Contains-append_cases (steps ++ option_to_list a) (option_to_list b) step at);
      complete = λ arc u before. place_of net to failed n steps (option_to_list a) (option_to_list b) are of_a of_b arc u before;
      rising = pairs_option Rises (steps ++ option_to_list a) b
          (pairs_option Rises steps a are.rising (λ x y in_x in_y same.
          let p : IsUsableStep net to failed n x = are.sound x in_x in
          let q : IsUsableAt net to failed n true y = of_a.sound y in_y in
          link_below n p.arc.link q.arc.link x.link.0 y.link.0 (ap (λ s. s.link.0) p.step_is) (ap (λ s. s.link.0) q.step_is) p.before q.link_is))
          (λ x y in_x in_y same.
          let q : IsUsableAt net to failed n false y = of_b.sound y in_y in
          ⊎_elim
          (λ (before : Contains steps x).
          let p : IsUsableStep net to failed n x = are.sound x before in
          link_below n p.arc.link q.arc.link x.link.0 y.link.0 (ap (λ s. s.link.0) p.step_is) (ap (λ s. s.link.0) q.step_is) p.before q.link_is)
          (λ (in_a : Contains (option_to_list a) x).
          let p : IsUsableAt net to failed n true x = of_a.sound x in_a in
          absurd (ends_differ net valid p.arc q.arc p.usable.is_arc q.usable.is_arc (p.link_is ∙ sym q.link_is) p.direction q.direction
          (sym (ap (λ s. s.tail.0) p.step_is) ∙ same ∙ ap (λ s. s.tail.0) q.step_is)))
          (Contains-append_cases steps (option_to_list a) x in_x));
    }

-- before the first link there is no step
pub steps_none : (net : Network) (to : Prefix) (failed : FailureSet) → AreSteps net to failed 0 []
steps_none net to failed = record {
  sound = λ step at. absurd (Contains-none step at);
  complete = λ arc u before. absurd (omega (arith, before));
  rising = λ i j d l within. absurd (omega (arith, within));
}
