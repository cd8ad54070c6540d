-- Links that are followed from a router on: in a valid network they name their arcs.
use Rattle.std.proofs.Common.{◌≡◌, ℕ, suc, ◌+◌, ◌<◌, ◌≤◌, Bool, true, false, List, [], ◌∷◌, length, get_or, drop, refl, sym, ◌∙◌, ap, subst, arith}
use Rattle.std.specs.Prelude.{IsTrue, IsFalse, IfSome, IfNone, ◌↔◌, Option, Some, None, slice_get}
use Rattle.std.specs.List.{AllByRecursion}
use Rattle.std.proofs.lemmas.Bool.{false≢true}
use Rattle.std.proofs.lemmas.List.{drop_more, drop_all}
use Rattle.arc_base.specs.declared.place.Link.{Link}
use Rattle.arc_base.specs.declared.place.Router.{Router}
use Rattle.arc_base.specs.declared.prefix.Prefix.{Prefix}
use Rattle.net_model.specs.declared.rows.FaceRow.{FaceRow}
use Rattle.net_model.specs.declared.rows.LinkRow.{LinkRow}
use Rattle.net_model.specs.declared.rows.Network.{Network}
use Rattle.net_model.specs.Routing.{Arc, IsArc, tail_router, head_router, tail_end}
use Rattle.net_model.specs.Validity.{IsValid, IsValidLink}
use Rattle.net_model.specs.Witnesses.{Path, links_of}
use Rattle.net_model.proofs.Arcs.{one_item, IsArc-unique}
use Rattle.witness_check.specs.declared.arcs.ArcRows.{ArcRows}
use Rattle.witness_check.specs.Cases.{arc_of}
use Rattle.witness_check.specs.Trails.{IsStep, IsTrail, AnyArc}
use Rattle.witness_check.proofs.RoutedArcs.{SomeRows}

abbrev pub link_of : Arc → Link
link_of arc = record { 0 = arc.link }

pub same_head : {X : Type 0} (x y : X) (xs ys : List X) → x ∷ xs ≡ y ∷ ys → x ≡ y
same_head {X} x y xs ys e = ap (λ (zs : List X). get_or zs 0 x) e

pub same_rest : {X : Type 0} (x y : X) (xs ys : List X) → x ∷ xs ≡ y ∷ ys → xs ≡ ys
same_rest {X} x y xs ys e = ap (λ (zs : List X). drop 1 zs) e

pub no_links : (link : Link) (links : List Link) → [] ≡ link ∷ links → ⊥
no_links link links e = let n : 0 ≡ suc (length links) = ap (λ (zs : List Link). length zs) e in absurd (omega (arith, n))

pub same_link : (arc : Arc) (link : Link) → arc.link ≡ link.0 → link_of arc ≡ link
same_link arc link e = ap (λ (n : ℕ). let l : Link = record { 0 = n } in l) e

each_map : (P Q : Arc → Type 0) → ((arc : Arc) → P arc → Q arc) → (arcs : List Arc) → AllByRecursion P arcs → AllByRecursion Q arcs
each_map P Q all [] each = tt
each_map P Q all (arc ∷ arcs) each = (all arc each.0, each_map P Q all arcs each.1)

module _ (net : Network) (to : Prefix) where
  -- the two arcs of a link do not begin at one router
  turned : IsValid net → (a b : Arc) → IsArc net a → IsArc net b → a.link ≡ b.link → a.from_a ≡ true → b.from_a ≡ false → tail_router a ≡ tail_router b → ⊥
  turned valid a b is_a is_b link forth back same =
      let row : a.row ≡ b.row = one_item net.links b.link a.row b.row (subst (λ (l : ℕ). slice_get net.links l ≡ Some a.row) link is_a.link) is_b.link in
      let V : IsValidLink net b.row = valid.links b.link b.row is_b.link in
      let at_a : slice_get net.faces b.row.a.0 ≡ Some a.tail =
      subst (λ (r : LinkRow). slice_get net.faces r.a.0 ≡ Some a.tail) row (subst (λ (f : Bool). slice_get net.faces (tail_end a.row f).0 ≡ Some a.tail) forth is_a.tail) in
      let at_b : slice_get net.faces b.row.b.0 ≡ Some b.tail = subst (λ (f : Bool). slice_get net.faces (tail_end b.row f).0 ≡ Some b.tail) back is_b.tail in
      let fa : a.tail ≡ V.a = one_item net.faces b.row.a.0 a.tail V.a at_a V.a_is in
      let fb : b.tail ≡ V.b = one_item net.faces b.row.b.0 b.tail V.b at_b V.b_is in
      V.routers (sym (ap (λ (f : FaceRow). f.router.0) fa) ∙ same ∙ ap (λ (f : FaceRow). f.router.0) fb)

  same_way : IsValid net → (a b : Arc) → IsArc net a → IsArc net b → a.link ≡ b.link → tail_router a ≡ tail_router b → (f g : Bool) → a.from_a ≡ f → b.from_a ≡ g → a.from_a ≡ b.from_a
  same_way valid a b is_a is_b link same true true e f = e ∙ sym f
  same_way valid a b is_a is_b link same true false e f = absurd (turned valid a b is_a is_b link e f same)
  same_way valid a b is_a is_b link same false true e f = absurd (turned valid b a is_b is_a (sym link) f e (sym same))
  same_way valid a b is_a is_b link same false false e f = e ∙ sym f

  -- one arc at most leads on from a router over a link
  pub one_step : IsValid net → (u link : ℕ) (a b : Arc) → IsStep net to u link a → IsStep net to u link b → a ≡ b
  one_step valid u link a b at_a at_b =
      let over : a.link ≡ b.link = at_a.over ∙ sym at_b.over in
      IsArc-unique net a b at_a.routed.0 at_b.routed.0 over
      (same_way valid a b at_a.routed.0 at_b.routed.0 over (at_a.tail ∙ sym at_b.tail) a.from_a b.from_a refl refl)

  module _ (P : Arc → Type 0) where
    -- the first arc of a trail, and what is left of it
    pub record Begins (u : ℕ) (link : Link) (links : List Link) (v : ℕ) : Type 0 where
      pub arc : Arc
      pub step : IsStep net to u link.0 arc
      pub holds : P arc
      pub rest : IsTrail net to P (head_router arc) links v

    begins_with : (u : ℕ) (link : Link) (links : List Link) (v : ℕ) (arcs : List Arc) → links_of arcs ≡ link ∷ links → Path net to u arcs v → AllByRecursion P arcs → Begins u link links v
    begins_with u link links v [] over leads each = absurd (no_links link links over)
    begins_with u link links v (a ∷ arcs) over leads each = record {
      arc = a;
      step = record { routed = (leads.0, leads.1); over = ap (λ (l : Link). l.0) (same_head (link_of a) link (links_of arcs) links over); tail = leads.2 };
      holds = each.0;
      rest = record { arcs = arcs; over = same_rest (link_of a) link (links_of arcs) links over; leads = leads.3; each = each.1 };
    }

    pub begins : (u : ℕ) (link : Link) (links : List Link) (v : ℕ) → IsTrail net to P u (link ∷ links) v → Begins u link links v
    begins u link links v trail = begins_with u link links v trail.arcs trail.over trail.leads trail.each

    pub trail_none : (u : ℕ) (link : Link) (links : List Link) (v : ℕ) → ((arc : Arc) → ¬ IsStep net to u link.0 arc) → ¬ IsTrail net to P u (link ∷ links) v
    trail_none u link links v none trail = let first : Begins u link links v = begins u link links v trail in none first.arc first.step

    pub trail_fails : IsValid net → (u : ℕ) (link : Link) (links : List Link) (v : ℕ) (arc : Arc) → IsStep net to u link.0 arc → ¬ P arc → ¬ IsTrail net to P u (link ∷ links) v
    trail_fails valid u link links v arc step off trail =
        let first : Begins u link links v = begins u link links v trail in
        off (subst P (one_step valid u link.0 first.arc arc first.step step) first.holds)

    trail_rest : IsValid net → (u : ℕ) (link : Link) (links : List Link) (v : ℕ) (arc : Arc) → IsStep net to u link.0 arc →
        IsTrail net to P u (link ∷ links) v → IsTrail net to P (head_router arc) links v
    trail_rest valid u link links v arc step trail =
        let first : Begins u link links v = begins u link links v trail in
        subst (λ (a : Arc). IsTrail net to P (head_router a) links v) (one_step valid u link.0 first.arc arc first.step step) first.rest

    trail_with : (u : ℕ) (link : Link) (links : List Link) (v : ℕ) (arc : Arc) → IsStep net to u link.0 arc → P arc →
        IsTrail net to P (head_router arc) links v → IsTrail net to P u (link ∷ links) v
    trail_with u link links v arc step holds rest = record {
      arcs = arc ∷ rest.arcs;
      over = ap (λ (l : Link). l ∷ links_of rest.arcs) (same_link arc link step.over) ∙ ap (λ (ls : List Link). link ∷ ls) rest.over;
      leads = (step.routed.0, step.routed.1, step.tail, rest.leads);
      each = (holds, rest.each);
    }

    trail_ends : (u : ℕ) → IsTrail net to P u [] u
    trail_ends u = record { arcs = []; over = refl; leads = refl; each = tt }

    -- the same at a place of the links
    pub none_at : (u : ℕ) (links : List Link) (i : ℕ) (d : Link) (v : ℕ) → i < length links → ((arc : Arc) → ¬ IsStep net to u (get_or links i d).0 arc) →
        ¬ IsTrail net to P u (drop i links) v
    none_at u links i d v within none trail =
        trail_none u (get_or links i d) (drop (i + 1) links) v none (subst (λ (ls : List Link). IsTrail net to P u ls v) (drop_more links i d within) trail)

    pub fails_at : IsValid net → (u : ℕ) (links : List Link) (i : ℕ) (d : Link) (v : ℕ) (arc : Arc) → i < length links → IsStep net to u (get_or links i d).0 arc → ¬ P arc →
        ¬ IsTrail net to P u (drop i links) v
    fails_at valid u links i d v arc within step off trail =
        trail_fails valid u (get_or links i d) (drop (i + 1) links) v arc step off (subst (λ (ls : List Link). IsTrail net to P u ls v) (drop_more links i d within) trail)

    pub rest_at : IsValid net → (u : ℕ) (links : List Link) (i : ℕ) (d : Link) (v : ℕ) (arc : Arc) → i < length links → IsStep net to u (get_or links i d).0 arc →
        IsTrail net to P u (drop i links) v → IsTrail net to P (head_router arc) (drop (i + 1) links) v
    rest_at valid u links i d v arc within step trail =
        trail_rest valid u (get_or links i d) (drop (i + 1) links) v arc step (subst (λ (ls : List Link). IsTrail net to P u ls v) (drop_more links i d within) trail)

    pub with_at : (u : ℕ) (links : List Link) (i : ℕ) (d : Link) (v : ℕ) (arc : Arc) → i < length links → IsStep net to u (get_or links i d).0 arc → P arc →
        IsTrail net to P (head_router arc) (drop (i + 1) links) v → IsTrail net to P u (drop i links) v
    with_at u links i d v arc within step holds rest =
        subst (λ (ls : List Link). IsTrail net to P u ls v) (sym (drop_more links i d within)) (trail_with u (get_or links i d) (drop (i + 1) links) v arc step holds rest)

    pub end_at : (u : ℕ) (links : List Link) (i : ℕ) → length links ≤ i → IsTrail net to P u (drop i links) u
    end_at u links i past = subst (λ (ls : List Link). IsTrail net to P u ls u) (sym (drop_all i links past)) (trail_ends u)

  -- links name their arcs
  pub one_way : IsValid net → (u v w : ℕ) (links : List Link) (xs ys : List Arc) → links_of xs ≡ links → links_of ys ≡ links → Path net to u xs v → Path net to u ys w → xs ≡ ys
  one_way valid u v w links [] [] over_a over_b lead_a lead_b = refl
  one_way valid u v w links [] (b ∷ ys) over_a over_b lead_a lead_b = absurd (no_links (link_of b) (links_of ys) (over_a ∙ sym over_b))
  one_way valid u v w links (a ∷ xs) [] over_a over_b lead_a lead_b = absurd (no_links (link_of a) (links_of xs) (over_b ∙ sym over_a))
  one_way valid u v w links (a ∷ xs) (b ∷ ys) over_a over_b lead_a lead_b =
      let both : link_of a ∷ links_of xs ≡ link_of b ∷ links_of ys = over_a ∙ sym over_b in
      let step_a : IsStep net to u a.link a = record { routed = (lead_a.0, lead_a.1); over = refl; tail = lead_a.2 } in
      let step_b : IsStep net to u a.link b =
      record { routed = (lead_b.0, lead_b.1); over = ap (λ (l : Link). l.0) (sym (same_head (link_of a) (link_of b) (links_of xs) (links_of ys) both)); tail = lead_b.2 } in
      let first : a ≡ b = one_step valid u a.link a b step_a step_b in
      let rest : xs ≡ ys = one_way valid (head_router b) v w (links_of ys) xs ys (same_rest (link_of a) (link_of b) (links_of xs) (links_of ys) both) refl
      (subst (λ (x : Arc). Path net to (head_router x) xs v) first lead_a.3) lead_b.3 in
      ap (λ (x : Arc). x ∷ xs) first ∙ ap (λ (xs : List Arc). b ∷ xs) rest

  path_end : (arcs : List Arc) (u v w : ℕ) → Path net to u arcs v → Path net to u arcs w → v ≡ w
  path_end [] u v w a b = sym a ∙ b
  path_end (x ∷ arcs) u v w a b = path_end arcs (head_router x) v w a.3 b.3

  -- and they lead to one router
  pub one_end : IsValid net → (P Q : Arc → Type 0) (u : ℕ) (links : List Link) (v w : ℕ) → IsTrail net to P u links v → IsTrail net to Q u links w → v ≡ w
  one_end valid P Q u links v w a b =
      path_end b.arcs u v w (subst (λ (xs : List Arc). Path net to u xs v) (one_way valid u v w links a.arcs b.arcs a.over b.over a.leads b.leads) a.leads) b.leads

  -- what holds of an arc with one property holds of each of a trail
  pub trail_map : (P Q : Arc → Type 0) → ((arc : Arc) → P arc → Q arc) → (u : ℕ) (links : List Link) (v : ℕ) → IsTrail net to P u links v → IsTrail net to Q u links v
  trail_map P Q all u links v trail = record { arcs = trail.arcs; over = trail.over; leads = trail.leads; each = each_map P Q all trail.arcs trail.each }

  -- the links are a trail of arcs with the property, where the test of the arcs tells whether they have it
  module _ (Q : Arc → Type 0) (Yes No : ArcRows → Type 0) (u : ℕ) (links : List Link) where
    pub told_yes : ((rows : ArcRows) → Yes rows → Q (arc_of rows)) → (v : ℕ) → IsTrail net to (SomeRows Yes) u links v → IsTrail net to Q u links v
    told_yes on v trail = trail_map (SomeRows Yes) Q (λ arc h. subst Q h.1 (on h.0 h.2)) u links v trail

    pub told_no : ((rows : ArcRows) → No rows → ¬ Q (arc_of rows)) → (v : ℕ) → ¬ IsTrail net to (λ arc. ¬ SomeRows No arc) u links v → ¬ IsTrail net to Q u links v
    told_no off v none trail =
        none (trail_map Q (λ arc. ¬ SomeRows No arc) (λ arc q h. off h.0 h.2 (subst Q (sym h.1) q)) u links v trail)

    pub told : (v : ℕ) (b : Bool) → (IsTrue b → IsTrail net to (SomeRows Yes) u links v) → (IsFalse b → ¬ IsTrail net to (λ arc. ¬ SomeRows No arc) u links v) →
        ((rows : ArcRows) → Yes rows → Q (arc_of rows)) → ((rows : ArcRows) → No rows → ¬ Q (arc_of rows)) → IsTrue b ↔ IsTrail net to Q u links v
    told v true leads none on off = (λ _. told_yes on v (leads refl), λ _. refl)
    told v false leads none on off = (λ t. absurd (false≢true t), λ trail. absurd (told_no off v (none refl) trail))

    pub told_end : (o : Option Router) → IfSome o (λ r. IsTrail net to (SomeRows Yes) u links r.0) → ((rows : ArcRows) → Yes rows → Q (arc_of rows)) → IfSome o (λ r. IsTrail net to Q u links r.0)
    told_end None leads on = tt
    told_end (Some r) leads on = told_yes on r.0 leads

    pub told_no_end : (o : Option Router) → IfNone o ((v : ℕ) → ¬ IsTrail net to (λ arc. ¬ SomeRows No arc) u links v) → ((rows : ArcRows) → No rows → ¬ Q (arc_of rows)) →
        IfNone o ((v : ℕ) → ¬ IsTrail net to Q u links v)
    told_no_end None none off = λ v. told_no off v (none v)
    told_no_end (Some r) none off = tt

pub any : (arcs : List Arc) → AllByRecursion AnyArc arcs
any [] = tt
any (a ∷ arcs) = (tt, any arcs)
