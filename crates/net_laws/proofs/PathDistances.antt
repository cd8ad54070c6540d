-- With all links failed but those of a path that repeats no router, the stable map runs along the path.
use Rattle.std.proofs.Common.{◌≡◌, ℕ, ◌+◌, ◌≤◌, ◌≢◌, ◌⊎◌, inl, inr, ⊎_elim, Bool, true, false, not, Option, Some, None, List, [], ◌∷◌, ap, refl, sym, ◌∙◌, subst, arith}
use Rattle.std.specs.Prelude.{All, AllPairs, MatchOption, IsFalse, if◌then◌else◌, ◌==◌, map, slice_get, unwrap_or}
use Rattle.std.specs.List.{AllByRecursion}
use Rattle.std.proofs.lemmas.Bool.{eq-eqb, ne_eqb}
use Rattle.std.proofs.lemmas.Bool.Decides.{eqb_tells}
use Rattle.std.proofs.lemmas.Option.{none-some}
use Rattle.std.proofs.lemmas.List.Elements.{All-head, All-tail}
use Rattle.arc_base.specs.declared.prefix.Prefix.{Prefix}
use Rattle.arc_base.specs.declared.place.Face.{Face}
use Rattle.arc_base.proofs.Items.{AllPairs-rest}
use Rattle.net_model.specs.declared.lists.Packet.{Packet}
use Rattle.net_model.specs.declared.rows.FaceRow.{FaceRow}
use Rattle.net_model.specs.declared.rows.LinkRow.{LinkRow}
use Rattle.net_model.specs.declared.rows.Network.{Network}
use Rattle.net_model.specs.Routing.{Arc, IsArc, IsRouted, Offers, IsStable, cost, tail_router, head_router, tail_face, head_face, tail_end, head_end}
use Rattle.net_model.specs.Forwarding.{Attains, ArcPermits, Walk}
use Rattle.net_model.specs.Witnesses.{Path, routers_of}
use Rattle.net_model.proofs.Arcs.{one_item, IsArc-unique}
use Rattle.net_laws.proofs.Cover.{AllPairs-first}

same_or_other : (f g : Bool) → (f ≡ g) ⊎ (not f ≡ g)
same_or_other true true = inl refl
same_or_other true false = inr refl
same_or_other false true = inr refl
same_or_other false false = inl refl

pub other_tail : (row : LinkRow) (f : Bool) → tail_end row (not f) ≡ head_end row f
other_tail row true = refl
other_tail row false = refl

pub other_head : (row : LinkRow) (f : Bool) → head_end row (not f) ≡ tail_end row f
other_head row true = refl
other_head row false = refl

-- of two arcs of one link the one is the other or its reverse
pub same_or_reverse : (net : Network) (a b : Arc) → IsArc net a → IsArc net b → a.link ≡ b.link →
    (a ≡ b) ⊎ ((tail_router b ≡ head_router a) × (head_router b ≡ tail_router a))
same_or_reverse net a b p q link =
    elim (same_or_other a.from_a b.from_a) [
      | inl same ↦ inl (IsArc-unique net a b p q link same)
      | inr other ↦
          let row : a.row ≡ b.row = one_item net.links b.link a.row b.row (subst (λ (l : ℕ). slice_get net.links l ≡ Some a.row) link p.link) q.link in
          let tails : tail_face b ≡ head_face a =
          sym (ap (λ (f : Bool). tail_end b.row f) other) ∙ sym (ap (λ (r : LinkRow). tail_end r (not a.from_a)) row) ∙ other_tail a.row a.from_a in
          let heads : head_face b ≡ tail_face a =
          sym (ap (λ (f : Bool). head_end b.row f) other) ∙ sym (ap (λ (r : LinkRow). head_end r (not a.from_a)) row) ∙ other_head a.row a.from_a in
          let tail : b.tail ≡ a.head = one_item net.faces (head_face a).0 b.tail a.head (subst (λ (f : Face). slice_get net.faces f.0 ≡ Some b.tail) tails q.tail) p.head in
          let head : b.head ≡ a.tail = one_item net.faces (tail_face a).0 b.head a.tail (subst (λ (f : Face). slice_get net.faces f.0 ≡ Some b.head) heads q.head) p.tail in
          inr (ap (λ (r : FaceRow). r.router.0) tail, ap (λ (r : FaceRow). r.router.0) head)
    ]

-- the link is one of the path's
abbrev pub OnPath : List Arc → ℕ → Type 0
OnPath [] link = ⊥
OnPath (arc ∷ arcs) link = (arc.link ≡ link) ⊎ OnPath arcs link

-- the router is at the head of an arc
abbrev pub IsHead : List Arc → ℕ → Type 0
IsHead [] w = ⊥
IsHead (arc ∷ arcs) w = (head_router arc ≡ w) ⊎ IsHead arcs w

-- the router is on the path
abbrev pub OnRoute : ℕ → List Arc → ℕ → Type 0
OnRoute u arcs w = (u ≡ w) ⊎ IsHead arcs w

-- no router is met again
abbrev pub Once : ℕ → List Arc → Type 0
Once u [] = Unit {0}
Once u (arc ∷ arcs) = ((w : ℕ) → IsHead (arc ∷ arcs) w → u ≢ w) × Once (head_router arc) arcs

All-IsHead : (P : ℕ → Type 0) (arcs : List Arc) → All P (map head_router arcs) → (w : ℕ) → IsHead arcs w → P w
All-IsHead P [] all w at = absurd at
All-IsHead P (arc ∷ arcs) all w (inl e) = subst P e (All-head P (head_router arc) (map head_router arcs) all)
All-IsHead P (arc ∷ arcs) all w (inr at) = All-IsHead P arcs (All-tail P (head_router arc) (map head_router arcs) all) w at

pub Once-from : (u : ℕ) (arcs : List Arc) → AllPairs (λ v w. v ≢ w) (routers_of u arcs) → Once u arcs
Once-from u [] apart = tt
Once-from u (arc ∷ arcs) apart =
    let D : ℕ → ℕ → Type 0 = λ v w. v ≢ w in (
      λ w at. All-IsHead (λ v. u ≢ v) (arc ∷ arcs) (AllPairs-first D u (map head_router (arc ∷ arcs)) apart) w at,
      Once-from (head_router arc) arcs (AllPairs-rest D u (map head_router (arc ∷ arcs)) apart),
    )

on_route_or_off : (arcs : List Arc) (u w : ℕ) → OnRoute u arcs w ⊎ (OnRoute u arcs w → ⊥)
on_route_or_off [] u w =
    elim (eqb_tells u w) [
      | inl at ↦ inl (inl at.1)
      | inr off ↦ inr (λ on. ⊎_elim off.1 (λ h. absurd h) on)
    ]
on_route_or_off (arc ∷ arcs) u w =
    elim (eqb_tells u w) [
      | inl at ↦ inl (inl at.1)
      | inr off ↦ elim (on_route_or_off arcs (head_router arc) w) [
        | inl on ↦ inl (inr on)
        | inr never ↦ inr (λ on. ⊎_elim off.1 never on)
      ]
    ]

module _ (net : Network) (to : Prefix) (t : ℕ) where
  -- what the way along the arcs costs
  pub length_of : List Arc → ℕ
  length_of [] = 0
  length_of (arc ∷ arcs) = cost net arc + length_of arcs

  -- the distances along the path
  pub along : List Arc → ℕ → Option ℕ
  along [] w = if w == t then Some 0 else None
  along (arc ∷ arcs) w = if w == tail_router arc then Some (cost net arc + length_of arcs) else along arcs w

  along-tail : (arc : Arc) (arcs : List Arc) (w : ℕ) → w ≡ tail_router arc → along (arc ∷ arcs) w ≡ Some (cost net arc + length_of arcs)
  unfolding along
  along-tail arc arcs w e = rw (eq-eqb w (tail_router arc) e) refl

  along-other : (arc : Arc) (arcs : List Arc) (w : ℕ) → (w ≡ tail_router arc → ⊥) → along (arc ∷ arcs) w ≡ along arcs w
  unfolding along
  along-other arc arcs w e = rw (ne_eqb w (tail_router arc) e) refl

  along-start : (arcs : List Arc) (u : ℕ) → Path net to u arcs t → along arcs u ≡ Some (length_of arcs)
  unfolding along length_of
  along-start [] u path = rw (eq-eqb u t path) refl
  along-start (arc ∷ arcs) u path = rw (eq-eqb u (tail_router arc) (sym path.2)) refl

  along-off : (arcs : List Arc) (u w : ℕ) → Path net to u arcs t → (OnRoute u arcs w → ⊥) → along arcs w ≡ None
  unfolding along
  along-off [] u w path off = rw (ne_eqb w t (λ e. off (inl (path ∙ sym e)))) refl
  along-off (arc ∷ arcs) u w path off =
      along-other arc arcs w (λ e. off (inl (sym path.2 ∙ sym e))) ∙ along-off arcs (head_router arc) w path.3 (λ on. off (inr on))

  end_on : (arcs : List Arc) (u : ℕ) → Path net to u arcs t → OnRoute u arcs t
  end_on [] u path = inl path
  end_on (arc ∷ arcs) u path = inr (end_on arcs (head_router arc) path.3)

  along-end : (arcs : List Arc) (u : ℕ) → Path net to u arcs t → Once u arcs → along arcs t ≡ Some 0
  unfolding along
  along-end [] u path once = rw (eq-eqb t t refl) refl
  along-end (arc ∷ arcs) u path once =
      along-other arc arcs t (λ e. once.0 t (end_on arcs (head_router arc) path.3) (sym path.2 ∙ sym e)) ∙ along-end arcs (head_router arc) path.3 once.1

  -- an arc over a link of the path begins and ends on it
  ends_on : (arcs : List Arc) (u : ℕ) → Path net to u arcs t → (b : Arc) → IsArc net b → OnPath arcs b.link → OnRoute u arcs (tail_router b) × OnRoute u arcs (head_router b)
  ends_on [] u path b is_arc on = absurd on
  ends_on (arc ∷ arcs) u path b is_arc (inl link) =
      elim (same_or_reverse net arc b path.0 is_arc link) [
        | inl same ↦ (inl (sym path.2 ∙ ap tail_router same), inr (inl (ap head_router same)))
        | inr reverse ↦ (inr (inl (sym reverse.0)), inl (sym path.2 ∙ sym reverse.1))
      ]
  ends_on (arc ∷ arcs) u path b is_arc (inr on) =
      let rest : OnRoute (head_router arc) arcs (tail_router b) × OnRoute (head_router arc) arcs (head_router b) =
      ends_on arcs (head_router arc) path.3 b is_arc on in
      (inr rest.0, inr rest.1)

  -- past the first arc the map is that of the rest
  along-rest : (arc : Arc) (arcs : List Arc) (u w : ℕ) → Path net to u (arc ∷ arcs) t → Once u (arc ∷ arcs) → OnRoute (head_router arc) arcs w → along (arc ∷ arcs) w ≡ along arcs w
  along-rest arc arcs u w path once on = along-other arc arcs w (λ e. once.0 w on (sym path.2 ∙ sym e))

  -- no arc over a link of the path gives less than the map
  no_less : (arcs : List Arc) (u : ℕ) → Path net to u arcs t → Once u arcs → (b : Arc) → IsArc net b → OnPath arcs b.link →
      (n m : ℕ) → along arcs (tail_router b) ≡ Some n → along arcs (head_router b) ≡ Some m → n ≤ cost net b + m
  no_less [] u path once b is_arc on n m at_tail at_head = absurd on
  no_less (arc ∷ arcs) u path once b is_arc (inl link) n m at_tail at_head =
      let start : along (arc ∷ arcs) (head_router arc) ≡ Some (length_of arcs) =
      along-rest arc arcs u (head_router arc) path once (inl refl) ∙ along-start arcs (head_router arc) path.3 in
      let here : along (arc ∷ arcs) (tail_router arc) ≡ Some (cost net arc + length_of arcs) = along-tail arc arcs (tail_router arc) refl in
      elim (same_or_reverse net arc b path.0 is_arc link) [
        | inl same ↦
            let n_is : n ≡ cost net arc + length_of arcs = ap (λ (o : Option ℕ). unwrap_or o n) (sym at_tail ∙ ap (λ (x : Arc). along (arc ∷ arcs) (tail_router x)) (sym same) ∙ here) in
            let m_is : m ≡ length_of arcs = ap (λ (o : Option ℕ). unwrap_or o m) (sym at_head ∙ ap (λ (x : Arc). along (arc ∷ arcs) (head_router x)) (sym same) ∙ start) in
            let c_is : cost net arc ≡ cost net b = ap (cost net) same in
            omega (arith, n_is, m_is, c_is)
        | inr reverse ↦
            let n_is : n ≡ length_of arcs = ap (λ (o : Option ℕ). unwrap_or o n) (sym at_tail ∙ ap (along (arc ∷ arcs)) reverse.0 ∙ start) in
            let m_is : m ≡ cost net arc + length_of arcs = ap (λ (o : Option ℕ). unwrap_or o m) (sym at_head ∙ ap (along (arc ∷ arcs)) reverse.1 ∙ here) in
            omega (arith, n_is, m_is)
      ]
  no_less (arc ∷ arcs) u path once b is_arc (inr on) n m at_tail at_head =
      let both : OnRoute (head_router arc) arcs (tail_router b) × OnRoute (head_router arc) arcs (head_router b) =
      ends_on arcs (head_router arc) path.3 b is_arc on in
      no_less arcs (head_router arc) path.3 once.1 b is_arc on n m
      (sym (along-rest arc arcs u (tail_router b) path once both.0) ∙ at_tail)
      (sym (along-rest arc arcs u (head_router b) path once both.1) ∙ at_head)

  -- from each router of the path but the last, the path's own arc gives the map's distance
  pub record Onward (arcs : List Arc) (w : ℕ) : Type 0 where
    pub arc : Arc
    pub is_arc : IsArc net arc
    pub routed : IsRouted net to arc
    pub on : OnPath arcs arc.link
    pub tail : tail_router arc ≡ w
    pub rest : ℕ
    pub head : along arcs (head_router arc) ≡ Some rest
    pub here : along arcs w ≡ Some (cost net arc + rest)

  onward : (arcs : List Arc) (u w : ℕ) → Path net to u arcs t → Once u arcs → OnRoute u arcs w → w ≢ t → Onward arcs w
  onward [] u w path once (inl e) apart = absurd (apart (sym e ∙ path))
  onward [] u w path once (inr on) apart = absurd on
  onward (arc ∷ arcs) u w path once (inl e) apart =
      record {
        arc = arc;
        is_arc = path.0;
        routed = path.1;
        on = inl refl;
        tail = path.2 ∙ e;
        rest = length_of arcs;
        head = along-rest arc arcs u (head_router arc) path once (inl refl) ∙ along-start arcs (head_router arc) path.3;
        here = along-tail arc arcs w (sym e ∙ sym path.2);
      }
  onward (arc ∷ arcs) u w path once (inr on) apart =
      let next : Onward arcs w = onward arcs (head_router arc) w path.3 once.1 on apart in
      let both : OnRoute (head_router arc) arcs (tail_router next.arc) × OnRoute (head_router arc) arcs (head_router next.arc) =
      ends_on arcs (head_router arc) path.3 next.arc next.is_arc next.on in
      record {
        arc = next.arc;
        is_arc = next.is_arc;
        routed = next.routed;
        on = inr next.on;
        tail = next.tail;
        rest = next.rest;
        head = along-rest arc arcs u (head_router next.arc) path once both.1 ∙ next.head;
        here = along-rest arc arcs u w path once on ∙ next.here;
      }

  module _ (failed : ℕ → Bool) (arcs : List Arc) (u : ℕ) (path : Path net to u arcs t) (once : Once u arcs)
      (left : (link : ℕ) → IsFalse (failed link) → OnPath arcs link) (kept : (link : ℕ) → OnPath arcs link → IsFalse (failed link)) where
    not_offered : (w : ℕ) → along arcs w ≡ None → (n : ℕ) → Offers net to failed (along arcs) w n → ⊥
    not_offered w none n offer =
        let on : OnPath arcs offer.arc.link = left offer.arc.link offer.usable.left in
        let both : OnRoute u arcs (tail_router offer.arc) × OnRoute u arcs (head_router offer.arc) = ends_on arcs u path offer.arc offer.usable.is_arc on in
        let at : OnRoute u arcs w = subst (OnRoute u arcs) offer.tail both.0 in
        elim (eqb_tells w t) [
          | inl end ↦ none-some 0 (sym none ∙ ap (along arcs) end.1 ∙ along-end arcs u path once)
          | inr off ↦ let next : Onward arcs w = onward arcs u w path once at off.1 in
              none-some (cost net next.arc + next.rest) (sym none ∙ next.here)
        ]

    offered_here : (w : ℕ) → OnRoute u arcs w → w ≢ t → (least : ℕ) → along arcs w ≡ Some least → Offers net to failed (along arcs) w least
    offered_here w at apart least known =
        let next : Onward arcs w = onward arcs u w path once at apart in
        record {
          arc = next.arc;
          usable = record { is_arc = next.is_arc; routed = next.routed; left = kept next.arc.link next.on };
          tail = next.tail;
          rest = next.rest;
          head = next.head;
          sum = ap (λ (o : Option ℕ). unwrap_or o least) (sym known ∙ next.here);
        }

    not_less : (w least : ℕ) → along arcs w ≡ Some least → (n : ℕ) → Offers net to failed (along arcs) w n → least ≤ n
    not_less w least known n offer =
        let on : OnPath arcs offer.arc.link = left offer.arc.link offer.usable.left in
        let less : least ≤ cost net offer.arc + offer.rest =
        no_less arcs u path once offer.arc offer.usable.is_arc on least offer.rest (ap (along arcs) offer.tail ∙ known) offer.head in
        omega (arith, less, offer.sum)

    at_router : (w : ℕ) → w ≢ t →
        MatchOption (along arcs w) ((n : ℕ) → Offers net to failed (along arcs) w n → ⊥)
        (λ least. Offers net to failed (along arcs) w least × ((n : ℕ) → Offers net to failed (along arcs) w n → least ≤ n))
    at_router w apart =
        let Nothing : Type 0 = (n : ℕ) → Offers net to failed (along arcs) w n → ⊥ in
        let Least : ℕ → Type 0 = λ least. Offers net to failed (along arcs) w least × ((n : ℕ) → Offers net to failed (along arcs) w n → least ≤ n) in
        elim (on_route_or_off arcs u w) [
          | inl at ↦ let next : Onward arcs w = onward arcs u w path once at apart in
              let least : Least (cost net next.arc + next.rest) =
              (offered_here w at apart (cost net next.arc + next.rest) next.here, not_less w (cost net next.arc + next.rest) next.here) in
              subst (λ (o : Option ℕ). MatchOption o Nothing Least) (sym next.here) least
          | inr off ↦ let none : along arcs w ≡ None = along-off arcs u w path off in
              subst (λ (o : Option ℕ). MatchOption o Nothing Least) (sym none) (not_offered w none)
        ]

    pub stable : IsStable net to t failed (along arcs)
    stable = record {
      at_owner = along-end arcs u path once;
      elsewhere = λ w in_net apart. at_router w apart;
    }

  -- a packet that the arcs permit goes along the path
  pub goes_along : (failed : ℕ → Bool) (d : ℕ → Option ℕ) (p : Packet) (arcs : List Arc) (u : ℕ) → Path net to u arcs t → Once u arcs →
      ((link : ℕ) → OnPath arcs link → IsFalse (failed link)) → ((w : ℕ) → OnRoute u arcs w → d w ≡ along arcs w) →
      AllByRecursion (λ arc. ArcPermits net arc p) arcs → Walk net to failed d p u arcs t
  goes_along failed d p [] u path once kept agree permit = path
  goes_along failed d p (arc ∷ arcs) u path once kept agree permit =
      let head : d (head_router arc) ≡ Some (length_of arcs) =
      agree (head_router arc) (inr (inl refl)) ∙ along-rest arc arcs u (head_router arc) path once (inl refl) ∙ along-start arcs (head_router arc) path.3 in
      let tail : d (tail_router arc) ≡ Some (cost net arc + length_of arcs) =
      agree (tail_router arc) (inl (sym path.2)) ∙ along-tail arc arcs (tail_router arc) refl in
      let attains : Attains net to failed d arc = record {
        usable = record { is_arc = path.0; routed = path.1; left = kept arc.link (inl refl) };
        rest = length_of arcs;
        head = head;
        tail = tail;
      } in
      let rest : Walk net to failed d p (head_router arc) arcs t =
      goes_along failed d p arcs (head_router arc) path.3 once.1 (λ link on. kept link (inr on))
      (λ w on. agree w (inr on) ∙ along-rest arc arcs u w path once on) permit.1 in
      (path.2, attains, permit.0, rest)
