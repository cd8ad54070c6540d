-- Over a copy that permits fewer packets, what reaches its target past failed routers does so in the network.
use Rattle.std.proofs.Common.{◌≡◌, ℕ, ◌≤◌, Bool, false, Option, Some, None, ap, refl, sym, ◌∙◌, subst}
use Rattle.std.specs.Prelude.{◌||◌, IsFalse, slice_get, count_by}
use Rattle.std.specs.List.{range_with_len}
use Rattle.std.specs.Option.{option_map, option_map_or}
use Rattle.std.proofs.lemmas.Option.{slice_get-map}
use Rattle.arc_base.specs.declared.place.Face.{Face}
use Rattle.arc_base.specs.declared.prefix.Prefix.{Prefix}
use Rattle.net_model.specs.declared.lists.Packet.{Packet}
use Rattle.net_model.specs.declared.policies.Class.{Class}
use Rattle.net_model.specs.declared.policies.PolicyKind.{PolicyKind}
use Rattle.net_model.specs.declared.policies.PolicyKind.TheVariants.{Blocked, Through, Reach}
use Rattle.net_model.specs.declared.rows.FaceRow.{FaceRow}
use Rattle.net_model.specs.declared.rows.LinkRow.{LinkRow}
use Rattle.net_model.specs.declared.rows.Network.{Network}
use Rattle.net_model.specs.Packets.{subject}
use Rattle.net_model.specs.Routing.{Arc, IsUsable}
use Rattle.net_model.specs.Forwarding.{Ends}
use Rattle.net_laws.specs.Breaking.{no_link}
use Rattle.copy_laws.specs.Passing.{listless, listless_face, DifferInLists, PermitsWhere, PermitsFewer, AreSameEnds, HoldsFor}
use Rattle.copy_laws.proofs.Kin.{AreKin, IsLike, Moved, moved, carry}
use Rattle.copy_laws.proofs.Mirrors.{Mirrors}
use Rattle.copy_laws.proofs.Meeting.{AreAlike, reach_for, clear_there}
use Rattle.copy_laws.proofs.Listless.{kin, mirrors, usable_there}
use Rattle.copy_laws.proofs.Passed.{alike, enters_there, leaves_there, same_back}
use Rattle.arc_nodecut.specs.RouterFailures.{RouterSet, is_face_down, links_down, MayFail, MeetsPastAs}
use Rattle.reach_copy_laws.specs.Laws.{FewerKeepsPast, FewerKeepsPastReally}

of_router : (down : RouterSet) (o : Option FaceRow) → option_map_or (λ (row : FaceRow). down row.router.0) (option_map listless_face o) false ≡
    option_map_or (λ (row : FaceRow). down row.router.0) o false
of_router down None = refl
of_router down (Some row) = refl

face_down : (net : Network) (down : RouterSet) (face : Face) → is_face_down (listless net) down face ≡ is_face_down net down face
face_down net down face =
    ap (λ (o : Option FaceRow). option_map_or (λ (row : FaceRow). down row.router.0) o false) (slice_get-map listless_face net.faces face.0) ∙
    of_router down (slice_get net.faces face.0)

end_down : (net : Network) (down : RouterSet) (o : Option LinkRow) →
    option_map_or (λ (row : LinkRow). is_face_down (listless net) down row.a || is_face_down (listless net) down row.b) o false ≡
    option_map_or (λ (row : LinkRow). is_face_down net down row.a || is_face_down net down row.b) o false
end_down net down None = refl
end_down net down (Some row) =
    ap (λ (b : Bool). b || is_face_down (listless net) down row.b) (face_down net down row.a) ∙
    ap (λ (b : Bool). is_face_down net down row.a || b) (face_down net down row.b)

-- the same links fail with the routers
same_down : (net copy : Network) → DifferInLists net copy → (down : RouterSet) (link : ℕ) → links_down net down link ≡ links_down copy down link
same_down net copy e down link =
    sym (end_down net down (slice_get net.links link)) ∙ ap (λ (n : Network). links_down n down link) e ∙ end_down copy down (slice_get copy.links link)

there : (net copy : Network) → DifferInLists net copy → (to : Prefix) (down : RouterSet) (arc : Arc) → IsUsable net to (links_down net down) arc →
    (other : Arc) × IsUsable copy to (links_down copy down) other × IsLike net copy arc other
there net copy e to down arc usable =
    let t : (other : Arc) × IsUsable copy to (links_down net down) other × IsLike net copy arc other =
    usable_there net copy e to (links_down net down) arc usable in (
      t.0,
      record {
        is_arc = t.1.is_arc;
        routed = t.1.routed;
        left = subst (λ (b : Bool). IsFalse b) (same_down net copy e down t.0.link) t.1.left;
      },
      t.2,
    )

mirrors_down : (net copy : Network) → DifferInLists net copy → (to : Prefix) (down : RouterSet) → Mirrors net copy to (links_down net down) (links_down copy down)
mirrors_down net copy e to down = record {
  routers = (kin net copy e).routers;
  there = λ arc usable. there net copy e to down arc usable;
  back = λ other usable. there copy net (sym e) to down other usable;
}

-- the same routers may fail
may_fail : (net copy : Network) → DifferInLists net copy → (ends others : Ends) → AreAlike ends others → (k : ℕ) (down : RouterSet) →
    MayFail net ends k down → MayFail copy others k down
may_fail net copy e ends others like k down may = record {
  source = subst (λ (u : ℕ). IsFalse (down u)) like.source may.source;
  target = subst (λ (u : ℕ). IsFalse (down u)) like.target may.target;
  few = subst (λ (n : ℕ). n ≤ k) (ap (λ (n : ℕ). count_by down (range_with_len 0 n)) (kin net copy e).routers) may.few;
}

-- for one packet
past_for : (net copy : Network) → DifferInLists net copy → (p : Packet) → PermitsWhere copy net p → (ends others : Ends) → AreSameEnds net copy ends others →
    (k : ℕ) (down : RouterSet) → HoldsFor copy others p (Reach k) (links_down copy down) → HoldsFor net ends p (Reach k) (links_down net down)
past_for net copy e p fewer ends others same k down holds =
    let b : AreKin copy net = kin copy net (sym e) in
    let back : AreSameEnds copy net others ends = same_back net copy ends others same in
    reach_for net copy p (links_down net down) (links_down copy down) ends others (alike net copy (kin net copy e) ends others same)
    (mirrors_down net copy e ends.to down) (carry copy net p fewer) (enters_there copy net b p fewer others ends back)
    (leaves_there copy net b p fewer others ends back) (Reach k) tt holds

past_as : (net copy : Network) → PermitsFewer net copy → (ends others : Ends) → AreSameEnds net copy ends others → (class : Class) (kind : PolicyKind) →
    MeetsPastAs copy others class kind → MeetsPastAs net ends class kind
past_as net copy fewer ends others same class Blocked meets = absurd meets
past_as net copy fewer ends others same class Through meets = absurd meets
past_as net copy fewer ends others same class (Reach k) meets =
    let e : DifferInLists net copy = sym fewer.alike in
    let like : AreAlike ends others = alike net copy (kin net copy e) ends others same in (
      clear_there net copy class no_link ends others like (mirrors net copy e ends.to no_link) (λ p of. carry copy net p (fewer.permits p)) meets.0,
      λ down d may stable p of. past_for net copy e p (fewer.permits p) ends others same k down
          (λ f stable_f. meets.1 down f (may_fail net copy e ends others like k down may) stable_f p of) d stable,
    )

pub fewer_keeps_past : FewerKeepsPast
fewer_keeps_past net copy fewer policy meets =
    let to : Moved net copy (subject policy) meets.ends = moved net copy (kin net copy (sym fewer.alike)) (subject policy) meets.ends meets.are_ends in
    record {
      ends = to.ends;
      are_ends = to.are_ends;
      meets = past_as net copy fewer to.ends meets.ends to.same (subject policy) policy.kind meets.meets;
    }

pub fewer_keeps_past_really : FewerKeepsPastReally
fewer_keeps_past_really real copy fewer class k meets x of =
    let net : Network = real x in
    let e : DifferInLists net copy = sym (fewer x).0 in
    let to : Moved net copy class meets.ends = moved net copy (kin net copy e) class meets.ends meets.are_ends in
    record {
      ends = to.ends;
      are_ends = to.are_ends;
      holds = λ down may. past_for net copy e x.seen (fewer x).1 to.ends meets.ends to.same k down
          (λ d stable. meets.meets.1 down d
          (may_fail net copy e to.ends meets.ends (alike net copy (kin net copy e) to.ends meets.ends to.same) k down may) stable x.seen of);
    }
