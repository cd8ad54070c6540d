-- The sessions of a network with the rows of its files are valid, if no interfaces overlap.
use Rattle.std.proofs.Common.{◌≡◌, ◌≢◌, ℕ, ◌<◌, ◌⊎◌, inl, inr, Bool, true, false, Option, Some, None, List, length, get_or, refl, sym, ◌∙◌, ap, subst, arith}
use Rattle.std.specs.Prelude.{All, AllPairs, IfSome, IsTrue, slice_get, option_map, is_some, map}
use Rattle.std.proofs.lemmas.Bool.{cases_lt}
use Rattle.std.proofs.lemmas.Bool.Decides.{eqb_tells}
use Rattle.std.proofs.lemmas.List.{length-map}
use Rattle.std.proofs.lemmas.Option.{slice_get_within, slice_get-get_or, none-some, same_Some, get_or_from_slice_get}
use Rattle.arc_base.specs.Addresses.{Holds, AreDisjoint}
use Rattle.arc_base.specs.declared.place.ListId.{ListId}
use Rattle.arc_base.specs.declared.prefix.Prefix.{Prefix}
use Rattle.net_model.specs.declared.policies.Document.{Document}
use Rattle.net_model.specs.declared.rows.FaceRow.{FaceRow}
use Rattle.net_model.specs.declared.rows.LinkRow.{LinkRow}
use Rattle.net_model.specs.declared.rows.SessionRow.{SessionRow}
use Rattle.net_model.specs.declared.rows.Protocol.{Protocol}
use Rattle.net_model.specs.declared.rows.Protocol.TheVariants.{Ospf, Bgp}
use Rattle.net_model.specs.declared.rows.Network.{Network}
use Rattle.net_model.specs.Routing.{tail_end, head_end}
use Rattle.net_model.specs.Validity.{IsValidSession, AreSessionsApart, AreLinksApart, AreLinked, AreApart, EndsAt, IsPlace, FitsProtocol}
use Rattle.ios_config.specs.declared.settings.Config.{Config}
use Rattle.net_rules.specs.Settings.{lines_of, address_of, is_passive}
use Rattle.net_rules.specs.Neighbors.{filter_of}
use Rattle.net_rules.specs.Sites.{Site, sites}
use Rattle.net_rules.specs.Lists.{route_list_key, IsPlaceAmong}
use Rattle.net_rules.specs.Ordered.{IsPairBefore}
use Rattle.net_rules.specs.Rows.{IsSubnet, IsSessionOf, IsSession, AreSessions}
use Rattle.net_rules.proofs.Distinct.{Contains-at}
use Rattle.net_build.proofs.ValidRows.{AreKnown, site_at}
use Rattle.net_rules.proofs.LinksApart.{links_apart}
use Rattle.arc_base.proofs.Zips.{AllZip-right, AllZip-length}

-- the end of a link on either side is one of its ends
ends_at : (row : LinkRow) (from_a : Bool) → EndsAt row (tail_end row from_a).0
ends_at row true = inl refl
ends_at row false = inr refl

far_at : (row : LinkRow) (from_a : Bool) → EndsAt row (head_end row from_a).0
far_at row true = inr refl
far_at row false = inl refl

-- links that are apart have no interface in common
one_link : (l m : LinkRow) (face : ℕ) → AreLinksApart l m → EndsAt l face → EndsAt m face → ⊥
one_link l m face apart (inl x) (inl y) = apart.0 (x ∙ sym y)
one_link l m face apart (inl x) (inr y) = apart.1 (x ∙ sym y)
one_link l m face apart (inr x) (inl y) = apart.2 (x ∙ sym y)
one_link l m face apart (inr x) (inr y) = apart.3 (x ∙ sym y)

module _ (doc : Document) (configs : List Config) (net : Network) (k : AreKnown doc configs net) where
  -- the links at one interface are one
  same_link : (i j face : ℕ) (l m : LinkRow) → slice_get net.links i ≡ Some l → slice_get net.links j ≡ Some m → EndsAt l face → EndsAt m face → i ≡ j
  same_link i j face l m at_l at_m of_l of_m = elim (cases_lt i j) [
    | inl lower ↦ absurd (one_link l m face (apart i j l m lower at_l at_m) of_l of_m)
    | inr not_lower ↦ elim (cases_lt j i) [
      | inl higher ↦ absurd (one_link m l face (apart j i m l higher at_m at_l) of_m of_l)
      | inr not_higher ↦ omega (arith, not_lower, not_higher)
    ]
  ]
    where
      apart : (i j : ℕ) (l m : LinkRow) → i < j → slice_get net.links i ≡ Some l → slice_get net.links j ≡ Some m → AreLinksApart l m
      apart i j l m h at_l at_m =
          subst (λ (y : LinkRow). AreLinksApart l y) (get_or_from_slice_get net.links j m l at_m)
          (subst (λ (x : LinkRow). AreLinksApart x (get_or net.links j l)) (get_or_from_slice_get net.links i l l at_l)
          (links_apart doc configs k.clear net k.rows i j l h (slice_get_within net.links j m at_m)))

  filter_within : (bound : Option (List ℕ)) (router : ℕ) (b : Bool) (o : Option ListId) → b ≡ is_some bound →
      IsPlaceAmong (map route_list_key net.route_lists) router bound o → IfSome o (λ id. IsPlace net.route_lists id.0 × IsTrue b)
  filter_within bound router b None e at = tt
  filter_within None router b (Some id) e at = absurd at
  filter_within (Some name) router b (Some id) e at =
      (omega (arith, slice_get_within (map route_list_key net.route_lists) id.0 (router, name) at, length-map net.route_lists route_list_key), e)

  valid_session : (link : ℕ) (from_a : Bool) (session : SessionRow) → IsSessionOf configs net.links (map route_list_key net.route_lists) link from_a session → IsValidSession net session
  valid_session link from_a session of = record {
    face = omega (arith, slice_get_within (sites configs) session.face.0 of.near of.at_near, face_count);
    link_end = (
      link,
      of.row,
      slice_get_within net.links link of.row of.at_link,
      get_or_from_slice_get net.links link of.row of.row of.at_link,
      subst (λ (face : ℕ). EndsAt of.row face) of.near_end (ends_at of.row from_a),
    );
    filter = filter_within (filter_of (lines_of of.near.config) session.peer) of.near.router session.bound session.filter of.configured.bound of.configured.filter;
  }
    where
      face_count : length (sites configs) ≡ length net.faces
      face_count = AllZip-length _ (sites configs) net.faces k.rows.faces

  -- the subnet of an interface with this address holds it
  holds : (address : Option (ℕ × ℕ)) (peer : ℕ) (subnet : Option Prefix) → IsSubnet address subnet → option_map (λ (a : ℕ × ℕ). a.0) address ≡ Some peer →
      (p : Prefix) × (subnet ≡ Some p) × Holds p peer
  holds None peer subnet of e = absurd (none-some peer e)
  holds (Some a) peer None of e = absurd of
  holds (Some a) peer (Some p) of e = (p, refl, subst (λ (n : ℕ). Holds p n) (same_Some a.0 peer e) of.1)

  row_at : (i : ℕ) (s : Site) → slice_get (sites configs) i ≡ Some s → (f : FaceRow) × (slice_get net.faces i ≡ Some f) × (f.router.0 ≡ s.router) × IsSubnet (address_of s.face) f.subnet
  row_at i s at =
      let r = AllZip-right _ (sites configs) net.faces k.rows.faces i s at in
      (r.0, r.1, r.2.router, r.2.subnet)

  -- far ends with one address are at one place
  one_far_end : ((i j : ℕ) (f g : FaceRow) → slice_get net.faces i ≡ Some f → slice_get net.faces j ≡ Some g → i ≢ j → AreLinked net i j ⊎ AreApart f g) →
      (i j peer : ℕ) (s t : Site) → slice_get (sites configs) i ≡ Some s → slice_get (sites configs) j ≡ Some t →
      option_map (λ (a : ℕ × ℕ). a.0) (address_of s.face) ≡ Some peer → option_map (λ (a : ℕ × ℕ). a.0) (address_of t.face) ≡ Some peer → (i ≡ j) ⊎ AreLinked net i j
  one_far_end clear i j peer s t at_s at_t of_s of_t =
      let f = row_at i s at_s in
      let g = row_at j t at_t in
      let p = holds (address_of s.face) peer f.0.subnet f.3 of_s in
      let q = holds (address_of t.face) peer g.0.subnet g.3 of_t in
      elim (eqb_tells i j) [
        | inl same ↦ inl same.1
        | inr other ↦ elim (clear i j f.0 g.0 f.1 g.1 other.1) [
          | inl linked ↦ inr linked
          | inr apart ↦
              let P : Prefix → Type 0 = λ x. IfSome g.0.subnet (AreDisjoint x) in
              let first : IfSome g.0.subnet (AreDisjoint p.0) = subst (λ (o : Option Prefix). IfSome o P) p.1 apart in
              let disjoint : AreDisjoint p.0 q.0 = subst (λ (o : Option Prefix). IfSome o (AreDisjoint p.0)) q.1 first in
              absurd (disjoint peer p.2 q.2)
        ]
      ]

  -- of two sessions of one router over one link neither comes before the other
  not_before : (r i s j : ℕ) → IsPairBefore ◌<◌ (r, i) (s, j) → r ≡ s → i ≡ j → ⊥
  not_before r i s j (inl lower) router link = omega (arith, lower, router)
  not_before r i s j (inr (same, lower)) router link = omega (arith, lower, link)

  module _ (clear : (i j : ℕ) (f g : FaceRow) → slice_get net.faces i ≡ Some f → slice_get net.faces j ≡ Some g → i ≢ j → AreLinked net i j ⊎ AreApart f g)
      (i j : ℕ) (from to : Bool) (s t : SessionRow) (of_s : IsSessionOf configs net.links (map route_list_key net.route_lists) i from s)
      (of_t : IsSessionOf configs net.links (map route_list_key net.route_lists) j to t)
      (before : IsPairBefore ◌<◌ (of_s.near.router, i) (of_t.near.router, j)) where
    faces_differ : s.face.0 ≢ t.face.0
    faces_differ same =
        let near : of_s.near ≡ of_t.near = same_Some of_s.near of_t.near (sym of_s.at_near ∙ ap (λ (n : ℕ). slice_get (sites configs) n) same ∙ of_t.at_near) in
        let of_face : EndsAt of_s.row t.face.0 = subst (λ (n : ℕ). EndsAt of_s.row n) (of_s.near_end ∙ same) (ends_at of_s.row from) in
        let link : i ≡ j = same_link i j t.face.0 of_s.row of_t.row of_s.at_link of_t.at_link of_face (subst (λ (n : ℕ). EndsAt of_t.row n) of_t.near_end (ends_at of_t.row to)) in
        not_before of_s.near.router i of_t.near.router j before (ap (λ (site : Site). site.router) near) link

    peers_differ : (f g : FaceRow) → slice_get net.faces s.face.0 ≡ Some f → slice_get net.faces t.face.0 ≡ Some g → f.router.0 ≡ g.router.0 → s.peer ≢ t.peer
    peers_differ f g at_f at_g router peer =
        let near_f = row_at s.face.0 of_s.near of_s.at_near in
        let near_g = row_at t.face.0 of_t.near of_t.at_near in
        let is_f : near_f.0 ≡ f = same_Some near_f.0 f (sym near_f.1 ∙ at_f) in
        let is_g : near_g.0 ≡ g = same_Some near_g.0 g (sym near_g.1 ∙ at_g) in
        let routers : of_s.near.router ≡ of_t.near.router = sym near_f.2 ∙ ap (λ (row : FaceRow). row.router.0) is_f ∙ router ∙ sym (ap (λ (row : FaceRow). row.router.0) is_g) ∙ near_g.2 in
        let far = one_far_end clear (head_end of_s.row from).0 (head_end of_t.row to).0 t.peer of_s.far of_t.far of_s.at_far of_t.at_far (of_s.peer ∙ ap Some peer) of_t.peer in
        let link : i ≡ j = elim far [
          | inl same ↦ same_link i j (head_end of_t.row to).0 of_s.row of_t.row of_s.at_link of_t.at_link (subst (λ (n : ℕ). EndsAt of_s.row n) same (far_at of_s.row from)) (far_at of_t.row to)
          | inr (m, row, within, read, ends) ↦
              let at_row : slice_get net.links m ≡ Some row = slice_get-get_or net.links m row within ∙ ap Some read in
              same_link i m (head_end of_s.row from).0 of_s.row row of_s.at_link at_row (far_at of_s.row from) ends.0 ∙
              same_link m j (head_end of_t.row to).0 row of_t.row at_row of_t.at_link ends.1 (far_at of_t.row to)
        ] in
        not_before of_s.near.router i of_t.near.router j before routers link

  pub sessions_valid : (protocol : Protocol) → AreSessions protocol configs net.links (map route_list_key net.route_lists) net.sessions → All (IsValidSession net) net.sessions
  sessions_valid Ospf none = subst (λ (l : List SessionRow). All (IsValidSession net) l) (sym none) (λ i d l. absurd (omega (arith, l)))
  sessions_valid Bgp are = λ i d l.
      let of : IsSession configs net.links (map route_list_key net.route_lists) (get_or net.sessions i d) =
      (are.just (get_or net.sessions i d)).0 (Contains-at net.sessions i (get_or net.sessions i d) (slice_get-get_or net.sessions i d l)) in
      valid_session of.link of.from_a (get_or net.sessions i d) of.session_of

  pub sessions_apart : ((i j : ℕ) (f g : FaceRow) → slice_get net.faces i ≡ Some f → slice_get net.faces j ≡ Some g → i ≢ j → AreLinked net i j ⊎ AreApart f g) →
      (protocol : Protocol) → AreSessions protocol configs net.links (map route_list_key net.route_lists) net.sessions → AllPairs (AreSessionsApart net) net.sessions
  sessions_apart clear Ospf none = subst (λ (l : List SessionRow). AllPairs (AreSessionsApart net) l) (sym none) (λ i j d l m. absurd (omega (arith, m)))
  sessions_apart clear Bgp are = λ i j d l m.
      let s : IsSession configs net.links (map route_list_key net.route_lists) (get_or net.sessions i d) =
      (are.just (get_or net.sessions i d)).0 (Contains-at net.sessions i (get_or net.sessions i d) (slice_get-get_or net.sessions i d (omega arith))) in
      let t : IsSession configs net.links (map route_list_key net.route_lists) (get_or net.sessions j d) =
      (are.just (get_or net.sessions j d)).0 (Contains-at net.sessions j (get_or net.sessions j d) (slice_get-get_or net.sessions j d m)) in
      let before = are.order i j d l m s.link t.link s.from_a t.from_a s.session_of t.session_of in (
        faces_differ clear s.link t.link s.from_a t.from_a (get_or net.sessions i d) (get_or net.sessions j d) s.session_of t.session_of before,
        peers_differ clear s.link t.link s.from_a t.from_a (get_or net.sessions i d) (get_or net.sessions j d) s.session_of t.session_of before,
      )

  pub fits_protocol : (protocol : Protocol) → net.protocol ≡ protocol → AreSessions protocol configs net.links (map route_list_key net.route_lists) net.sessions → FitsProtocol protocol net
  fits_protocol Ospf is none = none
  fits_protocol Bgp is are = λ i d l.
      let s = site_at doc configs net k i (get_or net.faces i d) (slice_get-get_or net.faces i d l) in
      s.2.passive ∙ ap (λ (p : Protocol). is_passive p (lines_of s.0.config) s.0.face.name) is
