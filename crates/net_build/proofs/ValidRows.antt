-- The rows of a network that no try refuses: its interfaces, links and routers are valid.
use Rattle.std.proofs.Common.{◌≡◌, ◌≢◌, ℕ, ◌<◌, ◌≤◌, inl, inr, Bool, true, false, Option, Some, None, List, [], ◌∷◌, length, get_or, cond, refl, sym, ◌∙◌, ap, subst, arith}
use Rattle.std.specs.Prelude.{All, AllPairs, Contains, IfSome, IsSome, slice_get, ◌==◌, IsTrue, count_by, sum_by, option_map, option_and_then, unwrap_or, is_some, map, if◌then◌else◌}
use Rattle.std.proofs.lemmas.Bool.{false≢true}
use Rattle.std.proofs.lemmas.List.{length-map}
use Rattle.std.proofs.lemmas.Option.{slice_get_within, slice_get-get_or, none-some, same_Some}
use Rattle.arc_base.specs.Addresses.{IsInside}
use Rattle.arc_base.specs.declared.place.ListId.{ListId}
use Rattle.arc_base.specs.declared.prefix.Prefix.{Prefix}
use Rattle.arc_base.proofs.Agreement.{IsInside-shorter, common_address}
use Rattle.net_model.specs.declared.policies.Document.{Document}
use Rattle.net_model.specs.declared.policies.LinkText.{LinkText}
use Rattle.net_model.specs.declared.rows.FaceRow.{FaceRow}
use Rattle.net_model.specs.declared.rows.LinkRow.{LinkRow}
use Rattle.net_model.specs.declared.rows.Protocol.{Protocol}
use Rattle.net_model.specs.declared.rows.Network.{Network}
use Rattle.net_model.specs.Validity.{IsValidFace, IsValidLink, IsLinkEnd, IsPlace}
use Rattle.arc_base.specs.NameForms.{IsFaceName}
use Rattle.ios_words.specs.declared.commands.Command.{Command}
use Rattle.ios_config.specs.declared.settings.Given.{Given}
use Rattle.ios_config.specs.declared.settings.Config.{Config}
use Rattle.ios_config.specs.declared.settings.FaceText.{FaceText}
use Rattle.net_rules.specs.Forms.{IsWellFormed, IsWellFormedFace}
use Rattle.arc_base.specs.Lists.{AreDistinct}
use Rattle.net_rules.specs.Settings.{lines_of, address_of, value, face_cost, cost_at, reference_of, bandwidth_of}
use Rattle.net_rules.specs.Sites.{Site, FullName, sites, full_name, full_names, host_name, a_end, b_end, two_ends, ends_of}
use Rattle.net_rules.specs.Lists.{packet_list_key, IsPlaceAmong}
use Rattle.net_rules.specs.Rows.{IsFaceRow, IsLinkRow, IsSubnet, host_address_of, host_len, is_host_route, IsEndOfLink, AreBaseRows, IsRouterRow}
use Rattle.net_rules.specs.Linking.{RefusesLinkFace}
use Rattle.net_rules.specs.Reasons.{NoRefusal}
use Rattle.net_rules.proofs.Distinct.{Contains-at, item_at}
use Rattle.net_build.proofs.FewFaces.{counts, few_sites, sum_zip}
use Rattle.arc_base.proofs.Items.{Contains-head, Contains-tail, Contains-piece}
use Rattle.net_rules.proofs.LinksApart.{joins_free, one_name}
use Rattle.net_rules.proofs.SiteFacts.{site_of, name_at_site, same_router, same_site, well_formed_at}
use Rattle.arc_base.proofs.Zips.{AllZip-left, AllZip-right, AllZip-length}

-- what is known of the rows of the network once the links have passed their tries
pub record AreKnown (doc : Document) (configs : List Config) (net : Network) : Type 0 where
  pub well_formed : All IsWellFormed configs
  pub few : All (λ config. length config.faces ≤ 256) configs
  pub names : AreDistinct (full_names configs)
  pub clear : NoRefusal (RefusesLinkFace doc configs)
  pub rows : AreBaseRows doc configs net

cost_range : (reference bandwidth : ℕ) → (1 ≤ cost_at reference bandwidth) × (cost_at reference bandwidth ≤ 65535)
cost_range reference bandwidth = (omega arith, omega arith)

module _ (doc : Document) (configs : List Config) (net : Network) (k : AreKnown doc configs net) where
  abbrev Row : Site → FaceRow → Type 0
  Row = IsFaceRow net.protocol (ends_of doc.links) (map packet_list_key net.packet_lists)

  pub site_at : (i : ℕ) (f : FaceRow) → slice_get net.faces i ≡ Some f → (s : Site) × (slice_get (sites configs) i ≡ Some s) × Row s f
  site_at i f at = AllZip-left Row (sites configs) net.faces k.rows.faces i f at

  pub text_at : (m : ℕ) (l : LinkRow) → slice_get net.links m ≡ Some l → (t : LinkText) × (slice_get doc.links m ≡ Some t) × IsLinkRow (full_names configs) t l
  text_at m l at = AllZip-left (IsLinkRow (full_names configs)) doc.links net.links k.rows.links m l at

  -- the interface at a place with a name
  pub record Named (i : ℕ) (name : FullName) : Type 0 where
    pub face : FaceRow
    pub site : Site
    pub face_at : slice_get net.faces i ≡ Some face
    pub site_is : slice_get (sites configs) i ≡ Some site
    pub row : Row site face
    pub named : full_name site ≡ name

  pub named_at : (i : ℕ) (name : FullName) → slice_get (full_names configs) i ≡ Some name → Named i name
  named_at i name at =
      let within : i < length (full_names configs) = slice_get_within (full_names configs) i name at in
      let s : (s : Site) × (slice_get (sites configs) i ≡ Some s) = item_at (sites configs) i (omega (arith, length-map (sites configs) full_name, within)) in
      let f : (f : FaceRow) × (slice_get net.faces i ≡ Some f) × Row s.0 f = AllZip-right Row (sites configs) net.faces k.rows.faces i s.0 s.1 in
      record {
        face = f.0;
        site = s.0;
        face_at = f.1;
        site_is = s.1;
        row = f.2;
        named = same_Some (full_name s.0) name (sym (name_at_site configs i s.0 s.1) ∙ at);
      }

  pub routers_differ : (m : ℕ) (t : LinkText) → slice_get doc.links m ≡ Some t → t.a_router ≢ t.b_router
  routers_differ m t at same = joins_free doc configs k.clear m t at (λ joins. joins.joins.routers same)

  end_named : (i : ℕ) (s : Site) → slice_get (sites configs) i ≡ Some s → IsLinkEnd net i → IsEndOfLink (ends_of doc.links) s
  end_named i s at (m, link, within, read, ends) =
      let at_link : slice_get net.links m ≡ Some link = slice_get-get_or net.links m link within ∙ ap Some read in
      let t : (t : LinkText) × (slice_get doc.links m ≡ Some t) × IsLinkRow (full_names configs) t link = text_at m link at_link in
      let named : slice_get (full_names configs) i ≡ Some (full_name s) = name_at_site configs i s at in
      let piece = λ (x : FullName) (h : Contains (two_ends t.0) x). Contains-piece two_ends doc.links t.0 x (Contains-at doc.links m t.0 t.1) h in
      elim ends [
        | inl a_is ↦
            subst (λ (n : FullName). Contains (ends_of doc.links) n) (one_name configs link.a.0 i (a_end t.0) (full_name s) t.2.a named a_is)
            (piece (a_end t.0) (Contains-head (a_end t.0) (b_end t.0 ∷ [])))
        | inr b_is ↦
            subst (λ (n : FullName). Contains (ends_of doc.links) n) (one_name configs link.b.0 i (b_end t.0) (full_name s) t.2.b named b_is)
            (piece (b_end t.0) (Contains-tail (a_end t.0) (b_end t.0) (b_end t.0 ∷ []) (Contains-head (b_end t.0) [])))
      ]

  -- a host network of an address lies in its subnet
  hosted_in : (address : Option (ℕ × ℕ)) (longer : ℕ → ℕ) → ((n : ℕ) → n ≤ 32 → n ≤ longer n) → IfSome address (λ (a : ℕ × ℕ). a.1 ≤ 32) →
      (subnet : Option Prefix) (p : Prefix) → IsSubnet address subnet →
      IsSubnet (option_map (λ (a : ℕ × ℕ). (a.0, longer a.1)) address) (Some p) → (q : Prefix) × (subnet ≡ Some q) × IsInside p q
  hosted_in None longer up mask subnet p of_subnet of_p = absurd (none-some p (sym of_p))
  hosted_in (Some a) longer up mask None p of_subnet of_p = absurd of_subnet
  hosted_in (Some a) longer up mask (Some q) p of_subnet of_p =
      let shorter : q.len ≤ p.len = omega (arith, of_subnet.0, of_p.0, up a.1 mask) in
      (q, refl, IsInside-shorter p q shorter (common_address q p a.0 shorter of_subnet.1 of_p.1))

  longer_mask : (protocol : Protocol) (face : FaceText) (n : ℕ) → n ≤ 32 → n ≤ host_len protocol face n
  longer_mask protocol face n h = by (is_host_route protocol face)
    where
      by : (b : Bool) → n ≤ (if b then 32 else n)
      by true = h
      by false = omega arith

  mask_of : (face : FaceText) → IsWellFormedFace face → IfSome (address_of face) (λ (a : ℕ × ℕ). a.1 ≤ 32)
  mask_of face wf = by face.addr face.mask_len wf.mask_high
    where
      by : (a : Option (Given ℕ)) (m : Option (Given ℕ)) → IfSome m (λ g. g.value ≤ 32) →
          IfSome (option_and_then (λ (x : ℕ). option_map (λ (y : ℕ). (x, y)) (value m)) (value a)) (λ (p : ℕ × ℕ). p.1 ≤ 32)
      by None m h = tt
      by (Some a) None h = tt
      by (Some a) (Some m) h = h

  hosted : (i : ℕ) (s : Site) (f : FaceRow) → slice_get (sites configs) i ≡ Some s → Row s f → (o : Option Prefix) → f.host ≡ o →
      IfSome o (λ p. (¬ IsLinkEnd net i) × (subnet : Prefix) × (f.subnet ≡ Some subnet) × IsInside p subnet)
  hosted i s f at row None e = tt
  hosted i s f at row (Some p) e =
      let wf : IsWellFormedFace s.face = well_formed_at configs k.well_formed i s at in
      let no_end : ¬ IsEndOfLink (ends_of doc.links) s = λ is_end. none-some p (sym (row.host.at_end is_end) ∙ e) in
      let of_p : IsSubnet (host_address_of net.protocol s.face) (Some p) = subst (λ (o : Option Prefix). IsSubnet (host_address_of net.protocol s.face) o) e (row.host.elsewhere no_end) in
      let q = hosted_in (address_of s.face) (host_len net.protocol s.face) (longer_mask net.protocol s.face) (mask_of s.face wf) f.subnet p row.subnet of_p in
      (λ link_end. no_end (end_named i s at link_end), q.0, q.1, q.2)

  router_within : (i : ℕ) (s : Site) → slice_get (sites configs) i ≡ Some s → s.router < length net.routers
  router_within i s at =
      let within : s.router < length configs = slice_get_within configs s.router s.config (site_of configs i s at).file_at in
      omega (arith, within, AllZip-length (IsRouterRow net.protocol) configs net.routers k.rows.routers)

  cost_within : (lines : List (Given Command)) (face : FaceText) → IsWellFormedFace face → (1 ≤ face_cost lines face) × (face_cost lines face ≤ 65535)
  cost_within lines face wf = by face.cost wf.cost_low wf.cost_high
    where
      by : (o : Option (Given ℕ)) → IfSome o (λ g. 1 ≤ g.value) → IfSome o (λ g. g.value ≤ 65535) →
          (1 ≤ unwrap_or (value o) (cost_at (reference_of lines) (bandwidth_of face))) × (unwrap_or (value o) (cost_at (reference_of lines) (bandwidth_of face)) ≤ 65535)
      by None low high = cost_range (reference_of lines) (bandwidth_of face)
      by (Some g) low high = (low, high)

  list_within : (bound : Option (List ℕ)) (router : ℕ) (o : Option ListId) → IsPlaceAmong (map packet_list_key net.packet_lists) router bound o →
      IfSome o (λ id. IsPlace net.packet_lists id.0 × IsSome bound)
  list_within bound router None at = tt
  list_within None router (Some id) at = absurd at
  list_within (Some name) router (Some id) at =
      (omega (arith, slice_get_within (map packet_list_key net.packet_lists) id.0 (router, name) at, length-map net.packet_lists packet_list_key), refl)

  bound_where : (given : Option (Given (List ℕ))) (b : Bool) (o : Option ListId) → b ≡ is_some given →
      IfSome o (λ id. IsPlace net.packet_lists id.0 × IsSome (value given)) → IfSome o (λ id. IsPlace net.packet_lists id.0 × IsTrue b)
  bound_where given b None e h = tt
  bound_where None b (Some id) e h = absurd (false≢true h.1)
  bound_where (Some g) b (Some id) e h = (h.0, e)

  place_where : (bound : Option (List ℕ)) (o : Option ListId) → IfSome o (λ id. IsPlace net.packet_lists id.0 × IsSome bound) → IfSome o (λ id. IsPlace net.packet_lists id.0)
  place_where bound None h = tt
  place_where bound (Some id) h = h.0

  pub valid_face : (i : ℕ) (f : FaceRow) → slice_get net.faces i ≡ Some f → IsValidFace net i f
  valid_face i f at =
      let s : (s : Site) × (slice_get (sites configs) i ≡ Some s) × Row s f = site_at i f at in
      let wf : IsWellFormedFace s.0.face = well_formed_at configs k.well_formed i s.0 s.1 in
      let cost = cost_within (lines_of s.0.config) s.0.face wf in
      record {
        router = omega (arith, s.2.router, router_within i s.0 s.1);
        list_in = bound_where s.0.face.list_in f.bound_in f.list_in s.2.bound_in (list_within (value s.0.face.list_in) s.0.router f.list_in s.2.list_in);
        list_out = place_where (value s.0.face.list_out) f.list_out (list_within (value s.0.face.list_out) s.0.router f.list_out s.2.list_out);
        host = hosted i s.0 f s.1 s.2 f.host refl;
        cost_low = subst (λ (n : ℕ). 1 ≤ n) (sym s.2.cost) cost.0;
        cost_high = subst (λ (n : ℕ). n ≤ 65535) (sym s.2.cost) cost.1;
        name = subst (λ (n : List ℕ). IsFaceName n) (sym s.2.name) wf.name;
      }

  pub valid_link : (m : ℕ) (l : LinkRow) → slice_get net.links m ≡ Some l → IsValidLink net l
  valid_link m l at =
      let t : (t : LinkText) × (slice_get doc.links m ≡ Some t) × IsLinkRow (full_names configs) t l = text_at m l at in
      let a : Named l.a.0 (a_end t.0) = named_at l.a.0 (a_end t.0) t.2.a in
      let b : Named l.b.0 (b_end t.0) = named_at l.b.0 (b_end t.0) t.2.b in
      record {
        a = a.face;
        b = b.face;
        a_is = a.face_at;
        b_is = b.face_at;
        routers = λ e.
            let file : a.site.config ≡ b.site.config = same_router configs a.site b.site (site_of configs l.a.0 a.site a.site_is) (site_of configs l.b.0 b.site b.site_is)
            (sym a.row.router ∙ e ∙ b.row.router) in
            routers_differ m t.0 t.1 (ap (λ (n : FullName). n.0) (sym a.named) ∙ ap host_name file ∙ ap (λ (n : FullName). n.0) b.named);
      }

  pub faces_named_apart : AllPairs (λ f g. f.router.0 ≡ g.router.0 → f.name ≢ g.name) net.faces
  faces_named_apart i j d l m router name =
      let f : (s : Site) × (slice_get (sites configs) i ≡ Some s) × Row s (get_or net.faces i d) = site_at i (get_or net.faces i d) (slice_get-get_or net.faces i d (omega arith)) in
      let g : (s : Site) × (slice_get (sites configs) j ≡ Some s) × Row s (get_or net.faces j d) = site_at j (get_or net.faces j d) (slice_get-get_or net.faces j d m) in
      let same : i ≡ j = same_site configs k.names i j f.0 g.0 f.1 g.1 (sym f.2.router ∙ router ∙ g.2.router) (sym f.2.name ∙ name ∙ g.2.name) in
      omega (arith, same, l)

  pub few_faces : (router : ℕ) → count_by (λ face. face.router.0 == router) net.faces ≤ 256
  few_faces router =
      let same : sum_by (counts router) (sites configs) ≡ sum_by (λ (face : FaceRow). cond (face.router.0 == router) 1 0) net.faces =
      sum_zip Row (counts router) (λ (face : FaceRow). cond (face.router.0 == router) 1 0)
      (λ s f row. ap (λ (n : ℕ). cond (n == router) 1 0) (sym row.router)) (sites configs) net.faces k.rows.faces in
      omega (arith, same, few_sites router configs k.few)
