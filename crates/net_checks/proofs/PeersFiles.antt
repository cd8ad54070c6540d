-- The neighbours that are known by the network's rows are those that are known by the files.
use Rattle.std.proofs.Common.{◌≡◌, ℕ, ◌+◌, ◌<◌, ◌⊎◌, inl, inr, Option, Some, None, List, length, get_or, refl, sym, ◌∙◌, ap, subst, arith, ◌↔◌}
use Rattle.std.specs.Prelude.{Result, Ok, Err, Any, Contains, slice_get, option_and_then, map}
use Rattle.std.specs.List.{enumerate_from}
use Rattle.std.proofs.lemmas.List.FromFn.{length-enumerate_from, get_or-enumerate_from}
use Rattle.std.proofs.lemmas.Option.{none-some, same_Some, slice_get-get_or, slice_get_within, get_or_from_slice_get}
use Rattle.arc_base.specs.declared.refusal.Kind.{Kind}
use Rattle.arc_base.specs.declared.refusal.Kind.TheVariants as kinds
use Rattle.arc_base.specs.declared.place.Face.{Face}
use Rattle.net_doc.specs.declared.fault.Refusal.{Refusal}
use Rattle.net_doc.specs.declared.fault.NetFault.{NetFault}
use Rattle.net_doc.specs.declared.fault.NetFault.TheVariants.{Refused, Memory}
use Rattle.net_model.specs.declared.policies.Document.{Document}
use Rattle.net_model.specs.declared.rows.FaceRow.{FaceRow}
use Rattle.net_model.specs.declared.rows.LinkRow.{LinkRow}
use Rattle.net_model.specs.declared.rows.Network.{Network}
use Rattle.ios_config.specs.declared.settings.Config.{Config}
use Rattle.ios_config.specs.declared.settings.FaceText.{FaceText}
use Rattle.net_rules.specs.Settings.{lines_of}
use Rattle.net_rules.specs.Sites.{Site, FullName, sites_of, sites, host_name, full_name, full_names, a_end, b_end, ends_of, AreJoined}
use Rattle.arc_base.specs.Lists.{AreDistinct}
use Rattle.net_rules.specs.Lists.{packet_list_key}
use Rattle.net_rules.specs.Rows.{IsFaceRow, IsLinkRow, AreBaseRows}
use Rattle.net_rules.specs.Reasons.{NoRefusal, IsEarliest, InFiles, TriedAlone}
use Rattle.net_rules.specs.Peers.{IsFarEnd, IsKnown, NamesOther, RefusesNeighbor}
use Rattle.net_checks.specs.FarEnds.{LeadsTo, LinkLeadsTo, IsReached}
use Rattle.net_checks.proofs.PeersEnds.{others_same}
use Rattle.net_rules.proofs.Distinct.{Contains-at, at_Contains, one_place}
use Rattle.arc_base.proofs.Items.{Contains-map, Contains-piece}
use Rattle.net_rules.proofs.SiteFacts.{IsSiteOf, site_of, name_at_site}
use Rattle.arc_base.proofs.Zips.{AllZip-left, AllZip-right}

-- reasons that are the same for each item make the same refusals
module _ {X : Type 0} (kind : Kind) (P Q : ℕ → X → ℕ → Type 0) (items : List X)
    (to : (place : ℕ) (item : X) (n : ℕ) → slice_get items place ≡ Some item → P place item n → Q place item n)
    (from : (place : ℕ) (item : X) (n : ℕ) → slice_get items place ≡ Some item → Q place item n → P place item n) where
  there : (r : Refusal) → InFiles kind P items r → InFiles kind Q items r
  there r bad = record { place = bad.place; item = bad.item; at_place = bad.at_place; number = bad.number; offends = to bad.place bad.item bad.number bad.at_place bad.offends; told = bad.told }

  back : (r : Refusal) → InFiles kind Q items r → InFiles kind P items r
  back r bad = record { place = bad.place; item = bad.item; at_place = bad.at_place; number = bad.number; offends = from bad.place bad.item bad.number bad.at_place bad.offends; told = bad.told }

  pub clear_same : NoRefusal (InFiles kind P items) → NoRefusal (InFiles kind Q items)
  clear_same clear r bad = clear r (back r bad)

  pub first_same : (r : Refusal) → IsEarliest (InFiles kind P items) r → IsEarliest (InFiles kind Q items) r
  first_same r first = record { made = there r first.made; first = λ other bad. first.first other (back other bad) }

-- an address that is read at a place is that of a row there
addressed : (o : Option FaceRow) (peer : ℕ) → option_and_then (λ (row : FaceRow). row.addr) o ≡ Some peer → (row : FaceRow) × (o ≡ Some row) × (row.addr ≡ Some peer)
addressed None peer e = absurd (none-some peer e)
addressed (Some row) peer e = (row, refl, e)

-- an interface of a file is among those of all files
site_there : (configs : List Config) (place : ℕ) (config : Config) (face : FaceText) → slice_get configs place ≡ Some config → Contains config.faces face →
    Contains (sites configs) (record { router = place; config = config; face = face })
site_there configs place config face at there =
    let within : place < length configs = slice_get_within configs place config at in
    let read : get_or (enumerate_from 0 configs) place (place, config) ≡ (0 + place, get_or configs place config) = get_or-enumerate_from 0 configs place (place, config) within in
    let same : 0 + place ≡ place = omega arith in
    let item : get_or configs place config ≡ config = get_or_from_slice_get configs place config config at in
    let placed : Contains (enumerate_from 0 configs) (place, config) = (place, omega (arith, length-enumerate_from 0 configs, within), read ∙ (λ i. (same i, item i))) in
    Contains-piece sites_of (enumerate_from 0 configs) (place, config) (record { router = place; config = config; face = face }) placed
    (Contains-map (λ (f : FaceText). record { router = place; config = config; face = f }) config.faces face there)

module _ (doc : Document) (configs : List Config) (net : Network) (base : AreBaseRows doc configs net) (distinct : AreDistinct (full_names configs)) where
  abbrev Row : Site → FaceRow → Type 0
  Row = IsFaceRow net.protocol (ends_of doc.links) (map packet_list_key net.packet_lists)

  -- what the rows say of two interfaces is so in the files
  leads_far : (place peer : ℕ) (config : Config) → slice_get configs place ≡ Some config → (near far : Face) (u v : FullName) → slice_get (full_names configs) near.0 ≡ Some u →
      slice_get (full_names configs) far.0 ≡ Some v → AreJoined doc.links u v → LeadsTo net.faces near far (place, peer) → IsFarEnd doc configs config peer
  leads_far place peer config at near far u v at_u at_v joined leads =
      let a = AllZip-left Row (sites configs) net.faces base.faces near.0 leads.near_row leads.at_near in
      let row = addressed (slice_get net.faces far.0) peer leads.address in
      let b = AllZip-left Row (sites configs) net.faces base.faces far.0 row.0 row.1 in
      let of_a : IsSiteOf configs a.0 = site_of configs near.0 a.0 a.1 in
      let own : a.0.router ≡ place = sym a.2.router ∙ leads.own in
      let file : a.0.config ≡ config = same_Some a.0.config config (sym of_a.file_at ∙ ap (λ (k : ℕ). slice_get configs k) own ∙ at) in
      let name_a : u ≡ full_name a.0 = same_Some u (full_name a.0) (sym at_u ∙ name_at_site configs near.0 a.0 a.1) in
      let name_b : v ≡ full_name b.0 = same_Some v (full_name b.0) (sym at_v ∙ name_at_site configs far.0 b.0 b.1) in
      let here : IsFarEnd doc configs a.0.config peer = record {
        near = a.0.face;
        is_near = of_a.listed;
        far = b.0;
        is_far = Contains-at (sites configs) far.0 b.0 b.1;
        joined = subst (λ (m : FullName). AreJoined doc.links (full_name a.0) m) name_b (subst (λ (m : FullName). AreJoined doc.links m v) name_a joined);
        address = sym b.2.addr ∙ row.2;
      } in
      subst (λ (c : Config). IsFarEnd doc configs c peer) file here

  pub link_far : (place peer : ℕ) (config : Config) → slice_get configs place ≡ Some config → Any (LinkLeadsTo net.faces (place, peer)) net.links → IsFarEnd doc configs config peer
  link_far place peer config at (k, link, l, e, leads) =
      let at_k : slice_get net.links k ≡ Some link = slice_get-get_or net.links k link l ∙ ap Some e in
      let text = AllZip-left (IsLinkRow (full_names configs)) doc.links net.links base.links k link at_k in
      elim leads [
        | inl ahead ↦ leads_far place peer config at link.a link.b (a_end text.0) (b_end text.0) text.2.a text.2.b
            (record { link = text.0; place = k; at_place = text.1; ends = inl (refl, refl) }) ahead
        | inr back ↦ leads_far place peer config at link.b link.a (b_end text.0) (a_end text.0) text.2.b text.2.a (record { link = text.0; place = k; at_place = text.1; ends = inr (refl, refl) }) back
      ]

  -- and the other way round
  far_leads : (place peer : ℕ) (config : Config) → slice_get configs place ≡ Some config → (f : IsFarEnd doc configs config peer) (near far : Face) →
      slice_get (full_names configs) near.0 ≡ Some (host_name config, f.near.name) → slice_get (full_names configs) far.0 ≡ Some (full_name f.far) → LeadsTo net.faces near far (place, peer)
  far_leads place peer config at f near far at_u at_v =
      let s : Site = record { router = place; config = config; face = f.near } in
      let i = at_Contains (sites configs) s (site_there configs place config f.near at f.is_near) in
      let j = at_Contains (sites configs) f.far f.is_far in
      let near_is : near.0 ≡ i.0 = one_place (full_names configs) near.0 i.0 (full_name s) distinct at_u (name_at_site configs i.0 s i.1) in
      let far_is : far.0 ≡ j.0 = one_place (full_names configs) far.0 j.0 (full_name f.far) distinct at_v (name_at_site configs j.0 f.far j.1) in
      let a = AllZip-right Row (sites configs) net.faces base.faces i.0 s i.1 in
      let b = AllZip-right Row (sites configs) net.faces base.faces j.0 f.far j.1 in
      let at_far : slice_get net.faces far.0 ≡ Some b.0 = ap (λ (k : ℕ). slice_get net.faces k) far_is ∙ b.1 in
      record {
        near_row = a.0;
        at_near = ap (λ (k : ℕ). slice_get net.faces k) near_is ∙ a.1;
        own = a.2.router;
        address = ap (option_and_then (λ (row : FaceRow). row.addr)) at_far ∙ b.2.addr ∙ f.address;
      }

  pub far_link : (place peer : ℕ) (config : Config) → slice_get configs place ≡ Some config → IsFarEnd doc configs config peer → Any (LinkLeadsTo net.faces (place, peer)) net.links
  far_link place peer config at f =
      let row = AllZip-right (IsLinkRow (full_names configs)) doc.links net.links base.links f.joined.place f.joined.link f.joined.at_place in
      (f.joined.place, row.0, slice_get_within net.links f.joined.place row.0 row.1, get_or_from_slice_get net.links f.joined.place row.0 row.0 row.1, by row.0 row.2 f.joined.ends)
    where
      by : (row : LinkRow) → IsLinkRow (full_names configs) f.joined.link row →
          ((a_end f.joined.link ≡ (host_name config, f.near.name)) × (b_end f.joined.link ≡ full_name f.far)) ⊎ ((b_end f.joined.link ≡ (host_name config, f.near.name)) × (a_end
          f.joined.link ≡ full_name f.far)) →
          LinkLeadsTo net.faces (place, peer) row
      by row is (inl e) = inl (far_leads place peer config at f row.a row.b (is.a ∙ ap Some e.0) (is.b ∙ ap Some e.1))
      by row is (inr e) = inr (far_leads place peer config at f row.b row.a (is.b ∙ ap Some e.0) (is.a ∙ ap Some e.1))

  pub known_same : (ends : List (ℕ × ℕ)) → ((pair : ℕ × ℕ) → Contains ends pair ↔ Any (LinkLeadsTo net.faces pair) net.links) → (place : ℕ) (config : Config) → slice_get configs place ≡ Some config →
      (peer : ℕ) → IsReached ends place config peer ↔ IsKnown doc configs config peer
  known_same ends are place config at peer = (
    λ reached. record { far_end = link_far place peer config at ((are (place, peer)).0 reached.0); remote = reached.1 },
    λ known. ((are (place, peer)).1 (far_link place peer config at known.far_end), known.remote),
  )

  abbrev Reached : List (ℕ × ℕ) → ℕ → Config → ℕ → Type 0
  Reached ends place config line = Any (NamesOther (IsReached ends place config) line) (lines_of config)

  abbrev Unknown : ℕ → Config → ℕ → Type 0
  Unknown place config line = Any (NamesOther (IsKnown doc configs config) line) (lines_of config)

  module _ (ends : List (ℕ × ℕ)) (are : (pair : ℕ × ℕ) → Contains ends pair ↔ Any (LinkLeadsTo net.faces pair) net.links) where
    to : (place : ℕ) (config : Config) (n : ℕ) → slice_get configs place ≡ Some config → Reached ends place config n → Unknown place config n
    to place config n at h = others_same (IsReached ends place config) (IsKnown doc configs config) (known_same ends are place config at) (lines_of config) n h

    from : (place : ℕ) (config : Config) (n : ℕ) → slice_get configs place ≡ Some config → Unknown place config n → Reached ends place config n
    from place config n at h =
        others_same (IsKnown doc configs config) (IsReached ends place config) (λ peer. let s = known_same ends are place config at peer in (s.1, s.0)) (lines_of config) n h

    pub first_unknown : (items : List Config) (r : Refusal) → items ≡ configs → IsEarliest (InFiles kinds.NeighborUnknown (Reached ends) items) r → IsEarliest (RefusesNeighbor doc configs) r
    first_unknown items r same first =
        first_same kinds.NeighborUnknown (Reached ends) Unknown configs to from r (subst (λ (cs : List Config). IsEarliest (InFiles kinds.NeighborUnknown (Reached ends) cs) r) same first)

    pub tried_known : (result : Result (Unit {0}) NetFault) → TriedAlone (InFiles kinds.NeighborUnknown (Reached ends) configs) result → TriedAlone (RefusesNeighbor doc configs) result
    tried_known (Ok done) tried = (clear_same kinds.NeighborUnknown (Reached ends) Unknown configs to from tried.0, tt)
    tried_known (Err (Refused r)) tried = first_same kinds.NeighborUnknown (Reached ends) Unknown configs to from r tried
    tried_known (Err Memory) tried = tt
