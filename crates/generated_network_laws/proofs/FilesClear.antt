-- No file of a generated network is refused for what it says by itself.
use Rattle.std.proofs.Common.{◌≡◌, ℕ, zero, suc, ◌+◌, ◌*◌, ◌<◌, ◌≤◌, inl, inr, true, false, Option, Some, None, List, [], ◌∷◌, length, take, map, refl, sym, ap, subst, ◌∙◌, arith, Contains}
use Rattle.std.specs.Prelude.{slice_get, Any, IsSomeAnd}
use Rattle.std.specs.List.{filter_map}
use Rattle.std.proofs.lemmas.List.FromFn.{take-map-range_with_len}
use Rattle.std.proofs.lemmas.Option.{none-some}
use Rattle.arc_base.proofs.Items as items
use Rattle.net_model.specs.declared.policies.Document.{Document}
use Rattle.net_model.specs.declared.rows.Protocol.TheVariants.{Ospf}
use Rattle.ios_words.specs.declared.commands.Command.{Command}
use Rattle.ios_words.specs.declared.commands.Command.TheVariants as commands
use Rattle.ios_words.specs.Prefixes.{whole}
use Rattle.ios_config.specs.declared.settings.Config.{Config}
use Rattle.ios_config.specs.declared.settings.FaceText.{FaceText}
use Rattle.ios_config.specs.declared.settings.Given.{Given}
use Rattle.net_rules.specs.Limits.{RefusesInterfaces, RefusesEntries, long_list}
use Rattle.net_rules.specs.Linking.{RefusesDownLinks, HasTypeAt, RefusesAdjacencyForm}
use Rattle.net_rules.specs.Peers.{RefusesNeighbor, RefusesNetwork, NamesOther, IsKnown, TellsUnconnected}
use Rattle.net_rules.specs.Reasons.{NoRefusal}
use Rattle.net_rules.specs.Routers.{NamesRouter, HasNoOwnName, RefusesHostname, protocol_of, NamesOtherProcess, RunsOther, MixesProcesses, HasNoOwnProcess}
use Rattle.net_rules.specs.Routers.{RefusesProtocol, face_area, areas_of, IsOther, NamesOtherArea, RefusesTwoAreas, Repeats, as_of, RefusesSameAs}
use Rattle.net_rules.specs.Linking.{router_id_of}
use Rattle.net_rules.specs.Settings.{lines_of, is_point_to_point}
use Rattle.net_rules.specs.Sites.{Site, sites}
use Rattle.net_rules.specs.Stops.{RefusesListStopsSession}
use Rattle.net_gen.specs.Plans.{numbers, link_count, has_end, port}
use Rattle.net_gen.specs.RouterFiles.{host_name, face_name, address}
use Rattle.generated_network_laws.proofs.Faces.{HasSite, site-is}
use Rattle.generated_network_laws.proofs.Files.{end_of}
use Rattle.generated_network_laws.proofs.Items.{of-any, only}
use Rattle.generated_network_laws.proofs.Once.{host-name-one}
use Rattle.generated_network_laws.proofs.Plans.{in-range, mapped-at, passed-few, count-few}
use Rattle.generated_network_laws.proofs.Said.{links_of, settings_of, all_settings}
use Rattle.generated_network_laws.proofs.Settings.{face_at, host_face, link_face, link_faces, process_at}

-- the interface has a name with a number, an address and a mask, and nothing else
pub record IsBare (face : FaceText) : Type 0 where
  pub at : ℕ
  pub number : ℕ
  pub addr : ℕ
  pub len : ℕ
  pub is : face ≡ face_at at (face_name number) addr len

pub bare-site : (n : ℕ) (site : Site) → HasSite n site → IsBare site.face
bare-site n site h = elim h.face [
  | inl host ↦ record { at = 2; number = 0; addr = address h.router 0 1; len = 24; is = host }
  | inr over ↦ record { at = over.at; number = port n h.router over.link; addr = address 0 over.link (end_of n h.router over.link); len = 30; is = over.is }
]

bare-links : (n router at : ℕ) (links : List ℕ) (face : FaceText) → Contains (link_faces n router at links) face → IsBare face
bare-links n router at [] face there = absurd (items.Contains-none face there)
bare-links n router at (link ∷ links) face there = elim (items.Contains-cases (link_face n router at link) face (link_faces n router (at + 3) links) there) [
  | inl here ↦ record { at = at; number = port n router link; addr = address 0 link (end_of n router link); len = 30; is = sym here }
  | inr later ↦ bare-links n router (at + 3) links face later
]

bare-faces : (n router : ℕ) (face : FaceText) → Contains (settings_of n router).faces face → IsBare face
bare-faces n router face there = elim (items.Contains-cases (host_face router) face (link_faces n router 5 (links_of n router)) there) [
  | inl here ↦ record { at = 2; number = 0; addr = address router 0 1; len = 24; is = sym here }
  | inr later ↦ bare-links n router 5 (links_of n router) face later
]

-- the files before one
earlier : (n place : ℕ) (config : Config) → place ≤ n → Contains (take place (all_settings n)) config → (router : ℕ) × (router < 1 + place) × (settings_of n router ≡ config)
earlier n place config low there =
    let front : Contains (map (settings_of n) (numbers place)) config = subst (λ (cs : List Config). Contains cs config) (take-map-range_with_len (settings_of n) 1 n place low) there in
    let r = items.from_map (settings_of n) (numbers place) config front in
    (r.0, (in-range 1 place r.0 r.1).1, r.2)

pub hostname-clear : (n : ℕ) → n ≤ 40 → NoRefusal (RefusesHostname (all_settings n))
hostname-clear n few r refused =
    let place = refused.place in
    let at = mapped-at (settings_of n) 1 n place refused.item refused.at_place in
    let low : place < n = at.0 in
    let offends : HasNoOwnName (all_settings n) place (settings_of n (1 + place)) refused.number =
    subst (λ (c : Config). HasNoOwnName (all_settings n) place c refused.number) (sym at.1) refused.offends in
    let other = of-any (NamesRouter (host_name (1 + place))) (take place (all_settings n)) offends.1 in
    let before = earlier n place other.0 (omega arith) other.1 in
    let early : before.0 < 1 + place = before.1 in
    let named : NamesRouter (host_name (1 + place)) (settings_of n before.0) = subst (NamesRouter (host_name (1 + place))) (sym before.2) other.2 in
    let same = host-name-one before.0 (1 + place) (omega arith) (omega arith) named in
    omega arith

pub protocol-is : (n : ℕ) → 1 ≤ n → protocol_of (all_settings n) ≡ Ospf
protocol-is zero some = absurd (omega arith)
protocol-is (suc n) some = refl

pub protocol-clear : (n : ℕ) → 1 ≤ n → NoRefusal (RefusesProtocol (all_settings n))
protocol-clear n some r refused =
    let place = refused.place in
    let at = mapped-at (settings_of n) 1 n place refused.item refused.at_place in
    let router = 1 + place in
    let process = process_at (5 + 3 * length (links_of n router)) in
    let offends : HasNoOwnProcess (all_settings n) place (settings_of n router) refused.number =
    subst (λ (c : Config). HasNoOwnProcess (all_settings n) place c refused.number) (sym at.1) refused.offends in
    let mixed : MixesProcesses (protocol_of (all_settings n)) (settings_of n router) process refused.number = offends in
    elim mixed [
      | inl second ↦ absurd second
      | inr (inl face) ↦
          let other = of-any (NamesOtherProcess process refused.number) (settings_of n router).faces face in
          let bare = bare-faces n router other.0 other.1 in
          subst (NamesOtherProcess process refused.number) bare.is other.2
      | inr (inr runs) ↦ (only (RunsOther (protocol_of (all_settings n)) refused.number) process runs).1 (sym (protocol-is n some))
    ]

no-areas : (n router at : ℕ) (links : List ℕ) → filter_map face_area (link_faces n router at links) ≡ []
no-areas n router at [] = refl
no-areas n router at (link ∷ links) = no-areas n router (at + 3) links

areas-are : (n router : ℕ) → areas_of (settings_of n router) ≡ record { value = 0; line = 5 + 3 * length (links_of n router) + 2 } ∷ []
areas-are n router = ap (λ (gs : List (Given ℕ)). record { value = 0; line = 5 + 3 * length (links_of n router) + 2 } ∷ gs) (no-areas n router 5 (links_of n router))

all-zero : (n router : ℕ) (g : Given ℕ) → Contains (areas_of (settings_of n router)) g → g.value ≡ 0
all-zero n router g there =
    let line = 5 + 3 * length (links_of n router) + 2 in
    elim (items.Contains-cases (record { value = 0; line = line }) g [] (subst (λ (gs : List (Given ℕ)). Contains gs g) (areas-are n router) there)) [
      | inl here ↦ ap (λ (x : Given ℕ). x.value) (sym here)
      | inr later ↦ absurd (items.Contains-none g later)
    ]

pub areas-clear : (n : ℕ) → NoRefusal (RefusesTwoAreas (all_settings n))
areas-clear n r refused =
    let at = mapped-at (settings_of n) 1 n refused.place refused.item refused.at_place in
    let offends : NamesOtherArea (all_settings n) (settings_of n (1 + refused.place)) refused.number =
    subst (λ (c : Config). NamesOtherArea (all_settings n) c refused.number) (sym at.1) refused.offends in
    let is_first = offends.is_first in
    let first = mapped-at (settings_of n) 1 n is_first.place is_first.config is_first.at_place in
    let zero-first : is_first.given.value ≡ 0 = all-zero n (1 + is_first.place) is_first.given (subst (λ (c : Config). Contains (areas_of c) is_first.given) (sym first.1) is_first.named) in
    let other = of-any (IsOther offends.first refused.number) (areas_of (settings_of n (1 + refused.place))) offends.other in
    let zero-other = all-zero n (1 + refused.place) other.0 other.1 in
    other.2.1 (zero-other ∙ sym zero-first ∙ is_first.is_area)

pub as-clear : (n : ℕ) → NoRefusal (RefusesSameAs (all_settings n))
as-clear n r refused =
    let at = mapped-at (settings_of n) 1 n refused.place refused.item refused.at_place in
    let offends : Repeats as_of (all_settings n) refused.place (settings_of n (1 + refused.place)) refused.number =
    subst (λ (c : Config). Repeats as_of (all_settings n) refused.place c refused.number) (sym at.1) refused.offends in
    absurd offends

pub down-clear : (doc : Document) → NoRefusal (RefusesDownLinks doc [])
down-clear doc r refused = none-some refused.number refused.above

pub neighbor-clear : (n : ℕ) (doc : Document) → NoRefusal (RefusesNeighbor doc (all_settings n))
neighbor-clear n doc r refused =
    let at = mapped-at (settings_of n) 1 n refused.place refused.item refused.at_place in
    let config = settings_of n (1 + refused.place) in
    let offends : Any (NamesOther (IsKnown doc (all_settings n) config) refused.number) (lines_of config) =
    subst (λ (c : Config). Any (NamesOther (IsKnown doc (all_settings n) c) refused.number) (lines_of c)) (sym at.1) refused.offends in
    let covers : Given Command = record { value = commands.Covers whole 0; line = 5 + 3 * length (links_of n (1 + refused.place)) + 2 } in
    let names = only (NamesOther (IsKnown doc (all_settings n) config) refused.number) covers offends in
    none-some names.1.0 names.1.1

pub network-clear : (n : ℕ) → NoRefusal (RefusesNetwork (all_settings n))
network-clear n r refused =
    let at = mapped-at (settings_of n) 1 n refused.place refused.item refused.at_place in
    let config = settings_of n (1 + refused.place) in
    let offends : Any (TellsUnconnected config refused.number) (lines_of config) = subst (λ (c : Config). Any (TellsUnconnected c refused.number) (lines_of c)) (sym at.1) refused.offends in
    let covers : Given Command = record { value = commands.Covers whole 0; line = 5 + 3 * length (links_of n (1 + refused.place)) + 2 } in
    let tells = only (TellsUnconnected config refused.number) covers offends in
    let clash : commands.Covers whole 0 ≡ commands.Tells tells.1.0 = tells.1.1 in
    absurd cc

pub length-faces : (n router at : ℕ) (links : List ℕ) → length (link_faces n router at links) ≡ length links
length-faces n router at [] = refl
length-faces n router at (link ∷ links) = ap suc (length-faces n router (at + 3) links)

pub interfaces-clear : (n : ℕ) → n ≤ 40 → NoRefusal (RefusesInterfaces (all_settings n))
interfaces-clear n few r refused =
    let at = mapped-at (settings_of n) 1 n refused.place refused.config refused.at_place in
    let router = 1 + refused.place in
    let many : 256 < suc (length (link_faces n router 5 (links_of n router))) = subst (λ (c : Config). 256 < length c.faces) (sym at.1) refused.many in
    let long = length-faces n router 5 (links_of n router) in
    let most : length (links_of n router) ≤ link_count n = passed-few (has_end n router) (link_count n) in
    let count = count-few n few in
    omega arith

pub entries-clear : (most n : ℕ) → NoRefusal (RefusesEntries most (all_settings n))
entries-clear most n r refused =
    let at = mapped-at (settings_of n) 1 n refused.place refused.config refused.at_place in
    none-some refused.list (subst (λ (c : Config). long_list most c ≡ Some refused.list) (sym at.1) refused.first)

pub stops-clear : (n : ℕ) (doc : Document) → NoRefusal (RefusesListStopsSession doc (all_settings n))
stops-clear n doc r refused =
    let bare = bare-site n refused.site (site-is n _ refused.site refused.at_head) in
    subst (λ (f : FaceText). IsSomeAnd f.list_in (λ g. g.line ≡ refused.line)) bare.is refused.binds

no-point : (n place : ℕ) → HasTypeAt (all_settings n) place true → ⊥
no-point n place has = by (slice_get (sites (all_settings n)) place) refl has
  where
    by : (o : Option Site) → slice_get (sites (all_settings n)) place ≡ o → IsSomeAnd o (λ site. is_point_to_point site.face ≡ true) → ⊥
    by None at is = is
    by (Some site) at is =
        let bare = bare-site n site (site-is n place site at) in
        let point : is_point_to_point (face_at bare.at (face_name bare.number) bare.addr bare.len) ≡ true = subst (λ (f : FaceText). is_point_to_point f ≡ true) bare.is is in
        let clash : false ≡ true = point in absurd cc

pub adjacency-clear : (n : ℕ) (doc : Document) → NoRefusal (RefusesAdjacencyForm doc (all_settings n))
adjacency-clear n doc r refused = elim refused [
  | inl types ↦ elim types.refuses.offends [
    | inl one ↦ no-point n types.refuses.item.a.0 one.0
    | inr two ↦ no-point n types.refuses.item.b.0 two.1
  ]
  | inr ids ↦
      let at = mapped-at (settings_of n) 1 n ids.place ids.item ids.at_place in
      let offends : Repeats router_id_of (all_settings n) ids.place (settings_of n (1 + ids.place)) ids.number =
      subst (λ (c : Config). Repeats router_id_of (all_settings n) ids.place c ids.number) (sym at.1) ids.offends in
      absurd offends
]
