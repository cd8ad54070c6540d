-- The files of a generated network are refused for no reason, and their network has its plan.
use Rattle.std.proofs.Common.{◌≡◌, ℕ, ◌≤◌, inl, inr, Some, List, [], ◌∷◌, length, map, refl, sym, ap, subst, ◌∙◌, arith, ⊎_elim, Contains}
use Rattle.std.specs.List.{AllZip}
use Rattle.std.proofs.lemmas.List.{length-map}
use Rattle.std.proofs.lemmas.List.FromFn.{length-range_with_len}
use Rattle.std.proofs.lemmas.Option.{none-some}
use Rattle.arc_base.proofs.Items as items
use Rattle.net_doc.specs.declared.fault.Refusal.{Refusal}
use Rattle.net_model.specs.declared.lists.PacketList.{PacketList}
use Rattle.net_model.specs.declared.lists.RouteList.{RouteList}
use Rattle.net_model.specs.declared.policies.Document.{Document}
use Rattle.net_model.specs.declared.rows.RouterRow.{RouterRow}
use Rattle.net_model.specs.declared.rows.Protocol.{Protocol}
use Rattle.net_model.specs.declared.rows.Protocol.TheVariants.{Ospf}
use Rattle.ios_config.specs.declared.settings.Config.{Config}
use Rattle.net_rules.specs.Lists.{IsPacketListRow, IsRouteListRow, packet_row_at, route_row_at, route_list_key}
use Rattle.net_build.specs.Networks.{HasSettings, IsFirstRefusalWithin}
use Rattle.net_build.specs.Order.{Try, tries, RefusesWithin, IsFirstOf}
use Rattle.net_build.specs.Order as order
use Rattle.net_rules.specs.Reasons.{NoRefusal, IsEarliest}
use Rattle.net_rules.specs.Rows.{IsRouterRow, IsLinkRow, AreRows, AreSessions}
use Rattle.net_rules.specs.Sites.{full_names}
use Rattle.net_rules.specs.Sites as build
use Rattle.net_gen.specs.Generated.{asked, Asks}
use Rattle.net_gen.specs.Plans.{numbers, link_count}
use Rattle.net_gen.specs.RouterFiles.{host_name}
use Rattle.net_gen.proofs.Lengths.{asked_length}
use Rattle.generated_network_laws.specs.Laws.{GeneratedFilesAreNotRefused, GeneratedNetworksHaveTheirPlan, GeneratedDocumentsHaveTheirPolicies}
use Rattle.generated_network_laws.proofs.EndpointsClear.{endpoint-clear}
use Rattle.generated_network_laws.proofs.FilesClear.{hostname-clear, protocol-is, protocol-clear, areas-clear, as-clear, down-clear}
use Rattle.generated_network_laws.proofs.FilesClear.{neighbor-clear, network-clear, interfaces-clear, entries-clear, stops-clear, adjacency-clear}
use Rattle.arc_base.proofs.Zips.{AllZip-length}
use Rattle.generated_network_laws.proofs.LinksClear.{all_links, faces-clear, subnets-clear}
use Rattle.generated_network_laws.proofs.Planned.{joins, has-host}
use Rattle.generated_network_laws.proofs.Plans.{mapped-at}
use Rattle.generated_network_laws.proofs.Said.{settings_of, all_settings, files-say, none-faulty}
use Rattle.generated_network_laws.proofs.SubnetsClear.{overlap-clear}

-- no try refuses anything
all-clear : (most n : ℕ) (doc : Document) → 6 ≤ n → n ≤ 40 → doc.links ≡ all_links n → AllZip Asks (asked n) doc.policies → (t : Try) → NoRefusal (RefusesWithin [] most doc (all_settings n) t)
all-clear most n doc some few links policies order.Hostname = hostname-clear n few
all-clear most n doc some few links policies order.Protocol = protocol-clear n (omega arith)
all-clear most n doc some few links policies order.TwoAreas = areas-clear n
all-clear most n doc some few links policies order.SameAs = as-clear n
all-clear most n doc some few links policies order.LinkFace = faces-clear n doc some few links
all-clear most n doc some few links policies order.DownLinks = down-clear doc
all-clear most n doc some few links policies order.NeighborUnknown = neighbor-clear n doc
all-clear most n doc some few links policies order.NetworkNotConnected = network-clear n
all-clear most n doc some few links policies order.Overlap = overlap-clear n doc some few links
all-clear most n doc some few links policies order.LinkSubnets = subnets-clear n doc some few links
all-clear most n doc some few links policies order.ListStopsSession = stops-clear n doc
all-clear most n doc some few links policies order.AdjacencyForm = adjacency-clear n doc
all-clear most n doc some few links policies order.Interfaces = interfaces-clear n few
all-clear most n doc some few links policies order.Entries = entries-clear most n
all-clear most n doc some few links policies order.Endpoint = endpoint-clear n doc some few links policies

none-first : (Makes : Try → Refusal → Type 0) → ((t : Try) → NoRefusal (Makes t)) → (ts : List Try) (r : Refusal) → IsFirstOf Makes ts r → ⊥
none-first Makes clear [] r first = first
none-first Makes clear (t ∷ ts) r first = ⊎_elim (λ (here : IsEarliest (Makes t) r). clear t r here.made) (λ (later : NoRefusal (Makes t) × IsFirstOf Makes ts r). none-first Makes clear ts r later.1)
    first

pub not-refused : GeneratedFilesAreNotRefused
not-refused n most generated r g refused =
    let few : n ≤ 40 = g.few in
    elim (subst (λ files. IsFirstRefusalWithin [] most generated.doc files r) g.is.files refused) [
      | inl faulty ↦ none-faulty n r few faulty
      | inr tried ↦
          let same = files-say n tried.configs few tried.said in
          let first : IsFirstOf (RefusesWithin [] most generated.doc (all_settings n)) tries r = subst (λ cs. IsFirstOf (RefusesWithin [] most generated.doc cs) tries r) same tried.first in
          none-first (RefusesWithin [] most generated.doc (all_settings n)) (all-clear most n generated.doc g.some few g.is.doc.links g.is.doc.policies) tries r first
    ]

nothing-in : {X : Type 0} (xs : List X) → ((x : X) → Contains xs x → ⊥) → xs ≡ []
nothing-in [] none = refl
nothing-in (x ∷ xs) none = absurd (none x (items.Contains-head x xs))

no-packet-row : (n : ℕ) (row : PacketList) → IsPacketListRow (all_settings n) row → ⊥
no-packet-row n row is =
    let at = mapped-at (settings_of n) 1 n row.router.0 is.config is.at_router in
    none-some row (subst (λ (c : Config). packet_row_at row.router.0 c row.name ≡ Some row) (sym at.1) is.defined)

no-route-row : (n : ℕ) (row : RouteList) → IsRouteListRow (all_settings n) row → ⊥
no-route-row n row is =
    let at = mapped-at (settings_of n) 1 n row.router.0 is.config is.at_router in
    none-some row (subst (λ (c : Config). route_row_at row.router.0 c row.name ≡ Some row) (sym at.1) is.defined)

names-are : (protocol : Protocol) (f : ℕ → Config) (g : ℕ → List ℕ) (xs : List ℕ) (rows : List RouterRow) → ((x : ℕ) → build.host_name (f x) ≡ g x) →
    AllZip (IsRouterRow protocol) (map f xs) rows → map (λ (r : RouterRow). r.name) rows ≡ map g xs
names-are protocol f g [] [] same zip = refl
names-are protocol f g (x ∷ xs) (r ∷ rows) same zip = ap (λ n. n ∷ map (λ (r : RouterRow). r.name) rows) (zip.0.name ∙ same x) ∙ ap (λ ns. g x ∷ ns) (names-are protocol f g xs rows same zip.1)
names-are protocol f g xs rows same zip = absurd zip

pub have-plan : GeneratedNetworksHaveTheirPlan
have-plan n most generated net g is =
    let few : n ≤ 40 = g.few in
    let some : 6 ≤ n = g.some in
    let doc = generated.doc in
    let said = subst (λ files. AllZip HasSettings files is.configs) g.is.files is.said in
    let rows : AreRows doc (all_settings n) net = subst (λ cs. AreRows doc cs net) (files-say n is.configs few said) is.rows in
    let base = rows.base in
    let ospf : net.protocol ≡ Ospf = base.protocol ∙ protocol-is n (omega arith) in
    let long : length (all_settings n) ≡ n = length-map (numbers n) (settings_of n) ∙ length-range_with_len 1 n in
    let zipped = AllZip-length (IsRouterRow net.protocol) (all_settings n) net.routers base.routers in
    let joined = AllZip-length (IsLinkRow (full_names (all_settings n))) doc.links net.links base.links in
    let counted : length doc.links ≡ link_count n = ap length g.is.doc.links ∙ length-map (numbers (link_count n)) _ ∙ length-range_with_len 1 (link_count n) in
    record {
      protocol = ospf;
      names = names-are net.protocol (settings_of n) host_name (numbers n) net.routers (λ x. refl) base.routers;
      routers = sym zipped ∙ long;
      links = sym joined ∙ counted;
      joined = joins n doc net rows some few g.is.doc.links;
      hosts = has-host n doc net rows some few g.is.doc.links;
      packet_lists = nothing-in net.packet_lists (λ row there. no-packet-row n row ((base.packet_lists.just row).0 there));
      route_lists = nothing-in net.route_lists (λ row there. no-route-row n row ((base.route_lists.just row).0 there));
      sessions = subst (λ p. AreSessions p (all_settings n) net.links (map route_list_key net.route_lists) net.sessions) ospf rows.sessions;
    }

pub have-policies : GeneratedDocumentsHaveTheirPolicies
have-policies n generated g = sym (AllZip-length Asks (asked n) generated.doc.policies g.is.doc.policies) ∙ asked_length n
