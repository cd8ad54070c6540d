-- There are few edits of a generated network.
use Rattle.std.proofs.Common.{◌≡◌, ℕ, zero, suc, ◌+◌, ◌*◌, ◌<◌, ◌≤◌, Bool, true, false, List, [], ◌∷◌, ◌++◌, length, map, refl, ap, subst, ◌∙◌, arith, length-append, not, if◌then◌else◌, mul-le-mul}
use Rattle.std.specs.List.{AllZip, enumerate_from, filter_map, flat_map, range_with_len}
use Rattle.std.proofs.lemmas.List.{length-map}
use Rattle.std.proofs.lemmas.List.Filters.{length-filter_both}
use Rattle.net_model.specs.declared.lists.PacketList.{PacketList}
use Rattle.net_model.specs.declared.lists.RouteList.{RouteList}
use Rattle.net_model.specs.declared.policies.Class.{Class}
use Rattle.net_model.specs.declared.policies.Document.{Document}
use Rattle.net_model.specs.declared.rows.LinkRow.{LinkRow}
use Rattle.net_model.specs.declared.rows.Network.{Network}
use Rattle.net_model.specs.declared.rows.SessionRow.{SessionRow}
use Rattle.arc_base.specs.declared.place.Face.{Face}
use Rattle.net_rules.specs.Lists.{packet_list_key}
use Rattle.net_build.specs.Networks.{HasSettings}
use Rattle.net_rules.specs.Rows.{IsFaceRow, AreRows}
use Rattle.net_rules.specs.Sites.{sites_of, sites, ends_of}
use Rattle.net_rules.proofs.Distinct.{at_Contains}
use Rattle.net_gen.specs.Generated.{Asks, asked}
use Rattle.traffic_classes.specs.AllClasses.{AreAllClasses, FirstHaveMore}
use Rattle.edit_list.specs.declared.edit_kinds.Edit.{Edit}
use Rattle.edit_list.specs.declared.edit_kinds.Edit.TheVariants as edits
use Rattle.edit_list.specs.declared.edit_kinds.EditFault.{EditFault}
use Rattle.edit_list.specs.declared.edit_kinds.EditFault.TheVariants.{Limit, Memory}
use Rattle.arc_base.specs.declared.refusal.LimitKind.TheVariants as limits
use Rattle.edit_list.specs.EditLists.{has_session, edits_at, link_edits, writable_classes, AreEdits, NamesLimit, HasEdits}
use Rattle.edit_list.specs.Writable.{is_writable}
use Rattle.arc_base.specs.Numbered.{placed}
use Rattle.edit_list.specs.Sites.{route_list_site, neighbor_site, packet_list_site, face_site, route_sites, packet_sites}
use Rattle.edit_list.proofs.Counts.{few_picked, few_placed, few_by_number, all_counted}
use Rattle.generated_network_laws.specs.Limits.{GeneratedNetworksHaveFewEdits}
use Rattle.generated_network_laws.proofs.Degrees.{degree}
use Rattle.generated_network_laws.proofs.FewClasses.{AreEven, one-class, few-classes, few-first, told-few}
use Rattle.generated_network_laws.proofs.FilesClear.{length-faces}
use Rattle.arc_base.proofs.Zips.{AllZip-left, AllZip-length}
use Rattle.generated_network_laws.proofs.Networks.{have-plan, have-policies}
use Rattle.generated_network_laws.proofs.Plans.{count-few}
use Rattle.generated_network_laws.proofs.Said.{links_of, settings_of, all_settings, files-say}
use Rattle.generated_network_laws.proofs.Settings.{link_faces}

-- the interfaces of all files
few-sites : (n a m i : ℕ) → 2 ≤ n → length (flat_map sites_of (enumerate_from i (map (settings_of n) (range_with_len a m)))) ≤ 4 * m
few-sites n a zero i some = omega arith
few-sites n a (suc m) i some =
    let rest = flat_map sites_of (enumerate_from (i + 1) (map (settings_of n) (range_with_len (a + 1) m))) in
    let first = sites_of (i, settings_of n a) in
    let deeper : length rest ≤ 4 * m = few-sites n (a + 1) m (i + 1) some in
    let own : length first ≡ suc (length (link_faces n a 5 (links_of n a))) = length-map (settings_of n a).faces _ in
    let over = length-faces n a 5 (links_of n a) in
    let three = degree n a some in
    let long : length (first ++ rest) ≡ length first + length rest = length-append first rest in
    omega arith

few-faces : (n : ℕ) (doc : Document) (net : Network) → AreRows doc (all_settings n) net → 2 ≤ n → length net.faces ≤ 4 * n
few-faces n doc net rows some =
    let zipped : length (sites (all_settings n)) ≡ length net.faces =
    AllZip-length (IsFaceRow net.protocol (ends_of doc.links) (map packet_list_key net.packet_lists)) (sites (all_settings n)) net.faces rows.base.faces in
    let all : length (sites (all_settings n)) ≤ 4 * n = few-sites n 1 n 0 some in
    omega arith

one-at : (net : Network) (face : Face) → length (edits_at net face) ≤ 1
one-at net face = by (has_session net.protocol net face)
  where
    by : (b : Bool) → length (if b then edits.Session face ∷ [] else []) ≤ 1
    by true = omega arith
    by false = omega arith

few-at-links : (net : Network) (links : List LinkRow) → length (flat_map (link_edits net) links) ≤ 2 * length links
few-at-links net [] = omega arith
few-at-links net (link ∷ links) =
    let a = one-at net link.a in
    let b = one-at net link.b in
    let both : length (link_edits net link) ≡ length (edits_at net link.a) + length (edits_at net link.b) = length-append (edits_at net link.a) (edits_at net link.b) in
    let deeper = few-at-links net links in
    let long : length (link_edits net link ++ flat_map (link_edits net) links) ≡ length (link_edits net link) + length (flat_map (link_edits net) links) =
    length-append (link_edits net link) (flat_map (link_edits net) links) in
    omega arith

-- no list and no session, so no site of routes; and packets have no more sites than interfaces
no-routes : (net : Network) → net.route_lists ≡ [] → net.sessions ≡ [] → length (route_sites net) ≤ 0
no-routes net no-lists no-sessions =
    let things = map route_list_site (placed net.route_lists) ++ filter_map (neighbor_site net) net.sessions in
    let all = few_by_number (length net.routers) things in
    let one : length (map route_list_site (placed net.route_lists)) ≡ 0 = ap (λ (ls : List RouteList). length (map route_list_site (placed ls))) no-lists in
    let two : length (filter_map (neighbor_site net) net.sessions) ≡ 0 = ap (λ (ss : List SessionRow). length (filter_map (neighbor_site net) ss)) no-sessions in
    let long : length things ≡ length (map route_list_site (placed net.route_lists)) + length (filter_map (neighbor_site net) net.sessions) =
    length-append (map route_list_site (placed net.route_lists)) (filter_map (neighbor_site net) net.sessions) in
    omega arith

few-packets : (net : Network) → net.packet_lists ≡ [] → length (packet_sites net) ≤ length net.faces
few-packets net no-lists =
    let front = filter_map packet_list_site (placed net.packet_lists) in
    let back = filter_map face_site (placed net.faces) in
    let all : length (packet_sites net) ≤ length (front ++ back) = few_by_number (length net.routers) (front ++ back) in
    let one : length front ≡ 0 = ap (λ (ls : List PacketList). length (filter_map packet_list_site (placed ls))) no-lists in
    let two : length back ≤ length (placed net.faces) = few_picked face_site (placed net.faces) in
    let three = few_placed net.faces in
    let long : length (front ++ back) ≡ length front + length back = length-append front back in
    omega arith

none-times : (x y : ℕ) → x ≤ 0 → x * y ≡ 0
none-times zero y low = omega arith
none-times (suc x) y low = absurd (omega arith)

few-edits : (n : ℕ) (doc : Document) (net : Network) (list : List Edit) → 2 ≤ n → n ≤ 40 → length net.faces ≤ 4 * n → length net.links ≤ 60 →
    net.packet_lists ≡ [] → net.route_lists ≡ [] → net.sessions ≡ [] →
    ((classes : List Class) → AreAllClasses net doc.policies doc.policies classes → length classes ≤ n + 1) → AreEdits net doc list → length list ≤ 8192
few-edits n doc net list some few faces links no-packets no-lists no-sessions classes are =
    let s = length (flat_map (link_edits net) net.links) in
    let r = length (route_sites net) in
    let p = length (packet_sites net) in
    let d = length are.destinations in
    let c = length (writable_classes are.classes) in
    let counted : length list ≡ s + r * d + p * c = ap length are.all ∙ all_counted net are.destinations are.classes s r p refl refl refl in
    let one : s ≤ 2 * length net.links = few-at-links net net.links in
    let two : r * d ≡ 0 = none-times r d (no-routes net no-lists no-sessions) in
    let at-faces : p ≤ length net.faces = few-packets net no-packets in
    let sites : p ≤ 160 = omega arith in
    let kinds : length are.classes ≤ n + 1 = classes are.classes are.classes_are in
    let both = length-filter_both (λ (class : Class). is_writable class.service) (λ (class : Class). not (is_writable class.service)) (λ class. refl) are.classes in
    let writable : c ≤ length are.classes = omega (arith, both) in
    let forty : c ≤ 41 = omega arith in
    let three : p * c ≤ 160 * 41 = mul-le-mul sites forty in
    omega arith

even : (doc : Document) (n : ℕ) → AllZip Asks (asked n) doc.policies → AreEven doc.policies
even doc n asks = record {
  from = λ p there. let at = at_Contains doc.policies p there in let ask = AllZip-left Asks (asked n) doc.policies asks at.0 p at.1 in ask.2.from.len;
  to = λ p there. let at = at_Contains doc.policies p there in let ask = AllZip-left Asks (asked n) doc.policies asks at.0 p at.1 in ask.2.to.len;
  service = λ p there. let at = at_Contains doc.policies p there in let ask = AllZip-left Asks (asked n) doc.policies asks at.0 p at.1 in ask.2.service;
}

no-limit : (n : ℕ) (net : Network) (doc : Document) → n ≤ 40 → ((count : ℕ) → FirstHaveMore net doc.policies count → count ≤ n + 1) →
    ((list : List Edit) → AreEdits net doc list → length list ≤ 8192) → (fault : EditFault) → NamesLimit net doc fault → fault ≡ Memory
no-limit n net doc few classes edits Memory names = refl
no-limit n net doc few classes edits (Limit limits.Classes count) names = let most = classes count names.0 in let more : 4096 < count = names.1 in absurd (omega arith)
no-limit n net doc few classes edits (Limit limits.Edits count) names =
    let has : HasEdits net doc count = names.1 in
    let more : 8192 < count = names.2 in
    let most = edits has.list has.are in
    let counted : length has.list ≡ count = has.counted in
    absurd (omega arith)
no-limit n net doc few classes edits (Limit _ count) names = absurd names

pub few-of-all : GeneratedNetworksHaveFewEdits
few-of-all n most generated net g is =
    let doc = generated.doc in
    let few : n ≤ 40 = g.few in
    let some : 6 ≤ n = g.some in
    let plan = have-plan n most generated net g is in
    let policies : length doc.policies ≡ n + 1 = have-policies n generated g in
    let evens = even doc n g.is.doc.policies in
    let said = subst (λ files. AllZip HasSettings files is.configs) g.is.files is.said in
    let rows : AreRows doc (all_settings n) net = subst (λ cs. AreRows doc cs net) (files-say n is.configs few said) is.rows in
    let links : length net.links ≤ 60 = let count = count-few n few in let same = plan.links in omega arith in
    let classes : (classes : List Class) → AreAllClasses net doc.policies doc.policies classes → length classes ≤ n + 1 =
    λ cs all. let least = few-classes net doc.policies doc.policies cs plan.packet_lists evens (λ p there. there) all in omega arith in
    let first : (count : ℕ) → FirstHaveMore net doc.policies count → count ≤ n + 1 = λ count more. let least = few-first net doc.policies count plan.packet_lists evens more in omega arith in
    let edits : (list : List Edit) → AreEdits net doc list → length list ≤ 8192 =
    λ list are. few-edits n doc net list (omega arith) few (few-faces n doc net rows (omega arith)) links plan.packet_lists plan.route_lists plan.sessions classes are in
    record {
      one_class = λ policy count there has. let one = one-class net doc.policies policy has.classes plan.packet_lists evens there has.are in let most : count ≤ length has.classes =
          told-few (length has.classes) count has.counted in omega arith;
      classes = classes;
      first_classes = first;
      edits = edits;
      no_limit = no-limit n net doc few first edits;
    }
