-- How many edits there are, and what the lister knows of sessions.
use Rattle.std.proofs.Common.{◌≡◌, ℕ, zero, suc, ◌+◌, ◌*◌, ◌^◌, ◌<◌, ◌≤◌, ◌==◌, ◌||◌, Bool, true, false, Option, Some, None}
use Rattle.std.proofs.Common.{is_some, List, [], ◌∷◌, ◌++◌, length, get_or, map, find, refl, sym, ◌∙◌, ap, arith, length-append, if◌then◌else◌}
use Rattle.std.specs.Prelude.{All}
use Rattle.std.specs.List.{filter_map, flat_map, cons_option, list_any, range_with_len, zip}
use Rattle.std.proofs.lemmas.Bool.{eqb-true}
use Rattle.std.proofs.lemmas.List.{length-map}
use Rattle.std.proofs.lemmas.List.Sums.{length-filter, count_by-le-length}
use Rattle.std.proofs.lemmas.List.Elements.{All-weaker}
use Rattle.std.proofs.lemmas.List.FromFn.{get_or-map-range_with_len, length-map-range_with_len}
use Rattle.std.proofs.lemmas.Option.{slice_get-get_or}
use Rattle.arc_base.specs.declared.prefix.Prefix.{Prefix}
use Rattle.net_model.specs.declared.policies.Class.{Class}
use Rattle.net_model.specs.declared.policies.Policy.{Policy}
use Rattle.net_model.specs.declared.lists.PacketList.{PacketList}
use Rattle.net_model.specs.declared.lists.RouteList.{RouteList}
use Rattle.net_model.specs.declared.rows.FaceRow.{FaceRow}
use Rattle.net_model.specs.declared.rows.SessionRow.{SessionRow}
use Rattle.net_model.specs.declared.rows.Network.{Network}
use Rattle.net_model.specs.Forwarding.{HasEnds, HasHost}
use Rattle.net_model.specs.Packets.{subject}
use Rattle.net_model.proofs.Hosts.{target_face}
use Rattle.edit_list.specs.declared.edit_kinds.Edit.{Edit}
use Rattle.edit_list.specs.declared.sites.Site.{Site}
use Rattle.edit_list.specs.EditLists.{link_edits, route_edit, packet_edit, all_edits, writable_classes}
use Rattle.edit_list.specs.Listing.{KnowsSessions}
use Rattle.arc_base.specs.Numbered.{placed, of_number, by_number, IsTableOf}
use Rattle.edit_list.specs.Writable.{is_writable}
use Rattle.edit_list.specs.Sites.{route_list_site, neighbor_site, packet_list_site, face_site, route_sites, packet_sites}

pub few_picked : {X Y : Type 0} (h : X → Option Y) (xs : List X) → length (filter_map h xs) ≤ length xs
few_picked h [] = omega arith
few_picked {X} {Y} h (x ∷ xs) = by (h x) (few_picked h xs)
  where
    by : (o : Option Y) → length (filter_map h xs) ≤ length xs → length (cons_option o (filter_map h xs)) ≤ length (x ∷ xs)
    by None l = omega (arith, l)
    by (Some y) l = omega (arith, l)

few_pairs : {X Y : Type 0} (xs : List X) (ys : List Y) → length (zip xs ys) ≤ length ys
few_pairs [] ys = omega arith
few_pairs (x ∷ xs) [] = omega arith
few_pairs (x ∷ xs) (y ∷ ys) = omega (arith, few_pairs xs ys)

pub few_placed : {X : Type 0} (xs : List X) → length (placed xs) ≤ length xs
few_placed xs = few_pairs (range_with_len 0 (length xs)) xs

-- things that are put together by their numbers are no more than there were
few_one : {X : Type 0} (x : ℕ × X) (xs : List (ℕ × X)) (start count : ℕ) →
    (length (flat_map (λ k. of_number k (x ∷ xs)) (range_with_len start count)) ≤ 1 + length (flat_map (λ k. of_number k xs) (range_with_len start count))) ×
    (x.0 < start → length (flat_map (λ k. of_number k (x ∷ xs)) (range_with_len start count)) ≤ length (flat_map (λ k. of_number k xs) (range_with_len start count)))
few_one x xs start zero = (omega arith, λ h. omega arith)
few_one {X} x xs start (suc count) = by (x.0 == start) refl (few_one x xs (start + 1) count)
  where
    split : (things : List (ℕ × X)) → length (flat_map (λ k. of_number k things) (range_with_len start (suc count))) ≡ length (of_number start things) + length
        (flat_map (λ k. of_number k things) (range_with_len (start + 1) count))
    split things = length-append (of_number start things) (flat_map (λ k. of_number k things) (range_with_len (start + 1) count))

    here : (b : Bool) → (x.0 == start) ≡ b → length (of_number start (x ∷ xs)) ≡ length (cons_option (if b then Some x.1 else None) (of_number start xs))
    here b e = ap (λ t. length (cons_option (if t then Some x.1 else None) (of_number start xs))) e

    by : (b : Bool) → (x.0 == start) ≡ b →
        (length (flat_map (λ k. of_number k (x ∷ xs)) (range_with_len (start + 1) count)) ≤ 1 + length (flat_map (λ k. of_number k xs) (range_with_len (start + 1) count))) ×
        (x.0 < start + 1 → length (flat_map (λ k. of_number k (x ∷ xs)) (range_with_len (start + 1) count)) ≤ length (flat_map (λ k. of_number k xs) (range_with_len (start + 1) count))) →
        (length (flat_map (λ k. of_number k (x ∷ xs)) (range_with_len start (suc count))) ≤ 1 + length (flat_map (λ k. of_number k xs) (range_with_len start (suc count)))) ×
        (x.0 < start → length (flat_map (λ k. of_number k (x ∷ xs)) (range_with_len start (suc count))) ≤ length (flat_map (λ k. of_number k xs) (range_with_len start (suc count))))
    by true e rest =
        let same : x.0 ≡ start = eqb-true x.0 start e in
        (omega (arith, split (x ∷ xs), split xs, here true e, rest.1 (omega (arith, same)), same), λ h. absurd (omega (arith, h, same)))
    by false e rest =
        (omega (arith, split (x ∷ xs), split xs, here false e, rest.0), λ h. omega (arith, split (x ∷ xs), split xs, here false e, rest.1 (omega (arith, h))))

no_groups : {X : Type 0} (things : List (ℕ × X)) (start count : ℕ) → things ≡ [] → length (flat_map (λ k. of_number k things) (range_with_len start count)) ≤ 0
no_groups things start zero none = omega arith
no_groups {X} things start (suc count) none =
    omega (
      arith,
      length-append (of_number start things) (flat_map (λ k. of_number k things) (range_with_len (start + 1) count)),
      ap (λ (l : List (ℕ × X)). length (of_number start l)) none,
      no_groups things (start + 1) count none,
    )

pub few_by_number : {X : Type 0} (count : ℕ) (things : List (ℕ × X)) → length (by_number count things) ≤ length things
few_by_number count [] = no_groups [] 0 count refl
few_by_number count (x ∷ xs) = omega (arith, (few_one x xs 0 count).0, few_by_number count xs)

pub few_sites : {X : Type 0} (count : ℕ) (things all more : List (ℕ × X)) (sites : List X) → sites ≡ by_number count things → things ≡ all ++ more →
    length all < 2 ^ 32 → length more < 2 ^ 32 → length sites < 2 ^ 33
few_sites count things all more sites are joined l m = omega (arith, ap length are, few_by_number count things, ap length joined, length-append all more, l, m)

-- no more classes can be written than there are
pub few_writable : (classes : List Class) → length (writable_classes classes) ≤ length classes
few_writable classes = omega (arith, length-filter (λ (class : Class). is_writable class.service) classes, count_by-le-length (λ (class : Class). is_writable class.service) classes)

-- as many edits at each site
pub edits_at_sites : {S X E : Type 0} (edit : S → X → E) (sites : List S) (things : List X) → length (flat_map (λ site. map (edit site) things) sites) ≡ length sites * length things
edits_at_sites edit [] things = omega arith
edits_at_sites edit (s ∷ sites) things =
    length-append (map (edit s) things) (flat_map (λ site. map (edit site) things) sites) ∙ grind (arith, length-map things (edit s), edits_at_sites edit sites things)

pub all_counted : (net : Network) (destinations : List Prefix) (classes : List Class) (sessions routes packets : ℕ) → sessions ≡ length (flat_map (link_edits net) net.links) →
    routes ≡ length (route_sites net) → packets ≡ length (packet_sites net) →
    length (all_edits net destinations classes) ≡ sessions + routes * length destinations + packets * length (writable_classes classes)
all_counted net destinations classes sessions routes packets is_sessions is_routes is_packets =
    let first : List Edit = flat_map (link_edits net) net.links in
    let second : List Edit = flat_map (λ site. map (route_edit site) destinations) (route_sites net) in
    let third : List Edit = flat_map (λ site. map (packet_edit site) (writable_classes classes)) (packet_sites net) in
    let joined : length ((first ++ second) ++ third) ≡ length first + length second + length third = length-append (first ++ second) third ∙ ap (λ n. n + length third) (length-append first second) in
    let at_routes : length second ≡ routes * length destinations = edits_at_sites route_edit (route_sites net) destinations ∙ ap (λ n. n * length destinations) (sym is_routes) in
    let at_packets : length third ≡ packets * length (writable_classes classes) =
    edits_at_sites packet_edit (packet_sites net) (writable_classes classes) ∙ ap (λ n. n * length (writable_classes classes)) (sym is_packets) in
    joined ∙ ap (λ n. n + length second + length third) (sym is_sessions) ∙ ap (λ n. sessions + n + length third) at_routes ∙ ap (λ n. sessions + routes * length destinations + n) at_packets

pub counted_all : (net : Network) (destinations : List Prefix) (classes : List Class) (sessions routes prefixes packets kinds : ℕ) →
    sessions ≡ length (flat_map (link_edits net) net.links) → routes ≡ length (route_sites net) →
    prefixes ≡ length destinations → packets ≡ length (packet_sites net) → kinds ≡ length (writable_classes classes) →
    length (all_edits net destinations classes) ≡ sessions + routes * prefixes + packets * kinds
counted_all net destinations classes sessions routes prefixes packets kinds is_sessions is_routes is_prefixes is_packets is_kinds =
    all_counted net destinations classes sessions routes packets is_sessions is_routes is_packets ∙ ap (λ n. sessions + routes * n + packets * length (writable_classes classes)) (sym is_prefixes) ∙
    ap (λ n. sessions + routes * prefixes + packets * n) (sym is_kinds)

-- the sites and the new lists are few
pub few_route_sites : (net : Network) (things all more : List (ℕ × Site)) (sites : List Site) (lists : List RouteList) (sessions : List SessionRow) → length lists < 2 ^ 32 → length sessions < 2 ^ 32 →
    all ≡ map route_list_site (placed lists) → more ≡ filter_map (neighbor_site net) sessions → things ≡ all ++ more → (count : ℕ) → sites ≡ by_number count things → length sites < 2 ^ 33
few_route_sites net things all more sites lists sessions few_lists few_sessions is_all is_more joined count are =
    few_sites count things all more sites are joined (omega (arith, ap length is_all, length-map (placed lists) route_list_site, few_placed lists, few_lists))
    (omega (arith, ap length is_more, few_picked (neighbor_site net) sessions, few_sessions))

pub few_packet_sites : (things all more : List (ℕ × Site)) (sites : List Site) (lists : List PacketList) (faces : List FaceRow) → length lists < 2 ^ 32 → length faces < 2 ^ 32 →
    all ≡ filter_map packet_list_site (placed lists) → more ≡ filter_map face_site (placed faces) → things ≡ all ++ more → (count : ℕ) → sites ≡ by_number count things → length sites < 2 ^ 33
few_packet_sites things all more sites lists faces few_lists few_faces is_all is_more joined count are =
    few_sites count things all more sites are joined (omega (arith, ap length is_all, few_picked packet_list_site (placed lists), few_placed lists, few_lists))
    (omega (arith, ap length is_more, few_picked face_site (placed faces), few_placed faces, few_faces))

pub few_new_lists : {X : Type 0} (h : SessionRow → Option X) (g : ℕ × FaceRow → Option X) (things all more : List X) (sessions : List SessionRow) (faces : List FaceRow) →
    length sessions < 2 ^ 32 → length faces < 2 ^ 32 →
    all ≡ filter_map h sessions → more ≡ filter_map g (placed faces) → things ≡ all ++ more → length things < 2 ^ 33
few_new_lists h g things all more sessions faces few_sessions few_faces is_all is_more joined =
    omega (arith, ap length joined, length-append all more, ap length is_all, few_picked h sessions, few_sessions, ap length is_more, few_picked g (placed faces), few_placed faces, few_faces)

-- the sites are put together
pub route_sites_are : (net : Network) (things all more : List (ℕ × Site)) (sites : List Site) (lists : List RouteList) (sessions : List SessionRow) →
    lists ≡ net.route_lists → sessions ≡ net.sessions →
    all ≡ map route_list_site (placed lists) → more ≡ filter_map (neighbor_site net) sessions → things ≡ all ++ more → (count : ℕ) →
    count ≡ length net.routers → sites ≡ by_number count things → sites ≡ route_sites net
route_sites_are net things all more sites lists sessions same_lists same_sessions is_all is_more joined count counted are =
    are ∙ ap (λ n. by_number n things) counted ∙
    ap (by_number (length net.routers)) (joined ∙ ap (λ l. l ++ more) (is_all ∙ ap (λ l. map route_list_site (placed l)) same_lists) ∙
    ap (λ l. map route_list_site (placed net.route_lists) ++ l) (is_more ∙ ap (filter_map (neighbor_site net)) same_sessions))

pub packet_sites_are : (net : Network) (things all more : List (ℕ × Site)) (sites : List Site) (lists : List PacketList) (faces : List FaceRow) → lists ≡ net.packet_lists → faces ≡ net.faces →
    all ≡ filter_map packet_list_site (placed lists) → more ≡ filter_map face_site (placed faces) → things ≡ all ++ more → (count : ℕ) →
    count ≡ length net.routers → sites ≡ by_number count things → sites ≡ packet_sites net
packet_sites_are net things all more sites lists faces same_lists same_faces is_all is_more joined count counted are =
    are ∙ ap (λ n. by_number n things) counted ∙
    ap (by_number (length net.routers)) (joined ∙ ap (λ l. l ++ more) (is_all ∙ ap (λ l. filter_map packet_list_site (placed l)) same_lists) ∙
    ap (λ l. filter_map packet_list_site (placed net.packet_lists) ++ l) (is_more ∙ ap (λ l. filter_map face_site (placed l)) same_faces))

-- policies with ends have host networks as destinations
pub have_hosts : (net : Network) (policies : List Policy) → All (λ p. HasEnds net (subject p)) policies → All (λ p. HasHost net p.to) policies
have_hosts net policies all =
    All-weaker (λ p. HasEnds net (subject p)) (λ p. HasHost net p.to) (λ p has. (has.ends.target, target_face net (subject p) has.ends has.are_ends)) policies all

-- a session stands at the interface exactly where one of the sessions' interfaces is this one
some_session : (sessions : List SessionRow) (k : ℕ) → list_any (λ n. n == k) (map (λ s. s.face.0) sessions) ≡ is_some (find (λ s. s.face.0 == k) sessions)
some_session [] k = refl
some_session (s ∷ sessions) k = by (s.face.0 == k) (some_session sessions k)
  where
    by : (b : Bool) → list_any (λ n. n == k) (map (λ s. s.face.0) sessions) ≡ is_some (find (λ s. s.face.0 == k) sessions) →
        (b || list_any (λ n. n == k) (map (λ s. s.face.0) sessions)) ≡ is_some (if b then Some s else find (λ s. s.face.0 == k) sessions)
    by true e = refl
    by false e = e

pub knows_sessions : (net : Network) (count : ℕ) (faces : List ℕ) (flags : List Bool) → faces ≡ map (λ s. s.face.0) net.sessions →
    IsTableOf count (λ k. list_any (λ n. n == k) faces) flags → KnowsSessions net flags
knows_sessions net count faces flags are told face within =
    let counted : face.0 < count = omega (arith, within, ap length told, length-map-range_with_len (λ k. list_any (λ n. n == k) faces) 0 count) in
    slice_get-get_or flags face.0 false within ∙
    ap Some (ap (λ l. get_or l face.0 false) told ∙ get_or-map-range_with_len (λ k. list_any (λ n. n == k) faces) 0 count face.0 face.0 false counted (omega arith) ∙
    ap (λ l. list_any (λ n. n == face.0) l) are ∙ some_session net.sessions face.0)
