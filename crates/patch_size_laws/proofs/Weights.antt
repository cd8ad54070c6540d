-- Each edit belongs to one router, and to one interface or list of it.
use Rattle.std.proofs.Common.{◌≡◌, ◌≢◌, ℕ, ◌+◌, ◌≤◌, Bool, true, false, if◌then◌else◌, List, [], ◌∷◌, length, map, refl, ap, subst, arith}
use Rattle.std.specs.Prelude.{Option, Some, None, slice_get, option_map, AllPairs, Contains}
use Rattle.std.specs.List.{filter_map, range_with_len, cons_option, AllByRecursion}
use Rattle.std.proofs.lemmas.Option.{none-some, same_Some}
use Rattle.arc_base.proofs.Items.{AllPairs-first, AllPairs-rest, Contains-head, Contains-tail}
use Rattle.arc_base.proofs.Zips.{AllByRecursion-append}
use Rattle.net_model.specs.declared.rows.FaceRow.{FaceRow}
use Rattle.net_model.specs.declared.rows.Network.{Network}
use Rattle.net_model.specs.declared.rows.SessionRow.{SessionRow}
use Rattle.net_model.specs.declared.lists.PacketList.{PacketList}
use Rattle.net_model.specs.declared.lists.RouteList.{RouteList}
use Rattle.net_model.specs.Validity.{IsValid, AreSessionsApart}
use Rattle.edit_list.specs.declared.edit_kinds.Edit.{Edit}
use Rattle.edit_list.specs.declared.edit_kinds.Edit.TheVariants as edits
use Rattle.edit_list.specs.declared.list_kinds.NewList.{NewList}
use Rattle.edit_list.specs.declared.list_kinds.NewList.TheVariants.{Route, Packet}
use Rattle.edit_list.specs.Changes.{list_classes, list_prefixes, new_classes, new_prefixes, new_packet_change, new_route_change, packet_list_change, route_list_change}
use Rattle.edit_list.specs.NewLists.{new_lists, new_lists_of, new_packet_list, new_route_list}
use Rattle.arc_base.specs.Numbered.{is_empty, of_number, placed}
use Rattle.line_patcher.specs.EntryLines.{edited_by, edited_packet_lists, edited_route_lists}
use Rattle.line_patcher.specs.SessionLines.{turned_face, turned_faces}
use Rattle.patch_size_laws.proofs.Keyed.{total, total-append, total-le, total-map, total-ones, picked-few, zip-few, Apart, Other, apart-range, keyed-few, picked-all, numbered-all}
use Rattle.patch_size_laws.proofs.Costs.{new_size, weight}

total-add : {X : Type 0} (h g : X → ℕ) (xs : List X) → total (λ x. h x + g x) xs ≡ total h xs + total g xs
total-add h g [] = refl
total-add h g (x ∷ xs) = omega (arith, total-add h g xs)

-- the things of different numbers are no more than all
lengths-few : {X : Type 0} (things : List (ℕ × X)) (ks : List ℕ) → Apart ks → total (λ k. length (of_number k things)) ks ≤ length things
lengths-few {X} things ks apart =
    omega (
      arith,
      total-le (λ k. length (of_number k things)) (λ k. total (λ (x : X). 1) (of_number k things)) ks (λ k. omega (arith, total-ones (of_number k things))),
      keyed-few (λ (x : X). 1) things ks apart,
      total-ones things,
    )

-- whether there is something, as a number
abbrev count : {X : Type 0} → Option X → ℕ
count None = 0
count (Some x) = 1

count-small : {X : Type 0} (o : Option X) → count o ≤ 1
count-small None = omega arith
count-small (Some x) = omega arith

picked-count : {X Y : Type 0} (f : X → Option Y) (xs : List X) → length (filter_map f xs) ≡ total (λ x. count (f x)) xs
picked-count f [] = refl
picked-count {X} {Y} f (x ∷ xs) = by (f x) (picked-count f xs)
  where
    by : (o : Option Y) → length (filter_map f xs) ≡ total (λ y. count (f y)) xs → length (cons_option o (filter_map f xs)) ≡ count o + total (λ y. count (f y)) xs
    by None rest = omega (arith, rest)
    by (Some y) rest = omega (arith, rest)

module _ (net : Network) (valid : IsValid net) (chosen : List Edit) where
  -- each edit is of one kind
  abbrev kinds : Edit → ℕ
  kinds e = count (turned_face net e) + (count (packet_list_change e) + (count (route_list_change e) + (count (new_route_change e) + count (new_packet_change e))))

  one-kind : (e : Edit) → kinds e ≤ 1
  one-kind (edits.Session face) = omega (arith, count-small (turned_face net (edits.Session face)))
  one-kind (edits.RouteList list prefix) = omega arith
  one-kind (edits.RouteNew face prefix) = omega arith
  one-kind (edits.PacketList list class) = omega arith
  one-kind (edits.PacketNew face class) = omega arith

  all-kinds : length (filter_map (turned_face net) chosen) +
      (length (filter_map packet_list_change chosen) + (length
      (filter_map route_list_change chosen) + (length (filter_map new_route_change chosen) + length (filter_map new_packet_change chosen)))) ≤ length chosen
  all-kinds =
      omega (
        arith,
        picked-count (turned_face net) chosen,
        picked-count packet_list_change chosen,
        picked-count route_list_change chosen,
        picked-count new_route_change chosen,
        picked-count new_packet_change chosen,
        total-add (λ e. count (turned_face net e)) (λ e. count (packet_list_change e) + (count (route_list_change e) + (count (new_route_change e) + count (new_packet_change e)))) chosen,
        total-add (λ e. count (packet_list_change e)) (λ e. count (route_list_change e) + (count (new_route_change e) + count (new_packet_change e))) chosen,
        total-add (λ e. count (route_list_change e)) (λ e. count (new_route_change e) + count (new_packet_change e)) chosen,
        total-add (λ e. count (new_route_change e)) (λ e. count (new_packet_change e)) chosen,
        total-le kinds (λ (e : Edit). 1) chosen one-kind,
        total-ones chosen,
      )

  -- the sessions stand at different interfaces
  sessions-apart : (sessions : List SessionRow) → AllPairs (AreSessionsApart net) sessions → Apart (map (λ (s : SessionRow). s.face.0) sessions)
  sessions-apart [] apart = tt
  sessions-apart (s ∷ ss) apart = (others ss (λ t there. (AllPairs-first (AreSessionsApart net) s t ss apart there).0), sessions-apart ss (AllPairs-rest (AreSessionsApart net) s ss apart))
    where
      others : (ts : List SessionRow) → ((t : SessionRow) → Contains ts t → s.face.0 ≢ t.face.0) → Other s.face.0 (map (λ (t : SessionRow). t.face.0) ts)
      others [] each = tt
      others (t ∷ ts) each = (each t (Contains-head t ts), others ts (λ u there. each u (Contains-tail t u ts there)))

  route-list-few : (s : SessionRow) (y : ℕ × NewList) → new_route_list net chosen s ≡ Some y → new_size chosen y.1 ≤ length (new_prefixes chosen s.face.0)
  route-list-few s y is = by (is_empty (new_prefixes chosen s.face.0)) (slice_get net.faces s.face.0) is
    where
      by : (b : Bool) (o : Option FaceRow) → (if b then None else option_map (λ (face : FaceRow). (face.router.0, Route s.face)) o) ≡ Some y →
          new_size chosen y.1 ≤ length (new_prefixes chosen s.face.0)
      by true o e = absurd (none-some y e)
      by false None e = absurd (none-some y e)
      by false (Some row) e = omega (arith, ap (λ (z : ℕ × NewList). new_size chosen z.1) (same_Some (row.router.0, Route s.face) y e))

  packet-list-few : (f : ℕ × FaceRow) (y : ℕ × NewList) → new_packet_list chosen f ≡ Some y → new_size chosen y.1 ≤ length (new_classes chosen f.0)
  packet-list-few f y is = by (is_empty (new_classes chosen f.0)) is
    where
      by : (b : Bool) → (if b then None else Some (f.1.router.0, Packet (record { 0 = f.0 }))) ≡ Some y → new_size chosen y.1 ≤ length (new_classes chosen f.0)
      by true e = absurd (none-some y e)
      by false e = omega (arith, ap (λ (z : ℕ × NewList). new_size chosen z.1) (same_Some (f.1.router.0, Packet (record { 0 = f.0 })) y e))

  edited-few : {L X : Type 0} (router_of : L → ℕ) (change : Edit → Option (ℕ × X)) (p : ℕ × L) (y : ℕ × ℕ) → edited_by router_of change chosen p ≡ Some y →
      length (of_number y.1 (filter_map change chosen)) ≤ length (of_number p.0 (filter_map change chosen))
  edited-few router_of change p y is = by (is_empty (of_number p.0 (filter_map change chosen))) is
    where
      by : (b : Bool) → (if b then None else Some (router_of p.1, p.0)) ≡ Some y → length (of_number y.1 (filter_map change chosen)) ≤ length (of_number p.0 (filter_map change chosen))
      by true e = absurd (none-some y e)
      by false e = omega (arith, ap (λ (z : ℕ × ℕ). length (of_number z.1 (filter_map change chosen))) (same_Some (router_of p.1, p.0) y e))

  -- all routers have no more edits than there are
  pub weights-few : (n : ℕ) → total (weight net chosen) (range_with_len 0 n) ≤ length chosen
  weights-few n =
      let ks : List ℕ = range_with_len 0 n in
      let apart : Apart ks = apart-range 0 n in
      let size : NewList → ℕ = new_size chosen in
      let g : ℕ → ℕ = λ id. length (list_classes chosen id) in
      let h : ℕ → ℕ = λ id. length (list_prefixes chosen id) in
      let turned : ℕ → ℕ = λ r. length (turned_faces net chosen r) in
      let packets : ℕ → ℕ = λ r. total g (edited_packet_lists net chosen r) in
      let routes : ℕ → ℕ = λ r. total h (edited_route_lists net chosen r) in
      let news : ℕ → ℕ = λ r. total size (new_lists_of net chosen r) in
      let lists = placed net.packet_lists in
      let filters = placed net.route_lists in
      let faces = placed net.faces in
      omega (
        arith,
        total-add turned (λ r. packets r + (routes r + news r)) ks,
        total-add packets (λ r. routes r + news r) ks,
        total-add routes news ks,
        lengths-few (filter_map (turned_face net) chosen) ks apart,
        keyed-few g (filter_map (edited_by (λ (l : PacketList). l.router.0) packet_list_change chosen) lists) ks apart,
        picked-few (edited_by (λ (l : PacketList). l.router.0) packet_list_change chosen) (λ (y : ℕ × ℕ). g y.1) (λ (p : ℕ × PacketList). g p.0) lists
            (edited-few (λ (l : PacketList). l.router.0) packet_list_change),
        zip-few g (range_with_len 0 (length net.packet_lists)) net.packet_lists,
        lengths-few (filter_map packet_list_change chosen) (range_with_len 0 (length net.packet_lists)) (apart-range 0 (length net.packet_lists)),
        keyed-few h (filter_map (edited_by (λ (l : RouteList). l.router.0) route_list_change chosen) filters) ks apart,
        picked-few (edited_by (λ (l : RouteList). l.router.0) route_list_change chosen) (λ (y : ℕ × ℕ). h y.1) (λ (p : ℕ × RouteList). h p.0) filters
            (edited-few (λ (l : RouteList). l.router.0) route_list_change),
        zip-few h (range_with_len 0 (length net.route_lists)) net.route_lists,
        lengths-few (filter_map route_list_change chosen) (range_with_len 0 (length net.route_lists)) (apart-range 0 (length net.route_lists)),
        keyed-few size (new_lists net chosen) ks apart,
        total-append (λ (t : ℕ × NewList). size t.1) (filter_map (new_route_list net chosen) net.sessions) (filter_map (new_packet_list chosen) faces),
        picked-few (new_route_list net chosen) (λ (y : ℕ × NewList). size y.1) (λ (s : SessionRow). length (new_prefixes chosen s.face.0)) net.sessions route-list-few,
        total-map (λ face. length (new_prefixes chosen face)) (λ (s : SessionRow). s.face.0) net.sessions,
        lengths-few (filter_map new_route_change chosen) (map (λ (s : SessionRow). s.face.0) net.sessions) (sessions-apart net.sessions valid.sessions_apart),
        picked-few (new_packet_list chosen) (λ (y : ℕ × NewList). size y.1) (λ (f : ℕ × FaceRow). length (new_classes chosen f.0)) faces packet-list-few,
        zip-few (λ face. length (new_classes chosen face)) (range_with_len 0 (length net.faces)) net.faces,
        lengths-few (filter_map new_packet_change chosen) (range_with_len 0 (length net.faces)) (apart-range 0 (length net.faces)),
        all-kinds,
      )

  -- no new list is made of no edits
  abbrev IsFilled : NewList → Type 0
  IsFilled list = 1 ≤ new_size chosen list

  some-items : {X : Type 0} (xs : List X) → is_empty xs ≡ false → 1 ≤ length xs
  some-items [] e = absurd (cc)
  some-items (x ∷ xs) e = omega arith

  route-filled : (s : SessionRow) (y : ℕ × NewList) → new_route_list net chosen s ≡ Some y → IsFilled y.1
  route-filled s y is = by (is_empty (new_prefixes chosen s.face.0)) (slice_get net.faces s.face.0) refl is
    where
      by : (b : Bool) (o : Option FaceRow) → is_empty (new_prefixes chosen s.face.0) ≡ b →
          (if b then None else option_map (λ (face : FaceRow). (face.router.0, Route s.face)) o) ≡ Some y → IsFilled y.1
      by true o some e = absurd (none-some y e)
      by false None some e = absurd (none-some y e)
      by false (Some row) some e = subst (λ (z : ℕ × NewList). IsFilled z.1) (same_Some (row.router.0, Route s.face) y e) (some-items (new_prefixes chosen s.face.0) some)

  packet-filled : (f : ℕ × FaceRow) (y : ℕ × NewList) → new_packet_list chosen f ≡ Some y → IsFilled y.1
  packet-filled f y is = by (is_empty (new_classes chosen f.0)) refl is
    where
      by : (b : Bool) → is_empty (new_classes chosen f.0) ≡ b → (if b then None else Some (f.1.router.0, Packet (record { 0 = f.0 }))) ≡ Some y → IsFilled y.1
      by true some e = absurd (none-some y e)
      by false some e = subst (λ (z : ℕ × NewList). IsFilled z.1) (same_Some (f.1.router.0, Packet (record { 0 = f.0 })) y e) (some-items (new_classes chosen f.0) some)

  pub lists-filled : (router : ℕ) → AllByRecursion IsFilled (new_lists_of net chosen router)
  lists-filled router =
      numbered-all IsFilled router (new_lists net chosen)
      (AllByRecursion-append (λ (t : ℕ × NewList). IsFilled t.1) (filter_map (new_route_list net chosen) net.sessions) (filter_map (new_packet_list chosen) (placed net.faces))
      (picked-all (λ (t : ℕ × NewList). IsFilled t.1) (new_route_list net chosen) net.sessions route-filled)
      (picked-all (λ (t : ℕ × NewList). IsFilled t.1) (new_packet_list chosen) (placed net.faces) packet-filled))
