-- Sessions in the network after edits, and what their flags and route lists answer.
use Rattle.std.proofs.Common.{◌≡◌, ◌≢◌, ℕ, ◌<◌, ◌≤◌, ◌==◌, ◌↔◌, ◌&&◌, ◌⊎◌, inl, inr, Bool, true, false, not}
use Rattle.std.proofs.Common.{IsTrue, Option, Some, None, List, [], ◌∷◌, length, get_or, refl, sym, ◌∙◌, ap, subst, arith}
use Rattle.std.specs.Prelude.{Contains, AllPairs, All, IfSome, IsSomeAnd, IsFalse, MatchBool, slice_get, find}
use Rattle.std.specs.List.{position_or_len}
use Rattle.std.specs.Option.{option_map_or}
use Rattle.std.proofs.lemmas.Bool.{false≢true, cases_lt, eqb-true}
use Rattle.std.proofs.lemmas.List.Elements.{All-contains}
use Rattle.std.proofs.lemmas.List.Folds.{find_at}
use Rattle.std.proofs.lemmas.List.Sums.{position_or_len_is, fails_before_first, passes_at_first}
use Rattle.std.proofs.lemmas.Option.{slice_get-get_or, get_or_from_slice_get, slice_get_past}
use Rattle.arc_base.specs.declared.place.Face.{Face}
use Rattle.arc_base.specs.declared.place.ListId.{ListId}
use Rattle.arc_base.specs.declared.prefix.Prefix.{Prefix}
use Rattle.net_model.specs.declared.lists.RouteList.{RouteList}
use Rattle.net_model.specs.declared.policies.Document.{Document}
use Rattle.net_model.specs.declared.rows.FaceRow.{FaceRow}
use Rattle.net_model.specs.declared.rows.SessionRow.{SessionRow}
use Rattle.net_model.specs.declared.rows.Protocol.{Protocol}
use Rattle.net_model.specs.declared.rows.Protocol.TheVariants.{Ospf, Bgp}
use Rattle.net_model.specs.declared.rows.Network.{Network}
use Rattle.net_model.specs.Decided.{is_open}
use Rattle.net_model.specs.Lists.{route_permits}
use Rattle.net_model.specs.Routing.{session_at, IsOpen, FilterPermits, RouteListPermits}
use Rattle.net_model.specs.Validity.{IsPlace, IsValidSession, FitsProtocol}
use Rattle.net_model.proofs.Readings.{item_at_place}
use Rattle.condition_formula.specs.Conditions.{comes_true}
use Rattle.condition_formula.specs.Laws.{chosen_in}
use Rattle.edit_list.specs.declared.edit_kinds.Edit.{Edit}
use Rattle.edit_list.specs.declared.edit_kinds.Edit.TheVariants as edits
use Rattle.edit_list.specs.After.{with_prefixes, edited_route_list, new_route_entries, turned_if, passive_after, IsNewRouteList}
use Rattle.edit_list.specs.After.{RouteListMoves, StaysBound, IsFilterAfter, IsFaceAfter, IsSessionAfter, IsAfter}
use Rattle.edit_list.specs.Changes.{list_prefixes, new_prefixes, turns_session}
use Rattle.arc_base.specs.Numbered.{is_empty}
use Rattle.edit_list.specs.Prices.{chosen_of}
use Rattle.network_edit_laws.proofs.Listed.{chosen_listed}
use Rattle.edit_list.proofs.RowFacts.{item_of, row_now}
use Rattle.network_edit_laws.proofs.Turning.{turning_prefixes, staying_prefixes}
use Rattle.policy_encode.specs.Answers.{session_condition, route_answer, filter_condition, route_condition}
use Rattle.policy_encode.specs.Laws.{IsEdited}
use Rattle.policy_encode.specs.Turning.{turned}
use Rattle.edit_list.proofs.Apart.{one_session}
use Rattle.network_edit_laws.proofs.Changed.{route_list_in, in_route_list, route_new_in, in_route_new, new_routes_unbound, session_in, in_session}
use Rattle.policy_encode.proofs.Chosen.{chosen_turns, others_stay, either_chosen}
use Rattle.edit_list.proofs.EditsApart.{all_different}
use Rattle.network_edit_laws.proofs.NewEntries.{new_takes, new_refuses}
use Rattle.network_edit_laws.proofs.Told.{some_item, no_item, told_by, at_some, both_by}

-- the session of the interface before and after
pub record HasSession (net : Network) (chosen : List Edit) (after : Network) (face : Face) : Type 0 where
  pub was : SessionRow
  pub now : SessionRow
  pub place : ℕ
  pub was_at : session_at net face ≡ Some was
  pub now_at : session_at after face ≡ Some now
  pub stands : slice_get net.sessions place ≡ Some was
  pub at_face : was.face.0 ≡ face.0
  pub is : IsSessionAfter net chosen after place was now

pub record HasNoSession (net after : Network) (face : Face) : Type 0 where
  pub was_none : session_at net face ≡ None
  pub now_none : session_at after face ≡ None

module _ (net : Network) (chosen : List Edit) (after : Network) (is : IsAfter net chosen after) (face : Face) where
  abbrev at : SessionRow → Bool
  at s = s.face.0 == face.0

  same_test : (i : ℕ) (d : SessionRow) → i < length net.sessions → at (get_or after.sessions i d) ≡ at (get_or net.sessions i d)
  same_test i d low =
      let r = row_now (IsSessionAfter net chosen after) net.sessions after.sessions is.sessions i (get_or net.sessions i d) (slice_get-get_or net.sessions i d low) in
      ap at (get_or_from_slice_get after.sessions i r.0 d r.1) ∙ ap at r.2.same

  none_after : length net.sessions ≤ position_or_len at net.sessions → session_at after face ≡ None
  none_after long = elim (cases_lt (position_or_len at after.sessions) (length after.sessions)) [
    | inl low ↦
        let n : ℕ = position_or_len at after.sessions in
        let d = item_of after.sessions n low in
        let whole : length after.sessions ≡ length net.sessions = is.sessions.whole in
        let short : n < length net.sessions = omega arith in
        absurd (false≢true (sym (fails_before_first at net.sessions n d.0 (omega arith)) ∙ sym (same_test n d.0 short) ∙ passes_at_first at after.sessions d.0 low))
    | inr past ↦ find_at at after.sessions ∙ slice_get_past after.sessions (position_or_len at after.sessions) past
  ]

  some_after : position_or_len at net.sessions < length net.sessions → HasSession net chosen after face
  some_after low =
      let n : ℕ = position_or_len at net.sessions in
      let d = item_of net.sessions n low in
      let r = row_now (IsSessionAfter net chosen after) net.sessions after.sessions is.sessions n d.0 d.1 in
      let whole : length after.sessions ≡ length net.sessions = is.sessions.whole in
      let same : position_or_len at after.sessions ≡ n =
      position_or_len_is at after.sessions n d.0 (omega arith)
      (λ i less. same_test i d.0 (omega arith) ∙ fails_before_first at net.sessions i d.0 less)
      (λ l. same_test n d.0 low ∙ passes_at_first at net.sessions d.0 low) in
      record {
        was = d.0;
        now = r.0;
        place = n;
        was_at = find_at at net.sessions ∙ d.1;
        now_at = find_at at after.sessions ∙ ap (λ m. slice_get after.sessions m) same ∙ r.1;
        stands = d.1;
        at_face = eqb-true d.0.face.0 face.0 (ap at (sym (get_or_from_slice_get net.sessions n d.0 d.0 d.1)) ∙ passes_at_first at net.sessions d.0 low);
        is = r.2;
      }

  -- an interface has a session before and after, or neither
  pub sessions_match : HasNoSession net after face ⊎ HasSession net chosen after face
  sessions_match = elim (cases_lt (position_or_len at net.sessions) (length net.sessions)) [
    | inl low ↦ inr (some_after low)
    | inr past ↦ inl (record {
      was_none = find_at at net.sessions ∙ slice_get_past net.sessions (position_or_len at net.sessions) past;
      now_none = none_after past;
    })
  ]

module _ (net : Network) (doc : Document) (list : List Edit) (flags : List Bool) (after : Network) (ed : IsEdited net doc list flags after) where
  apart : AllPairs (λ (e : Edit) (f : Edit). e ≢ f) list
  apart = all_different net doc list ed.valid ed.edits

  module _ (to : Prefix) where
    edited_value : (id : ListId) (was : RouteList) → slice_get net.route_lists id.0 ≡ Some was →
        route_permits (with_prefixes was.entries (list_prefixes (chosen_of list flags) id.0)) to ≡ comes_true (chosen_in flags) (turned list (edits.RouteList id to) (route_answer net id to))
    edited_value id was at =
        let ps = list_prefixes (chosen_of list flags) id.0 in
        let answer : route_permits was.entries to ≡ route_answer net id to = ap (λ o. option_map_or (λ (l : RouteList). route_permits l.entries to) o false) (sym at) in
        elim (either_chosen list flags (edits.RouteList id to) apart) [
          | inl picked ↦
              turning_prefixes was.entries ps to (in_route_list (chosen_of list flags) id to picked) ∙ ap not answer ∙
              sym (chosen_turns list apart flags (edits.RouteList id to) (route_answer net id to) picked)
          | inr unpicked ↦
              staying_prefixes was.entries ps to (λ m. unpicked (route_list_in (chosen_of list flags) id to m)) ∙ answer ∙
              sym (others_stay list apart flags (edits.RouteList id to) (route_answer net id to) unpicked)
        ]

    by_place : (was now : ListId) (o : Option RouteList) → slice_get net.route_lists was.0 ≡ o →
        IsSomeAnd o (λ l. slice_get after.route_lists now.0 ≡ Some (edited_route_list (chosen_of list flags) was.0 l)) →
        RouteListPermits after (Some now) to ↔ IsTrue (comes_true (chosen_in flags) (turned list (edits.RouteList was to) (route_answer net was to)))
    by_place was now None at moves = absurd moves
    by_place was now (Some l) at moves =
        both_by (at_some (λ (k : RouteList). IsTrue (route_permits k.entries to)) (slice_get after.route_lists now.0) (edited_route_list (chosen_of list flags) was.0 l) moves)
        (told_by (route_permits (with_prefixes l.entries (list_prefixes (chosen_of list flags) was.0)) to)
        (comes_true (chosen_in flags) (turned list (edits.RouteList was to) (route_answer net was to))) (edited_value was l at))

    bound_value : (was : ListId) (n : Option ListId) → IsSomeAnd n (RouteListMoves net (chosen_of list flags) after was) →
        RouteListPermits after n to ↔ IsTrue (comes_true (chosen_in flags) (turned list (edits.RouteList was to) (route_answer net was to)))
    bound_value was None moves = absurd moves
    bound_value was (Some now) moves = by_place was now (slice_get net.route_lists was.0) refl moves

    module _ (s : SessionRow) (stands : Contains net.sessions s) where
      none_new : IfSome s.filter (λ id. IsPlace net.route_lists id.0 × IsTrue s.bound) → (id : ListId) → s.filter ≡ Some id → (p : Prefix) →
          Contains (new_prefixes (chosen_of list flags) s.face.0) p → ⊥
      none_new valid id e p m =
          let bound = subst (λ (o : Option ListId). IfSome o (λ i. IsPlace net.route_lists i.0 × IsTrue s.bound)) e valid in
          let new : Contains (chosen_of list flags) (edits.RouteNew s.face p) = route_new_in (chosen_of list flags) s.face p m in
          let t = new_routes_unbound net doc list ed.edits s.face p (chosen_listed list flags (edits.RouteNew s.face p) new) in
          let same : t.0 ≡ s = one_session net ed.valid t.0 s t.1 stands (ap (λ (f : Face). f.0) t.2) in
          false≢true (sym t.3 ∙ ap (λ (x : SessionRow). x.bound) same ∙ bound.1)

      new_answer : route_permits (new_route_entries (new_prefixes (chosen_of list flags) s.face.0)) to ≡ comes_true (chosen_in flags) (turned list (edits.RouteNew s.face to) true)
      new_answer = elim (either_chosen list flags (edits.RouteNew s.face to) apart) [
        | inl picked ↦ new_refuses to (new_prefixes (chosen_of list flags) s.face.0) (in_route_new (chosen_of list flags) s.face to picked)
            ∙ sym (chosen_turns list apart flags (edits.RouteNew s.face to) true picked)
        | inr unpicked ↦ new_takes to (new_prefixes (chosen_of list flags) s.face.0) (λ m. unpicked (route_new_in (chosen_of list flags) s.face to m))
            ∙ sym (others_stay list apart flags (edits.RouteNew s.face to) true unpicked)
      ]

      new_list : (o : Option RouteList) → IsSomeAnd o (IsNewRouteList net (chosen_of list flags) s.face) →
          IsSomeAnd o (λ (l : RouteList). IsTrue (route_permits l.entries to)) ↔ IsTrue (comes_true (chosen_in flags) (turned list (edits.RouteNew s.face to) true))
      new_list None h = absurd h
      new_list (Some l) h = told_by (route_permits l.entries to) (comes_true (chosen_in flags) (turned list (edits.RouteNew s.face to) true)) (ap (λ es. route_permits es to) h.entries ∙ new_answer)

      new_value : (n : Option ListId) → IsSomeAnd n (λ id. IsSomeAnd (slice_get after.route_lists id.0) (IsNewRouteList net (chosen_of list flags) s.face)) →
          RouteListPermits after n to ↔ IsTrue (comes_true (chosen_in flags) (turned list (edits.RouteNew s.face to) true))
      new_value None h = absurd h
      new_value (Some id) h = new_list (slice_get after.route_lists id.0) h

      by_new : (o n : Option ListId) → s.filter ≡ o → IfSome s.filter (λ id. IsPlace net.route_lists id.0 × IsTrue s.bound) → (b : Bool) → is_empty (new_prefixes (chosen_of list flags) s.face.0) ≡ b →
          MatchBool b (StaysBound (RouteListMoves net (chosen_of list flags) after) o n)
          (IsSomeAnd n (λ id. IsSomeAnd (slice_get after.route_lists id.0) (IsNewRouteList net (chosen_of list flags) s.face))) →
          RouteListPermits after n to ↔ IsTrue (comes_true (chosen_in flags) (filter_condition net list to s.face o))
      by_new None n e valid true empty h = (
        λ k. others_stay list apart flags (edits.RouteNew s.face to) true
            (λ picked. no_item (new_prefixes (chosen_of list flags) s.face.0) empty to (in_route_new (chosen_of list flags) s.face to picked)),
        λ k. subst (λ (p : Option ListId). RouteListPermits after p to) (sym h) tt,
      )
      by_new None n e valid false empty h = new_value n h
      by_new (Some was) n e valid true empty h = bound_value was n h
      by_new (Some was) n e valid false empty h = let p = some_item (new_prefixes (chosen_of list flags) s.face.0) empty in absurd (none_new valid was e p.0 p.1)

      filter_value : (n : Option ListId) → IsFilterAfter net (chosen_of list flags) after s.face s.filter n →
          RouteListPermits after n to ↔ IsTrue (comes_true (chosen_in flags) (filter_condition net list to s.face s.filter))
      filter_value n h =
          let is : IsValidSession net s = All-contains (IsValidSession net) net.sessions s ed.valid.sessions stands in
          by_new s.filter n refl is.filter (is_empty (new_prefixes (chosen_of list flags) s.face.0)) refl h

    -- what an interface takes after the edits is what its condition says
    pub route_value : (face : Face) → FilterPermits after (session_at after face) to ↔ IsTrue (comes_true (chosen_in flags) (route_condition net list to face (session_at net face)))
    route_value face = elim (sessions_match net (chosen_of list flags) after ed.is_after face) [
      | inl unpicked ↦ (
        λ h. subst (λ (o : Option SessionRow). IsTrue (comes_true (chosen_in flags) (route_condition net list to face o))) (sym unpicked.was_none) refl,
        λ h. subst (λ (o : Option SessionRow). FilterPermits after o to) (sym unpicked.now_none) tt,
      )
      | inr has ↦
          let stands : Contains net.sessions has.was = item_at_place net.sessions has.place has.was has.stands in
          let value = filter_value has.was stands has.now.filter has.is.filter in
          let C : Face → Option SessionRow → Type 0 = λ f o. IsTrue (comes_true (chosen_in flags) (route_condition net list to f o)) in
          let same : ◌≡◌ {A = Face} has.was.face face = let face_of : ℕ → Face = λ n. record { 0 = n } in ap face_of has.at_face in (
            λ h. subst (λ (o : Option SessionRow). C face o) (sym has.was_at)
                (subst (λ (f : Face). C f (Some has.was)) same (value.0 (subst (λ (o : Option SessionRow). FilterPermits after o to) has.now_at h))),
            λ h. subst (λ (o : Option SessionRow). FilterPermits after o to) (sym has.now_at)
                (value.1 (subst (λ (f : Face). C f (Some has.was)) (sym same) (subst (λ (o : Option SessionRow). C face o) has.was_at h))),
          )
    ]

  -- flags

  turn_of : (face : Face) (flag now : Bool) → now ≡ turned_if (turns_session (chosen_of list flags) face.0) flag → (rest : Bool) → rest ≡ true →
      not now ≡ comes_true (chosen_in flags) (turned list (edits.Session face) (not flag && rest))
  turn_of face flag now is rest all = by (turns_session (chosen_of list flags) face.0) refl
    where
      with_rest : (b : Bool) → (b && rest) ≡ b
      with_rest true = all
      with_rest false = refl

      by : (t : Bool) → turns_session (chosen_of list flags) face.0 ≡ t → not now ≡ comes_true (chosen_in flags) (turned list (edits.Session face) (not flag && rest))
      by true t =
          ap not (is ∙ ap (λ b. turned_if b flag) t) ∙ ap not (sym (with_rest (not flag))) ∙
          sym (chosen_turns list apart flags (edits.Session face) (not flag && rest) (session_in (chosen_of list flags) face t))
      by false t =
          ap not (is ∙ ap (λ b. turned_if b flag) t) ∙ sym (with_rest (not flag)) ∙
          sym (others_stay list apart flags (edits.Session face) (not flag && rest) (λ m. false≢true (sym t ∙ in_session (chosen_of list flags) face m)))

  not_true : (b : Bool) → not b ≡ true → IsFalse b
  not_true true e = absurd (false≢true e)
  not_true false e = refl

  -- whether an interface of an able link talks to its neighbour
  pub open_value : (face : Face) (was now : FaceRow) → IsFaceAfter net (chosen_of list flags) after face.0 was now → slice_get net.faces face.0 ≡ Some was →
      (net.protocol ≡ Bgp → session_at net face ≡ None → ⊥) →
      IsOpen (session_at after face) now ↔ IsTrue (comes_true (chosen_in flags) (session_condition net list face was))
  open_value face was now row at able = by net.protocol refl ed.valid.protocol row.passive
    where
      by_ospf : session_at net face ≡ None → session_at after face ≡ None → now.passive ≡ turned_if (turns_session (chosen_of list flags) face.0) was.passive →
          IsOpen (session_at after face) now ↔ IsTrue (comes_true (chosen_in flags) (session_condition net list face was))
      by_ospf was_none now_none passive =
          let value : not now.passive ≡ comes_true (chosen_in flags) (turned list (edits.Session face) (is_open None was)) = turn_of face was.passive now.passive passive true refl in
          let D : Option SessionRow → Type 0 = λ o. IsTrue (comes_true (chosen_in flags) (turned list (edits.Session face) (is_open o was))) in (
            λ h. subst D (sym was_none) (sym value ∙ ap not h.active),
            λ h. record {
              active = not_true now.passive (value ∙ subst D was_none h);
              not_down = subst (λ (o : Option SessionRow). IfSome o (λ s. IsFalse s.down)) (sym now_none) tt;
            },
          )

      by_bgp : now.passive ≡ was.passive → IsFalse was.passive → (has : HasSession net (chosen_of list flags) after face) →
          IsOpen (session_at after face) now ↔ IsTrue (comes_true (chosen_in flags) (session_condition net list face was))
      by_bgp passive active has =
          let down : has.now.down ≡ turned_if (turns_session (chosen_of list flags) face.0) has.was.down =
          has.is.down ∙ ap (λ n. turned_if (turns_session (chosen_of list flags) n) has.was.down) has.at_face in
          let turned_down : not has.now.down ≡ comes_true (chosen_in flags) (turned list (edits.Session face) (not has.was.down && true)) = turn_of face has.was.down has.now.down down true refl in
          let with_true : (b : Bool) → (b && true) ≡ b = λ b. elim b as (λ c. (c && true) ≡ c) [ true ↦ refl | false ↦ refl ] in
          let open_is : is_open (Some has.was) was ≡ (not has.was.down && true) = ap (λ b. not b && not has.was.down) active ∙ sym (with_true (not has.was.down)) in
          let value : not has.now.down ≡ comes_true (chosen_in flags) (turned list (edits.Session face) (is_open (Some has.was) was)) =
          turned_down ∙ ap (λ b. comes_true (chosen_in flags) (turned list (edits.Session face) b)) (sym open_is) in
          let D : Option SessionRow → Type 0 = λ o. IsTrue (comes_true (chosen_in flags) (turned list (edits.Session face) (is_open o was))) in
          let E : Option SessionRow → Type 0 = λ o. IfSome o (λ s. IsFalse s.down) in (
            λ h. subst D (sym has.was_at) (let d : IsFalse has.now.down = subst E has.now_at h.not_down in sym value ∙ ap not d),
            λ h. record {
              active = passive ∙ active;
              not_down = subst E (sym has.now_at) (not_true has.now.down (value ∙ subst D has.was_at h));
            },
          )

      none_in : (xs : List SessionRow) → xs ≡ [] → find (λ (s : SessionRow). s.face.0 == face.0) xs ≡ None
      none_in xs e = ap (λ (l : List SessionRow). find (λ (s : SessionRow). s.face.0 == face.0) l) e

      no_rows : (xs : List SessionRow) → length xs ≡ 0 → xs ≡ []
      no_rows [] e = refl
      no_rows (x ∷ xs) e = absurd (omega (arith, e))

      by : (protocol : Protocol) → net.protocol ≡ protocol → FitsProtocol net.protocol net → now.passive ≡ passive_after net.protocol (chosen_of list flags) face.0 was.passive →
          IsOpen (session_at after face) now ↔ IsTrue (comes_true (chosen_in flags) (session_condition net list face was))
      by Ospf e fits passive =
          let none : net.sessions ≡ [] = subst (λ (q : Protocol). FitsProtocol q net) e fits in
          let whole : length after.sessions ≡ length net.sessions = ed.is_after.sessions.whole in
          let after_none : after.sessions ≡ [] = no_rows after.sessions (whole ∙ ap length none) in
          by_ospf (none_in net.sessions none) (none_in after.sessions after_none) (passive ∙ ap (λ q. passive_after q (chosen_of list flags) face.0 was.passive) e)
      by Bgp e fits passive =
          let all : All (λ (f : FaceRow). IsFalse f.passive) net.faces = subst (λ (q : Protocol). FitsProtocol q net) e fits in
          let active : IsFalse was.passive = All-contains (λ (f : FaceRow). IsFalse f.passive) net.faces was all (item_at_place net.faces face.0 was at) in
          elim (sessions_match net (chosen_of list flags) after ed.is_after face) [
            | inl unpicked ↦ absurd (able e unpicked.was_none)
            | inr has ↦ by_bgp (passive ∙ ap (λ q. passive_after q (chosen_of list flags) face.0 was.passive) e) active has
          ]
