-- The sessions grow by that over one more end of a link, router by router.
use Rattle.std.proofs.Common.{◌≡◌, ℕ, ◌+◌, ◌*◌, ◌<◌, ◌≤◌, ◌⊎◌, inl, inr, Bool, true, false, List, [], ◌∷◌, ◌++◌, length, get_or, Some, refl, sym, ◌∙◌, ap, subst, arith}
use Rattle.std.specs.Prelude.{Contains, slice_get, map, is_some}
use Rattle.std.proofs.lemmas.Bool.{cases_lt}
use Rattle.std.proofs.lemmas.List.{get_or_default}
use Rattle.std.proofs.lemmas.List.Quantifiers.{all_pairs_push}
use Rattle.std.proofs.lemmas.List.Elements.{Contains-append_left, Contains-append_right, Contains-append_cases}
use Rattle.std.proofs.lemmas.Option.{same_Some, slice_get_within}
use Rattle.arc_base.specs.declared.place.Face.{Face}
use Rattle.net_model.specs.declared.rows.FaceRow.{FaceRow}
use Rattle.net_model.specs.declared.rows.LinkRow.{LinkRow}
use Rattle.net_model.specs.declared.rows.Network.{Network}
use Rattle.net_model.specs.declared.rows.SessionRow.{SessionRow}
use Rattle.net_model.specs.Routing.{tail_end, head_end}
use Rattle.ios_config.specs.declared.settings.Config.{Config}
use Rattle.arc_base.specs.Lists.{AreDistinct}
use Rattle.net_rules.specs.Settings.{lines_of}
use Rattle.net_rules.specs.Neighbors.{remote_of, is_down, filter_of}
use Rattle.net_rules.specs.Sites.{Site, sites, ends_of}
use Rattle.net_rules.specs.Lists.{IsPlaceAmong, packet_list_key}
use Rattle.net_rules.specs.Ordered.{AreInOrder}
use Rattle.net_rules.specs.Rows.{IsFaceRow, IsConfigured, IsSessionOf, IsSession, IsSessionBefore}
use Rattle.row_making.specs.Sessions.{IsSessionOver, AddsOne, AreFilesOf, end_place, IsSessionTo, AreSessionsTo}
use Rattle.arc_base.proofs.Items.{Contains-cases, Contains-head, Contains-none}
use Rattle.arc_base.proofs.Zips.{AllZip-left, AllZip-right}
use Rattle.net_rules.proofs.SameRows.{one_list_place}
use Rattle.net_rules.proofs.SpotSites.{site_file}
use Rattle.row_making.proofs.SessionEnds.{one_end, one_near, two_routers}

same_session : (s t : SessionRow) → s.face ≡ t.face → s.peer ≡ t.peer → s.remote ≡ t.remote → s.down ≡ t.down → s.bound ≡ t.bound → s.filter ≡ t.filter → s ≡ t
same_session s t face peer remote down bound filter =
    λ i. record { face = face i; peer = peer i; remote = remote i; down = down i; bound = bound i; filter = filter i }

-- a router has one session over an end of a link
one_session : (faces : List FaceRow) (lists : List (ℕ × List ℕ)) → AreDistinct lists → (router : ℕ) (config : Config) (near far : Face) (s t : SessionRow) →
    IsSessionOver faces lists router config near far s → IsSessionOver faces lists router config near far t → s ≡ t
one_session faces lists distinct router config near far s t one other =
    let rows : one.far_row ≡ other.far_row = same_Some one.far_row other.far_row (sym one.at_far ∙ other.at_far) in
    let peer : s.peer ≡ t.peer = same_Some s.peer t.peer (sym one.peer ∙ ap (λ (r : FaceRow). r.addr) rows ∙ other.peer) in
    let configured : IsConfigured lists router config t = other.configured in
    let again : IsConfigured lists router config s = one.configured in
    same_session s t (one.face ∙ sym other.face) peer
    (same_Some s.remote t.remote (sym again.remote ∙ ap (λ (p : ℕ). remote_of (lines_of config) p) peer ∙ configured.remote))
    (again.down ∙ ap (λ (p : ℕ). is_down (lines_of config) p) peer ∙ sym configured.down)
    (again.bound ∙ ap (λ (p : ℕ). is_some (filter_of (lines_of config) p)) peer ∙ sym configured.bound)
    (one_list_place lists distinct router (filter_of (lines_of config) t.peer) s.filter t.filter
    (subst (λ (p : ℕ). IsPlaceAmong lists router (filter_of (lines_of config) p) s.filter) peer again.filter) configured.filter)

-- a session of the files, as the rows show it
to_over : (configs : List Config) (net : Network) (lists : List (ℕ × List ℕ)) → AreFilesOf configs net lists → (router : ℕ) (config : Config) → slice_get configs router ≡ Some config →
    (link : ℕ) (from : Bool) (s : SessionRow) (one : IsSessionOf configs net.links lists link from s) → one.near.router ≡ router →
    IsSessionOver net.faces lists router config (tail_end one.row from) (head_end one.row from) s
to_over configs net lists files router config at link from s one own =
    let R : Site → FaceRow → Type 0 = IsFaceRow net.protocol (ends_of files.doc.links) (map packet_list_key net.packet_lists) in
    let near = AllZip-right R (sites configs) net.faces files.base.faces s.face.0 one.near one.at_near in
    let far = AllZip-right R (sites configs) net.faces files.base.faces (head_end one.row from).0 one.far one.at_far in
    let file : one.near.config ≡ config = same_Some one.near.config config
    (sym (site_file configs s.face.0 one.near one.at_near) ∙ ap (λ (k : ℕ). slice_get configs k) own ∙ at) in
    record {
      near_row = near.0;
      at_near = ap (λ (k : ℕ). slice_get net.faces k) one.near_end ∙ near.1;
      own = near.2.router ∙ own;
      far_row = far.0;
      at_far = far.1;
      face = ap (λ (n : ℕ). let face : Face = record { 0 = n } in face) (sym one.near_end);
      peer = far.2.addr ∙ one.peer;
      configured = subst (λ (c : Config). IsConfigured lists router c s) file (subst (λ (r : ℕ). IsConfigured lists r one.near.config s) own one.configured);
    }

-- and what the rows show, of the files
from_over : (configs : List Config) (net : Network) (lists : List (ℕ × List ℕ)) → AreFilesOf configs net lists → (router : ℕ) (config : Config) → slice_get configs router ≡ Some config →
    (link : ℕ) (from : Bool) (row : LinkRow) → slice_get net.links link ≡ Some row → (s : SessionRow) → IsSessionOver net.faces lists router config (tail_end row from) (head_end row from) s →
    (one : IsSessionOf configs net.links lists link from s) × (one.near.router ≡ router)
from_over configs net lists files router config at link from row at_link s over =
    let R : Site → FaceRow → Type 0 = IsFaceRow net.protocol (ends_of files.doc.links) (map packet_list_key net.packet_lists) in
    let near = AllZip-left R (sites configs) net.faces files.base.faces (tail_end row from).0 over.near_row over.at_near in
    let far = AllZip-left R (sites configs) net.faces files.base.faces (head_end row from).0 over.far_row over.at_far in
    let face : s.face.0 ≡ (tail_end row from).0 = ap (λ (f : Face). f.0) over.face in
    let own : near.0.router ≡ router = sym near.2.router ∙ over.own in
    let file : config ≡ near.0.config = same_Some config near.0.config
    (sym at ∙ ap (λ (k : ℕ). slice_get configs k) (sym own) ∙ site_file configs (tail_end row from).0 near.0 near.1) in
    let here : IsConfigured lists near.0.router near.0.config s =
    subst (λ (c : Config). IsConfigured lists near.0.router c s) file (subst (λ (r : ℕ). IsConfigured lists r config s) (sym own) over.configured) in (
      record {
        row = row;
        at_link = at_link;
        near = near.0;
        at_near = ap (λ (k : ℕ). slice_get (sites configs) k) face ∙ near.1;
        near_end = sym face;
        far = far.0;
        at_far = far.1;
        peer = sym far.2.addr ∙ over.peer;
        configured = here;
      },
      own,
    )

-- ends at one place are one end
same_place : (i j : ℕ) (from to : Bool) → end_place i from ≡ end_place j to → (i ≡ j) × (from ≡ to)
same_place i j true true e = (omega (arith, e), refl)
same_place i j false false e = (omega (arith, e), refl)
same_place i j true false e = absurd (omega (arith, e))
same_place i j false true e = absurd (omega (arith, e))

-- an end before another, of no earlier link, is the other end of its link
last_end : (i j : ℕ) (from to : Bool) → end_place i from < end_place j to → j ≤ i → (i ≡ j) × (from ≡ true) × (to ≡ false)
last_end i j true true less h = absurd (omega (arith, less, h))
last_end i j true false less h = (omega (arith, less, h), refl, refl)
last_end i j false true less h = absurd (omega (arith, less, h))
last_end i j false false less h = absurd (omega (arith, less, h))

-- one of the sessions up to the next end is over that end, or it was there
split_to : (configs : List Config) (net : Network) (lists : List (ℕ × List ℕ)) → AreFilesOf configs net lists → (router : ℕ) (config : Config) → slice_get configs router ≡ Some config →
    (link : ℕ) (from : Bool) (row : LinkRow) → slice_get net.links link ≡ Some row → (s : SessionRow) → IsSessionTo configs net.links lists router (end_place link from + 1) s →
    IsSessionTo configs net.links lists router (end_place link from) s ⊎ IsSessionOver net.faces lists router config (tail_end row from) (head_end row from) s
split_to configs net lists files router config at link from row at_link s to = elim to.done [
  | inl earlier ↦ inl (record { link = to.link; from_a = to.from_a; session_of = to.session_of; done = inl earlier })
  | inr here ↦ elim (cases_lt (end_place to.link to.from_a) (end_place link from)) [
    | inl less ↦ inl (record { link = to.link; from_a = to.from_a; session_of = to.session_of; done = inr (here.0, less) })
    | inr h ↦
        let e : end_place to.link to.from_a ≡ end_place link from = omega (arith, here.1, h) in
        let same : (to.link ≡ link) × (to.from_a ≡ from) = same_place to.link link to.from_a from e in
        let rows : to.session_of.row ≡ row = same_Some to.session_of.row row (sym to.session_of.at_link ∙ ap (λ (n : ℕ). slice_get net.links n) same.0 ∙ at_link) in
        let over : IsSessionOver net.faces lists router config (tail_end to.session_of.row to.from_a) (head_end to.session_of.row to.from_a) s =
        to_over configs net lists files router config at to.link to.from_a s to.session_of here.0 in
        inr (subst (λ (b : Bool). IsSessionOver net.faces lists router config (tail_end row b) (head_end row b) s) same.1
        (subst (λ (r : LinkRow). IsSessionOver net.faces lists router config (tail_end r to.from_a) (head_end r to.from_a) s) rows over))
  ]
]

widen : (configs : List Config) (links : List LinkRow) (lists : List (ℕ × List ℕ)) (router ends more : ℕ) (s : SessionRow) → ends ≤ more →
    IsSessionTo configs links lists router ends s → IsSessionTo configs links lists router more s
widen configs links lists router ends more s h to = elim to.done [
  | inl earlier ↦ record { link = to.link; from_a = to.from_a; session_of = to.session_of; done = inl earlier }
  | inr here ↦ let less : end_place to.link to.from_a < more = omega (arith, here.1, h) in record { link = to.link; from_a = to.from_a; session_of = to.session_of; done = inr (here.0, less) }
]

-- a session that was there stands before that over the next end
comes_before : (configs : List Config) (net : Network) (lists : List (ℕ × List ℕ)) → AreFilesOf configs net lists → (router link : ℕ) (from : Bool) (s t : SessionRow) →
    IsSessionTo configs net.links lists router (end_place link from) s → (last : IsSessionOf configs net.links lists link from t) → last.near.router ≡ router →
    IsSessionBefore configs net.links lists s t
comes_before configs net lists files router link from s t to last own i j f g one other =
    let first = one_end configs net lists files s s i to.link f to.from_a one to.session_of refl in
    let second = one_end configs net lists files t t j link g from other last refl in
    let r : one.near.router ≡ to.session_of.near.router = one_near configs net.links lists s s i to.link f to.from_a one to.session_of refl in
    let q : other.near.router ≡ router = one_near configs net.links lists t t j link g from other last refl ∙ own in
    elim to.done [
      | inl earlier ↦ inl (omega (arith, earlier, r, q))
      | inr here ↦
          let routers : one.near.router ≡ other.near.router = r ∙ here.0 ∙ sym q in
          elim (cases_lt to.link link) [
            | inl less ↦ inr (routers, omega (arith, less, first.0, second.0))
            | inr h ↦
                let ends : (to.link ≡ link) × (to.from_a ≡ true) × (from ≡ false) = last_end to.link link to.from_a from here.1 h in
                absurd (two_routers configs net lists files s t i j f g one other (first.0 ∙ ends.0 ∙ sym second.0) (first.1 ∙ ends.1) (second.1 ∙ ends.2) routers)
          ]
    ]

-- one more end of a link
pub one_more : (configs : List Config) (net : Network) (lists : List (ℕ × List ℕ)) → AreFilesOf configs net lists → (router : ℕ) (config : Config) → slice_get configs router ≡ Some config →
    (link : ℕ) (from : Bool) (row : LinkRow) → slice_get net.links link ≡ Some row → (old new : List SessionRow) →
    AddsOne (IsSessionOver net.faces lists router config (tail_end row from) (head_end row from)) old new →
    AreSessionsTo configs net.links lists router (end_place link from) old → AreSessionsTo configs net.links lists router (end_place link from + 1) new
one_more configs net lists files router config at link from row at_link old new (inl (same, none)) are =
    let kept : AreSessionsTo configs net.links lists router (end_place link from + 1) old = record {
      order = are.order;
      just = λ s. (
        λ there. widen configs net.links lists router (end_place link from) (end_place link from + 1) s (omega arith) ((are.just s).0 there),
        λ to. elim (split_to configs net lists files router config at link from row at_link s to) [
          | inl before ↦ (are.just s).1 before
          | inr over ↦ absurd (none s over)
        ],
      );
    } in
    subst (λ (l : List SessionRow). AreSessionsTo configs net.links lists router (end_place link from + 1) l) (sym same) kept
one_more configs net lists files router config at link from row at_link old new (inr (x, over, grown)) are =
    let last : (one : IsSessionOf configs net.links lists link from x) × (one.near.router ≡ router) = from_over configs net lists files router config at link from row at_link x over in
    let less : end_place link from < end_place link from + 1 = omega arith in
    let now : IsSessionTo configs net.links lists router (end_place link from + 1) x = record { link = link; from_a = from; session_of = last.0; done = inr (last.1, less) } in
    let kept : AreSessionsTo configs net.links lists router (end_place link from + 1) (old ++ x ∷ []) = record {
      order = all_pairs_push (IsSessionBefore configs net.links lists) old x are.order (λ k d l.
          comes_before configs net lists files router link from (get_or old k d) x ((are.just (get_or old k d)).0 (k, l, get_or_default old k (get_or old k d) d l)) last.0 last.1);
      just = λ s. (
        λ there. elim (Contains-append_cases old (x ∷ []) s there) [
          | inl before ↦ widen configs net.links lists router (end_place link from) (end_place link from + 1) s (omega arith) ((are.just s).0 before)
          | inr added ↦ elim (Contains-cases x s [] added) [
            | inl same ↦ subst (λ (y : SessionRow). IsSessionTo configs net.links lists router (end_place link from + 1) y) same now
            | inr nothing ↦ absurd (Contains-none s nothing)
          ]
        ],
        λ to. elim (split_to configs net lists files router config at link from row at_link s to) [
          | inl before ↦ Contains-append_left old (x ∷ []) s ((are.just s).1 before)
          | inr here ↦ Contains-append_right old (x ∷ []) s
              (subst (λ (y : SessionRow). Contains (x ∷ []) y) (one_session net.faces lists files.distinct router config (tail_end row from) (head_end row from) x s over here) (Contains-head x []))
        ],
      );
    } in
    subst (λ (l : List SessionRow). AreSessionsTo configs net.links lists router (end_place link from + 1) l) (sym grown) kept

-- both ends of one more link
pub both_ends : (configs : List Config) (net : Network) (lists : List (ℕ × List ℕ)) → AreFilesOf configs net lists → (router : ℕ) (config : Config) → slice_get configs router ≡ Some config →
    (link : ℕ) (row : LinkRow) → slice_get net.links link ≡ Some row → (old mid new : List SessionRow) →
    AddsOne (IsSessionOver net.faces lists router config row.a row.b) old mid → AddsOne (IsSessionOver net.faces lists router config row.b row.a) mid new →
    AreSessionsTo configs net.links lists router (2 * link) old → AreSessionsTo configs net.links lists router (2 * (link + 1)) new
both_ends configs net lists files router config at link row at_link old mid new first second are =
    let half : AreSessionsTo configs net.links lists router (2 * link + 1) mid = one_more configs net lists files router config at link true row at_link old mid first are in
    let e : 2 * link + 1 + 1 ≡ 2 * (link + 1) = omega arith in
    subst (λ (n : ℕ). AreSessionsTo configs net.links lists router n new) e (one_more configs net lists files router config at link false row at_link mid new second half)

-- all links of a router
pub all_ends : (configs : List Config) (links : List LinkRow) (lists : List (ℕ × List ℕ)) (router n : ℕ) (sessions : List SessionRow) → length links ≤ n →
    AreSessionsTo configs links lists router (2 * n) sessions → AreSessionsTo configs links lists (router + 1) 0 sessions
all_ends configs links lists router n sessions long are = record {
  order = are.order;
  just = λ s. (
    λ there.
        let to : IsSessionTo configs links lists router (2 * n) s = (are.just s).0 there in
        let less : to.session_of.near.router < router + 1 = elim to.done [ inl earlier ↦ omega (arith, earlier) | inr here ↦ omega (arith, here.0) ] in
        record { link = to.link; from_a = to.from_a; session_of = to.session_of; done = inl less },
    λ to. (are.just s).1 (record {
      link = to.link;
      from_a = to.from_a;
      session_of = to.session_of;
      done =
          let within : to.link < length links = slice_get_within links to.link to.session_of.row to.session_of.at_link in
          let less : to.session_of.near.router < router + 1 = elim to.done [ inl earlier ↦ earlier | inr here ↦ absurd (omega (arith, here.1)) ] in
          elim (cases_lt to.session_of.near.router router) [
            | inl earlier ↦ inl earlier
            | inr h ↦ inr (omega (arith, less, h), below to.link n to.from_a (omega (arith, within, long)))
          ];
    }),
  );
}
  where
    below : (link n : ℕ) (from : Bool) → link < n → end_place link from < 2 * n
    below link n true h = omega (arith, h)
    below link n false h = omega (arith, h)

-- no router
pub no_sessions : (configs : List Config) (links : List LinkRow) (lists : List (ℕ × List ℕ)) → AreSessionsTo configs links lists 0 0 []
no_sessions configs links lists = record {
  order = λ i j d l m. absurd (omega (arith, m));
  just = λ s. (
    λ there. absurd (Contains-none s there),
    λ to. absurd (elim to.done [ inl earlier ↦ omega (arith, earlier) | inr here ↦ omega (arith, here.1) ]),
  );
}

-- all routers
pub all_sessions : (configs : List Config) (links : List LinkRow) (lists : List (ℕ × List ℕ)) (n : ℕ) (sessions : List SessionRow) → length configs ≤ n →
    AreSessionsTo configs links lists n 0 sessions → AreInOrder (IsSessionBefore configs links lists) (IsSession configs links lists) sessions
all_sessions configs links lists n sessions long are = record {
  order = are.order;
  just = λ s. (
    λ there. let to : IsSessionTo configs links lists n 0 s = (are.just s).0 there in record { link = to.link; from_a = to.from_a; session_of = to.session_of },
    λ is.
        let within : is.session_of.near.router < length configs =
        slice_get_within configs is.session_of.near.router is.session_of.near.config (site_file configs s.face.0 is.session_of.near is.session_of.at_near) in
        let less : is.session_of.near.router < n = omega (arith, within, long) in
        (are.just s).1 (record { link = is.link; from_a = is.from_a; session_of = is.session_of; done = inl less }),
  );
}
