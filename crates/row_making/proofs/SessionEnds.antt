-- An end of a link is that of no other link, so that a session is over one end only.
use Rattle.std.proofs.Common.{◌≡◌, ℕ, ◌<◌, inl, inr, Bool, true, false, List, [], ◌∷◌, take, refl, sym, ◌∙◌, ap, subst, arith, Some}
use Rattle.std.specs.Prelude.{Contains, slice_get, option_map}
use Rattle.std.proofs.lemmas.Bool.{cases_lt}
use Rattle.std.proofs.lemmas.Option.{slice_get-map, same_Some}
use Rattle.net_model.specs.declared.policies.Document.{Document}
use Rattle.net_model.specs.declared.policies.LinkText.{LinkText}
use Rattle.net_model.specs.declared.rows.LinkRow.{LinkRow}
use Rattle.net_model.specs.declared.rows.Network.{Network}
use Rattle.net_model.specs.declared.rows.SessionRow.{SessionRow}
use Rattle.net_model.specs.Routing.{tail_end}
use Rattle.ios_config.specs.declared.settings.Config.{Config}
use Rattle.net_rules.specs.Sites.{Site, FullName, sites, host_name, full_name, full_names, a_end, b_end, two_ends}
use Rattle.net_rules.specs.Reasons.{NoRefusal}
use Rattle.net_rules.specs.Linking.{JoinsFree, RefusesLinkFace}
use Rattle.net_rules.specs.Rows.{IsLinkRow, IsSessionOf}
use Rattle.row_making.specs.Sessions.{AreFilesOf}
use Rattle.arc_base.proofs.Items.{Contains-head, Contains-tail}
use Rattle.net_rules.proofs.LinksApart.{joins_free, free}
use Rattle.arc_base.proofs.Zips.{AllZip-left}
use Rattle.net_rules.proofs.SpotSites.{site_file}

-- the name of the one end of the link or of the other
abbrev pub tail_name : LinkText → Bool → FullName
tail_name link true = a_end link
tail_name link false = b_end link

named_end : (names : List FullName) (text : LinkText) (row : LinkRow) (from : Bool) → IsLinkRow names text row → slice_get names (tail_end row from).0 ≡ Some (tail_name text from)
named_end names text row true r = r.a
named_end names text row false r = r.b

has_end : (text : LinkText) (from : Bool) → Contains (two_ends text) (tail_name text from)
has_end text true = Contains-head (a_end text) (b_end text ∷ [])
has_end text false = Contains-tail (a_end text) (b_end text) (b_end text ∷ []) (Contains-head (b_end text) [])

-- an earlier link has another end
no_earlier : (doc : Document) (configs : List Config) → NoRefusal (RefusesLinkFace doc configs) → (i j : ℕ) (s t : LinkText) (from to : Bool) →
    slice_get doc.links i ≡ Some s → slice_get doc.links j ≡ Some t → i < j → tail_name s from ≡ tail_name t to → ⊥
no_earlier doc configs clear i j s t from true at_i at_j before same = (free doc configs clear i j s t before at_i at_j (tail_name s from) (has_end s from)).0 same
no_earlier doc configs clear i j s t from false at_i at_j before same = (free doc configs clear i j s t before at_i at_j (tail_name s from) (has_end s from)).1 same

-- the two ends of a link differ
one_side : (doc : Document) (configs : List Config) → NoRefusal (RefusesLinkFace doc configs) → (place : ℕ) (text : LinkText) (from to : Bool) → slice_get doc.links place ≡ Some text →
    tail_name text from ≡ tail_name text to → from ≡ to
one_side doc configs clear place text true true at same = refl
one_side doc configs clear place text false false at same = refl
one_side doc configs clear place text true false at same =
    absurd (joins_free doc configs clear place text at (λ (free : JoinsFree (full_names configs) (take place doc.links) text). free.joins.routers (ap (λ (n : FullName). n.0) same)))
one_side doc configs clear place text false true at same =
    absurd (joins_free doc configs clear place text at (λ (free : JoinsFree (full_names configs) (take place doc.links) text). free.joins.routers (ap (λ (n : FullName). n.0) (sym same))))

-- where two ends have one name, they are one end of one link
one_name : (doc : Document) (configs : List Config) → NoRefusal (RefusesLinkFace doc configs) → (i j : ℕ) (s t : LinkText) (from to : Bool) →
    slice_get doc.links i ≡ Some s → slice_get doc.links j ≡ Some t → tail_name s from ≡ tail_name t to → (i ≡ j) × (from ≡ to)
one_name doc configs clear i j s t from to at_i at_j same =
    elim (cases_lt i j) [
      | inl before ↦ absurd (no_earlier doc configs clear i j s t from to at_i at_j before same)
      | inr h ↦ elim (cases_lt j i) [
        | inl after ↦ absurd (no_earlier doc configs clear j i t s to from at_j at_i after (sym same))
        | inr k ↦
            let place : i ≡ j = omega (arith, h, k) in
            let text : s ≡ t = same_Some s t (sym at_i ∙ ap (λ (n : ℕ). slice_get doc.links n) place ∙ at_j) in
            (place, one_side doc configs clear j t from to at_j (sym (ap (λ (l : LinkText). tail_name l from) text) ∙ same))
      ]
    ]

-- two sessions of one interface are over one end of a link
pub one_end : (configs : List Config) (net : Network) (lists : List (ℕ × List ℕ)) → AreFilesOf configs net lists → (s t : SessionRow) (i j : ℕ) (from to : Bool) →
    IsSessionOf configs net.links lists i from s → IsSessionOf configs net.links lists j to t → s.face.0 ≡ t.face.0 → (i ≡ j) × (from ≡ to)
one_end configs net lists files s t i j from to one other same =
    let names : List FullName = full_names configs in
    let first = AllZip-left (IsLinkRow names) files.doc.links net.links files.base.links i one.row one.at_link in
    let second = AllZip-left (IsLinkRow names) files.doc.links net.links files.base.links j other.row other.at_link in
    let place : (tail_end one.row from).0 ≡ (tail_end other.row to).0 = one.near_end ∙ same ∙ sym other.near_end in
    one_name files.doc configs files.free i j first.0 second.0 from to first.1 second.1
    (same_Some (tail_name first.0 from) (tail_name second.0 to)
    (sym (named_end names first.0 one.row from first.2) ∙ ap (λ (k : ℕ). slice_get names k) place ∙ named_end names second.0 other.row to second.2))

-- and have one interface
pub one_near : (configs : List Config) (links : List LinkRow) (lists : List (ℕ × List ℕ)) (s t : SessionRow) (i j : ℕ) (from to : Bool) →
    (one : IsSessionOf configs links lists i from s) (other : IsSessionOf configs links lists j to t) → s.face.0 ≡ t.face.0 → one.near.router ≡ other.near.router
one_near configs links lists s t i j from to one other same =
    ap (λ (x : Site). x.router) (same_Some one.near other.near (sym one.at_near ∙ ap (λ (k : ℕ). slice_get (sites configs) k) same ∙ other.at_near))

-- the interface of a session has the name that the link gives that end
near_name : (configs : List Config) (links : List LinkRow) (lists : List (ℕ × List ℕ)) (s : SessionRow) (i : ℕ) (from : Bool) (text : LinkText) →
    (one : IsSessionOf configs links lists i from s) → IsLinkRow (full_names configs) text one.row → full_name one.near ≡ tail_name text from
near_name configs links lists s i from text one row =
    let named : slice_get (full_names configs) s.face.0 ≡ Some (full_name one.near) = slice_get-map full_name (sites configs) s.face.0 ∙ ap (option_map full_name) one.at_near in
    same_Some (full_name one.near) (tail_name text from)
    (sym named ∙ sym (ap (λ (k : ℕ). slice_get (full_names configs) k) one.near_end) ∙ named_end (full_names configs) text one.row from row)

-- the two ends of one link are of two routers
pub two_routers : (configs : List Config) (net : Network) (lists : List (ℕ × List ℕ)) → AreFilesOf configs net lists → (s t : SessionRow) (i j : ℕ) (from to : Bool) →
    (one : IsSessionOf configs net.links lists i from s) (other : IsSessionOf configs net.links lists j to t) → i ≡ j → from ≡ true → to ≡ false → one.near.router ≡ other.near.router → ⊥
two_routers configs net lists files s t i j from to one other place is_a is_b same =
    let names : List FullName = full_names configs in
    let first = AllZip-left (IsLinkRow names) files.doc.links net.links files.base.links i one.row one.at_link in
    let rows : one.row ≡ other.row = same_Some one.row other.row (sym one.at_link ∙ ap (λ (n : ℕ). slice_get net.links n) place ∙ other.at_link) in
    let of_other : IsLinkRow names first.0 other.row = subst (λ (r : LinkRow). IsLinkRow names first.0 r) rows first.2 in
    let a_is : full_name one.near ≡ a_end first.0 = near_name configs net.links lists s i from first.0 one first.2 ∙ ap (λ (b : Bool). tail_name first.0 b) is_a in
    let b_is : full_name other.near ≡ b_end first.0 = near_name configs net.links lists t j to first.0 other of_other ∙ ap (λ (b : Bool). tail_name first.0 b) is_b in
    let file : one.near.config ≡ other.near.config = same_Some one.near.config other.near.config
    (sym (site_file configs s.face.0 one.near one.at_near) ∙ ap (λ (k : ℕ). slice_get configs k) same ∙ site_file configs t.face.0 other.near other.at_near) in
    let hosts : first.0.a_router ≡ first.0.b_router = sym (ap (λ (n : FullName). n.0) a_is) ∙ ap host_name file ∙ ap (λ (n : FullName). n.0) b_is in
    joins_free files.doc configs files.free i first.0 first.1 (λ (free : JoinsFree names (take i files.doc.links) first.0). free.joins.routers hosts)
