-- The links of a network whose links are not refused: their ends are interfaces of it, and no two links have one in common.
use Rattle.std.proofs.Common.{◌≡◌, ◌≢◌, ℕ, ◌+◌, ◌<◌, ◌≤◌, inl, inr, List, [], ◌∷◌, Some, length, get_or, take, refl, subst, arith}
use Rattle.std.specs.Prelude.{All, AllPairs, Contains, map, slice_get}
use Rattle.std.proofs.lemmas.Bool.{cases_lt}
use Rattle.std.proofs.lemmas.List.{length-map}
use Rattle.std.proofs.lemmas.Option.{slice_get_within, slice_get-get_or}
use Rattle.arc_base.specs.declared.refusal.Kind.TheVariants as kinds
use Rattle.arc_base.specs.declared.refusal.LimitKind.TheVariants as limits
use Rattle.net_model.specs.declared.policies.Document.{Document}
use Rattle.net_model.specs.declared.policies.LinkText.{LinkText}
use Rattle.net_model.specs.declared.rows.LinkRow.{LinkRow}
use Rattle.net_model.specs.declared.rows.Network.{Network}
use Rattle.net_model.specs.Validity.{AreLinksApart}
use Rattle.net_model.proofs.Arcs.{one_item}
use Rattle.ios_config.specs.declared.settings.Config.{Config}
use Rattle.net_rules.specs.Forms.{IsWellFormed}
use Rattle.arc_base.specs.Lists.{AreDistinct}
use Rattle.net_rules.specs.Lists.{packet_list_key}
use Rattle.net_rules.specs.Sites.{FullName, sites, full_name, full_names, a_end, b_end, two_ends, ends_of}
use Rattle.net_rules.specs.Rows.{IsFaceRow, IsLinkRow, AreBaseRows}
use Rattle.net_rules.specs.Reasons.{NoRefusal}
use Rattle.net_rules.specs.Routers.{RefusesHostname}
use Rattle.net_rules.specs.Linking.{JoinsFree, RefusesLinkFace}
use Rattle.net_rules.specs.Limits.{RefusesInterfaces}
use Rattle.net_rules.proofs.Distinct.{Contains-at}
use Rattle.net_rules.proofs.HostNames.{earlier, hosts_differ}
use Rattle.net_rules.proofs.NamesDiffer.{full_names_distinct}
use Rattle.arc_base.proofs.Items.{Contains-head, Contains-tail, Contains-piece}
use Rattle.arc_base.proofs.Zips.{AllZip-left, AllZip-length}

-- where no name of a router is refused, the full names are distinct
pub names_distinct : (configs : List Config) → NoRefusal (RefusesHostname configs) → All IsWellFormed configs → AreDistinct (full_names configs)
names_distinct configs clear forms = full_names_distinct configs (hosts_differ configs clear) (λ k d l. (forms k d l).faces_differ)

-- where no file is refused for its interfaces, each has few
pub few_files : (configs : List Config) → NoRefusal (RefusesInterfaces configs) → All (λ config. length config.faces ≤ 256) configs
few_files configs clear i d l = elim (cases_lt 256 (length (get_or configs i d).faces)) [
  | inl many ↦ absurd (clear (record { file = i + 1; number = 0; kind = kinds.Limit limits.Interfaces (length (get_or configs i d).faces) })
      (record { place = i; config = get_or configs i d; at_place = slice_get-get_or configs i d l; many = many; told = refl }))
  | inr few ↦ omega (arith, few)
]

-- names at one place are the same
pub one_name : (configs : List Config) (i j : ℕ) (x y : FullName) → slice_get (full_names configs) i ≡ Some x → slice_get (full_names configs) j ≡ Some y → i ≡ j → x ≡ y
one_name configs i j x y at_x at_y e = one_item (full_names configs) j x y (subst (λ (n : ℕ). slice_get (full_names configs) n ≡ Some x) e at_x) at_y

module _ (doc : Document) (configs : List Config) (clear : NoRefusal (RefusesLinkFace doc configs)) where
  pub joins_free : (place : ℕ) (link : LinkText) → slice_get doc.links place ≡ Some link → ¬ (¬ JoinsFree (full_names configs) (take place doc.links) link)
  joins_free place link at bad =
      clear (record { file = 0; number = place + 1; kind = kinds.LinkFace }) (record { place = place; item = link; at_place = at; offends = bad; told = refl })

  -- no end of a link is one of an earlier link
  pub free : (i j : ℕ) (x y : LinkText) → i < j → slice_get doc.links i ≡ Some x → slice_get doc.links j ≡ Some y → (u : FullName) → Contains (two_ends x) u → (u ≢ a_end y) × (u ≢ b_end y)
  free i j x y h at_x at_y u in_x =
      let used : Contains (ends_of (take j doc.links)) u = Contains-piece two_ends (take j doc.links) x u (Contains-at (take j doc.links) i x (earlier doc.links i j x h at_x)) in_x in (
        λ e. joins_free j y at_y (λ joins. joins.a_free (subst (λ (n : FullName). Contains (ends_of (take j doc.links)) n) e used)),
        λ e. joins_free j y at_y (λ joins. joins.b_free (subst (λ (n : FullName). Contains (ends_of (take j doc.links)) n) e used)),
      )

  module _ (net : Network) (rows : AreBaseRows doc configs net) where
    text_at : (m : ℕ) (l : LinkRow) → slice_get net.links m ≡ Some l → (t : LinkText) × (slice_get doc.links m ≡ Some t) × IsLinkRow (full_names configs) t l
    text_at m l at = AllZip-left (IsLinkRow (full_names configs)) doc.links net.links rows.links m l at

    pub links_apart : AllPairs AreLinksApart net.links
    links_apart i j d l m =
        let x : (t : LinkText) × (slice_get doc.links i ≡ Some t) × IsLinkRow (full_names configs) t (get_or net.links i d) =
        text_at i (get_or net.links i d) (slice_get-get_or net.links i d (omega arith)) in
        let y : (t : LinkText) × (slice_get doc.links j ≡ Some t) × IsLinkRow (full_names configs) t (get_or net.links j d) = text_at j (get_or net.links j d) (slice_get-get_or net.links j d m) in
        let of_a = free i j x.0 y.0 l x.1 y.1 (a_end x.0) (Contains-head (a_end x.0) (b_end x.0 ∷ [])) in
        let of_b = free i j x.0 y.0 l x.1 y.1 (b_end x.0) (Contains-tail (a_end x.0) (b_end x.0) (b_end x.0 ∷ []) (Contains-head (b_end x.0) [])) in (
          λ e. of_a.0 (one_name configs _ _ (a_end x.0) (a_end y.0) x.2.a y.2.a e),
          λ e. of_a.1 (one_name configs _ _ (a_end x.0) (b_end y.0) x.2.a y.2.b e),
          λ e. of_b.0 (one_name configs _ _ (b_end x.0) (a_end y.0) x.2.b y.2.a e),
          λ e. of_b.1 (one_name configs _ _ (b_end x.0) (b_end y.0) x.2.b y.2.b e),
        )

    -- there are as many interfaces as in the files
    pub sites_long : length (sites configs) ≡ length net.faces
    sites_long = AllZip-length (IsFaceRow net.protocol (ends_of doc.links) (map packet_list_key net.packet_lists)) (sites configs) net.faces rows.faces

    within : (k : ℕ) (name : FullName) → slice_get (full_names configs) k ≡ Some name → k < length net.faces
    within k name at = omega (arith, slice_get_within (full_names configs) k name at, length-map (sites configs) full_name, sites_long)

    pub a_within : All (λ link. link.a.0 < length net.faces) net.links
    a_within m d l =
        let x = text_at m (get_or net.links m d) (slice_get-get_or net.links m d l) in
        within (get_or net.links m d).a.0 (a_end x.0) x.2.a

    pub b_within : All (λ link. link.b.0 < length net.faces) net.links
    b_within m d l =
        let x = text_at m (get_or net.links m d) (slice_get-get_or net.links m d l) in
        within (get_or net.links m d).b.0 (b_end x.0) x.2.b
