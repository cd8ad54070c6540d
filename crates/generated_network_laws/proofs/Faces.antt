-- The interfaces of a generated network, by their routers and links.
use Rattle.std.proofs.Common.{◌≡◌, ℕ, zero, suc, ◌+◌, ◌-◌, ◌<◌, ◌≤◌, ◌⊎◌, inl, inr, true, Some, List, [], ◌∷◌, length, get_or, map, refl, sym, ap, subst, ◌∙◌, arith, Contains}
use Rattle.std.specs.Prelude.{slice_get, AllPairs}
use Rattle.std.specs.List.{AllByRecursion, range_with_len, enumerate_from}
use Rattle.std.proofs.lemmas.List.Elements.{All-from_recursion, All-map}
use Rattle.std.proofs.lemmas.List.FromFn.{get_or-range_with_len, length-range_with_len}
use Rattle.std.proofs.lemmas.List.Kept.{AllPairs-cons}
use Rattle.arc_base.proofs.Items as items
use Rattle.ios_config.specs.declared.settings.Config.{Config}
use Rattle.ios_config.specs.declared.settings.FaceText.{FaceText}
use Rattle.arc_base.specs.Lists.{AreDistinct}
use Rattle.net_rules.specs.Sites.{Site, FullName, sites_of, sites, full_name, full_names}
use Rattle.net_rules.specs.Sites as build
use Rattle.net_rules.proofs.Distinct.{one_place}
use Rattle.net_rules.proofs.NamesDiffer.{full_names_distinct}
use Rattle.net_rules.proofs.SiteFacts.{site_of, name_at_site}
use Rattle.net_gen.specs.Plans.{numbers, link_count, has_end, port}
use Rattle.net_gen.specs.RouterFiles.{host_name, face_name}
use Rattle.generated_network_laws.proofs.Once.{PortsRise, IsAbove, all-above, face-name-one, host-name-one, ports-rise}
use Rattle.generated_network_laws.proofs.Plans.{in-range, range-has, mapped-at, port-some, port-few, port-one, count-few}
use Rattle.generated_network_laws.proofs.Said.{links_of, settings_of, all_settings}
use Rattle.generated_network_laws.proofs.Settings.{host_face, link_face, link_faces}

-- the interface is the router's over a link that ends there
pub record IsOverLink (n router : ℕ) (face : FaceText) : Type 0 where
  pub link : ℕ
  pub low : 1 ≤ link
  pub high : link ≤ link_count n
  pub has : has_end n router link ≡ true
  pub at : ℕ
  pub is : face ≡ link_face n router at link

-- the interface is one of a router's file: that to the host network, or one over a link
pub record HasSite (n : ℕ) (site : Site) : Type 0 where
  pub router : ℕ
  pub low : 1 ≤ router
  pub high : router ≤ n
  pub place : router ≡ 1 + site.router
  pub config : site.config ≡ settings_of n router
  pub face : (site.face ≡ host_face router) ⊎ IsOverLink n router site.face

faces-over : (n router at : ℕ) (links : List ℕ) (face : FaceText) → Contains (link_faces n router at links) face →
    (link : ℕ) × Contains links link × (there : ℕ) × (face ≡ link_face n router there link)
faces-over n router at [] face there = absurd (items.Contains-none face there)
faces-over n router at (link ∷ links) face there = elim (items.Contains-cases (link_face n router at link) face (link_faces n router (at + 3) links) there) [
  | inl here ↦ (link, items.Contains-head link links, at, sym here)
  | inr later ↦ let deeper = faces-over n router (at + 3) links face later in (deeper.0, items.Contains-tail link deeper.0 links deeper.1, deeper.2, deeper.3)
]

pub over-has : (n router at : ℕ) (links : List ℕ) (link : ℕ) → Contains links link → (there : ℕ) × Contains (link_faces n router at links) (link_face n router there link)
over-has n router at [] link there = absurd (items.Contains-none link there)
over-has n router at (other ∷ links) link there = elim (items.Contains-cases other link links there) [
  | inl here ↦ (
    at,
    subst (λ l. Contains (link_faces n router at (other ∷ links)) (link_face n router at l)) here
        (items.Contains-head (link_face n router at other) (link_faces n router (at + 3) links)),
  )
  | inr later ↦ let deeper = over-has n router (at + 3) links link
      later in (deeper.0, items.Contains-tail (link_face n router at other) (link_face n router deeper.0 link) (link_faces n router (at + 3) links) deeper.1)
]

pub of-links : (n router link : ℕ) → Contains (links_of n router) link → (1 ≤ link) × (link ≤ link_count n) × (has_end n router link ≡ true)
of-links n router link there =
    let kept = items.from_filter (has_end n router) (numbers (link_count n)) link there in
    let ranged = in-range 1 (link_count n) link kept.0 in
    let high : link < 1 + link_count n = ranged.1 in
    (ranged.0, omega arith, kept.1)

pub in-links : (n router link : ℕ) → 1 ≤ link → link ≤ link_count n → has_end n router link ≡ true → Contains (links_of n router) link
in-links n router link low high has = items.Contains-filter (has_end n router) (numbers (link_count n)) link (range-has 1 (link_count n) link low (omega arith)) has

-- each interface of the files is such a one
pub site-is : (n k : ℕ) (site : Site) → slice_get (sites (all_settings n)) k ≡ Some site → HasSite n site
site-is n k site at =
    let s = site_of (all_settings n) k site at in
    let file = mapped-at (settings_of n) 1 n site.router site.config s.file_at in
    let low : site.router < n = file.0 in
    let router = 1 + site.router in
    let there : Contains (host_face router ∷ link_faces n router 5 (links_of n router)) site.face = subst (λ (c : Config). Contains c.faces site.face) (sym file.1) s.listed in
    record {
      router = router;
      low = omega arith;
      high = omega arith;
      place = refl;
      config = sym file.1;
      face = elim (items.Contains-cases (host_face router) site.face (link_faces n router 5 (links_of n router)) there) [
        | inl here ↦ inl (sym here)
        | inr later ↦
            let over = faces-over n router 5 (links_of n router) site.face later in
            let link = of-links n router over.0 over.1 in
            inr (record { link = over.0; low = link.0; high = link.1; has = link.2; at = over.2; is = over.3 })
      ];
    }

placed : {X : Type 0} (f : ℕ → X) (a m i k : ℕ) → k < m → Contains (enumerate_from i (map f (range_with_len a m))) (i + k, f (a + k))
placed f a zero i k low = absurd (omega arith)
placed f a (suc m) i zero low =
    let one : i ≡ i + 0 = omega arith in
    let two : a ≡ a + 0 = omega arith in
    subst (λ (x : ℕ). Contains (enumerate_from i (map f (range_with_len a (suc m)))) (x, f (a + 0))) one
    (subst (λ (x : ℕ). Contains (enumerate_from i (map f (range_with_len a (suc m)))) (i, f x)) two (items.Contains-head (i, f a) (enumerate_from (i + 1) (map f (range_with_len (a + 1) m)))))
placed f a (suc m) i (suc k) low =
    let one : i + 1 + k ≡ i + suc k = omega arith in
    let two : a + 1 + k ≡ a + suc k = omega arith in
    subst (λ (x : ℕ). Contains (enumerate_from i (map f (range_with_len a (suc m)))) (x, f (a + suc k))) one
    (subst (λ (x : ℕ). Contains (enumerate_from i (map f (range_with_len a (suc m)))) (i + 1 + k, f x)) two
    (items.Contains-tail (i, f a) (i + 1 + k, f (a + 1 + k)) (enumerate_from (i + 1) (map f (range_with_len (a + 1) m))) (placed f (a + 1) m (i + 1) k (omega arith))))

-- the interface of a router's file among those of all files
abbrev pub site_at : ℕ → ℕ → FaceText → Site
site_at n router face = record { router = router - 1; config = settings_of n router; face = face }

pub has-site : (n router : ℕ) (face : FaceText) → 1 ≤ router → router ≤ n → Contains (settings_of n router).faces face → Contains (sites (all_settings n)) (site_at n router face)
has-site n router face low high there =
    let k = router - 1 in
    let one : 0 + k ≡ k = omega arith in
    let two : 1 + k ≡ router = omega arith in
    let file : Contains (enumerate_from 0 (all_settings n)) (k, settings_of n router) =
    subst (λ (x : ℕ). Contains (enumerate_from 0 (all_settings n)) (x, settings_of n router)) one
    (subst (λ (x : ℕ). Contains (enumerate_from 0 (all_settings n)) (0 + k, settings_of n x)) two (placed (settings_of n) 1 n 0 k (omega arith))) in
    items.Contains-piece sites_of (enumerate_from 0 (all_settings n)) (k, settings_of n router) (site_at n router face) file
    (items.Contains-map (λ (f : FaceText). let s : Site = record { router = k; config = settings_of n router; face = f } in s) (settings_of n router).faces face there)

-- the name of an interface over a link
abbrev pub end_name : ℕ → ℕ → ℕ → FullName
end_name n router link = (host_name router, face_name (port n router link))

pub has-end-name : (n router link : ℕ) → 1 ≤ router → router ≤ n → 1 ≤ link → link ≤ link_count n → has_end n router link ≡ true → Contains (full_names (all_settings n)) (end_name n router link)
has-end-name n router link low high some most has =
    let over = over-has n router 5 (links_of n router) link (in-links n router link some most has) in
    let there = has-site n router (link_face n router over.0 link) low high
    (items.Contains-tail (host_face router) (link_face n router over.0 link) (link_faces n router 5 (links_of n router)) over.1) in
    items.Contains-map full_name (sites (all_settings n)) (site_at n router (link_face n router over.0 link)) there

pub name-of : (n : ℕ) (site : Site) (h : HasSite n site) → full_name site ≡ (host_name h.router, site.face.name)
name-of n site h = ap (λ (c : Config). (build.host_name c, site.face.name)) h.config

-- the interface is the router's over this link
pub record IsLinkSite (n router link : ℕ) (site : Site) : Type 0 where
  pub own : router ≡ 1 + site.router
  pub at : ℕ
  pub is : site.face ≡ link_face n router at link

-- an interface with the name of one over a link is that one
pub link-site : (n router link : ℕ) (site : Site) → n ≤ 40 → HasSite n site → router ≤ n → 1 ≤ link → link ≤ link_count n → has_end n router link ≡ true →
    full_name site ≡ end_name n router link → IsLinkSite n router link site
link-site n router link site few h high some most has named =
    let both : (host_name h.router, site.face.name) ≡ end_name n router link = sym (name-of n site h) ∙ named in
    let own-high : h.router ≤ n = h.high in
    let same : h.router ≡ router = host-name-one h.router router (omega arith) (omega arith) (ap (λ (x : FullName). x.0) both) in
    let name : site.face.name ≡ face_name (port n router link) = ap (λ (x : FullName). x.1) both in
    let count = count-few n few in
    let small = port-few n router link in
    elim h.face [
      | inl host ↦
          let none : 0 ≡ port n router link = face-name-one 0 (port n router link) (omega arith) (omega arith) (sym (ap (λ (f : FaceText). f.name) host) ∙ name) in
          let positive = port-some n router link some has in
          absurd (omega arith)
      | inr over ↦
          let here : IsOverLink n router site.face = subst (λ (r : ℕ). IsOverLink n r site.face) same over in
          let here-high : here.link ≤ link_count n = here.high in
          let here-small = port-few n router here.link in
          let ports : port n router here.link ≡ port n router link =
          face-name-one (port n router here.link) (port n router link) (omega arith) (omega arith) (sym (ap (λ (f : FaceText). f.name) here.is) ∙ name) in
          let one : here.link ≡ link = port-one n router here.link link here.has has ports in
          record { own = sym same ∙ h.place; at = here.at; is = here.is ∙ ap (link_face n router here.at) one }
    ]

-- no two interfaces have one name
names-above : (n router p at : ℕ) (links : List ℕ) → p < 64 → AllByRecursion (IsAbove n router p) links → AllByRecursion (λ (f : FaceText). face_name p ≡ f.name → ⊥) (link_faces n router at links)
names-above n router p at [] few above = tt
names-above n router p at (link ∷ links) few above =
    let high = above.0.0 in
    let small = above.0.1 in
    ((λ same. let one = face-name-one p (port n router link) (omega arith) (omega arith) same in omega arith), names-above n router p (at + 3) links few above.1)

abbrev NamedApart : FaceText → FaceText → Type 0
NamedApart f g = f.name ≡ g.name → ⊥

links-apart : (n router p at : ℕ) (links : List ℕ) → PortsRise n router p links → AllPairs NamedApart (link_faces n router at links)
links-apart n router p at [] rise = items.AllPairs-none NamedApart
links-apart n router p at (link ∷ links) rise =
    let q = port n router link in
    let rest = link_faces n router (at + 3) links in
    let face = link_face n router at link in
    AllPairs-cons NamedApart face rest (All-from_recursion (NamedApart face) rest (names-above n router q (at + 3) links rise.1 (all-above n router q q links (omega arith) rise.2)))
    (links-apart n router q (at + 3) links rise.2)

faces-apart : (n router : ℕ) → n ≤ 40 → AllPairs NamedApart (settings_of n router).faces
faces-apart n router few =
    let rise = ports-rise n router few in
    let rest = link_faces n router 5 (links_of n router) in
    AllPairs-cons NamedApart (host_face router) rest
    (All-from_recursion (NamedApart (host_face router)) rest (names-above n router 0 5 (links_of n router) (omega arith) (all-above n router 0 0 (links_of n router) (omega arith) rise)))
    (links-apart n router 0 5 (links_of n router) rise)

pub hosts-apart : (n : ℕ) → n ≤ 40 → AllPairs (λ (f g : Config). build.host_name f ≡ build.host_name g → ⊥) (all_settings n)
hosts-apart n few =
    items.AllPairs-map (λ (f g : Config). build.host_name f ≡ build.host_name g → ⊥) (settings_of n) (numbers n)
    (λ i j d low high.
    let long : length (numbers n) ≡ n = length-range_with_len 1 n in
    let one : get_or (numbers n) i d ≡ 1 + i = get_or-range_with_len 1 n i d (omega arith) in
    let two : get_or (numbers n) j d ≡ 1 + j = get_or-range_with_len 1 n j d (omega arith) in
    λ same. let e = host-name-one (get_or (numbers n) i d) (get_or (numbers n) j d) (omega arith) (omega arith) same in omega arith)

pub names-apart : (n : ℕ) → n ≤ 40 → AreDistinct (full_names (all_settings n))
names-apart n few =
    full_names_distinct (all_settings n) (hosts-apart n few)
    (All-map (λ (c : Config). AllPairs NamedApart c.faces) (settings_of n) (numbers n)
    (items.All-from (λ (r : ℕ). AllPairs NamedApart (settings_of n r).faces) (numbers n) (λ router there. faces-apart n router few)))

-- interfaces with one name are at one place
pub one-site : (n i j : ℕ) (s t : Site) → n ≤ 40 → slice_get (sites (all_settings n)) i ≡ Some s → slice_get (sites (all_settings n)) j ≡ Some t → full_name s ≡ full_name t → i ≡ j
one-site n i j s t few at-i at-j named =
    one_place (full_names (all_settings n)) i j (full_name t) (names-apart n few) (name_at_site (all_settings n) i s at-i ∙ ap Some named) (name_at_site (all_settings n) j t at-j)
