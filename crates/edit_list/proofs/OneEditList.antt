-- There is a list of edits for a document, and a valid network has no other.
use Rattle.std.proofs.Common.{◌≡◌, List, [], ◌∷◌, refl, sym, ◌∙◌, ap, fold}
use Rattle.std.specs.Prelude.{All}
use Rattle.std.specs.List.{AllZip}
use Rattle.std.proofs.lemmas.List.Elements.{All-head, All-tail}
use Rattle.std.proofs.lemmas.Option.{same_Some}
use Rattle.arc_base.specs.declared.prefix.Prefix.{Prefix}
use Rattle.net_model.specs.declared.policies.Class.{Class}
use Rattle.net_model.specs.declared.policies.Policy.{Policy}
use Rattle.net_model.specs.declared.rows.FaceRow.{FaceRow}
use Rattle.net_model.specs.declared.rows.Network.{Network}
use Rattle.net_model.specs.Forwarding.{HasHost, IsHostFace}
use Rattle.net_model.specs.Validity.{IsValid}
use Rattle.net_model.proofs.Hosts.{lies_in, one_host_face, some_host}
use Rattle.traffic_classes.proofs.Unions.{have_one_list}
use Rattle.edit_list.specs.Determined.{EditListsAreOne, EditListsAreThere}
use Rattle.edit_list.specs.EditLists.{LiesInHost, with_prefix, all_edits, AreDestinations}
use Rattle.edit_list.proofs.Counts.{have_hosts}

-- a prefix lies in one host network
pub one_host : (net : Network) → IsValid net → (p h g : Prefix) → LiesInHost net p h → LiesInHost net p g → h ≡ g
one_host net valid p h g (k, face, within, at, (is_h, in_h)) (n, other, below, there, (is_g, in_g)) =
    let first : IsHostFace net p face = record { is_face = (k, within, at); lies = lies_in p face h is_h in_h } in
    let second : IsHostFace net p other = record { is_face = (n, below, there); lies = lies_in p other g is_g in_g } in
    same_Some h g (sym is_h ∙ ap (λ (f : FaceRow). f.host) (one_host_face net valid p face other first second) ∙ is_g)

module _ (net : Network) (valid : IsValid net) where
  same_hosts : (policies : List Policy) (xs ys : List Prefix) → AllZip (λ policy host. LiesInHost net policy.to host) policies xs →
      AllZip (λ policy host. LiesInHost net policy.to host) policies ys → xs ≡ ys
  same_hosts [] [] [] x y = refl
  same_hosts [] [] (h ∷ hs) x y = absurd y
  same_hosts [] (h ∷ hs) ys x y = absurd x
  same_hosts (p ∷ ps) [] ys x y = absurd x
  same_hosts (p ∷ ps) (h ∷ hs) [] x y = absurd y
  same_hosts (p ∷ ps) (h ∷ hs) (g ∷ gs) x y = ap (λ (q : Prefix). q ∷ hs) (one_host net valid p.to h g x.0 y.0) ∙ ap (λ (l : List Prefix). g ∷ l) (same_hosts ps hs gs x.1 y.1)

  pub same_destinations : (policies : List Policy) (xs ys : List Prefix) → AreDestinations net policies xs → AreDestinations net policies ys → xs ≡ ys
  same_destinations policies xs ys x y = x.once ∙ ap (fold with_prefix []) (same_hosts policies x.hosts y.hosts x.are y.are) ∙ sym y.once

pub edit_lists_are_one : EditListsAreOne
edit_lists_are_one net doc list other valid x y =
    x.all ∙ ap (λ (l : List Prefix). all_edits net l x.classes) (same_destinations net valid doc.policies x.destinations y.destinations x.destinations_are y.destinations_are) ∙
    ap (λ (l : List Class). all_edits net y.destinations l) ((have_one_list net doc.policies doc.policies).1 x.classes y.classes x.classes_are y.classes_are) ∙ sym y.all

-- a prefix with a host interface lies in a host network
host_there : (net : Network) (p : Prefix) → HasHost net p → (h : Prefix) × LiesInHost net p h
host_there net p (face, is) =
    let host = some_host face.host p is.lies in
    (host.0, (is.is_face.0, face, is.is_face.1, is.is_face.2, (host.1, host.2)))

hosts_there : (net : Network) (policies : List Policy) → All (λ p. HasHost net p.to) policies → (hosts : List Prefix) × AllZip (λ policy host. LiesInHost net policy.to host) policies hosts
hosts_there net [] have = ([], tt)
hosts_there net (p ∷ ps) have =
    let first = host_there net p.to (All-head (λ (q : Policy). HasHost net q.to) p ps have) in
    let rest = hosts_there net ps (All-tail (λ (q : Policy). HasHost net q.to) p ps have) in
    (first.0 ∷ rest.0, (first.1, rest.1))

pub edit_lists_are_there : EditListsAreThere
edit_lists_are_there net doc ends =
    let hosts = hosts_there net doc.policies (have_hosts net doc.policies ends) in
    let classes = (have_one_list net doc.policies doc.policies).0 in
    let destinations : List Prefix = fold with_prefix [] hosts.0 in (
      all_edits net destinations classes.0,
      record { destinations = destinations; classes = classes.0; destinations_are = record { hosts = hosts.0; are = hosts.1; once = refl }; classes_are = classes.1; all = refl },
    )
