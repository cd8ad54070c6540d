-- After edits the interfaces have the same host networks.
use Rattle.std.proofs.Common.{◌≡◌, ◌↔◌, Option, List, sym, ◌∙◌, ap, subst}
use Rattle.std.specs.Prelude.{Contains, IsSomeAnd}
use Rattle.arc_base.specs.Addresses.{IsInside}
use Rattle.arc_base.specs.declared.prefix.Prefix.{Prefix}
use Rattle.net_model.specs.declared.policies.Class.{Class}
use Rattle.net_model.specs.declared.rows.FaceRow.{FaceRow}
use Rattle.net_model.specs.declared.rows.Network.{Network}
use Rattle.net_model.specs.Forwarding.{HasEnds}
use Rattle.net_model.proofs.Readings.{place_of_item, item_at_place}
use Rattle.edit_list.specs.declared.edit_kinds.Edit.{Edit}
use Rattle.edit_list.specs.After.{IsFaceAfter, IsAfter}
use Rattle.edit_list.specs.EditLists.{LiesInHost}
use Rattle.network_edit_laws.specs.Kept.{HostsStay, EndsStay}
use Rattle.edit_list.proofs.RowFacts.{row_was, row_now}

module _ (net after : Network) (chosen : List Edit) (is : IsAfter net chosen after) where
  -- the row that an interface has now
  pub face_now : (face : FaceRow) → Contains net.faces face → (now : FaceRow) × Contains after.faces now × (now.host ≡ face.host)
  face_now face one =
      let place = place_of_item net.faces face one in
      let row = row_now (IsFaceAfter net chosen after) net.faces after.faces is.faces place.0 face place.1 in
      (row.0, item_at_place after.faces place.0 row.0 row.1, ap (λ (f : FaceRow). f.host) row.2.same)

  pub face_was : (face : FaceRow) → Contains after.faces face → (was : FaceRow) × Contains net.faces was × (face.host ≡ was.host)
  face_was face one =
      let place = place_of_item after.faces face one in
      let row = row_was (IsFaceAfter net chosen after) net.faces after.faces is.faces place.0 face place.1 in
      (row.0, item_at_place net.faces place.0 row.0 row.1, ap (λ (f : FaceRow). f.host) row.2.same)

  lies_now : (prefix host : Prefix) → LiesInHost net prefix host → LiesInHost after prefix host
  lies_now prefix host (k, face, within, at, (is_host, inside)) =
      let now = face_now face (k, within, at) in
      (now.1.0, now.0, now.1.1, now.1.2, (now.2 ∙ is_host, inside))

  lies_before : (prefix host : Prefix) → LiesInHost after prefix host → LiesInHost net prefix host
  lies_before prefix host (k, face, within, at, (is_host, inside)) =
      let was = face_was face (k, within, at) in
      (was.1.0, was.0, was.1.1, was.1.2, (sym was.2 ∙ is_host, inside))

  pub same_hosts : (prefix host : Prefix) → LiesInHost net prefix host ↔ LiesInHost after prefix host
  same_hosts prefix host = (lies_now prefix host, lies_before prefix host)

  pub keeps_ends : (class : Class) → HasEnds net class → HasEnds after class
  keeps_ends class has =
      let source = face_now has.ends.source has.are_ends.source in
      let target = face_now has.ends.target has.are_ends.target in
      record {
        ends = record { source = source.0; target = target.0; to = has.ends.to };
        are_ends = record {
          source = source.1;
          from = subst (λ (o : Option Prefix). IsSomeAnd o (IsInside class.from)) (sym source.2) has.are_ends.from;
          target = target.1;
          host = target.2 ∙ has.are_ends.host;
          to = has.are_ends.to;
        };
        apart = λ same. has.apart (sym source.2 ∙ same ∙ target.2);
      }

pub hosts_stay : HostsStay
hosts_stay net after chosen is prefix host = same_hosts net after chosen is prefix host

pub ends_stay : EndsStay
ends_stay net after chosen is class has = keeps_ends net after chosen is class has
