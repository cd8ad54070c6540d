-- What is asked of the whole network holds after the edits as before them.
use Rattle.std.proofs.Common.{◌≡◌, ◌≢◌, ℕ, ◌+◌, inl, inr, Bool, true, false, Option, Some, None, List, length, refl, sym, ◌∙◌, ap, subst, arith, unwrap_or, take}
use Rattle.std.specs.Prelude.{IfSome, IsSomeAnd, slice_get}
use Rattle.arc_base.specs.Addresses.{IsInside}
use Rattle.arc_base.specs.declared.prefix.Prefix.{Prefix}
use Rattle.arc_base.specs.declared.refusal.Kind.TheVariants as kinds
use Rattle.arc_base.specs.declared.refusal.LimitKind.TheVariants as limits
use Rattle.net_model.specs.declared.policies.Document.{Document}
use Rattle.net_model.specs.declared.policies.LinkText.{LinkText}
use Rattle.net_model.specs.declared.policies.Policy.{Policy}
use Rattle.net_model.specs.declared.rows.FaceRow.{FaceRow}
use Rattle.net_model.specs.declared.rows.LinkRow.{LinkRow}
use Rattle.net_model.specs.declared.rows.Network.{Network}
use Rattle.net_model.specs.Forwarding.{IsHostOf}
use Rattle.net_model.specs.Validity.{IsValid}
use Rattle.ios_config.specs.declared.settings.Config.{Config}
use Rattle.ios_config.specs.declared.settings.FaceText.{FaceText}
use Rattle.net_rules.specs.Addressing.{Overlap, RefusesOverlap, HasEndpoints, RefusesEndpoint}
use Rattle.net_rules.specs.Kinds.{face_kind, is_serial}
use Rattle.net_rules.specs.Limits.{RefusesInterfaces}
use Rattle.net_rules.specs.Linking.{JoinsFree, RefusesLinkFace, FitsSubnets, RefusesLinkSubnets, HasTypeAt, TypesDiffer, RefusesTypes}
use Rattle.arc_base.specs.Lists.{AreDistinct}
use Rattle.net_rules.specs.Reasons.{NoRefusal, InDocument}
use Rattle.net_rules.specs.Rows.{AreRows}
use Rattle.net_rules.specs.Settings.{is_point_to_point}
use Rattle.net_rules.specs.Sites.{Site, FullName, sites, full_names}
use Rattle.net_rules.proofs.SameNetwork.{same_rows}
use Rattle.edit_list.specs.declared.edit_kinds.Edit.{Edit}
use Rattle.edit_list.specs.After.{IsAfter, IsFaceAfter}
use Rattle.edit_list.proofs.RowFacts.{row_was, row_now}
use Rattle.settings_edit_laws.proofs.Edited.{AreEdited, file_was}
use Rattle.settings_edit_laws.proofs.Sites.{FaceStays, site_was, full_names_stay, faces_count}

-- the type of an interface is that of its name and its setting
point_stays : (f h : FaceText) → FaceStays f h → is_point_to_point h ≡ is_point_to_point f
point_stays f h s =
    let point = s.point in
    let named = s.name in
    λ i. unwrap_or (point i) (is_serial (face_kind (named i)))

module _ (doc : Document) (net : Network) (old new : List Config) (chosen : List Edit) (g : AreEdited doc net old new chosen) where
  names : full_names new ≡ full_names old
  names = full_names_stay net chosen old new g.settings

  pub clear_link_face : NoRefusal (RefusesLinkFace doc old) → NoRefusal (RefusesLinkFace doc new)
  clear_link_face clear = subst (λ (l : List FullName). NoRefusal (InDocument kinds.LinkFace (λ (place : ℕ) (link : LinkText). ¬ JoinsFree l (take place doc.links) link) doc.links)) (sym names) clear

  pub clear_interfaces : NoRefusal (RefusesInterfaces old) → NoRefusal (RefusesInterfaces new)
  clear_interfaces clear r bad =
      let was = file_was doc net old new chosen g bad.place bad.config bad.at_place in
      let count : length bad.config.faces ≡ length was.config.faces = faces_count net chosen bad.place was.config bad.config was.after in
      clear (record { file = bad.place + 1; number = 0; kind = kinds.Limit limits.Interfaces (length was.config.faces) })
      (record { place = bad.place; config = was.config; at_place = was.at; many = omega (arith, bad.many, count); told = refl })

  module _ (after : Network) (is : IsAfter net chosen after) (valid_after : IsValid after) (rows : AreRows doc new after) (distinct : AreDistinct (full_names old)) where
    pub one : (other : Network) → AreRows doc new other → other ≡ after
    one other others = same_rows doc new (subst (λ (l : List FullName). AreDistinct l) (sym names) distinct) other after others rows

    pub clear_overlap : NoRefusal (RefusesOverlap doc new)
    clear_overlap r bad =
        let overlap : Overlap after bad.overlaps.0 bad.place = subst (λ (n : Network). Overlap n bad.overlaps.0 bad.place) (one bad.net bad.rows) bad.overlaps.2 in
        let apart : bad.overlaps.0 ≢ bad.place = λ same. omega (arith, same, bad.overlaps.1) in
        elim (valid_after.subnets bad.overlaps.0 bad.place overlap.f overlap.g overlap.at_i overlap.at_j apart) [ inl linked ↦ overlap.not_linked linked | inr free ↦ overlap.not_apart free ]

    face_before : (k : ℕ) (now : FaceRow) → slice_get after.faces k ≡ Some now → (was : FaceRow) × (slice_get net.faces k ≡ Some was) × IsFaceAfter net chosen after k was now
    face_before k now at = row_was (IsFaceAfter net chosen after) net.faces after.faces is.faces k now at

    face_after : (k : ℕ) (was : FaceRow) → slice_get net.faces k ≡ Some was → (now : FaceRow) × (slice_get after.faces k ≡ Some now) × IsFaceAfter net chosen after k was now
    face_after k was at = row_now (IsFaceAfter net chosen after) net.faces after.faces is.faces k was at

    fits_now : (link : LinkRow) → FitsSubnets net link → FitsSubnets after link
    fits_now link fits f h at_f at_h =
        let a = face_before link.a.0 f at_f in
        let b = face_before link.b.0 h at_h in
        let same_f : f.addr ≡ a.0.addr = ap (λ (x : FaceRow). x.addr) a.2.same in
        let same_h : h.addr ≡ b.0.addr = ap (λ (x : FaceRow). x.addr) b.2.same in
        let net_f : f.subnet ≡ a.0.subnet = ap (λ (x : FaceRow). x.subnet) a.2.same in
        let net_h : h.subnet ≡ b.0.subnet = ap (λ (x : FaceRow). x.subnet) b.2.same in
        subst (λ (o : Option ℕ). IfSome o (λ x. IfSome h.addr (λ y. (x ≢ y) × (f.subnet ≡ h.subnet)))) (sym same_f)
        (subst (λ (o : Option ℕ). IfSome a.0.addr (λ x. IfSome o (λ y. (x ≢ y) × (f.subnet ≡ h.subnet)))) (sym same_h)
        (subst (λ (o : Option Prefix). IfSome a.0.addr (λ x. IfSome b.0.addr (λ y. (x ≢ y) × (o ≡ h.subnet)))) (sym net_f)
        (subst (λ (o : Option Prefix). IfSome a.0.addr (λ x. IfSome b.0.addr (λ y. (x ≢ y) × (a.0.subnet ≡ o)))) (sym net_h) (fits a.0 b.0 a.1 b.1))))

    pub clear_link_subnets : NoRefusal (RefusesLinkSubnets doc old) → NoRefusal (RefusesLinkSubnets doc new)
    clear_link_subnets clear r bad =
        let refuses : InDocument kinds.LinkSubnets (λ (place : ℕ) (link : LinkRow). ¬ FitsSubnets after link) after.links r =
        subst (λ (n : Network). InDocument kinds.LinkSubnets (λ (place : ℕ) (link : LinkRow). ¬ FitsSubnets n link) n.links r) (one bad.net bad.rows) bad.refuses in
        clear r (record {
          net = net;
          rows = g.rows;
          refuses = record {
            place = refuses.place;
            item = refuses.item;
            at_place = ap (λ (l : List LinkRow). slice_get l refuses.place) (sym is.links) ∙ refuses.at_place;
            offends = λ fits. refuses.offends (fits_now refuses.item fits);
            told = refuses.told;
          };
        })

    type_was : (k : ℕ) (point : Bool) → HasTypeAt new k point → HasTypeAt old k point
    type_was k point h = by (slice_get (sites new) k) refl h
      where
        by : (o : Option Site) → slice_get (sites new) k ≡ o → IsSomeAnd o (λ site. is_point_to_point site.face ≡ point) → HasTypeAt old k point
        by None e p = absurd p
        by (Some t) e p =
            let s = site_was net chosen old new g.settings k t e in
            subst (λ (o : Option Site). IsSomeAnd o (λ site. is_point_to_point site.face ≡ point)) (sym s.1) (sym (point_stays s.0.face t.face s.2.stays) ∙ p)

    types_was : (link : LinkRow) → TypesDiffer new link → TypesDiffer old link
    types_was link (inl h) = inl (type_was link.a.0 true h.0, type_was link.b.0 false h.1)
    types_was link (inr h) = inr (type_was link.a.0 false h.0, type_was link.b.0 true h.1)

    pub clear_types : NoRefusal (RefusesTypes doc old) → NoRefusal (RefusesTypes doc new)
    clear_types clear r bad =
        let refuses : InDocument kinds.AdjacencyForm (λ (place : ℕ) (link : LinkRow). TypesDiffer new link) after.links r =
        subst (λ (n : Network). InDocument kinds.AdjacencyForm (λ (place : ℕ) (link : LinkRow). TypesDiffer new link) n.links r) (one bad.net bad.rows) bad.refuses in
        clear r (record {
          net = net;
          rows = g.rows;
          refuses = record {
            place = refuses.place;
            item = refuses.item;
            at_place = ap (λ (l : List LinkRow). slice_get l refuses.place) (sym is.links) ∙ refuses.at_place;
            offends = types_was refuses.item refuses.offends;
            told = refuses.told;
          };
        })

    host_now : (p : Prefix) (k : ℕ) → IsHostOf net p k → IsHostOf after p k
    host_now p k h =
        let n = face_after k h.face h.at_place in
        record { face = n.0; at_place = n.1; lies = subst (λ (o : Option Prefix). IsSomeAnd o (IsInside p)) (sym (ap (λ (x : FaceRow). x.host) n.2.same)) h.lies }

    endpoints_now : (origin destination : Prefix) → HasEndpoints net origin destination → HasEndpoints after origin destination
    endpoints_now origin destination h = record { source = h.source; target = h.target; from = host_now origin h.source h.from; to = host_now destination h.target h.to; apart = h.apart }

    pub clear_endpoint : NoRefusal (RefusesEndpoint doc old) → NoRefusal (RefusesEndpoint doc new)
    clear_endpoint clear r bad =
        let refuses : InDocument kinds.Endpoint (λ (place : ℕ) (policy : Policy). ¬ HasEndpoints after policy.from policy.to) doc.policies r =
        subst (λ (n : Network). InDocument kinds.Endpoint (λ (place : ℕ) (policy : Policy). ¬ HasEndpoints n policy.from policy.to) doc.policies r) (one bad.net bad.rows) bad.refuses in
        clear r (record {
          net = net;
          rows = g.rows;
          refuses = record {
            place = refuses.place;
            item = refuses.item;
            at_place = refuses.at_place;
            offends = λ has. refuses.offends (endpoints_now refuses.item.from refuses.item.to has);
            told = refuses.told;
          };
        })
