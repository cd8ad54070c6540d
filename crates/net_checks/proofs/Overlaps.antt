-- The claims of interfaces are linked or apart exactly where no interfaces overlap.
use Rattle.std.proofs.Common.{◌≡◌, ◌≢◌, ℕ, zero, suc, ◌<◌, ◌≤◌, ◌⊎◌, inl, inr, Bool, true, false, MatchBool, Option}
use Rattle.std.proofs.Common.{Some, None, List, [], ◌∷◌, ◌++◌, ◌+◌, length, get_or, take, refl, sym, ◌∙◌, ap, subst, arith}
use Rattle.std.specs.Prelude.{AllPairs, IfSome, slice_get, option_map}
use Rattle.std.specs.List.{cons_option}
use Rattle.std.proofs.lemmas.Bool.{cases_lt}
use Rattle.std.proofs.lemmas.List.{get_or_default, append-nil}
use Rattle.std.proofs.lemmas.List.Elements.{Contains-append_left, Contains-append_right, Contains-append_cases}
use Rattle.std.proofs.lemmas.List.Quantifiers.{all_pairs_push}
use Rattle.std.proofs.lemmas.Option.{slice_get_within, slice_get-get_or, get_or_from_slice_get, none-some, same_Some}
use Rattle.arc_base.specs.Addresses.{AreDisjoint}
use Rattle.arc_base.specs.declared.prefix.Prefix.{Prefix}
use Rattle.net_model.specs.declared.rows.FaceRow.{FaceRow}
use Rattle.net_model.specs.declared.rows.LinkRow.{LinkRow}
use Rattle.net_model.specs.declared.rows.Network.{Network}
use Rattle.net_model.specs.Validity.{AreLinked, AreApart, EndsAt}
use Rattle.net_checks.specs.declared.claims.Claim.{Claim}
use Rattle.net_checks.specs.Claims.{ArePartners, AreLinkedOrApart, AreOfPartners, IsClaimOf, AreClaimsOf, ClearBelow, claim_of}
use Rattle.arc_base.proofs.Items.{Contains-head, Contains-cases, Contains-none}

taken : {X : Type 0} (xs : List X) (n i : ℕ) (x : X) → i < n → slice_get xs i ≡ Some x → slice_get (take n xs) i ≡ Some x
taken [] n i x h at = absurd (none-some x at)
taken (y ∷ xs) zero i x h at = absurd (omega (arith, h))
taken (y ∷ xs) (suc n) zero x h at = at
taken (y ∷ xs) (suc n) (suc i) x h at = taken xs n i x (omega arith) at

untaken : {X : Type 0} (xs : List X) (n i : ℕ) (x : X) → slice_get (take n xs) i ≡ Some x → (i < n) × (slice_get xs i ≡ Some x)
untaken [] zero i x at = absurd (none-some x at)
untaken [] (suc n) i x at = absurd (none-some x at)
untaken (y ∷ xs) zero i x at = absurd (none-some x at)
untaken (y ∷ xs) (suc n) zero x at = (omega arith, at)
untaken (y ∷ xs) (suc n) (suc i) x at = let r = untaken xs n i x at in (omega (arith, r.0), r.1)

pub turn_linked : (net : Network) (i j : ℕ) → AreLinked net i j → AreLinked net j i
turn_linked net i j (m, link, within, read, ends) = (m, link, within, read, (ends.1, ends.0))

-- subnets that are disjoint make interfaces apart, and the other way round
apart_from : (f g : FaceRow) (p q : Prefix) → f.subnet ≡ Some p → g.subnet ≡ Some q → AreDisjoint p q → AreApart f g
apart_from f g p q f_is g_is disjoint =
    let inner : IfSome g.subnet (AreDisjoint p) = subst (λ (o : Option Prefix). IfSome o (AreDisjoint p)) (sym g_is) disjoint in
    subst (λ (o : Option Prefix). IfSome o (λ x. IfSome g.subnet (AreDisjoint x))) (sym f_is) inner

from_apart : (f g : FaceRow) (p q : Prefix) → f.subnet ≡ Some p → g.subnet ≡ Some q → AreApart f g → AreDisjoint p q
from_apart f g p q f_is g_is apart =
    let inner : IfSome g.subnet (AreDisjoint p) = subst (λ (o : Option Prefix). IfSome o (λ x. IfSome g.subnet (AreDisjoint x))) f_is apart in
    subst (λ (o : Option Prefix). IfSome o (AreDisjoint p)) g_is inner

module _ (net : Network) (partners : List ℕ) (are : ArePartners (length net.links) net.links partners) where
  partner_linked : (i j : ℕ) → i ≢ j → slice_get partners i ≡ Some j → AreLinked net i j
  partner_linked i j differ at = elim (are.elsewhere i j at) [
    | inl own ↦ absurd (differ (sym own))
    | inr (m, link, h, at_link, ends) ↦ (m, link, slice_get_within net.links m link at_link, get_or_from_slice_get net.links m link link at_link, both link ends)
  ]
    where
      both : (link : LinkRow) → ((link.a.0 ≡ i) × (link.b.0 ≡ j)) ⊎ ((link.b.0 ≡ i) × (link.a.0 ≡ j)) → EndsAt link i × EndsAt link j
      both link (inl e) = (inl e.0, inr e.1)
      both link (inr e) = (inr e.0, inl e.1)

  linked_partner : (i j : ℕ) → i ≢ j → AreLinked net i j → slice_get partners i ≡ Some j
  linked_partner i j differ (m, link, within, read, (at_i, at_j)) = by at_i at_j
    where
      at_link : slice_get net.links m ≡ Some link
      at_link = slice_get-get_or net.links m link within ∙ ap Some read

      by : EndsAt link i → EndsAt link j → slice_get partners i ≡ Some j
      by (inl x) (inl y) = absurd (differ (sym x ∙ y))
      by (inl x) (inr y) = subst (λ (k : ℕ). slice_get partners k ≡ Some j) x (are.at_a m link within at_link ∙ ap Some y)
      by (inr x) (inl y) = subst (λ (k : ℕ). slice_get partners k ≡ Some j) x (are.at_b m link within at_link ∙ ap Some y)
      by (inr x) (inr y) = absurd (differ (sym x ∙ y))

  module _ (n : ℕ) (claims : List Claim) (known : AreClaimsOf (take n net.faces) partners claims) where
    claim_at : (a : ℕ) (d : Claim) → a < length claims → IsClaimOf (take n net.faces) partners (get_or claims a d)
    claim_at a d l = known.each (get_or claims a d) (a, l, get_or_default claims a (get_or claims a d) d l)

    pub of_partners : AreOfPartners claims
    of_partners a b d l m =
        let x : IsClaimOf (take n net.faces) partners (get_or claims a d) = claim_at a d (omega arith) in
        let y : IsClaimOf (take n net.faces) partners (get_or claims b d) = claim_at b d m in
        let differ : (get_or claims a d).place ≢ (get_or claims b d).place = known.apart a b d l m in (
          differ,
          λ e. back (get_or claims a d) (get_or claims b d) x y differ e,
          λ e. back (get_or claims b d) (get_or claims a d) y x (λ same. differ (sym same)) e,
        )
      where
        back : (x y : Claim) → IsClaimOf (take n net.faces) partners x → IsClaimOf (take n net.faces) partners y → x.place ≢ y.place → x.partner ≡ y.place → y.partner ≡ x.place
        back x y of_x of_y differ e =
            let linked : AreLinked net x.place y.place = partner_linked x.place y.place differ (of_x.partner ∙ ap Some e) in
            same_Some y.partner x.place (sym of_y.partner ∙ linked_partner y.place x.place (λ same. differ (sym same)) (turn_linked net x.place y.place linked))

    -- what is between two interfaces is between their claims
    to_claims : (x y : Claim) → IsClaimOf (take n net.faces) partners x → IsClaimOf (take n net.faces) partners y → x.place ≢ y.place → ClearBelow net n → AreLinkedOrApart x y
    to_claims x y of_x of_y differ clear = elim (cases_lt x.place y.place) [
      | inl lower ↦ elim (clear x.place y.place of_x.face of_y.face lower in_y.0 in_x.1 in_y.1) [
        | inl linked ↦ inl (same_Some x.partner y.place (sym of_x.partner ∙ linked_partner x.place y.place differ linked))
        | inr apart ↦ inr (from_apart of_x.face of_y.face x.subnet y.subnet of_x.subnet of_y.subnet apart)
      ]
      | inr not_lower ↦
          let higher : y.place < x.place = omega_from not_lower in
          elim (clear y.place x.place of_y.face of_x.face higher in_x.0 in_y.1 in_x.1) [
            | inl linked ↦ inl (same_Some x.partner y.place (sym of_x.partner ∙ linked_partner x.place y.place differ (turn_linked net y.place x.place linked)))
            | inr apart ↦
                let disjoint : AreDisjoint y.subnet x.subnet = from_apart of_y.face of_x.face y.subnet x.subnet of_y.subnet of_x.subnet apart in
                inr (λ address in_x in_y. disjoint address in_y in_x)
          ]
    ]
      where
        in_x : (x.place < n) × (slice_get net.faces x.place ≡ Some of_x.face)
        in_x = untaken net.faces n x.place of_x.face of_x.at_place

        in_y : (y.place < n) × (slice_get net.faces y.place ≡ Some of_y.face)
        in_y = untaken net.faces n y.place of_y.face of_y.at_place

        omega_from : y.place ≤ x.place → y.place < x.place
        omega_from h = elim (cases_lt y.place x.place) [
          | inl lower ↦ lower
          | inr other ↦ absurd (differ (omega (arith, h, other)))
        ]

    pub claims_from_clear : ClearBelow net n → AllPairs AreLinkedOrApart claims
    claims_from_clear clear a b d l m = to_claims (get_or claims a d) (get_or claims b d) (claim_at a d (omega arith)) (claim_at b d m) (known.apart a b d l m) clear

    -- what is between two claims is between their interfaces
    from_claims : (x y : Claim) (f g : FaceRow) → IsClaimOf (take n net.faces) partners x → x.place ≢ y.place → f.subnet ≡ Some x.subnet →
        g.subnet ≡ Some y.subnet → AreLinkedOrApart x y → AreLinked net x.place y.place ⊎ AreApart f g
    from_claims x y f g of_x differ f_is g_is (inl partner) = inl (partner_linked x.place y.place differ (of_x.partner ∙ ap Some partner))
    from_claims x y f g of_x differ f_is g_is (inr disjoint) = inr (apart_from f g x.subnet y.subnet f_is g_is disjoint)

    pub clear_from_claims : AllPairs AreLinkedOrApart claims → ClearBelow net n
    clear_from_claims free i j f g lower below at_f at_g = by f.subnet g.subnet refl refl
      where
        whole : (p q : Prefix) → f.subnet ≡ Some p → g.subnet ≡ Some q → AreLinked net i j ⊎ AreApart f g
        whole p q f_is g_is =
            let x = known.all i f p (taken net.faces n i f (omega (arith, lower, below)) at_f) f_is in
            let y = known.all j g q (taken net.faces n j g below at_g) g_is in
            let of_x : IsClaimOf (take n net.faces) partners x.0 = known.each x.0 x.1 in
            let of_y : IsClaimOf (take n net.faces) partners y.0 = known.each y.0 y.1 in
            let x_face : slice_get net.faces i ≡ Some of_x.face = subst (λ (k : ℕ). slice_get net.faces k ≡ Some of_x.face) x.2 (untaken net.faces n x.0.place of_x.face of_x.at_place).1 in
            let y_face : slice_get net.faces j ≡ Some of_y.face = subst (λ (k : ℕ). slice_get net.faces k ≡ Some of_y.face) y.2 (untaken net.faces n y.0.place of_y.face of_y.at_place).1 in
            let f_sub : f.subnet ≡ Some x.0.subnet = subst (λ (r : FaceRow). r.subnet ≡ Some x.0.subnet) (same_Some of_x.face f (sym x_face ∙ at_f)) of_x.subnet in
            let g_sub : g.subnet ≡ Some y.0.subnet = subst (λ (r : FaceRow). r.subnet ≡ Some y.0.subnet) (same_Some of_y.face g (sym y_face ∙ at_g)) of_y.subnet in
            let differ : x.0.place ≢ y.0.place = λ e. omega (arith, x.2, y.2, e, lower) in
            elim (cases_lt x.1.0 y.1.0) [
              | inl before ↦
                  let pair : AreLinkedOrApart x.0 y.0 =
                  subst (λ (c : Claim). AreLinkedOrApart x.0 c) (get_or_default claims y.1.0 x.0 y.0 y.1.1 ∙ y.1.2)
                  (subst (λ (c : Claim). AreLinkedOrApart c (get_or claims y.1.0 x.0)) x.1.2 (free x.1.0 y.1.0 x.0 before y.1.1)) in
                  moved x.0 y.0 x.2 y.2 (from_claims x.0 y.0 f g of_x differ f_sub g_sub pair)
              | inr not_before ↦ elim (cases_lt y.1.0 x.1.0) [
                | inl after ↦
                    let pair : AreLinkedOrApart y.0 x.0 =
                    subst (λ (c : Claim). AreLinkedOrApart y.0 c) (get_or_default claims x.1.0 y.0 x.0 x.1.1 ∙ x.1.2)
                    (subst (λ (c : Claim). AreLinkedOrApart c (get_or claims x.1.0 y.0)) y.1.2 (free y.1.0 x.1.0 y.0 after x.1.1)) in
                    turned x.0 y.0 x.2 y.2 (from_claims y.0 x.0 g f of_y (λ e. differ (sym e)) g_sub f_sub pair)
                | inr same ↦
                    let one : x.1.0 ≡ y.1.0 = omega (arith, not_before, same) in
                    absurd (differ (ap (λ (c : Claim). c.place) (sym x.1.2 ∙ ap (λ (k : ℕ). get_or claims k x.0) one ∙ get_or_default claims y.1.0 x.0 y.0 y.1.1 ∙ y.1.2)))
              ]
            ]
          where
            moved : (x y : Claim) → x.place ≡ i → y.place ≡ j → AreLinked net x.place y.place ⊎ AreApart f g → AreLinked net i j ⊎ AreApart f g
            moved x y at_i at_j (inl linked) = inl (subst (λ (k : ℕ). AreLinked net k j) at_i (subst (λ (k : ℕ). AreLinked net x.place k) at_j linked))
            moved x y at_i at_j (inr apart) = inr apart

            turned : (x y : Claim) → x.place ≡ i → y.place ≡ j → AreLinked net y.place x.place ⊎ AreApart g f → AreLinked net i j ⊎ AreApart f g
            turned x y at_i at_j (inl linked) = inl (subst (λ (k : ℕ). AreLinked net k j) at_i (subst (λ (k : ℕ). AreLinked net x.place k) at_j (turn_linked net y.place x.place linked)))
            turned x y at_i at_j (inr apart) = inr (turn_apart apart)
              where
                turn_apart : AreApart g f → AreApart f g
                turn_apart apart = apart_from f g _ _ f_is g_is (λ address in_p in_q. from_apart g f _ _ g_is f_is apart address in_q in_p)

        by : (o r : Option Prefix) → f.subnet ≡ o → g.subnet ≡ r → AreLinked net i j ⊎ AreApart f g
        by None r f_is g_is = inr (subst (λ (o : Option Prefix). IfSome o (λ x. IfSome g.subnet (AreDisjoint x))) (sym f_is) tt)
        by (Some p) None f_is g_is =
            let inner : IfSome g.subnet (AreDisjoint p) = subst (λ (o : Option Prefix). IfSome o (AreDisjoint p)) (sym g_is) tt in
            inr (subst (λ (o : Option Prefix). IfSome o (λ x. IfSome g.subnet (AreDisjoint x))) (sym f_is) inner)
        by (Some p) (Some q) f_is g_is = whole p q f_is g_is

    -- the answer on the claims is that on the interfaces
    pub clear_by_claims : (answer : Bool) → MatchBool answer (AllPairs AreLinkedOrApart claims) (¬ AllPairs AreLinkedOrApart claims) → MatchBool answer (ClearBelow net n) (¬ ClearBelow net n)
    clear_by_claims true free = clear_from_claims free
    clear_by_claims false overlap = λ clear. overlap (claims_from_clear clear)

-- one more interface
pub claims_more : (faces : List FaceRow) (partners : List ℕ) (claims next : List Claim) (n partner : ℕ) (face : FaceRow) → n < length faces →
    face ≡ get_or faces n face → slice_get partners n ≡ Some partner →
    AreClaimsOf (take n faces) partners claims → next ≡ claims ++ cons_option (claim_of face n partner) [] → AreClaimsOf (take (n + 1) faces) partners next
claims_more faces partners claims next n partner face within is at_partner old grown = by face.subnet refl
  where
    now : slice_get (take (n + 1) faces) n ≡ Some face
    now = taken faces (n + 1) n face (omega arith) (slice_get-get_or faces n face within ∙ ap Some (sym is))

    earlier : (place : ℕ) (f : FaceRow) → slice_get (take n faces) place ≡ Some f → slice_get (take (n + 1) faces) place ≡ Some f
    earlier place f at = let r = untaken faces n place f at in taken faces (n + 1) place f (omega (arith, r.0)) r.1

    -- an old claim is one of the interfaces with one more
    kept : (claim : Claim) → IsClaimOf (take n faces) partners claim → IsClaimOf (take (n + 1) faces) partners claim
    kept claim of = record { face = of.face; at_place = earlier claim.place of.face of.at_place; subnet = of.subnet; partner = of.partner }

    -- an interface with one more is one of those before, or the last
    which : (place : ℕ) (f : FaceRow) → slice_get (take (n + 1) faces) place ≡ Some f → (slice_get (take n faces) place ≡ Some f) ⊎ ((place ≡ n) × (f ≡ face))
    which place f at =
        let r = untaken faces (n + 1) place f at in
        elim (cases_lt place n) [
          | inl lower ↦ inl (taken faces n place f lower r.1)
          | inr higher ↦
              let same : place ≡ n = omega (arith, r.0, higher) in
              inr (same, same_Some f face (sym (subst (λ (k : ℕ). slice_get faces k ≡ Some f) same r.1) ∙ (slice_get-get_or faces n face within ∙ ap Some (sym is))))
        ]

    by : (o : Option Prefix) → face.subnet ≡ o → AreClaimsOf (take (n + 1) faces) partners next
    by None none =
        let same : next ≡ claims = grown ∙ ap (λ (p : Option Prefix). claims ++ cons_option (option_map (λ (q : Prefix). record { subnet = q; place = n; partner = partner }) p) []) none
        ∙ append-nil claims in
        subst (λ (l : List Claim). AreClaimsOf (take (n + 1) faces) partners l) (sym same) (record {
          each = λ claim there. kept claim (old.each claim there);
          all = λ place f p at sub. elim (which place f at) [
            | inl before ↦ old.all place f p before sub
            | inr last ↦ absurd (none-some p (sym none ∙ ap (λ (r : FaceRow). r.subnet) (sym last.1) ∙ sub))
          ];
          apart = old.apart;
        })
    by (Some q) some =
        let claim : Claim = record { subnet = q; place = n; partner = partner } in
        let same : next ≡ claims ++ claim ∷ [] =
        grown ∙ ap (λ (p : Option Prefix). claims ++ cons_option (option_map (λ (q : Prefix). record { subnet = q; place = n; partner = partner }) p) []) some in
        let of_claim : IsClaimOf (take (n + 1) faces) partners claim = record { face = face; at_place = now; subnet = some; partner = at_partner } in
        subst (λ (l : List Claim). AreClaimsOf (take (n + 1) faces) partners l) (sym same) (record {
          each = λ c there. elim (Contains-append_cases claims (claim ∷ []) c there) [
            | inl before ↦ kept c (old.each c before)
            | inr last ↦ elim (Contains-cases claim c [] last) [
              | inl is_c ↦ subst (λ (x : Claim). IsClaimOf (take (n + 1) faces) partners x) is_c of_claim
              | inr none ↦ absurd (Contains-none c none)
            ]
          ];
          all = λ place f p at sub. elim (which place f at) [
            | inl before ↦
                let r = old.all place f p before sub in
                (r.0, Contains-append_left claims (claim ∷ []) r.0 r.1, r.2)
            | inr last ↦ (claim, Contains-append_right claims (claim ∷ []) claim (Contains-head claim []), sym last.0)
          ];
          apart = all_pairs_push (λ (x : Claim) (y : Claim). x.place ≢ y.place) claims claim old.apart (λ k d l e.
              let of = old.each (get_or claims k d) (k, l, get_or_default claims k (get_or claims k d) d l) in
              omega (arith, (untaken faces n (get_or claims k d).place of.face of.at_place).0, e));
        })
