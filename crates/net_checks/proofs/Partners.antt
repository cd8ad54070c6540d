-- The partners of interfaces.
use Rattle.std.proofs.Common.{◌≡◌, ◌≢◌, ℕ, ◌+◌, ◌<◌, ◌≤◌, inl, inr, List, length, get_or, set, Some, sym, ◌∙◌, ap, subst, arith, zero-add}
use Rattle.std.specs.Prelude.{AllPairs, slice_get}
use Rattle.std.specs.List.{range_with_len}
use Rattle.std.proofs.lemmas.Bool.{cases_lt}
use Rattle.std.proofs.lemmas.Bool.Decides.{eqb_tells}
use Rattle.std.proofs.lemmas.List.{get_or-set_same, get_or-set_other, length-set}
use Rattle.std.proofs.lemmas.List.FromFn.{get_or-range_with_len, length-range_with_len}
use Rattle.std.proofs.lemmas.Option.{slice_get_within, slice_get-get_or, get_or_from_slice_get, same_Some}
use Rattle.net_model.specs.declared.rows.LinkRow.{LinkRow}
use Rattle.net_model.specs.Validity.{AreLinksApart}
use Rattle.net_model.proofs.Arcs.{one_item}
use Rattle.net_checks.specs.Claims.{ArePartners}

-- a list of numbers after a write
at_write : (xs : List ℕ) (i a : ℕ) → i < length xs → slice_get (set xs i a) i ≡ Some a
at_write xs i a h =
    let l : i < length (set xs i a) = omega (arith, length-set xs i a) in
    slice_get-get_or (set xs i a) i 0 l ∙ ap Some (get_or-set_same xs i a 0 h)

off_write : (xs : List ℕ) (i a k : ℕ) → k ≢ i → k < length xs → slice_get (set xs i a) k ≡ slice_get xs k
off_write xs i a k n h =
    let l : k < length (set xs i a) = omega (arith, length-set xs i a) in
    slice_get-get_or (set xs i a) k 0 l ∙ ap Some (get_or-set_other xs i k a 0 n) ∙ sym (slice_get-get_or xs k 0 h)

-- before any link, each interface is its own partner
pub own_themselves : (links : List LinkRow) (count : ℕ) → ArePartners 0 links (range_with_len 0 count)
own_themselves links count = record {
  at_a = λ m link h. absurd (omega (arith, h));
  at_b = λ m link h. absurd (omega (arith, h));
  elsewhere = λ k partner at. inl (own k partner at);
}
  where
    own : (k partner : ℕ) → slice_get (range_with_len 0 count) k ≡ Some partner → partner ≡ k
    own k partner at =
        let long : k < length (range_with_len 0 count) = slice_get_within (range_with_len 0 count) k partner at in
        let within : k < count = omega (arith, length-range_with_len 0 count, long) in
        sym (get_or_from_slice_get (range_with_len 0 count) k partner 0 at) ∙ get_or-range_with_len 0 count k 0 within ∙ zero-add k

-- one more link
pub partners_more : (n : ℕ) (links : List LinkRow) (partners : List ℕ) (row : LinkRow) → slice_get links n ≡ Some row → AllPairs AreLinksApart links →
    row.a.0 < length partners → row.b.0 < length partners → ArePartners n links partners → ArePartners (n + 1) links (set (set partners row.a.0 row.b.0) row.b.0 row.a.0)
partners_more n links partners row read apart a_in b_in old = record {
  at_a = λ m link h at. elim (cases_lt m n) [
    | inl before ↦
        let far : AreLinksApart link row = links_apart m n link row before at read in
        kept link.a.0 link.b.0 far.0 far.1 (old.at_a m link before at)
    | inr now ↦ subst (λ (l : LinkRow). slice_get next l.a.0 ≡ Some l.b.0) (this m link h now at) new_a
  ];
  at_b = λ m link h at. elim (cases_lt m n) [
    | inl before ↦
        let far : AreLinksApart link row = links_apart m n link row before at read in
        kept link.b.0 link.a.0 far.2 far.3 (old.at_b m link before at)
    | inr now ↦ subst (λ (l : LinkRow). slice_get next l.b.0 ≡ Some l.a.0) (this m link h now at) new_b
  ];
  elsewhere = λ k partner at. elim (eqb_tells k row.b.0) [
    | inl here ↦
        let is : row.a.0 ≡ partner = same_Some row.a.0 partner (sym new_b ∙ subst (λ (j : ℕ). slice_get next j ≡ Some partner) here.1 at) in
        inr (n, row, omega arith, read, inr (sym here.1, is))
    | inr not_b ↦
        let in_next : k < length next = slice_get_within next k partner at in
        let in_mid : k < length mid = omega (arith, length-set mid row.b.0 row.a.0, in_next) in
        let in_old : k < length partners = omega (arith, length-set partners row.a.0 row.b.0, in_mid) in
        let at_mid : slice_get mid k ≡ Some partner = sym (off_write mid row.b.0 row.a.0 k not_b.1 in_mid) ∙ at in
        elim (eqb_tells k row.a.0) [
          | inl here ↦
              let is : row.b.0 ≡ partner = same_Some row.b.0 partner (sym (at_write partners row.a.0 row.b.0 a_in) ∙ subst (λ (j : ℕ). slice_get mid j ≡ Some partner) here.1 at_mid) in
              inr (n, row, omega arith, read, inl (sym here.1, is))
          | inr not_a ↦ elim (old.elsewhere k partner (sym (off_write partners row.a.0 row.b.0 k not_a.1 in_old) ∙ at_mid)) [
            | inl own ↦ inl own
            | inr far ↦ inr (far.0, far.1, omega (arith, far.2), far.3, far.4)
          ]
        ]
  ];
}
  where
    mid : List ℕ
    mid = set partners row.a.0 row.b.0

    next : List ℕ
    next = set (set partners row.a.0 row.b.0) row.b.0 row.a.0

    b_in_mid : row.b.0 < length (set partners row.a.0 row.b.0)
    b_in_mid = omega (arith, length-set partners row.a.0 row.b.0, b_in)

    new_b : slice_get (set (set partners row.a.0 row.b.0) row.b.0 row.a.0) row.b.0 ≡ Some row.a.0
    new_b = at_write (set partners row.a.0 row.b.0) row.b.0 row.a.0 b_in_mid

    new_a : slice_get (set (set partners row.a.0 row.b.0) row.b.0 row.a.0) row.a.0 ≡ Some row.b.0
    new_a = elim (eqb_tells row.a.0 row.b.0) [
      | inl same ↦ subst (λ (j : ℕ). slice_get (set (set partners row.a.0 row.b.0) row.b.0 row.a.0) j ≡ Some row.b.0) (sym same.1) (new_b ∙ ap Some same.1)
      | inr other ↦
          let in_mid : row.a.0 < length (set partners row.a.0 row.b.0) = omega (arith, length-set partners row.a.0 row.b.0, a_in) in
          off_write (set partners row.a.0 row.b.0) row.b.0 row.a.0 row.a.0 other.1 in_mid ∙ at_write partners row.a.0 row.b.0 a_in
    ]

    kept : (k partner : ℕ) → k ≢ row.a.0 → k ≢ row.b.0 → slice_get partners k ≡ Some partner → slice_get (set (set partners row.a.0 row.b.0) row.b.0 row.a.0) k ≡ Some partner
    kept k partner not_a not_b was =
        let in_old : k < length partners = slice_get_within partners k partner was in
        let in_mid : k < length (set partners row.a.0 row.b.0) = omega (arith, length-set partners row.a.0 row.b.0, in_old) in
        off_write (set partners row.a.0 row.b.0) row.b.0 row.a.0 k not_b in_mid ∙ off_write partners row.a.0 row.b.0 k not_a in_old ∙ was

    this : (m : ℕ) (link : LinkRow) → m < n + 1 → n ≤ m → slice_get links m ≡ Some link → row ≡ link
    this m link h now at = one_item links n row link read (subst (λ (k : ℕ). slice_get links k ≡ Some link) (omega (arith, h, now)) at)

    links_apart : (m j : ℕ) (l r : LinkRow) → m < j → slice_get links m ≡ Some l → slice_get links j ≡ Some r → AreLinksApart l r
    links_apart m j l r h at_l at_r =
        subst (λ (x : LinkRow). AreLinksApart l x) (get_or_from_slice_get links j r l at_r)
        (subst (λ (x : LinkRow). AreLinksApart x (get_or links j l)) (get_or_from_slice_get links m l l at_l) (apart m j l h (slice_get_within links j r at_r)))
