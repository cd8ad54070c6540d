-- The index of edits finds an edit's place, and what else the code needs of its lists.
use Rattle.std.proofs.Common.{◌≡◌, ◌≢◌, ℕ, ◌+◌, ◌<◌, ◌≤◌, Bool, true, false, cond, not, inl, inr, Option, Some, None, List, [], ◌∷◌, ◌++◌, length, get_or, take, map, refl, sym, ◌∙◌, ap, subst, arith}
use Rattle.std.specs.Prelude.{AllPairs, Contains, nat_lt, if◌then◌else◌}
use Rattle.std.specs.List.{list_any, position, position_or_len}
use Rattle.std.proofs.lemmas.Bool.{false≢true, cases_Bool}
use Rattle.std.proofs.lemmas.List.{length-map, map_more, length-take-le, get_or-take, get_or_default}
use Rattle.arc_base.proofs.Items.{from_map}
use Rattle.condition_formula.proofs.Parts.{any_to}
use Rattle.edit_list.specs.declared.edit_kinds.Edit.{Edit}
use Rattle.policy_encode.specs.Turning.{NumbersOfEdit, key_of, same_edit_key, is_same_edit, place_of}
use Rattle.policy_encode.proofs.Same.{is_same_true}

first_of_map : {X Y : Type 0} (f : X → Y) (p : Y → Bool) (xs : List X) → position_or_len p (map f xs) ≡ position_or_len (λ x. p (f x)) xs
first_of_map f p [] = refl
first_of_map f p (x ∷ xs) = ap (λ n. cond (not (p (f x))) (1 + n) 0) (first_of_map f p xs)

-- the place of an edit's numbers is that of the edit
pub place_is : (list : List Edit) (keys : List NumbersOfEdit) (e : Edit) (k : NumbersOfEdit) → k ≡ key_of e → keys ≡ map key_of list → position (same_edit_key k) keys ≡ place_of list e
place_is list keys e k is_key is =
    let P : ℕ → ℕ → Option ℕ = λ n len. cond (nat_lt n len) (Some n) None in
    ap (λ (l : NumbersOfEdit). position (same_edit_key l) keys) is_key ∙ ap (λ ks. position (same_edit_key (key_of e)) ks) is ∙
    ap (λ n. P n (length (map key_of list))) (first_of_map key_of (same_edit_key (key_of e)) list) ∙
    ap (λ len. P (position_or_len (is_same_edit e) list) len) (length-map list key_of)

by_test : (b : Bool) {X : Type 0} (x y : X) → b ≡ false → (if b then x else y) ≡ y
by_test true x y e = absurd (false≢true (sym e))
by_test false x y e = refl

in_front : (xs : List Edit) (n : ℕ) (x : Edit) → n ≤ length xs → Contains (take n xs) x → (k : ℕ) × (k < n) × (get_or xs k x ≡ x)
in_front xs n x within (k, l, e) = let low : k < n = omega (arith, l, length-take-le n xs within) in (k, low, sym (get_or-take n xs k x low) ∙ e)

-- the numbers of an edit that is new go last
pub index_more : (list : List Edit) → AllPairs (λ (e : Edit) (f : Edit). e ≢ f) list → (i : ℕ) (e : Edit) → i < length list → e ≡ get_or list i e →
    (now next : List NumbersOfEdit) (k : NumbersOfEdit) → k ≡ key_of e →
    now ≡ map key_of (take i list) → next ≡ (if list_any (same_edit_key k) now then now else now ++ k ∷ []) → next ≡ map key_of (take (i + 1) list)
index_more list apart i e within is now next k is_key was grown =
    let seen : Bool = list_any (same_edit_key k) now in
    let fresh : list_any (same_edit_key k) now ≡ false = elim (cases_Bool (list_any (same_edit_key k) now)) [
      | inl t ↦
          let r = any_to (same_edit_key k) now t in
          let s = from_map key_of (take i list) r.0 (subst (λ (ks : List NumbersOfEdit). Contains ks r.0) was r.1) in
          let f = in_front list i s.0 (omega (arith, within)) s.1 in
          let same : e ≡ s.0 = is_same_true e s.0 (ap (λ (l : NumbersOfEdit). same_edit_key l (key_of s.0)) (sym is_key) ∙ ap (same_edit_key k) s.2 ∙ r.2) in
          absurd (apart f.0 i s.0 f.1 within (f.2 ∙ sym same ∙ is ∙ get_or_default list i e s.0 within))
      | inr f ↦ f
    ] in
    grown ∙ by_test (list_any (same_edit_key k) now) now (now ++ k ∷ []) fresh ∙ ap (λ ks. ks ++ k ∷ []) was ∙ ap (λ (l : NumbersOfEdit). map key_of (take i list) ++ l ∷ []) is_key ∙
    ap (λ (x : Edit). map key_of (take i list) ++ key_of x ∷ []) is ∙ sym (map_more key_of list i e within ∙ ap (λ (x : Edit). map key_of (take i list) ++ key_of x ∷ []) refl)
