-- Entries whose numbers do not rise, among ever more entries and lists.
use Rattle.std.proofs.Common.{◌≡◌, ℕ, ◌+◌, ◌-◌, ◌<◌, ◌≤◌, ◌⊎◌, inl, inr, List, length, get_or, take, Option, Some, false, true, refl, sym, ◌∙◌, ap, subst, arith}
use Rattle.std.specs.Prelude.{slice_get, Any}
use Rattle.std.proofs.lemmas.Bool.{cases_lt, false≢true}
use Rattle.std.proofs.lemmas.List.{get_or-take, get_or_default, length-take}
use Rattle.std.proofs.lemmas.Option.{slice_get_within, slice_get-get_or, get_or_from_slice_get}
use Rattle.ios_words.specs.declared.commands.Command.{Command}
use Rattle.ios_config.specs.declared.settings.Given.{Given}
use Rattle.ios_config.specs.Least.{FindsLeast, lesser}
use Rattle.ios_config.specs.Rising.{FallsAt, rises}
use Rattle.ios_config.specs.Texts.{entry_number}
use Rattle.ios_config.proofs.Least.{least_same, least_either}

-- what stands in the front of a list
pub taken : {X : Type 0} (n : ℕ) (xs : List X) (k : ℕ) (x : X) → slice_get (take n xs) k ≡ Some x → (k < n) × (slice_get xs k ≡ Some x)
taken n xs k x e =
    let within : k < length (take n xs) = slice_get_within (take n xs) k x e in
    let front : k < n = omega (arith, length-take n xs) in
    (front, slice_get-get_or xs k x (omega (arith, length-take n xs)) ∙ ap Some (sym (get_or-take n xs k x front) ∙ get_or_from_slice_get (take n xs) k x x e))

pub taken_back : {X : Type 0} (n : ℕ) (xs : List X) (k : ℕ) (x : X) → k < n → slice_get xs k ≡ Some x → slice_get (take n xs) k ≡ Some x
taken_back n xs k x front e =
    let within : k < length xs = slice_get_within xs k x e in
    slice_get-get_or (take n xs) k x (omega (arith, length-take n xs)) ∙ ap Some (get_or-take n xs k x front ∙ get_or_from_slice_get xs k x x e)

-- some of one more item
pub any_to : {X : Type 0} (P : X → Type 0) (xs : List X) (i : ℕ) (x : X) → i < length xs → x ≡ get_or xs i x → Any P (take (i + 1) xs) → Any P (take i xs) ⊎ P x
any_to {X} P xs i x h is any =
    let short : any.0 < i + 1 = omega (arith, any.2, length-take (i + 1) xs) in
    let at : get_or xs any.0 any.1 ≡ any.1 = sym (get_or-take (i + 1) xs any.0 any.1 short) ∙ any.3 in
    by short at (cases_lt any.0 i)
  where
    by : any.0 < i + 1 → get_or xs any.0 any.1 ≡ any.1 → (any.0 < i) ⊎ (i ≤ any.0) → Any P (take i xs) ⊎ P x
    by short at (inl l) = inl (any.0, any.1, omega (arith, length-take i xs), get_or-take i xs any.0 any.1 l ∙ at, any.4)
    by short at (inr g) =
        let last : any.0 ≡ i = omega arith in
        let same : any.1 ≡ x = sym at ∙ ap (λ k. get_or xs k any.1) last ∙ get_or_default xs i any.1 x h ∙ sym is in
        inr (subst P same any.4)

pub any_from : {X : Type 0} (P : X → Type 0) (xs : List X) (i : ℕ) (x : X) → i < length xs → x ≡ get_or xs i x → Any P (take i xs) ⊎ P x → Any P (take (i + 1) xs)
any_from P xs i x h is (inl any) =
    let short : any.0 < i = omega (arith, any.2, length-take i xs) in
    (any.0, any.1, omega (arith, length-take (i + 1) xs), get_or-take (i + 1) xs any.0 any.1 (omega arith) ∙ sym (get_or-take i xs any.0 any.1 short) ∙ any.3, any.4)
any_from P xs i x h is (inr p) = (i, x, omega (arith, length-take (i + 1) xs), get_or-take (i + 1) xs i x (omega arith) ∙ sym is, p)

-- the later of two entries stands at this line and may not follow the earlier one
abbrev pub Falls : Given Command → Given Command → ℕ → Type 0
Falls earlier later line = (rises (entry_number earlier.value) (entry_number later.value) ≡ false) × (later.line ≡ line)

module _ (xs : List (Given Command)) (p : ℕ) (e l : Given Command) (low : 1 ≤ p) (h : p < length xs) (e_is : e ≡ get_or xs (p - 1) e) (l_is : l ≡ get_or xs p l) where
  -- what falls among one more entry
  pub falls_to : (n : ℕ) → FallsAt (take (p + 1) xs) n → FallsAt (take p xs) n ⊎ Falls e l n
  falls_to n f =
      let a = taken (p + 1) xs f.place f.earlier f.at_place in
      let b = taken (p + 1) xs (f.place + 1) f.later f.at_next in
      by a.1 b (cases_lt (f.place + 1) p)
    where
      by : slice_get xs f.place ≡ Some f.earlier → (f.place + 1 < p + 1) × (slice_get xs (f.place + 1) ≡ Some f.later) → (f.place + 1 < p) ⊎ (p ≤ f.place + 1) →
          FallsAt (take p xs) n ⊎ Falls e l n
      by a b (inl short) = inl (record {
        place = f.place;
        earlier = f.earlier;
        at_place = taken_back p xs f.place f.earlier (omega arith) a;
        later = f.later;
        at_next = taken_back p xs (f.place + 1) f.later short b.1;
        falls = f.falls;
        is_line = f.is_line;
      })
      by a b (inr long) =
          let place : f.place ≡ p - 1 = omega (arith, b.0) in
          let next : f.place + 1 ≡ p = omega (arith, b.0) in
          let earlier : f.earlier ≡ e = sym (get_or_from_slice_get xs f.place f.earlier e a) ∙ ap (λ k. get_or xs k e) place ∙ sym e_is in
          let later : f.later ≡ l = sym (get_or_from_slice_get xs (f.place + 1) f.later l b.1) ∙ ap (λ k. get_or xs k l) next ∙ sym l_is in
          inr (
            ap (λ (c : Given Command). rises (entry_number c.value) (entry_number l.value)) (sym earlier) ∙
                ap (λ (c : Given Command). rises (entry_number f.earlier.value) (entry_number c.value)) (sym later) ∙ f.falls,
            ap (λ (c : Given Command). c.line) (sym later) ∙ f.is_line,
          )

  pub falls_from : (n : ℕ) → FallsAt (take p xs) n ⊎ Falls e l n → FallsAt (take (p + 1) xs) n
  falls_from n (inl f) =
      let a = taken p xs f.place f.earlier f.at_place in
      let b = taken p xs (f.place + 1) f.later f.at_next in
      record {
        place = f.place;
        earlier = f.earlier;
        at_place = taken_back (p + 1) xs f.place f.earlier (omega (arith, a.0)) a.1;
        later = f.later;
        at_next = taken_back (p + 1) xs (f.place + 1) f.later (omega (arith, b.0)) b.1;
        falls = f.falls;
        is_line = f.is_line;
      }
  falls_from n (inr f) =
      let next : p ≡ p - 1 + 1 = omega arith in
      record {
        place = p - 1;
        earlier = e;
        at_place = taken_back (p + 1) xs (p - 1) e (omega arith) (slice_get-get_or xs (p - 1) e (omega arith) ∙ ap Some (sym e_is));
        later = l;
        at_next = taken_back (p + 1) xs (p - 1 + 1) l (omega arith) (ap (slice_get xs) (sym next) ∙ slice_get-get_or xs p l h ∙ ap Some (sym l_is));
        falls = f.0;
        is_line = f.1;
      }

  -- the least line that falls, with one more entry that does
  pub least_falls : (found : Option ℕ) → rises (entry_number e.value) (entry_number l.value) ≡ false → FindsLeast (FallsAt (take p xs)) found →
      FindsLeast (FallsAt (take (p + 1) xs)) (lesser found (Some l.line))
  least_falls found falls least =
      least_same (λ n. FallsAt (take p xs) n ⊎ Falls e l n) (FallsAt (take (p + 1) xs)) (lesser found (Some l.line)) falls_from falls_to
      (least_either (FallsAt (take p xs)) (Falls e l) found (Some l.line) least (record { has = (falls, refl); least = λ other (f : Falls e l other). let same : l.line ≡ other = f.1 in omega arith }))

  -- and with one that does not
  pub least_rises : (found : Option ℕ) → rises (entry_number e.value) (entry_number l.value) ≡ true → FindsLeast (FallsAt (take p xs)) found →
      FindsLeast (FallsAt (take (p + 1) xs)) found
  least_rises found rise least =
      least_same (FallsAt (take p xs)) (FallsAt (take (p + 1) xs)) found (λ n f. falls_from n (inl f))
      (λ n f. elim (falls_to n f) [ inl g ↦ g | inr g ↦ absurd (false≢true (sym g.0 ∙ rise)) ]) least
