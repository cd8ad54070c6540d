-- The first refusal of files, of links and of policies, item by item.
use Rattle.std.proofs.Common.{◌≡◌, ℕ, ◌+◌, ◌<◌, ◌≤◌, inl, inr, Some, List, length, get_or, refl, sym, ◌∙◌, ap, subst, arith, Err, Bool, true, false, IsTrue, ◌↔◌}
use Rattle.std.specs.Prelude.{slice_get}
use Rattle.std.proofs.lemmas.Bool.{cases_lt, false≢true}
use Rattle.std.proofs.lemmas.Option.{slice_get-get_or, slice_get_within, same_Some}
use Rattle.arc_base.specs.declared.refusal.Kind.{Kind}
use Rattle.net_doc.specs.declared.fault.Refusal.{Refusal}
use Rattle.net_doc.specs.declared.fault.NetFault.{NetFault}
use Rattle.net_doc.specs.declared.fault.NetFault.TheVariants.{Refused}
use Rattle.ios_config.specs.Least.{IsLeast}
use Rattle.net_rules.specs.Reasons.{IsBefore, NoRefusal, IsEarliest, Tried, InFiles, InDocument}

-- a refusal that a function made is that of the try
pub tried_refused : {X : Type 0} (Reason : Refusal → Type 0) (IsRight : X → Type 0) (fault : NetFault) (r : Refusal) → fault ≡ Refused r → IsEarliest Reason r → Tried Reason IsRight (Err fault)
tried_refused Reason IsRight fault r is first = subst (λ (f : NetFault). Tried Reason IsRight (Err f)) (sym is) first

at_place_is : {X : Type 0} (xs : List X) (n : ℕ) (x : X) → n < length xs → x ≡ get_or xs n x → slice_get xs n ≡ Some x
at_place_is xs n x within is = slice_get-get_or xs n x within ∙ ap Some (sym is)

module _ {X : Type 0} (kind : Kind) (Offends : ℕ → X → ℕ → Type 0) (items : List X) where
  -- no item before the place offends
  abbrev pub ClearTo : ℕ → Type 0
  ClearTo n = (place : ℕ) (item : X) (number : ℕ) → place < n → slice_get items place ≡ Some item → ¬ Offends place item number

  pub clear_more : (n : ℕ) (item : X) → n < length items → item ≡ get_or items n item → ClearTo n → ((number : ℕ) → ¬ Offends n item number) → ClearTo (n + 1)
  clear_more n item within is before now place other number h at = elim (cases_lt place n) [
    | inl earlier ↦ before place other number earlier at
    | inr here ↦
        let same : place ≡ n = omega (arith, h, here) in
        let at_n : slice_get items n ≡ Some other = subst (λ (k : ℕ). slice_get items k ≡ Some other) same at in
        let item_is : other ≡ item = same_Some other item (sym at_n ∙ at_place_is items n item within is) in
        λ bad. now number (subst (λ (k : ℕ). Offends k item number) same (subst (λ (x : X). Offends place x number) item_is bad))
  ]

  pub clear_all : (n : ℕ) → length items ≤ n → ClearTo n → NoRefusal (InFiles kind Offends items)
  clear_all n past clear r bad = clear bad.place bad.item bad.number (omega (arith, slice_get_within items bad.place bad.item bad.at_place, past)) bad.at_place bad.offends

  -- the first item that offends, at its least number
  pub first_found : (n : ℕ) (item : X) (number : ℕ) → n < length items → item ≡ get_or items n item → ClearTo n → IsLeast (Offends n item) number →
      IsEarliest (InFiles kind Offends items) (record { file = n + 1; number = number; kind = kind })
  first_found n item number within is clear least = record {
    made = record { place = n; item = item; at_place = at_place_is items n item within is; number = number; offends = least.has; told = refl };
    first = λ other bad. not_before other bad;
  }
    where
      r : Refusal
      r = record { file = n + 1; number = number; kind = kind }

      not_before : (other : Refusal) → InFiles kind Offends items other → ¬ IsBefore other r
      not_before other bad (inl earlier) =
          let file : other.file ≡ bad.place + 1 = ap (λ (s : Refusal). s.file) bad.told in
          clear bad.place bad.item bad.number (omega (arith, file, earlier)) bad.at_place bad.offends
      not_before other bad (inr (same, lower)) =
          let file : other.file ≡ bad.place + 1 = ap (λ (s : Refusal). s.file) bad.told in
          let line : other.number ≡ bad.number = ap (λ (s : Refusal). s.number) bad.told in
          let place : bad.place ≡ n = omega (arith, file, same) in
          let at_n : slice_get items n ≡ Some bad.item = subst (λ (k : ℕ). slice_get items k ≡ Some bad.item) place bad.at_place in
          let item_is : bad.item ≡ item = same_Some bad.item item (sym at_n ∙ at_place_is items n item within is) in
          let offends : Offends n item bad.number = subst (λ (k : ℕ). Offends k item bad.number) place (subst (λ (x : X). Offends bad.place x bad.number) item_is bad.offends) in
          omega (arith, least.least bad.number offends, line, lower)

module _ {X : Type 0} (kind : Kind) (Offends : ℕ → X → Type 0) (items : List X) where
  -- no item of the document before the place offends
  abbrev pub NoneTo : ℕ → Type 0
  NoneTo n = (place : ℕ) (item : X) → place < n → slice_get items place ≡ Some item → ¬ Offends place item

  pub none_more : (n : ℕ) (item : X) → n < length items → item ≡ get_or items n item → NoneTo n → ¬ Offends n item → NoneTo (n + 1)
  none_more n item within is before now place other h at = elim (cases_lt place n) [
    | inl earlier ↦ before place other earlier at
    | inr here ↦
        let same : place ≡ n = omega (arith, h, here) in
        let at_n : slice_get items n ≡ Some other = subst (λ (k : ℕ). slice_get items k ≡ Some other) same at in
        let item_is : other ≡ item = same_Some other item (sym at_n ∙ at_place_is items n item within is) in
        λ bad. now (subst (λ (k : ℕ). Offends k item) same (subst (λ (x : X). Offends place x) item_is bad))
  ]

  pub none_all : (n : ℕ) → length items ≤ n → NoneTo n → NoRefusal (InDocument kind Offends items)
  none_all n past clear r bad = clear bad.place bad.item (omega (arith, slice_get_within items bad.place bad.item bad.at_place, past)) bad.at_place bad.offends

  -- the first item that offends
  pub first_item : (n : ℕ) (item : X) → n < length items → item ≡ get_or items n item → NoneTo n → Offends n item →
      IsEarliest (InDocument kind Offends items) (record { file = 0; number = n + 1; kind = kind })
  first_item n item within is clear offends = record {
    made = record { place = n; item = item; at_place = at_place_is items n item within is; offends = offends; told = refl };
    first = λ other bad. not_before other bad;
  }
    where
      r : Refusal
      r = record { file = 0; number = n + 1; kind = kind }

      not_before : (other : Refusal) → InDocument kind Offends items other → ¬ IsBefore other r
      not_before other bad (inl earlier) = absurd (omega (arith, earlier))
      not_before other bad (inr (same, lower)) =
          let line : other.number ≡ bad.place + 1 = ap (λ (s : Refusal). s.number) bad.told in
          clear bad.place bad.item (omega (arith, line, lower)) bad.at_place bad.offends

-- a test of each item of the document, whose answer is known
module _ {X : Type 0} (kind : Kind) (Good : X → Type 0) (items : List X) (n : ℕ) (item : X) (within : n < length items) (is : item ≡ get_or items n item) (passes : Bool)
    (said : IsTrue passes ↔ Good item) where
  pub bad_item : NoneTo kind (λ (place : ℕ) (x : X). ¬ Good x) items n → passes ≡ false →
      IsEarliest (InDocument kind (λ (place : ℕ) (x : X). ¬ Good x) items) (record { file = 0; number = n + 1; kind = kind })
  bad_item clear fails = first_item kind (λ (place : ℕ) (x : X). ¬ Good x) items n item within is clear (λ good. false≢true (sym fails ∙ said.1 good))

  pub good_item : NoneTo kind (λ (place : ℕ) (x : X). ¬ Good x) items n → passes ≡ true → NoneTo kind (λ (place : ℕ) (x : X). ¬ Good x) items (n + 1)
  good_item clear holds = none_more kind (λ (place : ℕ) (x : X). ¬ Good x) items n item within is clear (λ bad. bad (said.0 holds))
