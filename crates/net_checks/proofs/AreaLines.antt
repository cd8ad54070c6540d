-- The areas of the files, one file after another.
use Rattle.std.proofs.Common.{◌≡◌, ◌≢◌, ℕ, ◌+◌, ◌<◌, ◌≤◌, ◌⊎◌, inl, inr, Bool, Option, Some, None, List, [], ◌∷◌, ◌++◌, length, get_or, take, refl, sym, ◌∙◌, ap, subst, arith}
use Rattle.std.specs.Prelude.{Any, Contains, MatchOption, slice_get, if◌then◌else◌}
use Rattle.std.proofs.lemmas.Bool.{cases_lt, lt-ltb, le-ltb}
use Rattle.std.proofs.lemmas.List.{take_more, get_or_default}
use Rattle.std.proofs.lemmas.List.Elements.{Contains-append_left, Contains-append_right, Contains-append_cases}
use Rattle.std.proofs.lemmas.Bool.Decides.{eqb_tells}
use Rattle.std.proofs.lemmas.Option.{slice_get-get_or, slice_get_within, same_Some}
use Rattle.arc_base.specs.declared.refusal.Kind.TheVariants as kinds
use Rattle.net_doc.specs.declared.fault.Refusal.{Refusal}
use Rattle.ios_config.specs.declared.settings.Given.{Given}
use Rattle.ios_config.specs.declared.settings.Config.{Config}
use Rattle.ios_config.specs.Least.{FindsLeast, lesser}
use Rattle.net_rules.specs.Reasons.{IsBefore, NoRefusal, IsEarliest, InFiles}
use Rattle.net_rules.specs.Routers.{areas_of, IsFirstArea, IsOther, RefusesTwoAreas}
use Rattle.net_checks.specs.Growing.{sooner, IsSoonest, line_of_other}
use Rattle.net_rules.proofs.Leasts.{LinesTo, least_more}
use Rattle.arc_base.proofs.Items.{Contains-none, Contains-head, Contains-cases}

-- the files before the place name no area
abbrev pub NoAreaTo : List Config → ℕ → Type 0
NoAreaTo configs n = (place : ℕ) (config : Config) → place < n → slice_get configs place ≡ Some config → areas_of config ≡ []

-- the line of the file names another area than this
abbrev pub NamesOtherThan : ℕ → ℕ → Config → ℕ → Type 0
NamesOtherThan area place config line = Any (IsOther area line) (areas_of config)

pub no_area_more : (items : List Config) (n : ℕ) (config : Config) → n < length items → config ≡ get_or items n config → NoAreaTo items n → areas_of config ≡ [] → NoAreaTo items (n + 1)
no_area_more items n config within is before now place other h at = elim (cases_lt place n) [
  | inl earlier ↦ before place other earlier at
  | inr here ↦
      let same : place ≡ n = omega (arith, h, here) in
      let at_n : slice_get items n ≡ Some other = subst (λ (k : ℕ). slice_get items k ≡ Some other) same at in
      let item_is : config ≡ other = same_Some config other (sym (slice_get-get_or items n config within ∙ ap Some (sym is)) ∙ at_n) in
      subst (λ (c : Config). areas_of c ≡ []) item_is now
]

pub no_first_area : (items : List Config) (n : ℕ) → length items ≤ n → NoAreaTo items n → (area : ℕ) → ¬ IsFirstArea items area
no_first_area items n past none area first =
    let empty : areas_of first.config ≡ [] = none first.place first.config (omega (arith, slice_get_within items first.place first.config first.at_place, past)) first.at_place in
    Contains-none first.given (subst (λ (l : List (Given ℕ)). Contains l first.given) empty first.named)

pub is_first_area : (items : List Config) (n : ℕ) (config : Config) (given : Given ℕ) → n < length items → config ≡ get_or items n config → NoAreaTo items n →
    IsSoonest (areas_of config) (Some given) → IsFirstArea items given.value
is_first_area items n config given within is none soonest = record {
  place = n;
  config = config;
  at_place = at_n;
  given = given;
  named = soonest.0;
  is_area = refl;
  first = λ k c other at there. not_before k c other at there;
}
  where
    at_n : slice_get items n ≡ Some config
    at_n = slice_get-get_or items n config within ∙ ap Some (sym is)

    not_before : (k : ℕ) (c : Config) (other : Given ℕ) → slice_get items k ≡ Some c → Contains (areas_of c) other → ¬ ((k < n) ⊎ ((k ≡ n) × (other.line < given.line)))
    not_before k c other at there (inl earlier) = Contains-none other (subst (λ (l : List (Given ℕ)). Contains l other) (none k c earlier at) there)
    not_before k c other at there (inr (same, lower)) =
        let item_is : c ≡ config = same_Some c config (sym (subst (λ (j : ℕ). slice_get items j ≡ Some c) same at) ∙ at_n) in
        omega (arith, soonest.1 other (subst (λ (d : Config). Contains (areas_of d) other) item_is there), lower)

-- the refusals of other areas than the first
module _ (configs : List Config) (area : ℕ) (is_first : IsFirstArea configs area) where
  abbrev pub Others : Refusal → Type 0
  Others = InFiles kinds.TwoAreas (NamesOtherThan area) configs

  -- a refusal of an area is one of these, or such a one stands no later
  record Found (s : Refusal) : Type 0 where
    pub refusal : Refusal
    pub other : Others refusal
    pub no_later : ¬ IsBefore s refusal

  same_not_before : (s : Refusal) → ¬ IsBefore s s
  same_not_before s (inl h) = absurd (omega (arith, h))
  same_not_before s (inr (e, h)) = absurd (omega (arith, h))

  found : (s : Refusal) → RefusesTwoAreas configs s → Found s
  found s bad =
      let k : ℕ = bad.offends.other.0 in
      let given : Given ℕ = bad.offends.other.1 in
      let there : Contains (areas_of bad.item) given = (k, bad.offends.other.2, bad.offends.other.3) in
      let line : bad.number ≡ given.line = bad.offends.other.4.0 in
      let differs : given.value ≢ bad.offends.first = bad.offends.other.4.1 in
      elim (eqb_tells given.value area) [
        | inr other ↦ record {
          refusal = s;
          other = record {
            place = bad.place;
            item = bad.item;
            at_place = bad.at_place;
            number = bad.number;
            offends =
                (k, given, bad.offends.other.2, bad.offends.other.3, (line, other.1));
            told = bad.told;
          };
          no_later = same_not_before s;
        }
        | inl same ↦
            let first : IsFirstArea configs bad.offends.first = bad.offends.is_first in
            let value : first.given.value ≢ area = λ e. differs (same.1 ∙ sym e ∙ first.is_area) in
            let r : Refusal = record { file = first.place + 1; number = first.given.line; kind = kinds.TwoAreas } in
            let file : s.file ≡ bad.place + 1 = ap (λ (t : Refusal). t.file) bad.told in
            let number : s.number ≡ bad.number = ap (λ (t : Refusal). t.number) bad.told in
            record {
              refusal = r;
              other = record {
                place = first.place;
                item = first.config;
                at_place = first.at_place;
                number = first.given.line;
                offends =
                    (first.named.0, first.given, first.named.1, first.named.2, (refl, value));
                told = refl;
              };
              no_later = λ before. first.first bad.place bad.item given bad.at_place there (earlier given first file number line before);
            }
      ]
    where
      earlier : (given : Given ℕ) (first : IsFirstArea configs bad.offends.first) → s.file ≡ bad.place + 1 → s.number ≡ bad.number → bad.number ≡ given.line →
          IsBefore s (record { file = first.place + 1; number = first.given.line; kind = kinds.TwoAreas }) → (bad.place < first.place) ⊎ ((bad.place ≡ first.place) × (given.line < first.given.line))
      earlier given first file number line (inl h) = inl (omega (arith, file, h))
      earlier given first file number line (inr (e, h)) = inr (omega (arith, file, e), omega (arith, number, line, h))

  pub others_clear : NoRefusal Others → NoRefusal (RefusesTwoAreas configs)
  others_clear clear s bad = let f : Found s = found s bad in clear f.refusal f.other

  pub others_first : (r : Refusal) → IsEarliest Others r → IsEarliest (RefusesTwoAreas configs) r
  others_first r first = record {
    made = record {
      place = first.made.place;
      item = first.made.item;
      at_place = first.made.at_place;
      number = first.made.number;
      offends = record { first = area; is_first = is_first; other = first.made.offends };
      told = first.made.told;
    };
    first = λ s bad before. let f : Found s = found s bad in first.first f.refusal f.other (no_later_before f.refusal s r f.no_later before);
  }
    where
      no_later_before : (t s r : Refusal) → ¬ IsBefore s t → IsBefore s r → IsBefore t r
      no_later_before t s r no_later (inl h) = elim (cases_lt t.file r.file) [
        | inl earlier ↦ inl earlier
        | inr later ↦ absurd (no_later (inl (omega (arith, h, later))))
      ]
      no_later_before t s r no_later (inr (e, h)) = elim (cases_lt t.file r.file) [
        | inl earlier ↦ inl earlier
        | inr not_earlier ↦ elim (cases_lt r.file t.file) [
          | inl later ↦ absurd (no_later (inl (omega (arith, e, later))))
          | inr not_later ↦ elim (cases_lt t.number r.number) [
            | inl lower ↦ inr (omega (arith, not_earlier, not_later), lower)
            | inr higher ↦ absurd (no_later (inr (omega (arith, e, not_earlier, not_later), omega (arith, h, higher))))
          ]
        ]
      ]

-- where no area is the first, none is refused
pub none_refused : (configs : List Config) → ((area : ℕ) → ¬ IsFirstArea configs area) → NoRefusal (RefusesTwoAreas configs)
none_refused configs none s bad = none bad.offends.first bad.offends.is_first

-- one more area
pub soonest_more : (xs : List (Given ℕ)) (n : ℕ) (d : Given ℕ) (first : Option (Given ℕ)) (y : Given ℕ) → n < length xs → IsSoonest (take n xs) first →
    y ≡ sooner first (get_or xs n d) → IsSoonest (take (n + 1) xs) (Some y)
soonest_more xs n d first y within was is = by first was is
  where
    grown : take (n + 1) xs ≡ take n xs ++ get_or xs n d ∷ []
    grown = take_more xs n d within

    here : Contains (take (n + 1) xs) (get_or xs n d)
    here = subst (λ (l : List (Given ℕ)). Contains l (get_or xs n d)) (sym grown) (Contains-append_right (take n xs) (get_or xs n d ∷ []) (get_or xs n d) (Contains-head (get_or xs n d) []))

    before : (x : Given ℕ) → Contains (take n xs) x → Contains (take (n + 1) xs) x
    before x there = subst (λ (l : List (Given ℕ)). Contains l x) (sym grown) (Contains-append_left (take n xs) (get_or xs n d ∷ []) x there)

    either : (x : Given ℕ) → Contains (take (n + 1) xs) x → Contains (take n xs) x ⊎ (get_or xs n d ≡ x)
    either x there = elim (Contains-append_cases (take n xs) (get_or xs n d ∷ []) x (subst (λ (l : List (Given ℕ)). Contains l x) grown there)) [
      | inl old ↦ inl old
      | inr new ↦ elim (Contains-cases (get_or xs n d) x [] new) [ inl same ↦ inr same | inr none ↦ absurd (Contains-none x none) ]
    ]

    least : (line : ℕ) → ((x : Given ℕ) → Contains (take n xs) x → line ≤ x.line) → line ≤ (get_or xs n d).line → (x : Given ℕ) → Contains (take (n + 1) xs) x → line ≤ x.line
    least line old new x there = elim (either x there) [
      | inl earlier ↦ old x earlier
      | inr same ↦ subst (λ (g : Given ℕ). line ≤ g.line) same new
    ]

    by : (o : Option (Given ℕ)) → IsSoonest (take n xs) o → y ≡ sooner o (get_or xs n d) → IsSoonest (take (n + 1) xs) (Some y)
    by None empty same =
        let of_z : IsSoonest (take (n + 1) xs) (Some (get_or xs n d)) =
        (here, least (get_or xs n d).line (λ x there. absurd (Contains-none x (subst (λ (l : List (Given ℕ)). Contains l x) empty there))) (omega arith)) in
        subst (λ (g : Given ℕ). IsSoonest (take (n + 1) xs) (Some g)) (sym same) of_z
    by (Some x) old same = elim (cases_lt (get_or xs n d).line x.line) [
      | inl lower ↦
          let of_z : IsSoonest (take (n + 1) xs) (Some (get_or xs n d)) = (here, least (get_or xs n d).line (λ w there. omega (arith, old.1 w there, lower)) (omega arith)) in
          let y_is : y ≡ get_or xs n d = same ∙ ap (λ (b : Bool). if b then get_or xs n d else x) (lt-ltb (get_or xs n d).line x.line lower) in
          subst (λ (g : Given ℕ). IsSoonest (take (n + 1) xs) (Some g)) (sym y_is) of_z
      | inr higher ↦
          let of_x : IsSoonest (take (n + 1) xs) (Some x) = (before x old.0, least x.line old.1 higher) in
          let y_is : y ≡ x = same ∙ ap (λ (b : Bool). if b then get_or xs n d else x) (le-ltb (get_or xs n d).line x.line higher) in
          subst (λ (g : Given ℕ). IsSoonest (take (n + 1) xs) (Some g)) (sym y_is) of_x
    ]

-- the line of one area that is another
pub other_least : (area : ℕ) (given : Given ℕ) → FindsLeast (λ line. IsOther area line given) (line_of_other area given)
other_least area given = elim (eqb_tells given.value area) [
  | inl same ↦
      let none : line_of_other area given ≡ None = ap (λ (b : Bool). if b then None else Some given.line) same.0 in
      subst (λ (o : Option ℕ). FindsLeast (λ line. IsOther area line given) o) (sym none) (λ line other. other.1 same.1)
  | inr other ↦
      let some : line_of_other area given ≡ Some given.line = ap (λ (b : Bool). if b then None else Some given.line) other.0 in
      subst (λ (o : Option ℕ). FindsLeast (λ line. IsOther area line given) o) (sym some) (record { has = (refl, other.1); least = λ m h. omega (arith, h.0) })
]

pub other_more : (area : ℕ) (xs : List (Given ℕ)) (n : ℕ) (d : Given ℕ) (found now : Option ℕ) → n < length xs →
    FindsLeast (LinesTo (IsOther area) xs n) found → now ≡ line_of_other area (get_or xs n d) →
    FindsLeast (LinesTo (IsOther area) xs (n + 1)) (lesser found now)
other_more area xs n d found now within before is =
    least_more (IsOther area) xs n (get_or xs n d) found now within (get_or_default xs n d (get_or xs n d) within) before
    (subst (λ (o : Option ℕ). FindsLeast (λ line. IsOther area line (get_or xs n d)) o) (sym is) (other_least area (get_or xs n d)))

-- where nothing was found, no area is the first
pub none_found : (configs : List Config) (found : Option ℕ) → MatchOption found ((area : ℕ) → ¬ IsFirstArea configs area) (IsFirstArea configs) →
    ((area : ℕ) → ¬ (found ≡ Some area)) → (area : ℕ) → ¬ IsFirstArea configs area
none_found configs None said none = said
none_found configs (Some area) said none = absurd (none area refl)
