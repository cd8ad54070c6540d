-- Which routers are named, one router after another.
use Rattle.std.proofs.Common.{◌≡◌, ℕ, zero, suc, ◌+◌, ◌<◌, ◌≤◌, Bool, true, false, List, [], ◌∷◌, ◌++◌}
use Rattle.std.proofs.Common.{length, get_or, drop, Option, Some, None, option_map, slice_get, bytes_eq, refl, sym, ap, ◌∙◌, append_assoc, drop-drop}
use Rattle.std.specs.Option.{option_and_then}
use Rattle.std.proofs.lemmas.Bool.{false_from_ne_true}
use Rattle.std.proofs.lemmas.List.{drop_all, drop_more}
use Rattle.std.proofs.lemmas.Option.{same_Some, none-some}
use Rattle.std.proofs.lemmas.Slice.Eq.{bytes_eq-Decides}
use Rattle.net_model.specs.declared.rows.RouterRow.{RouterRow}
use Rattle.policy_report.specs.Readings.{side_of}

and_then_map : {A B : Type 0} (f : A → B) (o : Option A) → option_and_then (λ a. Some (f a)) o ≡ option_map f o
and_then_map f None = refl
and_then_map f (Some a) = refl

-- the first router is the one that is named first
first_named : (router : RouterRow) (routers : List RouterRow) (names : List (List ℕ)) → slice_get names 0 ≡ Some router.name →
    side_of (router ∷ routers) names ≡ option_map (λ side. true ∷ side) (side_of routers (drop 1 names))
first_named router routers [] e = absurd (none-some router.name e)
first_named router routers (name ∷ names) e =
    let same : bytes_eq router.name name ≡ true = (bytes_eq-Decides router.name name).1 (sym (same_Some name router.name e)) in
    rw same (and_then_map (λ side. true ∷ side) (side_of routers names))

-- it is not
first_unnamed : (router : RouterRow) (routers : List RouterRow) (names : List (List ℕ)) → (slice_get names 0 ≡ Some router.name → ⊥) →
    side_of (router ∷ routers) names ≡ option_map (λ side. false ∷ side) (side_of routers names)
first_unnamed router routers [] e = and_then_map (λ side. false ∷ side) (side_of routers [])
first_unnamed router routers (name ∷ names) e =
    let differ : bytes_eq router.name name ≡ false = false_from_ne_true _ (λ t. e (ap Some (sym ((bytes_eq-Decides router.name name).0 t)))) in
    rw differ (and_then_map (λ side. false ∷ side) (side_of routers (name ∷ names)))

name_at : (names : List (List ℕ)) (next : ℕ) → slice_get (drop next names) 0 ≡ slice_get names next
name_at [] zero = refl
name_at [] (suc next) = refl
name_at (name ∷ names) zero = refl
name_at (name ∷ names) (suc next) = name_at names next

one_more : (flags : List Bool) (named : Bool) (o : Option (List Bool)) →
    option_map (λ rest. flags ++ rest) (option_map (λ side. named ∷ side) o) ≡ option_map (λ rest. (flags ++ named ∷ []) ++ rest) o
one_more flags named None = refl
one_more flags named (Some side) = ap Some (sym (append_assoc flags (named ∷ []) side))

module _ (routers : List RouterRow) (names : List (List ℕ)) (flags after : List Bool) (i next : ℕ) (router : RouterRow) (whole : Option (List Bool))
    (within : i < length routers) (is : router ≡ get_or routers i router)
    (before : option_map (λ rest. flags ++ rest) (side_of (drop i routers) (drop next names)) ≡ whole) where
  begins : drop i routers ≡ router ∷ drop (i + 1) routers
  begins = drop_more routers i router within ∙ ap (λ r. r ∷ drop (i + 1) routers) (sym is)

  pub named_next : slice_get names next ≡ Some router.name → after ≡ flags ++ true ∷ [] →
      option_map (λ rest. after ++ rest) (side_of (drop (i + 1) routers) (drop (next + 1) names)) ≡ whole
  named_next e pushed =
      let first : side_of (drop i routers) (drop next names) ≡ option_map (λ side. true ∷ side) (side_of (drop (i + 1) routers) (drop (next + 1) names)) =
      ap (λ t. side_of t (drop next names)) begins ∙ first_named router (drop (i + 1) routers) (drop next names) (name_at names next ∙ e)
      ∙ ap (λ t. option_map (λ side. true ∷ side) (side_of (drop (i + 1) routers) t)) (drop-drop 1 next names) in
      ap (λ t. option_map (λ rest. t ++ rest) (side_of (drop (i + 1) routers) (drop (next + 1) names))) pushed
      ∙ sym (one_more flags true (side_of (drop (i + 1) routers) (drop (next + 1) names)))
      ∙ ap (option_map (λ rest. flags ++ rest)) (sym first) ∙ before

  pub unnamed_next : (slice_get names next ≡ Some router.name → ⊥) → after ≡ flags ++ false ∷ [] →
      option_map (λ rest. after ++ rest) (side_of (drop (i + 1) routers) (drop next names)) ≡ whole
  unnamed_next e pushed =
      let first : side_of (drop i routers) (drop next names) ≡ option_map (λ side. false ∷ side) (side_of (drop (i + 1) routers) (drop next names)) =
      ap (λ t. side_of t (drop next names)) begins ∙ first_unnamed router (drop (i + 1) routers) (drop next names) (λ f. e (sym (name_at names next) ∙ f)) in
      ap (λ t. option_map (λ rest. t ++ rest) (side_of (drop (i + 1) routers) (drop next names))) pushed
      ∙ sym (one_more flags false (side_of (drop (i + 1) routers) (drop next names)))
      ∙ ap (option_map (λ rest. flags ++ rest)) (sym first) ∙ before

-- a name is left after the last router
pub name_left : (routers : List RouterRow) (names : List (List ℕ)) (flags : List Bool) (i next : ℕ) (whole : Option (List Bool)) → length routers ≤ i → next < length names →
    option_map (λ rest. flags ++ rest) (side_of (drop i routers) (drop next names)) ≡ whole → None ≡ whole
name_left routers names flags i next whole past left before =
    sym (ap (λ t. option_map (λ rest. flags ++ rest) (side_of t (drop next names))) (drop_all i routers past)
    ∙ ap (λ t. option_map (λ rest. flags ++ rest) (side_of [] t)) (drop_more names next [] left)) ∙ before
