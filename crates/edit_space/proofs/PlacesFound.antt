-- Where lists stand, one list after another.
use Rattle.std.proofs.Common.{◌≡◌, ◌≢◌, ℕ, ◌+◌, ◌<◌, inl, inr, Some, List, length, get_or, set, sym, ◌∙◌, ap, subst, arith, length-set, get_or-set_same, get_or-set_other}
use Rattle.std.specs.Prelude.{AllPairs, slice_get, All}
use Rattle.std.proofs.lemmas.Bool.{cases_lt}
use Rattle.std.proofs.lemmas.List.{get_or_default}
use Rattle.std.proofs.lemmas.Option.{slice_get-get_or, slice_get_within, get_or_from_slice_get}
use Rattle.arc_base.specs.declared.place.Face.{Face}
use Rattle.arc_base.specs.declared.place.ListId.{ListId}
use Rattle.edit_space.specs.declared.order.Keyed.{Keyed}
use Rattle.edit_space.specs.declared.order.Places.{Places}
use Rattle.edit_list.specs.declared.sites.Site.{Site}
use Rattle.edit_list.specs.declared.sites.Site.TheVariants.{Bound, New}
use Rattle.edit_space.specs.Working.{IsWithin, PlacesTell}

pub get_set_same : (xs : List ℕ) (i x : ℕ) → i < length xs → slice_get (set xs i x) i ≡ Some x
get_set_same xs i x l =
    slice_get-get_or (set xs i x) i 0 (omega (arith, l, length-set xs i x)) ∙ ap Some (get_or-set_same xs i x 0 l)

pub get_set_other : (xs : List ℕ) (i j x y : ℕ) → j ≢ i → slice_get xs j ≡ Some y → slice_get (set xs i x) j ≡ Some y
get_set_other xs i j x y differ is =
    let l : j < length xs = slice_get_within xs j y is in
    slice_get-get_or (set xs i x) j 0 (omega (arith, l, length-set xs i x)) ∙ ap Some (get_or-set_other xs i j x 0 differ ∙ get_or_from_slice_get xs j y 0 is)

-- the tables after the place of one list was put in
pub record Puts (site : Site) (place : ℕ) (now next : Places) : Type 0 where
  pub same : (s : Site) (k : ℕ) → s ≢ site → PlacesTell now s k → PlacesTell next s k
  pub here : PlacesTell next site place

pub puts_bound : (id : ListId) (place : ℕ) (now next : Places) → id.0 < length now.bound.items → next.bound.items ≡ set now.bound.items id.0 place →
    next.new.items ≡ now.new.items → Puts (Bound id) place now next
puts_bound id place now next within put kept = record { same = same; here = ap (λ l. slice_get l id.0) put ∙ get_set_same now.bound.items id.0 place within }
  where
    same : (s : Site) (k : ℕ) → s ≢ Bound id → PlacesTell now s k → PlacesTell next s k
    same (Bound other) k differ told =
        let apart : other.0 ≢ id.0 = λ e. differ (λ j. Bound (record { 0 = e j })) in
        ap (λ l. slice_get l other.0) put ∙ get_set_other now.bound.items id.0 other.0 place k apart told
    same (New face) k differ told = ap (λ l. slice_get l face.0) kept ∙ told

pub puts_new : (face : Face) (place : ℕ) (now next : Places) → face.0 < length now.new.items → next.new.items ≡ set now.new.items face.0 place →
    next.bound.items ≡ now.bound.items → Puts (New face) place now next
puts_new face place now next within put kept = record { same = same; here = ap (λ l. slice_get l face.0) put ∙ get_set_same now.new.items face.0 place within }
  where
    same : (s : Site) (k : ℕ) → s ≢ New face → PlacesTell now s k → PlacesTell next s k
    same (Bound id) k differ told = ap (λ l. slice_get l id.0) kept ∙ told
    same (New other) k differ told =
        let apart : other.0 ≢ face.0 = λ e. differ (λ j. New (record { 0 = e j })) in
        ap (λ l. slice_get l other.0) put ∙ get_set_other now.new.items face.0 other.0 place k apart told

-- one list more
pub told_more : (lists : List Keyed) (i : ℕ) (list : Keyed) (now next : Places) → AllPairs (λ x y. x.site ≢ y.site) lists → i < length lists → list ≡ get_or lists i list → Puts list.site i now next →
    ((k : ℕ) (l : Keyed) → k < i → slice_get lists k ≡ Some l → PlacesTell now l.site k) → (k : ℕ) (l : Keyed) → k < i + 1 → slice_get lists k ≡ Some l → PlacesTell next l.site k
told_more lists i list now next apart within is puts told k l low at =
    elim (cases_lt k i) [
      | inl before ↦
          let at_k : get_or lists k l ≡ l = get_or_from_slice_get lists k l l at in
          let at_i : get_or lists i l ≡ list = get_or_default lists i l list within ∙ sym is in
          let differ : l.site ≢ list.site = subst (λ (y : Keyed). l.site ≢ y.site) at_i (subst (λ (x : Keyed). x.site ≢ (get_or lists i l).site) at_k (apart k i l before within)) in
          puts.same l.site k differ (told k l before at)
      | inr not_before ↦
          let same : k ≡ i = omega (arith, low, not_before) in
          let item : l ≡ list = sym (get_or_from_slice_get lists k l l at) ∙ ap (λ n. get_or lists n l) same ∙ get_or_default lists i l list within ∙ sym is in
          subst (λ (n : ℕ). PlacesTell next l.site n) (sym same) (subst (λ (x : Keyed). PlacesTell next x.site i) (sym item) puts.here)
    ]

-- each list's site is within its table
pub within_at : (bound faces : ℕ) (lists : List Keyed) (i : ℕ) (list : Keyed) → All (λ l. IsWithin bound faces l.site) lists → i < length lists →
    list ≡ get_or lists i list → IsWithin bound faces list.site
within_at bound faces lists i list all within is = subst (λ (l : Keyed). IsWithin bound faces l.site) (sym is) (all i list within)
