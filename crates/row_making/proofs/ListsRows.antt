-- The rows of lists, file by file.
use Rattle.std.proofs.Common.{◌≡◌, ℕ, ◌+◌, ◌<◌, ◌≤◌, inl, inr, Option, Some, None, List, [], ◌∷◌, ◌++◌, length, get_or, refl, sym, ◌∙◌, ap, subst, arith}
use Rattle.std.specs.Prelude.{Contains, AllPairs, slice_get, option_map}
use Rattle.std.specs.List.{filter_map, cons_option}
use Rattle.std.proofs.lemmas.Bool.{cases_lt}
use Rattle.std.proofs.lemmas.List.{append-nil}
use Rattle.std.proofs.lemmas.List.Elements.{Contains-append_left, Contains-append_right, Contains-append_cases}
use Rattle.std.proofs.lemmas.List.Kept.{AllPairs-cons}
use Rattle.std.proofs.lemmas.Option.{none-some, same_Some, slice_get_within, slice_get-get_or}
use denote.Ref.{Bor}
use Rattle.ios_config.specs.declared.settings.Config.{Config}
use Rattle.row_making.specs.ListTables.{Adds, AddsRows}
use Rattle.net_rules.specs.Ordered.{AreInOrder, IsPairBefore}
use Rattle.arc_base.specs.NameForms.{IsNameBefore, texts_at}
use Rattle.arc_base.proofs.Items.{Contains-head, Contains-tail, Contains-cases, Contains-none, All-from, AllPairs-append, AllPairs-rest, AllPairs-first}

pub option_parts : {X Y : Type 0} (f : X → Y) (o : Option X) (y : Y) → option_map f o ≡ Some y → (x : X) × (o ≡ Some x) × (f x ≡ y)
option_parts f None y e = absurd (none-some y e)
option_parts f (Some x) y e = (x, refl, same_Some (f x) y e)

-- no names are left
pub rows_added : {R : Type 0} (IsBound : List ℕ → Type 0) (f : List ℕ → Option R) (old now : List R) (left names keys : List (Bor (List ℕ))) →
    AreInOrder IsNameBefore IsBound (texts_at keys) → left ≡ [] → names ≡ keys →
    now ++ filter_map f (texts_at left) ≡ old ++ filter_map f (texts_at names) → AddsRows IsBound f old now
rows_added IsBound f old now left names keys bound none same was = record {
  names = texts_at keys;
  bound = bound;
  added = sym (append-nil now) ∙ ap (λ l. now ++ filter_map f (texts_at l)) (sym none) ∙ was ∙ ap (λ l. old ++ filter_map f (texts_at l)) same;
}

-- no name is bound
pub rows_unbound : {R : Type 0} (IsBound : List ℕ → Type 0) (f : List ℕ → Option R) (old : List R) (start keys : List (Bor (List ℕ))) → keys ≡ [] → Adds IsBound start keys → AddsRows IsBound f old old
rows_unbound IsBound f old start keys none adds = record {
  names = [];
  bound = record {
    order = λ i j d l m. absurd (omega (arith, m));
    just = λ name. (
      λ h. absurd (Contains-none name h),
      λ is. absurd (Contains-none name (subst (λ (ks : List (Bor (List ℕ))). Contains (texts_at ks) name) none ((adds name).1 (inr is)))),
    );
  };
  added = sym (append-nil old);
}

-- ---- what a list with some results contains
pub Contains-result : {X Y : Type 0} (f : X → Option Y) (xs : List X) (x : X) (y : Y) → Contains xs x → f x ≡ Some y → Contains (filter_map f xs) y
Contains-result f [] x y h e = absurd (Contains-none x h)
Contains-result {X} {Y} f (z ∷ xs) x y h e = elim (Contains-cases z x xs h) [
  | inl same ↦ subst (λ (o : Option Y). Contains (cons_option o (filter_map f xs)) y) (sym (ap f same ∙ e)) (Contains-head y (filter_map f xs))
  | inr later ↦ under (f z) (Contains-result f xs x y later e)
]
  where
    under : (o : Option Y) → Contains (filter_map f xs) y → Contains (cons_option o (filter_map f xs)) y
    under None k = k
    under (Some w) k = Contains-tail w y (filter_map f xs) k

pub from_result : {X Y : Type 0} (f : X → Option Y) (xs : List X) (y : Y) → Contains (filter_map f xs) y → (x : X) × Contains xs x × (f x ≡ Some y)
from_result f [] y h = absurd (Contains-none y h)
from_result {X} {Y} f (x ∷ xs) y h = by (f x) refl h (λ k. from_result f xs y k)
  where
    behind : (z : X) × Contains xs z × (f z ≡ Some y) → (z : X) × Contains (x ∷ xs) z × (f z ≡ Some y)
    behind (z, there, is) = (z, Contains-tail x z xs there, is)

    by : (o : Option Y) → f x ≡ o → Contains (cons_option o (filter_map f xs)) y → (Contains (filter_map f xs) y → (z : X) × Contains xs z × (f z ≡ Some y)) →
        (z : X) × Contains (x ∷ xs) z × (f z ≡ Some y)
    by None e k rest = behind (rest k)
    by (Some w) e k rest = elim (Contains-cases w y (filter_map f xs) k) [
      | inl same ↦ (x, Contains-head x xs, e ∙ ap Some same)
      | inr later ↦ behind (rest later)
    ]

-- the rows of a kind of lists, read both ways
pub record RowsOfKind : Type 1 where
  pub Row : Type 0
  pub router : Row → ℕ
  pub name : Row → List ℕ
  pub row_at : ℕ → Config → List ℕ → Option Row
  pub IsBound : Config → List ℕ → Type 0
  pub IsRow : List Config → Row → Type 0
  pub names_it : (owner : ℕ) (config : Config) (called : List ℕ) (row : Row) → row_at owner config called ≡ Some row → (router row ≡ owner) × (name row ≡ called)
  pub to_row : (configs : List Config) (config : Config) (row : Row) → slice_get configs (router row) ≡ Some config → IsBound config (name row) →
      row_at (router row) config (name row) ≡ Some row → IsRow configs row
  pub from_row : (configs : List Config) (row : Row) → IsRow configs row →
      (config : Config) × (slice_get configs (router row) ≡ Some config) × IsBound config (name row) × (row_at (router row) config (name row) ≡ Some row)

module _ (K : RowsOfKind) where
  abbrev pub IsRowBefore : K.Row → K.Row → Type 0
  IsRowBefore l m = IsPairBefore IsNameBefore (K.router l, K.name l) (K.router m, K.name m)

  -- a row of one of the first files
  abbrev pub IsRowTo : List Config → ℕ → K.Row → Type 0
  IsRowTo configs n row = (K.router row < n) × K.IsRow configs row

  abbrev pub AreRowsTo : List Config → ℕ → List K.Row → Type 0
  AreRowsTo configs n rows = AreInOrder IsRowBefore (IsRowTo configs n) rows

  -- the rows of one file are in order
  file_in_order : (router : ℕ) (config : Config) (names : List (List ℕ)) → AllPairs IsNameBefore names → AllPairs IsRowBefore (filter_map (K.row_at router config) names)
  file_in_order router config [] ordered = λ i j d l m. absurd (omega (arith, m))
  file_in_order router config (name ∷ names) ordered = by (K.row_at router config name) refl (file_in_order router config names (AllPairs-rest IsNameBefore name names ordered))
    where
      first : (row : K.Row) → K.row_at router config name ≡ Some row → (other : K.Row) → Contains (filter_map (K.row_at router config) names) other → IsRowBefore row other
      first row e other h =
          let found = from_result (K.row_at router config) names other h in
          let here : (K.router row ≡ router) × (K.name row ≡ name) = K.names_it router config name row e in
          let there : (K.router other ≡ router) × (K.name other ≡ found.0) = K.names_it router config found.0 other found.2 in
          inr (
            here.0 ∙ sym there.0,
            subst (λ (n : List ℕ). IsNameBefore n (K.name other)) (sym here.1)
                (subst (λ (n : List ℕ). IsNameBefore name n) (sym there.1) (AllPairs-first IsNameBefore name found.0 names ordered found.1)),
          )

      by : (o : Option K.Row) → K.row_at router config name ≡ o → AllPairs IsRowBefore (filter_map (K.row_at router config) names) →
          AllPairs IsRowBefore (cons_option o (filter_map (K.row_at router config) names))
      by None e rest = rest
      by (Some row) e rest = AllPairs-cons IsRowBefore row (filter_map (K.row_at router config) names) (All-from (IsRowBefore row) (filter_map (K.row_at router config) names) (first row e)) rest

  pub rows_none : (configs : List Config) → AreRowsTo configs 0 []
  rows_none configs = record {
    order = λ i j d l m. absurd (omega (arith, m));
    just = λ row. (λ h. absurd (Contains-none row h), λ h. absurd (omega (arith, h.0)));
  }

  -- the rows of one more file
  pub rows_more : (configs : List Config) (n : ℕ) (config : Config) (rows next : List K.Row) → n < length configs → config ≡ get_or configs n config →
      AddsRows (K.IsBound config) (K.row_at n config) rows next → AreRowsTo configs n rows →
      AreRowsTo configs (n + 1) next
  rows_more configs n config rows next within is adds before =
      subst (AreRowsTo configs (n + 1)) (sym adds.added) (record {
        order = AllPairs-append IsRowBefore rows added before.order (file_in_order n config adds.names adds.bound.order) between;
        just = λ row. (to row, from row);
      })
    where
      added : List K.Row
      added = filter_map (K.row_at n config) adds.names

      at_n : slice_get configs n ≡ Some config
      at_n = slice_get-get_or configs n config within ∙ ap Some (sym is)

      named : (row : K.Row) → Contains added row → (K.router row ≡ n) × K.IsBound config (K.name row) × (K.row_at n config (K.name row) ≡ Some row)
      named row h =
          let found = from_result (K.row_at n config) adds.names row h in
          let parts : (K.router row ≡ n) × (K.name row ≡ found.0) = K.names_it n config found.0 row found.2 in
          (parts.0, subst (λ (m : List ℕ). K.IsBound config m) (sym parts.1) ((adds.bound.just found.0).0 found.1), ap (K.row_at n config) parts.1 ∙ found.2)

      between : (x y : K.Row) → Contains rows x → Contains added y → IsRowBefore x y
      between x y h k =
          let low : K.router x < n = ((before.just x).0 h).0 in
          let high : K.router y ≡ n = (named y k).0 in
          inl (omega (arith, low, high))

      to : (row : K.Row) → Contains (rows ++ added) row → IsRowTo configs (n + 1) row
      to row h = elim (Contains-append_cases rows added row h) [
        | inl old ↦
            let was : IsRowTo configs n row = (before.just row).0 old in
            let low : K.router row < n = was.0 in
            (omega (arith, low), was.1)
        | inr new ↦
            let facts = named row new in
            let same : K.router row ≡ n = facts.0 in
            (omega (arith, same), K.to_row configs config row (ap (slice_get configs) same ∙ at_n) facts.1 (ap (λ (r : ℕ). K.row_at r config (K.name row)) same ∙ facts.2))
      ]

      from : (row : K.Row) → IsRowTo configs (n + 1) row → Contains (rows ++ added) row
      from row (low, is_row) = elim (cases_lt (K.router row) n) [
        | inl earlier ↦ Contains-append_left rows added row ((before.just row).1 (earlier, is_row))
        | inr here ↦
            let same : K.router row ≡ n = omega (arith, low, here) in
            let facts = K.from_row configs row is_row in
            let config_is : facts.0 ≡ config = same_Some facts.0 config (sym facts.1 ∙ ap (slice_get configs) same ∙ at_n) in
            let name_bound : K.IsBound config (K.name row) = subst (λ (c : Config). K.IsBound c (K.name row)) config_is facts.2 in
            let row_is : K.row_at n config (K.name row) ≡ Some row = ap (λ (c : Config). K.row_at n c (K.name row)) (sym config_is)
            ∙ ap (λ (r : ℕ). K.row_at r facts.0 (K.name row)) (sym same) ∙ facts.3 in
            Contains-append_right rows added row (Contains-result (K.row_at n config) adds.names (K.name row) row ((adds.bound.just (K.name row)).1 name_bound) row_is)
      ]

  -- the rows of all files
  pub rows_all : (configs : List Config) (n : ℕ) (rows : List K.Row) → length configs ≤ n → AreRowsTo configs n rows → AreInOrder IsRowBefore (K.IsRow configs) rows
  rows_all configs n rows past all = record {
    order = all.order;
    just = λ row. (λ h. ((all.just row).0 h).1, λ h. (all.just row).1 (low row h, h));
  }
    where
      low : (row : K.Row) → K.IsRow configs row → K.router row < n
      low row h =
          let facts = K.from_row configs row h in
          let inside : K.router row < length configs = slice_get_within configs (K.router row) facts.0 facts.1 in
          omega (arith, inside, past)
