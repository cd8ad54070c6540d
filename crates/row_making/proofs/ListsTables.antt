-- Lists by their names, held by reference, and route lists by the neighbour at which they are bound.
use Rattle.std.proofs.Common.{◌≡◌, ◌≢◌, ℕ, ◌+◌, ◌<◌, Bool, true, false, ◌&&◌, cond, Option, Some, None, List}
use Rattle.std.proofs.Common.{[], ◌∷◌, ◌++◌, length, get_or, take, map, refl, sym, ◌∙◌, ap, subst, nat_eq}
use Rattle.std.specs.Prelude.{Contains, find, option_map, is_some, if◌then◌else◌, bytes_eq}
use Rattle.std.specs.Option.{option_or}
use Rattle.std.specs.Map.{lookup, keys_of}
use Rattle.std.specs.List.{IsDistinct}
use Rattle.std.proofs.lemmas.Bool.{and_right, cond-true, cond-false, true≢false, false≢true}
use Rattle.std.proofs.lemmas.Cmp.{nat_eq_equiv}
use Rattle.std.proofs.lemmas.List.{take_more}
use Rattle.std.proofs.lemmas.Map.Entries.{place_from_lookup, lookup_from_place}
use Rattle.std.proofs.lemmas.Option.{none-some, same_Some}
use Rattle.std.proofs.lemmas.Slice.Eq.{bytes_eq-Decides}
use denote.Ref.{Bor}
use Rattle.ios_words.specs.declared.commands.Command.{Command}
use Rattle.ios_words.specs.declared.commands.Command.TheVariants as commands
use Rattle.ios_config.specs.declared.settings.Given.{Given}
use Rattle.ios_config.specs.declared.settings.ListText.{ListText}
use Rattle.net_rules.specs.Neighbors.{says_filter}
use Rattle.net_rules.specs.Lists.{is_of_kind, has_entries, if_defined}
use Rattle.row_making.specs.ListTables.{list_if}
use Rattle.arc_base.proofs.Items.{Contains-map, from_map}
use Rattle.net_rules.proofs.Distinct.{Contains-at, at_Contains}

pub or_none : {X : Type 0} (o : Option X) → option_or o None ≡ o
or_none None = refl
or_none (Some x) = refl

-- the first of the items that passes, one more item on
find_last : {X : Type 0} (p : X → Bool) (xs : List X) (x : X) → find p (xs ++ x ∷ []) ≡ option_or (find p xs) (if p x then Some x else None)
find_last p [] x = refl
find_last {X} p (y ∷ ys) x = by (p y) (find_last p ys x)
  where
    by : (b : Bool) → find p (ys ++ x ∷ []) ≡ option_or (find p ys) (if p x then Some x else None) →
        (if b then Some y else find p (ys ++ x ∷ [])) ≡ option_or (if b then Some y else find p ys) (if p x then Some x else None)
    by true h = refl
    by false h = h

pub found_more : {X : Type 0} (p : X → Bool) (items : List X) (i : ℕ) (x : X) (before after : Option X) → i < length items → x ≡ get_or items i x →
    before ≡ find p (take i items) → after ≡ option_or before (if p x then Some x else None) → after ≡ find p (take (i + 1) items)
found_more {X} p items i x before after within is was now =
    now ∙ ap (λ (o : Option X). option_or o (if p x then Some x else None)) was ∙ sym (find_last p (take i items) x) ∙
    ap (λ (y : X). find p (take i items ++ y ∷ [])) is ∙ ap (find p) (sym (take_more items i x within))

module _ (packet : Bool) (list : ListText) where
  -- a list of the other kind changes nothing
  pub kept_other : is_of_kind packet list ≡ false → (o : Option ListText) (name : List ℕ) → o ≡ option_or o (list_if packet list name)
  kept_other other o name =
      sym (ap (λ (p : Option ListText). option_or o p)
      (cond-false (bytes_eq list.name name && is_of_kind packet list) (Some list) None (and_right (bytes_eq list.name name) (is_of_kind packet list) other)) ∙ or_none o)

  module _ (old : List ℕ → Option ListText) where
    -- nor does one whose name is there
    pub kept_there : is_some (old list.name) ≡ true → (name : List ℕ) → old name ≡ option_or (old name) (list_if packet list name)
    kept_there there name = by (bytes_eq list.name name) refl
      where
        has : (o : Option ListText) (p : Option ListText) → is_some o ≡ true → o ≡ option_or o p
        has None p e = absurd (false≢true e)
        has (Some l) p e = refl

        by : (b : Bool) → bytes_eq list.name name ≡ b → old name ≡ option_or (old name) (list_if packet list name)
        by true e = has (old name) (list_if packet list name) (subst (λ (n : List ℕ). is_some (old n) ≡ true) ((bytes_eq-Decides list.name name).0 e) there)
        by false e =
            sym (ap (λ (b : Bool). option_or (old name) (if b && is_of_kind packet list then Some list else None)) e ∙ or_none (old name))

    -- a new one goes in
    pub put_new : is_of_kind packet list ≡ true → is_some (old list.name) ≡ false → (next : List ℕ → Option ListText) →
        ((name : List ℕ) → next name ≡ cond (bytes_eq list.name name) (Some list) (old name)) → (name : List ℕ) → next name ≡ option_or (old name) (list_if packet list name)
    put_new kind lacks next grown name = grown name ∙ by (bytes_eq list.name name) refl
      where
        none : (o : Option ListText) → is_some o ≡ false → o ≡ None
        none None e = refl
        none (Some l) e = absurd (true≢false e)

        by : (b : Bool) → bytes_eq list.name name ≡ b → cond (bytes_eq list.name name) (Some list) (old name) ≡ option_or (old name) (list_if packet list name)
        by true e =
            let nothing : old name ≡ None = none (old name) (subst (λ (n : List ℕ). is_some (old n) ≡ false) ((bytes_eq-Decides list.name name).0 e) lacks) in
            cond-true (bytes_eq list.name name) (Some list) (old name) e ∙
            sym (ap (λ (o : Option ListText). option_or o (list_if packet list name)) nothing ∙
            ap (λ (b : Bool). if b && is_of_kind packet list then Some list else None) e ∙ ap (λ (b : Bool). if b then Some list else None) kind)
        by false e =
            cond-false (bytes_eq list.name name) (Some list) (old name) e ∙
            sym (ap (λ (b : Bool). option_or (old name) (if b && is_of_kind packet list then Some list else None)) e ∙ or_none (old name))

pub map_cond : {X Y : Type 0} (f : X → Y) (b : Bool) (o p : Option X) → option_map f (cond b o p) ≡ cond b (option_map f o) (option_map f p)
map_cond f true o p = refl
map_cond f false o p = refl

pub is_some-map : {X Y : Type 0} (f : X → Y) (o : Option X) → is_some (option_map f o) ≡ is_some o
is_some-map f None = refl
is_some-map f (Some x) = refl

-- a list that was found, with an entry and without
has_some : (entries : List (Given Command)) → entries ≢ [] → has_entries entries ≡ true
has_some [] some = absurd (some refl)
has_some (entry ∷ entries) some = refl

pub defined_some : (found : Option ListText) (list : ListText) → found ≡ Some list → list.entries ≢ [] → if_defined found ≡ Some list
defined_some found list is some = ap if_defined is ∙ cond-true (has_entries list.entries) (Some list) None (has_some list.entries some)

pub defined_none : (found : Option ListText) (list : ListText) → found ≡ Some list → list.entries ≡ [] → if_defined found ≡ None
defined_none found list is none = ap if_defined is ∙ ap (λ (l : List (Given Command)). if has_entries l then Some list else None) none

-- a filter that was put at a neighbour
pub filter_put : (peer other : ℕ) (list : List ℕ) (before : Option (List ℕ)) → cond (nat_eq other peer) (Some list) before ≡ option_or (says_filter peer (commands.NeighborList other list)) before
filter_put peer other list before = by (nat_eq other peer)
  where
    by : (b : Bool) → cond b (Some list) before ≡ option_or (if b then Some list else None) before
    by true = refl
    by false = refl

module _ (entries : List (ℕ × Bor (List ℕ))) (distinct : IsDistinct nat_eq (keys_of entries)) where
  -- a value is that of some key
  pub at_some_key : (name : List ℕ) → Contains (map (λ (list : Bor (List ℕ)). list.now) (map (λ (e : ℕ × Bor (List ℕ)). e.1) entries)) name →
      (peer : ℕ) × (option_map (λ (list : Bor (List ℕ)). list.now) (lookup (nat_eq peer) entries) ≡ Some name)
  at_some_key name there =
      let value = from_map (λ (list : Bor (List ℕ)). list.now) (map (λ (e : ℕ × Bor (List ℕ)). e.1) entries) name there in
      let entry = from_map (λ (e : ℕ × Bor (List ℕ)). e.1) entries value.0 value.1 in
      let place = at_Contains entries entry.0 entry.1 in (
        entry.0.0,
        ap (option_map (λ (list : Bor (List ℕ)). list.now)) (lookup_from_place nat_eq_equiv entries place.0 entry.0.0 entry.0.1 distinct place.1)
            ∙ ap Some (ap (λ (list : Bor (List ℕ)). list.now) entry.2 ∙ value.2),
      )

  -- and the value of a key is a value
  pub from_some_key : (name : List ℕ) (peer : ℕ) → option_map (λ (list : Bor (List ℕ)). list.now) (lookup (nat_eq peer) entries) ≡ Some name →
      Contains (map (λ (list : Bor (List ℕ)). list.now) (map (λ (e : ℕ × Bor (List ℕ)). e.1) entries)) name
  from_some_key name peer is = by (lookup (nat_eq peer) entries) refl is
    where
      by : (o : Option (Bor (List ℕ))) → lookup (nat_eq peer) entries ≡ o → option_map (λ (list : Bor (List ℕ)). list.now) o ≡ Some name →
          Contains (map (λ (list : Bor (List ℕ)). list.now) (map (λ (e : ℕ × Bor (List ℕ)). e.1) entries)) name
      by None found e = absurd (none-some name e)
      by (Some list) found e =
          let place = place_from_lookup (nat_eq peer) entries list found in
          let in_entries : Contains entries (place.1, list) = Contains-at entries place.0 (place.1, list) place.2 in
          let in_values : Contains (map (λ (e : ℕ × Bor (List ℕ)). e.1) entries) list = Contains-map (λ (e : ℕ × Bor (List ℕ)). e.1) entries (place.1, list) in_entries in
          subst (λ (n : List ℕ). Contains (map (λ (list : Bor (List ℕ)). list.now) (map (λ (e : ℕ × Bor (List ℕ)). e.1) entries)) n) (same_Some list.now name e)
          (Contains-map (λ (list : Bor (List ℕ)). list.now) (map (λ (e : ℕ × Bor (List ℕ)). e.1) entries) list in_values)
