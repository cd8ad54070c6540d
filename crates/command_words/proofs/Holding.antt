-- The rows hold what the words give: each positional word in its place, and each option's value.
use Rattle.std.proofs.Common.{◌≡◌, ◌∙◌, ◌⊎◌, inl, inr, ℕ, zero, suc, ◌<◌, ◌≤◌, ◌&&◌, ◌||◌, Bool, true, false, not, List, [], ◌∷◌, ◌++◌}
use Rattle.std.proofs.Common.{map, append_assoc, append-nil, length, Option, Some, None, refl, sym, ap, ap₂, subst, slice_get, cond, if◌then◌else◌, option_and_then, arith, is_some, find}
use Rattle.std.proofs.Common.{length-append}
use Rattle.std.specs.List.{list_any}
use Rattle.std.specs.Option.{option_map_or}
use Rattle.std.specs.Str.{bytes_eq}
use Rattle.std.proofs.lemmas.Bool.{and_right, cases_order}
use Rattle.std.proofs.lemmas.Slice.Eq.{bytes_eq-Decides}
use Rattle.clap.specs.Facts.{explicit_source}
use Rattle.clap.specs.Walk.{Row, Rule, Text, arg_by_id, first_of, has_row}
use Rattle.clap.specs.Takes.{is_given}
use Rattle.command_words.specs.Words.{Form, Given, plain, hyphened, end, long, form_of, given_by, is_once, name_in}
use Rattle.command_words.specs.Words.{names_one, option, option_gives, positional, positionals, then_more, value_gives, value_in, value_of, word_gives}
use Rattle.command_words.proofs.Rules.{Reads, added, option_rule, place_rule, row_of}
use Rattle.command_words.proofs.WalkStates.{absorb, within}

-- ---- one more row

abbrev or_last : {X : Type 0} → Option X → Bool → X → Option X
or_last (Some y) hit x = Some y
or_last None hit x = if hit then Some x else None

find_push : {X : Type 0} (p : X → Bool) (xs : List X) (x : X) → find p (xs ++ x ∷ []) ≡ or_last (find p xs) (p x) x
find_push p [] x = refl
find_push p (y ∷ ys) x = go (p y) (find_push p ys x)
  where
    go : (t : Bool) → find p (ys ++ x ∷ []) ≡ or_last (find p ys) (p x) x → cond t (Some y) (find p (ys ++ x ∷ [])) ≡ or_last (cond t (Some y) (find p ys)) (p x) x
    go true later = refl
    go false later = later

any_find : {X : Type 0} (p : X → Bool) (xs : List X) → list_any p xs ≡ is_some (find p xs)
any_find p [] = refl
any_find p (x ∷ xs) = go (p x) (any_find p xs)
  where
    go : (t : Bool) → list_any p xs ≡ is_some (find p xs) → (t || list_any p xs) ≡ is_some (cond t (Some x) (find p xs))
    go true later = refl
    go false later = later

abbrev at_id : Text → List Row → Option Row
at_id id rows = find (λ r. bytes_eq r.id id) rows

-- each row that is found has one value, which the words give
abbrev One : Option Row → Type 0
One None = Unit {0}
One (Some r) = (word : Text) × ((r.values ≡ word ∷ []) × (explicit_source r.source ≡ true))

abbrev Ones : List Row → Type 0
Ones rows = (id : Text) → One (at_id id rows)

ones_push : (id word : Text) (rows : List Row) → Ones rows → Ones (rows ++ row_of id word ∷ [])
ones_push id word rows ones other = subst One (sym (find_push (λ r. bytes_eq r.id other) rows (row_of id word))) (go (at_id other rows) (ones other) (bytes_eq id other))
  where
    go : (o : Option Row) → One o → (hit : Bool) → One (or_last o hit (row_of id word))
    go (Some r) h hit = h
    go None h true = (word, (refl, refl))
    go None h false = tt

one_given : (o : Option Row) → One o → option_map_or (λ r. explicit_source r.source) o false ≡ is_some (option_and_then (λ (r : Row). slice_get r.values 0) o)
one_given None h = refl
one_given (Some r) h = rw (h.1.0, h.1.1) refl

one_some : (o : Option Row) → One o → is_some o ≡ is_some (option_and_then (λ (r : Row). slice_get r.values 0) o)
one_some None h = refl
one_some (Some r) h = rw h.1.0 refl

pub given_first : (id : Text) (rows : List Row) → Ones rows → is_given id rows ≡ is_some (first_of id rows)
given_first id rows ones = one_given (at_id id rows) (ones id)

has_first : (id : Text) (rows : List Row) → Ones rows → has_row id rows ≡ is_some (first_of id rows)
has_first id rows ones = any_find (λ r. bytes_eq r.id id) rows ∙ one_some (at_id id rows) (ones id)

pub first_push : (id word other : Text) (rows : List Row) → Ones rows → first_of other (rows ++ row_of id word ∷ []) ≡ or_last (first_of other rows) (bytes_eq id other) word
first_push id word other rows ones =
    ap (option_and_then (λ (r : Row). slice_get r.values 0)) (find_push (λ r. bytes_eq r.id other) rows (row_of id word)) ∙ go (at_id other rows) (ones other) (bytes_eq id other)
  where
    go : (o : Option Row) → One o → (hit : Bool)
        → option_and_then (λ (r : Row). slice_get r.values 0) (or_last o hit (row_of id word)) ≡ or_last (option_and_then (λ (r : Row). slice_get r.values 0) o) hit word
    go None h true = refl
    go None h false = refl
    go (Some r) h hit = rw h.1.0 refl

-- ---- one more of what the words give

positionals_push : (xs ys : List Given) → positionals (xs ++ ys) ≡ positionals xs ++ positionals ys
positionals_push [] ys = refl
positionals_push (positional word ∷ xs) ys = ap (λ (ws : List Text). word ∷ ws) (positionals_push xs ys)
positionals_push (option name word ∷ xs) ys = positionals_push xs ys

value_push : (name : Text) (xs : List Given) (other word : Text) → value_of name (xs ++ option other word ∷ []) ≡ or_last (value_of name xs) (bytes_eq other name) word
value_push name [] other word = refl
value_push name (positional w ∷ xs) other word = value_push name xs other word
value_push name (option n w ∷ xs) other word = go (bytes_eq n name) (value_push name xs other word)
  where
    go : (t : Bool) → value_of name (xs ++ option other word ∷ []) ≡ or_last (value_of name xs) (bytes_eq other name) word
        → cond t (Some w) (value_of name (xs ++ option other word ∷ [])) ≡ or_last (cond t (Some w) (value_of name xs)) (bytes_eq other name) word
    go true later = refl
    go false later = later

value_push_place : (name : Text) (xs : List Given) (word : Text) → value_of name (xs ++ positional word ∷ []) ≡ value_of name xs
value_push_place name [] word = refl
value_push_place name (positional w ∷ xs) word = value_push_place name xs word
value_push_place name (option n w ∷ xs) word = ap (cond (bytes_eq n name) (Some w)) (value_push_place name xs word)

once_push_place : (xs : List Given) (word : Text) → is_once (xs ++ positional word ∷ []) ≡ is_once xs
once_push_place [] word = refl
once_push_place (positional w ∷ xs) word = once_push_place xs word
once_push_place (option n w ∷ xs) word = ap₂ (λ (o : Option Text) (b : Bool). not (is_some o) && b) (value_push_place n xs word) (once_push_place xs word)

-- an option that stands once may follow
once_push : (xs : List Given) (name word : Text) → value_of name xs ≡ None → is_once xs ≡ true → is_once (xs ++ option name word ∷ []) ≡ true
once_push [] name word none once = refl
once_push (positional w ∷ xs) name word none once = once_push xs name word none once
once_push (option n w ∷ xs) name word none once = go (bytes_eq n name) refl none (value_of n xs) refl once (once_push xs name word)
  where
    go : (t : Bool) → bytes_eq n name ≡ t → cond t (Some w) (value_of name xs) ≡ None → (o : Option Text) → value_of n xs ≡ o → (not (is_some o) && is_once xs) ≡ true
        → (value_of name xs ≡ None → is_once xs ≡ true → is_once (xs ++ option name word ∷ []) ≡ true)
        → (not (is_some (value_of n (xs ++ option name word ∷ []))) && is_once (xs ++ option name word ∷ [])) ≡ true
    go true hit none o is once later = absurd (cc)
    go false hit none (Some v) is once later = absurd (cc)
    go false hit none None is once later =
        let other : bytes_eq name n ≡ false = apart n name hit in
        rw (value_push n xs name word, is, other) (later none once)
      where
        apart : (a b : Text) → bytes_eq a b ≡ false → bytes_eq b a ≡ false
        apart a b e = flip (bytes_eq b a) refl
          where
            flip : (t : Bool) → bytes_eq b a ≡ t → bytes_eq b a ≡ false
            flip true f =
                let same : b ≡ a = (bytes_eq-Decides b a).0 f in
                let back : bytes_eq a b ≡ true = (bytes_eq-Decides a b).1 (sym same) in
                absurd (cc)
            flip false f = f

-- and one that stands already may not
twice : (xs : List Given) (name word value : Text) (rest : List Given) → value_of name xs ≡ Some value → is_once (xs ++ option name word ∷ rest) ≡ false
twice [] name word value rest has = absurd (cc)
twice (positional w ∷ xs) name word value rest has = twice xs name word value rest has
twice (option n w ∷ xs) name word value rest has = go (bytes_eq n name) refl has (twice xs name word value rest)
  where
    stands : (ys : List Given) → bytes_eq n name ≡ true → is_some (value_of n (ys ++ option name word ∷ rest)) ≡ true
    stands [] hit =
        let same : n ≡ name = (bytes_eq-Decides n name).0 hit in
        let back : bytes_eq name n ≡ true = (bytes_eq-Decides name n).1 (sym same) in
        rw back refl
    stands (positional w2 ∷ ys) hit = stands ys hit
    stands (option m w2 ∷ ys) hit = either (bytes_eq m n) (stands ys hit)
      where
        either : (t : Bool) → is_some (value_of n (ys ++ option name word ∷ rest)) ≡ true → is_some (cond t (Some w2) (value_of n (ys ++ option name word ∷ rest))) ≡ true
        either true h = refl
        either false h = h

    go : (t : Bool) → bytes_eq n name ≡ t → cond t (Some w) (value_of name xs) ≡ Some value
        → (value_of name xs ≡ Some value → is_once (xs ++ option name word ∷ rest) ≡ false)
        → (not (is_some (value_of n (xs ++ option name word ∷ rest))) && is_once (xs ++ option name word ∷ rest)) ≡ false
    go true hit has later = rw (stands xs hit) refl
    go false hit has later = and_right _ _ (later has)

-- ---- the names of options

abbrev pub Knows : List Text → List Given → Type 0
Knows options [] = Unit {0}
Knows options (positional word ∷ rest) = Knows options rest
Knows options (option name word ∷ rest) = (names_one options name ≡ true) × Knows options rest

abbrev WaitsKnown : List Text → Option Text → Type 0
WaitsKnown options None = Unit {0}
WaitsKnown options (Some name) = names_one options name ≡ true

abbrev Later : List Text → (Option Text → Option (List Given)) → Type 0
Later options more = (waiting : Option Text) → WaitsKnown options waiting → (items : List Given) → more waiting ≡ Some items → Knows options items

place_knows : (options : List Text) (word : Text) (o : Option (List Given)) (items : List Given) → then_more (positional word) o ≡ Some items
    → ((later : List Given) → o ≡ Some later → Knows options later) → Knows options items
place_knows options word None items e h = absurd (cc)
place_knows options word (Some later) items e h =
    let same : positional word ∷ later ≡ items = cc in
    subst (Knows options) same (h later refl)

option_knows : (options : List Text) (name word : Text) (o : Option (List Given)) (items : List Given) → names_one options name ≡ true
    → then_more (option name word) o ≡ Some items → ((later : List Given) → o ≡ Some later → Knows options later) → Knows options items
option_knows options name word None items known e h = absurd (cc)
option_knows options name word (Some later) items known e h =
    let same : option name word ∷ later ≡ items = cc in
    subst (Knows options) same (known, h later refl)

all_places : (options : List Text) (words : List Text) → Knows options (map positional words)
all_places options [] = tt
all_places options (word ∷ words) = all_places options words

beside_knows : (options : List Text) (name : Text) (known : Bool) (beside : Option Text) (more : Option Text → Option (List Given)) (items : List Given)
    → names_one options name ≡ known → Later options more → option_gives known name beside more ≡ Some items → Knows options items
beside_knows options name true (Some word) more items is later e = option_knows options name word (more None) items is e (later None tt)
beside_knows options name true None more items is later e = later (Some name) is items e
beside_knows options name false (Some word) more items is later e = absurd (cc)
beside_knows options name false None more items is later e = absurd (cc)

word_knows : (options : List Text) (word : Text) (form : Form) (rest : List Text) (more : Option Text → Option (List Given)) (items : List Given)
    → Later options more → word_gives options word form rest more ≡ Some items → Knows options items
word_knows options word plain rest more items later e = place_knows options word (more None) items e (later None tt)
word_knows options word hyphened rest more items later e = absurd (cc)
word_knows options word end rest more items later e =
    let same : map positional rest ≡ items = cc in
    subst (Knows options) same (all_places options rest)
word_knows options word (long text) rest more items later e =
    beside_knows options (name_in text) (names_one options (name_in text)) (value_in text) more items refl later e

value_knows : (options : List Text) (name word : Text) (form : Form) (more : Option Text → Option (List Given)) (items : List Given)
    → names_one options name ≡ true → Later options more → value_gives name word form more ≡ Some items → Knows options items
value_knows options name word plain more items known later e = option_knows options name word (more None) items known e (later None tt)
value_knows options name word hyphened more items known later e = absurd (cc)
value_knows options name word end more items known later e = absurd (cc)
value_knows options name word (long text) more items known later e = absurd (cc)

-- the words name options of the command's alone
pub given_knows : (options words : List Text) → Later options (given_by options words)
given_knows options [] None known items e =
    let same : [] ≡ items = cc in
    subst (Knows options) same tt
given_knows options [] (Some name) known items e = absurd (cc)
given_knows options (word ∷ rest) None known items e = word_knows options word (form_of word) rest (given_by options rest) items (given_knows options rest) e
given_knows options (word ∷ rest) (Some name) known items e = value_knows options name word (form_of word) (given_by options rest) items known (given_knows options rest) e

-- ---- rows that hold what the words gave

get_push : (xs : List Text) (x : Text) (j : ℕ) → j < length xs → slice_get (xs ++ x ∷ []) j ≡ slice_get xs j
get_push [] x j below = absurd (omega arith)
get_push (y ∷ ys) x zero below = refl
get_push (y ∷ ys) x (suc j) below = get_push ys x j (omega arith)

get_last : (xs : List Text) (x : Text) → slice_get (xs ++ x ∷ []) (length xs) ≡ Some x
get_last [] x = refl
get_last (y ∷ ys) x = get_last ys x

get_past : (xs : List Text) (j : ℕ) → length xs ≤ j → slice_get xs j ≡ None
get_past [] j past = refl
get_past (y ∷ ys) zero past = absurd (omega arith)
get_past (y ∷ ys) (suc j) past = get_past ys j (omega arith)

past_end : (xs : List Text) (j : ℕ) → slice_get xs j ≡ None → length xs ≤ j
past_end [] j none = omega arith
past_end (y ∷ ys) zero none = absurd (cc)
past_end (y ∷ ys) (suc j) none = omega (arith, past_end ys j none)

kept : {X : Type 0} (o : Option X) (x : X) → or_last o false x ≡ o
kept None x = refl
kept (Some y) x = refl

module _ (c : List Rule) (ids options needed : List Text) (r : Reads c ids options needed) where
  pub record Holds (rows : List Row) (past : List Given) : Type 0 where
    pub ones : Ones rows
    pub places : (j : ℕ) (id : Text) → slice_get ids j ≡ Some id → first_of id rows ≡ slice_get (positionals past) j
    pub named : (name : Text) → names_one options name ≡ true → first_of name rows ≡ value_of name past

  -- no place has the id of another, nor of an option
  same_place : (i j : ℕ) (a b : Text) → slice_get ids i ≡ Some a → slice_get ids j ≡ Some b → bytes_eq a b ≡ true → i ≡ j
  same_place i j a b at_i at_j same =
      let equal : a ≡ b = (bytes_eq-Decides a b).0 same in
      let first : arg_by_id c a ≡ Some (place_rule (suc i) a) = r.of_place i a at_i in
      let second : arg_by_id c a ≡ Some (place_rule (suc j) b) = ap (arg_by_id c) equal ∙ r.of_place j b at_j in
      let places : Some (suc i) ≡ Some (suc j) = ap (λ (o : Option Rule). option_and_then (λ (a : Rule). a.index) o) (sym first ∙ second) in
      cc

  not_option : (i : ℕ) (a name : Text) → slice_get ids i ≡ Some a → names_one options name ≡ true → a ≡ name → ⊥
  not_option i a name at known same =
      let first : arg_by_id c a ≡ Some (place_rule (suc i) a) = r.of_place i a at in
      let second : arg_by_id c a ≡ Some (option_rule (names_one needed name) name) = ap (arg_by_id c) same ∙ r.of_option name known in
      let places : Some (suc i) ≡ None = ap (λ (o : Option Rule). option_and_then (λ (a : Rule). a.index) o) (sym first ∙ second) in
      absurd (cc)

  unequal : (a b : Text) → (a ≡ b → ⊥) → bytes_eq a b ≡ false
  unequal a b h = go (bytes_eq a b) refl
    where
      go : (t : Bool) → bytes_eq a b ≡ t → bytes_eq a b ≡ false
      go true e = absurd (h ((bytes_eq-Decides a b).0 e))
      go false e = e

  push_place : (rows : List Row) (past : List Given) (id word : Text) → Holds rows past → slice_get ids (length (positionals past)) ≡ Some id
      → Holds (rows ++ row_of id word ∷ []) (past ++ positional word ∷ [])
  push_place rows past id word h at = record {
    ones = ones_push id word rows h.ones;
    places = place;
    named = λ name known.
        first_push id word name rows h.ones ∙ rw (unequal id name (not_option (length (positionals past)) id name at known)) (kept (first_of name rows) word)
        ∙ h.named name known ∙ sym (value_push_place name past word);
  }
    where
      place : (j : ℕ) (other : Text) → slice_get ids j ≡ Some other → first_of other (rows ++ row_of id word ∷ []) ≡ slice_get (positionals (past ++ positional word ∷ [])) j
      place j other at_j =
          first_push id word other rows h.ones ∙ ap (λ (o : Option Text). or_last o (bytes_eq id other) word) (h.places j other at_j)
          ∙ placed (cases_order j (length (positionals past)))
          ∙ ap (λ (ws : List Text). slice_get ws j) (sym (positionals_push past (positional word ∷ [])))
        where
          other_id : (j ≡ length (positionals past) → ⊥) → bytes_eq id other ≡ false
          other_id apart = unequal id other (λ e. apart (sym (same_place (length (positionals past)) j id other at at_j ((bytes_eq-Decides id other).1 e))))

          placed : (j ≡ length (positionals past)) ⊎ ((j < length (positionals past)) ⊎ (length (positionals past) < j))
              → or_last (slice_get (positionals past) j) (bytes_eq id other) word ≡ slice_get (positionals past ++ word ∷ []) j
          placed (inl here) =
              let this : Some id ≡ Some other = sym at ∙ (ap (slice_get ids) (sym here) ∙ at_j) in
              let same : id ≡ other = cc in
              let hit : bytes_eq id other ≡ true = (bytes_eq-Decides id other).1 same in
              ap₂ (λ (o : Option Text) (b : Bool). or_last o b word) (get_past (positionals past) j (omega arith)) hit
              ∙ (sym (get_last (positionals past) word) ∙ ap (slice_get (positionals past ++ word ∷ [])) (sym here))
          placed (inr (inl before)) =
              ap (λ (b : Bool). or_last (slice_get (positionals past) j) b word) (other_id (λ e. omega arith))
              ∙ (kept (slice_get (positionals past) j) word ∙ sym (get_push (positionals past) word j before))
          placed (inr (inr after)) =
              ap₂ (λ (o : Option Text) (b : Bool). or_last o b word) (get_past (positionals past) j (omega arith)) (other_id (λ e. omega arith))
              ∙ sym (get_past (positionals past ++ word ∷ []) j (simp length-append (omega arith)))

  push_option : (rows : List Row) (past : List Given) (name word : Text) → Holds rows past → names_one options name ≡ true → value_of name past ≡ None
      → Holds (rows ++ row_of name word ∷ []) (past ++ option name word ∷ [])
  push_option rows past name word h known none = record {
    ones = ones_push name word rows h.ones;
    places = λ j id at.
        first_push name word id rows h.ones ∙ rw (unequal name id (λ e. not_option j id name at known (sym e))) (kept (first_of id rows) word)
        ∙ h.places j id at ∙ ap (λ (ws : List Text). slice_get ws j) (sym (append-nil (positionals past)) ∙ sym (positionals_push past (option name word ∷ [])));
    named = λ other is.
        first_push name word other rows h.ones ∙ ap (λ (o : Option Text). or_last o (bytes_eq name other) word) (h.named other is)
        ∙ sym (value_push other past name word);
  }

  -- ---- all that the words give

  -- the rows hold all of it, or an option stands twice or there are too many positional words
  abbrev pub Absorbed : List Given → Option (List Row) → Type 0
  Absorbed all None = (is_once all ≡ false) ⊎ (length ids < length (positionals all))
  Absorbed all (Some rows) = Holds rows all × ((is_once all ≡ true) × (length (positionals all) ≤ length ids))

  too_many : (past : List Given) (word : Text) (rest : List Given) → slice_get ids (length (positionals past)) ≡ None → length ids < length (positionals (past ++ positional word ∷ rest))
  too_many past word rest none =
      let past_ids = past_end ids (length (positionals past)) none in
      rw positionals_push (simp length-append (omega arith))

  absorbs : (items past : List Given) (rows : List Row) → Knows options items → Holds rows past → is_once past ≡ true → length (positionals past) ≤ length ids
      → Absorbed (past ++ items) (absorb ids (length (positionals past)) items rows)
  absorbs [] past rows known h once few = subst (λ (all : List Given). Holds rows all × ((is_once all ≡ true) × (length (positionals all) ≤ length ids))) (sym (append-nil past)) (h, (once, few))
  absorbs (positional word ∷ rest) past rows known h once few = go (slice_get ids (length (positionals past))) refl (absorbs rest)
    where
      go : (o : Option Text) → slice_get ids (length (positionals past)) ≡ o
          → ((past : List Given) (rows : List Row) → Knows options rest → Holds rows past → is_once past ≡ true → length (positionals past) ≤ length ids
          → Absorbed (past ++ rest) (absorb ids (length (positionals past)) rest rows))
          → Absorbed (past ++ positional word ∷ rest) (option_and_then (λ id. option_and_then (absorb ids (suc (length (positionals past))) rest) (added id word rows)) o)
      go None none later = inr (too_many past word rest none)
      go (Some id) at later =
          let count : length (positionals (past ++ positional word ∷ [])) ≡ suc (length (positionals past)) = rw positionals_push (simp length-append (omega arith)) in
          let absent : has_row id rows ≡ false =
          has_first id rows h.ones ∙ ap (λ (o : Option Text). is_some o) (h.places (length (positionals past)) id at ∙ get_past (positionals past) (length (positionals past)) (omega arith)) in
          let room : length (positionals (past ++ positional word ∷ [])) ≤ length ids = rw count (omega (arith, within ids (length (positionals past)) id at)) in
          let whole = later (past ++ positional word ∷ []) (rows ++ row_of id word ∷ []) known (push_place rows past id word h at) (once_push_place past word ∙ once) room in
          let all = subst (λ (xs : List Given). Absorbed xs (absorb ids (length (positionals (past ++ positional word ∷ []))) rest (rows ++ row_of id word ∷ [])))
          (append_assoc past (positional word ∷ []) rest) whole in
          let here = subst (λ (n : ℕ). Absorbed (past ++ positional word ∷ rest) (absorb ids n rest (rows ++ row_of id word ∷ []))) count all in
          rw absent here
  absorbs (option name word ∷ rest) past rows known h once few = go (value_of name past) refl (absorbs rest)
    where
      go : (o : Option Text) → value_of name past ≡ o
          → ((past : List Given) (rows : List Row) → Knows options rest → Holds rows past → is_once past ≡ true → length (positionals past) ≤ length ids
          → Absorbed (past ++ rest) (absorb ids (length (positionals past)) rest rows))
          → Absorbed (past ++ option name word ∷ rest) (option_and_then (absorb ids (length (positionals past)) rest) (added name word rows))
      go (Some value) has later =
          let stands : has_row name rows ≡ true = has_first name rows h.ones ∙ ap (λ (o : Option Text). is_some o) (h.named name known.0 ∙ has) in
          rw stands (inl (twice past name word value rest has))
      go None none later =
          let places : positionals (past ++ option name word ∷ []) ≡ positionals past = positionals_push past (option name word ∷ []) ∙ append-nil (positionals past) in
          let absent : has_row name rows ≡ false = has_first name rows h.ones ∙ ap (λ (o : Option Text). is_some o) (h.named name known.0 ∙ none) in
          let room : length (positionals (past ++ option name word ∷ [])) ≤ length ids = rw places few in
          let whole = later (past ++ option name word ∷ []) (rows ++ row_of name word ∷ []) known.1 (push_option rows past name word h known.0 none) (once_push past name word none once) room in
          let all = subst (λ (xs : List Given). Absorbed xs (absorb ids (length (positionals (past ++ option name word ∷ []))) rest (rows ++ row_of name word ∷ [])))
          (append_assoc past (option name word ∷ []) rest) whole in
          let here = subst (λ (ws : List Text). Absorbed (past ++ option name word ∷ rest) (absorb ids (length ws) rest (rows ++ row_of name word ∷ []))) places all in
          rw absent here

  -- from no words at all
  pub absorbs_all : (items : List Given) → Knows options items → Absorbed items (absorb ids 0 items [])
  absorbs_all items known = absorbs items [] [] known (record { ones = λ id. tt; places = λ j id at. refl; named = λ name known. refl }) refl (omega arith)
