-- The rules of a command are of its positional words and options.
use Rattle.std.proofs.Common.{◌≡◌, ◌∙◌, ◌&&◌, not, ℕ, zero, suc, ◌+◌, ◌≤◌, ◌==◌, ◌||◌, Bool, true, false, List, [], ◌∷◌}
use Rattle.std.proofs.Common.{◌++◌, map, length, Some, None, refl, sym, ap, subst, slice_get, cond, if◌then◌else◌, arith, fold, find, option_map, is_some}
use Rattle.std.specs.List.{list_all, list_any}
use Rattle.std.specs.Option.{option_map_or}
use Rattle.std.specs.Str.{bytes_eq}
use Rattle.std.proofs.lemmas.Bool.{and_parts, ne_eqb}
use Rattle.std.proofs.lemmas.Slice.Eq.{bytes_eq-Decides}
use Rattle.clap.specs.Takes.{is_given}
use Rattle.clap.specs.Walk.{Row, Rule, Text, arg_by_id, arg_by_index, has_long, has_row, has_short, with_default}
use Rattle.clap.specs.Faults.{default_fault, defaults_fault}
use Rattle.command_words.specs.Words.{names_one}
use Rattle.command_words.proofs.Rules.{Reads, both_empty, option_rule, place_rule}

kept : {X : Type 0} (b : Bool) (x : X) → cond b x x ≡ x
kept true x = refl
kept false x = refl

or_true : (b : Bool) → (b || true) ≡ true
or_true true = refl
or_true false = refl

itself : (a : Text) → bytes_eq a a ≡ true
itself a = (bytes_eq-Decides a a).1 refl

-- ---- the rules

-- positional words from this place on
abbrev pub placed : ℕ → List Text → List Rule
placed from [] = []
placed from (id ∷ ids) = place_rule from id ∷ placed (suc from) ids

abbrev pub rules_of : List Text → List Text → List Text → List Rule
rules_of ids needed optional = placed 1 ids ++ (map (option_rule true) needed ++ map (option_rule false) optional)

-- no text stands twice
abbrev pub are_apart : List Text → Bool
are_apart [] = true
are_apart (a ∷ rest) = list_all (λ b. not (bytes_eq a b)) rest && are_apart rest

-- ---- found by place

abbrev at_index : ℕ → Rule → Bool
at_index i a = option_map_or (λ k. k == i) a.index false

no_place : (needed : Bool) (names : List Text) (rest : List Rule) (i : ℕ) → find (at_index i) rest ≡ None → find (at_index i) (map (option_rule needed) names ++ rest) ≡ None
no_place needed [] rest i h = h
no_place needed (name ∷ names) rest i h = no_place needed names rest i h

at_place : (from k : ℕ) (ids : List Text) (rest : List Rule) → ((i : ℕ) → find (at_index i) rest ≡ None)
    → find (at_index (from + k)) (placed from ids ++ rest) ≡ option_map (place_rule (from + k)) (slice_get ids k)
at_place from k [] rest h = h (from + k)
at_place from zero (id ∷ ids) rest h = go (from == from + 0) refl
  where
    go : (t : Bool) → (from == from + 0) ≡ t → (if from == from + 0 then Some (place_rule from id) else find (at_index (from + 0)) (placed (suc from) ids ++ rest)) ≡ Some (place_rule (from + 0) id)
    go true e = rw e (ap (λ (n : ℕ). Some (place_rule n id)) (omega arith))
    go false e =
        let other : (from ≡ from + 0 → ⊥) = λ same. absurd (apart same e) in
        absurd (other (omega arith))
      where
        apart : from ≡ from + 0 → (from == from + 0) ≡ false → ⊥
        apart same f = grind (arith, same, f)
at_place from (suc k) (id ∷ ids) rest h =
    let apart : (from == from + suc k) ≡ false = ne_eqb from (from + suc k) (λ e. omega (arith, e)) in
    let next : from + suc k ≡ suc from + k = omega arith in
    rw apart (ap (λ (n : ℕ). find (at_index n) (placed (suc from) ids ++ rest)) next ∙ at_place (suc from) k ids rest h ∙ ap (λ (n : ℕ). option_map (place_rule n) (slice_get ids k)) (sym next))

-- ---- found by name

abbrev named_so : Text → Rule → Bool
named_so name a = not (is_some a.index) && has_long a name

past_places : (from : ℕ) (ids : List Text) (rest : List Rule) (name : Text) → find (named_so name) (placed from ids ++ rest) ≡ find (named_so name) rest
past_places from [] rest name = refl
past_places from (id ∷ ids) rest name = past_places (suc from) ids rest name

same_text : (a b : Text) → bytes_eq a b ≡ true → a ≡ b
same_text a b e = (bytes_eq-Decides a b).0 e

or_none : (b : Bool) → (b || false) ≡ b
or_none true = refl
or_none false = refl

-- the first option of this name among some, and else what comes after
by_name_in : (needed : Bool) (names : List Text) (rest : List Rule) (name : Text)
    → find (named_so name) (map (option_rule needed) names ++ rest) ≡ (if names_one names name then Some (option_rule needed name) else find (named_so name) rest)
by_name_in needed [] rest name = refl
by_name_in needed (first ∷ names) rest name = go (bytes_eq first name) refl (by_name_in needed names rest name)
  where
    go : (t : Bool) → bytes_eq first name ≡ t
        → find (named_so name) (map (option_rule needed) names ++ rest) ≡ (if names_one names name then Some (option_rule needed name) else find (named_so name) rest)
        → (if bytes_eq first name || false then Some (option_rule needed first) else find (named_so name) (map (option_rule needed) names ++ rest))
        ≡ (if bytes_eq first name || names_one names name then Some (option_rule needed name) else find (named_so name) rest)
    go true e later = rw e (ap (λ (t : Text). Some (option_rule needed t)) (same_text first name e))
    go false e later = rw e later

-- a name of either list
pub one_of_both : (needed optional : List Text) (name : Text) → names_one (needed ++ optional) name ≡ (names_one needed name || names_one optional name)
one_of_both [] optional name = refl
one_of_both (first ∷ needed) optional name = go (bytes_eq first name) (one_of_both needed optional name)
  where
    go : (t : Bool) → names_one (needed ++ optional) name ≡ (names_one needed name || names_one optional name)
        → (t || names_one (needed ++ optional) name) ≡ ((t || names_one needed name) || names_one optional name)
    go true h = refl
    go false h = h

append_none : (rules : List Rule) → rules ++ [] ≡ rules
append_none [] = refl
append_none (a ∷ rules) = ap (λ (rest : List Rule). a ∷ rest) (append_none rules)

options_by_name : (needed optional : List Text) (name : Text) → find (named_so name) (map (option_rule true) needed ++ map (option_rule false) optional)
    ≡ (if names_one (needed ++ optional) name then Some (option_rule (names_one needed name) name) else None)
options_by_name needed optional name =
    by_name_in true needed (map (option_rule false) optional) name ∙ go (names_one needed name) refl (names_one optional name) refl
  where
    rest : find (named_so name) (map (option_rule false) optional) ≡ (if names_one optional name then Some (option_rule false name) else None)
    rest = ap (find (named_so name)) (sym (append_none (map (option_rule false) optional))) ∙ by_name_in false optional [] name

    go : (t : Bool) → names_one needed name ≡ t → (s : Bool) → names_one optional name ≡ s
        → (if names_one needed name then Some (option_rule true name) else find (named_so name) (map (option_rule false) optional))
        ≡ (if names_one (needed ++ optional) name then Some (option_rule (names_one needed name) name) else None)
    go true e s f = rw (one_of_both needed optional name, e) refl
    go false e s f = rw (one_of_both needed optional name, e) rest

-- ---- found by a letter

abbrev lettered_so : ℕ → Rule → Bool
lettered_so letter a = not (is_some a.index) && has_short a letter

no_letter_at_places : (from : ℕ) (ids : List Text) (rest : List Rule) (letter : ℕ) → find (lettered_so letter) (placed from ids ++ rest) ≡ find (lettered_so letter) rest
no_letter_at_places from [] rest letter = refl
no_letter_at_places from (id ∷ ids) rest letter = no_letter_at_places (suc from) ids rest letter

no_letter : (needed : Bool) (names : List Text) (rest : List Rule) (letter : ℕ) → find (lettered_so letter) (map (option_rule needed) names ++ rest) ≡ find (lettered_so letter) rest
no_letter needed [] rest letter = refl
no_letter needed (name ∷ names) rest letter = no_letter needed names rest letter

-- ---- found by id

abbrev is_of : Text → Rule → Bool
is_of id a = bytes_eq a.id id

of_place : (from k : ℕ) (ids : List Text) (rest : List Rule) (id : Text) → are_apart ids ≡ true → slice_get ids k ≡ Some id
    → find (is_of id) (placed from ids ++ rest) ≡ Some (place_rule (from + k) id)
of_place from k [] rest id apart at = absurd (cc)
of_place from zero (first ∷ ids) rest id apart at =
    let same : first ≡ id = cc in
    rw same (rw (itself id) (ap (λ (n : ℕ). Some (place_rule n id)) (omega arith)))
of_place from (suc k) (first ∷ ids) rest id apart at =
    let parts = and_parts (list_all (λ b. not (bytes_eq first b)) ids) (are_apart ids) apart in
    let other : bytes_eq first id ≡ false = apart_from first ids id k parts.0 at in
    rw other (of_place (suc from) k ids rest id parts.1 at ∙ ap (λ (n : ℕ). Some (place_rule n id)) (omega arith))
  where
    not_so : (b : Bool) → not b ≡ true → b ≡ false
    not_so true e = absurd (cc)
    not_so false e = refl

    apart_from : (a : Text) (bs : List Text) (b : Text) (k : ℕ) → list_all (λ b. not (bytes_eq a b)) bs ≡ true → slice_get bs k ≡ Some b → bytes_eq a b ≡ false
    apart_from a [] b k h at = absurd (cc)
    apart_from a (x ∷ bs) b zero h at =
        let same : x ≡ b = cc in
        subst (λ (t : Text). bytes_eq a t ≡ false) same (not_so (bytes_eq a x) (and_parts (not (bytes_eq a x)) (list_all (λ b. not (bytes_eq a b)) bs) h).0)
    apart_from a (x ∷ bs) b (suc k) h at = apart_from a bs b k (and_parts (not (bytes_eq a x)) (list_all (λ y. not (bytes_eq a y)) bs) h).1 at

-- a name that is none of the ids
abbrev is_none_of : List Text → Text → Bool
is_none_of ids name = list_all (λ id. not (bytes_eq id name)) ids

past_ids : (from : ℕ) (ids : List Text) (rest : List Rule) (name : Text) → is_none_of ids name ≡ true → find (is_of name) (placed from ids ++ rest) ≡ find (is_of name) rest
past_ids from [] rest name h = refl
past_ids from (id ∷ ids) rest name h =
    let parts = and_parts (not (bytes_eq id name)) (is_none_of ids name) h in
    let other : bytes_eq id name ≡ false = not_so (bytes_eq id name) parts.0 in
    rw other (past_ids (suc from) ids rest name parts.1)
  where
    not_so : (b : Bool) → not b ≡ true → b ≡ false
    not_so true e = absurd (cc)
    not_so false e = refl

-- the same options are found by their ids
by_id_in : (needed : Bool) (names : List Text) (rest : List Rule) (name : Text)
    → find (is_of name) (map (option_rule needed) names ++ rest) ≡ (if names_one names name then Some (option_rule needed name) else find (is_of name) rest)
by_id_in needed [] rest name = refl
by_id_in needed (first ∷ names) rest name = go (bytes_eq first name) refl (by_id_in needed names rest name)
  where
    go : (t : Bool) → bytes_eq first name ≡ t
        → find (is_of name) (map (option_rule needed) names ++ rest) ≡ (if names_one names name then Some (option_rule needed name) else find (is_of name) rest)
        → (if bytes_eq first name then Some (option_rule needed first) else find (is_of name) (map (option_rule needed) names ++ rest))
        ≡ (if bytes_eq first name || names_one names name then Some (option_rule needed name) else find (is_of name) rest)
    go true e later = rw e (ap (λ (t : Text). Some (option_rule needed t)) (same_text first name e))
    go false e later = rw e later

options_by_id : (needed optional : List Text) (name : Text) → names_one (needed ++ optional) name ≡ true
    → find (is_of name) (map (option_rule true) needed ++ map (option_rule false) optional) ≡ Some (option_rule (names_one needed name) name)
options_by_id needed optional name known = by_id_in true needed (map (option_rule false) optional) name ∙ go (names_one needed name) refl
  where
    rest : find (is_of name) (map (option_rule false) optional) ≡ (if names_one optional name then Some (option_rule false name) else None)
    rest = ap (find (is_of name)) (sym (append_none (map (option_rule false) optional))) ∙ by_id_in false optional [] name

    go : (t : Bool) → names_one needed name ≡ t
        → (if names_one needed name then Some (option_rule true name) else find (is_of name) (map (option_rule false) optional)) ≡ Some (option_rule (names_one needed name) name)
    go true e = rw e refl
    go false e =
        let one : names_one optional name ≡ true = sym (ap (λ (b : Bool). b || names_one optional name) e) ∙ (sym (one_of_both needed optional name) ∙ known) in
        rw e (rest ∙ ap (λ (b : Bool). if b then Some (option_rule false name) else None) one)

-- what the options are, the ids are not
none_of_ids : (ids names : List Text) (name : Text) → are_apart (ids ++ names) ≡ true → names_one names name ≡ true → is_none_of ids name ≡ true
none_of_ids [] names name apart known = refl
none_of_ids (id ∷ ids) names name apart known =
    let parts = and_parts (list_all (λ b. not (bytes_eq id b)) (ids ++ names)) (are_apart (ids ++ names)) apart in
    rw (not_one id (ids ++ names) name parts.0 (later ids names name known)) (none_of_ids ids names name parts.1 known)
  where
    later : (ids names : List Text) (name : Text) → names_one names name ≡ true → names_one (ids ++ names) name ≡ true
    later [] names name h = h
    later (x ∷ ids) names name h = rw (later ids names name h) (or_true (bytes_eq x name))

    not_one : (a : Text) (bs : List Text) (name : Text) → list_all (λ b. not (bytes_eq a b)) bs ≡ true → names_one bs name ≡ true → bytes_eq a name ≡ false
    not_one a [] name h k = absurd (cc)
    not_one a (b ∷ bs) name h k = go (bytes_eq b name) refl (λ more. not_one a bs name (and_parts (not (bytes_eq a b)) (list_all (λ x. not (bytes_eq a x)) bs) h).1 more) k
      where
        not_so : (b : Bool) → not b ≡ true → b ≡ false
        not_so true e = absurd (cc)
        not_so false e = refl

        go : (t : Bool) → bytes_eq b name ≡ t → (names_one bs name ≡ true → bytes_eq a name ≡ false) → (t || names_one bs name) ≡ true → bytes_eq a name ≡ false
        go true e later k = subst (λ (t : Text). bytes_eq a t ≡ false) (same_text b name e) (not_so (bytes_eq a b) (and_parts (not (bytes_eq a b)) (list_all (λ x. not (bytes_eq a x)) bs) h).0)
        go false e later k = later k

front_apart : (xs ys : List Text) → are_apart (xs ++ ys) ≡ true → are_apart xs ≡ true
front_apart [] ys h = refl
front_apart (a ∷ xs) ys h =
    let parts = and_parts (list_all (λ b. not (bytes_eq a b)) (xs ++ ys)) (are_apart (xs ++ ys)) h in
    rw (all_front xs parts.0) (front_apart xs ys parts.1)
  where
    all_front : (xs : List Text) → list_all (λ b. not (bytes_eq a b)) (xs ++ ys) ≡ true → list_all (λ b. not (bytes_eq a b)) xs ≡ true
    all_front [] h = refl
    all_front (x ∷ xs) h =
        let parts = and_parts (not (bytes_eq a x)) (list_all (λ b. not (bytes_eq a b)) (xs ++ ys)) h in
        rw parts.0 (all_front xs parts.1)

-- ---- what is required

abbrev lacks : List Row → Text → Bool
lacks rows id = not (is_given id rows)

abbrev wants : List Row → Rule → Bool
wants rows a = a.required && not (is_given a.id rows)

wanted_places : (from : ℕ) (ids : List Text) (rest : List Rule) (rows : List Row) → list_any (wants rows) (placed from ids ++ rest) ≡ (list_any (lacks rows) ids || list_any (wants rows) rest)
wanted_places from [] rest rows = refl
wanted_places from (id ∷ ids) rest rows = go (lacks rows id) (wanted_places (suc from) ids rest rows)
  where
    go : (t : Bool) → list_any (wants rows) (placed (suc from) ids ++ rest) ≡ (list_any (lacks rows) ids || list_any (wants rows) rest)
        → (t || list_any (wants rows) (placed (suc from) ids ++ rest)) ≡ ((t || list_any (lacks rows) ids) || list_any (wants rows) rest)
    go true h = refl
    go false h = h

wanted_needed : (names : List Text) (rest : List Rule) (rows : List Row) → list_any (wants rows) (map (option_rule true) names ++ rest) ≡ (list_any (lacks rows) names || list_any (wants rows) rest)
wanted_needed [] rest rows = refl
wanted_needed (name ∷ names) rest rows = go (lacks rows name) (wanted_needed names rest rows)
  where
    go : (t : Bool) → list_any (wants rows) (map (option_rule true) names ++ rest) ≡ (list_any (lacks rows) names || list_any (wants rows) rest)
        → (t || list_any (wants rows) (map (option_rule true) names ++ rest)) ≡ ((t || list_any (lacks rows) names) || list_any (wants rows) rest)
    go true h = refl
    go false h = h

wanted_optional : (names : List Text) (rows : List Row) → list_any (wants rows) (map (option_rule false) names) ≡ false
wanted_optional [] rows = refl
wanted_optional (name ∷ names) rows = wanted_optional names rows

turned : (a b : Bool) → (a || (b || false)) ≡ (b || a)
turned true true = refl
turned true false = refl
turned false true = refl
turned false false = refl

-- ---- no argument has a default

abbrev Bare : List Rule → Type 0
Bare [] = Unit {0}
Bare (a ∷ rest) = (a.defaults ≡ []) × Bare rest

bare_options : (needed : Bool) (names : List Text) (rest : List Rule) → Bare rest → Bare (map (option_rule needed) names ++ rest)
bare_options needed [] rest h = h
bare_options needed (name ∷ names) rest h = (refl, bare_options needed names rest h)

bare_places : (from : ℕ) (ids : List Text) (rest : List Rule) → Bare rest → Bare (placed from ids ++ rest)
bare_places from [] rest h = h
bare_places from (id ∷ ids) rest h = (refl, bare_places (suc from) ids rest h)

one_default : (rows : List Row) (a : Rule) → a.defaults ≡ [] → with_default rows a ≡ rows
one_default rows a e = rw e (kept (has_row a.id rows) rows)

one_fault : (rows : List Row) (a : Rule) → a.defaults ≡ [] → default_fault rows a ≡ []
one_fault rows a e = rw e (rw (or_true (has_row a.id rows)) refl)

no_defaults : (c : List Rule) (rows : List Row) → Bare c → fold with_default rows c ≡ rows
no_defaults [] rows bare = refl
no_defaults (a ∷ rest) rows bare = ap (λ (found : List Row). fold with_default found rest) (one_default rows a bare.0) ∙ no_defaults rest rows bare.1

no_faults : (c : List Rule) (rows : List Row) → Bare c → defaults_fault rows c ≡ []
unfolding defaults_fault
no_faults [] rows bare = refl
no_faults (a ∷ rest) rows bare = both_empty (default_fault rows a) (defaults_fault (with_default rows a) rest) (one_fault rows a bare.0) (no_faults rest (with_default rows a) bare.1)

-- ---- all of it

is_option : (needed optional : List Text) (k : ℕ) (name : Text) → slice_get needed k ≡ Some name → names_one (needed ++ optional) name ≡ true
is_option [] optional k name at = absurd (cc)
is_option (first ∷ needed) optional zero name at =
    let same : first ≡ name = cc in
    rw same (rw (itself name) refl)
is_option (first ∷ needed) optional (suc k) name at = rw (is_option needed optional k name at) (or_true (bytes_eq first name))

module _ (ids needed optional : List Text) (apart : are_apart (ids ++ (needed ++ optional)) ≡ true) (few : length ids ≤ 1000) where
  abbrev options : List Rule
  options = map (option_rule true) needed ++ map (option_rule false) optional

  no_place_left : (i : ℕ) → find (at_index i) options ≡ None
  no_place_left i = no_place true needed (map (option_rule false) optional) i (ap (find (at_index i)) (sym (append_none (map (option_rule false) optional))) ∙ no_place false optional [] i refl)

  all_bare : Bare (rules_of ids needed optional)
  all_bare = bare_places 1 ids options (bare_options true needed (map (option_rule false) optional) (subst Bare (append_none (map (option_rule false) optional)) (bare_options false optional [] tt)))

  next : (k : ℕ) → 1 + k ≡ suc k
  next k = omega arith

  pub reads : Reads (rules_of ids needed optional) ids (needed ++ optional) needed
  reads = record {
    few = few;
    at_place = λ k. subst (λ (n : ℕ). arg_by_index (rules_of ids needed optional) n ≡ option_map (place_rule n) (slice_get ids k)) (next k) (at_place 1 k ids options no_place_left);
    by_name = λ name. past_places 1 ids options name ∙ options_by_name needed optional name;
    by_letter = λ letter. no_letter_at_places 1 ids options letter
        ∙ (no_letter true needed (map (option_rule false) optional) letter
        ∙ (ap (find (lettered_so letter)) (sym (append_none (map (option_rule false) optional))) ∙ no_letter false optional [] letter));
    of_place = λ k id at. subst (λ (n : ℕ). arg_by_id (rules_of ids needed optional) id ≡ Some (place_rule n id)) (next k)
        (of_place 1 k ids options id (front_apart ids (needed ++ optional) apart) at);
    of_option = λ name known. past_ids 1 ids options name (none_of_ids ids (needed ++ optional) name apart known) ∙ options_by_id needed optional name known;
    are_options = is_option needed optional;
    wanted = λ rows. wanted_places 1 ids options rows
        ∙ (ap (λ (b : Bool). list_any (lacks rows) ids || b) (wanted_needed needed (map (option_rule false) optional) rows
        ∙ ap (λ (b : Bool). list_any (lacks rows) needed || b) (wanted_optional optional rows))
        ∙ turned (list_any (lacks rows) ids) (list_any (lacks rows) needed));
    no_default = λ rows. no_defaults (rules_of ids needed optional) rows all_bare;
    no_default_fault = λ rows. no_faults (rules_of ids needed optional) rows all_bare;
  }
