-- What `clap` makes of the words that follow a command's name: the values that they give it, or a refusal.
use Rattle.std.proofs.Common.{◌≡◌, ◌∙◌, ◌⊎◌, inl, inr, ℕ, zero, suc, ◌<◌, ◌≤◌, ◌==◌, ◌||◌, ◌&&◌, Bool, true, false, not}
use Rattle.std.proofs.Common.{List, [], ◌∷◌, length, Option, Some, None, refl, sym, ap, ap₂, subst, slice_get, cond, if◌then◌else◌, option_and_then, arith, is_some}
use Rattle.std.specs.List.{list_any, list_all}
use Rattle.std.specs.Str.{is_utf8}
use Rattle.std.proofs.lemmas.Bool.{eqb-true, eqb-false, ne_eqb}
use Rattle.clap.specs.Walk.{Row, Rule, Text, first_of, idle, nothing_held, rows_after, settled, walk}
use Rattle.clap.specs.Takes.{is_given}
use Rattle.clap.specs.Kinds.{Kinds, or_else}
use Rattle.clap.specs.Faults.{check_fault, defaults_fault, level_fault, settle_fault, walk_fault}
use Rattle.clap.specs.declared.error.kind.ErrorKind.TheVariants.{MissingRequiredArgument}
use Rattle.command_words.specs.Words.{Given, arguments_of, given_by, is_once, names_one, positionals, value_of}
use Rattle.command_words.proofs.Rules.{Judged, Reads, both_empty, first_empty, second_empty, some_kind}
use Rattle.command_words.proofs.WalkStates.{absorb, leaf, nothing, outcome, state, within}
use Rattle.command_words.proofs.Walking.{laws}
use Rattle.command_words.proofs.Holding.{Absorbed, Holds, absorbs_all, given_first, given_knows}

missing : (p : Text → Bool) (xs : List Text) (k : ℕ) (x : Text) → slice_get xs k ≡ Some x → p x ≡ true → list_any p xs ≡ true
missing p [] k x at hit = absurd (cc)
missing p (y ∷ ys) zero x at hit =
    let same : y ≡ x = cc in
    rw (same, hit) refl
missing p (y ∷ ys) (suc k) x at hit = go (p y) (missing p ys k x at hit)
  where
    go : (t : Bool) → list_any p ys ≡ true → (t || list_any p ys) ≡ true
    go true e = refl
    go false e = e

pub none_missing : (p : Text → Bool) (xs : List Text) → ((k : ℕ) (x : Text) → slice_get xs k ≡ Some x → p x ≡ false) → list_any p xs ≡ false
none_missing p [] h = refl
none_missing p (y ∷ ys) h = rw (h 0 y refl) (none_missing p ys (λ k x at. h (suc k) x at))

any_not : (p q : Text → Bool) (xs : List Text) → ((k : ℕ) (x : Text) → slice_get xs k ≡ Some x → p x ≡ not (q x)) → list_any p xs ≡ not (list_all q xs)
any_not p q [] h = refl
any_not p q (x ∷ xs) h = ap₂ (λ (a b : Bool). a || b) (h 0 x refl) (any_not p q xs (λ k y at. h (suc k) y at)) ∙ or_nots (q x) (list_all q xs)
  where
    or_nots : (a b : Bool) → (not a || not b) ≡ not (a && b)
    or_nots true b = refl
    or_nots false b = refl

and_false : (b : Bool) → (b && false) ≡ false
and_false true = refl
and_false false = refl

four_empty : (w s d k : Kinds) → or_else w (or_else [] (or_else s (or_else d k))) ≡ [] → (w ≡ []) × ((s ≡ []) × (k ≡ []))
four_empty w s d k e =
    let after = second_empty w (or_else s (or_else d k)) e in
    (first_empty w (or_else s (or_else d k)) e, (first_empty s (or_else d k) after, second_empty d k (second_empty s (or_else d k) after)))

empty_four : (w s d k : Kinds) → w ≡ [] → s ≡ [] → d ≡ [] → k ≡ [] → or_else w (or_else [] (or_else s (or_else d k))) ≡ []
empty_four w s d k e f g h = rw (e, f, g) h

module _ (title : Text) (c : List Rule) (ids options needed : List Text) (r : Reads c ids options needed) where
  -- the kinds of a refusal, and the rows where there is none
  abbrev pub level : List Text → Kinds
  level words = level_fault (leaf title c) [] nothing_held words false []

  abbrev pub rows : List Text → List Row
  rows words = rows_after c [] words

  -- the options that are needed have values, and there are so many positional words as the command shows
  abbrev pub is_whole : List Given → Bool
  is_whole items = list_all (λ name. is_some (value_of name items)) needed && (length (positionals items) == length ids)

  -- what the words give, where it is all of what the command shows
  abbrev pub whole : Option (List Given) → Option (List Given)
  whole given = option_and_then (λ items. if is_whole items then Some items else None) given

  pub record Values (words : List Text) (given : List Given) : Type 0 where
    pub passes : level words ≡ []
    pub places : (j : ℕ) (id : Text) → slice_get ids j ≡ Some id → first_of id (rows words) ≡ slice_get (positionals given) j
    pub named : (name : Text) → names_one options name ≡ true → first_of name (rows words) ≡ value_of name given

  abbrev pub Level : List Text → Option (List Given) → Type 0
  Level words None = level words ≡ [] → ⊥
  Level words (Some given) = Values words given

  abbrev ended : List Text → List Row
  ended words = (settled c (walk c [] nothing_held words).held).rows

  abbrev walking : List Text → Kinds
  walking words = or_else (walk_fault (leaf title c) [] (state [] None idle 0 false) words) (settle_fault c false (walk c [] nothing_held words).held)

  check : List Row → Kinds
  check found = check_fault (leaf title c) found false

  rows_are : (words : List Text) → rows words ≡ ended words
  rows_are words = r.no_default (ended words)

  walk_kinds : List Text → Kinds
  walk_kinds words = walk_fault (leaf title c) [] (state [] None idle 0 false) words

  settle_kinds : List Text → Kinds
  settle_kinds words = settle_fault c false (walk c [] nothing_held words).held

  splits : (words : List Text) → level words ≡ [] → (walking words ≡ []) × (check (ended words) ≡ [])
  unfolding check walk_kinds settle_kinds
  splits words e =
      let parts = four_empty (walk_kinds words) (settle_kinds words) (defaults_fault (ended words) c) (check (rows words)) e in
      (both_empty (walk_kinds words) (settle_kinds words) parts.0 parts.1.0, subst (λ (found : List Row). check_fault (leaf title c) found false ≡ []) (rows_are words) parts.1.1)

  joins : (words : List Text) → walking words ≡ [] → check (ended words) ≡ [] → level words ≡ []
  unfolding check walk_kinds settle_kinds
  joins words e f =
      empty_four (walk_kinds words) (settle_kinds words) (defaults_fault (ended words) c) (check (rows words))
      (first_empty (walk_kinds words) (settle_kinds words) e) (second_empty (walk_kinds words) (settle_kinds words) e) (r.no_default_fault (ended words))
      (subst (λ (found : List Row). check_fault (leaf title c) found false ≡ []) (sym (rows_are words)) f)

  -- of what is required something was not given
  lacks : List Row → Bool
  lacks found = list_any (λ id. not (is_given id found)) needed || list_any (λ id. not (is_given id found)) ids

  all_there : (found : List Row) → lacks found ≡ false → check found ≡ []
  unfolding check lacks
  all_there found e = ap (λ (b : Bool). cond b (MissingRequiredArgument ∷ []) []) (r.wanted found ∙ e)

  one_lacks : (found : List Row) → lacks found ≡ true → check found ≡ [] → ⊥
  unfolding check lacks
  one_lacks found e none = some_kind MissingRequiredArgument [] (sym (ap (λ (b : Bool). cond b (MissingRequiredArgument ∷ []) []) (r.wanted found ∙ e)) ∙ none)

  within_some : (xs : List Text) (j : ℕ) → j < length xs → is_some (slice_get xs j) ≡ true
  within_some [] j below = absurd (omega arith)
  within_some (y ∷ ys) zero below = refl
  within_some (y ∷ ys) (suc j) below = within_some ys j (omega arith)

  at_end : (xs : List Text) → slice_get xs (length xs) ≡ None
  at_end [] = refl
  at_end (y ∷ ys) = at_end ys

  id_there : (j : ℕ) → j < length ids → (id : Text) × (slice_get ids j ≡ Some id)
  id_there j below = go (slice_get ids j) refl (within_some ids j below)
    where
      go : (o : Option Text) → slice_get ids j ≡ o → is_some (slice_get ids j) ≡ true → (id : Text) × (slice_get ids j ≡ Some id)
      go None e some =
          let bad : false ≡ true = rw e at some in
          absurd (cc)
      go (Some id) e some = (id, e)

  held_law : (words : List Text) (items : List Given) (all : List Row) → walking words ≡ [] → ended words ≡ all → Holds c ids options needed r all items → length (positionals items) ≤ length ids
      → Level words (whole (Some items))
  unfolding lacks
  held_law words items all walks is holds few = go (list_all (λ name. is_some (value_of name items)) needed) refl (length (positionals items) == length ids) refl
    where
      option_lacks : list_any (λ id. not (is_given id (ended words))) needed ≡ not (list_all (λ name. is_some (value_of name items)) needed)
      option_lacks = any_not (λ id. not (is_given id (ended words))) (λ name. is_some (value_of name items)) needed (λ k name at.
          ap (λ (found : List Row). not (is_given name found)) is
          ∙ ap not (given_first name all holds.ones ∙ ap (λ (o : Option Text). is_some o) (holds.named name (r.are_options k name at))))

      place_given : (j : ℕ) (id : Text) → slice_get ids j ≡ Some id → not (is_given id (ended words)) ≡ not (is_some (slice_get (positionals items) j))
      place_given j id at =
          ap (λ (found : List Row). not (is_given id found)) is ∙ ap not (given_first id all holds.ones ∙ ap (λ (o : Option Text). is_some o) (holds.places j id at))

      go : (n : Bool) → list_all (λ name. is_some (value_of name items)) needed ≡ n → (t : Bool) → (length (positionals items) == length ids) ≡ t
          → Level words (if n && t then Some items else None)
      go false some t same = λ none. one_lacks (ended words) (rw (option_lacks ∙ ap not some) refl) (splits words none).1
      go true some true same =
          let there : (j : ℕ) (id : Text) → slice_get ids j ≡ Some id → not (is_given id (ended words)) ≡ false = λ j id at.
          let count : length (positionals items) ≡ length ids = eqb-true _ _ same in
          let below : j < length (positionals items) = omega (arith, within ids j id at) in
          place_given j id at ∙ ap not (within_some (positionals items) j below) in
          record {
            passes = joins words walks (all_there (ended words) (ap₂ (λ (a b : Bool). a || b) (option_lacks ∙ ap not some) (none_missing (λ id. not (is_given id (ended words))) ids there)));
            places = λ j id at. ap (first_of id) (rows_are words ∙ is) ∙ holds.places j id at;
            named = λ name known. ap (first_of name) (rows_are words ∙ is) ∙ holds.named name known;
          }
      go true some false apart =
          let short : length (positionals items) < length ids = omega (arith, eqb-false _ _ apart, few) in
          let id = id_there (length (positionals items)) short in
          let absent : not (is_given id.0 (ended words)) ≡ true =
          place_given (length (positionals items)) id.0 id.1 ∙ ap (λ (o : Option Text). not (is_some o)) (at_end (positionals items)) in
          λ none. one_lacks (ended words) (ap₂ (λ (a b : Bool). a || b) (option_lacks ∙ ap not some)
          (missing (λ id. not (is_given id (ended words))) ids (length (positionals items)) id.0 id.1 absent)) (splits words none).1

  fallen_law : (words : List Text) (items : List Given) → (walking words ≡ [] → ⊥) → (is_once items ≡ false) ⊎ (length ids < length (positionals items))
      → Level words (whole (if is_once items then Some items else None))
  fallen_law words items falls (inl once) = rw once (λ none. falls (splits words none).0)
  fallen_law words items falls (inr many) = go (is_once items)
    where
      go : (t : Bool) → Level words (whole (if t then Some items else None))
      go true =
          let apart : (length (positionals items) == length ids) ≡ false = ne_eqb _ _ (λ e. omega (arith, e, many)) in
          let short : is_whole items ≡ false =
          ap (λ (t : Bool). list_all (λ name. is_some (value_of name items)) needed && t) apart ∙ and_false (list_all (λ name. is_some (value_of name items)) needed) in
          rw short (λ none. falls (splits words none).0)
      go false = λ none. falls (splits words none).0

  -- the words are taken exactly where they give the command what it shows, and the rows are what they give
  pub level_law : (words : List Text) → list_all is_utf8 words ≡ true → Level words (whole (arguments_of options words))
  level_law words texts = go (given_by options words None) refl ((laws title c ids options needed r words texts).from_idle [] None 0 nothing)
    where
      step : (items : List Given) (o : Option (List Row)) → Judged o (walking words) (ended words) → Absorbed c ids options needed r items o
          → Level words (whole (if is_once items then Some items else None))
      step items None h fell = fallen_law words items h fell
      step items (Some all) h (holds, (once, few)) = rw once (held_law words items all h.0 h.1 holds few)

      go : (given : Option (List Given)) → given_by options words None ≡ given → Judged (outcome ids 0 given []) (walking words) (ended words)
          → Level words (whole (option_and_then (λ items. if is_once items then Some items else None) given))
      go None e h = λ none. h (splits words none).0
      go (Some items) e h = step items (absorb ids 0 items []) h (absorbs_all c ids options needed r items (given_knows options words None tt items e))
