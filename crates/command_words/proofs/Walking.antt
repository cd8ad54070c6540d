-- What `clap` finds in the words that follow a command's name is what they give.
use Rattle.std.proofs.Common.{◌≡◌, ◌∙◌, ℕ, suc, ◌<◌, Bool, true, false, List, [], ◌∷◌, map, length, Option, Some, None, refl, sym, ap, ap₂, subst, slice_get, cond, option_and_then, arith, is_some}
use Rattle.std.specs.List.{list_all}
use Rattle.std.specs.Str.{bytes_eq, is_utf8}
use Rattle.std.proofs.lemmas.Bool.{and_right, and_parts}
use Rattle.std.proofs.lemmas.Slice.Eq.{bytes_eq-Decides}
use Rattle.clap.specs.Walk.{Held, Row, Rule, Step, Text, Waiting, Walk, arg_by_long, idle, is_pending, settled, settled_rows, takes_several, walked, word_met}
use Rattle.clap.specs.Walk.{after_step, long_word, next_position, plain_word, positional_held, pushed, used}
use Rattle.clap.specs.Walk.{next as goes_on, trailing as goes_past, value as goes_to_place}
use Rattle.clap.specs.Walk.{option as waits}
use Rattle.clap.specs.Simple.{Shape}
use Rattle.clap.specs.Kinds.{Kinds, or_else}
use Rattle.clap.specs.Faults.{flags_fault, long_fault, positional_fault, settle_fault, step_fault, turn_fault, use_fault, walk_fault, word_fault}
use Rattle.clap.specs.declared.error.kind.ErrorKind.TheVariants.{UnknownArgument}
use Rattle.command_words.specs.Words.{Form, Given, given_by, name_in, names_one, option, option_gives, positional, then_more, value_gives, value_in, word_gives}
use Rattle.command_words.proofs.Hyphens.{IsPlain, IsHyphened, IsEnd, IsLong, View, first_letter, seen_plain, seen_hyphened, seen_end, seen_long, view_of}
use Rattle.command_words.proofs.Rules.{Judged, Reads, added, both_empty, first_empty, option_rule, place_rule, second_empty, some_kind, use_judged}
use Rattle.command_words.proofs.WalkStates.{and_then_some, as_outcome, Fine, flat, held_by, IsJudged, leaf, no_command, no_more, nothing, one, option_outcome, or_false}
use Rattle.command_words.proofs.WalkStates.{outcome, Pending, positional_outcome, refused_word, settle_judged, settles, Settles, Settling, settling, state, sticks, stray_outcome, taken_word, within}

module _ (title : Text) (c : List Rule) (ids options needed : List Text) (r : Reads c ids options needed) where
  abbrev shape : Shape
  shape = leaf title c

  -- no word is left
  no_words : (rows : List Row) (p : Pending) (waiting : Waiting) (k : ℕ) (trailing : Bool) → Fine c p → IsJudged shape (state rows p waiting k trailing) [] (flat rows p)
  unfolding walk_fault
  no_words rows p waiting k trailing fine = settle_judged c rows p fine

  place_fault : (k : ℕ) (id : Text) (rows : List Row) (p : Pending) → positional_fault c false (place_rule (suc k) id) (held_by rows p) ≡ settle_fault c false (held_by rows p)
  place_fault k id rows p = ap (λ (b : Bool). cond b [] (settle_fault c false (held_by rows p))) (and_right (is_pending (place_rule (suc k) id) p) (takes_several (place_rule (suc k) id)) refl)

  place_held : (k : ℕ) (id word : Text) (rows : List Row) (p : Pending) → positional_held c (place_rule (suc k) id) word (held_by rows p) ≡ held_by (settled_rows c p rows) (Some (id, word ∷ []))
  place_held k id word rows p = ap (λ (b : Bool). pushed id word (cond b (held_by rows p) (settled c (held_by rows p))))
      (and_right (is_pending (place_rule (suc k) id) p) (takes_several (place_rule (suc k) id)) refl)

  next_place : (k : ℕ) (id : Text) → k < length ids → next_position (place_rule (suc k) id) (suc k) ≡ suc (suc k)
  next_place k id below = let few = r.few in omega arith

  -- a word that goes to a place
  value_stray : (k : ℕ) (rows : List Row) (p : Pending) → slice_get ids k ≡ None → step_fault shape (suc k) (held_by rows p) goes_to_place ≡ [] → ⊥
  value_stray k rows p e = rw (r.at_place k, e) (λ f. some_kind _ _ f)

  value_fault : (k : ℕ) (id : Text) (rows : List Row) (p : Pending) → slice_get ids k ≡ Some id → step_fault shape (suc k) (held_by rows p) goes_to_place ≡ settle_fault c false (held_by rows p)
  value_fault k id rows p e = rw (r.at_place k, e) (place_fault k id rows p)

  value_placed : (k : ℕ) (id word : Text) (rows : List Row) (p : Pending) (waiting : Waiting) (trailing : Bool) → slice_get ids k ≡ Some id
      → after_step c word (state rows p waiting k trailing) (held_by rows p) goes_to_place ≡ state (settled_rows c p rows) (Some (id, word ∷ [])) idle (suc k) trailing
  value_placed k id word rows p waiting trailing e =
      rw (r.at_place k, e) (λ i. record {
        held = place_held k id word rows p i;
        waiting = idle;
        position = next_place k id (within ids k id e) i;
        is_trailing = or_false trailing i;
        stopped = None;
      })

  -- what a word comes to, by its own fault and the step that it is
  turn_of : (w : Walk) (word : Text) (fault : Kinds) (met : Held × Step) → w.stopped ≡ None → word_fault shape [] w.is_trailing w.waiting word w.held ≡ fault
      → word_met c [] w.is_trailing w.waiting w.position word w.held ≡ met
      → turn_fault shape [] w word ≡ or_else fault (step_fault shape w.position met.0 met.1)
  turn_of w word fault met goes e f =
      ap (λ (o : Option (Text × List Text)). cond (is_some o) [] (or_else (word_fault shape [] w.is_trailing w.waiting word w.held)
      (step_fault shape w.position (word_met c [] w.is_trailing w.waiting w.position word w.held).0 (word_met c [] w.is_trailing w.waiting w.position word w.held).1))) goes
      ∙ ap₂ (λ (kinds : Kinds) (m : Held × Step). or_else kinds (step_fault shape w.position m.0 m.1)) e f

  walk_of : (rows : List Row) (p : Pending) (waiting : Waiting) (k : ℕ) (trailing : Bool) (word : Text) (met : Held × Step)
      → word_met c [] trailing waiting (suc k) word (held_by rows p) ≡ met
      → walked c [] (state rows p waiting k trailing) word ≡ after_step c word (state rows p waiting k trailing) met.0 met.1
  unfolding walked
  walk_of rows p waiting k trailing word met e = ap (λ (m : Held × Step). after_step c word (state rows p waiting k trailing) m.0 m.1) e

  -- a word whose own fault stands
  word_refused : (rows : List Row) (p : Pending) (waiting : Waiting) (k : ℕ) (word : Text) (rest : List Text) (fault : Kinds)
      → word_fault shape [] false waiting word (held_by rows p) ≡ fault → (fault ≡ [] → ⊥)
      → IsJudged shape (state rows p waiting k false) (word ∷ rest) None
  word_refused rows p waiting k word rest fault e some =
      refused_word shape (state rows p waiting k false) word rest
      (λ none. some (first_empty _ _ (sym (turn_of (state rows p waiting k false) word fault (word_met c [] false waiting (suc k) word (held_by rows p)) refl e refl) ∙ none)))

  -- a word that is a step of its own, and has the fault of the step's
  word_taken : (rows : List Row) (p : Pending) (waiting : Waiting) (k : ℕ) (trailing : Bool) (word : Text) (rest : List Text) (met : Held × Step) (next : Walk) (o : Option (List Row))
      → word_fault shape [] trailing waiting word (held_by rows p) ≡ [] → word_met c [] trailing waiting (suc k) word (held_by rows p) ≡ met
      → step_fault shape (suc k) met.0 met.1 ≡ [] → after_step c word (state rows p waiting k trailing) met.0 met.1 ≡ next
      → IsJudged shape next rest o → IsJudged shape (state rows p waiting k trailing) (word ∷ rest) o
  word_taken rows p waiting k trailing word rest met next o e f g goes h =
      taken_word shape (state rows p waiting k trailing) next word rest o (turn_of (state rows p waiting k trailing) word [] met refl e f ∙ g)
      (walk_of rows p waiting k trailing word met f ∙ goes) h

  -- a word that goes to a place, or to none
  to_place : (rows : List Row) (p : Pending) (waiting : Waiting) (k : ℕ) (trailing : Bool) (word : Text) (rest : List Text) (given : Option (List Given)) → Fine c p
      → word_fault shape [] trailing waiting word (held_by rows p) ≡ [] → word_met c [] trailing waiting (suc k) word (held_by rows p) ≡ (held_by rows p, goes_to_place)
      → ((all : List Row) (id : Text) → slice_get ids k ≡ Some id
      → IsJudged shape (state all (Some (id, word ∷ [])) idle (suc k) trailing) rest (option_and_then (outcome ids (suc k) given) (added id word all)))
      → IsJudged shape (state rows p waiting k trailing) (word ∷ rest) (option_and_then (outcome ids k (then_more (positional word) given)) (flat rows p))
  to_place rows p waiting k trailing word rest given fine e f later = places (slice_get ids k) refl
    where
      stray : slice_get ids k ≡ None → option_and_then (outcome ids k (then_more (positional word) given)) (flat rows p) ≡ None
      stray none = go (flat rows p)
        where
          go : (o : Option (List Row)) → option_and_then (outcome ids k (then_more (positional word) given)) o ≡ None
          go None = refl
          go (Some all) = stray_outcome ids k word given all none

      settled_at : (id : Text) → slice_get ids k ≡ Some id → Settling c rows p
          → IsJudged shape (state rows p waiting k trailing) (word ∷ rest) (option_and_then (outcome ids k (then_more (positional word) given)) (flat rows p))
      settled_at id at (sticks s) =
          as_outcome shape (state rows p waiting k trailing) (word ∷ rest) _ None (ap (option_and_then (outcome ids k (then_more (positional word) given))) s.flat_is)
          (refused_word shape (state rows p waiting k trailing) word rest
          (λ none. s.refuses (sym (value_fault k id rows p at) ∙ (sym (turn_of (state rows p waiting k trailing) word [] (held_by rows p, goes_to_place) refl e f) ∙ none))))
      settled_at id at (settles s) =
          as_outcome shape (state rows p waiting k trailing) (word ∷ rest) _ _
          (ap (option_and_then (outcome ids k (then_more (positional word) given))) s.flat_is ∙ positional_outcome ids k id word given s.all at)
          (word_taken rows p waiting k trailing word rest (held_by rows p, goes_to_place) (state s.all (Some (id, word ∷ [])) idle (suc k) trailing) _ e f
          (value_fault k id rows p at ∙ s.passes)
          (value_placed k id word rows p waiting trailing at ∙ ap (λ (all : List Row). state all (Some (id, word ∷ [])) idle (suc k) trailing) s.rows_are)
          (later s.all id at))

      places : (o : Option Text) → slice_get ids k ≡ o
          → IsJudged shape (state rows p waiting k trailing) (word ∷ rest) (option_and_then (outcome ids k (then_more (positional word) given)) (flat rows p))
      places None none =
          as_outcome shape (state rows p waiting k trailing) (word ∷ rest) _ None (stray none)
          (refused_word shape (state rows p waiting k trailing) word rest
          (λ passes. value_stray k rows p none (sym (turn_of (state rows p waiting k trailing) word [] (held_by rows p, goes_to_place) refl e f) ∙ passes)))
      places (Some id) at = settled_at id at (settling c rows p fine)

  place_fine : (k : ℕ) (id word : Text) → slice_get ids k ≡ Some id → Fine c (Some (id, word ∷ []))
  place_fine k id word at = one None (Some (suc k)) true id word (r.of_place k id at)

  option_fine : (name word : Text) → names_one options name ≡ true → Fine c (Some (name, word ∷ []))
  option_fine name word known = one (Some name) None (names_one needed name) name word (r.of_option name known)

  -- after `--`
  trailing_law : (words : List Text) (rows : List Row) (p : Pending) (waiting : Waiting) (k : ℕ) → Fine c p
      → IsJudged shape (state rows p waiting k true) words (option_and_then (outcome ids k (Some (map positional words))) (flat rows p))
  trailing_law [] rows p waiting k fine =
      as_outcome shape (state rows p waiting k true) [] _ _ (and_then_some (flat rows p)) (no_words rows p waiting k true fine)
  trailing_law (word ∷ rest) rows p waiting k fine =
      to_place rows p waiting k true word rest (Some (map positional rest)) fine refl refl
      (λ all id at. trailing_law rest all (Some (id, word ∷ [])) idle (suc k) (place_fine k id word at))

  -- ---- the forms of a word

  plain_fault : (waiting : Waiting) (word : Text) (h : Held) → IsPlain word → word_fault shape [] false waiting word h ≡ []
  plain_fault waiting word h v = rw (no_command waiting word, v.single, v.no_long, v.no_short) refl

  plain_met : (waiting : Waiting) (k : ℕ) (word : Text) (h : Held) → IsPlain word → word_met c [] false waiting (suc k) word h ≡ plain_word c waiting word h
  plain_met waiting k word h v = rw (no_command waiting word, v.single, v.no_long, v.no_short) refl

  hyphened_fault : (waiting : Waiting) (word : Text) (rows : List Row) (p : Pending) → IsHyphened word → is_utf8 word ≡ true
      → word_fault shape [] false waiting word (held_by rows p) ≡ [] → ⊥
  unfolding flags_fault
  hyphened_fault waiting word rows p v text =
      let letter = first_letter v.first v.rest (subst (λ (t : Text). is_utf8 t ≡ true) v.is text) in
      rw (no_command waiting word, v.single, v.no_long, v.letters, letter.1, r.by_letter letter.0) (λ none. some_kind _ _ none)

  end_fault : (waiting : Waiting) (word : Text) (h : Held) → IsEnd word → word_fault shape [] false waiting word h ≡ []
  end_fault waiting word h v = rw (no_command waiting word, v.twice) refl

  end_met : (waiting : Waiting) (k : ℕ) (word : Text) (h : Held) → IsEnd word → word_met c [] false waiting (suc k) word h ≡ (h, goes_past (suc k))
  end_met waiting k word h v = rw (no_command waiting word, v.twice) refl

  long_fault_is : (waiting : Waiting) (word : Text) (h : Held) (v : IsLong word)
      → word_fault shape [] false waiting word h ≡ long_fault c false (arg_by_long c (name_in v.text)) (value_in v.text) h
  long_fault_is waiting word h v = rw (no_command waiting word, v.single, v.parts) refl

  long_met_is : (waiting : Waiting) (k : ℕ) (word : Text) (h : Held) (v : IsLong word)
      → word_met c [] false waiting (suc k) word h ≡ long_word c waiting word (name_in v.text) (value_in v.text) h
  long_met_is waiting k word h v = rw (no_command waiting word, v.single, v.parts) refl

  -- the rule of the option of this name
  abbrev own_rule : Text → Rule
  own_rule name = option_rule (names_one needed name) name

  by_name_known : (name : Text) → names_one options name ≡ true → arg_by_long c name ≡ Some (own_rule name)
  by_name_known name known = r.by_name name ∙ rw known refl

  by_name_unknown : (name : Text) → names_one options name ≡ false → arg_by_long c name ≡ None
  by_name_unknown name unknown = r.by_name name ∙ rw unknown refl

  -- an option whose value stands beside it
  beside_law : (rows : List Row) (p : Pending) (k : ℕ) (word value : Text) (rest : List Text) (v : IsLong word) (given : Option (List Given)) → Fine c p
      → names_one options (name_in v.text) ≡ true → value_in v.text ≡ Some value
      → ((all : List Row) → IsJudged shape (state all None idle k false) rest (outcome ids k given all))
      → IsJudged shape (state rows p idle k false) (word ∷ rest) (option_and_then (outcome ids k (then_more (option (name_in v.text) value) given)) (flat rows p))
  beside_law rows p k word value rest v given fine known has later = at (settling c rows p fine)
    where
      fault : word_fault shape [] false idle word (held_by rows p)
          ≡ or_else (settle_fault c false (held_by rows p)) (use_fault false (own_rule (name_in v.text)) (value ∷ []) (settled_rows c p rows))
      fault = long_fault_is idle word (held_by rows p) v ∙ rw (by_name_known (name_in v.text) known, has) refl

      met : word_met c [] false idle (suc k) word (held_by rows p)
          ≡ (held_by (used (own_rule (name_in v.text)) (value ∷ []) (settled_rows c p rows)) None, goes_on idle)
      met = long_met_is idle k word (held_by rows p) v ∙ rw (by_name_known (name_in v.text) known, has) refl

      used_at : (s : Settles c rows p) (o : Option (List Row)) → added (name_in v.text) value s.all ≡ o
          → Judged o (use_fault false (own_rule (name_in v.text)) (value ∷ []) s.all) (used (own_rule (name_in v.text)) (value ∷ []) s.all)
          → IsJudged shape (state rows p idle k false) (word ∷ rest) (option_and_then (outcome ids k given) o)
      used_at s None e h =
          word_refused rows p idle k word rest _ fault
          (λ none. h (subst (λ (xs : List Row). use_fault false (own_rule (name_in v.text)) (value ∷ []) xs ≡ []) s.rows_are (second_empty _ _ none)))
      used_at s (Some all) e h =
          word_taken rows p idle k false word rest (held_by (used (own_rule (name_in v.text)) (value ∷ []) (settled_rows c p rows)) None, goes_on idle)
          (state all None idle k false) (outcome ids k given all)
          (fault ∙ both_empty _ _ s.passes (subst (λ (xs : List Row). use_fault false (own_rule (name_in v.text)) (value ∷ []) xs ≡ []) (sym s.rows_are) h.0))
          met refl
          (ap (λ (xs : List Row). state xs None idle k false) (ap (used (own_rule (name_in v.text)) (value ∷ [])) s.rows_are ∙ h.1))
          (later all)

      at : Settling c rows p → IsJudged shape (state rows p idle k false) (word ∷ rest) (option_and_then (outcome ids k (then_more (option (name_in v.text) value) given)) (flat rows p))
      at (sticks s) =
          as_outcome shape (state rows p idle k false) (word ∷ rest) _ None (ap (option_and_then (outcome ids k (then_more (option (name_in v.text) value) given))) s.flat_is)
          (word_refused rows p idle k word rest _ fault (λ none. s.refuses (first_empty _ _ none)))
      at (settles s) =
          as_outcome shape (state rows p idle k false) (word ∷ rest) _ _
          (ap (option_and_then (outcome ids k (then_more (option (name_in v.text) value) given))) s.flat_is ∙ option_outcome ids k (name_in v.text) value given s.all)
          (used_at s (added (name_in v.text) value s.all) refl (use_judged (Some (name_in v.text)) None false (name_in v.text) value s.all))

  -- an option whose value is the next word
  apart_law : (rows : List Row) (p : Pending) (k : ℕ) (word : Text) (rest : List Text) (v : IsLong word) (given : Option (List Given)) → Fine c p
      → names_one options (name_in v.text) ≡ true → value_in v.text ≡ None
      → ((all : List Row) → IsJudged shape (state all (Some (name_in v.text, [])) (waits (name_in v.text)) k false) rest (outcome ids k given all))
      → IsJudged shape (state rows p idle k false) (word ∷ rest) (option_and_then (outcome ids k given) (flat rows p))
  apart_law rows p k word rest v given fine known has later = at (settling c rows p fine)
    where
      fault : word_fault shape [] false idle word (held_by rows p) ≡ settle_fault c false (held_by rows p)
      fault = long_fault_is idle word (held_by rows p) v ∙ rw (by_name_known (name_in v.text) known, has) refl

      met : word_met c [] false idle (suc k) word (held_by rows p)
          ≡ (held_by (settled_rows c p rows) (Some (name_in v.text, [])), goes_on (waits (name_in v.text)))
      met = long_met_is idle k word (held_by rows p) v ∙ rw (by_name_known (name_in v.text) known, has) refl

      at : Settling c rows p → IsJudged shape (state rows p idle k false) (word ∷ rest) (option_and_then (outcome ids k given) (flat rows p))
      at (sticks s) =
          as_outcome shape (state rows p idle k false) (word ∷ rest) _ None (ap (option_and_then (outcome ids k given)) s.flat_is)
          (word_refused rows p idle k word rest _ fault s.refuses)
      at (settles s) =
          as_outcome shape (state rows p idle k false) (word ∷ rest) _ _ (ap (option_and_then (outcome ids k given)) s.flat_is)
          (word_taken rows p idle k false word rest (held_by (settled_rows c p rows) (Some (name_in v.text, [])), goes_on (waits (name_in v.text)))
          (state s.all (Some (name_in v.text, [])) (waits (name_in v.text)) k false) (outcome ids k given s.all)
          (fault ∙ s.passes) met refl
          (ap (λ (xs : List Row). state xs (Some (name_in v.text, [])) (waits (name_in v.text)) k false) s.rows_are)
          (later s.all))

  unknown_law : (rows : List Row) (p : Pending) (waiting : Waiting) (k : ℕ) (word : Text) (rest : List Text) (v : IsLong word)
      → names_one options (name_in v.text) ≡ false → IsJudged shape (state rows p waiting k false) (word ∷ rest) None
  unknown_law rows p waiting k word rest v unknown =
      word_refused rows p waiting k word rest (UnknownArgument ∷ []) (long_fault_is waiting word (held_by rows p) v ∙ rw (by_name_unknown (name_in v.text) unknown) refl)
      (λ none. some_kind UnknownArgument [] none)

  -- ---- where an option waits for its value

  open_fault : (rows : List Row) (name : Text) → names_one options name ≡ true → settle_fault c false (held_by rows (Some (name, []))) ≡ [] → ⊥
  open_fault rows name known = rw (r.of_option name known) (λ none. some_kind _ _ none)

  open_trailing : (rows : List Row) (name : Text) (waiting : Waiting) (k : ℕ) (words : List Text) → names_one options name ≡ true
      → IsJudged shape (state rows (Some (name, [])) waiting k true) words None
  unfolding walk_fault
  open_trailing rows name waiting k [] known = open_fault rows name known
  open_trailing rows name waiting k (word ∷ rest) known = go (slice_get ids k) refl
    where
      turn : turn_fault shape [] (state rows (Some (name, [])) waiting k true) word ≡ step_fault shape (suc k) (held_by rows (Some (name, []))) goes_to_place
      turn = turn_of (state rows (Some (name, [])) waiting k true) word [] (held_by rows (Some (name, [])), goes_to_place) refl refl refl

      go : (o : Option Text) → slice_get ids k ≡ o → IsJudged shape (state rows (Some (name, [])) waiting k true) (word ∷ rest) None
      go None none = refused_word shape (state rows (Some (name, [])) waiting k true) word rest (λ e. value_stray k rows (Some (name, [])) none (sym turn ∙ e))
      go (Some id) at =
          refused_word shape (state rows (Some (name, [])) waiting k true) word rest
          (λ e. open_fault rows name known (sym (value_fault k id rows (Some (name, [])) at) ∙ (sym turn ∙ e)))

  value_met : (rows : List Row) (name : Text) (k : ℕ) (word : Text) → names_one options name ≡ true
      → plain_word c (waits name) word (held_by rows (Some (name, []))) ≡ (held_by rows (Some (name, word ∷ [])), goes_on idle)
  value_met rows name k word known =
      let same : bytes_eq name name ≡ true = (bytes_eq-Decides name name).1 refl in
      rw (r.of_option name known, same) refl

  -- ---- all words

  abbrev IdleLaw : List Text → Type 0
  IdleLaw words = (rows : List Row) (p : Pending) (k : ℕ) → Fine c p
      → IsJudged shape (state rows p idle k false) words (option_and_then (outcome ids k (given_by options words None)) (flat rows p))

  abbrev WaitingLaw : List Text → Type 0
  WaitingLaw words = (rows : List Row) (name : Text) (k : ℕ) → names_one options name ≡ true
      → IsJudged shape (state rows (Some (name, [])) (waits name) k false) words (outcome ids k (given_by options words (Some name)) rows)

  idle_word : (word : Text) (rest : List Text) → is_utf8 word ≡ true → View word → IdleLaw rest → WaitingLaw rest → IdleLaw (word ∷ rest)
  idle_word word rest text (seen_plain v) idle_rest waiting_rest rows p k fine =
      as_outcome shape (state rows p idle k false) (word ∷ rest) _ _
      (ap (λ (form : Form). option_and_then (outcome ids k (word_gives options word form rest (given_by options rest))) (flat rows p)) v.form)
      (to_place rows p idle k false word rest (given_by options rest None) fine (plain_fault idle word (held_by rows p) v) (plain_met idle k word (held_by rows p) v)
      (λ all id at. idle_rest all (Some (id, word ∷ [])) (suc k) (place_fine k id word at)))
  idle_word word rest text (seen_hyphened v) idle_rest waiting_rest rows p k fine =
      as_outcome shape (state rows p idle k false) (word ∷ rest) _ None
      (ap (λ (form : Form). option_and_then (outcome ids k (word_gives options word form rest (given_by options rest))) (flat rows p)) v.form ∙ no_more (flat rows p))
      (word_refused rows p idle k word rest _ refl (hyphened_fault idle word rows p v text))
  idle_word word rest text (seen_end v) idle_rest waiting_rest rows p k fine =
      as_outcome shape (state rows p idle k false) (word ∷ rest) _ _
      (ap (λ (form : Form). option_and_then (outcome ids k (word_gives options word form rest (given_by options rest))) (flat rows p)) v.form)
      (word_taken rows p idle k false word rest (held_by rows p, goes_past (suc k)) (state rows p idle k true) _
      (end_fault idle word (held_by rows p) v) (end_met idle k word (held_by rows p) v) refl refl
      (trailing_law rest rows p idle k fine))
  idle_word word rest text (seen_long v) idle_rest waiting_rest rows p k fine =
      as_outcome shape (state rows p idle k false) (word ∷ rest) _ _
      (ap (λ (form : Form). option_and_then (outcome ids k (word_gives options word form rest (given_by options rest))) (flat rows p)) v.form)
      (named (names_one options (name_in v.text)) refl)
    where
      given : Bool → Option Text → Option (List Given)
      given known beside = option_gives known (name_in v.text) beside (given_by options rest)

      valued : names_one options (name_in v.text) ≡ true → (beside : Option Text) → value_in v.text ≡ beside
          → IsJudged shape (state rows p idle k false) (word ∷ rest) (option_and_then (outcome ids k (option_gives true (name_in v.text) beside (given_by options rest))) (flat rows p))
      valued known (Some value) has = beside_law rows p k word value rest v (given_by options rest None) fine known has (λ all. idle_rest all None k nothing)
      valued known None has = apart_law rows p k word rest v (given_by options rest (Some (name_in v.text))) fine known has (λ all. waiting_rest all (name_in v.text) k known)

      named : (known : Bool) → names_one options (name_in v.text) ≡ known
          → IsJudged shape (state rows p idle k false) (word ∷ rest)
          (option_and_then (outcome ids k (option_gives (names_one options (name_in v.text)) (name_in v.text) (value_in v.text) (given_by options rest))) (flat rows p))
      named true known =
          as_outcome shape (state rows p idle k false) (word ∷ rest) _ _
          (ap (λ (b : Bool). option_and_then (outcome ids k (option_gives b (name_in v.text) (value_in v.text) (given_by options rest))) (flat rows p)) known)
          (valued known (value_in v.text) refl)
      named false unknown =
          as_outcome shape (state rows p idle k false) (word ∷ rest) _ None
          (ap (λ (b : Bool). option_and_then (outcome ids k (option_gives b (name_in v.text) (value_in v.text) (given_by options rest))) (flat rows p)) unknown
          ∙ unknown_gives (value_in v.text))
          (unknown_law rows p idle k word rest v unknown)
        where
          unknown_gives : (beside : Option Text) → option_and_then (outcome ids k (option_gives false (name_in v.text) beside (given_by options rest))) (flat rows p) ≡ None
          unknown_gives None = no_more (flat rows p)
          unknown_gives (Some value) = no_more (flat rows p)

  waiting_word : (word : Text) (rest : List Text) → is_utf8 word ≡ true → View word → IdleLaw rest → WaitingLaw (word ∷ rest)
  waiting_word word rest text (seen_plain v) idle_rest rows name k known =
      as_outcome shape (state rows (Some (name, [])) (waits name) k false) (word ∷ rest) _ _
      (ap (λ (form : Form). outcome ids k (value_gives name word form (given_by options rest)) rows) v.form
      ∙ option_outcome ids k name word (given_by options rest None) rows)
      (word_taken rows (Some (name, [])) (waits name) k false word rest (held_by rows (Some (name, word ∷ [])), goes_on idle) (state rows (Some (name, word ∷ [])) idle k false) _
      (plain_fault (waits name) word (held_by rows (Some (name, []))) v) (plain_met (waits name) k word (held_by rows (Some (name, []))) v ∙ value_met rows name k word known) refl refl
      (idle_rest rows (Some (name, word ∷ [])) k (option_fine name word known)))
  waiting_word word rest text (seen_hyphened v) idle_rest rows name k known =
      as_outcome shape (state rows (Some (name, [])) (waits name) k false) (word ∷ rest) _ None
      (ap (λ (form : Form). outcome ids k (value_gives name word form (given_by options rest)) rows) v.form)
      (word_refused rows (Some (name, [])) (waits name) k word rest _ refl (hyphened_fault (waits name) word rows (Some (name, [])) v text))
  waiting_word word rest text (seen_end v) idle_rest rows name k known =
      as_outcome shape (state rows (Some (name, [])) (waits name) k false) (word ∷ rest) _ None
      (ap (λ (form : Form). outcome ids k (value_gives name word form (given_by options rest)) rows) v.form)
      (word_taken rows (Some (name, [])) (waits name) k false word rest (held_by rows (Some (name, [])), goes_past (suc k)) (state rows (Some (name, [])) (waits name) k true) None
      (end_fault (waits name) word (held_by rows (Some (name, []))) v) (end_met (waits name) k word (held_by rows (Some (name, []))) v) refl refl
      (open_trailing rows name (waits name) k rest known))
  waiting_word word rest text (seen_long v) idle_rest rows name k known =
      as_outcome shape (state rows (Some (name, [])) (waits name) k false) (word ∷ rest) _ None
      (ap (λ (form : Form). outcome ids k (value_gives name word form (given_by options rest)) rows) v.form)
      (named (names_one options (name_in v.text)) refl)
    where
      valued : names_one options (name_in v.text) ≡ true → (beside : Option Text) → value_in v.text ≡ beside
          → word_fault shape [] false (waits name) word (held_by rows (Some (name, []))) ≡ [] → ⊥
      valued is (Some value) has =
          let fault : word_fault shape [] false (waits name) word (held_by rows (Some (name, []))) ≡ or_else (settle_fault c false (held_by rows (Some (name, []))))
          (use_fault false (own_rule (name_in v.text)) (value ∷ []) (settled_rows c (Some (name, [])) rows)) =
          long_fault_is (waits name) word (held_by rows (Some (name, []))) v ∙ rw (by_name_known (name_in v.text) is, has) refl in
          λ none. open_fault rows name known (first_empty _ _ (sym fault ∙ none))
      valued is None has =
          let fault : word_fault shape [] false (waits name) word (held_by rows (Some (name, []))) ≡ settle_fault c false (held_by rows (Some (name, []))) =
          long_fault_is (waits name) word (held_by rows (Some (name, []))) v ∙ rw (by_name_known (name_in v.text) is, has) refl in
          λ none. open_fault rows name known (sym fault ∙ none)

      named : (b : Bool) → names_one options (name_in v.text) ≡ b → IsJudged shape (state rows (Some (name, [])) (waits name) k false) (word ∷ rest) None
      named true is = word_refused rows (Some (name, [])) (waits name) k word rest _ refl (valued is (value_in v.text) refl)
      named false isnt = unknown_law rows (Some (name, [])) (waits name) k word rest v isnt

  pub record Laws (words : List Text) : Type 0 where
    pub from_idle : IdleLaw words
    pub from_waiting : WaitingLaw words

  pub laws : (words : List Text) → list_all is_utf8 words ≡ true → Laws words
  unfolding walk_fault
  laws [] texts = record {
    from_idle = λ rows p k fine. as_outcome shape (state rows p idle k false) [] _ _ (and_then_some (flat rows p)) (no_words rows p idle k false fine);
    from_waiting = λ rows name k known. open_fault rows name known;
  }
  laws (word ∷ rest) texts =
      let parts = and_parts (is_utf8 word) (list_all is_utf8 rest) texts in
      let later = laws rest parts.1 in
      record {
        from_idle = idle_word word rest parts.0 (view_of word) later.from_idle later.from_waiting;
        from_waiting = waiting_word word rest parts.0 (view_of word) later.from_idle;
      }
