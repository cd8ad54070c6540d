-- What the walk over the words needs to know of a command's arguments, once `clap` has built them.
use Rattle.std.proofs.Common.{◌≡◌, ◌∙◌, ℕ, suc, ◌≤◌, ◌&&◌, ◌||◌, Bool, true, false, not, List, []}
use Rattle.std.proofs.Common.{◌∷◌, ◌++◌, append-nil, length, Option, Some, None, refl, ap, slice_get, if◌then◌else◌, option_map, fold}
use Rattle.std.specs.List.{list_any}
use Rattle.std.specs.Str.{bytes_eq}
use Rattle.clap.specs.Walk.{Row, Rule, Text, arg_by_id, arg_by_index, arg_by_long, arg_by_short, at_row, has_row, more_values, used, with_values, without, with_default}
use Rattle.clap.specs.Simple.{new_rule}
use Rattle.clap.specs.Takes.{is_given}
use Rattle.clap.specs.Kinds.{Kinds, or_else}
use Rattle.clap.specs.Faults.{defaults_fault, use_fault}
use Rattle.clap.specs.declared.builder.action.ArgAction.TheVariants.{Set}
use Rattle.clap.specs.declared.builder.value_parser.ValueParser.TheVariants as vp
use Rattle.clap.specs.declared.builder.value_parser.Reading.TheVariants as reading
use Rattle.clap.specs.declared.error.kind.ErrorKind.{ErrorKind}
use Rattle.clap.specs.declared.parser.matches.ValueSource.TheVariants.{CommandLine}
use Rattle.command_words.specs.Words.{names_one}

-- an argument that takes one text
abbrev pub one_text : Option Text → Option ℕ → Bool → Text → Rule
one_text name place required id = record (new_rule id) {
  long = name;
  index = place;
  action = Some Set;
  range = Some (record { start_inclusive = 1; end_inclusive = 1 });
  parser = Some vp.String;
  required = required;
}

abbrev pub place_rule : ℕ → Text → Rule
place_rule place id = one_text None (Some place) true id

abbrev pub option_rule : Bool → Text → Rule
option_rule required name = one_text (Some name) None required name

-- these rules are of positional words with these ids, in their order, and of options with these names, of which some are needed
pub record Reads (c : List Rule) (ids options needed : List Text) : Type 0 where
  pub few : length ids ≤ 1000
  pub at_place : (k : ℕ) → arg_by_index c (suc k) ≡ option_map (place_rule (suc k)) (slice_get ids k)
  pub by_name : (name : Text) → arg_by_long c name ≡ (if names_one options name then Some (option_rule (names_one needed name) name) else None)
  pub by_letter : (letter : ℕ) → arg_by_short c letter ≡ None
  pub of_place : (k : ℕ) (id : Text) → slice_get ids k ≡ Some id → arg_by_id c id ≡ Some (place_rule (suc k) id)
  pub of_option : (name : Text) → names_one options name ≡ true → arg_by_id c name ≡ Some (option_rule (names_one needed name) name)
  pub are_options : (k : ℕ) (name : Text) → slice_get needed k ≡ Some name → names_one options name ≡ true
  pub wanted : (rows : List Row) → list_any (λ a. a.required && not (is_given a.id rows)) c ≡ (list_any (λ id. not (is_given id rows)) needed || list_any (λ id. not (is_given id rows)) ids)
  pub no_default : (rows : List Row) → fold with_default rows c ≡ rows
  pub no_default_fault : (rows : List Row) → defaults_fault rows c ≡ []

-- ---- kinds

pub first_empty : (a b : Kinds) → or_else a b ≡ [] → a ≡ []
first_empty [] b e = refl
first_empty (k ∷ ks) b e = cc

pub second_empty : (a b : Kinds) → or_else a b ≡ [] → b ≡ []
second_empty [] b e = e
second_empty (k ∷ ks) b e = cc

pub both_empty : (a b : Kinds) → a ≡ [] → b ≡ [] → or_else a b ≡ []
both_empty a b e f = rw e f

pub some_kind : (k : ErrorKind) (ks : Kinds) → k ∷ ks ≡ [] → ⊥
some_kind k ks e = absurd (cc)

-- ---- rows

-- the row of an argument that the words give
abbrev pub row_of : Text → Text → Row
row_of id value = record {
  id = id;
  values = value ∷ [];
  count = None;
  source = Some CommandLine;
  reading = reading.AsWritten;
}

-- the rows with one more, where the argument has none yet
abbrev pub added : Text → Text → List Row → Option (List Row)
added id value rows = if has_row id rows then None else Some (rows ++ row_of id value ∷ [])

at_row_absent : (id : Text) (change : Row → List Row) (missing rows : List Row) → has_row id rows ≡ false → at_row id change missing rows ≡ rows ++ missing
at_row_absent id change missing [] h = refl
at_row_absent id change missing (r ∷ rs) h = go (bytes_eq r.id id) refl h (at_row_absent id change missing rs)
  where
    go : (t : Bool) → bytes_eq r.id id ≡ t → (t || has_row id rs) ≡ false → (has_row id rs ≡ false → at_row id change missing rs ≡ rs ++ missing)
        → at_row id change missing (r ∷ rs) ≡ (r ∷ rs) ++ missing
    go true e f later = absurd (cc)
    go false e f later = rw e (ap (λ (xs : List Row). r ∷ xs) (later f))

-- what is so far right, where kinds are those of a fault and rows those that are found
abbrev pub Judged : Option (List Row) → Kinds → List Row → Type 0
Judged None kinds rows = kinds ≡ [] → ⊥
Judged (Some wanted) kinds rows = (kinds ≡ []) × (rows ≡ wanted)

module _ (name : Option Text) (place : Option ℕ) (required : Bool) (id value : Text) where
  used_is : (rows : List Row) → has_row id rows ≡ false → used (one_text name place required id) (value ∷ []) rows ≡ rows ++ row_of id value ∷ []
  used_is rows h =
      let bare : without id rows ≡ rows = at_row_absent id (λ r. []) [] rows h ∙ append-nil rows in
      ap (λ (xs : List Row). with_values id reading.AsWritten CommandLine (value ∷ []) xs) bare
      ∙ at_row_absent id (more_values CommandLine (value ∷ [])) (row_of id value ∷ []) rows h

  -- one use of an argument
  pub use_judged : (rows : List Row) → Judged (added id value rows) (use_fault false (one_text name place required id) (value ∷ []) rows)
      (used (one_text name place required id) (value ∷ []) rows)
  use_judged rows = go (has_row id rows) refl
    where
      go : (t : Bool) → has_row id rows ≡ t → Judged (if has_row id rows then None else Some (rows ++ row_of id value ∷ []))
          (use_fault false (one_text name place required id) (value ∷ []) rows) (used (one_text name place required id) (value ∷ []) rows)
      go true e = rw e (λ f. some_kind _ _ f)
      go false e = rw e (refl, used_is rows e)
