-- The numbers that commas join, read one word after another.
use Rattle.std.proofs.Common.{◌≡◌, ℕ, suc, ◌+◌, ◌<◌, ◌==◌, Bool, true, false, not, List, [], ◌∷◌, ◌++◌, length, refl, sym, ◌∙◌, ap, subst, arith, lt-ltb, append_assoc}
use Rattle.std.proofs.lemmas.Bool.{ltb-true}
use Rattle.std.proofs.lemmas.List.{length-drop}
use Rattle.std.proofs.lemmas.List.Splits.{slice_split_first, slice_split-cons_no}
use Rattle.std.specs.Prelude.{Option, Some, None, option_map, option_and_then, nat_lt, cond}
use Rattle.std.specs.Option.{option_map_or}
use Rattle.std.specs.List.{slice_split, position_or_len, before_first, after_first, onto_first}
use Rattle.arc_base.specs.Cuts.{cut_at}
use Rattle.command_words.specs.Values.{link_number, link_numbers, all_numbers}

-- a comma ends a word
abbrev comma : ℕ → Bool
comma b = b == 44

abbrev has_comma : List ℕ → Bool
has_comma text = nat_lt (position_or_len comma text) (length text)

-- the words that commas join
abbrev pub words_of : List ℕ → List (List ℕ)
words_of text = slice_split comma text

cut_there : (text : List ℕ) → has_comma text ≡ true → cut_at 44 text ≡ Some (before_first comma text, after_first comma text)
cut_there text h = rw h refl

cut_nowhere : (text : List ℕ) → has_comma text ≡ false → cut_at 44 text ≡ None
cut_nowhere text h = rw h refl

none_some : {A : Type 0} (o : Option A) (x : A) → o ≡ None → o ≡ Some x → ⊥
none_some o x e f = absurd (cc)

first_parts : (a b c d : List ℕ) (o : Option (List ℕ × List ℕ)) → o ≡ Some (a, b) → o ≡ Some (c, d) → a ≡ c
first_parts a b c d o e f = ap (λ (r : Option (List ℕ × List ℕ)). option_map_or (λ (p : List ℕ × List ℕ). p.0) r a) (sym e ∙ f)

second_parts : (a b c d : List ℕ) (o : Option (List ℕ × List ℕ)) → o ≡ Some (a, b) → o ≡ Some (c, d) → b ≡ d
second_parts a b c d o e f = ap (λ (r : Option (List ℕ × List ℕ)). option_map_or (λ (p : List ℕ × List ℕ). p.1) r b) (sym e ∙ f)

one_parts : (a b c d : List ℕ) (o : Option (List ℕ × List ℕ)) → o ≡ Some (a, b) → o ≡ Some (c, d) → (a ≡ c) × (b ≡ d)
one_parts a b c d o e f = (first_parts a b c d o e f, second_parts a b c d o e f)

-- a text with a comma is its first word and the rest
pub word_cut : (text word rest : List ℕ) → cut_at 44 text ≡ Some (word, rest) → words_of text ≡ word ∷ words_of rest
word_cut text word rest e = go (has_comma text) refl
  where
    go : (t : Bool) → has_comma text ≡ t → words_of text ≡ word ∷ words_of rest
    go true h =
        let parts = one_parts (before_first comma text) (after_first comma text) word rest (cut_at 44 text) (cut_there text h) e in
        slice_split_first comma text 0 (ltb-true _ _ h) ∙ ap (λ (w : List ℕ). w ∷ words_of (after_first comma text)) parts.0 ∙ ap (λ (r : List ℕ). word ∷ words_of r) parts.1
    go false h = absurd (none_some (cut_at 44 text) (word, rest) (cut_nowhere text h) e)

uncut : (text : List ℕ) → (position_or_len comma text < length text → ⊥) → words_of text ≡ text ∷ []
uncut [] none = refl
uncut (b ∷ bytes) none = go (comma b) refl (uncut bytes)
  where
    go : (t : Bool) → comma b ≡ t → ((position_or_len comma bytes < length bytes → ⊥) → words_of bytes ≡ bytes ∷ []) → words_of (b ∷ bytes) ≡ (b ∷ bytes) ∷ []
    go true h rest = absurd (none (subst (λ (t : Bool). cond (not t) (1 + position_or_len comma bytes) 0 < suc (length bytes)) (sym h) (omega arith)))
    go false h rest =
        let later : position_or_len comma bytes < length bytes → ⊥ =
        λ below. none (subst (λ (t : Bool). cond (not t) (1 + position_or_len comma bytes) 0 < suc (length bytes)) (sym h) (omega (arith, below))) in
        slice_split-cons_no comma b bytes h ∙ ap (onto_first b) (rest later)

-- a text without a comma is one word
pub whole_word : (text : List ℕ) → cut_at 44 text ≡ None → words_of text ≡ text ∷ []
whole_word text e = uncut text (λ below. none_some (cut_at 44 text) (before_first comma text, after_first comma text) e (cut_there text (lt-ltb _ _ below)))

-- the numbers of words that follow others
abbrev pub following : List ℕ → Option (List ℕ) → Option (List ℕ)
following numbers rest = option_map (λ more. numbers ++ more) rest

pub none_before : (o : Option (List ℕ)) → o ≡ following [] o
none_before None = refl
none_before (Some numbers) = refl

-- one more word has a number
pub number_more : (text word rest : List ℕ) (numbers : List ℕ) (number : ℕ) → words_of text ≡ word ∷ words_of rest → link_number word ≡ Some number →
    following numbers (link_numbers text) ≡ following (numbers ++ number ∷ []) (link_numbers rest)
number_more text word rest numbers number cut is = ap (λ (ws : List (List ℕ)). following numbers (all_numbers ws)) cut ∙ rw is (go (link_numbers rest))
  where
    go : (o : Option (List ℕ)) → following numbers (option_and_then (λ more. Some (number ∷ more)) o) ≡ following (numbers ++ number ∷ []) o
    go None = refl
    go (Some more) = ap Some (sym (append_assoc numbers (number ∷ []) more))

-- one has none
pub number_none : (text word : List ℕ) (words : List (List ℕ)) (numbers : List ℕ) → words_of text ≡ word ∷ words → link_number word ≡ None → following numbers (link_numbers text) ≡ None
number_none text word words numbers cut is = ap (λ (ws : List (List ℕ)). following numbers (all_numbers ws)) cut ∙ rw is refl

-- the last word has one
pub number_last : (text : List ℕ) (numbers : List ℕ) (number : ℕ) → words_of text ≡ text ∷ [] → link_number text ≡ Some number → following numbers (link_numbers text) ≡ Some (numbers ++ number ∷ [])
number_last text numbers number cut is = ap (λ (ws : List (List ℕ)). following numbers (all_numbers ws)) cut ∙ rw is refl

-- what follows a comma is shorter
pub rest_shorter : (text word rest : List ℕ) → cut_at 44 text ≡ Some (word, rest) → length rest < length text
rest_shorter text word rest e = go (has_comma text) refl
  where
    go : (t : Bool) → has_comma text ≡ t → length rest < length text
    go true h =
        let parts = one_parts (before_first comma text) (after_first comma text) word rest (cut_at 44 text) (cut_there text h) e in
        omega (arith, ap length parts.1, length-drop (position_or_len comma text + 1) text, ltb-true _ _ h)
    go false h = absurd (none_some (cut_at 44 text) (word, rest) (cut_nowhere text h) e)
