-- A last word that ends with a carriage return is a word of a row that says nothing.
use Rattle.std.proofs.Common.{◌≡◌, ℕ, ◌+◌, ◌-◌, ◌^◌, ◌<◌, ◌==◌, ◌&&◌, ◌||◌, ◌⊎◌, inl, inr, not, Bool, true, false, cond}
use Rattle.std.proofs.Common.{Option, Some, None, List, [], ◌∷◌, ◌++◌, filter, refl, sym, ap, subst, ◌∙◌, arith, ⊎_elim, Result, Ok, Err}
use Rattle.std.specs.Prelude.{is_ok, find, bytes_eq, nat_lt, if◌then◌else◌}
use Rattle.std.specs.Option.{option_map_or, option_or}
use Rattle.std.specs.List.{list_all, list_any, slice_split, onto_first}
use Rattle.std.proofs.lemmas.Bool.{cases_Bool, and_parts, cond-true, cond-false, true≢false, false≢true}
use Rattle.std.proofs.lemmas.List.Splits.{slice_split-cons_yes, slice_split-cons_no}
use Rattle.std.proofs.lemmas.List.Elements.{filter-append}
use Rattle.std.proofs.lemmas.Slice.Eq.{bytes_eq-Decides}
use Rattle.std.proofs.lemmas.Option.{none-some, same_Some}
use Rattle.arc_base.specs.PrefixText.{number_of, address_of, address_text}
use Rattle.arc_base.proofs.NumberTexts.{number_of-none}
use Rattle.arc_base.proofs.AddressTexts.{address_of-some, address_text-dotted}
use Rattle.ios_lines.specs.Written.{is_plain}
use Rattle.std.specs.Int.{w32, from_be_bytes}
use Rattle.arc_base.specs.Words.{is_blank, is_filled, words}
use Rattle.ios_words.specs.declared.commands.Command.{Command}
use Rattle.ios_words.specs.declared.commands.Command.TheVariants as commands
use Rattle.ios_words.specs.declared.kinds.BlockKind.{BlockKind}
use Rattle.ios_words.specs.declared.kinds.BlockKind.TheVariants as kinds
use Rattle.ios_words.specs.declared.kinds.Flaw.{Flaw}
use Rattle.ios_words.specs.declared.kinds.Flaw.TheVariants.{Amiss}
use Rattle.ios_words.specs.declared.kinds.WordFault.{WordFault}
use Rattle.ios_words.specs.declared.kinds.WordFault.TheVariants.{BadWord}
use Rattle.ios_words.specs.declared.rows.Form.{Form}
use Rattle.ios_words.specs.declared.rows.Form.TheVariants as forms
use Rattle.ios_words.specs.declared.rows.Meaning.{Meaning}
use Rattle.ios_words.specs.declared.rows.Meaning.TheVariants as means
use Rattle.ios_words.specs.Commands.{ReadBy, completes}
use Rattle.ios_words.specs.Language.{rows, inert_in, read_in}
use Rattle.ios_words.specs.Readings.{State, read_parts, read, then_do, finish, finish_words, start, match_words, matches, after_word, fault_at}
use Rattle.ios_words.specs.Rows.{Piece, Word, Place, Anything, Rule}
use Rattle.ios_words.specs.Values.{Values, values_with, with_value, with_length, tested, class_prefix}
use Rattle.ios_words.specs.Meanings.{give}
use Rattle.ios_words.specs.Names.{is_face_name}
use Rattle.arc_base.specs.NameForms.{is_name}
use Rattle.ios_words.specs.Numbers.{number_in, ranged, mask_of_address, wildcard_of_address, area_of}
use Rattle.ios_words.specs.Returns.{ReturnsSayNothing, HeadsHaveNoReturn, heads_face_or_process}
use Rattle.ios_words.proofs.PlainWords.{name-plain, face-plain, decimal-plain, address-plain}

-- a word with a carriage return at its end
abbrev pub returned : List ℕ → List ℕ
returned v = v ++ 13 ∷ []

-- the words with one at their end that ends so, and without the carriage return
abbrev pub with_return : List (List ℕ) → List ℕ → List (List ℕ)
with_return front v = front ++ returned v ∷ []

abbrev pub without_return : List (List ℕ) → List ℕ → List (List ℕ)
without_return front v = front ++ filter is_filled (v ∷ [])

-- the words of a line with a carriage return at its end
pub record LastWord (line : List ℕ) : Type 0 where
  pub front : List (List ℕ)
  pub last : List ℕ
  pub with_it : words (line ++ 13 ∷ []) ≡ with_return front last
  pub without : words line ≡ without_return front last

record LastPart (line : List ℕ) : Type 0 where
  front : List (List ℕ)
  last : List ℕ
  with_it : slice_split is_blank (line ++ 13 ∷ []) ≡ front ++ returned last ∷ []
  without : slice_split is_blank line ≡ front ++ last ∷ []

last-part : (line : List ℕ) → LastPart line
last-part [] = record { front = []; last = []; with_it = refl; without = refl }
last-part (b ∷ line) = by (is_blank b) refl (last-part line)
  where
    onto : (front : List (List ℕ)) (last : List ℕ) → slice_split is_blank (line ++ 13 ∷ []) ≡ front ++ returned last ∷ [] →
        slice_split is_blank line ≡ front ++ last ∷ [] → is_blank b ≡ false → LastPart (b ∷ line)
    onto [] last one two fails = record {
      front = [];
      last = b ∷ last;
      with_it = slice_split-cons_no is_blank b (line ++ 13 ∷ []) fails ∙ ap (onto_first b) one;
      without = slice_split-cons_no is_blank b line fails ∙ ap (onto_first b) two;
    }
    onto (p ∷ front) last one two fails = record {
      front = (b ∷ p) ∷ front;
      last = last;
      with_it = slice_split-cons_no is_blank b (line ++ 13 ∷ []) fails ∙ ap (onto_first b) one;
      without = slice_split-cons_no is_blank b line fails ∙ ap (onto_first b) two;
    }

    by : (c : Bool) → is_blank b ≡ c → LastPart line → LastPart (b ∷ line)
    by true holds rest = record {
      front = [] ∷ rest.front;
      last = rest.last;
      with_it = slice_split-cons_yes is_blank b (line ++ 13 ∷ []) holds ∙ ap (λ ps. [] ∷ ps) rest.with_it;
      without = slice_split-cons_yes is_blank b line holds ∙ ap (λ ps. [] ∷ ps) rest.without;
    }
    by false fails rest = onto rest.front rest.last rest.with_it rest.without fails

filled-last : (v : List ℕ) → filter is_filled (returned v ∷ []) ≡ returned v ∷ []
filled-last [] = refl
filled-last (b ∷ v) = refl

pub last-word : (line : List ℕ) → LastWord line
last-word line =
    let p = last-part line in
    record {
      front = filter is_filled p.front;
      last = p.last;
      with_it = ap (filter is_filled) p.with_it ∙ filter-append is_filled p.front (returned p.last ∷ []) ∙ ap (λ ws. filter is_filled p.front ++ ws) (filled-last p.last);
      without = ap (filter is_filled) p.without ∙ filter-append is_filled p.front (p.last ∷ []);
    }

-- no word of a form ends so
no-mark : (v : List ℕ) → list_all (λ b. nat_lt 32 b) (returned v) ≡ false
no-mark [] = refl
no-mark (b ∷ v) = by (nat_lt 32 b) (no-mark v)
  where
    by : (c : Bool) → list_all (λ b. nat_lt 32 b) (returned v) ≡ false → (c && list_all (λ b. nat_lt 32 b) (returned v)) ≡ false
    by true is = is
    by false is = refl

not-plain : (v : List ℕ) → is_plain (returned v) ≡ true → ⊥
not-plain v plain = true≢false (sym (and_parts _ _ plain).1 ∙ no-mark v)

no-number : (v : List ℕ) → number_of (returned v) ≡ None
no-number v = number_of-none (returned v) (λ n small same. not-plain v (ap is_plain same ∙ decimal-plain n small))

-- four bytes make an address of 32 bits
four_bytes : (a b c d : ℕ) → (a < 256) × (b < 256) × (c < 256) × (d < 256) → from_be_bytes w32 (a ∷ b ∷ c ∷ d ∷ []) < 2 ^ 32
four_bytes a b c d fit = omega (arith, fit.0, fit.1, fit.2, fit.3)

address-below : (w : List ℕ) (a : ℕ) → address_of w ≡ Some a → a < 2 ^ 32
address-below w a e =
    let (octets, dotted, is) = address_of-some w a e in
    subst (λ (n : ℕ). n < 2 ^ 32) is (subst (λ (bytes : List ℕ). from_be_bytes w32 bytes < 2 ^ 32) (sym dotted.value) (four_bytes dotted.a dotted.b dotted.c dotted.d dotted.fit))

no-address : (v : List ℕ) → address_of (returned v) ≡ None
no-address v = by (address_of (returned v)) refl
  where
    by : (o : Option ℕ) → address_of (returned v) ≡ o → o ≡ None
    by None is = refl
    by (Some a) is =
        let (octets, dotted, value) = address_of-some (returned v) a is in
        absurd (not-plain v (ap is_plain (address_text-dotted (returned v) octets dotted ∙ ap address_text value) ∙ address-plain a (address-below (returned v) a is)))

no-name : (v : List ℕ) → is_name (returned v) ≡ false
no-name v = ⊎_elim (λ (holds : is_name (returned v) ≡ true). absurd (not-plain v (name-plain (returned v) holds))) (λ (fails : is_name (returned v) ≡ false). fails) (cases_Bool (is_name (returned v)))

no-face : (v : List ℕ) → is_face_name (returned v) ≡ false
no-face v = ⊎_elim (λ (holds : is_face_name (returned v) ≡ true). absurd (not-plain v (face-plain (returned v) holds))) (λ (fails : is_face_name (returned v) ≡ false). fails)
    (cases_Bool (is_face_name (returned v)))

-- which parts of rows have no such word
abbrev known_form : Form → Bool
known_form forms.Name = true
known_form forms.FaceName = true
known_form (forms.Number low high) = true
known_form forms.Address = true
known_form forms.Network = true
known_form (forms.Mask least) = true
known_form forms.Wildcard = true
known_form forms.Area = true
known_form _ = false

abbrev plain_piece : Piece → Bool
plain_piece (Word word) = not (list_any (λ b. b == 13) word)
plain_piece (Place form) = known_form form
plain_piece _ = false

-- the parts are such ones, and then any words
abbrev plain_before : List Piece → Bool
plain_before [] = false
plain_before (Anything ∷ []) = true
plain_before (piece ∷ pieces) = plain_piece piece && plain_before pieces

err-ok : {A E : Type 0} (e : E) (a : A) → Err e ≡ Ok a → ⊥
err-ok e a h = absurd cc

none-refuses : {A : Type 0} (set : A → Values) (o : Option A) (x : Values) → o ≡ None → with_value set o ≡ Ok x → ⊥
none-refuses set o x none h = err-ok Amiss x (ap (with_value set) (sym none) ∙ h)

form-refuses : (form : Form) (vals : Values) (v : List ℕ) (x : Values) → known_form form ≡ true → values_with form vals (returned v) ≡ Ok x → ⊥
form-refuses forms.Name vals v x known h = none-refuses (λ w. record vals { text = w }) (tested (is_name (returned v)) (returned v)) x (ap (λ b. tested b (returned v)) (no-name v)) h
form-refuses forms.FaceName vals v x known h = none-refuses (λ w. record vals { text = w }) (tested (is_face_name (returned v)) (returned v)) x (ap (λ b. tested b (returned v)) (no-face v)) h
form-refuses (forms.Number low high) vals v x known h = none-refuses (λ n. record vals { number = n }) (number_in low high (returned v)) x (ap (ranged low high) (no-number v)) h
form-refuses forms.Address vals v x known h = none-refuses (λ a. record vals { address = a }) (address_of (returned v)) x (no-address v) h
form-refuses forms.Network vals v x known h = none-refuses (λ p. record vals { to = p }) (class_prefix (address_of (returned v))) x (ap class_prefix (no-address v)) h
form-refuses (forms.Mask least) vals v x known h = err-ok Amiss x (ap (λ o. with_length vals (mask_of_address least o)) (sym (no-address v)) ∙ h)
form-refuses forms.Wildcard vals v x known h = err-ok Amiss x (ap (λ o. with_length vals (wildcard_of_address o)) (sym (no-address v)) ∙ h)
form-refuses forms.Area vals v x known h = none-refuses (λ a. record vals { area = a }) (area_of (returned v)) x
    ((let n = no-number v in let a = no-address v in λ i. option_or (ranged 0 (2 ^ 32 - 1) (n i)) (a i))) h
form-refuses _ vals v x known h = absurd (false≢true known)

abbrev words-of : Result State WordFault → List (List ℕ)
words-of (Ok r) = r.words
words-of (Err e) = []

same-state : (s t : State) (r : Result State WordFault) → r ≡ Ok s → r ≡ Ok t → s.words ≡ t.words
same-state s t r one two = sym (ap words-of one) ∙ ap words-of two

no-words : (front : List (List ℕ)) (v : List ℕ) → with_return front v ≡ [] → ⊥
no-words [] v h = absurd cc
no-words (f ∷ front) v h = absurd cc

abbrev at : ℕ → List (List ℕ) → Values → State
at taken ws vals = record { taken = taken; words = ws; values = vals }

any-return : (v : List ℕ) → list_any (λ b. b == 13) (returned v) ≡ true
any-return [] = refl
any-return (b ∷ v) = by (b == 13) (any-return v)
  where
    by : (c : Bool) → list_any (λ b. b == 13) (returned v) ≡ true → (c || list_any (λ b. b == 13) (returned v)) ≡ true
    by true is = refl
    by false is = is

-- rows without any words at their end refuse them
refuses : (pieces : List Piece) → list_all plain_piece pieces ≡ true → (front : List (List ℕ)) (v : List ℕ) (taken : ℕ) (vals : Values) (t : State) →
    read_parts pieces (at taken (with_return front v) vals) ≡ Ok t → t.words ≡ [] → ⊥
refuses [] plain front v taken vals t h none = no-words front v (same-state (at taken (with_return front v) vals) t (read_parts [] (at taken (with_return front v) vals)) refl h ∙ none)
refuses (Word w ∷ pieces) plain [] v taken vals t h none = by (bytes_eq (returned v) w) refl h
  where
    by : (b : Bool) → bytes_eq (returned v) w ≡ b → then_do (read_parts pieces) (after_word (taken + 1) [] (if b then Ok vals else Err Amiss)) ≡ Ok t → ⊥
    by true same k =
        let word : returned v ≡ w = (bytes_eq-Decides (returned v) w).0 same in
        let has : list_any (λ b. b == 13) w ≡ true = ap (list_any (λ b. b == 13)) (sym word) ∙ any-return v in
        true≢false (sym (and_parts _ _ plain).0 ∙ ap not has)
    by false same k = err-ok (fault_at (taken + 1) Amiss) t k
refuses (Word w ∷ pieces) plain (f ∷ front) v taken vals t h none = by (bytes_eq f w) h (refuses pieces (and_parts _ _ plain).1 front v (taken + 1) vals t)
  where
    by : (b : Bool) → then_do (read_parts pieces) (after_word (taken + 1) (with_return front v) (if b then Ok vals else Err Amiss)) ≡ Ok t →
        (read_parts pieces (at (taken + 1) (with_return front v) vals) ≡ Ok t → t.words ≡ [] → ⊥) → ⊥
    by true k deeper = deeper k none
    by false k deeper = err-ok (fault_at (taken + 1) Amiss) t k
refuses (Place form ∷ pieces) plain [] v taken vals t h none = by (values_with form vals (returned v)) refl h
  where
    by : (r : Result Values Flaw) → values_with form vals (returned v) ≡ r → then_do (read_parts pieces) (after_word (taken + 1) [] r) ≡ Ok t → ⊥
    by (Ok x) is k = form-refuses form vals v x (and_parts _ _ plain).0 is
    by (Err flaw) is k = err-ok (fault_at (taken + 1) flaw) t k
refuses (Place form ∷ pieces) plain (f ∷ front) v taken vals t h none = by (values_with form vals f) h (λ (x : Values). refuses pieces (and_parts _ _ plain).1 front v (taken + 1) x t)
  where
    by : (r : Result Values Flaw) → then_do (read_parts pieces) (after_word (taken + 1) (with_return front v) r) ≡ Ok t →
        ((x : Values) → read_parts pieces (at (taken + 1) (with_return front v) x) ≡ Ok t → t.words ≡ [] → ⊥) → ⊥
    by (Ok x) k deeper = deeper x k none
    by (Err flaw) k deeper = err-ok (fault_at (taken + 1) flaw) t k
refuses (_ ∷ pieces) plain front v taken vals t h none = true≢false (sym plain)

-- rows of other words and any words at their end read the words without the carriage return too
record StillReads (pieces : List Piece) (ws : List (List ℕ)) (taken : ℕ) (vals : Values) : Type 0 where
  state : State
  reads : read_parts pieces (at taken ws vals) ≡ Ok state
  whole : state.words ≡ []
  fits : match_words pieces ws ≡ true

still-any : (ws : List (List ℕ)) (taken : ℕ) (vals : Values) → StillReads (Anything ∷ []) ws taken vals
still-any ws taken vals = record { state = at taken [] vals; reads = refl; whole = refl; fits = refl }

still : (pieces : List Piece) → plain_before pieces ≡ true → (front : List (List ℕ)) (v : List ℕ) (taken : ℕ) (vals : Values) (t : State) →
    read_parts pieces (at taken (with_return front v) vals) ≡ Ok t → t.words ≡ [] →
    StillReads pieces (without_return front v) taken vals
still [] plain front v taken vals t h none = absurd (false≢true plain)
still (Anything ∷ []) plain front v taken vals t h none = still-any (without_return front v) taken vals
still (Word w ∷ pieces) plain [] v taken vals t h none = by (bytes_eq (returned v) w) refl h
  where
    by : (b : Bool) → bytes_eq (returned v) w ≡ b → then_do (read_parts pieces) (after_word (taken + 1) [] (if b then Ok vals else Err Amiss)) ≡ Ok t →
        StillReads (Word w ∷ pieces) (without_return [] v) taken vals
    by true same k =
        let word : returned v ≡ w = (bytes_eq-Decides (returned v) w).0 same in
        let has : list_any (λ b. b == 13) w ≡ true = ap (list_any (λ b. b == 13)) (sym word) ∙ any-return v in
        absurd (true≢false (sym (and_parts _ _ plain).0 ∙ ap not has))
    by false same k = absurd (err-ok (fault_at (taken + 1) Amiss) t k)
still (Word w ∷ pieces) plain (f ∷ front) v taken vals t h none = by (bytes_eq f w) refl h (still pieces (and_parts _ _ plain).1 front v (taken + 1) vals t)
  where
    by : (b : Bool) → bytes_eq f w ≡ b → then_do (read_parts pieces) (after_word (taken + 1) (with_return front v) (if b then Ok vals else Err Amiss)) ≡ Ok t →
        (read_parts pieces (at (taken + 1) (with_return front v) vals) ≡ Ok t → t.words ≡ [] → StillReads pieces (without_return front v) (taken + 1) vals) →
        StillReads (Word w ∷ pieces) (without_return (f ∷ front) v) taken vals
    by true same k deeper =
        let rest = deeper k none in
        record {
          state = rest.state;
          reads = ap (λ (b : Bool). then_do (read_parts pieces) (after_word (taken + 1) (without_return front v) (if b then Ok vals else Err Amiss))) same ∙ rest.reads;
          whole = rest.whole;
          fits = ap (λ (b : Bool). option_map_or (match_words pieces) (if b then Some (without_return front v) else None) false) same ∙ rest.fits;
        }
    by false same k deeper = absurd (err-ok (fault_at (taken + 1) Amiss) t k)
still (Place form ∷ pieces) plain [] v taken vals t h none = by (values_with form vals (returned v)) refl h
  where
    by : (r : Result Values Flaw) → values_with form vals (returned v) ≡ r → then_do (read_parts pieces) (after_word (taken + 1) [] r) ≡ Ok t →
        StillReads (Place form ∷ pieces) (without_return [] v) taken vals
    by (Ok x) is k = absurd (form-refuses form vals v x (and_parts _ _ plain).0 is)
    by (Err flaw) is k = absurd (err-ok (fault_at (taken + 1) flaw) t k)
still (Place form ∷ pieces) plain (f ∷ front) v taken vals t h none = by (values_with form vals f) refl h (λ (x : Values). still pieces (and_parts _ _ plain).1 front v (taken + 1) x t)
  where
    by : (r : Result Values Flaw) → values_with form vals f ≡ r → then_do (read_parts pieces) (after_word (taken + 1) (with_return front v) r) ≡ Ok t →
        ((x : Values) → read_parts pieces (at (taken + 1) (with_return front v) x) ≡ Ok t → t.words ≡ [] → StillReads pieces (without_return front v) (taken + 1) x) →
        StillReads (Place form ∷ pieces) (without_return (f ∷ front) v) taken vals
    by (Ok x) is k deeper =
        let rest = deeper x k none in
        record {
          state = rest.state;
          reads = ap (λ (r : Result Values Flaw). then_do (read_parts pieces) (after_word (taken + 1) (without_return front v) r)) is ∙ rest.reads;
          whole = rest.whole;
          fits = rest.fits;
        }
    by (Err flaw) is k deeper = absurd (err-ok (fault_at (taken + 1) flaw) t k)
still (_ ∷ pieces) plain front v taken vals t h none = absurd (false≢true plain)

-- what is read whole has no word left
record ReadWhole (pieces : List Piece) (s : State) : Type 0 where
  state : State
  reads : read_parts pieces s ≡ Ok state
  whole : state.words ≡ []

read-whole : (pieces : List Piece) (s : State) (vals : Values) → finish (read_parts pieces s) ≡ Ok vals → ReadWhole pieces s
read-whole pieces s vals h = by (read_parts pieces s) refl h
  where
    left : (t : State) (ws : List (List ℕ)) → t.words ≡ ws → finish_words t ws ≡ Ok vals → ws ≡ []
    left t [] is k = refl
    left t (w ∷ ws) is k = absurd (err-ok (BadWord (t.taken + 1)) vals k)

    by : (r : Result State WordFault) → read_parts pieces s ≡ r → finish r ≡ Ok vals → ReadWhole pieces s
    by (Ok t) is k = record { state = t; reads = is; whole = left t t.words refl k }
    by (Err e) is k = absurd (err-ok e vals k)

abbrev is_inert_meaning : Meaning → Bool
is_inert_meaning means.Inert = true
is_inert_meaning _ = false

inert-gives : (m : Meaning) (vals : Values) → is_inert_meaning m ≡ true → give m vals ≡ commands.Inert
inert-gives means.Inert vals is = refl
inert-gives _ vals is = absurd (false≢true is)

abbrev says_nothing : Rule → Bool
says_nothing rule = plain_before rule.pieces && is_inert_meaning rule.meaning

abbrev says_all : Rule → Bool
says_all rule = list_all plain_piece rule.pieces

found-all : (p q : Rule → Bool) (rules : List Rule) (rule : Rule) → find p rules ≡ Some rule → list_all q rules ≡ true → (q rule ≡ true) × (p rule ≡ true)
found-all p q [] rule is all = absurd (none-some rule is)
found-all p q (r ∷ rules) rule is all = by (p r) refl is (found-all p q rules rule)
  where
    by : (b : Bool) → p r ≡ b → cond b (Some r) (find p rules) ≡ Some rule →
        (find p rules ≡ Some rule → list_all q rules ≡ true → (q rule ≡ true) × (p rule ≡ true)) → (q rule ≡ true) × (p rule ≡ true)
    by true passes e deeper = let same = same_Some r rule e in (subst (λ (x : Rule). q x ≡ true) same (and_parts _ _ all).0, subst (λ (x : Rule). p x ≡ true) same passes)
    by false fails e deeper = deeper e (and_parts _ _ all).1

-- what completes the words reads them whole
complete-reads : (extended : Bool) (ws : List (List ℕ)) (rule : Rule) → completes extended ws rule ≡ true → (vals : Values) × (read extended ws rule ≡ Ok vals)
complete-reads extended ws rule h = by (matches ws rule) (read extended ws rule) refl h
  where
    by : (b : Bool) (r : Result Values WordFault) → read extended ws rule ≡ r → (if b then is_ok r else false) ≡ true → (vals : Values) × (read extended ws rule ≡ Ok vals)
    by true (Ok vals) is k = (vals, is)
    by true (Err e) is k = absurd (false≢true k)
    by false r is k = absurd (false≢true k)

module _ (extended : Bool) (front : List (List ℕ)) (v : List ℕ) where
  abbrev ws : List (List ℕ)
  ws = without_return front v

  abbrev rs : List (List ℕ)
  rs = with_return front v

  -- a row that says nothing
  still-completes : (rule : Rule) → says_nothing rule ≡ true → (vals : Values) → read extended rs rule ≡ Ok vals →
      (more : Values) × (completes extended ws rule ≡ true) × (read extended ws rule ≡ Ok more)
  still-completes rule nothing vals reads =
      let whole = read-whole rule.pieces (start extended rs) vals reads in
      let other = still rule.pieces (and_parts _ _ nothing).0 front v 0 (start extended rs).values whole.state whole.reads whole.whole in
      let value : read extended ws rule ≡ Ok other.state.values = ap finish other.reads ∙ ap (finish_words other.state) other.whole in
      (other.state.values, (let fits = other.fits in λ i. if fits i then is_ok (value i) else false), value)

  reads-on : (inert others : List Rule) (c : Command) → list_all says_nothing inert ≡ true → list_all says_all others ≡ true → (rule : Rule) (vals : Values) →
      find (completes extended rs) (inert ++ others) ≡ Some rule → read extended rs rule ≡ Ok vals → c ≡ give rule.meaning vals →
      ReadBy extended ws (inert ++ others) c × (c ≡ commands.Inert)
  reads-on [] others c nothing all rule vals first reads gives =
      let whole = read-whole rule.pieces (start extended rs) vals reads in
      absurd (refuses rule.pieces (found-all (completes extended rs) says_all others rule first all).0 front v 0 (start extended rs).values whole.state whole.reads whole.whole)
  reads-on (r ∷ inert) others c nothing all rule vals first reads gives = by (completes extended rs r) refl first (λ k. reads-on inert others c (and_parts _ _ nothing).1 all rule vals k reads gives)
    where
      quiet : says_nothing r ≡ true
      quiet = (and_parts (says_nothing r) (list_all says_nothing inert) nothing).0

      -- the first row may complete them now
      here : (more : Values) → completes extended ws r ≡ true → read extended ws r ≡ Ok more → c ≡ commands.Inert → ReadBy extended ws (r ∷ inert ++ others) c
      here more holds value inert_c = record {
        rule = r;
        values = more;
        first = cond-true (completes extended ws r) (Some r) (find (completes extended ws) (inert ++ others)) holds;
        complete = value;
        gives = inert_c ∙ sym (inert-gives r.meaning more (and_parts (plain_before r.pieces) (is_inert_meaning r.meaning) quiet).1);
      }

      later : (b : Bool) → completes extended ws r ≡ b → ReadBy extended ws (inert ++ others) c × (c ≡ commands.Inert) → ReadBy extended ws (r ∷ inert ++ others) c × (c ≡ commands.Inert)
      later true holds both = let value = complete-reads extended ws r holds in (here value.0 holds value.1 both.1, both.1)
      later false fails both = (
        record {
          rule = both.0.rule;
          values = both.0.values;
          first = cond-false (completes extended ws r) (Some r) (find (completes extended ws) (inert ++ others)) fails ∙ both.0.first;
          complete = both.0.complete;
          gives = both.0.gives;
        },
        both.1,
      )

      by : (b : Bool) → completes extended rs r ≡ b → cond b (Some r) (find (completes extended rs) (inert ++ others)) ≡ Some rule →
          (find (completes extended rs) (inert ++ others) ≡ Some rule → ReadBy extended ws (inert ++ others) c × (c ≡ commands.Inert)) →
          ReadBy extended ws (r ∷ inert ++ others) c × (c ≡ commands.Inert)
      by true holds e deeper =
          let same : r ≡ rule = same_Some r rule e in
          let value : read extended rs r ≡ Ok vals = ap (read extended rs) same ∙ reads in
          let (more, completes_now, value_now) = still-completes r quiet vals value in
          let inert_c : c ≡ commands.Inert = gives ∙ ap (λ (x : Rule). give x.meaning vals) (sym same)
          ∙ inert-gives r.meaning vals (and_parts (plain_before r.pieces) (is_inert_meaning r.meaning) quiet).1 in
          (here more completes_now value_now inert_c, inert_c)
      by false fails e deeper = later (completes extended ws r) refl (deeper e)

-- a carriage return at the end of a line of such a block says nothing
pub returns-say-nothing : ReturnsSayNothing
returns-say-nothing within kind line c reads = by kind
  where
    l : LastWord line
    l = last-word line

    one : (w : BlockKind) → within ≡ w → list_all says_nothing (inert_in w) ≡ true → list_all says_all (read_in w) ≡ true → ReadBy false (words line) (rows within) c × (c ≡ commands.Inert)
    one w is nothing all =
        let here : ReadBy false (with_return l.front l.last) (rows w) c =
        subst (λ (k : BlockKind). ReadBy false (with_return l.front l.last) (rows k) c) is (subst (λ (ws : List (List ℕ)). ReadBy false ws (rows within) c) l.with_it reads) in
        let both = reads-on false l.front l.last (inert_in w) (read_in w) c nothing all here.rule here.values here.first here.complete here.gives in
        (subst (λ (k : BlockKind). ReadBy false (words line) (rows k) c) (sym is) (subst (λ (ws : List (List ℕ)). ReadBy false ws (rows w) c) (sym l.without) both.0), both.1)

    by : (within ≡ kinds.Interface) ⊎ ((within ≡ kinds.Ospf) ⊎ (within ≡ kinds.Bgp)) → ReadBy false (words line) (rows within) c × (c ≡ commands.Inert)
    by (inl is) = one kinds.Interface is refl refl
    by (inr (inl is)) = one kinds.Ospf is refl refl
    by (inr (inr is)) = one kinds.Bgp is refl refl

-- whether a row of this meaning is that of such a head
abbrev is_head_meaning : Meaning → Bool
is_head_meaning means.Interface = true
is_head_meaning means.RouterOspf = true
is_head_meaning means.RouterBgp = true
is_head_meaning _ = false

head-gives : (m : Meaning) (vals : Values) → heads_face_or_process (give m vals) ≡ is_head_meaning m
head-gives means.Interface vals = refl
head-gives means.RouterOspf vals = refl
head-gives means.RouterBgp vals = refl
head-gives _ vals = refl

-- it has no such word, if it is one
abbrev heads_plainly : Rule → Bool
heads_plainly rule = not (is_head_meaning rule.meaning) || says_all rule

-- such a head has no carriage return at its end
pub heads-have-no-return : HeadsHaveNoReturn
heads-have-no-return line c reads =
    let l = last-word line in
    let ws : List (List ℕ) = with_return l.front l.last in
    let here : ReadBy false ws (rows kinds.Top) c = subst (λ (w : List (List ℕ)). ReadBy false w (rows kinds.Top) c) l.with_it reads in
    let whole = read-whole here.rule.pieces (start false ws) here.values here.complete in
    let plainly : heads_plainly here.rule ≡ true = (found-all (completes false ws) heads_plainly (rows kinds.Top) here.rule here.first refl).0 in
    let is : heads_face_or_process c ≡ is_head_meaning here.rule.meaning = ap heads_face_or_process here.gives ∙ head-gives here.rule.meaning here.values in
    ⊎_elim
    (λ (head : is_head_meaning here.rule.meaning ≡ true).
    let all : says_all here.rule ≡ true = sym (ap (λ (b : Bool). not b || says_all here.rule) head) ∙ plainly in
    absurd (refuses here.rule.pieces all l.front l.last 0 (start false ws).values whole.state whole.reads whole.whole))
    (λ (other : is_head_meaning here.rule.meaning ≡ false). is ∙ other)
    (cases_Bool (is_head_meaning here.rule.meaning))
