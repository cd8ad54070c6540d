-- A word's hyphens, as `clap` looks at them.
use Rattle.std.proofs.Common.{◌≡◌, ◌∙◌, ℕ, ◌==◌, Bool, true, false, List, [], ◌∷◌, Some, None, refl, sym, ap, subst, slice_get, encode_utf8_all}
use Rattle.std.proofs.lemmas.Bool.{eqb-true, and_parts}
use Rattle.std.proofs.lemmas.Slice.Eq.{bytes_eq-Decides}
use Rattle.std.specs.Str.{bytes_eq, chars, is_utf8}
use Rattle.std.specs.Char.{encode_utf8}
use Rattle.clap.specs.Lexer.{long_of, short_of}
use Rattle.command_words.specs.Words.{plain, hyphened, end, long, form_of, name_in, value_in}

abbrev pub double : List ℕ
double = 45 ∷ 45 ∷ []

-- what `clap` makes of a word of each form
pub record IsPlain (word : List ℕ) : Type 0 where
  pub form : form_of word ≡ plain
  pub single : bytes_eq word double ≡ false
  pub no_long : long_of word ≡ None
  pub no_short : short_of word ≡ None

pub record IsHyphened (word : List ℕ) : Type 0 where
  pub form : form_of word ≡ hyphened
  pub single : bytes_eq word double ≡ false
  pub no_long : long_of word ≡ None
  pub first : ℕ
  pub rest : List ℕ
  pub is : word ≡ 45 ∷ first ∷ rest
  pub letters : short_of word ≡ Some (first ∷ rest)

pub record IsEnd (word : List ℕ) : Type 0 where
  pub form : form_of word ≡ end
  pub twice : bytes_eq word double ≡ true

pub record IsLong (word : List ℕ) : Type 0 where
  pub text : List ℕ
  pub form : form_of word ≡ long text
  pub single : bytes_eq word double ≡ false
  pub parts : long_of word ≡ Some (name_in text, value_in text)

pub data View : List ℕ → Type 0 where
  seen_plain : {word : List ℕ} → IsPlain word → View word
  seen_hyphened : {word : List ℕ} → IsHyphened word → View word
  seen_end : {word : List ℕ} → IsEnd word → View word
  seen_long : {word : List ℕ} → IsLong word → View word

view_none : (byte : ℕ) (bytes : List ℕ) → (byte == 45) ≡ false → View (byte ∷ bytes)
view_none byte bytes e = seen_plain (record {
  form = rw e;
  single = rw e;
  no_long = rw e;
  no_short = rw e;
})

view_one : (byte : ℕ) (bytes : List ℕ) → (byte == 45) ≡ false → View (45 ∷ byte ∷ bytes)
view_one byte bytes e = seen_hyphened (record {
  form = rw e;
  single = rw e;
  no_long = rw e;
  first = byte;
  rest = bytes;
  is = refl;
  letters = rw e;
})

-- a word has one of the forms
pub view_of : (word : List ℕ) → View word
view_of [] = seen_plain (record { form = refl; single = refl; no_long = refl; no_short = refl })
view_of (a ∷ bytes) = go (a == 45) refl
  where
    two : (rest : List ℕ) → View (45 ∷ 45 ∷ rest)
    two [] = seen_end (record { form = refl; twice = refl })
    two (c ∷ rest) = seen_long (record { text = c ∷ rest; form = refl; single = refl; parts = refl })

    one : (rest : List ℕ) → View (45 ∷ rest)
    one [] = seen_plain (record { form = refl; single = refl; no_long = refl; no_short = refl })
    one (b ∷ rest) = second (b == 45) refl
      where
        second : (t : Bool) → (b == 45) ≡ t → View (45 ∷ b ∷ rest)
        second true e = subst (λ (n : ℕ). View (45 ∷ n ∷ rest)) (sym (eqb-true b 45 e)) (two rest)
        second false e = view_one b rest e

    go : (t : Bool) → (a == 45) ≡ t → View (a ∷ bytes)
    go true e = subst (λ (n : ℕ). View (n ∷ bytes)) (sym (eqb-true a 45 e)) (one bytes)
    go false e = view_none a bytes e

-- ---- the characters of a text after its first hyphen

some_first : (cs : List ℕ) → (cs ≡ [] → ⊥) → (c : ℕ) × (slice_get cs 0 ≡ Some c)
some_first [] h = absurd (h refl)
some_first (c ∷ cs) h = (c, refl)

chars_tail : (byte : ℕ) (bytes : List ℕ) → chars (45 ∷ byte ∷ bytes) ≡ 45 ∷ chars (byte ∷ bytes)
unfolding chars
chars_tail byte bytes = refl

one_hyphen : encode_utf8_all (45 ∷ []) ≡ 45 ∷ []
unfolding encode_utf8
one_hyphen = refl

longer : (byte : ℕ) (bytes : List ℕ) → 45 ∷ [] ≡ 45 ∷ byte ∷ bytes → ⊥
longer byte bytes e = absurd (cc)

pub first_letter : (byte : ℕ) (bytes : List ℕ) → is_utf8 (45 ∷ byte ∷ bytes) ≡ true → (c : ℕ) × (slice_get (chars (byte ∷ bytes)) 0 ≡ Some c)
unfolding is_utf8
first_letter byte bytes h = some_first (chars (byte ∷ bytes)) (λ none.
    let whole : chars (45 ∷ byte ∷ bytes) ≡ 45 ∷ [] = chars_tail byte bytes ∙ ap (λ (cs : List ℕ). 45 ∷ cs) none in
    let same : bytes_eq (encode_utf8_all (chars (45 ∷ byte ∷ bytes))) (45 ∷ byte ∷ bytes) ≡ true = (and_parts _ _ h).1 in
    let short : bytes_eq (encode_utf8_all (45 ∷ [])) (45 ∷ byte ∷ bytes) ≡ true = subst (λ (cs : List ℕ). bytes_eq (encode_utf8_all cs) (45 ∷ byte ∷ bytes) ≡ true) whole same in
    let equal : encode_utf8_all (45 ∷ []) ≡ 45 ∷ byte ∷ bytes = (bytes_eq-Decides _ _).0 short in
    longer byte bytes (sym one_hyphen ∙ equal))
