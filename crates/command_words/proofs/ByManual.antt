-- The function of the words and the manual page say the same.
use Rattle.std.proofs.Common.{◌≡◌, ◌∙◌, ◌↔◌, inl, inr, ℕ, suc, ◌+◌, ◌==◌, ◌||◌, Bool, true, false, List, [], ◌∷◌}
use Rattle.std.proofs.Common.{◌++◌, map, take, drop, Option, Some, None, refl, sym, ap, ap₂, subst, if◌then◌else◌, codes, one-add, arith}
use Rattle.std.specs.List.{list_any, after_first, position_or_len}
use Rattle.std.proofs.lemmas.Bool.{eqb-true, eqb-false}
use Rattle.command_words.specs.Words.{Form, Given, after_one, after_two, plain, hyphened, end, long, form_of}
use Rattle.command_words.specs.Words.{given_by, name_in, names_one, option, option_gives, positional, then_more, value_gives, value_in, word_gives}
use Rattle.command_words.specs.Manual.{Gives, IsText, after, apart, beside, has_equals, no_words, stands}

-- ---- a name before `=`

abbrev equals : ℕ → Bool
equals byte = byte == 61

place_on : (x : ℕ) (xs : List ℕ) → equals x ≡ false → position_or_len equals (x ∷ xs) ≡ suc (position_or_len equals xs)
place_on x xs e = rw e (one-add (position_or_len equals xs))

name_on : (x : ℕ) (xs : List ℕ) → equals x ≡ false → name_in (x ∷ xs) ≡ x ∷ name_in xs
name_on x xs e = ap (λ (n : ℕ). take n (x ∷ xs)) (place_on x xs e)

after_on : (x : ℕ) (xs : List ℕ) → equals x ≡ false → after_first equals (x ∷ xs) ≡ after_first equals xs
after_on x xs e =
    let more : suc (position_or_len equals xs) + 1 ≡ suc (position_or_len equals xs + 1) = omega arith in
    ap (λ (n : ℕ). drop (n + 1) (x ∷ xs)) (place_on x xs e) ∙ ap (λ (n : ℕ). drop n (x ∷ xs)) more

-- a text with `=` is its name and its value
text_parts : (bytes : List ℕ) → list_any equals bytes ≡ true → bytes ≡ name_in bytes ++ (61 ∷ after_first equals bytes)
text_parts [] has = absurd (cc)
text_parts (x ∷ xs) has = go (equals x) refl has (text_parts xs)
  where
    go : (t : Bool) → equals x ≡ t → (t || list_any equals xs) ≡ true → (list_any equals xs ≡ true → xs ≡ name_in xs ++ (61 ∷ after_first equals xs))
        → x ∷ xs ≡ name_in (x ∷ xs) ++ (61 ∷ after_first equals (x ∷ xs))
    go true e h later = subst (λ (y : ℕ). y ∷ xs ≡ name_in (y ∷ xs) ++ (61 ∷ after_first equals (y ∷ xs))) (sym (eqb-true x 61 e)) refl
    go false e h later = ap (λ (ys : List ℕ). x ∷ ys) (later h) ∙ ap₂ (λ (a b : List ℕ). a ++ (61 ∷ b)) (sym (name_on x xs e)) (sym (after_on x xs e))

-- its name has no `=`
name_lacks : (bytes : List ℕ) → list_any equals (name_in bytes) ≡ false
name_lacks [] = refl
name_lacks (x ∷ xs) = go (equals x) refl (name_lacks xs)
  where
    go : (t : Bool) → equals x ≡ t → list_any equals (name_in xs) ≡ false → list_any equals (name_in (x ∷ xs)) ≡ false
    go true e later = subst (λ (y : ℕ). list_any equals (name_in (y ∷ xs)) ≡ false) (sym (eqb-true x 61 e)) refl
    go false e later = ap (list_any equals) (name_on x xs e) ∙ ap₂ (λ (a b : Bool). a || b) e later

-- a text without `=` is a name
name_whole : (bytes : List ℕ) → list_any equals bytes ≡ false → name_in bytes ≡ bytes
name_whole [] lacks = refl
name_whole (x ∷ xs) lacks = go (equals x) refl lacks (name_whole xs)
  where
    go : (t : Bool) → equals x ≡ t → (t || list_any equals xs) ≡ false → (list_any equals xs ≡ false → name_in xs ≡ xs) → name_in (x ∷ xs) ≡ x ∷ xs
    go true e h later = absurd (cc)
    go false e h later = name_on x xs e ∙ ap (λ (ys : List ℕ). x ∷ ys) (later h)

-- a name, `=` and a value are read as such
record Cut (name value : List ℕ) : Type 0 where
  pub name_is : name_in (name ++ (61 ∷ value)) ≡ name
  pub value_is : after_first equals (name ++ (61 ∷ value)) ≡ value
  pub has : list_any equals (name ++ (61 ∷ value)) ≡ true

cut : (name value : List ℕ) → list_any equals name ≡ false → Cut name value
cut [] value lacks = record { name_is = refl; value_is = refl; has = refl }
cut (x ∷ xs) value lacks = go (equals x) refl lacks (cut xs value)
  where
    go : (t : Bool) → equals x ≡ t → (t || list_any equals xs) ≡ false → (list_any equals xs ≡ false → Cut xs value) → Cut (x ∷ xs) value
    go true e h later = absurd (cc)
    go false e h later = record {
      name_is = name_on x (xs ++ (61 ∷ value)) e ∙ ap (λ (ys : List ℕ). x ∷ ys) (later h).name_is;
      value_is = after_on x (xs ++ (61 ∷ value)) e ∙ (later h).value_is;
      has = ap₂ (λ (a b : Bool). a || b) e (later h).has;
    }

-- ---- the forms of words

plain_text : (word : List ℕ) → form_of word ≡ plain → IsText word
plain_text [] e = inr (λ rest f. absurd (cc))
plain_text (a ∷ bytes) e = first (a == 45) refl e
  where
    second : (bytes : List ℕ) → a ≡ 45 → after_one bytes ≡ plain → IsText (a ∷ bytes)
    second [] is f = inl (ap (λ (n : ℕ). n ∷ []) is)
    second (b ∷ rest) is f = third (b == 45) f
      where
        fourth : (rest : List ℕ) → after_two rest ≡ plain → IsText (a ∷ b ∷ rest)
        fourth [] f = absurd (cc)
        fourth (c ∷ rest) f = absurd (cc)

        third : (t : Bool) → (if t then after_two rest else hyphened) ≡ plain → IsText (a ∷ b ∷ rest)
        third true f = fourth rest f
        third false f = absurd (cc)

    first : (t : Bool) → (a == 45) ≡ t → (if t then after_one bytes else plain) ≡ plain → IsText (a ∷ bytes)
    first true is f = second bytes (eqb-true a 45 is) f
    first false is f = inr (λ rest same.
        let head : a ≡ 45 = cc in
        eqb-false a 45 is head)

text_plain : (word : List ℕ) → IsText word → form_of word ≡ plain
text_plain word (inl e) = ap form_of e
text_plain [] (inr h) = refl
text_plain (a ∷ bytes) (inr h) = go (a == 45) refl
  where
    go : (t : Bool) → (a == 45) ≡ t → form_of (a ∷ bytes) ≡ plain
    go true e = absurd (h bytes (ap (λ (n : ℕ). n ∷ bytes) (eqb-true a 45 e)))
    go false e = rw e refl

record Long (word text : List ℕ) : Type 0 where
  pub is : word ≡ 45 ∷ 45 ∷ text
  pub some : text ≡ [] → ⊥

-- what a word of each form is
abbrev Spelled : List ℕ → Form → Type 0
Spelled word plain = Unit {0}
Spelled word hyphened = Unit {0}
Spelled word end = word ≡ 45 ∷ 45 ∷ []
Spelled word (long text) = Long word text

spelled : (word : List ℕ) → Spelled word (form_of word)
spelled [] = tt
spelled (a ∷ bytes) = first (a == 45) refl
  where
    two : (rest : List ℕ) → Spelled (45 ∷ 45 ∷ rest) (after_two rest)
    two [] = refl
    two (c ∷ rest) = record { is = refl; some = λ e. absurd (cc) }

    one : (bytes : List ℕ) → Spelled (45 ∷ bytes) (after_one bytes)
    one [] = tt
    one (b ∷ rest) = second (b == 45) refl
      where
        second : (t : Bool) → (b == 45) ≡ t → Spelled (45 ∷ b ∷ rest) (if t then after_two rest else hyphened)
        second true e = subst (λ (n : ℕ). Spelled (45 ∷ n ∷ rest) (after_two rest)) (sym (eqb-true b 45 e)) (two rest)
        second false e = tt

    first : (t : Bool) → (a == 45) ≡ t → Spelled (a ∷ bytes) (if t then after_one bytes else plain)
    first true e = subst (λ (n : ℕ). Spelled (n ∷ bytes) (after_one bytes)) (sym (eqb-true a 45 e)) (one bytes)
    first false e = tt

pub long_form : (text : List ℕ) → (text ≡ [] → ⊥) → form_of (45 ∷ 45 ∷ text) ≡ long text
long_form [] some = absurd (some refl)
long_form (c ∷ rest) some = refl

-- ---- from the function to the manual page

-- what waits for its value gets it
record Waited (options : List (List ℕ)) (name : List ℕ) (words : List (List ℕ)) (given : List Given) : Type 0 where
  pub value : List ℕ
  pub rest : List (List ℕ)
  pub later : List Given
  pub words_are : words ≡ value ∷ rest
  pub given_is : given ≡ option name value ∷ later
  pub is_text : IsText value
  pub gives : Gives options rest later

record Both (options words : List (List ℕ)) : Type 0 where
  pub from_none : (given : List Given) → given_by options words None ≡ Some given → Gives options words given
  pub from_some : (name : List ℕ) (given : List Given) → given_by options words (Some name) ≡ Some given → Waited options name words given

stands_by : (options : List (List ℕ)) (word : List ℕ) (rest : List (List ℕ)) (o : Option (List Given)) (given : List Given) → IsText word
    → ((later : List Given) → o ≡ Some later → Gives options rest later) → then_more (positional word) o ≡ Some given → Gives options (word ∷ rest) given
stands_by options word rest None given is h e = absurd (cc)
stands_by options word rest (Some later) given is h e =
    let same : positional word ∷ later ≡ given = cc in
    subst (Gives options (word ∷ rest)) same (stands is (h later refl))

waited_by : (options : List (List ℕ)) (name word : List ℕ) (rest : List (List ℕ)) (o : Option (List Given)) (given : List Given) → IsText word
    → ((later : List Given) → o ≡ Some later → Gives options rest later) → then_more (option name word) o ≡ Some given → Waited options name (word ∷ rest) given
waited_by options name word rest None given is h e = absurd (cc)
waited_by options name word rest (Some later) given is h e =
    record { value = word; rest = rest; later = later; words_are = refl; given_is = cc; is_text = is; gives = h later refl }

beside_by : (options : List (List ℕ)) (word name value : List ℕ) (rest : List (List ℕ)) (o : Option (List Given)) (given : List Given)
    → names_one options name ≡ true → (has_equals name → ⊥) → word ≡ 45 ∷ 45 ∷ (name ++ (61 ∷ value))
    → ((later : List Given) → o ≡ Some later → Gives options rest later) → then_more (option name value) o ≡ Some given → Gives options (word ∷ rest) given
beside_by options word name value rest None given known lacks is h e = absurd (cc)
beside_by options word name value rest (Some later) given known lacks is h e =
    let same : option name value ∷ later ≡ given = cc in
    subst (Gives options (word ∷ rest)) same (beside known lacks is (h later refl))

apart_by : (options : List (List ℕ)) (word name : List ℕ) (rest : List (List ℕ)) (given : List Given) → names_one options name ≡ true → (has_equals name → ⊥) → (name ≡ [] → ⊥)
    → word ≡ 45 ∷ 45 ∷ name → Waited options name rest given → Gives options (word ∷ rest) given
apart_by options word name rest given known lacks some is w =
    let whole : Gives options (word ∷ w.value ∷ w.rest) (option name w.value ∷ w.later) = apart known lacks some is w.is_text w.gives in
    subst (λ (words : List (List ℕ)). Gives options (word ∷ words) given) (sym w.words_are) (subst (Gives options (word ∷ w.value ∷ w.rest)) (sym w.given_is) whole)

lacking : (bytes : List ℕ) → list_any equals bytes ≡ false → has_equals bytes → ⊥
lacking bytes e f = absurd (cc)

long_by : (options : List (List ℕ)) (word text : List ℕ) (rest : List (List ℕ)) (given : List Given) → Long word text → Both options rest
    → option_gives (names_one options (name_in text)) (name_in text) (value_in text) (given_by options rest) ≡ Some given → Gives options (word ∷ rest) given
long_by options word text rest given l both e = known_or (names_one options (name_in text)) refl e
  where
    valued : names_one options (name_in text) ≡ true → (t : Bool) → list_any equals text ≡ t
        → option_gives true (name_in text) (if t then Some (after_first equals text) else None) (given_by options rest) ≡ Some given → Gives options (word ∷ rest) given
    valued known true has f =
        beside_by options word (name_in text) (after_first equals text) rest (given_by options rest None) given known (lacking (name_in text) (name_lacks text))
        (l.is ∙ ap (λ (bytes : List ℕ). 45 ∷ 45 ∷ bytes) (text_parts text has)) both.from_none f
    valued known false has f =
        let whole = name_whole text has in
        apart_by options word (name_in text) rest given known (lacking (name_in text) (name_lacks text)) (λ none. l.some (sym whole ∙ none))
        (l.is ∙ ap (λ (bytes : List ℕ). 45 ∷ 45 ∷ bytes) (sym whole)) (both.from_some (name_in text) given f)

    known_or : (t : Bool) → names_one options (name_in text) ≡ t → option_gives t (name_in text) (value_in text) (given_by options rest) ≡ Some given → Gives options (word ∷ rest) given
    known_or true known f = valued known (list_any equals text) refl f
    known_or false unknown f = refused (value_in text) f
      where
        refused : (o : Option (List ℕ)) → option_gives false (name_in text) o (given_by options rest) ≡ Some given → Gives options (word ∷ rest) given
        refused None g = absurd (cc)
        refused (Some value) g = absurd (cc)

word_by : (options : List (List ℕ)) (word : List ℕ) (rest : List (List ℕ)) (given : List Given) (form : Form) → form_of word ≡ form → Spelled word form → Both options rest
    → word_gives options word form rest (given_by options rest) ≡ Some given → Gives options (word ∷ rest) given
word_by options word rest given plain is s both e = stands_by options word rest (given_by options rest None) given (plain_text word is) both.from_none e
word_by options word rest given hyphened is s both e = absurd (cc)
word_by options word rest given end is s both e =
    let same : map positional rest ≡ given = cc in
    subst (λ (w : List ℕ). Gives options (w ∷ rest) given) (sym s) (subst (Gives options (codes "--" ∷ rest)) same after)
word_by options word rest given (long text) is s both e = long_by options word text rest given s both e

value_by : (options : List (List ℕ)) (name word : List ℕ) (rest : List (List ℕ)) (given : List Given) (form : Form) → form_of word ≡ form → Both options rest
    → value_gives name word form (given_by options rest) ≡ Some given → Waited options name (word ∷ rest) given
value_by options name word rest given plain is both e = waited_by options name word rest (given_by options rest None) given (plain_text word is) both.from_none e
value_by options name word rest given hyphened is both e = absurd (cc)
value_by options name word rest given end is both e = absurd (cc)
value_by options name word rest given (long text) is both e = absurd (cc)

both_by : (options words : List (List ℕ)) → Both options words
both_by options [] = record {
  from_none = λ given e.
      let same : [] ≡ given = cc in
      subst (Gives options []) same no_words;
  from_some = λ name given e. absurd (cc);
}
both_by options (word ∷ rest) =
    let later = both_by options rest in
    record {
      from_none = λ given e. word_by options word rest given (form_of word) refl (spelled word) later e;
      from_some = λ name given e. value_by options name word rest given (form_of word) refl later e;
    }

-- ---- and back

beside_form : (name value : List ℕ) → form_of (45 ∷ 45 ∷ (name ++ (61 ∷ value))) ≡ long (name ++ (61 ∷ value))
beside_form [] value = refl
beside_form (x ∷ xs) value = refl

not_true : (b : Bool) → (b ≡ true → ⊥) → b ≡ false
not_true true h = absurd (h refl)
not_true false h = refl

value_there : (bytes value : List ℕ) → list_any equals bytes ≡ true → after_first equals bytes ≡ value → value_in bytes ≡ Some value
value_there bytes value has is = rw (has, is) refl

value_not : (bytes : List ℕ) → list_any equals bytes ≡ false → value_in bytes ≡ None
value_not bytes lacks = rw lacks refl

by_function : {options words : List (List ℕ)} {given : List Given} → Gives options words given → given_by options words None ≡ Some given
by_function no_words = refl
by_function (stands {options} {word} {words} {given} is g) =
    ap (λ (form : Form). word_gives options word form words (given_by options words)) (text_plain word is) ∙ ap (then_more (positional word)) (by_function g)
by_function (beside {options} {word} {name} {value} {words} {given} known lacks is g) =
    let c = cut name value (not_true (list_any equals name) lacks) in
    ap (λ (form : Form). word_gives options word form words (given_by options words)) (ap form_of is ∙ beside_form name value)
    ∙ (ap₂ (λ (n : List ℕ) (o : Option (List ℕ)). option_gives (names_one options n) n o (given_by options words)) c.name_is (value_there (name ++ (61 ∷ value)) value c.has c.value_is)
    ∙ (ap (λ (b : Bool). option_gives b name (Some value) (given_by options words)) known ∙ ap (then_more (option name value)) (by_function g)))
by_function (apart {options} {word} {name} {value} {words} {given} known lacks some is is_text g) =
    let none = not_true (list_any equals name) lacks in
    ap (λ (form : Form). word_gives options word form (value ∷ words) (given_by options (value ∷ words))) (ap form_of is ∙ long_form name some)
    ∙ (ap₂ (λ (n : List ℕ) (o : Option (List ℕ)). option_gives (names_one options n) n o (given_by options (value ∷ words))) (name_whole name none) (value_not name none)
    ∙ (ap (λ (b : Bool). option_gives b name None (given_by options (value ∷ words))) known
    ∙ (ap (λ (form : Form). value_gives name value form (given_by options words)) (text_plain value is_text) ∙ ap (then_more (option name value)) (by_function g))))
by_function after = refl

pub by_manual : (options words : List (List ℕ)) (given : List Given) → (given_by options words None ≡ Some given) ↔ Gives options words given
by_manual options words given = ((both_by options words).from_none given, by_function)
