-- Reading numbers joined by slashes byte by byte is cutting them at the slashes.
use Rattle.std.proofs.Common.{◌≡◌, ℕ, ◌==◌, ◌&&◌, Bool, true, false, cond, List, [], ◌∷◌, length, refl, sym, ap, subst, ◌∙◌, arith, ⊎_elim}
use Rattle.std.proofs.lemmas.Bool.{cases_Bool, cond-true, cond-false, eqb-true, ne_eqb}
use Rattle.std.specs.Char.{is_ascii_digit}
use Rattle.std.specs.List.{list_all, slice_split, onto_first}
use Rattle.ios_words.specs.declared.names.Before.{Before}
use Rattle.ios_words.specs.declared.names.Before.TheVariants.{Start, Zero, Digit}
use Rattle.ios_words.specs.Names.{is_numeral, is_unit}
use Rattle.ios_words.specs.Units.{complete}

-- what may stand at the front of what is left of a number
abbrev front : Before → List ℕ → Bool
front Start part = is_numeral part
front Zero part = length part == 0
front Digit part = list_all is_ascii_digit part

-- the first part goes on with the number before it, and the others are numbers
abbrev goes_on : Before → List (List ℕ) → Bool
goes_on before [] = false
goes_on before (part ∷ parts) = front before part && list_all is_numeral parts

-- the parts of a text that begins with a byte
abbrev parts : ℕ → List (List ℕ) → List (List ℕ)
parts b rest = cond (b == 47) ([] ∷ rest) (onto_first b rest)

and-true : (a : Bool) → (a && true) ≡ a
and-true true = refl
and-true false = refl

and-false : (a : Bool) → (a && false) ≡ false
and-false true = refl
and-false false = refl

filled : (x : ℕ) (h : List ℕ) → (length (x ∷ h) == 0) ≡ false
filled x h = ne_eqb (length (x ∷ h)) 0 (omega arith)

alone : (h : List ℕ) → (list_all is_ascii_digit h && (length h == 0)) ≡ (length h == 0)
alone [] = refl
alone (x ∷ h) = rw (filled x h) (and-false (list_all is_ascii_digit (x ∷ h)))

-- at a slash
at_slash : (before : Before) (bs h : List ℕ) (t : List (List ℕ)) → ((s : Before) → complete s bs ≡ goes_on s (h ∷ t)) → complete before (47 ∷ bs) ≡ goes_on before (parts 47 (h ∷ t))
at_slash Start bs h t ih = refl
at_slash Zero bs h t ih = ih Start
at_slash Digit bs h t ih = ih Start

-- at a zero
at_zero : (before : Before) (bs h : List ℕ) (t : List (List ℕ)) → ((s : Before) → complete s bs ≡ goes_on s (h ∷ t)) → complete before (48 ∷ bs) ≡ goes_on before (parts 48 (h ∷ t))
at_zero Start bs h t ih = ih Zero ∙ ap (λ a. a && list_all is_numeral t) (sym (alone h))
at_zero Zero bs h t ih = rw (filled 48 h) refl
at_zero Digit bs h t ih = ih Digit

-- at another byte
at_other : (before : Before) (b : ℕ) (bs h : List ℕ) (t : List (List ℕ)) → (b == 47) ≡ false → (b == 48) ≡ false →
    ((s : Before) → complete s bs ≡ goes_on s (h ∷ t)) → (digit : Bool) → is_ascii_digit b ≡ digit →
    complete before (b ∷ bs) ≡ goes_on before (parts b (h ∷ t))
at_other Start b bs h t slash zero' ih true d = rw (slash, zero', d) (ih Digit ∙ ap (λ a. a && list_all is_numeral t) (sym (and-true (list_all is_ascii_digit h))))
at_other Start b bs h t slash zero' ih false d = rw (slash, zero', d) refl
at_other Zero b bs h t slash zero' ih digit d = rw (slash, filled b h) refl
at_other Digit b bs h t slash zero' ih true d = rw (slash, d) (ih Digit)
at_other Digit b bs h t slash zero' ih false d = rw (slash, d) refl

-- at any byte
at_byte : (before : Before) (b : ℕ) (bs h : List ℕ) (t : List (List ℕ)) → ((s : Before) → complete s bs ≡ goes_on s (h ∷ t)) → complete before (b ∷ bs) ≡ goes_on before (parts b (h ∷ t))
at_byte before b bs h t ih =
    let P : ℕ → Type 0 = λ v. complete before (v ∷ bs) ≡ goes_on before (parts v (h ∷ t)) in
    ⊎_elim
    (λ slash. subst P (sym (eqb-true b 47 slash)) (at_slash before bs h t ih))
    (λ slash. ⊎_elim
    (λ zero'. subst P (sym (eqb-true b 48 zero')) (at_zero before bs h t ih))
    (λ zero'. at_other before b bs h t slash zero' ih (is_ascii_digit b) refl)
    (cases_Bool (b == 48)))
    (cases_Bool (b == 47))

-- a text has a first part
some-onto : (b : ℕ) (rest : List (List ℕ)) → onto_first b rest ≡ [] → ⊥
some-onto b [] e = absurd (cc)
some-onto b (part ∷ rest) e = absurd (cc)

at_parts : (before : Before) (b : ℕ) (bs : List ℕ) (rest : List (List ℕ)) → (rest ≡ [] → ⊥) → ((s : Before) → complete s bs ≡ goes_on s rest) → complete before (b ∷ bs) ≡ goes_on before (parts b rest)
at_parts before b bs [] some ih = absurd (some refl)
at_parts before b bs (h ∷ t) some ih = at_byte before b bs h t ih

some-parts : (b : ℕ) (rest : List (List ℕ)) → (rest ≡ [] → ⊥) → parts b rest ≡ [] → ⊥
some-parts b rest some e =
    ⊎_elim
    (λ slash. let none : ([] ∷ rest) ≡ [] = sym (cond-true _ _ _ slash) ∙ e in absurd (cc))
    (λ slash. some-onto b rest (sym (cond-false _ _ _ slash) ∙ e))
    (cases_Bool (b == 47))

pub some-split : (text : List ℕ) → slice_split (λ b. b == 47) text ≡ [] → ⊥
some-split [] e = absurd (cc)
some-split (b ∷ bs) e = some-parts b (slice_split (λ x. x == 47) bs) (some-split bs) e

pub complete-split : (before : Before) (text : List ℕ) → complete before text ≡ goes_on before (slice_split (λ b. b == 47) text)
complete-split Start [] = refl
complete-split Zero [] = refl
complete-split Digit [] = refl
complete-split before (b ∷ bs) = at_parts before b bs (slice_split (λ x. x == 47) bs) (some-split bs) (λ s. complete-split s bs)

start : (parts : List (List ℕ)) → (parts ≡ [] → ⊥) → goes_on Start parts ≡ list_all is_numeral parts
start [] some = absurd (some refl)
start (part ∷ parts) some = refl

-- the bytes of a text complete numbers joined by slashes exactly where it is such
pub complete-unit : (text : List ℕ) → complete Start text ≡ is_unit text
complete-unit text = complete-split Start text ∙ start (slice_split (λ b. b == 47) text) (some-split text)
