-- Words that pass the tests of names have the forms of names.
use Rattle.std.proofs.Common.{◌≡◌, ℕ, suc, ◌==◌, Bool, true, false, List, [], ◌∷◌, ◌++◌, length, take, drop, Contains, refl, sym, ap, subst, ◌∙◌, true≢false, inl, inr, arith, IsTrue, take-append-drop}
use Rattle.std.proofs.lemmas.Bool.{and_parts, leb-true, eqb-true}
use Rattle.std.proofs.lemmas.Slice.Eq.{bytes_eq-Decides}
use Rattle.std.specs.Char.{is_ascii_digit}
use Rattle.std.specs.List.{list_all, list_any, AllByRecursion}
use Rattle.ios_words.specs.declared.names.Before.TheVariants.{Start, Zero, Digit}
use Rattle.ios_words.specs.Names.{is_unit, is_of_kind, is_face_name, NamesHaveTheirForm}
use Rattle.arc_base.specs.NameForms.{is_name_byte, is_name, face_kinds, IsUnit, IsName, IsFaceName}
use Rattle.ios_words.specs.Units.{complete}
use Rattle.ios_words.proofs.Units.{complete-unit}

all-each : (p : ℕ → Bool) (xs : List ℕ) → list_all p xs ≡ true → AllByRecursion (λ x. IsTrue (p x)) xs
all-each p [] e = tt
all-each p (x ∷ xs) e = let parts = and_parts _ _ e in (parts.0, all-each p xs parts.1)

name_form : (name : List ℕ) → IsTrue (is_name name) → IsName name
name_form name e =
    let outer = and_parts _ _ e in
    let inner = and_parts _ _ outer.0 in
    record { some = leb-true _ _ inner.0; few = leb-true _ _ inner.1; bytes = all-each is_name_byte name outer.1 }

-- some element passes
any-step : (p : List ℕ → Bool) (x : List ℕ) (xs : List (List ℕ)) → list_any p (x ∷ xs) ≡ true →
    (list_any p xs ≡ true → (y : List ℕ) × Contains xs y × (p y ≡ true)) → (b : Bool) → p x ≡ b → (y : List ℕ) × Contains (x ∷ xs) y × (p y ≡ true)
any-step p x xs e later true is = (x, (0, omega arith, refl), is)
any-step p x xs e later false is = let rest = later (rw is at e) in (rest.0, (suc rest.1.0, (let low = rest.1.1 in omega arith), rest.1.2), rest.2)

any-some : (p : List ℕ → Bool) (xs : List (List ℕ)) → list_any p xs ≡ true → (y : List ℕ) × Contains xs y × (p y ≡ true)
any-some p [] e = absurd (true≢false (sym e))
any-some p (x ∷ xs) e = any-step p x xs e (any-some p xs) (p x) refl

-- the bytes after a byte
start_step : (c : ℕ) (text : List ℕ) → (IsTrue (is_ascii_digit c) → complete Zero text ≡ true → IsUnit (c ∷ text)) → (IsTrue (is_ascii_digit c) → complete Digit text ≡ true → IsUnit (c ∷ text)) →
    (b d : Bool) → (c == 48) ≡ b → is_ascii_digit c ≡ d → complete Start (c ∷ text) ≡ true → IsUnit (c ∷ text)
start_step c text after_zero after_digit true d is digit e = after_zero (subst (λ v. is_ascii_digit v ≡ true) (sym (eqb-true c 48 is)) refl) (rw is at e)
start_step c text after_zero after_digit false true is digit e = after_digit digit (rw (is, digit) at e)
start_step c text after_zero after_digit false false is digit e = absurd (true≢false (sym (rw (is, digit) at e)))

zero_step : (b c : ℕ) (text : List ℕ) → IsTrue (is_ascii_digit b) → (complete Start text ≡ true → IsUnit text) → (s : Bool) → (c == 47) ≡ s → complete Zero (c ∷ text) ≡ true → IsUnit (b ∷ c ∷ text)
zero_step b c text first start true is e = (first, inr (eqb-true c 47 is, start (rw is at e)))
zero_step b c text first start false is e = absurd (true≢false (sym (rw is at e)))

digit_step : (b c : ℕ) (text : List ℕ) → IsTrue (is_ascii_digit b) → (complete Start text ≡ true → IsUnit text) → (IsTrue (is_ascii_digit c) → complete Digit text ≡ true → IsUnit (c ∷ text)) →
    (s d : Bool) → (c == 47) ≡ s → is_ascii_digit c ≡ d → complete Digit (c ∷ text) ≡ true → IsUnit (b ∷ c ∷ text)
digit_step b c text first start more true d is digit e = (first, inr (eqb-true c 47 is, start (rw is at e)))
digit_step b c text first start more false true is digit e = (first, inl (more digit (rw (is, digit) at e)))
digit_step b c text first start more false false is digit e = absurd (true≢false (sym (rw (is, digit) at e)))

-- bytes that complete numbers joined by slashes are such
pub record Completed (text : List ℕ) : Type 0 where
  pub start : complete Start text ≡ true → IsUnit text
  pub after_zero : (b : ℕ) → IsTrue (is_ascii_digit b) → complete Zero text ≡ true → IsUnit (b ∷ text)
  pub after_digit : (b : ℕ) → IsTrue (is_ascii_digit b) → complete Digit text ≡ true → IsUnit (b ∷ text)

completed : (text : List ℕ) → Completed text
completed [] = record { start = λ e. absurd (true≢false (sym e)); after_zero = λ b first e. first; after_digit = λ b first e. first }
completed (c ∷ text) =
    let rest = completed text in
    record {
      start = start_step c text (rest.after_zero c) (rest.after_digit c) (c == 48) (is_ascii_digit c) refl refl;
      after_zero = λ b first. zero_step b c text first rest.start (c == 47) refl;
      after_digit = λ b first. digit_step b c text first rest.start (rest.after_digit c) (c == 47) (is_ascii_digit c) refl refl;
    }

unit_form : (text : List ℕ) → is_unit text ≡ true → IsUnit text
unit_form text e = (completed text).start (complete-unit text ∙ e)

face_form : (name : List ℕ) → IsTrue (is_face_name name) → IsFaceName name
face_form name e =
    let parts = and_parts _ _ e in
    let (kind, known, of) = any-some (is_of_kind name) face_kinds parts.1 in
    let both = and_parts _ _ of in
    let front : take (length kind) name ≡ kind = (bytes_eq-Decides (take (length kind) name) kind).0 both.0 in
    record {
      kind = kind;
      unit = drop (length kind) name;
      known = known;
      numbers = unit_form (drop (length kind) name) both.1;
      joined = sym (take-append-drop (length kind) name) ∙ ap (λ t. t ++ drop (length kind) name) front;
      few = leb-true _ _ parts.0;
    }

pub names_formed : NamesHaveTheirForm
names_formed name = (name_form name, face_form name)
