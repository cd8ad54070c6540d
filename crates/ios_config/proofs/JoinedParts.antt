-- The parts of commands where one stands among others.
use Rattle.std.proofs.Common.{◌≡◌, ℕ, ◌==◌, ◌||◌, not, Bool, true, false, cond, List, [], ◌∷◌, ◌++◌, map, filter, refl, sym, ap, append_assoc, subst, ◌∙◌, arith, ⊎_elim}
use Rattle.std.proofs.lemmas.Bool.{cases_Bool, cases_eq, cases_lt, eq-eqb, ne_eqb, cond-true, cond-false, or_parts}
use Rattle.std.proofs.lemmas.List.Elements.{filter-append}
use Rattle.std.specs.List.{list_any}
use Rattle.ios_lines.specs.Changes.{moved}
use Rattle.ios_lines.proofs.Insertions.{moved-low, moved-high}
use Rattle.ios_config.specs.declared.commands.FileCommand.{FileCommand}
use Rattle.ios_words.specs.declared.commands.Command.{Command}
use Rattle.ios_words.specs.declared.commands.Command.TheVariants.{ListLine, PrefixLine}
use Rattle.ios_config.specs.Groups.{Part, Block, Lines, PrefixLines, is_same, part_in, part_of, distinct}
use Rattle.ios_config.specs.Inserted.{command_moved}
use Rattle.ios_config.specs.Joined.{part_moved}
use Rattle.ios_config.proofs.PartLists.{is_same-Decides, others}

-- the part of a command whose numbers are moved
part-in : (place block : ℕ) (command : Command) → part_in (moved place block) command ≡ part_moved place (part_in block command)
part-in place block (ListLine name entry) = refl
part-in place block (PrefixLine name number entry) = refl
part-in place block _ = refl

pub part-moved : (place : ℕ) (c : FileCommand) → part_of (command_moved place c) ≡ part_moved place (part_of c)
part-moved place c = part-in place c.block c.command

-- different numbers stay different
moved-apart : (place a b : ℕ) → (a ≡ b → ⊥) → moved place a ≡ moved place b → ⊥
moved-apart place a b other same = ⊎_elim
    (λ high. ⊎_elim
    (λ also. let one = moved-high place a high in let two = moved-high place b also in let e : a ≡ b = omega arith in other e)
    (λ low. let one = moved-high place a high in let two = moved-low place b low in omega arith)
    (cases_lt place b))
    (λ low. ⊎_elim
    (λ also. let one = moved-low place a low in let two = moved-high place b also in omega arith)
    (λ both. let one = moved-low place a low in let two = moved-low place b both in let e : a ≡ b = omega arith in other e)
    (cases_lt place b))
    (cases_lt place a)

moved-test : (place a b : ℕ) → (moved place a == moved place b) ≡ (a == b)
moved-test place a b = ⊎_elim
    (λ same. eq-eqb (moved place a) (moved place b) (ap (moved place) same) ∙ sym (eq-eqb a b same))
    (λ other. ne_eqb (moved place a) (moved place b) (moved-apart place a b other) ∙ sym (ne_eqb a b other))
    (cases_eq a b)

pub same-moved : (place : ℕ) (p q : Part) → is_same (part_moved place p) (part_moved place q) ≡ is_same p q
same-moved place (Block a) (Block b) = moved-test place a b
same-moved place (Block a) (Lines b) = refl
same-moved place (Block a) (PrefixLines b) = refl
same-moved place (Lines a) (Block b) = refl
same-moved place (Lines a) (Lines b) = refl
same-moved place (Lines a) (PrefixLines b) = refl
same-moved place (PrefixLines a) (Block b) = refl
same-moved place (PrefixLines a) (Lines b) = refl
same-moved place (PrefixLines a) (PrefixLines b) = refl

-- what is left of a list by two tests, in either order
filter-twice : (p q : Part → Bool) (x : Part) (xs : List Part) (a b : Bool) → p x ≡ a → q x ≡ b → filter p (filter q xs) ≡ filter q (filter p xs) →
    filter p (filter q (x ∷ xs)) ≡ filter q (filter p (x ∷ xs))
filter-twice p q x xs true true one two rest =
    ap (filter p) (cond-true (q x) (x ∷ filter q xs) (filter q xs) two) ∙ cond-true (p x) (x ∷ filter p (filter q xs)) (filter p (filter q xs)) one ∙ ap (λ r. x ∷ r) rest
    ∙ sym (ap (filter q) (cond-true (p x) (x ∷ filter p xs) (filter p xs) one) ∙ cond-true (q x) (x ∷ filter q (filter p xs)) (filter q (filter p xs)) two)
filter-twice p q x xs true false one two rest =
    ap (filter p) (cond-false (q x) (x ∷ filter q xs) (filter q xs) two) ∙ rest
    ∙ sym (ap (filter q) (cond-true (p x) (x ∷ filter p xs) (filter p xs) one) ∙ cond-false (q x) (x ∷ filter q (filter p xs)) (filter q (filter p xs)) two)
filter-twice p q x xs false true one two rest =
    ap (filter p) (cond-true (q x) (x ∷ filter q xs) (filter q xs) two) ∙ cond-false (p x) (x ∷ filter p (filter q xs)) (filter p (filter q xs)) one ∙ rest
    ∙ sym (ap (filter q) (cond-false (p x) (x ∷ filter p xs) (filter p xs) one))
filter-twice p q x xs false false one two rest =
    ap (filter p) (cond-false (q x) (x ∷ filter q xs) (filter q xs) two) ∙ rest ∙ sym (ap (filter q) (cond-false (p x) (x ∷ filter p xs) (filter p xs) one))

filter-comm : (p q : Part → Bool) (xs : List Part) → filter p (filter q xs) ≡ filter q (filter p xs)
filter-comm p q [] = refl
filter-comm p q (x ∷ xs) = filter-twice p q x xs (p x) (q x) refl refl (filter-comm p q xs)

filter-again-step : (p : Part → Bool) (x : Part) (xs : List Part) (a : Bool) → p x ≡ a → filter p (filter p xs) ≡ filter p xs → filter p (filter p (x ∷ xs)) ≡ filter p (x ∷ xs)
filter-again-step p x xs true one rest =
    let first = cond-true (p x) (x ∷ filter p xs) (filter p xs) one in
    ap (filter p) first ∙ cond-true (p x) (x ∷ filter p (filter p xs)) (filter p (filter p xs)) one ∙ ap (λ r. x ∷ r) rest ∙ sym first
filter-again-step p x xs false one rest = let first = cond-false (p x) (x ∷ filter p xs) (filter p xs) one in ap (filter p) first ∙ rest ∙ sym first

filter-again : (p : Part → Bool) (xs : List Part) → filter p (filter p xs) ≡ filter p xs
filter-again p [] = refl
filter-again p (x ∷ xs) = filter-again-step p x xs (p x) refl (filter-again p xs)

pub is-self : (p : Part) → is_same p p ≡ true
is-self p = (is_same-Decides p p).1 refl

-- a part that stands among others is the same as none where it is left aside
others-once : (y : Part) (xs zs : List Part) → others y (distinct (xs ++ y ∷ zs)) ≡ others y (distinct (xs ++ zs))
others-once y [] zs = cond-false (not (is_same y y)) (y ∷ others y (others y (distinct zs))) (others y (others y (distinct zs))) (ap not (is-self y))
    ∙ filter-again (λ q. not (is_same y q)) (distinct zs)
others-once y (x ∷ xs) zs =
    let test : Part → Bool = λ q. not (is_same y q) in
    let inner : others y (others x (distinct (xs ++ y ∷ zs))) ≡ others y (others x (distinct (xs ++ zs))) =
    filter-comm test (λ q. not (is_same x q)) (distinct (xs ++ y ∷ zs)) ∙ ap (others x) (others-once y xs zs) ∙ filter-comm (λ q. not (is_same x q)) test (distinct (xs ++ zs)) in
    ap (λ r. cond (test x) (x ∷ r) r) inner

-- a part that stood before adds none
pub distinct-old : (y : Part) (xs zs : List Part) → list_any (is_same y) xs ≡ true → distinct (xs ++ y ∷ zs) ≡ distinct (xs ++ zs)
distinct-old y [] zs has = absurd cc
distinct-old y (x ∷ xs) zs has = ⊎_elim
    (λ here.
    let same : y ≡ x = (is_same-Decides y x).0 here in
    ap (λ r. x ∷ r) (subst (λ (z : Part). others z (distinct (xs ++ y ∷ zs)) ≡ others z (distinct (xs ++ zs))) same (others-once y xs zs)))
    (λ other.
    let later : list_any (is_same y) xs ≡ true = sym (ap (λ b. b || list_any (is_same y) xs) other) ∙ has in
    ap (λ ps. x ∷ others x ps) (distinct-old y xs zs later))
    (cases_Bool (is_same y x))

any-last : (y : Part) (xs : List Part) → list_any (is_same y) (xs ++ y ∷ []) ≡ true
any-last y [] = ap (λ b. b || false) (is-self y)
any-last y (x ∷ xs) = either (is_same y x) (list_any (is_same y) (xs ++ y ∷ [])) (any-last y xs)
  where
    either : (a b : Bool) → b ≡ true → (a || b) ≡ true
    either true b is = refl
    either false b is = is

-- nor does one that stands right after it
pub distinct-next : (y : Part) (xs zs : List Part) → distinct (xs ++ y ∷ y ∷ zs) ≡ distinct (xs ++ y ∷ zs)
distinct-next y xs zs = ap distinct (sym (append_assoc xs (y ∷ []) (y ∷ zs))) ∙ distinct-old y (xs ++ y ∷ []) zs (any-last y xs) ∙ ap distinct (append_assoc xs (y ∷ []) zs)

-- the parts with their numbers moved
others-step : (place : ℕ) (p x : Part) (xs : List Part) (b : Bool) → filter (λ q. not (is_same (part_moved place p) q)) (map (part_moved place) xs) ≡ map (part_moved place) (others p xs) →
    cond b (part_moved place x ∷ filter (λ q. not (is_same (part_moved place p) q)) (map (part_moved place) xs))
    (filter (λ q. not (is_same (part_moved place p) q)) (map (part_moved place) xs)) ≡ map (part_moved place) (cond b (x ∷ others p xs) (others p xs))
others-step place p x xs true rest = ap (λ r. part_moved place x ∷ r) rest
others-step place p x xs false rest = rest

others-moved : (place : ℕ) (p : Part) (xs : List Part) → others (part_moved place p) (map (part_moved place) xs) ≡ map (part_moved place) (others p xs)
others-moved place p [] = refl
others-moved place p (x ∷ xs) =
    ap (λ b. cond (not b) (part_moved place x ∷ others (part_moved place p) (map (part_moved place) xs)) (others (part_moved place p) (map (part_moved place) xs))) (same-moved place p x)
    ∙ others-step place p x xs (not (is_same p x)) (others-moved place p xs)

pub distinct-moved : (place : ℕ) (ps : List Part) → distinct (map (part_moved place) ps) ≡ map (part_moved place) (distinct ps)
distinct-moved place [] = refl
distinct-moved place (p ∷ ps) = ap (λ r. part_moved place p ∷ others (part_moved place p) r) (distinct-moved place ps) ∙ ap (λ r. part_moved place p ∷ r) (others-moved place p (distinct ps))

pub any-moved : (place : ℕ) (p : Part) (ps : List Part) → list_any (is_same (part_moved place p)) (map (part_moved place) ps) ≡ list_any (is_same p) ps
any-moved place p [] = refl
any-moved place p (q ∷ ps) = ap (λ b. b || list_any (is_same (part_moved place p)) (map (part_moved place) ps)) (same-moved place p q) ∙ ap (λ b. is_same p q || b) (any-moved place p ps)

-- a new part stands somewhere among the others
pub record StandsAmong (y : Part) (old new : List Part) : Type 0 where
  pub before : List Part
  pub after : List Part
  pub was : old ≡ before ++ after
  pub is : new ≡ before ++ y ∷ after

pub others-none : (y : Part) (ps : List Part) → list_any (is_same y) ps ≡ false → others y ps ≡ ps
others-none y [] none = refl
others-none y (p ∷ ps) none =
    let parts = or_parts (is_same y p) (list_any (is_same y) ps) none in
    cond-true (not (is_same y p)) (p ∷ others y ps) (others y ps) (ap not parts.0) ∙ ap (λ r. p ∷ r) (others-none y ps parts.1)

pub other-way : (x y : Part) → is_same y x ≡ false → is_same x y ≡ false
other-way x y apart = ⊎_elim
    (λ same. let back : is_same y x ≡ true = ap (λ (z : Part). is_same y z) ((is_same-Decides x y).0 same) ∙ is-self y in absurd cc)
    (λ other. other)
    (cases_Bool (is_same x y))

-- a part that is none of the others
pub any-append : (p : Part → Bool) (xs ys : List Part) → list_any p (xs ++ ys) ≡ false → (list_any p xs ≡ false) × (list_any p ys ≡ false)
any-append p [] ys none = (refl, none)
any-append p (x ∷ xs) ys none =
    let parts = or_parts (p x) (list_any p (xs ++ ys)) none in
    let deeper = any-append p xs ys parts.1 in
    (ap (λ b. b || list_any p xs) parts.0 ∙ deeper.0, deeper.1)

pub any-others : (y x : Part) (ps : List Part) → list_any (is_same y) ps ≡ false → list_any (is_same y) (others x ps) ≡ false
any-others y x [] none = refl
any-others y x (p ∷ ps) none =
    let parts = or_parts (is_same y p) (list_any (is_same y) ps) none in
    let rest = any-others y x ps parts.1 in
    choice (not (is_same x p)) p (others x ps) parts.0 rest
  where
    choice : (b : Bool) (p : Part) (qs : List Part) → is_same y p ≡ false → list_any (is_same y) qs ≡ false → list_any (is_same y) (cond b (p ∷ qs) qs) ≡ false
    choice true p qs one two = ap (λ b. b || list_any (is_same y) qs) one ∙ two
    choice false p qs one two = two

pub any-distinct : (y : Part) (ps : List Part) → list_any (is_same y) ps ≡ false → list_any (is_same y) (distinct ps) ≡ false
any-distinct y [] none = refl
any-distinct y (p ∷ ps) none =
    let parts = or_parts (is_same y p) (list_any (is_same y) ps) none in
    ap (λ b. b || list_any (is_same y) (others p (distinct ps))) parts.0 ∙ any-others y p (distinct ps) (any-distinct y ps parts.1)

pub distinct-new : (y : Part) (xs zs : List Part) → list_any (is_same y) (xs ++ zs) ≡ false → StandsAmong y (distinct (xs ++ zs)) (distinct (xs ++ y ∷ zs))
distinct-new y [] zs none = record { before = []; after = distinct zs; was = refl; is = ap (λ r. y ∷ r) (others-none y (distinct zs) (any-distinct y zs none)) }
distinct-new y (x ∷ xs) zs none =
    let parts = or_parts (is_same y x) (list_any (is_same y) (xs ++ zs)) none in
    let deeper = distinct-new y xs zs parts.1 in
    let keeps : not (is_same x y) ≡ true = ap not (other-way x y parts.0) in
    record {
      before = x ∷ others x deeper.before;
      after = others x deeper.after;
      was = ap (λ ps. x ∷ others x ps) deeper.was ∙ ap (λ r. x ∷ r) (filter-append (λ q. not (is_same x q)) deeper.before deeper.after);
      is = ap (λ ps. x ∷ others x ps) deeper.is ∙ ap (λ r. x ∷ r) (filter-append (λ q. not (is_same x q)) deeper.before (y ∷ deeper.after))
          ∙ ap (λ r. x ∷ (others x deeper.before ++ r)) (cond-true (not (is_same x y)) (y ∷ others x deeper.after) (others x deeper.after) keeps);
    }
