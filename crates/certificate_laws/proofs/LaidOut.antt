-- Generated files that are written under their names are what the commands over a document read.
use Rattle.std.proofs.Common.{◌≡◌, ◌∙◌, ℕ, suc, ◌*◌, ◌-◌, ◌≤◌, false, List, [], ◌∷◌, map, length, refl, ap, ap₂, arith}
use Rattle.std.proofs.lemmas.Bool.{le-ltb}
use Rattle.std.specs.Prelude.{All, Option, Some, None, min, nat_lt, unwrap_or}
use Rattle.arc_outside.specs.Files.{Files}
use Rattle.run_files.specs.declared.outcome.FileRefusal.{FileRefusal}
use Rattle.run_files.specs.Refusals.{bytes_at, first_refusal, read_refusal, refusal_within}
use Rattle.std.specs.Option.{option_or}

first-same : {A : Type 0} (x y : A) (xs ys : List A) → x ∷ xs ≡ y ∷ ys → x ≡ y
first-same x y xs ys e = cc

rest-same : {A : Type 0} (x y : A) (xs ys : List A) → x ∷ xs ≡ y ∷ ys → xs ≡ ys
rest-same x y xs ys e = cc

-- the names hold the texts
pub held : (files : Files) (names texts : List (List ℕ)) → map files names ≡ map Some texts → map (bytes_at files) names ≡ texts
held files [] [] same = refl
held files [] (text ∷ texts) same = absurd (cc)
held files (name ∷ names) [] same = absurd (cc)
held files (name ∷ names) (text ∷ texts) same =
    ap₂ (λ (x : List ℕ) (xs : List (List ℕ)). x ∷ xs)
    (ap (λ (o : Option (List ℕ)). unwrap_or o []) (first-same (files name) (Some text) (map files names) (map Some texts) same))
    (held files names texts (rest-same (files name) (Some text) (map files names) (map Some texts) same))

-- a text within the limit is not refused
pub held-short : (limit : ℕ) (files : Files) (name text : List ℕ) → files name ≡ Some text → length text ≤ limit → read_refusal limit files name ≡ None
held-short limit files name text holds short =
    let fits : nat_lt limit (length text) ≡ false = le-ltb limit (length text) short in
    ap (refusal_within limit name) holds ∙ (rw fits refl)

-- short texts are not refused, if there is room for them all
pub none-refused : (most room : ℕ) (files : Files) (names texts : List (List ℕ)) → 8192 ≤ most → 8192 * length texts ≤ room → All (λ text. length text ≤ 8192) texts
    → map files names ≡ map Some texts → first_refusal most room files names ≡ None
none-refused most room files [] texts few space short same = refl
none-refused most room files (name ∷ names) [] few space short same = absurd (cc)
none-refused most room files (name ∷ names) (text ∷ texts) few space short same =
    let is : files name ≡ Some text = first-same (files name) (Some text) (map files names) (map Some texts) same in
    let one : length text ≤ 8192 = short 0 text (omega arith) in
    let within : length text ≤ min most room = omega (arith, one, few, space) in
    let bytes : bytes_at files name ≡ text = ap (λ (o : Option (List ℕ)). unwrap_or o []) is in
    let left : length (bytes_at files name) ≤ 8192 = omega (arith, one, ap (λ (t : List ℕ). length t) bytes) in
    ap (λ (o : Option FileRefusal). option_or o (first_refusal most (room - length (bytes_at files name)) files names)) (held-short (min most room) files name text is within)
    ∙ none-refused most (room - length (bytes_at files name)) files names texts few (omega (arith, left, space)) (λ k t at. short (suc k) t (omega (arith, at)))
    (rest-same (files name) (Some text) (map files names) (map Some texts) same)
