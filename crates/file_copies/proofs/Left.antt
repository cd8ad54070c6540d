-- What is left once the copies of changed files are written.
use Rattle.std.proofs.Common.{◌≡◌, ◌≢◌, ℕ, inl, inr, Bool, true, false, cond, Some, List, [], ◌∷◌, refl, sym, ◌∙◌, ap}
use Rattle.std.specs.Prelude.{bytes_eq, ◌||◌, AllPairs, Contains}
use Rattle.std.specs.List.{list_any, AllZip}
use Rattle.std.proofs.lemmas.Bool.{or_parts}
use Rattle.std.proofs.lemmas.List.{append_cancel_right}
use Rattle.arc_base.proofs.Items.{Contains-head, Contains-tail, Contains-cases, Contains-none, Contains-map, AllPairs-first, AllPairs-rest}
use Rattle.arc_outside.specs.Files.{Files, with_file, with_files}
use Rattle.arc_outside.proofs.OnShelf.{held_before}
use Rattle.file_copies.specs.Outputs.{copy_name, copy_names, copies, clashes, IsLeft, CopiesAreLeft}
use Rattle.file_copies.proofs.Copied.{same_texts}
use Rattle.file_copies.proofs.OneMore.{is_written, none_is}

free_of : (inputs outputs : List (List ℕ)) (input output : List ℕ) → clashes inputs outputs ≡ false → Contains outputs output → Contains inputs input → input ≡ output → ⊥
free_of inputs [] input output free of within same = Contains-none output of
free_of inputs (x ∷ outputs) input output free of within same =
    let parts = or_parts (list_any (λ other. bytes_eq other x) inputs) (list_any (λ other. bytes_eq other x) outputs || clashes inputs outputs) free in
    let rest = or_parts (list_any (λ other. bytes_eq other x) outputs) (clashes inputs outputs) parts.1 in
    elim (Contains-cases x output outputs of) [
      | inl here ↦ none_is inputs x input parts.0 within (same ∙ sym here)
      | inr later ↦ free_of inputs outputs input output rest.1 later within same
    ]

module _ (suffix : List ℕ) where
  step : (same : Bool) (pair : List ℕ × List ℕ) (rest : List (List ℕ × List ℕ)) (files : Files) (q : List ℕ) → (pair.0 ≡ q → ⊥) → ((now : Files) → with_files rest now q ≡ now q) →
      with_files (cond same rest (pair ∷ rest)) files q ≡ files q
  step true pair rest files q other keeps = keeps files
  step false pair rest files q other keeps = keeps (with_file files pair.0 pair.1) ∙ held_before files pair.0 pair.1 q other

  -- a name that is no copy's holds what it held
  untouched : (names olds news : List (List ℕ)) (q : List ℕ) → ((n : List ℕ) → Contains names n → copy_name suffix n ≡ q → ⊥) → (files : Files) →
      with_files (copies suffix names olds news) files q ≡ files q
  untouched [] olds news q other files = refl
  untouched (x ∷ names) [] news q other files = refl
  untouched (x ∷ names) (y ∷ olds) [] q other files = refl
  untouched (x ∷ names) (y ∷ olds) (z ∷ news) q other files =
      step (bytes_eq y z) (copy_name suffix x, z) (copies suffix names olds news) files q (other x (Contains-head x names))
      (untouched names olds news q (λ n within. other n (Contains-tail x n names within)))

  module _ (before : Files) (all : List (List ℕ)) (free : (m n : List ℕ) → Contains all m → Contains all n → copy_name suffix m ≡ n → ⊥) where
    abbrev Held : Files → List ℕ → List ℕ → Type 0
    Held files name old = (before name ≡ Some old) × (files name ≡ Some old)

    still_held : (x z : List ℕ) (files : Files) (names olds : List (List ℕ)) → Contains all x → ((n : List ℕ) → Contains names n → Contains all n) →
        AllZip (Held files) names olds → AllZip (Held (with_file files (copy_name suffix x) z)) names olds
    still_held x z files [] [] of within held = tt
    still_held x z files [] (o ∷ olds) of within held = held
    still_held x z files (n ∷ names) [] of within held = held
    still_held x z files (n ∷ names) (o ∷ olds) of within held = (
      (held.0.0, held_before files (copy_name suffix x) z n (free x n of (within n (Contains-head n names))) ∙ held.0.1),
      still_held x z files names olds of (λ m inside. within m (Contains-tail n m names inside)) held.1,
    )

    abbrev Others : List (List ℕ) → List (List ℕ) → List (List ℕ) → Type 0
    Others names olds news = (now : Files) → AllZip (Held now) names olds → AllZip (IsLeft suffix before (with_files (copies suffix names olds news) now)) names news

    one_left : (same : Bool) (x y z : List ℕ) (names olds news : List (List ℕ)) (files : Files) → bytes_eq y z ≡ same → Contains all x → ((n : List ℕ) → Contains names n → Contains all n) →
        AllPairs ◌≢◌ (x ∷ names) → Held files x y → AllZip (Held files) names olds → Others names olds news →
        AllZip (IsLeft suffix before (with_files (cond same (copies suffix names olds news) ((copy_name suffix x, z) ∷ copies suffix names olds news)) files)) (x ∷ names) (z ∷ news)
    one_left true x y z names olds news files e of within apart held rest others =
        let text : Some y ≡ Some z = ap (λ (t : List ℕ). Some t) (same_texts y z e) in (
          inr (held.0 ∙ text, untouched names olds news x (λ n inside. free n x (within n inside) of) files ∙ held.1 ∙ text),
          others files rest,
        )
    one_left false x y z names olds news files e of within apart held rest others =
        let now : Files = with_file files (copy_name suffix x) z in (
          inl (
              untouched names olds news (copy_name suffix x) (λ n inside same.
              AllPairs-first (λ (a : List ℕ) (b : List ℕ). a ≢ b) x n names apart inside (sym (append_cancel_right n x suffix same))) now
              ∙ is_written files (copy_name suffix x) z
              ),
          others now (still_held x z files names olds of within rest),
        )

    all_left : (names olds news : List (List ℕ)) (files : Files) → ((n : List ℕ) → Contains names n → Contains all n) → AllPairs ◌≢◌ names →
        AllZip (Held files) names olds → AllZip (λ (old new : List ℕ). Unit {0}) olds news → AllZip (IsLeft suffix before (with_files (copies suffix names olds news) files)) names news
    all_left [] [] [] files within apart held long = tt
    all_left [] [] (z ∷ news) files within apart held long = absurd long
    all_left [] (y ∷ olds) news files within apart held long = absurd held
    all_left (x ∷ names) [] news files within apart held long = absurd held
    all_left (x ∷ names) (y ∷ olds) [] files within apart held long = absurd long
    all_left (x ∷ names) (y ∷ olds) (z ∷ news) files within apart held long =
        let later : (n : List ℕ) → Contains names n → Contains all n = λ n inside. within n (Contains-tail x n names inside) in
        one_left (bytes_eq y z) x y z names olds news files refl (within x (Contains-head x names)) later apart held.0 held.1
        (λ now still. all_left names olds news now later (AllPairs-rest (λ (a : List ℕ) (b : List ℕ). a ≢ b) x names apart) still long.1)

held_twice : (before : Files) (names olds : List (List ℕ)) → AllZip (λ name old. before name ≡ Some old) names olds →
    AllZip (λ name old. (before name ≡ Some old) × (before name ≡ Some old)) names olds
held_twice before [] [] held = tt
held_twice before [] (y ∷ olds) held = held
held_twice before (x ∷ names) [] held = held
held_twice before (x ∷ names) (y ∷ olds) held = ((held.0, held.0), held_twice before names olds held.1)

pub copies_left : CopiesAreLeft
copies_left suffix names olds news before apart free held long =
    all_left suffix before names (λ m n of_m of_n same. free_of names (copy_names suffix names) n (copy_name suffix m) free (Contains-map (copy_name suffix) names m of_m) of_n (sym same))
    names olds news before (λ n within. within) apart (held_twice before names olds held) long
