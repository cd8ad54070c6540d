-- One more file is written after the copies, under a name that is none of theirs and of no file that was read.
use Rattle.std.proofs.Common.{◌≡◌, ℕ, inl, inr, Bool, false, cond, Some, List, [], ◌∷◌, ◌++◌, refl, sym, ◌∙◌, ap}
use Rattle.std.specs.Prelude.{◌||◌, bytes_eq, Contains}
use Rattle.std.specs.List.{list_any, AllZip}
use Rattle.std.proofs.lemmas.Bool.{false≢true, or_from, or_parts}
use Rattle.std.proofs.lemmas.List.Folds.{list_any-append}
use Rattle.arc_base.proofs.Items.{Contains-head, Contains-tail, Contains-cases, Contains-none, Contains-map}
use Rattle.arc_outside.specs.Files.{Files, with_file}
use Rattle.arc_outside.proofs.OnShelf.{held_before}
use Rattle.net_model.specs.declared.policies.Document.{Document}
use Rattle.file_copies.specs.Outputs.{copy_name, copy_names, clashes, IsLeft}
use Rattle.file_copies.proofs.Copied.{texts_same}

-- ---- what is written is held

pub is_written : (files : Files) (name bytes : List ℕ) → with_file files name bytes name ≡ Some bytes
is_written files name bytes = ap (λ (b : Bool). cond b (Some bytes) (files name)) (texts_same name name refl)

-- ---- names that are free

pub none_is : (names : List (List ℕ)) (output name : List ℕ) → list_any (λ other. bytes_eq other output) names ≡ false → Contains names name → name ≡ output → ⊥
none_is [] output name none within same = Contains-none name within
none_is (x ∷ names) output name none within same =
    let parts = or_parts (bytes_eq x output) (list_any (λ other. bytes_eq other output) names) none in
    elim (Contains-cases x name names within) [
      | inl here ↦ false≢true (sym parts.0 ∙ texts_same x output (here ∙ same))
      | inr later ↦ none_is names output name parts.1 later same
    ]

-- the last of outputs that do not clash differs from the others and from each input, and the others do not clash
pub record IsFreeLast (inputs outputs : List (List ℕ)) (last : List ℕ) : Type 0 where
  pub others : clashes inputs outputs ≡ false
  pub of_inputs : (name : List ℕ) → Contains inputs name → name ≡ last → ⊥
  pub of_outputs : (name : List ℕ) → Contains outputs name → name ≡ last → ⊥

pub free_last : (inputs outputs : List (List ℕ)) (last : List ℕ) → clashes inputs (outputs ++ last ∷ []) ≡ false → IsFreeLast inputs outputs last
free_last inputs [] last free =
    let parts = or_parts (list_any (λ other. bytes_eq other last) inputs) (list_any (λ other. bytes_eq other last) [] || clashes inputs []) free in
    record { others = refl; of_inputs = λ name within same. none_is inputs last name parts.0 within same; of_outputs = λ name within same. Contains-none name within }
free_last inputs (x ∷ outputs) last free =
    let is : List ℕ → Bool = λ other. bytes_eq other x in
    let parts = or_parts (list_any is inputs) (list_any is (outputs ++ last ∷ []) || clashes inputs (outputs ++ last ∷ [])) free in
    let rest = or_parts (list_any is (outputs ++ last ∷ [])) (clashes inputs (outputs ++ last ∷ [])) parts.1 in
    let later = free_last inputs outputs last rest.1 in
    let both = or_parts (list_any is outputs) (list_any is (last ∷ [])) (sym (list_any-append is outputs (last ∷ [])) ∙ rest.0) in
    let apart = or_parts (is last) (list_any is []) both.1 in
    record {
      others = or_from (list_any is inputs) (list_any is outputs || clashes inputs outputs) parts.0 (or_from (list_any is outputs) (clashes inputs outputs) both.0 later.others);
      of_inputs = later.of_inputs;
      of_outputs = λ name within same. elim (Contains-cases x name outputs within) [
        | inl here ↦ false≢true (sym apart.0 ∙ texts_same last x (sym same ∙ sym here))
        | inr behind ↦ later.of_outputs name behind same
      ];
    }

-- ---- what is left stays left

module _ (suffix : List ℕ) (before after : Files) (name bytes : List ℕ) where
  one_left : (q text : List ℕ) → (copy_name suffix q ≡ name → ⊥) → (q ≡ name → ⊥) → IsLeft suffix before after q text → IsLeft suffix before (with_file after name bytes) q text
  one_left q text copy own (inl changed) = inl (held_before after name bytes (copy_name suffix q) (λ e. copy (sym e)) ∙ changed)
  one_left q text copy own (inr same) = inr (same.0, held_before after name bytes q (λ e. own (sym e)) ∙ same.1)

  all_left : (names texts : List (List ℕ)) → ((q : List ℕ) → Contains names q → copy_name suffix q ≡ name → ⊥) → ((q : List ℕ) → Contains names q → q ≡ name → ⊥)
      → AllZip (IsLeft suffix before after) names texts → AllZip (IsLeft suffix before (with_file after name bytes)) names texts
  all_left [] [] copy own left = tt
  all_left [] (t ∷ texts) copy own left = absurd left
  all_left (q ∷ names) [] copy own left = absurd left
  all_left (q ∷ names) (t ∷ texts) copy own left = (
    one_left q t (copy q (Contains-head q names)) (own q (Contains-head q names)) left.0,
    all_left names texts (λ n within. copy n (Contains-tail q n names within)) (λ n within. own n (Contains-tail q n names within)) left.1,
  )

  -- the router files are left as before
  pub still_left : (document : List ℕ) (doc : Document) (texts : List (List ℕ)) → IsFreeLast (document ∷ doc.routers) (copy_names suffix doc.routers) name
      → AllZip (IsLeft suffix before after) doc.routers texts → AllZip (IsLeft suffix before (with_file after name bytes)) doc.routers texts
  still_left document doc texts free left =
      all_left doc.routers texts (λ q within. free.of_outputs (copy_name suffix q) (Contains-map (copy_name suffix) doc.routers q within))
      (λ q within. free.of_inputs q (Contains-tail document q doc.routers within)) left
