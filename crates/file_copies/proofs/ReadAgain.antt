-- What is left once the copies of changed files are written.
use Rattle.std.proofs.Common.{◌≡◌, ℕ, ◌-◌, Bool, true, false, cond, Option, Some, None, List, [], ◌∷◌, length, map, refl, sym, ◌∙◌, subst, min, arith}
use Rattle.std.specs.Prelude.{◌||◌, bytes_eq, All, Contains, unwrap_or}
use Rattle.std.specs.List.{list_any, AllZip}
use Rattle.std.proofs.lemmas.Bool.{or_from, or_parts}
use Rattle.std.proofs.lemmas.List.Elements.{All-cons, All-nil}
use Rattle.arc_base.proofs.Items.{Contains-head, Contains-tail}
use Rattle.arc_outside.specs.Files.{Files, with_file, with_files}
use Rattle.arc_outside.proofs.OnShelf.{held_before}
use Rattle.net_model.specs.declared.policies.Document.{Document}
use Rattle.net_build.specs.declared.built.Built.{Built}
use Rattle.edit_list.specs.declared.edit_kinds.Edit.{Edit}
use Rattle.file_copies.specs.Outputs.{copy_name, copy_names, copies, clashes, IsLeft}
use Rattle.file_copies.proofs.Left.{copies_left}
use Rattle.run_files.specs.declared.outcome.FileRefusal.{FileRefusal}
use Rattle.run_files.specs.declared.limits.Limits.TheVariants.{Editing}
use Rattle.run_files.specs.Limits.{router_limit, routers_limit}
use Rattle.run_files.specs.Refusals.{bytes_at, first_refusal, read_refusal, refusal_within}
use Rattle.run_files.proofs.OneAnswer.{first_none, second_none}
use Rattle.run_inputs.specs.Inputs.{HoldsInput, contents}
use Rattle.file_copies.specs.Changes.{changed_names, Changes, ChangesAreLeft, IsEditable}

-- ---- names that clash with none

-- outputs that clash with no input clash with none of fewer inputs
pub fewer_inputs : (input : List ℕ) (inputs outputs : List (List ℕ)) → clashes (input ∷ inputs) outputs ≡ false → clashes inputs outputs ≡ false
fewer_inputs input inputs [] free = refl
fewer_inputs input inputs (name ∷ outputs) free =
    let is : List ℕ → Bool = λ other. bytes_eq other name in
    let parts = or_parts (list_any is (input ∷ inputs)) (list_any is outputs || clashes (input ∷ inputs) outputs) free in
    let first = or_parts (is input) (list_any is inputs) parts.0 in
    let rest = or_parts (list_any is outputs) (clashes (input ∷ inputs) outputs) parts.1 in
    or_from (list_any is inputs) (list_any is outputs || clashes inputs outputs) first.1
    (or_from (list_any is outputs) (clashes inputs outputs) rest.0 (fewer_inputs input inputs outputs rest.1))

-- ---- files that are held

held_bytes : (limit : ℕ) (name : List ℕ) (o : Option (List ℕ)) → refusal_within limit name o ≡ None → o ≡ Some (unwrap_or o [])
held_bytes limit name None e = absurd (cc)
held_bytes limit name (Some bytes) e = refl

all_held : (most room : ℕ) (files : Files) (names : List (List ℕ)) → first_refusal most room files names ≡ None
    → AllZip (λ name old. files name ≡ Some old) names (map (bytes_at files) names)
all_held most room files [] e = tt
all_held most room files (name ∷ names) e =
    let rest : Option FileRefusal = first_refusal most (room - length (bytes_at files name)) files names in (
      held_bytes (min most room) name (files name) (first_none (read_refusal (min most room) files name) rest e),
      all_held most (room - length (bytes_at files name)) files names (second_none (read_refusal (min most room) files name) rest e),
    )

as_many : (olds news : List (List ℕ)) → length news ≡ length olds → AllZip (λ (old new : List ℕ). Unit {0}) olds news
as_many [] [] e = tt
as_many [] (new ∷ news) e = absurd (omega (arith, e))
as_many (old ∷ olds) [] e = absurd (omega (arith, e))
as_many (old ∷ olds) (new ∷ news) e = (tt, as_many olds news (omega (arith, e)))

pub texts_left : (suffix document : List ℕ) (before : Files) (doc : Document) (built : Built) (chosen : List Edit) (writes : List (List ℕ × List ℕ)) →
    HoldsInput Editing [] document before doc built.net
    → IsEditable doc built (contents before doc) → clashes (document ∷ doc.routers) (copy_names suffix doc.routers) ≡ false → (changes : Changes suffix doc built (contents before doc) chosen writes)
    → AllZip (IsLeft suffix before (with_files writes before)) doc.routers changes.new
texts_left suffix document before doc built chosen writes input editable free changes =
    let P : List (List ℕ × List ℕ) → Type 0 = λ pairs. AllZip (IsLeft suffix before (with_files pairs before)) doc.routers changes.new in
    subst P (sym changes.writes_are)
    (copies_left suffix doc.routers (contents before doc) changes.new before editable.well_formed.routers_differ
    (fewer_inputs document doc.routers (copy_names suffix doc.routers) free)
    (all_held (router_limit Editing) (routers_limit Editing) before doc.routers input.files_are.held)
    (as_many (contents before doc) changes.new changes.patched.whole))

pub changes_left : ChangesAreLeft
changes_left suffix document before doc built chosen writes input editable free changes =
    record { new = changes.new; patched = changes.patched; left = texts_left suffix document before doc built chosen writes input editable free changes }

-- ---- all other files

abbrev name_written : List ℕ × List ℕ → List ℕ
name_written write = write.0

-- a name that is not written holds what it held
others_kept : (writes : List (List ℕ × List ℕ)) (q : List ℕ) → ¬ Contains (map name_written writes) q → (files : Files) → with_files writes files q ≡ files q
others_kept [] q none files = refl
others_kept (write ∷ writes) q none files =
    let P : List ℕ → Type 0 = λ n. Contains (map name_written (write ∷ writes)) n in
    others_kept writes q (λ within. none (Contains-tail write.0 q (map name_written writes) within)) (with_file files write.0 write.1)
    ∙ held_before files write.0 write.1 q (λ same. none (subst P same (Contains-head write.0 (map name_written writes))))

-- a name that is not that of the copy of a changed file holds what it held
pub unchanged_kept : (suffix : List ℕ) (doc : Document) (built : Built) (chosen : List Edit) (writes : List (List ℕ × List ℕ)) (files : Files)
    (changes : Changes suffix doc built (contents files doc) chosen writes)
    (q : List ℕ) → ¬ Contains (changed_names suffix doc files changes.new) q → with_files writes files q ≡ files q
unchanged_kept suffix doc built chosen writes files changes q none =
    let P : List (List ℕ × List ℕ) → Type 0 = λ pairs. with_files pairs files q ≡ files q in
    subst P (sym changes.writes_are) (others_kept (copies suffix doc.routers (contents files doc) changes.new) q none files)

module _ (suffix : List ℕ) where
  -- what holds of each copy's name holds of each name that is written
  module _ (P : List ℕ → Type 0) (of_copy : (name : List ℕ) → P (copy_name suffix name)) where
    abbrev Named : List ℕ × List ℕ → Type 0
    Named write = P write.0

    one_named : (same : Bool) (pair : List ℕ × List ℕ) (rest : List (List ℕ × List ℕ)) → Named pair → All Named rest → All Named (cond same rest (pair ∷ rest))
    one_named true pair rest here all = all
    one_named false pair rest here all = All-cons Named pair rest here all

    pub copies_named : (names olds news : List (List ℕ)) → All Named (copies suffix names olds news)
    copies_named [] olds news = All-nil Named
    copies_named (x ∷ names) [] news = All-nil Named
    copies_named (x ∷ names) (y ∷ olds) [] = All-nil Named
    copies_named (x ∷ names) (y ∷ olds) (z ∷ news) = one_named (bytes_eq y z) (copy_name suffix x, z) (copies suffix names olds news) (of_copy x) (copies_named names olds news)
