-- The files that `repair` writes are none of those that it reads.
use Rattle.std.proofs.Common.{◌≡◌, ◌∙◌, ℕ, inl, inr, Bool, true, false, cond, List, [], ◌∷◌, map, refl, sym, ap, subst}
use Rattle.std.specs.Prelude.{◌||◌, bytes_eq, Contains}
use Rattle.std.specs.List.{list_any}
use Rattle.std.proofs.lemmas.Bool.{or_parts}
use Rattle.arc_base.proofs.Items.{All-from, Contains-cases, Contains-head, Contains-none, Contains-tail}
use Rattle.arc_outside.specs.Files.{Files, with_files}
use Rattle.arc_outside.proofs.OnShelf.{held_before, with_files-push}
use Rattle.net_model.specs.declared.policies.Document.{Document}
use Rattle.file_copies.specs.Outputs.{clashes, copies, copy_name, copy_names}
use Rattle.file_copies.proofs.OneMore.{IsFreeLast, free_last, none_is}
use Rattle.file_copies.proofs.ReadAgain.{unchanged_kept}
use Rattle.command_words.specs.declared.commands.RepairWords.{RepairWords}
use Rattle.run_files.specs.declared.limits.Limits.TheVariants.{Editing}
use Rattle.run_files.specs.declared.outcome.Done.{Done}
use Rattle.run_inputs.specs.Inputs.{HoldTheSame, contents}
use Rattle.run_inputs.proofs.Determined.{determined}
use Rattle.arc_repair.specs.declared.answer.Answer.{Answer}
use Rattle.arc_repair.specs.declared.answer.Answer.TheVariants.{Done as Claimed, Budget}
use Rattle.edit_list.specs.declared.claims.Claim.TheVariants.{Repaired, NoRepair}
use Rattle.repair_commands.specs.Repairs.{IsRepaired, Writes, WritesAnswer}

-- if names do not clash, no output is an input
apart : (inputs outputs : List (List ℕ)) (output input : List ℕ) → clashes inputs outputs ≡ false → Contains outputs output → Contains inputs input → input ≡ output → ⊥
apart inputs [] output input free there within same = Contains-none output there
apart inputs (o ∷ outputs) output input free there within same =
    let is : List ℕ → Bool = λ other. bytes_eq other o in
    let parts = or_parts (list_any is inputs) (list_any is outputs || clashes inputs outputs) free in
    let rest = or_parts (list_any is outputs) (clashes inputs outputs) parts.1 in
    elim (Contains-cases o output outputs there) [
      | inl here ↦ none_is inputs o input parts.0 within (same ∙ sym here)
      | inr later ↦ apart inputs outputs output input rest.1 later within same
    ]

abbrev name_of : List ℕ × List ℕ → List ℕ
name_of copy = copy.0

-- the written files are copies
module _ (suffix : List ℕ) where
  one_copied : (same : Bool) (pair : List ℕ × List ℕ) (pairs : List (List ℕ × List ℕ)) (names : List (List ℕ)) (q : List ℕ) → (Contains (map name_of pairs) q → Contains names q)
      → Contains (map name_of (cond same pairs (pair ∷ pairs))) q → Contains (pair.0 ∷ names) q
  one_copied true pair pairs names q rest there = Contains-tail pair.0 q names (rest there)
  one_copied false pair pairs names q rest there = elim (Contains-cases pair.0 q (map name_of pairs) there) [
    | inl here ↦ subst (λ (n : List ℕ). Contains (pair.0 ∷ names) n) here (Contains-head pair.0 names)
    | inr later ↦ Contains-tail pair.0 q names (rest later)
  ]

  copied : (names olds news : List (List ℕ)) (q : List ℕ) → Contains (map name_of (copies suffix names olds news)) q → Contains (copy_names suffix names) q
  copied [] olds news q there = absurd (Contains-none q there)
  copied (x ∷ names) [] news q there = absurd (Contains-none q there)
  copied (x ∷ names) (y ∷ olds) [] q there = absurd (Contains-none q there)
  copied (x ∷ names) (y ∷ olds) (z ∷ news) q there =
      one_copied (bytes_eq y z) (copy_name suffix x, z) (copies suffix names olds news) (copy_names suffix names) q (copied names olds news q) there

module _ (words : RepairWords) (before : Files) (done : Done) (is : IsRepaired words before done) where
  free : IsFreeLast (words.document ∷ is.doc.routers) (copy_names words.suffix is.doc.routers) words.proof
  free = free_last (words.document ∷ is.doc.routers) (copy_names words.suffix is.doc.routers) words.proof is.has.free

  -- a file that is read is kept by the writes of these copies and the certificate
  kept_by : (told : List ℕ) (changed : List (List ℕ × List ℕ)) (certificate : List ℕ) (status : ℕ) → Writes words told changed certificate status done
      → (q : List ℕ) → Contains (words.document ∷ is.doc.routers) q → with_files changed before q ≡ before q → with_files done.writes before q ≡ before q
  kept_by told changed certificate status writes q within same =
      ap (λ (pairs : List (List ℕ × List ℕ)). with_files pairs before q) writes.writes
      ∙ ap (λ (f : Files). f q) (with_files-push changed words.proof certificate before)
      ∙ held_before (with_files changed before) words.proof certificate q (λ e. free.of_inputs q within (sym e))
      ∙ same

  kept_as : (answer : Answer) → WritesAnswer words is.doc is.built (contents before is.doc) is.list answer done → (q : List ℕ) → Contains (words.document ∷ is.doc.routers) q
      → with_files done.writes before q ≡ before q
  kept_as (Claimed (Repaired price bound flags verdicts) log) writes q within =
      kept_by _ writes.changed _ 0 writes.writes q within
      (unchanged_kept words.suffix is.doc is.built _ writes.changed before writes.changes q
      (λ there. apart (words.document ∷ is.doc.routers) (copy_names words.suffix is.doc.routers) q q free.others
      (copied words.suffix is.doc.routers (contents before is.doc) writes.changes.new q there) within refl))
  kept_as (Claimed (NoRepair bound) log) writes q within = kept_by _ [] _ 2 writes q within refl
  kept_as (Budget log) writes q within = kept_by _ [] _ 3 writes q within refl

  pub inputs_kept : HoldTheSame words.document before (with_files done.writes before)
  inputs_kept = record {
    document_is = kept_as is.answer is.writes words.document (Contains-head words.document is.doc.routers);
    routers_are = λ other held.
        let same : is.doc ≡ other = (determined Editing [] words.document before).one_document is.doc other is.has.input.files_are.document_is held in
        All-from (λ (name : List ℕ). with_files done.writes before name ≡ before name) other.routers
        (λ name within. kept_as is.answer is.writes name (Contains-tail words.document name is.doc.routers (subst (λ (d : Document). Contains d.routers name) (sym same) within)));
  }
