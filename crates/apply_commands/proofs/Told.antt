-- What the status of `apply` says.
use Rattle.std.proofs.Common.{◌≡◌, ℕ, inl, inr, List, ◌∷◌, refl, arith}
use Rattle.std.specs.Prelude.{bytes_eq}
use Rattle.std.specs.List.{list_any}
use Rattle.std.proofs.lemmas.Bool.{or_parts}
use Rattle.arc_outside.specs.Files.{Files, with_files}
use Rattle.edit_list.specs.declared.edit_kinds.Edit.{Edit}
use Rattle.edit_space.proofs.SomeAfter.{after_is_there}
use Rattle.edit_reader.specs.EditFiles.{chosen_by}
use Rattle.file_copies.specs.Outputs.{clashes, copy_names}
use Rattle.file_copies.specs.Changes.{AreLeftPatched}
use Rattle.file_copies.proofs.Patched.{patches_have_the_network}
use Rattle.file_copies.proofs.ReadAgain.{texts_left, unchanged_kept}
use Rattle.command_words.specs.declared.commands.ApplyWords.{ApplyWords}
use Rattle.run_files.specs.declared.outcome.Done.{Done}
use Rattle.run_files.specs.declared.outcome.FileRefusal.{FileRefusal}
use Rattle.run_files.specs.Answers.{IsTold}
use Rattle.run_inputs.specs.Inputs.{contents}
use Rattle.apply_commands.specs.Applies.{edit_texts, named_edits, CanBeApplied, CannotBeApplied, IsApplied, IsApplyRefusal, IsLeftApplied, TellsApply}
use Rattle.apply_commands.proofs.Determined.{applied_or_refused}

module _ (words : ApplyWords) (files : Files) where
  module _ (d : Done) (done : IsApplied words files d) where
    pub can_be : CanBeApplied words files
    can_be = record { doc = done.doc; net = done.built.net; has = done.has; list = done.list; edits = done.edits; lines = done.lines }

    left : IsLeftApplied words files (with_files d.writes files)
    left =
        let chosen : List Edit = named_edits words files done.built.net done.list in
        let there = after_is_there done.built.net done.editable.fit.valid done.editable.countable chosen in
        let names : List (List ℕ) = copy_names words.suffix done.doc.routers in
        let free = or_parts (clashes (words.document ∷ done.doc.routers) names) (list_any (λ name. bytes_eq name words.edits) names) done.has.ready.free in
        let are : AreLeftPatched words.suffix done.doc done.built files (with_files d.writes files) chosen = record {
          new = done.changes.new;
          patched = done.changes.patched;
          left = texts_left words.suffix words.document files done.doc done.built chosen d.writes done.has.input done.editable free.0 done.changes;
        } in
        record {
          doc = done.doc;
          built = done.built;
          has = done.has;
          editable = done.editable;
          list = done.list;
          edits = done.edits;
          lines = done.lines;
          patched = are;
          changed = there.0;
          is_after = there.1.is_after;
          read_again = patches_have_the_network done.doc done.built (contents files done.doc) done.changes.new done.list
              (chosen_by done.built.net done.list (edit_texts words files)) there.0 done.editable done.edits.are done.edits.few done.changes.patched there.1.is_after;
          kept = unchanged_kept words.suffix done.doc done.built chosen d.writes files done.changes;
        }

    told_done : TellsApply words d.status files (with_files d.writes files)
    told_done =
        let zero' : d.status ≡ 0 = done.status in
        record {
          applied_exactly = (λ e. can_be, λ s. zero');
          applied = λ e. left;
          refused_exactly = (λ e. absurd (omega (arith, zero', e)), λ s. absurd (applied_or_refused words files can_be s.refusal s.refused));
          nothing_written = λ e. absurd (omega (arith, zero', e));
          nothing_else = inl zero';
        }

  told_refused : (r : FileRefusal) → IsApplyRefusal words files r → TellsApply words 5 files files
  told_refused r refused =
      let says : CannotBeApplied words files = record { refusal = r; refused = refused } in
      record {
        applied_exactly = (λ e. absurd (omega arith), λ can. absurd (applied_or_refused words files can r refused));
        applied = λ e. absurd (omega arith);
        refused_exactly = (λ e. says, λ s. refl);
        nothing_written = λ e. refl;
        nothing_else = inr refl;
      }

pub apply_told : (words : ApplyWords) → IsTold (IsApplyRefusal words) (IsApplied words) (TellsApply words)
apply_told words = record { answered = λ files d done. told_done words files d done; refused = told_refused words }
