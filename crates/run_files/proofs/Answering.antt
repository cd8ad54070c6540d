-- What reading a store came to, as the answer of a command.
use Rattle.std.proofs.Common.{◌≡◌, ◌⊎◌, inl, inr, sym, subst}
use Rattle.std.specs.Prelude.{Option, Some, None, IfSome, Err}
use Rattle.arc_outside.specs.Files.{Files}
use Rattle.run_files.specs.declared.outcome.Done.{Done}
use Rattle.run_files.specs.declared.outcome.FileRefusal.{FileRefusal}
use Rattle.run_files.specs.declared.outcome.Stop.{Stop}
use Rattle.run_files.specs.declared.outcome.Stop.TheVariants as stops
use Rattle.run_files.specs.Answers.{Answers, Gives}

module _ (IsOwn : Done → Type 0) (IsRefusal : Files → FileRefusal → Type 0) (IsAnswer : Files → Done → Type 0) where
  -- a refusal of what was read is one of the command
  pub stopped : {X : Type 0} (IsRead : Files → FileRefusal → Type 0) (IsRight : Files → X → Type 0) (held : Option Files) (stop : Stop)
      → ((files : Files) (r : FileRefusal) → IsRead files r → IsRefusal files r)
      → IfSome held (λ files. Gives (IsRead files) (IsRight files) (Err stop)) → Answers IsOwn IsRefusal IsAnswer held (Err stop)
  stopped IsRead IsRight None (stops.Refused r) is told = tt
  stopped IsRead IsRight None stops.Memory is told = tt
  stopped IsRead IsRight None stops.Failed is told = tt
  stopped IsRead IsRight (Some files) (stops.Refused r) is told = is files r told
  stopped IsRead IsRight (Some files) stops.Memory is told = tt
  stopped IsRead IsRight (Some files) stops.Failed is told = tt

  -- a refusal is one of the command, or there was want of memory
  pub refused : (held : Option Files) (r : FileRefusal) (stop : Stop) → IfSome held (λ files. IsRefusal files r)
      → (stop ≡ stops.Memory) ⊎ (stop ≡ stops.Refused r) → Answers IsOwn IsRefusal IsAnswer held (Err stop)
  refused held r stop is (inl memory) = subst (λ (s : Stop). Answers IsOwn IsRefusal IsAnswer held (Err s)) (sym memory) tt
  refused held r stop is (inr told) = subst (λ (s : Stop). Answers IsOwn IsRefusal IsAnswer held (Err s)) (sym told) is
