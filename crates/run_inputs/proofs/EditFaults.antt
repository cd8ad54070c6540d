-- What a count above its limit leads to.
use Rattle.std.proofs.Common.{ℕ, inl, inr, List, sym, subst}
use Rattle.std.specs.Prelude.{Err}
use Rattle.arc_base.specs.declared.refusal.Kind.TheVariants.{Limit}
use Rattle.arc_base.specs.declared.refusal.LimitKind.{LimitKind}
use Rattle.edit_list.specs.declared.edit_kinds.EditFault.{EditFault}
use Rattle.edit_list.specs.declared.edit_kinds.EditFault.TheVariants as faults
use Rattle.run_files.specs.declared.outcome.FileRefusal.{FileRefusal}
use Rattle.run_files.specs.declared.outcome.Stop.{Stop}
use Rattle.run_files.specs.Answers.{Gives, HasStopCause}
use Rattle.run_files.specs.Refusals.{refusal_of}
use Rattle.run_inputs.specs.Counts.{StopsFor}

-- the document is refused for the count
pub limit_refused : {X : Type 0} (IsFault : EditFault → Type 0) (IsRefusal : FileRefusal → Type 0) (IsRight : X → Type 0) (document : List ℕ)
    → ((what : LimitKind) (count : ℕ) → IsFault (faults.Limit what count) → IsRefusal (refusal_of document 0 (Limit what count)))
    → (fault : EditFault) (stop : Stop) → StopsFor document fault stop → IsFault fault → Gives IsRefusal IsRight (Err stop)
limit_refused IsFault IsRefusal IsRight document refuses (faults.Limit what count) stop (inl memory) is = subst (λ (s : Stop). Gives IsRefusal IsRight (Err s)) (sym memory) tt
limit_refused IsFault IsRefusal IsRight document refuses (faults.Limit what count) stop (inr told) is = subst (λ (s : Stop). Gives IsRefusal IsRight (Err s)) (sym told) (refuses what count is)
limit_refused IsFault IsRefusal IsRight document refuses faults.Memory stop memory is = subst (λ (s : Stop). Gives IsRefusal IsRight (Err s)) (sym memory) tt

-- the refusal for a count is not that of a missing file
pub stop_cause : (failed absent long : Type 0) (document : List ℕ) (fault : EditFault) (stop : Stop) → StopsFor document fault stop → HasStopCause failed absent long stop
stop_cause failed absent long document (faults.Limit what count) stop (inl memory) = subst (λ (s : Stop). HasStopCause failed absent long s) (sym memory) tt
stop_cause failed absent long document (faults.Limit what count) stop (inr told) =
    subst (λ (s : Stop). HasStopCause failed absent long s) (sym told) (record { missing = λ missing. absurd (cc); too_long = λ long. absurd (cc) })
stop_cause failed absent long document faults.Memory stop is = subst (λ (s : Stop). HasStopCause failed absent long s) (sym is) tt
