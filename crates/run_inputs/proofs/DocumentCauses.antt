-- A document is refused for its contents here, and never because it is missing or too long.
use Rattle.std.proofs.Common.{◌≡◌, ◌⊎◌, inl, inr, ℕ, List, sym, ◌∙◌, subst}
use Rattle.std.specs.Prelude.{Err}
use Rattle.arc_base.specs.declared.refusal.Kind.{Kind}
use Rattle.arc_base.specs.declared.refusal.Kind.TheVariants as kinds
use Rattle.arc_base.specs.declared.refusal.LimitKind.{LimitKind}
use Rattle.net_doc.specs.declared.fault.Refusal.{Refusal}
use Rattle.net_doc.specs.Documents.{reading, IsFormOrLimit}
use Rattle.net_doc.proofs.Refused.{of_form_or_limit}
use Rattle.run_files.specs.declared.outcome.Reason.TheVariants as reasons
use Rattle.run_files.specs.declared.outcome.Stop.{Stop}
use Rattle.run_files.specs.declared.outcome.Stop.TheVariants as stops
use Rattle.run_inputs.specs.Inputs.{named}
use Rattle.run_files.specs.Answers.{HasStopCause}

same_kind : (k l : Kind) → reasons.Kind k ≡ reasons.Kind l → k ≡ l
same_kind k l e = cc

form_missing : kinds.DocumentForm ≡ kinds.Missing → ⊥
form_missing e = absurd (cc)

limit_missing : (what : LimitKind) (count : ℕ) → kinds.Limit what count ≡ kinds.Missing → ⊥
limit_missing what count e = absurd (cc)

form_long : kinds.DocumentForm ≡ kinds.TooLong → ⊥
form_long e = absurd (cc)

limit_long : (what : LimitKind) (count : ℕ) → kinds.Limit what count ≡ kinds.TooLong → ⊥
limit_long what count e = absurd (cc)

never_too_long : (kind : Kind) → IsFormOrLimit kind → kind ≡ kinds.TooLong → ⊥
never_too_long kind (inl form) long = form_long (sym form ∙ long)
never_too_long kind (inr limit) long = limit_long limit.0 limit.1 (sym limit.2 ∙ long)

never_missing : (kind : Kind) → IsFormOrLimit kind → kind ≡ kinds.Missing → ⊥
never_missing kind (inl form) missing = form_missing (sym form ∙ missing)
never_missing kind (inr limit) missing = limit_missing limit.0 limit.1 (sym limit.2 ∙ missing)

pub document_cause : (failed absent long : Type 0) (bytes name : List ℕ) (routers : List (List ℕ)) (refusal : Refusal) (stop : Stop) →
    reading bytes ≡ Err refusal → (stop ≡ stops.Memory) ⊎ (stop ≡ stops.Refused (named name routers refusal)) → HasStopCause failed absent long stop
document_cause failed absent long bytes name routers refusal stop read (inl memory) =
    let P : Stop → Type 0 = HasStopCause failed absent long in
    subst P (sym memory) tt
document_cause failed absent long bytes name routers refusal stop read (inr is) =
    let P : Stop → Type 0 = HasStopCause failed absent long in
    let of = of_form_or_limit bytes refusal read in
    subst P (sym is) (record {
      missing = λ missing. absurd (never_missing refusal.kind of (same_kind refusal.kind kinds.Missing missing));
      too_long = λ long. absurd (never_too_long refusal.kind of (same_kind refusal.kind kinds.TooLong long));
    })
