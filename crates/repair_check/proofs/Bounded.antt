-- A certificate of a claim names the claim's bound.
use Rattle.std.proofs.Common.{◌≡◌, ◌∙◌, ℕ, inl, inr, List, ◌∷◌, sym, subst}
use Rattle.std.specs.Prelude.{Result, Ok}
use Rattle.net_model.specs.declared.rows.Network.{Network}
use Rattle.edit_list.specs.declared.claims.Claim.{Claim}
use Rattle.edit_list.specs.declared.claims.Claim.TheVariants as claims
use Rattle.policy_encode.specs.Formulas.{IsWithin}
use Rattle.policy_report.specs.declared.got.Got.{Got}
use Rattle.policy_report.specs.declared.got.Got.TheVariants.{Head, More}
use Rattle.policy_report.specs.declared.got.CertFault.{CertFault}
use Rattle.policy_report.specs.declared.got.CertForm.{CertForm}
use Rattle.policy_report.specs.declared.got.CertForm.TheVariants.{Repaired, NoRepair}
use Rattle.policy_report.specs.Edits.{EditsAreToldApart}
use Rattle.policy_report.specs.Recertifying.{CertificatesAreReadAgain, Told, certificate_answers}
use Rattle.arc_repair.specs.Claims.{claim_bound}
use Rattle.repair_check.specs.Certifies.{CertificatesNameTheirBound, HasBound, text_answers}

-- the form of the answer that names the claim
abbrev form_of : Claim → CertForm
form_of (claims.Repaired price bound flags verdicts) = Repaired price bound
form_of (claims.NoRepair bound) = NoRepair bound

same_form : (net : Network) (claim : Claim) (told : List Told) (form : CertForm) (rest : List (Result Got CertFault)) →
    certificate_answers net claim told ≡ Ok More ∷ Ok (Head form) ∷ rest → form_of claim ≡ form
same_form net (claims.Repaired price bound flags verdicts) told form rest e = cc
same_form net (claims.NoRepair bound) told form rest e = cc

same_bound : (claim : Claim) (bound : ℕ) → HasBound bound (form_of claim) → claim_bound claim ≡ bound
same_bound (claims.Repaired price own flags verdicts) bound (inl found) = let e : Repaired price own ≡ Repaired found.0 bound = found.1 in cc
same_bound (claims.Repaired price own flags verdicts) bound (inr e) = cc
same_bound (claims.NoRepair own) bound (inl found) = let e : NoRepair own ≡ Repaired found.0 bound = found.1 in cc
same_bound (claims.NoRepair own) bound (inr e) = cc

pub certificates_name_their_bound : CertificatesAreReadAgain → EditsAreToldApart → CertificatesNameTheirBound
certificates_name_their_bound again apart net doc list claim text valid addresses edits few certifies within bound counts =
    let read : text_answers net doc list text ≡ certificate_answers net claim certifies.told =
    again net doc list claim certifies.told _ valid addresses few (apart net doc list valid addresses edits) certifies.is_text in
    let form : form_of claim ≡ counts.form = same_form net claim certifies.told counts.form counts.rest (sym read ∙ counts.begins) in
    let same : claim_bound claim ≡ bound = same_bound claim bound (subst (HasBound bound) (sym form) counts.has_bound) in
    subst (IsWithin net doc list) same within
