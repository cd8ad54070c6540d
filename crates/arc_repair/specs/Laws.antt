-- Laws of claims, certificates and checks.
use Rattle.std.specs.Prelude.{◌≡◌, ◌↔◌, Bool, ◌||◌, not, IsTrue, List, All, AllPairs}
use Rattle.net_model.specs.declared.policies.Document.{Document}
use Rattle.net_model.specs.declared.rows.Network.{Network}
use Rattle.net_model.specs.Policies.{MeetsDocument}
use Rattle.net_model.specs.Validity.{IsValid}
use Rattle.edit_list.specs.declared.claims.Claim.{Claim}
use Rattle.edit_list.specs.declared.edit_kinds.Edit.{Edit}
use Rattle.edit_list.specs.Determined.{IsCountable}
use Rattle.edit_list.specs.EditLists.{AreEdits}
use Rattle.edit_list.specs.Ordered.{IsKeyBefore}
use Rattle.edit_list.specs.Prices.{none_of}
use Rattle.arc_base.specs.NameForms.{IsNameBefore}
use Rattle.proof_check.specs.Logs.{after_all, IsAccepted}
use Rattle.proof_log.specs.declared.steps.Step.{Step}
use Rattle.arc_repair.specs.declared.check.Check.{Check}
use Rattle.arc_repair.specs.Repairs.{Mends}
use Rattle.arc_repair.specs.Claims.{IsTrueClaim, IsCertificate}
use Rattle.arc_repair.specs.Checks.{knowledge, IsBegun}

-- a claim that has a certificate is true, whoever made it
abbrev pub CertificatesAreTrue : Type 0
CertificatesAreTrue =
    (net : Network) (doc : Document) (list : List Edit) (claim : Claim) (steps : List Step) →
    IsValid net → IsCountable net → AreEdits net doc list → IsCertificate net doc list claim steps →
    IsTrueClaim net doc list claim

-- whether a check accepts: it has nothing to refute, or an empty clause was added
abbrev pub accepts : Check → Bool
accepts check = not check.needs_refutation || (knowledge check).refuted

-- a check that has accepted each step of a log accepts in the end exactly if the claim and the log
-- are a certificate
abbrev pub ChecksAreExact : Type 0
ChecksAreExact =
    (net : Network) (doc : Document) (list : List Edit) (claim : Claim) (begun check : Check)
    (steps : List Step) → IsValid net → IsBegun net doc list claim begun →
    check.needs_refutation ≡ begun.needs_refutation →
    knowledge check ≡ after_all (knowledge begun) steps → IsAccepted (knowledge begun) steps →
    IsTrue (accepts check) ↔ IsCertificate net doc list claim steps

-- the steps of a certificate are accepted, one after another, by the check of its claim
abbrev pub CertificatesPass : Type 0
CertificatesPass =
    (net : Network) (doc : Document) (list : List Edit) (claim : Claim) (begun : Check)
    (steps : List Step) → IsValid net → IsBegun net doc list claim begun →
    IsCertificate net doc list claim steps → IsAccepted (knowledge begun) steps

-- a network whose names and lists are in their order, and which meets the document, needs no edits
abbrev pub MetNetworksNeedNoEdits : Type 0
MetNetworksNeedNoEdits =
    (net : Network) (doc : Document) (list : List Edit) → IsValid net →
    All (λ router. AllPairs IsNameBefore router.names) net.routers →
    AllPairs (λ l m. IsKeyBefore (l.router.0, l.name) (m.router.0, m.name)) net.packet_lists →
    AllPairs (λ l m. IsKeyBefore (l.router.0, l.name) (m.router.0, m.name)) net.route_lists →
    MeetsDocument net doc → Mends net doc list (none_of list)
