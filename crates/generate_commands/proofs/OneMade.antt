-- A number of routers has one document, and one list of files.
use Rattle.std.proofs.Common.{◌≡◌, ◌∙◌, ℕ, List, [], ◌∷◌, refl, sym, ap, ap₂}
use Rattle.std.specs.List.{AllZip}
use Rattle.arc_base.specs.declared.prefix.Prefix.{Prefix}
use Rattle.arc_base.proofs.SamePrefix.{same_prefix}
use Rattle.net_model.specs.declared.policies.Document.{Document}
use Rattle.net_model.specs.declared.policies.LinkText.{LinkText}
use Rattle.net_model.specs.declared.policies.Policy.{Policy}
use Rattle.net_model.specs.declared.policies.PolicyKind.{PolicyKind}
use Rattle.net_model.specs.declared.policies.Weights.{Weights}
use Rattle.net_model.specs.declared.services.Service.{Service}
use Rattle.net_gen.specs.Generated.{Asked, Asks, asked, IsGenerated, IsGeneratedHostNetwork}
use Rattle.net_gen.specs.declared.generating.Generated.{Generated}

one_host : (router : ℕ) (p q : Prefix) → IsGeneratedHostNetwork router p → IsGeneratedHostNetwork router q → p ≡ q
one_host router p q is are = same_prefix p q (is.addr ∙ sym are.addr) (is.len ∙ sym are.len)

same_policy : (p q : Policy) → p.kind ≡ q.kind → p.from ≡ q.from → p.to ≡ q.to → p.service ≡ q.service → p ≡ q
same_policy p q a b c d =
    ap (λ (k : PolicyKind). record p { kind = k }) a
    ∙ ap (λ (x : Prefix). record p { kind = q.kind; from = x }) b
    ∙ ap (λ (x : Prefix). record p { kind = q.kind; from = q.from; to = x }) c
    ∙ ap (λ (x : Service). record p { kind = q.kind; from = q.from; to = q.to; service = x }) d

one_policy : (ask : Asked) (p q : Policy) → Asks ask p → Asks ask q → p ≡ q
one_policy ask p q is are =
    same_policy p q (is.kind ∙ sym are.kind) (one_host ask.source p.from q.from is.from are.from) (one_host ask.target p.to q.to is.to are.to)
    (is.service ∙ sym are.service)

same_policies : (asks : List Asked) (ps qs : List Policy) → AllZip Asks asks ps → AllZip Asks asks qs → ps ≡ qs
same_policies [] [] [] h k = refl
same_policies [] [] (q ∷ qs) h k = absurd k
same_policies [] (p ∷ ps) qs h k = absurd h
same_policies (ask ∷ asks) [] qs h k = absurd h
same_policies (ask ∷ asks) (p ∷ ps) [] h k = absurd k
same_policies (ask ∷ asks) (p ∷ ps) (q ∷ qs) h k = ap₂ (λ (x : Policy) (xs : List Policy). x ∷ xs) (one_policy ask p q h.0 k.0) (same_policies asks ps qs h.1 k.1)

same_document : (d e : Document) → d.routers ≡ e.routers → d.links ≡ e.links → d.policies ≡ e.policies → d.weights ≡ e.weights → d ≡ e
same_document d e a b c w =
    ap (λ (x : List (List ℕ)). record d { routers = x }) a
    ∙ ap (λ (x : List LinkText). record d { routers = e.routers; links = x }) b
    ∙ ap (λ (x : List Policy). record d { routers = e.routers; links = e.links; policies = x }) c
    ∙ ap (λ (x : Weights). record d { routers = e.routers; links = e.links; policies = e.policies; weights = x }) w

same_generated : (g h : Generated) → g.doc ≡ h.doc → g.files ≡ h.files → g ≡ h
same_generated g h a b =
    ap (λ (x : Document). record g { doc = x }) a
    ∙ ap (λ (x : List (List ℕ)). record g { doc = h.doc; files = x }) b

pub one_made : (n : ℕ) (g h : Generated) → IsGenerated n g → IsGenerated n h → g ≡ h
one_made n g h is are =
    same_generated g h
    (same_document g.doc h.doc (is.doc.routers ∙ sym are.doc.routers) (is.doc.links ∙ sym are.doc.links)
    (same_policies (asked n) g.doc.policies h.doc.policies is.doc.policies are.doc.policies) (is.doc.weights ∙ sym are.doc.weights))
    (is.files ∙ sym are.files)
