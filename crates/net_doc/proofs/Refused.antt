-- What texts are refused for.
use Rattle.std.proofs.Common.{◌≡◌, ℕ, ◌+◌, inl, inr, Bool, true, false, cond, List, [], ◌∷◌, length, nat_lt, Option, Some, None, Ok, Err, refl, sym, ap, subst}
use Rattle.std.specs.Option.{option_or}
use Rattle.arc_base.specs.declared.refusal.LimitKind.{LimitKind}
use Rattle.arc_base.specs.declared.refusal.Kind.TheVariants.{Limit}
use Rattle.arc_base.specs.declared.refusal.LimitKind.TheVariants.{Routers, Links, Policies, Failures}
use Rattle.net_model.specs.declared.policies.PolicyKind.{PolicyKind}
use Rattle.net_model.specs.declared.policies.PolicyKind.TheVariants.{Blocked, Through, Reach}
use Rattle.net_model.specs.declared.policies.Policy.{Policy}
use Rattle.net_model.specs.declared.policies.Document.{Document}
use Rattle.net_doc.specs.declared.fault.Refusal.{Refusal}
use Rattle.net_doc.specs.Documents.{form_refusal, over, failures_refusal, policies_refusal, limit_refusal, within_limits, limited, document_of, reading, IsFormOrLimit}

-- every refusal that is there is of a limit
abbrev AreLimits : Option Refusal → Type 0
AreLimits o = (r : Refusal) → o ≡ Some r → IsFormOrLimit r.kind

none_some : {A : Type 0} (x : A) → None ≡ Some x → ⊥
none_some x e = absurd (cc)

same : (x y : Refusal) → Some x ≡ Some y → x ≡ y
same x y e = cc

over_limits : (what : LimitKind) (limit number count : ℕ) → AreLimits (over what limit number count)
over_limits what limit number count r e = go (nat_lt limit count) e
  where
    go : (t : Bool) → cond {A = Option Refusal} t (Some (record { file = 0; number = number; kind = Limit what count })) None ≡ Some r → IsFormOrLimit r.kind
    go true h = inr (what, count, sym (ap (λ (x : Refusal). x.kind) (same (record { file = 0; number = number; kind = Limit what count }) r h)))
    go false h = absurd (none_some r h)

or_limits : (o p : Option Refusal) → AreLimits o → AreLimits p → AreLimits (option_or o p)
or_limits None p first second r e = second r e
or_limits (Some x) p first second r e = first r e

failures_limits : (number : ℕ) (kind : PolicyKind) → AreLimits (failures_refusal number kind)
failures_limits number Blocked r e = absurd (none_some r e)
failures_limits number Through r e = absurd (none_some r e)
failures_limits number (Reach failures) r e = over_limits Failures 16 number failures r e

policies_limits : (number : ℕ) (policies : List Policy) → AreLimits (policies_refusal number policies)
policies_limits number [] r e = absurd (none_some r e)
policies_limits number (policy ∷ policies) r e =
    or_limits (failures_refusal number policy.kind) (policies_refusal (number + 1) policies) (failures_limits number policy.kind) (policies_limits (number + 1) policies) r e

document_limits : (doc : Document) → AreLimits (limit_refusal doc)
unfolding limit_refusal
document_limits doc =
    or_limits (over Routers 256 0 (length doc.routers)) _ (over_limits Routers 256 0 (length doc.routers))
    (or_limits (over Links 1024 0 (length doc.links)) _ (over_limits Links 1024 0 (length doc.links))
    (or_limits (over Policies 256 0 (length doc.policies)) _ (over_limits Policies 256 0 (length doc.policies)) (policies_limits 1 doc.policies)))

err_ok : {A B : Type 0} (x : A) (y : B) → Ok x ≡ Err y → ⊥
err_ok x y e = absurd (cc)

same_err : (x y : Refusal) → limited None ≡ Err x → form_refusal ≡ x
same_err x y e = cc

one_err : (doc : Document) (r s : Refusal) → within_limits doc (Some r) ≡ Err s → r ≡ s
one_err doc r s h = cc

pub of_form_or_limit : (bytes : List ℕ) (refusal : Refusal) → reading bytes ≡ Err refusal → IsFormOrLimit refusal.kind
of_form_or_limit bytes refusal e = go (document_of bytes) e
  where
    at : (doc : Document) (o : Option Refusal) → limit_refusal doc ≡ o → within_limits doc o ≡ Err refusal → IsFormOrLimit refusal.kind
    at doc None is h = absurd (err_ok doc refusal h)
    at doc (Some r) is h =
        let P : Refusal → Type 0 = λ x. IsFormOrLimit x.kind in
        subst P (one_err doc r refusal h) (document_limits doc r is)

    go : (o : Option Document) → limited o ≡ Err refusal → IsFormOrLimit refusal.kind
    go None h = inl (sym (ap (λ (x : Refusal). x.kind) (same_err refusal refusal h)))
    go (Some doc) h = at doc (limit_refusal doc) refl h
