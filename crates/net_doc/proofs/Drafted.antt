-- What a draft's policies come to, one after another.
use Rattle.std.proofs.Common.{◌≡◌, ℕ, ◌+◌, ◌<◌, List, [], ◌∷◌, ◌++◌, length, map, get_or, take, drop, sym, ap, subst, ◌∙◌, arith}
use Rattle.std.proofs.lemmas.List.{at_drop_more, map_push, get_or-map, length-map}
use Rattle.std.proofs.lemmas.Bool.{false≢true}
use Rattle.std.specs.Prelude.{Option, Some, None, true, is_some}
use Rattle.std.specs.Option.{option_or}
use Rattle.std.specs.List.{All}
use Rattle.serde_json.specs.View.{view, items_view}
use Rattle.serde_json.specs.declared.value.Value.{Value}
use Rattle.net_model.specs.declared.policies.Policy.{Policy}
use Rattle.net_doc.specs.declared.fault.Refusal.{Refusal}
use Rattle.net_doc.specs.declared.drafts.PolicyText.{PolicyText}
use Rattle.net_doc.specs.declared.drafts.Draft.{Draft}
use Rattle.net_doc.specs.Members.{all_of}
use Rattle.net_doc.specs.Documents.{policy_of, failures_refusal, policies_refusal, limit_refusal}
use Rattle.net_model.specs.Policies.{HasFewFailures}
use Rattle.net_doc.specs.Drafts.{kind_meant, policy_meant, document_meant}
use Rattle.net_doc.proofs.Readings.{all_of-next}
use Rattle.net_doc.proofs.Forms.{all_few, counts_within}

-- one policy more is read
pub policies_next : (version : ℕ) (items : List Value) (i : ℕ) (d : Value) (done after : List PolicyText) (text : PolicyText) → i < length items →
    all_of (policy_of version) (items_view (take i items)) ≡ Some (map policy_meant done) →
    Some (policy_meant text) ≡ policy_of version (view (get_or items i d)) → after ≡ done ++ text ∷ [] → all_of (policy_of version) (items_view (take (i + 1) items)) ≡ Some (map policy_meant after)
policies_next version items i d done after text within before next pushed =
    all_of-next (policy_of version) items i d (map policy_meant done) (policy_meant text) within before (sym next) ∙ ap Some (sym
    (map_push policy_meant done text) ∙ ap (map policy_meant) (sym pushed))

-- the refusals of the policies from a place on
abbrev pub rest_refusal : List PolicyText → ℕ → Option Refusal
rest_refusal policies place = policies_refusal (place + 1) (map policy_meant (drop place policies))

one_more : (policies : List PolicyText) (place : ℕ) (d : PolicyText) → place < length policies →
    rest_refusal policies place ≡ option_or (failures_refusal (place + 1) (kind_meant (get_or policies place d).kind)) (rest_refusal policies (place + 1))
one_more policies place d within = at_drop_more (λ ps. policies_refusal (place + 1) (map policy_meant ps)) policies place d within

-- the policy at the place is refused
pub refused_here : (policies : List PolicyText) (place : ℕ) (d : PolicyText) (r : Refusal) → place < length policies →
    failures_refusal (place + 1) (kind_meant (get_or policies place d).kind) ≡ Some r → rest_refusal policies place ≡ Some r
refused_here policies place d r within is = one_more policies place d within ∙ ap (λ (o : Option Refusal). option_or o (rest_refusal policies (place + 1))) is

-- it is refused where the test of it told a refusal
pub refused_where : (policies : List PolicyText) (place : ℕ) (d : PolicyText) (o : Option Refusal) → place < length policies → is_some o ≡ true →
    failures_refusal (place + 1) (kind_meant (get_or policies place d).kind) ≡ o → rest_refusal policies place ≡ o
refused_where policies place d None within test is = absurd (false≢true test)
refused_where policies place d (Some r) within test is = refused_here policies place d r within is

-- each policy of a draft within the limits speaks of few failures
pub few_at : (draft : Draft) (i : ℕ) (d : PolicyText) → limit_refusal (document_meant draft) ≡ None → i < length draft.policies.items →
    HasFewFailures (kind_meant (get_or draft.policies.items i d).kind)
few_at draft i d few within =
    let all : All (λ policy. HasFewFailures policy.kind) (map policy_meant draft.policies.items) =
    all_few (map policy_meant draft.policies.items) (counts_within (document_meant draft) few).failures in
    let P : Policy → Type 0 = λ policy. HasFewFailures policy.kind in
    let count : length (map policy_meant draft.policies.items) ≡ length draft.policies.items = length-map draft.policies.items policy_meant in
    subst P (get_or-map policy_meant draft.policies.items i d (policy_meant d) within) (all i (policy_meant d) (omega (arith, within, count)))
