-- What a text that is a document holds, and what is answered of one.
use Rattle.std.proofs.Common.{◌≡◌, ◌≢◌, ℕ, ◌+◌, ◌≤◌, nat_lt, lt-ltb, true≢false, inl, inr, cond, codes, if◌then◌else◌, Bool, true, false}
use Rattle.std.proofs.Common.{List, [], ◌∷◌, length, Option, Some, None, option_and_then, Ok, Err, refl, sym, ap, subst, ◌∙◌, arith}
use Rattle.std.proofs.lemmas.Bool.{and_parts, leb-true, cases_lt}
use Rattle.std.proofs.lemmas.List.Elements.{All-from_recursion}
use Rattle.std.proofs.lemmas.Option.{same_Some}
use Rattle.std.proofs.lemmas.Str.{IsUtf8-from_is_utf8, is_utf8-from_IsUtf8}
use Rattle.std.proofs.NetLemmas.Options.{cond_some, and_then_some, map_some}
use Rattle.std.specs.List.{All, AllByRecursion, AllPairs}
use Rattle.std.specs.Option.{ok_or, option_or}
use Rattle.std.specs.Str.{IsUtf8, is_utf8}
use Rattle.serde_json.specs.Data.{Data, Items, no_items, item}
use Rattle.serde_json.specs.Find.{get, as_number, as_u64, as_str}
use Rattle.serde_json.specs.Read.{read}
use Rattle.arc_base.specs.declared.refusal.Kind.TheVariants.{Limit}
use Rattle.arc_base.specs.declared.refusal.LimitKind.{LimitKind}
use Rattle.arc_base.specs.declared.refusal.LimitKind.TheVariants.{Routers, Links, Policies, Failures}
use Rattle.net_model.specs.declared.policies.PolicyKind.{PolicyKind}
use Rattle.net_model.specs.declared.policies.PolicyKind.TheVariants.{Blocked, Through, Reach}
use Rattle.net_model.specs.declared.policies.Weights.{Weights}
use Rattle.net_model.specs.declared.policies.Policy.{Policy}
use Rattle.net_model.specs.declared.policies.Document.{Document}
use Rattle.net_doc.specs.declared.fault.NetFault.{NetFault}
use Rattle.net_doc.specs.declared.fault.Refusal.{Refusal}
use Rattle.net_doc.specs.Members.{all_of, list_under, or_default}
use Rattle.net_doc.specs.Documents.{router_of, data_routers, data_links, policies_of, weight_from, weight_under, weights_from, weights_of, unit_weights, version_of, document_from}
use Rattle.net_doc.specs.Documents.{document_of, form_refusal, over, failures_refusal, policies_refusal, limit_refusal, within_limits, limited, reading, IsFileName, IsWeight, IsWellFormed}
use Rattle.net_model.specs.Policies.{HasFewFailures}
use Rattle.net_doc.proofs.Names.{AllPairs-different}

-- where each form that reads has a property, so have all items
all_of-each : {T : Type 0} (form : Data → Option T) (P : T → Type 0) → ((d : Data) (x : T) → form d ≡ Some x → P x) → (items : Items) (xs : List T) → all_of form items ≡ Some xs → AllByRecursion P xs
all_of-each form P each no_items [] e = tt
all_of-each {T = T} form P each no_items (x ∷ xs) e = absurd (nil_cons (same_Some _ _ e))
  where
    nil_cons : [] ≡ x ∷ xs → ⊥
    nil_cons h = let e : length {A = T} [] ≡ length (x ∷ xs) = ap length h in absurd (omega arith)
all_of-each form P each (item d items) xs e =
    and_then_some _ (form d) xs e λ first first_is e₁.
    map_some _ (all_of form items) xs e₁ λ others others_is joined.
    let Q : List _ → Type 0 = AllByRecursion P in
    subst Q joined (each d first first_is, all_of-each form P each items others others_is)

router_of-some : (d : Data) (name : List ℕ) → router_of d ≡ Some name → IsFileName name
router_of-some d name e =
    and_then_some _ (as_str d) name e λ text _ e₁.
    let (test, value) = cond_some _ _ _ e₁ in
    let (some, few) = and_parts _ _ test in
    subst IsFileName value (record { some = leb-true _ _ some; few = leb-true _ _ few })

-- the routers' files
record AreRouters (routers : List (List ℕ)) : Type 0 where
  some : 1 ≤ length routers
  names : All IsFileName routers
  differ : AllPairs (λ r s. r ≢ s) routers

routers_of-some : (d : Data) (routers : List (List ℕ)) → data_routers d ≡ Some routers → AreRouters routers
routers_of-some d routers e =
    and_then_some _ (list_under (codes "routers") d) routers e λ items _ e₁.
    and_then_some _ (all_of router_of items) routers e₁ λ names names_is e₂.
    let (test, value) = cond_some _ _ _ e₂ in
    let (some, different) = and_parts _ _ test in
    subst AreRouters value (record {
      some = leb-true _ _ some;
      names = All-from_recursion IsFileName names (all_of-each router_of IsFileName router_of-some items names names_is);
      differ = AllPairs-different names different;
    })

-- a weight is from 1 to 16
weight_from-some : (d : Data) (weight : ℕ) → weight_from d ≡ Some weight → IsWeight weight
weight_from-some d weight e =
    and_then_some _ (option_and_then as_u64 (as_number d)) weight e λ value _ e₁.
    let (test, is) = cond_some _ _ _ e₁ in
    let (low, high) = and_parts _ _ test in
    subst IsWeight is (record { low = leb-true _ _ low; high = leb-true _ _ high })

one_is_weight : IsWeight 1
one_is_weight = record { low = omega arith; high = omega arith }

weight_under-some : (name : List ℕ) (d : Data) (weight : ℕ) → weight_under name d ≡ Some weight → IsWeight weight
weight_under-some name d weight e = go (get name d) e
  where
    go : (o : Option Data) → or_default 1 weight_from o ≡ Some weight → IsWeight weight
    go None h = subst IsWeight (same_Some _ _ h) one_is_weight
    go (Some v) h = weight_from-some v weight h

record AreWeights (weights : Weights) : Type 0 where
  list : IsWeight weights.list
  filter : IsWeight weights.filter
  session : IsWeight weights.session

weights_from-some : (d : Data) (weights : Weights) → weights_from d ≡ Some weights → AreWeights weights
weights_from-some d weights e =
    and_then_some _ (weight_under (codes "list") d) weights e λ list list_is e₁.
    and_then_some _ (weight_under (codes "filter") d) weights e₁ λ filter filter_is e₂.
    and_then_some _ (weight_under (codes "session") d) weights e₂ λ session session_is e₃.
    let (_, is) = cond_some _ _ _ e₃ in
    subst AreWeights is (record {
      list = weight_under-some (codes "list") d list list_is;
      filter = weight_under-some (codes "filter") d filter filter_is;
      session = weight_under-some (codes "session") d session session_is;
    })

weights_of-some : (d : Data) (weights : Weights) → weights_of d ≡ Some weights → AreWeights weights
weights_of-some d weights e = go (get (codes "weights") d) e
  where
    go : (o : Option Data) → or_default unit_weights weights_from o ≡ Some weights → AreWeights weights
    go None h = subst AreWeights (same_Some _ _ h) (record { list = one_is_weight; filter = one_is_weight; session = one_is_weight })
    go (Some v) h = weights_from-some v weights h

-- what holds of every document, whatever its counts are
record HasForms (doc : Document) : Type 0 where
  routers : AreRouters doc.routers
  weights : AreWeights doc.weights

from-forms : (d : Data) (doc : Document) → document_from d ≡ Some doc → HasForms doc
from-forms d doc e =
    and_then_some _ (version_of d) doc e λ version _ e₁.
    and_then_some _ (data_routers d) doc e₁ λ routers routers_is e₂.
    and_then_some _ (data_links d) doc e₂ λ links _ e₃.
    and_then_some _ (policies_of version d) doc e₃ λ policies _ e₄.
    and_then_some _ (weights_of d) doc e₄ λ weights weights_is e₅.
    let (_, value) = cond_some _ _ _ e₅ in
    subst HasForms value (record { routers = routers_of-some d routers routers_is; weights = weights_of-some d weights weights_is })

-- a value is not none
some_none : {A : Type 0} (x : A) → Some x ≡ None → ⊥
some_none x h = absurd (cc)

-- none of two refusals
or_none : {A : Type 0} (o p : Option A) → option_or o p ≡ None → (o ≡ None) × (p ≡ None)
or_none None p e = (refl, e)
or_none (Some x) p e = absurd (some_none x e)

-- a count that is not refused is within its limit
within : (what : LimitKind) (limit number count : ℕ) → over what limit number count ≡ None → count ≤ limit
within what limit number count e = go (nat_lt limit count) refl
  where
    go : (t : Bool) → nat_lt limit count ≡ t → count ≤ limit
    go true h =
        let told : Refusal = record { file = 0; number = number; kind = Limit what count } in
        let P : Bool → Type 0 = λ t. cond {A = Option Refusal} t (Some told) None ≡ None in
        absurd (some_none told (subst P h e))
    go false h = elim (cases_lt limit count) [ inl above ↦ absurd (true≢false (sym (lt-ltb limit count above) ∙ h)) | inr below ↦ omega arith ]

few_failures : (number : ℕ) (kind : PolicyKind) → failures_refusal number kind ≡ None → HasFewFailures kind
few_failures number Blocked e = tt
few_failures number Through e = tt
few_failures number (Reach failures) e = within Failures 16 number failures e

each_few : (number : ℕ) (policies : List Policy) → policies_refusal number policies ≡ None → AllByRecursion (λ policy. HasFewFailures policy.kind) policies
each_few number [] e = tt
each_few number (policy ∷ policies) e =
    let (first, rest) = or_none (failures_refusal number policy.kind) (policies_refusal (number + 1) policies) e in
    (few_failures number policy.kind first, each_few (number + 1) policies rest)

pub all_few : (policies : List Policy) → policies_refusal 1 policies ≡ None → All (λ policy. HasFewFailures policy.kind) policies
all_few policies e = All-from_recursion (λ policy. HasFewFailures policy.kind) policies (each_few 1 policies e)

-- what holds where no limit is passed
pub record IsWithin (doc : Document) : Type 0 where
  pub routers : length doc.routers ≤ 256
  pub links : length doc.links ≤ 1024
  pub policies : length doc.policies ≤ 256
  pub failures : policies_refusal 1 doc.policies ≡ None

pub counts_within : (doc : Document) → limit_refusal doc ≡ None → IsWithin doc
unfolding limit_refusal
counts_within doc e =
    let (routers, e₁) = or_none (over Routers 256 0 (length doc.routers)) _ e in
    let (links, e₂) = or_none (over Links 1024 0 (length doc.links)) _ e₁ in
    let (policies, failures) = or_none (over Policies 256 0 (length doc.policies)) _ e₂ in
    record {
      routers = within Routers 256 0 (length doc.routers) routers;
      links = within Links 1024 0 (length doc.links) links;
      policies = within Policies 256 0 (length doc.policies) policies;
      failures = failures;
    }

from-well_formed : (doc : Document) → HasForms doc → limit_refusal doc ≡ None → IsWellFormed doc
from-well_formed doc forms few =
    let counts = counts_within doc few in
    record {
      some_router = forms.routers.some;
      names = forms.routers.names;
      routers_differ = forms.routers.differ;
      few_routers = counts.routers;
      few_links = counts.links;
      few_policies = counts.policies;
      few_failures = all_few doc.policies counts.failures;
      list = forms.weights.list;
      filter = forms.weights.filter;
      session = forms.weights.session;
    }

forms_of : (bytes : List ℕ) (doc : Document) → document_of bytes ≡ Some doc → HasForms doc
forms_of bytes doc e = and_then_some document_from (if is_utf8 bytes then read bytes else None) doc e λ d _ e₁. from-forms d doc e₁

ok_err : {A B : Type 0} (x : A) (y : B) → Err y ≡ Ok x → ⊥
ok_err x y e = absurd (cc)

same_ok : (x y : Document) → within_limits x None ≡ Ok y → x ≡ y
same_ok x y e = cc

-- every document that is read is well formed
pub well_formed : (bytes : List ℕ) (doc : Document) → reading bytes ≡ Ok doc → IsWellFormed doc
well_formed bytes doc e = go (document_of bytes) refl e
  where
    at : (found : Document) (r : Option Refusal) → document_of bytes ≡ Some found → limit_refusal found ≡ r → within_limits found r ≡ Ok doc → IsWellFormed doc
    at found None is few h = subst IsWellFormed (same_ok found doc h) (from-well_formed found (forms_of bytes found is) few)
    at found (Some refusal) is few h = absurd (ok_err doc refusal h)

    go : (o : Option Document) → document_of bytes ≡ o → limited o ≡ Ok doc → IsWellFormed doc
    go None is h = absurd (ok_err doc form_refusal h)
    go (Some found) is h = at found (limit_refusal found) is refl h

-- bytes that are no JSON are no document
pub unread : (bytes : List ℕ) → (IsUtf8 bytes → read bytes ≡ None) → document_of bytes ≡ None
unread bytes none = go (is_utf8 bytes) refl
  where
    go : (b : Bool) → is_utf8 bytes ≡ b → document_of bytes ≡ None
    go true e = rw e (ap (option_and_then document_from) (none (IsUtf8-from_is_utf8 bytes e)))
    go false e = rw e refl

-- bytes that are JSON are the document that their value is
pub read_as : (bytes : List ℕ) (d : Data) → IsUtf8 bytes → read bytes ≡ Some d → document_of bytes ≡ document_from d
read_as bytes d text is = rw (is_utf8-from_IsUtf8 bytes text) (ap (option_and_then document_from) is)

-- the answer where there is no document
pub none_read : (bytes : List ℕ) → document_of bytes ≡ None → reading bytes ≡ Err form_refusal
none_read bytes e = ap limited e

same_some : {A : Type 0} (u v : A) (e : NetFault) → Ok u ≡ ok_or (Some v) e → Some v ≡ Some u
same_some u v e h = cc

no_ok : {A : Type 0} (y : A) (f : NetFault) → Ok y ≡ Err f → ⊥
no_ok y f h = absurd (cc)

-- a draft that was asked for is there
pub found_of : {A : Type 0} (o : Option A) (x : A) (e : NetFault) → Ok x ≡ ok_or o e → o ≡ Some x
found_of None x e is = absurd (no_ok x e is)
found_of (Some y) x e is = same_some x y e is

-- the answer on a document, by its limits
pub read_within : (bytes : List ℕ) (doc : Document) (r : Option Refusal) → document_of bytes ≡ Some doc → limit_refusal doc ≡ r → reading bytes ≡ within_limits doc r
read_within bytes doc r is few = ap limited is ∙ ap (within_limits doc) few
