-- A policy that has no member but those of version 1 speaks of all services.
use Rattle.std.proofs.Common.{◌≡◌, ℕ, true, false, List, Option, Some, None, codes, bytes_eq, refl, sym, ap, ◌∙◌, true≢false}
use Rattle.std.proofs.lemmas.Bool.{and_parts}
use Rattle.std.proofs.lemmas.Map.Lookups.{exact_bytes}
use Rattle.std.proofs.NetLemmas.Options.{cond_some, and_then_some}
use Rattle.std.proofs.lemmas.Option.{same_Some}
use Rattle.std.specs.List.{list_any}
use Rattle.std.specs.Cmp.Lexicographic.{slice_cmp}
use Rattle.std.specs.declared.cmp.Ordering.{Ordering}
use Rattle.std.specs.declared.cmp.Ordering.TheVariants.{Less, Equal, Greater}
use Rattle.std.specs.Ordering.{nat_cmp, match_ordering}
use Rattle.serde_json.specs.Data.{Data, null, boolean, number, string, array, object, Members, no_members, member}
use Rattle.serde_json.specs.Find.{get, get_member}
use Rattle.arc_base.specs.PrefixText.{prefix_of}
use Rattle.net_model.specs.Services.{whole_service}
use Rattle.net_model.specs.declared.policies.PolicyKind.{PolicyKind}
use Rattle.net_model.specs.declared.policies.PolicyKind.TheVariants.{Blocked, Through, Reach}
use Rattle.net_model.specs.declared.policies.Policy.{Policy}
use Rattle.net_doc.specs.Members.{are_among, has_only, number_under, text_under}
use Rattle.net_doc.specs.Services.{policy_services, services_from}
use Rattle.net_doc.specs.Documents.{policy_kind, kind_members, OldPoliciesAreWhole}

-- a name that is among none of the members' is no member's
module _ (names : List (List ℕ)) (k : List ℕ) (not_among : list_any (λ known. bytes_eq known k) names ≡ false) where
  lacks_member : (ms : Members) → are_among names ms ≡ true → get_member k ms ≡ None
  lacks_member no_members among = refl
  lacks_member (member l e ms) among = by (lacks_member ms (and_parts _ _ among).1) (slice_cmp nat_cmp k l) refl
    where
      by : get_member k ms ≡ None → (o : Ordering) → slice_cmp nat_cmp k l ≡ o → match_ordering o (get_member k ms) (Some e) (get_member k ms) ≡ None
      by rest Less is = rest
      by rest Greater is = rest
      by rest Equal is =
          let same : k ≡ l = exact_bytes k l is in
          absurd (true≢false (sym (and_parts _ _ among).0 ∙ ap (λ (n : List ℕ). list_any (λ known. bytes_eq known n) names) (sym same) ∙ not_among))

  lacks : (d : Data) → has_only names d ≡ true → get k d ≡ None
  lacks null h = refl
  lacks (boolean b) h = refl
  lacks (number n) h = refl
  lacks (string s) h = refl
  lacks (array ds) h = refl
  lacks (object ms) h = lacks_member ms h

no_proto : (kind : PolicyKind) → list_any (λ known. bytes_eq known (codes "proto")) (kind_members kind) ≡ false
no_proto Blocked = refl
no_proto Through = refl
no_proto (Reach failures) = refl

no_port : (kind : PolicyKind) → list_any (λ known. bytes_eq known (codes "port")) (kind_members kind) ≡ false
no_port Blocked = refl
no_port Through = refl
no_port (Reach failures) = refl

whole_of : (d : Data) (kind : PolicyKind) → has_only (kind_members kind) d ≡ true → policy_services d ≡ Some whole_service
whole_of d kind h =
    ap (λ (o : Option Data). services_from o (get (codes "port") d)) (lacks (kind_members kind) (codes "proto") (no_proto kind) d h)
    ∙ ap (services_from None) (lacks (kind_members kind) (codes "port") (no_port kind) d h)

pub old_policies : OldPoliciesAreWhole
old_policies d policy e =
    and_then_some _ (text_under (codes "kind") d) policy e λ kind_text _ e₁.
    and_then_some _ (policy_kind kind_text (number_under (codes "failures") d)) policy e₁ λ kind _ e₂.
    and_then_some _ (text_under (codes "from") d) policy e₂ λ from_text _ e₃.
    and_then_some _ (prefix_of from_text) policy e₃ λ from _ e₄.
    and_then_some _ (text_under (codes "to") d) policy e₄ λ to_text _ e₅.
    and_then_some _ (prefix_of to_text) policy e₅ λ to _ e₆.
    and_then_some _ (policy_services d) policy e₆ λ service is e₇.
    let (only, value) = cond_some _ _ _ e₇ in
    ap (λ (p : Policy). p.service) (sym value) ∙ same_Some _ _ (sym is ∙ whole_of d kind only)
