-- What the first packet's answers say of the links that deny a class.
use Rattle.std.proofs.Common.{◌≡◌, ℕ, Bool, Option, Some, None, List, subst}
use Rattle.std.specs.Prelude.{IfSome, IfNone, MatchOption}
use Rattle.arc_base.specs.declared.place.Link.{Link}
use Rattle.arc_base.specs.declared.prefix.Prefix.{Prefix}
use Rattle.net_model.specs.declared.policies.Class.{Class}
use Rattle.net_model.specs.declared.rows.Network.{Network}
use Rattle.net_model.specs.Packets.{first_packet}
use Rattle.net_model.specs.Witnesses.{IsUniformFor}
use Rattle.class_graph.specs.Answers.{answers_to}
use Rattle.class_graph.specs.Denials.{IsDeniedOn, IsDeniedNowhere, IsLeastDenied, IsDeniedBy, IsLeastDeniedBy}
use Rattle.net_model.proofs.Packets.{first_is_of}
use Rattle.class_graph.proofs.Alike.{arc_allows_is, arc_alike}

on_by : (net : Network) (class : Class) → IsUniformFor net class → (to : Prefix) (link : ℕ) → IsDeniedBy net to (answers_to net (first_packet class)) link → IsDeniedOn net to class link
on_by net class uniform to link by = record {
  arc = by.arc;
  is_arc = by.is_arc;
  routed = by.routed;
  of_link = by.of_link;
  denied = λ p of_p permits. by.denied ((arc_allows_is net class uniform by.arc).1 (λ q of_q. arc_alike net class uniform p q of_p of_q by.arc permits));
}

by_on : (net : Network) (class : Class) → IsUniformFor net class → (to : Prefix) (link : ℕ) → IsDeniedOn net to class link → IsDeniedBy net to (answers_to net (first_packet class)) link
by_on net class uniform to link on = record {
  arc = on.arc;
  is_arc = on.is_arc;
  routed = on.routed;
  of_link = on.of_link;
  denied = λ allows. on.denied (first_packet class) (first_is_of class) ((arc_allows_is net class uniform on.arc).0 allows (first_packet class) (first_is_of class));
}

by_first : (net : Network) (class : Class) → IsUniformFor net class → (to : Prefix) (found : Option Link) →
    IfSome found (λ link. IsLeastDeniedBy net to (answers_to net (first_packet class)) link.0) → IfNone found ((link : ℕ) → ¬ IsDeniedBy net to (answers_to net (first_packet class)) link) →
    MatchOption found (IsDeniedNowhere net to class) (λ link. IsLeastDenied net to class link.0)
by_first net class uniform to None found none = λ link on. none link (by_on net class uniform to link on)
by_first net class uniform to (Some link) found none = record {
  denied = on_by net class uniform to link.0 found.denied;
  least = λ lower low on. found.least lower low (by_on net class uniform to lower on);
}

pub denied_class : (net : Network) (class : Class) → IsUniformFor net class → (to : Prefix) (answers : List Bool) → answers ≡ answers_to net (first_packet class) →
    (found : Option Link) →
    IfSome found (λ link. IsLeastDeniedBy net to answers link.0) → IfNone found ((link : ℕ) → ¬ IsDeniedBy net to answers link) →
    MatchOption found (IsDeniedNowhere net to class) (λ link. IsLeastDenied net to class link.0)
denied_class net class uniform to answers answered found some none =
    by_first net class uniform to found
    (subst (λ (a : List Bool). IfSome found (λ link. IsLeastDeniedBy net to a link.0)) answered some)
    (subst (λ (a : List Bool). IfNone found ((link : ℕ) → ¬ IsDeniedBy net to a link)) answered none)
