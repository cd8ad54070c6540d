-- The links of the document, one after another.
use Rattle.std.proofs.Common.{◌≡◌, ℕ, ◌⊎◌, inl, inr, List, take, subst}
use Rattle.std.specs.Prelude.{Contains}
use Rattle.arc_base.specs.declared.refusal.Kind.TheVariants as kinds
use Rattle.net_doc.specs.declared.fault.Refusal.{Refusal}
use Rattle.net_model.specs.declared.policies.Document.{Document}
use Rattle.net_model.specs.declared.policies.LinkText.{LinkText}
use Rattle.ios_config.specs.declared.settings.Config.{Config}
use Rattle.net_rules.specs.Sites.{FullName, full_names, a_end, b_end, ends_of}
use Rattle.net_rules.specs.Reasons.{NoRefusal, IsEarliest, InDocument}
use Rattle.net_rules.specs.Linking.{JoinsFree, RefusesLinkFace}

-- what is wrong with a link where the interfaces have these names and the links are these
abbrev pub IsNoLink : List FullName → List LinkText → ℕ → LinkText → Type 0
IsNoLink names links place link = ¬ JoinsFree names (take place links) link

-- a link that uses an interface of an earlier one
pub not_free : (names : List FullName) (earlier : List LinkText) (link : LinkText) → Contains (ends_of earlier) (a_end link) ⊎ Contains (ends_of earlier) (b_end link) → ¬ JoinsFree names earlier link
not_free names earlier link (inl there) free = free.a_free there
not_free names earlier link (inr there) free = free.b_free there

-- the refusals are those over the names and links that were gone through
pub refused_link : (doc : Document) (configs : List Config) (names : List FullName) (links : List LinkText) (r : Refusal) → names ≡ full_names configs → links ≡ doc.links →
    IsEarliest (InDocument kinds.LinkFace (IsNoLink names links) links) r → IsEarliest (RefusesLinkFace doc configs) r
refused_link doc configs names links r same_names same_links first =
    subst (λ (ns : List FullName). IsEarliest (InDocument kinds.LinkFace (IsNoLink ns doc.links) doc.links) r) same_names
    (subst (λ (ls : List LinkText). IsEarliest (InDocument kinds.LinkFace (IsNoLink names ls) ls) r) same_links first)

pub clear_links : (doc : Document) (configs : List Config) (names : List FullName) (links : List LinkText) → names ≡ full_names configs → links ≡ doc.links →
    NoRefusal (InDocument kinds.LinkFace (IsNoLink names links) links) → NoRefusal (RefusesLinkFace doc configs)
clear_links doc configs names links same_names same_links clear =
    subst (λ (ns : List FullName). NoRefusal (InDocument kinds.LinkFace (IsNoLink ns doc.links) doc.links)) same_names
    (subst (λ (ls : List LinkText). NoRefusal (InDocument kinds.LinkFace (IsNoLink names ls) ls)) same_links clear)
