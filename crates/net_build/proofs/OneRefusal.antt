-- The tries have one first refusal.
use Rattle.std.proofs.Common.{◌≡◌, ℕ, ◌+◌, inl, inr, Option, Some, List, [], ◌∷◌, length, sym, ◌∙◌, ap, arith}
use Rattle.std.specs.Prelude.{slice_get}
use Rattle.std.proofs.lemmas.Bool.{cases_lt}
use Rattle.arc_base.specs.declared.refusal.Kind.{Kind}
use Rattle.arc_base.specs.declared.refusal.Kind.TheVariants as kinds
use Rattle.arc_base.specs.declared.refusal.LimitKind.TheVariants as limits
use Rattle.net_doc.specs.declared.fault.Refusal.{Refusal}
use Rattle.net_model.specs.declared.policies.Document.{Document}
use Rattle.ios_config.specs.declared.settings.Config.{Config}
use Rattle.ios_config.specs.declared.settings.ListText.{ListText}
use Rattle.net_rules.specs.Limits.{long_list}
use Rattle.net_build.specs.Order.{Try, Hostname, Protocol, TwoAreas, SameAs, LinkFace, DownLinks, NeighborUnknown, NetworkNotConnected}
use Rattle.net_build.specs.Order.{Overlap, LinkSubnets, ListStopsSession, AdjacencyForm, Interfaces, Entries, Endpoint, RefusesWithin, IsFirstOf, AreClear}
use Rattle.net_rules.specs.Reasons.{IsEarliest, InFiles, InDocument}

-- the kind of a refusal of an item
files_kind : {X : Type 0} (kind : Kind) (Offends : ℕ → X → ℕ → Type 0) (items : List X) (r : Refusal) → InFiles kind Offends items r → r.kind ≡ kind
files_kind kind Offends items r refuses = ap (λ (x : Refusal). x.kind) refuses.told

document_kind : {X : Type 0} (kind : Kind) (Offends : ℕ → X → Type 0) (items : List X) (r : Refusal) → InDocument kind Offends items r → r.kind ≡ kind
document_kind kind Offends items r refuses = ap (λ (x : Refusal). x.kind) refuses.told

-- two refusals of one try at one file are of one kind
abbrev AreOfOneKind : (Refusal → Type 0) → Type 0
AreOfOneKind Makes = (r s : Refusal) → Makes r → Makes s → r.file ≡ s.file → r.kind ≡ s.kind

in_files : {X : Type 0} (kind : Kind) (Offends : ℕ → X → ℕ → Type 0) (items : List X) → AreOfOneKind (InFiles kind Offends items)
in_files kind Offends items r s of_r of_s file = files_kind kind Offends items r of_r ∙ sym (files_kind kind Offends items s of_s)

in_document : {X : Type 0} (kind : Kind) (Offends : ℕ → X → Type 0) (items : List X) → AreOfOneKind (InDocument kind Offends items)
in_document kind Offends items r s of_r of_s file = document_kind kind Offends items r of_r ∙ sym (document_kind kind Offends items s of_s)

one_of : {A : Type 0} (o : Option A) (x y : A) → o ≡ Some x → o ≡ Some y → x ≡ y
one_of o x y e f = cc

-- the place of a file by its number
same_place : (m n : ℕ) (r s : Refusal) → r.file ≡ m + 1 → s.file ≡ n + 1 → r.file ≡ s.file → m ≡ n
same_place m n r s of_r of_s file = omega (arith, of_r, of_s, file)

one_kind : (down : List ℕ) (most : ℕ) (doc : Document) (configs : List Config) (t : Try) → AreOfOneKind (RefusesWithin down most doc configs t)
one_kind down most doc configs Hostname = in_files kinds.Hostname _ configs
one_kind down most doc configs Protocol = in_files kinds.Protocol _ configs
one_kind down most doc configs TwoAreas = in_files kinds.TwoAreas _ configs
one_kind down most doc configs SameAs = in_files kinds.SameAs _ configs
one_kind down most doc configs LinkFace = in_document kinds.LinkFace _ doc.links
one_kind down most doc configs DownLinks = λ r s of_r of_s file. ap (λ (x : Refusal). x.kind) of_r.told ∙ sym (ap (λ (x : Refusal). x.kind) of_s.told)
one_kind down most doc configs NeighborUnknown = in_files kinds.NeighborUnknown _ configs
one_kind down most doc configs NetworkNotConnected = in_files kinds.NetworkNotConnected _ configs
one_kind down most doc configs Overlap = λ r s of_r of_s file. ap (λ (x : Refusal). x.kind) of_r.told ∙ sym (ap (λ (x : Refusal). x.kind) of_s.told)
one_kind down most doc configs LinkSubnets = λ r s of_r of_s file. document_kind kinds.LinkSubnets _ _ r of_r.refuses ∙ sym (document_kind kinds.LinkSubnets _ _ s of_s.refuses)
one_kind down most doc configs ListStopsSession = λ r s of_r of_s file. ap (λ (x : Refusal). x.kind) of_r.told ∙ sym (ap (λ (x : Refusal). x.kind) of_s.told)
one_kind down most doc configs AdjacencyForm = λ r s of_r of_s file. adjacency r of_r ∙ sym (adjacency s of_s)
  where
    adjacency : (r : Refusal) → RefusesWithin down most doc configs AdjacencyForm r → r.kind ≡ kinds.AdjacencyForm
    adjacency r (inl refuses) = document_kind kinds.AdjacencyForm _ _ r refuses.refuses
    adjacency r (inr refuses) = files_kind kinds.AdjacencyForm _ configs r refuses
one_kind down most doc configs Interfaces = λ r s of_r of_s file.
    let places : of_r.place ≡ of_s.place = same_place of_r.place of_s.place r s (ap (λ (x : Refusal). x.file) of_r.told) (ap (λ (x : Refusal). x.file) of_s.told) file in
    let config : of_r.config ≡ of_s.config = one_of (slice_get configs of_s.place) of_r.config of_s.config (ap (slice_get configs) (sym places) ∙ of_r.at_place) of_s.at_place in
    ap (λ (x : Refusal). x.kind) of_r.told ∙ ap (λ (c : Config). kinds.Limit limits.Interfaces (length c.faces)) config ∙ sym (ap (λ (x : Refusal). x.kind) of_s.told)
one_kind down most doc configs Entries = λ r s of_r of_s file.
    let places : of_r.place ≡ of_s.place = same_place of_r.place of_s.place r s (ap (λ (x : Refusal). x.file) of_r.told) (ap (λ (x : Refusal). x.file) of_s.told) file in
    let config : of_r.config ≡ of_s.config = one_of (slice_get configs of_s.place) of_r.config of_s.config (ap (slice_get configs) (sym places) ∙ of_r.at_place) of_s.at_place in
    let list : of_r.list ≡ of_s.list = one_of (long_list most of_s.config) of_r.list of_s.list (ap (long_list most) (sym config) ∙ of_r.first) of_s.first in
    ap (λ (x : Refusal). x.kind) of_r.told ∙ ap (λ (l : ListText). kinds.Limit limits.Entries (length l.entries)) list ∙ sym (ap (λ (x : Refusal). x.kind) of_s.told)
one_kind down most doc configs Endpoint = λ r s of_r of_s file. document_kind kinds.Endpoint _ _ r of_r.refuses ∙ sym (document_kind kinds.Endpoint _ _ s of_s.refuses)

-- a try has one first refusal
one_first : (Makes : Refusal → Type 0) → AreOfOneKind Makes → (r s : Refusal) → IsEarliest Makes r → IsEarliest Makes s → r ≡ s
one_first Makes kind r s of_r of_s =
    let file : r.file ≡ s.file = elim (cases_lt r.file s.file) [
      | inl below ↦ absurd (of_s.first r of_r.made (inl below))
      | inr above ↦ elim (cases_lt s.file r.file) [
        | inl below ↦ absurd (of_r.first s of_s.made (inl below))
        | inr other ↦ omega arith
      ]
    ] in
    let number : r.number ≡ s.number = elim (cases_lt r.number s.number) [
      | inl below ↦ absurd (of_s.first r of_r.made (inr (file, below)))
      | inr above ↦ elim (cases_lt s.number r.number) [
        | inl below ↦ absurd (of_r.first s of_s.made (inr (sym file, below)))
        | inr other ↦ omega arith
      ]
    ] in
    let same : r.kind ≡ s.kind = kind r s of_r.made of_s.made file in
    λ i. record { file = file i; number = number i; kind = same i }

-- some tries have one first refusal
pub one_first_of : (down : List ℕ) (most : ℕ) (doc : Document) (configs : List Config) (ts : List Try) (r s : Refusal) →
    IsFirstOf (RefusesWithin down most doc configs) ts r → IsFirstOf (RefusesWithin down most doc configs) ts s → r ≡ s
one_first_of down most doc configs [] r s of_r of_s = absurd of_r
one_first_of down most doc configs (t ∷ ts) r s (inl of_r) (inl of_s) = one_first (RefusesWithin down most doc configs t) (one_kind down most doc configs t) r s of_r of_s
one_first_of down most doc configs (t ∷ ts) r s (inl of_r) (inr of_s) = absurd (of_s.0 r of_r.made)
one_first_of down most doc configs (t ∷ ts) r s (inr of_r) (inl of_s) = absurd (of_r.0 s of_s.made)
one_first_of down most doc configs (t ∷ ts) r s (inr of_r) (inr of_s) = one_first_of down most doc configs ts r s of_r.1 of_s.1

-- tries that are clear have no first refusal
pub clear_or_first : (Makes : Try → Refusal → Type 0) (ts : List Try) (r : Refusal) → AreClear Makes ts → IsFirstOf Makes ts r → ⊥
clear_or_first Makes [] r clear first = first
clear_or_first Makes (t ∷ ts) r clear (inl first) = clear.0 r first.made
clear_or_first Makes (t ∷ ts) r clear (inr later) = clear_or_first Makes ts r clear.1 later.1
