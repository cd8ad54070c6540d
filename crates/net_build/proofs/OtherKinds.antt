-- No refusal of a network says that a file is missing or too long.
use Rattle.std.proofs.Common.{◌≡◌, ℕ, inl, inr, Bool, true, false, List, [], ◌∷◌, refl, sym, ◌∙◌, ap}
use Rattle.std.proofs.lemmas.Bool.{false≢true}
use Rattle.arc_base.specs.declared.refusal.Kind.{Kind}
use Rattle.arc_base.specs.declared.refusal.Kind.TheVariants as kinds
use Rattle.net_doc.specs.declared.fault.Refusal.{Refusal}
use Rattle.net_model.specs.declared.policies.Document.{Document}
use Rattle.ios_lines.specs.declared.line.Line.{Line}
use Rattle.ios_lines.specs.declared.line.Lines.{Lines}
use Rattle.ios_words.specs.declared.kinds.BlockKind.{BlockKind}
use Rattle.ios_config.specs.Commands.{IsNoCommand}
use Rattle.ios_config.specs.declared.settings.Config.{Config}
use Rattle.ios_config.specs.Configs.{IsRefused}
use Rattle.net_build.specs.Networks.{IsFaulty, IsFirstRefusalWithin}
use Rattle.net_build.specs.Order.{Try, Hostname, Protocol, TwoAreas, SameAs, LinkFace, DownLinks, NeighborUnknown, NetworkNotConnected}
use Rattle.net_build.specs.Order.{Overlap, LinkSubnets, ListStopsSession, AdjacencyForm, Interfaces, Entries, Endpoint, RefusesWithin, IsFirstOf, tries}
use Rattle.net_rules.specs.Reasons.{InFiles, InDocument}

-- whether a kind is about how a file was read
abbrev says_reading : Kind → Bool
says_reading kinds.Missing = true
says_reading kinds.TooLong = true
says_reading _ = false

-- the kind is about something else
abbrev IsOther : Kind → Type 0
IsOther kind = says_reading kind ≡ false

of_kind : (k l : Kind) → k ≡ l → says_reading l ≡ false → IsOther k
of_kind k l same other = ap says_reading same ∙ other

is_other : (k l : Kind) → IsOther k → says_reading l ≡ true → k ≡ l → ⊥
is_other k l other says same = false≢true (sym other ∙ ap says_reading same ∙ says)

-- a line that is no command is refused for its words
no_command : (text : List ℕ) (line : Line) (within : BlockKind) (kind : Kind) → IsNoCommand text line within kind → IsOther kind
no_command text line within kind (inl unknown) = of_kind kind kinds.UnknownLine unknown.0 refl
no_command text line within kind (inr (inl word)) = of_kind kind kinds.BadWord word.0 refl
no_command text line within kind (inr (inr mask)) = of_kind kind kinds.WildcardNotPrefix mask.0 refl

refused : (text : List ℕ) (lines : Lines) (line : ℕ) (kind : Kind) → IsRefused text lines line kind → IsOther kind
refused text lines line kind (inl first) = no_command text first.line first.within kind first.fault
refused text lines line kind (inr (inl twice)) = of_kind kind kinds.DuplicateBlock twice.0 refl
refused text lines line kind (inr (inr falls)) = of_kind kind kinds.SequenceNotRising falls.0 refl

-- a text is refused for its lines
faulty : (text : List ℕ) (line : ℕ) (kind : Kind) → IsFaulty text line kind → IsOther kind
faulty text line kind (inl orphan) = of_kind kind kinds.OrphanLine orphan.0 refl
faulty text line kind (inr (inl banner)) = of_kind kind kinds.BadWord banner.0 refl
faulty text line kind (inr (inr wrong)) = refused text wrong.lines line kind wrong.refused

in_files : {X : Type 0} (kind : Kind) (Offends : ℕ → X → ℕ → Type 0) (items : List X) → says_reading kind ≡ false → (r : Refusal) → InFiles kind Offends items r → IsOther r.kind
in_files kind Offends items other r refuses = of_kind r.kind kind (ap (λ (x : Refusal). x.kind) refuses.told) other

in_document : {X : Type 0} (kind : Kind) (Offends : ℕ → X → Type 0) (items : List X) → says_reading kind ≡ false → (r : Refusal) → InDocument kind Offends items r → IsOther r.kind
in_document kind Offends items other r refuses = of_kind r.kind kind (ap (λ (x : Refusal). x.kind) refuses.told) other

-- a network is refused for what the lines say
tried : (down : List ℕ) (most : ℕ) (doc : Document) (configs : List Config) (t : Try) (r : Refusal) → RefusesWithin down most doc configs t r → IsOther r.kind
tried down most doc configs Hostname = in_files kinds.Hostname _ configs refl
tried down most doc configs Protocol = in_files kinds.Protocol _ configs refl
tried down most doc configs TwoAreas = in_files kinds.TwoAreas _ configs refl
tried down most doc configs SameAs = in_files kinds.SameAs _ configs refl
tried down most doc configs LinkFace = in_document kinds.LinkFace _ doc.links refl
tried down most doc configs DownLinks = λ r is. of_kind r.kind kinds.LinkFace (ap (λ (x : Refusal). x.kind) is.told) refl
tried down most doc configs NeighborUnknown = in_files kinds.NeighborUnknown _ configs refl
tried down most doc configs NetworkNotConnected = in_files kinds.NetworkNotConnected _ configs refl
tried down most doc configs Overlap = λ r is. of_kind r.kind kinds.Overlap (ap (λ (x : Refusal). x.kind) is.told) refl
tried down most doc configs LinkSubnets = λ r is. in_document kinds.LinkSubnets _ _ refl r is.refuses
tried down most doc configs ListStopsSession = λ r is. of_kind r.kind kinds.ListStopsSession (ap (λ (x : Refusal). x.kind) is.told) refl
tried down most doc configs AdjacencyForm = λ r is. adjacency r is
  where
    adjacency : (r : Refusal) → RefusesWithin down most doc configs AdjacencyForm r → IsOther r.kind
    adjacency r (inl is) = in_document kinds.AdjacencyForm _ _ refl r is.refuses
    adjacency r (inr is) = in_files kinds.AdjacencyForm _ configs refl r is
tried down most doc configs Interfaces = λ r is. of_kind r.kind (kinds.Limit _ _) (ap (λ (x : Refusal). x.kind) is.told) refl
tried down most doc configs Entries = λ r is. of_kind r.kind (kinds.Limit _ _) (ap (λ (x : Refusal). x.kind) is.told) refl
tried down most doc configs Endpoint = λ r is. in_document kinds.Endpoint _ _ refl r is.refuses

first_tried : (down : List ℕ) (most : ℕ) (doc : Document) (configs : List Config) (ts : List Try) (r : Refusal) → IsFirstOf (RefusesWithin down most doc configs) ts r → IsOther r.kind
first_tried down most doc configs [] r first = absurd first
first_tried down most doc configs (t ∷ ts) r (inl first) = tried down most doc configs t r first.made
first_tried down most doc configs (t ∷ ts) r (inr later) = first_tried down most doc configs ts r later.1

other : (down : List ℕ) (most : ℕ) (doc : Document) (files : List (List ℕ)) (r : Refusal) → IsFirstRefusalWithin down most doc files r → IsOther r.kind
other down most doc files r (inl first) = faulty first.text r.number r.kind first.faulty
other down most doc files r (inr is) = first_tried down most doc is.configs tries r is.first

pub never_missing : (down : List ℕ) (most : ℕ) (doc : Document) (files : List (List ℕ)) (r : Refusal) → IsFirstRefusalWithin down most doc files r → r.kind ≡ kinds.Missing → ⊥
never_missing down most doc files r first = is_other r.kind kinds.Missing (other down most doc files r first) refl

pub never_too_long : (down : List ℕ) (most : ℕ) (doc : Document) (files : List (List ℕ)) (r : Refusal) → IsFirstRefusalWithin down most doc files r → r.kind ≡ kinds.TooLong → ⊥
never_too_long down most doc files r first = is_other r.kind kinds.TooLong (other down most doc files r first) refl
