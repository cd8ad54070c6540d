-- The words for why input is refused, and for why a certificate or a proof is rejected.
use Rattle.std.specs.Prelude.{ℕ, List, ◌++◌, codes, decimal}
use Rattle.arc_base.specs.declared.refusal.Kind.{Kind}
use Rattle.arc_base.specs.declared.refusal.Kind.TheVariants as kinds
use Rattle.arc_base.specs.declared.refusal.LimitKind.{LimitKind}
use Rattle.arc_base.specs.declared.refusal.LimitKind.TheVariants as counts
use Rattle.arc_base.specs.declared.certificate.CertKind.{CertKind}
use Rattle.arc_base.specs.declared.certificate.CertKind.TheVariants as certificates

-- the words for what is counted
abbrev pub count_word : LimitKind → List ℕ
count_word counts.Routers = codes "routers"
count_word counts.Interfaces = codes "interfaces"
count_word counts.Links = codes "links"
count_word counts.Policies = codes "policies"
count_word counts.Failures = codes "failures"
count_word counts.Entries = codes "entries"
count_word counts.Classes = codes "classes"
count_word counts.Edits = codes "edits"
count_word counts.Literals = codes "literals"
count_word counts.Variables = codes "variables"

-- the words for the kind of a refusal
abbrev pub kind_words : Kind → List ℕ
kind_words kinds.DocumentForm = codes "document-form"
kind_words kinds.Missing = codes "missing"
kind_words kinds.TooLong = codes "too-long"
kind_words kinds.OrphanLine = codes "orphan-line"
kind_words kinds.UnknownLine = codes "unknown-line"
kind_words kinds.BadWord = codes "bad-word"
kind_words kinds.WildcardNotPrefix = codes "wildcard-not-prefix"
kind_words kinds.DuplicateBlock = codes "duplicate-block"
kind_words kinds.SequenceNotRising = codes "sequence-not-rising"
kind_words kinds.Hostname = codes "hostname"
kind_words kinds.Protocol = codes "protocol"
kind_words kinds.TwoAreas = codes "two-areas"
kind_words kinds.SameAs = codes "same-as"
kind_words kinds.NeighborUnknown = codes "neighbor-unknown"
kind_words kinds.NetworkNotConnected = codes "network-not-connected"
kind_words kinds.Overlap = codes "overlap"
kind_words kinds.LinkFace = codes "link-face"
kind_words kinds.LinkSubnets = codes "link-subnets"
kind_words kinds.ListStopsSession = codes "list-stops-session"
kind_words kinds.AdjacencyForm = codes "adjacency-form"
kind_words kinds.Endpoint = codes "endpoint"
kind_words (kinds.Limit what count) =
    codes "limit " ++ count_word what ++ codes " " ++ decimal count
kind_words kinds.OutputName = codes "output-name"
kind_words kinds.EditLine = codes "edit-line"
kind_words kinds.UnknownRouter = codes "unknown-router"

-- the word for why a line of a certificate or a proof is rejected
abbrev pub certificate_word : CertKind → List ℕ
certificate_word certificates.Form = codes "form"
certificate_word certificates.NoEnd = codes "no-end"
certificate_word certificates.NoClaim = codes "no-claim"
certificate_word certificates.Edit = codes "edit"
certificate_word certificates.Price = codes "price"
certificate_word certificates.Policy = codes "policy"
certificate_word certificates.Witness = codes "witness"
certificate_word certificates.NotYes = codes "not-yes"
certificate_word certificates.IdNotRising = codes "id-not-rising"
certificate_word certificates.NegativeHint = codes "negative-hint"
certificate_word certificates.UnknownId = codes "unknown-id"
certificate_word certificates.HintNotUnit = codes "hint-not-unit"
certificate_word certificates.NoConflict = codes "no-conflict"
certificate_word certificates.BoundTooLow = codes "bound-too-low"
certificate_word certificates.BoundTooHigh = codes "bound-too-high"
certificate_word certificates.NotRefuted = codes "not-refuted"
certificate_word certificates.Memory = codes "memory"
