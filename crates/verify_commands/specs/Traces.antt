-- The command `trace DOC FROM TO [--down A,B]`.
use Rattle.std.specs.Prelude.{◌≡◌, ◌↔◌, ◌⊎◌, ℕ, ◌+◌, ◌==◌, Bool, List, [], map, length}
use Rattle.std.specs.List.{list_any, range_with_len}
use Rattle.arc_base.specs.declared.refusal.Kind.TheVariants as kinds
use Rattle.arc_outside.specs.Files.{Files}
use Rattle.net_model.specs.declared.policies.Document.{Document}
use Rattle.net_model.specs.declared.rows.Network.{Network}
use Rattle.net_model.specs.Validity.{IsValid}
use Rattle.net_rules.specs.Addressing.{HasEndpoints}
use Rattle.route_trace.specs.Routes.{flagged}
use Rattle.route_trace.specs.TraceText.{IsTrace}
use Rattle.command_words.specs.declared.commands.TraceWords.{TraceWords}
use Rattle.run_files.specs.declared.limits.Limits.TheVariants.{Judging}
use Rattle.run_files.specs.declared.outcome.Done.{Done}
use Rattle.run_files.specs.declared.outcome.FileRefusal.{FileRefusal}
use Rattle.run_inputs.specs.Inputs.{HoldsInput, IsInputRefusal}
use Rattle.run_files.specs.Refusals.{refusal_of}

-- for each link, whether it is down: whether its number, counted from 1, is among these
abbrev pub down_flags : ℕ → List ℕ → List Bool
down_flags links numbers =
    map (λ place. list_any (λ n. n == place + 1) numbers) (range_with_len 0 links)

-- the document and its files have a network with the links that are to be down
abbrev pub HasLinks : TraceWords → Files → Document → Network → Type 0
HasLinks words files doc net = HoldsInput Judging words.down words.document files doc net

-- the document and its files have such a network, and the prefixes do not lie in two different host
-- networks of it
pub record RefusesTraceEnds (words : TraceWords) (files : Files) (r : FileRefusal) : Type 0 where
  pub doc : Document
  pub net : Network
  pub input : HasLinks words files doc net
  pub ends : ¬ HasEndpoints net words.from words.to
  pub told : r ≡ refusal_of words.document 0 kinds.Endpoint

-- The first refusal: of the document, its router files or their network with these links; or that
-- the prefixes do not lie in two different host networks.
abbrev pub IsTraceRefusal : TraceWords → Files → FileRefusal → Type 0
IsTraceRefusal words files r =
    IsInputRefusal Judging words.down words.document files r ⊎ RefusesTraceEnds words files r

-- the trace from the one prefix to the other, with these links down
pub record IsTraced (words : TraceWords) (files : Files) (done : Done) : Type 0 where
  pub doc : Document
  pub net : Network
  pub input : HasLinks words files doc net
  pub valid : IsValid net
  pub ends : HasEndpoints net words.from words.to
  pub text :
      IsTrace net (flagged (down_flags (length net.links) words.down)) words.from words.to done.text
  pub writes : done.writes ≡ []
  pub status : done.status ≡ 0

-- the document and its files have a network with these links, and the prefixes lie in two different
-- host networks of it
pub record HasTrace (words : TraceWords) (files : Files) : Type 0 where
  pub doc : Document
  pub net : Network
  pub input : HasLinks words files doc net
  pub ends : HasEndpoints net words.from words.to

-- the document, its files, their network or the prefixes are refused
pub record HasNoTrace (words : TraceWords) (files : Files) : Type 0 where
  pub refusal : FileRefusal
  pub refused : IsTraceRefusal words files refusal

-- The status says which of the two it is: 0 for a trace, and 5 for refused.
pub record TellsTrace (words : TraceWords) (status : ℕ) (files : Files) : Type 0 where
  pub traced_exactly : (status ≡ 0) ↔ HasTrace words files
  pub refused_exactly : (status ≡ 5) ↔ HasNoTrace words files
  pub nothing_else : (status ≡ 0) ⊎ (status ≡ 5)
