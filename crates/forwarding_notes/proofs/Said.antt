-- The notes on the files, given what was read of them.
use Rattle.std.proofs.Common.{ℕ, Bool, List, []}
use Rattle.std.specs.Prelude.{◌↔◌, IsTrue, Option, Some, None, IfSome, Ok}
use Rattle.arc_outside.specs.Files.{Files}
use Rattle.net_model.specs.declared.policies.Document.{Document}
use Rattle.run_files.specs.declared.limits.Limits.TheVariants.{Judging, Editing}
use Rattle.run_inputs.specs.declared.inputs.Input.{Input}
use Rattle.run_inputs.specs.declared.inputs.Sources.{Sources}
use Rattle.run_inputs.specs.Inputs.{HoldsDocument, ReadsRouterFiles, ReadsSources}
use Rattle.any_forwarding_laws.specs.Forwardings.{IsOpenNetwork}
use Rattle.any_forwarding_laws.specs.Laws.{RunsEverywhere, VerdictsDecideAny}
use Rattle.forwarding_notes.specs.Notes.{SaysOfAny, Closes, AreClosed}

pub said_of_any : (held : Option Files) (document : List ℕ) (doc : Document) (input : Input) (any : Bool) →
    IfSome held (λ files. HoldsDocument document files doc → ReadsRouterFiles Judging [] document files (Ok input)) →
    (IsTrue any ↔ RunsEverywhere input.net) → (IsTrue any → IsOpenNetwork input.net) → (IsTrue any → VerdictsDecideAny input.net) →
    IfSome held (λ files. HoldsDocument document files doc → SaysOfAny document files any)
said_of_any None document doc input any told exact opened decide = tt
said_of_any (Some files) document doc input any told exact opened decide = λ holds.
    record { doc = input.doc; net = input.net; input = told holds; exact = exact; opened = opened; decide = decide }

pub said_of_edits : (held : Option Files) (document text : List ℕ) (doc : Document) (sources : Sources) (closes : Bool) →
    IfSome held (λ files. HoldsDocument document files doc → ReadsSources Editing [] document doc files (Ok sources)) →
    (IsTrue closes → Closes sources.built.net doc text) →
    IfSome held (λ files. HoldsDocument document files doc → IsTrue closes → AreClosed document text files)
said_of_edits None document text doc sources closes told closed = tt
said_of_edits (Some files) document text doc sources closes told closed = λ holds is. record {
  doc = doc;
  net = sources.built.net;
  input = (told holds).input;
  closes = closed is;
}
