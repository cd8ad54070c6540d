-- The outcomes of a trace, and what its status says.
use Rattle.std.proofs.Common.{◌≡◌, ℕ, ◌⊎◌, inl, inr, Bool, List, [], length, refl, sym, ◌∙◌, ap, subst, arith}
use Rattle.std.specs.Prelude.{Option, Some, None, IfSome, Ok, Err}
use Rattle.arc_base.specs.declared.refusal.Kind.TheVariants.{Endpoint}
use Rattle.arc_base.specs.declared.prefix.Prefix.{Prefix}
use Rattle.arc_outside.specs.Files.{Files}
use Rattle.net_model.specs.declared.rows.Network.{Network}
use Rattle.net_rules.specs.Addressing.{HasEndpoints}
use Rattle.route_trace.specs.Routes.{flagged}
use Rattle.net_model.specs.Forwarding.{HasHost}
use Rattle.net_model.proofs.Hosts.{host_at}
use Rattle.route_trace.specs.TraceText.{IsTrace}
use Rattle.run_inputs.specs.declared.inputs.Input.{Input}
use Rattle.run_files.specs.declared.outcome.Done.{Done}
use Rattle.run_files.specs.declared.outcome.FileRefusal.{FileRefusal}
use Rattle.run_files.specs.declared.outcome.Stop.{Stop}
use Rattle.run_files.specs.declared.outcome.Stop.TheVariants as stops
use Rattle.command_words.specs.declared.commands.TraceWords.{TraceWords}
use Rattle.run_files.specs.Refusals.{refusal_of}
use Rattle.run_files.specs.declared.limits.Limits.TheVariants.{Judging}
use Rattle.run_files.specs.Answers.{Answers, IsJudging, IsTold}
use Rattle.run_inputs.specs.Inputs.{HoldsInput, IsFit, IsInputRefusal, ReadsInput}
use Rattle.run_files.proofs.Answering.{refused, stopped}
use Rattle.verify_commands.specs.Traces.{HasNoTrace, HasTrace, IsTraceRefusal, IsTraced, TellsTrace, down_flags}
use Rattle.verify_commands.proofs.OneTrace.{has_trace, traced_or_not}

-- the trace with the flags that were made
pub flags_from : (flags made : List Bool) (links count : ℕ) (numbers read : List ℕ) → flags ≡ made → made ≡ down_flags count read → count ≡ links → read ≡ numbers → flags ≡ down_flags links numbers
flags_from flags made links count numbers read same are counted is =
    same ∙ are ∙ ap (λ (k : ℕ). down_flags k read) counted ∙ ap (down_flags links) is

pub trace_from : (net : Network) (flags down : List Bool) (from to : Prefix) (made text : List ℕ) → flags ≡ down → text ≡ made →
    IsTrace net (flagged flags) from to made → IsTrace net (flagged down) from to text
trace_from net flags down from to made text same is trace =
    let P : List Bool → Type 0 = λ fs. IsTrace net (flagged fs) from to made in
    let Q : List ℕ → Type 0 = λ t. IsTrace net (flagged down) from to t in
    subst Q (sym is) (subst P same trace)

pub has_hosts : (net : Network) (from to : Prefix) → HasEndpoints net from to → HasHost net from × HasHost net to
has_hosts net from to ends = (host_at net from ends.source ends.from, host_at net to ends.target ends.to)

-- the input that was read
abbrev Read : Option Files → TraceWords → Input → Type 0
Read held words input = IfSome held (λ files. HoldsInput Judging words.down words.document files input.doc input.net)

pub input_of : (held : Option Files) (words : TraceWords) (down : List ℕ) (input : Input) → down ≡ words.down
    → IfSome held (λ files. HoldsInput Judging down words.document files input.doc input.net) → Read held words input
input_of held words down input same told = subst (λ (numbers : List ℕ). IfSome held (λ files. HoldsInput Judging numbers words.document files input.doc input.net)) same told

pub input_stopped : (held : Option Files) (words : TraceWords) (down : List ℕ) (stop : Stop) → down ≡ words.down
    → IfSome held (λ files. ReadsInput Judging down words.document files (Err stop)) → Answers IsJudging (IsTraceRefusal words) (IsTraced words) held (Err stop)
input_stopped held words down stop same told =
    stopped IsJudging (IsTraceRefusal words) (IsTraced words) (IsInputRefusal Judging words.down words.document)
    (λ files (input : Input). HoldsInput Judging words.down words.document files input.doc input.net) held stop (λ files r refused. inl refused)
    (subst (λ (numbers : List ℕ). IfSome held (λ files. ReadsInput Judging numbers words.document files (Err stop))) same told)

pub ends_refused : (held : Option Files) (words : TraceWords) (input : Input) (stop : Stop) → Read held words input → ¬ HasEndpoints input.net words.from words.to →
    (stop ≡ stops.Memory) ⊎ (stop ≡ stops.Refused (refusal_of words.document 0 Endpoint)) → Answers IsJudging (IsTraceRefusal words) (IsTraced words) held (Err stop)
ends_refused None words input stop told ends is = refused IsJudging (IsTraceRefusal words) (IsTraced words) None (refusal_of words.document 0 Endpoint) stop tt is
ends_refused (Some files) words input stop told ends is =
    refused IsJudging (IsTraceRefusal words) (IsTraced words) (Some files) (refusal_of words.document 0 Endpoint) stop
    (inr (record { doc = input.doc; net = input.net; input = told; ends = ends; told = refl })) is

pub traced : (held : Option Files) (words : TraceWords) (input : Input) (done : Done) → Read held words input → IsFit input → HasEndpoints input.net words.from words.to →
    IsTrace input.net (flagged (down_flags (length input.net.links) words.down)) words.from words.to done.text → done.writes ≡ [] → done.status ≡ 0 →
    Answers IsJudging (IsTraceRefusal words) (IsTraced words) held (Ok done)
traced None words input done told fit ends text writes status = (record { status = omega (arith, status); writes = writes }, tt)
traced (Some files) words input done told fit ends text writes status = (
  record { status = omega (arith, status); writes = writes },
  record { doc = input.doc; net = input.net; input = told; valid = fit.valid; ends = ends; text = text; writes = writes; status = status },
)

-- what each status says
told_refused : (words : TraceWords) (files : Files) (r : FileRefusal) → IsTraceRefusal words files r → TellsTrace words 5 files
told_refused words files r refused =
    let says : HasNoTrace words files = record { refusal = r; refused = refused } in
    record {
      traced_exactly = (λ e. absurd (omega arith), λ h. absurd (traced_or_not words files h r refused));
      refused_exactly = (λ e. says, λ s. refl);
      nothing_else = inr refl;
    }

told_done : (words : TraceWords) (files : Files) (d : Done) → IsTraced words files d → TellsTrace words d.status files
told_done words files d done =
    let is_zero : d.status ≡ 0 = done.status in
    let says : HasTrace words files = has_trace words files d done in
    record {
      traced_exactly = (λ e. says, λ s. is_zero);
      refused_exactly = (λ e. absurd (omega (arith, is_zero, e)), λ s. absurd (traced_or_not words files says s.refusal s.refused));
      nothing_else = inl is_zero;
    }

pub trace_told : (words : TraceWords) → IsTold (IsTraceRefusal words) (IsTraced words) (λ status before after. TellsTrace words status before)
trace_told words = record { answered = told_done words; refused = told_refused words }
