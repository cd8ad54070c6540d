-- The answers of `prefers`.
use Rattle.std.proofs.Common.{◌≡◌, ℕ, ◌≤◌, inl, inr, List, [], ◌∷◌, ◌++◌, sym, ◌∙◌, ap, subst}
use Rattle.std.specs.Prelude.{Option, Some, None, IfSome, Ok, Err}
use Rattle.arc_base.specs.declared.place.Router.{Router}
use Rattle.arc_outside.specs.Files.{Files}
use Rattle.arc_outside.proofs.Counting.{stood}
use Rattle.net_model.specs.declared.policies.Document.{Document}
use Rattle.net_model.specs.declared.policies.Policy.{Policy}
use Rattle.net_model.specs.declared.rows.Network.{Network}
use Rattle.net_model.specs.Validity.{IsValid}
use Rattle.command_words.specs.declared.commands.PrefersWords.{PrefersWords}
use Rattle.run_files.specs.declared.limits.Limits.TheVariants.{Judging}
use Rattle.run_files.specs.declared.outcome.Done.{Done}
use Rattle.run_files.specs.declared.outcome.Stop.{Stop}
use Rattle.run_files.specs.declared.outcome.Stop.TheVariants as stops
use Rattle.run_files.specs.Limits.{least_limit}
use Rattle.arc_outside.specs.Reads.{TookOn}
use Rattle.run_files.specs.Answers.{Answers, IsJudging, OnlyReads}
use Rattle.run_inputs.specs.Counts.{PoliciesHaveFewClasses}
use Rattle.run_inputs.specs.Inputs.{HoldsInput}
use Rattle.reach_commands.specs.Added.{policies_with, AddsPolicy}
use Rattle.reach_commands.specs.PreferRuns.{prefers_policy, AreNamed, FindsRouters, IsPrefersOf, IsPrefersAnswer, IsPrefersRefusal}

abbrev Read : Option Files → PrefersWords → Document → Network → Type 0
Read held words doc net = IfSome held (λ files. HoldsInput Judging [] words.document files doc net)

pub routers_stopped : (words : PrefersWords) (net : Network) (policies judged : List Policy) (stop : Stop) → AddsPolicy words.document net policies (prefers_policy words) (Ok judged) →
    FindsRouters words.document net words.routers (Err stop) → (held : Option Files) (doc : Document) → doc.policies ≡ policies → Read held words doc net →
    Answers IsJudging (IsPrefersRefusal words) (IsPrefersAnswer words) held (Err stop)
routers_stopped words net policies judged (stops.Refused r) adds finds None doc same told = tt
routers_stopped words net policies judged (stops.Refused r) adds finds (Some files) doc same told =
    inr (inr (inl (record { doc = doc; net = net; input = told; ends = adds.0; place = finds.0; first = finds.1; told = finds.2 })))
routers_stopped words net policies judged stops.Memory adds finds held doc same told = tt
routers_stopped words net policies judged stops.Failed adds finds held doc same told = tt

pub answered : (words : PrefersWords) (net : Network) (policies judged : List Policy) (wanted : List Router) (done : Done) → IsValid net →
    AddsPolicy words.document net policies (prefers_policy words) (Ok judged) → AreNamed net words.routers wanted → PoliciesHaveFewClasses net judged →
    IsPrefersOf net judged (prefers_policy words) wanted done → IsJudging done → (held : Option Files) (doc : Document) → doc.policies ≡ policies → Read held words doc net →
    Answers IsJudging (IsPrefersRefusal words) (IsPrefersAnswer words) held (Ok done)
answered words net policies judged wanted done valid adds named classes answer judging None doc same told = (judging, tt)
answered words net policies judged wanted done valid adds named classes answer judging (Some files) doc same told =
    let made : judged ≡ policies_with doc (prefers_policy words) = adds.1 ∙ ap (λ (ps : List Policy). ps ++ prefers_policy words ∷ []) (sym same) in (
      judging,
      record {
        doc = doc;
        net = net;
        input = told;
        valid = valid;
        ends = adds.0;
        wanted = wanted;
        named = named;
        classes = subst (PoliciesHaveFewClasses net) made classes;
        answer = subst (λ (ps : List Policy). IsPrefersOf net ps (prefers_policy words) wanted done) made answer;
      },
    )

-- out of memory after a call that only reads
pub out_of_memory : {S : Type 0} (held : S → Option Files) (faults absences taken : S → ℕ) (before after : S) → held after ≡ held before → faults after ≡ faults before →
    absences before ≤ absences after → TookOn (taken before) (taken after) → OnlyReads {S = S} {X = Done} least_limit held faults absences taken before after (Err stops.Memory)
out_of_memory held faults absences taken before after same stands absences_rise taken_rise =
    record { same = same; cause = tt; failed = stood _ _ stands (λ is. cc); absences_rise = absences_rise; taken_rise = taken_rise }
