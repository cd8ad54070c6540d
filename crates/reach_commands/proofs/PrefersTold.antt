-- What the status of `prefers` says.
use Rattle.std.proofs.Common.{◌≡◌, ℕ, ◌+◌, ◌⊎◌, inl, inr, List, [], refl, sym, ◌∙◌, ap, subst, arith}
use Rattle.std.specs.Prelude.{Option, Some, None, is_some}
use Rattle.std.proofs.lemmas.Bool.{false≢true}
use Rattle.arc_base.specs.declared.place.Router.{Router}
use Rattle.arc_base.specs.declared.refusal.Kind.TheVariants.{UnknownRouter}
use Rattle.arc_outside.specs.Files.{Files}
use Rattle.net_model.specs.declared.policies.Document.{Document}
use Rattle.net_model.specs.declared.rows.Network.{Network}
use Rattle.net_rules.specs.Addressing.{HasEndpoints}
use Rattle.arc_prefer.specs.declared.answers.Stray.{Stray}
use Rattle.arc_prefer.specs.Preferred.{Prefers}
use Rattle.arc_prefer.proofs.Deciding.{right_answers_decide}
use Rattle.net_model.specs.Validity.{IsValid}
use Rattle.command_words.specs.declared.commands.PrefersWords.{PrefersWords}
use Rattle.run_files.specs.declared.limits.Limits.TheVariants.{Judging}
use Rattle.run_files.specs.declared.outcome.Done.{Done}
use Rattle.run_files.specs.declared.outcome.FileRefusal.{FileRefusal}
use Rattle.run_files.specs.Answers.{IsTold}
use Rattle.run_files.specs.Refusals.{refusal_of}
use Rattle.run_inputs.specs.Counts.{PoliciesHaveFewClasses}
use Rattle.run_inputs.specs.Inputs.{HoldsInput}
use Rattle.reach_commands.specs.Added.{policies_with}
use Rattle.reach_commands.specs.PreferRuns.{prefers_policy, prefers_status, AreNamed, IsFirstUnknown, RefusesRouter}
use Rattle.reach_commands.specs.PreferRuns.{RefusesPreferClasses, IsPrefersRefusal, IsPrefersAnswer, PrefersSaysYes, PrefersSaysNo, TellsPrefers}
use Rattle.reach_commands.proofs.OneInput.{one_input}
use Rattle.reach_commands.proofs.OneRefusal.{Early, early_none, early_once, classes_none, classes_once}
use Rattle.reach_commands.proofs.NamedRouters.{one_list, known_or_unknown, one_unknown}

module _ (words : PrefersWords) (files : Files) where
  -- the list that is preferred is that of the names
  yes_or_no : (yes' : PrefersSaysYes words files) → (no' : PrefersSaysNo words files) → IsValid no'.net → ⊥
  yes_or_no yes' no' valid =
      let named : AreNamed no'.net words.routers yes'.wanted =
      one_input words.document files yes'.doc no'.doc yes'.net no'.net yes'.input no'.input (λ d n. AreNamed n words.routers yes'.wanted) yes'.named in
      let prefers : Prefers no'.net (prefers_policy words) yes'.wanted =
      one_input words.document files yes'.doc no'.doc yes'.net no'.net yes'.input no'.input (λ d n. Prefers n (prefers_policy words) yes'.wanted) yes'.prefers in
      no'.prefers_not (subst (λ (ws : List Router). Prefers no'.net (prefers_policy words) ws) (one_list no'.net valid words.routers yes'.wanted no'.wanted named no'.named) prefers)

  -- the refusal is an early one, that of a name, or that of the classes
  stage : (r : FileRefusal) → IsPrefersRefusal words files r → Early words.document (prefers_policy words) files r ⊎ (RefusesRouter words files r ⊎ RefusesPreferClasses words files r)
  stage r (inl u) = inl (inl u)
  stage r (inr (inl u)) = inl (inr u)
  stage r (inr (inr u)) = inr u

  early_or : (doc : Document) (net : Network) → HoldsInput Judging [] words.document files doc net → HasEndpoints net words.from words.to → (r : FileRefusal) →
      Early words.document (prefers_policy words) files r → ⊥
  early_or = early_none words.document (prefers_policy words) files

  named_or : (doc : Document) (net : Network) (wanted : List Router) → HoldsInput Judging [] words.document files doc net → AreNamed net words.routers wanted →
      (r : FileRefusal) → RefusesRouter words files r → ⊥
  named_or doc net wanted input named r u =
      known_or_unknown u.net words.routers wanted u.place (one_input words.document files doc u.doc net u.net input u.input (λ d n. AreNamed n words.routers wanted) named) u.first

  once : (r s : FileRefusal) → Early words.document (prefers_policy words) files r ⊎ (RefusesRouter words files r ⊎ RefusesPreferClasses words files r) →
      Early words.document (prefers_policy words) files s ⊎ (RefusesRouter words files s ⊎ RefusesPreferClasses words files s) → r ≡ s
  once r s (inl u) (inl v) = early_once words.document (prefers_policy words) files r s u v
  once r s (inl u) (inr (inl v)) = absurd (early_or v.doc v.net v.input v.ends r u)
  once r s (inl u) (inr (inr v)) = absurd (early_or v.many.doc v.many.net v.many.input v.many.ends r u)
  once r s (inr (inl u)) (inl v) = absurd (early_or u.doc u.net u.input u.ends s v)
  once r s (inr (inl u)) (inr (inl v)) =
      let first : IsFirstUnknown v.net words.routers u.place =
      one_input words.document files u.doc v.doc u.net v.net u.input v.input (λ d n. IsFirstUnknown n words.routers u.place) u.first in
      u.told ∙ ap (λ (place : ℕ). refusal_of words.document (place + 1) UnknownRouter) (one_unknown v.net words.routers u.place v.place first v.first) ∙ sym v.told
  once r s (inr (inl u)) (inr (inr v)) = absurd (named_or v.many.doc v.many.net v.wanted v.many.input v.named r u)
  once r s (inr (inr u)) (inl v) = absurd (early_or u.many.doc u.many.net u.many.input u.many.ends s v)
  once r s (inr (inr u)) (inr (inl v)) = absurd (named_or u.many.doc u.many.net u.wanted u.many.input u.named s v)
  once r s (inr (inr u)) (inr (inr v)) = classes_once words.document (prefers_policy words) files r s u.many v.many

  pub refused_once : (r s : FileRefusal) → IsPrefersRefusal words files r → IsPrefersRefusal words files s → r ≡ s
  refused_once r s u v = once r s (stage r u) (stage s v)

  pub held_or_refused : (doc : Document) (net : Network) (wanted : List Router) → HoldsInput Judging [] words.document files doc net →
      HasEndpoints net words.from words.to → AreNamed net words.routers wanted →
      PoliciesHaveFewClasses net (policies_with doc (prefers_policy words)) → (r : FileRefusal) → IsPrefersRefusal words files r → ⊥
  held_or_refused doc net wanted input ends named classes r refused = elim (stage r refused) [
    | inl early ↦ early_or doc net input ends r early
    | inr later ↦ elim later [
      | inl unknown ↦ named_or doc net wanted input named r unknown
      | inr many ↦ classes_none words.document (prefers_policy words) files doc net input classes r many.many
    ]
  ]

  told_as : (d : Done) (done : IsPrefersAnswer words files d) (fault : Option Stray) → done.answer.answer.fault ≡ fault → TellsPrefers words d.status files
  told_as d done None is =
      let status : d.status ≡ 0 = done.answer.status ∙ ap prefers_status is in
      let says : PrefersSaysYes words files = record {
        doc = done.doc;
        net = done.net;
        input = done.input;
        ends = done.ends;
        wanted = done.wanted;
        named = done.named;
        classes = done.classes;
        prefers = (right_answers_decide done.net done.valid (prefers_policy words) done.wanted done.answer.answer done.answer.right).0 (ap is_some is);
      } in
      record {
        yes_exactly = (λ e. says, λ s. status);
        no_exactly = (
          λ e. absurd (omega (arith, status, e)),
          λ no'. absurd (yes_or_no says no'
              (one_input words.document files done.doc no'.doc done.net no'.net done.input no'.input (λ d n. IsValid n) done.valid)),
        );
        refused_exactly = (λ e. absurd (omega (arith, status, e)), λ u. absurd (held_or_refused done.doc done.net done.wanted done.input done.ends done.named done.classes u.refusal u.refused));
        nothing_else = inl status;
      }
  told_as d done (Some stray) is =
      let status : d.status ≡ 1 = done.answer.status ∙ ap prefers_status is in
      let says : PrefersSaysNo words files = record {
        doc = done.doc;
        net = done.net;
        input = done.input;
        ends = done.ends;
        wanted = done.wanted;
        named = done.named;
        classes = done.classes;
        prefers_not = λ prefers. false≢true (sym ((right_answers_decide done.net done.valid (prefers_policy words) done.wanted done.answer.answer done.answer.right).1 prefers) ∙ ap is_some is);
      } in
      record {
        yes_exactly = (λ e. absurd (omega (arith, status, e)), λ yes'. absurd (yes_or_no yes' says done.valid));
        no_exactly = (λ e. says, λ s. status);
        refused_exactly = (λ e. absurd (omega (arith, status, e)), λ u. absurd (held_or_refused done.doc done.net done.wanted done.input done.ends done.named done.classes u.refusal u.refused));
        nothing_else = inr (inl status);
      }

  pub told_done : (d : Done) → IsPrefersAnswer words files d → TellsPrefers words d.status files
  told_done d done = told_as d done done.answer.answer.fault refl

  pub told_refused : (r : FileRefusal) → IsPrefersRefusal words files r → TellsPrefers words 5 files
  told_refused r refused = record {
    yes_exactly = (λ e. absurd (omega (arith, e)), λ yes'. absurd (held_or_refused yes'.doc yes'.net yes'.wanted yes'.input yes'.ends yes'.named yes'.classes r refused));
    no_exactly = (λ e. absurd (omega (arith, e)), λ no'. absurd (held_or_refused no'.doc no'.net no'.wanted no'.input no'.ends no'.named no'.classes r refused));
    refused_exactly = (λ e. record { refusal = r; refused = refused }, λ u. refl);
    nothing_else = inr (inr refl);
  }

pub prefers_told : (words : PrefersWords) → IsTold (IsPrefersRefusal words) (IsPrefersAnswer words) (λ status before after. TellsPrefers words status before)
prefers_told words = record { answered = told_done words; refused = told_refused words }
