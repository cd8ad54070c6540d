-- The certificate that `generate` wrote is accepted over the files that it made.
use Rattle.std.proofs.Common.{◌≡◌, ◌⊎◌, ◌∙◌, ℕ, ◌≤◌, inl, inr, List, [], length, refl, sym, ap, subst, arith}
use Rattle.std.specs.Prelude.{All, Some}
use Rattle.arc_outside.specs.Files.{Files, with_files}
use Rattle.net_build.specs.Networks.{IsNetworkWithin}
use Rattle.net_gen.specs.declared.generating.Generated.{Generated}
use Rattle.net_gen.proofs.Lengths.{texts_short}
use Rattle.policy_report.specs.Certificates.{certificate_text}
use Rattle.arc_repair.specs.declared.answer.Answer.{Answer}
use Rattle.arc_repair.specs.declared.answer.Answer.TheVariants.{Done as Claimed, Budget}
use Rattle.file_copies.proofs.OneMore.{is_written}
use Rattle.command_words.specs.declared.commands.GenerateWords.{GenerateWords}
use Rattle.run_files.specs.declared.limits.Limits.TheVariants.{Editing}
use Rattle.run_files.specs.declared.outcome.Done.{Done}
use Rattle.run_files.specs.Limits.{proof_limit}
use Rattle.run_inputs.specs.Inputs.{HoldsInput, contents}
use Rattle.generate_commands.specs.Generates.{IsSummary, certificate_of, default_bound, default_conflicts, status_of}
use Rattle.generate_commands.proofs.OneMade.{one_made}
use Rattle.check_commands.specs.Tells.{IsRepairAccepted}
use Rattle.certificate_laws.specs.Laws.{GeneratedIsAccepted, IsLaidOut}
use Rattle.certificate_laws.proofs.Certified.{Known, accepted}
use Rattle.certificate_laws.proofs.LaidOut.{held, none-refused}

module _ (known : Known) (words : GenerateWords) (done : Done) (is : IsSummary words done) where
  -- the generated files, once written, are the input of a command over their document
  input : (few : words.number ≤ 40) (document : List ℕ) (files : Files) → IsLaidOut is.made document files → HoldsInput Editing [] document files is.made.doc is.built.net
  input few document files laid =
      let texts : contents files is.made.doc ≡ is.made.files = held files is.made.doc.routers is.made.files laid.routers_are in
      let short : All (λ (text : List ℕ). length text ≤ 8192) is.made.files =
      subst (All (λ (text : List ℕ). length text ≤ 8192)) (sym is.is_made.generated.files) (texts_short words.number few) in
      let count : length is.made.files ≤ 256 = omega (arith, is.editable.count, is.editable.well_formed.few_routers) in
      record {
        files_are = record {
          document_is = laid.document_is;
          held = none-refused 1048576 16777216 files is.made.doc.routers is.made.files (omega arith) (omega (arith, count)) short laid.routers_are;
        };
        network = subst (λ (ts : List (List ℕ)). IsNetworkWithin [] 2048 is.made.doc ts is.built.net) (sym texts) is.is_made.is_built.network;
      }

  written : (before : Files) → with_files done.writes before words.proof ≡ Some (certificate_of is.built.net is.made.doc is.list is.answer)
  written before =
      ap (λ (pairs : List (List ℕ × List ℕ)). with_files pairs before words.proof) is.writes
      ∙ is_written before words.proof (certificate_of is.built.net is.made.doc is.list is.answer)

  by_answer : (answer : Answer) → is.answer ≡ answer → (done.status ≡ 0) ⊎ (done.status ≡ 2) → (document name : List ℕ) (files : Files)
      → HoldsInput Editing [] document files is.made.doc is.built.net → files name ≡ Some (certificate_of is.built.net is.made.doc is.list is.answer) → IsRepairAccepted document name files
  by_answer (Claimed claim log) same status document name files holds there =
      let text : certificate_of is.built.net is.made.doc is.list is.answer ≡ certificate_text is.built.net is.made.doc is.list claim log =
      ap (λ (a : Answer). certificate_of is.built.net is.made.doc is.list a) same in
      accepted known is.made.doc is.built is.made.files is.list default_bound default_conflicts is.answer is.editable is.is_made.is_built.network is.answered claim log same document name files holds
      (there ∙ ap (λ (t : List ℕ). Some t) text) (subst (λ (t : List ℕ). length t ≤ proof_limit) text is.short)
  by_answer (Budget log) same status document name files holds there =
      let three : done.status ≡ 3 = is.status ∙ ap status_of same in
      elim status [
        | inl zero' ↦ absurd (omega (arith, zero', three))
        | inr two ↦ absurd (omega (arith, two, three))
      ]

  accepted_here : words.number ≤ 40 → (done.status ≡ 0) ⊎ (done.status ≡ 2) → (document name : List ℕ) (before files : Files) → IsLaidOut is.made document files
      → files name ≡ with_files done.writes before words.proof → IsRepairAccepted document name files
  accepted_here few status document name before files laid there = by_answer is.answer refl status document name files (input few document files laid) (there ∙ written before)

pub generated_is_accepted : Known → GeneratedIsAccepted
generated_is_accepted known words made document name before files done is status generated laid there =
    let same : made ≡ is.made = one_made words.number made is.made generated.is is.is_made.generated in
    accepted_here known words done is generated.few status document name before files (subst (λ (m : Generated). IsLaidOut m document files) same laid) there
