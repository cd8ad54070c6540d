-- If the document and its router files are held as before, they have the same network.
use Rattle.std.proofs.Common.{◌≡◌, ℕ, ◌-◌, List, [], ◌∷◌, length, map, min, refl, sym, ◌∙◌, ap, subst}
use Rattle.std.proofs.lemmas.List.Elements.{recursion_from_All}
use Rattle.std.specs.Prelude.{Option, Ok, unwrap_or}
use Rattle.std.specs.List.{AllByRecursion}
use Rattle.arc_outside.specs.Files.{Files}
use Rattle.net_model.specs.declared.policies.Document.{Document}
use Rattle.net_model.specs.declared.rows.Network.{Network}
use Rattle.net_doc.specs.Documents.{ReadsDocument}
use Rattle.net_build.specs.Networks.{IsNetworkWithin}
use Rattle.run_files.specs.declared.outcome.FileRefusal.{FileRefusal}
use Rattle.run_files.specs.declared.limits.Limits.{Limits}
use Rattle.run_inputs.specs.Inputs.{HoldTheSame, HoldsInput}
use Rattle.run_files.specs.Limits.{document_limit, entries_limit, router_limit, routers_limit}
use Rattle.run_files.specs.Refusals.{bytes_at, read_refusal, refusal_within, first_refusal}
use Rattle.std.specs.Option.{option_or}

module _ (before after : Files) where
  abbrev Same : List ℕ → Type 0
  Same name = after name ≡ before name

  same_bytes : (name : List ℕ) → Same name → bytes_at after name ≡ bytes_at before name
  same_bytes name same = ap (λ (o : Option (List ℕ)). unwrap_or o []) same

  same_refusal : (limit : ℕ) (name : List ℕ) → Same name → read_refusal limit after name ≡ read_refusal limit before name
  same_refusal limit name same = ap (refusal_within limit name) same

  same_first : (most room : ℕ) (names : List (List ℕ)) → AllByRecursion Same names → first_refusal most room after names ≡ first_refusal most room before names
  same_first most room [] same = refl
  same_first most room (name ∷ names) same =
      ap (λ (o : Option FileRefusal). option_or o (first_refusal most (room - length (bytes_at after name)) after names)) (same_refusal (min most room) name same.0)
      ∙ ap (λ (b : List ℕ). option_or (read_refusal (min most room) before name) (first_refusal most (room - length b) after names)) (same_bytes name same.0)
      ∙ ap (option_or (read_refusal (min most room) before name)) (same_first most (room - length (bytes_at before name)) names same.1)

  same_contents : (names : List (List ℕ)) → AllByRecursion Same names → map (bytes_at after) names ≡ map (bytes_at before) names
  same_contents [] same = refl
  same_contents (name ∷ names) same =
      ap (λ (b : List ℕ). b ∷ map (bytes_at after) names) (same_bytes name same.0) ∙ ap (λ (l : List (List ℕ)). bytes_at before name ∷ l) (same_contents names same.1)

  pub same_input : (limits : Limits) (down document : List ℕ) (doc : Document) (net : Network) → HoldTheSame document before after →
      HoldsInput limits down document before doc net → HoldsInput limits down document after doc net
  same_input limits down document doc net same input =
      let each : AllByRecursion Same doc.routers = recursion_from_All Same doc.routers (same.routers_are doc input.files_are.document_is) in
      let P : List ℕ → Type 0 = λ bytes. ReadsDocument bytes (Ok doc) in
      let Q : List (List ℕ) → Type 0 = λ texts. IsNetworkWithin down (entries_limit limits) doc texts net in
      record {
        files_are = record {
          document_is = record {
            held = same_refusal document_limit document same.document_is ∙ input.files_are.document_is.held;
            read = subst P (sym (same_bytes document same.document_is)) input.files_are.document_is.read;
          };
          held = same_first (router_limit limits) (routers_limit limits) doc.routers each ∙ input.files_are.held;
        };
        network = subst Q (sym (same_contents doc.routers each)) input.network;
      }
