-- What reading the router files of a document that is held gives: their network, or a refusal.
use Rattle.std.proofs.Common.{◌≡◌, ◌⊎◌, inl, inr, List, ℕ, refl, sym, ◌∙◌, ap, subst}
use Rattle.std.specs.Prelude.{Option, Some, None, IfSome, Ok, Err, map}
use Rattle.arc_outside.specs.Files.{Files}
use Rattle.net_model.specs.declared.policies.Document.{Document}
use Rattle.net_doc.specs.declared.fault.Refusal.{Refusal}
use Rattle.net_build.specs.Networks.{IsBuiltWithin, IsNetworkWithin, IsFirstRefusalWithin}
use Rattle.net_build.specs.declared.built.Built.{Built}
use Rattle.net_model.specs.declared.rows.Network.{Network}
use Rattle.run_files.specs.declared.limits.Limits.{Limits}
use Rattle.run_files.specs.declared.outcome.Stop.{Stop}
use Rattle.run_files.specs.declared.outcome.Stop.TheVariants as stops
use Rattle.run_files.specs.Answers.{Gives}
use Rattle.run_inputs.specs.Inputs.{HoldsDocument, IsFilesRefusal, ReadsRouterFiles, ReadsSources, contents, named}
use Rattle.run_files.specs.Reading.{ReadsRouters}
use Rattle.run_files.specs.Limits.{entries_limit}
use Rattle.run_files.specs.Refusals.{bytes_at, routers_refusal}

-- a refusal of the network is one of the files, whatever the answer would be otherwise
pub network_refused : {X : Type 0} (P : Files → X → Type 0) (limits : Limits) (down : List ℕ) (held : Option Files) (document : List ℕ) (doc : Document) (routers read : List (List ℕ))
    (refusal : Refusal) (stop : Stop) →
    IfSome held (λ files. ReadsRouters limits files routers (Ok read)) → routers ≡ doc.routers → IsFirstRefusalWithin down (entries_limit limits) doc read refusal →
    (stop ≡ stops.Memory) ⊎ (stop ≡ stops.Refused (named document doc.routers refusal)) →
    IfSome held (λ files. HoldsDocument document files doc → Gives (IsFilesRefusal limits down document files) (P files) (Err stop))
network_refused P limits down None document doc routers read refusal stop told same refused is = tt
network_refused P limits down (Some files) document doc routers read refusal stop told same refused (inl memory) =
    λ held. subst (λ s. Gives (IsFilesRefusal limits down document files) (P files) (Err s)) (sym memory) tt
network_refused P limits down (Some files) document doc routers read refusal stop told same refused (inr is) =
    λ held.
    let whole : read ≡ contents files doc = told.1 ∙ ap (map (bytes_at files)) same in
    subst (λ s. Gives (IsFilesRefusal limits down document files) (P files) (Err s)) (sym is)
    (inr (record {
      doc = doc;
      files_are = record { document_is = held; held = ap (routers_refusal limits files) (sym same) ∙ told.0 };
      refusal = refusal;
      refused = subst (λ l. IsFirstRefusalWithin down (entries_limit limits) doc l refusal) whole refused;
      is_named = refl;
    }))

-- the router files as they are, and what is built from them
pub sources_read : (limits : Limits) (down : List ℕ) (held : Option Files) (document : List ℕ) (doc : Document) (routers read : List (List ℕ)) (built : Built) →
    IfSome held (λ files. ReadsRouters limits files routers (Ok read)) → routers ≡ doc.routers → IsBuiltWithin down (entries_limit limits) doc read built →
    IfSome held (λ files. HoldsDocument document files doc → ReadsSources limits down document doc files (Ok (record { files = read; built = built })))
sources_read limits down None document doc routers read built told same is = tt
sources_read limits down (Some files) document doc routers read built told same is =
    λ held.
    let whole : read ≡ contents files doc = told.1 ∙ ap (map (bytes_at files)) same in
    let now : IsBuiltWithin down (entries_limit limits) doc (contents files doc) built = subst (λ l. IsBuiltWithin down (entries_limit limits) doc l built) whole is in
    record {
      input = record { files_are = record { document_is = held; held = ap (routers_refusal limits files) (sym same) ∙ told.0 }; network = now.network };
      files_are = whole;
      built = is;
    }

-- the network alone of the router files
pub files_read : (limits : Limits) (down : List ℕ) (held : Option Files) (document : List ℕ) (doc : Document) (routers read : List (List ℕ)) (net : Network) →
    IfSome held (λ files. ReadsRouters limits files routers (Ok read)) → routers ≡ doc.routers → IsNetworkWithin down (entries_limit limits) doc read net →
    IfSome held (λ files. HoldsDocument document files doc → ReadsRouterFiles limits down document files (Ok (record { doc = doc; net = net })))
files_read limits down None document doc routers read net told same is = tt
files_read limits down (Some files) document doc routers read net told same is =
    λ held.
    let whole : read ≡ contents files doc = told.1 ∙ ap (map (bytes_at files)) same in
    record {
      files_are = record { document_is = held; held = ap (routers_refusal limits files) (sym same) ∙ told.0 };
      network = subst (λ l. IsNetworkWithin down (entries_limit limits) doc l net) whole is;
    }
