-- The document and its files have one network.
use Rattle.std.proofs.Common.{◌≡◌, ℕ, List, [], subst}
use Rattle.arc_outside.specs.Files.{Files}
use Rattle.net_model.specs.declared.policies.Document.{Document}
use Rattle.net_model.specs.declared.rows.Network.{Network}
use Rattle.run_files.specs.declared.limits.Limits.TheVariants.{Judging}
use Rattle.run_inputs.specs.Inputs.{HoldsInput}
use Rattle.run_inputs.proofs.Determined.{determined}

-- what holds of one document and network of the files holds of any
pub one_input : (document : List ℕ) (files : Files) (doc other : Document) (net again : Network) → HoldsInput Judging [] document files doc net → HoldsInput Judging [] document files other again →
    (P : Document → Network → Type 0) → P doc net → P other again
one_input document files doc other net again first second P holds =
    let known = determined Judging [] document files in
    let docs : doc ≡ other = known.one_document doc other first.files_are.document_is second.files_are.document_is in
    let nets : net ≡ again = known.one_network other net again (subst (λ (d : Document). HoldsInput Judging [] document files d net) docs first) second in
    subst (λ (n : Network). P other n) nets (subst (λ (d : Document). P d net) docs holds)
