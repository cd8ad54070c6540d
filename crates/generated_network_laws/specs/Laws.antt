-- Laws of generated networks: what their files are read as.
use Rattle.std.specs.Prelude.{◌≡◌, ℕ, ◌+◌, ◌≤◌, [], length}
use Rattle.arc_base.specs.declared.limits.TheConstants.{FEWEST_GENERATED, MOST_GENERATED}
use Rattle.net_doc.specs.declared.fault.Refusal.{Refusal}
use Rattle.net_model.specs.declared.rows.Network.{Network}
use Rattle.net_build.specs.Networks.{IsFirstRefusalWithin, IsNetworkWithin}
use Rattle.net_gen.specs.declared.generating.Generated.{Generated}
use Rattle.net_gen.specs.Generated.{IsGenerated}
use Rattle.generated_network_laws.specs.Plans.{HasPlan}

-- the document and the files of a generated network that has this many routers
pub record IsGeneratedWithin (n : ℕ) (generated : Generated) : Type 0 where
  pub some : FEWEST_GENERATED ≤ n
  pub few : n ≤ MOST_GENERATED
  pub is : IsGenerated n generated

-- its files are refused for no reason, however many entries a list may have
abbrev pub GeneratedFilesAreNotRefused : Type 0
GeneratedFilesAreNotRefused =
    (n most : ℕ) (generated : Generated) (r : Refusal) → IsGeneratedWithin n generated →
    ¬ IsFirstRefusalWithin [] most generated.doc generated.files r

-- the network of its files is the one that its number describes
abbrev pub GeneratedNetworksHaveTheirPlan : Type 0
GeneratedNetworksHaveTheirPlan =
    (n most : ℕ) (generated : Generated) (net : Network) → IsGeneratedWithin n generated →
    IsNetworkWithin [] most generated.doc generated.files net → HasPlan n net

-- its document has one policy more than routers
abbrev pub GeneratedDocumentsHaveTheirPolicies : Type 0
GeneratedDocumentsHaveTheirPolicies =
    (n : ℕ) (generated : Generated) → IsGeneratedWithin n generated →
    length generated.doc.policies ≡ n + 1
