-- What is found on the way to the verdict on a reach policy.
use Rattle.std.specs.Prelude.{◌≡◌, ◌≢◌, ℕ, ◌+◌, ◌≤◌, Bool, List, length, map, All, AllPairs}
use Rattle.std.specs.List.{flat_map}
use Rattle.arc_base.specs.declared.place.Link.{Link}
use Rattle.graph_flow.specs.declared.arcs.LinkRow2.{LinkRow2}
use Rattle.graph_flow.specs.Answers.{AreInLinkOrder}
use Rattle.net_model.specs.declared.rows.Network.{Network}
use Rattle.net_model.specs.declared.verdicts.LinkPath.{LinkPath}
use Rattle.net_model.specs.declared.verdicts.Verdict.{Verdict}
use Rattle.net_model.specs.declared.verdicts.Verdict.TheVariants.{Closed, Paths, Walk, Denied, Cut}
use Rattle.net_model.specs.declared.verdicts.Verdict.TheVariants.{Refused}
use Rattle.net_model.specs.Forwarding.{Ends}
use Rattle.net_model.specs.Witnesses.{IsPath, IsOn}
use Rattle.verdicts.specs.Fixed.{IsSeparator}

-- this many paths, no link occurs in them twice, and they are in rising order of their first links
pub record AreGoodPaths (net : Network) (ends : Ends) (many : ℕ)
    (paths : List LinkPath) : Type 0 where
  pub count : length paths ≡ many
  pub are_paths : All (IsPath net ends) paths
  pub once : AllPairs (λ l m. l ≢ m) (flat_map (λ path. path.links) paths)
  pub in_order : AreInLinkOrder (map (λ path. path.links) paths)

-- the links separate the ends, are at most `most`, no fewer links do, and their side lies in every
-- side that no more links leave
pub record IsGoodCut (net : Network) (ends : Ends) (most : ℕ) (links : List Link)
    (side : List Bool) : Type 0 where
  pub flags : length side ≡ length net.routers
  pub separates : IsSeparator net ends links side
  pub few : length links ≤ most
  pub fewest : (others : List Link) (other : List Bool) → IsSeparator net ends others other →
      length links ≤ length others
  pub least : (others : List Link) (other : List Bool) → IsSeparator net ends others other →
      length others ≤ length links →
      (router : ℕ) → IsOn side router → IsOn other router

-- the verdict shows one path more than links may fail, or a cut of no more links
abbrev pub IsPathsOrCut : Network → Ends → ℕ → Verdict → Type 0
IsPathsOrCut net ends k (Paths paths) = AreGoodPaths net ends (k + 1) paths
IsPathsOrCut net ends k (Cut links side) = IsGoodCut net ends k links side
IsPathsOrCut net ends k (Closed sides) = ⊥
IsPathsOrCut net ends k (Walk class path) = ⊥
IsPathsOrCut net ends k (Denied class) = ⊥
IsPathsOrCut net ends k (Refused p link) = ⊥

-- the paths with the links of these rows
abbrev pub paths_of : List LinkRow2 → List LinkPath
paths_of rows = map (λ row. record { links = row.links }) rows
