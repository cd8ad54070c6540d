-- Neighbours in a list of claims.
use Rattle.std.specs.Prelude.{ℕ, ◌+◌, ◌<◌, ◌≤◌, List, length, slice_index_or}
use Rattle.net_checks.specs.declared.claims.Claim.{Claim}
use Rattle.net_checks.specs.Claims.{AreLinkedOrApart}

-- the claim at the place is linked to or apart from the two before it
abbrev pub IsPackedAt : List Claim → ℕ → Type 0
IsPackedAt claims j =
    (i : ℕ) (d : Claim) → i < j → j ≤ i + 2 →
    AreLinkedOrApart (slice_index_or claims i d) (slice_index_or claims j d)

-- each claim is linked to or apart from the two after it
abbrev pub ArePacked : List Claim → Type 0
ArePacked claims =
    (i j : ℕ) (d : Claim) → i < j → j ≤ i + 2 → j < length claims →
    AreLinkedOrApart (slice_index_or claims i d) (slice_index_or claims j d)
