-- The first thing that is wrong with a claim, from its price and its verdicts.
use Rattle.std.proofs.Common.{◌≡◌, ◌<◌, ◌≤◌, ℕ, inl, inr, Bool, Option, Some, None, List, length, refl, subst, arith}
use Rattle.std.specs.Prelude.{MatchOption}
use Rattle.std.specs.List.{AllZip}
use Rattle.arc_base.specs.declared.certificate.CertKind.{CertKind}
use Rattle.arc_base.specs.declared.certificate.CertKind.TheVariants as kinds
use Rattle.net_model.specs.declared.policies.Document.{Document}
use Rattle.net_model.specs.declared.rows.Network.{Network}
use Rattle.net_model.specs.declared.verdicts.Verdict.{Verdict}
use Rattle.edit_list.specs.declared.claims.Claim.{Claim}
use Rattle.edit_list.specs.declared.claims.Claim.TheVariants.{Repaired, NoRepair}
use Rattle.edit_list.specs.declared.edit_kinds.Edit.{Edit}
use Rattle.edit_list.specs.After.{IsAfter}
use Rattle.edit_list.specs.EditLists.{AreEdits}
use Rattle.edit_list.specs.Prices.{chosen_of, price_of_flags}
use Rattle.arc_repair.specs.Checks.{HasFlags, HasFlagsOf, IsMispriced, IsVerdictDefect, IsDefect}
use Rattle.arc_repair.specs.Claims.{IsRightYes, IsRightClaim, claim_bound}

module _ (net : Network) (doc : Document) (list : List Edit) where
  -- a bound above 512
  pub beyond : (claim : Claim) → 512 < claim_bound claim → IsDefect net doc list claim kinds.Price
  beyond (Repaired price bound flags verdicts) h = inl (inr (inr h), refl)
  beyond (NoRepair bound) h = (h, refl)

  pub flags_of : (claim : Claim) → AreEdits net doc list → HasFlags net doc claim → HasFlagsOf list claim
  flags_of (Repaired price bound flags verdicts) are has = has list are
  flags_of (NoRepair bound) are has = tt

  pub not_mispriced : (price bound : ℕ) (flags : List Bool) → price_of_flags doc list flags ≡ price → price ≤ bound → bound ≤ 512 → IsMispriced doc list price bound flags → ⊥
  not_mispriced price bound flags costs affordable few (inl wrong) = wrong costs
  not_mispriced price bound flags costs affordable few (inr (inl above)) = omega (arith, above, affordable)
  not_mispriced price bound flags costs affordable few (inr (inr above)) = omega (arith, above, few)

  -- if the price is right, the verdicts decide
  pub judged : (price bound : ℕ) (flags : List Bool) (verdicts : List Verdict) (after : Network) → length flags ≡ length list →
      price_of_flags doc list flags ≡ price → price ≤ bound → bound ≤ 512 → IsAfter net (chosen_of list flags) after → (o : Option CertKind) →
      MatchOption o (AllZip (IsRightYes after) doc.policies verdicts) (IsVerdictDefect after doc.policies verdicts) →
      MatchOption o (IsRightClaim net doc list (Repaired price bound flags verdicts)) (IsDefect net doc list (Repaired price bound flags verdicts))
  judged price bound flags verdicts after each costs affordable few is None h = record { one_each = each; costs = costs; affordable = affordable; few = few; after = after; is_after = is; judged = h }
  judged price bound flags verdicts after each costs affordable few is (Some kind) h =
      inr (record { priced = λ (m : IsMispriced doc list price bound flags). not_mispriced price bound flags costs affordable few m; after = after; is_after = is; defect = h })

  -- nothing wrong was found
  pub none_wrong : (claim : Claim) (o : Option CertKind) → ((kind : CertKind) → o ≡ Some kind → ⊥) →
      MatchOption o (IsRightClaim net doc list claim) (IsDefect net doc list claim) → IsRightClaim net doc list claim
  none_wrong claim None never h = h
  none_wrong claim (Some kind) never h = absurd (never kind refl)

  -- this was found to be wrong
  pub this_wrong : (claim : Claim) (o : Option CertKind) (kind : CertKind) → o ≡ Some kind →
      MatchOption o (IsRightClaim net doc list claim) (IsDefect net doc list claim) → IsDefect net doc list claim kind
  this_wrong claim o kind is h = subst (λ (x : Option CertKind). MatchOption x (IsRightClaim net doc list claim) (IsDefect net doc list claim)) is h
