use Rattle.std.proofs.Common.{◌-◌, arith}
use Rattle.net_checks.proofs.ClaimPairs.{packed_after_two, from_packed}
use Rattle.net_checks.proofs.claims.Claim.is_packed_at.Goals as goal

pub returns : goal.returns
returns c = (
  λ t. packed_after_two c.args.claims.now c.args.place c.index-claims-place.result c.requires.within c.index-claims-place.is c.index-claims-place-2.result c.index-claims-place-3.result
      c.if-place-lt2.false c.index-claims-place-2.is (c.is_linked_or_apart.ensures.0 c.if-not-is_linked_or_apart.false) c.index-claims-place-3.is (c.is_linked_or_apart-2.ensures.0 t),
  λ packed. c.is_linked_or_apart-2.ensures.1 (from_packed c.args.claims.now c.args.place c.index-claims-place.result c.requires.within c.index-claims-place.is
      (c.args.place - 2) c.index-claims-place-3.result (omega (arith, c.if-place-lt2.false)) (omega (arith, c.if-place-lt2.false)) c.index-claims-place-3.is packed),
)
