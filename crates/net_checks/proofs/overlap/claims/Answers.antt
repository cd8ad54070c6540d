use Rattle.std.proofs.Common.{◌≡◌, ℕ, Some, get_or, arith}
use Rattle.std.specs.Prelude.{slice_get}
use Rattle.std.proofs.lemmas.Option.{slice_get-get_or}
use Rattle.net_checks.proofs.Overlaps.{claims_more}
use Rattle.net_checks.proofs.overlap.claims.Goals as goal

pub loop-place-preserved : goal.loop-place-preserved
loop-place-preserved c =
    let partner : ℕ = get_or c.args.partners.now c.loop-place.place 0 in
    let at_partner : slice_get c.args.partners.now c.loop-place.place ≡ Some partner =
    slice_get-get_or c.args.partners.now c.loop-place.place 0 (omega (arith, c.loop-place-test.true, c.requires.long)) in
    claims_more c.args.faces.now c.args.partners.now c.loop-place.claims.items c.add_claim.new.claims.items c.loop-place.place partner c.index-faces-place.result c.loop-place-test.true
    c.index-faces-place.is at_partner c.loop-place.invariant c.in_ok-add_claim.ensures
