use Rattle.std.proofs.Common.{◌≡◌, ℕ, List, subst, sym}
use Rattle.std.proofs.lemmas.List.Kept.{AllPairs-from_increasing}
use Rattle.std.proofs.lemmas.Result.{IfOk-weaker}
use Rattle.net_model.specs.declared.services.Service.{Service}
use Rattle.traffic_classes.specs.ServiceLeaves.{AreServiceLeaves}
use Rattle.traffic_classes.specs.ServiceParts.{RiseBetween, ArePartsBetween}
use Rattle.traffic_classes.proofs.ServiceTiles.{AreCuts, tiled, cuts_rise}
use Rattle.traffic_classes.proofs.service_leaves.service_leaves_of.Goals as goal

pub parts_between-requires : goal.parts_between-requires
parts_between-requires c =
    let cuts : AreCuts c.args.marks.now c.args.whole c.in_ok-cuts.cuts.items =
    record { rising = AllPairs-from_increasing _ c.in_ok-cuts.ensures.rising; each = c.in_ok-cuts.ensures.each } in
    subst (λ (l : List ℕ). RiseBetween c.args.whole.low l c.args.whole.high) (sym c.deref.ensures.value) (cuts_rise c.args.marks.now c.in_ok-cuts.cuts.items c.args.whole cuts)

pub returns : goal.returns
returns c =
    let cuts : AreCuts c.args.marks.now c.args.whole c.in_ok-cuts.cuts.items =
    record { rising = AllPairs-from_increasing _ c.in_ok-cuts.ensures.rising; each = c.in_ok-cuts.ensures.each } in
    let parts = subst (λ (l : List ℕ). ArePartsBetween c.args.whole.low l c.args.whole.high c.in_ok-parts_between.field-0.items) c.deref.ensures.value c.in_ok-parts_between.ensures in
    let are = (tiled c.args.marks.now c.in_ok-cuts.cuts.items c.args.whole c.in_ok-parts_between.field-0.items cuts parts).are in
    IfOk-weaker c.of.result (λ (l : List Service). l ≡ c.in_ok-parts_between.field-0.items) (AreServiceLeaves c.args.marks.now c.args.whole)
    (λ l same. subst (λ (x : List Service). AreServiceLeaves c.args.marks.now c.args.whole x) (sym same) are) c.of.ensures.ok
