use Rattle.std.proofs.Common.{ℕ, ◌+◌, List, Option, sym, subst}
use Rattle.std.specs.Prelude.{Any}
use Rattle.ios_config.specs.declared.settings.FaceText.{FaceText}
use Rattle.ios_config.specs.Least.{FindsLeast}
use Rattle.net_rules.specs.Routers.{NamesOtherProcess}
use Rattle.net_rules.proofs.Leasts.{LinesTo, least_more, least_all}
use Rattle.net_checks.proofs.routers.other_process.Goals as goal

pub loop-face-preserved : goal.loop-face-preserved
loop-face-preserved c =
    let items : List FaceText = c.slice-face-items.result.now in
    subst (λ (found : Option ℕ). FindsLeast (LinesTo (NamesOtherProcess c.args.process.now) items (c.loop-face.face-index + 1)) found) (sym c.lesser-line.ensures)
    (least_more (NamesOtherProcess c.args.process.now) items c.loop-face.face-index c.face-item.result c.loop-face.line c.names_other.result c.loop-face-test.true c.face-item.is
    c.loop-face.invariant c.names_other.ensures)

pub returns : goal.returns
returns c =
    subst (λ (faces : List FaceText). FindsLeast (λ line. Any (NamesOtherProcess c.args.process.now line) faces) c.loop-face.line) c.slice-face-items.ensures.items
    (least_all (NamesOtherProcess c.args.process.now) c.slice-face-items.result.now c.loop-face.face-index c.loop-face.line c.loop-face-test.false c.loop-face.invariant)
