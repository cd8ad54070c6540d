use Rattle.std.proofs.Common.{◌++◌, List, subst, ◌∙◌}
use Rattle.std.specs.Prelude.{map}
use Rattle.std.specs.List.{AllZip}
use Rattle.std.proofs.lemmas.List.{take_all}
use Rattle.ios_config.specs.declared.settings.Config.{Config}
use Rattle.ios_config.specs.declared.settings.FaceText.{FaceText}
use Rattle.net_rules.specs.Names.{names_at}
use Rattle.net_rules.specs.Sites.{Site}
use Rattle.net_rules.specs.Lists.{keys_at}
use Rattle.net_rules.specs.Rows.{IsFaceRow}
use Rattle.arc_base.proofs.Zips.{AllZip-mapped_more}
use Rattle.row_making.proofs.faces.add_face_rows.Goals as goal

site_of : goal.In_ok-push → FaceText → Site
site_of c face = record { router = c.args.router; config = c.args.config.now; face = face }

pub loop-face-preserved : goal.loop-face-preserved
unfolding site_of
loop-face-preserved c = λ before h. AllZip-mapped_more (IsFaceRow c.args.around.now.protocol (names_at c.args.around.now.ends.now.keys) (keys_at c.args.around.now.lists.now.keys))
    (site_of c) before c.slice-face-items.result.now c.loop-face.face-index
    c.face-item.result c.loop-face.rows.items c.push.new.self.items c.in_ok-face_row.field-0 c.loop-face-test.true c.face-item.is (c.loop-face.invariant before h)
    c.in_ok-push.ensures.items
    (subst (λ (config : Config). IsFaceRow c.args.around.now.protocol (names_at c.args.around.now.ends.now.keys) (keys_at c.args.around.now.lists.now.keys)
    (record { router = c.args.router; config = config; face = c.face-item.result }) c.in_ok-face_row.field-0) c.in_ok-index.ensures.config c.in_ok-face_row.ensures)

pub returns : goal.returns
returns c = λ before h.
    subst (λ (faces : List FaceText). AllZip (IsFaceRow c.args.around.now.protocol (names_at c.args.around.now.ends.now.keys) (keys_at c.args.around.now.lists.now.keys))
    (before ++ map (λ (face : FaceText). record { router = c.args.router; config = c.args.config.now; face = face }) faces) c.loop-face.rows.items)
    (take_all c.loop-face.face-index c.slice-face-items.result.now c.loop-face-test.false ∙ c.slice-face-items.ensures.items) (c.loop-face.invariant before h)
