use Rattle.std.proofs.Common.{◌≡◌, ◌++◌, [], ◌∷◌, List, Bool, true, false, MatchBool, subst, sym}
use Rattle.std.specs.Prelude.{map, Contains}
use Rattle.net_rules.specs.Names.{names_at}
use Rattle.arc_base.specs.Lists.{AreDistinct}
use Rattle.net_rules.specs.Sites.{FullName, host_name}
use Rattle.ios_config.specs.declared.settings.FaceText.{FaceText}
use Rattle.net_rules.proofs.NameLists.{mapped_more, mapped_twice}
use Rattle.net_rules.proofs.names.add_file.Goals as goal

-- a name that is not there already was added
added : (old new : List FullName) (name : FullName) (fresh : Bool) → ¬ Contains old name →
    MatchBool fresh ((¬ Contains old name) × (new ≡ old ++ name ∷ [])) (Contains old name) → new ≡ old ++ name ∷ []
added old new name true lacks said = said.1
added old new name false lacks said = absurd (lacks said)

pub loop-face-preserved : goal.loop-face-preserved
loop-face-preserved c =
    let host : c.host_name-router.result.now ≡ host_name c.args.config.now = c.host_name-router.ensures in
    let name : FullName = (host_name c.args.config.now, c.face-item.result.name) in
    let is : (c.host_name-router.result.now, c.bytes.result.now) ≡ name = λ i. (host i, c.bytes.ensures i) in
    let old : List FullName = names_at c.loop-face.names.keys in
    let new : List FullName = names_at c.add_name.new.names.keys in
    let lacks : ¬ Contains old name =
    λ there. mapped_twice (λ (face : FaceText). (host_name c.args.config.now, face.name)) (names_at c.args.names.now.keys) old
    c.slice-face-items.result.now c.loop-face.face-index c.face-item.result c.loop-face-test.true c.face-item.is c.loop-face.invariant there
    (subst (λ (faces : List FaceText). AreDistinct (names_at c.args.names.now.keys ++ map (λ (face : FaceText). (host_name c.args.config.now, face.name)) faces))
    (sym c.slice-face-items.ensures.items) c.requires) in
    mapped_more (λ (face : FaceText). (host_name c.args.config.now, face.name)) (names_at c.args.names.now.keys) old new
    c.slice-face-items.result.now c.loop-face.face-index c.face-item.result c.loop-face-test.true c.face-item.is c.loop-face.invariant
    (added old new name c.in_ok-add_name.field-0 lacks
    (subst (λ (n : FullName). MatchBool c.in_ok-add_name.field-0 ((¬ Contains old n) × (new ≡ old ++ n ∷ [])) (Contains old n)) is c.in_ok-add_name.ensures))
