use Rattle.std.proofs.Common.{◌≡◌, ℕ, List, Some, subst}
use Rattle.std.specs.Prelude.{Any}
use Rattle.ios_config.specs.declared.settings.FaceText.{FaceText}
use Rattle.net_rules.specs.Settings.{value}
use Rattle.net_rules.specs.Lists.{BindsPacketList}
use Rattle.row_making.specs.ListTables.{Adds}
use Rattle.row_making.proofs.ListsNames.{adds_no_item, adds_more, adds_all, adds_then}
use Rattle.row_making.proofs.bound_lists.add_bound_packet.Goals as goal

pub loop-face-init : goal.loop-face-init
loop-face-init c = adds_no_item BindsPacketList c.slice-face-items.result.now c.args.names.now.keys

pub loop-face-preserved : goal.loop-face-preserved
loop-face-preserved c =
    let face : FaceText = c.face-item.result in
    adds_more BindsPacketList c.slice-face-items.result.now c.loop-face.face-index face c.args.names.now.keys c.loop-face.names.keys c.add_group-in-loop-face.new.names.keys
    c.loop-face-test.true c.face-item.is c.loop-face.invariant
    (adds_then (λ (name : List ℕ). value face.list_in ≡ Some name)
    (λ (name : List ℕ). value face.list_out ≡ Some name) c.loop-face.names.keys c.add_group.new.names.keys c.add_group-in-loop-face.new.names.keys
    c.in_ok-add_group.ensures c.in_ok-add_group-2.ensures)

pub returns : goal.returns
returns c =
    subst (λ (faces : List FaceText). Adds (λ (name : List ℕ). Any (BindsPacketList name) faces) c.args.names.now.keys c.loop-face.names.keys) c.slice-face-items.ensures.items
    (adds_all BindsPacketList c.slice-face-items.result.now c.loop-face.face-index c.args.names.now.keys c.loop-face.names.keys c.loop-face-test.false c.loop-face.invariant)
