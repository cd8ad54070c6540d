use Rattle.std.proofs.Common.{ℕ, ◌⊎◌, List, sym, ap, subst, ◌↔◌}
use Rattle.ios_config.specs.declared.settings.FaceText.{FaceText}
use Rattle.net_rules.specs.Forms.{IsWellFormedFace}
use Rattle.net_rules.specs.Prefixes.{HasPrefix}
use Rattle.net_rules.specs.Peers.{IsConnectedAt}
use Rattle.net_rules.proofs.Gathered.{gathered_more, gathered_all}
use Rattle.net_checks.proofs.PeersEnds.{item_of_all}
use Rattle.net_checks.proofs.ConnectedSubnets.{mask_of, no_subnets, subnet_added, no_subnet}
use Rattle.net_checks.proofs.peers.subnets.Goals.{in-Some+in_ok-add_prefix, in_default}
use Rattle.net_checks.proofs.peers.subnets.Goals as goal

pub loop-face-init : goal.loop-face-init
loop-face-init c = no_subnets c.new-subnets.result.keys c.new-subnets.ensures.empty

pub subnet_of-requires : goal.subnet_of-requires
subnet_of-requires c =
    mask_of c.face-item.result c.address_of.result c.address_of.ensures
    (item_of_all IsWellFormedFace c.slice-face-items.result.now c.args.faces.now c.loop-face.face-index c.face-item.result c.loop-face-test.true c.face-item.is
    c.slice-face-items.ensures.items c.requires)

pub loop-face-preserved : goal.loop-face-preserved
loop-face-preserved c = λ p.
    let face : FaceText = c.face-item.result in
    let old : List (ℕ × ℕ) = c.loop-face.subnets.keys in
    gathered_more (λ (face : FaceText). IsConnectedAt face p) c.slice-face-items.result.now c.loop-face.face-index face c.loop-face-test.true c.face-item.is
    (HasPrefix old p) (HasPrefix c.match-subnet_of.subnets.keys p) (c.loop-face.invariant p)
    (elim c.match-subnet_of.branch [
      | in-Some+in_ok-add_prefix w ↦
          subst (λ (keys : List (ℕ × ℕ)). HasPrefix keys p ↔ (HasPrefix old p ⊎ IsConnectedAt face p)) (sym (ap (λ v. v.keys) w.subnets-is))
          (subnet_added face old w.add_prefix.new.prefixes.keys c.address_of.result c.subnet_of.result w.in-Some.subnet c.address_of.ensures c.subnet_of.ensures w.in-Some.is
          w.in_ok-add_prefix.ensures p)
      | in_default w ↦
          subst (λ (keys : List (ℕ × ℕ)). HasPrefix keys p ↔ (HasPrefix old p ⊎ IsConnectedAt face p)) (sym (ap (λ v. v.keys) w.subnets-is))
          (no_subnet face old c.address_of.result c.subnet_of.result c.address_of.ensures c.subnet_of.ensures w.in_default.is p)
    ])

pub returns : goal.returns
returns c = λ p.
    gathered_all (λ (face : FaceText). IsConnectedAt face p) c.slice-face-items.result.now c.args.faces.now c.loop-face.face-index c.loop-face-test.false c.slice-face-items.ensures.items
    (HasPrefix c.loop-face.subnets.keys p) (c.loop-face.invariant p)
