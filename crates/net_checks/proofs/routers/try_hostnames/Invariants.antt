use Rattle.std.proofs.Common.{◌≡◌, ℕ, List, take}
use Rattle.std.specs.Prelude.{map, All}
use denote.Ref.{Bor}
use Rattle.arc_base.specs.declared.refusal.Kind.TheVariants as kinds
use Rattle.net_rules.specs.Sites.{host_name}
use Rattle.net_rules.specs.Routers.{HasNoOwnName}
use Rattle.net_rules.proofs.Firsts.{ClearTo}
use Rattle.net_rules.proofs.Named.{IsNamed}
use Rattle.net_checks.proofs.routers.try_hostnames.Given as goal

abbrev pub invariant-loop-place : goal.invariant-loop-place
invariant-loop-place l = record {
  names : map (λ (n : Bor (List ℕ)). n.now) l.names.keys ≡ map host_name (take l.place l.config-items);
  named : All IsNamed (take l.place l.config-items);
  clear : ClearTo kinds.Hostname (HasNoOwnName l.config-items) l.config-items l.place;
}
