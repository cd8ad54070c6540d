use Rattle.std.proofs.Common.{ℕ, take}
use Rattle.std.specs.Prelude.{Any, Contains}
use Rattle.arc_base.specs.declared.refusal.Kind.TheVariants as kinds
use Rattle.net_rules.specs.Routers.{as_of, GivesNumber, Repeats}
use Rattle.net_rules.proofs.Firsts.{ClearTo}
use Rattle.net_checks.proofs.routers.try_as_numbers.Given as goal

abbrev pub invariant-loop-place : goal.invariant-loop-place
invariant-loop-place l = record {
  held : (asn : ℕ) → Contains l.numbers.keys asn → Any (GivesNumber as_of asn) (take l.place l.config-items);
  holds : (asn : ℕ) → Any (GivesNumber as_of asn) (take l.place l.config-items) → Contains l.numbers.keys asn;
  clear : ClearTo kinds.SameAs (Repeats as_of l.config-items) l.config-items l.place;
}
