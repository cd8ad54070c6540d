use Rattle.std.proofs.Common.{List, refl, sym, ◌∙◌, subst, arith}
use Rattle.std.specs.Prelude.{Contains}
use Rattle.std.specs.List.{flat_map}
use Rattle.std.proofs.lemmas.Bool.{false≢true}
use Rattle.arc_base.specs.declared.place.Link.{Link}
use Rattle.witness_check.proofs.Repeats.{used_at, used_on_at, unused_at}
use Rattle.witness_check.proofs.paths.is_used.Goals as goal

pub returns-then-contains : goal.returns-then-contains
returns-then-contains c = (
  λ t. used_at (Contains (flat_map (λ path. path.links) c.args.paths.now) c.args.link) c.args.paths.now c.loop-path.path-index c.path-item.result c.args.link (omega arith) c.path-item.is
      (subst (λ (ls : List Link). Contains ls c.args.link) c.slice.ensures.items (c.contains.ensures.0 c.if-contains.true)) c.loop-path.invariant,
  λ at. refl,
)

pub loop-path-preserved : goal.loop-path-preserved
loop-path-preserved c =
    used_on_at (Contains (flat_map (λ path. path.links) c.args.paths.now) c.args.link) c.args.paths.now c.loop-path.path-index c.path-item.result c.args.link (omega arith) c.path-item.is
    (λ at. false≢true (sym c.if-contains.false ∙ c.contains.ensures.1 (subst (λ (ls : List Link). Contains ls c.args.link) (sym c.slice.ensures.items) at))) c.loop-path.invariant

pub returns : goal.returns
returns c = (
  λ t. absurd (false≢true t),
  λ at. absurd (unused_at (Contains (flat_map (λ path. path.links) c.args.paths.now) c.args.link) c.args.paths.now c.loop-path.path-index c.args.link (omega arith) c.loop-path.invariant at),
)
