use Rattle.std.proofs.Common.{◌≡◌, ℕ, ◌<◌, inl, inr, length, refl, ap, sym, subst, arith}
use Rattle.std.proofs.lemmas.Bool.{cases_lt}
use Rattle.std.proofs.lemmas.Option.{slice_get_within}
use Rattle.arc_base.specs.declared.place.Link.{Link}
use Rattle.witness_check.specs.Cuts.{CutsOver}
use Rattle.witness_check.proofs.cases.Case.cuts_all.Goals as goal

same_link : (link : Link) (n : ℕ) → link.0 ≡ n → (let l : Link = record { 0 = n } in l) ≡ link
same_link link n e = ap (λ (k : ℕ). let l : Link = record { 0 = k } in l) (sym e)

pub loop-place-preserved : goal.loop-place-preserved
loop-place-preserved c link less =
    elim (cases_lt link.0 c.loop-place.place) [
      | inl below ↦ c.loop-place.invariant link below
      | inr at ↦ let same : link.0 ≡ c.loop-place.place = omega arith in
          subst (λ (l : Link). CutsOver c.args.self.now.net.now c.args.self.now.to c.args.side.now c.args.links.now l) (same_link link c.loop-place.place same)
          (c.cuts_over.ensures.0 c.if-not-cuts_over.false)
    ]

pub returns : goal.returns
returns c = (
  λ t link leaving. c.loop-place.invariant link
      (let less : leaving.arc.link < length c.args.self.now.net.now.links = slice_get_within c.args.self.now.net.now.links leaving.arc.link leaving.arc.row leaving.leaving.is_arc.link in
      omega (arith, less, leaving.over)) leaving,
  λ cuts. refl,
)
