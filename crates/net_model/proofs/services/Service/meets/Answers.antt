use Rattle.std.proofs.lemmas.Bool.{leb-true, le-leb}
use Rattle.net_model.proofs.ServiceRanges.{share, meet}
use Rattle.net_model.proofs.services.Service.meets.Goals as goal

-- src/services.rt:62:5
pub returns-then-self-other-clause-sets : goal.returns-then-self-other-clause-sets
returns-then-self-other-clause-sets c = (
  λ h. share c.args.self.now c.args.other.now c.if-self-other.true (leb-true _ _ h),
  λ s. le-leb _ _ (meet c.args.self.now c.args.other.now s).1,
)
