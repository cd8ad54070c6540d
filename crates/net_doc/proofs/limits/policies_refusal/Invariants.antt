use Rattle.std.proofs.Common.{◌≡◌}
use Rattle.net_doc.proofs.Drafted.{rest_refusal}
use Rattle.net_doc.proofs.limits.policies_refusal.Given as goal

abbrev pub invariant-loop-place : goal.invariant-loop-place
invariant-loop-place l = rest_refusal l.policies 0 ≡ rest_refusal l.policies l.place
