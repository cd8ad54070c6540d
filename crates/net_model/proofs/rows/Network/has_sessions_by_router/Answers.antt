use Rattle.std.proofs.Common.{length, ap, refl, arith}
use Rattle.std.proofs.lemmas.List.Sorted.{IsNonDecreasingBy-from_all_adjacent}
use Rattle.net_model.specs.declared.rows.SessionRow.{SessionRow}
use Rattle.net_model.specs.Tables.{router_at}
use Rattle.net_model.proofs.rows.Network.has_sessions_by_router.Goals as goal

-- src/sessions.rt:31:5
pub returns : goal.returns
returns c = (
  λ t. record {
    rising = IsNonDecreasingBy-from_all_adjacent (λ (s : SessionRow). router_at c.args.self.now s.face) c.args.self.now.sessions
        (λ k d within. c.loop-place.invariant k d (omega (arith, ap length c.slice-sessions.ensures.items)));
  },
  λ h. refl,
)
