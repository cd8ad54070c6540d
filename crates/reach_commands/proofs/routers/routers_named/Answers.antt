use Rattle.std.proofs.Common.{◌≡◌, ◌+◌, ◌++◌, ◌∷◌, [], List, ℕ, length, take, sym, ap, subst, arith, length-append}
use Rattle.std.proofs.lemmas.List.{take_all}
use Rattle.std.specs.List.{AllZip}
use Rattle.arc_base.specs.declared.place.Router.{Router}
use Rattle.reach_commands.specs.PreferRuns.{IsNamed}
use Rattle.reach_commands.proofs.NamedRouters.{known_more, unknown_refused}
use Rattle.arc_base.proofs.Zips.{AllZip-next}
use Rattle.reach_commands.proofs.routers.routers_named.Goals as goal

pub loop-place-preserved : goal.loop-place-preserved
loop-place-preserved c =
    let pushed : c.push.new.self ≡ c.loop-place.wanted ++ c.in-Some.router ∷ [] = c.in_ok-push-in-Some.ensures.ok in
    record {
      named = subst (λ (ws : List Router). AllZip (IsNamed c.args.net.now) (take (c.loop-place.place + 1) c.args.names.now) ws) (sym pushed)
          (AllZip-next (IsNamed c.args.net.now) c.args.names.now c.loop-place.wanted c.loop-place.place c.in-Some.router (omega arith) c.loop-place.invariant.named c.in-Some.ensures.some);
      known = known_more c.args.net.now c.args.names.now c.loop-place.place c.in-Some.router c.in-Some.ensures.some c.loop-place.invariant.known;
      count = omega (arith, ap length pushed, length-append c.loop-place.wanted (c.in-Some.router ∷ []), c.loop-place.invariant.count);
    }

pub returns-in-None : goal.returns-in-None
returns-in-None c =
    unknown_refused c.args.document.now c.args.net.now c.args.names.now c.loop-place.place c.refused.result (omega arith) c.in-None.ensures.none c.loop-place.invariant.known c.refused.ensures

pub returns : goal.returns
returns c =
    subst (λ (ns : List (List ℕ)). AllZip (IsNamed c.args.net.now) ns c.loop-place.wanted) (take_all c.loop-place.place c.args.names.now (omega arith)) c.loop-place.invariant.named
