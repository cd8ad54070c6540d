use Rattle.std.proofs.Common.{◌≡◌, ◌+◌, ◌++◌, ◌∷◌, [], List, length, take, sym, ap, subst, arith, length-append}
use Rattle.std.specs.Prelude.{Option}
use Rattle.std.specs.List.{AllZip}
use Rattle.arc_base.specs.declared.place.Link.{Link}
use Rattle.arc_recheck.specs.Singles.{IsAloneAnswer}
use Rattle.arc_base.proofs.Zips.{AllZip-next}
use Rattle.reach_commands.proofs.rechecked.alone_all.Goals as goal

pub loop-which-preserved : goal.loop-which-preserved
loop-which-preserved c =
    let pushed : c.push.new.self ≡ c.loop-which.found ++ c.in_ok-links.links ∷ [] = c.in_ok-push.ensures.ok in
    record {
      answered = subst (λ (fs : List (Option (List Link))). AllZip (IsAloneAnswer c.args.input.now.net) (take (c.loop-which.which + 1) c.args.input.now.doc.policies) fs) (sym pushed)
          (AllZip-next (IsAloneAnswer c.args.input.now.net) c.args.input.now.doc.policies c.loop-which.found c.loop-which.which c.in_ok-links.links
          (omega arith) c.loop-which.invariant.answered c.in_ok-links.ensures.answer);
      count = omega (arith, ap length pushed, length-append c.loop-which.found (c.in_ok-links.links ∷ []), c.loop-which.invariant.count);
      last = c.alone_at.ensures.last;
    }
