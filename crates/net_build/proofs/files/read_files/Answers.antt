use Rattle.std.proofs.Common.{ℕ, List, [], ◌∷◌, ap, length, length-append, subst, arith}
use Rattle.ios_lines.specs.Lines.{AreLinesOf}
use Rattle.net_build.specs.Networks.{HasSettings}
use Rattle.arc_base.proofs.Zips.{AllZip-more}
use Rattle.net_build.proofs.files.read_files.Goals as goal

pub loop-place-preserved : goal.loop-place-preserved
loop-place-preserved c =
    let items : List (List ℕ) = c.slice-text-items.result.now in
    record {
      lines = AllZip-more AreLinesOf items c.loop-place.place c.text-item.result c.loop-place.lines c.push.new.self c.in_ok-read.read.lines c.loop-place-test.true c.text-item.is
          c.loop-place.invariant.lines c.in_ok-push.ensures.ok
          (subst (λ (text : List ℕ). AreLinesOf text c.in_ok-read.read.lines) c.bytes.ensures c.in_ok-read.ensures.0);
      configs = AllZip-more HasSettings items c.loop-place.place c.text-item.result c.loop-place.configs c.push-in-loop-place.new.self c.in_ok-read.read.config c.loop-place-test.true
          c.text-item.is c.loop-place.invariant.configs c.in_ok-push-2.ensures.ok
          (subst (λ (text : List ℕ). HasSettings text c.in_ok-read.read.config) c.bytes.ensures c.in_ok-read.ensures.1);
      lines_long = omega (arith, ap length c.in_ok-push.ensures.ok, length-append c.loop-place.lines (c.in_ok-read.read.lines ∷ []), c.loop-place.invariant.lines_long);
      configs_long = omega (arith, ap length c.in_ok-push-2.ensures.ok, length-append c.loop-place.configs (c.in_ok-read.read.config ∷ []), c.loop-place.invariant.configs_long);
    }
