use Rattle.std.proofs.Common.{◌≡◌, ◌∙◌, ◌+◌, ◌==◌, ◌<◌, inl, inr, Bool, true, false, List, length, get_or, set, ap, arith, rules}
use Rattle.std.proofs.lemmas.Bool.{cases_lt}
use Rattle.std.proofs.lemmas.List.{take_all, length-set, length-replicate, get_or-replicate}
use Rattle.std.proofs.lemmas.List.FromFn.{fill_by_all}
use Rattle.std.specs.Prelude.{Vec, replicate}
use Rattle.std.specs.declared.alloc.Global.{Global}
use Rattle.std.specs.List.{list_any}
use Rattle.verify_commands.proofs.DownFlags.{none_above, flag_kept, flags_more}
use Rattle.verify_commands.proofs.tracing.down_flags.Goals.{in-Some, in_default}
use Rattle.verify_commands.proofs.tracing.down_flags.Goals as goal

pub loop-number-init : goal.loop-number-init
loop-number-init c =
    let made : c.in_ok-flags.flags.items ≡ replicate c.args.links false = search rules in
    record {
      whole = ap length made ∙ length-replicate c.args.links false;
      each = λ place within. ap (λ (fs : List Bool). get_or fs place false) made ∙ get_or-replicate c.args.links place false false within;
    }

pub index_mut-requires : goal.index_mut-requires
index_mut-requires c =
    omega (
      arith,
      none_above c.args.links c.args.numbers.now c.requires c.loop-number.number-index 0
          c.loop-number-test.true,
      c.in-Some.ensures.0,
      c.in-Some.ensures.1,
      c.loop-number.invariant.whole,
      c.loop-number.flags.ok,
    )

pub loop-number-preserved : goal.loop-number-preserved
loop-number-preserved c = elim c.match-checked_sub.branch [
  | in-Some w ↦
      let own : get_or c.args.numbers.now c.loop-number.number-index 0 ≡ w.in-Some.place + 1 = omega (arith, w.in-Some.ensures.0, w.in-Some.ensures.1) in
      let least = none_above c.args.links c.args.numbers.now c.requires c.loop-number.number-index 0 c.loop-number-test.true in
      let inside : w.in-Some.place < length c.loop-number.flags.items = omega (arith, own, least, c.loop-number.invariant.whole) in
      let items : c.match-checked_sub.flags.items ≡ set c.loop-number.flags.items w.in-Some.place true = ap (λ (v : Vec Bool Global). v.items) w.flags-is in
      record {
        whole = ap length items ∙ length-set c.loop-number.flags.items w.in-Some.place true ∙ c.loop-number.invariant.whole;
        each = λ place within.
            ap (λ (fs : List Bool). get_or fs place false) items ∙
            flags_more c.args.numbers.now c.loop-number.flags.items c.loop-number.number-index w.in-Some.place place c.loop-number-test.true own inside
            (omega (arith, within, c.loop-number.invariant.whole))
            (c.loop-number.invariant.each place within);
      }
  | in_default w ↦
      let none : get_or c.args.numbers.now c.loop-number.number-index 0 ≡ 0 =
      elim (cases_lt 0 (get_or c.args.numbers.now c.loop-number.number-index 0)) [ inl more ↦ absurd (w.in_default.ensures more) | inr none ↦ omega arith ] in
      record {
        whole = ap (λ (v : Vec Bool Global). length v.items) w.flags-is ∙ c.loop-number.invariant.whole;
        each = λ place within.
            ap (λ (v : Vec Bool Global). get_or v.items place false) w.flags-is ∙
            flag_kept c.args.numbers.now c.loop-number.number-index place (get_or c.loop-number.flags.items place false) c.loop-number-test.true (λ e. omega (arith, none, e))
            (c.loop-number.invariant.each place within);
      }
]

pub returns : goal.returns
returns c = fill_by_all (λ place. list_any (λ n. n == place + 1) c.args.numbers.now) c.loop-number.flags.items c.args.links false c.loop-number.invariant.whole (λ place within.
    c.loop-number.invariant.each place within ∙ ap (list_any (λ n. n == place + 1)) (take_all c.loop-number.number-index c.args.numbers.now (omega (arith, c.loop-number-test.false))))
