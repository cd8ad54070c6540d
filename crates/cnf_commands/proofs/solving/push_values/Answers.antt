use Rattle.std.proofs.Common.{refl, string_bytes}
use Rattle.cnf_commands.proofs.Numbering.{written_more}
use Rattle.cnf_commands.proofs.solving.push_values.Goals as goal

pub loop-place-preserved : goal.loop-place-preserved
loop-place-preserved c =
    written_more c.args.values.now c.loop-place.place _ _ (string_bytes c.args.text.now) (string_bytes c.loop-place.text) (string_bytes c.push_value.new.text)
    c.loop-place-test.true refl c.loop-place.invariant c.in_ok-push_value.ensures
