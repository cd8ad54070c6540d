use Rattle.std.proofs.Common.{arith}
use Rattle.generate_commands.proofs.Made.{well_formed}
use Rattle.generate_commands.proofs.generating.generate.Goals as goal

pub build-requires-clause-generated : goal.build-requires-clause-generated
build-requires-clause-generated g c = (c.args.words.now.number, record { some = c.requires.some; few = c.requires.few; is = c.in_ok-made.ensures.generated })

pub repair_made-requires-clause-made : goal.repair_made-requires-clause-made
repair_made-requires-clause-made g c = record { generated = c.in_ok-made.ensures.generated; is_built = c.in_ok-built.ensures.built }

pub repair_made-requires-clause-editable : goal.repair_made-requires-clause-editable
repair_made-requires-clause-editable g c = λ countable. record {
  well_formed = well_formed c.args.words.now.number c.in_ok-made.made (record { some = c.requires.some; few = c.requires.few; is = c.in_ok-made.ensures.generated })
      (omega (arith, c.in_ok-made.ensures.links, c.requires.few)) (omega (arith, c.in_ok-made.ensures.policies, c.requires.few));
  fit = c.in_ok-built.ensures.fit;
  countable = countable;
  is_built = c.in_ok-built.ensures.built;
  count = c.in_ok-made.ensures.files;
  bytes = λ i d l. omega (arith, c.in_ok-made.ensures.short i d l);
}
