use Rattle.std.proofs.Common.{arith}
use Rattle.std.proofs.lemmas.Grind.{common_steps}
use Rattle.net_doc.specs.Documents.{router_of}
use Rattle.net_doc.proofs.Readings.{all_of-stop, all_of-next}
use Rattle.net_doc.proofs.items.read_names.Goals as goal

pub returns-in_default : goal.returns-in_default
returns-in_default c = grind (arith, common_steps, all_of-stop router_of c.args.items.now c.loop-item.item-index c.item-item.result)

pub loop-item-preserved : goal.loop-item-preserved
loop-item-preserved c = grind (arith, common_steps, all_of-next router_of c.args.items.now c.loop-item.item-index c.item-item.result)
