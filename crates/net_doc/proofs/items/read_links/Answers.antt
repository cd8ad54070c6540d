use Rattle.std.proofs.Common.{arith}
use Rattle.std.proofs.lemmas.Grind.{common_steps}
use Rattle.net_doc.specs.Documents.{data_link}
use Rattle.net_doc.proofs.Readings.{all_of-stop, all_of-next}
use Rattle.net_doc.proofs.items.read_links.Goals as goal

pub returns-in_default-2 : goal.returns-in_default-2
returns-in_default-2 c = grind (arith, common_steps, all_of-stop data_link c.in-Some.items.now c.loop-item.item-index c.item-item.result)

pub loop-item-preserved : goal.loop-item-preserved
loop-item-preserved c = grind (arith, common_steps, all_of-next data_link c.in-Some.items.now c.loop-item.item-index c.item-item.result)
