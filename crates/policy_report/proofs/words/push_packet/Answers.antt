use Rattle.std.proofs.lemmas.Result.{on_ok_weaker}
use Rattle.arc_base.specs.PrefixText.{address_text}
use Rattle.policy_report.specs.ServiceWords.{service_words}
use Rattle.policy_report.proofs.Appends.{two_words_and_run}
use Rattle.policy_report.proofs.words.push_packet.Goals as goal

pub returns : goal.returns
returns c =
    on_ok_weaker c.push_packet_service.result
    (two_words_and_run c.args.text.now.items c.push_address_word.new.text.items c.push_address_word-2.new.text.items c.push_packet_service.new.text.items
    (address_text c.args.packet.now.from) (address_text c.args.packet.now.to) (service_words c.args.packet.now.service)
    c.in_ok-push_address_word.ensures c.in_ok-push_address_word-2.ensures)
    c.push_packet_service.ensures
