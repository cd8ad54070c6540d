use Rattle.std.proofs.lemmas.Result.{on_ok_weaker}
use Rattle.arc_base.specs.PrefixText.{prefix_text}
use Rattle.policy_report.specs.ServiceWords.{range_words}
use Rattle.policy_report.proofs.Appends.{two_words_and_run}
use Rattle.policy_report.proofs.words.push_class.Goals as goal

pub returns : goal.returns
returns c =
    on_ok_weaker c.push_class_services.result
    (two_words_and_run c.args.text.now.items c.push_prefix_word.new.text.items c.push_prefix_word-2.new.text.items c.push_class_services.new.text.items
    (prefix_text c.args.class.now.from) (prefix_text c.args.class.now.to) (range_words c.args.class.now.service)
    c.in_ok-push_prefix_word.ensures c.in_ok-push_prefix_word-2.ensures)
    c.push_class_services.ensures
