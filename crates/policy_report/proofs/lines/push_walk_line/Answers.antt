use Rattle.std.proofs.Common.{codes}
use Rattle.policy_report.specs.Reports.{class_words, link_words}
use Rattle.policy_report.proofs.Appends.{two_runs}
use Rattle.policy_report.proofs.lines.push_walk_line.Goals as goal

pub returns : goal.returns
returns c =
    two_runs c.args.text.now.items (codes "walk") c.extend_from_slice.new.self.items c.push_class.new.text.items c.push_links.new.text.items c.push.new.self.items
    (class_words c.args.class.now) (link_words c.args.links.now)
    c.in_ok-extend_from_slice.ensures.items c.in_ok-push_class.ensures c.in_ok-push_links.ensures c.in_ok-push.ensures.items
