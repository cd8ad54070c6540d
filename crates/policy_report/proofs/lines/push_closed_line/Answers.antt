use Rattle.std.proofs.Common.{◌++◌, codes, ap, ◌∙◌}
use Rattle.policy_report.specs.Lines.{after_spaces}
use Rattle.policy_report.specs.Reports.{class_words, router_side_words}
use Rattle.policy_report.proofs.Appends.{two_runs}
use Rattle.policy_report.proofs.lines.push_closed_line.Goals as goal

pub returns : goal.returns
returns c =
    two_runs c.args.text.now.items (codes "closed") c.extend_from_slice.new.self.items c.push_class.new.text.items c.push_side.new.text.items c.push.new.self.items
    (class_words c.args.shown.now.class) (router_side_words c.args.net.now.routers c.args.shown.now.side)
    c.in_ok-extend_from_slice.ensures.items c.in_ok-push_class.ensures
    (c.in_ok-push_side.ensures ∙ ap (λ r. c.push_class.new.text.items ++ after_spaces (router_side_words r c.slice-2.result.now)) c.slice.ensures.items
    ∙ ap (λ s. c.push_class.new.text.items ++ after_spaces (router_side_words c.args.net.now.routers s)) c.slice-2.ensures.items) c.in_ok-push.ensures.items
