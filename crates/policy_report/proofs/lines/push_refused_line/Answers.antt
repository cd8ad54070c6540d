use Rattle.std.proofs.Common.{◌≡◌, ◌+◌, ◌++◌, ◌∷◌, codes, decimal, ap, ◌∙◌, rules}
use Rattle.policy_report.specs.Reports.{report_packet_words}
use Rattle.policy_report.proofs.Appends.{run_and_word}
use Rattle.policy_report.proofs.lines.push_refused_line.Goals as goal

pub returns : goal.returns
returns c =
    let number : c.from.result ≡ c.args.link.0 = search rules in
    run_and_word c.args.text.now.items (codes "acl-on-routed-link") c.extend_from_slice.new.self.items c.push_packet.new.text.items c.push_count.new.text.items c.push.new.self.items
    (report_packet_words c.args.packet.now) (decimal (c.args.link.0 + 1))
    c.in_ok-extend_from_slice.ensures.items c.in_ok-push_packet.ensures
    (c.in_ok-push_count.ensures ∙ ap (λ n. c.push_packet.new.text.items ++ 32 ∷ decimal (n + 1)) number) c.in_ok-push.ensures.items
