use Rattle.std.proofs.Common.{[], ◌∷◌}
use Rattle.std.specs.List.{AllZip}
use Rattle.net_rules.specs.Sites.{full_names}
use Rattle.net_rules.specs.Rows.{IsLinkRow}
use Rattle.net_build.specs.Order.{LinkFace, DownLinks, RefusesWithin}
use Rattle.net_build.proofs.Tries.{fails_after}
use Rattle.net_build.proofs.assembly.links_of.Goals as goal

abbrev Done : Unit {0} → Type 0
Done done = Unit {0}

pub returns-in_err-links-clause-answer : goal.returns-in_err-links-clause-answer
returns-in_err-links-clause-answer c = λ most.
    let AreLinks = AllZip (IsLinkRow (full_names c.args.configs.now)) c.args.doc.now.links in
    fails_after (RefusesWithin c.args.down.now most c.args.doc.now c.args.configs.now) [] LinkFace (DownLinks ∷ []) AreLinks AreLinks
    c.from_residual-in_err-links.result c.in_err-links.field-0.0 c.from_residual-in_err-links.ensures.1 tt c.in_err-links.ensures.tried

pub returns-in_err-try_down_links-clause-answer : goal.returns-in_err-try_down_links-clause-answer
returns-in_err-try_down_links-clause-answer c = λ most.
    fails_after (RefusesWithin c.args.down.now most c.args.doc.now c.args.configs.now) (LinkFace ∷ []) DownLinks []
    Done (AllZip (IsLinkRow (full_names c.args.configs.now)) c.args.doc.now.links)
    c.from_residual-in_err-try_down_links.result c.in_err-try_down_links.field-0.0 c.from_residual-in_err-try_down_links.ensures.1 (c.in_ok-links.ensures.tried.0, tt) c.in_err-try_down_links.ensures

pub returns-clause-answer : goal.returns-clause-answer
returns-clause-answer c = λ most. ((c.in_ok-links.ensures.tried.0, (c.in_ok-try_down_links.ensures.0, tt)), c.in_ok-links.ensures.tried.1)
