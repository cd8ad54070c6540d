use Rattle.std.proofs.Common.{◌≡◌, ◌++◌}
use Rattle.net_gen.specs.Plans.{numbers}
use Rattle.net_gen.specs.RouterFiles.{links_lines, text_of}
use Rattle.net_gen.proofs.router_files.push_links.Given as goal

abbrev pub invariant-loop-place : goal.invariant-loop-place
invariant-loop-place l = l.text.items ≡ l.initial.text.items ++ text_of (links_lines l.routers l.router (numbers l.place))
