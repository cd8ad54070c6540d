use Rattle.net_rules.specs.Settings.{lines_of}
use Rattle.row_making.proofs.IndexLines.{covered_where}
use Rattle.row_making.proofs.process_index.ProcessIndex.is_covered.Goals as goal

pub returns : goal.returns
returns c =
    let where_held = covered_where (lines_of c.args.self.now.config.now) c.args.self.now.covered.keys c.args.address c.requires.covered in
    (λ t. where_held.0 (c.has_prefix_of.ensures.0 t), λ covers. c.has_prefix_of.ensures.1 (where_held.1 covers))
