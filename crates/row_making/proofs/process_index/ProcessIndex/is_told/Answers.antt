use Rattle.row_making.proofs.process_index.ProcessIndex.is_told.Goals as goal

pub returns : goal.returns
returns c = (λ t. (c.requires.told c.args.p.now).0 (c.has_prefix.ensures.0 t), λ told. c.has_prefix.ensures.1 ((c.requires.told c.args.p.now).1 told))
