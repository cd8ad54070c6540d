use Rattle.run_files.proofs.ReadPast.{told_took}
use Rattle.run_files.proofs.by_lines.try_file.Goals as goal

pub returns-in-Ok-clause-took : goal.returns-in-Ok-clause-took
returns-in-Ok-clause-took g c =
    told_took c.args.name.now (g.S.Store.held c.args.store.now) c.args.limit c.in-Ok.field-0 (g.S.Store.taken c.args.store.now) (g.S.Store.taken
    c.read_past.new.store) c.in-Ok.ensures.told c.in-Ok.ensures.took
