use Rattle.std.proofs.Common.{[], ◌∷◌}
use Rattle.net_build.specs.Order.{Hostname, Protocol, TwoAreas, SameAs, RefusesWithin}
use Rattle.net_build.proofs.Tries.{fails_after, clear_before, one_decides}
use Rattle.net_build.proofs.assembly.try_routers.Goals as goal

abbrev Done : Unit {0} → Type 0
Done done = Unit {0}

pub returns-in_err-try_hostnames : goal.returns-in_err-try_hostnames
returns-in_err-try_hostnames c = λ down most doc.
    fails_after (RefusesWithin down most doc c.args.configs.now) [] Hostname (Protocol ∷ TwoAreas ∷ SameAs ∷ []) Done Done
    c.from_residual.result c.in_err-try_hostnames.field-0.0 c.from_residual.ensures.1 tt c.in_err-try_hostnames.ensures

pub returns-in_err-try_processes : goal.returns-in_err-try_processes
returns-in_err-try_processes c = λ down most doc.
    fails_after (RefusesWithin down most doc c.args.configs.now) (Hostname ∷ []) Protocol (TwoAreas ∷ SameAs ∷ []) Done Done
    c.from_residual-in_err-try_processes.result c.in_err-try_processes.field-0.0 c.from_residual-in_err-try_processes.ensures.1 (c.in_ok-try_hostnames.ensures.0, tt) c.in_err-try_processes.ensures

pub returns-in_err-try_areas : goal.returns-in_err-try_areas
returns-in_err-try_areas c = λ down most doc.
    fails_after (RefusesWithin down most doc c.args.configs.now) (Hostname ∷ Protocol ∷ []) TwoAreas (SameAs ∷ []) Done Done
    c.from_residual-in_err-try_areas.result c.in_err-try_areas.field-0.0 c.from_residual-in_err-try_areas.ensures.1
    (c.in_ok-try_hostnames.ensures.0, (c.in_ok-try_processes.ensures.0, tt)) c.in_err-try_areas.ensures

pub returns : goal.returns
returns c = λ down most doc.
    clear_before (RefusesWithin down most doc c.args.configs.now) (Hostname ∷ Protocol ∷ TwoAreas ∷ []) (SameAs ∷ []) Done c.try_as_numbers.result
    (c.in_ok-try_hostnames.ensures.0, (c.in_ok-try_processes.ensures.0, (c.in_ok-try_areas.ensures.0, tt)))
    (one_decides (RefusesWithin down most doc c.args.configs.now) SameAs Done c.try_as_numbers.result c.try_as_numbers.ensures)
