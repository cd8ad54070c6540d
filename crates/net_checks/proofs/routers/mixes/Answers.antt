use Rattle.std.proofs.Common.{◌≡◌, ℕ, Option, sym, subst}
use Rattle.std.specs.Prelude.{Any, IsSomeAnd, slice_get}
use Rattle.ios_config.specs.declared.settings.ProcessText.{ProcessText}
use Rattle.ios_config.specs.Least.{FindsLeast}
use Rattle.net_rules.specs.Routers.{NamesOtherProcess, RunsOther}
use Rattle.ios_config.proofs.Least.{Either, least_either}
use Rattle.net_checks.proofs.routers.mixes.Goals as goal

pub returns : goal.returns
returns c =
    let Second : ℕ → Type 0 = λ line. IsSomeAnd (slice_get c.args.config.now.process 1) (λ (second : ProcessText). line ≡ second.head) in
    let Other : ℕ → Type 0 = λ line. Any (NamesOtherProcess c.args.process.now line) c.args.config.now.faces in
    let Runs : ℕ → Type 0 = λ line. Any (RunsOther c.args.protocol line) c.args.config.now.process in
    let later : FindsLeast (Either Other Runs) c.lesser.result =
    subst (λ (found : Option ℕ). FindsLeast (Either Other Runs) found) (sym c.lesser.ensures)
    (least_either Other Runs c.other_process-other.result c.other_protocol-protocols.result c.other_process-other.ensures c.other_protocol-protocols.ensures) in
    subst (λ (found : Option ℕ). FindsLeast (Either Second (Either Other Runs)) found) (sym c.lesser-2.ensures)
    (least_either Second (Either Other Runs) c.second_head-second.result c.lesser.result c.second_head-second.ensures later)
