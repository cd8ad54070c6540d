use Rattle.std.proofs.Common.{◌≡◌, ap, sym, ◌∙◌}
use Rattle.std.specs.List.{list_any}
use Rattle.proof_check.specs.Knowledge.{Knowledge, start}
use Rattle.proof_check.specs.Logs.{adds_empty}
use Rattle.proof_check.proofs.SoundLogs.{sound}
use Rattle.proof_check.proofs.Verdicts.{refuted_all}
use Rattle.proof_check.proofs.checker.Checker.refuted.Goals as goal

pub returns-clause-exact : goal.returns-clause-exact
returns-clause-exact c = λ f steps e.
    let same : c.args.self.now.refuted ≡ list_any adds_empty steps = ap (λ (k : Knowledge). k.refuted) e ∙ refuted_all (start f c.args.self.now.least c.args.self.now.tops.items) steps in
    (λ h. sym same ∙ h, λ h. same ∙ h)

pub returns-clause-sound : goal.returns-clause-sound
returns-clause-sound c = λ refuted f steps accepted e assignment holds keeps.
    let same : c.args.self.now.refuted ≡ list_any adds_empty steps = ap (λ (k : Knowledge). k.refuted) e ∙ refuted_all (start f c.args.self.now.least c.args.self.now.tops.items) steps in
    sound f c.args.self.now.least c.args.self.now.tops.items steps accepted (sym same ∙ refuted) assignment holds keeps
