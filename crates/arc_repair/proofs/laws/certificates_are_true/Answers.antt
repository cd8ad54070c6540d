use Rattle.arc_repair.proofs.Truth as truth
use Rattle.arc_repair.proofs.laws.certificates_are_true.Goals as goal

pub returns : goal.returns
returns c =
    truth.certificates_are_true c.models_are_repairs.ensures c.one_model_serves.ensures c.formulas_are_searchable.ensures c.logs_show_prices.ensures c.verdicts_are_right.ensures.decide
    c.networks_after_edits_are_valid.ensures.there c.networks_after_edits_are_valid.ensures.valid
