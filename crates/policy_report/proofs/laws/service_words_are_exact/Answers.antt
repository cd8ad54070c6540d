use Rattle.policy_report.proofs.ServiceTexts.{service_words_are_exact, range_words_are_exact, names_are_no_services}
use Rattle.policy_report.proofs.laws.service_words_are_exact.Goals as goal

pub returns-clause-service : goal.returns-clause-service
returns-clause-service c = service_words_are_exact

pub returns-clause-range : goal.returns-clause-range
returns-clause-range c = range_words_are_exact

pub returns-clause-names : goal.returns-clause-names
returns-clause-names c = names_are_no_services
