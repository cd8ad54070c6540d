use Rattle.network_edit_laws.proofs.SameClasses.{classes_stay, all_classes_stay, lists_stay_uniform}
use Rattle.network_edit_laws.proofs.SameHosts.{hosts_stay, ends_stay}
use Rattle.network_edit_laws.proofs.kept.edits_keep_classes.Goals as goal

pub returns-clause-hosts : goal.returns-clause-hosts
returns-clause-hosts c = hosts_stay

pub returns-clause-ends : goal.returns-clause-ends
returns-clause-ends c = ends_stay

pub returns-clause-classes : goal.returns-clause-classes
returns-clause-classes c = classes_stay

pub returns-clause-all_classes : goal.returns-clause-all_classes
returns-clause-all_classes c = all_classes_stay

pub returns-clause-uniform : goal.returns-clause-uniform
returns-clause-uniform c = lists_stay_uniform
