use Rattle.std.proofs.Common.{refl}
use Rattle.net_model.proofs.SameService.{same_service}
use Rattle.traffic_classes.proofs.gathering.whole_protocol.Goals as goal

pub returns : goal.returns
returns c = λ within. same_service _ _ refl refl
