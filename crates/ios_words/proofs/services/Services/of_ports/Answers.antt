use Rattle.std.proofs.Common.{refl}
use Rattle.ios_words.proofs.ServicesBetween.{is-between}
use Rattle.ios_words.proofs.services.Services.of_ports.Goals as goal

pub returns : goal.returns
returns c = is-between _ _ _ refl refl
