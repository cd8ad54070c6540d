use Rattle.std.proofs.Common.{refl}
use Rattle.ios_words.proofs.ServicesBetween.{is-between}
use Rattle.ios_words.proofs.services.Services.whole.Goals as goal

pub returns : goal.returns
returns c = is-between _ 0 16777215 refl refl
