use Rattle.ios_config.proofs.PrependedLines.{a-line-put-before}
use Rattle.ios_config.proofs.laws.a_line_is_put_before.Goals as goal

pub returns : goal.returns
returns c = a-line-put-before
