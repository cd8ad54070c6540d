use Rattle.ios_lines.proofs.OpenBanners.{banners-end}
use Rattle.ios_lines.proofs.laws.banners_end_at_their_delimiter.Goals as goal

pub returns : goal.returns
returns c = banners-end
