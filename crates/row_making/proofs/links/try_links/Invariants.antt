use Rattle.std.proofs.Common.{◌≡◌, length, take}
use Rattle.std.specs.List.{AllZip}
use Rattle.arc_base.specs.declared.refusal.Kind.TheVariants as kinds
use Rattle.net_rules.specs.Names.{names_at}
use Rattle.net_rules.specs.Sites.{ends_of}
use Rattle.net_rules.specs.Rows.{IsLinkRow}
use Rattle.row_making.proofs.LinkFaces.{IsNoLink}
use Rattle.net_rules.proofs.Firsts.{NoneTo}
use Rattle.row_making.proofs.links.try_links.Given as goal

abbrev pub invariant-loop-place : goal.invariant-loop-place
invariant-loop-place l = record {
  rows : AllZip (IsLinkRow (names_at l.fn.names.keys)) (take l.place l.link-items) l.rows;
  ends : names_at l.ends.keys ≡ ends_of (take l.place l.link-items);
  long : length l.rows ≡ l.place;
  clear : NoneTo kinds.LinkFace (IsNoLink (names_at l.fn.names.keys) l.link-items) l.link-items l.place;
}
