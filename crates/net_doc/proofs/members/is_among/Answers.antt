use Rattle.std.proofs.Common.{bytes_eq, ◌∙◌, sym}
use Rattle.net_doc.proofs.Names.{list_any-map}
use Rattle.net_doc.proofs.members.is_among.Goals as goal

pub returns : goal.returns
returns c =
    c.contains.ensures.value ∙ sym (list_any-map (λ name. name.now) (λ known. bytes_eq known c.args.key.now) c.args.names.now)
