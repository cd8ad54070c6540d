use Rattle.std.proofs.Common.{Bool, Option, ◌∙◌, ap}
use Rattle.std.specs.Option.{option_or}
use Rattle.row_making.proofs.process_index.ProcessIndex.last_passive.Goals as goal

pub returns : goal.returns
returns c =
    let all = c.args.self.now.passive.all in
    c.or.ensures ∙ ap (λ (o : Option Bool). option_or o all) (c.copied.ensures ∙ c.get.ensures.value) ∙ c.requires.passive c.args.name.now
