use Rattle.std.proofs.Common.{rules, refl}
use Rattle.ios_words.proofs.Holding.{cleared-clear, is-holding}
use Rattle.ios_words.proofs.prefixes.holding.Goals as goal

pub invariant_of-result : goal.invariant_of-result
invariant_of-result c = record {
  in_range = search rules;
  length = c.requires;
  clear = cleared-clear c.args.address c.args.len c.cleared.result c.requires c.cleared.ensures;
}

pub returns : goal.returns
returns c = is-holding _ c.args.address c.args.len c.requires c.cleared.ensures refl
