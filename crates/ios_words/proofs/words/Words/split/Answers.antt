use Rattle.ios_words.proofs.WordLists.{rest_lies}
use Rattle.ios_words.proofs.words.Words.split.Goals as goal

pub invariant_of-result : goal.invariant_of-result
invariant_of-result c = record { within = rest_lies c.args.self.text.now c.args.self.spans.now c.args.self.within }
