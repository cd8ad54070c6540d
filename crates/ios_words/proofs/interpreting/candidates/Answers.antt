use Rattle.std.proofs.Common.{map, ap, ◌∙◌, rules}
use Rattle.ios_words.specs.declared.kinds.BlockKind.TheVariants as blocks
use Rattle.ios_words.specs.Candidates.{letter}
use Rattle.ios_words.specs.Rows.{rule_of}
use Rattle.ios_words.specs.Views.{words_of}
use Rattle.ios_words.proofs.Candidates.{in_block, same_letter, same_ip}
use Rattle.ios_words.proofs.interpreting.candidates.Goals as goal

pub returns-in-Top-clause-same : goal.returns-in-Top-clause-same
returns-in-Top-clause-same c =
    in_block (words_of c.args.words) (map rule_of c.top_ip_rows.result.now) c.args.within blocks.Top c.in-Top.is
    (same_ip (words_of c.args.words) c.letter.result _ _ (search rules) (c.letter.ensures ∙ ap letter c.rest.ensures) c.top_ip_rows.ensures.rows)

pub returns-in-Top-2-clause-same : goal.returns-in-Top-2-clause-same
returns-in-Top-2-clause-same c =
    in_block (words_of c.args.words) (map rule_of c.top_rows.result.now) c.args.within blocks.Top c.in-Top-2.is
    (same_letter (words_of c.args.words) c.letter-in-Top-2.result _ _ (search rules) c.letter-in-Top-2.ensures c.top_rows.ensures.rows)

pub returns-in-Interface-clause-same : goal.returns-in-Interface-clause-same
returns-in-Interface-clause-same c =
    in_block (words_of c.args.words) (map rule_of c.interface_ip_rows.result.now) c.args.within blocks.Interface c.in-Interface.is
    (same_ip (words_of c.args.words) c.letter-in-Interface.result _ _ (search rules) (c.letter-in-Interface.ensures ∙ ap letter c.rest-in-Interface.ensures) c.interface_ip_rows.ensures.rows)

pub returns-in-Interface-2-clause-same : goal.returns-in-Interface-2-clause-same
returns-in-Interface-2-clause-same c =
    in_block (words_of c.args.words) (map rule_of c.interface_rows.result.now) c.args.within blocks.Interface c.in-Interface-2.is
    (same_letter (words_of c.args.words) c.letter-in-Interface-2.result _ _ (search rules) c.letter-in-Interface-2.ensures c.interface_rows.ensures.rows)
