-- A line that is put before another.
use Rattle.std.proofs.Common.{◌≡◌, ◌≢◌, ◌+◌, ◌<◌, ◌≤◌, false, length, take, None, sym, ap, subst, ◌∙◌, arith, ⊎_elim, inl, Contains}
use Rattle.std.proofs.lemmas.Bool.{cases_Bool}
use Rattle.ios_lines.specs.Texts.{text_lines}
use Rattle.ios_lines.specs.Kinds.{open_banner}
use Rattle.ios_lines.specs.Views.{open_block}
use Rattle.ios_lines.specs.Changes.{MayStandAt}
use Rattle.ios_lines.proofs.ChangedTexts.{an-inserted-line as line-stands, inner-may}
use Rattle.ios_lines.proofs.Insertions.{moved-low}
use Rattle.ios_config.specs.Commands.{AreCommandsOf}
use Rattle.ios_config.specs.Groups.{Block, part_of}
use Rattle.ios_config.specs.Inserted.{IsPut, Opened, command_at, with_command}
use Rattle.ios_config.specs.Joined.{part_moved}
use Rattle.ios_config.specs.Prepended.{ALineIsPutBefore}
use Rattle.ios_config.proofs.AppendedLines.{in-front, command-place, any-part, part-head}
use Rattle.ios_config.proofs.InsertedCommands.{commands-split}
use Rattle.ios_config.proofs.InsertedLines.{inner-adds}
use Rattle.ios_config.proofs.JoinedSettings.{split-sets-other}

pub a-line-put-before : ALineIsPutBefore
a-line-put-before old new lines more commands head next within place line command cut have b of number is =
    let ls = text_lines old in
    let p = command-place old lines commands next cut new more have b.next_among in
    let row : p.place ≡ place = let line = p.line in omega arith in
    let low : p.place < length ls = p.told.within in
    let later : head.line < next.line = b.later in
    let block_is : p.mark.block ≡ head.line = sym p.block ∙ b.next_block in
    let some_block : p.mark.block ≢ 0 = λ none. b.some (b.own ∙ sym block_is ∙ none) in
    let no_head : p.mark.head ≡ false = ⊎_elim
    (λ heads. let own : p.mark.block ≡ p.place + 1 = p.told.own heads in let line = p.line in absurd (omega arith))
    (λ other. other)
    (cases_Bool p.mark.head) in
    let outside : open_banner (take place ls) ≡ None = ap (λ n. open_banner (take n ls)) (sym row) ∙ p.told.before in
    let block : open_block (take place ls) ≡ head.line = ap (λ n. open_block (take n ls)) (sym row) ∙ p.told.inner no_head some_block ∙ block_is in
    let some : open_block (take place ls) ≢ 0 = λ none. b.some (b.own ∙ sym block ∙ none) in
    let may : MayStandAt ls place line = inner-may ls place line (omega arith) outside some of.inner in
    let put : IsPut old new place line = record { may = may; new_lines = is; cut = cut } in
    let opened : Opened commands (open_block (take place ls)) within = record { head = head; among = b.among; line = sym block; opens = b.opens; known = b.known } in
    let added = inner-adds old new lines more commands place line within command put have of.inner opened of.reads in
    let c = command_at (place + 1) head.line command in
    let part = Block head.line in
    let split = commands-split old lines commands place have.reads in
    let own : part_of head ≡ part = part-head head.block head.command within b.opens b.known ∙ ap Block b.own in
    let early : head.line ≤ place = omega arith in
    let in_front : Contains split.front head = in-front place commands split head b.among early in
    let same_part : part_of c ≡ part_moved place part = of.part ∙ ap Block (sym (moved-low place head.line early)) in
    let sets = split-sets-other place commands split c part same_part (inl (any-part part split.front head in_front own)) in
    record {
      cut = (line-stands old new place line may is cut).cut;
      reads = subst (λ n. AreCommandsOf new more (with_command place (command_at (place + 1) n command) commands)) block added;
      split = split;
      sets = sets;
    }
