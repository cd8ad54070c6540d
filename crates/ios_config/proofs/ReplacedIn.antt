-- The commands of a list of lines of which one is another.
use Rattle.std.proofs.Common.{◌≡◌, ◌≢◌, ℕ, suc, ◌+◌, not, true, List, ◌∷◌, ◌++◌, take, drop, filter, slice_get, Some, sym, ap, subst, ◌∙◌, arith, Contains}
use Rattle.std.proofs.lemmas.Bool.{cond-true}
use Rattle.std.proofs.lemmas.List.Elements.{filter-append, Contains-append_left, Contains-append_right}
use Rattle.std.specs.List.{AllZip}
use Rattle.arc_base.proofs.Items.{Contains-tail, from_filter}
use Rattle.arc_base.specs.Words.{words}
use Rattle.ios_lines.specs.Views.{Mark}
use Rattle.ios_lines.specs.Changes.{changed, replaced, mark_worded, Write}
use Rattle.ios_lines.proofs.ChangedTexts.{marks-change}
use Rattle.ios_lines.proofs.Replacements.{orphans-replaced}
use Rattle.ios_lines.proofs.SeenHeads.{seen-heads}
use Rattle.ios_config.specs.declared.commands.FileCommand.{FileCommand}
use Rattle.ios_config.specs.Inserted.{numbered_marks, command_marks, IsMarkRead, command_at}
use Rattle.ios_config.specs.LineLists.{marks_in}
use Rattle.ios_config.specs.ReplacedIn.{AReplacedLineIsIn}
use Rattle.ios_config.proofs.InsertedCommands.{says, zip-split, zip-join}
use Rattle.ios_config.proofs.ReplacedCommands.{parts-old, parts-new, still-reads, reads-other, zip-in, first-read}

pub replaced-in : AReplacedLineIsIn
replaced-in lines commands place m line are may at told_it no_head =
    let marks = marks_in lines in
    let after = marks_in (replaced place line lines) in
    let ws = words line in
    let rows : after ≡ changed place (mark_worded ws) marks = marks-change (Write place line) lines may in
    let Old : ℕ × Mark → FileCommand → Type 0 = IsMarkRead marks in
    let New : ℕ × Mark → FileCommand → Type 0 = IsMarkRead after in
    let blocks = λ (k : ℕ) (x : Mark) (there : slice_get marks k ≡ Some x) (some : x.block ≢ 0). seen-heads lines k x there some in
    let numbered = numbered_marks marks in
    let before = filter says (take place numbered) in
    let behind = filter says (drop (suc place) numbered) in
    let told : says (1 + place, m) ≡ true = ap not told_it in
    let rows_old : command_marks marks ≡ before ++ (1 + place, m) ∷ behind =
    ap (filter says) (parts-old marks after place m ws rows at no_head blocks) ∙ filter-append says (take place numbered) ((1 + place, m) ∷ drop (suc place) numbered)
    ∙ ap (λ ls. before ++ ls) (cond-true (says (1 + place, m)) ((1 + place, m) ∷ behind) behind told) in
    let rows_new : command_marks after ≡ before ++ (1 + place, mark_worded ws m) ∷ behind =
    ap (filter says) (parts-new marks after place m ws rows at no_head blocks) ∙ filter-append says (take place numbered) ((1 + place, mark_worded ws m) ∷ drop (suc place) numbered)
    ∙ ap (λ ls. before ++ ls) (cond-true (says (1 + place, m)) ((1 + place, mark_worded ws m) ∷ behind) behind told) in
    let (front, back, split, first, second) = zip-split Old before ((1 + place, m) ∷ behind) commands (subst (λ (ls : List (ℕ × Mark)). AllZip Old ls commands) rows_old are.reads) in
    let one = first-read Old (1 + place, m) behind back second in
    let whole : numbered ≡ take place numbered ++ (1 + place, m) ∷ drop (suc place) numbered = parts-old marks after place m ws rows at no_head blocks in
    let in_front = λ (l : ℕ × Mark) (there : Contains before l).
    subst (λ (ls : List (ℕ × Mark)). Contains ls l) (sym whole)
    (Contains-append_left (take place numbered) ((1 + place, m) ∷ drop (suc place) numbered) l (from_filter says (take place numbered) l there).0) in
    let in_back = λ (l : ℕ × Mark) (there : Contains behind l).
    subst (λ (ls : List (ℕ × Mark)). Contains ls l) (sym whole)
    (Contains-append_right (take place numbered) ((1 + place, m) ∷ drop (suc place) numbered) l
    (Contains-tail (1 + place, m) l (drop (suc place) numbered) (from_filter says (drop (suc place) numbered) l there).0)) in
    let still = still-reads marks after place m ws rows at no_head blocks in
    let number : 1 + place ≡ place + 1 = omega arith in
    record {
      front = front;
      command = one.first;
      back = one.rest;
      split = split ∙ ap (λ cs. front ++ cs) one.is;
      number = one.this.line ∙ number;
      block = one.this.block;
      within = one.this.within;
      stands = one.this.stands;
      reads = one.this.reads;
      other = λ c reads. record {
        no_orphan = orphans-replaced lines place line may are.no_orphan;
        reads = subst (λ (ls : List (ℕ × Mark)). AllZip New ls (front ++ command_at one.first.line one.first.block c ∷ one.rest)) (sym rows_new)
            (zip-join New before ((1 + place, mark_worded ws m) ∷ behind) front (command_at one.first.line one.first.block c ∷ one.rest)
            (zip-in Old New before front (λ l d there r. still l d (in_front l there) r) first)
            (reads-other marks after place m ws rows at no_head blocks one.first one.this c reads, zip-in Old New behind one.rest (λ l d there r. still l d (in_back l there) r) one.others));
      };
    }
