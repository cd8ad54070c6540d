-- Lines of prefix lists with other numbers are read as they were.
use Rattle.std.proofs.Common.{◌≡◌, ℕ, zero, suc, ◌+◌, inl, true, false, Some, List, [], ◌∷◌, map, get_or, refl, sym, ap, subst, ◌∙◌, arith, decimal, codes}
use Rattle.std.specs.Prelude.{slice_get, option_map}
use Rattle.std.proofs.lemmas.Option.{none-some, get_or_from_slice_get, slice_get-map}
use Rattle.arc_base.specs.declared.span.Span.{Span}
use Rattle.ios_lines.specs.declared.line.Line.{Line}
use Rattle.ios_lines.specs.Changes as changes
use Rattle.ios_lines.specs.Ended as ended
use Rattle.ios_config.specs.Groups as groups
use Rattle.ios_lines.specs.Kinds.{kind}
use Rattle.ios_lines.specs.Rewritten.{rewritten, IsRewritten}
use Rattle.ios_lines.specs.Texts.{part, text_lines}
use Rattle.arc_base.specs.Words.{words}
use Rattle.ios_lines.specs.Written.{is_plain}
use Rattle.ios_lines.proofs.Replacements.{kind-there}
use Rattle.ios_lines.proofs.RewrittenLines.{a-word-replaced}
use Rattle.ios_words.specs.declared.commands.Command.{Command}
use Rattle.ios_words.specs.declared.commands.Command.TheVariants as commands
use Rattle.ios_words.specs.declared.commands.PacketText.{PacketText}
use Rattle.ios_words.specs.declared.kinds.BlockKind.TheVariants as kinds
use Rattle.ios_words.specs.Commands.{ReadBy}
use Rattle.ios_words.specs.Language.{rows}
use Rattle.ios_words.proofs.PlainWords.{decimal-plain}
use Rattle.ios_words.proofs.RenumberedLines as renumbering
use Rattle.patch_laws.specs.EntrySites.{PrefixLinesAreRenumbered, NumbersAreWords}

pub prefixes-renumbered : PrefixLinesAreRenumbered
prefixes-renumbered text lines cs c row list n m entry span site h top says sequenced at small order line_is says_new =
    let plain : is_plain (decimal m) ≡ true = decimal-plain m small in
    let r : IsRewritten text h.place row 4 span (decimal m) = a-word-replaced text lines h.place row 4 span (decimal m) h.are h.cut h.at h.says at plain (inl (omega arith)) in
    let shown : get_or (text_lines text) h.place [] ≡ part text row.span =
    ap (λ (ls : List (List ℕ)). get_or ls h.place []) (sym h.are.texts) ∙
    get_or_from_slice_get (map (λ (l : Line). part text l.span) lines.rows) h.place (part text row.span) []
    (slice_get-map (λ (l : Line). part text l.span) lines.rows h.place ∙ ap (option_map (λ (l : Line). part text l.span)) h.at) in
    let alike : kind (part text row.span) ≡ kind (rewritten text row span (decimal m)) = ap kind (sym shown) ∙ sym (kind-there (text_lines text) h.place r.may.within r.may.outside) ∙ r.may.alike in
    let old : map (part text) row.words ≡ words (part text row.span) = (h.are.rows h.place row h.at).texts in
    let now : words site.line ≡ codes "ip" ∷ codes "prefix-list" ∷ sequenced.name ∷ codes "seq" ∷ decimal m ∷ sequenced.rest =
    ap words line_is ∙ r.words ∙ ap (changes.replaced 4 (decimal m)) sequenced.are in
    record {
      span = span;
      at = at;
      line = line_is;
      other = record {
        no_head = λ same. let number : c.line ≡ h.place + 1 = h.number in omega arith;
        alike = alike ∙ ap kind (sym line_is);
        within = kinds.Top;
        stands = inl (top, refl);
        reads = λ reads.
            let before : ReadBy false (codes "ip" ∷ codes "prefix-list" ∷ sequenced.name ∷ codes "seq" ∷ sequenced.word ∷ sequenced.rest) (rows kinds.Top) (commands.PrefixLine list (Some n) entry) =
            subst (λ (k : Command). ReadBy false (codes "ip" ∷ codes "prefix-list" ∷ sequenced.name ∷ codes "seq" ∷ sequenced.word ∷ sequenced.rest) (rows kinds.Top) k) says
            (subst (λ (ws : List (List ℕ)). ReadBy false ws (rows kinds.Top) c.command) (sym old ∙ sequenced.are) reads) in
            let after : ReadBy false (codes "ip" ∷ codes "prefix-list" ∷ sequenced.name ∷ codes "seq" ∷ decimal m ∷ sequenced.rest) (rows kinds.Top) (commands.PrefixLine list (Some m) entry) =
            renumbering.prefix-lines-renumbered sequenced.name sequenced.word list sequenced.rest n m entry before order in
            subst (λ (k : Command). ReadBy false (words site.line) (rows kinds.Top) k) (sym says_new)
            (subst (λ (ws : List (List ℕ)). ReadBy false ws (rows kinds.Top) (commands.PrefixLine list (Some m) entry)) (sym now) after);
        part = ap (λ (k : Command). groups.part_in c.block k) says_new ∙ sym (ap (λ (k : Command). groups.part_in c.block k) says);
      };
      free = subst (λ (l : List ℕ). ended.IsFree l) (sym line_is) r.free;
      no_return = λ plain_old. subst (λ (l : List ℕ). ended.HasNoReturn l) (sym line_is) (r.no_return plain_old);
    }

-- a word of a row is that of some span
span-there : (text : List ℕ) (spans : List Span) (k : ℕ) (word : List ℕ) → slice_get (map (part text) spans) k ≡ Some word → (span : Span) × (slice_get spans k ≡ Some span)
span-there text [] k word is = absurd (none-some word is)
span-there text (span ∷ spans) zero word is = (span, refl)
span-there text (span ∷ spans) (suc k) word is = span-there text spans k word is

pub numbers-are-words : NumbersAreWords
numbers-are-words text row = (
  λ n entry reads. first (map (part text) row.words) refl n entry reads,
  λ sequenced. span-there text row.words 4 sequenced.word (ap (λ (ws : List (List ℕ)). slice_get ws 4) sequenced.are),
)
  where
    first : (ws : List (List ℕ)) → map (part text) row.words ≡ ws → (n : ℕ) (entry : PacketText) → ReadBy true ws (rows kinds.Extended) (commands.Entry (Some n) entry) →
        (span : Span) × (slice_get row.words 0 ≡ Some span)
    first [] is n entry reads = absurd (none-some reads.rule reads.first)
    first (w ∷ ws) is n entry reads = span-there text row.words 0 w (ap (λ (l : List (List ℕ)). slice_get l 0) is)
