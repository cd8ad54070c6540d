-- The lines of entries that are put into lists are read as these entries, and entries of other numbers as they were.
use Rattle.std.proofs.Common.{◌≡◌, ◌≢◌, ℕ, ◌<◌, inl, inr, true, false, Option, Some, None, List, [], ◌∷◌, length, map, get_or, refl, sym, ap, subst, ◌∙◌, arith, decimal}
use Rattle.std.specs.Prelude.{slice_get}
use Rattle.std.proofs.lemmas.Bool.{ne_eqb}
use Rattle.std.proofs.lemmas.Option.{none-some, same_Some, get_or_from_slice_get, slice_get-map}
use Rattle.std.specs.Prelude.{option_map}
use Rattle.arc_base.specs.PrefixText.{BeginsAsNumber}
use Rattle.arc_base.proofs.NumberTexts.{decimal-begins}
use Rattle.ios_lines.specs.declared.line.Line.{Line}
use Rattle.ios_lines.specs.Changes as changes
use Rattle.ios_lines.specs.Ended as ended
use Rattle.ios_config.specs.Groups as groups
use Rattle.ios_lines.specs.Kinds.{kind, is_mark}
use Rattle.ios_lines.specs.Rewritten.{rewritten, IsRewritten}
use Rattle.ios_lines.specs.Texts.{part, text_lines}
use Rattle.arc_base.specs.Words.{words}
use Rattle.ios_lines.specs.Written.{is_plain}
use Rattle.ios_lines.proofs.Replacements.{kind-there}
use Rattle.ios_lines.proofs.RewrittenLines.{a-word-replaced}
use Rattle.ios_words.specs.declared.commands.Command.{Command}
use Rattle.ios_words.specs.declared.commands.Command.TheVariants as commands
use Rattle.ios_words.specs.declared.commands.PacketText.{PacketText}
use Rattle.ios_words.specs.declared.kinds.BlockKind.TheVariants as kinds
use Rattle.ios_words.specs.Commands.{ReadBy}
use Rattle.ios_words.specs.Language.{rows}
use Rattle.ios_words.specs.Plain.{plain_line}
use Rattle.ios_words.specs.Printed.{route_text}
use Rattle.ios_words.proofs.PlainWords.{decimal-plain}
use Rattle.ios_words.proofs.PlainLines.{listed-line, read-plain, route-line}
use Rattle.ios_words.proofs.RenumberedLines as renumbering
use Rattle.net_rules.specs.Lists.{packet_text}
use Rattle.edit_list.specs.After.{opposite_route_entry}
use Rattle.line_patcher.specs.EntryLines.{order_at}
use Rattle.patch_laws.specs.EntrySites.{BlockEntriesAreRead, ListEntriesAreRead, PrefixEntriesAreRead, EntriesAreRenumbered}
use Rattle.patch_laws.proofs.PlainWritten.{plain-entry, plain-fit, plain-single}

some-spaced : (order : Option ℕ) (entry : PacketText) → 0 < length (plain_line kinds.Extended (commands.Entry order entry))
some-spaced None entry = omega arith
some-spaced (Some n) entry = omega arith

pub block-entries : BlockEntriesAreRead
block-entries name order entry writable fits =
    let line = read-plain kinds.Extended (commands.Entry order (packet_text entry)) writable fits tt in
    (plain-entry order (packet_text entry) line, plain-fit kinds.Extended (commands.Entry order (packet_text entry)) line (some-spaced order (packet_text entry)))

pub list-entries : ListEntriesAreRead
list-entries name order entry writable extended =
    let line = listed-line name (packet_text entry) writable extended in
    (plain-single name (commands.ListLine name (packet_text entry)) line line.kind (inl refl), plain-fit kinds.Top (commands.ListLine name (packet_text entry)) line (omega arith))

pub prefix-entries : PrefixEntriesAreRead
prefix-entries place list entry is other fits =
    let permit = (opposite_route_entry list.entries entry.1).permit in
    let order = order_at place 5 entry.0 in
    let line = route-line list.name order permit entry.1 is other fits in (
      plain-single list.name (commands.PrefixLine list.name order (route_text permit entry.1)) line line.kind (inr refl),
      plain-fit kinds.Top (commands.PrefixLine list.name order (route_text permit entry.1)) line (omega arith),
    )

-- the words of a row of which the first is a number
first-other : (ws : List (List ℕ)) (w : List ℕ) (other : List ℕ) → slice_get ws 0 ≡ Some w → (rest : List (List ℕ)) × (ws ≡ w ∷ rest) × (changes.replaced 0 other ws ≡ other ∷ rest)
first-other [] w other at = absurd (none-some w at)
first-other (x ∷ ws) w other at = (ws, ap (λ (y : List ℕ). y ∷ ws) (same_Some x w at), refl)

-- digits are no exclamation mark
no-mark : (word : List ℕ) → BeginsAsNumber word → is_mark word ≡ false
no-mark [] begins = refl
no-mark (b ∷ word) (inl is) = ap is_mark is
no-mark (b ∷ word) (inr range) = ne_eqb b 33 (λ same. let low = range.0 in omega arith)

pub entries-renumbered : EntriesAreRenumbered
entries-renumbered text lines cs c row n m entry span site h of no_head says at small order line_is says_new =
    let block : row.block ≢ 0 = λ none. of.some (h.block ∙ none) in
    let plain : is_plain (decimal m) ≡ true = decimal-plain m small in
    let r : IsRewritten text h.place row 0 span (decimal m) = a-word-replaced text lines h.place row 0 span (decimal m) h.are h.cut h.at h.says at plain
    (inr (refl, h.head, block, no-mark (decimal m) (decimal-begins m small))) in
    let shown : get_or (text_lines text) h.place [] ≡ part text row.span =
    ap (λ (ls : List (List ℕ)). get_or ls h.place []) (sym h.are.texts) ∙
    get_or_from_slice_get (map (λ (l : Line). part text l.span) lines.rows) h.place (part text row.span) []
    (slice_get-map (λ (l : Line). part text l.span) lines.rows h.place ∙ ap (option_map (λ (l : Line). part text l.span)) h.at) in
    let alike : kind (part text row.span) ≡ kind (rewritten text row span (decimal m)) = ap kind (sym shown) ∙ sym (kind-there (text_lines text) h.place r.may.within r.may.outside) ∙ r.may.alike in
    let old : map (part text) row.words ≡ words (part text row.span) = (h.are.rows h.place row h.at).texts in
    let first : slice_get (map (part text) row.words) 0 ≡ Some (part text span) = slice_get-map (part text) row.words 0 ∙ ap (option_map (part text)) at in
    let (rest, is, now) = first-other (map (part text) row.words) (part text span) (decimal m) first in
    record {
      span = span;
      at = at;
      line = line_is;
      other = record {
        no_head = no_head;
        alike = alike ∙ ap kind (sym line_is);
        within = kinds.Extended;
        stands = inr of;
        reads = λ reads.
            let before : ReadBy true (part text span ∷ rest) (rows kinds.Extended) (commands.Entry (Some n) entry) =
            subst (λ (k : Command). ReadBy true (part text span ∷ rest) (rows kinds.Extended) k) says
            (subst (λ (ws : List (List ℕ)). ReadBy true ws (rows kinds.Extended) c.command) (sym old ∙ is) reads) in
            let after : ReadBy true (decimal m ∷ rest) (rows kinds.Extended) (commands.Entry (Some m) entry) = renumbering.entries-renumbered (part text span) rest n m entry before order in
            subst (λ (k : Command). ReadBy true (words site.line) (rows kinds.Extended) k) (sym says_new)
            (subst (λ (ws : List (List ℕ)). ReadBy true ws (rows kinds.Extended) (commands.Entry (Some m) entry)) (sym (ap words line_is ∙ r.words ∙ now)) after);
        part = ap (λ (k : Command). groups.part_in c.block k) says_new ∙ sym (ap (λ (k : Command). groups.part_in c.block k) says);
      };
      free = subst (λ (l : List ℕ). ended.IsFree l) (sym line_is) r.free;
      no_return = λ plain_old. subst (λ (l : List ℕ). ended.HasNoReturn l) (sym line_is) (r.no_return plain_old);
    }
