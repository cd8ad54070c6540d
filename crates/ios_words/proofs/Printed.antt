-- A line is read by a row of the language: entries of extended lists.
use Rattle.std.proofs.Common.{◌≡◌, ℕ, ◌+◌, ◌^◌, ◌<◌, Bool, true, false, List, [], ◌∷◌, ◌++◌, take, drop}
use Rattle.std.proofs.Common.{Option, Some, None, Ok, refl, sym, ap, ◌∙◌, arith, codes, decimal, append_assoc, take-append-drop, is_ok}
use Rattle.std.proofs.lemmas.Bool.{cond-true, cond-false}
use Rattle.std.proofs.lemmas.List.Folds.{find-append}
use Rattle.std.specs.List.{find}
use Rattle.std.specs.Option.{option_or, option_map_or}
use Rattle.arc_base.specs.PrefixText.{number_of}
use Rattle.ios_words.specs.declared.commands.Command.{Command}
use Rattle.ios_words.specs.declared.commands.Command.TheVariants.{ListLine, Entry}
use Rattle.ios_words.specs.declared.commands.PacketText.{PacketText}
use Rattle.ios_words.specs.declared.kinds.BlockKind.TheVariants as blocks
use Rattle.ios_words.specs.declared.rows.Form.TheVariants.{ListNumber, Order}
use Rattle.ios_words.specs.Commands.{completes, ReadBy}
use Rattle.ios_words.specs.Forms.{IsOrder}
use Rattle.ios_words.specs.Language.{rows, fixed}
use Rattle.ios_words.specs.declared.rows.Meaning.TheVariants as means
use Rattle.ios_words.specs.Meanings.{give}
use Rattle.ios_words.specs.Numbers.{list_kind}
use Rattle.ios_words.specs.Prefixes.{whole}
use Rattle.ios_words.specs.Printed.{order_words, packet_words, side_words, verdict_word}
use Rattle.ios_words.specs.Readings.{begins_entry, after, match_words, matches, place, then_do, as_source, step, read_parts, finish, read}
use Rattle.ios_words.specs.Rows.{Piece, Word, Verdict, Place, Flag, EntryNumber, Protocol, Source, Destination, Ports, Anything, Rule, row}
use Rattle.ios_words.specs.Services.{IsWritable, protocol_word, port_words}
use Rattle.ios_words.specs.Values.{Values, no_values}
use Rattle.ios_words.proofs.PrintedSides.{side-read}
use Rattle.ios_words.proofs.PrintedSteps.{at, chain, order-step, list_number-step, verdict-step, verdict-begins, number-begins}
use Rattle.ios_words.proofs.PrintedServices.{services_in, first_services, protocol-step, ports-read}

-- a row that matches with every word completes
completes-by : (extended : Bool) (ws : List (List ℕ)) (rule : Rule) (values : Values) → matches ws rule ≡ true → read extended ws rule ≡ Ok values → completes extended ws rule ≡ true
completes-by extended ws rule values match complete = cond-true (matches ws rule) (is_ok (read extended ws rule)) false match ∙ ap is_ok complete

-- a row that does not match does not
pub fails-by : (extended : Bool) (ws : List (List ℕ)) (rule : Rule) → matches ws rule ≡ false → completes extended ws rule ≡ false
fails-by extended ws rule other = cond-false (matches ws rule) (is_ok (read extended ws rule)) false other

-- the words are read by the row after so many that do not complete
pub reads-at : (extended : Bool) (ws : List (List ℕ)) (rules : List Rule) (n : ℕ) (rule : Rule) (after : List Rule) (values : Values) (command : Command) → drop n rules ≡ rule ∷ after →
    find (completes extended ws) (take n rules) ≡ None → matches ws rule ≡ true → read extended ws rule ≡ Ok values → command ≡ give rule.meaning values → ReadBy extended ws rules command
reads-at extended ws rules n rule after values command there none match complete gives =
    let here : find (completes extended ws) (rule ∷ after) ≡ Some rule =
    cond-true (completes extended ws rule) (Some rule) (find (completes extended ws) after) (completes-by extended ws rule values match complete) in
    record {
      rule = rule;
      values = values;
      first = ap (find (completes extended ws)) (sym (take-append-drop n rules)) ∙ find-append (completes extended ws) (take n rules) (drop n rules)
          ∙ ap (λ o. option_or o (find (completes extended ws) (drop n rules))) none ∙ ap (find (completes extended ws)) there ∙ here;
      complete = complete;
      gives = gives;
    }

-- no row of a list completes, where one of them is known not to and the others are
pub none-split : (p : Rule → Bool) (before : List Rule) (rule : Rule) (after : List Rule) → find p before ≡ None → p rule ≡ false → find p after ≡ None → find p (before ++ rule ∷ after) ≡ None
none-split p before rule after none other rest =
    find-append p before (rule ∷ after) ∙ ap (λ o. option_or o (find p (rule ∷ after))) none ∙ cond-false (p rule) (Some rule) (find p after) other ∙ rest

-- the parts of an entry after its verdict's place, and those after its protocol
abbrev entry_parts : List Piece
entry_parts = Verdict ∷ Protocol ∷ Source ∷ Destination ∷ Ports ∷ Flag (codes "log") ∷ []

abbrev side_parts : List Piece
side_parts = Source ∷ Destination ∷ Ports ∷ Flag (codes "log") ∷ []

-- both sides of an entry and its ports, and nothing after them
record SidesRead (e : PacketText) (taken : ℕ) (v : Values) : Type 0 where
  after : ℕ
  addr : ℕ
  len : ℕ
  read : read_parts side_parts (at taken (side_words e.from ++ side_words e.to ++ port_words e.low e.high) (record v { extended = true; services = first_services e }))
      ≡ Ok (at after [] (record v { extended = true; address = addr; length = len; from = e.from; to = e.to; services = services_in e }))

sides-read : (e : PacketText) → IsWritable e → (taken : ℕ) (v : Values) → SidesRead e taken v
sides-read e writable taken v =
    let w = record v { extended = true; services = first_services e } in
    let ports = port_words e.low e.high in
    let words = side_words e.from ++ (side_words e.to ++ ports) in
    let joined : side_words e.from ++ side_words e.to ++ ports ≡ words = append_assoc (side_words e.from) (side_words e.to) ports in
    let first = side-read e.from (side_words e.to ++ ports) taken w in
    let mid = record w { address = first.addr; length = first.len; from = e.from; to = whole } in
    let second = side-read e.to ports first.after mid in
    let last = ports-read e writable second.after (record mid { address = second.addr; length = second.len; to = e.to }) in
    let source : step Source (at taken words w) ≡ Ok (at first.after (side_words e.to ++ ports) mid) = ap (then_do as_source) first.read in
    record {
      after = last.after;
      addr = second.addr;
      len = second.len;
      read = ap (λ ws. read_parts side_parts (at taken ws w)) joined ∙ chain Source (Destination ∷ Ports ∷ Flag (codes "log") ∷ []) (at taken words w) _ source
          ∙ chain Destination (Ports ∷ Flag (codes "log") ∷ []) (at first.after (side_words e.to ++ ports) mid) _ second.read
          ∙ chain Ports (Flag (codes "log") ∷ []) (at second.after ports (record mid { address = second.addr; length = second.len; to = e.to })) _ last.read;
    }

-- permit or deny, the protocol, both sides and the ports
record PacketRead (e : PacketText) (taken : ℕ) (v : Values) : Type 0 where
  addr : ℕ
  len : ℕ
  read : finish (read_parts entry_parts (at taken (packet_words e) (record v { extended = true })))
      ≡ Ok (record v { extended = true; permit = e.permit; address = addr; length = len; from = e.from; to = e.to; services = services_in e })

packet-read : (e : PacketText) → IsWritable e → (taken : ℕ) (v : Values) → PacketRead e taken v
packet-read e writable taken v =
    let rest = side_words e.from ++ side_words e.to ++ port_words e.low e.high in
    let sides = sides-read e writable (taken + 1 + 1) (record v { permit = e.permit }) in
    record {
      addr = sides.addr;
      len = sides.len;
      read = ap finish (chain Verdict (Protocol ∷ side_parts) (at taken (packet_words e) (record v { extended = true })) _
          (verdict-step e.permit taken (protocol_word e.low e.high ∷ rest) (record v { extended = true }))
          ∙ chain Protocol side_parts (at (taken + 1) (protocol_word e.low e.high ∷ rest) (record v { extended = true; permit = e.permit })) _
          (protocol-step e writable (taken + 1) rest (record v { permit = e.permit }))
          ∙ sides.read);
    }

-- the inert row of a packet list's block
abbrev remark : Rule
remark = row (EntryNumber ∷ [] ++ fixed (codes "remark") ++ Anything ∷ []) means.Inert

pub no-remark : (permit : Bool) (rest : List (List ℕ)) → match_words (Word (codes "remark") ∷ Anything ∷ []) (verdict_word permit ∷ rest) ≡ false
no-remark true rest = refl
no-remark false rest = refl

verdict-matches : (permit : Bool) (rest : List (List ℕ)) → match_words entry_parts (verdict_word permit ∷ rest) ≡ true
verdict-matches true rest = refl
verdict-matches false rest = refl

-- an entry of a block
pub entry-read : (order : Option ℕ) (e : PacketText) → IsWritable e → IsOrder 2147483647 order → ReadBy true (order_words order ++ packet_words e) (rows blocks.Extended) (Entry order e)
entry-read None e writable ranged =
    let packet = packet-read e writable 0 (no_values true) in
    let words = packet_words e in
    let begins : begins_entry words ≡ true = verdict-begins e.permit (drop 1 words) in
    let stays : step EntryNumber (at 0 words (no_values true)) ≡ Ok (at 0 words (no_values true)) =
    cond-true (begins_entry words) (Ok (at 0 words (no_values true))) (place (Order 2147483647) (at 0 words (no_values true))) begins in
    let stands : after EntryNumber words ≡ Some words = ap Some (cond-true (begins_entry words) words (drop 1 words) begins) in
    reads-at true words (rows blocks.Extended) 1 _ _ _ (Entry None e) refl
    (none-split (completes true words) [] remark [] refl
    (fails-by true words remark (ap (λ o. option_map_or (match_words (Word (codes "remark") ∷ Anything ∷ [])) o false) stands ∙ no-remark e.permit (drop 1 words))) refl)
    (ap (λ o. option_map_or (match_words entry_parts) o false) stands ∙ verdict-matches e.permit (drop 1 words))
    (ap finish (chain EntryNumber entry_parts (at 0 words (no_values true)) (at 0 words (no_values true)) stays) ∙ packet.read) refl
entry-read (Some n) e writable ranged =
    let small : n < 2 ^ 64 = let most = ranged.1 in omega arith in
    let v = record (no_values true) { order = Some n } in
    let packet = packet-read e writable 1 v in
    let words = decimal n ∷ packet_words e in
    let tail = packet_words e in
    let number : step EntryNumber (at 0 words (no_values true)) ≡ Ok (at 1 tail v) =
    cond-false (begins_entry words) (Ok (at 0 words (no_values true))) (place (Order 2147483647) (at 0 words (no_values true))) (number-begins n tail small)
    ∙ order-step 2147483647 0 n tail (no_values true) ranged.0 ranged.1 small in
    let skip : after EntryNumber words ≡ Some tail = ap Some (cond-false (begins_entry words) words tail (number-begins n tail small)) in
    reads-at true words (rows blocks.Extended) 1 _ _ _ (Entry (Some n) e) refl
    (none-split (completes true words) [] remark [] refl
    (fails-by true words remark (ap (λ o. option_map_or (match_words (Word (codes "remark") ∷ Anything ∷ [])) o false) skip ∙ no-remark e.permit (drop 1 tail))) refl)
    (ap (λ o. option_map_or (match_words entry_parts) o false) skip ∙ verdict-matches e.permit (drop 1 tail))
    (ap finish (chain EntryNumber entry_parts (at 0 words (no_values true)) (at 1 tail v) number) ∙ packet.read) refl

-- an entry of a numbered list, as a line
pub list_line-read : (name : List ℕ) (e : PacketText) → IsWritable e → list_kind (number_of name) ≡ Some true →
    ReadBy false (codes "access-list" ∷ name ∷ packet_words e) (rows blocks.Top) (ListLine name e)
list_line-read name e writable is =
    let v = record (no_values false) { text = name } in
    let tail = packet_words e in
    let words = codes "access-list" ∷ name ∷ packet_words e in
    let packet = packet-read e writable 2 v in
    reads-at false words (rows blocks.Top) 80 _ _ _ (ListLine name e) refl (none-before e.permit (drop 1 tail)) (row-matches e.permit (drop 1 tail))
    (ap finish (chain (Place ListNumber) entry_parts (at 1 (name ∷ tail) (no_values false)) _ (list_number-step 1 name tail (no_values false) is)) ∙ packet.read) refl
  where
    none-before : (permit : Bool) (rest : List (List ℕ)) → find (completes false (codes "access-list" ∷ name ∷ verdict_word permit ∷ rest)) (take 80 (rows blocks.Top)) ≡ None
    none-before true rest = refl
    none-before false rest = refl

    row-matches : (permit : Bool) (rest : List (List ℕ)) → match_words (Word (codes "access-list") ∷ Place ListNumber ∷ entry_parts) (codes "access-list" ∷ name ∷ verdict_word permit ∷ rest) ≡ true
    row-matches true rest = refl
    row-matches false rest = refl
