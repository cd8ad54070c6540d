-- The plain lines of lists are read as what they say.
use Rattle.std.proofs.Common.{◌≡◌, ℕ, ◌+◌, ◌^◌, ◌<◌, ◌≤◌, ◌==◌, Bool, true, false, cond, List, [], ◌∷◌, ◌++◌, take, drop, Option, Some, None, Ok, refl, sym, ap, ◌∙◌, arith, codes, decimal, append-nil}
use Rattle.std.proofs.lemmas.Bool.{cond-false, eqb-true}
use Rattle.std.specs.List.{find}
use Rattle.std.specs.Option.{option_map_or}
use Rattle.std.specs.Str.{bytes_eq}
use Rattle.arc_base.specs.declared.prefix.Prefix.{Prefix}
use Rattle.arc_base.specs.PrefixText.{number_of, prefix_text}
use Rattle.ios_words.specs.declared.commands.Command.TheVariants.{Entry, ListLine, PrefixLine}
use Rattle.ios_words.specs.declared.commands.PacketText.{PacketText}
use Rattle.ios_words.specs.declared.commands.RouteText.{RouteText}
use Rattle.ios_words.specs.declared.kinds.BlockKind.TheVariants as blocks
use Rattle.ios_words.specs.Commands.{ReadBy, completes}
use Rattle.ios_words.specs.Forms.{AreLengths, IsOrder}
use Rattle.ios_words.specs.Language.{inert, rows}
use Rattle.arc_base.specs.NameForms.{is_name}
use Rattle.ios_words.specs.Numbers.{list_kind}
use Rattle.ios_words.specs.Prefixes.{whole}
use Rattle.ios_words.specs.Printed.{length_words, most_words, order_words, route_words, sequence_words, side_words, verdict_word}
use Rattle.ios_words.specs.Readings.{after, as_source, begins_entry, finish, match_words, matches, ports, read_parts, side, step, then_do}
use Rattle.ios_words.specs.Rows.{Anything, Destination, EntryNumber, Flag, Piece, Ports, Protocol, Rule, Source, Verdict, Word}
use Rattle.ios_words.specs.ServiceRanges.{all}
use Rattle.ios_words.specs.Services.{has_ports, protocol}
use Rattle.ios_words.specs.Values.{Values, no_values}
use Rattle.ios_words.proofs.Printed.{fails-by, no-remark, none-split, reads-at}
use Rattle.ios_words.proofs.PrintedSteps.{at, chain, name-step, number-begins, order-step, route-step, verdict-step}
use Rattle.ios_words.proofs.PrintedSides.{standard-side}
use Rattle.ios_words.proofs.PlainSteps.{go, if-no, kind-step, least-step, most-step, parts_after, rule_at}

-- permit or deny, and where packets come from
abbrev standard_words : Bool → Prefix → List (List ℕ)
standard_words permit from = verdict_word permit ∷ side_words from

-- the entry that they say
abbrev pub standard_text : Bool → Prefix → PacketText
standard_text permit from = record { permit = permit; from = from; to = whole; low = all.low; high = all.high; ordered = all.ordered; in_range = all.in_range }

-- no words of ports stand at the end
no-ports : (taken : ℕ) (v : Values) → step Ports (at taken [] v) ≡ Ok (at taken [] v)
no-ports taken v = by (has_ports (protocol v.services.low))
  where
    by : (b : Bool) → cond b (ports (at taken [] v)) (Ok (at taken [] v)) ≡ Ok (at taken [] v)
    by true = refl
    by false = refl

-- what follows them: what they say is known, and nothing else that counts
record StandardRead (permit : Bool) (from : Prefix) (taken : ℕ) (v : Values) : Type 0 where
  addr : ℕ
  len : ℕ
  read : finish (read_parts (Verdict ∷ Source ∷ Flag (codes "log") ∷ []) (at taken (standard_words permit from) (record v { extended = false }))) ≡ Ok
      (record v { extended = false; permit = permit; address = addr; length = len; from = from; to = whole })

source-read : (permit : Bool) (from : Prefix) (taken : ℕ) (v : Values) → StandardRead permit from taken v
source-read permit from taken v =
    let w = record v { extended = false; permit = permit } in
    let first = standard-side from [] (taken + 1) w in
    let source : step Source (at (taken + 1) (side_words from) w) ≡ Ok (at first.after [] (record w { address = first.addr; length = first.len; from = from; to = whole })) =
    ap (λ ws. then_do as_source (side false (at (taken + 1) ws w))) (sym (append-nil (side_words from))) ∙ ap (then_do as_source) first.read in
    record {
      addr = first.addr;
      len = first.len;
      read = ap finish (chain Verdict (Source ∷ Flag (codes "log") ∷ []) (at taken (standard_words permit from) (record v { extended = false })) _
          (verdict-step permit taken (side_words from) (record v { extended = false }))
          ∙ chain Source (Flag (codes "log") ∷ []) (at (taken + 1) (side_words from) w) _ source);
    }

-- the inert row of a packet list's block, and one of prefix lists
abbrev remark : Rule
remark = rule_at blocks.Standard 0

abbrev sequence_number : Rule
sequence_number = inert (codes "ip prefix-list sequence-number")

-- an entry of a standard list's block
pub standard-read : (order : Option ℕ) (permit : Bool) (from : Prefix) → IsOrder 2147483647 order →
    ReadBy false (order_words order ++ standard_words permit from) (rows blocks.Standard) (Entry order (standard_text permit from))
standard-read None true from ranged =
    let said = source-read true from 0 (no_values false) in
    reads-at false (standard_words true from) (rows blocks.Standard) 1 _ _ _ (Entry None (standard_text true from)) refl refl refl said.read refl
standard-read None false from ranged =
    let said = source-read false from 0 (no_values false) in
    reads-at false (standard_words false from) (rows blocks.Standard) 1 _ _ _ (Entry None (standard_text false from)) refl refl refl said.read refl
standard-read (Some n) permit from ranged =
    let small : n < 2 ^ 64 = let most = ranged.1 in omega arith in
    let v = record (no_values false) { order = Some n } in
    let said = source-read permit from 1 v in
    let tail = standard_words permit from in
    let words = decimal n ∷ tail in
    let number : step EntryNumber (at 0 words (no_values false)) ≡ Ok (at 1 tail v) =
    if-no (begins_entry words) (Ok (at 0 words (no_values false))) _ _ (number-begins n tail small) (order-step 2147483647 0 n tail (no_values false) ranged.0 ranged.1 small) in
    let skip : after EntryNumber words ≡ Some tail = ap Some (cond-false (begins_entry words) words tail (number-begins n tail small)) in
    reads-at false words (rows blocks.Standard) 1 _ _ _ (Entry (Some n) (standard_text permit from)) refl
    (none-split (completes false words) [] remark [] refl
    (fails-by false words remark (ap (λ o. option_map_or (match_words (Word (codes "remark") ∷ Anything ∷ [])) o false) skip ∙ no-remark permit (side_words from))) refl)
    (ap (λ o. option_map_or (match_words (Verdict ∷ Source ∷ Flag (codes "log") ∷ [])) o false) skip ∙ verdict-there permit (side_words from))
    (ap finish (chain EntryNumber (Verdict ∷ Source ∷ Flag (codes "log") ∷ []) (at 0 words (no_values false)) (at 1 tail v) number) ∙ said.read) refl
  where
    verdict-there : (permit : Bool) (rest : List (List ℕ)) → match_words (Verdict ∷ Source ∷ Flag (codes "log") ∷ []) (verdict_word permit ∷ rest) ≡ true
    verdict-there true rest = refl
    verdict-there false rest = refl

-- an entry of a standard list, as a line
abbrev list_parts : List Piece
list_parts = Verdict ∷ Protocol ∷ Source ∷ Destination ∷ Ports ∷ Flag (codes "log") ∷ []

line-parts : (name : List ℕ) (permit : Bool) (from : Prefix) → list_kind (number_of name) ≡ Some false →
    (addr : ℕ) × (len : ℕ) × (finish (read_parts (parts_after blocks.Top 80 1) (at 1 (name ∷ standard_words permit from) (no_values false))) ≡ Ok
    (record (no_values false) { text = name; permit = permit; address = addr; length = len; from = from; to = whole }))
line-parts name permit from is =
    let v = record (no_values false) { text = name } in
    let w = record v { permit = permit } in
    let first = standard-side from [] 3 w in
    let last = at first.after [] (record w { address = first.addr; length = first.len; from = from; to = whole }) in
    let source : step Source (at 3 (side_words from) w) ≡ Ok last =
    ap (λ ws. then_do as_source (side false (at 3 ws w))) (sym (append-nil (side_words from))) ∙ ap (then_do as_source) first.read in (
      first.addr,
      first.len,
      ap finish (go list_parts (kind-step 1 name false (standard_words permit from) (no_values false) is)
          ∙ chain Verdict (Protocol ∷ Source ∷ Destination ∷ Ports ∷ Flag (codes "log") ∷ []) (at 2 (standard_words permit from) v) (at 3 (side_words from) w)
          (verdict-step permit 2 (side_words from) v)
          ∙ chain Source (Destination ∷ Ports ∷ Flag (codes "log") ∷ []) (at 3 (side_words from) w) last source
          ∙ chain Ports (Flag (codes "log") ∷ []) last last (no-ports first.after last.values)),
    )

pub list-line-read : (name : List ℕ) (permit : Bool) (from : Prefix) → list_kind (number_of name) ≡ Some false →
    ReadBy false (codes "access-list" ∷ name ∷ standard_words permit from) (rows blocks.Top) (ListLine name (standard_text permit from))
list-line-read name true from is =
    let (addr, len, read) = line-parts name true from is in
    reads-at false (codes "access-list" ∷ name ∷ standard_words true from) (rows blocks.Top) 80 _ _ _ (ListLine name (standard_text true from)) refl refl refl read refl
list-line-read name false from is =
    let (addr, len, read) = line-parts name false from is in
    reads-at false (codes "access-list" ∷ name ∷ standard_words false from) (rows blocks.Top) 80 _ _ _ (ListLine name (standard_text false from)) refl refl refl read refl

-- the words of a prefix list's line are not those of the inert one
no-sequence : (name : List ℕ) (rest : List (List ℕ)) → bytes_eq name (codes "sequence-number") ≡ false → matches (codes "ip" ∷ codes "prefix-list" ∷ name ∷ rest) sequence_number ≡ false
no-sequence name rest other = ap (λ b. option_map_or (match_words (Anything ∷ [])) (cond b (Some rest) None) false) other

-- the parts after a prefix list's name, without a number; those of its lengths, and of the greatest
abbrev route_parts : List Piece
route_parts = parts_after blocks.Top 81 4

abbrev length_parts : List Piece
length_parts = parts_after blocks.Top 81 6

abbrev most_parts : List Piece
most_parts = parts_after blocks.Top 81 7

-- the greatest length is the one that is meant without it, or it is written
most-read : (meant high taken : ℕ) (v : Values) → v.low ≤ high → high ≤ 32 →
    finish (read_parts most_parts (at taken (most_words meant high) (record v { high = meant }))) ≡ Ok (record v { high = high })
most-read meant high taken v ordered most = by (high == meant) refl
  where
    by : (b : Bool) → (high == meant) ≡ b → finish (read_parts most_parts (at taken (cond b [] (codes "le" ∷ decimal high ∷ [])) (record v { high = meant }))) ≡ Ok (record v { high = high })
    by true same = ap (λ (n : ℕ). Ok (record v { high = n })) (sym (eqb-true high meant same))
    by false other = ap finish (go [] (most-step taken high [] (record v { high = meant }) ordered most))

no-least : (meant high taken : ℕ) (v : Values) → read_parts length_parts (at taken (most_words meant high) v) ≡ read_parts most_parts (at taken (most_words meant high) v)
no-least meant high taken v = by (high == meant)
  where
    by : (b : Bool) → read_parts length_parts (at taken (cond b [] (codes "le" ∷ decimal high ∷ [])) v) ≡ read_parts most_parts (at taken (cond b [] (codes "le" ∷ decimal high ∷ [])) v)
    by true = refl
    by false = refl

lengths-read : (p : Prefix) (low high taken : ℕ) (v : Values) → AreLengths p low high →
    finish (read_parts length_parts (at taken (length_words p.len low high) (record v { to = p; low = p.len; high = p.len }))) ≡ Ok (record v { to = p; low = low; high = high })
lengths-read p low high taken v lengths = by (low == p.len) refl
  where
    by : (b : Bool) → (low == p.len) ≡ b →
        finish (read_parts length_parts
        (at taken (cond b (most_words p.len high) (codes "ge" ∷ decimal low ∷ most_words 32 high)) (record v { to = p; low = p.len; high = p.len }))) ≡ Ok
        (record v { to = p; low = low; high = high })
    by true e =
        let same : low ≡ p.len = eqb-true low p.len e in
        let ordered = lengths.ordered in
        let w = record v { to = p; low = p.len; high = p.len } in
        ap finish (no-least p.len high taken w) ∙ most-read p.len high taken w (omega (arith, ordered, same)) lengths.most
        ∙ ap (λ (n : ℕ). Ok (record v { to = p; low = n; high = high })) (sym same)
    by false e =
        let ordered = lengths.ordered in let most = lengths.most in
        let w = record v { to = p; low = p.len; high = p.len } in
        ap finish (go most_parts (least-step taken low (most_words 32 high) w lengths.least (omega (arith, ordered, most))))
        ∙ most-read 32 high (taken + 1 + 1) (record w { low = low }) ordered most

route-read : (e : RouteText) (taken : ℕ) (v : Values) → AreLengths e.prefix e.low e.high →
    finish (read_parts route_parts (at taken (route_words e) v)) ≡ Ok (record v { permit = e.permit; to = e.prefix; low = e.low; high = e.high })
route-read e taken v lengths =
    let lasts = length_words e.prefix.len e.low e.high in
    let u = record v { permit = e.permit } in
    ap finish (go (parts_after blocks.Top 81 5) (verdict-step e.permit taken (prefix_text e.prefix ∷ lasts) v) ∙ go length_parts (route-step e.prefix (taken + 1) lasts u))
    ∙ lengths-read e.prefix e.low e.high (taken + 1 + 1) u lengths

-- they match the rest of their row
lengths-match : (len low high : ℕ) (word : List ℕ) → match_words (parts_after blocks.Top 81 5) (word ∷ length_words len low high) ≡ true
lengths-match len low high word = by (low == len) (high == len) (high == 32)
  where
    by : (a b c : Bool) →
        match_words (parts_after blocks.Top 81 5) (word ∷ cond a (cond b [] (codes "le" ∷ decimal high ∷ [])) (codes "ge" ∷ decimal low ∷ cond c [] (codes "le" ∷ decimal high ∷ []))) ≡ true
    by true true c = refl
    by true false c = refl
    by false b true = refl
    by false b false = refl

abbrev prefix_row : List Piece
prefix_row = parts_after blocks.Top 81 2

-- no number stands before permit or deny
no-seq : (permit : Bool) (taken : ℕ) (rest : List (List ℕ)) (v : Values) →
    read_parts (parts_after blocks.Top 81 3) (at taken (verdict_word permit ∷ rest) v) ≡ read_parts route_parts (at taken (verdict_word permit ∷ rest) v)
no-seq true taken rest v = refl
no-seq false taken rest v = refl

matches-alone : (name : List ℕ) (permit : Bool) (rest : List (List ℕ)) → match_words prefix_row (name ∷ verdict_word permit ∷ rest) ≡ match_words (parts_after blocks.Top 81 5) rest
matches-alone name true rest = refl
matches-alone name false rest = refl

matches-after : (name number : List ℕ) (permit : Bool) (rest : List (List ℕ)) →
    match_words prefix_row (name ∷ codes "seq" ∷ number ∷ verdict_word permit ∷ rest) ≡ match_words (parts_after blocks.Top 81 5) rest
matches-after name number true rest = refl
matches-after name number false rest = refl

-- the rows before that of prefix lists do not complete
none-before : (words : List (List ℕ)) → find (completes false words) (take 61 (rows blocks.Top)) ≡ None → matches words sequence_number ≡ false →
    find (completes false words) (take 19 (drop 62 (rows blocks.Top))) ≡ None →
    find (completes false words) (take 81 (rows blocks.Top)) ≡ None
none-before words before other rest = none-split (completes false words) (take 61 (rows blocks.Top)) sequence_number (take 19 (drop 62 (rows blocks.Top))) before
    (fails-by false words sequence_number other) rest

pub prefix-line-read : (name : List ℕ) (order : Option ℕ) (e : RouteText) → is_name name ≡ true → bytes_eq name (codes "sequence-number") ≡ false →
    IsOrder 4294967294 order → AreLengths e.prefix e.low e.high →
    ReadBy false (codes "ip" ∷ codes "prefix-list" ∷ name ∷ sequence_words order ++ route_words e) (rows blocks.Top) (PrefixLine name order e)
prefix-line-read name None e is other ranged lengths =
    let tail = route_words e in
    let words = codes "ip" ∷ codes "prefix-list" ∷ name ∷ tail in
    let v = record (no_values false) { text = name } in
    let rest = prefix_text e.prefix ∷ length_words e.prefix.len e.low e.high in
    let matched = lengths-match e.prefix.len e.low e.high (prefix_text e.prefix) in
    let before = before-alone name e.permit rest in
    reads-at false words (rows blocks.Top) 81 _ _ _ (PrefixLine name None e) refl
    (none-before words before.0 (no-sequence name tail other) before.1) (matches-alone name e.permit rest ∙ matched)
    (ap finish (go (parts_after blocks.Top 81 3) (name-step 2 name tail (no_values false) is)
    ∙ no-seq e.permit 3 rest v)
    ∙ route-read e 3 v lengths) refl
  where
    before-alone : (name : List ℕ) (permit : Bool) (rest : List (List ℕ)) →
        (find (completes false (codes "ip" ∷ codes "prefix-list" ∷ name ∷ verdict_word permit ∷ rest)) (take 61 (rows blocks.Top)) ≡ None)
        × (find (completes false (codes "ip" ∷ codes "prefix-list" ∷ name ∷ verdict_word permit ∷ rest)) (take 19 (drop 62 (rows blocks.Top))) ≡ None)
    before-alone name true rest = (refl, refl)
    before-alone name false rest = (refl, refl)
prefix-line-read name (Some n) e is other ranged lengths =
    let small : n < 2 ^ 64 = let most = ranged.1 in omega arith in
    let last = route_words e in
    let tail = codes "seq" ∷ decimal n ∷ last in
    let words = codes "ip" ∷ codes "prefix-list" ∷ name ∷ tail in
    let v = record (no_values false) { text = name } in
    let rest = prefix_text e.prefix ∷ length_words e.prefix.len e.low e.high in
    let matched = lengths-match e.prefix.len e.low e.high (prefix_text e.prefix) in
    reads-at false words (rows blocks.Top) 81 _ _ _ (PrefixLine name (Some n) e) refl
    (none-before words refl (no-sequence name tail other) refl) (matches-after name (decimal n) e.permit rest ∙ matched)
    (ap finish (go (parts_after blocks.Top 81 3) (name-step 2 name tail (no_values false) is)
    ∙ go route_parts (order-step 4294967294 4 n last v ranged.0 ranged.1 small))
    ∙ route-read e 5 (record v { order = Some n }) lengths) refl
