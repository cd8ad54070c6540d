-- The services of an entry that is read are all, or those of one protocol, or ports of TCP or of UDP: each part of a row leaves them so.
use Rattle.std.proofs.Common.{◌≡◌, ℕ, ◌+◌, ◌*◌, ◌/◌, ◌%◌, ◌≤◌, ◌==◌, ◌&&◌, ◌||◌, not, nat_le, Bool, true, false, cond}
use Rattle.std.proofs.Common.{List, [], ◌∷◌, Option, Some, None, Result, Ok, Err, refl, sym, ap, subst, ◌∙◌, arith, codes, find}
use Rattle.std.proofs.lemmas.Bool.{and_parts, and_from, eq-eqb, eqb-true, le-leb, leb-true}
use Rattle.std.proofs.lemmas.Nat.{div-add-mod', div-mul-add}
use Rattle.std.specs.List.{list_all}
use Rattle.std.specs.Option.{option_map, option_or}
use Rattle.std.specs.Str.{bytes_eq}
use Rattle.arc_base.specs.PrefixText.{number_of}
use Rattle.ios_words.specs.declared.kinds.BlockKind.{BlockKind}
use Rattle.ios_words.specs.declared.kinds.BlockKind.TheVariants as blocks
use Rattle.ios_words.specs.declared.kinds.Flaw.{Flaw}
use Rattle.ios_words.specs.declared.kinds.Flaw.TheVariants.{Amiss}
use Rattle.ios_words.specs.declared.kinds.WordFault.{WordFault}
use Rattle.ios_words.specs.declared.rows.Form.{Form}
use Rattle.ios_words.specs.declared.rows.Form.TheVariants as forms
use Rattle.ios_words.specs.declared.rows.Meaning.{Meaning}
use Rattle.ios_words.specs.declared.rows.Meaning.TheVariants as means
use Rattle.ios_words.specs.declared.services.Services.{Services}
use Rattle.ios_words.specs.Commands.{completes, is_extended_block}
use Rattle.ios_words.specs.Language.{rows}
use Rattle.ios_words.specs.Meanings.{give}
use Rattle.arc_base.specs.NameForms.{is_name}
use Rattle.ios_words.specs.Names.{is_face_name}
use Rattle.ios_words.specs.Numbers.{area_of, is_from, list_kind, mask_length, number_in, ranged, wildcard_length}
use Rattle.arc_base.specs.PrefixText.{address_of}
use Rattle.ios_words.specs.Prefixes.{holding, whole}
use Rattle.ios_words.specs.Readings.{State, after_word, alone, any, as_source, begins, begins_entry, finish, finish_words, next_word, passed}
use Rattle.ios_words.specs.Readings.{permits, place, ports, read, read_parts, side, stands_alone, start, step, then_do, width}
use Rattle.ios_words.specs.Rows.{Anything, Bracket, Destination, EntryNumber, Flag, Piece, Place, Ports, Protocol, Rule, Source, Verdict, Word}
use Rattle.ios_words.specs.ServiceRanges.{all, of_ports, of_protocol, services_of}
use Rattle.ios_words.specs.Services.{are_all_ports, are_writable, has_ports, number_named, port, port_names, port_of, protocol, protocol_names, protocol_of, tcp_ports, udp_ports}
use Rattle.ios_words.specs.Values.{Values, class_prefix, port_in, route_of, tested, values_with, with_ports, with_result, with_value}
use Rattle.ios_words.proofs.PrintedServices.{found-both}
use Rattle.ios_words.proofs.ServicesBetween.{high-between, low-between}
use Rattle.ios_words.specs.Writable.{HasWritable, ReadEntriesAreWritable}

-- the services that were read can be said by one entry
abbrev Are : Services → Type 0
Are s = are_writable s.low s.high ≡ true

abbrev Says : Values → Type 0
Says v = Are v.services

-- what holds of a value that is there
value-says : {A : Type 0} (P : Values → Type 0) (set : A → Values) (o : Option A) (v : Values) → ((a : A) → o ≡ Some a → P (set a)) → with_value set o ≡ Ok v → P v
value-says P set None v h e = absurd cc
value-says P set (Some a) v h e = let same : set a ≡ v = cc in subst P same (h a refl)

result-says : {A : Type 0} (P : Values → Type 0) (set : A → Values) (o : Result A Flaw) (v : Values) → ((a : A) → P (set a)) → with_result set o ≡ Ok v → P v
result-says P set (Err flaw) v h e = absurd cc
result-says P set (Ok a) v h e = let same : set a ≡ v = cc in subst P same (h a)

-- the ends of a range of ports
low-of : (n p q : ℕ) → n ≤ 255 → p ≤ q → q ≤ 65535 → (of_ports n p q).low ≡ n * 65536 + p
low-of n p q few ordered most = low-between (n * 65536 + p) (n * 65536 + q) (omega arith) (omega arith)

high-of : (n p q : ℕ) → n ≤ 255 → q ≤ 65535 → (of_ports n p q).high ≡ n * 65536 + q
high-of n p q few most = high-between (n * 65536 + p) (n * 65536 + q) (omega arith)

protocol-is : (n p : ℕ) → p ≤ 65535 → protocol (n * 65536 + p) ≡ n
protocol-is n p most = div-mul-add n 65536 p (omega arith)

port-is : (n p : ℕ) → p ≤ 65535 → port (n * 65536 + p) ≡ p
port-is n p most =
    let service = n * 65536 + p in
    let parts : service / 65536 * 65536 + service % 65536 ≡ service = div-add-mod' service 65536 in
    let front : service / 65536 * 65536 ≡ n * 65536 = ap (λ m. m * 65536) (protocol-is n p most) in
    omega (arith, parts, front)

or-second : (a b : Bool) → b ≡ true → (a || b) ≡ true
or-second true b is = refl
or-second false b is = is

-- ports of one protocol, all of them or of one that has ports
ports-are : (n p q : ℕ) → 1 ≤ n → n ≤ 255 → p ≤ q → q ≤ 65535 → ((p == 0 && q == 65535) || has_ports n) ≡ true → Are (of_ports n p q)
ports-are n p q some few ordered most either =
    let low = low-of n p q few ordered most in
    let high = high-of n p q few most in
    let low-n : protocol (of_ports n p q).low ≡ n = ap protocol low ∙ protocol-is n p (omega arith) in
    let high-n : protocol (of_ports n p q).high ≡ n = ap protocol high ∙ protocol-is n q most in
    let low-p : port (of_ports n p q).low ≡ p = ap port low ∙ port-is n p (omega arith) in
    let high-q : port (of_ports n p q).high ≡ q = ap port high ∙ port-is n q most in
    let one : (protocol (of_ports n p q).low == protocol (of_ports n p q).high) ≡ true = eq-eqb _ _ (low-n ∙ sym high-n) in
    let least : nat_le 1 (protocol (of_ports n p q).low) ≡ true = ap (nat_le 1) low-n ∙ le-leb 1 n some in
    let greatest : nat_le (protocol (of_ports n p q).low) 255 ≡ true = ap (λ m. nat_le m 255) low-n ∙ le-leb n 255 few in
    let last : (are_all_ports (of_ports n p q).low (of_ports n p q).high || has_ports (protocol (of_ports n p q).low)) ≡ true =
    (λ i. ((low-p i == 0) && (high-q i == 65535)) || has_ports (low-n i)) ∙ either in
    or-second _ _ (and_from _ _ (and_from _ _ (and_from _ _ one least) greatest) last)

all-are : Are all
all-are =
    let low : all.low ≡ 0 = low-between 0 16777215 (omega arith) (omega arith) in
    let high : all.high ≡ 16777215 = high-between 0 16777215 (omega arith) in
    λ i. are_writable (low i) (high i)

-- a number in a range
ranged-in : (low high : ℕ) (o : Option ℕ) (n : ℕ) → ranged low high o ≡ Some n → (low ≤ n) × (n ≤ high)
ranged-in low high None n e = absurd cc
ranged-in low high (Some m) n e = by (is_from low high m) refl e
  where
    by : (b : Bool) → is_from low high m ≡ b → cond b (Some m) None ≡ Some n → (low ≤ n) × (n ≤ high)
    by true is k =
        let parts = and_parts _ _ is in
        let same : m ≡ n = cc in
        subst (λ x. (low ≤ x) × (x ≤ high)) same (leb-true _ _ parts.0, leb-true _ _ parts.1)
    by false is k = absurd cc

abbrev is_inside : ℕ → ℕ → ℕ × List ℕ → Bool
is_inside low high row = nat_le low row.0 && nat_le row.0 high

-- a number beside a name is in the range of the table
named-in : (low high : ℕ) (rows : List (ℕ × List ℕ)) (word : List ℕ) (other : Option ℕ) (n : ℕ) → list_all (is_inside low high) rows ≡ true →
    option_or (number_named rows word) (ranged low high other) ≡ Some n → (low ≤ n) × (n ≤ high)
named-in low high rows word other n inside e = by (find (λ row. bytes_eq word row.1) rows) refl e
  where
    by : (o : Option (ℕ × List ℕ)) → find (λ row. bytes_eq word row.1) rows ≡ o → option_or (option_map (λ row. row.0) o) (ranged low high other) ≡ Some n → (low ≤ n) × (n ≤ high)
    by None is k = ranged-in low high other n k
    by (Some row) is k =
        let parts = and_parts _ _ (found-both (λ row. bytes_eq word row.1) (is_inside low high) rows row is inside).1 in
        let same : row.0 ≡ n = cc in
        subst (λ x. (low ≤ x) × (x ≤ high)) same (leb-true _ _ parts.0, leb-true _ _ parts.1)

port-few : (number : ℕ) (word : List ℕ) (n : ℕ) → port_of number word ≡ Some n → n ≤ 65535
port-few number word n e = (named-in 0 65535 (port_names number) word (number_of word) n (names-few (number == 6) (number == 17)) e).1
  where
    names-few : (b c : Bool) → list_all (is_inside 0 65535) (cond b tcp_ports (cond c udp_ports [])) ≡ true
    names-few true c = refl
    names-few false true = refl
    names-few false false = refl

word-are : (word : List ℕ) (s : Services) → services_of word ≡ Some s → Are s
word-are word s e = by (bytes_eq word (codes "ip")) (protocol_of word) refl e
  where
    by : (b : Bool) (o : Option ℕ) → protocol_of word ≡ o → cond b (Some all) (option_map of_protocol o) ≡ Some s → Are s
    by true o is k = let same : all ≡ s = cc in subst Are same all-are
    by false None is k = absurd cc
    by false (Some n) is k =
        let range = named-in 1 255 protocol_names word (number_of word) n refl is in
        let same : of_protocol n ≡ s = cc in
        subst Are same (ports-are n 0 65535 range.0 range.1 (omega arith) (omega arith) refl)

-- which forms leave the services
abbrev leaves : Form → Bool
leaves forms.Protocol = false
leaves forms.Port = false
leaves forms.FirstPort = false
leaves forms.LastPort = false
leaves _ = true

form-says : (form : Form) (v u : Values) (w : List ℕ) → leaves form ≡ true → Says v → values_with form v w ≡ Ok u → Says u
form-says forms.Name v u w is h e = value-says Says (λ t. record v { text = t }) (tested (is_name w) w) u (λ t at. h) e
form-says forms.FaceName v u w is h e = value-says Says (λ t. record v { text = t }) (tested (is_face_name w) w) u (λ t at. h) e
form-says (forms.Number low high) v u w is h e = value-says Says (λ n. record v { number = n }) (number_in low high w) u (λ n at. h) e
form-says forms.Address v u w is h e = value-says Says (λ a. record v { address = a }) (address_of w) u (λ a at. h) e
form-says forms.Host v u w is h e = value-says Says (λ a. record v { address = a; to = holding a 32 }) (address_of w) u (λ a at. h) e
form-says forms.Network v u w is h e = value-says Says (λ p. record v { to = p }) (class_prefix (address_of w)) u (λ p at. h) e
form-says (forms.Mask least) v u w is h e = result-says Says (λ l. record v { length = l; to = holding v.address l }) (mask_length least w) u (λ l. h) e
form-says forms.Wildcard v u w is h e = result-says Says (λ l. record v { length = l; to = holding v.address l }) (wildcard_length w) u (λ l. h) e
form-says forms.Area v u w is h e = value-says Says (λ a. record v { area = a }) (area_of w) u (λ a at. h) e
form-says forms.ListNumber v u w is h e = value-says Says (λ x. record v { text = w; extended = x }) (list_kind (number_of w)) u (λ x at. h) e
form-says (forms.Order high) v u w is h e = value-says Says (λ n. record v { order = Some n }) (number_in 1 high w) u (λ n at. h) e
form-says forms.Route v u w is h e = value-says Says (λ r. record v { to = holding r.0 r.1; low = r.1; high = r.1 }) (route_of w) u (λ r at. h) e
form-says forms.AtLeast v u w is h e = value-says Says (λ n. record v { low = n; high = 32 }) (number_in v.to.len 32 w) u (λ n at. h) e
form-says forms.AtMost v u w is h e = value-says Says (λ n. record v { high = n }) (number_in v.low 32 w) u (λ n at. h) e
form-says _ v u w is h e = absurd cc

-- what holds after the next word, and either way
after-says : (P : Values → Type 0) (taken : ℕ) (words : List (List ℕ)) (r : Result Values Flaw) (t : State) → ((v : Values) → r ≡ Ok v → P v) → after_word taken words r ≡ Ok t → P t.values
after-says P taken words (Ok v) t h e = let same : record { taken = taken; words = words; values = v } ≡ t = cc in subst (λ (x : State). P x.values) same (h v refl)
after-says P taken words (Err flaw) t h e = absurd cc

next-says : (P : Values → Type 0) (given : List ℕ → Result Values Flaw) (taken : ℕ) (words : List (List ℕ)) (t : State) →
    ((w : List ℕ) (v : Values) → given w ≡ Ok v → P v) → next_word given taken words ≡ Ok t → P t.values
next-says P given taken [] t h e = absurd cc
next-says P given taken (w ∷ words) t h e = after-says P (taken + 1) words (given w) t (h w) e

if-values : (b : Bool) (x y : Result Values Flaw) (v : Values) → (x ≡ Ok v → Says v) → (y ≡ Ok v → Says v) → cond b x y ≡ Ok v → Says v
if-values true x y v p q e = p e
if-values false x y v p q e = q e

if-states : (b : Bool) (x y : Result State WordFault) (t : State) → (b ≡ true → x ≡ Ok t → Says t.values) → (y ≡ Ok t → Says t.values) → cond b x y ≡ Ok t → Says t.values
if-states true x y t p q e = p refl e
if-states false x y t p q e = q e

ok-values : (a v : Values) → Says a → ◌≡◌ {A = Result Values Flaw} (Ok a) (Ok v) → Says v
ok-values a v h e = let same : a ≡ v = cc in subst Says same h

ok-state : (a t : State) → Says a.values → ◌≡◌ {A = Result State WordFault} (Ok a) (Ok t) → Says t.values
ok-state a t h e = let same : a ≡ t = cc in subst (λ (x : State). Says x.values) same h

no-values : (v : Values) → ◌≡◌ {A = Result Values Flaw} (Err Amiss) (Ok v) → Says v
no-values v e = absurd cc

then-says : (P : State → Type 0) (next : State → Result State WordFault) (r : Result State WordFault) (t : State) → ((s : State) → r ≡ Ok s → next s ≡ Ok t → P t) → then_do next r ≡ Ok t → P t
then-says P next (Ok s) t h e = h s refl e
then-says P next (Err fault) t h e = absurd cc

place-says : (form : Form) (s t : State) → leaves form ≡ true → Says s.values → place form s ≡ Ok t → Says t.values
place-says form s t is h e = next-says Says (values_with form s.values) s.taken s.words t (λ w v. form-says form s.values v w is h) e

side-says : (extended : Bool) (s t : State) → Says s.values → side extended s ≡ Ok t → Says t.values
side-says extended s t h e = if-states (begins (codes "any") s.words) _ _ t (λ is. ok-state (any s) t h)
    (if-states (begins (codes "host") s.words) _ _ t (λ is. place-says forms.Host (passed s) t refl h)
    (then-says (λ x. Says x.values) (width extended) (place forms.Address s) t
    (λ m at. if-states (not extended && stands_alone m.words) _ _ t (λ is. ok-state (alone m) t (place-says forms.Address s m refl h at))
    (place-says forms.Wildcard m t refl (place-says forms.Address s m refl h at))))) e

-- a protocol that has ports is one
has-range : (n : ℕ) → has_ports n ≡ true → (1 ≤ n) × (n ≤ 255)
has-range n has = by (n == 6) (n == 17) refl refl has
  where
    by : (b c : Bool) → (n == 6) ≡ b → (n == 17) ≡ c → (b || c) ≡ true → (1 ≤ n) × (n ≤ 255)
    by true c one other is = let same : n ≡ 6 = eqb-true _ _ one in (omega (arith, same), omega (arith, same))
    by false true other one is = let same : n ≡ 17 = eqb-true _ _ one in (omega (arith, same), omega (arith, same))
    by false false one other is = absurd cc

some-are : (n p q : ℕ) → has_ports n ≡ true → p ≤ q → q ≤ 65535 → Are (of_ports n p q)
some-are n p q has ordered most = let range = has-range n has in ports-are n p q range.0 range.1 ordered most (or-second _ _ has)

-- the first of some ports: the protocol stays
first-has : (s t : State) → has_ports (protocol s.values.services.low) ≡ true → place forms.FirstPort s ≡ Ok t → has_ports (protocol t.values.services.low) ≡ true
first-has s t has e = next-says (λ x. has_ports (protocol x.services.low) ≡ true) (values_with forms.FirstPort s.values) s.taken s.words t
    (λ w v. value-says (λ x. has_ports (protocol x.services.low) ≡ true) (λ n. with_ports s.values n 65535) (port_in s.values w) v
    (λ p at.
    let most = port-few (protocol s.values.services.low) w p at in
    let n = protocol s.values.services.low in
    ap has_ports (ap protocol (low-of n p 65535 (has-range n has).1 most (omega arith)) ∙ protocol-is n p most) ∙ has)) e

one-says : (s t : State) → has_ports (protocol s.values.services.low) ≡ true → place forms.Port s ≡ Ok t → Says t.values
one-says s t has e = next-says Says (values_with forms.Port s.values) s.taken s.words t
    (λ w v. value-says Says (λ n. with_ports s.values n n) (port_in s.values w) v
    (λ p at. some-are (protocol s.values.services.low) p p has (omega arith) (port-few (protocol s.values.services.low) w p at))) e

last-says : (s t : State) → has_ports (protocol s.values.services.low) ≡ true → place forms.LastPort s ≡ Ok t → Says t.values
last-says s t has e = next-says Says (values_with forms.LastPort s.values) s.taken s.words t
    (λ w v. value-says Says (λ n. with_ports s.values (port s.values.services.low) n) (ranged (port s.values.services.low) 65535 (port_in s.values w)) v
    (λ q at. let range = ranged-in (port s.values.services.low) 65535 (port_in s.values w) q at in some-are (protocol s.values.services.low) (port s.values.services.low) q has range.0 range.1)) e

ports-says : (s t : State) → has_ports (protocol s.values.services.low) ≡ true → Says s.values → ports s ≡ Ok t → Says t.values
ports-says s t has h e = if-states (begins (codes "eq") s.words) _ _ t (λ is. one-says (passed s) t has)
    (if-states (begins (codes "range") s.words) _ _ t
    (λ is. then-says (λ x. Says x.values) (place forms.LastPort) (place forms.FirstPort (passed s)) t (λ m at. last-says m t (first-has (passed s) m has at)))
    (ok-state s t h)) e

-- the parts of rows ask for no port by itself
abbrev keeps : Piece → Bool
keeps (Place form) = leaves form
keeps (Bracket word form) = leaves form
keeps _ = true

step-says : (piece : Piece) (s t : State) → keeps piece ≡ true → Says s.values → step piece s ≡ Ok t → Says t.values
step-says (Word word) s t is h e = next-says Says (λ w. cond (bytes_eq w word) (Ok s.values) (Err Amiss)) s.taken s.words t
    (λ w v. if-values (bytes_eq w word) _ _ v (ok-values s.values v h) (no-values v)) e
step-says Verdict s t is h e = next-says Says (permits s.values) s.taken s.words t
    (λ w v. if-values (bytes_eq w (codes "permit")) _ _ v (ok-values (record s.values { permit = true }) v h)
    (if-values (bytes_eq w (codes "deny")) _ _ v (ok-values (record s.values { permit = false }) v h) (no-values v))) e
step-says (Place form) s t is h e = place-says form s t is h e
step-says (Bracket word form) s t is h e = if-states (begins word s.words) _ _ t (λ at. place-says form (passed s) t is h) (ok-state s t h) e
step-says (Flag word) s t is h e = if-states (begins word s.words) _ _ t (λ at. ok-state (passed s) t h) (ok-state s t h) e
step-says EntryNumber s t is h e = if-states (begins_entry s.words) _ _ t (λ at. ok-state s t h) (place-says (forms.Order 2147483647) s t refl h) e
step-says Protocol s t is h e = if-states s.values.extended _ _ t
    (λ at. next-says Says (values_with forms.Protocol s.values) s.taken s.words t (λ w v. value-says Says (λ r. record s.values { services = r }) (services_of w) v (λ r found. word-are w r found)))
    (ok-state s t h) e
step-says Source s t is h e = then-says (λ x. Says x.values) as_source (side s.values.extended s) t
    (λ m at. ok-state (record m { values = record m.values { from = m.values.to; to = whole } }) t (side-says s.values.extended s m h at)) e
step-says Destination s t is h e = if-states s.values.extended _ _ t (λ at. side-says true s t h) (ok-state s t h) e
step-says Ports s t is h e = if-states (has_ports (protocol s.values.services.low)) _ _ t (λ has. ports-says s t has h) (ok-state s t h) e
step-says Anything s t is h e = ok-state (record s { words = [] }) t h e

parts-say : (pieces : List Piece) (s t : State) → list_all keeps pieces ≡ true → Says s.values → read_parts pieces s ≡ Ok t → Says t.values
parts-say [] s t every h e = ok-state s t h e
parts-say (piece ∷ pieces) s t every h e =
    let parts = and_parts _ _ every in
    then-says (λ x. Says x.values) (read_parts pieces) (step piece s) t (λ m at. parts-say pieces m t parts.1 (step-says piece s m parts.0 h at)) e

read-says : (extended : Bool) (ws : List (List ℕ)) (rule : Rule) (v : Values) → list_all keeps rule.pieces ≡ true → read extended ws rule ≡ Ok v → Says v
read-says extended ws rule v every e = by (read_parts rule.pieces (start extended ws)) refl e
  where
    end : (s : State) (words : List (List ℕ)) → Says s.values → finish_words s words ≡ Ok v → Says v
    end s [] h k = let same : s.values ≡ v = cc in subst Says same h
    end s (w ∷ words) h k = absurd cc

    by : (r : Result State WordFault) → read_parts rule.pieces (start extended ws) ≡ r → finish r ≡ Ok v → Says v
    by (Ok s) is k = end s s.words (parts-say rule.pieces (start extended ws) s every all-are is) k
    by (Err fault) is k = absurd cc

abbrev rule_keeps : Rule → Bool
rule_keeps rule = list_all keeps rule.pieces

all-keep : (within : BlockKind) → list_all rule_keeps (rows within) ≡ true
all-keep blocks.Top = refl
all-keep blocks.Interface = refl
all-keep blocks.Ospf = refl
all-keep blocks.Bgp = refl
all-keep blocks.Extended = refl
all-keep blocks.Standard = refl
all-keep blocks.Inert = refl

found-keeps : (p q : Rule → Bool) (rs : List Rule) (r : Rule) → find p rs ≡ Some r → list_all q rs ≡ true → q r ≡ true
found-keeps p q rs r is every = (found-both p q rs r is every).1

given : (meaning : Meaning) (v : Values) → Says v → HasWritable (give meaning v)
given means.Entry v h = h
given means.ListLine v h = h
given _ v h = tt

pub entries-writable : ReadEntriesAreWritable
entries-writable within ws command reads =
    let keeps-rule : rule_keeps reads.rule ≡ true = found-keeps (completes (is_extended_block within) ws) rule_keeps (rows within) reads.rule reads.first (all-keep within) in
    subst HasWritable (sym reads.gives) (given reads.rule.meaning reads.values (read-says (is_extended_block within) ws reads.rule reads.values keeps-rule reads.complete))
