-- The parts of a row that read no number of an entry read the same whatever the number is, and those that read no name whatever the name is.
use Rattle.std.proofs.Common.{◌≡◌, ℕ, ◌+◌, ◌&&◌, not, Bool, true, false, cond, List, [], ◌∷◌, Option, Some, None, Result, Ok, Err, refl, sym, ap, ◌∙◌, codes}
use Rattle.std.proofs.lemmas.Bool.{and_parts, false≢true}
use Rattle.std.specs.List.{list_all}
use Rattle.std.specs.Str.{bytes_eq}
use Rattle.ios_words.specs.declared.kinds.Flaw.{Flaw}
use Rattle.ios_words.specs.declared.kinds.Flaw.TheVariants.{Amiss}
use Rattle.ios_words.specs.declared.kinds.WordFault.{WordFault}
use Rattle.ios_words.specs.declared.rows.Form.TheVariants.{Address, Host, Wildcard, Route, AtLeast, AtMost, Order, Port, FirstPort, LastPort}
use Rattle.ios_words.specs.declared.rows.Form.TheVariants as forms
use Rattle.arc_base.specs.PrefixText.{address_of}
use Rattle.ios_words.specs.Numbers.{ranged, number_in, wildcard_length}
use Rattle.ios_words.specs.Prefixes.{holding}
use Rattle.ios_words.specs.Readings.{State, begins, after_word, next_word, place, this_word, permits, verdict, passed, then_do}
use Rattle.ios_words.specs.Readings.{stands_alone, alone, any, width, side, as_source, ports, step, read_parts, finish_words, finish}
use Rattle.ios_words.specs.Rows.{Piece, Word, Verdict, Place, Bracket, Flag, Protocol, Source, Destination, Ports}
use Rattle.ios_words.specs.ServiceRanges.{services_of}
use Rattle.ios_words.specs.Services.{protocol, port, has_ports}
use Rattle.ios_words.specs.Values.{Values, with_value, with_result, port_in, with_ports, route_of, values_with}

-- a change of the number of an entry and of a name, and whether it leaves the numbers that are read
pub record Change : Type 0 where
  pub order : Option ℕ → Option ℕ
  pub text : List ℕ → List ℕ
  pub leaves : Bool
  pub left : leaves ≡ true → (n : ℕ) → order (Some n) ≡ Some n

-- the number is this one
abbrev pub to_order : Option ℕ → Change
to_order o = record { order = λ n. o; text = λ t. t; leaves = false; left = λ e. absurd (false≢true e) }

-- the name is this one
abbrev pub to_text : List ℕ → Change
to_text t = record { order = λ n. n; text = λ u. t; leaves = true; left = λ e n. refl }

-- values and states with the change
abbrev pub changed : Change → Values → Values
changed o v = record v { order = o.order v.order; text = o.text v.text }

abbrev pub change : Change → State → State
change o s = record { taken = s.taken; words = s.words; values = changed o s.values }

abbrev pub map_values : {E : Type 0} → Change → Result Values E → Result Values E
map_values o (Ok v) = Ok (changed o v)
map_values o (Err e) = Err e

abbrev pub map_state : Change → Result State WordFault → Result State WordFault
map_state o (Ok s) = Ok (change o s)
map_state o (Err e) = Err e

cond-state : (o : Change) (b : Bool) (x y x' y' : Result State WordFault) → x' ≡ map_state o x → y' ≡ map_state o y → cond b x' y' ≡ map_state o (cond b x y)
cond-state o true x y x' y' one two = one
cond-state o false x y x' y' one two = two

cond-values : (o : Change) (b : Bool) (x y x' y' : Result Values Flaw) → x' ≡ map_values o x → y' ≡ map_values o y → cond b x' y' ≡ map_values o (cond b x y)
cond-values o true x y x' y' one two = one
cond-values o false x y x' y' one two = two

after-kept : (o : Change) (taken : ℕ) (words : List (List ℕ)) (r r' : Result Values Flaw) → r' ≡ map_values o r → after_word taken words r' ≡ map_state o (after_word taken words r)
after-kept o taken words (Ok v) r' is = ap (after_word taken words) is
after-kept o taken words (Err f) r' is = ap (after_word taken words) is

next-kept : (o : Change) (give more : List ℕ → Result Values Flaw) (taken : ℕ) (words : List (List ℕ)) → ((w : List ℕ) → more w ≡ map_values o (give w)) →
    next_word more taken words ≡ map_state o (next_word give taken words)
next-kept o give more taken [] same = refl
next-kept o give more taken (w ∷ words) same = after-kept o (taken + 1) words (give w) (more w) (same w)

value-kept : {A : Type 0} → (o : Change) (set more : A → Values) (a : Option A) → ((x : A) → more x ≡ changed o (set x)) → with_value more a ≡ map_values o (with_value set a)
value-kept o set more None same = refl
value-kept o set more (Some x) same = ap Ok (same x)

result-kept : {A : Type 0} → (o : Change) (set more : A → Values) (a : Result A Flaw) → ((x : A) → more x ≡ changed o (set x)) → with_result more a ≡ map_values o (with_result set a)
result-kept o set more (Err f) same = refl
result-kept o set more (Ok x) same = ap Ok (same x)

then-kept : (o : Change) (next : State → Result State WordFault) (r r' : Result State WordFault) → r' ≡ map_state o r →
    ((s : State) → next (change o s) ≡ map_state o (next s)) → then_do next r' ≡ map_state o (then_do next r)
then-kept o next (Ok s) r' is same = ap (then_do next) is ∙ same s
then-kept o next (Err f) r' is same = ap (then_do next) is

address-kept : (o : Change) (s : State) → place Address (change o s) ≡ map_state o (place Address s)
address-kept o s = next-kept o (values_with Address s.values) (values_with Address (changed o s.values)) s.taken s.words
    (λ w. value-kept o (λ a. record s.values { address = a }) (λ a. record (changed o s.values) { address = a }) (address_of w) (λ a. refl))

host-kept : (o : Change) (s : State) → place Host (change o s) ≡ map_state o (place Host s)
host-kept o s = next-kept o (values_with Host s.values) (values_with Host (changed o s.values)) s.taken s.words
    (λ w. value-kept o (λ a. record s.values { address = a; to = holding a 32 }) (λ a. record (changed o s.values) { address = a; to = holding a 32 }) (address_of w) (λ a. refl))

wildcard-kept : (o : Change) (s : State) → place Wildcard (change o s) ≡ map_state o (place Wildcard s)
wildcard-kept o s = next-kept o (values_with Wildcard s.values) (values_with Wildcard (changed o s.values)) s.taken s.words
    (λ w. result-kept o (λ l. record s.values { length = l; to = holding s.values.address l }) (λ l. record (changed o s.values) { length = l; to = holding s.values.address l })
    (wildcard_length w) (λ l. refl))

route-kept : (o : Change) (s : State) → place Route (change o s) ≡ map_state o (place Route s)
route-kept o s = next-kept o (values_with Route s.values) (values_with Route (changed o s.values)) s.taken s.words
    (λ w. value-kept o (λ r. record s.values { to = holding r.0 r.1; low = r.1; high = r.1 }) (λ r. record (changed o s.values) { to = holding r.0 r.1; low = r.1; high = r.1 })
    (route_of w) (λ r. refl))

least-kept : (o : Change) (s : State) → place AtLeast (change o s) ≡ map_state o (place AtLeast s)
least-kept o s = next-kept o (values_with AtLeast s.values) (values_with AtLeast (changed o s.values)) s.taken s.words
    (λ w. value-kept o (λ n. record s.values { low = n; high = 32 }) (λ n. record (changed o s.values) { low = n; high = 32 }) (number_in s.values.to.len 32 w) (λ n. refl))

most-kept : (o : Change) (s : State) → place AtMost (change o s) ≡ map_state o (place AtMost s)
most-kept o s = next-kept o (values_with AtMost s.values) (values_with AtMost (changed o s.values)) s.taken s.words
    (λ w. value-kept o (λ n. record s.values { high = n }) (λ n. record (changed o s.values) { high = n }) (number_in s.values.low 32 w) (λ n. refl))

order-kept : (o : Change) (high : ℕ) (s : State) → o.leaves ≡ true → place (Order high) (change o s) ≡ map_state o (place (Order high) s)
order-kept o high s is = next-kept o (values_with (Order high) s.values) (values_with (Order high) (changed o s.values)) s.taken s.words
    (λ w. value-kept o (λ n. record s.values { order = Some n }) (λ n. record (changed o s.values) { order = Some n }) (number_in 1 high w)
    (λ n. ap (λ m. record (changed o s.values) { order = m }) (sym (o.left is n))))

protocol-kept : (o : Change) (s : State) → place forms.Protocol (change o s) ≡ map_state o (place forms.Protocol s)
protocol-kept o s = next-kept o (values_with forms.Protocol s.values) (values_with forms.Protocol (changed o s.values)) s.taken s.words
    (λ w. value-kept o (λ r. record s.values { services = r }) (λ r. record (changed o s.values) { services = r }) (services_of w) (λ r. refl))

port-kept : (o : Change) (s : State) → place Port (change o s) ≡ map_state o (place Port s)
port-kept o s = next-kept o (values_with Port s.values) (values_with Port (changed o s.values)) s.taken s.words
    (λ w. value-kept o (λ n. with_ports s.values n n) (λ n. with_ports (changed o s.values) n n) (port_in s.values w) (λ n. refl))

first_port-kept : (o : Change) (s : State) → place FirstPort (change o s) ≡ map_state o (place FirstPort s)
first_port-kept o s = next-kept o (values_with FirstPort s.values) (values_with FirstPort (changed o s.values)) s.taken s.words
    (λ w. value-kept o (λ n. with_ports s.values n 65535) (λ n. with_ports (changed o s.values) n 65535) (port_in s.values w) (λ n. refl))

last_port-kept : (o : Change) (s : State) → place LastPort (change o s) ≡ map_state o (place LastPort s)
last_port-kept o s = next-kept o (values_with LastPort s.values) (values_with LastPort (changed o s.values)) s.taken s.words
    (λ w. value-kept o (λ n. with_ports s.values (port s.values.services.low) n) (λ n. with_ports (changed o s.values) (port s.values.services.low) n)
    (ranged (port s.values.services.low) 65535 (port_in s.values w)) (λ n. refl))

ports-kept : (o : Change) (s : State) → ports (change o s) ≡ map_state o (ports s)
ports-kept o s = cond-state o (begins (codes "eq") s.words) (place Port (passed s)) _ _ _ (port-kept o (passed s))
    (cond-state o (begins (codes "range") s.words) (then_do (place LastPort) (place FirstPort (passed s))) (Ok s) _ _
    (then-kept o (place LastPort) (place FirstPort (passed s)) (place FirstPort (passed (change o s))) (first_port-kept o (passed s)) (last_port-kept o)) refl)

word-kept : (o : Change) (word : List ℕ) (s : State) → this_word word (change o s) ≡ map_state o (this_word word s)
word-kept o word s = next-kept o (λ w. cond (bytes_eq w word) (Ok s.values) (Err Amiss)) (λ w. cond (bytes_eq w word) (Ok (changed o s.values)) (Err Amiss)) s.taken s.words
    (λ w. cond-values o (bytes_eq w word) (Ok s.values) (Err Amiss) _ _ refl refl)

verdict-kept : (o : Change) (s : State) → verdict (change o s) ≡ map_state o (verdict s)
verdict-kept o s = next-kept o (permits s.values) (permits (changed o s.values)) s.taken s.words
    (λ w. cond-values o (bytes_eq w (codes "permit")) (Ok (record s.values { permit = true })) _ _ _ refl
    (cond-values o (bytes_eq w (codes "deny")) (Ok (record s.values { permit = false })) (Err Amiss) _ _ refl refl))

width-kept : (o : Change) (extended : Bool) (s : State) → width extended (change o s) ≡ map_state o (width extended s)
width-kept o extended s = cond-state o (not extended && stands_alone s.words) (Ok (alone s)) (place Wildcard s) _ _ refl (wildcard-kept o s)

side-kept : (o : Change) (extended : Bool) (s : State) → side extended (change o s) ≡ map_state o (side extended s)
side-kept o extended s = cond-state o (begins (codes "any") s.words) (Ok (any s)) _ _ _ refl
    (cond-state o (begins (codes "host") s.words) (place Host (passed s)) _ _ _ (host-kept o (passed s))
    (then-kept o (width extended) (place Address s) (place Address (change o s)) (address-kept o s) (width-kept o extended)))

-- whether the part reads no name, and a number of an entry only where this is allowed
abbrev pub keeps : Bool → Piece → Bool
keeps leaves (Word word) = true
keeps leaves Verdict = true
keeps leaves (Place Route) = true
keeps leaves (Bracket word AtLeast) = true
keeps leaves (Bracket word AtMost) = true
keeps leaves (Bracket word (Order high)) = leaves
keeps leaves (Flag word) = true
keeps leaves Protocol = true
keeps leaves Source = true
keeps leaves Destination = true
keeps leaves Ports = true
keeps leaves _ = false

step-kept : (o : Change) (piece : Piece) (s : State) → keeps o.leaves piece ≡ true → step piece (change o s) ≡ map_state o (step piece s)
step-kept o (Word word) s is = word-kept o word s
step-kept o Verdict s is = verdict-kept o s
step-kept o (Place Route) s is = route-kept o s
step-kept o (Bracket word AtLeast) s is = cond-state o (begins word s.words) (place AtLeast (passed s)) (Ok s) _ _ (least-kept o (passed s)) refl
step-kept o (Bracket word AtMost) s is = cond-state o (begins word s.words) (place AtMost (passed s)) (Ok s) _ _ (most-kept o (passed s)) refl
step-kept o (Bracket word (Order high)) s is = cond-state o (begins word s.words) (place (Order high) (passed s)) (Ok s) _ _ (order-kept o high (passed s) is) refl
step-kept o (Flag word) s is = cond-state o (begins word s.words) (Ok (passed s)) (Ok s) _ _ refl refl
step-kept o Protocol s is = cond-state o s.values.extended (place forms.Protocol s) (Ok s) _ _ (protocol-kept o s) refl
step-kept o Source s is = then-kept o as_source (side s.values.extended s) (side s.values.extended (change o s)) (side-kept o s.values.extended s) (λ t. refl)
step-kept o Destination s is = cond-state o s.values.extended (side true s) (Ok s) _ _ (side-kept o true s) refl
step-kept o Ports s is = cond-state o (has_ports (protocol s.values.services.low)) (ports s) (Ok s) _ _ (ports-kept o s) refl
step-kept o _ s is = absurd cc

parts-kept : (o : Change) (pieces : List Piece) (s : State) → list_all (keeps o.leaves) pieces ≡ true → read_parts pieces (change o s) ≡ map_state o (read_parts pieces s)
parts-kept o [] s all = refl
parts-kept o (piece ∷ pieces) s all =
    let parts = and_parts _ _ all in
    then-kept o (read_parts pieces) (step piece s) (step piece (change o s)) (step-kept o piece s parts.0) (λ t. parts-kept o pieces t parts.1)

finish-kept : (o : Change) (r : Result State WordFault) → finish (map_state o r) ≡ map_values o (finish r)
finish-kept o (Err f) = refl
finish-kept o (Ok s) = words-kept s s.words
  where
    words-kept : (s : State) (words : List (List ℕ)) → finish_words (change o s) words ≡ map_values o (finish_words s words)
    words-kept s [] = refl
    words-kept s (w ∷ words) = refl

-- what parts that read no name give, where the name or the number is another
pub read-kept : (o : Change) (pieces : List Piece) (s : State) → list_all (keeps o.leaves) pieces ≡ true → finish (read_parts pieces (change o s)) ≡ map_values o (finish (read_parts pieces s))
read-kept o pieces s all = ap finish (parts-kept o pieces s all) ∙ finish-kept o (read_parts pieces s)
