-- What the words of a line give.
use Rattle.std.specs.Prelude.{ℕ, ◌/◌, ◌^◌, Bool, true, false, List, [], Option, Some, None, Result}
use Rattle.std.specs.Prelude.{Ok, Err}
use Rattle.arc_base.specs.declared.prefix.Prefix.{Prefix}
use Rattle.arc_base.specs.Cuts.{cut_at}
use Rattle.arc_base.specs.PrefixText.{number_of, address_of}
use Rattle.ios_words.specs.declared.kinds.Flaw.{Flaw}
use Rattle.ios_words.specs.declared.kinds.Flaw.TheVariants.{Amiss}
use Rattle.ios_words.specs.declared.rows.Form.{Form}
use Rattle.ios_words.specs.declared.rows.Form.TheVariants.{Name, FaceName, Number, Address, Host}
use Rattle.ios_words.specs.declared.rows.Form.TheVariants.{Network, Mask, Wildcard, Area}
use Rattle.ios_words.specs.declared.rows.Form.TheVariants.{ListNumber, Order, Route, AtLeast}
use Rattle.ios_words.specs.declared.rows.Form.TheVariants.{AtMost, Protocol, Port, FirstPort}
use Rattle.ios_words.specs.declared.rows.Form.TheVariants.{LastPort}
use Rattle.ios_words.specs.declared.services.Services.{Services}
use Rattle.ios_words.specs.Names.{is_face_name}
use Rattle.arc_base.specs.NameForms.{is_name}
use Rattle.ios_words.specs.Numbers.{ranged, number_in, mask_length, wildcard_length, area_of}
use Rattle.ios_words.specs.Numbers.{class_length, list_kind}
use Rattle.ios_words.specs.Prefixes.{holding, whole}
use Rattle.ios_words.specs.ServiceRanges.{all, of_ports, services_of}
use Rattle.ios_words.specs.Services.{protocol, port, port_of}

-- what a line's words gave so far: a name or number as it is written, a number, an address, the
-- length of a mask, an area, the number of an entry, whether it permits, whether its list is
-- extended, where its packets come from and go to, the lengths of a route, and the services of its
-- packets
pub record Values : Type 0 where
  pub text : List ℕ
  pub number : ℕ
  pub address : ℕ
  pub length : ℕ
  pub area : ℕ
  pub order : Option ℕ
  pub permit : Bool
  pub extended : Bool
  pub from : Prefix
  pub to : Prefix
  pub low : ℕ
  pub high : ℕ
  pub services : Services

-- what is made of a value that is there
abbrev pub with_value : {A : Type 0} → (A → Values) → Option A → Result Values Flaw
with_value set None = Err Amiss
with_value set (Some a) = Ok (set a)

-- what is made of a value, or the flaw in its place
abbrev pub with_result : {A : Type 0} → (A → Values) → Result A Flaw → Result Values Flaw
with_result set (Err flaw) = Err flaw
with_result set (Ok a) = Ok (set a)

-- the word itself, where the test comes out true
abbrev pub tested : Bool → List ℕ → Option (List ℕ)
tested true word = Some word
tested false word = None

-- the prefix of an address whose first byte gives its length
abbrev pub class_prefix : Option ℕ → Option Prefix
class_prefix None = None
class_prefix (Some addr) = of_length (class_length (addr / 2 ^ 24))
  where
    of_length : Option ℕ → Option Prefix
    of_length None = None
    of_length (Some len) = Some (holding addr len)

-- an address and a length, where both are there
abbrev pub both : Option ℕ → Option ℕ → Option (ℕ × ℕ)
both None len = None
both (Some addr) None = None
both (Some addr) (Some len) = Some (addr, len)

-- the address and the length of a route, of the parts before and after its slash
abbrev pub route_parts : Option (List ℕ × List ℕ) → Option (ℕ × ℕ)
route_parts None = None
route_parts (Some parts) = both (address_of parts.0) (number_in 0 32 parts.1)

-- the prefix that a word writes as an address and a length with a slash between them; bits past the
-- length may be set
abbrev pub route_of : List ℕ → Option (ℕ × ℕ)
route_of word = route_parts (cut_at 47 word)

-- the values with the length of a mask or wildcard, which makes a prefix of the address before it
abbrev pub with_length : Values → Result ℕ Flaw → Result Values Flaw
with_length v length = with_result (λ l. record v { length = l; to = holding v.address l }) length

-- the port of the protocol before it that a word writes
abbrev pub port_in : Values → List ℕ → Option ℕ
port_in v word = port_of (protocol v.services.low) word

-- the values with the ports from one to another of the protocol before them
abbrev pub with_ports : Values → ℕ → ℕ → Values
with_ports v first last = record v { services = of_ports (protocol v.services.low) first last }

-- the values with what a word of the form gives
abbrev pub values_with : Form → Values → List ℕ → Result Values Flaw
values_with Name v word = with_value (λ w. record v { text = w }) (tested (is_name word) word)
values_with FaceName v word =
    with_value (λ w. record v { text = w }) (tested (is_face_name word) word)
values_with (Number low high) v word =
    with_value (λ n. record v { number = n }) (number_in low high word)
values_with Address v word = with_value (λ a. record v { address = a }) (address_of word)
values_with Host v word =
    with_value (λ a. record v { address = a; to = holding a 32 }) (address_of word)
values_with Network v word = with_value (λ p. record v { to = p }) (class_prefix (address_of word))
values_with (Mask least) v word = with_length v (mask_length least word)
values_with Wildcard v word = with_length v (wildcard_length word)
values_with Area v word = with_value (λ a. record v { area = a }) (area_of word)
values_with ListNumber v word =
    with_value (λ extended. record v { text = word; extended = extended })
    (list_kind (number_of word))
values_with (Order high) v word =
    with_value (λ n. record v { order = Some n }) (number_in 1 high word)
values_with Route v word =
    with_value (λ r. record v { to = holding r.0 r.1; low = r.1; high = r.1 }) (route_of word)
values_with AtLeast v word =
    with_value (λ n. record v { low = n; high = 32 }) (number_in v.to.len 32 word)
values_with AtMost v word = with_value (λ n. record v { high = n }) (number_in v.low 32 word)
values_with Protocol v word = with_value (λ s. record v { services = s }) (services_of word)
values_with Port v word = with_value (λ n. with_ports v n n) (port_in v word)
values_with FirstPort v word = with_value (λ n. with_ports v n 65535) (port_in v word)
values_with LastPort v word =
    with_value (λ n. with_ports v (port v.services.low) n)
    (ranged (port v.services.low) 65535 (port_in v word))

-- what is known before the first word: whether the line is in the block of an extended list
abbrev pub no_values : Bool → Values
no_values extended = record {
  text = [];
  number = 0;
  address = 0;
  length = 0;
  area = 0;
  order = None;
  permit = false;
  extended = extended;
  from = whole;
  to = whole;
  low = 0;
  high = 0;
  services = all;
}
