-- What the program's record of a line's values means.
use Rattle.std.specs.Prelude.{Result, Ok, Err}
use Rattle.ios_words.specs.declared.found.Found.{Found}
use Rattle.ios_words.specs.declared.kinds.Flaw.{Flaw}
use Rattle.ios_words.specs.Values.{Values}

-- the values that the program found
abbrev pub values_of : Found → Values
values_of f = record {
  text = f.text.now;
  number = f.number;
  address = f.address;
  length = f.length;
  area = f.area;
  order = f.order;
  permit = f.permit;
  extended = f.extended;
  from = f.from;
  to = f.to;
  low = f.low;
  high = f.high;
  services = f.services;
}

-- the values after a word, or its flaw
abbrev pub word_values : Result Found Flaw → Result Values Flaw
word_values (Ok found) = Ok (values_of found)
word_values (Err flaw) = Err flaw
