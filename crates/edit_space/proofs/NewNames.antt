-- The names of new lists are new, and differ.
use Rattle.edit_space.proofs.NamedFacts.{name_is_new, one_list}
use Rattle.edit_space.proofs.SomeNames.{names_made, named_made}
use Rattle.edit_space.specs.NewNames.{NewNamesAreNew, NewNamesDiffer}

pub new_names_are_new : NewNamesAreNew
new_names_are_new net valid countable chosen router list name new =
    let made = named_made net valid countable chosen in
    name_is_new net valid chosen (names_made net valid countable chosen) made.0 made.1.new_names made.1.are_named router list name made.1.few new

pub new_names_differ : NewNamesDiffer
new_names_differ net valid countable chosen router one other name this that =
    let made = named_made net valid countable chosen in
    one_list net valid chosen (names_made net valid countable chosen) made.0 made.1.new_names made.1.are_named router one other name made.1.few this that
