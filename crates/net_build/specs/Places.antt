-- The lines of a router file that the parts of the network come from.
use Rattle.std.specs.Prelude.{map, unwrap_or, option_map}
use Rattle.ios_config.specs.declared.settings.Config.{Config}
use Rattle.ios_config.specs.declared.settings.FaceText.{FaceText}
use Rattle.ios_config.specs.declared.settings.ListText.{ListText}
use Rattle.net_build.specs.declared.built.Places.{Places}
use Rattle.net_build.specs.declared.built.FacePlace.{FacePlace}
use Rattle.net_build.specs.declared.built.ListPlace.{ListPlace}
use Rattle.net_rules.specs.Settings.{process_of}

-- where an interface block begins and where its last command is
abbrev pub face_place : FaceText → FacePlace
face_place face = record { head = face.head; last = face.last }

-- where the entries of a list are
abbrev pub list_place : ListText → ListPlace
list_place list = record {
  name = list.name;
  form = list.form;
  numbered = list.numbered;
  entries = map (λ g. g.line) list.entries;
}

-- where the interfaces and lists of a file are, and where its process begins and has its last
-- command
abbrev pub places_of : Config → Places
places_of config = record {
  process = unwrap_or (option_map (λ p. p.head) (process_of config)) 0;
  process_last = unwrap_or (option_map (λ p. p.last) (process_of config)) 0;
  faces = map face_place config.faces;
  lists = map list_place config.lists;
}
