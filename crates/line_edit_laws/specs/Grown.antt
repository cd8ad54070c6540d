-- Commands of which each is joined by others of its part, with new ones of other parts among them.
use Rattle.std.specs.Prelude.{◌≡◌, ◌≢◌, false, List, [], ◌++◌, map, Contains}
use Rattle.std.specs.List.{AllByRecursion, flat_map}
use Rattle.ios_config.specs.declared.commands.FileCommand.{FileCommand}
use Rattle.ios_config.specs.Groups.{Part, is_same, part_of, distinct, members, groups}

-- the command grows to some commands of its part
pub record IsGrown (grow : FileCommand → List FileCommand) (c : FileCommand) : Type 0 where
  pub own : AllByRecursion (λ v. part_of v ≡ part_of c) (grow c)
  pub some : grow c ≢ []

-- no part of the new commands is one of the old ones
abbrev pub AreFreshParts : List FileCommand → List FileCommand → Type 0
AreFreshParts cs added =
    (t c : FileCommand) → Contains added t → Contains cs c → is_same (part_of t) (part_of c) ≡ false

-- the groups are the old ones, each with what its commands grow to, and the new ones together among
-- them
pub record HasGrownGroups (grow : FileCommand → List FileCommand)
    (front back added : List FileCommand) : Type 0 where
  pub before : List Part
  pub after : List Part
  pub old : distinct (map part_of (front ++ back)) ≡ before ++ after
  pub new : groups (flat_map grow front ++ (added ++ flat_map grow back)) ≡
      map (λ q. flat_map grow (members (front ++ back) q)) before ++
      (map (members added) (distinct (map part_of added)) ++
      map (λ q. flat_map grow (members (front ++ back) q)) after)

-- commands that are joined by others of their parts, with new ones of other parts among them, have
-- these groups
abbrev pub CommandsGrow : Type 0
CommandsGrow =
    (grow : FileCommand → List FileCommand) (front back added : List FileCommand) →
    AllByRecursion (IsGrown grow) front → AllByRecursion (IsGrown grow) back →
    AreFreshParts (front ++ back) added → HasGrownGroups grow front back added
