-- The groups of a file's commands where one command more stands among them.
use Rattle.std.proofs.Common.{◌≡◌, ℕ, Bool, true, false, cond, List, [], ◌∷◌, ◌++◌, map, refl, sym, ap, ◌∙◌, ◌⊎◌, inl, inr}
use Rattle.std.proofs.lemmas.Bool.{cond-true, cond-false, or_parts}
use Rattle.std.proofs.lemmas.List.{map-append}
use Rattle.std.proofs.lemmas.List.Elements.{filter-append}
use Rattle.std.proofs.lemmas.Simd.{map-map}
use Rattle.std.specs.List.{list_any}
use Rattle.ios_config.specs.declared.commands.FileCommand.{FileCommand}
use Rattle.ios_config.specs.Groups.{Part, is_same, part_of, distinct, members, groups}
use Rattle.ios_config.specs.Inserted.{command_moved}
use Rattle.ios_config.specs.Joined.{part_moved, between, members_with, StandsBeside, ACommandJoinsItsGroup, ACommandBeginsItsGroup}
use Rattle.ios_config.proofs.JoinedParts.{part-moved, same-moved, distinct-old, distinct-next, distinct-moved, any-moved, any-append, any-distinct, other-way, is-self, distinct-new}
use Rattle.ios_config.proofs.PartLists.{none_named}

-- the members of a part whose number is moved
member-step : (place : ℕ) (part : Part) (d : FileCommand) (ds : List FileCommand) (b : Bool) →
    members (map (command_moved place) ds) (part_moved place part) ≡ map (command_moved place) (members ds part) →
    cond b (command_moved place d ∷ members (map (command_moved place) ds) (part_moved place part)) (members (map (command_moved place) ds) (part_moved place part)) ≡ map
    (command_moved place) (cond b (d ∷ members ds part) (members ds part))
member-step place part d ds true rest = ap (λ r. command_moved place d ∷ r) rest
member-step place part d ds false rest = rest

pub members-moved : (place : ℕ) (part : Part) (ds : List FileCommand) → members (map (command_moved place) ds) (part_moved place part) ≡ map (command_moved place) (members ds part)
members-moved place part [] = refl
members-moved place part (d ∷ ds) =
    ap (λ b. cond b (command_moved place d ∷ members (map (command_moved place) ds) (part_moved place part)) (members (map (command_moved place) ds) (part_moved place part)))
    (ap (is_same (part_moved place part)) (part-moved place d) ∙ same-moved place part (part_of d))
    ∙ member-step place part d ds (is_same part (part_of d)) (members-moved place part ds)

-- the parts of commands whose numbers are moved
parts-moved : (place : ℕ) (ds : List FileCommand) → map part_of (map (command_moved place) ds) ≡ map (part_moved place) (map part_of ds)
parts-moved place [] = refl
parts-moved place (d ∷ ds) = ap (λ p. p ∷ map part_of (map (command_moved place) ds)) (part-moved place d) ∙ ap (λ ps. part_moved place (part_of d) ∷ ps) (parts-moved place ds)

members-between : (place : ℕ) (front : List FileCommand) (c : FileCommand) (back : List FileCommand) (p : Part) (b : Bool) →
    is_same (part_moved place p) (part_of c) ≡ b → members (between place front c back) (part_moved place p) ≡ members_with place front c back p b
members-between place front c back p true is =
    filter-append (λ d. is_same (part_moved place p) (part_of d)) (map (command_moved place) front) (c ∷ map (command_moved place) back)
    ∙ ap (λ r. members (map (command_moved place) front) (part_moved place p) ++ r)
    (cond-true (is_same (part_moved place p) (part_of c)) (c ∷ members (map (command_moved place) back) (part_moved place p)) _ is)
    ∙ ap (λ r. r ++ c ∷ members (map (command_moved place) back) (part_moved place p)) (members-moved place p front)
    ∙ ap (λ r. map (command_moved place) (members front p) ++ c ∷ r) (members-moved place p back)
members-between place front c back p false is =
    filter-append (λ d. is_same (part_moved place p) (part_of d)) (map (command_moved place) front) (c ∷ map (command_moved place) back)
    ∙ ap (λ r. members (map (command_moved place) front) (part_moved place p) ++ r)
    (cond-false (is_same (part_moved place p) (part_of c)) (c ∷ members (map (command_moved place) back) (part_moved place p)) _ is)
    ∙ ap (λ r. r ++ members (map (command_moved place) back) (part_moved place p)) (members-moved place p front)
    ∙ ap (λ r. map (command_moved place) (members front p) ++ r) (members-moved place p back)
    ∙ sym (ap (map (command_moved place)) (filter-append (λ d. is_same p (part_of d)) front back) ∙ map-append (command_moved place) (members front p) (members back p))

parts-between : (place : ℕ) (front : List FileCommand) (c : FileCommand) (back : List FileCommand) →
    map part_of (between place front c back) ≡ map (part_moved place) (map part_of front) ++ part_of c ∷ map (part_moved place) (map part_of back)
parts-between place front c back =
    map-append part_of (map (command_moved place) front) (c ∷ map (command_moved place) back)
    ∙ ap (λ ps. ps ++ part_of c ∷ map part_of (map (command_moved place) back)) (parts-moved place front)
    ∙ ap (λ ps. map (part_moved place) (map part_of front) ++ part_of c ∷ ps) (parts-moved place back)

pub same-map : {A B : Type 0} → (f g : A → B) (xs : List A) → ((x : A) → f x ≡ g x) → map f xs ≡ map g xs
same-map f g [] same = refl
same-map f g (x ∷ xs) same = ap (λ y. y ∷ map f xs) (same x) ∙ ap (λ ys. g x ∷ ys) (same-map f g xs same)

-- the parts of the commands stay
parts-stay : (place : ℕ) (before after : List Part) (part : Part) → (list_any (is_same part) before ≡ true) ⊎ ((rest : List Part) × (after ≡ part ∷ rest)) →
    distinct (map (part_moved place) before ++ part_moved place part ∷ map (part_moved place) after) ≡ map (part_moved place) (distinct (before ++ after))
parts-stay place before after part (inl has) =
    distinct-old (part_moved place part) (map (part_moved place) before) (map (part_moved place) after) (any-moved place part before ∙ has)
    ∙ ap distinct (sym (map-append (part_moved place) before after)) ∙ distinct-moved place (before ++ after)
parts-stay place before after part (inr (rest, is)) =
    ap (λ ps. distinct (map (part_moved place) before ++ part_moved place part ∷ map (part_moved place) ps)) is
    ∙ distinct-next (part_moved place part) (map (part_moved place) before) (map (part_moved place) rest)
    ∙ ap distinct (sym (map-append (part_moved place) before (part ∷ rest))) ∙ distinct-moved place (before ++ part ∷ rest)
    ∙ ap (λ ps. map (part_moved place) (distinct (before ++ ps))) (sym is)

pub beside-parts : (part : Part) (front back : List FileCommand) → StandsBeside part front back →
    (list_any (is_same part) (map part_of front) ≡ true) ⊎ ((rest : List Part) × (map part_of back ≡ part ∷ rest))
beside-parts part front back (inl has) = inl has
beside-parts part front back (inr (next, rest, is, same)) = inr (map part_of rest, ap (map part_of) is ∙ ap (λ p. p ∷ map part_of rest) same)

pub joins-group : ACommandJoinsItsGroup
joins-group place front c back part is beside =
    let before = map part_of front in
    let after = map part_of back in
    let parts : distinct (map part_of (between place front c back)) ≡ map (part_moved place) (distinct (map part_of (front ++ back))) =
    ap distinct (parts-between place front c back) ∙ ap (λ p. distinct (map (part_moved place) before ++ p ∷ map (part_moved place) after)) is
    ∙ parts-stay place before after part (beside-parts part front back beside) ∙ ap (λ ps. map (part_moved place) (distinct ps)) (sym (map-append part_of front back)) in
    ap (map (members (between place front c back))) parts
    ∙ map-map (members (between place front c back)) (part_moved place) (distinct (map part_of (front ++ back)))
    ∙ same-map (λ p. members (between place front c back) (part_moved place p)) (λ p. members_with place front c back p (is_same p part)) (distinct (map part_of (front ++ back)))
    (λ p. members-between place front c back p (is_same p part) (ap (is_same (part_moved place p)) is ∙ same-moved place p part))

-- a part that is not that of the new command has the members that it had
members-other : (part : Part) (front : List FileCommand) (c : FileCommand) (back : List FileCommand) → is_same part (part_of c) ≡ false →
    members (front ++ c ∷ back) part ≡ members (front ++ back) part
members-other part front c back other =
    filter-append (λ d. is_same part (part_of d)) front (c ∷ back)
    ∙ ap (λ r. members front part ++ r) (cond-false (is_same part (part_of c)) (c ∷ members back part) (members back part) other)
    ∙ sym (filter-append (λ d. is_same part (part_of d)) front back)

members-new : (front : List FileCommand) (c : FileCommand) (back : List FileCommand) → list_any (is_same (part_of c)) (map part_of (front ++ back)) ≡ false →
    members (front ++ c ∷ back) (part_of c) ≡ c ∷ []
members-new front c back none =
    let parts = any-append (is_same (part_of c)) (map part_of front) (map part_of back) (sym (ap (list_any (is_same (part_of c))) (map-append part_of front back)) ∙ none) in
    filter-append (λ d. is_same (part_of c) (part_of d)) front (c ∷ back)
    ∙ ap (λ r. members front (part_of c) ++ r) (cond-true (is_same (part_of c) (part_of c)) (c ∷ members back (part_of c)) (members back (part_of c)) (is-self (part_of c)))
    ∙ ap (λ r. r ++ c ∷ members back (part_of c)) (none_named (part_of c) front parts.0)
    ∙ ap (λ r. c ∷ r) (none_named (part_of c) back parts.1)

-- what is the same of each item that is not the new one
pub map-apart : {A : Type 0} → (f g : Part → A) (y : Part) (ps : List Part) → list_any (is_same y) ps ≡ false → ((p : Part) → is_same p y ≡ false → f p ≡ g p) → map f ps ≡ map g ps
map-apart f g y [] none same = refl
map-apart f g y (p ∷ ps) none same =
    let parts = or_parts (is_same y p) (list_any (is_same y) ps) none in
    ap (λ x. x ∷ map f ps) (same p (other-way p y parts.0)) ∙ ap (λ xs. g p ∷ xs) (map-apart f g y ps parts.1 same)

-- the same, where no number is moved
begins-alone : (front : List FileCommand) (c : FileCommand) (back : List FileCommand) → list_any (is_same (part_of c)) (map part_of (front ++ back)) ≡ false →
    (before : List (List FileCommand)) × (after : List (List FileCommand)) × (groups (front ++ back) ≡ before ++ after) × (groups (front ++ c ∷ back) ≡ before ++ (c ∷ []) ∷ after)
begins-alone front c back none =
    let y = part_of c in
    let parts : list_any (is_same y) (map part_of front ++ map part_of back) ≡ false = sym (ap (list_any (is_same y)) (map-append part_of front back)) ∙ none in
    let among = distinct-new y (map part_of front) (map part_of back) parts in
    let was : distinct (map part_of (front ++ back)) ≡ among.before ++ among.after = ap distinct (map-append part_of front back) ∙ among.was in
    let is : distinct (map part_of (front ++ c ∷ back)) ≡ among.before ++ y ∷ among.after = ap distinct (map-append part_of front (c ∷ back)) ∙ among.is in
    let lacks = any-append (is_same y) among.before among.after (sym (ap (list_any (is_same y)) was) ∙ any-distinct y (map part_of (front ++ back)) none) in
    let old = members (front ++ back) in
    let new = members (front ++ c ∷ back) in
    let same = λ (p : Part) (apart : is_same p y ≡ false). members-other p front c back apart in (
      map old among.before,
      map old among.after,
      ap (map old) was ∙ map-append old among.before among.after,
      ap (map new) is ∙ map-append new among.before (y ∷ among.after)
          ∙ ap (λ xs. xs ++ new y ∷ map new among.after) (map-apart new old y among.before lacks.0 same)
          ∙ ap (λ g. map old among.before ++ g ∷ map new among.after) (members-new front c back none)
          ∙ ap (λ xs. map old among.before ++ (c ∷ []) ∷ xs) (map-apart new old y among.after lacks.1 same),
    )

-- the groups with all numbers moved
pub groups-moved : (place : ℕ) (cs : List FileCommand) → groups (map (command_moved place) cs) ≡ map (map (command_moved place)) (groups cs)
groups-moved place cs =
    ap (λ ps. map (members (map (command_moved place) cs)) (distinct ps)) (parts-moved place cs)
    ∙ ap (map (members (map (command_moved place) cs))) (distinct-moved place (map part_of cs))
    ∙ map-map (members (map (command_moved place) cs)) (part_moved place) (distinct (map part_of cs))
    ∙ same-map (λ p. members (map (command_moved place) cs) (part_moved place p)) (λ p. map (command_moved place) (members cs p)) (distinct (map part_of cs)) (λ p. members-moved place p cs)
    ∙ sym (map-map (map (command_moved place)) (members cs) (distinct (map part_of cs)))

pub begins-group : ACommandBeginsItsGroup
begins-group place front c back none =
    let f = command_moved place in
    let split : map f (front ++ back) ≡ map f front ++ map f back = map-append f front back in
    let (before, after, was, is) = begins-alone (map f front) c (map f back) (ap (λ ds. list_any (is_same (part_of c)) (map part_of ds)) (sym split) ∙ none) in
    record { before = before; after = after; old = sym (groups-moved place (front ++ back)) ∙ ap groups split ∙ was; new = is }
