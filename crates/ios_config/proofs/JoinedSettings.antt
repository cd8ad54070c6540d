-- The bare groups of a file's commands where one command more stands among them.
use Rattle.std.proofs.Common.{◌≡◌, ℕ, ◌||◌, not, Bool, true, false, List, [], ◌∷◌, ◌++◌, map, refl, sym, ap, subst, ◌∙◌, ⊎_elim, ◌⊎◌, inl, inr, flat_map}
use Rattle.std.proofs.lemmas.Bool.{cases_Bool, cond-true}
use Rattle.std.proofs.lemmas.List.{map-append}
use Rattle.std.proofs.lemmas.List.Elements.{filter-append}
use Rattle.std.proofs.lemmas.Simd.{map-map}
use Rattle.std.specs.List.{list_any}
use Rattle.ios_config.specs.declared.commands.FileCommand.{FileCommand}
use Rattle.ios_config.specs.Bare.{bare, bare_groups, bare_setting, bare_config, config_from, ACommandJoinsOneGroup, HasOneOther, OneGroupSetsOther, ANewGroupSetsItsOwn}
use Rattle.ios_config.specs.declared.settings.Config.{Config}
use Rattle.ios_config.specs.declared.settings.Setting.{Setting}
use Rattle.ios_config.specs.Texts.{config_of, face_of, list_of, process_of, router_name}
use Rattle.ios_config.proofs.BareSettings.{bare-groups-set}
use Rattle.std.proofs.lemmas.Grind.{flat_map-append}
use Rattle.std.specs.Prelude.{Option, option_map}
use Rattle.ios_config.specs.Groups.{Part, is_same, part_of, distinct, members, groups}
use Rattle.ios_config.specs.Effects.{Split}
use Rattle.ios_config.specs.Inserted.{command_moved, with_command}
use Rattle.ios_config.specs.Joined.{between, members_with, part_moved, StandsBeside}
use Rattle.ios_config.proofs.JoinedGroups.{joins-group, begins-group, beside-parts, map-apart, same-map}
use Rattle.ios_config.proofs.JoinedParts.{any-others, other-way, is-self}
use Rattle.ios_config.proofs.PartLists.{is_same-Decides, others, others_lack}

-- a part that stands among others stands there once
record StandsOnce (part : Part) (ps : List Part) : Type 0 where
  before : List Part
  after : List Part
  split : ps ≡ before ++ part ∷ after
  none_before : list_any (is_same part) before ≡ false
  none_after : list_any (is_same part) after ≡ false

-- what is left aside of a list in which the part stands once
once-others : (x part : Part) (ps : List Part) → is_same x part ≡ false → StandsOnce part ps → StandsOnce part (others x ps)
once-others x part ps apart once = record {
  before = others x once.before;
  after = others x once.after;
  split = ap (others x) once.split ∙ filter-append (λ q. not (is_same x q)) once.before (part ∷ once.after)
      ∙ ap (λ r. others x once.before ++ r) (cond-true (not (is_same x part)) (part ∷ others x once.after) (others x once.after) (ap not apart));
  none_before = any-others part x once.before once.none_before;
  none_after = any-others part x once.after once.none_after;
}

stands-once : (part : Part) (ps : List Part) → list_any (is_same part) ps ≡ true → StandsOnce part (distinct ps)
stands-once part [] has = absurd cc
stands-once part (p ∷ ps) has = ⊎_elim
    (λ here.
    let same : part ≡ p = (is_same-Decides part p).0 here in
    subst (λ (q : Part). StandsOnce part (q ∷ others q (distinct ps))) same
    (record { before = []; after = others part (distinct ps); split = refl; none_before = refl; none_after = others_lack part (distinct ps) }))
    (λ other.
    let later : list_any (is_same part) ps ≡ true = sym (ap (λ b. b || list_any (is_same part) ps) other) ∙ has in
    let deeper = once-others p part (distinct ps) (other-way p part other) (stands-once part ps later) in
    record {
      before = p ∷ deeper.before;
      after = deeper.after;
      split = ap (λ r. p ∷ r) deeper.split;
      none_before = ap (λ b. b || list_any (is_same part) deeper.before) other ∙ deeper.none_before;
      none_after = deeper.none_after;
    })
    (cases_Bool (is_same part p))

any-step : (p : Part → Bool) (x : Part) (xs ys : List Part) (b : Bool) → p x ≡ b → list_any p (x ∷ xs) ≡ true →
    (list_any p xs ≡ true → list_any p (xs ++ ys) ≡ true) → list_any p (x ∷ (xs ++ ys)) ≡ true
any-step p x xs ys true is has rest = ap (λ b. b || list_any p (xs ++ ys)) is
any-step p x xs ys false is has rest = ap (λ b. b || list_any p (xs ++ ys)) is ∙ rest (sym (ap (λ b. b || list_any p xs) is) ∙ has)

any-front : (p : Part → Bool) (xs ys : List Part) → list_any p xs ≡ true → list_any p (xs ++ ys) ≡ true
any-front p [] ys has = absurd cc
any-front p (x ∷ xs) ys has = any-step p x xs ys (p x) refl has (any-front p xs ys)

any-back : (p : Part → Bool) (xs ys : List Part) → list_any p ys ≡ true → list_any p (xs ++ ys) ≡ true
any-back p [] ys has = has
any-back p (x ∷ xs) ys has = either (p x) (list_any p (xs ++ ys)) (any-back p xs ys has)
  where
    either : (a b : Bool) → b ≡ true → (a || b) ≡ true
    either true b is = refl
    either false b is = is

beside-any : (part : Part) (xs ys : List Part) → (list_any (is_same part) xs ≡ true) ⊎ ((rest : List Part) × (ys ≡ part ∷ rest)) → list_any (is_same part) (xs ++ ys) ≡ true
beside-any part xs ys (inl has) = any-front (is_same part) xs ys has
beside-any part xs ys (inr (rest, is)) = any-back (is_same part) xs ys (ap (list_any (is_same part)) is ∙ ap (λ b. b || list_any (is_same part) rest) (is-self part))

bare-moved : (place : ℕ) (cs : List FileCommand) → map bare (map (command_moved place) cs) ≡ map bare cs
bare-moved place cs = map-map bare (command_moved place) cs

pub joins-one : ACommandJoinsOneGroup
joins-one place front c back part is beside =
    let all = front ++ back in
    let there : list_any (is_same part) (map part_of all) ≡ true =
    ap (list_any (is_same part)) (map-append part_of front back) ∙ beside-any part (map part_of front) (map part_of back) (beside-parts part front back beside) in
    let once = stands-once part (map part_of all) there in
    let old : Part → List FileCommand = λ p. map bare (members all p) in
    let new : Part → List FileCommand = λ p. map bare (members_with place front c back p (is_same p part)) in
    let same = λ (p : Part) (apart : is_same p part ≡ false).
    ap (λ b. map bare (members_with place front c back p b)) apart ∙ bare-moved place (members all p) in
    let this : new part ≡ map bare (members front part) ++ bare c ∷ map bare (members back part) =
    ap (λ b. map bare (members_with place front c back part b)) (is-self part)
    ∙ map-append bare (map (command_moved place) (members front part)) (c ∷ map (command_moved place) (members back part))
    ∙ ap (λ r. r ++ bare c ∷ map bare (map (command_moved place) (members back part))) (bare-moved place (members front part))
    ∙ ap (λ r. map bare (members front part) ++ bare c ∷ r) (bare-moved place (members back part)) in
    record {
      before = map old once.before;
      after = map old once.after;
      old = map-map (map bare) (members all) (distinct (map part_of all)) ∙ ap (map old) once.split ∙ map-append old once.before (part ∷ once.after);
      new = ap (map (map bare)) (joins-group place front c back part is beside)
          ∙ map-map (map bare) (λ p. members_with place front c back p (is_same p part)) (distinct (map part_of all))
          ∙ ap (map new) once.split ∙ map-append new once.before (part ∷ once.after)
          ∙ ap (λ xs. xs ++ new part ∷ map new once.after) (map-apart new old part once.before once.none_before same)
          ∙ ap (λ xs. map old once.before ++ new part ∷ xs) (map-apart new old part once.after once.none_after same)
          ∙ ap (λ g. map old once.before ++ g ∷ map old once.after) this;
    }

-- what groups set, of which one is another
one-other : (h k : Option Setting) (before after gs hs : List (List FileCommand)) (group other : List FileCommand) → gs ≡ before ++ group ∷ after →
    hs ≡ before ++ other ∷ after → HasOneOther (config_from h gs) (config_from k hs) group other
one-other h k before after gs hs group other old new = record {
  faces_before = flat_map face_of before;
  faces_after = flat_map face_of after;
  lists_before = flat_map list_of before;
  lists_after = flat_map list_of after;
  process_before = flat_map process_of before;
  process_after = flat_map process_of after;
  old_faces = ap (flat_map face_of) old ∙ flat_map-append face_of before (group ∷ after);
  new_faces = ap (flat_map face_of) new ∙ flat_map-append face_of before (other ∷ after);
  old_lists = ap (flat_map list_of) old ∙ flat_map-append list_of before (group ∷ after);
  new_lists = ap (flat_map list_of) new ∙ flat_map-append list_of before (other ∷ after);
  old_process = ap (flat_map process_of) old ∙ flat_map-append process_of before (group ∷ after);
  new_process = ap (flat_map process_of) new ∙ flat_map-append process_of before (other ∷ after);
}

pub one-sets-other : OneGroupSetsOther
one-sets-other place front c back part is beside =
    let joined = joins-one place front c back part is beside in
    let group = map bare (members (front ++ back) part) in
    let other = map bare (members front part) ++ bare c ∷ map bare (members back part) in
    subst (λ (x : Config). HasOneOther x (bare_config (config_of (between place front c back))) group other) (sym (bare-groups-set (front ++ back)))
    (subst (λ (x : Config). HasOneOther (config_from (option_map bare_setting (router_name (front ++ back))) (bare_groups (front ++ back))) x group other)
    (sym (bare-groups-set (between place front c back)))
    (one-other _ _ joined.before joined.after _ _ group other joined.old joined.new))

-- the same of commands that are split at a place
pub split-sets-other : (place : ℕ) (commands : List FileCommand) (split : Split place commands) (c : FileCommand) (part : Part) → part_of c ≡ part_moved place part →
    StandsBeside part split.front split.back → HasOneOther (bare_config (config_of commands)) (bare_config (config_of (with_command place c commands)))
    (map bare (members split.front part ++ members split.back part)) (map bare (members split.front part) ++ bare c ∷ map bare (members split.back part))
split-sets-other place commands split c part is beside =
    let group = map bare (members split.front part ++ members split.back part) in
    let other = map bare (members split.front part) ++ bare c ∷ map bare (members split.back part) in
    subst (λ (cs : List FileCommand). HasOneOther (bare_config (config_of cs)) (bare_config (config_of (with_command place c commands))) group other) (sym split.parts)
    (subst (λ (cs : List FileCommand). HasOneOther (bare_config (config_of (split.front ++ split.back))) (bare_config (config_of cs)) group other) (sym (split.with_one c))
    (subst (λ (g : List FileCommand). HasOneOther (bare_config (config_of (split.front ++ split.back))) (bare_config (config_of (between place split.front c split.back))) (map bare g) other)
    (filter-append (λ d. is_same part (part_of d)) split.front split.back)
    (one-sets-other place split.front c split.back part is beside)))

-- what groups set, with one group more
one-more : (h k : Option Setting) (before after gs hs : List (List FileCommand)) (other : List FileCommand) → gs ≡ before ++ after →
    hs ≡ before ++ other ∷ after → HasOneOther (config_from h gs) (config_from k hs) [] other
one-more h k before after gs hs other old new = record {
  faces_before = flat_map face_of before;
  faces_after = flat_map face_of after;
  lists_before = flat_map list_of before;
  lists_after = flat_map list_of after;
  process_before = flat_map process_of before;
  process_after = flat_map process_of after;
  old_faces = ap (flat_map face_of) old ∙ flat_map-append face_of before after;
  new_faces = ap (flat_map face_of) new ∙ flat_map-append face_of before (other ∷ after);
  old_lists = ap (flat_map list_of) old ∙ flat_map-append list_of before after;
  new_lists = ap (flat_map list_of) new ∙ flat_map-append list_of before (other ∷ after);
  old_process = ap (flat_map process_of) old ∙ flat_map-append process_of before after;
  new_process = ap (flat_map process_of) new ∙ flat_map-append process_of before (other ∷ after);
}

pub new-sets-own : ANewGroupSetsItsOwn
new-sets-own place front c back none =
    let begun = begins-group place front c back none in
    let old : bare_groups (front ++ back) ≡ map (map bare) begun.before ++ map (map bare) begun.after =
    same-map (map bare) (λ g. map bare (map (command_moved place) g)) (groups (front ++ back)) (λ g. sym (bare-moved place g)) ∙ sym (map-map (map bare)
    (map (command_moved place)) (groups (front ++ back)))
    ∙ ap (map (map bare)) begun.old ∙ map-append (map bare) begun.before begun.after in
    let new : bare_groups (between place front c back) ≡ map (map bare) begun.before ++ (bare c ∷ []) ∷ map (map bare) begun.after =
    ap (map (map bare)) begun.new ∙ map-append (map bare) begun.before ((c ∷ []) ∷ begun.after) in
    subst (λ (x : Config). HasOneOther x (bare_config (config_of (between place front c back))) [] (bare c ∷ [])) (sym (bare-groups-set (front ++ back)))
    (subst (λ (x : Config). HasOneOther (config_from (option_map bare_setting (router_name (front ++ back))) (bare_groups (front ++ back))) x [] (bare c ∷ []))
    (sym (bare-groups-set (between place front c back)))
    (one-more _ _ (map (map bare) begun.before) (map (map bare) begun.after) _ _ (bare c ∷ []) old new))
