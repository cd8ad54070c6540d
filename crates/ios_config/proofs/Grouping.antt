-- One step of the grouping of commands.
use Rattle.std.proofs.Common.{◌≡◌, ℕ, ◌+◌, ◌<◌, true, false, List, [], ◌∷◌, ◌++◌, map, length, get_or, set, take, sym, ◌∙◌, ap, subst, if◌then◌else◌, Vec}
use Rattle.std.specs.List.{list_any, position_or_len}
use Rattle.std.specs.declared.alloc.Global.{Global}
use denote.Ref.{Bor}
use Rattle.std.proofs.lemmas.List.{map-append, map-set, get_or-map, length-map, set_at, get_or_at, take_more}
use Rattle.indexmap.specs.IndexSet.{insert_key}
use Rattle.ios_config.specs.declared.commands.FileCommand.{FileCommand}
use Rattle.ios_config.specs.declared.parts.Part as keys
use Rattle.ios_config.specs.Groups.{is_same, part_of, distinct, members, groups}
use Rattle.ios_config.specs.Seen.{part_seen, commands_seen, group_list}
use Rattle.ios_config.proofs.Keys.{eq_part, eq_part-same, any_tied, position_tied, insert_tied, position_past}
use Rattle.ios_config.proofs.PartLists.{distinct_more, groups_new, groups_old}

-- the keys and the groups are those of these commands
pub record AreGroups (cs : List FileCommand) (ks : List keys.Part) (gs : List (Vec (Bor FileCommand) Global)) : Type 0 where
  pub same_parts : map part_seen ks ≡ distinct (map part_of cs)
  pub same_groups : group_list gs ≡ groups cs

module _ (cs : List FileCommand) (c : FileCommand) (ks ls : List keys.Part) (k : keys.Part) (gs : List (Vec (Bor FileCommand) Global)) (are : AreGroups cs ks gs)
    (key : part_seen k ≡ part_of c) (added : ls ≡ insert_key eq_part ks k) where
  long : length ks ≡ length gs
  long =
      let a : length (map part_seen ks) ≡ length ks = length-map ks part_seen in
      let b : length (map (members cs) (distinct (map part_of cs))) ≡ length (distinct (map part_of cs)) = length-map (distinct (map part_of cs)) (members cs) in
      let d : length (group_list gs) ≡ length gs = length-map gs (λ (g : Vec (Bor FileCommand) Global). map (λ (x : Bor FileCommand). x.now) g.items) in
      sym a ∙ ap length are.same_parts ∙ sym b ∙ ap length (sym are.same_groups) ∙ d

  -- the test of the index
  found : list_any (eq_part k) ks ≡ list_any (is_same (part_of c)) (distinct (map part_of cs))
  found = any_tied eq_part part_seen is_same eq_part-same ks k ∙ (λ i. list_any (is_same (key i)) (are.same_parts i))

  place_is : position_or_len (eq_part k) ks ≡ position_or_len (is_same (part_of c)) (distinct (map part_of cs))
  place_is = position_tied eq_part part_seen is_same eq_part-same ks k ∙ (λ i. position_or_len (is_same (key i)) (are.same_parts i))

  parts_more : map part_seen ls ≡ distinct (map part_of (cs ++ c ∷ []))
  parts_more =
      insert_tied eq_part part_seen is_same eq_part-same ks ls k added ∙
      (λ i. if list_any (is_same (key i)) (are.same_parts i) then are.same_parts i else are.same_parts i ++ key i ∷ []) ∙
      sym (ap distinct (map-append part_of cs (c ∷ [])) ∙ distinct_more (map part_of cs) (part_of c))

  -- that of a new one is the next
  pub new_next : list_any (eq_part k) ks ≡ false → position_or_len (eq_part k) ks ≡ length gs
  new_next e = position_past (eq_part k) ks e ∙ long

  -- the command of a part that was there joins its group
  pub joins : (hs : List (Vec (Bor FileCommand) Global)) (place : ℕ) → place ≡ position_or_len (eq_part k) ks → list_any (eq_part k) ks ≡ true →
      group_list hs ≡ set (group_list gs) place (get_or (group_list gs) place [] ++ c ∷ []) → AreGroups (cs ++ c ∷ []) ls hs
  joins hs place at e grown = record {
    same_parts = parts_more;
    same_groups = grown ∙ (λ i. set (are.same_groups i) ((at ∙ place_is) i) (get_or (are.same_groups i) ((at ∙ place_is) i) [] ++ c ∷ [])) ∙ sym (groups_old cs c (sym found ∙ e));
  }

  -- the command of a new part begins a group
  pub begins : (ms hs : List (Vec (Bor FileCommand) Global)) (place : ℕ) → place ≡ position_or_len (eq_part k) ks → list_any (eq_part k) ks ≡ false →
      group_list ms ≡ group_list gs ++ [] ∷ [] → group_list hs ≡ set (group_list ms) place (get_or (group_list ms) place [] ++ c ∷ []) → AreGroups (cs ++ c ∷ []) ls hs
  begins ms hs place at e pushed grown =
      let next : length (group_list gs) ≡ place =
      length-map gs (λ (g : Vec (Bor FileCommand) Global). map (λ (x : Bor FileCommand). x.now) g.items) ∙ sym (at ∙ new_next e) in
      record {
        same_parts = parts_more;
        same_groups = grown ∙ ap (λ m. set m place (get_or m place [] ++ c ∷ [])) pushed ∙
            ap (λ g. set (group_list gs ++ [] ∷ []) place (g ++ c ∷ [])) (get_or_at (group_list gs) [] [] [] place next) ∙
            set_at (group_list gs) [] [] (c ∷ []) place next ∙
            ap (λ g. g ++ (c ∷ []) ∷ []) are.same_groups ∙ sym (groups_new cs c (sym found ∙ e));
      }

-- a group with one more command
pub gains : (gs : List (Vec (Bor FileCommand) Global)) (place : ℕ) (old new : Vec (Bor FileCommand) Global) (c : Bor FileCommand) → place < length gs → old ≡ get_or gs place old →
    new.items ≡ old.items ++ c ∷ [] → group_list (set gs place new) ≡ set (group_list gs) place (get_or (group_list gs) place [] ++ c.now ∷ [])
gains gs place old new c h is grown =
    let seen : Vec (Bor FileCommand) Global → List FileCommand = λ g. commands_seen g.items in
    let here : commands_seen old.items ≡ get_or (group_list gs) place [] = ap seen is ∙ sym (get_or-map seen gs place old [] h) in
    let items : commands_seen new.items ≡ get_or (group_list gs) place [] ++ c.now ∷ [] =
    ap commands_seen grown ∙ map-append (λ (x : Bor FileCommand). x.now) old.items (c ∷ []) ∙ ap (λ l. l ++ c.now ∷ []) here in
    map-set seen gs place new ∙ ap (set (group_list gs) place) items

-- the command at a place of the loop over them
module _ (all : List FileCommand) (i : ℕ) (c : FileCommand) (h : i < length all) (is : c ≡ get_or all i c) where
  pub grouped : (ls : List keys.Part) (hs : List (Vec (Bor FileCommand) Global)) → AreGroups (take i all ++ c ∷ []) ls hs → AreGroups (take (i + 1) all) ls hs
  grouped ls hs are = subst (λ l. AreGroups l ls hs) (sym (take_more all i c h ∙ ap (λ d. take i all ++ d ∷ []) (sym is))) are
