-- Lines that are put one after another at the end of a process.
use Rattle.std.proofs.Common.{◌≡◌, ℕ, zero, suc, ◌+◌, ◌<◌, ◌≤◌, ◌⊎◌, inl, inr, Bool, true, false, List, [], ◌∷◌}
use Rattle.std.proofs.Common.{◌++◌, length, map, take, drop, refl, sym, ap, subst, ◌∙◌, arith, ⊎_elim, Contains, append_assoc, append-nil, nat_le}
use Rattle.std.proofs.lemmas.Bool.{leb-false, cond-true, cond-false}
use Rattle.std.proofs.lemmas.List.{take-append-drop}
use Rattle.ios_lines.specs.Changes.{inserted, moved}
use Rattle.ios_lines.proofs.Insertions.{moved-low}
use Rattle.ios_words.specs.declared.kinds.BlockKind.{BlockKind}
use Rattle.ios_words.specs.declared.kinds.BlockKind.TheVariants as kinds
use Rattle.ios_words.specs.declared.commands.Command.{Command}
use Rattle.ios_words.specs.declared.commands.Command.TheVariants as commands
use Rattle.ios_config.specs.declared.commands.FileCommand.{FileCommand}
use Rattle.ios_config.specs.declared.settings.Config.{Config}
use Rattle.ios_config.specs.declared.settings.FaceText.{FaceText}
use Rattle.ios_config.specs.declared.settings.ListText.{ListText}
use Rattle.ios_config.specs.declared.settings.ProcessText.{ProcessText}
use Rattle.ios_config.specs.Appended.{HasBlock}
use Rattle.ios_config.specs.Bare.{bare, bare_config, bare_process, bare_given, HasOneOther}
use Rattle.ios_config.specs.Commands.{opened_by}
use Rattle.ios_config.specs.Effects.{process_with}
use Rattle.ios_config.specs.Groups.{Block, part_in, part_of, members}
use Rattle.ios_config.specs.Inserted.{command_moved, command_at, with_command}
use Rattle.ios_config.specs.LineLists.{marks_in, AreCommandsIn}
use Rattle.ios_config.specs.ProcessLines.{AreLinesIn, IsProcessKind, inserted_all, unnumbered, with_lines, HasLonger, AreAppendedIn, ProcessLinesAreAppended}
use Rattle.ios_config.specs.Texts.{config_of, process_of, face_by, list_by, process_by}
use Rattle.ios_config.specs.Twice.{StandOnce}
use Rattle.ios_config.proofs.AppendedLines.{part-head}
use Rattle.ios_config.proofs.EffectsOnGroups.{last-line, still-once, silent}
use Rattle.ios_config.proofs.HeadsFirst.{part-block, head-first, one-more-command}
use Rattle.ios_config.proofs.HostnameStays.{hostname-stays}
use Rattle.ios_config.proofs.InsertedCommands.{marks-split}
use Rattle.ios_config.proofs.LineLists.{appended-in}

no-face : (command : Command) (within : BlockKind) → opened_by command ≡ within → IsProcessKind within → (line : ℕ) (block : List FileCommand) → face_by command line block ≡ []
no-face (commands.Interface name) within opens is line block = absurd (⊎_elim (λ (o : within ≡ kinds.Ospf). clash-ospf (opens ∙ o)) (λ (b : within ≡ kinds.Bgp). clash-bgp (opens ∙ b)) is)
  where
    clash-ospf : kinds.Interface ≡ kinds.Ospf → ⊥
    clash-ospf e = absurd cc

    clash-bgp : kinds.Interface ≡ kinds.Bgp → ⊥
    clash-bgp e = absurd cc
no-face _ within opens is line block = refl

other-kinds : (within kind : BlockKind) → IsProcessKind within → kind ≡ within → (kind ≡ kinds.Ospf) ⊎ (kind ≡ kinds.Bgp)
other-kinds within kind is same = ⊎_elim (λ (o : within ≡ kinds.Ospf). inl (same ∙ o)) (λ (b : within ≡ kinds.Bgp). inr (same ∙ b)) is

not-extended : (kinds.Extended ≡ kinds.Ospf) ⊎ (kinds.Extended ≡ kinds.Bgp) → ⊥
not-extended (inl e) = absurd cc
not-extended (inr e) = absurd cc

not-standard : (kinds.Standard ≡ kinds.Ospf) ⊎ (kinds.Standard ≡ kinds.Bgp) → ⊥
not-standard (inl e) = absurd cc
not-standard (inr e) = absurd cc

not-inert : (kinds.Inert ≡ kinds.Ospf) ⊎ (kinds.Inert ≡ kinds.Bgp) → ⊥
not-inert (inl e) = absurd cc
not-inert (inr e) = absurd cc

no-list : (command : Command) (within : BlockKind) → opened_by command ≡ within → IsProcessKind within → (block : List FileCommand) → list_by command block ≡ []
no-list (commands.ListBlock true name) within opens is block = absurd (not-extended (other-kinds within kinds.Extended is opens))
no-list (commands.ListBlock false name) within opens is block = absurd (not-standard (other-kinds within kinds.Standard is opens))
no-list (commands.ListLine name entry) within opens is block = absurd (not-inert (other-kinds within kinds.Inert is opens))
no-list (commands.PrefixLine name number entry) within opens is block = absurd (not-inert (other-kinds within kinds.Inert is opens))
no-list _ within opens is block = refl

-- the process that it is
one-process : (command : Command) (within : BlockKind) → opened_by command ≡ within → IsProcessKind within → (head : FileCommand) (rest : List FileCommand) →
    (q : ProcessText) × (process_by command head rest ≡ q ∷ [])
one-process (commands.RouterOspf number) within opens is head rest = (_, refl)
one-process (commands.RouterBgp number) within opens is head rest = (_, refl)
one-process (commands.Interface name) within opens is head rest = absurd (not-interface (other-kinds within kinds.Interface is opens))
  where
    not-interface : (kinds.Interface ≡ kinds.Ospf) ⊎ (kinds.Interface ≡ kinds.Bgp) → ⊥
    not-interface (inl e) = absurd cc
    not-interface (inr e) = absurd cc
one-process (commands.ListBlock true name) within opens is head rest = absurd (not-extended (other-kinds within kinds.Extended is opens))
one-process (commands.ListBlock false name) within opens is head rest = absurd (not-standard (other-kinds within kinds.Standard is opens))
one-process _ within opens is head rest = absurd (not-inert (other-kinds within kinds.Inert is opens))

-- one item between others is all of a list of one
alone : {X : Type 0} (before after : List X) (q p : X) → before ++ (q ∷ [] ++ after) ≡ p ∷ [] → (before ≡ []) × (after ≡ [])
alone {X} [] [] q p is = (refl, refl)
alone {X} [] (x ∷ after) q p is = absurd (two (ap length is))
  where
    two : length (q ∷ x ∷ after) ≡ 1 → ⊥
    two e = absurd (omega arith)
alone {X} (x ∷ before) after q p is = absurd (two (ap length is))
  where
    size : (xs : List X) → length (xs ++ (q ∷ [] ++ after)) ≡ length xs + (1 + length after)
    size [] = omega arith
    size (y ∷ xs) = let deeper = size xs in omega arith

    two : length (x ∷ before ++ (q ∷ [] ++ after)) ≡ 1 → ⊥
    two e = let more = size before in absurd (omega arith)

-- one line more
module _ (old new : Config) (h : FileCommand) (rest : List FileCommand) (command : Command) (within : BlockKind) (opens : opened_by h.command ≡ within) (is : IsProcessKind within)
    (p : ProcessText) where
  abbrev c : FileCommand
  c = record { line = 0; block = 0; command = command }

  one-longer : HasOneOther old new (h ∷ rest) (h ∷ rest ++ c ∷ []) → new.hostname ≡ old.hostname → old.process ≡ p ∷ [] → HasLonger old new (command ∷ [])
  one-longer other named one =
      let gone = one-process h.command within opens is h rest in
      let q = gone.0 in
      let there : process_of (h ∷ rest) ≡ q ∷ [] = gone.1 in
      let none = alone other.process_before other.process_after q p (ap (λ (l : List ProcessText). other.process_before ++ (l ++ other.process_after)) (sym there) ∙ sym other.old_process ∙ one) in
      let around : (l : List ProcessText) → other.process_before ++ (l ++ other.process_after) ≡ l =
      λ l. ap (λ (x : List ProcessText). x ++ (l ++ other.process_after)) none.0 ∙ ap (λ (x : List ProcessText). l ++ x) none.1 ∙ append-nil l in
      record {
        hostname = named;
        faces = other.new_faces ∙ ap (λ (l : List FaceText). other.faces_before ++ (l ++ other.faces_after))
            (no-face h.command within opens is h.line (h ∷ rest ++ c ∷ []) ∙ sym (no-face h.command within opens is h.line (h ∷ rest))) ∙ sym other.old_faces;
        lists = other.new_lists ∙ ap (λ (l : List ListText). other.lists_before ++ (l ++ other.lists_after))
            (no-list h.command within opens is (h ∷ rest ++ c ∷ []) ∙ sym (no-list h.command within opens is (h ∷ rest))) ∙ sym other.old_lists;
        process =
            other.new_process ∙ around (process_of (h ∷ rest ++ c ∷ [])) ∙ last-line h rest c ∙ ap (map (process_with c)) there ∙
            ap (map (with_lines (command ∷ []))) (sym there ∙ sym (around (process_of (h ∷ rest))) ∙ sym other.old_process);
      }

-- a number that stays low was no other
moved-back : (place n m : ℕ) → moved place n ≡ m → m ≤ place → n ≡ m
moved-back place n m is low = by (nat_le n place) refl
  where
    by : (t : Bool) → nat_le n place ≡ t → n ≡ m
    by true e = sym (cond-true (nat_le n place) n (n + 1) e) ∙ is
    by false e = let over : place < n = leb-false n place e in let next : n + 1 ≡ m = sym (cond-false (nat_le n place) n (n + 1) e) ∙ is in absurd (omega arith)

moved-same : (place : ℕ) (c : FileCommand) → c.line ≤ place → c.block ≤ place → command_moved place c ≡ c
moved-same place c line block = λ i. record { line = moved-low place c.line line i; block = moved-low place c.block block i; command = c.command }

-- the new command is the last of the block
next-block : (lines : List (List ℕ)) (cs : List FileCommand) (head last : FileCommand) (within : BlockKind) (command : Command) → AreCommandsIn lines cs → (b : HasBlock cs head last within) →
    HasBlock (with_command last.line (command_at (last.line + 1) head.line command) cs) head (command_at (last.line + 1) head.line command) within
next-block lines cs head last within command are b =
    let place = last.line in
    let c = command_at (place + 1) head.line command in
    let one = one-more-command place c cs (marks-split (marks_in lines) cs place are.reads) in
    let own : part_of head ≡ Block head.line = part-head head.block head.command within b.opens b.known ∙ ap Block b.own in
    let early : head.line ≤ place = b.latest head b.among own in
    let stays : command_moved place head ≡ head = moved-same place head early (let same = b.own in omega arith) in
    record {
      among = subst (Contains (with_command place c cs)) stays (one.keeps head b.among);
      own = b.own;
      some = b.some;
      opens = b.opens;
      known = b.known;
      last_among = one.has;
      last_block = refl;
      latest = λ d there part. ⊎_elim
          (λ (here : d ≡ c). let line : d.line ≡ place + 1 = ap (λ (x : FileCommand). x.line) here in omega arith)
          (λ old. low early d old part)
          (one.others d there);
    }
  where
    low : head.line ≤ last.line → (d : FileCommand) → ((e : FileCommand) × Contains cs e × (command_moved last.line e ≡ d)) → part_of d ≡ Block head.line → d.line ≤ last.line + 1
    low early d (e, there, same) part =
        let within_moved : part_in (moved last.line e.block) e.command ≡ Block head.line = ap part_of same ∙ part in
        let block : moved last.line e.block ≡ head.line = part-block (moved last.line e.block) head.line e.command within_moved in
        let back : e.block ≡ head.line = moved-back last.line e.block head.line block early in
        let part_e : part_of e ≡ Block head.line = ap (λ n. part_in n e.command) (back ∙ sym block) ∙ within_moved in
        let late : e.line ≤ last.line = b.latest e there part_e in
        let line : moved last.line e.line ≡ d.line = ap (λ (x : FileCommand). x.line) same in
        let stays : moved last.line e.line ≡ e.line = moved-low last.line e.line late in
        omega arith

-- lines and lists, put together again
take-next : {A : Type 0} (place : ℕ) (a : A) (xs : List A) → place ≤ length xs → take (suc place) (inserted place a xs) ≡ take place xs ++ a ∷ []
take-next zero a xs low = refl
take-next (suc place) a [] low = absurd (omega arith)
take-next (suc place) a (x ∷ xs) low = ap (λ l. x ∷ l) (take-next place a xs (omega arith))

take-inserted : {A : Type 0} (place : ℕ) (a : A) (xs : List A) → place ≤ length xs → take (place + 1) (inserted place a xs) ≡ take place xs ++ a ∷ []
take-inserted place a xs low = let next : place + 1 ≡ suc place = omega arith in ap (λ n. take n (inserted place a xs)) next ∙ take-next place a xs low

drop-next : {A : Type 0} (place : ℕ) (a : A) (xs : List A) → place ≤ length xs → drop (suc place) (inserted place a xs) ≡ drop place xs
drop-next zero a xs low = refl
drop-next (suc place) a [] low = absurd (omega arith)
drop-next (suc place) a (x ∷ xs) low = drop-next place a xs (omega arith)

drop-inserted : {A : Type 0} (place : ℕ) (a : A) (xs : List A) → place ≤ length xs → drop (place + 1) (inserted place a xs) ≡ drop place xs
drop-inserted place a xs low = let next : place + 1 ≡ suc place = omega arith in ap (λ n. drop n (inserted place a xs)) next ∙ drop-next place a xs low

inserted-more : {A : Type 0} (place : ℕ) (a : A) (added xs : List A) → place ≤ length xs → inserted_all (place + 1) added (inserted place a xs) ≡ inserted_all place (a ∷ added) xs
inserted-more place a added xs low =
    ap (λ l. l ++ (added ++ drop (place + 1) (inserted place a xs))) (take-inserted place a xs low) ∙ ap (λ l. (take place xs ++ a ∷ []) ++ (added ++ l)) (drop-inserted place a xs low) ∙
    append_assoc (take place xs) (a ∷ []) (added ++ drop place xs)

none-longer : (ps : List ProcessText) → map bare_process ps ≡ map (with_lines []) (map bare_process ps)
none-longer [] = refl
none-longer (p ∷ ps) = λ i. bare-same p i ∷ none-longer ps i
  where
    bare-same : (p : ProcessText) → bare_process p ≡ with_lines [] (bare_process p)
    bare-same p = λ i. record { kind = p.kind; number = p.number; head = 0; last = 0; lines = sym (append-nil (map bare_given p.lines)) i }

more-longer : (m : Command) (more : List Command) (ps : List ProcessText) → map (with_lines more) (map (with_lines (m ∷ [])) ps) ≡ map (with_lines (m ∷ more)) ps
more-longer m more [] = refl
more-longer m more (p ∷ ps) = λ i. one p i ∷ more-longer m more ps i
  where
    one : (p : ProcessText) → with_lines more (with_lines (m ∷ []) p) ≡ with_lines (m ∷ more) p
    one p = λ i. record { kind = p.kind; number = p.number; head = p.head; last = 0; lines = append_assoc p.lines (unnumbered m ∷ []) (map unnumbered more) i }

appended-lines : (lines : List (List ℕ)) (cs : List FileCommand) (head last : FileCommand) (within : BlockKind) (process : ProcessText) (added : List (List ℕ)) (more : List Command) →
    AreCommandsIn lines cs → HasBlock cs head last within →
    IsProcessKind within → (bare_config (config_of cs)).process ≡ process ∷ [] → AreLinesIn within head.line added more → AreAppendedIn lines cs last.line added more
appended-lines lines cs head last within process [] [] are b is one of = record {
  all = cs;
  may = tt;
  changed = sym (take-append-drop last.line lines);
  stands = subst (λ (ls : List (List ℕ)). AreCommandsIn ls cs) (sym (take-append-drop last.line lines)) are;
  longer = record { hostname = refl; faces = refl; lists = refl; process = none-longer (config_of cs).process };
  once = λ once. once;
}
appended-lines lines cs head last within process [] (m ∷ more) are b is one of = absurd of
appended-lines lines cs head last within process (a ∷ added) [] are b is one of = absurd of
appended-lines lines cs head last within process (a ∷ added) (m ∷ more) are b is one of =
    let place = last.line in
    let c = command_at (place + 1) head.line m in
    let r = appended-in lines cs head last within a m are b of.0.0 in
    let quiet = of.0.1 in
    let split = marks-split (marks_in lines) cs place are.reads in
    let ds = with_command place c cs in
    let own : part_of head ≡ Block head.line = part-head head.block head.command within b.opens b.known ∙ ap Block b.own in
    let first = head-first lines cs head are b.among own in
    let group : map bare (members cs (Block head.line)) ≡ bare head ∷ map bare first.0 = ap (map bare) first.1 in
    let tail : List FileCommand = record { line = 0; block = 0; command = m } ∷ [] in
    let sets : HasOneOther (bare_config (config_of cs)) (bare_config (config_of ds)) (bare head ∷ map bare first.0) ((bare head ∷ map bare first.0) ++ tail) =
    subst (λ (g : List FileCommand). HasOneOther (bare_config (config_of cs)) (bare_config (config_of ds)) g (g ++ tail)) group r.sets in
    let named : (bare_config (config_of ds)).hostname ≡ (bare_config (config_of cs)).hostname =
    ap (λ (l : List FileCommand). (bare_config (config_of l)).hostname) (split.with_one c) ∙ hostname-stays place split.front c split.back quiet.unnamed
    ∙ ap (λ (l : List FileCommand). (bare_config (config_of l)).hostname) (sym split.parts) in
    let longer = one-longer (bare_config (config_of cs)) (bare_config (config_of ds)) (bare head) (map bare first.0) m within b.opens is process sets named one in
    let one_still : (bare_config (config_of ds)).process ≡ with_lines (m ∷ []) process ∷ [] = longer.process ∙ ap (map (with_lines (m ∷ []))) one in
    let deeper = appended-lines (inserted place a lines) ds head c within (with_lines (m ∷ []) process) added more r.stands (next-block lines cs head last within m are b) is one_still of.1 in
    record {
      all = deeper.all;
      may = (r.may, deeper.may);
      changed = deeper.changed ∙ inserted-more place a added lines r.may.within;
      stands = subst (λ (ls : List (List ℕ)). AreCommandsIn ls deeper.all) (inserted-more place a added lines r.may.within) deeper.stands;
      longer = record {
        hostname = deeper.longer.hostname ∙ longer.hostname;
        faces = deeper.longer.faces ∙ longer.faces;
        lists = deeper.longer.lists ∙ longer.lists;
        process = deeper.longer.process ∙ ap (map (with_lines more)) longer.process ∙ more-longer m more (bare_config (config_of cs)).process;
      };
      once = λ once. deeper.once (subst StandOnce (sym (split.with_one c)) (still-once place split.front c split.back (subst StandOnce split.parts once)
          (λ d there. (silent m d.command quiet.stands quiet.excludes).1)
          (λ d there. (silent m d.command quiet.stands quiet.excludes).0)));
    }

pub process-lines : ProcessLinesAreAppended
process-lines = appended-lines
