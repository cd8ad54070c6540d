-- An interface that commands set has its block among them.
use Rattle.std.proofs.Common.{◌≡◌, ◌≢◌, ℕ, List, [], ◌∷◌, map, sym, ap, subst, ◌∙◌, arith, ⊎_elim, Contains}
use Rattle.arc_base.proofs.Items.{Contains-cases, Contains-none, Contains-head, Contains-filter, from_map, from_piece, from_filter}
use Rattle.ios_words.specs.declared.kinds.BlockKind.TheVariants as kinds
use Rattle.ios_words.specs.Laws.{heads_block}
use Rattle.ios_words.specs.declared.commands.Command.{Command}
use Rattle.ios_words.specs.declared.commands.Command.TheVariants as commands
use Rattle.ios_config.specs.declared.commands.FileCommand.{FileCommand}
use Rattle.ios_config.specs.declared.settings.FaceText.{FaceText}
use Rattle.ios_config.specs.Commands.{opened_by}
use Rattle.ios_config.specs.Groups.{Part, Block, is_same, part_of, members, distinct, groups}
use Rattle.ios_config.specs.LineLists.{marks_in, AreCommandsIn}
use Rattle.ios_config.specs.Texts.{last_line, face_of, face_by}
use Rattle.ios_config.proofs.AppendedLines.{part-head}
use Rattle.ios_config.proofs.HeadsFirst.{part-block}
use Rattle.ios_config.proofs.JoinedParts.{is-self}
use Rattle.ios_config.proofs.LineLists.{command-spot}
use Rattle.ios_config.proofs.LinesBefore.{Rising, rising-from}
use Rattle.ios_config.proofs.OwnBlocks.{own-block}
use Rattle.ios_config.proofs.PartLists.{is_same-Decides}
use Rattle.ios_config.proofs.ProcessBlocks.{rising-filter, last-of}
use Rattle.patch_laws.specs.FaceBlocks.{HasFaceBlock, FacesHaveBlocks}

record IsFaceOf (command : Command) (h : FileCommand) (t : List FileCommand) (face : FaceText) : Type 0 where
  is : command ≡ commands.Interface face.name
  head : face.head ≡ h.line
  last : face.last ≡ last_line (h ∷ t)

face-is : (command : Command) (h : FileCommand) (t : List FileCommand) (face : FaceText) → Contains (face_by command h.line (h ∷ t)) face → IsFaceOf command h t face
face-is (commands.Interface name) h t face there = ⊎_elim
    (λ here. record {
      is = ap (λ (f : FaceText). commands.Interface f.name) here;
      head = ap (λ (f : FaceText). f.head) (sym here);
      last = ap (λ (f : FaceText). f.last) (sym here);
    })
    (λ none. absurd (Contains-none face none))
    (Contains-cases _ face [] there)
face-is _ h t face there = absurd (Contains-none face there)

known-face : kinds.Interface ≢ kinds.Inert
known-face e = absurd cc

block-of : (lines : List (List ℕ)) (cs : List FileCommand) (face : FaceText) (part : Part) (group : List FileCommand) → AreCommandsIn lines cs → members cs part ≡ group →
    Contains (face_of group) face → HasFaceBlock cs face
block-of lines cs face part [] are is there = absurd (Contains-none face there)
block-of lines cs face part (h ∷ t) are is there =
    let p = face-is h.command h t face there in
    let in_group : Contains (members cs part) h = subst (λ (g : List FileCommand). Contains g h) (sym is) (Contains-head h t) in
    let (among, same) = from_filter (λ (c : FileCommand). is_same part (part_of c)) cs h in_group in
    let own : h.block ≡ h.line = own-block lines cs h are among (ap heads_block p.is) in
    let opens : opened_by h.command ≡ kinds.Interface = ap opened_by p.is in
    let spot = command-spot lines cs h are among in
    let part_h : part_of h ≡ Block h.line = part-head h.block h.command kinds.Interface opens known-face ∙ ap Block own in
    let part_is : part ≡ Block h.line = (is_same-Decides part (part_of h)).0 same ∙ part_h in
    let up = rising-filter (λ (c : FileCommand). is_same part (part_of c)) 1 cs (rising-from (marks_in lines) 1 (marks_in lines) cs are.reads) in
    let (last, l) = last-of 1 h t (subst (Rising 1) is up) in
    let in_last : Contains (members cs part) last = subst (λ (g : List FileCommand). Contains g last) (sym is) l.among in
    let (last_among, last_same) = from_filter (λ (c : FileCommand). is_same part (part_of c)) cs last in_last in
    record {
      head = h;
      last = last;
      block = record {
        among = among;
        own = own;
        some = λ none. let row = spot.line in let zero_line : h.line ≡ 0 = sym own ∙ none in absurd (omega arith);
        opens = opens;
        known = known-face;
        last_among = last_among;
        last_block = part-block last.block h.line last.command (sym ((is_same-Decides part (part_of last)).0 last_same) ∙ part_is);
        latest = λ d has part_d. l.latest d (subst (λ (g : List FileCommand). Contains g d) is
            (Contains-filter (λ (c : FileCommand). is_same part (part_of c)) cs d has (ap (is_same part) (part_d ∙ sym part_is) ∙ is-self part)));
      };
      name = p.is;
      head_line = p.head;
      last_line = p.last ∙ l.line;
    }

pub face-blocks : FacesHaveBlocks
face-blocks lines cs face are there =
    let (group, in_groups, in_face) = from_piece face_of (groups cs) face there in
    let (part, in_parts, is) = from_map (members cs) (distinct (map part_of cs)) group in_groups in
    block-of lines cs face part group are is in_face
