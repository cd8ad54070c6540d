-- A written line of a process is one of its block; and numbers of entries rise as those of lists that are the same but for lines.
use Rattle.std.proofs.Common.{◌≡◌, ℕ, ◌+◌, false, List, map, refl, sym, ◌∙◌, ap, subst}
use Rattle.std.specs.List.{AllZip}
use Rattle.ios_lines.specs.Kinds.{IsInner}
use Rattle.ios_words.specs.Plain.{plain_line, IsReadBack}
use Rattle.ios_words.specs.declared.commands.Command.{Command}
use Rattle.ios_words.specs.declared.kinds.BlockKind.{BlockKind}
use Rattle.patch_laws.proofs.PlainWritten.{plain-reads}
use Rattle.ios_config.specs.declared.settings.Given.{Given}
use Rattle.ios_config.specs.declared.settings.ListText.{ListText}
use Rattle.ios_config.specs.Appended.{IsLineOf}
use Rattle.ios_config.specs.Bare.{bare_given, bare_list}
use Rattle.ios_config.specs.Groups.{Block, part_in}
use Rattle.ios_config.specs.ProcessLines.{IsQuiet}
use Rattle.ios_config.specs.Rising.{FallsAt, NumbersRise, rises}
use Rattle.ios_config.specs.Texts.{entry_number}
use Rattle.net_model.proofs.Readings.{item_at_place, place_of_item}
use Rattle.settings_edit_laws.proofs.Pairs.{maps_agree}
use Rattle.arc_base.proofs.Zips.{AllZip-left}
use Rattle.settings_edit_laws.proofs.Pairs.{any_of, of_any}
use Rattle.settings_edit_laws.proofs.Untouched.{map_same}

-- two lists that are the same after a map go together
maps_agree_one : {X Z : Type 0} (f : X → Z) (xs ys : List X) → map f ys ≡ map f xs → AllZip (λ x y. f y ≡ f x) xs ys
maps_agree_one {X} {Z} f xs ys e = maps_agree f (λ (z : Z). z) f xs ys (e ∙ sym (map_same (λ (z : Z). z) (λ z. refl) (map f xs)))

-- a written line of a process is one of its block
pub inner_is : (within : BlockKind) (block : ℕ) (command : Command) → IsReadBack within command → IsInner (plain_line within command) → part_in block command ≡ Block block → IsQuiet command →
    IsLineOf (plain_line within command) within block command × IsQuiet command
inner_is within block command l inner part quiet = (
  record { inner = inner; reads = plain-reads within command l; part = part },
  quiet,
)

-- numbers rise in lists that are the same but for their lines
same_falls : (l m : ListText) → bare_list m ≡ bare_list l → (line : ℕ) → FallsAt m.entries line → (other : ℕ) × FallsAt l.entries other
same_falls l m same line f =
    let all : AllZip (λ (g h : Given Command). bare_given h ≡ bare_given g) l.entries m.entries = bare_zip l.entries m.entries (ap (λ (x : ListText). x.entries) same) in
    let first = AllZip-left (λ (g h : Given Command). bare_given h ≡ bare_given g) l.entries m.entries all f.place f.earlier f.at_place in
    let second = AllZip-left (λ (g h : Given Command). bare_given h ≡ bare_given g) l.entries m.entries all (f.place + 1) f.later f.at_next in
    let one : f.earlier.value ≡ first.0.value = ap (λ (g : Given Command). g.value) first.2 in
    let two : f.later.value ≡ second.0.value = ap (λ (g : Given Command). g.value) second.2 in (
      second.0.line,
      record {
        place = f.place;
        earlier = first.0;
        at_place = first.1;
        later = second.0;
        at_next = second.1;
        falls = subst (λ (c : Command). rises (entry_number first.0.value) (entry_number c) ≡ false) two
            (subst (λ (c : Command). rises (entry_number c) (entry_number f.later.value) ≡ false) one f.falls);
        is_line = refl;
      },
    )
  where
    bare_zip : (gs hs : List (Given Command)) → map bare_given hs ≡ map bare_given gs → AllZip (λ (g h : Given Command). bare_given h ≡ bare_given g) gs hs
    bare_zip gs hs e = maps_agree_one bare_given gs hs e

pub rising_stays : (ls ms : List ListText) → map bare_list ms ≡ map bare_list ls → NumbersRise ls → NumbersRise ms
rising_stays ls ms same rise line bad =
    let b = of_any (λ (list : ListText). FallsAt list.entries line) ms bad in
    let at = place_of_item ms b.0 b.1 in
    let first = AllZip-left (λ (l m : ListText). bare_list m ≡ bare_list l) ls ms (maps_agree_one bare_list ls ms same) at.0 b.0 at.1 in
    let falls = same_falls first.0 b.0 first.2 line b.2 in
    rise falls.0 (any_of (λ (list : ListText). FallsAt list.entries falls.0) ls first.0 (item_at_place ls at.0 first.0 first.1) falls.1)
