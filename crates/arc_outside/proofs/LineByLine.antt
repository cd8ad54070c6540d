-- Reading a file line by line.
use Rattle.std.proofs.Common.{◌≡◌, ◌≢◌, ℕ, ◌+◌, ◌≤◌, ◌==◌, Bool, true, false, not, List, [], ◌++◌, length, drop, drop-drop, sym, ◌∙◌, ap, ap₂, subst, arith, inr}
use Rattle.std.specs.Prelude.{Option, Some, None, Ok, IfSome, unwrap_or}
use Rattle.std.proofs.lemmas.Bool.Decides.{nat_tests}
use Rattle.std.proofs.lemmas.List.{append-nil, append_assoc, drop_all, nil_from_length, take_all, take-append-drop}
use Rattle.std.proofs.lemmas.List.Elements.{All-append}
use Rattle.arc_outside.specs.Files.{Files}
use Rattle.arc_outside.specs.Lines.{IsUnbroken, TakesFront}
use Rattle.arc_outside.specs.LinesRead.{left, ReadsLine}
use Rattle.arc_outside.specs.Reads.{AreNextBytes, Reads}
use Rattle.arc_outside.specs.declared.pieces.Pieces.{Pieces}

-- of what was left before, the line has the first bytes, and the window and the rest of the file the others
abbrev pub StandsAfter : Option (List ℕ) → Pieces → List ℕ → ℕ → List ℕ → Type 0
StandsAfter file before window place line = left before file ≡ line ++ (window ++ drop place (unwrap_or file []))

-- the window had no line feed, and the line takes it whole
joined : (text line window longer more : List ℕ) → longer ≡ line ++ window → text ≡ line ++ (window ++ more) → text ≡ longer ++ more
joined text line window longer more is stands = stands ∙ sym (append_assoc line window more) ∙ ap (λ (l : List ℕ). l ++ more) (sym is)

pub still_unbroken : (line window longer rest : List ℕ) → IsUnbroken line → TakesFront window line longer rest false → IsUnbroken longer
still_unbroken line window longer rest unbroken takes = subst IsUnbroken (sym takes.1.0) (All-append (λ b. b ≢ 10) line window unbroken takes.0)

-- the next bytes of the file are in the window
refilled : (bytes window : List ℕ) (place n : ℕ) → AreNextBytes bytes place n window → n ≡ length window → drop place bytes ≡ window ++ drop (place + n) bytes
refilled bytes window place n h count =
    sym (take-append-drop n (drop place bytes))
    ∙ ap₂ (λ (a b : List ℕ). a ++ b) (sym h.next ∙ take_all n window (omega (arith, count))) (drop-drop n place bytes)

stands_on : (file : Option (List ℕ)) (before : Pieces) (window line longer rest next : List ℕ) (place n : ℕ) →
    StandsAfter file before window place line → TakesFront window line longer rest false → Reads file place (Ok n) next → n ≡ length next → StandsAfter file before next (place + n) longer
stands_on None before window line longer rest next place n stands takes read count = absurd read
stands_on (Some bytes) before window line longer rest next place n stands takes read count =
    joined (left before (Some bytes)) line window longer (drop place bytes) takes.1.0 stands ∙ ap (λ (l : List ℕ). longer ++ l) (refilled bytes next place n read count)

-- the file has ended
ended_by : (bytes : List ℕ) (before after : Pieces) (empty : Bool) → left before (Some bytes) ≡ after.line.items → IsUnbroken after.line.items →
    left after (Some bytes) ≡ [] → length bytes ≤ before.limit → empty ≡ (length after.line.items == 0) →
    ReadsLine (Some bytes) before after (Ok (not empty))
ended_by bytes before after true stands unbroken none few is = (stands ∙ nil_from_length after.line.items (grind (arith, nat_tests)), (none, few))
ended_by bytes before after false stands unbroken none few is = record { unbroken = unbroken; split = inr (stands, (grind (arith, nat_tests), none)) }

ended : (file : Option (List ℕ)) (before after : Pieces) (window line rest : List ℕ) (n : ℕ) (empty : Bool) →
    StandsAfter file before window after.place line → IsUnbroken line → TakesFront window line after.line.items rest false →
    Reads file after.place (Ok n) after.window → n ≡ length after.window → n ≡ 0 → after.place ≤ before.limit →
    empty ≡ (length after.line.items == 0) → ReadsLine file before after (Ok (not empty))
ended None before after window line rest n empty stands unbroken takes read count zero few is = absurd read
ended (Some bytes) before after window line rest n empty stands unbroken takes read count zero few is =
    let past : length bytes ≤ after.place = read.end.0 zero in
    let over : drop after.place bytes ≡ [] = drop_all after.place bytes past in
    ended_by bytes before after empty
    (joined (left before (Some bytes)) line window after.line.items (drop after.place bytes) takes.1.0 stands ∙ ap (λ (l : List ℕ). after.line.items ++ l) over ∙ append-nil after.line.items)
    (still_unbroken line window after.line.items rest unbroken takes)
    (ap₂ (λ (a b : List ℕ). a ++ b) (nil_from_length after.window (omega (arith, count, zero))) over)
    (omega (arith, past, few)) is

-- The same of a store that may tell what it holds.
module _ (name : List ℕ) where
  pub told_on : (held now : Option Files) → now ≡ held → (before : Pieces) (window line longer rest next : List ℕ) (place n : ℕ) →
      IfSome held (λ f. StandsAfter (f name) before window place line) → TakesFront window line longer rest false →
      IfSome now (λ f. Reads (f name) place (Ok n) next) → n ≡ length next → IfSome held (λ f. StandsAfter (f name) before next (place + n) longer)
  told_on None now same before window line longer rest next place n stands takes read count = tt
  told_on (Some f) None same before window line longer rest next place n stands takes read count = cc
  told_on (Some f) (Some g) same before window line longer rest next place n stands takes read count =
      let one : g ≡ f = cc in
      stands_on (f name) before window line longer rest next place n stands takes (subst (λ (h : Files). Reads (h name) place (Ok n) next) one read) count

  pub told_end : (held now : Option Files) → now ≡ held → (before after : Pieces) (window line rest : List ℕ) (n : ℕ) (empty : Bool) →
      IfSome held (λ f. StandsAfter (f name) before window after.place line) → IsUnbroken line → TakesFront window line after.line.items rest false →
      IfSome now (λ f. Reads (f name) after.place (Ok n) after.window) → n ≡ length after.window → n ≡ 0 → after.place ≤ before.limit →
      empty ≡ (length after.line.items == 0) → IfSome held (λ f. ReadsLine (f name) before after (Ok (not empty)))
  told_end None now same before after window line rest n empty stands unbroken takes read count zero few is = tt
  told_end (Some f) None same before after window line rest n empty stands unbroken takes read count zero few is = cc
  told_end (Some f) (Some g) same before after window line rest n empty stands unbroken takes read count zero few is =
      let one : g ≡ f = cc in
      ended (f name) before after window line rest n empty stands unbroken takes (subst (λ (h : Files). Reads (h name) after.place (Ok n) after.window) one read) count zero few is
