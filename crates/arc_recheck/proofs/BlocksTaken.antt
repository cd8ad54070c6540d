-- The blocks that are held, line by line.
use Rattle.std.proofs.Common.{◌≡◌, ℕ, Bool, true, false, List, [], ◌∷◌, ◌++◌, refl, sym, ◌∙◌, ap, subst, append_assoc}
use Rattle.std.specs.Prelude.{IsTrue, Result, Ok, Err}
use Rattle.std.proofs.lemmas.Bool.{false≢true}
use Rattle.std.proofs.lemmas.List.{append-nil}
use Rattle.arc_base.specs.TextLines.{lines}
use Rattle.net_model.specs.declared.policies.Document.{Document}
use Rattle.net_model.specs.declared.rows.Network.{Network}
use Rattle.net_model.specs.declared.verdicts.Verdict as verdicts
use Rattle.policy_report.specs.declared.got.Got.{Got}
use Rattle.policy_report.specs.declared.got.Got.TheVariants.{More, Head, Verdict, Edit, Step, End}
use Rattle.policy_report.specs.declared.got.CertForm.TheVariants.{Report, Repaired, NoRepair}
use Rattle.policy_report.specs.declared.got.CertFault.{CertFault}
use Rattle.policy_report.specs.declared.reader.Reader.{Reader}
use Rattle.policy_report.specs.Steps.{Standing, standing, start, step}
use Rattle.policy_report.specs.Rereading.{answers}
use Rattle.arc_recheck.specs.declared.held.HeldBlocks.{HeldBlocks}
use Rattle.arc_recheck.specs.declared.held.Told.{Told}
use Rattle.arc_recheck.specs.declared.held.Told.TheVariants.{Block, Other, Refused}
use Rattle.arc_recheck.specs.Held.{verdicts_before, held_verdicts, is_report_head, told_by, IsTaken}
use Rattle.arc_recheck.specs.HeldLines.{HasComeTo, held_with}

-- what a line adds to the blocks that come after it
abbrev pub with_told : Told → List verdicts.Verdict → List verdicts.Verdict
with_told (Block v) vs = v ∷ vs
with_told Other vs = vs
with_told Refused vs = []

by_told : (told : Result Got CertFault) (rest : List (Result Got CertFault)) → verdicts_before (told ∷ rest) ≡ with_told (told_by told) (verdicts_before rest)
by_told (Ok (Verdict which v)) rest = refl
by_told (Ok More) rest = refl
by_told (Ok (Head form)) rest = refl
by_told (Ok End) rest = refl
by_told (Ok (Edit place)) rest = refl
by_told (Ok (Step s)) rest = refl
by_told (Err fault) rest = refl

-- what is held, by whether the first answer is the head of a report
no_head : (told : Result Got CertFault) (rest : List (Result Got CertFault)) → is_report_head told ≡ false → held_verdicts (told ∷ rest) ≡ []
no_head (Ok (Head Report)) rest e = absurd (false≢true (sym e))
no_head (Ok (Head (Repaired price bound))) rest e = refl
no_head (Ok (Head (NoRepair bound))) rest e = refl
no_head (Ok (Verdict which v)) rest e = refl
no_head (Ok More) rest e = refl
no_head (Ok End) rest e = refl
no_head (Ok (Edit place)) rest e = refl
no_head (Ok (Step s)) rest e = refl
no_head (Err fault) rest e = refl

a_head : (told : Result Got CertFault) (rest : List (Result Got CertFault)) → is_report_head told ≡ true → held_verdicts (told ∷ rest) ≡ verdicts_before rest
a_head (Ok (Head Report)) rest e = refl
a_head (Ok (Head (Repaired price bound))) rest e = absurd (false≢true e)
a_head (Ok (Head (NoRepair bound))) rest e = absurd (false≢true e)
a_head (Ok (Verdict which v)) rest e = absurd (false≢true e)
a_head (Ok More) rest e = absurd (false≢true e)
a_head (Ok End) rest e = absurd (false≢true e)
a_head (Ok (Edit place)) rest e = absurd (false≢true e)
a_head (Ok (Step s)) rest e = absurd (false≢true e)
a_head (Err fault) rest e = absurd (false≢true e)

-- the line that comes
module _ (net : Network) (doc : Document) (text : List ℕ) (blocks : HeldBlocks) (line : List ℕ) (rest : List (List ℕ)) (come : HasComeTo net doc text (line ∷ rest) blocks) where
  -- what the reader answers to the line, where it stands then, and what it answers to the lines behind it
  abbrev answer : Result Got CertFault
  answer = (step net doc [] (standing blocks.reader) line).1

  abbrev there : Standing
  there = (step net doc [] (standing blocks.reader) line).0

  abbrev behind : List (Result Got CertFault)
  behind = answers net doc [] there rest

  abbrev whole : List verdicts.Verdict
  whole = held_verdicts (answers net doc [] start (lines text))

  at_begun : (begun : Bool) → blocks.begun ≡ begun → held_with begun blocks.held (answer ∷ behind) ≡ whole
  at_begun begun is = subst (λ (b : Bool). held_with b blocks.held (answer ∷ behind) ≡ whole) is come.all

  -- the lines that are left, where the reader has moved on
  gone_on : (reader : Reader) (held : List verdicts.Verdict) → standing reader ≡ there → held ++ verdicts_before behind ≡ whole →
      HasComeTo net doc text rest (record { reader = reader; begun = true; held = held })
  gone_on reader held stands e = record {
    none_before = λ never. absurd (false≢true (sym never));
    all = ap (λ (s : Standing). held ++ verdicts_before (answers net doc [] s rest)) stands ∙ e;
  }

  -- the first line
  module _ (before : blocks.begun ≡ false) (is : Bool) (by : is ≡ is_report_head answer) where
    pub no_report : is ≡ false → blocks.held ≡ whole
    no_report no' = come.none_before before ∙ (sym (no_head answer behind (sym by ∙ no')) ∙ at_begun false before)

    pub a_report : (reader : Reader) → is ≡ true → (IsTrue is → standing reader ≡ there) → HasComeTo net doc text rest (record { reader = reader; begun = true; held = blocks.held })
    a_report reader yes' stands =
        gone_on reader blocks.held (stands yes')
        (ap (λ (vs : List verdicts.Verdict). vs ++ verdicts_before behind) (come.none_before before) ∙ (sym (a_head answer behind (sym by ∙ yes')) ∙ at_begun false before))

  -- a later one
  module _ (begun : blocks.begun ≡ true) (told : Told) (by : told ≡ told_by answer) where
    joined : (t : Told) → told ≡ t → blocks.held ++ with_told t (verdicts_before behind) ≡ whole
    joined t e = ap (λ (u : Told). blocks.held ++ with_told u (verdicts_before behind)) (sym e ∙ by)
        ∙ (ap (λ (vs : List verdicts.Verdict). blocks.held ++ vs) (sym (by_told answer behind)) ∙ at_begun true begun)

    -- at a line that is rejected all blocks are held
    pub at_refused : told ≡ Refused → blocks.held ≡ whole
    at_refused e = sym (append-nil blocks.held) ∙ joined Refused e

    module _ (reader : Reader) (stands : IsTaken told → standing reader ≡ there) where
      -- after a block one more is held
      pub at_block : (v : verdicts.Verdict) (kept : List verdicts.Verdict) → told ≡ Block v → kept ≡ blocks.held ++ v ∷ [] →
          HasComeTo net doc text rest (record { reader = reader; begun = true; held = kept })
      at_block v kept e more =
          gone_on reader kept (stands (subst IsTaken (sym e) tt))
          (ap (λ (ks : List verdicts.Verdict). ks ++ verdicts_before behind) more ∙ append_assoc blocks.held (v ∷ []) (verdicts_before behind) ∙ joined (Block v) e)

      pub at_other : told ≡ Other → HasComeTo net doc text rest (record { reader = reader; begun = true; held = blocks.held })
      at_other e = gone_on reader blocks.held (stands (subst IsTaken (sym e) tt)) (joined Other e)

-- no other line comes
module _ (net : Network) (doc : Document) (text : List ℕ) (blocks : HeldBlocks) (come : HasComeTo net doc text [] blocks) where
  pub end_held : (begun : Bool) → blocks.begun ≡ begun → blocks.held ≡ held_verdicts (answers net doc [] start (lines text))
  end_held true is = sym (append-nil blocks.held) ∙ subst (λ (b : Bool). held_with b blocks.held [] ≡ held_verdicts (answers net doc [] start (lines text))) is come.all
  end_held false is = come.none_before is ∙ subst (λ (b : Bool). held_with b blocks.held [] ≡ held_verdicts (answers net doc [] start (lines text))) is come.all
