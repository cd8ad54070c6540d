use Rattle.std.proofs.Common.{◌≡◌, ◌∙◌, inl, inr, Bool, true, false, List, [], ◌∷◌, fold, map, Option, Some, None, refl, sym, ap, ap₂, subst, if◌then◌else◌}
use Rattle.std.specs.List.{list_all}
use Rattle.std.specs.Str.{is_utf8}
use Rattle.std.proofs.lemmas.Result.{IfOk-weaker}
use Rattle.clap.specs.Walk.{Text}
use Rattle.clap.specs.Kinds.{IsAmong, Kinds}
use Rattle.clap.specs.Faults.{fault_of, is_simple_and_free}
use Rattle.clap.specs.Simple.{app_of, is_simple, subcommand_of}
use Rattle.clap.specs.declared.error.kind.ErrorKind.{ErrorKind}
use Rattle.command_words.specs.Commands.{command_in, command_of}
use Rattle.command_words.specs.Grammar.{app, bare, with_form}
use Rattle.command_words.specs.Matched.{matched_command}
use Rattle.command_words.proofs.Entering.{app_free, app_simple}
use Rattle.command_words.proofs.Answering.{line_answers}
use Rattle.command_words.proofs.reading.explain_words.Goals as goal

-- texts that are the words
texts_are : (words texts : List Text) → Some texts ≡ (if list_all is_utf8 words then Some words else None) → (list_all is_utf8 words ≡ true) × (texts ≡ words)
texts_are words texts e = go (list_all is_utf8 words) refl e
  where
    go : (t : Bool) → list_all is_utf8 words ≡ t → Some texts ≡ (if t then Some words else None) → (list_all is_utf8 words ≡ true) × (texts ≡ words)
    go true is e = (is, cc)
    go false is e = absurd (cc)

command_is : (words : List Text) → list_all is_utf8 words ≡ true → command_of words ≡ command_in words
command_is words texts = rw texts refl

among_some : (kind : ErrorKind) (kinds : Kinds) → IsAmong kind kinds → kinds ≡ [] → ⊥
among_some kind [] h e = h
among_some kind (k ∷ kinds) h e = absurd (cc)

pub returns : goal.returns
returns c =
    let words = c.args.words.now in
    let texts = texts_are words (map (λ s. s.now) c.in-Some.texts.items) (rw c.in-Some.is at c.in_ok-texts.ensures) in
    let line : app_of c.in_ok-command_line.field-0 ≡ app = c.in_ok-command_line.ensures ∙ ap (fold with_form bare) c.command_forms.ensures in
    let same : fault_of (app_of c.in_ok-command_line.field-0) (map (λ s. s.now) c.as_slice.result.now) ≡ fault_of app words =
    ap₂ fault_of line (ap (map (λ s. s.now)) c.as_slice.ensures.value ∙ texts.1) in
    let kinds = c.in-Err.ensures.kinds (ap is_simple_and_free line ∙ app_free) in
    let refused : fault_of app words ≡ [] → ⊥ = λ none. elim kinds [
      | inl memory ↦ c.in_default-kind.not-OutOfMemory (c.kind.ensures ∙ memory)
      | inr among ↦ among_some _ _ among (same ∙ none)
    ] in
    sym (command_is words texts.0 ∙ (line_answers words texts.0).refused refused)

pub returns-in-Ok : goal.returns-in-Ok
returns-in-Ok c =
    let words = c.args.words.now in
    let texts = texts_are words (map (λ s. s.now) c.in-Some.texts.items) (rw c.in-Some.is at c.in_ok-texts.ensures) in
    let line : app_of c.in_ok-command_line.field-0 ≡ app = c.in_ok-command_line.ensures ∙ ap (fold with_form bare) c.command_forms.ensures in
    let words_are : map (λ s. s.now) c.as_slice.result.now ≡ words = ap (map (λ s. s.now)) c.as_slice.ensures.value ∙ texts.1 in
    let none : fault_of app words ≡ [] = sym (ap₂ fault_of line words_are) ∙ c.in-Ok.ensures.kinds (ap is_simple_and_free line ∙ app_free) in
    let rows = (c.in-Ok.ensures.matches (ap is_simple line ∙ app_simple)).1 ∙ ap₂ subcommand_of line words_are in
    let meant = ap matched_command rows ∙ ((line_answers words texts.0).taken none ∙ sym (command_is words texts.0)) in
    IfOk-weaker c.command_of_matches.result _ _ (λ read is. is ∙ meant) c.command_of_matches.ensures
