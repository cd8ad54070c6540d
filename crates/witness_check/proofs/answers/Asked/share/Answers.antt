use Rattle.std.proofs.Common.{◌-◌, List, length, take, drop, get_or, refl, sym, ◌∙◌, ap}
use Rattle.std.proofs.lemmas.Bool.{false≢true}
use Rattle.std.proofs.lemmas.List.{take_rest}
use Rattle.std.proofs.lemmas.Option.{slice_get_read}
use Rattle.net_model.specs.declared.lists.PacketEntry.{PacketEntry}
use Rattle.net_model.specs.declared.policies.Class.{Class}
use Rattle.net_model.specs.Lists.{permits}
use Rattle.witness_check.specs.Answers.{NoneGets}
use Rattle.witness_check.specs.Boxes.{splits, entry_class}
use Rattle.witness_check.proofs.Matches.{none_met, first_decides, first_met_is, IsFirstMet, same_answer, other_answer}
use Rattle.witness_check.proofs.answers.Asked.share.Goals as goal

pub returns-then-self : goal.returns-then-self
returns-then-self c p at gets =
    false≢true (sym (none_met c.args.class c.args.self.now.entries.now (sym c.first_met.ensures ∙ c.in_default.is) p at) ∙ gets ∙ c.if-self.true)

pub returns-else-self : goal.returns-else-self
returns-else-self c p at = none_met c.args.class c.args.self.now.entries.now (sym c.first_met.ensures ∙ c.in_default.is) p at ∙ sym c.if-self.false

pub returns-then-entry-self : goal.returns-then-entry-self
returns-then-entry-self c p at =
    let e : PacketEntry = get_or c.args.self.now.entries.now c.in-Some.place c.index-self-place.result in
    first_decides c.args.class c.args.self.now.entries.now c.in-Some.place c.index-self-place.result (sym c.first_met.ensures ∙ c.in-Some.is) c.index-self-place.is
    (ap (λ (x : PacketEntry). splits c.args.class (entry_class x)) c.index-self-place.is ∙ ap (λ (d : Class). splits c.args.class d) (sym c.entry_class.ensures) ∙ sym c.splits.ensures
    ∙ c.if-not-splits.true) p at
    ∙ ap (λ (x : PacketEntry). x.permit) c.index-self-place.is ∙ same_answer e.permit c.args.self.now.answer c.if-entry-self.true

pub returns-else-entry-self : goal.returns-else-entry-self
returns-else-entry-self c p at gets =
    let e : PacketEntry = get_or c.args.self.now.entries.now c.in-Some.place c.index-self-place.result in
    other_answer e.permit c.args.self.now.answer c.if-entry-self.false
    (ap (λ (x : PacketEntry). x.permit) (sym c.index-self-place.is)
    ∙ sym (first_decides c.args.class c.args.self.now.entries.now c.in-Some.place c.index-self-place.result (sym c.first_met.ensures ∙ c.in-Some.is) c.index-self-place.is
    (ap (λ (x : PacketEntry). splits c.args.class (entry_class x)) c.index-self-place.is ∙ ap (λ (d : Class). splits c.args.class d) (sym c.entry_class.ensures) ∙ sym c.splits.ensures
    ∙ c.if-not-splits.true) p at)
    ∙ gets)

pub returns-then-shows_none : goal.returns-then-shows_none
returns-then-shows_none c p at gets =
    let first : IsFirstMet c.args.class c.args.self.now.entries.now c.in-Some.place = first_met_is c.args.class c.args.self.now.entries.now c.in-Some.place (sym c.first_met.ensures ∙ c.in-Some.is) in
    let none : NoneGets (take (length c.args.self.now.entries.now - c.in-Some.place) (drop c.in-Some.place c.args.self.now.entries.now)) c.args.self.now.answer c.args.class =
    c.shows_none.ensures c.if-shows_none.true in
    none p at (ap (λ (xs : List PacketEntry). permits xs p) (take_rest c.args.self.now.entries.now c.in-Some.place) ∙ sym (first.rest p at) ∙ gets)

pub returns : goal.returns
returns c =
    let first : IsFirstMet c.args.class c.args.self.now.entries.now c.in-Some.place = first_met_is c.args.class c.args.self.now.entries.now c.in-Some.place (sym c.first_met.ensures ∙ c.in-Some.is) in
    record {
      entry = c.index-self-place.result;
      at_place = slice_get_read c.args.self.now.entries.now (length c.args.self.now.entries.now) c.in-Some.place c.index-self-place.result refl first.inside c.index-self-place.is;
      splitting = ap (λ (x : PacketEntry). splits c.args.class (entry_class x)) c.index-self-place.is ∙ ap (λ (d : Class). splits c.args.class d) (sym c.entry_class.ensures)
          ∙ sym c.splits.ensures ∙ c.if-not-splits.false;
      rest = first.rest;
    }
