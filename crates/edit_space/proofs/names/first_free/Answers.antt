use Rattle.std.proofs.Common.{◌≡◌, ◌∙◌, ℕ, Bool, List, [], ◌∷◌, ◌++◌, length, take, filter, not, sym, ap, arith, length-append}
use Rattle.std.proofs.lemmas.Result.{IfOk-weaker}
use Rattle.edit_list.specs.NewLists.{is_name_among}
use Rattle.arc_base.specs.NameForms.{texts_at}
use Rattle.edit_space.proofs.NameSets.{joined_first, taken_is_among}
use Rattle.edit_space.proofs.FreeNames.{candidate_taken, candidate_free, all_tried, enough_found}
use Rattle.edit_space.proofs.names.first_free.Goals as goal
use Rattle.edit_space.proofs.names.first_free.Goals.{then-not-contains+in_ok-make+in_ok-push, else-not-contains, else-loop-name-test, then-loop-name-test+then-len-count}

pub loop-name-preserved : goal.loop-name-preserved
loop-name-preserved c =
    let names : List (List ℕ) = c.args.names.now in
    let xs : List (List ℕ) = c.args.candidates.now in
    let i : ℕ = c.loop-name.name-index in
    let name : List ℕ = c.name-item.result in
    let answer : c.contains.result ≡ is_name_among names name =
    c.contains.ensures ∙ taken_is_among c.add_names.new.set.keys names c.bytes.result (joined_first (texts_at c.new-taken.result.keys) names
    (texts_at c.add_names.new.set.keys) (ap texts_at c.new-taken.ensures.empty) c.in_ok-add_names.ensures) ∙
    ap (is_name_among names) c.bytes.ensures in
    elim c.if-not-contains.branch [
      | then-not-contains+in_ok-make+in_ok-push w ↦
          let now : c.if-not-contains.free.items ≡ c.loop-name.free.items ++ name ∷ [] =
          ap (λ v. v.items) w.free-is ∙ w.in_ok-push.ensures.items ∙ ap (λ n. c.loop-name.free.items ++ n ∷ []) (w.in_ok-make.ensures ∙ w.bytes-then-not-contains.ensures) in
          record {
            free =
                candidate_free names xs i name c.loop-name-test.true c.name-item.is c.loop-name.free.items c.if-not-contains.free.items
                (sym answer ∙ w.if-not-contains.true) c.loop-name.invariant.free now;
            few = omega (arith, ap length now, length-append c.loop-name.free.items (name ∷ []), c.if-len-count.false, c.len.ensures, c.loop-name.invariant.few);
          }
      | else-not-contains w ↦
          let same : c.if-not-contains.free.items ≡ c.loop-name.free.items = ap (λ v. v.items) w.free-is in
          record {
            free = same ∙ candidate_taken names xs i name c.loop-name-test.true c.name-item.is c.loop-name.free.items (sym answer ∙ w.if-not-contains.false) c.loop-name.invariant.free;
            few = omega (arith, ap length same, c.loop-name.invariant.few);
          }
    ]

pub returns : goal.returns
returns c =
    let free : List ℕ → Bool = λ name. not (is_name_among c.args.names.now name) in
    let found : c.loop-name.free.items ≡ take c.args.count (filter free c.args.candidates.now) =
    elim c.loop-name-test.branch [
      | else-loop-name-test w ↦ all_tried free c.args.candidates.now c.loop-name.name-index c.args.count c.loop-name.free.items w.loop-name-test.false c.loop-name.invariant.free
          c.loop-name.invariant.few
      | then-loop-name-test+then-len-count w ↦ enough_found free c.args.candidates.now c.loop-name.name-index c.args.count c.loop-name.free.items c.loop-name.invariant.free
          (sym c.loop-name.free.ok.0 ∙ sym w.len.ensures ∙ w.if-len-count.true)
    ] in
    IfOk-weaker c.of.result (λ (l : List (List ℕ)). l ≡ c.loop-name.free.items) (λ (l : List (List ℕ)). l ≡ take c.args.count (filter free c.args.candidates.now)) (λ l e. e ∙ found) c.of.ensures.ok
