use Rattle.std.proofs.Common.{◌≡◌, ℕ, ◌+◌, ◌++◌, List, append_assoc, sym, ◌∙◌, ap}
use Rattle.net_gen.specs.Plans.{numbers}
use Rattle.net_gen.specs.RouterFiles.{link_lines, links_lines, text_of}
use Rattle.net_gen.proofs.Counted.{text_kept, text_left}
use Rattle.net_gen.proofs.router_files.push_links.Goals.{then-has_end+in_ok-push_link, else-has_end}
use Rattle.net_gen.proofs.router_files.push_links.Goals as goal

-- the text with the lines of one interface more
grown : (n router link : ℕ) (old now start : List ℕ) → now ≡ old ++ text_of (link_lines n router (link + 1)) → old ≡ start ++ text_of (links_lines n router (numbers link)) →
    text_of (links_lines n router (numbers (link + 1))) ≡ text_of (links_lines n router (numbers link)) ++ text_of (link_lines n router (link + 1)) →
    now ≡ start ++ text_of (links_lines n router (numbers (link + 1)))
grown n router link old now start pushed before more =
    pushed ∙ ap (λ (t : List ℕ). t ++ text_of (link_lines n router (link + 1))) before
    ∙ append_assoc start (text_of (links_lines n router (numbers link))) (text_of (link_lines n router (link + 1)))
    ∙ ap (λ (t : List ℕ). start ++ t) (sym more)

pub loop-place-preserved : goal.loop-place-preserved
loop-place-preserved c = elim c.if-has_end.branch [
  | then-has_end+in_ok-push_link w ↦
      let text : c.if-has_end.text.items ≡ w.push_link.new.text.items = cc in
      text ∙ grown c.args.routers c.args.router c.loop-place.place c.loop-place.text.items w.push_link.new.text.items c.args.text.now.items w.in_ok-push_link.ensures c.loop-place.invariant
      (text_kept c.args.routers c.args.router c.loop-place.place (sym c.has_end.ensures ∙ w.if-has_end.true))
  | else-has_end w ↦
      let text : c.if-has_end.text.items ≡ c.loop-place.text.items = cc in
      text ∙ c.loop-place.invariant ∙ ap (λ (t : List ℕ). c.args.text.now.items ++ t) (sym (text_left c.args.routers c.args.router c.loop-place.place (sym c.has_end.ensures ∙ w.if-has_end.false)))
]
