use Rattle.std.proofs.Common.{List, ℕ, ◌<◌, ◌≤◌, ◌^◌, length, sym, ◌∙◌, ap, subst}
use Rattle.std.specs.Prelude.{All}
use Rattle.std.proofs.lemmas.List.FromFn.{length-map-range_with_len}
use Rattle.net_gen.specs.Plans.{link_count}
use Rattle.net_gen.specs.RouterFiles.{file_name, router_lines, text_of}
use Rattle.net_gen.specs.Generated.{Asks, asked, link_text}
use Rattle.net_gen.proofs.Lengths.{texts_length, texts_short, asked_length}
use Rattle.arc_base.proofs.Zips.{AllZip-length}
use Rattle.net_gen.proofs.generating.generate.Goals as goal

pub returns-clause-files : goal.returns-clause-files
returns-clause-files c =
    ap length c.in_ok-files.ensures ∙ length-map-range_with_len (λ (router : ℕ). text_of (router_lines c.args.number router)) 1 c.args.number
    ∙ sym (ap length c.in_ok-doc.ensures.routers ∙ length-map-range_with_len file_name 1 c.args.number)

pub returns-clause-bytes : goal.returns-clause-bytes
returns-clause-bytes c = subst (All (λ (text : List ℕ). length text < 2 ^ 32)) (sym c.in_ok-files.ensures) (texts_length c.args.number c.requires.few)

pub returns-clause-short : goal.returns-clause-short
returns-clause-short c = subst (All (λ (text : List ℕ). length text ≤ 8192)) (sym c.in_ok-files.ensures) (texts_short c.args.number c.requires.few)

pub returns-clause-routers : goal.returns-clause-routers
returns-clause-routers c = ap length c.in_ok-doc.ensures.routers ∙ length-map-range_with_len file_name 1 c.args.number

pub returns-clause-links : goal.returns-clause-links
returns-clause-links c = ap length c.in_ok-doc.ensures.links ∙ length-map-range_with_len (link_text c.args.number) 1 (link_count c.args.number)

pub returns-clause-policies : goal.returns-clause-policies
returns-clause-policies c = sym (AllZip-length Asks (asked c.args.number) c.in_ok-doc.doc.policies c.in_ok-doc.ensures.policies) ∙ asked_length c.args.number
