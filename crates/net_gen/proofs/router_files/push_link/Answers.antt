use Rattle.std.proofs.Common.{◌≡◌, ℕ, ◌++◌, subst, ap, ◌∙◌}
use Rattle.std.specs.Prelude.{OnOk, ◌==◌, if◌then◌else◌}
use Rattle.net_gen.specs.Plans.{a_router}
use Rattle.net_gen.specs.RouterFiles.{address, face_lines, text_of}
use Rattle.net_gen.proofs.router_files.push_link.Goals as goal

pub returns : goal.returns
returns c =
    let Grows : ℕ → ℕ → Type 0 = λ number addr. OnOk c.push_face.result (c.push_face.new.text.items ≡ c.args.text.now.items ++ text_of (face_lines number addr 30)) in
    let end : ℕ = if a_router c.args.routers c.args.link == c.args.router then 1 else 2 in
    let addr : c.address.result ≡ address 0 c.args.link end = c.address.ensures ∙ ap (λ (d : ℕ). address 0 c.args.link d) c.end_number-end.ensures.is in
    subst (λ (number : ℕ). Grows number (address 0 c.args.link end)) c.port-number.ensures (subst (λ (a : ℕ). Grows c.port-number.result a) addr c.push_face.ensures)
