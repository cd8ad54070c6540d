use Rattle.std.proofs.Common.{◌≡◌, ◌++◌, List, ℕ, sym, ◌∙◌, ap}
use Rattle.net_gen.specs.Plans.{numbers, link_count}
use Rattle.net_gen.specs.RouterFiles.{face_lines, name_lines, host_lines, links_lines, process_lines, text_of}
use Rattle.net_gen.proofs.Counted.{four_parts, file_text}
use Rattle.net_gen.proofs.router_files.router_text.Goals as goal

pub returns : goal.returns
returns c =
    let n = c.args.routers in
    let router = c.args.router in
    let names : List ℕ = text_of (name_lines router) in
    let first : c.push_name.new.text.items ≡ names = c.in_ok-push_name.ensures ∙ ap (λ (t : List ℕ). t ++ names) c.new-text.ensures.items in
    let host : c.push_face.new.text.items ≡ c.push_name.new.text.items ++ text_of (host_lines router) =
    c.in_ok-push_face.ensures ∙ ap (λ (addr : ℕ). c.push_name.new.text.items ++ text_of (face_lines 0 addr 24)) c.address.ensures in
    c.of.ensures
    ∙ four_parts c.push_name.new.text.items c.push_face.new.text.items c.push_links.new.text.items c.push_process.new.text.items
    names (text_of (host_lines router)) (text_of (links_lines n router (numbers (link_count n)))) (text_of process_lines)
    first host c.in_ok-push_links.ensures c.in_ok-push_process.ensures
    ∙ sym (file_text n router)
