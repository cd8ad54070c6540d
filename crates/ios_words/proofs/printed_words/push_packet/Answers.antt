use Rattle.std.proofs.Common.{◌≡◌, List, ℕ, [], ◌∷◌, ◌++◌, ap, ◌∙◌}
use Rattle.std.proofs.lemmas.Result.{on_ok_weaker}
use Rattle.ios_lines.specs.Written.{spaced}
use Rattle.ios_words.specs.Printed.{verdict_word, side_words}
use Rattle.ios_words.specs.Services.{protocol_word, port_words}
use Rattle.ios_words.specs.Views.{text_of}
use Rattle.ios_words.proofs.Pushes.{more}
use Rattle.ios_words.proofs.printed_words.push_packet.Goals as goal

pub returns : goal.returns
returns c =
    let e = c.args.entry.now in
    let start : List ℕ = c.args.text.now.items in
    let front = verdict_word e.permit ∷ protocol_word e.low e.high ∷ [] in
    let first : c.push_words.new.text.items ≡ start ++ spaced front =
    c.in_ok-push_words.ensures ∙ ap (λ (w : List ℕ). start ++ spaced (w ∷ text_of c.protocol-protocol.result ∷ [])) c.verdict.ensures
    ∙ ap (λ (w : List ℕ). start ++ spaced (verdict_word e.permit ∷ w ∷ [])) c.protocol-protocol.ensures in
    let sides = side_words e.from ++ side_words e.to in
    let ports = port_words e.low e.high in
    on_ok_weaker c.push_ports.result
    (λ is. more _ _ _ front (sides ++ ports) first
    (more _ _ _ sides ports (more _ _ _ (side_words e.from) (side_words e.to) c.in_ok-push_side.ensures c.in_ok-push_side-2.ensures) is))
    c.push_ports.ensures
