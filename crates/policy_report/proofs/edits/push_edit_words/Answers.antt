use Rattle.std.proofs.Common.{ℕ, List, [], ◌∷◌, ◌++◌, codes, ap, ◌∙◌}
use Rattle.std.proofs.lemmas.Result.{on_ok_weaker}
use Rattle.arc_base.specs.PrefixText.{prefix_text}
use Rattle.policy_report.specs.Edits.{owner_name, face_name, route_list_words, packet_list_words}
use Rattle.policy_report.specs.Reports.{class_words}
use Rattle.policy_report.proofs.Appends.{word_and_runs, one_word, two_words_and_run}
use Rattle.policy_report.proofs.edits.push_edit_words.Goals as goal

pub returns-in_ok-push_route_list-in-RouteList : goal.returns-in_ok-push_route_list-in-RouteList
returns-in_ok-push_route_list-in-RouteList c =
    let prefix = prefix_text c.in-RouteList.prefix in
    let listed = c.push_route_list.new.text.items in
    let done = c.push_prefix_word.new.text.items in
    rw c.in-RouteList.is (on_ok_weaker c.push_prefix_word.result
    (λ pushed. word_and_runs c.args.text.now.items (codes "route") c.push_word-in-RouteList.new.text.items listed done (route_list_words c.args.net.now c.in-RouteList.list) (prefix ∷ [])
    c.in_ok-push_word-in-RouteList.ensures c.in_ok-push_route_list-in-RouteList.ensures (one_word listed done prefix pushed))
    c.push_prefix_word.ensures)

pub returns-in_ok-push_packet_list-in-PacketList : goal.returns-in_ok-push_packet_list-in-PacketList
returns-in_ok-push_packet_list-in-PacketList c =
    rw c.in-PacketList.is (on_ok_weaker c.push_class.result
    (word_and_runs c.args.text.now.items (codes "packet") c.push_word-in-PacketList.new.text.items c.push_packet_list.new.text.items c.push_class.new.text.items
    (packet_list_words c.args.net.now c.in-PacketList.list) (class_words c.in-PacketList.class)
    c.in_ok-push_word-in-PacketList.ensures c.in_ok-push_packet_list-in-PacketList.ensures)
    c.push_class.ensures)

pub returns-in_ok-push_word-in-PacketNew-4 : goal.returns-in_ok-push_word-in-PacketNew-4
returns-in_ok-push_word-in-PacketNew-4 c =
    let owner = owner_name c.args.net.now c.in-PacketNew.face in
    let face = face_name c.args.net.now c.in-PacketNew.face in
    let class = class_words c.in-PacketNew.class in
    let begun = c.push_word-in-PacketNew.new.text.items in
    let owned = c.push_word-in-PacketNew-2.new.text.items in
    let kind = c.push_word-in-PacketNew-3.new.text.items in
    let named = c.push_word-in-PacketNew-4.new.text.items in
    let done = c.push_class-in-PacketNew.new.text.items in
    let has_owner = c.in_ok-push_word-in-PacketNew-2.ensures ∙ ap (λ (w : List ℕ). begun ++ 32 ∷ w) c.owner_name-in-PacketNew.ensures in
    let has_face = c.in_ok-push_word-in-PacketNew-4.ensures ∙ ap (λ (w : List ℕ). kind ++ 32 ∷ w) c.face_name-in-PacketNew.ensures in
    rw c.in-PacketNew.is (on_ok_weaker c.push_class-in-PacketNew.result
    (λ pushed. two_words_and_run c.args.text.now.items begun owned done (codes "packet") owner (codes "interface" ∷ face ∷ class) c.in_ok-push_word-in-PacketNew.ensures has_owner
    (two_words_and_run owned kind named done (codes "interface") face class c.in_ok-push_word-in-PacketNew-3.ensures has_face pushed))
    c.push_class-in-PacketNew.ensures)
