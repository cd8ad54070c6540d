-- One more command of a block: what it does to the settings.
use Rattle.std.proofs.Common.{◌≡◌, ℕ, ◌-◌, List, [], ◌∷◌, ◌++◌, length, find, reverse, Option, Some, None, cond, is_some, refl, sym, ◌∙◌, ap, subst, arith}
use Rattle.std.specs.Prelude.{option_and_then, slice_get}
use Rattle.std.specs.Option.{option_map_or}
use Rattle.std.proofs.lemmas.List.{reverse-append, length_push, get_or_push}
use Rattle.std.proofs.lemmas.Option.{slice_get-get_or}
use Rattle.ios_config.specs.declared.commands.FileCommand.{FileCommand}
use Rattle.ios_config.specs.declared.settings.Given.{Given}
use Rattle.ios_config.specs.declared.settings.FaceText.{FaceText}
use Rattle.ios_config.specs.Values.{Says, given_at, last_setting, address, mask_length, shut_down, bandwidth, ospf_cost, ospf_area, point_to_point, inbound, outbound}
use Rattle.ios_config.specs.Texts.{last_line, face_text}
use Rattle.ios_config.specs.Updates.{replaced, SaysMore}

-- the last command that says something gives the value
pub last_setting-more : {V : Type 0} (says : Says V) (cs : List FileCommand) (c : FileCommand) →
    last_setting says (cs ++ c ∷ []) ≡ replaced c.line (says c.command) (last_setting says cs)
last_setting-more {V} says cs c =
    let f : FileCommand → Option (Given V) = λ d. given_at d.line (says d.command) in
    let p = λ (d : FileCommand). is_some (says d.command) in
    ap (λ l. option_and_then f (find p l)) (reverse-append cs (c ∷ [])) ∙ by (says c.command) refl
  where
    by : (o : Option (Option V)) → says c.command ≡ o →
        option_and_then (λ (d : FileCommand). given_at d.line (says d.command)) (cond (is_some o) (Some c) (find (λ (d : FileCommand). is_some (says d.command)) (reverse cs))) ≡
        replaced c.line o (last_setting says cs)
    by None e = refl
    by (Some said) e = ap (given_at c.line) e

-- the last line is that of the last command
pub last_line-more : (cs : List FileCommand) (c : FileCommand) → last_line (cs ++ c ∷ []) ≡ c.line
last_line-more cs c =
    let long : length (cs ++ c ∷ []) - 1 ≡ length cs = omega (arith, length_push cs c) in
    let at : slice_get (cs ++ c ∷ []) (length cs) ≡ Some c =
    slice_get-get_or (cs ++ c ∷ []) (length cs) c (omega (arith, length_push cs c)) ∙ ap Some (get_or_push cs c c (length cs) refl) in
    ap (λ n. option_map_or (λ (d : FileCommand). d.line) (slice_get (cs ++ c ∷ []) n) 0) long ∙
    ap (λ o. option_map_or (λ (d : FileCommand). d.line) o 0) at

-- the settings of an interface with one more command
pub face_text-more : (name : List ℕ) (head : ℕ) (cs : List FileCommand) (c : FileCommand) (old new : FaceText) → old ≡ face_text name head cs → SaysMore c old new →
    new ≡ face_text name head (cs ++ c ∷ [])
face_text-more name head cs c old new is said =
    let s : SaysMore c (face_text name head cs) new = subst (λ (f : FaceText). SaysMore c f new) is said in
    let last = s.last ∙ sym (last_line-more cs c) in
    let addr = s.addr ∙ sym (last_setting-more address cs c) in
    let mask_len = s.mask_len ∙ sym (last_setting-more mask_length cs c) in
    let shut = s.shut ∙ sym (last_setting-more shut_down cs c) in
    let speed = s.bandwidth ∙ sym (last_setting-more bandwidth cs c) in
    let cost = s.cost ∙ sym (last_setting-more ospf_cost cs c) in
    let area = s.area ∙ sym (last_setting-more ospf_area cs c) in
    let point = s.point ∙ sym (last_setting-more point_to_point cs c) in
    let list_in = s.list_in ∙ sym (last_setting-more inbound cs c) in
    let list_out = s.list_out ∙ sym (last_setting-more outbound cs c) in
    λ i. record {
      name = s.name i;
      head = s.head i;
      last = last i;
      addr = addr i;
      mask_len = mask_len i;
      shut = shut i;
      bandwidth = speed i;
      cost = cost i;
      area = area i;
      point = point i;
      list_in = list_in i;
      list_out = list_out i;
    }
