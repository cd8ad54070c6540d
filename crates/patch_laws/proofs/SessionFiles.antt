-- What a patched file is.
use Rattle.std.proofs.Common.{◌≡◌, ℕ, Option, Some, List, ◌∙◌, ap, subst}
use Rattle.std.specs.Prelude.{IsSomeAnd, option_map, slice_get}
use Rattle.std.proofs.lemmas.Option.{slice_get-map}
use Rattle.net_model.specs.declared.policies.Document.{Document}
use Rattle.net_model.specs.declared.rows.Network.{Network}
use Rattle.ios_lines.specs.declared.line.Lines.{Lines}
use Rattle.ios_lines.specs.Lines.{AreLinesOf}
use Rattle.ios_config.specs.declared.settings.Config.{Config}
use Rattle.net_build.specs.declared.built.Built.{Built}
use Rattle.net_build.specs.declared.built.Places.{Places}
use Rattle.net_build.specs.Networks.{IsBuilt}
use Rattle.net_build.specs.Places.{places_of}
use Rattle.edit_list.specs.declared.edit_kinds.Edit.{Edit}
use Rattle.arc_base.proofs.Zips.{AllZip-right}
use Rattle.line_patcher.specs.Patches.{ArePatched, patched_file}

-- what a fact on two things that there are says of each
both-some : {X Y : Type 0} (o : Option X) (p : Option Y) (P : X → Y → Type 0) (x : X) (y : Y) → o ≡ Some x → p ≡ Some y → IsSomeAnd o (λ a. IsSomeAnd p (λ b. P a b)) → P x y
both-some {X} {Y} o p P x y is_x is_y h =
    subst (λ (q : Option Y). IsSomeAnd q (λ b. P x b)) is_y (subst (λ (q : Option X). IsSomeAnd q (λ a. IsSomeAnd p (λ b. P a b))) is_x h)

module _ (doc : Document) (files news : List (List ℕ)) (built : Built) (was : IsBuilt doc files built) (chosen : List Edit) (patched : ArePatched built chosen files news) where
  abbrev net : Network
  net = built.net

  -- the lines and places of a file, and what the new file is
  pub record FileFacts (router : ℕ) (config : Config) (old new : List ℕ) : Type 0 where
    pub lines : Lines
    pub are : AreLinesOf old lines
    pub is : new ≡ patched_file built chosen router old lines (places_of config)

  pub file-facts : (router : ℕ) (config : Config) (old new : List ℕ) → slice_get was.network.configs router ≡ Some config → slice_get files router ≡ Some old →
      slice_get news router ≡ Some new → FileFacts router config old new
  file-facts router config old new at_c at_old at_new =
      let (lines, at_lines, are) = AllZip-right AreLinesOf files built.lines was.lines router old at_old in
      let at_places : slice_get built.places router ≡ Some (places_of config) =
      ap (λ (ps : List Places). slice_get ps router) was.places ∙ slice_get-map places_of was.network.configs router ∙ ap (option_map places_of) at_c in
      record {
        lines = lines;
        are = are;
        is = both-some (slice_get built.lines router) (slice_get built.places router) (λ (l : Lines) (own : Places). new ≡ patched_file built chosen router old l own) lines
            (places_of config) at_lines at_places
            (patched.each router old new at_old at_new);
      }
