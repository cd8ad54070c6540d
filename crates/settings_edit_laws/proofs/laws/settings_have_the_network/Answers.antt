use Rattle.edit_space.proofs.SomeNames.{after_is_valid}
use Rattle.settings_edit_laws.proofs.Joined.{network_is_after}
use Rattle.settings_edit_laws.proofs.laws.settings_have_the_network.Goals as goal

pub returns : goal.returns
returns c doc files patched net was chosen new after valid small fits room said settings is =
    network_is_after doc files patched net was chosen new after valid small fits room said settings is (after_is_valid net valid small chosen after is)
