use Rattle.std.proofs.Common.{◌∙◌}
use Rattle.traffic_classes.proofs.Sameness.{added_new, kept_old}
use Rattle.traffic_classes.proofs.found.Found.add_class.Goals as goal

pub returns-in_ok-push-clause-added : goal.returns-in_ok-push-clause-added
returns-in_ok-push-clause-added c =
    c.in_ok-push.ensures.items ∙ added_new c.args.self.now.classes.items c.args.class c.args.self.now.keys.keys c.key_of.result c.in_ok-_place.new
    c.requires c.key_of.ensures c.in_ok-_place.ensures.added c.if-new.true

pub returns-else-new-clause-added : goal.returns-else-new-clause-added
returns-else-new-clause-added c =
    kept_old c.args.self.now.classes.items c.args.class c.args.self.now.keys.keys c.key_of.result c.in_ok-_place.new
    c.requires c.key_of.ensures c.in_ok-_place.ensures.added c.if-new.false
