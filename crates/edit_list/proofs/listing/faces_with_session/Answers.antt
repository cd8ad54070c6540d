use Rattle.std.proofs.Common.{◌∙◌, ◌==◌, ℕ, Bool, Vec, Global}
use Rattle.std.specs.List.{list_any}
use Rattle.std.proofs.lemmas.Result.{IfOk-weaker}
use Rattle.edit_list.specs.Listing.{KnowsSessions}
use Rattle.arc_base.specs.Numbered.{IsTableOf}
use Rattle.edit_list.proofs.Counts.{knows_sessions}
use Rattle.edit_list.proofs.listing.faces_with_session.Goals as goal

pub returns : goal.returns
returns c =
    IfOk-weaker c.marked.result (λ (flags : Vec Bool Global). IsTableOf c.len.result (λ (k : ℕ). list_any (λ (n : ℕ). n == k) c.deref.result.now) flags.items)
    (λ (flags : Vec Bool Global). KnowsSessions c.args.net.now flags.items)
    (λ flags told. knows_sessions c.args.net.now c.len.result c.deref.result.now flags.items (c.deref.ensures.value ∙ c.in_ok-faces.ensures) told) c.marked.ensures
