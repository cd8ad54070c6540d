-- Words and files have one trace, or one first refusal.
use Rattle.std.proofs.Common.{◌≡◌, inl, inr, length, sym, ◌∙◌, subst}
use Rattle.arc_outside.specs.Files.{Files}
use Rattle.net_model.specs.declared.policies.Document.{Document}
use Rattle.net_model.specs.declared.rows.Network.{Network}
use Rattle.net_rules.specs.Addressing.{HasEndpoints}
use Rattle.route_trace.specs.Routes.{flagged}
use Rattle.route_trace.specs.TraceText.{IsTrace}
use Rattle.command_words.specs.declared.commands.TraceWords.{TraceWords}
use Rattle.run_files.specs.declared.limits.Limits.TheVariants.{Judging}
use Rattle.run_files.specs.declared.outcome.Done.{Done}
use Rattle.run_files.specs.declared.outcome.FileRefusal.{FileRefusal}
use Rattle.run_files.proofs.OneAnswer.{same_done}
use Rattle.run_inputs.specs.Determined.{IsDetermined}
use Rattle.run_inputs.proofs.Determined.{determined}
use Rattle.verify_commands.specs.Traces.{HasLinks, HasTrace, IsTraceRefusal, IsTraced, down_flags}
use Rattle.verify_commands.proofs.TraceOnce.{trace_once}

module _ (words : TraceWords) (files : Files) where
  known : IsDetermined Judging words.down words.document files
  known = determined Judging words.down words.document files

  -- two networks of the input are equal
  one_input : (doc other : Document) (net last : Network) → HasLinks words files doc net → HasLinks words files other last → net ≡ last
  one_input doc other net last h k =
      let same : doc ≡ other = known.one_document doc other h.files_are.document_is k.files_are.document_is in
      known.one_network other net last (subst (λ (d : Document). HasLinks words files d net) same h) k

  pub traced_or_not : HasTrace words files → (r : FileRefusal) → IsTraceRefusal words files r → ⊥
  traced_or_not h r (inl input) = known.not_both h.doc h.net r h.input input
  traced_or_not h r (inr u) =
      let net : h.net ≡ u.net = one_input h.doc u.doc h.net u.net h.input u.input in
      u.ends (subst (λ (n : Network). HasEndpoints n words.from words.to) net h.ends)

  pub refused_once : (r s : FileRefusal) → IsTraceRefusal words files r → IsTraceRefusal words files s → r ≡ s
  refused_once r s (inl u) (inl v) = known.one_refusal r s u v
  refused_once r s (inl u) (inr v) = absurd (known.not_both v.doc v.net r v.input u)
  refused_once r s (inr u) (inl v) = absurd (known.not_both u.doc u.net s u.input v)
  refused_once r s (inr u) (inr v) = u.told ∙ sym v.told

-- a trace that was printed is one of a network
pub has_trace : (words : TraceWords) (files : Files) (done : Done) → IsTraced words files done → HasTrace words files
has_trace words files done t = record { doc = t.doc; net = t.net; input = t.input; ends = t.ends }

pub traced_or_refused : (words : TraceWords) (files : Files) (done : Done) (r : FileRefusal) → IsTraced words files done → IsTraceRefusal words files r → ⊥
traced_or_refused words files done r t refused = traced_or_not words files (has_trace words files done t) r refused

pub traced_once : (words : TraceWords) (files : Files) (done other : Done) → IsTraced words files done → IsTraced words files other → done ≡ other
traced_once words files done other t s =
    let nets : t.net ≡ s.net = one_input words files t.doc s.doc t.net s.net t.input s.input in
    let P : Network → Type 0 = λ n. IsTrace n (flagged (down_flags (length n.links) words.down)) words.from words.to done.text in
    let texts : done.text ≡ other.text =
    trace_once s.net s.valid (flagged (down_flags (length s.net.links) words.down)) words.from words.to done.text other.text (subst P nets t.text) s.text in
    same_done done other texts (t.writes ∙ sym s.writes) (t.status ∙ sym s.status)
