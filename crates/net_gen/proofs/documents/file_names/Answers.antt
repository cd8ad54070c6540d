use Rattle.net_gen.specs.RouterFiles.{file_name}
use Rattle.net_gen.proofs.Counted.{pushed_more, pushed_long}
use Rattle.net_gen.proofs.documents.file_names.Goals as goal

pub loop-place-preserved : goal.loop-place-preserved
loop-place-preserved c = record {
  names = pushed_more file_name c.loop-place.place c.loop-place.names c.push.new.self c.in_ok-file_name.field-0 c.in_ok-push.ensures.ok c.loop-place.invariant.names c.in_ok-file_name.ensures;
  long = pushed_long c.loop-place.names c.push.new.self c.in_ok-file_name.field-0 c.loop-place.place c.in_ok-push.ensures.ok c.loop-place.invariant.long;
}
