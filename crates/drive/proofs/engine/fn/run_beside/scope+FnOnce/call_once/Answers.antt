use Rattle.std.proofs.Common.{rules}
use Rattle.drive.proofs.engine.fn.run_beside.scope+FnOnce.call_once.Goals as goal

pub scope-requires : goal.scope-requires
scope-requires g c = (
  search c.requires,
  (search c.requires, (search c.requires, (search c.requires, (search c.requires, (search c.requires, search rules))))),
)
