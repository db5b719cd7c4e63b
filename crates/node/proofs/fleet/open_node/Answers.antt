use Rattle.std.proofs.Common.{inl, inr}
use Rattle.shard.specs.Core.{seen}
use Rattle.node.proofs.Dealt.{one_shown}
use Rattle.node.proofs.Refusals.{no_desk}
use Rattle.node.proofs.fleet.open_node.Goals as goal

pub returns-in-Err : goal.returns-in-Err
returns-in-Err g c = λ some few. inr (c.in-Err.disk, c.in-Err.ensures.refused)

pub returns-in-Ok-new : goal.returns-in-Ok-new
returns-in-Ok-new g c =
    let shown =
    one_shown _ _ _ _ _ _ _ c.args.given (seen c.in-Ok.core) c.args.n c.in-Ok-new.viewers.items c.in-Ok.ensures.opened c.in-Ok-new.ensures.board in
    record {
      core = seen c.in-Ok.core;
      opened = c.in-Ok.ensures.opened;
      epoch_is = c.epoch-epoch.ensures;
      last_is = c.last-last.ensures;
      viewer = shown.0;
      viewers = shown.1;
      shown = shown.2;
    }

pub returns-in-Err-new : goal.returns-in-Err-new
returns-in-Err-new g c = λ some few. inl (no_desk _ _ some few c.in-Err-new.ensures.refused.0)
