use Rattle.std.proofs.Common.{rules}
use Rattle.client.proofs.Refusals.{buffers_denied}
use Rattle.workers.proofs.Buffered.{next_follows}
use Rattle.workers.proofs.Refusals.{passed_on}
use Rattle.workers.proofs.reads.write_one.Goals as goal

pub returns-clause-next : goal.returns-clause-next
returns-clause-next c =
    next_follows c.args.one.now _ c.args.tx.now.client c.buffer.new.self.client
    (record { none = c.in_ok-next.ensures.none; number = c.in_ok-next.ensures.number }) c.in_ok-buffer.ensures.step

pub returns-in_err-buffer-clause-refused : goal.returns-in_err-buffer-clause-refused
returns-in_err-buffer-clause-refused c =
    passed_on c.from_residual-in_err-buffer.result c.in_err-buffer.field-0.0 (search rules) (buffers_denied _ _ _ c.in_err-buffer.ensures.step.1)
