use Rattle.std.proofs.Common.{◌≡◌, ◌+◌, length}
use Rattle.workers.specs.Staffs.{IsStaffOf}
use Rattle.workers.proofs.crew.workers.Given as goal

abbrev pub invariant-loop-worker : goal.invariant-loop-worker
invariant-loop-worker g l = record {
  staff : IsStaffOf l.shared l.staff;
  workers : length l.workers.items ≡ l._worker;
  rest : length l.staff.inboxes.items + l._worker ≡ length l.fn.staff.inboxes.items;
}
