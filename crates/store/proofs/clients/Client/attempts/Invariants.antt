use Rattle.std.proofs.Common.{◌≡◌, List, length}
use denote.Param.Always.{always_mut}
use Rattle.store.specs.Attempts.{AreAborted, Attempt, HasTried}
use Rattle.store.proofs.clients.Client.attempts.Given as goal

abbrev pub invariant-loop-before : goal.invariant-loop-before
invariant-loop-before g l = record {
  callable : always_mut g.F.FnMut l.code;
  tried : (made : List (Attempt _ _)) × HasTried g.F.FnMut l.fn.self l.fn.code made l.self l.code × (length made ≡ l.before) × AreAborted made;
}
