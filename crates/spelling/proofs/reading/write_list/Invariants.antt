use Rattle.std.proofs.Common.{◌≡◌, ◌-◌}
use Rattle.spelling.specs.Reading.{write_at, many_at}
use Rattle.spelling.proofs.Loop.{with_front}
use Rattle.spelling.proofs.reading.write_list.Given as goal

abbrev pub invariant-loop : goal.invariant-loop
invariant-loop l = with_front l.writes.items (many_at write_at (l.count - l.counter) l.rest) ≡ many_at write_at l.count l.bytes
