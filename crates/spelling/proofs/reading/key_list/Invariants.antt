use Rattle.std.proofs.Common.{◌≡◌, ◌-◌}
use Rattle.spelling.specs.Reading.{key_at, many_at}
use Rattle.spelling.proofs.Loop.{with_front}
use Rattle.spelling.proofs.reading.key_list.Given as goal

abbrev pub invariant-loop : goal.invariant-loop
invariant-loop l = with_front l.keys.items (many_at key_at (l.count - l.counter) l.rest) ≡ many_at key_at l.count l.bytes
