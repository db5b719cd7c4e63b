use Rattle.std.proofs.Common.{◌≡◌, ◌+◌, ◌≤◌, [], ◌∷◌, ◌++◌, ℕ, length, refl, ap, arith}
use Rattle.spelling.specs.Grammar.{spelling}
use Rattle.record.specs.declared.record.Record.{Record}
use Rattle.gatelog.specs.Groups.{Group, group_bytes}
use Rattle.gatelog.proofs.Groups.{group-end, end-more}
use Rattle.gatelog.proofs.gatelog.GateLog.gather.Goals as goal

-- how many bytes a record more takes
more-size : (group : Group) (item : Record) (n count : ℕ) → n ≡ length (group_bytes group.items) → count ≡ length (spelling item) →
    length (group_bytes (group.items ++ item ∷ [])) + 1 ≤ n + (count + 6)
more-size group item n count n-is count-is =
    omega (arith, group-end 0 group.items, group-end 0 (group.items ++ item ∷ []), end-more group.items item 0, n-is, count-is)

pub overflow_add-all-2 : goal.overflow_add-all-2
overflow_add-all-2 g c =
    let group = c.args.group.now in
    omega (arith, group-end group.gate group.items, c.len.ensures, c.encoded_len.ensures.value, c.if-not-fits_behind.ensures.there refl, c.end.ensures)

pub returns-in-Ok-clause-room : goal.returns-in-Ok-clause-room
returns-in-Ok-clause-room g c obeys =
    let group = c.args.group.now in
    let more = more-size group c.args.item c.len.result c.encoded_len.result c.len.ensures c.encoded_len.ensures.value in
    g.met.D.Disk.room_less c.reserve.new.self 8 (c.len.result + (c.encoded_len.result + 6)) 4 (length (group_bytes c.add.new.self.items) + 1) (omega arith)
    (omega (arith, more, ap (λ (x : Group). length (group_bytes x.items)) c.in-Ok.ensures.added)) (c.in_default.ensures.room obeys)
