-- What a contract sees of a desk.
use Rattle.node.specs.declared.desk.Desk.{Desk}
use Rattle.node.specs.InStep.{DeskView}
use Rattle.shard.specs.Core.{seen, book_of}

-- its core with its book, its board, and how its log was measured
abbrev pub seen_desk : {D R : Type 0} {g : _} → Desk D R g → DeskView D
seen_desk desk = record { core = seen desk.core; book = book_of desk.core; board = desk.publisher; measure = desk.measure }
