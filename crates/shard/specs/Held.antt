-- The versions that a core holds on to.
use Rattle.std.specs.Prelude.{Option, Some, None}
use Rattle.book.specs.Books.{BookView}
use Rattle.ledger.specs.Turned.{held_facts}
use Rattle.record.specs.Facts.{Facts}

-- the facts without the versions that the horizon passed, where no book is kept that replays to all
abbrev pub without_passed : Option BookView → Facts → Facts
without_passed None facts = held_facts facts
without_passed (Some book) facts = facts
