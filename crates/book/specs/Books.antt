-- What a contract sees of a book, and what the book says of its shard.
use Rattle.std.specs.Prelude.{◌≡◌, ℕ, ◌+◌, ◌<◌, ◌≤◌, List, [], ◌∷◌, ◌++◌, length, Option, Some, None}
use Rattle.units.specs.declared.setup.Setup.{Setup}
use Rattle.units.specs.declared.setup.Book.{Book}
use Rattle.units.specs.declared.setup.Book.TheVariants.{Off, On}
use Rattle.record.specs.declared.record.Record.{Record}
use Rattle.record.specs.Records.{epoch_of}
use Rattle.protocol.specs.Rows.{Memory}
use Rattle.protocol.specs.Replay.{BookEntry, Stand, IsReplay, opened_with, replayed, after_step, step_kept}
use Rattle.protocol.specs.Step.{Does}

-- for how many pages there is room in all, the records that the opening found, and the pages
pub record BookView : Type 0 where
  pub capacity : ℕ
  pub found : List Record
  pub pages : List BookEntry

-- one page more
abbrev pub with_page : BookView → BookEntry → BookView
with_page b page = record b { pages = b.pages ++ page ∷ [] }

-- Where an opening that found these records left its shard: they are rebuilt, with the opening's own record behind them.
abbrev pub opening_left : List Record → Stand
opening_left found = opened_with (found ++ Record.Opened (epoch_of found + 1) ∷ [])

-- From where the opening left the shard, the inputs of the pages, at their readings, lead here; each is accepted, and puts out
-- what is kept of it.
pub record Replays (setup : Setup) (b : BookView) (here : Stand) : Type 0 where
  pub leads : replayed setup (opening_left b.found) b.pages ≡ here
  pub accepted : IsReplay setup (opening_left b.found) b.pages

-- a page more is one step more, at the end
abbrev pub PageIsStep : Type 0
PageIsStep = (setup : Setup) (b : BookView) (here : Stand) (page : BookEntry) (logged : Option Record) (memory : Memory)
    → Replays setup b here → step_kept setup here page ≡ Does logged memory page.outbox
    → Replays setup (with_page b page) (after_step here (Does logged memory page.outbox))

-- a shard that stands here keeps a book exactly where it was told to, of the capacity that it was told, which replays
abbrev pub IsBookOf : Setup → Option BookView → Stand → Type 0
IsBookOf setup None here = setup.book ≡ Off
IsBookOf setup (Some b) here = (setup.book ≡ On b.capacity) × Replays setup b here

-- no book is kept, or it has room for a page more
abbrev pub HasBookRoom : Book → Option BookView → Type 0
HasBookRoom Off book = Unit {0}
HasBookRoom (On capacity) None = Unit {0}
HasBookRoom (On capacity) (Some b) = length b.pages < capacity

-- a book is kept that has none
abbrev pub IsBookFull : Book → Option BookView → Type 0
IsBookFull Off book = ⊥
IsBookFull (On capacity) None = ⊥
IsBookFull (On capacity) (Some b) = capacity ≤ length b.pages

-- the book of a shard that was told this, whose opening found these records
abbrev pub new_book : Book → List Record → Option BookView
new_book Off found = None
new_book (On capacity) found = Some (record { capacity = capacity; found = found; pages = [] })

-- one page more, where a book is kept
abbrev pub and_page : Option BookView → BookEntry → Option BookView
and_page None page = None
and_page (Some b) page = Some (with_page b page)
