-- What was written is the head and the pages up to the next key.
use Rattle.std.proofs.Common.{◌≡◌, ◌++◌, List, Some, length}
use Rattle.std.specs.Io.KnownBytes.{Appends}
use Rattle.output.specs.Streams.{writer_of}
use Rattle.moving.specs.Exports.{ArePages, Page, head, least, pairs_on, text}
use Rattle.moving.proofs.exporting.export.Given as goal

abbrev pub invariant-loop-page : goal.invariant-loop-page
invariant-loop-page g l =
    (l.view.at ≡ l.fn.view.at)
    × (l.view.shared.now.splits ≡ l.fn.view.shared.now.splits)
    × ((pages : List Page)
    × ArePages l.fn.view.shared.now.splits l.fn.view.at l.fn.view.viewers.now.items (Some least) pages l.next l.view.viewers.now.items
    × Appends (g.W.Write.contents (writer_of l.fn.out)) (g.W.Write.contents (writer_of l.out)) (head l.form ++ text l.form (pairs_on pages))
    × (l.exported ≡ length (pairs_on pages)))
