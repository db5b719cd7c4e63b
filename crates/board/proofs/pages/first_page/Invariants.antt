use Rattle.std.specs.Option.{option_copied}
use Rattle.board.specs.Pages.{IsPage, value_by}
use Rattle.board.proofs.pages.first_page.Given as goal

-- a page at each step
abbrev pub invariant-loop-visit : goal.invariant-loop-visit
invariant-loop-visit l = IsPage (value_by l.home l.versions.installs l.at) l.from (option_copied l.to) l.page.keys.items l.page.next
