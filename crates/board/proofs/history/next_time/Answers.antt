use Rattle.std.proofs.Common.{◌<◌, ◌≤◌, arith, subst}
use Rattle.std.proofs.lemmas.Bool.Decides.{nat_tests}
use Rattle.std.specs.Option.{option_copied}
use Rattle.versions.specs.Next.{IsNextVersion}
use Rattle.board.proofs.Continuing.{within, beyond}
use Rattle.board.proofs.history.next_time.Goals as goal

pub returns-then-le : goal.returns-then-le
returns-then-le c =
    let installs = c.args.versions.now.installs in
    let le : c.in-Some.next.now.at ≤ c.args.to = grind (arith, nat_tests, c.le.ensures, c.if-le.true) in
    within installs c.args.key.now c.args.at c.args.to c.in-Some.next.now le
    (subst (λ o. IsNextVersion installs c.args.key.now c.args.at (option_copied o)) c.in-Some.is c.next_version.ensures)

pub returns-else-le : goal.returns-else-le
returns-else-le c =
    let installs = c.args.versions.now.installs in
    let gt : c.args.to < c.in-Some.next.now.at = grind (arith, nat_tests, c.le.ensures, c.if-le.false) in
    beyond installs c.args.key.now c.args.at c.args.to c.in-Some.next.now gt
    (subst (λ o. IsNextVersion installs c.args.key.now c.args.at (option_copied o)) c.in-Some.is c.next_version.ensures)
