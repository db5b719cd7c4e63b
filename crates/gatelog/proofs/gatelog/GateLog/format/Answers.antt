use Rattle.std.proofs.Common.{◌≡◌, ℕ, List, [], ◌++◌, drop, replicate, Ok, refl, sym, subst, ap, ◌∙◌}
use Rattle.disk.specs.File.{surface}
use Rattle.disk.specs.Image.{MayLeave}
use Rattle.disk.specs.Moments.{LeavesOnly}
use Rattle.gatelog.specs.Shown.{disk_of}
use Rattle.disk.proofs.Runs.{weaker}
use Rattle.gatelog.specs.Frames.{header}
use Rattle.gatelog.specs.Areas.{without_header, fresh_with}
use Rattle.gatelog.specs.Laid.{HoldsBehind, HasNoneOr}
use Rattle.gatelog.specs.Log.{log, entries_of, ends_with, ends_at}
use Rattle.gatelog.specs.Slots.{begins_in}
use Rattle.gatelog.specs.Turns.{IsNextOrNone}
use Rattle.gatelog.proofs.Next.{fresh-next, fresh-begins}
use Rattle.gatelog.proofs.Fresh.{scan-fresh, none-or-log}
use Rattle.gatelog.proofs.gatelog.GateLog.format.Goals as goal

-- without its header, a file without records is 9,225 bytes of 00
bare-is : replicate 9225 0 ≡ without_header []
bare-is = refl

fresh-is : header ++ drop 8 (replicate 9225 0) ≡ fresh_with []
fresh-is = refl

empty-log : log (fresh_with []) ≡ Ok []
empty-log = ap entries_of (scan-fresh [] tt)

pub laid-requires-clause-whole : goal.laid-requires-clause-whole
laid-requires-clause-whole g c keeps =
    let is : (surface (g.D.Disk.file c.lay_out.new.disk)).seen ≡ fresh_with [] = (c.in_default.ensures.done keeps).0 ∙ fresh-is in
    ap (λ (l : List ℕ). ends_at l 9224) is ∙ ap (λ found. ends_with found 9224) (scan-fresh [] tt)

pub laid-requires-clause-next : goal.laid-requires-clause-next
laid-requires-clause-next g c keeps =
    subst (λ (l : List ℕ). IsNextOrNone l 0) (sym ((c.in_default.ensures.done keeps).0 ∙ fresh-is)) (fresh-next [])

pub returns-clause-empty : goal.returns-clause-empty
returns-clause-empty g c keeps image may =
    let done = c.in_default.ensures.done keeps in
    let left = subst (λ d. MayLeave (surface (g.D.Disk.file d)) image) c.laid.ensures.disk may in
    ap log (left.unchanged done.1.synced ∙ (done.0 ∙ fresh-is)) ∙ empty-log

pub returns-clause-read : goal.returns-clause-read
returns-clause-read g c keeps =
    let done = c.in_default.ensures.done keeps in
    ap (λ d. log (surface (g.D.Disk.file d)).seen) c.laid.ensures.disk ∙ ap log (done.0 ∙ fresh-is) ∙ empty-log

pub returns-clause-begins : goal.returns-clause-begins
returns-clause-begins g c keeps image may =
    let done = c.in_default.ensures.done keeps in
    let left = subst (λ d. MayLeave (surface (g.D.Disk.file d)) image) c.laid.ensures.disk may in
    ap begins_in (left.unchanged done.1.synced ∙ (done.0 ∙ fresh-is)) ∙ fresh-begins []

pub returns-clause-laid : goal.returns-clause-laid
returns-clause-laid g c keeps =
    let laid = c.in_default.ensures.laid keeps in
    let new = disk_of c.laid.result in
    let at = laid.1 in (
      laid.0,
      record {
        within = at.within;
        synced = at.synced;
        bare = at.bare ∙ bare-is;
        from_then_on =
            subst (λ d. LeavesOnly g.D.Disk.clock g.D.Disk.since laid.0 d (HasNoneOr [])) (sym c.laid.ensures.disk)
            (weaker g.D.Disk.clock g.D.Disk.since laid.0 c.lay_out.new.disk (HoldsBehind (replicate 9225 0)) (HasNoneOr []) at.from_then_on
            (λ image holds. none-or-log [] tt image (subst (λ (l : List ℕ). HoldsBehind l image) bare-is holds)));
      },
    )
