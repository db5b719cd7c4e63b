use Rattle.std.proofs.Common.{◌-◌, List, ℕ, sym, subst, arith}
use Rattle.std.specs.Prelude.{IsTrue}
use Rattle.disk.specs.File.{surface}
use Rattle.gatelog.specs.First.{AreSpelled, HasCopied}
use Rattle.gatelog.specs.Log.{ends_at}
use Rattle.gatelog.specs.Shown.{gate_at}
use Rattle.gatelog.specs.Turns.{IsNextOrNone}
use Rattle.gatelog.proofs.Copies.{copy-ends, copy-long, copy-next, copy-or-none, has-copied}
use Rattle.gatelog.proofs.migrating.migrate.Goals as goal

pub returns-in-Err-lay_out-clause-late : goal.returns-in-Err-lay_out-clause-late
returns-in-Err-lay_out-clause-late g c call obeys keeps is le device more =
    let found = c.in-Ok.ensures.spelled in
    let spelled : AreSpelled found.0 c.deref.result.now = subst (AreSpelled found.0) (sym c.deref.ensures.value) found.1 in (
      found.0,
      found.2 keeps,
      λ left may. copy-or-none found.0 c.deref.result.now spelled left (c.in-Err-lay_out.ensures.late call obeys keeps is le device left may),
    )

pub laid-requires-clause-whole : goal.laid-requires-clause-whole
laid-requires-clause-whole g c keeps =
    let found = c.in-Ok.ensures.spelled in
    let spelled : AreSpelled found.0 c.deref.result.now = subst (AreSpelled found.0) (sym c.deref.ensures.value) found.1 in
    let done = c.in_default.ensures.done keeps in
    subst (λ (l : List ℕ). IsTrue (ends_at l (c.len.result - 1))) (sym done.0) (copy-ends found.0 c.deref.result.now spelled (c.len.result - 1)
    (omega (arith, copy-long found.0 c.deref.result.now spelled, c.len.ensures, c.deref.ensures.len)))

pub laid-requires-clause-next : goal.laid-requires-clause-next
laid-requires-clause-next g c keeps =
    let found = c.in-Ok.ensures.spelled in
    let spelled : AreSpelled found.0 c.deref.result.now = subst (AreSpelled found.0) (sym c.deref.ensures.value) found.1 in
    subst (λ (l : List ℕ). IsNextOrNone l 0) (sym (c.in_default.ensures.done keeps).0) (copy-next found.0 c.deref.result.now spelled)

pub returns-clause-copied : goal.returns-clause-copied
returns-clause-copied g c keeps =
    let found = c.in-Ok.ensures.spelled in
    let spelled : AreSpelled found.0 c.deref.result.now = subst (AreSpelled found.0) (sym c.deref.ensures.value) found.1 in
    let image = (surface (g.D.Disk.file c.args.from.now)).seen in
    let copied =
    has-copied found.0 c.deref.result.now spelled g.D.Disk.file g.D.Disk.clock g.D.Disk.since image c.args.to c.lay_out.new.disk (c.len.result - 1)
    (found.2 keeps) (omega (arith, copy-long found.0 c.deref.result.now spelled, c.len.ensures, c.deref.ensures.len)) (c.in_default.ensures.done keeps)
    (c.in_default.ensures.laid keeps) in (
      found.0,
      subst (λ d. HasCopied g.D.Disk.file g.D.Disk.clock g.D.Disk.since image c.args.to d (gate_at c.laid.result) found.0) (sym c.laid.ensures.disk)
          (subst (λ n. HasCopied g.D.Disk.file g.D.Disk.clock g.D.Disk.since image c.args.to c.lay_out.new.disk n found.0) (sym c.laid.ensures.gate) copied),
    )
