use Rattle.std.proofs.Common.{◌∙◌, ap, inl, inr, refl, subst, sym}
use Rattle.units.specs.declared.setup.Setup.{Setup}
use Rattle.board.specs.Board.{first_entries}
use Rattle.shard.specs.Books.{new_book}
use Rattle.shard.specs.Core.{begun_of, seen}
use Rattle.shard.specs.Look.{safe_at}
use Rattle.shard.specs.On.{CoreView}
use Rattle.shard.specs.Opened.{HasNotOpened, HasOpened}
use Rattle.node.specs.InStep.{AreOnBoard, IsNewBoard}
use Rattle.node.proofs.desk.Desk.open.Goals as goal

pub returns-in-Err-clause-refused : goal.returns-in-Err-clause-refused
returns-in-Err-clause-refused g c = inl (c.in-Err.ensures.many.1, c.in-Err.ensures.many.0, refl)

pub returns-in-Err-copy-clause-refused : goal.returns-in-Err-copy-clause-refused
returns-in-Err-copy-clause-refused g c = inr (c.in_default.ensures.fits, inl (c.in-Err-copy.ensures.memory, refl))

pub returns-in-Err-open-clause-refused : goal.returns-in-Err-open-clause-refused
returns-in-Err-open-clause-refused g c = inr (
  c.in_default.ensures.fits,
  inr (inl (subst (λ (told : Setup). HasNotOpened g.D.Disk.keeps_model g.D.Disk.obeys g.D.Disk.file g.D.Disk.clock g.D.Disk.since g.D.Disk.failures
      g.D.Disk.plan c.args.disk told c.in-Err-open.refused.0 c.in-Err-open.refused.1) c.in-Ok.ensures.same c.in-Err-open.ensures.refused)),
)

pub returns-in-Err-new-clause-refused : goal.returns-in-Err-new-clause-refused
returns-in-Err-new-clause-refused g c = inr (
  c.in_default.ensures.fits,
  inr (inr (record {
    core = seen c.in-Ok-open.core;
    opened = subst (λ (told : Setup). HasOpened g.D.Disk.keeps_model g.D.Disk.obeys g.D.Disk.file g.D.Disk.clock g.D.Disk.since g.D.Disk.failures
        g.D.Disk.plan c.args.disk told (seen c.in-Ok-open.core)) c.in-Ok.ensures.same c.in-Ok-open.ensures.opened;
    disk_back = c.stop.ensures ∙ ap (λ (core : CoreView _). core.disk) c.in-Err-new.ensures.refused.1;
    why = c.in-Err-new.ensures.refused.0;
  })),
)

pub returns-in-Ok-new-clause-opened : goal.returns-in-Ok-new-clause-opened
returns-in-Ok-new-clause-opened g c =
    subst (HasOpened g.D.Disk.keeps_model g.D.Disk.obeys g.D.Disk.file g.D.Disk.clock g.D.Disk.since g.D.Disk.failures g.D.Disk.plan c.args.disk
    c.args.setup.now) (sym c.in-Ok-new.ensures.core.0)
    (subst (λ (told : Setup). HasOpened g.D.Disk.keeps_model g.D.Disk.obeys g.D.Disk.file g.D.Disk.clock g.D.Disk.since g.D.Disk.failures
    g.D.Disk.plan c.args.disk told (seen c.in-Ok-open.core)) c.in-Ok.ensures.same c.in-Ok-open.ensures.opened)

pub returns-in-Ok-new-clause-book : goal.returns-in-Ok-new-clause-book
returns-in-Ok-new-clause-book g c keeps records is =
    c.in-Ok-new.ensures.core.1 ∙ c.in-Ok-open.ensures.book keeps records is ∙ ap (λ (told : Setup). new_book told.book records) c.in-Ok.ensures.same

pub returns-in-Ok-new-clause-board : goal.returns-in-Ok-new-clause-board
returns-in-Ok-new-clause-board g c =
    subst (λ (core : CoreView _). IsNewBoard c.in-Ok-new.made.0.publisher (first_entries core.facts.installs (safe_at core) core.facts.horizon))
    (sym c.in-Ok-new.ensures.core.0) c.in-Ok-new.ensures.board

pub returns-in-Ok-new-clause-viewers : goal.returns-in-Ok-new-clause-viewers
returns-in-Ok-new-clause-viewers g c =
    subst (λ (told : Setup). AreOnBoard c.args.n told c.in-Ok-new.made.0.publisher c.in-Ok-new.made.1.items)
    (c.in-Ok-open.ensures.opened.setup ∙ c.in-Ok.ensures.same) c.in-Ok-new.ensures.viewers

pub returns-in-Ok-new-clause-measure : goal.returns-in-Ok-new-clause-measure
returns-in-Ok-new-clause-measure g c = λ keeps. (
  begun_of c.in-Ok-open.core,
  c.in-Ok-open.ensures.begun keeps,
  c.in-Ok-new.ensures.measure,
)
