use Rattle.std.proofs.Math.Logic.{∥∥₁_elim}
use Rattle.std.specs.Prelude.{Ok}
use Rattle.disk.specs.File.{surface}
use Rattle.gatelog.specs.Shown.{disk_of, is_stopped}
use Rattle.ledger.specs.Turned.{turned}
use Rattle.ledger.proofs.Props.{regular-prop}
use Rattle.shard.proofs.Agrees.{agrees_kept, turned-known}
use Rattle.shard.proofs.machine.Machine.move_to.Goals as goal

-- the other log holds the renewal of the facts, which says the same
pub invariant_of-machine : goal.invariant_of-machine
invariant_of-machine g c =
    let log = c.args.log in
    let state = c.args.self.state in
    record {
      agrees = λ keeps. ∣ agrees_kept (is_stopped log) (surface (g.D.Disk.file (disk_of log))) (Ok (turned state.facts)) state.facts c.requires.running
          (c.requires.durable keeps)
          (turned-known c.turned_keeps.ensures state.facts (∥∥₁_elim c.args.self.lasting (regular-prop state.facts) (λ l. l.regular))) ∣₁;
      sound = c.args.self.sound;
      showable = c.args.self.showable;
      lasting = c.args.self.lasting;
    }
