use Rattle.std.proofs.Common.{◌≡◌, ◌++◌, All, List}
use Rattle.board.specs.Dealing.{lists_of}
use Rattle.board.specs.Views.{Viewing}
use Rattle.store.specs.Attempts.{IsFresh}
use Rattle.store.proofs.crew.clients_of.Given as goal

abbrev pub invariant-loop-client : goal.invariant-loop-client
invariant-loop-client g l = record {
  drawers : All (λ drawer. drawer.source ≡ l.shared.ids) l.crew.drawers.items;
  lists : (dealt : List (List Viewing)) × (lists_of l.crew.viewers ++ dealt ≡ lists_of l.fn.crew.viewers);
  clients :
      All (λ client. IsFresh l.shared.run l.shared.splits l.clock.machine.epsilon l.clock.from (lists_of l.fn.crew.viewers) client
      × (client.drawing.source ≡ l.shared.ids)) l.clients.items;
}
