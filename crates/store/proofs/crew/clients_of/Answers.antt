use Rattle.std.proofs.Common.{◌≡◌, ◌∷◌, All, List, sym, subst}
use Rattle.std.proofs.lemmas.List.Elements.{All-push}
use Rattle.board.specs.Dealing.{lists_of}
use Rattle.board.specs.Views.{Viewing}
use Rattle.store.specs.Attempts.{IsFresh, Worker}
use Rattle.store.proofs.Dealt.{still_dealt, was_dealt}
use Rattle.store.proofs.crew.clients_of.Goals as goal

pub loop-client-preserved : goal.loop-client-preserved
loop-client-preserved g c =
    let shared = c.args.shared.now in
    let clock = c.args.clock in
    let all : List (List Viewing) = lists_of c.args.crew.viewers in
    let left : List (List Viewing) = lists_of c.next.new.self.viewers in
    let viewers : List Viewing = c.in-Some.client.viewers in
    let lists = c.loop-client.invariant.lists in
    let is = c.in-Some.ensures.client in
    let P : Worker → Type 0 =
    λ client. IsFresh shared.run shared.splits clock.machine.epsilon clock.from all client × (client.drawing.source ≡ shared.ids) in
    record {
      drawers = c.next.ensures.drawers;
      lists = (viewers ∷ lists.0, still_dealt all _ left lists.0 viewers lists.1 c.in-Some.ensures.viewers);
      clients = subst (All P) (sym c.in_ok-push.ensures.items)
          (All-push P c.loop-client.clients.items c.in-Some.client c.loop-client.invariant.clients
          ((is.0.0, is.0.1, is.0.2, is.0.3, is.0.4, was_dealt all _ left lists.0 viewers lists.1 c.in-Some.ensures.viewers), is.1));
    }
