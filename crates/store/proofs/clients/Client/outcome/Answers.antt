use Rattle.std.proofs.Common.{[], ◌∷◌, ◌++◌, List, inr, ap, sym, ◌∙◌, subst, ◌≡◌}
use Rattle.units.specs.Ids.{Id}
use Rattle.message.specs.Ends.{End}
use Rattle.client.specs.Outcomes.{IsFound}
use Rattle.client.specs.Traffic.{Traffic}
use Rattle.store.specs.Attempts.{Worker}
use Rattle.store.proofs.clients.Client.outcome.Goals as goal

pub returns : goal.returns
returns g c =
    let inside = c.self.inside in
    let wire : Traffic = c.ask-outcome.new.self in
    let heard = c.ask-outcome.ensures.heard in
    let before : Worker = record {
      run = inside.shared.now.run;
      splits = inside.shared.now.splits;
      drawing = inside.drawer;
      traffics = inside.past;
      viewers = inside.viewers.items;
      epsilon = inside.clock.epsilon;
      from = inside.clock.from;
      readings = inside.clock.readings;
    } in
    let same : wire.heard ≡ heard.0 = heard.1 ∙ ap (λ (l : List End). l ++ heard.0) c.in_ok-asking.ensures.none.1 in
    record {
      asked = inr (
        wire.sent,
        wire.heard,
        ap (λ (l : List Traffic). record before { traffics = l }) c.add.ensures
            ∙ ap (λ (w : Worker). record w { traffics = w.traffics ++ wire ∷ [] }) c.self.view_is,
        subst (λ (l : List End). IsFound c.args.id c.ask-outcome.result l) (sym same)
            (subst (λ (t : Id). IsFound t c.ask-outcome.result heard.0) c.in-Some.ensures heard.2),
      );
    }
