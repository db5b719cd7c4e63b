use Rattle.std.proofs.Common.{◌≡◌}
use Rattle.std.proofs.lemmas.List.Elements.{All-pop}
use Rattle.tickets.specs.declared.source.Drawer.{Drawer}
use Rattle.workers.proofs.Staffs.{as_many}
use Rattle.workers.proofs.crew.Staff.next.Goals as goal

pub returns-clause-staff : goal.returns-clause-staff
returns-clause-staff g c =
    let shared = c.args.shared.now in
    let staff = c.requires.staff in
    let old = c.args.self.now in
    let inboxes = old.inboxes.items in
    let rest = c.pop.new.self.items in
    record {
      ids = as_many inboxes rest c.pop.result c.unwrap-inbox.result old.drawers.ids.items c.pop-2.new.self.items c.pop-2.result c.unwrap.result
          staff.ids c.pop.ensures.items c.unwrap-inbox.ensures c.pop-2.ensures.items c.unwrap.ensures;
      ids_drawn = (All-pop (λ (d : Drawer). d.source ≡ shared.ids) _ _ _ c.pop-2.ensures.items staff.ids_drawn).0;
      moments = as_many inboxes rest c.pop.result c.unwrap-inbox.result old.drawers.moments.items c.pop-3.new.self.items c.pop-3.result c.unwrap-2.result
          staff.moments c.pop.ensures.items c.unwrap-inbox.ensures c.pop-3.ensures.items c.unwrap-2.ensures;
      moments_drawn = (All-pop (λ (d : Drawer). d.source ≡ shared.moments) _ _ _ c.pop-3.ensures.items staff.moments_drawn).0;
      viewers = as_many inboxes rest c.pop.result c.unwrap-inbox.result old.viewers.by_worker.items c.pop-4.new.self.items c.pop-4.result c.unwrap-3.result
          staff.viewers c.pop.ensures.items c.unwrap-inbox.ensures c.pop-4.ensures.items c.unwrap-3.ensures;
    }
