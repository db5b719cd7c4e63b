-- What workers are made of.
use Rattle.std.specs.Prelude.{◌≡◌, length, All}
use Rattle.workers.specs.declared.crew.Staff.{Staff}
use Rattle.workers.specs.declared.shared.Shared.{Shared}

-- there are as many of each as there are inboxes, and the drawers draw from what is shared
pub record IsStaffOf (shared : Shared) (staff : Staff) : Type 0 where
  pub ids : length staff.drawers.ids.items ≡ length staff.inboxes.items
  pub ids_drawn : All (λ drawer. drawer.source ≡ shared.ids) staff.drawers.ids.items
  pub moments : length staff.drawers.moments.items ≡ length staff.inboxes.items
  pub moments_drawn : All (λ drawer. drawer.source ≡ shared.moments) staff.drawers.moments.items
  pub viewers : length staff.viewers.by_worker.items ≡ length staff.inboxes.items
