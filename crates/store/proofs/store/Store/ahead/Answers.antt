use Rattle.std.proofs.Common.{◌≡◌, ◌-◌, ◌+◌, ℕ, IfSome, subst}
use Rattle.store.specs.Standing.{Standing}
use Rattle.store.proofs.store.Store.ahead.Goals as goal

pub returns : goal.returns
returns g c =
    subst (λ (s : Standing). IfSome c.lead_by.result (λ lead. (x : ℕ) × (lead ≡ s.last - (x + s.epsilon)))) c.self.view_is c.lead_by.ensures
