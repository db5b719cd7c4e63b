use Rattle.std.proofs.Common.{◌≡◌, true, sym, ap, subst, ◌∙◌}
use Rattle.units.specs.declared.writes.Install.{Install}
use Rattle.versions.specs.Ordered.{installed, is_above}
use Rattle.versions.proofs.Last.{installed_last, above_last}
use Rattle.versions.proofs.store.Versions.append.Goals as goal

pub install-requires-clause-above : goal.install-requires-clause-above
install-requires-clause-above c =
    subst (λ (i : Install). is_above c.args.self.now.installs i.key i.at ≡ true) (sym c.in_ok-key.ensures.same)
    (above_last c.args.self.now.installs c.args.install.now c.requires.last)

pub returns-clause-installs : goal.returns-clause-installs
returns-clause-installs c =
    c.install.ensures.installs ∙ ap (installed c.args.self.now.installs) c.in_ok-key.ensures.same
    ∙ installed_last c.args.self.now.installs c.args.install.now c.requires.last
