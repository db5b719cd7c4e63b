use Rattle.std.proofs.Common.{List, reverse, sym, subst}
use Rattle.std.proofs.Math.Logic.{∥∥₁_elim, ∥∥₁_map}
use Rattle.std.proofs.Props.{props}
use Rattle.frames.specs.Placed.{Placed}
use Rattle.recovery.specs.Recovered.{IsSoundlyRebuilt, items}
use Rattle.recovery.specs.Rebuilding.{Progresses, Goes}
use Rattle.recovery.proofs.Ended.{rebuilt-prop, left_by, soundly}
use Rattle.recovery.proofs.Progress.{memory_or}
use Rattle.recovery.proofs.rebuilding.Rebuild.finish.Goals.{in-Some-state, in_default}
use Rattle.recovery.proofs.rebuilding.Rebuild.finish.Goals as goal

pub returns-after-state-clause-found : goal.returns-after-state-clause-found
returns-after-state-clause-found c =
    let r = c.args.self in
    let ts : List Placed = reverse r.entries.entries in
    ∥∥₁_elim r.progress (rebuilt-prop r.setup (items ts) r.state) (λ h. left_by r.setup ts r.state (subst (Progresses r.setup ts r.state) c.in-None.is h))

pub returns-after-state-clause-sound : goal.returns-after-state-clause-sound
returns-after-state-clause-sound c =
    let r = c.args.self in
    let ts : List Placed = reverse r.entries.entries in
    elim c.match-state.branch [
      | in-Some-state w ↦
          subst (IsSoundlyRebuilt r.setup) (sym w.in-Some-state.is)
          (∥∥₁_map r.progress (λ h.
          soundly r.setup ts w.in-Some-state.state w.laws.ensures
          (subst (Goes r.setup ts) w.in-Some-state.is (subst (Progresses r.setup ts r.state) c.in-None.is h))))
      | in_default w ↦ subst (IsSoundlyRebuilt r.setup) (sym w.in_default.is) tt
    ]

pub returns-after-state-clause-accepted : goal.returns-after-state-clause-accepted
returns-after-state-clause-accepted c =
    ∥∥₁_elim c.args.self.progress (hlevel props)
    (λ h. (subst (Progresses c.args.self.setup (reverse c.args.self.entries.entries) c.args.self.state) c.in-None.is h).stands.verdict)

pub returns-after-state-2-clause-refused : goal.returns-after-state-2-clause-refused
returns-after-state-2-clause-refused c = memory_or c.in-Some.fault _ (λ other.
    ∥∥₁_elim c.args.self.progress (hlevel props)
    (λ h. subst (Progresses c.args.self.setup (reverse c.args.self.entries.entries) c.args.self.state) c.in-Some.is h other))
