-- A desk whose core goes on in another log.
use Rattle.std.proofs.Common.{◌≡◌, ◌∙◌, ℕ, Bool, IsTrue, inl, inr, ap, refl, sym, subst}
use Rattle.units.specs.declared.fault.Fault.{Fault}
use Rattle.units.specs.declared.fault.Fault.TheVariants.{Device}
use Rattle.disk.specs.File.{File, surface}
use Rattle.shard.specs.declared.begun.Begun.{Begun}
use Rattle.shard.specs.Beginnings.{begun_anew}
use Rattle.shard.specs.Moved.{HoldsRenewal, IsUnmade, moved_to}
use Rattle.shard.specs.On.{CoreView}
use Rattle.node.specs.declared.measure.Measure.{Measure}
use Rattle.node.specs.DeskFaults.{refuses_turnover}
use Rattle.node.specs.Moved.{HasNotMovedIn}
use Rattle.node.specs.Renewed.{found_at}
use Rattle.node.specs.Restart.{PlaceView, Serving, Resting}

-- its core by its own disk and gate
pub moved_core : {D : Type 0} (new old : CoreView D) (disk : D) (gate slot : ℕ) → new ≡ moved_to old disk gate slot → slot ≡ 1
    → new ≡ moved_to old new.disk new.gate 1
moved_core {D} new old disk gate slot is one =
    subst (λ (core : CoreView D). core ≡ moved_to old core.disk core.gate 1) (sym is) (ap (λ (n : ℕ). moved_to old disk gate n) one)

pub moved_holds : {D : Type 0} (keeps : Type 0) (file : D → File) (new old : CoreView D) (disk : D) (gate slot : ℕ) → new ≡ moved_to old disk gate slot
    → (keeps → HoldsRenewal (surface (file disk)) old.facts) → keeps → HoldsRenewal (surface (file new.disk)) old.facts
moved_holds {D} keeps file new old disk gate slot is holds =
    subst (λ (core : CoreView D). keeps → HoldsRenewal (surface (file core.disk)) old.facts) (sym is) holds

pub moved_measure : {D : Type 0} (new old : CoreView D) (disk : D) (gate slot : ℕ) (begun found : Begun) (measure : Measure)
    → new ≡ moved_to old disk gate slot → begun ≡ begun_anew gate → found ≡ begun → measure ≡ found_at found → measure ≡ found_at (begun_anew new.gate)
moved_measure {D} new old disk gate slot begun found measure is anew same told =
    told ∙ ap found_at (same ∙ anew) ∙ ap (λ (core : CoreView D). found_at (begun_anew core.gate)) (sym is)

as_turnover : (fault other : Fault) → fault ≡ other → IsTrue (refuses_turnover other) → IsTrue (refuses_turnover fault)
as_turnover fault other is refuses = subst (λ (f : Fault). IsTrue (refuses_turnover f)) (sym is) refuses

unmade_refuses : (stopped : Bool) (fault : Fault) → IsUnmade stopped fault → IsTrue (refuses_turnover fault)
unmade_refuses stopped fault (inl had) = as_turnover fault _ had.0 refl
unmade_refuses stopped fault (inr (_, inl memory)) = as_turnover fault _ memory refl
unmade_refuses stopped fault (inr (_, inr (inl device))) = as_turnover fault _ device refl
unmade_refuses stopped fault (inr (_, inr (inr spent))) = as_turnover fault _ spent refl

-- it is refused as a turnover may be
pub unmoved_refuses : {D : Type 0} (least beyond : ℕ) (fault : Fault) (old new : PlaceView D) → HasNotMovedIn least beyond fault old new
    → IsTrue (refuses_turnover fault)
unmoved_refuses least beyond fault (Serving old) (Serving new) is = unmade_refuses old.core.stopped fault is.1.1
unmoved_refuses least beyond fault (Serving old) (Resting new) is = as_turnover fault Device is.1 refl
unmoved_refuses least beyond fault (Resting old) new is = absurd is
