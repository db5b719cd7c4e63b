-- The records of a run are of the kinds that steps log.
use Rattle.std.proofs.Common.{◌≡◌, inl, inr, ℕ, Bool, true, false, ◌&&◌, List, [], ◌∷◌, refl, sym, ap, ◌∙◌}
use Rattle.record.specs.declared.record.Record.{Record}
use Rattle.record.specs.declared.record.Record.TheVariants.{Base, Version, Settled, Closed}
use Rattle.law.specs.Among.{IsAmong}
use Rattle.law.specs.Evidence.{Scene, RecordEvidence}
use Rattle.world.proofs.StepKinds.{are_logged, is_logged}

-- each record of a log is of such a kind
abbrev pub AreLogged : List Record → Type 0
AreLogged log = (r : Record) → IsAmong log r → is_logged r ≡ true

pub each_logged : (log : List Record) → are_logged log ≡ true → AreLogged log
each_logged [] all r k = absurd k
each_logged (q ∷ qs) all r k = by_first (is_logged q) refl all k (λ rest later. each_logged qs rest r later)
  where
    by_first : (b : Bool) → is_logged q ≡ b → (b && are_logged qs) ≡ true → IsAmong (q ∷ qs) r → (are_logged qs ≡ true → IsAmong qs r → is_logged r ≡ true) →
        is_logged r ≡ true
    by_first true first rest (inl same) more = sym (ap is_logged same) ∙ first
    by_first true first rest (inr later) more = more rest later
    by_first false first rest j more = cc

-- a record that something stands behind is
pub rests_logged : (sc : Scene) (log : List Record) (n : ℕ) (r : Record) → RecordEvidence sc log n r → is_logged r ≡ true
rests_logged sc log n (Base epoch floor horizon) e = absurd e
rests_logged sc log n (Version install) e = absurd e
rests_logged sc log n (Settled t at parts) e = absurd e
rests_logged sc log n (Closed t coordinator outcome) e = absurd e
rests_logged sc log n _ e = refl
