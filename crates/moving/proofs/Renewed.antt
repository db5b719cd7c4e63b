-- Logs that are renewed, one after the other.
use Rattle.std.proofs.Common.{◌≡◌, ◌++◌, ◌∷◌, [], refl, sym, subst, ap, ℕ, List, map, take, length, Option, arith}
use Rattle.std.proofs.lemmas.List.{length-append}
use Rattle.disk.specs.File.{File, surface}
use Rattle.node.specs.Renewed.{IsRenewed}
use Rattle.node.specs.declared.renewing.Past.{Past}
use Rattle.moving.specs.Renewals.{AreRenewals}

-- one more renewal
pub renewed_on : {D : Type 0} (past : Option Past) (seen : D → List ℕ) (file : D → File) (logs news after : List D) (log new : D) → after ≡ news ++ new ∷ []
    → AreRenewals past file (map seen logs) news → IsRenewed past (seen log) (surface (file new)) → AreRenewals past file (map seen (logs ++ log ∷ [])) after
renewed_on past seen file logs news after log new is are holds =
    subst (λ (ns : List _). AreRenewals past file (map seen (logs ++ log ∷ [])) ns) (sym is) (go logs news are)
  where
    go : (ds : List _) (ns : List _) → AreRenewals past file (map seen ds) ns → AreRenewals past file (map seen (ds ++ log ∷ [])) (ns ++ new ∷ [])
    go [] [] so = (holds, tt)
    go (d ∷ ds) (n ∷ ns) so = (so.0, go ds ns so.1)
    go [] (n ∷ ns) so = absurd so
    go (d ∷ ds) [] so = absurd so

-- the first of a list, as many as are in front
pub taken_front : {D : Type 0} (front rest : List D) → take (length front) (front ++ rest) ≡ front
taken_front [] rest = refl
taken_front (d ∷ front) rest = ap (λ ds. d ∷ ds) (taken_front front rest)

-- renewals of those in front
pub renewed_front : {D : Type 0} (past : Option Past) (seen : D → List ℕ) (file : D → File) (front rest all news : List D) (n : ℕ) → front ++ rest ≡ all
    → n ≡ length front → AreRenewals past file (map seen front) news → AreRenewals past file (map seen (take n all)) news
renewed_front past seen file front rest all news n is many are =
    subst (λ (ds : List _). AreRenewals past file (map seen (take n ds)) news) is
    (subst (λ k. AreRenewals past file (map seen (take k (front ++ rest))) news) (sym many)
    (subst (λ (ds : List _). AreRenewals past file (map seen ds) news) (sym (taken_front front rest)) are))

-- as many
pub counted_on : {D : Type 0} (logs news after : List D) (log new : D) → after ≡ news ++ new ∷ [] → length news ≡ length logs
    → length after ≡ length (logs ++ log ∷ [])
counted_on logs news after log new is same =
    omega (arith, ap (λ (xs : List _). length xs) is, same, length-append news (new ∷ []), length-append logs (log ∷ []))
