-- The ghost steps of a growing list. Assumes `Logic`.
use Rattle.std.proofs.Common.{◌≡◌, ℕ, ◌≤◌, Bool, true, false, nat_le, if◌then◌else◌, List, [], ◌∷◌, ◌++◌, map, length, arith, subst}
use Rattle.std.proofs.lemmas.Bool.Decides.{nat_tests}
use Rattle.std.proofs.lemmas.List.{length-map}
use mathlib.Core.List.{IsPrefix}
use seplogic.Ra.Ura.{Ura}
use base.Fraction.{full_share}
use base.Fml.{Lft, Share, Fml, flft, fshr_bor}
use base.Growing.{Least, latest, at_least}
use base.Logic.{ent, sep, ex, guard, emp, via}
use base.Share
use base.Stored.{Gv, Coded}
use ghost.Rules.{Halves}
use types.Growing.{latest_new, latest_grows, latest_shows, latest_bounds, latest_cut, latest_glue, at_least_dup, at_least_join}
use types.Kit.{‵, ◌⊛◌, some, pick, drop, given, ◌$◌, ◌∵◌, !, qed, move, keep, split, learn, check, use1, use2, updating, now, done}
use types.Logic.{Logic, sem}
use types.Owned.{basic}
use types.Tokens.{shr_bor-open, obor_close}
use Rattle.logbook.proofs.Roster.{prefix_out, prefix_in}
use Rattle.growing.specs.Owns.{logs}
use Rattle.growing.proofs.Prefixes.{prefix_self, prefix_shorter}

module _ {M : Type 1} {𝓤 : Ura M} (𝓛 : Logic 𝓤) {E : Type 0} (cv : Coded E) where
  open 𝓛 use {H, A}

  abbrev pub right : ℕ → List E → Share → Fml
  right name entries q = latest logs q name (map cv.code entries)

  abbrev pub past : ℕ → List E → Fml
  past name entries = at_least logs name (map cv.code entries)

  halved : (name : ℕ) (entries : List E) → Halves 𝓤 H A (right name entries)
  halved name entries = record {
    cut = λ q. latest_cut logs 𝓛 q (Share.left q) (Share.right q) name (map cv.code entries) (Share.halves q);
    join = λ q. latest_glue logs 𝓛 q (Share.left q) (Share.right q) name (map cv.code entries) (Share.halves q);
  }

  pub begun : ent 𝓤 (emp 𝓤) (H.⇛ (ex 𝓤 (λ (name : ℕ). sem 𝓛 (right name [] full_share))))
  begun = via 𝓤 _ (latest_new logs 𝓛 []) (basic 𝓛 _)

  pub grown : (name : ℕ) (entries more : List E) → ent 𝓤 (sem 𝓛 (right name entries full_share)) (H.⇛ (sem 𝓛 (right name (entries ++ more) full_share)))
  grown name entries more = via 𝓤 _ (latest_grows logs 𝓛 name (map cv.code entries) (map cv.code (entries ++ more)) (prefix_in cv entries more)) (basic 𝓛 _)

  pub moved_on : (name : ℕ) (entries longer : List E) → IsPrefix entries longer → ent 𝓤 (sem 𝓛 (right name entries full_share))
      (H.⇛ (sem 𝓛 (right name longer full_share)))
  moved_on name entries longer p = subst (λ (l : List E). ent 𝓤 (sem 𝓛 (right name entries full_share)) (H.⇛ (sem 𝓛 (right name l full_share)))) p.1
      (grown name entries p.0)

  pub shown : (name : ℕ) (entries : List E) (κ : Lft) (q : Share) → ent 𝓤 (sep 𝓤 (A.shr_bor κ (right name entries)) (A.lft κ q))
      (H.⇛ (sep 𝓤 (sem 𝓛 (past name entries)) (A.lft κ q)))
  shown name entries κ q = qed 𝓛 (‵ (fshr_bor κ (right name entries)) ∷ ‵ (flft κ q) ∷ []) ∵ updating ! $ shr_bor-open ! tt (halved name entries)
      (λ r. move ! (1 ∷ []) $
      use1 𝓛 (‵ (right name entries r) ⊛ ‵ (past name entries))
      (latest_shows logs 𝓛 r name (map cv.code entries) (map cv.code entries) (logs.same (map cv.code entries))) $ split ! $
      move ! (2 ∷ 0 ∷ []) $ obor_close ! tt $ now ! $ keep ! (2 ∷ 1 ∷ []) $ done !)

  -- of two beginnings of one list the shorter begins the longer
  pub longest : (name : ℕ) (xs ys : List E) (t : Bool) → nat_le (length xs) (length ys) ≡ t
      → ent 𝓤 (sep 𝓤 (sem 𝓛 (past name xs)) (sem 𝓛 (past name ys)))
      (guard 𝓤 (IsPrefix xs (if t then ys else xs) × IsPrefix ys (if t then ys else xs)) (sem 𝓛 (past name (if t then ys else xs))))
  longest name xs ys true is = let le : length xs ≤ length ys = grind (arith, nat_tests) in
      qed 𝓛 (‵ (past name xs) ∷ ‵ (past name ys) ∷ []) ∵ move ! (1 ∷ []) $ use1 𝓛 (‵ (past name ys) ⊛ ‵ (past name ys))
      (at_least_dup logs 𝓛 name (map cv.code ys)) $ split ! $ move ! (2 ∷ 0 ∷ []) $
      use2 𝓛 (some (λ (c : List Gv). given (Least IsPrefix (map cv.code xs) (map cv.code ys) c) (‵ (at_least logs name c))))
      (at_least_join logs 𝓛 name (map cv.code xs) (map cv.code ys)) $ pick ! (λ c. learn ! (λ least. drop ! $
      check ! (
        prefix_out cv xs ys (prefix_shorter (map cv.code xs) (map cv.code ys) c least.0 least.1
            (omega (arith, length-map xs cv.code, length-map ys cv.code))),
        prefix_self ys,
      ) $ done !))
  longest name xs ys false is = let le : length ys ≤ length xs = grind (arith, nat_tests) in
      qed 𝓛 (‵ (past name xs) ∷ ‵ (past name ys) ∷ []) ∵ use1 𝓛 (‵ (past name xs) ⊛ ‵ (past name xs)) (at_least_dup logs 𝓛 name (map cv.code xs)) $
      split ! $ move ! (0 ∷ 2 ∷ []) $
      use2 𝓛 (some (λ (c : List Gv). given (Least IsPrefix (map cv.code xs) (map cv.code ys) c) (‵ (at_least logs name c))))
      (at_least_join logs 𝓛 name (map cv.code xs) (map cv.code ys)) $ pick ! (λ c. learn ! (λ least. drop ! $
      check ! (
        prefix_self xs,
        prefix_out cv ys xs (prefix_shorter (map cv.code ys) (map cv.code xs) c least.1 least.0
            (omega (arith, length-map xs cv.code, length-map ys cv.code))),
      ) $ done !))

  pub under : (name : ℕ) (entries seen : List E) (κ : Lft) (q : Share)
      → ent 𝓤 (sep 𝓤 (A.shr_bor κ (right name entries)) (sep 𝓤 (A.lft κ q) (sem 𝓛 (past name seen)))) (H.⇛ (guard 𝓤 (IsPrefix seen entries) (A.lft κ q)))
  under name entries seen κ q = qed 𝓛 (‵ (fshr_bor κ (right name entries)) ∷ ‵ (flft κ q) ∷ ‵ (past name seen) ∷ []) ∵ updating ! $ shr_bor-open ! tt
      (halved name entries) (λ r. move ! (1 ∷ 2 ∷ []) $
      use2 𝓛 (given (IsPrefix (map cv.code seen) (map cv.code entries)) (‵ (right name entries r) ⊛ ‵ (past name seen)))
      (latest_bounds logs 𝓛 r name (map cv.code entries) (map cv.code seen)) $ learn ! (λ p. split ! $
      move ! (2 ∷ 0 ∷ []) $ obor_close ! tt $ now ! $ check ! (prefix_out cv seen entries p) $ keep ! (1 ∷ []) $ done !))
