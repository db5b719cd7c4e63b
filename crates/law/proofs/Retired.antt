-- Ids that a log retired: nothing of them stands, and nothing of them comes any more.
use Rattle.std.specs.List.{list_any}
use Rattle.std.proofs.Common.{◌≡◌, Bool, true, false, not, cond, ◌||◌, List, [], ◌∷◌, ◌++◌, Option, Some, None, refl, sym, ap, subst, ◌∙◌, append_assoc}
use Rattle.std.proofs.lemmas.List.{append-nil}
use Rattle.units.specs.Ids.{Id, same_id, older, ids_once}
use Rattle.units.specs.Lists.{gather}
use Rattle.units.specs.declared.setup.Setup.{Setup}
use Rattle.units.proofs.Folds.{gather_append}
use Rattle.units.proofs.IdLaws.{same_id-is, same_id-refl, older-trans}
use Rattle.units.proofs.IdOrder.{any_once}
use Rattle.record.specs.Accepted.{Accepted, taken, fits_beside, ids_standing, rises, standing_id}
use Rattle.record.specs.Records.{Ended, Status, Unrecorded, StandsPrepared, StandsDecided, as_retired, id_in, ids_of}
use Rattle.record.specs.Records.{committed_of, ended_of, is_aborted, is_below, last_id, prepared_of, retired_of, status_by, status_of, status_written}
use Rattle.record.specs.declared.record.Committed.{Committed}
use Rattle.record.specs.declared.record.Prepared.{Prepared}
use Rattle.record.specs.declared.record.Record.{Record}
use Rattle.record.specs.declared.record.Record.TheVariants.{Opened, Ceiling, Prepare, Commit, Abort, Outcome, Horizon, Base, Version, Settled, Closed, Retired}
use Rattle.record.proofs.Sound.{prepare_kept, commit_kept, abort_kept, settled_kept, closed_kept, outcome_kept}
use Rattle.record.proofs.Statuses.{status_same}
use Rattle.law.specs.Among.{IsAmong}
use Rattle.law.proofs.Accepts.{IsTakenAfter, each_at, each_taken}
use Rattle.law.proofs.Logged.{AreLogged}
use Rattle.law.proofs.Members.{among_left, some_passes}
use Rattle.law.proofs.Picked.{any_of, gather_among}
use Rattle.law.proofs.Resolved.{committed_is, prepared_is}

-- the status of an id that is not retired is that which was written
pub written_is : (log : List Record) (t : Id) → is_below (retired_of log) t ≡ false → status_of log t ≡ status_written log t
unfolding status_of
written_is log t kept = ap (λ b. cond b Unrecorded (status_written log t)) kept

-- who is below an id is below each later one
pub below_more : (former : Option Id) (below t : Id) → rises former below ≡ true → is_below former t ≡ true → older t below ≡ true
below_more None below t up gone = cc
below_more (Some f) below t up gone = older-trans t f below gone up

-- a promise or a decision stands
abbrev pub is_standing : Status → Bool
is_standing (StandsPrepared p) = true
is_standing (StandsDecided c) = true
is_standing _ = false

-- nothing of a retired id stands
abbrev pub NoneStand : List Record → Type 0
NoneStand log = (t : Id) → is_below (retired_of log) t ≡ true → is_standing (status_written log t) ≡ false

-- ---- one more record

true_false : {b : Bool} → b ≡ true → b ≡ false → ⊥
true_false p q = let z : true ≡ false = sym p ∙ q in cc

-- one that retires nobody
same_retired : (log : List Record) (r : Record) → as_retired r ≡ None → retired_of (log ++ r ∷ []) ≡ retired_of log
same_retired log r none =
    ap (last_id None) (gather_append as_retired log (r ∷ [])
    ∙ ap (λ o. gather as_retired log ++ (elim o as (λ q. List Id) [ None ↦ [] | Some y ↦ y ∷ [] ])) none ∙ append-nil (gather as_retired log))

-- one that does
last_of : (former : Option Id) (ts : List Id) (t : Id) → last_id former (ts ++ t ∷ []) ≡ Some t
last_of former [] t = refl
last_of former (u ∷ ts) t = last_of (Some u) ts t

now_retired : (log : List Record) (below : Id) → retired_of (log ++ Retired below ∷ []) ≡ Some below
now_retired log below = ap (last_id None) (gather_append as_retired log (Retired below ∷ [])) ∙ last_of None (gather as_retired log) below

-- a record about another id, or about none, changes nothing
of_others : (log : List Record) (r : Record) (t : Id) → as_retired r ≡ None → list_any (same_id t) (gather id_in (r ∷ [])) ≡ false → NoneStand log →
    is_below (retired_of (log ++ r ∷ [])) t ≡ true → is_standing (status_written (log ++ r ∷ []) t) ≡ false
of_others log r t none apart old gone =
    ap is_standing (status_same log r t apart) ∙ old t (ap (λ o. is_below o t) (sym (same_retired log r none)) ∙ gone)

-- a record about an id that is not retired
of_kept : (log : List Record) (r : Record) (u t : Id) → as_retired r ≡ None → gather id_in (r ∷ []) ≡ u ∷ [] → is_below (retired_of log) u ≡ false →
    NoneStand log → is_below (retired_of (log ++ r ∷ [])) t ≡ true → is_standing (status_written (log ++ r ∷ []) t) ≡ false
of_kept log r u t none about kept old gone = by_test (same_id t u) refl
  where
    here : is_below (retired_of log) t ≡ true
    here = ap (λ o. is_below o t) (sym (same_retired log r none)) ∙ gone

    by_test : (b : Bool) → same_id t u ≡ b → is_standing (status_written (log ++ r ∷ []) t) ≡ false
    by_test true same = absurd (true_false here (ap (is_below (retired_of log)) (same_id-is t u same) ∙ kept))
    by_test false apart = of_others log r t none (ap (list_any (same_id t)) about ∙ ap (λ b. b || false) apart) old gone

module _ (log : List Record) (logged : AreLogged log) where
  about_there : (r : Record) (t : Id) → IsAmong log r → id_in r ≡ Some t → IsAmong (ids_of log) t
  about_there r t h about =
      let there = gather_among id_in log r t h about in
      let p = some_passes (ids_once (gather id_in log)) (same_id t) (any_once t (gather id_in log)
      ∙ any_of (same_id t) (gather id_in log) t there (same_id-refl t)) in
      subst (λ u. IsAmong (ids_of log) u) (sym (same_id-is t p.member p.passes)) p.among

  -- who stands is listed
  stands_listed : (t : Id) → is_standing (status_written log t) ≡ true → (standing_id (status_written log t) ≡ Some t) × IsAmong (ids_of log) t
  unfolding status_written
  stands_listed t h = by_parts (is_aborted log t) (committed_of log t) refl (prepared_of log t) refl (ended_of log t) h
    where
      by_parts : (a : Bool) (c : Option Committed) → committed_of log t ≡ c → (p : Option Prepared) → prepared_of log t ≡ p → (e : Option Ended) →
          is_standing (status_by a c p e) ≡ true → (standing_id (status_by a c p e) ≡ Some t) × IsAmong (ids_of log) t
      by_parts true c hc p hp e k = cc
      by_parts false (Some c) hc p hp (Some e) k = cc
      by_parts false (Some c) hc p hp None k =
          let i = committed_is log logged t c hc in (ap (λ u. Some u) i.1, about_there (Commit c) t i.0 (ap (λ u. Some u) i.1))
      by_parts false None hc (Some p) hp (Some e) k = cc
      by_parts false None hc (Some p) hp None k =
          let i = prepared_is log logged t p hp in (ap (λ u. Some u) i.1, about_there (Prepare p) t i.0 (ap (λ u. Some u) i.1))
      by_parts false None hc None hp e k = cc

  -- nobody stands whose id is below one that is retired
  retires_none : (below t : Id) → fits_beside log (Retired below) ≡ true → older t below ≡ true → is_below (retired_of log) t ≡ false →
      is_standing (status_written log t) ≡ false
  unfolding fits_beside
  retires_none below t fits under kept = by_test (is_standing (status_written log t)) refl
    where
      by_test : (b : Bool) → is_standing (status_written log t) ≡ b → b ≡ false
      by_test false h = refl
      by_test true h =
          let s = stands_listed t h in
          let among : IsAmong (ids_standing log) t = gather_among (λ u. standing_id (status_of log u)) (ids_of log) t t s.1
          (ap standing_id (written_is log t kept) ∙ s.0) in
          let above : not (older t below) ≡ true = each_at (λ u. not (older u below)) (ids_standing log) t fits among in
          let z : false ≡ true = sym (ap not under) ∙ above in cc

one_more : (setup : Setup) (log : List Record) (r : Record) → AreLogged log → IsTakenAfter setup log r → NoneStand log → NoneStand (log ++ r ∷ [])
one_more setup log (Retired below) logged k old t gone =
    ap is_standing (status_same log (Retired below) t refl) ∙ by_test (is_below (retired_of log) t) refl
  where
    by_test : (b : Bool) → is_below (retired_of log) t ≡ b → is_standing (status_written log t) ≡ false
    by_test true h = old t h
    by_test false h = retires_none log logged below t k.fits (ap (λ o. is_below o t) (sym (now_retired log below)) ∙ gone) h
one_more setup log (Opened epoch) logged k old t gone = of_others log (Opened epoch) t refl refl old gone
one_more setup log (Ceiling at) logged k old t gone = of_others log (Ceiling at) t refl refl old gone
one_more setup log (Horizon at) logged k old t gone = of_others log (Horizon at) t refl refl old gone
one_more setup log (Base epoch floor horizon) logged k old t gone = of_others log (Base epoch floor horizon) t refl refl old gone
one_more setup log (Version install) logged k old t gone = of_others log (Version install) t refl refl old gone
one_more setup log (Prepare p) logged k old t gone = of_kept log (Prepare p) p.txn t refl refl (prepare_kept setup.shard log p k.follows) old gone
one_more setup log (Commit c) logged k old t gone = of_kept log (Commit c) c.txn t refl refl (commit_kept setup.shard log c k.follows) old gone
one_more setup log (Abort u) logged k old t gone = of_kept log (Abort u) u t refl refl (abort_kept setup.shard log u k.follows) old gone
one_more setup log (Outcome u o) logged k old t gone = of_kept log (Outcome u o) u t refl refl (outcome_kept setup.shard log u o k.follows) old gone
one_more setup log (Settled u at parts) logged k old t gone =
    of_kept log (Settled u at parts) u t refl refl (settled_kept setup.shard log u at parts k.follows) old gone
one_more setup log (Closed u coordinator outcome) logged k old t gone =
    of_kept log (Closed u coordinator outcome) u t refl refl (closed_kept setup.shard log u coordinator outcome k.follows) old gone

-- ---- a log that is taken

module _ (setup : Setup) (log : List Record) (accepted : taken setup log ≡ Accepted) (logged : AreLogged log) where
  from : (front rest : List Record) → log ≡ front ++ rest → NoneStand front → NoneStand log
  from front [] e none = subst NoneStand (sym (e ∙ append-nil front)) none
  from front (r ∷ rest) e none =
      from (front ++ r ∷ []) rest (e ∙ sym (append_assoc front (r ∷ []) rest)) (one_more setup front r
      (λ q h. logged q (subst (λ l. IsAmong l q) (sym e) (among_left front (r ∷ rest) q h)))
      (each_taken setup front r rest (subst (λ l. taken setup l ≡ Accepted) e accepted)) none)

  pub none_stand : NoneStand log
  none_stand = from [] log refl (λ t gone. cc)
