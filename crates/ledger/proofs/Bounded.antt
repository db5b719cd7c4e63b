-- Entries and versions of a log stay below its floor, behind one more record of a step.
use Rattle.std.specs.List.{AllByRecursion}
use Rattle.std.specs.Prelude.{IsTrue}
use Rattle.std.proofs.Common.{◌≡◌, ℕ, ◌≤◌, Bool, true, false, cond, not, max, nat_le, List, [], ◌∷◌, ◌++◌, filter, Option, Some, None, refl, sym, subst, arith}
use Rattle.std.proofs.lemmas.Bool.{and_parts, false≢true}
use Rattle.std.proofs.lemmas.Bool.Decides.{nat_tests}
use Rattle.units.specs.Lists.{head}
use Rattle.units.specs.Ids.{Id, same_id}
use Rattle.units.specs.ById.{IsById}
use Rattle.units.specs.Versions.{versions}
use Rattle.units.specs.declared.writes.Install.{Install}
use Rattle.units.specs.declared.writes.Write.{Write}
use Rattle.units.proofs.ByIdLaws.{by_id-keep, by_id-with, all-with}
use Rattle.units.proofs.IdLaws.{same_id-is}
use Rattle.units.proofs.ListLaws.{all-keep, all_gives}
use Rattle.record.specs.Accepted.{is_kept}
use Rattle.record.specs.Records.{is_below, Status, Unrecorded, StandsPrepared, StandsDecided, HasAborted, HasSettled, HasClosed}
use Rattle.record.specs.Facts.{Facts, TxnStatus, learn, or_unrecorded, recorded, with_status, after_outcome, installs_at}
use Rattle.record.specs.declared.record.Record.{Record}
use Rattle.record.specs.declared.record.Record.TheVariants.{Opened, Ceiling, Prepare, Commit, Abort, Outcome, Horizon, Base, Version, Settled, Closed, Retired}
use Rattle.facts.specs.Rules.{follows_facts, id_follows, is_free, allows}
use Rattle.protocol.specs.Showable.{rises_by_key}
use Rattle.ledger.specs.Keeps.{IsRegular, IsPlaced}
use Rattle.ledger.proofs.Entries.{entry, id_of, with_status-is}

-- what is regular but for the order of versions
pub record IsBounded (facts : Facts) : Type 0 where
  pub order : IsById (λ e. e.txn) facts.entries
  pub placed : AllByRecursion (IsPlaced facts.floor) facts.entries
  pub covered : AllByRecursion (λ i. i.at ≤ facts.floor) facts.installs
  pub under : facts.horizon ≤ facts.floor
  pub kept : AllByRecursion (λ e. IsTrue (is_kept facts.retired e.txn)) facts.entries

pub bounded : (facts : Facts) → IsRegular facts → IsBounded facts
bounded facts r = record { order = r.order; placed = r.placed; covered = r.covered; under = r.under; kept = r.kept }

pub regular : (facts : Facts) → IsBounded facts → rises_by_key [] facts.installs ≡ true → IsRegular facts
regular facts b up = record { order = b.order; placed = b.placed; rising = up; covered = b.covered; under = b.under; kept = b.kept }

-- ---- entries and versions below a floor

raised : (f g : ℕ) (e : TxnStatus) → f ≤ g → IsPlaced f e → IsPlaced g e
raised f g e le p = by_status e.txn e.status p
  where
    by_status : (t : Id) (s : Status) → IsPlaced f (entry t s) → IsPlaced g (entry t s)
    by_status t Unrecorded p = p
    by_status t (StandsPrepared q) p = (p.0, omega (arith, p.1, le))
    by_status t (StandsDecided c) p = (p.0, omega (arith, p.1, le))
    by_status t HasAborted p = tt
    by_status t (HasSettled at ps) p = omega (arith, p, le)
    by_status t (HasClosed c None) p = tt
    by_status t (HasClosed c (Some at)) p = omega (arith, p, le)

-- an id that something is recorded of is not retired
recorded-kept : (r : Option Id) (es : List TxnStatus) (t : Id) (o : Option ℕ) → AllByRecursion (λ (e : TxnStatus). IsTrue (is_kept r e.txn)) es
    → allows (or_unrecorded (head (filter (λ e. same_id e.txn t) es))) o ≡ true → is_kept r t ≡ true
recorded-kept r [] t o all a = absurd (false≢true a)
recorded-kept r (e ∷ es) t o all a = by_test (same_id e.txn t) refl a (recorded-kept r es t o all.1)
  where
    by_test : (b : Bool) → same_id e.txn t ≡ b
        → allows (or_unrecorded (head (cond b (e ∷ filter (λ x. same_id x.txn t) es) (filter (λ x. same_id x.txn t) es)))) o ≡ true
        → (allows (or_unrecorded (head (filter (λ x. same_id x.txn t) es))) o ≡ true → is_kept r t ≡ true) → is_kept r t ≡ true
    by_test true s a rest = subst (λ u. is_kept r u ≡ true) (same_id-is e.txn t s) all.0
    by_test false s a rest = rest a

-- what a test keeps passes it
all-passed : (test : TxnStatus → Bool) (es : List TxnStatus) → AllByRecursion (λ e. IsTrue (test e)) (filter test es)
all-passed test [] = tt
all-passed test (e ∷ es) = by_test (test e) refl (all-passed test es)
  where
    by_test : (b : Bool) → test e ≡ b → AllByRecursion (λ x. IsTrue (test x)) (filter test es)
        → AllByRecursion (λ x. IsTrue (test x)) (cond b (e ∷ filter test es) (filter test es))
    by_test true h rest = (h, rest)
    by_test false h rest = rest

all-append : {A : Type 0} (P : A → Type 0) (a b : List A) → AllByRecursion P a → AllByRecursion P b → AllByRecursion P (a ++ b)
all-append P [] b h k = k
all-append P (x ∷ a) b h k = (h.0, all-append P a b h.1 k)

new-covered : (n at : ℕ) (ws : List Write) → at ≤ n → AllByRecursion (λ (i : Install). i.at ≤ n) (versions ws at)
new-covered n at [] le = tt
new-covered n at (w ∷ ws) le = (le, new-covered n at ws le)

-- facts below their floor, under one that may be higher
module _ (facts : Facts) (b : IsBounded facts) (floor : ℕ) (le : facts.floor ≤ floor) where
  all-raised : AllByRecursion (IsPlaced floor) facts.entries
  all-raised = all_gives (IsPlaced facts.floor) (IsPlaced floor) (λ e p. raised facts.floor floor e le p) facts.entries b.placed

  all-covered : AllByRecursion (λ (i : Install). i.at ≤ floor) facts.installs
  all-covered = all_gives (λ (i : Install). i.at ≤ facts.floor) (λ (i : Install). i.at ≤ floor) (λ i p. omega (arith, p, le)) facts.installs b.covered

  pub raised-bounded : IsBounded (record facts { floor = floor })
  raised-bounded = record { order = b.order; placed = all-raised; covered = all-covered; under = omega (arith, b.under, le); kept = b.kept }

  -- with some versions more
  pub more-bounded : (news : List Install) → AllByRecursion (λ (i : Install). i.at ≤ floor) news
      → IsBounded (record facts { floor = floor; installs = facts.installs ++ news })
  more-bounded news all = record {
    order = b.order;
    placed = all-raised;
    covered = all-append _ facts.installs news all-covered all;
    under = omega (arith, b.under, le);
    kept = b.kept;
  }

  -- with one status more
  pub put-bounded : (t : Id) (s : Status) → is_kept facts.retired t ≡ true → IsPlaced floor (entry t s)
      → IsBounded (record facts { floor = floor; entries = with_status facts.entries t s })
  put-bounded t s here p = record {
    order = subst (IsById id_of) (sym (with_status-is facts.entries t s)) (by_id-with id_of facts.entries (entry t s) b.order);
    placed =
        subst (AllByRecursion (IsPlaced floor)) (sym (with_status-is facts.entries t s)) (all-with (IsPlaced floor) id_of facts.entries
        (entry t s) p all-raised);
    covered = all-covered;
    under = omega (arith, b.under, le);
    kept =
        subst (AllByRecursion (λ (e : TxnStatus). IsTrue (is_kept facts.retired e.txn))) (sym (with_status-is facts.entries t s))
        (all-with (λ (e : TxnStatus). IsTrue (is_kept facts.retired e.txn)) id_of facts.entries (entry t s) here b.kept);
  }

  -- and with both
  pub both-bounded : (t : Id) (s : Status) (news : List Install) → is_kept facts.retired t ≡ true → IsPlaced floor (entry t s) → AllByRecursion (λ (i : Install). i.at ≤ floor) news
      → IsBounded (record facts { floor = floor; entries = with_status facts.entries t s; installs = facts.installs ++ news })
  both-bounded t s news here p all =
      let put = put-bounded t s here p in
      record {
        order = put.order;
        placed = put.placed;
        covered = all-append _ facts.installs news all-covered all;
        under = put.under;
        kept = put.kept;
      }

-- ---- an outcome

-- the rules of one id and of a horizon, of a record that a step logs
pub step-of : (shard : ℕ) (f : Facts) (r : Record) → follows_facts shard f r ≡ true → id_follows shard f r ≡ true
unfolding follows_facts
step-of shard f (Opened e) h = refl
step-of shard f (Base e floor n) h = absurd (false≢true h)
step-of shard f (Version i) h = absurd (false≢true h)
step-of shard f (Settled t at parts) h = absurd (false≢true h)
step-of shard f (Closed t c o) h = absurd (false≢true h)
step-of shard f _ h = (and_parts _ _ h).1

-- what it installs is what stood
ended-bounded : (facts : Facts) (t : Id) (s : Status) (at : ℕ) → IsBounded facts → is_kept facts.retired t ≡ true → allows s (Some at) ≡ true
    → IsBounded (record facts {
      floor =
          max facts.floor at;
      entries = with_status facts.entries t (after_outcome s (Some at));
      installs = facts.installs ++ installs_at s (Some at);
    })
ended-bounded facts t (StandsPrepared p) at b here a =
    both-bounded facts b (max facts.floor at) (omega arith) t (HasClosed p.coordinator (Some at)) (versions p.writes at) here (omega arith)
    (new-covered (max facts.floor at) at p.writes (omega arith))
ended-bounded facts t (StandsDecided c) at b here a =
    let same : c.at ≡ at = grind (arith, nat_tests) in
    both-bounded facts b (max facts.floor at) (omega arith) t (HasSettled c.at c.parts) (versions c.writes at) here (omega (arith, same))
    (new-covered (max facts.floor at) at c.writes (omega arith))
ended-bounded facts t _ at b here a = cc

aborted-bounded : (facts : Facts) (t : Id) (s : Status) → IsBounded facts → is_kept facts.retired t ≡ true → allows s None ≡ true
    → IsBounded (record facts { entries = with_status facts.entries t (after_outcome s None); installs = facts.installs ++ installs_at s None })
aborted-bounded facts t (StandsPrepared p) b here a =
    both-bounded facts b facts.floor (omega arith) t (HasClosed p.coordinator None) [] here tt tt
aborted-bounded facts t _ b here a = cc

-- ---- ids are retired

retired-bounded : (facts : Facts) (below : Id) → IsBounded facts → IsBounded (learn facts (Retired below))
unfolding learn
retired-bounded facts below b =
    let left : TxnStatus → Bool = λ e. not (is_below (Some below) e.txn) in
    record {
      order = by_id-keep id_of left facts.entries b.order;
      placed = all-keep (IsPlaced facts.floor) left facts.entries b.placed;
      covered = b.covered;
      under = b.under;
      kept = all-passed left facts.entries;
    }

-- ---- by the kind of the record

-- an id that is free is not retired
free-kept : (facts : Facts) (t : Id) → is_free facts t ≡ true → is_kept facts.retired t ≡ true
free-kept facts t h = (and_parts _ _ h).1

pub at-most : (n m : ℕ) → nat_le n m ≡ true → n ≤ m
at-most n m h = grind (arith, nat_tests)

pub bounded-stays : (shard : ℕ) (facts : Facts) (r : Record) → IsBounded facts → id_follows shard facts r ≡ true → IsBounded (learn facts r)
unfolding learn
bounded-stays shard facts (Opened e) b f = record { order = b.order; placed = b.placed; covered = b.covered; under = b.under; kept = b.kept }
bounded-stays shard facts (Retired below) b f = retired-bounded facts below b
bounded-stays shard facts (Ceiling at) b f = raised-bounded facts b (max facts.floor at) (omega arith)
bounded-stays shard facts (Horizon at) b f = record {
  order = b.order;
  placed = b.placed;
  covered = b.covered;
  under = omega (arith, b.under, at-most at facts.floor ((and_parts _ _ f).1));
  kept = b.kept;
}
bounded-stays shard facts (Prepare p) b f =
    put-bounded facts b (max facts.floor p.at) (omega arith) p.txn (StandsPrepared p)
    (free-kept facts p.txn ((and_parts _ _ ((and_parts _ _ f).0)).1)) (refl, omega arith)
bounded-stays shard facts (Commit c) b f =
    put-bounded facts b (max facts.floor c.at) (omega arith) c.txn (StandsDecided c)
    (free-kept facts c.txn ((and_parts _ _ ((and_parts _ _ f).0)).1)) (refl, omega arith)
bounded-stays shard facts (Abort t) b f = put-bounded facts b facts.floor (omega arith) t HasAborted (free-kept facts t f) tt
bounded-stays shard facts (Outcome t None) b f =
    aborted-bounded facts t (recorded facts t) b (recorded-kept facts.retired facts.entries t None b.kept f) f
bounded-stays shard facts (Outcome t (Some at)) b f =
    ended-bounded facts t (recorded facts t) at b (recorded-kept facts.retired facts.entries t (Some at) b.kept f) f
bounded-stays shard facts _ b f = absurd (false≢true f)
