-- The first record of a log.
use Rattle.std.proofs.Common.{◌≡◌, ◌≤◌, ℕ, true, false, not, cond, ◌&&◌, ◌<◌, nat_le, [], ◌∷◌, Option, Some, None, refl, sym, ap, subst, ◌∙◌, arith}
use Rattle.std.specs.Prelude.{max}
use Rattle.std.proofs.Math.Bool.{or-false}
use Rattle.std.proofs.lemmas.Bool.{and_parts, false≢true, ltb-true, leb-true}
use Rattle.std.proofs.lemmas.Bool.Decides.{nat_tests}
use Rattle.std.specs.Prelude.{IsTrue}
use Rattle.std.specs.List.{AllByRecursion, list_all}
use Rattle.units.specs.ById.{IsById}
use Rattle.units.specs.declared.fault.Fault.{Fault}
use Rattle.units.specs.declared.setup.Setup.{Setup}
use Rattle.record.specs.Accepted.{belongs}
use Rattle.record.specs.Facts.{TxnStatus, Facts, facts_of, learn}
use Rattle.record.specs.declared.record.Record.{Record}
use Rattle.record.specs.Installs.{installs_of}
use Rattle.facts.specs.Rules.{follows_facts}
use Rattle.facts.specs.Stages.{follows_head, follows_next, stage_after, stage_of}
use Rattle.facts.specs.declared.stage.Stage.{Stage}
use Rattle.facts.specs.declared.stage.Stage.TheVariants.{Head, Open}
use Rattle.frames.specs.Placed.{Placed}
use Rattle.protocol.specs.Rows.{rebuilt}
use Rattle.protocol.proofs.StepSound.{fresh_is_sound}
use Rattle.memory.specs.Kept.{Kept}
use Rattle.protocol.specs.Beside.{fits_facts}
use Rattle.recovery.specs.Recovered.{IsGood, IsOwn, IsRecovered, fault_next, base_in, head_is_bare, is_first}

-- only the first opening or a base may come first
first_follows : (shard : ℕ) (r : Record) → follows_next shard (stage_of []) (facts_of []) r ≡ is_first r
unfolding follows_next follows_facts follows_head facts_of stage_of
first_follows shard (Record.Opened epoch) = or-false _
first_follows shard _ = refl

fits_first : (r : Record) → is_first r ≡ true → fits_facts (facts_of []) r ≡ true
fits_first (Record.Opened epoch) h = refl
fits_first (Record.Base e f n) h = refl
fits_first _ h = absurd (false≢true h)

-- what is first and no base is the first opening
pub first_is : (r : Record) → is_first r ≡ true → base_in r ≡ None → r ≡ Record.Opened 1
first_is (Record.Opened epoch) h other = let one : epoch ≡ 1 = grind (arith, nat_tests) in ap Record.Opened one
first_is (Record.Base e f n) h other = cc
first_is _ h other = absurd (false≢true h)

pub first_facts : facts_of (Record.Opened 1 ∷ []) ≡ learn (facts_of []) (Record.Opened 1)
unfolding facts_of installs_of learn
first_facts = refl

pub learnt_first : (r : Record) → is_first r ≡ true → base_in r ≡ None → facts_of (Record.Opened 1 ∷ []) ≡ learn (facts_of []) r
learnt_first r h other = first_facts ∙ ap (learn (facts_of [])) (sym (first_is r h other))

-- one of this shard, by its place
own_next : (setup : Setup) (stage : Stage) (facts : Facts) (e : Placed) → belongs setup e.item ≡ true
    → fault_next setup stage facts e ≡ cond (follows_next setup.shard stage facts e.item && fits_facts facts e.item) None (Some (Fault.Damaged e.offset))
own_next setup stage facts e own = ap (λ b. cond (not b) (Some Fault.Stranger)
    (cond (follows_next setup.shard stage facts e.item && fits_facts facts e.item) None (Some (Fault.Damaged e.offset)))) own

pub unfollowing_next : (setup : Setup) (stage : Stage) (facts : Facts) (e : Placed) → belongs setup e.item ≡ true →
    follows_next setup.shard stage facts e.item ≡ false →
    fault_next setup stage facts e ≡ Some (Fault.Damaged e.offset)
unfollowing_next setup stage facts e own out = own_next setup stage facts e own
    ∙ ap (λ b. cond (b && fits_facts facts e.item) None (Some (Fault.Damaged e.offset))) out

pub taken_next : (setup : Setup) (stage : Stage) (facts : Facts) (e : Placed) → belongs setup e.item ≡ true →
    follows_next setup.shard stage facts e.item ≡ true →
    fits_facts facts e.item ≡ true
    → fault_next setup stage facts e ≡ None
taken_next setup stage facts e own follows fits =
    own_next setup stage facts e own ∙ ap (λ b. cond (b && fits_facts facts e.item) None (Some (Fault.Damaged e.offset))) follows
    ∙ ap (λ b. cond {A = Option Fault} b None (Some (Fault.Damaged e.offset))) fits

pub first_taken : (setup : Setup) (e : Placed) → belongs setup e.item ≡ true → is_first e.item ≡ true → fault_next setup (stage_of []) (facts_of []) e ≡ None
first_taken setup e own first = taken_next setup (stage_of []) (facts_of []) e own (first_follows setup.shard e.item ∙ first) (fits_first e.item first)

pub first_refused : (setup : Setup) (e : Placed) → belongs setup e.item ≡ true → is_first e.item ≡ false →
    fault_next setup (stage_of []) (facts_of []) e ≡ Some (Fault.Damaged e.offset)
first_refused setup e own other = unfollowing_next setup (stage_of []) (facts_of []) e own (first_follows setup.shard e.item ∙ other)

-- it installs nothing
no_installs : IsTrue (list_all (λ i. nat_le i.at (facts_of (Record.Opened 1 ∷ [])).floor) (facts_of (Record.Opened 1 ∷ [])).installs)
unfolding facts_of
no_installs = (fresh_is_sound 0).installed

-- and what it leaves
pub first_recovered : (k : Kept) → k.facts ≡ facts_of (Record.Opened 1 ∷ []) → k.stage ≡ Open → k.memory ≡ record { last = 0; rows = []; ended = [] } →
    IsRecovered k
unfolding facts_of rebuilt
first_recovered k facts stage memory = record {
  memory = memory ∙ ap rebuilt (sym facts);
  opened = subst (λ (f : Facts). 0 < f.epoch) (sym facts) (omega arith);
  good = subst (λ (f : Facts). AllByRecursion (IsGood f) f.entries) (sym facts) tt;
  covered = subst (λ (f : Facts). IsTrue (list_all (λ i. nat_le i.at f.floor) f.installs)) (sym facts) no_installs;
  horizon = subst (λ (f : Facts). f.horizon ≤ f.floor) (sym facts) (omega arith);
  order = subst (λ (f : Facts). IsById (λ (e : TxnStatus). e.txn) f.entries) (sym facts) tt;
  own = subst (λ (f : Facts). AllByRecursion IsOwn f.entries) (sym facts) tt;
  bare = subst (λ (s : Stage). head_is_bare s k.facts.entries ≡ true) (sym stage)
      (subst (λ (f : Facts). head_is_bare Open f.entries ≡ true) (sym facts) refl);
}

-- ---- a base

none_last : (f : ℕ) → f ≡ max 0 f
none_last f = omega arith

under : (n f : ℕ) → n ≤ f → max 0 n ≤ max 0 f
under n f low = omega (arith, low)

pub base_recovered : (k : Kept) (e f n : ℕ) → is_first (Record.Base e f n) ≡ true → k.facts ≡ learn (facts_of []) (Record.Base e f n) → k.stage ≡ Head →
    k.memory ≡ record { last = f; rows = []; ended = [] } → IsRecovered k
unfolding facts_of installs_of rebuilt learn
base_recovered k e f n first facts stage memory =
    let p = and_parts _ _ first in
    record {
      memory = memory ∙ ap (λ m. record { last = m; rows = []; ended = [] }) (none_last f) ∙ ap rebuilt (sym facts);
      opened = subst (λ (g : Facts). 0 < g.epoch) (sym facts) (ltb-true 0 e p.0);
      good = subst (λ (g : Facts). AllByRecursion (IsGood g) g.entries) (sym facts) tt;
      covered = subst (λ (g : Facts). IsTrue (list_all (λ i. nat_le i.at g.floor) g.installs)) (sym facts) refl;
      horizon = subst (λ (g : Facts). g.horizon ≤ g.floor) (sym facts) (under n f (leb-true n f p.1));
      order = subst (λ (g : Facts). IsById (λ (e : TxnStatus). e.txn) g.entries) (sym facts) tt;
      own = subst (λ (g : Facts). AllByRecursion IsOwn g.entries) (sym facts) tt;
      bare = subst (λ (s : Stage). head_is_bare s k.facts.entries ≡ true) (sym stage)
          (subst (λ (g : Facts). head_is_bare Head g.entries ≡ true) (sym facts) refl);
    }

pub base_is : (r : Record) (e f n : ℕ) → base_in r ≡ Some (e, f, n) → r ≡ Record.Base e f n
base_is (Record.Base x y z) e f n is = (let same : (x, y, z) ≡ (e, f, n) = cc in ap (λ (q : ℕ × ℕ × ℕ). Record.Base q.0 q.1 q.2) same)
base_is _ e f n is = cc

pub base_stage : (e f n : ℕ) → Head ≡ stage_after (stage_of []) (Record.Base e f n)
unfolding stage_of
base_stage e f n = refl
