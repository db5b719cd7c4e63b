-- Every answered look equals the serial run up to its time, in each log that a crash may leave, then and later.
use Rattle.std.proofs.Common.{◌≡◌, inl, inr, ℕ, suc, ◌≤◌, true, List, [], length, Option, Some, slice_get, refl, sym, subst, ◌∙◌}
use Rattle.std.proofs.Common.{nat_le}
use Rattle.std.proofs.lemmas.Bool.{and_parts}
use Rattle.units.specs.Keys.{Bytes, shard_of}
use Rattle.units.specs.Versions.{at_time}
use Rattle.units.specs.declared.line.Line.{Line}
use Rattle.record.specs.Accepted.{Accepted, taken, belongs}
use Rattle.record.specs.Facts.{facts_of}
use Rattle.record.specs.History.{history, upto}
use Rattle.record.specs.Serially.{LooksSerially}
use Rattle.record.specs.declared.record.Record.{Record}
use Rattle.record.specs.declared.record.Record.TheVariants.{Prepare, Commit}
use Rattle.record.proofs.LearnAgrees.{accepted_follows}
use Rattle.protocol.specs.Rows.{rebuilt}
use Rattle.world.proofs.Along.{along}
use Rattle.world.proofs.Places.{replicated}
use Rattle.law.specs.Among.{IsAmong}
use Rattle.law.specs.Evidence.{Scene, Holds}
use Rattle.world.specs.Headline.{AllAccepted, MayBeLeft}
use Rattle.world.specs.Lawful.{lawful, lawful_from, may_happen, may_act}
use Rattle.law.specs.Left.{AreLeft}
use Rattle.law.specs.Passes.{ShowsView}
use Rattle.world.specs.World.{World, ShardNow, View, setup_of, view_of, fresh_log, fresh_shard, start, run, run_from, happens}
use Rattle.world.specs.declared.event.Config.{Config}
use Rattle.world.specs.declared.event.Event.{Event}
use Rattle.law.proofs.AreasAscend.{AllAscend, always_ascend, sent_ascends, writes_once}
use Rattle.law.proofs.Decisions.{log_in-is, there_in}
use Rattle.law.proofs.Doings.{get_among}
use Rattle.law.proofs.Homes.{log_in, log_logged, evidence}
use Rattle.law.proofs.Instants.{Moment, moment}
use Rattle.law.proofs.Orderly.{orderly}
use Rattle.world.proofs.Sounds.{ActAllowed, acts_sound}
use Rattle.law.proofs.Accepts.{AllWriteOnce, member_taken, one_value}
use Rattle.law.proofs.Changed.{AcksAreLines, Changes, HasShard, Offers, RunsWith, acts_change}
use Rattle.law.proofs.Kept.{IsPresent, IsShown, KeptView, Serves, Shows, present_is_kept, quiet_lower, serves_keeps, serves_opens, shows_follows}
use Rattle.law.proofs.Kept.{shows_logs, shows_opens}
use Rattle.law.proofs.LookedAt.{shows_serially}
use Rattle.world.proofs.EveryRun.{WellWorld, InLimit, IsWell, IsTaken, keeps, opening_keeps, opens, logs, always_well, in_limit, taken_follows}
use Rattle.law.proofs.LeftGood.{left_is_good, recovered}
use Rattle.law.proofs.Picked.{some_same}

-- ---- what holds at every moment

-- an answered look is of a view that is kept
pub record LookKept (config : Config) (w : World) (k : Bytes) (at : ℕ) (x : Option Bytes) : Type 0 where
  pub shard : ℕ
  pub view : View
  pub own : shard_of config.splits k ≡ shard
  pub served : at ≤ view.safe
  pub value : at_time view.installs k at ≡ x
  pub has : HasShard w shard
  pub kept : KeptView shard view w

-- all is well, each view that a shard shows is kept, and so is that of each answered look; each commit that was told has a line
pub record IsKept (config : Config) (w : World) : Type 0 where
  pub settings : w.config ≡ config
  pub well : WellWorld w
  pub views : (n : ℕ) (v : View) → Offers w n v → KeptView n v w
  pub looks : (k : Bytes) (at : ℕ) (x : Option Bytes) → IsAmong w.lines (Line.Look k at x) → LookKept config w k at x
  pub acks : AcksAreLines w.bag w.lines

kept_on : (w : World) (e : Event) (n : ℕ) (v : View) → ActAllowed InLimit w e.act → KeptView n v w → KeptView n v (happens w e).0
unfolding happens
kept_on w e n v limit kept = acts_sound InLimit (Serves n v) (Shows n v) (serves_keeps n v) (serves_opens n v) (shows_follows n v) (shows_logs n v)
    (shows_opens n v) w kept e.act limit

well_on : (w : World) (e : Event) → ActAllowed InLimit w e.act → WellWorld w → WellWorld (happens w e).0
unfolding happens
well_on w e limit well = acts_sound InLimit IsWell IsTaken keeps opens taken_follows logs opening_keeps w well e.act limit

-- the clock changes none of it
pub changes : (w : World) (e : Event) → WellWorld w → may_happen w e ≡ true → Changes w (happens w e).0
unfolding happens
changes w e well may =
    let c = acts_change w well e.time e.act (and_parts (nat_le w.time e.time) (may_act w e.time e.act) may).1 in
    record {
      config = c.config;
      lines = λ l h. c.lines l h;
      acked = λ h. c.acked h;
      has = λ n h. let s = c.has n h in record { shard = s.shard; there = s.there };
      offered = λ n v o. elim (c.offered n v (record { shard = o.shard; there = o.there; shows = o.shows })) [
        | inl old ↦ inl old
        | inr p ↦ inr (record { shard = p.shard; there = p.there; memory = p.memory; runs = p.runs; is = p.is })
      ];
      looked = λ k at x h. c.looked k at x h;
    }

pub event_keeps : (config : Config) (w : World) (e : Event) → may_happen w e ≡ true → IsKept config w → IsKept config (happens w e).0
event_keeps config w e may k =
    let limit = in_limit w e may in
    let well = well_on w e limit k.well in
    let c = changes w e k.well may in
    record {
      settings = c.config ∙ k.settings;
      well = well;
      views = λ n v o. elim (c.offered n v o) [
        | inl old ↦ kept_on w e n v limit (k.views n v old)
        | inr present ↦
            present_is_kept ((happens w e).0) n v well present
      ];
      looks = λ key at x h. elim (c.looked key at x h) [
        | inl old ↦ let l = k.looks key at x old in
            record {
              shard = l.shard;
              view = l.view;
              own = l.own;
              served = l.served;
              value = l.value;
              has = c.has l.shard l.has;
              kept =
                  kept_on w e l.shard l.view limit l.kept;
            }
        | inr new ↦ record {
          shard = new.shard;
          view = new.view;
          own = subst (λ (z : Config). shard_of z.splits key ≡ new.shard) k.settings new.own;
          served = new.served;
          value = new.value;
          has = c.has new.shard (record { shard = new.offers.shard; there = new.offers.there });
          kept = kept_on w e new.shard new.view limit (k.views new.shard new.view new.offers);
        }
      ];
      acks = c.acked k.acks;
    }

-- lines stay
pub lines_stay : (config : Config) (w : World) (es : List Event) → lawful_from w es ≡ true → IsKept config w → (l : Line) → IsAmong w.lines l →
    IsAmong (run_from w es).lines l
lines_stay config w es fair k l h =
    (along (λ v. IsKept config v × IsAmong v.lines l) (λ v e may is. (event_keeps config v e may is.0, (changes v e is.0.well may).lines l is.1)) w es fair
    (k, h)).1

-- ---- the beginning

start_well : (config : Config) → WellWorld (start config)
unfolding run lawful
start_well config = always_well config [] refl

fresh_runs : (v : View) → ShowsView fresh_shard v → RunsWith fresh_shard v
fresh_runs v (inl (inl same)) = record { memory = rebuilt (facts_of fresh_log); runs = refl; is = same }
fresh_runs v (inl (inr none)) = absurd none
fresh_runs v (inr e) = record {
  memory = rebuilt (facts_of fresh_log);
  runs = refl;
  is = some_same
      (view_of (facts_of fresh_log) (rebuilt (facts_of fresh_log))) v e;
}

pub start_present : (config : Config) (n : ℕ) (v : View) → Offers (start config) n v → IsPresent (start config) n v
unfolding start
start_present config n v o =
    let same : fresh_shard ≡ o.shard = replicated (suc (length config.splits)) n o.shard o.there in
    let r : RunsWith o.shard v = subst (λ (s : ShardNow). RunsWith s v) same (fresh_runs v (subst (λ (s : ShardNow). ShowsView s v) (sym same) o.shows)) in
    record { shard = o.shard; there = o.there; memory = r.memory; runs = r.runs; is = r.is }

pub start_kept : (config : Config) → IsKept config (start config)
unfolding start
start_kept config = record {
  settings = refl;
  well = start_well config;
  views = λ n v o. present_is_kept (start config) n v (start_well config) (start_present config n v o);
  looks = λ k at x none. absurd none;
  acks = λ to t s none. absurd none;
}

pub always_kept : (config : Config) (es : List Event) → lawful config es ≡ true → IsKept config (run config es)
unfolding run lawful
always_kept config es fair = along (IsKept config) (event_keeps config) (start config) es fair (start_kept config)

-- ---- each transaction writes a key once

module _ (sc : Scene) (h : Holds sc) (logs : List (List Record)) (left : AreLeft sc logs) (all : AllAscend sc.world) where
  pub all_write_once : (n : ℕ) → AllWriteOnce (log_in logs n)
  all_write_once n = record {
    promises = λ p k. let asked = evidence sc h logs left n (Prepare p) k in
        writes_once p.writes (sent_ascends sc h all p.txn _ (h.messages _ asked.sent));
    decisions = λ c k. let asked = (evidence sc h logs left n (Commit c) k).asked in
        writes_once c.writes (sent_ascends sc h all c.txn _ (h.messages _ asked.sent));
    logged = log_logged sc h logs left n;
  }

-- ---- the logs that a crash may leave

-- a view that is kept is shown by each of them
left_shows : (config : Config) (es : List Event) (ls : List (List Record)) → MayBeLeft config es ls → (n : ℕ) (v : View) → KeptView n v (run config es) →
    (k : ℕ) (log : List Record) → slice_get ls k ≡ Some log → Shows n v (setup_of (run config es).config k) log
left_shows config es ls may n v kept =
    left_is_good InLimit (Serves n v) (Shows n v) (serves_keeps n v) (serves_opens n v) (shows_follows n v) (shows_logs n v)
    (shows_opens n v) config es ls may kept (in_limit (run config es))

module _ (config : Config) (es : List Event) (ls : List (List Record)) (fair : lawful config es ≡ true) (may : MayBeLeft config es ls) where
  m : Moment (run config es) ls
  m = moment config es ls fair may

  accepted : AllAccepted config ls
  accepted = recovered config es ls fair may

  pub owns : (n : ℕ) (r : Record) → IsAmong (log_in ls n) r → belongs (setup_of config n) r ≡ true
  owns n r k = member_taken (setup_of config n) (log_in ls n) r (accepted n (log_in ls n) (there_in ls n r k)) k

  by_view : (k : Bytes) (at : ℕ) (x : Option Bytes) → LookKept config (run config es) k at x → upto (history ls) at k ≡ x
  by_view k at x l =
      let there = m.left.all l.shard l.has.shard (subst (λ (w : World). slice_get w.shards l.shard ≡ Some l.has.shard) (sym m.same) l.has.there) in
      let is : log_in ls l.shard ≡ there.0 = log_in-is ls l.shard there.0 there.1 in
      let taken_there : taken (setup_of config l.shard) (log_in ls l.shard) ≡ Accepted = subst (λ z. taken (setup_of config l.shard) z ≡ Accepted)
      (sym is) (accepted l.shard there.0 there.1) in
      let shown : IsShown (log_in ls l.shard) l.view = subst (λ z. IsShown z l.view) (sym is)
      ((left_shows config es ls may l.shard l.view l.kept l.shard there.0 there.1).shown refl) in
      let all : AllAscend m.scene.world = subst AllAscend (sym m.same) (always_ascend config es fair) in
      shows_serially m.scene m.holds ls m.left config owns l.shard (orderly l.shard (log_in ls l.shard)
      (accepted_follows (setup_of config l.shard) (log_in ls l.shard) taken_there) (log_logged m.scene m.holds ls m.left l.shard))
      (one_value (setup_of config l.shard) (log_in ls l.shard) taken_there (all_write_once m.scene m.holds ls m.left all l.shard))
      at (quiet_lower (log_in ls l.shard) l.view.safe at shown.quiet l.served) k l.own
      ∙ shown.same k at l.served ∙ l.value

  -- every answered look equals the serial run up to its time
  pub looks_serially : LooksSerially ls (run config es).lines
  looks_serially k at x line = by_view k at x ((always_kept config es fair).looks k at x (get_among (run config es).lines line.0 (Line.Look k at x) line.1))
