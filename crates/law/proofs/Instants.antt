-- What holds of a lawful run at each moment: of its world, and of the logs that a crash may leave there.
use Rattle.std.specs.List.{list_all}
use Rattle.std.proofs.Common.{◌≡◌, inl, inr, ℕ, suc, ◌<◌, ◌≤◌, true, ◌&&◌, nat_lt, nat_le, List, [], ◌∷◌, ◌++◌, Option, Some, None, slice_get, refl}
use Rattle.std.proofs.Common.{sym, ap, subst, ◌∙◌, arith, flat_map}
use Rattle.std.proofs.lemmas.Bool.{leb-true, and_parts}
use Rattle.std.proofs.lemmas.Bool.Decides.{nat_tests}
use Rattle.units.specs.Lists.{gather}
use Rattle.units.specs.Ids.{Id}
use Rattle.units.specs.declared.line.Line.{Line}
use Rattle.units.specs.declared.writes.Install.{Install}
use Rattle.units.specs.declared.writes.Write.{Write}
use Rattle.units.specs.Versions.{versions}
use Rattle.record.specs.Installs.{installs_of, installed_by, writes_by}
use Rattle.record.specs.Records.{as_ended, as_version, committed_of, prepared_of}
use Rattle.record.specs.Serially.{OrderedByTime}
use Rattle.record.specs.Lines.{IsLine}
use Rattle.record.specs.declared.record.Record.{Record}
use Rattle.world.specs.World.{World, ShardNow, run, run_from, start, happens}
use Rattle.world.specs.Lawful.{lawful, lawful_from, may_happen, may_act}
use Rattle.world.specs.Headline.{AllOrNothing, KeepsAcknowledged, MayBeLeft, MayLeaveLogs, MayLeaveWithin, doing_of}
use Rattle.law.specs.TimeLaws.{InstalledInThePast, installed_before}
use Rattle.world.specs.declared.event.Config.{Config}
use Rattle.world.specs.declared.event.Event.{Event}
use Rattle.law.specs.Among.{IsAmong}
use Rattle.law.specs.Evidence.{Scene, AckEvidence, Holds}
use Rattle.law.specs.Left.{AreLeft}
use Rattle.world.specs.Steady.{IsSteady}
use Rattle.world.proofs.EveryRun.{is_steady}
use Rattle.law.proofs.Logged.{AreLogged, rests_logged}
use Rattle.law.proofs.Members.{among_cases}
use Rattle.law.proofs.Recorded.{none_listed, outcome_among}
use Rattle.law.proofs.Doings.{get_among}
use Rattle.law.proofs.Every.{AsksFor, RunEvidence, begun_at, asked_now, every_run_holds, tick_holds, present_now, rises_now}
use Rattle.law.proofs.InHistory.{acknowledged, ordered}
use Rattle.law.proofs.Lefts.{left_between, left_within}
use Rattle.law.proofs.AllWhole.{whole}
use Rattle.law.proofs.Resolved.{resolves}
use Rattle.law.proofs.Picked.{each_of, among_join, Joined}

-- logs that a crash may leave of a world, in a scene in which something stands behind all that there is
pub record Moment (w : World) (logs : List (List Record)) : Type 1 where
  pub scene : Scene
  pub same : scene.world ≡ w
  pub holds : Holds scene
  pub rises : (i j a b : ℕ) → i ≤ j → slice_get scene.times i ≡ Some a → slice_get scene.times j ≡ Some b → a ≤ b
  pub left : AreLeft scene logs

-- the last of some events may happen after the others
pub last_may : (w : World) (es : List Event) (e : Event) → lawful_from w (es ++ e ∷ []) ≡ true → may_happen (run_from w es) e ≡ true
last_may w [] e h = (and_parts (may_happen w e) true h).0
last_may w (x ∷ xs) e h = last_may ((happens w x).0) xs e (and_parts (may_happen w x) (lawful_from ((happens w x).0) (xs ++ e ∷ [])) h).1

pub moment : (config : Config) (es : List Event) (logs : List (List Record)) → lawful config es ≡ true → MayBeLeft config es logs → Moment (run config es) logs
unfolding run lawful
moment config es logs fair (inl may) =
    let r = every_run_holds is_steady config es fair in
    let steady = subst IsSteady (sym r.same) (is_steady config es fair) in
    record {
      scene = r.scene;
      same = r.same;
      holds = r.holds;
      rises = r.clock.rises;
      left = left_between r.scene r.holds steady logs (subst (λ (w : World). MayLeaveLogs w.shards logs) (sym r.same) may);
    }
moment config es logs fair (inr within) =
    let r = every_run_holds is_steady config es fair in
    let steady = subst IsSteady (sym r.same) (is_steady config es fair) in
    let e = within.0 in
    let n = within.1 in
    let doing = within.2 in
    let may = subst (λ (w : World). may_happen w e ≡ true) (sym r.same) (last_may (start config) es e within.3) in
    let p = and_parts (nat_le r.scene.world.time e.time) (may_act r.scene.world e.time e.act) may in
    let from : r.scene.world.time ≤ e.time = leb-true _ _ p.0 in
    let time = r.clock.time in
    let later : r.scene.now ≤ e.time = omega (arith, from, time) in
    let more = AsksFor r.scene.world e in
    let begun = tick_holds r.scene e.time more r.holds r.clock later in
    let sc : Scene = begun_at r.scene e in
    record {
      scene = sc;
      same = r.same;
      holds = begun;
      rises = rises_now r.scene e.time more r.holds r.clock later;
      left = left_within sc begun steady (present_now r.scene e.time more r.holds r.clock later) e.act n doing logs p.1 (asked_now r.scene e)
          (subst (λ (w : World). doing_of w e.act ≡ Some (n, doing)) (sym r.same) within.4)
          (subst (λ (w : World). MayLeaveWithin w n doing n w.shards logs) (sym r.same) within.5);
    }

-- ---- whole

pub all_or_nothing : (config : Config) (es : List Event) (logs : List (List Record)) → lawful config es ≡ true → MayBeLeft config es logs → AllOrNothing logs
all_or_nothing config es logs fair may t =
    let m = moment config es logs fair may in (whole m.scene m.holds logs m.left t, resolves m.scene m.holds logs m.left t)

-- ---- what was acknowledged, and its order

pub keeps_acknowledged : (config : Config) (es : List Event) (logs : List (List Record)) → lawful config es ≡ true → MayBeLeft config es logs →
    KeepsAcknowledged logs (run config es).lines
keeps_acknowledged config es logs fair may t at n line =
    let m = moment config es logs fair may in (
      acknowledged m.scene m.holds logs m.left t at n (subst (λ (w : World). IsLine w.lines (Line.Ack t at n)) (sym m.same) line),
      whole m.scene m.holds logs m.left t,
    )

pub ordered_by_time : (config : Config) (es : List Event) (logs : List (List Record)) → lawful config es ≡ true → MayBeLeft config es logs →
    OrderedByTime logs (run config es).lines
ordered_by_time config es logs fair may =
    let m = moment config es logs fair may in
    subst (λ (w : World). OrderedByTime logs w.lines) m.same (ordered m.scene m.holds logs m.left m.rises)

-- ---- true time

pub installed_in_the_past : InstalledInThePast
unfolding installs_of
installed_in_the_past config es fair =
    let r = every_run_holds is_steady config es fair in
    subst (λ (w : World). list_all (installed_before w.time) w.shards ≡ true) r.same (each_place r.scene.world.time r.scene.world.shards
    (λ n s there. by_shard r n s there))
  where
    each_place : (time : ℕ) (ss : List ShardNow) → ((n : ℕ) (s : ShardNow) → slice_get ss n ≡ Some s → installed_before time s ≡ true) →
        list_all (installed_before time) ss ≡ true
    each_place time [] k = refl
    each_place time (s ∷ ss) k = ap (λ b. b && list_all (installed_before time) ss) (k 0 s refl) ∙ each_place time ss (λ n x e. k (suc n) x e)

    version_stamp : (ws : List Write) (s : ℕ) (i : Install) → IsAmong (versions ws s) i → i.at ≡ s
    version_stamp [] s i h = absurd h
    version_stamp (w ∷ ws) s i (inl same) = sym (ap (λ (x : Install). x.at) same)
    version_stamp (w ∷ ws) s i (inr later) = version_stamp ws s i later

    less : (a b : ℕ) → a < b → nat_lt a b ≡ true
    less a b k = grind (arith, nat_tests)

    by_shard : {w : World} (r : RunEvidence w) (n : ℕ) (s : ShardNow) → slice_get r.scene.world.shards n ≡ Some s → installed_before r.scene.world.time s ≡ true
    by_shard r n s there = each_of (λ i. nat_lt i.at r.scene.world.time) (installs_of s.log)
        (λ i k. elim (among_cases (gather as_version s.log) (flat_map (installed_by s.log) (gather as_ended s.log)) i k) [
          | inl listed ↦ absurd (none_listed s.log of_steps i listed)
          | inr made ↦ from_join i (among_join (installed_by s.log) (gather as_ended s.log) i made)
        ])
      where
        of_steps : AreLogged s.log
        of_steps q h = rests_logged r.scene s.log n q ((r.holds.shards n s there).records q h)

        by_outcome : (t : Id) (o : Option ℕ) (i : Install) → IsAmong s.log (Record.Outcome t o) →
            IsAmong (elim o as (λ x. List Install) [ None ↦ [] | Some at ↦ versions (writes_by (committed_of s.log t) (prepared_of s.log t)) at ]) i →
            nat_lt i.at r.scene.world.time ≡ true
        by_outcome t None i logged k = absurd k
        by_outcome t (Some at) i logged k =
            let passed = ((r.holds.shards n s there).records (Record.Outcome t (Some at)) logged).0 in
            let stamp = version_stamp (writes_by (committed_of s.log t) (prepared_of s.log t)) at i k in
            let time = r.clock.time in
            less i.at r.scene.world.time (omega (arith, passed, stamp, time))

        from_join : (i : Install) → Joined (installed_by s.log) (gather as_ended s.log) i → nat_lt i.at r.scene.world.time ≡ true
        from_join i j = by_outcome j.from.txn j.from.outcome i (outcome_among s.log of_steps j.from j.among) j.within

-- a beginning of lawful events is lawful
pub lawful_front : (w : World) (es more : List Event) → lawful_from w (es ++ more) ≡ true → lawful_from w es ≡ true
lawful_front w [] more h = refl
lawful_front w (x ∷ xs) more h =
    let p = and_parts (may_happen w x) (lawful_from ((happens w x).0) (xs ++ more)) h in
    ap (λ b. b && lawful_from ((happens w x).0) xs) p.0 ∙ lawful_front ((happens w x).0) xs more p.1

-- the timestamp of an acknowledgement is below the true time of each later event
pub acknowledged_before : (config : Config) (es : List Event) (e : Event) (t : Id) (s m : ℕ) → lawful config (es ++ e ∷ []) ≡ true →
    IsLine (run config es).lines (Line.Ack t s m) → s < e.time
unfolding run lawful
acknowledged_before config es e t s m fair line =
    let r = every_run_holds is_steady config es (lawful_front (start config) es (e ∷ []) fair) in
    let there : IsLine r.scene.world.lines (Line.Ack t s m) = subst (λ (w : World). IsLine w.lines (Line.Ack t s m)) (sym r.same) line in
    let ack : AckEvidence r.scene t s m = r.holds.lines (Line.Ack t s m) (get_among r.scene.world.lines there.0 (Line.Ack t s m) there.1) in
    let may = last_may (start config) es e fair in
    let from : (run config es).time ≤ e.time = leb-true _ _ (and_parts (nat_le (run config es).time e.time) (may_act (run config es) e.time e.act) may).0 in
    let same : r.scene.world.time ≡ (run config es).time = ap (λ (w : World). w.time) r.same in
    let above = ack.above in
    let below = r.clock.below m ack.time ack.timed in
    let clock = r.clock.time in
    omega (arith, above, below, clock, same, from)
