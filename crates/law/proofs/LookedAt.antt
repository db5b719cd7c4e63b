-- Where no promise and no decision up to a time stands, what a log shows up to that time is the serial run up to it.
use Rattle.std.proofs.Common.{◌≡◌, ℕ, ◌≤◌, true, nat_le, List, sym, subst, ◌∙◌, arith, filter}
use Rattle.std.proofs.lemmas.Bool.{leb-true}
use Rattle.std.proofs.lemmas.Bool.Decides.{nat_tests}
use Rattle.units.specs.Keys.{Bytes, shard_of}
use Rattle.units.specs.Versions.{at_time}
use Rattle.units.specs.declared.writes.Install.{Install}
use Rattle.units.specs.declared.writes.Write.{Write}
use Rattle.record.specs.Accepted.{belongs}
use Rattle.record.specs.History.{Txn, history, upto}
use Rattle.record.specs.Installs.{installs_of}
use Rattle.record.specs.declared.record.Record.{Record}
use Rattle.record.specs.declared.record.Record.TheVariants.{Prepare, Commit}
use Rattle.world.specs.World.{setup_of}
use Rattle.world.specs.declared.event.Config.{Config}
use Rattle.law.specs.Among.{IsAmong}
use Rattle.law.specs.Evidence.{Scene, Holds}
use Rattle.law.specs.Left.{AreLeft}
use Rattle.law.proofs.Orderly.{IsOrderly}
use Rattle.law.proofs.Picked.{keep_among, kept_passes}
use Rattle.law.proofs.Recorded.{among_keep}
use Rattle.law.proofs.Homes.{log_in}
use Rattle.law.proofs.Quiet.{HasEnd, IsQuiet}
use Rattle.law.proofs.Accepts.{OneValue}
use Rattle.law.proofs.Serial.{Agree, IsInstalled, serial_value}
use Rattle.law.proofs.Standing.{Wrote, installed, written}

le_true : (a b : ℕ) → a ≤ b → nat_le a b ≡ true
le_true a b h = grind (arith, nat_tests)

module _ (sc : Scene) (h : Holds sc) (logs : List (List Record)) (left : AreLeft sc logs) (config : Config)
    (owns : (n : ℕ) (r : Record) → IsAmong (log_in logs n) r → belongs (setup_of config n) r ≡ true) where
  module _ (n : ℕ) (orderly : IsOrderly (log_in logs n)) (one : OneValue (installs_of (log_in logs n))) (at : ℕ) (quiet : IsQuiet (log_in logs n) at)
      (k : Bytes) (own : shard_of config.splits k ≡ n) where
    -- what wrote a key up to the time has its end
    ends : (t : Txn) (w : Write) → t.at ≤ at → (r : Record) → IsAmong (log_in logs n) r → Wrote r t w → IsAmong (log_in logs n) r × HasEnd (log_in logs n) t.txn
    ends t w low (Prepare p) j wrote = (j, subst (HasEnd (log_in logs n)) wrote.0 (quiet.promises p j (let below = wrote.1 in omega (arith, low, below))))
    ends t w low (Commit c) j wrote = (j, subst (HasEnd (log_in logs n)) wrote.0 (quiet.decisions c j (let below = wrote.1 in omega (arith, low, below))))
    ends t w low _ j wrote = absurd wrote

    shown : List Install
    shown = filter (λ (i : Install). nat_le i.at at) (installs_of (log_in logs n))

    agree : Agree (history logs) (λ u. nat_le u.at at) (filter (λ (i : Install). nat_le i.at at) (installs_of (log_in logs n))) k
    agree = record {
      installed = λ t w there passes j key.
          let low = leb-true t.at at passes in
          let v : IsInstalled (installs_of (log_in logs n)) k t.at w.value =
          installed sc h logs left config owns n (log_in logs n) (λ r q. q) orderly t w k there j key own (ends t w low) in
          let stamp = v.stamp in
          record {
            install = v.install;
            among = keep_among (λ (i : Install). nat_le i.at at) (installs_of (log_in logs n)) v.install v.among
                (le_true v.install.at at (omega (arith, low, stamp)));
            key = v.key;
            stamp = stamp;
            value = v.value;
          };
      written = λ i j key.
          let low = leb-true i.at at (kept_passes (λ (q : Install). nat_le q.at at) (installs_of (log_in logs n)) i j) in
          written sc h logs left config owns n (log_in logs n) (λ r q. q) orderly i k (λ u. nat_le u.at at)
          (among_keep (λ (q : Install). nat_le q.at at) (installs_of (log_in logs n)) i j) key
          (λ x stamp. le_true x.at at (omega (arith, low, stamp)));
      once = λ i j hi hj ki kj stamp.
          one i j (among_keep (λ (q : Install). nat_le q.at at) (installs_of (log_in logs n)) i hi)
          (among_keep (λ (q : Install). nat_le q.at at) (installs_of (log_in logs n)) j hj) (ki ∙ sym kj) stamp;
    }

    pub shows_serially : upto (history logs) at k ≡ at_time (installs_of (log_in logs n)) k at
    unfolding upto at_time
    shows_serially = serial_value (history logs) (λ u. nat_le u.at at) (filter (λ (i : Install). nat_le i.at at) (installs_of (log_in logs n))) k agree
