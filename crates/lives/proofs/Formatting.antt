-- A shard that was formatted, and the first opening of it.
use Rattle.std.specs.List.{list_all}
use Rattle.std.proofs.Common.{◌≡◌, inl, inr, ℕ, IsTrue, List, [], ◌∷◌, Some, None, Ok, Err, refl, sym, ap}
use Rattle.std.proofs.Common.{◌∙◌, subst, arith}
use Rattle.units.specs.Keys.{Bytes}
use Rattle.units.specs.declared.fault.Fault.{Fault}
use Rattle.units.specs.declared.fault.Fault.TheVariants.{Memory}
use Rattle.units.specs.declared.setup.Book.TheVariants.{Off}
use Rattle.units.specs.declared.setup.Setup.{Setup}
use Rattle.disk.specs.File.{surface, crash_leaves}
use Rattle.disk.specs.declared.plan.FailurePlan.{FailurePlan}
use Rattle.disk.proofs.Crashes.{crashed_may, seen_may}
use Rattle.gatelog.specs.Crash.{Begins, Stands}
use Rattle.gatelog.specs.Gates.{first_gate}
use Rattle.gatelog.specs.Log.{log}
use Rattle.gatelog.specs.Slots.{Beginning}
use Rattle.message.specs.declared.message.Envelope.{Envelope}
use Rattle.protocol.specs.Rows.{Memory as Kept, rebuilt}
use Rattle.protocol.specs.Showable.{rises_by_key}
use Rattle.protocol.specs.Step.{Does}
use Rattle.record.specs.Accepted.{Accepted, followed, follows, taken}
use Rattle.record.specs.Facts.{facts_of}
use Rattle.record.specs.Installs.{installs_of}
use Rattle.record.specs.declared.record.Record.{Record}
use Rattle.ledger.specs.Keeps.{IsLasting}
use Rattle.ledger.proofs.Alike.{alike-refl}
use Rattle.shard.specs.Logs.{items_of}
use Rattle.simdisk.specs.State.{disk_file, disk_plan}
use Rattle.simdisk.specs.declared.simdisk.SimDisk.{SimDisk}
use Rattle.world.specs.World.{effect, finished, fresh_shard, step_of_opening, wanted}
use Rattle.world.specs.declared.event.Doing.{Doing}
use Rattle.lives.specs.Carries.{Comes, IsOrderly}
use Rattle.lives.specs.Lives.{HoldsLog, LivesAs}
use Rattle.lives.specs.Shows.{Acts, AreViews, ShowsLife, StandsFor, done_by, is_within}
use Rattle.lives.specs.Spots.{AreOf, line}
use Rattle.lives.specs.Unopened.{unopened_shard}
use Rattle.lives.specs.declared.life.Life.TheVariants.{Down}
use Rattle.lives.specs.declared.run_shard.RunShard.{RunShard}

-- the log of a formatted file is that of the first area, and no slot is open
abbrev pub first_beginning : Beginning
first_beginning = record { at = first_gate; slots = 0 }

-- a formatted disk holds the empty log
holds_none : (disk : SimDisk) → disk_plan disk ≡ FailurePlan.Never → Stands (surface (disk_file disk)) (Ok []) → log (surface (disk_file disk)).seen ≡ Ok []
    → Begins (surface (disk_file disk)) first_beginning → HoldsLog unopened_shard disk
holds_none disk never stands read begins = record {
  never = never;
  read = (ap items_of read, begins (surface (disk_file disk)).seen (seen_may (disk_file disk)));
  left = λ fates.
      let may = crashed_may fates (disk_file disk) in
      (ap items_of (stands (crash_leaves fates (disk_file disk)) may), begins (crash_leaves fates (disk_file disk)) may);
}

of_none : {k : Bytes} → AreOf [] k []
of_none = record {
  each = λ j lt. absurd (omega (arith, lt));
  all = λ p lt same. absurd (omega (arith, lt));
  up = λ j l less lt. absurd (omega (arith, lt));
}

pub formatted_stands : (setup : Setup) (disk : SimDisk) (shard : RunShard) → disk_plan disk ≡ FailurePlan.Never → Stands (surface (disk_file disk)) (Ok [])
    → log (surface (disk_file disk)).seen ≡ Ok [] → Begins (surface (disk_file disk)) first_beginning → shard.setup ≡ setup → shard.life ≡ Down disk
    → shard.installs.items ≡ [] → shard.spots.entries ≡ [] → shard.views.items ≡ [] → StandsFor setup shard unopened_shard
formatted_stands setup disk shard never stands read begins told life installs spots views = record {
  setup_is = told;
  lives = subst (λ l. LivesAs setup unopened_shard l) (sym life) (holds_none disk never stands read begins);
  views = subst (λ vs. AreViews shard.installs.items vs []) (sym views) tt;
  within = (λ i. list_all (is_within (installs i)) (views i));
  spots = λ k. subst (λ is. AreOf is k (line shard.spots.entries k)) (sym installs) (subst (λ es. AreOf [] k (line es k)) (sym spots) of_none);
  shows = subst (ShowsLife shard.installs.items shard.from) (sym life) tt;
}

-- ---- the first opening

-- it logs that it is the first, and finds nothing
pub opens_first : (setup : Setup) → effect setup [] unopened_shard Doing.Open ≡ Does (Some (Record.Opened 1)) (rebuilt (facts_of [])) []
unfolding effect wanted step_of_opening facts_of installs_of
opens_first setup = refl

pub none_taken : (setup : Setup) → taken setup [] ≡ Accepted
unfolding taken
none_taken setup = refl

first_follows : (n : ℕ) → IsTrue (followed n (Record.Opened 1 ∷ []))
unfolding followed follows
first_follows n = refl

some_record : (a b : Record) (m q : Kept) (out more : List Envelope) → Does (Some a) m out ≡ Does (Some b) q more → a ≡ b
some_record a b m q out more e = cc

-- nothing may be renewed
none_lasts : IsLasting (facts_of [])
unfolding facts_of installs_of rises_by_key
none_lasts = record {
  regular = record { order = tt; placed = tt; rising = refl; covered = tt; under = omega arith; kept = tt };
  entries = refl;
}

orderly_first : (setup : Setup) → setup.book ≡ Off → IsOrderly setup unopened_shard (effect setup [] unopened_shard Doing.Open)
orderly_first setup off = record {
  unbooked = off;
  takes = none_taken setup;
  alike = alike-refl (facts_of []);
  lasting = none_lasts;
  follows = λ r memory out is. subst (λ x. IsTrue (followed setup.shard (x ∷ [])))
      (some_record (Record.Opened 1) r (rebuilt (facts_of [])) memory [] out (sym (opens_first setup) ∙ is)) (first_follows setup.shard);
}

-- so it is the fresh shard
pub fresh_is : finished unopened_shard Doing.Open (Some (Record.Opened 1)) (rebuilt (facts_of [])) ≡ fresh_shard
unfolding finished rebuilt facts_of installs_of
fresh_is = refl

pub fresh_stands : (setup : Setup) → setup.book ≡ Off → (new : RunShard) (out : List Envelope) → Acts setup [] unopened_shard None Doing.Open new (Ok out)
    → StandsFor setup new fresh_shard
fresh_stands setup off new out acts = by_answer (subst (λ st. Comes None Doing.Open st (Ok out)
    (StandsFor setup new (done_by unopened_shard None Doing.Open st)))
    (opens_first setup) (acts (orderly_first setup off)))
  where
    by_answer : Comes None Doing.Open (Does (Some (Record.Opened 1)) (rebuilt (facts_of [])) []) (Ok out)
        (StandsFor setup new (finished unopened_shard Doing.Open (Some (Record.Opened 1)) (rebuilt (facts_of [])))) → StandsFor setup new fresh_shard
    by_answer (inl memory) = absurd (cc)
    by_answer (inr k) = subst (StandsFor setup new) fresh_is k.1

-- refused only for memory
pub fresh_refused : (setup : Setup) → setup.book ≡ Off → (new : RunShard) (fault : Fault) → Acts setup [] unopened_shard None Doing.Open new (Err fault)
    → fault ≡ Memory
fresh_refused setup off new fault acts = by_answer (subst (λ st. Comes None Doing.Open st (Err fault)
    (StandsFor setup new (done_by unopened_shard None Doing.Open st)))
    (opens_first setup) (acts (orderly_first setup off)))
  where
    by_answer : Comes None Doing.Open (Does (Some (Record.Opened 1)) (rebuilt (facts_of [])) []) (Err fault)
        (StandsFor setup new (finished unopened_shard Doing.Open (Some (Record.Opened 1)) (rebuilt (facts_of [])))) → fault ≡ Memory
    by_answer (inl memory) = cc
    by_answer (inr k) = absurd (cc)
