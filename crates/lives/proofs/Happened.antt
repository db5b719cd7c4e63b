-- An event that may happen, when it has happened.
use Rattle.std.proofs.Common.{◌≡◌, inr, ℕ, ◌+◌, true, false, nat_le, Ok, Err, sym, ap, ◌∙◌, subst, arith}
use Rattle.std.proofs.lemmas.Bool.{and_parts}
use Rattle.units.specs.declared.fault.Fault.TheVariants.{BadRequest}
use Rattle.units.specs.declared.fault.Reason.TheVariants.{Unlawful}
use Rattle.world.specs.World.{World, acts, happens}
use Rattle.world.specs.Lawful.{may_act, may_happen}
use Rattle.world.specs.Among.{is_among}
use Rattle.world.specs.Hosts.{Hosts}
use Rattle.world.proofs.Untouched.{same_event}
use Rattle.world.specs.declared.event.Event.{Event}
use Rattle.world.specs.declared.event.Reply.{Reply}
use Rattle.lives.specs.Fleet.{AreShards}
use Rattle.lives.specs.Runs.{ComesAfter, TakesEvent}
use Rattle.lives.specs.declared.run.Run.{Run}

-- an event that may happen has happened
module _ (w : World) (e : Event) (number : ℕ) (at : w.event ≡ number) where
  pub happened : (mid new : Run) (reply : Reply) → may_happen w e ≡ true → ComesAfter (acts w e.act) mid (Ok reply) →
      new.sessions ≡ mid.sessions → new.shards ≡ mid.shards
      → new.output.bag ≡ mid.output.bag → new.output.told ≡ mid.output.told → new.output.lines ≡ mid.output.lines → new.output.event ≡ number + 1 →
      new.time ≡ e.time → TakesEvent w e new (Ok reply)
  unfolding happens
  happened mid new reply may comes sessions shards bag told lines event time =
      let after : World = (acts w e.act).0 in
      let h = comes.1 in
      let same = same_event w e.act in (
        may,
        (
          comes.0,
          record {
            sessions = subst (λ s. Hosts after.config.splits s after.clients) (sym sessions) h.sessions;
            shards = subst (λ s. AreShards after.config s after.shards) (sym shards) h.shards;
            output = record {
              bag = bag ∙ h.output.bag;
              told = λ t. ap (λ ids. is_among ids.keys t) told ∙ h.output.told t;
              lines = ap (λ ls. ls.items) lines
                  ∙ h.output.lines;
              event = omega (arith, event, same, at);
            };
            time = time;
          },
        ),
      )

  pub refused_here : (new : Run) → may_happen w e ≡ false → TakesEvent w e new (Err (BadRequest (Unlawful number)))
  refused_here new may = inr (ap (λ n. BadRequest (Unlawful n)) (sym at), may)

  pub acts_may : may_happen w e ≡ true → may_act w e.time e.act ≡ true
  acts_may may = (and_parts (nat_le w.time e.time) (may_act w e.time e.act) may).1
